-- The interface for Rattle: the six functions of `server`, whose answers are the model's own.
use Rattle.std.specs.Prelude.{[]}
use Rattle.model.specs.declared.Notice.{Notice}
use Rattle.model.specs.declared.Notice.TheVariants.{Expander3, Ses0}
use Rattle.model.specs.Runs.{Operation, Ask, Event, LinkChange, ReducedFunctionality, Ses, QueryReach}
use Rattle.server.proofs.start
use Rattle.server.proofs.serve
use Rattle.server.proofs.event
use Rattle.server.proofs.link_change
use Rattle.server.proofs.notice
use Rattle.server.proofs.reach_query
use Rattle.calls.specs.Operations.{Said, ToRequest, ToReport, ToEvent, ToNotice, ToQuery, said_number, says_cut, Given}
use Rattle.calls.specs.Runs.{Seen, Asks}
use Rattle.calls.specs.Interface.{CallOf, Interface}

-- the functions that take a shelf, and the one that begins it
pub data ServerCall : Type 0 where
  serve_call : CallOf serve.Kinds.ps serve.Kinds.r serve.Reads.Post → ServerCall
  event_call : CallOf event.Kinds.ps event.Kinds.r event.Reads.Post → ServerCall
  link_change_call : CallOf link_change.Kinds.ps link_change.Kinds.r link_change.Reads.Post → ServerCall
  notice_call : CallOf notice.Kinds.ps notice.Kinds.r notice.Reads.Post → ServerCall
  reach_query_call : CallOf reach_query.Kinds.ps reach_query.Kinds.r reach_query.Reads.Post → ServerCall

abbrev pub ServerStart : Type 0
ServerStart = CallOf start.Kinds.ps start.Kinds.r start.Reads.Post

-- which of the two notices is given
abbrev pub notice_asked : Notice → Operation
notice_asked Expander3 = ReducedFunctionality
notice_asked Ses0 = Ses

unfoldable pub server_seen : ServerCall → Asks Said
server_seen (serve_call c) =
    record {
      before = c.arguments.0.now;
      asked = Ask c.arguments.1.0 c.arguments.1.1.0.now c.arguments.1.1.1.0.now;
      after = c.outcome.lent.0;
      told = ToRequest c.outcome.result;
      buffer = c.outcome.lent.1.1.1.0;
    }
server_seen (event_call c) =
    record {
      before = c.arguments.0.now;
      asked = Event c.arguments.1.0 c.arguments.1.1.0 c.arguments.1.1.1.0;
      after = c.outcome.lent.0;
      told = ToEvent c.outcome.result;
      buffer = [];
    }
server_seen (link_change_call c) =
    record {
      before = c.arguments.0.now;
      asked = LinkChange c.arguments.1.0;
      after = c.outcome.lent.0;
      told = ToReport c.outcome.result;
      buffer = [];
    }
server_seen (notice_call c) =
    record {
      before = c.arguments.0.now;
      asked = notice_asked c.arguments.1.0;
      after = c.outcome.lent.0;
      told = ToNotice;
      buffer = [];
    }
-- the words are lent for reading alone
server_seen (reach_query_call c) =
    record {
      before = c.arguments.0.now;
      asked = QueryReach c.arguments.1.0;
      after = c.arguments.0.now;
      told = ToQuery c.outcome.result;
      buffer = [];
    }

unfoldable pub server_started : ServerStart → Seen Given Said
server_started c =
    record {
      before = c.arguments.0.now;
      asked =
          record {
            number = c.arguments.1.0;
            groups = c.arguments.1.1.0;
            table = c.arguments.1.1.1.0;
            identifier = c.arguments.1.1.1.1.0;
          };
      after = c.outcome.lent.0;
      told = ToReport c.outcome.result;
      buffer = [];
    }

abbrev pub server_interface : Interface
server_interface =
    record {
      Told = Said;
      coded = λ says. says;
      refusal = said_number;
      cut = says_cut;
      Call = ServerCall;
      seen = server_seen;
      Start = ServerStart;
      started = server_started;
    }
