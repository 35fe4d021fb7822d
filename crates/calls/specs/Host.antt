-- The interface for C: the six functions of `host`, and what C reads off the number that it is told (firmware/kinubarsil.h).
use Rattle.std.specs.Prelude.{ℕ, ◌/◌, ◌%◌, Bool, cond, [], eqb}
use Rattle.model.specs.Runs.{Ask, Event, LinkChange, ReducedFunctionality, Ses, QueryReach}
use Rattle.host.specs.Told.{taken_told, event_told, answer_told, reach_told}
use Rattle.host.proofs.smp_start
use Rattle.host.proofs.smp_serve
use Rattle.host.proofs.smp_event
use Rattle.host.proofs.smp_link_change
use Rattle.host.proofs.smp_notice
use Rattle.host.proofs.smp_reach
use Rattle.calls.specs.Operations.{Said, ToRequest, ToReport, ToEvent, ToNotice, ToQuery, Given}
use Rattle.calls.specs.Runs.{Seen, Asks}
use Rattle.calls.specs.Interface.{CallOf, Interface}

-- what the model says, as one number
abbrev pub host_coded : Said → ℕ
host_coded (ToRequest answer) = answer_told answer
host_coded (ToReport taken) = taken_told taken
host_coded (ToEvent answer) = event_told answer
host_coded ToNotice = 0
host_coded (ToQuery reach) = reach_told reach

-- the header's `smp_refused` and `smp_refusal`: bit 31, and then the four low bits
abbrev pub bit31 : ℕ → ℕ
bit31 told = told / 0x80000000

abbrev pub smp_refused : ℕ → Bool
smp_refused told = eqb (bit31 told) 1

abbrev pub smp_refusal : ℕ → ℕ
smp_refusal told = cond (smp_refused told) (told % 0x10) 0

-- the header's `smp_cut`, #104: 1, which no other function tells
abbrev pub smp_cut : ℕ → Bool
smp_cut told = eqb told 1

-- the functions that take a shelf, and the one that begins it
pub data HostCall : Type 0 where
  smp_serve_call : CallOf smp_serve.Kinds.ps smp_serve.Kinds.r smp_serve.Reads.Post → HostCall
  smp_event_call : CallOf smp_event.Kinds.ps smp_event.Kinds.r smp_event.Reads.Post → HostCall
  smp_link_change_call : CallOf smp_link_change.Kinds.ps smp_link_change.Kinds.r smp_link_change.Reads.Post → HostCall
  smp_notice_call : CallOf smp_notice.Kinds.ps smp_notice.Kinds.r smp_notice.Reads.Post → HostCall
  smp_reach_call : CallOf smp_reach.Kinds.ps smp_reach.Kinds.r smp_reach.Reads.Post → HostCall

abbrev pub HostStart : Type 0
HostStart = CallOf smp_start.Kinds.ps smp_start.Kinds.r smp_start.Reads.Post

unfoldable pub host_seen : HostCall → Asks ℕ
host_seen (smp_serve_call c) =
    record {
      before = c.arguments.0.now;
      asked = Ask c.arguments.1.0 c.arguments.1.1.0.now c.arguments.1.1.1.0.now;
      after = c.outcome.lent.0;
      told = c.outcome.result;
      buffer = c.outcome.lent.1.1.1.0;
    }
host_seen (smp_event_call c) =
    record {
      before = c.arguments.0.now;
      asked = Event c.arguments.1.0 c.arguments.1.1.0 c.arguments.1.1.1.0;
      after = c.outcome.lent.0;
      told = c.outcome.result;
      buffer = [];
    }
host_seen (smp_link_change_call c) =
    record {
      before = c.arguments.0.now;
      asked = LinkChange c.arguments.1.0;
      after = c.outcome.lent.0;
      told = c.outcome.result;
      buffer = [];
    }
host_seen (smp_notice_call c) =
    record {
      before = c.arguments.0.now;
      asked = cond c.arguments.1.0 Ses ReducedFunctionality;
      after = c.outcome.lent.0;
      told = c.outcome.result;
      buffer = [];
    }
-- the words are lent for reading alone
host_seen (smp_reach_call c) =
    record {
      before = c.arguments.0.now;
      asked = QueryReach c.arguments.1.0;
      after = c.arguments.0.now;
      told = c.outcome.result;
      buffer = [];
    }

unfoldable pub host_started : HostStart → Seen Given ℕ
host_started c =
    record {
      before = c.arguments.0.now;
      asked =
          record {
            number = c.arguments.1.0;
            groups = c.arguments.1.1.0.now;
            table = c.arguments.1.1.1.0.now;
            identifier = c.arguments.1.1.1.1.0.now;
          };
      after = c.outcome.lent.0;
      told = c.outcome.result;
      buffer = [];
    }

abbrev pub host_interface : Interface
host_interface =
    record {
      Told = ℕ;
      coded = host_coded;
      refusal = smp_refusal;
      cut = smp_cut;
      Call = HostCall;
      seen = host_seen;
      Start = HostStart;
      started = host_started;
    }
