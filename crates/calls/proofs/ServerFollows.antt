-- The interface for Rattle goes as the model does (`Follows`): each promise of `server` says so. Assumes nothing.
use Prim.Native.Nat.{ℕ}
use mathlib.Core.Path.{◌≡◌, refl, sym, ap, ◌∙◌}
use mathlib.Core.List.{List, []}
use Rattle.model.specs.declared.Notice.{Notice}
use Rattle.model.specs.declared.Notice.TheVariants.{Expander3, Ses0}
use Rattle.model.specs.declared.Shelf.{Shelf}
use Rattle.model.specs.Reach.{reach_query}
use Rattle.model.specs.Reports.{event, link_change, reduced_functionality, ses_notice, noticed}
use Rattle.model.specs.Runs.{Operation, Ask, Event, LinkChange, ReducedFunctionality, Ses, QueryReach, next}
use Rattle.model.specs.Server.{served, lent_after}
use Rattle.words.specs.Words.{shelf_of, laid_over, started_words}
use Rattle.words.proofs.Laying.{laid_same}
use Rattle.calls.specs.Operations.{ToRequest, ToReport, ToEvent, ToNotice, ToQuery, said, buffer_after, Given, start_of}
use Rattle.calls.specs.Runs.{Starts}
use Rattle.calls.specs.Server.{ServerCall, serve_call, event_call, link_change_call, notice_call, reach_query_call}
use Rattle.calls.specs.Server.{ServerStart, notice_asked, server_seen, server_started, server_interface}
use Rattle.calls.proofs.ManyCalls.{Go}
use Rattle.calls.proofs.Follows.{Follows, lending, lending_mut}

-- ---- each promise

-- a notice goes as the one of the two that is asked for, which tells nothing and has no buffer
notice_next : (s : Shelf) (n : Notice) → noticed s n ≡ next s (notice_asked n)
unfolding next
notice_next s Expander3 = refl
notice_next s Ses0 = refl

notice_said : (s : Shelf) (n : Notice) → ToNotice ≡ said s (notice_asked n)
unfolding said
notice_said s Expander3 = refl
notice_said s Ses0 = refl

notice_buffer : (s : Shelf) (n : Notice) → [] ≡ buffer_after s (notice_asked n)
unfolding buffer_after
notice_buffer s Expander3 = refl
notice_buffer s Ses0 = refl

server_goes : (call : ServerCall) → Go (λ says. says) (server_seen call)
unfolding server_seen next served said buffer_after
server_goes (serve_call c) long =
    record { words = c.outcome.promised.1.0; told = ap ToRequest c.outcome.promised.0; buffer = c.outcome.promised.1.1 }
server_goes (event_call c) long =
    record { words = c.outcome.promised.1; told = ap ToEvent c.outcome.promised.0; buffer = refl }
server_goes (link_change_call c) long =
    record { words = c.outcome.promised.1; told = ap ToReport c.outcome.promised.0; buffer = refl }
server_goes (notice_call c) long =
    let s : Shelf = shelf_of c.arguments.0.now in
    record {
      words = c.outcome.promised ∙ ap (laid_over c.arguments.0.now) (notice_next s c.arguments.1.0);
      told = notice_said s c.arguments.1.0;
      buffer = notice_buffer s c.arguments.1.0;
    }
server_goes (reach_query_call c) long =
    record { words = sym (laid_same c.arguments.0.now long); told = ap ToQuery c.outcome.promised; buffer = refl }

server_starts : (x : ServerStart) → Starts (λ says. says) (server_started x)
unfolding server_started
server_starts c = record { words = c.outcome.promised.1; told = ap ToReport c.outcome.promised.0 }

-- ---- whatever is asked for: a call that asks for it, with the outcome that the model gives

server_asks : (ws : List ℕ) (o : Operation) → (call : ServerCall) × ((server_seen call).before ≡ ws) × ((server_seen call).asked ≡ o)
unfolding server_seen
server_asks ws (Ask g frame out) = (
  serve_call (record {
    lifetimes = ([], ([], ([], tt)));
    arguments = (lending_mut ws, (g, (lending frame, (lending_mut out, tt))));
    outcome = record {
      result = (served (shelf_of ws) g frame out).answer;
      lent = (laid_over ws (served (shelf_of ws) g frame out).shelf, (tt, (tt, (lent_after (shelf_of ws) g frame out, tt))));
      promised = (refl, (refl, refl));
    };
  }),
  refl,
  refl,
)
server_asks ws (Event p source amount) = (
  event_call (record {
    lifetimes = ([], tt);
    arguments = (lending_mut ws, (p, (source, (amount, tt))));
    outcome = record {
      result = (event (shelf_of ws) p source amount).answer;
      lent = (laid_over ws (event (shelf_of ws) p source amount).shelf, (tt, (tt, (tt, tt))));
      promised = (refl, refl);
    };
  }),
  refl,
  refl,
)
server_asks ws (LinkChange p) = (
  link_change_call (record {
    lifetimes = ([], tt);
    arguments = (lending_mut ws, (p, tt));
    outcome = record {
      result = (link_change (shelf_of ws) p).taken;
      lent = (laid_over ws (link_change (shelf_of ws) p).shelf, (tt, tt));
      promised = (refl, refl);
    };
  }),
  refl,
  refl,
)
server_asks ws ReducedFunctionality = (
  notice_call (record {
    lifetimes = ([], tt);
    arguments = (lending_mut ws, (Expander3, tt));
    outcome = record { result = tt; lent = (laid_over ws (reduced_functionality (shelf_of ws)), (tt, tt)); promised = refl };
  }),
  refl,
  refl,
)
server_asks ws Ses = (
  notice_call (record {
    lifetimes = ([], tt);
    arguments = (lending_mut ws, (Ses0, tt));
    outcome = record { result = tt; lent = (laid_over ws (ses_notice (shelf_of ws)), (tt, tt)); promised = refl };
  }),
  refl,
  refl,
)
server_asks ws (QueryReach g) = (
  reach_query_call (record {
    lifetimes = ([], tt);
    arguments = (lending ws, (g, tt));
    outcome = record { result = reach_query (shelf_of ws) g; lent = (tt, (tt, tt)); promised = refl };
  }),
  refl,
  refl,
)

server_begins : (ws : List ℕ) (given : Given) → (x : ServerStart) × ((server_started x).before ≡ ws) × ((server_started x).asked ≡ given)
unfolding server_started
server_begins ws given = (
  record {
    lifetimes = ([], tt);
    arguments = (lending_mut ws, (given.number, (given.groups, (given.table, (given.identifier, tt)))));
    outcome = record {
      result = (start_of given).taken;
      lent = (started_words ws (start_of given), (tt, (tt, (tt, (tt, tt)))));
      promised = (refl, refl);
    };
  },
  refl,
  refl,
)

pub server_follows : Follows server_interface
server_follows =
    record {
      goes = server_goes;
      starts = server_starts;
      reads = λ s o. refl;
      reads_cut = λ s o. refl;
      reads_start = λ taken. refl;
      reads_start_cut = λ taken. refl;
      asks = server_asks;
      begins = server_begins;
    }
