-- The interface for C goes as the model does (`Follows`): each promise of `host` says so. Assumes nothing.
use Rattle.std.specs.Prelude.{Ok, Err}
use Prim.Native.Nat.{ℕ, ◌/◌, ◌≤◌}
use native.Mathlib.Omega.{arith}
use mathlib.Core.Path.{◌≡◌, refl, sym, ap, ◌∙◌}
use mathlib.Core.Logic.Iff
use mathlib.Core.Bool.{Bool, true, false}
use mathlib.Core.List.{List, []}
use borrow.Author.Tests.{ltb-true, ltb-false, ne_eqb}
use lib.Count.{ones, ones-ones}
use lib.Dec.{T, ltb}
use lib.ListN.{length}
use Rattle.model.specs.declared.House.{House}
use Rattle.model.specs.declared.House.TheVariants.{SourceGroup}
use Rattle.model.specs.declared.Shelf.{Shelf}
use Rattle.model.specs.Answers.{EventAnswer, Taken, told_cut}
use Rattle.model.specs.House.{house_number, taken_number, event_number, answer_number, query_number}
use Rattle.model.specs.Reach.{reach_set, reach_number, reach_query}
use Rattle.model.specs.Reports.{event, link_change, reduced_functionality, ses_notice}
use Rattle.model.specs.Runs.{Operation, Ask, Event, LinkChange, ReducedFunctionality, Ses, QueryReach, next}
use Rattle.model.specs.Server.{Reply, Refuses, Sends, answer, handle, served, lent_after}
use Rattle.model.proofs.Laws.Checks.{house_some}
use Rattle.model.proofs.Laws.Tests.{iff_same, eqb_iff}
use Rattle.model.proofs.Plain.Reach.{reach_answered, reach_refused, reach_ones}
use Rattle.words.specs.Words.{shelf_of, laid_over, started_words}
use Rattle.words.proofs.Laying.{laid_same}
use Rattle.host.specs.Told.{refused_told, taken_told, event_told, answer_told, reach_told}
use Rattle.host.proofs.Coding.{refused_read, event_read, response_read, reach_read}
use Rattle.calls.specs.Operations.{said, said_number, event_says_cut, says_cut, buffer_after, Given, start_of}
use Rattle.calls.specs.Runs.{Starts}
use Rattle.calls.specs.Host.{host_coded, bit31, smp_refused, smp_refusal, smp_cut, HostStart, host_seen, host_started, host_interface}
use Rattle.calls.specs.Host.{HostCall, smp_serve_call, smp_event_call, smp_link_change_call, smp_notice_call, smp_reach_call}
use Rattle.calls.proofs.ManyCalls.{Go}
use Rattle.calls.proofs.OneCall.{says_cut_iff}
use Rattle.calls.proofs.Follows.{Follows, lending, lending_mut, notice_next, notice_said, notice_buffer}

-- ---- each promise

host_goes : (call : HostCall) → Go host_coded (host_seen call)
unfolding host_seen next served said buffer_after
host_goes (smp_serve_call c) long =
    record { words = c.outcome.promised.1.0; told = c.outcome.promised.0; buffer = c.outcome.promised.1.1 }
host_goes (smp_event_call c) long = record { words = c.outcome.promised.1; told = c.outcome.promised.0; buffer = refl }
host_goes (smp_link_change_call c) long = record { words = c.outcome.promised.1; told = c.outcome.promised.0; buffer = refl }
host_goes (smp_notice_call c) long =
    let s : Shelf = shelf_of c.arguments.0.now in
    record {
      words = c.outcome.promised.1 ∙ ap (laid_over c.arguments.0.now) (notice_next s c.arguments.1.0);
      told = c.outcome.promised.0 ∙ ap host_coded (notice_said s c.arguments.1.0);
      buffer = notice_buffer s c.arguments.1.0;
    }
host_goes (smp_reach_call c) long =
    record { words = sym (laid_same c.arguments.0.now long); told = c.outcome.promised; buffer = refl }

host_starts : (x : HostStart) → Starts host_coded (host_started x)
unfolding host_started
host_starts c = record { words = c.outcome.promised.1; told = c.outcome.promised.0 }

-- ---- the number of a refusal

-- What C reads off a number: this refusal, and bit 31 only where there is one.
pub record Reads (told n : ℕ) : Type 0 where
  pub number : smp_refusal told ≡ n
  pub bit_31 : T (smp_refused told) → 1 ≤ smp_refusal told

refused_reads : (house : House) → Reads (refused_told house) (house_number house)
refused_reads house =
    let set : bit31 (refused_told house) ≡ 1 = omega (arith, (refused_read house).0) in
    let number : smp_refusal (refused_told house) ≡ house_number house = rw set (omega (arith, (refused_read house).1)) in
    record { number = number; bit_31 = λ refused. rw number (house_some house) }

-- without bit 31 there is none
none_reads : (told : ℕ) → told / 0x80000000 ≡ 0 → Reads told 0
none_reads told clear =
    let unset : bit31 told ≡ 0 = omega arith in
    record { number = rw unset; bit_31 = λ refused. absurd (rw unset at refused) }

pub taken_reads : (taken : Taken) → Reads (taken_told taken) (taken_number taken)
taken_reads (Ok done) = none_reads 0 refl
taken_reads (Err house) = refused_reads house

event_reads : (answer : EventAnswer) → Reads (event_told answer) (event_number answer)
event_reads (Ok counted) = go counted.cut
  where
    go : (cut : Bool) → Reads (event_told (told_cut cut)) 0
    go true = none_reads 1 refl
    go false = none_reads 0 refl
event_reads (Err house) = refused_reads house

answer_reads : (s : Shelf) (g : ℕ) (frame : List ℕ) (room : ℕ) (reply : Reply) → (handle s g frame room).reply ≡ reply
    → Reads (answer_told (answer reply)) (answer_number (answer reply))
answer_reads s g frame room (Refuses house) e = refused_reads house
answer_reads s g frame room (Sends bytes) e = none_reads (length bytes) (omega (arith, (response_read s g frame room bytes e).2))

query_reads : (s : Shelf) (g : ℕ) (above : Bool) → ltb 31 g ≡ above → Reads (reach_told (reach_query s g)) (query_number (reach_query s g))
query_reads s g true e = rw (reach_refused s g (ltb-true 31 g e)) (refused_reads SourceGroup)
query_reads s g false e =
    let group : g ≤ 31 = ltb-false 31 g e in
    let none : query_number (reach_query s g) ≡ 0 = ap query_number (reach_answered s g group) in
    rw none (none_reads (reach_told (reach_query s g)) (reach_read s g group).0)

pub said_reads : (s : Shelf) (o : Operation) → Reads (host_coded (said s o)) (said_number (said s o))
unfolding said served
said_reads s (Ask g frame out) = answer_reads s g frame (length out) (handle s g frame (length out)).reply refl
said_reads s (Event p source amount) = event_reads (event s p source amount).answer
said_reads s (LinkChange p) = taken_reads (link_change s p).taken
said_reads s ReducedFunctionality = none_reads 0 refl
said_reads s Ses = none_reads 0 refl
said_reads s (QueryReach g) = query_reads s g (ltb 31 g) refl

-- ---- whether an addition was cut (#104)

-- a refusal, which has bit 31, does not tell it,
refused_tells : (house : House) → smp_cut (refused_told house) ≡ false
refused_tells house = ne_eqb (refused_told house) 1 (λ e. omega (arith, (refused_read house).0))

-- an event report tells it by 1,
event_tells : (answer : EventAnswer) → smp_cut (event_told answer) ≡ event_says_cut answer
event_tells answer =
    iff_same (smp_cut (event_told answer)) (event_says_cut answer)
    (Iff.trans (eqb_iff (event_told answer) 1) (Iff.trans (event_read answer) (Iff.symm (says_cut_iff answer))))

-- and nothing else is told by 1: a response has 4 bytes or more, and a set of one phy has its number above it
taken_tells : (taken : Taken) → smp_cut (taken_told taken) ≡ false
taken_tells (Ok done) = refl
taken_tells (Err house) = refused_tells house

answer_tells : (s : Shelf) (g : ℕ) (frame : List ℕ) (room : ℕ) (reply : Reply) → (handle s g frame room).reply ≡ reply
    → smp_cut (answer_told (answer reply)) ≡ false
answer_tells s g frame room (Refuses house) e = refused_tells house
answer_tells s g frame room (Sends bytes) e = ne_eqb (length bytes) 1 (λ one. omega (arith, (response_read s g frame room bytes e).1))

query_tells : (s : Shelf) (g : ℕ) (above : Bool) → ltb 31 g ≡ above → smp_cut (reach_told (reach_query s g)) ≡ false
query_tells s g true e = rw (reach_refused s g (ltb-true 31 g e)) (refused_tells SourceGroup)
query_tells s g false e =
    let group : g ≤ 31 = ltb-false 31 g e in
    let (_, set, number) = reach_read s g group in
    ne_eqb (reach_told (reach_query s g)) 1
    (λ one.
    let alone : reach_set s g ≡ 1 = omega (arith, set) in
    let one_phy : reach_number s g ≡ 1 = reach_ones s g ∙ ap ones alone ∙ ones-ones 1 in
    omega (arith, number))

said_tells : (s : Shelf) (o : Operation) → smp_cut (host_coded (said s o)) ≡ says_cut (said s o)
unfolding said served
said_tells s (Ask g frame out) = answer_tells s g frame (length out) (handle s g frame (length out)).reply refl
said_tells s (Event p source amount) = event_tells (event s p source amount).answer
said_tells s (LinkChange p) = taken_tells (link_change s p).taken
said_tells s ReducedFunctionality = refl
said_tells s Ses = refl
said_tells s (QueryReach g) = query_tells s g (ltb 31 g) refl

-- ---- whatever is asked for: a call that asks for it, with the outcome that the model gives

host_asks : (ws : List ℕ) (o : Operation) → (call : HostCall) × ((host_seen call).before ≡ ws) × ((host_seen call).asked ≡ o)
unfolding host_seen
host_asks ws (Ask g frame out) = (
  smp_serve_call (record {
    lifetimes = ([], ([], ([], tt)));
    arguments = (lending_mut ws, (g, (lending frame, (lending_mut out, tt))));
    outcome = record {
      result = answer_told (served (shelf_of ws) g frame out).answer;
      lent = (laid_over ws (served (shelf_of ws) g frame out).shelf, (tt, (tt, (lent_after (shelf_of ws) g frame out, tt))));
      promised = (refl, (refl, refl));
    };
  }),
  refl,
  refl,
)
host_asks ws (Event p source amount) = (
  smp_event_call (record {
    lifetimes = ([], tt);
    arguments = (lending_mut ws, (p, (source, (amount, tt))));
    outcome = record {
      result = event_told (event (shelf_of ws) p source amount).answer;
      lent = (laid_over ws (event (shelf_of ws) p source amount).shelf, (tt, (tt, (tt, tt))));
      promised = (refl, refl);
    };
  }),
  refl,
  refl,
)
host_asks ws (LinkChange p) = (
  smp_link_change_call (record {
    lifetimes = ([], tt);
    arguments = (lending_mut ws, (p, tt));
    outcome = record {
      result = taken_told (link_change (shelf_of ws) p).taken;
      lent = (laid_over ws (link_change (shelf_of ws) p).shelf, (tt, tt));
      promised = (refl, refl);
    };
  }),
  refl,
  refl,
)
host_asks ws ReducedFunctionality = (
  smp_notice_call (record {
    lifetimes = ([], tt);
    arguments = (lending_mut ws, (false, tt));
    outcome = record { result = 0; lent = (laid_over ws (reduced_functionality (shelf_of ws)), (tt, tt)); promised = (refl, refl) };
  }),
  refl,
  refl,
)
host_asks ws Ses = (
  smp_notice_call (record {
    lifetimes = ([], tt);
    arguments = (lending_mut ws, (true, tt));
    outcome = record { result = 0; lent = (laid_over ws (ses_notice (shelf_of ws)), (tt, tt)); promised = (refl, refl) };
  }),
  refl,
  refl,
)
host_asks ws (QueryReach g) = (
  smp_reach_call (record {
    lifetimes = ([], tt);
    arguments = (lending ws, (g, tt));
    outcome = record { result = reach_told (reach_query (shelf_of ws) g); lent = (tt, (tt, tt)); promised = refl };
  }),
  refl,
  refl,
)

host_begins : (ws : List ℕ) (given : Given) → (x : HostStart) × ((host_started x).before ≡ ws) × ((host_started x).asked ≡ given)
unfolding host_started
host_begins ws given = (
  record {
    lifetimes = ([], ([], ([], ([], tt))));
    arguments = (lending_mut ws, (given.number, (lending given.groups, (lending given.table, (lending given.identifier, tt)))));
    outcome = record {
      result = taken_told (start_of given).taken;
      lent = (started_words ws (start_of given), (tt, (tt, (tt, (tt, tt)))));
      promised = (refl, refl);
    };
  },
  refl,
  refl,
)

pub host_follows : Follows host_interface
host_follows =
    record {
      goes = host_goes;
      starts = host_starts;
      reads = λ s o. (said_reads s o).number;
      reads_cut = said_tells;
      reads_start = λ taken. (taken_reads taken).number;
      reads_start_cut = taken_tells;
      asks = host_asks;
      begins = host_begins;
    }
