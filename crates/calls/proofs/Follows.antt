-- What has to be known of an interface for all that `Joined` says of it: each call goes as the model does, by the promise of its function;
-- the number of a refusal, and that an addition was cut, are read off what is told; and nothing that can be asked for is left out. `ServerFollows` and
-- `HostFollows` prove it. Assumes nothing.
use Prim.Native.Nat.{ℕ}
use mathlib.Core.Path.{◌≡◌, refl}
use mathlib.Core.Bool.{Bool, true, false, cond}
use mathlib.Core.List.{List, []}
use denote.Bor.{Bor}
use denote.MutBor.{MutBor}
use Rattle.model.specs.declared.Shelf.{Shelf}
use Rattle.model.specs.Answers.{Taken}
use Rattle.model.specs.House.{taken_number}
use Rattle.model.specs.Reports.{reduced_functionality, ses_notice}
use Rattle.model.specs.Runs.{Operation, ReducedFunctionality, Ses, next}
use Rattle.calls.specs.Operations.{ToReport, ToNotice, said, said_number, says_cut, buffer_after, Given}
use Rattle.calls.specs.Runs.{Starts}
use Rattle.calls.specs.Interface.{Interface}
use Rattle.calls.proofs.ManyCalls.{Go}

pub record Follows (I : Interface) : Type 0 where
  pub goes : (call : I.Call) → Go I.coded (I.seen call)
  pub starts : (x : I.Start) → Starts I.coded (I.started x)
  pub reads : (s : Shelf) (o : Operation) → I.refusal (I.coded (said s o)) ≡ said_number (said s o)
  pub reads_cut : (s : Shelf) (o : Operation) → I.cut (I.coded (said s o)) ≡ says_cut (said s o)
  pub reads_start : (taken : Taken) → I.refusal (I.coded (ToReport taken)) ≡ taken_number taken
  pub reads_start_cut : (taken : Taken) → I.cut (I.coded (ToReport taken)) ≡ false
  pub asks : (ws : List ℕ) (o : Operation) → (call : I.Call) × ((I.seen call).before ≡ ws) × ((I.seen call).asked ≡ o)
  pub begins : (ws : List ℕ) (given : Given) → (x : I.Start) × ((I.started x).before ≡ ws) × ((I.started x).asked ≡ given)

-- ---- for the proofs of it

-- numbers that are lent to be read, at some place in memory
abbrev pub lending : List ℕ → Bor (List ℕ)
lending numbers = record { ref_ptr = (0, 0); now = numbers }

-- .. and that are lent to be written over
abbrev pub lending_mut : List ℕ → MutBor (List ℕ)
lending_mut numbers = record { ref_ptr = (0, 0); ghost_name = 0; now = numbers }

-- a notice, SES or the other
pub notice_next : (s : Shelf) (ses : Bool) → cond ses (ses_notice s) (reduced_functionality s) ≡ next s (cond ses Ses ReducedFunctionality)
unfolding next
notice_next s true = refl
notice_next s false = refl

pub notice_said : (s : Shelf) (ses : Bool) → ToNotice ≡ said s (cond ses Ses ReducedFunctionality)
unfolding said
notice_said s true = refl
notice_said s false = refl

pub notice_buffer : (s : Shelf) (ses : Bool) → [] ≡ buffer_after s (cond ses Ses ReducedFunctionality)
unfolding buffer_after
notice_buffer s true = refl
notice_buffer s false = refl
