-- #104 over a run: what is known of one error count to somebody who hears every report with its answer, and every 91h with its response,
-- and never looks at the count. A drive's disparity count "stood at FFFFFFFFh for weeks and nobody noticed": `proofs/Demands/ErrorCounts`
-- shows that he knows what it stands at.
use Rattle.std.specs.Prelude.{ℕ, ◌+◌, Bool, false, cond, ◌&&◌, ◌||◌, List, [], ◌∷◌, eqb, Err, Ok}
use Rattle.model.specs.declared.Shelf.{Shelf}
use Rattle.model.specs.Answers.{EventAnswer}
use Rattle.model.specs.Bytes.{byte}
use Rattle.model.specs.House.{answer_number}
use Rattle.model.specs.Reports.{event}
use Rattle.model.specs.Request.{function_of}
use Rattle.model.specs.Runs.{Operation, Ask, Event, LinkChange, ReducedFunctionality, Ses, QueryReach, next}
use Rattle.model.specs.Server.{served, lent_after}

-- Since the last 05h or the start: the exact sum of the accepted amounts, and whether one of them was told as cut.
pub record Tally : Type 0 where
  pub sum : ℕ
  pub cut : Bool

abbrev pub no_tally : Tally
no_tally = record { sum = 0; cut = false }

-- a report of the phy and the source that are tallied, with its answer: one that is refused adds nothing
abbrev pub heard : Tally → ℕ → EventAnswer → Tally
heard t amount (Ok counted) = record { sum = t.sum + amount; cut = t.cut || counted.cut }
heard t amount (Err house) = t

-- An accepted request: no house refusal, and "byte 2 the result" is 00h.
abbrev pub is_accepted : Shelf → ℕ → List ℕ → List ℕ → Bool
is_accepted s g frame out = eqb (answer_number (served s g frame out).answer) 0 && eqb (byte (lent_after s g frame out) 2) 0x00

-- "05h sets the four error counts to 0": an accepted 91h that names phy p, with this operation
abbrev pub sets_errors_to0 : ℕ → Shelf → ℕ → List ℕ → List ℕ → Bool
sets_errors_to0 p s g frame out =
    eqb (function_of frame) 0x91 && eqb (byte frame 9) p && eqb (byte frame 10) 0x05 && is_accepted s g frame out

-- one operation more, for a phy and one of the sources 01h to 04h
unfoldable pub tallied : ℕ → ℕ → Shelf → Tally → Operation → Tally
tallied p source s t (Ask g frame out) = cond (sets_errors_to0 p s g frame out) no_tally t
tallied p source s t (Event q from amount) =
    cond (eqb q p && eqb from source) (heard t amount (event s q from amount).answer) t
tallied p source s t (LinkChange q) = t
tallied p source s t ReducedFunctionality = t
tallied p source s t Ses = t
tallied p source s t (QueryReach g) = t

-- a run, from this shelf and this tally on
unfoldable pub tally_from : ℕ → ℕ → Shelf → Tally → List Operation → Tally
tally_from p source s t [] = t
tally_from p source s t (operation ∷ operations) =
    tally_from p source (next s operation) (tallied p source s t operation) operations

-- a run from a start
abbrev pub tally : ℕ → ℕ → Shelf → List Operation → Tally
tally p source s operations = tally_from p source s no_tally operations
