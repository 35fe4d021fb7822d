-- #104: what an event report is told, in plain logic: whether its own addition to an error count was cut. Assumes nothing.
use Prim.Native.Nat.{ℕ, ◌+◌, ◌-◌, ◌≤◌, ◌<◌}
use mathlib.Core.Path.{◌≡◌, subst}
use mathlib.Core.Logic.Iff
use mathlib.Core.Logic.{◌↔◌}
use mathlib.Core.Bool.{Bool, true}
use lib.Dec.{T}
use Rattle.model.specs.declared.Shelf.{Shelf}
use Rattle.model.specs.Answers.{told_cut}
use Rattle.model.specs.Counting.{error_cut}
use Rattle.model.specs.Reply.{error_at}
use Rattle.model.specs.Reports.{event_taken, event}
use Rattle.model.specs.Shelf.{exists, phy_at}
use Rattle.model.proofs.Laws.Checks.{counted_iff}
use Rattle.model.proofs.Laws.Tests.{iff_same}
use Rattle.model.proofs.Plain.Counting.{error_cut_iff}
use Rattle.model.proofs.Plain.Reports.{Reportable, event_done}

-- The source is one of 01h to 04h, and the count before plus the amount, as exact numbers, is above FFFFFFFFh.
pub record CutBy (s : Shelf) (p source amount : ℕ) : Type 0 where
  pub from_01 : 0x01 ≤ source
  pub to_04 : source ≤ 0x04
  pub above : 0xFFFFFFFF < error_at (phy_at s p) (source - 1) + amount

-- An event report is told "counted", and cut or not, exactly if none of H7, H8 and H9 applies, and its own addition was cut or not.
pub event_told_lem : (s : Shelf) (p source amount : ℕ) (cut : Bool)
    → ((event s p source amount).answer ≡ told_cut cut)
    ↔ (Reportable s p source amount × (T cut ↔ CutBy s p source amount))
unfolding event
event_told_lem s p source amount cut =
    let found : Bool = error_cut source amount (phy_at s p).errors in
    let says : T found ↔ CutBy s p source amount =
    Iff.trans (error_cut_iff source amount (phy_at s p).errors)
    (λ (low, high, more). record { from_01 = low; to_04 = high; above = more }, λ c. (c.from_01, c.to_04, c.above)) in
    Iff.trans (counted_iff (event_taken (exists s p) source amount) found cut) (
      λ (done, same). ((event_done s p source amount).0 done, subst (λ b. T b ↔ CutBy s p source amount) same says),
      λ (reportable, tells). ((event_done s p source amount).1 reportable, iff_same found cut (Iff.trans says (Iff.symm tells))),
    )

-- so it is told as cut exactly in this case
pub event_cut : (s : Shelf) (p source amount : ℕ)
    → ((event s p source amount).answer ≡ told_cut true)
    ↔ (Reportable s p source amount × CutBy s p source amount)
event_cut s p source amount =
    Iff.trans (event_told_lem s p source amount true)
    (λ (reportable, tells). (reportable, tells.0 tt), λ (reportable, cut). (reportable, (λ t. cut, λ c. tt)))
