-- Two things that a reader of demand 3 will ask, answered on shelf W, where group 8 reaches phys 0, 1 and 3, and group 9 phys 2 and 3:
-- that looking the same to a group is no empty talk, and why link resets, disables and link changes must stay. Assumes nothing.
use Prim.Native.Nat.{ℕ}
use native.Mathlib.Omega.{arith}
use mathlib.Core.Path.{◌≡◌, refl, ap}
use mathlib.Core.List.{List, [], ◌∷◌}
use lib.ListN.{set}
use Rattle.model.specs.declared.Shelf.{Shelf}
use Rattle.model.specs.Bytes.{word}
use Rattle.model.specs.Cases.{sent}
use Rattle.model.specs.Hex.{hex}
use Rattle.model.specs.Reply.{monitor_at}
use Rattle.model.specs.Runs.{Operation, LinkChange, Told, Answered, Shown, answers}
use Rattle.model.specs.Shelf.{monitor, phy_at, put}
use Rattle.model.specs.ShelfW.{shelf_w}
use Rattle.model.specs.Vectors.Tools.{control_frame}
use Rattle.model.specs.Writes.{with_monitors}
use Rattle.model.proofs.Computes.{computes}
use Rattle.model.proofs.Demands.Looks.{looks}

-- ---- What looks the same, and what doesn't

-- shelf W where the first monitor of phy p has a peak of 9
abbrev peak_on : ℕ → Shelf
peak_on p =
    put shelf_w p (with_monitors (phy_at shelf_w p) (set (phy_at shelf_w p).monitors 0 (monitor 0x2D 9 10)) 0) shelf_w.changes

-- a number that two shelves don't share tells them apart
apart : (number : Shelf → ℕ) (s t : Shelf) → (number s ≡ number t → ⊥) → s ≡ t → ⊥
apart number s t differ e = differ (ap number e)

-- on phy 2, which group 8 doesn't reach: another shelf, but to group 8 it looks the same
pub unreached_differs : peak_on 2 ≡ shelf_w → ⊥
unfolding computes
unreached_differs = apart (λ s. (monitor_at (phy_at s 2) 0).value) (peak_on 2) shelf_w (λ e. omega arith)

pub unreached_looks_same : looks 8 (peak_on 2) ≡ looks 8 shelf_w
unfolding computes
unreached_looks_same = refl

-- on phy 0, which group 8 reaches, it doesn't; nor does the peak on phy 2 to group 9
pub reached_looks_other : looks 8 (peak_on 0) ≡ looks 8 shelf_w → ⊥
unfolding computes
reached_looks_other =
    apart (λ s. (monitor_at (phy_at s 0) 0).value) (looks 8 (peak_on 0)) (looks 8 shelf_w) (λ e. omega arith)

pub looks_other_to_9 : looks 9 (peak_on 2) ≡ looks 9 shelf_w → ⊥
unfolding computes
looks_other_to_9 =
    apart (λ s. (monitor_at (phy_at s 2) 0).value) (looks 9 (peak_on 2)) (looks 9 shelf_w) (λ e. omega arith)

-- ---- Why link resets, disables and link changes stay: "they move the change count, which all may read"

-- group 8 asks for the general report, which has the change count in bytes 4 and 5
abbrev asks : List Operation
asks = sent 8 (hex "40 00 00 00") ∷ []

-- the change count in the first answer
abbrev count_told : List Told → ℕ
count_told [] = 0
count_told (Answered answer bytes ∷ rest) = word bytes 4
count_told (Shown reach ∷ rest) = 0

-- what comes first, on phy 2 out of group 8's reach, changes what group 8 is told: the change count is 0002h instead of 0001h
abbrev Tells : Operation → Type 0
Tells first = (count_told (answers 8 shelf_w (first ∷ asks)) ≡ 0x0002) × (count_told (answers 8 shelf_w asks) ≡ 0x0001)

-- so with it and without it the answers are not the same
pub tells_apart : (first : Operation) → Tells first → answers 8 shelf_w (first ∷ asks) ≡ answers 8 shelf_w asks → ⊥
tells_apart first tells e = omega (arith, ap count_told e)

pub link_reset_tells : Tells (sent 9 (control_frame 0x09 0x00 2 0x01))
unfolding computes
link_reset_tells = (refl, refl)

pub disable_tells : Tells (sent 9 (control_frame 0x09 0x00 2 0x03))
unfolding computes
disable_tells = (refl, refl)

pub link_change_tells : Tells (LinkChange 2)
unfolding computes
link_change_tells = (refl, refl)
