-- Demand 3. "Take two runs from the same start, and pick one source group. Cross out of both runs other groups' requests about phys it
-- can't reach, save link resets and disables, and reports of events on such phys, save link changes. If what remains is the same in
-- both, every answer that group gets is the same, byte for byte. Link resets, disables and link changes stay because they move the
-- change count, which all may read." Assumes nothing.
--
-- What an operation is, and what a group gets in a run, is in `specs/Runs`; what is crossed out is in `specs/CrossedOut`, and checked
-- cases say what that is. The proof goes by what a shelf looks like to a group (`Looks`): each operation looks the same on two shelves
-- that look the same (`OneOperation`), a crossed-out one is not seen (`Unseen`), so a run's answers are those of what remains of it (`Remains`).
-- `OnShelfW` shows that this is no empty talk, and why link resets, disables and link changes must stay. What demand 3 leaves open, what
-- a stranger's own requests do to the shelf and tell him, is in `Strangers`.
use Prim.Native.Nat.{ℕ, ◌≤◌}
use native.Mathlib.Omega.{arith}
use mathlib.Core.Path.{◌≡◌, sym, ap, ◌∙◌}
use mathlib.Core.List.{List}
use borrow.Author.Tests.{lt-ltb}
use lib.Dec.{T}
use Rattle.model.specs.declared.Shelf.{Shelf}
use Rattle.std.specs.Prelude.{Ok}
use Rattle.model.specs.CrossedOut.{remains}
use Rattle.model.specs.Reach.{reaches}
use Rattle.model.specs.Runs.{Operation, answers}
use Rattle.model.specs.Shelf.{exists, start_group, fresh_shelf, no_shelf, start_taken, start}
use Rattle.model.proofs.Demands.Remains.{remains_answers}
use Rattle.model.proofs.Demands.Unseen.{OneReachesAll}
use Rattle.model.proofs.Laws.Checks.{outcome_taken}
use Rattle.model.proofs.Laws.Steps.{zones_same}
use Rattle.model.proofs.Plain.Reach.{exists_iff}
use Rattle.model.proofs.Plain.Start.{Startable, start_done, fresh_phys_lem}
use Rattle.model.proofs.Plain.Zone.{row_reaches_lem, bit_iff, all_ones}

-- Of any shelf, whether or not a start made it, on which group 1 reaches every phy: it alone may ask for the stored peak events, which tell
-- about all of them. Of every other group nothing is asked.
pub cant_tell : (s : Shelf) (g : ℕ) → OneReachesAll g s → (one other : List Operation) → remains g s one ≡ remains g s other
    → answers g s one ≡ answers g s other
cant_tell s g all one other same =
    remains_answers g s s one all (zones_same s) ∙ ap (answers g s) same ∙ sym (remains_answers g s s other all (zones_same s))

-- A start asks for a legal table, in which "row 1 is all ones", and for zone groups.
fresh_reached : (n : ℕ) (groups table identifier : List ℕ) → Startable n groups table → (p : ℕ)
    → T (exists (fresh_shelf n groups table identifier) p) → T (reaches (fresh_shelf n groups table identifier) 1 p)
unfolding fresh_shelf
fresh_reached n groups table identifier can p there =
    let (below, few) = (exists_iff (fresh_shelf n groups table identifier) p).0 there in
    let group : start_group n groups p ≤ 31 = rw (lt-ltb p n below) (can.groups_all_fit p below) in
    rw (can.legal.row_1, fresh_phys_lem n groups table identifier p few)
    ((row_reaches_lem 0xFFFFFFFF (start_group n groups p)).1 (group, (bit_iff 0xFFFFFFFF (start_group n groups p)).0 (all_ones (start_group n groups p) (omega arith))))

pub started_reached : (n : ℕ) (groups table identifier : List ℕ) (s : Shelf)
    → start n groups table identifier ≡ record { taken = Ok tt; shelf = s } → (g : ℕ) → OneReachesAll g s
unfolding start
started_reached n groups table identifier s started g one p there =
    let taken : start_taken n groups table ≡ Ok tt = sym (outcome_taken (start_taken n groups table) no_shelf _) ∙ ap (λ o. o.taken) started in
    let shelf : fresh_shelf n groups table identifier ≡ s = rw taken at (ap (λ o. o.shelf) started) in
    rw (one, ← shelf) (fresh_reached n groups table identifier ((start_done n groups table).0 taken) p (rw (← shelf) at there))

-- For every started shelf, every source group (also one above 31) and every two runs: if what remains is the same, every answer that
-- the group gets is the same, with the whole lent buffer afterwards.
pub demand_3 : (n : ℕ) (groups table identifier : List ℕ) (s : Shelf)
    → start n groups table identifier ≡ record { taken = Ok tt; shelf = s }
    → (g : ℕ) (one other : List Operation) → remains g s one ≡ remains g s other
    → answers g s one ≡ answers g s other
demand_3 n groups table identifier s started g one other same =
    cant_tell s g (started_reached n groups table identifier s started g) one other same
