-- "Change also moves the change count the same way", and nothing else does. Assumes nothing.
use Prim.Native.Nat.{ℕ}
use mathlib.Core.Path.{◌≡◌, refl, ap, ◌∙◌}
use mathlib.Core.Bool.{Bool, true, false, false≢true}
use lib.Dec.{T}
use lib.ListN.{get_or}
use Rattle.model.specs.declared.Effect.{Effect}
use Rattle.model.specs.declared.Phy.{Phy}
use Rattle.model.specs.declared.Shelf.{Shelf}
use Rattle.model.specs.Counting.{originate_if, change_on, event_on}
use Rattle.model.specs.Fits.{Placed}
use Rattle.model.specs.Reports.{event_taken, event, link_change_taken, link_change_on, link_change, reduced_functionality, ses_notice}
use Rattle.model.specs.Runs.{Operation, next, Started}
use Rattle.model.specs.Shelf.{no_phy, exists, phy_at, outcome}
use Rattle.model.specs.Store.{carried_out}
use Rattle.model.proofs.Demands.Invariant.{started_placed, phy_placed}
use Rattle.model.proofs.Laws.Checks.{every_outcome}
use Rattle.model.proofs.Laws.PhyChanges.{event_inner, link_change_inner, configured_inner, controlled_inner}
use Rattle.model.proofs.Laws.Steps.{Step, Stays, ChangesPhy, CountsNotice, KeptBy, every_change, next_step}
use Rattle.model.proofs.Plain.Shelf.{put_same, put_other}

-- ---- Every operation: the change count and the Change count of one phy that exists are originated together, or neither is; and no
-- other phy's is.

pub record Together (s t : Shelf) : Type 0 where
  pub originates : Bool
  pub phy : ℕ
  pub count : t.changes ≡ originate_if originates s.changes
  pub there : originates ≡ true → T (exists s phy)
  pub here : (phy_at t phy).change0 ≡ originate_if originates (phy_at s phy).change0
  pub others : (q : ℕ) → (q ≡ phy → ⊥) → (phy_at t q).change0 ≡ (phy_at s q).change0

-- the Change count of a phy moves exactly where Change is originated
abbrev Changes : (Phy → Effect) → Type 0
Changes f = (x : Phy) → (f x).phy.change0 ≡ originate_if (f x).change x.change0

all_change : (operation : Operation) → KeptBy Changes operation
all_change =
    every_change Changes (λ operation. (controlled_inner operation).change0) (λ frame d clear. (configured_inner frame d clear).change0)
    (λ source amount. (event_inner source amount).change0)
    link_change_inner.change0

-- neither is originated
still : (s t : Shelf) → t.phys ≡ s.phys → t.changes ≡ s.changes → Together s t
still s t phys count =
    let same : (q : ℕ) → (phy_at t q).change0 ≡ (phy_at s q).change0 = λ q. ap (λ ps. (get_or ps q no_phy).change0) phys in
    record {
      originates = false;
      phy = 0;
      there = λ e. absurd (false≢true e);
      count = count;
      here = same 0;
      others = λ q apart. same q;
    }

step_together : (s t : Shelf) → Placed s → Step Changes s t → Together s t
step_together s t placed (Stays e) = still s t (ap (λ u. u.phys) e) (ap (λ u. u.changes) e)
step_together s t placed (ChangesPhy p f there changes e) =
    let x : Phy = phy_at s p in
    let n : ℕ = originate_if (f x).change s.changes in
    rw e
    (record {
      originates = (f x).change;
      phy = p;
      there = λ moving. there;
      count = refl;
      here = ap (λ y. y.change0) (put_same s p (f x).phy n (phy_placed s p placed there).0) ∙ changes x;
      others = λ q apart. ap (λ y. y.change0) (put_other s p (f x).phy n q apart);
    })
step_together s t placed (CountsNotice a b e) = still s t (ap (λ u. u.phys) e) (ap (λ u. u.changes) e)

-- of every started shelf, after any operations
pub next_together : (s : Shelf) → Started s → (operation : Operation) → Together s (next s operation)
next_together s started operation =
    step_together s (next s operation) (started_placed s started) (next_step Changes s operation (all_change operation))

-- ---- The reports: an event, and a device notice, leaves the change count; a link change on a phy that exists originates it.

pub event_count : (s : Shelf) (p source amount : ℕ) → (event s p source amount).shelf.changes ≡ s.changes
unfolding event event_on
event_count s p source amount =
    every_outcome (λ t. t.changes ≡ s.changes) (event_taken (exists s p) source amount) s _ refl (λ done. refl)

pub notices_count : (s : Shelf) → ((reduced_functionality s).changes ≡ s.changes) × ((ses_notice s).changes ≡ s.changes)
unfolding reduced_functionality ses_notice
notices_count s = (refl, refl)

pub link_change_count : (s : Shelf) (p : ℕ) → (link_change s p).shelf.changes ≡ originate_if (exists s p) s.changes
unfolding link_change change_on
link_change_count s p = go (exists s p)
  where
    new : Shelf
    new = carried_out s p (link_change_on (phy_at s p))

    go : (there : Bool)
        → (outcome (link_change_taken there) s new).shelf.changes ≡ originate_if there s.changes
    go true = refl
    go false = refl
