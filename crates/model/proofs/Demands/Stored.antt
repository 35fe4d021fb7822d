-- #101: an origination of Expander 1h or 2h and its entries in the list of stored peak events come together, or not at all. Assumes nothing.
use Prim.Native.Nat.{ℕ, suc, ◌≤◌}
use native.Mathlib.Omega.{arith}
use mathlib.Core.Path.{◌≡◌, refl, sym, ap, ◌∙◌}
use mathlib.Core.Bool.{Bool, true, false, cond, ◌||◌}
use mathlib.Core.List.{List, [], ◌∷◌, ◌++◌, map, append-nil}
use lib.Dec.{T, ltb}
use borrow.Author.Tests.{lt-ltb}
use lib.ListN.{length, get_or}
use Rattle.model.specs.declared.Effect.{Effect}
use Rattle.model.specs.declared.Monitor.{Monitor}
use Rattle.model.specs.declared.Phy.{Phy}
use Rattle.model.specs.declared.Shelf.{Shelf}
use Rattle.model.specs.Counting.{originate_if, originate_times, stores_none, picked, stored_ones, crossings, crossed, change_on, event_on}
use Rattle.model.specs.Runs.{Operation, next, Started}
use Rattle.model.specs.Shelf.{exists, no_phy, phy_at, put, entry_of}
use Rattle.model.specs.Store.{store, store_all}
use Rattle.model.specs.Fits.{Placed}
use Rattle.model.specs.Sources.{peak}
use Rattle.model.specs.Writes.{without_errors, controlled, set_monitors, set_on, any_peak, peaks, clear_on, configured}
use Rattle.model.proofs.Demands.Fits.{controlled_all}
use Rattle.model.proofs.Demands.Invariant.{started_placed, phy_placed}
use Rattle.model.proofs.Laws.Steps.{Step, Stays, ChangesPhy, CountsNotice, every_change, next_step}
use Rattle.model.proofs.Plain.Counting.{stored_marked}
use Rattle.model.proofs.Plain.Shelf.{put_same, put_other}

-- of what is done to a phy x
record Stores (x : Phy) (e : Effect) : Type 0 where
  crossed : List Monitor
  cleared : List Monitor
  those : stored_ones e.stored ≡ crossed ++ cleared
  expander1 : e.phy.expander1 ≡ originate_times (length crossed) x.expander1
  expander2 : e.phy.expander2 ≡ originate_if (ltb 0 (length cleared)) x.expander2

-- nothing is stored, and neither is originated
none_stores : (x y : Phy) (change : Bool) → y.expander1 ≡ x.expander1 → y.expander2 ≡ x.expander2 → Stores x (stores_none y change)
none_stores x y change e1 e2 =
    record { crossed = []; cleared = []; those = refl; expander1 = e1; expander2 = e2 }

any_peak_stored : (ms : List Monitor) → any_peak ms ≡ ltb 0 (length (picked (peaks ms) ms))
unfolding any_peak
any_peak_stored [] = refl
any_peak_stored (m ∷ ms) = go (peak m.source) (any_peak_stored ms)
  where
    go : (b : Bool) → any_peak ms ≡ ltb 0 (length (picked (peaks ms) ms))
        → (b || any_peak ms) ≡ ltb 0 (length (cond b (m ∷ picked (peaks ms) ms) (picked (peaks ms) ms)))
    go true e = sym (lt-ltb 0 (suc (length (picked (peaks ms) ms))) (omega arith))
    go false e = e

abbrev Storing : (Phy → Effect) → Type 0
Storing f = (x : Phy) → Stores x (f x)

event_storing : (source amount : ℕ) → Storing (event_on source amount)
unfolding event_on
event_storing source amount x =
    record {
      crossed = crossed source amount x.monitors;
      cleared = [];
      those = stored_marked (crossings source amount x.monitors) _ ∙ sym (append-nil (crossed source amount x.monitors));
      expander1 = refl;
      expander2 = refl;
    }

change_storing : (enabled : Bool) → Storing (change_on enabled)
unfolding change_on
change_storing enabled x = none_stores x (change_on enabled x).phy true refl refl

control_storing : (operation : ℕ) → Storing (controlled operation)
control_storing operation x =
    controlled_all (Stores x) operation x (none_stores x x false refl refl) (λ enabled. change_storing enabled x)
    (none_stores x (without_errors x) false refl refl)

configure_storing : (frame : List ℕ) (d : ℕ) (clear : Bool) → Storing (configured frame d clear)
unfolding configured set_on clear_on
configure_storing frame d true x =
    let ms : List Monitor = set_monitors frame d 0 x.monitors in
    record {
      crossed = [];
      cleared = picked (peaks ms) ms;
      those = stored_marked (peaks ms) ms;
      expander1 = refl;
      expander2 = ap (λ b. originate_if b x.expander2) (any_peak_stored ms);
    }
configure_storing frame d false x = none_stores x (set_on frame d x) false refl refl

-- Every operation: Expander 1h of one phy that exists is originated once for each of some monitors, Expander 2h once if there are others, and
-- all of these are stored, in this order; and no other phy's is originated.
pub record StoredTogether (s t : Shelf) : Type 0 where
  pub phy : ℕ
  pub crossed : List Monitor
  pub cleared : List Monitor
  pub store : t.store ≡ store_all s.store (map (entry_of phy) (crossed ++ cleared))
  pub there : 1 ≤ length (crossed ++ cleared) → T (exists s phy)
  pub expander1 : (phy_at t phy).expander1 ≡ originate_times (length crossed) (phy_at s phy).expander1
  pub expander2 : (phy_at t phy).expander2 ≡ originate_if (ltb 0 (length cleared)) (phy_at s phy).expander2
  pub others : (q : ℕ) → (q ≡ phy → ⊥)
      → ((phy_at t q).expander1 ≡ (phy_at s q).expander1) × ((phy_at t q).expander2 ≡ (phy_at s q).expander2)

stores_still : (s t : Shelf) → t.phys ≡ s.phys → t.store ≡ s.store → StoredTogether s t
stores_still s t phys store =
    let same : (q : ℕ) → phy_at t q ≡ phy_at s q = λ q. ap (λ ps. get_or ps q no_phy) phys in
    record {
      phy = 0;
      crossed = [];
      cleared = [];
      store = store;
      there = λ some. absurd (omega arith);
      expander1 = ap (λ x. x.expander1) (same 0);
      expander2 = ap (λ x. x.expander2) (same 0);
      others = λ q apart. (ap (λ x. x.expander1) (same q), ap (λ x. x.expander2) (same q));
    }

step_stored : (s t : Shelf) → Placed s → Step Storing s t → StoredTogether s t
step_stored s t placed (Stays e) = stores_still s t (ap (λ u. u.phys) e) (ap (λ u. u.store) e)
step_stored s t placed (ChangesPhy p f there storing e) =
    let x : Phy = phy_at s p in
    let n : ℕ = originate_if (f x).change s.changes in
    let stores : Stores x (f x) = storing x in
    let same : phy_at (put s p (f x).phy n) p ≡ (f x).phy = put_same s p (f x).phy n (phy_placed s p placed there).0 in
    rw e
    (record {
      phy = p;
      crossed = stores.crossed;
      cleared = stores.cleared;
      store = ap (λ ms. store_all s.store (map (entry_of p) ms)) stores.those;
      there = λ some. there;
      expander1 = ap (λ y. y.expander1) same ∙ stores.expander1;
      expander2 = ap (λ y. y.expander2) same ∙ stores.expander2;
      others = λ q apart.
          let other : phy_at (put s p (f x).phy n) q ≡ phy_at s q = put_other s p (f x).phy n q apart in
          (ap (λ y. y.expander1) other, ap (λ y. y.expander2) other);
    })
step_stored s t placed (CountsNotice a b e) = stores_still s t (ap (λ u. u.phys) e) (ap (λ u. u.store) e)

-- of every shelf with its sizes
pub placed_next_stored : (s : Shelf) → Placed s → (operation : Operation) → StoredTogether s (next s operation)
placed_next_stored s placed operation =
    step_stored s (next s operation) placed
    (next_step Storing s operation
    (every_change Storing control_storing configure_storing event_storing (λ x. change_storing x.enabled x) operation))

-- so of every started shelf, after any operations
pub next_stored : (s : Shelf) → Started s → (operation : Operation) → StoredTogether s (next s operation)
next_stored s started operation = placed_next_stored s (started_placed s started) operation
