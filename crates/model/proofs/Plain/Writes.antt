-- A 91h stores nothing; what a 93h sets, and when one of a phy's monitors is on a peak source, in plain logic. Assumes nothing.
use Prim.Native.Nat.{ℕ, zero, suc, ◌+◌, ◌<◌, suc-le-suc}
use native.Mathlib.Nat.{zero-lt-suc, not-suc-le-zero, le_of_suc-le-suc}
use native.Mathlib.Omega.{arith}
use mathlib.Core.Path.{◌≡◌, refl, ap}
use mathlib.Core.Logic.Iff
use mathlib.Core.Logic.{◌↔◌, ◌⊎◌, inl, inr}
use mathlib.Core.Bool.{Bool, true, false, cond}
use mathlib.Core.List.{List, [], ◌∷◌}
use lib.Dec.{T, ltb, eqb}
use lib.ListN.{length, get_or}
use Rattle.model.specs.declared.Effect.{Effect}
use Rattle.model.specs.declared.Monitor.{Monitor}
use Rattle.model.specs.declared.Phy.{Phy}
use Rattle.model.specs.declared.Store.{Store}
use Rattle.model.specs.Counting.{change_on}
use Rattle.model.specs.Shelf.{fresh_monitor}
use Rattle.model.specs.Sources.{peak}
use Rattle.model.specs.Store.{store_all, entries_of}
use Rattle.model.specs.Writes.{without_errors, controlled, set_monitor, set_monitors, any_peak}
use Rattle.model.proofs.Laws.Tests.{either_iff, cond_both}
use Rattle.model.proofs.Plain.Store.{stores_none_lem}

-- #101: a link change, and a 91h, stores nothing
pub change_stores : (k : Store) (p : ℕ) (enabled : Bool) (x : Phy) → store_all k (entries_of p (change_on enabled x)) ≡ k
unfolding change_on
change_stores k p enabled x = stores_none_lem k p (change_on enabled x).phy true

pub controlled_stores : (k : Store) (p operation : ℕ) (x : Phy) → store_all k (entries_of p (controlled operation x)) ≡ k
unfolding controlled
controlled_stores k p operation x =
    cond_both StoresNone (eqb operation 0x01) _ _ (change_stores k p true x)
    (cond_both StoresNone (eqb operation 0x03) _ _
    (cond_both StoresNone x.enabled _ _ (change_stores k p false x) (stores_none_lem k p x false))
    (cond_both StoresNone (eqb operation 0x05) _ _ (stores_none_lem k p (without_errors x) false) (stores_none_lem k p x false)))
  where
    StoresNone : Effect → Type 0
    StoresNone e = store_all k (entries_of p e) ≡ k

-- a 93h sets monitors in their places, and adds or drops none
pub set_length : (frame : List ℕ) (d i : ℕ) (ms : List Monitor) → length (set_monitors frame d i ms) ≡ length ms
unfolding set_monitors
set_length frame d i [] = refl
set_length frame d i (m ∷ ms) = ap suc (set_length frame d (suc i) ms)

-- of a list that begins with monitor i, its k-th is monitor n: it is set if n is below d
pub set_at_lem : (frame : List ℕ) (d : ℕ) (ms : List Monitor) (i k n : ℕ) → i + k ≡ n → k < length ms
    → (let m : Monitor = get_or ms k fresh_monitor in
    get_or (set_monitors frame d i ms) k fresh_monitor ≡ cond (ltb n d) (set_monitor frame n m) m)
unfolding set_monitors
set_at_lem frame d [] i k n e h = absurd (not-suc-le-zero h)
set_at_lem frame d (m ∷ ms) i zero n e h = let same : i ≡ n = omega arith in rw same
set_at_lem frame d (m ∷ ms) i (suc k) n e h = set_at_lem frame d ms (suc i) k n (omega arith) (le_of_suc-le-suc h)

-- there is one on a peak source
abbrev pub HasPeak : List Monitor → Type 0
HasPeak ms = (i : ℕ) × (i < length ms) × T (peak (get_or ms i fresh_monitor).source)

pub any_peak_iff : (ms : List Monitor) → T (any_peak ms) ↔ HasPeak ms
unfolding any_peak
any_peak_iff [] = (λ t. absurd t, λ h. absurd (not-suc-le-zero h.1))
any_peak_iff (m ∷ ms) =
    Iff.trans (either_iff (peak m.source) (any_peak ms) Iff.rfl (any_peak_iff ms)) (to, from)
  where
    to : T (peak m.source) ⊎ HasPeak ms → HasPeak (m ∷ ms)
    to (inl t) = (0, zero-lt-suc (length ms), t)
    to (inr (i, h, t)) = (suc i, suc-le-suc h, t)

    from : HasPeak (m ∷ ms) → T (peak m.source) ⊎ HasPeak ms
    from (zero, h, t) = inl t
    from (suc i, h, t) = inr (i, le_of_suc-le-suc h, t)
