-- What an accepted 91h does to the shelf, number by number, in plain logic: to its phy, and to the change count. Every other phy,
-- and every number that is not named, is as it was. And what is said here settles the shelf: no two shelves are left by one 91h.
-- Assumes nothing.
use Prim.Native.Nat.{ℕ}
use mathlib.Core.Path.{◌≡◌, refl, sym, ◌∙◌}
use mathlib.Core.Bool.{Bool, true, false}
use mathlib.Core.List.{List, Memᴰ}
use lib.Dec.{T}
use lib.ListN.{replicate}
use lib.Seq.{set-get_or}
use Rattle.model.specs.declared.Phy.{Phy}
use Rattle.model.specs.declared.Request.TheVariants.{PhyControl}
use Rattle.model.specs.declared.Shelf.{Shelf}
use Rattle.model.specs.Counting.{originate, change_on}
use Rattle.model.specs.Fits.{Placed}
use Rattle.model.specs.Shelf.{exists, phy_at, phy_with}
use Rattle.model.specs.Writes.{controlled, doing, effect}
use Rattle.model.proofs.Demands.Invariant.{phy_placed}
use Rattle.model.proofs.Laws.Tests.{by_each}
use Rattle.model.proofs.Plain.Results.{known_operations}
use Rattle.model.proofs.Plain.Shelf.{OnlyPhy, same_shelf, put_same, put_only}
use Rattle.model.proofs.Plain.Writes.{controlled_stores}

-- What a phy is afterwards is written out here, and not by `change_on` and `without_errors`, which it is to check.

-- phy p is x, and the change count is n
abbrev pub Has : Shelf → ℕ → Phy → ℕ → Type 0
Has t p x n = (phy_at t p ≡ x) × (t.changes ≡ n)

-- a phy that has originated Change, enabled or not, with all else as it was
abbrev pub change_originated : Phy → Bool → Phy
change_originated x enabled =
    phy_with x enabled x.errors x.monitors (originate x.change0) x.expander1 x.expander2

-- a phy with its four error counts at 0, and all else as it was
abbrev pub errorless : Phy → Phy
errorless x = phy_with x x.enabled (replicate 4 0) x.monitors x.change0 x.expander1 x.expander2

-- "00h none; 01h link reset enables the phy and originates Change; 03h disable originates Change only if the phy was enabled;
-- 05h sets the four error counts to 0." Change also moves the change count. There are as many phys as before, and no other phy,
-- nor any number under FFh, is another; nothing is stored.
pub record Controlled (s : Shelf) (p operation : ℕ) (t : Shelf) : Type 0 where
  pub only : OnlyPhy s p t
  pub none : operation ≡ 0x00 → t ≡ s
  pub link_reset : operation ≡ 0x01 → Has t p (change_originated (phy_at s p) true) (originate s.changes)
  pub disable : operation ≡ 0x03 → (phy_at s p).enabled ≡ true
      → Has t p (change_originated (phy_at s p) false) (originate s.changes)
  pub disabled_already : operation ≡ 0x03 → (phy_at s p).enabled ≡ false → t ≡ s
  pub clear_errors : operation ≡ 0x05 → Has t p (errorless (phy_at s p)) s.changes
  pub store : t.store ≡ s.store

-- an accepted 91h, of a phy that exists, does exactly this
pub controlled_effect : (s : Shelf) (frame : List ℕ) (expected p operation : ℕ) → Placed s → T (exists s p)
    → Controlled s p operation (effect s frame (PhyControl expected p operation))
unfolding effect doing controlled change_on
controlled_effect s frame expected p operation placed there =
    let (h, _) = phy_placed s p placed there in
    record {
      only = put_only s p _ _;
      none = λ e. rw (e, set-get_or);
      link_reset = λ e. rw e (put_same s p _ s.changes h, refl);
      disable = λ e on. rw (e, on) (put_same s p _ s.changes h, refl);
      disabled_already = λ e off. rw (e, off, set-get_or);
      clear_errors = λ e. rw e (put_same s p _ s.changes h, refl);
      store = controlled_stores s.store p operation (phy_at s p);
    }

-- no two shelves are left by one of the four operations
pub controlled_one_shelf : {s t u : Shelf} {p operation : ℕ} → Memᴰ operation known_operations
    → Controlled s p operation t → Controlled s p operation u → t ≡ u
controlled_one_shelf {s} {t} {u} {p} {operation} known a b =
    by_each (t ≡ u) operation known_operations known
    (λ e. a.none e ∙ sym (b.none e))
    (λ e. alike (a.link_reset e) (b.link_reset e))
    (λ e. disabled e (phy_at s p).enabled refl)
    (λ e. alike (a.clear_errors e) (b.clear_errors e))
  where
    alike : {x : Phy} {n : ℕ} → Has t p x n → Has u p x n → t ≡ u
    alike l r = same_shelf a.only b.only (cc) (cc) (a.store ∙ sym b.store)

    disabled : operation ≡ 0x03 → (on : Bool) → (phy_at s p).enabled ≡ on → t ≡ u
    disabled e true on = alike (a.disable e on) (b.disable e on)
    disabled e false off = a.disabled_already e off ∙ sym (b.disabled_already e off)
