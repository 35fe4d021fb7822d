-- What a change of phy p leaves alone: every other phy, the phy number, the table, the identifier and the counts under FFh. A change of
-- any count leaves the phy number, the table and the identifier. And what settles a shelf of which one phy was changed. Assumes nothing.
use Prim.Native.Nat.{ℕ, ◌<◌}
use mathlib.Core.Path.{◌≡◌, refl, sym, ◌∙◌}
use mathlib.Core.Bool.{Bool, true, false}
use mathlib.Core.List.{List}
use borrow.Author.Tests.{eqb-true, eqb-false}
use lib.Dec.{eqb}
use lib.ListN.{length, length-set}
use lib.Seq.{ext_get_or, get_or-set_same, get_or-set_other}
use Rattle.model.specs.declared.Phy.{Phy}
use Rattle.model.specs.declared.Shelf.{Shelf}
use Rattle.model.specs.declared.Store.{Store}
use Rattle.model.specs.Shelf.{no_phy, phy_at, shelf_with, put, put_store}

-- what no operation changes
pub record SameFixed (s t : Shelf) : Type 0 where
  pub number : t.number ≡ s.number
  pub table : t.table ≡ s.table
  pub identifier : t.identifier ≡ s.identifier

-- there are as many phys as before, and nothing but phy p, and perhaps the change count and the stored peak events, is another
pub record OnlyPhy (s : Shelf) (p : ℕ) (t : Shelf) : Type 0 where
  pub fixed : SameFixed s t
  pub size : length t.phys ≡ length s.phys
  pub others : (q : ℕ) → (q ≡ p → ⊥) → phy_at t q ≡ phy_at s q
  pub expander3 : t.expander3 ≡ s.expander3
  pub ses0 : t.ses0 ≡ s.ses0

-- of a shelf with other phys and counts, and so of the shelf itself, of `put` and of `put_device`
pub with_fixed : (s : Shelf) {phys : List Phy} {changes expander3 ses0 : ℕ} {store : Store}
    → SameFixed s (shelf_with s phys changes expander3 ses0 store)
with_fixed s = record { number = refl; table = refl; identifier = refl }

pub same_only : (s : Shelf) (p : ℕ) → OnlyPhy s p s
same_only s p = record { fixed = with_fixed s; size = refl; others = λ q apart. refl; expander3 = refl; ses0 = refl }

-- Two shelves that differ from s in phy p, in the change count and in the stored peak events at most, and agree in these, are one.
pub same_shelf : {s t u : Shelf} {p : ℕ} → OnlyPhy s p t → OnlyPhy s p u
    → phy_at t p ≡ phy_at u p → t.changes ≡ u.changes → t.store ≡ u.store → t ≡ u
same_shelf {s} {t} {u} {p} a b same count stored =
    let phys : t.phys ≡ u.phys =
    ext_get_or no_phy t.phys u.phys (a.size ∙ sym b.size) (λ q h. at q (eqb q p) refl) in
    let whole : (r : Shelf) → r ≡ shelf_with r r.phys r.changes r.expander3 r.ses0 r.store = λ r. refl in
    cc (whole t, whole u)
  where
    at : (q : ℕ) (here : Bool) → eqb q p ≡ here → phy_at t q ≡ phy_at u q
    at q true e = rw (eqb-true q p e) same
    at q false e = a.others q (eqb-false q p e) ∙ sym (b.others q (eqb-false q p e))

-- of `put`, whatever is stored besides
module _ (s : Shelf) (p : ℕ) (x : Phy) (count : ℕ) where
  pub put_same : p < length s.phys → phy_at (put s p x count) p ≡ x
  put_same h = get_or-set_same s.phys p x no_phy h

  pub put_other : (q : ℕ) → (q ≡ p → ⊥) → phy_at (put s p x count) q ≡ phy_at s q
  put_other q apart = get_or-set_other s.phys p q x no_phy apart

  pub put_only : {store : Store} → OnlyPhy s p (put_store (put s p x count) store)
  put_only =
      record { fixed = with_fixed s; size = length-set s.phys p x; others = put_other; expander3 = refl; ses0 = refl }
