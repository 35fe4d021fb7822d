-- Lists in rising order, by a key: each entry's key is below those of all that come after it, so no key comes twice. Assumes nothing.
use Prim.Native.Nat.{ℕ, ◌<◌}
use mathlib.Core.Path.{refl}
use mathlib.Core.Logic.{⊎_elim}
use mathlib.Core.List.Memᴰ
use mathlib.Core.List.{List, [], ◌∷◌, ◌++◌, Memᴰ}

abbrev pub Rising : {A : Type 0} → (A → ℕ) → List A → Type 0
Rising key [] = Unit {0}
Rising {A} key (x ∷ xs) = ((y : A) → Memᴰ y xs → key x < key y) × Rising key xs

module _ {A : Type 0} (key : A → ℕ) where
  pub rising_one : (x : A) → Rising key (x ∷ [])
  rising_one x = (λ y m. absurd (Memᴰ.not-nil m), tt)

  -- one rising list after another, where all of the first are below all of the second
  pub rising_append : (xs ys : List A) → Rising key xs → Rising key ys
      → ((x y : A) → Memᴰ x xs → Memᴰ y ys → key x < key y) → Rising key (xs ++ ys)
  rising_append [] ys rx ry below = ry
  rising_append (x ∷ xs) ys rx ry below = (
    λ y m.
        ⊎_elim (λ mx. rx.0 y mx) (λ my. below x y (Memᴰ.head refl) my) (Memᴰ.append_cases xs m),
    rising_append xs ys rx.1 ry (λ x' y mx my. below x' y (Memᴰ.tail mx) my),
  )
