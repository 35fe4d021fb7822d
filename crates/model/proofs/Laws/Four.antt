-- A list of four, as an array of four is to a proof: whatever is made of it is made of the four elements that the code reads. Assumes
-- nothing.
use native.Mathlib.Omega.{arith}
use mathlib.Core.Path.{◌≡◌, refl, sym, ap, ◌∙◌}
use mathlib.Core.List.{List, [], ◌∷◌}
use lib.ListN.{length, get_or}

abbrev pub first_four : {A : Type 0} → A → List A → List A
first_four d xs = get_or xs 0 d ∷ get_or xs 1 d ∷ get_or xs 2 d ∷ get_or xs 3 d ∷ []

four_elements : {A : Type 0} (d : A) (xs : List A) → length xs ≡ 4 → xs ≡ first_four d xs
four_elements d [] h = absurd (omega arith)
four_elements d (x ∷ []) h = absurd (omega arith)
four_elements d (x ∷ y ∷ []) h = absurd (omega arith)
four_elements d (x ∷ y ∷ z ∷ []) h = absurd (omega arith)
four_elements d (x ∷ y ∷ z ∷ w ∷ []) h = refl
four_elements d (x ∷ y ∷ z ∷ w ∷ v ∷ vs) h = absurd (omega arith)

-- The law: d stands past the end, f is what is made of the list, r what the code made of the elements.
pub four : {A B : Type 0} (d : A) (f : List A → B) (xs : List A) {r : B} → length xs ≡ 4 → r ≡ f (first_four d xs) → r ≡ f xs
four d f xs h e = e ∙ ap f (sym (four_elements d xs h))
