-- An array that a closure makes of its indexes, where no call changes what the closure captures. Assumes nothing.
use Prim.Native.Nat.{ℕ, zero, suc, ◌+◌}
use native.Mathlib.Nat.{zero-add}
use native.Mathlib.Numerals.{add-one}
use native.Mathlib.Omega.{arith}
use mathlib.Core.Path.{◌≡◌, refl, sym, subst, ◌∙◌}
use mathlib.Core.List.{List, map}
use lib.ListN.{length, drop, drop_of_length-le}
use lib.Seq.{drop-cons}
use denote.Param.Members.{Mut, Called}
use Rattle.std.specs.Array.{IsFromFnResult, IsFromFnResultFrom}
use Rattle.std.specs.List.{range_with_len}

module _ {F B : Type 0} (g : Mut F (ℕ × Unit {0}) B) (f : F) (of : ℕ → B)
    (kept : (i : ℕ) (y : B) (q : F) → Called g f (i, tt) y q → (q ≡ f) × (y ≡ of i))
  where
    made_from : (n i : ℕ) (ys : List B) → length ys ≡ i + n → IsFromFnResultFrom g f ys i n → drop i ys ≡ map of (range_with_len i n)
    made_from zero i ys long r = drop_of_length-le ys {i = i} (omega arith)
    made_from (suc n) i ys long r =
        let here : (r.0 ≡ f) × (r.1 ≡ of i) = kept i r.1 r.0 r.3 in
        let others = made_from n (i + 1) ys (omega arith) (subst (λ p. IsFromFnResultFrom g p ys (i + 1) n) here.0 r.4) in
        rw (drop-cons ys i r.1 (omega arith), r.2.0, here.1, ← add-one i, others) refl

    pub made_is : (n : ℕ) (ys : List B) → IsFromFnResult g f ys n → ys ≡ map of (range_with_len 0 n)
    made_is n ys r = made_from n 0 ys (r.long ∙ sym (zero-add n)) r.each
