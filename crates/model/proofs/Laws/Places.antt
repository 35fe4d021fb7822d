-- What holds at each place of a list, past the end too: a change at one place, a change of every element and a run of stores keep it.
-- Assumes nothing.
use Prim.Native.Nat.{ℕ, zero, suc, ◌+◌, ◌<◌}
use native.Mathlib.Nat.{add-zero, add-suc, suc-add}
use native.Mathlib.Omega.{arith}
use mathlib.Core.Path.{◌≡◌, refl, ap, ◌∙◌}
use mathlib.Core.List.{List, [], ◌∷◌, ◌++◌, map}
use lib.ListN.{length, get_or, set, take, drop, replicate}
use lib.Seq.{sets, get_or-set_other}

-- of each element, one after another
abbrev pub All : {A : Type 0} → (A → Type 0) → List A → Type 0
All P [] = Unit {0}
All P (x ∷ xs) = P x × All P xs

pub all_append : {A : Type 0} (P : A → Type 0) (xs ys : List A) → All P xs → All P ys → All P (xs ++ ys)
all_append P [] ys first then = then
all_append P (x ∷ xs) ys first then = (first.0, all_append P xs ys first.1 then)

-- within a list it does not matter what would stand past its end
pub any_default : {A : Type 0} (xs : List A) (i : ℕ) (d e : A) → i < length xs → get_or xs i d ≡ get_or xs i e
any_default [] i d e h = absurd (omega (arith, h))
any_default (x ∷ xs) zero d e h = refl
any_default (x ∷ xs) (suc i) d e h = any_default xs i d e (omega (arith, h))

module _ {A : Type 0} (P : A → Type 0) (d : A) where
  -- at each place; past the end stands d
  abbrev pub Each : List A → Type 0
  Each xs = (i : ℕ) → P (get_or xs i d)

  pub all_each : (xs : List A) → P d → All P xs → Each xs
  all_each [] past all i = past
  all_each (x ∷ xs) past all zero = all.0
  all_each (x ∷ xs) past all (suc i) = all_each xs past all.1 i

  pub each_all : (xs : List A) → Each xs → All P xs
  each_all [] each = tt
  each_all (x ∷ xs) each = (each 0, each_all xs (λ i. each (suc i)))

  -- of each of the first n elements, and at each place from n on
  pub cut_each : (n : ℕ) (xs : List A) → All P (take n xs) → Each (drop n xs) → Each xs
  cut_each zero xs front back i = back i
  cut_each (suc n) [] front back i = back i
  cut_each (suc n) (x ∷ xs) front back zero = front.0
  cut_each (suc n) (x ∷ xs) front back (suc i) = cut_each n xs front.1 back i

  pub replicate_each : (n : ℕ) → P d → Each (replicate n d)
  replicate_each zero here i = here
  replicate_each (suc n) here zero = here
  replicate_each (suc n) here (suc i) = replicate_each n here i

  -- another element at one place, made from the one that was there
  pub change_at : (h : A → A) → ((x : A) → P x → P (h x)) → (xs : List A) (p i : ℕ)
      → P (get_or xs i d) → P (get_or (set xs p (h (get_or xs p d))) i d)
  change_at h keeps [] p i here = here
  change_at h keeps (x ∷ xs) zero zero here = keeps x here
  change_at h keeps (x ∷ xs) zero (suc i) here = here
  change_at h keeps (x ∷ xs) (suc p) zero here = here
  change_at h keeps (x ∷ xs) (suc p) (suc i) here = change_at h keeps xs p i here

  -- each element changed
  pub map_at : (h : A → A) → ((x : A) → P x → P (h x)) → (xs : List A) (i : ℕ)
      → P (get_or xs i d) → P (get_or (map h xs) i d)
  map_at h keeps [] i here = here
  map_at h keeps (x ∷ xs) zero here = keeps x here
  map_at h keeps (x ∷ xs) (suc i) here = map_at h keeps xs i here

  -- values stored from place p on
  pub sets_each : (values xs : List A) (p : ℕ) → All P values → Each xs → Each (sets xs p values)
  sets_each [] xs p all each = each
  sets_each (v ∷ values) xs p all each =
      sets_each values (set xs p v) (suc p) all.1 (λ i. change_at (λ x. v) (λ x px. all.0) xs p i (each i))

-- they leave the places before p alone
pub sets_before : {A : Type 0} (values xs : List A) (p i : ℕ) (d : A) → i < p
    → get_or (sets xs p values) i d ≡ get_or xs i d
sets_before [] xs p i d h = refl
sets_before (v ∷ values) xs p i d h =
    sets_before values (set xs p v) (suc p) i d (omega arith) ∙ get_or-set_other xs p i v d (λ e. omega arith)

-- values stored behind values are all stored from the first place on
pub sets_append : {A : Type 0} (xs values others : List A) (p : ℕ)
    → sets (sets xs p values) (p + length values) others ≡ sets xs p (values ++ others)
sets_append xs [] others p = rw add-zero
sets_append xs (v ∷ values) others p = rw (add-suc, ← suc-add) (sets_append (set xs p v) values others (suc p))

-- a change of every element goes through a store
pub map_set : {A B : Type 0} (f : A → B) (xs : List A) (i : ℕ) (x : A) → map f (set xs i x) ≡ set (map f xs) i (f x)
map_set f [] i x = refl
map_set f (y ∷ xs) zero x = refl
map_set f (y ∷ xs) (suc i) x = ap (λ ys. f y ∷ ys) (map_set f xs i x)
