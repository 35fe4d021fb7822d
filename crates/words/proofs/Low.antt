-- The low bits of a word, however many they are: the number that is read, put back, changes nothing; another number is read again, and the
-- word has 32 bits as before. A bool is the number 1 or 0. Assumes nothing.
use Prim.Native.Nat.{ℕ, zero, suc, ◌*◌, ◌/◌, ◌%◌, ◌≤◌, ◌<◌}
use native.Mathlib.Nat.{div-add-mod', mul-add-mod_self_right, mod-eq_of_lt, suc-mul, mul-le-mul_right, div-lt_iff_lt-mul}
use native.Mathlib.Omega.{arith}
use mathlib.Core.Path.{◌≡◌, refl, ◌∙◌}
use mathlib.Core.Bool.{Bool, true, false, cond}
use lib.Dec.{eqb}
use Rattle.words.specs.Words.{low_set}

-- ---- a number below `size`

pub low_same : (size w : ℕ) → low_set size w (w % size) ≡ w
low_same size w = div-add-mod' w size

pub low_back : (size w n : ℕ) → n < size → low_set size w n % size ≡ n
low_back size w n below = mul-add-mod_self_right (w / size) size n ∙ mod-eq_of_lt below

-- a number laid over one that was laid before: nothing is left of that one
pub low_anew : (size w n m : ℕ) → n < size → low_set size (low_set size w n) m ≡ low_set size w m
low_anew size w n m below = omega (arith, low_same size (low_set size w n), low_back size w n below)

-- where `size` divides 2 ^ 32
pub low_fits : (size w n : ℕ) → 0x100000000 / size * size ≡ 0x100000000 → w ≤ 0xFFFFFFFF → n < size → low_set size w n ≤ 0xFFFFFFFF
low_fits size w n whole h below =
    let k : ℕ = 0x100000000 / size in
    let inside : w / size < k = (div-lt_iff_lt-mul {k = size} {x = w} {y = k} (omega arith)).1 (omega arith) in
    omega (arith, mul-le-mul_right size inside, suc-mul (w / size) size)

-- ---- a bool

pub bit_below : (b : Bool) → cond b 1 0 < 2
bit_below true = omega arith
bit_below false = omega arith

pub bit_back : (b : Bool) → eqb (cond b 1 0) 1 ≡ b
bit_back true = refl
bit_back false = refl

bit_is : (r : ℕ) → r < 2 → cond (eqb r 1) 1 0 ≡ r
bit_is zero h = refl
bit_is (suc zero) h = refl
bit_is (suc (suc r)) h = absurd (omega arith)

pub bit_same : (w : ℕ) → cond (eqb (w % 2) 1) 1 0 ≡ w % 2
bit_same w = bit_is (w % 2) (omega arith)
