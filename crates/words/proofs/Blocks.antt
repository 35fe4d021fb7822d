-- Rows of blocks, whatever a block is: what is read of a row, what is laid, the same words again, what was laid is read again, a row laid
-- over another, one block laid anew, one block more. Each law is one induction, over a block's size, reader and writer, from what holds of
-- one block alone (`Block`, and `Fitting` for the widths of its words). `Pieces` has the blocks of a shelf. Assumes nothing.
use Prim.Native.Nat.{ℕ, zero, suc, ◌+◌, ◌*◌, ◌≤◌, ◌<◌}
use native.Mathlib.Nat.{add-zero, mul-zero, mul-suc}
use native.Mathlib.Omega.{arith}
use mathlib.Core.Path.{◌≡◌, refl, sym, ap, ◌∙◌}
use mathlib.Core.List.{List, [], ◌∷◌, ◌++◌, append_assoc, append-nil}
use lib.ListN.{length, get_or, set, take, drop, take-append-drop, length-append, length-drop}
use lib.Seq.{sets, sets-eq, drop-drop, drop_at, drop-set-lt, take-add, take-suc, get_or-drop, length-take-le}
use Rattle.model.proofs.Laws.Places.{All, sets_append}
use Rattle.words.specs.Memory.{WordsFit}
use Rattle.words.specs.Words.{row_of, row_over}

-- What a block must have: of `size` words, read by `of` and laid by `over`, where `Low` says that its narrow numbers are narrow. At place
-- 0 is enough, since it is read off its own words, and laid over them, alone.
pub record Block {A : Type 0} (size : ℕ) (of : List ℕ → ℕ → A) (over : List ℕ → ℕ → A → List ℕ) (Low : A → Type 0) : Type 0 where
  pub of_from : (ws : List ℕ) (at : ℕ) → of ws at ≡ of (drop at ws) 0
  pub over_from : (ws : List ℕ) (at : ℕ) (x : A) → over ws at x ≡ over (drop at ws) 0 x
  pub sized : (ws : List ℕ) (x : A) → length (over ws 0 x) ≡ size
  -- the same words again
  pub same : (ws : List ℕ) → size ≤ length ws → over ws 0 (of ws 0) ≡ take size ws
  -- what was laid is read, whatever stands behind it
  pub back : (ws rest : List ℕ) (x : A) → Low x → of (over ws 0 x ++ rest) 0 ≡ x
  -- and nothing of it is left where another is laid over it
  pub anew : (ws rest : List ℕ) (x y : A) → Low x → over (over ws 0 x ++ rest) 0 y ≡ over ws 0 y

-- What a block of words of 32 bits must have besides, where `Fit` says that all its numbers have their widths: such words stand for what
-- fits, and what fits is laid as such words.
pub record Fitting {A : Type 0} (of : List ℕ → ℕ → A) (over : List ℕ → ℕ → A → List ℕ) (Fit : A → Type 0) : Type 0 where
  pub stands : (ws : List ℕ) → WordsFit ws → Fit (of ws 0)
  pub laid : (ws : List ℕ) (x : A) → WordsFit ws → Fit x → WordsFit (over ws 0 x)

drop_fit : (ws : List ℕ) (at : ℕ) → WordsFit ws → WordsFit (drop at ws)
drop_fit ws at fit i = rw get_or-drop (fit (at + i))

pub append_fit : (xs ys : List ℕ) → WordsFit xs → WordsFit ys → WordsFit (xs ++ ys)
append_fit [] ys f g i = g i
append_fit (x ∷ xs) ys f g zero = f 0
append_fit (x ∷ xs) ys f g (suc i) = append_fit xs ys (λ j. f (suc j)) g i

-- values stored leave what stands behind them alone
sets_behind : (values xs : List ℕ) (p : ℕ) → drop (p + length values) (sets xs p values) ≡ drop (p + length values) xs
sets_behind [] xs p = refl
sets_behind (v ∷ values) xs p =
    let next : p + suc (length values) ≡ suc p + length values = omega arith in
    rw (next, sets_behind values (set xs p v) (suc p)) (drop-set-lt (suc p + length values) xs p v (omega arith))

-- the place behind p blocks of n words, and behind one more
module _ (n at p : ℕ) where
  none : at + n * 0 ≡ at
  none = rw (mul-zero, add-zero)

  more : at + n * suc p ≡ at + n + n * p
  more = omega (arith, mul-suc n p)

module _ {A : Type 0} {size : ℕ} {of : List ℕ → ℕ → A} {over : List ℕ → ℕ → A → List ℕ} {Low : A → Type 0} (b : Block size of over Low)
    (ws : List ℕ)
  where
    -- ---- One block, at any place

    pub size_at : (at : ℕ) (x : A) → length (over ws at x) ≡ size
    size_at at x = rw (b.over_from ws at x) (b.sized (drop at ws) x)

    same_at : (at : ℕ) → at + size ≤ length ws → over ws at (of ws at) ≡ take size (drop at ws)
    same_at at room = rw (b.over_from ws at (of ws at), b.of_from ws at) (b.same (drop at ws) (omega (arith, length-drop at ws)))

    pub stands_at : {Fit : A → Type 0} → Fitting of over Fit → WordsFit ws → (at : ℕ) → Fit (of ws at)
    stands_at w fit at = rw (b.of_from ws at) (w.stands (drop at ws) (drop_fit ws at fit))

    -- ---- What is read

    pub row_size : (n at : ℕ) → length (row_of size of n ws at) ≡ n
    row_size zero at = refl
    row_size (suc n) at = ap suc (row_size n (at + size))

    -- block p stands p times `size` words behind the first
    pub row_at : (n p at : ℕ) (d : A) → p < n → get_or (row_of size of n ws at) p d ≡ of ws (at + size * p)
    row_at zero p at d h = absurd (omega arith)
    row_at (suc n) zero at d h = rw (none size at 0)
    row_at (suc n) (suc p) at d h = rw (more size at p) (row_at n p (at + size) d (omega arith))

    pub row_each : (P : A → Type 0) → ((at : ℕ) → P (of ws at)) → (n at : ℕ) → All P (row_of size of n ws at)
    row_each P each zero at = tt
    row_each P each (suc n) at = (each at, row_each P each n (at + size))

    -- ---- What is laid

    pub row_laid_size : (at : ℕ) (xs : List A) → length (row_over size over ws at xs) ≡ size * length xs
    row_laid_size at [] = sym (mul-zero size)
    row_laid_size at (x ∷ xs) =
        rw (length-append (over ws at x) (row_over size over ws (at + size) xs), size_at at x, row_laid_size (at + size) xs)
        (omega (arith, mul-suc size (length xs)))

    pub row_laid : {Fit : A → Type 0} → Fitting of over Fit → WordsFit ws → (at : ℕ) (xs : List A) → All Fit xs
        → WordsFit (row_over size over ws at xs)
    row_laid w fit at [] f = λ i. omega arith
    row_laid w fit at (x ∷ xs) f =
        append_fit (over ws at x) (row_over size over ws (at + size) xs)
        (rw (b.over_from ws at x) (w.laid (drop at ws) x (drop_fit ws at fit) f.0))
        (row_laid w fit (at + size) xs f.1)

    pub row_append : (at : ℕ) (xs ys : List A)
        → row_over size over ws at (xs ++ ys) ≡ row_over size over ws at xs ++ row_over size over ws (at + size * length xs) ys
    row_append at [] ys = rw (none size at 0)
    row_append at (x ∷ xs) ys = rw (more size at (length xs), row_append (at + size) xs ys, append_assoc)

    -- ---- The same words again

    pub row_same : (n at : ℕ) → at + size * n ≤ length ws
        → row_over size over ws at (row_of size of n ws at) ++ drop (at + size * n) ws ≡ drop at ws
    row_same zero at room = rw (none size at 0)
    row_same (suc n) at room =
        let behind : at + size + size * n ≤ length ws = rw (more size at n) at room in
        rw (
          more size at n,
          append_assoc,
          row_same n (at + size) behind,
          same_at at (omega arith),
          ← drop-drop size at ws,
          take-append-drop size (drop at ws),
        )

    -- ---- What was laid is read again

    pub row_back : (xs : List A) (at i : ℕ) (vs rest : List ℕ) → All Low xs → drop i vs ≡ row_over size over ws at xs ++ rest
        → row_of size of (length xs) vs i ≡ xs
    row_back [] at i vs rest f e = refl
    row_back (x ∷ xs) at i vs rest f e =
        let others : List ℕ = row_over size over ws (at + size) xs ++ rest in
        let all : drop i vs ≡ over ws at x ++ others = e ∙ append_assoc (over ws at x) (row_over size over ws (at + size) xs) rest in
        let here : of vs i ≡ x = rw (b.of_from vs i, all, b.over_from ws at x) (b.back (drop at ws) others x f.0) in
        let behind : drop (i + size) vs ≡ others = rw (← drop-drop size i vs, all) (drop_at (over ws at x) others size (size_at at x)) in
        rw (here, row_back xs (at + size) (i + size) vs rest f.1 behind)

    -- ---- Laid over what was laid before, of which nothing is left

    pub row_anew : (xs ys : List A) (at : ℕ) (vs rest : List ℕ) → All Low xs → length ys ≤ length xs
        → drop at vs ≡ row_over size over ws at xs ++ rest → row_over size over vs at ys ≡ row_over size over ws at ys
    row_anew xs [] at vs rest f few e = refl
    row_anew [] (y ∷ ys) at vs rest f few e = absurd (omega arith)
    row_anew (x ∷ xs) (y ∷ ys) at vs rest f few e =
        let others : List ℕ = row_over size over ws (at + size) xs ++ rest in
        let all : drop at vs ≡ over ws at x ++ others = e ∙ append_assoc (over ws at x) (row_over size over ws (at + size) xs) rest in
        let here : over vs at y ≡ over ws at y =
        rw (b.over_from vs at y, all, b.over_from ws at x, b.over_from ws at y) (b.anew (drop at ws) others x y f.0) in
        let behind : drop (at + size) vs ≡ others = rw (← drop-drop size at vs, all) (drop_at (over ws at x) others size (size_at at x)) in
        rw (here, row_anew xs ys (at + size) vs rest f.1 (omega arith) behind)

    -- ---- One block laid anew

    pub row_set : (n p at : ℕ) (x : A) → p < n → at + size * n ≤ length ws
        → sets ws (at + size * p) (over ws (at + size * p) x)
        ≡ take at ws ++ row_over size over ws at (set (row_of size of n ws at) p x) ++ drop (at + size * n) ws
    row_set zero p at x below room = absurd (omega arith)
    row_set (suc n) zero at x below room =
        let behind : at + size + size * n ≤ length ws = rw (more size at n) at room in
        rw (
          none size at 0,
          more size at n,
          append_assoc,
          append_assoc,
          row_same n (at + size) behind,
          sets-eq (over ws at x) ws at (omega (arith, size_at at x)),
          size_at at x,
          append_assoc,
        )
    row_set (suc n) (suc p) at x below room =
        let behind : at + size + size * n ≤ length ws = rw (more size at n) at room in
        rw (
          more size at p,
          more size at n,
          row_set n p (at + size) x (omega arith) behind,
          same_at at (omega arith),
          take-add at size ws,
        )
        (simp append_assoc)

    -- ---- One block more: where the first p are laid, the words with the next one stored are those with one more laid

    pub row_more : (at p : ℕ) (xs : List A) (d : A) → p < length xs
        → {now : List ℕ} → now ≡ sets ws at (row_over size over ws at (take p xs))
        → sets now (at + size * p) (over now (at + size * p) (get_or xs p d)) ≡ sets ws at (row_over size over ws at (take (suc p) xs))
    row_more at p xs d below {now} e =
        let n : ℕ = at + size * p in
        let x : A = get_or xs p d in
        let done : List ℕ = row_over size over ws at (take p xs) in
        let first : length (take p xs) ≡ p = length-take-le p xs (omega arith) in
        let there : n ≡ at + length done = rw (row_laid_size at (take p xs), first) in
        let rest : drop n now ≡ drop n ws = rw (e, there) (sets_behind done ws at) in
        let same : over now n x ≡ over ws n x = rw (b.over_from now n x, rest, ← b.over_from ws n x) in
        let laid : row_over size over ws at (take (suc p) xs) ≡ done ++ over ws n x =
        rw (take-suc xs p d below, row_append at (take p xs) (x ∷ []), first, append-nil) in
        rw (same, e, laid) (ap (λ k. sets (sets ws at done) k (over ws n x)) there ∙ sets_append ws done (over ws n x) at)
