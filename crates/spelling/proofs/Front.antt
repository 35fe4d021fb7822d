-- The bytes that the text of `spell` begins with, and what stands behind them. Assumes nothing.
use Prim.Native.Nat.{ℕ, ◌+◌, ◌*◌, ◌/◌, ◌%◌, ◌<◌, ◌≤◌, min}
use native.Mathlib.Numerals.{add-one}
use native.Mathlib.Omega.{arith, min_cases}
use mathlib.Core.Path.{◌≡◌, ap, sym, ◌∙◌}
use mathlib.Core.List.{List, [], ◌∷◌, ◌++◌, append_assoc}
use lib.ListN.{length, take, drop, set, get_or, length-set, take-append-drop}
use lib.Seq.{take_all, take-length, take-suc-set, drop-drop, drop-set-lt}
use Rattle.std.specs.List.{flat_map}
use Rattle.std.proofs.lemmas.List.{flat_map_more, take_more}
use Rattle.model.specs.Server.{over}
use Rattle.spelling.specs.Part.{Counts}
use Rattle.spelling.specs.Spelling.{hex_digit, byte_text, response_text}

-- there are no more to take than there are
take_min : (k : ℕ) (l : List ℕ) → take (min k (length l)) l ≡ take k l
take_min k l =
    min_cases k (length l) _ (λ fewer e. rw e) (λ more e. rw (e, take-length l, take_all k l more))

-- one store after those that were taken
take_store : (l : List ℕ) (n a : ℕ) → n < length l → take (n + 1) (set l n a) ≡ take n l ++ (a ∷ [])
take_store l n a h = rw (add-one, take-suc-set l n a h)

-- three of them
three_stores : (l : List ℕ) (n a b c : ℕ) → n + 3 ≤ length l
    → take (n + 3) (set (set (set l n a) (n + 1) b) (n + 2) c) ≡ take n l ++ (a ∷ b ∷ c ∷ [])
three_stores l n a b c h =
    let e3 : n + 3 ≡ (n + 2) + 1 = omega arith in
    let e2 : n + 2 ≡ (n + 1) + 1 = omega arith in
    rw (
      e3,
      take_store (set (set l n a) (n + 1) b) (n + 2) c (simp length-set (omega arith)),
      e2,
      take_store (set l n a) (n + 1) b (simp length-set (omega arith)),
      take_store l n a (omega arith),
    )
    (simp append_assoc)

-- one byte of a response is spelled
pub spell_turn : (text response : List ℕ) (i : ℕ) → 3 * i + 3 ≤ length text → i < length response
    → take (3 * i) text ≡ flat_map byte_text (take i response)
    → take (3 * (i + 1))
    (set (set (set text (3 * i) 0x20) (3 * i + 1) (hex_digit (get_or response i 0 / 16))) (3 * i + 2)
    (hex_digit (get_or response i 0 % 16)))
    ≡ flat_map byte_text (take (i + 1) response)
spell_turn text response i h k so_far =
    let e : 3 * (i + 1) ≡ 3 * i + 3 = omega arith in
    rw (e, three_stores text (3 * i) _ _ _ h, so_far, take_more response i 0 k)
    (flat_map_more byte_text [] (take i response) (get_or response i 0))

-- the newline after the last
pub spell_end : (text response : List ℕ) (i n : ℕ) → i ≡ n → n ≡ min 1364 (length response) → 3 * n < length text
    → take (3 * i) text ≡ flat_map byte_text (take i response)
    → take (3 * n + 1) (set text (3 * n) 0x0A) ≡ response_text response
spell_end text response i n all most h so_far =
    let spelled : take (3 * n) text ≡ flat_map byte_text (take n response) = rw all at so_far in
    let taken : take n response ≡ take 1364 response = rw most (take_min 1364 response) in
    rw (take_store text (3 * n) 0x0A h, spelled, taken)

-- what stands behind the text: from a place on as it was, it is so from a later place on
rest_later : (now old : List ℕ) (m k : ℕ) → drop m now ≡ drop m old → drop (m + k) now ≡ drop (m + k) old
rest_later now old m k same = sym (drop-drop k m now) ∙ ap (drop k) same ∙ drop-drop k m old

-- the three stores of one byte leave what stands behind them
pub turn_rest : (text old : List ℕ) (i a b c : ℕ) → drop (3 * i) text ≡ drop (3 * i) old
    → drop (3 * (i + 1)) (set (set (set text (3 * i) a) (3 * i + 1) b) (3 * i + 2) c) ≡ drop (3 * (i + 1)) old
turn_rest text old i a b c same =
    let e : 3 * (i + 1) ≡ 3 * i + 3 = omega arith in
    rw e
    (drop-set-lt (3 * i + 3) _ (3 * i + 2) c (omega arith)
    ∙ drop-set-lt (3 * i + 3) _ (3 * i + 1) b (omega arith)
    ∙ drop-set-lt (3 * i + 3) text (3 * i) a (omega arith)
    ∙ rest_later text old (3 * i) 3 same)

-- and so does the newline
pub end_rest : (text old : List ℕ) (i n : ℕ) → i ≡ n → drop (3 * i) text ≡ drop (3 * i) old
    → drop (3 * n + 1) (set text (3 * n) 0x0A) ≡ drop (3 * n + 1) old
end_rest text old i n all same =
    let same_n : drop (3 * n) text ≡ drop (3 * n) old = rw all at same in
    drop-set-lt (3 * n + 1) text (3 * n) 0x0A (omega arith) ∙ rest_later text old (3 * n) 1 same_n

-- What is promised of a text settles its size and all of it: the bytes that are spelled, and behind them what was there.
pub size_settled : (n : ℕ) (text bytes : List ℕ) → Counts n text → take n text ≡ bytes → n ≡ length bytes
size_settled n text bytes size spelled = size.1 ∙ ap length spelled

pub text_settled : (n : ℕ) (text old bytes : List ℕ) → Counts n text → take n text ≡ bytes → drop n text ≡ drop n old
    → text ≡ over old bytes
text_settled n text old bytes size spelled rest =
    let n_is : n ≡ length bytes = size_settled n text bytes size spelled in
    sym (take-append-drop n text) ∙ rw (spelled, rest, n_is)
