-- #101: what a request for the list of stored peak events, 21h, is given: none, the entries from its starting index on, or all; and that
-- group 1 gets this in its answer. (What other groups get: `Strangers`.) Assumes nothing.
use Rattle.std.specs.Prelude.{Ok}
use Prim.Native.Nat.{ℕ, ◌+◌, ◌-◌, ◌≤◌, ◌<◌}
use native.Mathlib.Omega.{arith}
use mathlib.Core.Path.{◌≡◌, refl, sym, ap, ◌∙◌}
use mathlib.Core.Bool.{Bool, true, false}
use mathlib.Core.Logic.{◌⊎◌, inl, inr}
use mathlib.Core.List.{List, [], ◌++◌}
use lib.Dec.{ltb}
use borrow.Author.Tests.{ltb-true, ltb-false}
use lib.ListN.{length, get_or, drop}
use Rattle.model.specs.declared.Request.TheVariants.{ReportPhyEventList}
use Rattle.model.specs.declared.Shelf.{Shelf}
use Rattle.model.specs.declared.Store.{Store}
use Rattle.model.specs.Bytes.{byte, word}
use Rattle.model.specs.Reply.{report_phy_event_list, respond}
use Rattle.model.specs.Request.{function_of, known, length_right, asked}
use Rattle.model.specs.Results.{result_code}
use Rattle.model.specs.Server.{served, lent_after}
use Rattle.model.specs.Store.{kept, entries, indexes, first_returned, returned}
use Rattle.model.specs.Writes.{doing, effect}
use Rattle.model.proofs.Demands.Results.{verdict_checks, NotRefused, result_byte, Granted, granted_result}
use Rattle.model.proofs.Laws.Handled.{verdict}
use Rattle.model.proofs.Plain.EventList.{at_start, kept_last, start_none, empty_none, start_stored, start_not_stored}
use Rattle.model.proofs.Plain.Store.{kept_few, entries_length, Index, far, back_far, up_to_at}

-- ---- What is given, of any store whose last index has 16 bits

module _ (k : Store) (fits : k.last ≤ 0xFFFF) (start : ℕ) where
  -- "A start of 0000h, or an empty store, returns index 0000h and none."
  pub given_none : (start ≡ 0x0000) ⊎ (length (entries k) ≡ 0) → (first_returned k start ≡ 0x0000) × (returned k start ≡ [])
  given_none (inl e) = start_none k fits start e
  given_none (inr e) = empty_none k fits start (sym (entries_length k) ∙ e)

  module _ (index : Index start) where
    -- a start that is stored: from it to the newest
    pub given_from : (i : ℕ) → i < length (entries k) → get_or (indexes k) i 0x0000 ≡ start
        → (first_returned k start ≡ start) × (returned k start ≡ drop i (entries k))
    unfolding indexes
    given_from i below e =
        let l : i < kept k = rw (entries_length k) at below in
        let last : Index k.last = (kept_last k (omega arith), fits) in
        let all : i + 1 + far k.last start ≡ kept k = at_start (kept k) k.last start last index (kept_few k) i l e in
        let (first, rest) = start_stored k fits start index (omega arith) (omega arith) in
        (first, rest ∙ ap (λ n. drop n (entries k)) (let z : kept k - 1 - far k.last start ≡ i = omega arith in z))

    -- a start that is not stored: the whole store, from the oldest
    pub given_all : 1 ≤ length (entries k) → ((i : ℕ) → i < length (entries k) → get_or (indexes k) i 0x0000 ≡ start → ⊥)
        → (first_returned k start ≡ get_or (indexes k) 0 0x0000) × (returned k start ≡ entries k)
    unfolding indexes
    given_all some out = go (ltb (far k.last start) (kept k)) refl
      where
        kept_some : 1 ≤ kept k
        kept_some = rw (entries_length k) at some

        last : Index k.last
        last = (kept_last k kept_some, fits)

        go : (b : Bool) → ltb (far k.last start) (kept k) ≡ b
            → (first_returned k start ≡ get_or (indexes k) 0 0x0000) × (returned k start ≡ entries k)
        go true l =
            let near : far k.last start < kept k = ltb-true (far k.last start) (kept k) l in
            let i : ℕ = kept k - 1 - far k.last start in
            absurd
            (out i (rw (entries_length k) (let z : i < kept k = omega arith in z))
            (up_to_at (kept k) k.last i (far k.last start) last (kept_few k) (omega arith) ∙ back_far k.last start last index))
        go false l =
            let (first, rest) = start_not_stored k fits start index kept_some (ltb-false (far k.last start) (kept k) l) in
            (first ∙ sym (up_to_at (kept k) k.last 0 (kept k - 1) last (kept_few k) (omega (arith, kept_some))), rest)

-- ---- The answer to group 1

-- the response to a 21h, "starting index in 6 and 7"
abbrev pub list_for : Shelf → List ℕ → List ℕ
list_for s frame = report_phy_event_list s.changes s.store (word frame 6)

-- it stands at the front of the buffer, the old rest behind it, and the shelf stays
pub record ListGiven (s : Shelf) (frame out : List ℕ) : Type 0 where
  pub told : (served s 1 frame out).answer ≡ Ok (length (list_for s frame))
  pub left : lent_after s 1 frame out ≡ list_for s frame ++ drop (length (list_for s frame)) out
  pub stays : (served s 1 frame out).shelf ≡ s

list_right : (frame : List ℕ) → function_of frame ≡ 0x21 → length frame ≡ 8 → byte frame 3 ≡ 0x01 → length_right frame ≡ true
unfolding length_right
list_right frame e size byte_3 = rw (e, size, byte_3)

list_passes : (s : Shelf) (frame : List ℕ) → function_of frame ≡ 0x21 → length_right frame ≡ true → result_code (verdict s 1 frame) ≡ 0x00
unfolding known
list_passes s frame e right = rw (verdict_checks s 1 frame, e, right)

-- "The request has 8 bytes, length 01h": where it draws no house refusal, it is answered
pub list_given : (s : Shelf) (frame out : List ℕ) → NotRefused s 1 frame out → function_of frame ≡ 0x21 → length frame ≡ 8
    → byte frame 3 ≡ 0x01 → ListGiven s frame out
unfolding asked respond effect doing
list_given s frame out answered e size byte_3 =
    let asks : asked frame ≡ ReportPhyEventList (word frame 6) = rw e in
    let accepted : result_code (verdict s 1 frame) ≡ 0x00 = list_passes s frame e (list_right frame e size byte_3) in
    let given : Granted s 1 frame out = granted_result s 1 frame out answered (result_byte s 1 frame out answered ∙ accepted) in
    record {
      told = given.told ∙ ap (λ request. Ok (length (respond s 1 request))) asks;
      left = given.left ∙ ap (λ request. respond s 1 request ++ drop (length (respond s 1 request)) out) asks;
      stays = given.moves ∙ ap (effect s frame) asks;
    }
