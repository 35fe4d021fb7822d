-- Demands 1 and 2, the function results: document 01's list, when each failure is there, on the frame's bytes; the first of them in the
-- document's order decides; and what a failed result leaves. Assumes nothing.
use Rattle.std.specs.Prelude.{Ok, Err, is_none}
use Prim.Native.Nat.{ℕ, ◌≤◌, ◌<◌}
use native.Mathlib.Omega.{arith}
use mathlib.Core.Path.{◌≡◌, refl, sym, ap, ◌∙◌}
use mathlib.Core.Logic.Iff
use mathlib.Core.Logic.{◌↔◌, ◌⊎◌}
use mathlib.Core.Bool.{Bool, true, false, not, ◌||◌}
use mathlib.Core.List.{List, [], ◌∷◌, ◌++◌, Memᴰ}
use borrow.Author.Tests.{eqb-true, eq-eqb, ne_eqb}
use lib.Dec.{T, leb, eqb}
use lib.ListN.{length, drop, get_or-append}
use Rattle.model.specs.declared.Failure.TheVariants.{UnknownSmpFunction, InvalidRequestFrameLength}
use Rattle.model.specs.declared.Request.{Request}
use Rattle.model.specs.declared.Shelf.{Shelf}
use Rattle.model.specs.Bytes.{byte, word}
use Rattle.model.specs.House.{answer_number}
use Rattle.model.specs.Reach.{reaches}
use Rattle.model.specs.Reply.{failed, respond}
use Rattle.model.specs.Request.{function_of, asked, known, length_right, descriptor_source, first_unsupported}
use Rattle.model.specs.Results.{result_code, accepted, grounds, count_right, known_operation, result_of, decide}
use Rattle.model.specs.Server.{Sends, answer, lent, handle, served, lent_after}
use Rattle.model.specs.Shelf.{exists}
use Rattle.model.specs.Sources.{supported}
use Rattle.model.specs.Tests.{check, one_of}
use Rattle.model.specs.Writes.{effect}
use Rattle.model.proofs.Demands.Frames.{Framed, request_function, respond_framed}
use Rattle.model.proofs.Laws.Checks.{house_some}
use Rattle.model.proofs.Laws.Drawn.{Draws, first_failure, Tell, nothing, tell, draws_first, AllPass, passes_all}
use Rattle.model.proofs.Laws.Handled.{verdict, granted, concluded, both_handled, concluded_all}
use Rattle.model.proofs.Laws.Tests.{fails_under_iff, leb_iff, eqb_iff, one_of_iff, check_map}
use Rattle.model.proofs.Plain.Request.{RightLength, known_iff, by_function, length_right_lem, allowed_iff}
use Rattle.model.proofs.Plain.Request.{none_unsupported}
use Rattle.model.proofs.Plain.Results.{count_right_lem, known_operation_lem}

-- ---- "In this order, first failure decides": the list, an entry to a code

-- a frame of one of these functions
abbrev pub Of : List ℕ → List ℕ → Type 0
Of functions frame = Memᴰ (function_of frame) functions

-- each of the d descriptors, d in byte 11, has the source 00h or a supported one
abbrev pub SourcesAllowed : List ℕ → Type 0
SourcesAllowed frame =
    (i : ℕ) → i < byte frame 11 → (descriptor_source frame i ≡ 0x00) ⊎ T (supported (descriptor_source frame i))

abbrev pub failures : Shelf → ℕ → List ℕ → List (ℕ × Type 0)
failures s g frame =
    -- 1. "01h UNKNOWN SMP FUNCTION: not 00h, 01h, 06h, 11h, 14h, 91h or 93h." #101: "function 21h joins the known functions".
    (0x01, Of (0x00 ∷ 0x01 ∷ 0x06 ∷ 0x11 ∷ 0x14 ∷ 0x21 ∷ 0x91 ∷ 0x93 ∷ []) frame → ⊥)
    -- 2. "03h INVALID REQUEST FRAME LENGTH: byte 3 or the frame's true length is not as below."
    ∷ (0x03, RightLength frame → ⊥)
    -- #101: "result 21h NO MANAGEMENT ACCESS RIGHTS for other sources comes directly after 03h"
    ∷ (0x21, Of (0x21 ∷ []) frame × (g ≡ 1 → ⊥))
    -- 3. "04h INVALID EXPANDER CHANGE COUNT: 91h and 93h, when bytes 4 and 5 are neither 0000h nor the present count."
    ∷ (0x04, Of (0x91 ∷ 0x93 ∷ []) frame × (Memᴰ (word frame 4) (0x0000 ∷ s.changes ∷ []) → ⊥))
    -- 4. "10h PHY DOES NOT EXIST (functions with a phy, byte 9)."
    ∷ (0x10, Of (0x11 ∷ 0x14 ∷ 0x91 ∷ 0x93 ∷ []) frame × (T (exists s (byte frame 9)) → ⊥))
    -- 5. "Not reached: 16h PHY VACANT for 11h and 14h, 20h SMP ZONE VIOLATION for 91h and 93h."
    ∷ (0x16, Of (0x11 ∷ 0x14 ∷ []) frame × (T (reaches s g (byte frame 9)) → ⊥))
    ∷ (0x20, Of (0x91 ∷ 0x93 ∷ []) frame × (T (reaches s g (byte frame 9)) → ⊥))
    -- 6. "Contents: 13h UNKNOWN PHY OPERATION (91h, any operation not named below);"
    ∷ (0x13, Of (0x91 ∷ []) frame × (Memᴰ (byte frame 10) (0x00 ∷ 0x01 ∷ 0x03 ∷ 0x05 ∷ []) → ⊥))
    -- "02h SMP FUNCTION FAILED for a broadcast type above 0Fh (06h) or more than four descriptors (93h);"
    ∷ (0x02, Of (0x06 ∷ []) frame × (byte frame 2 ≤ 0x0F → ⊥))
    ∷ (0x02, Of (0x93 ∷ []) frame × (byte frame 11 ≤ 4 → ⊥))
    -- "then 17h UNKNOWN PHY EVENT SOURCE (93h)."
    ∷ (0x17, Of (0x93 ∷ []) frame × (SourcesAllowed frame → ⊥))
    ∷ []

-- ---- the same as checks

-- passes, if the function is none of these, or the test holds
abbrev pub only_for : List ℕ → ℕ → Bool → Bool
only_for functions function test = not (one_of functions function) || test

-- the expected count of a write, in bytes 4 and 5, is right
abbrev pub count_passes : Shelf → ℕ → List ℕ → Bool
count_passes s g frame = count_right (grounds s g (byte frame 9)) (word frame 4)

-- of a frame, which has this function
abbrev checks_for : Shelf → ℕ → List ℕ → ℕ → List (ℕ × Bool)
checks_for s g frame f =
    (0x01, known f)
    ∷ (0x03, length_right frame)
    ∷ (0x21, only_for (0x21 ∷ []) f (eqb g 1))
    ∷ (0x04, only_for (0x91 ∷ 0x93 ∷ []) f (count_passes s g frame))
    ∷ (0x10, only_for (0x11 ∷ 0x14 ∷ 0x91 ∷ 0x93 ∷ []) f (exists s (byte frame 9)))
    ∷ (0x16, only_for (0x11 ∷ 0x14 ∷ []) f (reaches s g (byte frame 9)))
    ∷ (0x20, only_for (0x91 ∷ 0x93 ∷ []) f (reaches s g (byte frame 9)))
    ∷ (0x13, only_for (0x91 ∷ []) f (known_operation (byte frame 10)))
    ∷ (0x02, only_for (0x06 ∷ []) f (leb (byte frame 2) 0x0F))
    ∷ (0x02, only_for (0x93 ∷ []) f (leb (byte frame 11) 4))
    ∷ (0x17, only_for (0x93 ∷ []) f (is_none (first_unsupported frame (byte frame 11) 0)))
    ∷ []

abbrev pub checks : Shelf → ℕ → List ℕ → List (ℕ × Bool)
checks s g frame = checks_for s g frame (function_of frame)

-- by the eight functions; an unknown one fails the first check
pub verdict_checks : (s : Shelf) (g : ℕ) (frame : List ℕ)
    → result_code (verdict s g frame) ≡ first_failure (checks s g frame)
unfolding verdict decide result_of known
verdict_checks s g frame = go (known (function_of frame)) refl
  where
    -- of a frame that has the function f, and asks this
    Agrees : ℕ → Request → Type 0
    Agrees f request =
        result_code
        (check (known f) (Err UnknownSmpFunction)
        (check (length_right frame) (Err InvalidRequestFrameLength)
        (decide s g frame request)))
        ≡ first_failure (checks_for s g frame f)

    go : (b : Bool) → known (function_of frame) ≡ b → result_code (verdict s g frame) ≡ first_failure (checks s g frame)
    go false e = rw e
    go true e =
        by_function frame Agrees (rw e tt)
        (simp (check_map result_code))
        (simp (check_map result_code))
        (simp (check_map result_code))
        (simp (check_map result_code))
        (simp (check_map result_code))
        (simp (check_map result_code))
        (simp (check_map result_code))
        (simp (check_map result_code))

-- ---- each check passes exactly unless its failure is there

only_for_iff : (functions frame : List ℕ) (test : Bool) {A : Type 0} → T test ↔ A
    → (T (only_for functions (function_of frame) test) → ⊥)
    ↔ (Of functions frame × (A → ⊥))
only_for_iff functions frame test f =
    fails_under_iff (one_of functions (function_of frame)) test (one_of_iff functions (function_of frame)) f

pub sources_iff : (frame : List ℕ)
    → T (is_none (first_unsupported frame (byte frame 11) 0))
    ↔ SourcesAllowed frame
sources_iff frame =
    Iff.trans (none_unsupported frame (byte frame 11)) (
      λ all i h. (allowed_iff (descriptor_source frame i)).0 (all i h),
      λ all i h. (allowed_iff (descriptor_source frame i)).1 (all i h),
    )

checks_tell : (s : Shelf) (g : ℕ) (frame : List ℕ) → Tell (checks s g frame) (failures s g frame)
checks_tell s g frame =
    tell (Iff.not (known_iff (function_of frame)))
    (tell (Iff.not (length_right_lem frame))
    (tell (only_for_iff (0x21 ∷ []) frame (eqb g 1) (eqb_iff g 1))
    (tell (only_for_iff (0x91 ∷ 0x93 ∷ []) frame (count_passes s g frame) (count_right_lem (grounds s g (byte frame 9)) (word frame 4)))
    (tell (only_for_iff (0x11 ∷ 0x14 ∷ 0x91 ∷ 0x93 ∷ []) frame (exists s (byte frame 9)) Iff.rfl)
    (tell (only_for_iff (0x11 ∷ 0x14 ∷ []) frame (reaches s g (byte frame 9)) Iff.rfl)
    (tell (only_for_iff (0x91 ∷ 0x93 ∷ []) frame (reaches s g (byte frame 9)) Iff.rfl)
    (tell (only_for_iff (0x91 ∷ []) frame (known_operation (byte frame 10)) (known_operation_lem (byte frame 10)))
    (tell (only_for_iff (0x06 ∷ []) frame (leb (byte frame 2) 0x0F) (leb_iff (byte frame 2) 0x0F))
    (tell (only_for_iff (0x93 ∷ []) frame (leb (byte frame 11) 4) (leb_iff (byte frame 11) 4))
    (tell (only_for_iff (0x93 ∷ []) frame (is_none (first_unsupported frame (byte frame 11) 0)) (sources_iff frame))
    nothing))))))))))

-- The result of a request is the code of the first failure that is there, and 00h exactly if none is.
verdict_drawn : (s : Shelf) (g : ℕ) (frame : List ℕ) (code : ℕ)
    → (result_code (verdict s g frame) ≡ code)
    ↔ Draws (failures s g frame) code
verdict_drawn s g frame code =
    rw (verdict_checks s g frame) (draws_first (checks s g frame) (failures s g frame) (checks_tell s g frame) code)

-- A request is accepted exactly if every check passes.
pub verdict_accepted : (s : Shelf) (g : ℕ) (frame : List ℕ)
    → (result_code (verdict s g frame) ≡ 0x00)
    ↔ AllPass (checks s g frame)
verdict_accepted s g frame =
    rw (verdict_checks s g frame) (passes_all (checks s g frame) tt)

-- ---- On the lent buffer: a request that draws no house refusal

abbrev pub NotRefused : Shelf → ℕ → List ℕ → List ℕ → Type 0
NotRefused s g frame out = answer_number (served s g frame out).answer ≡ 0

not_refused : (s : Shelf) (g : ℕ) (frame out : List ℕ) → NotRefused s g frame out
    → handle s g frame (length out) ≡ concluded s g frame
unfolding served
not_refused s g frame out =
    both_handled (λ x y. answer_number (answer x.reply) ≡ 0 → x ≡ concluded s g frame) s s g frame (length out)
    (λ house e. absurd (omega (arith, house_some house)))
    (λ e. refl)

-- byte 2 has the result
pub result_byte : (s : Shelf) (g : ℕ) (frame out : List ℕ) → NotRefused s g frame out
    → byte (lent_after s g frame out) 2 ≡ result_code (verdict s g frame)
unfolding lent_after
result_byte s g frame out answered =
    rw (not_refused s g frame out answered)
    (concluded_all (λ h. byte (lent out h.reply) 2 ≡ result_code (verdict s g frame)) s g frame refl
    (λ e.
    let bytes : List ℕ = respond s g (asked frame) in
    let framed : Framed (request_function (asked frame)) 0x00 bytes = respond_framed s g (asked frame) in
    get_or-append bytes (drop (length bytes) out) 0x00 2 (omega arith)
    ∙ framed.byte_2
    ∙ sym (eqb-true (result_code (verdict s g frame)) 0x00 e)))

-- For each code, exactly when it is drawn: when its failure is there and none before it in the list is; and 00h when none is.
pub result_drawn : (s : Shelf) (g : ℕ) (frame out : List ℕ) → NotRefused s g frame out → (code : ℕ)
    → (byte (lent_after s g frame out) 2 ≡ code)
    ↔ Draws (failures s g frame) code
result_drawn s g frame out answered code =
    rw (result_byte s g frame out answered) (verdict_drawn s g frame code)

-- "A failed response is 41h, the function, the result, 00h. The buffer past any response is unchanged", and so is the shelf.
pub record Failed (s : Shelf) (g : ℕ) (frame out : List ℕ) (code : ℕ) : Type 0 where
  pub told : (served s g frame out).answer ≡ Ok 4
  pub left : lent_after s g frame out ≡ 0x41 ∷ function_of frame ∷ code ∷ 0x00 ∷ drop 4 out
  pub stays : (served s g frame out).shelf ≡ s

pub failed_result : (s : Shelf) (g : ℕ) (frame out : List ℕ) (code : ℕ) → NotRefused s g frame out
    → byte (lent_after s g frame out) 2 ≡ code → 1 ≤ code → Failed s g frame out code
unfolding served lent_after
failed_result s g frame out code answered drawn some =
    let result : result_code (verdict s g frame) ≡ code = sym (result_byte s g frame out answered) ∙ drawn in
    let failing : accepted (verdict s g frame) ≡ false = ne_eqb (result_code (verdict s g frame)) 0x00 (λ e. omega arith) in
    let whole : handle s g frame (length out) ≡ record { reply = Sends (failed (function_of frame) code); shelf = s } =
    not_refused s g frame out answered ∙ rw (failing, result) in
    record {
      told = ap (λ h. answer h.reply) whole;
      left = ap (λ h. lent out h.reply) whole;
      stays = ap (λ h. h.shelf) whole;
    }

-- An accepted request has its response at the front of the buffer, and its effect.
pub record Granted (s : Shelf) (g : ℕ) (frame out : List ℕ) : Type 0 where
  pub told : (served s g frame out).answer ≡ Ok (length (respond s g (asked frame)))
  pub left : lent_after s g frame out ≡ respond s g (asked frame) ++ drop (length (respond s g (asked frame))) out
  pub moves : (served s g frame out).shelf ≡ effect s frame (asked frame)

pub granted_result : (s : Shelf) (g : ℕ) (frame out : List ℕ) → NotRefused s g frame out
    → byte (lent_after s g frame out) 2 ≡ 0x00 → Granted s g frame out
unfolding served lent_after
granted_result s g frame out answered drawn =
    let passing : accepted (verdict s g frame) ≡ true =
    eq-eqb (result_code (verdict s g frame)) 0x00 (sym (result_byte s g frame out answered) ∙ drawn) in
    let whole : handle s g frame (length out) ≡ granted s g frame = not_refused s g frame out answered ∙ rw passing in
    record {
      told = ap (λ h. answer h.reply) whole;
      left = ap (λ h. lent out h.reply) whole;
      moves = ap (λ h. h.shelf) whole;
    }
