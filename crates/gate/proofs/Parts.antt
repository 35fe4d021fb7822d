-- Each of the four parts can be read off the number that C is told, so the number says no less than they do; and what the house refusal
-- among them can be (#103). Assumes nothing.
use Prim.Native.Nat.{ℕ, ◌/◌, ◌%◌, ◌≤◌, ◌<◌}
use native.Mathlib.Omega.{arith}
use mathlib.Core.Path.{◌≡◌, refl}
use mathlib.Core.Logic.{◌↔◌}
use mathlib.Core.Bool.{Bool, true, false, not}
use mathlib.Core.List.{List, [], ◌∷◌}
use lib.Dec.{T, eqb}
use lib.ListN.{length}
use Rattle.model.specs.Answers.{Judged}
use Rattle.model.specs.Bytes.{byte}
use Rattle.model.specs.Request.{cut_frame, wrong_frame, function_of, known, length_right, judge}
use Rattle.model.specs.Tests.{check}
use Rattle.model.proofs.Laws.Lowest.{first_given}
use Rattle.model.proofs.Laws.Tests.{eqb_iff, not_above, cond_both, check_both, check_map}
use Rattle.model.proofs.Plain.Request.{cut_frame_lem}
use Rattle.gate.specs.FrameNumber.{has_function, function_part, result_part, house_part, has_function_part, frame_number}

-- n has each part of what C is told of this frame at its place
pub record Parts (frame : List ℕ) (n : ℕ) : Type 0 where
  pub function : n % 0x100 ≡ function_part frame
  pub result : n / 0x100 % 0x100 ≡ result_part (judge frame)
  pub house : n / 0x10000 % 0x100 ≡ house_part (judge frame)
  pub has_function_lem : n / 0x1000000 ≡ has_function_part frame

-- the numbers that the judge gives are at most 10 and 03h
abbrev Low : Judged → Type 0
Low judged = (house_part judged ≤ 10) × (result_part judged ≤ 0x03)

judge_low : (frame : List ℕ) → Low (judge frame)
unfolding judge
judge_low frame =
    check_both Low (not (cut_frame frame)) _ _ (omega arith, omega arith)
    (check_both Low (not (wrong_frame frame)) _ _ (omega arith, omega arith)
    (check_both Low (known (function_of frame)) _ _ (omega arith, omega arith)
    (check_both Low (length_right frame) _ _ (omega arith, omega arith) (omega arith, omega arith))))

pub parts_read : (frame : List ℕ) → byte frame 1 ≤ 0xFF → Parts frame (frame_number frame)
unfolding frame_number
parts_read frame byte_fits =
    let low : Low (judge frame) = judge_low frame in
    let function_fits : function_part frame ≤ 0xFF =
    cond_both (λ n. n ≤ 0xFF) (has_function frame) (byte frame 1) 0 byte_fits (omega arith) in
    record { function = omega arith; result = omega arith; house = omega arith; has_function_lem = omega arith }

-- ---- #103: H6 for "a cut frame" and H10 for "a wrong one", in plain logic

-- the house refusal is the first of the two that applies, or 0
house_first : (frame : List ℕ) → house_part (judge frame) ≡ first_given ((6, cut_frame frame) ∷ (10, wrong_frame frame) ∷ [])
unfolding judge
house_first frame = simp (check_map house_part, neither)
  where
    neither : (passes : Bool) → ◌≡◌ {A = ℕ} (check passes 0 0) 0
    neither passes = check_both (λ (house : ℕ). house ≡ 0) passes 0 0 refl refl

-- What C reads: 6 exactly for a frame of under four bytes, 10 exactly for one of four or more whose first byte is not 40h, and 0 exactly
-- where neither is so.
pub record HouseRead (frame : List ℕ) (house : ℕ) : Type 0 where
  pub cut : (house ≡ 6) ↔ (length frame < 4)
  pub wrong : (house ≡ 10) ↔ ((4 ≤ length frame) × (byte frame 0 ≡ 0x40 → ⊥))
  pub none : (house ≡ 0) ↔ ((4 ≤ length frame) × (byte frame 0 ≡ 0x40))

pub house_read : (frame : List ℕ) → byte frame 1 ≤ 0xFF → HouseRead frame (frame_number frame / 0x10000 % 0x100)
unfolding wrong_frame
house_read frame byte_fits =
    rw ((parts_read frame byte_fits).house, house_first frame)
    (go (cut_frame frame) (eqb (byte frame 0) 0x40) (cut_frame_lem frame) (eqb_iff (byte frame 0) 0x40))
  where
    go : (cut right : Bool) → T cut ↔ (length frame < 4) → T right ↔ (byte frame 0 ≡ 0x40)
        → HouseRead frame (first_given ((6, cut) ∷ (10, not right) ∷ []))
    go true right is_cut is_right =
        let short : length frame < 4 = is_cut.0 tt in
        record {
          cut = (λ e. short, λ h. refl);
          wrong = (λ e. absurd (omega arith), λ h. absurd (omega arith));
          none = (λ e. absurd (omega arith), λ h. absurd (omega arith));
        }
    go false false is_cut is_right =
        record {
          cut = (λ e. absurd (omega arith), λ h. absurd (is_cut.1 h));
          wrong = (λ e. (not_above is_cut.1, is_right.1), λ h. refl);
          none = (λ e. absurd (omega arith), λ h. absurd (is_right.1 h.1));
        }
    go false true is_cut is_right =
        record {
          cut = (λ e. absurd (omega arith), λ h. absurd (is_cut.1 h));
          wrong = (λ e. absurd (omega arith), λ h. absurd (h.1 (is_right.0 tt)));
          none = (λ e. (not_above is_cut.1, is_right.0 tt), λ h. refl);
        }
