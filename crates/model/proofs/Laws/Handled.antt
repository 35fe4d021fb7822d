-- The whole way of a request in one row: H4, H5, H6, H10, then the result, then the response with its effect, or the failure with none.
-- Assumes nothing.
use Rattle.std.specs.Prelude.{Ok, Err}
use Prim.Native.Nat.{ℕ}
use native.Mathlib.Omega.{arith}
use mathlib.Core.Path.{◌≡◌, refl, subst}
use mathlib.Core.Bool.{Bool, true, false, cond, false≢true}
use mathlib.Core.List.{List}
use lib.Dec.{ltb}
use Rattle.model.specs.declared.Failure.TheVariants.{UnknownSmpFunction, InvalidRequestFrameLength}
use Rattle.model.specs.declared.House.{House}
use Rattle.model.specs.declared.House.TheVariants.{SourceGroup, ShortBuffer, CutFrame, WrongFrame}
use Rattle.model.specs.declared.Fault.TheVariants.{NoFrame, Fails}
use Rattle.model.specs.declared.Shelf.{Shelf}
use Rattle.model.specs.Answers.{FunctionResult}
use Rattle.model.specs.Reply.{failed, respond}
use Rattle.model.specs.Request.{cut_frame, wrong_frame, function_of, known, length_right, asked, judge}
use Rattle.model.specs.Results.{result_code, accepted, decide}
use Rattle.model.specs.Server.{least_buffer, Handled, Sends, refuse, fail, conclude, handle_judged, handle}
use Rattle.model.specs.Tests.{check, given}
use Rattle.model.specs.Writes.{effect}

-- the result of a request, 01h and 03h among them
unfoldable pub verdict : Shelf → ℕ → List ℕ → FunctionResult
verdict s g frame =
    check (known (function_of frame)) (Err UnknownSmpFunction)
    (check (length_right frame) (Err InvalidRequestFrameLength)
    (decide s g frame (asked frame)))

-- an accepted request: its response and its full effect
abbrev pub granted : Shelf → ℕ → List ℕ → Handled
granted s g frame = record { reply = Sends (respond s g (asked frame)); shelf = effect s frame (asked frame) }

-- a request that draws no house refusal
abbrev pub concluded : Shelf → ℕ → List ℕ → Handled
concluded s g frame = conclude s g frame (asked frame) (verdict s g frame)

judged : (s : Shelf) (g : ℕ) (frame : List ℕ)
    → handle_judged s g frame (judge frame)
    ≡ given (cut_frame frame) (refuse s CutFrame)
    (given (wrong_frame frame) (refuse s WrongFrame)
    (concluded s g frame))
unfolding judge verdict
judged s g frame = go (cut_frame frame) (wrong_frame frame) (known (function_of frame)) (length_right frame)
  where
    go : (cut wrong known' right : Bool)
        → handle_judged s g frame
        (given cut (Err (NoFrame CutFrame))
        (given wrong (Err (NoFrame WrongFrame))
        (check known' (Err (Fails UnknownSmpFunction))
        (check right (Err (Fails InvalidRequestFrameLength))
        (Ok (asked frame))))))
        ≡ given cut (refuse s CutFrame)
        (given wrong (refuse s WrongFrame)
        (conclude s g frame (asked frame)
        (check known' (Err UnknownSmpFunction)
        (check right (Err InvalidRequestFrameLength)
        (decide s g frame (asked frame))))))
    go true wrong known' right = refl
    go false true known' right = refl
    go false false false right = refl
    go false false true false = refl
    go false false true true = refl

pub handled : (s : Shelf) (g : ℕ) (frame : List ℕ) (room : ℕ)
    → handle s g frame room
    ≡ given (ltb 31 g) (refuse s SourceGroup)
    (given (ltb room least_buffer) (refuse s ShortBuffer)
    (given (cut_frame frame) (refuse s CutFrame)
    (given (wrong_frame frame) (refuse s WrongFrame)
    (concluded s g frame))))
unfolding handle
handled s g frame room = rw (judged s g frame)

-- ---- What holds of a refusal and of a request that draws none holds of every request. Of two shelves at once, and of one.

module _ (P : Handled → Handled → Type 0) (s t : Shelf) (g : ℕ) (frame : List ℕ) where
  pub both_handled : (room : ℕ) → ((house : House) → P (refuse s house) (refuse t house))
      → P (concluded s g frame) (concluded t g frame) → P (handle s g frame room) (handle t g frame room)
  both_handled room refused rest =
      rw (handled s g frame room, handled t g frame room) (go (ltb 31 g) (ltb room least_buffer) (cut_frame frame) (wrong_frame frame))
    where
      row : Shelf → Bool → Bool → Bool → Bool → Handled
      row x a b c d =
          given a (refuse x SourceGroup)
          (given b (refuse x ShortBuffer)
          (given c (refuse x CutFrame)
          (given d (refuse x WrongFrame)
          (concluded x g frame))))

      go : (a b c d : Bool) → P (row s a b c d) (row t a b c d)
      go true b c d = refused SourceGroup
      go false true c d = refused ShortBuffer
      go false false true d = refused CutFrame
      go false false false true = refused WrongFrame
      go false false false false = rest

  -- the same result on both: failed, or accepted
  pub both_concluded : verdict s g frame ≡ verdict t g frame
      → (accepted (verdict t g frame) ≡ false → P (fail s frame (verdict t g frame)) (fail t frame (verdict t g frame)))
      → (accepted (verdict t g frame) ≡ true → P (granted s g frame) (granted t g frame))
      → P (concluded s g frame) (concluded t g frame)
  both_concluded same failing passing = rw same (go (accepted (verdict t g frame)) refl)
    where
      go : (b : Bool) → accepted (verdict t g frame) ≡ b
          → P (cond b (granted s g frame) (fail s frame (verdict t g frame)))
          (cond b (granted t g frame) (fail t frame (verdict t g frame)))
      go true e = passing e
      go false e = failing e

module _ (P : Handled → Type 0) (s : Shelf) (g : ℕ) (frame : List ℕ) where
  pub concluded_all : P (fail s frame (verdict s g frame)) → (accepted (verdict s g frame) ≡ true → P (granted s g frame))
      → P (concluded s g frame)
  concluded_all failing passing = both_concluded (λ x y. P x) s s g frame refl (λ e. failing) passing

  pub handled_all : (room : ℕ) → ((house : House) → P (refuse s house)) → P (fail s frame (verdict s g frame))
      → (accepted (verdict s g frame) ≡ true → P (granted s g frame)) → P (handle s g frame room)
  handled_all room refused failing passing =
      both_handled (λ x y. P x) s s g frame room refused (concluded_all failing passing)

-- so what holds of the failed response, and of the accepted one, holds of every response
pub sent_all : (P : List ℕ → Type 0) (s : Shelf) (g : ℕ) (frame : List ℕ) (room : ℕ)
    → P (failed (function_of frame) (result_code (verdict s g frame)))
    → (accepted (verdict s g frame) ≡ true → P (respond s g (asked frame)))
    → (bytes : List ℕ) → (handle s g frame room).reply ≡ Sends bytes → P bytes
sent_all P s g frame room failing passing =
    -- a refusal sends nothing: from `Refuses house ≡ Sends bytes` would follow 0 ≡ 1
    handled_all (λ h. (bytes : List ℕ) → h.reply ≡ Sends bytes → P bytes) s g frame room
    (λ house bytes e. absurd (let z : ◌≡◌ {A = ℕ} 0 1 = cc in omega arith))
    (sent failing)
    (λ e. sent (passing e))
  where
    sent : {response : List ℕ} → P response → (bytes : List ℕ) → Sends response ≡ Sends bytes → P bytes
    sent {response} p bytes e = let same : response ≡ bytes = cc in subst P same p

-- what is accepted was of a known function and a right length, and passed what the shelf decides
pub accepted_decided : (s : Shelf) (g : ℕ) (frame : List ℕ) → accepted (verdict s g frame) ≡ true
    → (known (function_of frame) ≡ true) × (length_right frame ≡ true) × (accepted (decide s g frame (asked frame)) ≡ true)
unfolding verdict
accepted_decided s g frame = go (known (function_of frame)) (length_right frame)
  where
    go : (known' right : Bool)
        → accepted (check known' (Err UnknownSmpFunction) (check right (Err InvalidRequestFrameLength) (decide s g frame (asked frame)))) ≡ true
        → (known' ≡ true) × (right ≡ true) × (accepted (decide s g frame (asked frame)) ≡ true)
    go true true e = (refl, refl, e)
    go true false e = absurd (false≢true e)
    go false right e = absurd (false≢true e)
