-- What C is told of some of document 01's frames, and of #101's and #103's, checked on the definition as one list. Assumes nothing.
use Prim.Native.Nat.{ℕ}
use mathlib.Core.Path.{◌≡◌, refl}
use mathlib.Core.List.{List, [], ◌∷◌, map}
use Rattle.model.specs.Hex.{hex}
use Rattle.model.specs.Request.{cut_frame, wrong_frame, known, length_right, asked, judge}
use Rattle.gate.specs.FrameNumber.{frame_number}

-- each frame, and the number: whether there is a function to tell, house refusal, result, function
abbrev pub frame_numbers : List (List ℕ × ℕ)
frame_numbers =
    -- case 2, nothing wrong; case 3, 14h with length 00h; case 5, whose phy is judged later
    (hex "40 14 00 02 00 00 00 00 00 02 00 00", 0x01000014)
    ∷ (hex "40 14 00 00 00 00 00 00 00 02 00 00", 0x01000314)
    ∷ (hex "40 11 00 02 00 00 00 00 00 04 00 00", 0x01000011)
    -- case 6, an unknown function, and a frame of three bytes, which has no function to tell
    ∷ (hex "40 02 00 00", 0x01000102)
    ∷ (hex "40 02 00", 0x00060000)
    -- #103: "a response fed back as a request": H10, and byte 1 is told all the same; with an unknown function, and of a first byte that
    -- no response has; three bytes of anything are H6
    ∷ (hex "41 14 16 00", 0x010A0014)
    ∷ (hex "41 02 01 00", 0x010A0002)
    ∷ (hex "00 14 00 02 00 00 00 00 00 02 00 00", 0x010A0014)
    ∷ (hex "41 14 16", 0x00060000)
    -- #101: 21h has "8 bytes, length 01h"; any other length of either kind, 12 bytes or 00h in byte 3, is 03h
    ∷ (hex "40 21 00 01 00 00 00 01", 0x01000021)
    ∷ (hex "40 21 00 02 00 00 00 01 00 00 00 00", 0x01000321)
    ∷ (hex "40 21 00 00 00 00 00 01", 0x01000321)
    ∷ []

pub frame_numbers_right : map (λ entry. frame_number entry.0) frame_numbers ≡ map (λ entry. entry.1) frame_numbers
unfolding frame_number judge cut_frame wrong_frame known length_right asked
frame_numbers_right = refl
