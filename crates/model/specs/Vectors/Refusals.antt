-- House refusals of requests and reports, two faults at once among them, and what becomes of the lent buffer.
-- The first number is that of the refusal, or of the first of several, and 0 where there is none.
use Rattle.std.specs.Prelude.{List, [], ◌∷◌, ◌++◌, set}
use Rattle.model.specs.Cases.{Case, Lend, Look, H, Numbers, fresh, ReachOf, Set}
use Rattle.model.specs.Hex.{hex}
use Rattle.model.specs.House.{taken_number, event_number}
use Rattle.model.specs.Reports.{event, link_change}
use Rattle.model.specs.Server.{served, lent_after}
use Rattle.model.specs.Vectors.Tools.{read_broadcasts_frame, read_phy_frame, control_frame, old, answer_numbers}

unfoldable pub refusals : List Case
refusals =
    -- H4 before H5 before H6 and H10; H5 of 1,027 bytes (case 13)
    fresh 4 (Lend 0 32 []) (H 4)
    ∷ fresh 4 (Lend 0 264 (read_broadcasts_frame 0x00)) (H 4)
    ∷ fresh 5 (Lend 1027 31 []) (H 5)
    ∷ fresh 5 (Lend 1027 1 (read_broadcasts_frame 0x00)) (H 5)
    ∷ fresh 4 (Lend 1027 32 (hex "41 06 00 00")) (H 4)
    ∷ fresh 5 (Lend 1027 1 (hex "41 06 00 00")) (H 5)
    -- #103: H6 for three bytes of anything, and H10 for a first byte that is not 40h, whatever it is: before 01h, before 03h, and where
    -- nothing else is wrong
    ∷ fresh 6 (Lend 1028 1 []) (H 6)
    ∷ fresh 6 (Lend 1028 1 (hex "40 02 00")) (H 6)
    ∷ fresh 6 (Lend 1028 1 (hex "41 06 00")) (H 6)
    ∷ fresh 10 (Lend 1028 1 (hex "41 06 00 00")) (H 10)
    ∷ fresh 10 (Lend 1028 1 (hex "00 06 00 00")) (H 10)
    ∷ fresh 10 (Lend 1028 1 (hex "42 06 00 00")) (H 10)
    ∷ fresh 10 (Lend 1028 1 (hex "C0 06 00 00")) (H 10)
    ∷ fresh 10 (Lend 1028 1 (hex "41 02 00 00")) (H 10)
    ∷ fresh 10 (Lend 1028 1 (hex "41 14 16 00")) (H 10)
    -- a link reset that begins with 41h is not carried out: the change count stays; with 40h it moves
    ∷ fresh 10
    (Look
    (λ s. (served s 8 (set (control_frame 0x09 0x01 0 0x01) 0 0x41) (old 1028)).shelf.changes
    ∷ (served s 8 (control_frame 0x09 0x01 0 0x01) (old 1028)).shelf.changes
    ∷ []))
    (Numbers (0x0001 ∷ 0x0002 ∷ []))
    -- events: H7 first, whole numbers; H8; H9 at its two limits; link changes: H7, FFh no phy
    ∷ fresh 7
    (Look
    (λ s. event_number (event s 4 0x00 0).answer
    ∷ event_number (event s 256 0x01 0).answer
    ∷ event_number (event s 0 0x00 0).answer
    ∷ event_number (event s 0 0x07 0).answer
    ∷ event_number (event s 0 0x12D 0).answer
    ∷ event_number (event s 0 0x2B 0xFF).answer
    ∷ event_number (event s 0 0x2B 0x100).answer
    ∷ event_number (event s 0 0x2C 0xFFFF).answer
    ∷ event_number (event s 0 0x2C 0x10000).answer
    ∷ event_number (event s 3 0x2D 0xFFFFFFFF).answer
    ∷ taken_number (link_change s 3).taken
    ∷ taken_number (link_change s 0xFF).taken
    ∷ []))
    (Numbers (7 ∷ 7 ∷ 8 ∷ 8 ∷ 8 ∷ 0 ∷ 9 ∷ 0 ∷ 9 ∷ 0 ∷ 0 ∷ 7 ∷ []))
    -- a refusal leaves the lent buffer; a response leaves what is past it, and writes its zeros
    ∷ fresh 5 (Look (λ s. lent_after s 1 (read_broadcasts_frame 0x00) (old 1027))) (Numbers (old 1027))
    ∷ fresh 6 (Look (λ s. lent_after s 1 [] (old 1028))) (Numbers (old 1028))
    ∷ fresh 10 (Look (λ s. lent_after s 1 (hex "41 06 00 00") (old 1028))) (Numbers (old 1028))
    ∷ fresh 0
    (Look (λ s. lent_after s 1 (read_broadcasts_frame 0x00) (old 1028)))
    (Numbers (hex "41 06 00 01 00 01 00 00" ++ old 1020))
    -- the caller is told the length of the response, or the refusal; and the next shelf comes with it
    ∷ fresh 0
    (Look
    (λ s. answer_numbers (served s 9 (read_phy_frame 0x14 0x02 2) (old 1028)).answer
    ++ answer_numbers (served s 8 (read_phy_frame 0x14 0x02 2) (old 1028)).answer
    ++ answer_numbers (served s 9 (read_phy_frame 0x14 0x02 2) (old 1027)).answer
    ++ ((served s 8 (control_frame 0x09 0x01 0 0x01) (old 1028)).shelf.changes ∷ [])))
    (Numbers (0 ∷ 64 ∷ 0 ∷ 4 ∷ 5 ∷ 0x0002 ∷ []))
    -- a reach query of the last zone group
    ∷ fresh 0 (ReachOf 31) (Set 0x00000008 1)
    ∷ []
