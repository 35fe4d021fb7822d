-- What a group gets in a run on shelf W: its own answers in their order, each with the whole lent buffer afterwards, and nothing of what
-- others get. `proofs/Vectors` has the theorem.
use Rattle.std.specs.Prelude.{List, [], ◌∷◌, ◌++◌, Ok, Err}
use Rattle.model.specs.declared.House.TheVariants.{SourceGroup, ShortBuffer}
use Rattle.model.specs.Answers.{reach_gives}
use Rattle.model.specs.Hex.{hex}
use Rattle.model.specs.Runs.{Operation, Ask, Event, LinkChange, ReducedFunctionality, Ses, QueryReach, Told, Answered}
use Rattle.model.specs.Runs.{Shown}
use Rattle.model.specs.Vectors.Tools.{read_phy_frame, read_broadcasts_frame, control_frame, old}

unfoldable pub mixed : List Operation
mixed =
    Event 0 0x01 1
    ∷ Ask 9 (hex "40 00 00 00") (old 1028)
    ∷ LinkChange 0
    ∷ QueryReach 9
    ∷ Ask 8 (read_broadcasts_frame 0x00) (old 1028)
    ∷ QueryReach 8
    ∷ ReducedFunctionality
    ∷ Ask 32 (hex "40 00 00 00") (old 1028)
    ∷ Ask 8 (read_broadcasts_frame 0x00) (old 3)
    ∷ Ses
    ∷ QueryReach 32
    ∷ Ask 8 (read_phy_frame 0x14 0x02 2) (old 1030)
    ∷ Ask 8 (control_frame 0x09 0x02 0 0x01) (old 1028)
    ∷ Ask 8 (control_frame 0x09 0x02 0 0x01) (old 1028)
    ∷ []

-- group 8: 06h's list of 16 bytes, the reach of 8, H5, 16h of phy 2, and two link resets, of which the first moves the change count
unfoldable pub to8 : List Told
to8 =
    Answered (Ok 16) (hex "41 06 00 03 00 02 00 01 00 00 00 00 00 01 00 00" ++ old 1012)
    ∷ Shown (reach_gives 0x0000000B 3)
    ∷ Answered (Err ShortBuffer) (old 3)
    ∷ Answered (Ok 4) (hex "41 14 16 00" ++ old 1026)
    ∷ Answered (Ok 4) (hex "41 91 00 00" ++ old 1024)
    ∷ Answered (Ok 4) (hex "41 91 04 00" ++ old 1024)
    ∷ []

-- group 32, which is no zone group: H4 and H4
unfoldable pub to32 : List Told
to32 = Answered (Err SourceGroup) (old 1028) ∷ Shown (Err SourceGroup) ∷ []
