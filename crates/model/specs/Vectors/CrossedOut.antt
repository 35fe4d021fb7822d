-- What is crossed out of a run on shelf W, and what stays. There group 8 reaches phys 0, 1 and 3, group 9 reaches phys 2 and 3, and there
-- is no phy 4. Each entry has the group that was picked and the operation. `proofs/Vectors` has the theorem that all are as said here.
use Rattle.std.specs.Prelude.{ℕ, List, [], ◌∷◌, ◌++◌, take}
use Rattle.model.specs.Bytes.{zeros}
use Rattle.model.specs.Cases.{sent}
use Rattle.model.specs.Hex.{hex}
use Rattle.model.specs.Runs.{Operation, Ask, Event, LinkChange, ReducedFunctionality, Ses, QueryReach}
use Rattle.model.specs.Vectors.Tools.{read_phy_frame, read_broadcasts_frame, control_frame, configure_frame, watch}

-- "other groups' requests about phys it can't reach, save link resets and disables, and reports of events on such phys"
unfoldable pub crossed : List (ℕ × Operation)
crossed =
    -- each of the four functions, from 9 about phy 2, for group 8
    (8, sent 9 (read_phy_frame 0x11 0x02 2))
    ∷ (8, sent 9 (read_phy_frame 0x14 0x02 2))
    ∷ (8, sent 9 (control_frame 0x09 0x00 2 0x05))
    ∷ (8, sent 9 (configure_frame 0x02 0x00 0x01 2 0 []))
    ∷ (8, sent 9 (configure_frame 0x04 0x00 0x00 2 1 (watch 0x2D 10)))
    -- operations 00h, 02h and 05h of a 91h; 05h stands above
    ∷ (8, sent 9 (control_frame 0x09 0x00 2 0x00))
    ∷ (8, sent 9 (control_frame 0x09 0x00 2 0x02))
    -- in the other functions byte 10 says nothing
    ∷ (8, sent 9 (hex "40 11 00 02 00 00 00 00 00 02 01 00"))
    ∷ (8, sent 9 (hex "40 14 00 02 00 00 00 00 00 02 03 00"))
    ∷ (8, sent 9 (hex "40 93 00 02 00 00 01 00 00 02 01 00"))
    -- twelve bytes are enough, whatever the length should be and whatever byte 0 and byte 3 are
    ∷ (8, sent 9 (take 12 (control_frame 0x09 0x00 2 0x05)))
    ∷ (8, sent 9 (hex "41 14 00 77 00 00 00 00 00 02 00 00"))
    -- more than it should have, too
    ∷ (8, sent 9 (read_phy_frame 0x11 0x02 2 ++ zeros 5))
    -- from any other source: one that reaches the phy, one that does not, one that is no zone group
    ∷ (8, sent 1 (read_phy_frame 0x14 0x02 2))
    ∷ (8, sent 0 (read_phy_frame 0x14 0x02 2))
    ∷ (8, sent 32 (read_phy_frame 0x14 0x02 2))
    -- with a buffer that is too short
    ∷ (8, Ask 9 (read_phy_frame 0x14 0x02 2) [])
    -- for group 9, about phys 0 and 1; for a group above 31, which reaches nothing, about any phy
    ∷ (9, sent 8 (read_phy_frame 0x11 0x02 0))
    ∷ (9, sent 8 (read_phy_frame 0x11 0x02 1))
    ∷ (32, sent 8 (read_phy_frame 0x11 0x02 3))
    -- reports of events, accepted or refused
    ∷ (8, Event 2 0x01 1)
    ∷ (8, Event 2 0x2D 10)
    ∷ (8, Event 2 0x00 1)
    ∷ (9, Event 0 0x01 1)
    ∷ (32, Event 3 0x01 1)
    ∷ []

-- "Link resets, disables and link changes stay .." "All other requests, and the device notices, stay in both runs."
unfoldable pub stay : List (ℕ × Operation)
stay =
    -- link resets and disables, 01h and 03h, also of twelve bytes
    (8, sent 9 (control_frame 0x09 0x00 2 0x01))
    ∷ (8, sent 9 (control_frame 0x09 0x00 2 0x03))
    ∷ (8, sent 9 (take 12 (control_frame 0x09 0x00 2 0x01)))
    ∷ (8, sent 9 (take 12 (control_frame 0x09 0x00 2 0x03)))
    -- its own requests
    ∷ (8, sent 8 (read_phy_frame 0x11 0x02 2))
    ∷ (8, sent 8 (read_phy_frame 0x14 0x02 2))
    ∷ (8, sent 8 (control_frame 0x09 0x00 2 0x05))
    ∷ (8, sent 8 (configure_frame 0x02 0x00 0x01 2 0 []))
    ∷ (32, sent 32 (read_phy_frame 0x11 0x02 0))
    -- others' requests about phys that it reaches
    ∷ (8, sent 9 (read_phy_frame 0x14 0x02 0))
    ∷ (8, sent 9 (read_phy_frame 0x14 0x02 3))
    ∷ (9, sent 8 (configure_frame 0x02 0x00 0x01 2 0 []))
    -- about phys that don't exist
    ∷ (8, sent 9 (read_phy_frame 0x14 0x02 4))
    ∷ (8, sent 9 (configure_frame 0x02 0x00 0x01 0xFF 0 []))
    -- of eleven bytes; of four, where byte 9 would read 0, for group 9, which doesn't reach phy 0
    ∷ (8, sent 9 (take 11 (read_phy_frame 0x14 0x02 2)))
    ∷ (8, sent 9 (take 11 (control_frame 0x09 0x00 2 0x05)))
    ∷ (9, sent 8 (hex "40 11 00 00"))
    ∷ (9, sent 8 (hex "40 93 00 02"))
    -- of other functions, also where twelve bytes or more have the phy in byte 9
    ∷ (8, sent 9 (hex "40 00 00 00"))
    ∷ (8, sent 9 (hex "40 01 00 00"))
    ∷ (8, sent 9 (read_broadcasts_frame 0x04))
    ∷ (8, sent 9 (read_phy_frame 0x06 0x00 2))
    ∷ (8, sent 9 (read_phy_frame 0x10 0x02 2))
    ∷ (8, sent 9 (read_phy_frame 0x92 0x02 2))
    -- link changes; events on phys that it reaches, and on none
    ∷ (8, LinkChange 2)
    ∷ (8, LinkChange 4)
    ∷ (8, Event 0 0x01 1)
    ∷ (8, Event 3 0x2D 10)
    ∷ (8, Event 4 0x01 1)
    ∷ (8, Event 0xFF 0x01 1)
    -- the device notices and reach queries
    ∷ (8, ReducedFunctionality)
    ∷ (8, Ses)
    ∷ (8, QueryReach 9)
    ∷ (8, QueryReach 8)
    ∷ []

-- a run, and what remains of it for group 8: what is crossed out is gone, what stays stands in its order
unfoldable pub whole : List Operation
whole =
    Event 2 0x01 1
    ∷ sent 9 (control_frame 0x09 0x00 2 0x01)
    ∷ sent 9 (read_phy_frame 0x14 0x02 2)
    ∷ LinkChange 2
    ∷ sent 8 (read_phy_frame 0x14 0x02 2)
    ∷ Event 2 0x2D 10
    ∷ Event 0 0x2D 10
    ∷ sent 9 (configure_frame 0x02 0x00 0x01 2 0 [])
    ∷ []

unfoldable pub rest : List Operation
rest =
    sent 9 (control_frame 0x09 0x00 2 0x01)
    ∷ LinkChange 2
    ∷ sent 8 (read_phy_frame 0x14 0x02 2)
    ∷ Event 0 0x2D 10
    ∷ []
