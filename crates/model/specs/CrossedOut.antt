-- Demand 3's crossing-out: "Take two runs from the same start, and pick one source group. Cross out of both runs other groups' requests
-- about phys it can't reach, save link resets and disables, and reports of events on such phys, save link changes."
use Rattle.std.specs.Prelude.{ℕ, Bool, false, not, cond, ◌&&◌, List, [], ◌∷◌, leb, eqb, length}
use Rattle.model.specs.declared.Shelf.{Shelf}
use Rattle.model.specs.Bytes.{byte}
use Rattle.model.specs.Reach.{reaches}
use Rattle.model.specs.Request.{function_of}
use Rattle.model.specs.Runs.{Operation, Ask, Event, LinkChange, ReducedFunctionality, Ses, QueryReach}
use Rattle.model.specs.Shelf.{exists}
use Rattle.model.specs.Tests.{one_of}

-- "a request is about a phy when its function is 11h, 14h, 91h or 93h, it has at least 12 bytes and byte 9 names an existing phy"
unfoldable pub about_phy : Shelf → List ℕ → Bool
about_phy s frame =
    one_of (0x11 ∷ 0x14 ∷ 0x91 ∷ 0x93 ∷ []) (function_of frame) && leb 12 (length frame) && exists s (byte frame 9)

-- "a link reset or disable is such a 91h with byte 10 at 01h or 03h"
unfoldable pub link_reset_or_disable : Shelf → List ℕ → Bool
link_reset_or_disable s frame =
    about_phy s frame && eqb (function_of frame) 0x91 && one_of (0x01 ∷ 0x03 ∷ []) (byte frame 10)

-- Whether an operation of a run that begins with this shelf is crossed out for group g. No operation moves a phy to another group, so
-- who reaches what is the same all through the run. "All other requests, and the device notices, stay in both runs."
unfoldable pub crossed_out : ℕ → Shelf → Operation → Bool
crossed_out g s (Ask h frame out) =
    not (eqb h g) && about_phy s frame && not (reaches s g (byte frame 9)) && not (link_reset_or_disable s frame)
crossed_out g s (Event p source amount) = exists s p && not (reaches s g p)
crossed_out g s (LinkChange p) = false
crossed_out g s ReducedFunctionality = false
crossed_out g s Ses = false
crossed_out g s (QueryReach h) = false

-- "what remains"
unfoldable pub remains : ℕ → Shelf → List Operation → List Operation
remains g s [] = []
remains g s (operation ∷ operations) =
    let rest : List Operation = remains g s operations in
    cond (crossed_out g s operation) rest (operation ∷ rest)
