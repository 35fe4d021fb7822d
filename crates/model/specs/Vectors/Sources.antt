-- Every source from 00h to FFh, one after another: which are counting and which are peaks; what an event report that names it on phy 0 of
-- shelf W is told, the number of its house refusal or 0; and the result of a 93h from group 8 with a descriptor of it. The numbers of
-- the cases are those of these questions. `docs/SOURCES.md` has the sources by name.
use Rattle.std.specs.Prelude.{ℕ, Bool, cond, List, [], ◌∷◌, ◌++◌, replicate}
use Rattle.model.specs.declared.Shelf.{Shelf}
use Rattle.model.specs.Bytes.{byte}
use Rattle.model.specs.Cases.{Case, Look, Numbers, fresh}
use Rattle.model.specs.Hex.{hex}
use Rattle.model.specs.House.{event_number}
use Rattle.model.specs.Reports.{event}
use Rattle.model.specs.Server.{lent, handle}
use Rattle.model.specs.Sources.{counting, peak}
use Rattle.model.specs.Tests.{join_below}
use Rattle.model.specs.Vectors.Tools.{configure_frame, watch}

-- of 00h to FFh those of which the test holds
abbrev pub those : (ℕ → Bool) → List ℕ
those test = join_below 256 (λ source. cond (test source) (source ∷ []) [])

-- what is found of 00h, then of 01h, and so on to FFh
abbrev pub each_source : (ℕ → ℕ) → List ℕ
each_source of = join_below 256 (λ source. of source ∷ [])

-- byte 2 of the response to a 93h that sets monitor 0 of phy 0 to this source
abbrev pub set_result : Shelf → ℕ → ℕ
set_result s source = byte (lent [] (handle s 8 (configure_frame 0x04 0x01 0x00 0 1 (watch source 0)) 1028).reply) 2

unfoldable pub sources : List Case
sources =
    fresh 1
    (Look (λ s. those counting))
    (Numbers
    (hex "01 02 03 04 05 06" ++ hex "20 21 22 23 24 25 26 27 28 29 2A" ++ hex "40 41 42 43 44 45"))
    ∷ fresh 2 (Look (λ s. those peak)) (Numbers (hex "2B 2C 2D 2E"))
    -- H8 for 00h, none for 01h to 06h, H8 for 07h to 1Fh, none for 20h to 2Eh, H8 for 2Fh to 3Fh, none for 40h to 45h, H8 from 46h on
    ∷ fresh 3
    (Look (λ s. each_source (λ source. event_number (event s 0 source 1).answer)))
    (Numbers
    (8
    ∷ replicate 6 0
    ++ replicate 25 8
    ++ replicate 15 0
    ++ replicate 17 8
    ++ replicate 6 0
    ++ replicate 186 8))
    -- the same with 17h, and with 00h, which is allowed in a descriptor
    ∷ fresh 4
    (Look (λ s. each_source (set_result s)))
    (Numbers
    (replicate 7 0x00
    ++ replicate 25 0x17
    ++ replicate 15 0x00
    ++ replicate 17 0x17
    ++ replicate 6 0x00
    ++ replicate 186 0x17))
    ∷ []
