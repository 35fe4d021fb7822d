-- "Supported sources: counting 01h to 06h, 20h to 2Ah, 40h to 45h; peak 2Bh to 2Eh." #102: "Write the decision as the ranges of document
-- 01's line, in that order." `docs/SOURCES.md` has T10's names.
use Rattle.std.specs.Prelude.{ℕ, Bool, ◌&&◌, ◌||◌}
use Rattle.model.specs.Tests.{◌<=◌}

unfoldable pub counting : ℕ → Bool
counting source =
    (0x01 <= source && source <= 0x06) || (0x20 <= source && source <= 0x2A) || (0x40 <= source && source <= 0x45)

unfoldable pub peak : ℕ → Bool
peak source = 0x2B <= source && source <= 0x2E

unfoldable pub supported : ℕ → Bool
supported source = counting source || peak source
