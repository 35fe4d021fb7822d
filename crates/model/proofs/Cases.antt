-- Document 01's cases 1 to 11 hold of the definitions: what comes of each is what is due, by computation.
use mathlib.Core.Path.{◌≡◌, refl}
use mathlib.Core.List.{[], ◌∷◌}
use Rattle.model.specs.Cases.{cases}
use Rattle.model.specs.Hex.{hex}
use Rattle.model.proofs.Computes.{computes}
use Rattle.model.proofs.Holds.{Holds}

-- eighteen answers: four of case 1, two of 2, two of 6, three of 7 (the last that no broadcast count moved), one of each other
pub every_case_holds : Holds cases
unfolding cases computes
every_case_holds =
    (refl, (refl, (refl, (refl, (refl, (refl, (refl, (refl, (refl, (refl, (refl, (refl, (refl, (refl, (refl, (refl, (refl, (refl, tt))))))))))))))))))

-- the reader of hexadecimal, on both kinds of digit in both places
pub hex_reads : hex "00 09 0A 0F 90 99 9A A0 AA FF" ≡ 0x00 ∷ 0x09 ∷ 0x0A ∷ 0x0F ∷ 0x90 ∷ 0x99 ∷ 0x9A ∷ 0xA0 ∷ 0xAA ∷ 0xFF ∷ []
hex_reads = refl
