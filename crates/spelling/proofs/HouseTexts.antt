-- The text of a house refusal: one digit below ten, and two from there on (#103). Assumes nothing.
use mathlib.Core.Path.{◌≡◌, refl}
use mathlib.Core.List.{[], ◌∷◌}
use Rattle.std.specs.Fmt.{digits}
use Rattle.model.specs.declared.House.TheVariants.{Amount, WrongFrame}
use Rattle.spelling.specs.Spelling.{house_text}

-- Checked on the definition: ` H9` and ` H10`, each with a newline.
pub house_texts : (house_text Amount ≡ 0x20 ∷ 0x48 ∷ 0x39 ∷ 0x0A ∷ [])
    × (house_text WrongFrame ≡ 0x20 ∷ 0x48 ∷ 0x31 ∷ 0x30 ∷ 0x0A ∷ [])
unfolding digits
house_texts = (refl, refl)
