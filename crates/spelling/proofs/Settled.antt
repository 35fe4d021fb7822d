-- What each type of this crate prints is settled: its promise, as the toolchain reads it off the source, names every byte. And the promise
-- of each public function settles its outcome (`Settled` of the model). Assumes nothing.
use mathlib.Core.Path.{◌≡◌, refl, sym, ap, ◌∙◌}
use Rattle.std.specs.Prelude.{Some}
use Rattle.model.specs.Settled.{Settled}
use Rattle.model.proofs.Laws.Settling.{value_settles}
use Rattle.spelling.proofs.Front.{size_settled, text_settled}
use Rattle.spelling.proofs.part.at_most
use Rattle.spelling.proofs.house_text
use Rattle.spelling.proofs.set_text
use Rattle.spelling.proofs.spell
use Rattle.spelling.specs.declared.HouseText.{HouseText}
use Rattle.spelling.specs.declared.ResponseText.{ResponseText}
use Rattle.spelling.specs.declared.SetText.{SetText}
use Rattle.spelling.specs.Spelling as spelled
use Rattle.spelling.specs.contracts.HouseTextDisplay.TheImpl as of_house
use Rattle.spelling.specs.contracts.ResponseTextDisplay.TheImpl as of_response
use Rattle.spelling.specs.contracts.SetTextDisplay.TheImpl as of_set

pub at_most_settled : Settled at_most.Kinds.ps at_most.Kinds.r at_most.Reads.Pre at_most.Reads.Post
at_most_settled = record {
  asks_nothing = λ κs a. tt;
  same_result = λ κs a x y. x.promised.1 ∙ sym y.promised.1;
  same_lent = λ κs a x y. refl;
}

pub house_text_settled : Settled house_text.Kinds.ps house_text.Kinds.r house_text.Reads.Pre house_text.Reads.Post
house_text_settled = record {
  asks_nothing = λ κs a. tt;
  same_result = λ κs a x y. x.promised.1.0 ∙ sym y.promised.1.0;
  same_lent = λ κs a x y. ap (λ text. (tt, (text, tt))) (x.promised.1.1 ∙ sym y.promised.1.1);
}

pub set_text_settled : Settled set_text.Kinds.ps set_text.Kinds.r set_text.Reads.Pre set_text.Reads.Post
set_text_settled = value_settles _ _ _ (λ κs a x y. refl)

pub spell_settled : Settled spell.Kinds.ps spell.Kinds.r spell.Reads.Pre spell.Reads.Post
spell_settled = record {
  asks_nothing = λ κs a. tt;
  same_result = λ κs a x y.
      size_settled _ _ _ x.promised.0 x.promised.1.0 ∙ sym (size_settled _ _ _ y.promised.0 y.promised.1.0);
  same_lent = λ κs a x y.
      ap (λ text. (tt, (text, tt)))
      (text_settled _ _ _ _ x.promised.0 x.promised.1.0 x.promised.1.1
      ∙ sym (text_settled _ _ _ _ y.promised.0 y.promised.1.0 y.promised.1.1));
}

-- ---- What the types print

pub house_text_printed : (text : HouseText) → of_house.ghosts.output text ≡ Some (spelled.house_text text.0)
house_text_printed text = refl

pub set_text_printed : (text : SetText) → of_set.ghosts.output text ≡ Some (spelled.set_text text.0)
set_text_printed text = refl

pub response_text_printed : (text : ResponseText) → of_response.ghosts.output text ≡ Some (spelled.response_text text.0.now)
response_text_printed text = refl
