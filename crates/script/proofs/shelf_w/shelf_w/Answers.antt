-- `script::shelf_w::shelf_w` meets its contract: its groups, table and identifier are those of the definition, and the start is
-- taken. Assumes nothing.
use Rattle.std.specs.Prelude.{Ok}
use Rattle.std.proofs.Common.{◌≡◌, ℕ, List, refl, ◌∙◌}
use Rattle.model.specs.Shelf.{start}
use Rattle.model.specs.ShelfW.{groups_w, table_w, identifier_w, shelf_w}
use Rattle.model.proofs.Computes.{computes}
use Rattle.words.specs.Words.{words_of, started_words}
use Rattle.words.proofs.Steps.{done_words}
use Rattle.script.proofs.shelf_w.shelf_w.Goals as goal

-- none of H1, H2 and H3 applies
done_w : (start 4 groups_w table_w identifier_w).taken ≡ Ok tt
unfolding computes
done_w = refl

started_w : (before : List ℕ) {after : List ℕ} → after ≡ started_words before (start 4 groups_w table_w identifier_w) → after ≡ words_of shelf_w
unfolding shelf_w
started_w before kept = kept ∙ done_words before (start 4 groups_w table_w identifier_w) done_w

pub unwrap-requires : goal.unwrap-requires
unwrap-requires c = rw (rw c.copy_from_slice.ensures.after at c.start.ensures.told, done_w) refl

pub returns : goal.returns
returns c = started_w _ (rw c.copy_from_slice.ensures.after at c.start.ensures.kept)
