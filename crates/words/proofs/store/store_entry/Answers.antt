-- `words::store::store_entry` meets its contract: the entry at its place, then the last index, then how many stores there were. Assumes
-- nothing.
use Rattle.std.proofs.Common.{◌≡◌, ℕ, ◌+◌, ◌*◌, ◌%◌, List, arith, ◌∙◌}
use lib.Seq.{sets}
use Rattle.model.specs.Shelf.{entry_of}
use Rattle.words.specs.Sizes.{entry_words, store_last, store_count, first_entry}
use Rattle.words.specs.Words.{word_at, low_set}
use Rattle.words.proofs.Laying.{entry_stored}
use Rattle.words.proofs.store.store_entry.Goals as goal

pub returns : goal.returns
returns c =
    let a = c.args in
    let ws = a.words.now in
    let now : List ℕ = c.store.new.words in
    let place : ℕ = first_entry + entry_words * (word_at ws store_count % 32) in
    let is_stored : now ≡ sets ws place c.entry_over-entry.result = c.store.ensures in
    let is_index : c.set_low16.result ≡ low_set 0x10000 (word_at now store_last) c.originate.result = c.set_low16.ensures in
    entry_stored ws (omega arith) (entry_of a.phy a.m)
    (is_stored ∙ rw c.entry_over-entry.ensures)
    (is_index ∙ rw (c.originate.ensures, c.low16.ensures))
    c.count_on.ensures
