-- Where a piece of the shelf stands in its words. Assumes nothing.
use Prim.Native.Nat.{ℕ, ◌+◌, ◌*◌, ◌≤◌, ◌<◌}
use native.Mathlib.Omega.{arith}
use mathlib.Core.Path.{◌≡◌, ◌∙◌}
use mathlib.Core.List.{List}
use lib.ListN.{length, take, drop, length-take, get_or-eq_default}
use lib.Seq.{get_or-take, get_or-drop}
use Rattle.model.specs.Shelf.{no_phy, phy_at, no_entry}
use Rattle.model.specs.Store.{entry_at}
use Rattle.model.specs.Zone.{row}
use Rattle.words.specs.Sizes.{phy_words, entry_words, first_row, first_phy, first_entry}
use Rattle.words.specs.Words.{word_at, phy_of, phys_of, entry_from, entries_from, store_of, shelf_of}
use Rattle.words.proofs.Blocks.{row_size, row_at}
use Rattle.words.proofs.Pieces.{phy_block, entry_block}

module _ (ws : List ℕ) where
  pub phys_size : length (phys_of ws) ≡ 24
  unfolding phys_of
  phys_size = row_size phy_block ws 24 first_phy

  pub phy_there : (p : ℕ) → p < 24 → phy_at (shelf_of ws) p ≡ phy_of ws (first_phy + phy_words * p)
  unfolding shelf_of phys_of
  phy_there p h = row_at phy_block ws 24 p first_phy no_phy h

  pub phy_past : (p : ℕ) → 24 ≤ p → phy_at (shelf_of ws) p ≡ no_phy
  unfolding shelf_of
  phy_past p h = get_or-eq_default (phys_of ws) no_phy (omega (arith, phys_size))

  pub row_there : (g : ℕ) → g < 32 → row (shelf_of ws).table g ≡ word_at ws (first_row + g)
  unfolding shelf_of
  row_there g h = get_or-take 32 (drop first_row ws) g 0 h ∙ get_or-drop first_row ws g 0

  pub row_past : (g : ℕ) → 32 ≤ g → row (shelf_of ws).table g ≡ 0
  unfolding shelf_of
  row_past g h = get_or-eq_default (take 32 (drop first_row ws)) 0 (omega (arith, length-take 32 (drop first_row ws)))

  pub entries_size : length (entries_from ws) ≡ 32
  unfolding entries_from
  entries_size = row_size entry_block ws 32 first_entry

  pub entry_there : (i : ℕ) → i < 32 → entry_at (store_of ws) i ≡ entry_from ws (first_entry + entry_words * i)
  unfolding store_of entries_from
  entry_there i h = row_at entry_block ws 32 i first_entry no_entry h

  pub entry_past : (i : ℕ) → 32 ≤ i → entry_at (store_of ws) i ≡ no_entry
  unfolding store_of
  entry_past i h = get_or-eq_default (entries_from ws) no_entry (omega (arith, entries_size))
