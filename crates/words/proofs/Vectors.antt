-- Where each number stands, on numbers: the sizes, the words of shelf W freshly started, one phy all of whose numbers differ, entries of the
-- list of stored peak events, and the bits above a narrow number, which stay. By computation. Assumes nothing.
use Prim.Native.Nat.{ℕ}
use mathlib.Core.Path.{◌≡◌, refl}
use mathlib.Core.Bool.{false}
use mathlib.Core.List.{List, [], ◌∷◌, ◌++◌}
use lib.ListN.{length, take, drop, replicate}
use Rattle.model.specs.declared.Entry.{Entry}
use Rattle.model.specs.declared.Phy.{Phy}
use Rattle.model.specs.declared.Store.{Store}
use Rattle.model.specs.Shelf.{monitor, entry_of, put_store}
use Rattle.model.specs.ShelfW.{shelf_w}
use Rattle.model.specs.Store.{store}
use Rattle.model.proofs.Computes.{computes}
use Rattle.words.specs.Sizes.{monitor_words, phy_monitors, phy_counts, phy_words, entry_words}
use Rattle.words.specs.Sizes.{first_row, first_phy, store_last, store_count, first_entry, shelf_words}
use Rattle.words.specs.Words.{phy_of, phy_over, phys_of, phys_over, entry_from, entries_from, entries_over, store_of, store_over}
use Rattle.words.specs.Words.{front_over, shelf_of, laid_over, words_of}

-- ---- The sizes and the places

pub sizes : (monitor_words ≡ 3) × (phy_words ≡ 21) × (entry_words ≡ 4) × (shelf_words ≡ 678)
sizes = (refl, refl, refl, refl)

pub begin : (phy_monitors ≡ 6)
    × (phy_counts ≡ 18)
    × (first_row ≡ 12)
    × (first_phy ≡ 44)
    × (store_last ≡ 548)
    × (store_count ≡ 549)
    × (first_entry ≡ 550)
begin = (refl, refl, refl, refl, refl, refl, refl)

-- ---- Shelf W: "Four phys, groups 8, 8, 9, 1"

abbrev words_w : List ℕ
words_w = words_of shelf_w

pub size_w : length words_w ≡ 678
unfolding computes laid_over front_over phys_over phy_over entries_over store_over
size_w = refl

-- 4 phys, the change count 0001h, no Expander 3h, no SES 0h; then the identifier, a byte to a word
pub device_w : take 12 words_w ≡ 4 ∷ 0x0001 ∷ 0 ∷ 0 ∷ 0x01 ∷ 0x02 ∷ 0x03 ∷ 0x04 ∷ 0x05 ∷ 0x06 ∷ 0x07 ∷ 0x08 ∷ []
unfolding computes laid_over front_over
device_w = refl

-- "row 8 has bits 1 and 8; row 9 bits 1 and 9": rows 0 to 10, from word 12 on
pub rows_w : take 11 (drop 12 words_w)
    ≡ 0x00000002
    ∷ 0xFFFFFFFF
    ∷ 0x00000002
    ∷ 0x00000002
    ∷ 0x00000002
    ∷ 0x00000002
    ∷ 0x00000002
    ∷ 0x00000002
    ∷ 0x00000102
    ∷ 0x00000202
    ∷ 0x00000002
    ∷ []
unfolding computes laid_over front_over
rows_w = refl

-- the group of each phy, enabled or not, and its first error count: from word 44 on, 21 words further each time
abbrev begins : ℕ → List ℕ
begins at = take 3 (drop at words_w)

pub phys_w : (begins 44 ≡ 8 ∷ 1 ∷ 0 ∷ [])
    × (begins 65 ≡ 8 ∷ 1 ∷ 0 ∷ [])
    × (begins 86 ≡ 9 ∷ 1 ∷ 0 ∷ [])
    × (begins 107 ≡ 1 ∷ 1 ∷ 0 ∷ [])
    × (begins 527 ≡ 0 ∷ 1 ∷ 0 ∷ [])
unfolding computes laid_over front_over phys_over phy_over entries_over store_over
phys_w = (refl, refl, refl, refl, refl)

-- and the words stand for it again
pub back_w : shelf_of words_w ≡ shelf_w
unfolding computes laid_over front_over phys_over phy_over entries_over store_over shelf_of phys_of phy_of entries_from store_of
back_w = refl

-- ---- One phy, over words of all ones: its words, and what stays above the narrow numbers

abbrev various : Phy
various =
    record {
      group = 8;
      enabled = false;
      errors = 0x21 ∷ 0x22 ∷ 0x23 ∷ 0x24 ∷ [];
      monitors = monitor 0x01 0x31 0x41 ∷ monitor 0x02 0x32 0x42 ∷ monitor 0x2B 0x33 0x43 ∷ monitor 0x2C 0x34 0x44 ∷ [];
      change0 = 0x51;
      expander1 = 0x52;
      expander2 = 0x53;
    }

pub phy_over_ones : phy_over (replicate phy_words 0xFFFFFFFF) 0 various
    ≡ 8
    ∷ 0xFFFFFFFE
    ∷ 0x21
    ∷ 0x22
    ∷ 0x23
    ∷ 0x24
    ∷ 0xFFFFFF01
    ∷ 0x31
    ∷ 0x41
    ∷ 0xFFFFFF02
    ∷ 0x32
    ∷ 0x42
    ∷ 0xFFFFFF2B
    ∷ 0x33
    ∷ 0x43
    ∷ 0xFFFFFF2C
    ∷ 0x34
    ∷ 0x44
    ∷ 0xFFFF0051
    ∷ 0xFFFF0052
    ∷ 0xFFFF0053
    ∷ []
unfolding phy_over
phy_over_ones = refl

pub phy_back : phy_of (phy_over (replicate phy_words 0xFFFFFFFF) 0 various) 0 ≡ various
unfolding phy_over phy_of
phy_back = refl

-- the device wide words over words of all ones
pub device_over_ones : take 12 (laid_over (replicate shelf_words 0xFFFFFFFF) shelf_w)
    ≡ 4
    ∷ 0xFFFF0001
    ∷ 0xFFFF0000
    ∷ 0xFFFF0000
    ∷ 0xFFFFFF01
    ∷ 0xFFFFFF02
    ∷ 0xFFFFFF03
    ∷ 0xFFFFFF04
    ∷ 0xFFFFFF05
    ∷ 0xFFFFFF06
    ∷ 0xFFFFFF07
    ∷ 0xFFFFFF08
    ∷ []
unfolding computes laid_over front_over
device_over_ones = refl

-- ---- The list of stored peak events

-- none was stored: the last index, how many stores there were, and the first entry
pub none_stored_w : take 6 (drop 548 words_w) ≡ 0x0000 ∷ 0 ∷ 0 ∷ 0 ∷ 0 ∷ 0 ∷ []
unfolding computes laid_over front_over phys_over phy_over entries_over store_over
none_stored_w = refl

-- One entry after another: phy 2's monitors of source 2Bh, at 900 of 800, and 2Ch, at 70 of no threshold.
abbrev first : Entry
first = entry_of 2 (monitor 0x2B 900 800)

abbrev second : Entry
second = entry_of 2 (monitor 0x2C 70 0)

abbrev twice : List ℕ
twice = laid_over words_w (put_store shelf_w (store (store shelf_w.store first) second))

pub stored_w_lem : take 11 (drop 548 twice) ≡ 0x0002 ∷ 2 ∷ 2 ∷ 0x2B ∷ 900 ∷ 800 ∷ 2 ∷ 0x2C ∷ 70 ∷ 0 ∷ 0 ∷ []
unfolding computes laid_over front_over phys_over phy_over entries_over store_over
stored_w_lem = refl

-- every word before the list is as it was
pub before_stored_w : take 548 twice ≡ take 548 words_w
unfolding computes laid_over front_over phys_over phy_over entries_over store_over
before_stored_w = refl

-- The list is full and its last index FFFFh: the next entry goes to place 40 % 32 = 8, over words of all ones, and gets index 0001h.
abbrev full : Store
full = record { last = 0xFFFF; count = 40; entries = replicate 32 first }

abbrev ones : List ℕ
ones = replicate shelf_words 0xFFFFFFFF

pub store_over_ones : take 14 (store_over ones (store full second))
    ≡ 0xFFFF0001 ∷ 41 ∷ 0xFFFFFF02 ∷ 0xFFFFFF2B ∷ 900 ∷ 800 ∷ 0xFFFFFF02 ∷ 0xFFFFFF2B ∷ 900 ∷ 800 ∷ 0xFFFFFF02 ∷ 0xFFFFFF2B ∷ 900 ∷ 800 ∷ []
unfolding computes entries_over store_over
store_over_ones = refl

pub ninth_over_ones : take 6 (drop 33 (store_over ones (store full second)))
    ≡ 800 ∷ 0xFFFFFF02 ∷ 0xFFFFFF2C ∷ 70 ∷ 0 ∷ 0xFFFFFF02 ∷ []
unfolding computes entries_over store_over
ninth_over_ones = refl

-- the last of them ends the words
pub last_entry : entry_from (take 674 ones ++ (7 ∷ 0x2D ∷ 8 ∷ 9 ∷ [])) 674 ≡ entry_of 7 (monitor 0x2D 8 9)
last_entry = refl
