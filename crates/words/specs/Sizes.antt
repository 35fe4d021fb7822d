-- How many words the pieces of a shelf have, and where each begins. A size is a number here and, for the code, in src/lib.rt, and nowhere
-- else: what stands behind a piece that grows moves by itself. (proofs/Vectors.antt shows what they come to.)
use Rattle.std.specs.Prelude.{ℕ, ◌+◌, ◌*◌}

abbrev pub monitor_words : ℕ
monitor_words = 3

-- a phy: its group, enabled or not and four error counts, then its four monitors, then its three broadcast counts
abbrev pub phy_monitors : ℕ
phy_monitors = 6

abbrev pub phy_counts : ℕ
phy_counts = phy_monitors + 4 * monitor_words

abbrev pub phy_words : ℕ
phy_words = phy_counts + 3

-- an entry of the list of stored peak events: its phy, then its monitor
abbrev pub entry_words : ℕ
entry_words = 1 + monitor_words

-- the shelf: what is device wide, then 32 rows, then 24 phys, then the list of stored peak events (the last index, how many stores there
-- were, 32 entries)
abbrev pub first_row : ℕ
first_row = 12

abbrev pub first_phy : ℕ
first_phy = first_row + 32

abbrev pub store_last : ℕ
store_last = first_phy + 24 * phy_words

abbrev pub store_count : ℕ
store_count = store_last + 1

abbrev pub first_entry : ℕ
first_entry = store_last + 2

abbrev pub shelf_words : ℕ
shelf_words = first_entry + 32 * entry_words
