-- Sizes and widths, which the model's numbers and lists have not by themselves: what the types say of a shelf's record, and of what a start
-- and an operation are given; and what holds of every started shelf.
use Rattle.std.specs.Prelude.{ℕ, ◌≤◌, ◌<◌, ◌≡◌, List, [], ◌∷◌, T, length}
use Rattle.model.specs.declared.Entry.{Entry}
use Rattle.model.specs.declared.Monitor.{Monitor}
use Rattle.model.specs.declared.Phy.{Phy}
use Rattle.model.specs.declared.Shelf.{Shelf}
use Rattle.model.specs.declared.Store.{Store}
use Rattle.model.specs.Bytes.{byte}
use Rattle.model.specs.Reply.{error_at, monitor_at}
use Rattle.model.specs.Runs.{Operation, Ask, Event, LinkChange, ReducedFunctionality, Ses, QueryReach}
use Rattle.model.specs.Shelf.{phy_at}
use Rattle.model.specs.Store.{entry_at}
use Rattle.model.specs.Zone.{row, legal_table}

-- ---- A shelf

-- every byte of a frame, or of an identifier, fits 8 bits (past the end stands 0)
abbrev pub BytesFit : List ℕ → Type 0
BytesFit bytes = (i : ℕ) → byte bytes i ≤ 0xFF

-- "A monitor has an event source, a 32-bit value and a 32-bit threshold."
pub record MonitorFits (m : Monitor) : Type 0 where
  pub source : m.source ≤ 0xFF
  pub value : m.value ≤ 0xFFFFFFFF
  pub threshold : m.threshold ≤ 0xFFFFFFFF

-- four error counts and four monitors that fit, and three 16-bit broadcast counts
pub record PhyFits (x : Phy) : Type 0 where
  pub group : x.group ≤ 0xFFFFFFFF
  pub errors_size : length x.errors ≡ 4
  pub errors : (i : ℕ) → error_at x i ≤ 0xFFFFFFFF
  pub monitors_size : length x.monitors ≡ 4
  pub monitors : (i : ℕ) → MonitorFits (monitor_at x i)
  pub change0 : x.change0 ≤ 0xFFFF
  pub expander1 : x.expander1 ≤ 0xFFFF
  pub expander2 : x.expander2 ≤ 0xFFFF

-- #101: an entry, and the 32 of a store
pub record EntryFits (e : Entry) : Type 0 where
  pub phy : e.phy ≤ 0xFF
  pub monitor : MonitorFits e.monitor

pub record StoreFits (k : Store) : Type 0 where
  pub last : k.last ≤ 0xFFFF
  pub count : k.count ≤ 0xFFFFFFFF
  pub entries_size : length k.entries ≡ 32
  pub entries : (i : ℕ) → EntryFits (entry_at k i)

-- what the types of the record say: the sizes of its arrays, and the widths of its numbers
pub record Fits (s : Shelf) : Type 0 where
  pub number : s.number ≤ 0xFFFFFFFF
  pub phys_size : length s.phys ≡ 24
  pub phys : (p : ℕ) → p < 24 → PhyFits (phy_at s p)
  pub table_size : length s.table ≡ 32
  pub table : (g : ℕ) → row s.table g ≤ 0xFFFFFFFF
  pub identifier_size : length s.identifier ≡ 8
  pub identifier : BytesFit s.identifier
  pub changes : s.changes ≤ 0xFFFF
  pub expander3 : s.expander3 ≤ 0xFFFF
  pub ses0 : s.ses0 ≤ 0xFFFF
  pub store : StoreFits s.store

-- of these the sizes that a start itself gives, whatever it is given: 24 places for phys, each with four error counts and four monitors
pub record Placed (s : Shelf) : Type 0 where
  pub phys : length s.phys ≡ 24
  pub errors : (p : ℕ) → p < 24 → length (phy_at s p).errors ≡ 4
  pub monitors : (p : ℕ) → p < 24 → length (phy_at s p).monitors ≡ 4

-- ---- What a start and an operation are given

-- the sizes and widths of the table and the identifier that a start is given
pub record StartFits (table identifier : List ℕ) : Type 0 where
  pub table_size : length table ≡ 32
  pub table_fits : (g : ℕ) → row table g ≤ 0xFFFFFFFF
  pub identifier_size : length identifier ≡ 8
  pub identifier_fits : BytesFit identifier

-- the widths of what an operation is given: a frame's bytes, and "a 32-bit amount" (other numbers are compared, never kept)
abbrev pub OperationFits : Operation → Type 0
OperationFits (Ask g frame out) = BytesFit frame
OperationFits (Event p source amount) = amount ≤ 0xFFFFFFFF
OperationFits (LinkChange p) = Unit {0}
OperationFits ReducedFunctionality = Unit {0}
OperationFits Ses = Unit {0}
OperationFits (QueryReach g) = Unit {0}

-- a sequence, all of whose operations fit
abbrev pub AllFit : List Operation → Type 0
AllFit [] = Unit {0}
AllFit (operation ∷ operations) = OperationFits operation × AllFit operations

-- ---- What holds of a started shelf, after any operations that fit

-- #101: indexes "run from 0001h": until 32 entries are kept the last index is their number, and from then on it is not 0000h
pub record InARow (k : Store) : Type 0 where
  pub few : k.count < 32 → k.last ≡ k.count
  pub full : 32 ≤ k.count → (k.count ≤ 63) × (1 ≤ k.last)

-- The invariant: every number fits, "1 to 24 phys", "Zone groups 0 to 31", the table is legal, 0000h, "the forcing value", is not the
-- present count, and the stored peak events have indexes in a row.
pub record Sound (s : Shelf) : Type 0 where
  pub fits : Fits s
  pub number : (1 ≤ s.number) × (s.number ≤ 24)
  pub groups : (p : ℕ) → p < 24 → (phy_at s p).group ≤ 31
  pub legal : T (legal_table s.table)
  pub present : 1 ≤ s.changes
  pub in_a_row : InARow s.store
