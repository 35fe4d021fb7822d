-- "The shelf": its phys, how a new one starts, and how one of its phys is put back changed.
use Rattle.std.specs.Prelude.{ℕ, min, Bool, true, not, cond, List, [], ◌∷◌, ltb, get_or, set, replicate, Ok, Err}
use Rattle.model.specs.declared.Entry.{Entry}
use Rattle.model.specs.declared.House.TheVariants.{PhyNumber, PhyGroup, IllegalTable}
use Rattle.model.specs.declared.Monitor.{Monitor}
use Rattle.model.specs.declared.Outcome.{Outcome}
use Rattle.model.specs.declared.Phy.{Phy}
use Rattle.model.specs.declared.Shelf.{Shelf}
use Rattle.model.specs.declared.Store.{Store}
use Rattle.model.specs.Answers.{Taken}
use Rattle.model.specs.Bytes.{zeros}
use Rattle.model.specs.Tests.{given, within, all_below, join_below}
use Rattle.model.specs.Zone.{zone_group, legal_table}

-- "1 to 24 phys, numbered from 0." A record has room for 24, so a shelf that no start made has no more than that either.
abbrev pub phy_number : Shelf → ℕ
phy_number s = min s.number 24

abbrev pub exists : Shelf → ℕ → Bool
exists s p = ltb p (phy_number s)

-- ---- One phy

abbrev pub monitor : ℕ → ℕ → ℕ → Monitor
monitor source value threshold = record { source = source; value = value; threshold = threshold }

-- A start: "All phys are enabled, .. every other number is 0, and every monitor's source is 00h."
abbrev pub fresh_monitor : Monitor
fresh_monitor = monitor 0x00 0 0

abbrev pub fresh_phy : ℕ → Phy
fresh_phy g =
    record {
      group = g;
      enabled = true;
      errors = replicate 4 0;
      monitors = replicate 4 fresh_monitor;
      change0 = 0;
      expander1 = 0;
      expander2 = 0;
    }

-- Where there is no phy stands a fresh one of group 0.
abbrev pub no_phy : Phy
no_phy = fresh_phy 0

abbrev pub phy_at : Shelf → ℕ → Phy
phy_at s p = get_or s.phys p no_phy

-- ---- Changing a part: everything that is not named stays as it was

-- a phy with other numbers, in the group that it had
abbrev pub phy_with : Phy → Bool → List ℕ → List Monitor → ℕ → ℕ → ℕ → Phy
phy_with x enabled errors monitors change0 expander1 expander2 =
    record {
      group = x.group;
      enabled = enabled;
      errors = errors;
      monitors = monitors;
      change0 = change0;
      expander1 = expander1;
      expander2 = expander2;
    }

-- a shelf with other phys, counts and stored peak events, and the phy number, table and identifier that it had
abbrev pub shelf_with : Shelf → List Phy → ℕ → ℕ → ℕ → Store → Shelf
shelf_with s phys changes expander3 ses0 store =
    record {
      number = s.number;
      phys = phys;
      table = s.table;
      identifier = s.identifier;
      changes = changes;
      expander3 = expander3;
      ses0 = ses0;
      store = store;
    }

-- another record for phy p, and another change count
abbrev pub put : Shelf → ℕ → Phy → ℕ → Shelf
put s p x changes = shelf_with s (set s.phys p x) changes s.expander3 s.ses0 s.store

-- other counts under FFh
abbrev pub put_device : Shelf → ℕ → ℕ → Shelf
put_device s expander3 ses0 = shelf_with s s.phys s.changes expander3 ses0 s.store

-- another list of stored peak events
abbrev pub put_store : Shelf → Store → Shelf
put_store s store = shelf_with s s.phys s.changes s.expander3 s.ses0 store

-- ---- A start

-- "24 groups (those past the phy number are ignored)": places past the phy number hold a fresh phy of group 0.
abbrev pub start_group : ℕ → List ℕ → ℕ → ℕ
start_group n groups p = cond (ltb p n) (get_or groups p 0) 0

abbrev pub fresh_phys : ℕ → List ℕ → List Phy
fresh_phys n groups = join_below 24 (λ p. fresh_phy (start_group n groups p) ∷ [])

-- #101: "8 and 9 the last index stored (0000h if none)"; a start has stored none
abbrev pub entry_of : ℕ → Monitor → Entry
entry_of p m = record { phy = p; monitor = m }

abbrev pub no_entry : Entry
no_entry = entry_of 0 fresh_monitor

abbrev pub fresh_store : Store
fresh_store = record { last = 0x0000; count = 0; entries = replicate 32 no_entry }

-- "the change count is 0001h, every other number is 0"
unfoldable pub fresh_shelf : ℕ → List ℕ → List ℕ → List ℕ → Shelf
fresh_shelf n groups table identifier =
    record {
      number = n;
      phys = fresh_phys n groups;
      table = table;
      identifier = identifier;
      changes = 0x0001;
      expander3 = 0;
      ses0 = 0;
      store = fresh_store;
    }

-- "A refused start gives no device": this shelf of no phys, in which nobody reaches anything, stands for it.
unfoldable pub no_shelf : Shelf
no_shelf = fresh_shelf 0 (zeros 24) (zeros 32) (zeros 8)

-- What is told, with the shelf afterwards: the new one where it was done, the old one where it was refused.
abbrev pub outcome : Taken → Shelf → Shelf → Outcome
outcome (Ok done) old new = record { taken = Ok tt; shelf = new }
outcome (Err house) old new = record { taken = Err house; shelf = old }

-- the groups of the n phys are zone groups
abbrev pub groups_fit : ℕ → List ℕ → Bool
groups_fit n groups = all_below n (λ p. zone_group (get_or groups p 0))

-- H1 "phy number not 1 to 24", H2 "a phy's group is above 31", H3 "table not legal"
unfoldable pub start_taken : ℕ → List ℕ → List ℕ → Taken
start_taken n groups table =
    given (not (within 1 24 n)) (Err PhyNumber)
    (given (not (groups_fit n groups)) (Err PhyGroup)
    (given (not (legal_table table)) (Err IllegalTable)
    (Ok tt)))

-- "A start takes phy number, 24 groups .., table and identifier."
unfoldable pub start : ℕ → List ℕ → List ℕ → List ℕ → Outcome
start n groups table identifier = outcome (start_taken n groups table) no_shelf (fresh_shelf n groups table identifier)
