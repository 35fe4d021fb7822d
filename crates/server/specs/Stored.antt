-- #101: what is stored of a phy, on the words.
use Rattle.std.specs.Prelude.{ℕ, ◌≤◌, List, [], ◌∷◌, Option, None, Some}
use Rattle.model.specs.declared.Entry.{Entry}
use Rattle.model.specs.declared.Monitor.{Monitor}
use Rattle.model.specs.Shelf.{entry_of, put_store}
use Rattle.model.specs.Store.{store_all}
use Rattle.words.specs.Words.{shelf_of, laid_over}

-- the entry of a monitor, if there is one to be stored
unfoldable pub if_there : ℕ → Option Monitor → List Entry
if_there p None = []
if_there p (Some m) = entry_of p m ∷ []

-- the words once these entries are stored, one after another
abbrev pub stored_over : List ℕ → List Entry → List ℕ
stored_over ws es = laid_over ws (put_store (shelf_of ws) (store_all (shelf_of ws).store es))

-- a monitor, if there is one, has a source of 8 bits
abbrev pub Narrow : Option Monitor → Type 0
Narrow None = Unit {0}
Narrow (Some m) = m.source ≤ 0xFF
