-- What a request leaves, on the words and the lent buffer: one whose result is a failed one, a write, and one for the list of stored peak
-- events (#101).
use Rattle.std.specs.Prelude.{ℕ, ◌≡◌, List, ◌∷◌, ◌++◌, length, drop, Ok}
use Rattle.model.specs.declared.Shelf.{Shelf}
use Rattle.model.specs.Request.{function_of}
use Rattle.words.specs.Words.{shelf_of}
use Rattle.calls.specs.Operations.{Said, ToRequest}
use Rattle.calls.specs.Runs.{Asks}

-- "A failed response is 41h, the function, the result, 00h. The buffer past any response is unchanged", and so is every word.
pub record Fails {A : Type 0} (coded : Said → A) (frame out : List ℕ) (code : ℕ) (c : Asks A) : Type 0 where
  pub words : c.after ≡ c.before
  pub told : c.told ≡ coded (ToRequest (Ok 4))
  pub buffer : c.buffer ≡ 0x41 ∷ function_of frame ∷ code ∷ 0x00 ∷ drop 4 out

-- A write: the words stand for a shelf with the full effect where it passes; and where it does not, no word has changed.
pub record WordsFullOrNone (Passing : Type 0) (Full : Shelf → Type 0) (before after : List ℕ) : Type 0 where
  pub full : Passing → Full (shelf_of after)
  pub none : (Passing → ⊥) → after ≡ before

-- An answer: these bytes at the front of the buffer, its old rest behind them, and every word as it was.
pub record Answers {A : Type 0} (coded : Said → A) (bytes out : List ℕ) (c : Asks A) : Type 0 where
  pub words : c.after ≡ c.before
  pub told : c.told ≡ coded (ToRequest (Ok (length bytes)))
  pub buffer : c.buffer ≡ bytes ++ drop (length bytes) out
