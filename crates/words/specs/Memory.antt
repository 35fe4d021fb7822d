-- What the type `[u32; WORDS]` says of the words of a shelf: how many they are, and how wide. The numbers of the definitions have no width.
use Rattle.std.specs.Prelude.{ℕ, ◌≤◌, ◌≡◌, List, length}
use Rattle.words.specs.Sizes.{shelf_words}
use Rattle.words.specs.Words.{word_at}

-- a word has 32 bits (past the end stands 0)
abbrev pub WordsFit : List ℕ → Type 0
WordsFit ws = (i : ℕ) → word_at ws i ≤ 0xFFFFFFFF

pub record Memory (ws : List ℕ) : Type 0 where
  pub size : length ws ≡ shelf_words
  pub words : WordsFit ws
