-- What a caller sees of one call, and of calls one after another; and that these go as the model does. Nothing here says which functions
-- are called: `Interface` does.
use Rattle.std.specs.Prelude.{ℕ, cond, ◌≡◌, List, [], ◌∷◌, ◌++◌, map}
use Rattle.model.specs.declared.Shelf.{Shelf}
use Rattle.model.specs.Runs.{Operation, Told, Answered, Shown, next}
use Rattle.words.specs.Words.{shelf_of, laid_over, started_words}
use Rattle.calls.specs.Operations.{Said, ToRequest, ToReport, ToQuery, said, buffer_after, gets, Given, start_of}

-- One call: the words that were handed in, what was asked for, by content (an operation, or what a start is given), the words that were
-- left, what was told, and all that the lent buffer then held. Where memory lies is no part of it.
pub record Seen (Asked A : Type 0) : Type 0 where
  pub before : List ℕ
  pub asked : Asked
  pub after : List ℕ
  pub told : A
  pub buffer : List ℕ

-- a call that asks for an operation
abbrev pub Asks : Type 0 → Type 0
Asks A = Seen Operation A

-- ---- The model's step

module _ {A : Type 0} (coded : Said → A) where
  -- A call goes as the model does on this shelf: the next shelf is laid over the words, what is told is what the model says, as this
  -- interface codes it, and the lent buffer is as defined.
  pub record Goes (s : Shelf) (c : Asks A) : Type 0 where
    pub words : c.after ≡ laid_over c.before (next s c.asked)
    pub told : c.told ≡ coded (said s c.asked)
    pub buffer : c.buffer ≡ buffer_after s c.asked

  -- a start goes as the model's
  pub record Starts (x : Seen Given A) : Type 0 where
    pub words : x.after ≡ started_words x.before (start_of x.asked)
    pub told : x.told ≡ coded (ToReport (start_of x.asked).taken)

  -- Calls, one after another, go as the model does from this shelf on: each finds words that stand for the model's shelf.
  unfoldable pub RunsAs : Shelf → List (Asks A) → Type 0
  RunsAs s [] = Unit {0}
  RunsAs s (c ∷ run) = (shelf_of c.before ≡ s) × Goes s c × RunsAs (next s c.asked) run

  -- what the model tells a source group, as this interface codes it
  unfoldable pub coded_told : Told → A × List ℕ
  coded_told (Answered answer buffer) = (coded (ToRequest answer), buffer)
  coded_told (Shown reach) = (coded (ToQuery reach), [])

-- ---- A run: each call is handed the words that the one before left

unfoldable pub RunFrom : {A : Type 0} → List ℕ → List (Asks A) → Type 0
RunFrom ws [] = Unit {0}
RunFrom ws (c ∷ run) = (c.before ≡ ws) × RunFrom c.after run

-- what was asked for in it, the words that were left last, and what group g got: to each of its requests and reach queries what was told,
-- and the whole lent buffer afterwards
abbrev pub operations : {A : Type 0} → List (Asks A) → List Operation
operations run = map (λ c. c.asked) run

unfoldable pub last_words : {A : Type 0} → List ℕ → List (Asks A) → List ℕ
last_words ws [] = ws
last_words ws (c ∷ run) = last_words c.after run

abbrev pub got_of : {A : Type 0} → ℕ → Asks A → List (A × List ℕ)
got_of g c = cond (gets g c.asked) ((c.told, c.buffer) ∷ []) []

unfoldable pub got : {A : Type 0} → ℕ → List (Asks A) → List (A × List ℕ)
got g [] = []
got g (c ∷ run) = got_of g c ++ got g run
