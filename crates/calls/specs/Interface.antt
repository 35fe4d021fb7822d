-- An interface: functions that can be called, what is seen of each call, and how they tell what the model says. A call is a value: what was
-- handed in, and what came back. Of what came back nothing is known but that the promise of the function that was called allows it
-- (`Allowed` of the model). That the code keeps each promise is proved in its crate.
use Rattle.std.specs.Prelude.{ℕ, Bool, List}
use contract.Lifetimes.{Lfts}
use borrow.Fn.Kinds.{ParamKind, ResultKind, Dens, Out}
use Rattle.model.specs.Settled.{Allowed}
use Rattle.calls.specs.Operations.{Said, Given}
use Rattle.calls.specs.Runs.{Seen, Asks}

-- A call of a function: the lifetimes of what it is lent, its arguments in their order, and an outcome that its promise allows.
pub record CallOf {n : ℕ} (ps : List (ParamKind n)) (r : ResultKind n) (Post : Out n ps r) : Type 0 where
  pub lifetimes : Lfts n
  pub arguments : Dens lifetimes ps
  pub outcome : Allowed ps r Post lifetimes arguments

pub record Interface : Type 1 where
  -- what a caller is told, how what the model says is coded as that; and what is read off it: the number of a house refusal (0: none), and
  -- whether an event report's own addition was cut (#104)
  pub Told : Type 0
  pub coded : Said → Told
  pub refusal : Told → ℕ
  pub cut : Told → Bool
  -- the calls that take the words of a shelf
  pub Call : Type 0
  pub seen : Call → Asks Told
  -- the calls that begin a run
  pub Start : Type 0
  pub started : Start → Seen Given Told
