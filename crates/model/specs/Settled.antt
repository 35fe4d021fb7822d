-- "The promise of a public function settles, for all inputs, the result, the next state and the lent buffer afterwards, in refusals
-- too. Show that no two differing outcomes satisfy it". The shelf is kept in words that the caller lends: the next state is what these
-- words hold at the function's exit (`lent`), where the buffer's bytes afterwards are too.
--
-- A promise is taken as the toolchain reads it off the function's source, so that nothing is typed a second time: `Kinds` of a function
-- has the kinds of its parameters (ps) and of its result (r), `Reads` what it may assume (`Pre`) and must show (`Post`). Every clause here
-- is a plain fact, so these are also what its caller shows and learns. κs are the lifetimes of what is lent, a the arguments.
--
-- A promise that nothing can keep would be settled too; that one outcome keeps it is the function's own proof, since it always returns.
-- The arguments have in them where lent memory lies: that no answer, and no word and no byte afterwards, depends on it is a theorem over
-- what the promises allow, in crates/calls. No public function gives a reference back, so what each `&mut` holds at the exit is known.
use Rattle.std.specs.Prelude.{ℕ, ◌≡◌, List}
use contract.Lifetimes.{Lfts}
use denote.Triple.Clauses.{Lasts, at_exit}
use borrow.Fn.Kinds.{ParamKind, ResultKind, Dens, In, Out, res_t, ended_of}

module _ {n : ℕ} (ps : List (ParamKind n)) (r : ResultKind n) where
  -- An outcome that a promise allows at these inputs: the result, and what each `&mut` holds at the function's exit.
  pub record Allowed (Post : Out n ps r) (κs : Lfts n) (a : Dens κs ps) : Type 0 where
    pub result : (res_t r κs).Denot
    pub lent : Lasts (ended_of n ps r) κs a
    pub promised : Post κs a result (at_exit (ended_of n ps r) κs a lent)

  -- "for all inputs": nothing is asked of them; "no two differing outcomes": any two that the promise allows agree in the result and
  -- in what each `&mut` holds afterwards.
  pub record Settled (Pre : In n ps) (Post : Out n ps r) : Type 0 where
    pub asks_nothing : (κs : Lfts n) (a : Dens κs ps) → Pre κs a
    pub same_result : (κs : Lfts n) (a : Dens κs ps) (x y : Allowed Post κs a) → x.result ≡ y.result
    pub same_lent : (κs : Lfts n) (a : Dens κs ps) (x y : Allowed Post κs a) → x.lent ≡ y.lent
