-- A promise that says what the result is settles it; one that leaves the result or a lent buffer open is not settled. Assumes nothing.
use Prim.Native.Nat.{ℕ}
use native.Mathlib.Omega.{arith}
use mathlib.Core.Path.{◌≡◌, sym, ap, ◌∙◌}
use mathlib.Core.List.{List, [], ◌∷◌}
use lib.ListN.{length}
use contract.Lifetimes.{Lfts}
use denote.MutBor.{MutBor}
use denote.Triple.Clauses.{Lasts}
use mir.Syntax.{w8, w32}
use borrow.Fn.Kinds.{ParamKind, ResultKind, Dens, res_t, ended_of}
use borrow.Kind.MutSlice.{p_mut_s}
use borrow.Kind.Num.{r_num}
use borrow.Kind.Unit.{r_unit}
use borrow.Table.Referent.{rt_f, f_int}
use Rattle.model.specs.Settled.{Settled}

-- where nothing is lent to write in: what could be held at the exit is all one
pub value_settles : {n : ℕ} (ps : List (ParamKind n)) (r : ResultKind n) (value : (κs : Lfts n) → Dens κs ps → (res_t r κs).Denot)
    → ((κs : Lfts n) (a : Dens κs ps) (x y : Lasts (ended_of n ps r) κs a) → x ≡ y)
    → Settled ps r (λ κs a. Unit {0}) (λ κs a result exits. result ≡ value κs a)
value_settles ps r value nothing_lent = record {
  asks_nothing = λ κs a. tt;
  same_result = λ κs a x y. x.promised ∙ sym y.promised;
  same_lent = λ κs a x y. nothing_lent κs a x.lent y.lent;
}

-- "A public function that says nothing of what it returns is not accepted": a promise that says nothing, of a function that returns a
-- 32-bit number, is not settled,
pub result_open : Settled {n = 0} [] (r_num w32) (λ κs a. Unit {0}) (λ κs a result exits. Unit {0}) → ⊥
result_open settled =
    let same : ◌≡◌ {A = ℕ} 0 1 =
    settled.same_result tt tt
    (record { result = 0; lent = tt; promised = tt })
    (record { result = 1; lent = tt; promised = tt }) in
    omega (arith, same)

-- and so of a function that returns nothing and is lent a buffer of bytes to write in.
pub buffer_open : Settled {n = 1} (p_mut_s (rt_f (f_int w8)) 0 tt ∷ []) r_unit (λ κs a. Unit {0}) (λ κs a result exits. Unit {0}) → ⊥
buffer_open settled =
    let buffer : MutBor (List ℕ) = record { ref_ptr = (0, 0); ghost_name = 0; now = [] } in
    let same : ◌≡◌ {A = ℕ} 0 1 =
    ap (λ (l : List ℕ × Unit {0}). length l.0)
    (settled.same_lent ([], tt) (buffer, tt)
    (record { result = tt; lent = ([], tt); promised = tt })
    (record { result = tt; lent = (0 ∷ [], tt); promised = tt })) in
    omega (arith, same)
