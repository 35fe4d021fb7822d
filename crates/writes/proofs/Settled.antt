-- The promise of each public function of this crate settles its outcome (`Settled` of the model), and what is read from an operation's code
-- is settled by it. Assumes nothing.
use Prim.Native.Nat.{ℕ}
use mathlib.Core.Path.{◌≡◌, refl, sym, ap, ◌∙◌}
use mathlib.Core.Bool.{true≢false}
use Rattle.std.specs.Prelude.{cond, eqb, Result, Ok, Err}
use Rattle.model.specs.declared.Failure.{Failure}
use Rattle.model.specs.Settled.{Settled}
use Rattle.model.proofs.Laws.Settling.{value_settles}
use Rattle.writes.proofs.configure.configured
use Rattle.writes.proofs.control.controlled
use Rattle.writes.proofs.descriptors.first_unsupported
use Rattle.writes.specs.declared.operation.PhyOperation.{PhyOperation}
use Rattle.writes.specs.declared.operation.PhyOperation.TheVariants.{NoOperation, LinkReset, Disable, ClearErrorLog}
use Rattle.writes.specs.Operation.{operation_code, Names}

pub configured_settled : Settled configured.Kinds.ps configured.Kinds.r configured.Reads.Pre configured.Reads.Post
configured_settled = value_settles _ _ _ (λ κs a x y. refl)

pub controlled_settled : Settled controlled.Kinds.ps controlled.Kinds.r controlled.Reads.Pre controlled.Reads.Post
controlled_settled = value_settles _ _ _ (λ κs a x y. refl)

pub first_unsupported_settled : Settled first_unsupported.Kinds.ps first_unsupported.Kinds.r first_unsupported.Reads.Pre first_unsupported.Reads.Post
first_unsupported_settled = value_settles _ _ _ (λ κs a x y. refl)

-- the operation that has the code, of the four
abbrev operation_of : ℕ → PhyOperation
operation_of code = cond (eqb code 0x00) NoOperation (cond (eqb code 0x01) LinkReset (cond (eqb code 0x03) Disable ClearErrorLog))

operation_back : (operation : PhyOperation) → operation_of (operation_code operation) ≡ operation
operation_back NoOperation = refl
operation_back LinkReset = refl
operation_back Disable = refl
operation_back ClearErrorLog = refl

-- `PhyOperation::try_from` has one answer to each code.
pub operation_settled : (code : ℕ) (one other : Result PhyOperation Failure) → Names code one → Names code other → one ≡ other
operation_settled code (Ok one) (Ok other) (known, is) (known', is') =
    ap Ok (sym (operation_back one) ∙ ap operation_of (sym is ∙ is') ∙ operation_back other)
operation_settled code (Ok one) (Err other) (known, is) (unknown, is') = absurd (true≢false (sym known ∙ unknown))
operation_settled code (Err one) (Ok other) (unknown, is) (known, is') = absurd (true≢false (sym known ∙ unknown))
operation_settled code (Err one) (Err other) (unknown, is) (unknown', is') = ap Err (is ∙ sym is')
