-- The promise of each public function of this crate settles its outcome (`Settled` of the model). Assumes nothing.
use mathlib.Core.Path.{refl}
use Rattle.model.specs.Settled.{Settled}
use Rattle.model.proofs.Laws.Settling.{value_settles}
use Rattle.results.proofs.check_read
use Rattle.results.proofs.check_kind
use Rattle.results.proofs.check_management
use Rattle.results.proofs.check_control
use Rattle.results.proofs.check_configure

pub check_read_settled : Settled check_read.Kinds.ps check_read.Kinds.r check_read.Reads.Pre check_read.Reads.Post
check_read_settled = value_settles _ _ _ (λ κs a x y. refl)

pub check_kind_settled : Settled check_kind.Kinds.ps check_kind.Kinds.r check_kind.Reads.Pre check_kind.Reads.Post
check_kind_settled = value_settles _ _ _ (λ κs a x y. refl)

pub check_management_settled : Settled check_management.Kinds.ps check_management.Kinds.r check_management.Reads.Pre check_management.Reads.Post
check_management_settled = value_settles _ _ _ (λ κs a x y. refl)

pub check_control_settled : Settled check_control.Kinds.ps check_control.Kinds.r check_control.Reads.Pre check_control.Reads.Post
check_control_settled = value_settles _ _ _ (λ κs a x y. refl)

pub check_configure_settled : Settled check_configure.Kinds.ps check_configure.Kinds.r check_configure.Reads.Pre check_configure.Reads.Post
check_configure_settled = value_settles _ _ _ (λ κs a x y. refl)
