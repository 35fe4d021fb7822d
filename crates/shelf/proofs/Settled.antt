-- The promise of each public function of this crate settles its outcome (`Settled` of the model). Assumes nothing.
use mathlib.Core.Path.{refl}
use Rattle.model.specs.Settled.{Settled}
use Rattle.model.proofs.Laws.Settling.{value_settles}
use Rattle.shelf.proofs.phys.phy_number
use Rattle.shelf.proofs.phys.exists
use Rattle.shelf.proofs.phys.fresh_phy
use Rattle.shelf.proofs.reach.phy_bit
use Rattle.shelf.proofs.start.start_group
use Rattle.shelf.proofs.start.start_taken
use Rattle.shelf.proofs.table.legal_table

pub phy_number_settled : Settled phy_number.Kinds.ps phy_number.Kinds.r phy_number.Reads.Pre phy_number.Reads.Post
phy_number_settled = value_settles _ _ _ (λ κs a x y. refl)

pub exists_settled : Settled exists.Kinds.ps exists.Kinds.r exists.Reads.Pre exists.Reads.Post
exists_settled = value_settles _ _ _ (λ κs a x y. refl)

pub fresh_phy_settled : Settled fresh_phy.Kinds.ps fresh_phy.Kinds.r fresh_phy.Reads.Pre fresh_phy.Reads.Post
fresh_phy_settled = value_settles _ _ _ (λ κs a x y. refl)

pub phy_bit_settled : Settled phy_bit.Kinds.ps phy_bit.Kinds.r phy_bit.Reads.Pre phy_bit.Reads.Post
phy_bit_settled = value_settles _ _ _ (λ κs a x y. refl)

pub start_group_settled : Settled start_group.Kinds.ps start_group.Kinds.r start_group.Reads.Pre start_group.Reads.Post
start_group_settled = value_settles _ _ _ (λ κs a x y. refl)

pub start_taken_settled : Settled start_taken.Kinds.ps start_taken.Kinds.r start_taken.Reads.Pre start_taken.Reads.Post
start_taken_settled = value_settles _ _ _ (λ κs a x y. refl)

pub legal_table_settled : Settled legal_table.Kinds.ps legal_table.Kinds.r legal_table.Reads.Pre legal_table.Reads.Post
legal_table_settled = value_settles _ _ _ (λ κs a x y. refl)
