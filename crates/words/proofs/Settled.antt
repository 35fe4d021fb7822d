-- The promise of each public function of this crate settles its outcome (`Settled` of the model). Assumes nothing.
use mathlib.Core.Path.{refl, sym, ap, ◌∙◌}
use Rattle.model.specs.Settled.{Settled}
use Rattle.model.proofs.Laws.Settling.{value_settles}
use Rattle.words.proofs.read.low16
use Rattle.words.proofs.read.number
use Rattle.words.proofs.read.changes
use Rattle.words.proofs.read.expander3
use Rattle.words.proofs.read.ses0
use Rattle.words.proofs.read.phy_at
use Rattle.words.proofs.read.row
use Rattle.words.proofs.read.identifier
use Rattle.words.proofs.read.last
use Rattle.words.proofs.read.count
use Rattle.words.proofs.read.entry_at
use Rattle.words.proofs.store.put
use Rattle.words.proofs.store.put_device
use Rattle.words.proofs.store.store_entry
use Rattle.words.proofs.fresh.lay_fresh

pub low16_settled : Settled low16.Kinds.ps low16.Kinds.r low16.Reads.Pre low16.Reads.Post
low16_settled = value_settles _ _ _ (λ κs a x y. refl)

pub number_settled : Settled number.Kinds.ps number.Kinds.r number.Reads.Pre number.Reads.Post
number_settled = value_settles _ _ _ (λ κs a x y. refl)

pub changes_settled : Settled changes.Kinds.ps changes.Kinds.r changes.Reads.Pre changes.Reads.Post
changes_settled = value_settles _ _ _ (λ κs a x y. refl)

pub expander3_settled : Settled expander3.Kinds.ps expander3.Kinds.r expander3.Reads.Pre expander3.Reads.Post
expander3_settled = value_settles _ _ _ (λ κs a x y. refl)

pub ses0_settled : Settled ses0.Kinds.ps ses0.Kinds.r ses0.Reads.Pre ses0.Reads.Post
ses0_settled = value_settles _ _ _ (λ κs a x y. refl)

pub phy_at_settled : Settled phy_at.Kinds.ps phy_at.Kinds.r phy_at.Reads.Pre phy_at.Reads.Post
phy_at_settled = value_settles _ _ _ (λ κs a x y. refl)

pub row_settled : Settled row.Kinds.ps row.Kinds.r row.Reads.Pre row.Reads.Post
row_settled = value_settles _ _ _ (λ κs a x y. refl)

pub identifier_settled : Settled identifier.Kinds.ps identifier.Kinds.r identifier.Reads.Pre identifier.Reads.Post
identifier_settled = value_settles _ _ _ (λ κs a x y. refl)

pub last_settled : Settled last.Kinds.ps last.Kinds.r last.Reads.Pre last.Reads.Post
last_settled = value_settles _ _ _ (λ κs a x y. refl)

pub count_settled : Settled count.Kinds.ps count.Kinds.r count.Reads.Pre count.Reads.Post
count_settled = value_settles _ _ _ (λ κs a x y. refl)

pub entry_at_settled : Settled entry_at.Kinds.ps entry_at.Kinds.r entry_at.Reads.Pre entry_at.Reads.Post
entry_at_settled = value_settles _ _ _ (λ κs a x y. refl)

pub put_settled : Settled put.Kinds.ps put.Kinds.r put.Reads.Pre put.Reads.Post
put_settled = record {
  asks_nothing = λ κs a. tt;
  same_result = λ κs a x y. refl;
  same_lent = λ κs a x y. ap (λ words. (words, (tt, (tt, (tt, tt))))) (x.promised ∙ sym y.promised);
}

pub put_device_settled : Settled put_device.Kinds.ps put_device.Kinds.r put_device.Reads.Pre put_device.Reads.Post
put_device_settled = record {
  asks_nothing = λ κs a. tt;
  same_result = λ κs a x y. refl;
  same_lent = λ κs a x y. ap (λ words. (words, (tt, (tt, tt)))) (x.promised ∙ sym y.promised);
}

pub store_entry_settled : Settled store_entry.Kinds.ps store_entry.Kinds.r store_entry.Reads.Pre store_entry.Reads.Post
store_entry_settled = record {
  asks_nothing = λ κs a. tt;
  same_result = λ κs a x y. refl;
  same_lent = λ κs a x y. ap (λ words. (words, (tt, (tt, tt)))) (x.promised ∙ sym y.promised);
}

pub lay_fresh_settled : Settled lay_fresh.Kinds.ps lay_fresh.Kinds.r lay_fresh.Reads.Pre lay_fresh.Reads.Post
lay_fresh_settled = record {
  asks_nothing = λ κs a. tt;
  same_result = λ κs a x y. refl;
  same_lent = λ κs a x y. ap (λ words. (words, (tt, (tt, (tt, (tt, tt)))))) (x.promised ∙ sym y.promised);
}
