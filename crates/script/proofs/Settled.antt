-- The promise of each public function of this crate settles its outcome (`Settled` of the model). Assumes nothing.
use mathlib.Core.Path.{refl, sym, ap, ◌∙◌}
use Rattle.model.specs.Settled.{Settled}
use Rattle.model.proofs.Laws.Settling.{value_settles}
use Rattle.script.proofs.line.line_kind
use Rattle.script.proofs.line.read_asked
use Rattle.script.proofs.line.read_hex
use Rattle.script.proofs.report.read_report
use Rattle.script.proofs.report.make_times
use Rattle.script.proofs.shelf_w.shelf_w
use Rattle.script.proofs.text.unread
use Rattle.script.proofs.text.read
use Rattle.script.proofs.text.read_whole

pub line_kind_settled : Settled line_kind.Kinds.ps line_kind.Kinds.r line_kind.Reads.Pre line_kind.Reads.Post
line_kind_settled = value_settles _ _ _ (λ κs a x y. refl)

pub read_asked_settled : Settled read_asked.Kinds.ps read_asked.Kinds.r read_asked.Reads.Pre read_asked.Reads.Post
read_asked_settled = value_settles _ _ _ (λ κs a x y. refl)

pub read_hex_settled : Settled read_hex.Kinds.ps read_hex.Kinds.r read_hex.Reads.Pre read_hex.Reads.Post
read_hex_settled = value_settles _ _ _ (λ κs a x y. refl)

pub read_report_settled : Settled read_report.Kinds.ps read_report.Kinds.r read_report.Reads.Pre read_report.Reads.Post
read_report_settled = value_settles _ _ _ (λ κs a x y. refl)

pub make_times_settled : Settled make_times.Kinds.ps make_times.Kinds.r make_times.Reads.Pre make_times.Reads.Post
make_times_settled = record {
  asks_nothing = λ κs a. tt;
  same_result = λ κs a x y. x.promised.0 ∙ sym y.promised.0;
  same_lent = λ κs a x y. ap (λ words. (words, (tt, (tt, tt)))) (x.promised.1 ∙ sym y.promised.1);
}

pub shelf_w_settled : Settled shelf_w.Kinds.ps shelf_w.Kinds.r shelf_w.Reads.Pre shelf_w.Reads.Post
shelf_w_settled = record {
  asks_nothing = λ κs a. tt;
  same_result = λ κs a x y. refl;
  same_lent = λ κs a x y. ap (λ words. (words, tt)) (x.promised ∙ sym y.promised);
}

pub unread_settled : Settled unread.Kinds.ps unread.Kinds.r unread.Reads.Pre unread.Reads.Post
unread_settled = value_settles _ _ _ (λ κs a x y. refl)

pub read_settled : Settled read.Kinds.ps read.Kinds.r read.Reads.Pre read.Reads.Post
read_settled = value_settles _ _ _ (λ κs a x y. refl)

pub read_whole_settled : Settled read_whole.Kinds.ps read_whole.Kinds.r read_whole.Reads.Pre read_whole.Reads.Post
read_whole_settled = value_settles _ _ _ (λ κs a x y. refl)
