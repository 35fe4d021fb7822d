-- The promise of each public function of this crate settles its outcome (`Settled` of the model). Assumes nothing.
use mathlib.Core.Path.{refl, sym, ap, ◌∙◌}
use Rattle.model.specs.Settled.{Settled}
use Rattle.model.proofs.Laws.Settling.{value_settles}
use Rattle.server.proofs.start
use Rattle.server.proofs.serve
use Rattle.server.proofs.event
use Rattle.server.proofs.link_change
use Rattle.server.proofs.notice
use Rattle.server.proofs.reach_query

pub start_settled : Settled start.Kinds.ps start.Kinds.r start.Reads.Pre start.Reads.Post
start_settled = record {
  asks_nothing = λ κs a. tt;
  same_result = λ κs a x y. x.promised.0 ∙ sym y.promised.0;
  same_lent = λ κs a x y. ap (λ words. (words, (tt, (tt, (tt, (tt, tt)))))) (x.promised.1 ∙ sym y.promised.1);
}

pub serve_settled : Settled serve.Kinds.ps serve.Kinds.r serve.Reads.Pre serve.Reads.Post
serve_settled = record {
  asks_nothing = λ κs a. tt;
  same_result = λ κs a x y. x.promised.0 ∙ sym y.promised.0;
  same_lent = λ κs a x y.
      ap (λ words. (words, (tt, (tt, (x.lent.1.1.1.0, tt))))) (x.promised.1.0 ∙ sym y.promised.1.0)
      ∙ ap (λ out. (y.lent.0, (tt, (tt, (out, tt))))) (x.promised.1.1 ∙ sym y.promised.1.1);
}

pub event_settled : Settled event.Kinds.ps event.Kinds.r event.Reads.Pre event.Reads.Post
event_settled = record {
  asks_nothing = λ κs a. tt;
  same_result = λ κs a x y. x.promised.0 ∙ sym y.promised.0;
  same_lent = λ κs a x y. ap (λ words. (words, (tt, (tt, (tt, tt))))) (x.promised.1 ∙ sym y.promised.1);
}

pub link_change_settled : Settled link_change.Kinds.ps link_change.Kinds.r link_change.Reads.Pre link_change.Reads.Post
link_change_settled = record {
  asks_nothing = λ κs a. tt;
  same_result = λ κs a x y. x.promised.0 ∙ sym y.promised.0;
  same_lent = λ κs a x y. ap (λ words. (words, (tt, tt))) (x.promised.1 ∙ sym y.promised.1);
}

pub notice_settled : Settled notice.Kinds.ps notice.Kinds.r notice.Reads.Pre notice.Reads.Post
notice_settled = record {
  asks_nothing = λ κs a. tt;
  same_result = λ κs a x y. refl;
  same_lent = λ κs a x y. ap (λ words. (words, (tt, tt))) (x.promised ∙ sym y.promised);
}

pub reach_query_settled : Settled reach_query.Kinds.ps reach_query.Kinds.r reach_query.Reads.Pre reach_query.Reads.Post
reach_query_settled = value_settles _ _ _ (λ κs a x y. refl)
