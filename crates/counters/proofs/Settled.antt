-- The promise of each public function of this crate settles its outcome (`Settled` of the model). Assumes nothing.
use Rattle.std.proofs.Common.{sym, refl, ◌∙◌}
use Rattle.model.specs.Settled.{Settled}
use Rattle.model.proofs.Laws.Settling.{value_settles}
use Rattle.counters.proofs.counts.originate
use Rattle.counters.proofs.counts.add_wrapping
use Rattle.counters.proofs.counts.add_saturating
use Rattle.counters.proofs.phy.event_on
use Rattle.counters.proofs.phy.change_on
use Rattle.counters.proofs.report.event_taken
use Rattle.counters.proofs.report.event_answer
use Rattle.counters.proofs.sources.counting
use Rattle.counters.proofs.sources.peak
use Rattle.counters.proofs.sources.supported

pub originate_settled : Settled originate.Kinds.ps originate.Kinds.r originate.Reads.Pre originate.Reads.Post
originate_settled = value_settles _ _ _ (λ κs a x y. refl)

pub add_wrapping_settled : Settled add_wrapping.Kinds.ps add_wrapping.Kinds.r add_wrapping.Reads.Pre add_wrapping.Reads.Post
add_wrapping_settled = value_settles _ _ _ (λ κs a x y. refl)

pub add_saturating_settled : Settled add_saturating.Kinds.ps add_saturating.Kinds.r add_saturating.Reads.Pre add_saturating.Reads.Post
add_saturating_settled = value_settles _ _ _ (λ κs a x y. refl)

pub event_on_settled : Settled event_on.Kinds.ps event_on.Kinds.r event_on.Reads.Pre event_on.Reads.Post
event_on_settled =
    record {
      asks_nothing = λ κs a. tt;
      same_result = λ κs a x y. λ i.
          record {
            effect = (x.promised.0 ∙ sym y.promised.0) i;
            cut = (x.promised.1 ∙ sym y.promised.1) i;
          };
      same_lent = λ κs a x y. refl;
    }

pub change_on_settled : Settled change_on.Kinds.ps change_on.Kinds.r change_on.Reads.Pre change_on.Reads.Post
change_on_settled = value_settles _ _ _ (λ κs a x y. refl)

pub event_taken_settled : Settled event_taken.Kinds.ps event_taken.Kinds.r event_taken.Reads.Pre event_taken.Reads.Post
event_taken_settled = value_settles _ _ _ (λ κs a x y. refl)

pub event_answer_settled : Settled event_answer.Kinds.ps event_answer.Kinds.r event_answer.Reads.Pre event_answer.Reads.Post
event_answer_settled = value_settles _ _ _ (λ κs a x y. refl)

pub counting_settled : Settled counting.Kinds.ps counting.Kinds.r counting.Reads.Pre counting.Reads.Post
counting_settled = value_settles _ _ _ (λ κs a x y. refl)

pub peak_settled : Settled peak.Kinds.ps peak.Kinds.r peak.Reads.Pre peak.Reads.Post
peak_settled = value_settles _ _ _ (λ κs a x y. refl)

pub supported_settled : Settled supported.Kinds.ps supported.Kinds.r supported.Reads.Pre supported.Reads.Post
supported_settled = value_settles _ _ _ (λ κs a x y. refl)
