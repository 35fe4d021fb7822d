-- `counters::phy::originate_each` meets its contract: the count is originated at each monitor that is there. Assumes nothing.
use Rattle.std.proofs.Common.{◌≡◌, ◌∙◌, ℕ, List, [], ◌∷◌, Option, Some, None, length, refl, rules}
use Rattle.std.specs.List.{fold}
use Rattle.std.specs.Prelude.{is_some}
use Rattle.model.specs.declared.Monitor.{Monitor}
use Rattle.model.specs.Counting.{originate_if, originate_times, stored_ones}
use Rattle.counters.proofs.phy.originate_each.Goals as goal

each : (ms : List (Option Monitor)) (count : ℕ)
    → fold (λ n m. originate_if (is_some m) n) count ms ≡ originate_times (length (stored_ones ms)) count
each [] count = refl
each (Some m ∷ ms) count = each ms _
each (None ∷ ms) count = each ms count

pub returns : goal.returns
returns c =
    let folded : c.fold.result ≡ fold (λ n m. originate_if (is_some m) n) c.args.count c.args.crossed = search rules in
    folded ∙ each c.args.crossed c.args.count
