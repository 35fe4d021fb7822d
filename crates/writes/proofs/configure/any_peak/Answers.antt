-- `writes::configure::any_peak` meets its contract: it asks each monitor. Assumes nothing.
use Rattle.std.proofs.Common.{◌≡◌, ◌∙◌, List, [], ◌∷◌, refl, ap, ◌||◌, rules, tests}
use Rattle.std.specs.List.{list_any}
use Rattle.std.proofs.lemmas.Iterator.{YieldsList-from_slice}
use Rattle.std.proofs.lemmas.Iterator.Search.{any_from_yields_List}
use Rattle.model.specs.declared.Monitor.{Monitor}
use Rattle.model.specs.Sources.{peak}
use Rattle.model.specs.Writes.{any_peak}
use Rattle.writes.proofs.configure.any_peak.Goals as goal

asked : (ms : List Monitor) → list_any (λ m. peak m.source) ms ≡ any_peak ms
unfolding any_peak
asked [] = refl
asked (m ∷ ms) = ap (λ others. peak m.source || others) (asked ms)

pub returns : goal.returns
returns c =
    any_from_yields_List (λ m. peak m.source) _ _ _ c.any.ensures.ran (YieldsList-from_slice c.args.monitors cc) (λ x b q k. search (rules, tests))
    ∙ asked c.args.monitors
