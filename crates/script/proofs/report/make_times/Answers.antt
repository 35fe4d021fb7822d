-- `script::report::make_times` meets its contract. Assumes nothing.
use Rattle.std.proofs.Common.{◌≡◌, ◌-◌, ap, ◌∙◌, arith}
use Rattle.script.specs.Report.{Made, make_more}
use Rattle.script.proofs.Left.{make_turn}
use Rattle.script.proofs.report.make_times.Goals as goal

pub loop-preserved : goal.loop-preserved
loop-preserved c =
    rw (c.make_report-told.ensures.told, c.make_report-told.ensures.kept)
    (make_turn _ c.args.report c.args.times c.loop.counter (omega arith) ∙ c.loop.invariant)

pub returns : goal.returns
unfolding make_more
returns c =
    let done : c.args.times - c.loop.counter ≡ 0 = omega arith in
    let made = rw done at c.loop.invariant in
    record { told = ap (λ (m : Made). m.answer) made; kept = ap (λ (m : Made). m.words) made }
