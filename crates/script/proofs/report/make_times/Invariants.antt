-- `script::report::make_times`: the loop's invariant: made as many times more as are left, it comes to what the definition
-- says.
use Rattle.std.proofs.Common.{◌≡◌, ◌-◌}
use Rattle.script.specs.Report.{make_more}
use Rattle.script.proofs.report.make_times.Given as goal

abbrev pub invariant-loop : goal.invariant-loop
invariant-loop l =
    make_more (record { answer = l.told; words = l.words }) l.report (l.times - l.counter)
    ≡ make_more (record { answer = l.initial.told; words = l.initial.words }) l.report l.times
