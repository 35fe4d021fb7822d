-- `peaks::list_last` meets its contract. The loop goes as `Walk` says, over the last n entries. Assumes nothing.
use Rattle.std.proofs.Common.{◌≡◌, ◌+◌, ◌-◌}
use Rattle.words.specs.Words.{shelf_of}
use Rattle.peaks.proofs.Walk.{Walked}
use Rattle.peaks.proofs.list_last.Given as goal

abbrev pub invariant-loop-i : goal.invariant-loop-i
invariant-loop-i l =
    Walked (shelf_of l.words).store l.n l.initial.out l.i-iterator.count l.out
    × (l.i-iterator.iter.end ≡ l.end)
    × (l.i-iterator.iter.start ≡ l.end - l.n + l.i-iterator.count)
