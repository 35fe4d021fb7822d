-- The loop's invariant: the descriptors passed are allowed, so that the first unsupported one is that of those left. The measure is how
-- many are left.
use Rattle.std.proofs.Common.{◌≡◌, ◌-◌, ◌≤◌}
use Rattle.model.specs.Request.{first_unsupported}
use Rattle.writes.proofs.descriptors.first_unsupported.Given as goal

abbrev pub invariant-loop-i : goal.invariant-loop-i
invariant-loop-i l = (l.i ≤ l.d) × (first_unsupported l.frame (l.d - l.i) l.i ≡ first_unsupported l.frame l.d 0)

abbrev pub decreases-loop-i : goal.decreases-loop-i
decreases-loop-i l = l.d - l.i
