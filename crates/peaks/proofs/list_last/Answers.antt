use Rattle.std.proofs.Common.{◌≡◌, ◌+◌, ◌-◌, ◌%◌, arith, refl}
use Rattle.model.proofs.Plain.Store.{kept_few}
use Rattle.words.specs.Words.{shelf_of}
use Rattle.peaks.proofs.Walk.{walk_begin, walk_turn, walk_end}
use Rattle.peaks.proofs.list_last.Goals as goal

-- src/lib.rt:103:5
pub loop-i-init : goal.loop-i-init
loop-i-init c =
    let begun = c.enumerate-i-items.ensures in
    rw (c.into_iter-i-iterator.ensures.into_iter_gives, begun.count, begun.source) (walk_begin, refl, omega arith)

-- src/lib.rt:103:5
pub loop-i-preserved : goal.loop-i-preserved
loop-i-preserved c =
    let (range, i, next, _) = c.in-Some.ensures.steps in
    let few = kept_few (shelf_of c.args.words.now).store in
    let place : c.in-Some.place ≡ c.count.result % 32 + (32 - c.args.n) + c.loop-i.i-iterator.count =
    omega (arith, range, c.loop-i.invariant, few) in
    rw next (
      walk_turn c.loop-i.invariant.0 (omega (arith, range, c.loop-i.invariant, few))
          (rw (i, c.entry_at.ensures, place, c.count.ensures) at c.list.ensures),
      omega (arith, range, c.loop-i.invariant),
      omega (arith, range, c.loop-i.invariant),
    )

-- src/lib.rt:96:1
pub returns : goal.returns
returns c =
    walk_end c.loop-i.invariant.0 (omega arith)
    (omega (arith, c.in-None.ensures.steps, c.loop-i.invariant, kept_few (shelf_of c.args.words.now).store))
