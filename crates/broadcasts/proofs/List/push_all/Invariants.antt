-- `broadcasts::List::push_all` meets its contract. The loop goes as `Walk` says, over what the source sees of each phy in the words.
-- Assumes nothing.
use Rattle.model.specs.Reply.{device_listed}
use Rattle.words.specs.Words.{shelf_of}
use Rattle.broadcasts.proofs.Walk.{Walked}
use Rattle.broadcasts.proofs.List.push_all.Given as goal

abbrev pub invariant-loop-p : goal.invariant-loop-p
invariant-loop-p l =
    let s = shelf_of l.words in
    Walked (device_listed l.kind s.expander3 s.ses0) s.phys l.row l.kind l.fn.self l.number l.p l.self
