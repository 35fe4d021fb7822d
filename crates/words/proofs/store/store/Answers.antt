-- `words::store::store` meets its contract: a part of the words is written. Assumes nothing.
use Rattle.std.proofs.Common.{◌+◌, ◌-◌, length, refl, arith, ◌∙◌}
use Rattle.std.proofs.lemmas.Slice.{put_mid-paste}
use lib.Seq.{sets-eq, take-length}
use Rattle.words.proofs.store.store.Goals as goal

pub returns : goal.returns
returns c =
    let a = c.args in
    let xs = a.numbers.now in
    put_mid-paste a.at (a.at + length xs - a.at) a.words.now c.copy_from_slice.new.self xs (length xs) c.copy_from_slice.ensures.after (omega arith) refl
    ∙ rw (take-length, sets-eq xs a.words.now a.at (omega arith))
