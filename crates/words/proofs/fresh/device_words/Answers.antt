-- `words::fresh::device_words` meets its contract: a byte of the identifier to a word. Assumes nothing.
use Rattle.std.proofs.Common.{◌≡◌, map, refl, rules, tests}
use Rattle.std.proofs.lemmas.List.FromFn.{fill_by_all}
use Rattle.model.specs.Bytes.{byte}
use Rattle.words.specs.Words.{eight}
use Rattle.words.proofs.fresh.device_words.Goals as goal

pub returns : goal.returns
returns c =
    let bytes : c.map.result ≡ map (byte c.args.identifier) eight =
    fill_by_all (byte c.args.identifier) c.map.result 8 0 c.map.ensures.items.long
    (λ i below. let called = c.map.ensures.items.at i 0 0 below in search (rules, tests)) in
    rw (c.copy_from_slice.ensures.after, bytes) refl
