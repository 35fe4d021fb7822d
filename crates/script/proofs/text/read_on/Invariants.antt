-- `script::text::read_on`: the loop's invariant: reading on by what is left of the form comes to what the definition says.
use Rattle.std.proofs.Common.{◌≡◌, drop}
use Rattle.script.specs.Text.{read_on}
use Rattle.script.proofs.text.read_on.Given as goal

abbrev pub invariant-loop-one : goal.invariant-loop-one
invariant-loop-one l = read_on l.line l.next (drop l.one-index l.form) ≡ read_on l.line l.initial.next l.form
