-- `SetText` prints what the definition says. Assumes nothing.
use Rattle.std.proofs.Common.{arith, rules}
use Rattle.std.proofs.Output.{has_written_of_eq}
use Rattle.spelling.proofs.Hexadecimal.{phys_text}
use Rattle.spelling.proofs.SetTextDisplay.fmt.Goals as goal

pub returns-clause-writes : goal.returns-clause-writes
returns-clause-writes g c = λ plain ok. has_written_of_eq _ _ _ _ _ (phys_text c.args.self.now.0 (omega arith)) (search rules)
