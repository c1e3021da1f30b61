use Rattle.judge.specs.Line.{violation_text}
use Rattle.judge.proofs.Appending.{finished, then}
use Rattle.judge.proofs.line.Goals as goal

pub returns-in-Violation-clause-value : goal.returns-in-Violation-clause-value
unfolding violation_text
returns-in-Violation-clause-value c = rw c.in-Violation.is (finished c.empty-in-Violation.ensures.value (search (then) depth 12))
