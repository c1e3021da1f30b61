use Rattle.judge.specs.Because.{step_text}
use Rattle.judge.proofs.Appending.{then, last}
use Rattle.judge.proofs.lines.Line.put_step.Goals as goal

pub returns-clause-value : goal.returns-clause-value
unfolding step_text
returns-clause-value c = search (then, last) depth 12
