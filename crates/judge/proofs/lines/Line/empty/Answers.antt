use mathlib.Core.Path.{refl}
use Rattle.judge.specs.Line.{line_of}
use Rattle.judge.proofs.lines.Line.empty.Goals as goal

pub returns-clause-value : goal.returns-clause-value
unfolding line_of
returns-clause-value c = refl
