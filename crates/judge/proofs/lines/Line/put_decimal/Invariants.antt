use Rattle.std.proofs.Common.{◌+◌, ◌≤◌}
use Rattle.judge.specs.declared.lines.Line.{Line}
use Rattle.judge.specs.Digits.{digits}
use Rattle.judge.specs.Line.{decimal}
use Rattle.judge.specs.Work.{Extends}
use Rattle.judge.proofs.lines.Line.put_decimal.Given as goal

-- The digits below the place are still to come
abbrev pub invariant-loop-place : goal.invariant-loop-place
invariant-loop-place l = record {
  rest : (m : Line) → Extends l.line m (digits 10 l.place l.n) → Extends l.initial.line m (decimal l.n);
  room : l.line.len + l.place ≤ l.initial.line.len + 10;
}
