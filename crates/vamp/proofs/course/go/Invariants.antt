use Prim.Native.Nat.{◌-◌, ◌≤◌}
use mathlib.Core.Path.{◌≡◌}
use Rattle.machine.specs.Record.{state_of}
use Rattle.vamp.specs.Steps.{answered, onward, start}
use Rattle.vamp.specs.Inner.{course}
use Rattle.vamp.proofs.course.go.Given as goal

abbrev pub invariant-loop-taken : goal.invariant-loop-taken
invariant-loop-taken l = (l.taken ≤ l.limit) × (l.masked ≤ l.taken) × (onward (l.limit - l.taken) (course l.taken (answered l.answer) l.masked (l.state, l.memory)) ≡ onward l.limit (start (state_of l.machine, l.initial.memory)))
