use Rattle.std.proofs.Common.{◌≡◌, ℕ, List, length}
use Rattle.checker.proofs.Retrace.{Notes}
use Rattle.checker.specs.Runs.{after}
use Rattle.machine.specs.Effects.{State}
use Rattle.machine.specs.Record.{state_of}
use Rattle.checker.proofs.retracing.retrace.Given as goal

abbrev pub invariant-loop-taken : goal.invariant-loop-taken
invariant-loop-taken l =
    let m = l.fn.machine in
    let start : State × List ℕ = (state_of m, l.initial.words) in
    record {
      kept : length l.words ≡ length l.initial.words;
      reached : ◌≡◌ {A = State × List ℕ} (l.state, l.words) (after m.code m.«data» l.code l.taken start);
      notes : Notes m.code m.«data» l.code start l.writers l.taken;
      all : length l.writers ≡ 32;
    }
