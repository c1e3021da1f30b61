use Rattle.std.proofs.Common.{◌≡◌, ℕ, suc, ◌-◌, List, length}
use Rattle.checker.specs.Runs.{running, after}
use Rattle.checker.specs.Seven.{writes}
use Rattle.machine.specs.Effects.{State}
use Rattle.checker.proofs.running.go.Given as goal

abbrev pub invariant-loop-taken : goal.invariant-loop-taken
invariant-loop-taken l =
    let m = l.fn.machine in
    let start : State × List ℕ = (l.fn.state, l.fn.words) in
    record {
      kept : length l.words ≡ length l.fn.words;
      runs_on : running m.code m.«data» l.code l.taken (l.limit - l.taken) (l.state, l.words) ≡ running m.code m.«data» l.code 0 l.limit start;
      reached : ◌≡◌ {A = State × List ℕ} (l.state, l.words) (after m.code m.«data» l.code l.taken start);
      wrote : (k : ℕ) → l.taken ≡ suc k → l.wrote ≡ writes m.code m.«data» l.code start k;
    }
