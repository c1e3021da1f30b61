use Rattle.std.proofs.Common.{ℕ, List, ap}
use Rattle.checker.specs.Runs.{taking}
use Rattle.machine.specs.Effects.{State}
use Rattle.machine.specs.Record.{with_state}
use Rattle.checker.proofs.Refusals.{refused}
use Rattle.checker.proofs.running.take.Goals as goal

pub returns-in-Err : goal.returns-in-Err
returns-in-Err c = rw c.in-Err.is (refused c.in-Err.refusal c.args.limit c.args.machine.now c.args.code.now c.args.words.now)

pub returns : goal.returns
unfolding taking
returns c =
    rw (c.in_default.is, c.with_state.ensures)
    (ap (λ (o : (ℕ × List ℕ) × (State × List ℕ)). (o.0, with_state c.args.machine.now o.1.0, o.1.1)) (rw c.state-state.ensures at c.go-ran.ensures.0))
