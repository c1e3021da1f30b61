use Rattle.std.proofs.Common.{◌≡◌, ℕ, ◌-◌, List, sym, refl, ◌∙◌, arith}
use native.Mathlib.Nat.{sub-zero}
use Rattle.machine.specs.Effects.{State}
use Rattle.checker.proofs.Fold.{goes_on, stopped, run_end}
use Rattle.checker.proofs.Retrace.{after_none, after_on, wrote_on}
use Rattle.checker.proofs.Tests.{test_positive}
use Rattle.checker.proofs.running.go.Goals as goal

pub loop-taken-init : goal.loop-taken-init
loop-taken-init c = record { kept = refl; runs_on = rw sub-zero; reached = after_none _ _ _ _; wrote = λ k e. absurd (omega arith) }

pub loop-taken-preserved : goal.loop-taken-preserved
loop-taken-preserved c =
    let m = c.args.machine.now in
    let l = c.loop-taken in
    let here : State × List ℕ = (l.state, l.words) in
    let start : State × List ℕ = (c.args.state.now, c.args.words.now) in
    let e = (rw c.in-Ok.is at c.step.ensures) in
    record {
      kept = c.step.auto.words ∙ l.invariant.kept;
      runs_on = goes_on m.code m.«data» c.args.code.now here l.taken c.args.limit c.loop-taken-test.true e.0 _ e.1 ∙ l.invariant.runs_on;
      reached = after_on m.code m.«data» c.args.code.now start l.taken here _ l.invariant.reached e.1;
      wrote = wrote_on m.code m.«data» c.args.code.now start l.taken _ here l.invariant.reached e.2;
    }

pub returns-in-Err : goal.returns-in-Err
returns-in-Err c =
    let m = c.args.machine.now in
    let l = c.loop-taken in
    let e = (rw c.in-Err.is at c.step.ensures) in
    (stopped m.code m.«data» c.args.code.now (l.state, l.words) l.taken c.args.limit c.loop-taken-test.true _ _ _ _ e.0 (test_positive _) e.1 e.2 e.3 ∙ l.invariant.runs_on, l.invariant.wrote)

pub returns : goal.returns
returns c =
    let m = c.args.machine.now in
    let l = c.loop-taken in
    let t : l.taken ≡ c.args.limit = omega arith in
    let z : c.args.limit - l.taken ≡ 0 = omega arith in
    (rw t at (sym (run_end m.code m.«data» c.args.code.now (l.state, l.words) l.taken) ∙ (rw z at l.invariant.runs_on)), λ k e. l.invariant.wrote k (t ∙ e))
