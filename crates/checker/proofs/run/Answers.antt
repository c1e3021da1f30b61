use Rattle.std.proofs.Common.{◌≡◌, ℕ, List, [], length, ap, ◌∙◌}
use Rattle.machine.specs.declared.Machine.{Machine}
use Rattle.machine.specs.declared.Refusal.{Refusal}
use Rattle.machine.specs.Record.{refusal_no}
use Rattle.checker.specs.Runs.{run_refusal, taking, runs}
use Rattle.checker.specs.Seven.{explaining}
use Rattle.checker.proofs.Noted.{refused_none}
use Rattle.checker.proofs.Refusals.{refused}
use Rattle.checker.proofs.run.Goals as goal

-- A refusal is the run's own, and has no explanation
told : (r : Refusal) (m : Machine) (code ws : List ℕ) → refusal_no r ≡ run_refusal m (length code) (length ws) → ◌≡◌ ((refusal_no r, []), m, ws) (runs m code ws)
told r m code ws e = refused r m.limit m code ws ∙ ap (λ (q : ℕ). taking q m.limit m code ws) e

pub returns-in-Err-clause-ran : goal.returns-in-Err-clause-ran
returns-in-Err-clause-ran c = told c.in-Err.refusal c.args.machine c.args.code.now c.args.words.now (rw c.in-Err.is at c.of_run.ensures)

pub returns-in-Err-clause-explained : goal.returns-in-Err-clause-explained
returns-in-Err-clause-explained c =
    refused_none c.args.machine c.args.code.now c.args.words.now c.in-Err.refusal
    ∙ ap (λ (o : (ℕ × List ℕ) × Machine × List ℕ). explaining c.args.machine c.args.code.now c.args.words.now o.0)
    (told c.in-Err.refusal c.args.machine c.args.code.now c.args.words.now (rw c.in-Err.is at c.of_run.ensures))
