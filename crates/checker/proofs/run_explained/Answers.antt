use Rattle.std.proofs.Common.{◌≡◌, ℕ, List, length, sym, ap, ◌∙◌}
use Rattle.machine.specs.declared.Machine.{Machine}
use Rattle.machine.specs.Record.{LONGEST}
use Rattle.checker.specs.Runs.{verdict_answer, run_refusal, taking, runs}
use Rattle.checker.specs.Seven.{explanation, explaining}
use Rattle.checker.proofs.Noted.{run_answered}
use Rattle.checker.proofs.Refusals.{run_rooms, other_length}
use Rattle.checker.proofs.run_explained.Goals as goal

pub take-verdict-requires : goal.take-verdict-requires
take-verdict-requires c = λ z. run_rooms c.args.machine.now (length c.args.code.now) (length c.args.words.now) c.requires

-- What no test refuses is run to the limit
ran : (m : Machine) (code ws : List ℕ) {o : (ℕ × List ℕ) × Machine × List ℕ} → 0 ≡ run_refusal m (length code) (length ws) → o ≡ taking 0 m.limit m code ws → o ≡ runs m code ws
ran m code ws z e = e ∙ ap (λ (q : ℕ). taking q m.limit m code ws) z

pub explain-explanation-requires : goal.explain-explanation-requires
explain-explanation-requires c =
    let d = (rw c.in-Ok.is at c.try_from-before.ensures.1) in
    let e = ran c.args.machine.now c.args.code.now c.args.words.now (sym c.requires) c.take-verdict.ensures in
    rw d.same (run_answered c.args.machine.now c.args.code.now c.args.words.now c.take-verdict.result.verdict (ap (λ (o : (ℕ × List ℕ) × Machine × List ℕ). o.0) e))

pub returns-in-Ok-clause-ran : goal.returns-in-Ok-clause-ran
returns-in-Ok-clause-ran c = ran c.args.machine.now c.args.code.now c.args.words.now (sym c.requires) c.take-verdict.ensures

pub returns-in-Ok-clause-explained : goal.returns-in-Ok-clause-explained
returns-in-Ok-clause-explained c =
    let d = (rw c.in-Ok.is at c.try_from-before.ensures.1) in
    let e = ran c.args.machine.now c.args.code.now c.args.words.now (sym c.requires) c.take-verdict.ensures in
    c.explain-explanation.ensures
    ∙ ap (λ (ws : List ℕ). explaining c.args.machine.now c.args.code.now ws (verdict_answer c.take-verdict.result.verdict)) d.same
    ∙ ap (λ (o : (ℕ × List ℕ) × Machine × List ℕ). explaining c.args.machine.now c.args.code.now c.args.words.now o.0) e

pub returns-in-Err-clause-explained : goal.returns-in-Err-clause-explained
unfolding explanation
returns-in-Err-clause-explained c =
    let z : length c.args.words.now ≡ LONGEST → ⊥ = (rw c.in-Err.is at c.try_from-before.ensures.1) in
    rw (other_length c.args.machine.now c.args.code.now c.args.words.now z)
