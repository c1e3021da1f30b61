-- Two results that meet one promise are equal: the paper's number and cause word determine the answer.
use Prim.Native.Nat.{ℕ}
use mathlib.Core.Path.{◌≡◌, refl, sym, ap, ap₂, ◌∙◌}
use mathlib.Core.List.{List}
use lib.Dec.{eqb}
use Rattle.words.specs.Fields.{pick}
use Rattle.machine.specs.declared.Machine.{Machine}
use Rattle.vamp.specs.Events.{ILLEGAL, MISALIGNED, TRAP}
use Rattle.vamp.specs.Steps.{answered, stepping, running}
use Rattle.vamp.specs.declared.Answer.{Answer}
use Rattle.vamp.specs.declared.Answer.TheVariants as says
use Rattle.vamp.specs.declared.Stepped.{Stepped}
use Rattle.vamp.specs.declared.Ran.{Ran}

-- The answer of a number and a cause word
told : ℕ × ℕ → Answer
told a =
    pick (eqb a.0 0) (pick (eqb a.1 0) says.Stepped says.Masked)
    (pick (eqb a.0 31) (pick (eqb a.1 MISALIGNED) says.Misaligned (pick (eqb a.1 ILLEGAL) says.Illegal (pick (eqb a.1 TRAP) says.Trap says.Overflow)))
    (pick (eqb a.0 32) says.PastMemory
    (pick (eqb a.0 33) says.Mode
    (pick (eqb a.0 1) says.WrongLength says.NotZero))))

told_answered : (r : Answer) → told (answered r) ≡ r
unfolding told
told_answered says.Stepped = refl
told_answered _ = refl

pub answer_decides : (r s : Answer) → answered r ≡ answered s → r ≡ s
answer_decides r s e = sym (told_answered r) ∙ ap told e ∙ told_answered s

-- The promise of step
pub step_unique : (m : Machine) (mem : List ℕ) (r s : Stepped) (after later : List ℕ)
    → (answered r.answer, r.machine, after) ≡ stepping m mem → (answered s.answer, s.machine, later) ≡ stepping m mem → (r ≡ s) × (after ≡ later)
step_unique m mem r s after later p q =
    let e : ◌≡◌ {A = (ℕ × ℕ) × Machine × List ℕ} (answered r.answer, r.machine, after) (answered s.answer, s.machine, later) = p ∙ sym q in (
      ap₂ (λ (a : Answer) (n : Machine). let z : Stepped = record { answer = a; machine = n } in z)
          (answer_decides r.answer s.answer (ap (λ (z : (ℕ × ℕ) × Machine × List ℕ). z.0) e)) (ap (λ (z : (ℕ × ℕ) × Machine × List ℕ). z.1) e),
      ap (λ (z : (ℕ × ℕ) × Machine × List ℕ). z.2) e,
    )

-- The promise of run
module _ (m : Machine) (mem : List ℕ) (n : ℕ) (r s : Ran) (after later : List ℕ) where
  abbrev All : Type 0
  All = ℕ × (ℕ × ℕ) × ℕ × Machine × List ℕ

  pub run_unique : (r.steps, answered r.answer, r.masked, r.machine, after) ≡ running m mem n
      → (s.steps, answered s.answer, s.masked, s.machine, later) ≡ running m mem n → (r ≡ s) × (after ≡ later)
  run_unique p q =
      let e : ◌≡◌ {A = All} (r.steps, answered r.answer, r.masked, r.machine, after) (s.steps, answered s.answer, s.masked, s.machine, later) = p ∙ sym q in
      let a : r.answer ≡ s.answer = answer_decides r.answer s.answer (ap (λ (z : All). z.1) e) in
      (ap₂ (λ (a : Answer) (z : All). let t : Ran = record { steps = z.0; answer = a; masked = z.2; machine = z.3 } in t) a e, ap (λ (z : All). z.4) e)
