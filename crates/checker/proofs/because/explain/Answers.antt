use Rattle.std.proofs.Common.{◌≡◌, ap, refl, inl, inr, Some, None}
use Rattle.checker.specs.declared.Verdict.{Verdict}
use Rattle.checker.specs.declared.Verdict.TheVariants as a
use Rattle.checker.specs.declared.Violation.{Violation}
use Rattle.checker.specs.Inner.{Answered}
use Rattle.checker.specs.Runs.{verdict_answer}
use Rattle.checker.specs.Seven.{explanation, explaining}
use Rattle.checker.proofs.Noted.{led_back, led_start, refused_none}
use Rattle.checker.proofs.because.explain.Goals as goal

pub returns-in_default : goal.returns-in_default
unfolding explanation
returns-in_default c = by c.args.verdict c.in_default.not-Violation c.requires
  where
    by : (v : Verdict) → ((x : Violation) → v ≡ a.Violation x → ⊥) → Answered c.args.machine c.args.code.now c.args.words.now v
        → None ≡ explaining c.args.machine c.args.code.now c.args.words.now (verdict_answer v)
    by (a.Refused r) z t = refused_none c.args.machine c.args.code.now c.args.words.now r
    by (a.Accepted k) z t = refl
    by (a.Violation x) z t = absurd (z x refl)

pub returns-in-Some : goal.returns-in-Some
unfolding explanation
returns-in-Some c =
    let e = led_back c.args.machine c.args.code.now c.args.words.now _ _ c.in-Some.ensures (c.led.ensures c.args.machine c.args.code.now c.args.words.now _ c.retrace.ensures) in
    elim c.in-Misaligned.is [ inl h ↦ rw (c.in-Violation.is, h) (ap Some e) | inr h ↦ rw (c.in-Violation.is, h) (ap Some e) ]

pub returns-in-None : goal.returns-in-None
unfolding explanation
returns-in-None c =
    let e = led_start c.args.machine c.args.code.now c.args.words.now _ c.in-None.ensures in
    elim c.in-Misaligned.is [ inl h ↦ rw (c.in-Violation.is, h) (ap Some e) | inr h ↦ rw (c.in-Violation.is, h) (ap Some e) ]

pub returns-in-Askew : goal.returns-in-Askew
unfolding explanation
returns-in-Askew c =
    let e = c.addressed.ensures c.args.machine c.args.code.now c.args.words.now _ c.retrace-in-Askew.ensures in
    elim c.in-Askew.is [ inl h ↦ rw (c.in-Violation.is, h) (ap Some e) | inr h ↦ rw (c.in-Violation.is, h) (ap Some e) ]

pub returns-in-Illegal : goal.returns-in-Illegal
unfolding explanation
returns-in-Illegal c = elim c.in-Illegal.is [
  | inl h ↦ rw (c.in-Violation.is, h)
  | inr q ↦ elim q [ inl h ↦ rw (c.in-Violation.is, h) | inr h ↦ rw (c.in-Violation.is, h) ]
]
