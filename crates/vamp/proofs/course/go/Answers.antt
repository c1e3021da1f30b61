use Prim.Native.Nat.{ℕ, ◌+◌}
use mathlib.Core.Path.{◌≡◌, sym, ap, ap₂, ◌∙◌}
use mathlib.Core.Bool.{Bool}
use native.Mathlib.Omega.{arith}
use mir.Val.{bool_byte}
use Rattle.vamp.proofs.Onward.{goes_on, stops, ends, reported_is, reported_most}
use Rattle.vamp.specs.Steps.{Vamp, answered, reported, vstep}
use Rattle.vamp.specs.Inner.{course, course_of}
use Rattle.vamp.proofs.course.go.Goals as goal

-- A step's answer with what it leaves
stepped : (x : Vamp) (a b : ℕ × ℕ) (y : Vamp) → a ≡ b → b ≡ (vstep x).0 → y ≡ (vstep x).1 → ◌≡◌ {A = (ℕ × ℕ) × Vamp} (a, y) (vstep x)
stepped x a b y p q r = ap₂ (λ (a : ℕ × ℕ) (y : Vamp). (a, y)) (p ∙ q) r

pub returns-then-number-ne-TAKEN : goal.returns-then-number-ne-TAKEN
returns-then-number-ne-TAKEN c =
    let e = stepped _ _ _ _ c.told-said.ensures (ap (λ (z : Bool × (ℕ × ℕ)). z.1) c.one.ensures.answer) c.one.ensures.left in
    rw c.with_state.ensures (ap (course_of c.args.machine) (sym (stops _ _ _ _ c.loop-taken-test.true e (λ z. c.if-number-ne-TAKEN.true (c.number.ensures ∙ z))) ∙ c.loop-taken.invariant.2))

pub loop-taken-preserved : goal.loop-taken-preserved
loop-taken-preserved c =
    let e = stepped _ _ _ _ c.told-said.ensures (ap (λ (z : Bool × (ℕ × ℕ)). z.1) c.one.ensures.answer) c.one.ensures.left in
    let t : (answered c.told-said.result).0 ≡ 0 = sym c.number.ensures ∙ c.if-number-ne-TAKEN.false in
    let m : c.from-masked.result ≡ reported (answered c.told-said.result).1 = c.from-masked.ensures ∙ ap bool_byte c.eq.ensures ∙ reported_is c.told-said.result t in
    let l = reported_most (answered c.told-said.result).1 in (
      omega arith,
      omega arith,
      sym (goes_on _ _ _ _ c.loop-taken-test.true e t _ (ap (λ (n : ℕ). c.loop-taken.masked + n) m)) ∙ c.loop-taken.invariant.2,
    )

pub returns : goal.returns
returns c =
    let l = c.loop-taken-test.false in
    let i = c.loop-taken.invariant in
    let e : c.args.limit ≡ c.loop-taken.taken = omega arith in
    rw c.with_state-2.ensures (
    ap (course_of c.args.machine)
    (ap (λ (n : ℕ). course n (answered c.loop-taken.answer) c.loop-taken.masked (c.loop-taken.state, c.loop-taken.memory)) e ∙ sym (ends _ _ _ l) ∙ i.2)
    )
