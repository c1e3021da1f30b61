-- A sequence of steps, step by step.
use Prim.Native.Nat.{ℕ, suc, ◌+◌, ◌-◌, ◌≤◌, ◌<◌}
use mathlib.Core.Path.{◌≡◌, refl, sym, ap, ◌∙◌}
use mathlib.Core.Bool.{Bool, true, false}
use native.Mathlib.Omega.{arith}
use borrow.Author.Tests.{eq-eqb, ne_eqb}
use lib.Dec.{eqb}
use mir.Val.{bool_byte}
use denote.Enum.Bare.{sameb}
use Rattle.words.specs.Fields.{pick}
use Rattle.vamp.specs.Events.{fetched, event}
use Rattle.vamp.specs.Steps.{Vamp, Course, answered, carried, vstep, onward, further, stopped, reported}
use Rattle.vamp.specs.Inner.{course}
use Rattle.vamp.specs.contracts.Answer.{the_type}
use Rattle.vamp.specs.declared.Answer.{Answer}
use Rattle.vamp.specs.declared.Answer.TheVariants as says
use Rattle.vamp.proofs.Tests.{took_yes, took_not}

-- The one whose next step is taken
pub onward_yes : (n : ℕ) (c : Course) → (vstep c.left).0.0 ≡ 0 → onward (suc n) c ≡ onward n (further c (vstep c.left))
unfolding onward
onward_yes n c h = rw (onward, eq-eqb (vstep c.left).0.0 0 h)

-- The one whose next step is not
pub onward_not : (n : ℕ) (c : Course) → ((vstep c.left).0.0 ≡ 0 → ⊥) → onward (suc n) c ≡ stopped c (vstep c.left)
unfolding onward
onward_not n c h = rw (onward, ne_eqb (vstep c.left).0.0 0 h)

-- All answers but 0 change nothing
pub step_kept : (x : Vamp) → ((vstep x).0.0 ≡ 0 → ⊥) → (vstep x).1 ≡ x
unfolding vstep
step_kept x h = took_not (event x.1 x.0).0 (carried (fetched x.1 x.0) x) x h

-- A step that is taken carries the word out
pub step_carried : (x : Vamp) → (vstep x).0.0 ≡ 0 → (vstep x).1 ≡ carried (fetched x.1 x.0) x
unfolding vstep
step_carried x h = took_yes (event x.1 x.0).0 (carried (fetched x.1 x.0) x) x h

-- At most one cause a step
pub reported_most : (ca : ℕ) → reported ca ≤ 1
reported_most ca = by (eqb ca 0)
  where
    by : (t : Bool) → pick t 0 1 ≤ 1
    by true = omega arith
    by false = omega arith

-- The test that counts them, of the answer of a step that is taken
pub reported_is : (a : Answer) → (answered a).0 ≡ 0 → bool_byte (sameb the_type a says.Masked) ≡ reported (answered a).1
reported_is says.Stepped h = refl
reported_is says.Masked h = refl
reported_is says.Misaligned h = absurd (omega arith)
reported_is says.Illegal h = absurd (omega arith)
reported_is says.Trap h = absurd (omega arith)
reported_is says.Overflow h = absurd (omega arith)
reported_is says.PastMemory h = absurd (omega arith)
reported_is says.Mode h = absurd (omega arith)
reported_is says.WrongLength h = absurd (omega arith)
reported_is says.NotZero h = absurd (omega arith)

-- The same for a loop that has gone k of n steps
module _ (n k : ℕ) (c : Course) (r : (ℕ × ℕ) × Vamp) (l : k < n) (e : r ≡ vstep c.left) where
  left_is : n - k ≡ suc (n - (k + 1))
  left_is = omega arith

  pub goes_on : r.0.0 ≡ 0 → (m : ℕ) → m ≡ c.masked + reported r.0.1 → onward (n - k) c ≡ onward (n - (k + 1)) (course (c.steps + 1) r.0 m r.1)
  goes_on h m q =
      ap (λ (m : ℕ). onward m c) left_is
      ∙ onward_yes (n - (k + 1)) c (ap (λ (z : (ℕ × ℕ) × Vamp). z.0.0) (sym e) ∙ h)
      ∙ ap (λ (z : (ℕ × ℕ) × Vamp). onward (n - (k + 1)) (further c z)) (sym e)
      ∙ ap (λ (m : ℕ). onward (n - (k + 1)) (course (c.steps + 1) r.0 m r.1)) (sym q)

  pub stops : (r.0.0 ≡ 0 → ⊥) → onward (n - k) c ≡ course c.steps r.0 c.masked r.1
  stops h =
      let g : (vstep c.left).0.0 ≡ 0 → ⊥ = λ z. h (ap (λ (z : (ℕ × ℕ) × Vamp). z.0.0) e ∙ z) in
      ap (λ (m : ℕ). onward m c) left_is
      ∙ onward_not (n - (k + 1)) c g
      ∙ ap (λ (x : Vamp). course c.steps (vstep c.left).0 c.masked x) (sym (step_kept c.left g))
      ∙ ap (λ (z : (ℕ × ℕ) × Vamp). course c.steps z.0 c.masked z.1) (sym e)

pub ends : (n k : ℕ) (c : Course) → n ≤ k → onward (n - k) c ≡ c
unfolding onward
ends n k c l = ap (λ (m : ℕ). onward m c) (let e : n - k ≡ 0 = omega arith in e)
