-- The public calls: the refusals, and the work of the loop.
use Prim.Native.Nat.{ℕ}
use mathlib.Core.Path.{◌≡◌, refl, sym, ap, ap₂, ◌∙◌}
use mathlib.Core.Bool.{Bool, true, false, not}
use mathlib.Core.List.{List}
use borrow.Author.Tests.{eq-eqb, ne_eqb, eqb-true, eqb-false}
use lib.Dec.{eqb}
use lib.ListN.{length}
use Rattle.words.specs.Fields.{pick}
use Rattle.machine.specs.declared.Machine.{Machine}
use Rattle.machine.specs.Record.{DOUBLE_WORDS, not_zero_lem, state_of, with_state}
use Rattle.vamp.specs.Steps.{Vamp, Course, vstep, onward, start, refused, stepping, running}
use Rattle.vamp.specs.Inner.{course_of}
use Rattle.vamp.proofs.Onward.{onward_yes, onward_not, step_kept}

-- What holds of the refusals and of the work holds of the call
pub either : {A : Type 0} (P : A → Type 0) (t u : Bool) (a b c : A) → P a → P b → P c → P (pick t a (pick u b c))
either P true u a b c p q r = p
either P false true a b c p q r = q
either P false false a b c p q r = r

-- A sequence of one step has the answer of the step, and leaves what it leaves
pub once : (x : Vamp) → ((onward 1 (start x)).answer ≡ (vstep x).0) × ((onward 1 (start x)).left ≡ (vstep x).1)
unfolding onward
once x = by (eqb (vstep x).0.0 0) refl
  where
    by : (t : Bool) → eqb (vstep x).0.0 0 ≡ t → ((onward 1 (start x)).answer ≡ (vstep x).0) × ((onward 1 (start x)).left ≡ (vstep x).1)
    by true e = let y = onward_yes 0 (start x) (eqb-true (vstep x).0.0 0 e) in (ap (λ (c : Course). c.answer) y, ap (λ (c : Course). c.left) y)
    by false e =
        let h : (vstep x).0.0 ≡ 0 → ⊥ = eqb-false (vstep x).0.0 0 e in
        let y = onward_not 0 (start x) h in
        (ap (λ (c : Course). c.answer) y, ap (λ (c : Course). c.left) y ∙ sym (step_kept x h))

-- Answer, record and memory of a sequence
abbrev alone : ℕ × (ℕ × ℕ) × ℕ × Machine × List ℕ → (ℕ × ℕ) × Machine × List ℕ
alone (n, a, k, m, mem) = (a, m, mem)

-- Those of a sequence of one step are the step's
single : (m : Machine) (mem : List ℕ) → alone (running m mem 1) ≡ stepping m mem
unfolding running stepping
single m mem = by (not (eqb (length mem) DOUBLE_WORDS)) (not_zero_lem m)
  where
    x : Vamp
    x = (state_of m, mem)

    c : Course
    c = onward 1 (start x)

    by : (t u : Bool)
        → alone (pick t (0, refused 1, 0, m, mem) (pick u (0, refused 11, 0, m, mem) (c.steps, c.answer, c.masked, with_state m c.left.0, c.left.1)))
        ≡ pick t (refused 1, m, mem) (pick u (refused 11, m, mem) ((vstep x).0, with_state m (vstep x).1.0, (vstep x).1.1))
    by true u = refl
    by false true = refl
    by false false = ap₂ (λ (a : ℕ × ℕ) (y : Vamp). (a, with_state m y.0, y.1)) (once x).0 (once x).1

-- A result that is a sequence's, of one step
pub only : (n k : ℕ) (a : ℕ × ℕ) (after m : Machine) (left mem : List ℕ) → (n, a, k, after, left) ≡ running m mem 1 → (a, after, left) ≡ stepping m mem
only n k a after m left mem e = ap alone e ∙ single m mem

module _ (m : Machine) (mem : List ℕ) where
  -- 1
  pub run_length : (n : ℕ) → (length mem ≡ DOUBLE_WORDS → ⊥) → (0, refused 1, 0, m, mem) ≡ running m mem n
  unfolding running
  run_length n h = rw (running, ne_eqb (length mem) DOUBLE_WORDS h)

  module _ (l : length mem ≡ DOUBLE_WORDS) where
    -- 11
    pub run_zero : (n : ℕ) → not_zero_lem m ≡ true → (0, refused 11, 0, m, mem) ≡ running m mem n
    unfolding running
    run_zero n z = rw (running, eq-eqb (length mem) DOUBLE_WORDS l, z)

    -- The work
    pub run_works : not_zero_lem m ≡ false → (n : ℕ) → course_of m (onward n (start (state_of m, mem))) ≡ running m mem n
    unfolding running
    run_works z n = rw (running, eq-eqb (length mem) DOUBLE_WORDS l, z)
