-- What a sequence of steps is: the step iterated, up to the first step whose answer is not 0.
use Prim.Native.Nat.{ℕ, zero, suc, ◌+◌, ◌-◌, ◌≤◌, ◌<◌}
use mathlib.Core.Path.{◌≡◌, refl, sym, ap, ap₂, subst, ◌∙◌}
use mathlib.Core.Bool.{Bool, true, false}
use native.Mathlib.Nat.{add-zero, zero-add, suc-add}
use native.Mathlib.Numerals.{add-one}
use native.Mathlib.Omega.{arith}
use borrow.Author.Tests.{eqb-true, eqb-false, ltb-true, ltb-false}
use lib.Dec.{eqb, ltb}
use Rattle.vamp.specs.Events.{stepped}
use Rattle.vamp.specs.Steps.{Vamp, Course, vstep, after, onward, start, further, stopped, reported}
use Rattle.vamp.specs.Inner.{course}
use Rattle.vamp.proofs.Onward.{onward_yes, onward_not, step_kept}

-- How many of the first k steps report a cause
unfoldable pub causes : ℕ → Vamp → ℕ
causes zero x = 0
causes (suc k) x = reported (vstep x).0.1 + causes k (vstep x).1

-- Where no step is taken none is later
pub after_kept : (n : ℕ) (x : Vamp) → ((vstep x).0.0 ≡ 0 → ⊥) → after n x ≡ x
unfolding after
after_kept zero x h = refl
after_kept (suc n) x h = ap (after n) (step_kept x h) ∙ after_kept n x h

-- n steps more, k of which are taken
pub record More (n : ℕ) (c : Course) (k : ℕ) (d : Course) : Type 0 where
  pub most : k ≤ n
  pub steps_are : d.steps ≡ c.steps + k
  -- Every step before has the answer 0
  pub each : (j : ℕ) → j < k → (vstep (after j c.left)).0.0 ≡ 0
  -- What is left is the step iterated
  pub left_is : d.left ≡ after k c.left
  pub masked_is : d.masked ≡ c.masked + causes k c.left
  -- The step after them, where there is one, has another answer
  pub stop : k < n → (vstep (after k c.left)).0.0 ≡ 0 → ⊥
  pub answer_is : k < n → d.answer ≡ (vstep (after k c.left)).0

more_none : (c : Course) → More 0 c 0 c
unfolding after causes
more_none c =
    record {
      most = omega arith;
      steps_are = sym (add-zero c.steps);
      each = λ j l. absurd (omega arith);
      left_is = refl;
      masked_is = sym (add-zero c.masked);
      stop = λ l. absurd (omega arith);
      answer_is = λ l. absurd (omega arith);
    }

more_stop : (n : ℕ) (c : Course) → ((vstep c.left).0.0 ≡ 0 → ⊥) → More (suc n) c 0 (stopped c (vstep c.left))
unfolding after causes
more_stop n c h =
    record {
      most = omega arith;
      steps_are = sym (add-zero c.steps);
      each = λ j l. absurd (omega arith);
      left_is = refl;
      masked_is = sym (add-zero c.masked);
      stop = λ l. h;
      answer_is = λ l. refl;
    }

more_each : (c : Course) (k : ℕ) → (vstep c.left).0.0 ≡ 0 → ((j : ℕ) → j < k → (vstep (after j (vstep c.left).1)).0.0 ≡ 0)
    → (j : ℕ) → j < suc k → (vstep (after j c.left)).0.0 ≡ 0
unfolding after
more_each c k h f zero l = h
more_each c k h f (suc j) l = f j (omega arith)

more_step : (n : ℕ) (c : Course) (k : ℕ) (d : Course) → (vstep c.left).0.0 ≡ 0 → More n (further c (vstep c.left)) k d → More (suc n) c (suc k) d
unfolding after causes
more_step n c k d h m =
    record {
      most = let p = m.most in omega arith;
      steps_are = let p = m.steps_are in omega arith;
      each = more_each c k h m.each;
      left_is = m.left_is;
      masked_is = let p = m.masked_is in omega arith;
      stop = λ l. m.stop (omega arith);
      answer_is = λ l. m.answer_is (omega arith);
    }

pub onward_is : (n : ℕ) (c : Course) → (k : ℕ) × More n c k (onward n c)
unfolding onward
onward_is zero c = (0, more_none c)
onward_is (suc n) c = by (eqb (vstep c.left).0.0 0) refl (onward_is n (further c (vstep c.left)))
  where
    by : (t : Bool) → eqb (vstep c.left).0.0 0 ≡ t → (k : ℕ) × More n (further c (vstep c.left)) k (onward n (further c (vstep c.left))) → (k : ℕ) × More (suc n) c k (onward (suc n) c)
    by true e rest =
        let h : (vstep c.left).0.0 ≡ 0 = eqb-true (vstep c.left).0.0 0 e in
        (suc rest.0, subst (More (suc n) c (suc rest.0)) (sym (onward_yes n c h)) (more_step n c rest.0 (onward n (further c (vstep c.left))) h rest.1))
    by false e rest =
        let h : (vstep c.left).0.0 ≡ 0 → ⊥ = eqb-false (vstep c.left).0.0 0 e in
        (0, subst (More (suc n) c 0) (sym (onward_not n c h)) (more_stop n c h))

-- ---- A sequence from its start

pub after_add : (k m : ℕ) (x : Vamp) → after (k + m) x ≡ after m (after k x)
unfolding after
after_add zero m x = ap (λ (n : ℕ). after n x) (zero-add m)
after_add (suc k) m x = ap (λ (n : ℕ). after n x) (suc-add k m) ∙ after_add k m (vstep x).1

-- The sequence c of up to n steps from x on
pub record Ran (n : ℕ) (x : Vamp) (c : Course) : Type 0 where
  -- The steps taken are those before the first one whose answer is not 0
  pub most : c.steps ≤ n
  pub each : (j : ℕ) → j < c.steps → (vstep (after j x)).0.0 ≡ 0
  pub stop : c.steps < n → (vstep (after c.steps x)).0.0 ≡ 0 → ⊥
  pub answer_is : c.steps < n → c.answer ≡ (vstep (after c.steps x)).0
  -- What is left is the step iterated as often, and as often as asked, since a step that is not taken changes nothing
  pub left_is : c.left ≡ after c.steps x
  pub left_whole : c.left ≡ after n x
  -- The causes that the steps taken reported
  pub masked_is : c.masked ≡ causes c.steps x

pub ran : (n : ℕ) (x : Vamp) → Ran n x (onward n (start x))
ran n x = by (onward_is n (start x))
  where
    by : (k : ℕ) × More n (start x) k (onward n (start x)) → Ran n x (onward n (start x))
    by r =
        let e : r.0 ≡ (onward n (start x)).steps = let p = r.1.steps_are in omega arith in
        let m : More n (start x) (onward n (start x)).steps (onward n (start x)) = subst (λ (k : ℕ). More n (start x) k (onward n (start x))) e r.1 in
        record {
          most = m.most;
          each = m.each;
          stop = m.stop;
          answer_is = m.answer_is;
          left_is = m.left_is;
          left_whole = m.left_is ∙ whole (onward n (start x)).steps m.most m.stop;
          masked_is = let p = m.masked_is in omega arith;
        }
      where
        whole : (k : ℕ) → k ≤ n → (k < n → (vstep (after k x)).0.0 ≡ 0 → ⊥) → after k x ≡ after n x
        whole k l h = past (ltb k n) refl
          where
            past : (t : Bool) → ltb k n ≡ t → after k x ≡ after n x
            past true t =
                let q : k + (n - k) ≡ n = omega arith in
                sym (after_kept (n - k) (after k x) (h (ltb-true k n t))) ∙ sym (after_add k (n - k) x) ∙ ap (λ (m : ℕ). after m x) q
            past false t = ap (λ (m : ℕ). after m x) (let q : n ≤ k = ltb-false k n t in omega arith)

-- ---- A sequence whose first k steps are taken with an empty cause word

-- The first k steps from x on
abbrev pub Clear : ℕ → Vamp → Type 0
Clear k x = (j : ℕ) → j < k → (vstep (after j x)).0 ≡ stepped 0

clear_next : (k : ℕ) (x : Vamp) → Clear (suc k) x → Clear k (vstep x).1
unfolding after
clear_next k x f j l = f (suc j) (omega arith)

clear_first : (k : ℕ) (x : Vamp) → Clear (suc k) x → (vstep x).0 ≡ stepped 0
unfolding after
clear_first k x f = f 0 (omega arith)

clear_on : (n : ℕ) (c : Course) → (vstep c.left).0 ≡ stepped 0 → onward (suc n) c ≡ onward n (course (suc c.steps) (stepped 0) c.masked (vstep c.left).1)
clear_on n c e =
    onward_yes n c (ap (λ (a : ℕ × ℕ). a.0) e)
    ∙ ap (λ (a : ℕ × ℕ). onward n (course (c.steps + 1) a (c.masked + reported a.1) (vstep c.left).1)) e
    ∙ ap₂ (λ (k m : ℕ). onward n (course k (stepped 0) m (vstep c.left).1)) (add-one c.steps) (add-zero c.masked)

clear_from : (n : ℕ) (c : Course) → c.answer ≡ stepped 0 → Clear n c.left → onward n c ≡ course (c.steps + n) (stepped 0) c.masked (after n c.left)
unfolding onward after
clear_from zero c e f = ap₂ (λ (k : ℕ) (a : ℕ × ℕ). course k a c.masked c.left) (sym (add-zero c.steps)) e
clear_from (suc n) c e f =
    clear_on n c (clear_first n c.left f)
    ∙ clear_from n (course (suc c.steps) (stepped 0) c.masked (vstep c.left).1) refl (clear_next n c.left f)
    ∙ ap (λ (k : ℕ). course k (stepped 0) c.masked (after (suc n) c.left)) (let q : suc c.steps + n ≡ c.steps + suc n = omega arith in q)

clear_stop_from : (n k : ℕ) (c : Course) (a : ℕ × ℕ) → k < n → Clear k c.left → (vstep (after k c.left)).0 ≡ a → (a.0 ≡ 0 → ⊥) → onward n c ≡ course (c.steps + k) a c.masked (after k c.left)
unfolding after
clear_stop_from zero k c a l f e h = absurd (omega arith)
clear_stop_from (suc n) zero c a l f e h =
    onward_not n c (λ z. h (ap (λ (b : ℕ × ℕ). b.0) (sym e) ∙ z))
    ∙ ap₂ (λ (k : ℕ) (b : ℕ × ℕ). course k b c.masked c.left) (sym (add-zero c.steps)) e
clear_stop_from (suc n) (suc k) c a l f e h =
    clear_on n c (clear_first k c.left f)
    ∙ clear_stop_from n k (course (suc c.steps) (stepped 0) c.masked (vstep c.left).1) a (omega arith) (clear_next k c.left f) e h
    ∙ ap (λ (m : ℕ). course m a c.masked (after (suc k) c.left)) (let q : suc c.steps + k ≡ c.steps + suc k = omega arith in q)

-- All n of them
pub clear_runs : (n : ℕ) (x : Vamp) → Clear n x → onward n (start x) ≡ course n (stepped 0) 0 (after n x)
clear_runs n x f = clear_from n (start x) refl f ∙ ap (λ (k : ℕ). course k (stepped 0) 0 (after n x)) (zero-add n)

-- The k steps before one with another answer than 0
pub clear_stops : (n k : ℕ) (x : Vamp) (a : ℕ × ℕ) → k < n → Clear k x → (vstep (after k x)).0 ≡ a → (a.0 ≡ 0 → ⊥) → onward n (start x) ≡ course k a 0 (after k x)
clear_stops n k x a l f e h = clear_stop_from n k (start x) a l f e h ∙ ap (λ (m : ℕ). course m a 0 (after k x)) (zero-add k)
