-- The induction: what the steps of both machines leave stays the same as long as the checker finds nothing, and where it stops on 21, 23 or 25 the VAMP raises that event.
use Prim.Native.Nat.{ℕ, zero, suc, ◌%◌, ◌≤◌, ◌<◌}
use mathlib.Core.Path.{◌≡◌, refl, sym, ap, subst, ◌∙◌}
use mathlib.Core.Bool.{true}
use mathlib.Core.List.{List}
use mathlib.Core.Logic.{◌⊎◌, inl, inr}
use mathlib.Core.Option.{none, some}
use native.Mathlib.Omega.{arith}
use borrow.Author.Tests.{eq-eqb, ne_eqb, lt-leb, not-false}
use Rattle.words.specs.Words.{reading}
use Rattle.words.specs.declared.Instruction.{Instruction}
use Rattle.words.proofs.Signed.{false_true}
use Rattle.machine.specs.declared.Region.{Region}
use Rattle.machine.specs.Effects.{State}
use Rattle.machine.specs.Record.{MEMORY, holds}
use Rattle.machine.proofs.Acts.{word_reads, illegal_yes}
use Rattle.machine.proofs.Regions.{holds_yes}
use Rattle.checker.specs.Checks.{admits, violation, next, fetched}
use Rattle.checker.specs.Runs.{after}
use Rattle.checker.proofs.Tests.{Passes, passes, foreign_admits, at_21, at_23, at_25}
use Rattle.checker.proofs.Theorems.{Fine}
use Rattle.vamp.specs.Events.{stepped, interrupt, MISALIGNED, ILLEGAL, event}
use Rattle.vamp.specs.Events as ship
use Rattle.vamp.specs.Steps.{vstep}
use Rattle.vamp.specs.Steps as vamp
use Rattle.agreement.proofs.Relation.{Laid, Same, fetch_same}
use Rattle.agreement.proofs.Plain.{admitted_plain, admitted_words}
use Rattle.agreement.proofs.Step.{taken, stays_same}

module _ (c d : Region) (l : Laid c d) (code : List ℕ) where
  -- A step of the assembler machine is a step of the set of instructions that it runs
  module _ (s : State) (ws mem : List ℕ) (r : Same c d code (s, ws) (s, mem)) (z : violation c d code s ≡ 0) where
    abbrev w : ℕ
    w = fetched c code s

    p : Passes c d code s
    p = passes c d code s z

    admitted : (i : Instruction) × (reading w ≡ (0, some i)) × (admits i ≡ true)
    admitted = by (word_reads w)
      where
        by : ((i : Instruction) × (reading w ≡ (0, some i))) ⊎ (reading w ≡ (23, none)) → (i : Instruction) × (reading w ≡ (0, some i)) × (admits i ≡ true)
        by (inl q) = (q.0, q.1, not-false (admits q.0) (sym (foreign_admits w q.0 q.1) ∙ p.own))
        by (inr q) = absurd (false_true (sym p.legal ∙ illegal_yes w q))

    step_taken : ((vstep (s, mem)).0 ≡ stepped 0) × Same c d code (next c d code (s, ws)) (vstep (s, mem)).1
    step_taken =
        let a = admitted in
        let t = taken admits admitted_plain admitted_words c d l code s ws mem r p.aligned p.within a.0 a.1 a.2 p.even p.inside p.calm in (
          ap (λ (o : (ℕ × ℕ) × (State × List ℕ)). o.0) t,
          subst (λ (o : (ℕ × ℕ) × (State × List ℕ)). Same c d code (next c d code (s, ws)) o.1) (sym t)
              (stays_same admits admitted_plain admitted_words c d l code s ws mem r p.aligned p.within a.0 a.1 a.2 p.even p.inside p.calm),
        )

  -- The same with the VAMP's own state
  pub same_state : (x y : State × List ℕ) → Same c d code x y → Same c d code x (x.0, y.1)
  same_state x y r = record { state = refl; size = r.size; room = r.room; memory = r.memory; general = r.general; special = r.special }

  step_any : (x y : State × List ℕ) → Same c d code x y → violation c d code x.0 ≡ 0 → ((vstep y).0 ≡ stepped 0) × Same c d code (next c d code x) (vstep y).1
  step_any x y r z =
      subst (λ (s : State). ((vstep (s, y.1)).0 ≡ stepped 0) × Same c d code (next c d code x) (vstep (s, y.1)).1) (sym r.state)
      (step_taken x.0 x.1 y.1 (same_state x y r) z)

  -- The n steps that the checker accepts
  pub all_steps : (n : ℕ) (x y : State × List ℕ) → Same c d code x y → Fine c d code n x → (j : ℕ) → j < n → (vstep (vamp.after j y)).0 ≡ stepped 0
  unfolding after vamp.after
  all_steps n x y r f zero h = (step_any x y r (f 0 h)).0
  all_steps zero x y r f (suc j) h = absurd (omega arith)
  all_steps (suc n) x y r f (suc j) h = all_steps n (next c d code x) (vstep y).1 (step_any x y r (f 0 (omega arith))).1 (λ k q. f (suc k) (omega arith)) j (omega arith)

  pub all_same : (n : ℕ) (x y : State × List ℕ) → Same c d code x y → Fine c d code n x → (j : ℕ) → j ≤ n → Same c d code (after c d code j x) (vamp.after j y)
  unfolding after vamp.after
  all_same n x y r f zero h = r
  all_same zero x y r f (suc j) h = absurd (omega arith)
  all_same (suc n) x y r f (suc j) h = all_same n (next c d code x) (vstep y).1 (step_any x y r (f 0 (omega arith))).1 (λ k q. f (suc k) (omega arith)) j (omega arith)

  -- ---- Where the checker stops on 21, 23 or 25

  module _ (x y : State × List ℕ) (r : Same c d code x y) where
    -- The event of the VAMP's own state is that of the drawing's
    raised : (a : ℕ × ℕ) → event y.1 x.0 ≡ a → (vstep y).0 ≡ a
    unfolding vstep
    raised a e = subst (λ (s : State). (vstep (s, y.1)).0 ≡ a) (sym r.state) e

    abbrev word : ℕ
    word = fetched c code x.0

    below : holds c x.0.dpc ≡ true → x.0.dpc < MEMORY
    below h = let p = holds_yes c x.0.dpc h in let q = l.code_in in omega arith

    same_word : x.0.dpc % 4 ≡ 0 → holds c x.0.dpc ≡ true → ship.fetched y.1 x.0 ≡ word
    same_word e h = fetch_same c d l code x.1 y.1 r.memory x.0.dpc e h

    pub raises_21 : violation c d code x.0 ≡ 21 → (vstep y).0 ≡ interrupt MISALIGNED
    unfolding event
    raises_21 z = raised (interrupt MISALIGNED) (rw (ne_eqb (x.0.dpc % 4) 0 (at_21 c d code x.0 z)))

    pub raises_23 : violation c d code x.0 ≡ 23 → (vstep y).0 ≡ interrupt ILLEGAL
    unfolding event
    raises_23 z =
        let t = at_23 c d code x.0 z in
        raised (interrupt ILLEGAL) (rw (eq-eqb (x.0.dpc % 4) 0 t.0, lt-leb MEMORY x.0.dpc (below t.1), same_word t.0 t.1, t.2))

    pub raises_25 : violation c d code x.0 ≡ 25 → (vstep y).0 ≡ interrupt MISALIGNED
    unfolding event
    raises_25 z =
        let t = at_25 c d code x.0 z in
        raised (interrupt MISALIGNED) (rw (eq-eqb (x.0.dpc % 4) 0 t.0, lt-leb MEMORY x.0.dpc (below t.1), same_word t.0 t.1, t.2, t.3))
