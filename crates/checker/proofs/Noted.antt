-- The explanation by what is noted of the steps taken once more.
use Rattle.std.proofs.Common.{◌≡◌, ℕ, zero, suc, ◌+◌, ◌-◌, ◌%◌, ◌≤◌, Bool, true, false, eqb, ◌⊎◌, List, [], length, get_or, refl, ◌∙◌, inl, inr, arith, ne_eqb}
use borrow.Author.Tests.{eqb-false, eqb-true}
use Rattle.std.specs.Prelude.{Some, None}
use Rattle.words.specs.Fields.{rs1}
use Rattle.machine.specs.declared.Machine.{Machine}
use Rattle.machine.specs.declared.Region.{Region}
use Rattle.machine.specs.Effects.{State}
use Rattle.machine.specs.declared.Refusal.{Refusal}
use Rattle.machine.specs.Record.{refusal_no, state_of}
use Rattle.checker.specs.declared.Explanation.{Explanation}
use Rattle.checker.specs.declared.Explanation.TheVariants as because
use Rattle.checker.specs.declared.Verdict.{Verdict}
use Rattle.checker.specs.declared.Verdict.TheVariants.{Refused, Accepted, Violation}
use Rattle.checker.specs.declared.retracing.Retraced.{Retraced}
use Rattle.checker.specs.declared.touches.Turn.{Turn}
use Rattle.checker.specs.declared.touches.Turn.TheVariants.{On, Taken, By}
use Rattle.checker.specs.Inner.{Rooms, Passed, Answered, Retraces, noted_source}
use Rattle.checker.specs.Runs.{running, run_refusal, runs, taking, verdict_answer}
use Rattle.checker.specs.Seven.{turn, before, word_of, place_of, source_of, led, addressed, explanation, explaining}
use Rattle.checker.proofs.Refusals.{refusal_numbers, run_rooms}
use Rattle.checker.proofs.Theorems.{Fine, First, ends, accepts, stops_at, answer, count, values}

-- What led to the second step from there, and what the address of the next step is made of, by what was retraced
abbrev pub led_by : Retraced → Explanation
led_by r =
    elim (turn r.next.word r.state.gpr) [
      | On ↦ because.RanOn
      | Taken ↦ because.Transfer r.next
      | By n ↦ because.Jr r.next n (noted_source r.writers n)
    ]

abbrev pub addressed_by : Retraced → Explanation
addressed_by r = because.Register (rs1 r.next.word) (noted_source r.writers (rs1 r.next.word))

-- What led to a step by how the word two steps before it, at step j, left PC'
module _ (c d : Region) (code : List ℕ) (p : State × List ℕ) where
  abbrev pub led_from : Turn → ℕ → Explanation
  led_from t j =
      elim t [
        | On ↦ because.RanOn
        | Taken ↦ because.Transfer (place_of c d code p j)
        | By n ↦ because.Jr (place_of c d code p j) n (source_of c d code p n j)
      ]

-- The explanation by the number of the violation
module _ (c d : Region) (code : List ℕ) (p : State × List ℕ) (v k : ℕ) where
  pub none_told : (v ≡ 21 → ⊥) → (v ≡ 22 → ⊥) → (v ≡ 25 → ⊥) → (v ≡ 26 → ⊥) → None ≡ explanation c d code p v k
  unfolding explanation
  none_told q r s t = rw (ne_eqb v 21 q, ne_eqb v 22 r, ne_eqb v 25 s, ne_eqb v 26 t)

  pub led_told : 21 ≤ v → v ≤ 22 → Some (led c d code p k) ≡ explanation c d code p v k
  unfolding explanation
  led_told l h = by (eqb v 21) refl
    where
      by : (t : Bool) → eqb v 21 ≡ t → Some (led c d code p k) ≡ explanation c d code p v k
      by true e = rw e
      by false e = let n : v ≡ 21 → ⊥ = eqb-false v 21 e in let q : v ≡ 22 = omega arith in rw q

  pub addressed_told : 25 ≤ v → v ≤ 26 → Some (addressed c d code p k) ≡ explanation c d code p v k
  unfolding explanation
  addressed_told l h = by (eqb v 25) refl
    where
      by : (t : Bool) → eqb v 25 ≡ t → Some (addressed c d code p k) ≡ explanation c d code p v k
      by true e = let q : v ≡ 25 = eqb-true v 25 e in rw q
      by false e = let n : v ≡ 25 → ⊥ = eqb-false v 25 e in let q : v ≡ 26 = omega arith in rw q

module _ (m : Machine) (code ws : List ℕ) where
  -- The source of a register, after n steps
  noted_source_lem : (k n : ℕ) (r : Retraced) → Retraces m code ws n r
      → noted_source r.writers k ≡ source_of m.code m.«data» code (state_of m, ws) k n
  unfolding source_of
  noted_source_lem k n r h = by (eqb (k % 32) 0) refl
    where
      by : (t : Bool) → eqb (k % 32) 0 ≡ t → noted_source r.writers k ≡ source_of m.code m.«data» code (state_of m, ws) k n
      by true e = rw e
      by false e =
          let d : k % 32 ≡ 0 → ⊥ = eqb-false (k % 32) 0 e in
          rw e (h.2 (k % 32) (omega arith) (omega arith))

  pub addressed_retraced : (k : ℕ) (r : Retraced) → Retraces m code ws k r → addressed_by r ≡ addressed m.code m.«data» code (state_of m, ws) k
  unfolding addressed
  addressed_retraced k r h = rw (h.0, noted_source_lem (rs1 (word_of m.code m.«data» code (state_of m, ws) k)) k r h)

  pub led_start : (k : ℕ) → (2 ≤ k → ⊥) → because.Card ≡ led m.code m.«data» code (state_of m, ws) k
  unfolding led
  led_start zero l = refl
  led_start (suc zero) l = refl
  led_start (suc (suc j)) l = absurd (omega arith)

  pub led_retraced : (k j : ℕ) (r : Retraced) → (2 ≤ k) × (j ≡ k - 2) → Retraces m code ws j r → led_by r ≡ led m.code m.«data» code (state_of m, ws) k
  unfolding led
  led_retraced k j r e h =
      let q : k ≡ suc (suc j) = omega arith in
      rw (q, h.0, h.1) (by (turn (word_of m.code m.«data» code (state_of m, ws) j) (before m.code m.«data» code (state_of m, ws) j).gpr))
    where
      by : (t : Turn) → elim t [
        | On ↦ because.RanOn
        | Taken ↦ because.Transfer (place_of m.code m.«data» code (state_of m, ws) j)
        | By n ↦ because.Jr (place_of m.code m.«data» code (state_of m, ws) j) n (noted_source r.writers n)
      ] ≡ led_from m.code m.«data» code (state_of m, ws) t j
      by On = refl
      by Taken = refl
      by (By n) = rw (noted_source_lem n j r h)

  -- The step two back from one that is not the first or the second
  pub led_back : {e : Explanation} (k j : ℕ) → (2 ≤ k) × (j ≡ k - 2) → e ≡ led m.code m.«data» code (state_of m, ws) (suc (suc j)) → e ≡ led m.code m.«data» code (state_of m, ws) k
  led_back k j l q = let s : k ≡ suc (suc j) = omega arith in rw s q

-- ---- What a call says

pub refused_none : (m : Machine) (code ws : List ℕ) (r : Refusal) → None ≡ explaining m code ws (refusal_no r, [])
refused_none m code ws r =
    let b = refusal_numbers r in
    none_told m.code m.«data» code (state_of m, ws) (refusal_no r) 0
    (λ (e : refusal_no r ≡ 21). absurd (omega arith)) (λ (e : refusal_no r ≡ 22). absurd (omega arith)) (λ (e : refusal_no r ≡ 25). absurd (omega arith)) (λ (e : refusal_no r ≡ 26). absurd (omega arith))

pub taking_answer : (n : ℕ) (m : Machine) (code ws : List ℕ) → (taking 0 n m code ws).0 ≡ (running m.code m.«data» code 0 n (state_of m, ws)).0
unfolding taking
taking_answer n m code ws = refl

-- A run answers accepted, or a violation before which no step breaks a test
module _ (m : Machine) (code ws : List ℕ) (n : ℕ) (rooms_in : Rooms m code ws) where
  ended : (a : ℕ × List ℕ) → a ≡ (running m.code m.«data» code 0 n (state_of m, ws)).0
      → (length a.1 ≡ 1) ⊎ ((length a.1 ≡ 3) × Passed m code ws (get_or a.1 0 0))
  ended a e = by (ends m.code m.«data» code n (state_of m, ws))
    where
      by : Fine m.code m.«data» code n (state_of m, ws) ⊎ First m.code m.«data» code n (state_of m, ws)
          → (length a.1 ≡ 1) ⊎ ((length a.1 ≡ 3) × Passed m code ws (get_or a.1 0 0))
      by (inl f) = inl (values _ _ (e ∙ answer m.code m.«data» code (accepts m.code m.«data» code 0 n (state_of m, ws) f)))
      by (inr f) =
          let s = e ∙ answer m.code m.«data» code (stops_at m.code m.«data» code 0 n f.0 _ (state_of m, ws) f.1 f.2 refl f.3) in
          let q : get_or a.1 0 0 ≡ 0 + f.0 = count m.code m.«data» code _ _ s in
          inr (values _ _ s, (rooms_in, λ j l. f.2 j (omega arith)))

  pub answered : (v : Verdict) → verdict_answer v ≡ (running m.code m.«data» code 0 n (state_of m, ws)).0 → Answered m code ws v
  answered (Refused r) e = tt
  answered (Accepted k) e = tt
  answered (Violation v) e = by (ended _ e)
    where
      by : (◌≡◌ {A = ℕ} 3 1) ⊎ ((◌≡◌ {A = ℕ} 3 3) × Passed m code ws v.at.step) → Passed m code ws v.at.step
      by (inl z) = absurd (omega arith)
      by (inr z) = z.1

-- So whatever a run answers, no step breaks a test before the step of its violation
pub run_answered : (m : Machine) (code ws : List ℕ) (v : Verdict) → verdict_answer v ≡ (runs m code ws).0 → Answered m code ws v
unfolding taking
run_answered m code ws v e = by (run_refusal m (length code) (length ws)) refl
  where
    by : (r : ℕ) → run_refusal m (length code) (length ws) ≡ r → Answered m code ws v
    by zero z =
        answered m code ws m.limit (run_rooms m (length code) (length ws) z) v (rw z at e)
    by (suc r) z = refused_answered v (rw z at e)
      where
        refused_answered : (v : Verdict) → verdict_answer v ≡ (suc r, []) → Answered m code ws v
        refused_answered (Refused q) f = tt
        refused_answered (Accepted k) f = tt
        refused_answered (Violation x) f = let z = values _ _ f in absurd (omega arith)
