-- What a run is, over the definitions: its steps, its first violation, and what it leaves.
use Rattle.std.proofs.Common.{◌≡◌, ℕ, zero, suc, ◌+◌, ◌<◌, ◌≤◌, false, eqb, ◌⊎◌, List, [], ◌∷◌, length, get_or, sym, refl, ap, ◌∙◌, inl, inr, add-zero, arith}
use Rattle.machine.specs.declared.Machine.{Machine}
use Rattle.machine.specs.declared.Region.{Region}
use Rattle.machine.specs.Effects.{State, act}
use Rattle.machine.specs.Record.{not_zero_lem, state_of, first}
use Rattle.machine.proofs.Refused.{refusal_decides}
use Rattle.machine.proofs.Quiet.{Quiet, ReadsZero, quiet_moved, quiet_record, record_quiet, quiet_reads}
use Rattle.checker.specs.declared.Test.{Test}
use Rattle.checker.specs.declared.Test.TheVariants.{Misaligned, Outside, Illegal, Foreign, Askew, Beyond, Mode}
use Rattle.checker.specs.Checks.{test_no, fetched, violation, next, found}
use Rattle.checker.specs.Runs.{running, told, after, taking, verdict_answer}
use Rattle.checker.specs.declared.Verdict.{Verdict}
use Rattle.checker.specs.declared.Verdict.TheVariants.{Refused, Accepted, Violation}
use Rattle.checker.proofs.Fold.{run_on, run_stop, run_keeps}
use Rattle.checker.proofs.Tests.{passes}

module _ (c d : Region) (code : List ℕ) where
  -- The first k steps break no test
  abbrev pub Fine : ℕ → State × List ℕ → Type 0
  Fine k p = (j : ℕ) → j < k → violation c d code (after c d code j p).0 ≡ 0

  fine_next : (k : ℕ) (p : State × List ℕ) → Fine (suc k) p → Fine k (next c d code p)
  unfolding after
  fine_next k p f j l = f (suc j) (omega arith)

  fine_first : (k : ℕ) (p : State × List ℕ) → Fine (suc k) p → violation c d code p.0 ≡ 0
  unfolding after
  fine_first k p f = f 0 (omega arith)

  fine_cons : (k : ℕ) (p : State × List ℕ) → violation c d code p.0 ≡ 0 → Fine k (next c d code p) → Fine (suc k) p
  unfolding after
  fine_cons k p e f zero l = e
  fine_cons k p e f (suc j) l = f j (omega arith)

  -- A run whose n steps are fine is accepted with n steps taken, and leaves the step n times
  pub accepts : (k n : ℕ) (p : State × List ℕ) → Fine n p → running c d code k n p ≡ ((0, (k + n) ∷ []), after c d code n p)
  unfolding running after
  accepts k zero p f = rw (add-zero k)
  accepts k (suc n) p f = run_on c d code p k n (fine_first n p f) ∙ accepts (suc k) n (next c d code p) (fine_next n p f) ∙ (let q : suc k + n ≡ k + suc n = omega arith in rw q)

  -- A run stops at the first step that breaks a test, with its number, and leaves what the steps before it left
  pub stops_at : (k n j v : ℕ) (p : State × List ℕ) → j < n → Fine j p → violation c d code (after c d code j p).0 ≡ v → 0 < v
      → running c d code k n p ≡ ((v, (k + j) ∷ (after c d code j p).0.dpc ∷ told v (fetched c code (after c d code j p).0) ∷ []), after c d code j p)
  unfolding after
  stops_at k zero j v p l f e z = absurd (omega arith)
  stops_at k (suc n) zero v p l f e z = run_stop c d code p k n v e z ∙ rw (add-zero k)
  stops_at k (suc n) (suc j) v p l f e z = run_on c d code p k n (fine_first j p f) ∙ stops_at (suc k) n j v (next c d code p) (omega arith) (fine_next j p f) e z ∙ (let q : suc k + j ≡ k + suc j = omega arith in rw q)

  -- The first violation of at most n steps
  abbrev pub First : ℕ → State × List ℕ → Type 0
  First n p = (j : ℕ) × (j < n) × Fine j p × (0 < violation c d code (after c d code j p).0)

  -- n steps are fine, or there is a first that is not
  pub ends : (n : ℕ) (p : State × List ℕ) → Fine n p ⊎ First n p
  unfolding after
  ends zero p = inl (λ j l. absurd (omega arith))
  ends (suc n) p = by (violation c d code p.0) refl (ends n (next c d code p))
    where
      by : (v : ℕ) → violation c d code p.0 ≡ v → Fine n (next c d code p) ⊎ First n (next c d code p) → Fine (suc n) p ⊎ First (suc n) p
      by zero e (inl f) = inl (fine_cons n p e f)
      by zero e (inr f) = inr (suc f.0, omega arith, fine_cons f.0 p e f.2, f.3)
      by (suc v) e (inl f) = inr (0, omega arith, (λ j l. absurd (omega arith)), rw e (omega arith))
      by (suc v) e (inr f) = inr (0, omega arith, (λ j l. absurd (omega arith)), rw e (omega arith))

  -- So a run is accepted only where its n steps are fine, and answers violation v at step k only where the k steps before are fine and v is the first test that step k breaks
  number : (o q : ℕ × List ℕ) → o ≡ q → o.0 ≡ q.0
  number o q e = ap (λ (r : ℕ × List ℕ). r.0) e

  pub count : (o q : ℕ × List ℕ) → o ≡ q → get_or o.1 0 0 ≡ get_or q.1 0 0
  count o q e = ap (λ (r : ℕ × List ℕ). get_or r.1 0 0) e

  pub answer : {o q : (ℕ × List ℕ) × (State × List ℕ)} → o ≡ q → o.0 ≡ q.0
  answer e = ap (λ (r : (ℕ × List ℕ) × (State × List ℕ)). r.0) e

  pub accepted_only : (n k : ℕ) (p : State × List ℕ) → (running c d code 0 n p).0 ≡ (0, k ∷ []) → Fine n p × (k ≡ n)
  accepted_only n k p e = by (ends n p)
    where
      by : Fine n p ⊎ First n p → Fine n p × (k ≡ n)
      by (inl f) = (f, (let q : k ≡ 0 + n = count (0, k ∷ []) (0, (0 + n) ∷ []) (sym e ∙ answer (accepts 0 n p f)) in omega arith))
      by (inr f) =
          let z = number _ _ (sym (answer (stops_at 0 n f.0 (violation c d code (after c d code f.0 p).0) p f.1 f.2 refl f.3)) ∙ e) in
          let l = f.3 in absurd (omega arith)

  pub violation_only : (n v k x w : ℕ) (p : State × List ℕ) → 0 < v → (running c d code 0 n p).0 ≡ (v, k ∷ x ∷ w ∷ [])
      → (k < n) × Fine k p × (violation c d code (after c d code k p).0 ≡ v)
  violation_only n v k x w p z e = by (ends n p)
    where
      by : Fine n p ⊎ First n p → (k < n) × Fine k p × (violation c d code (after c d code k p).0 ≡ v)
      by (inl f) = let q = number _ _ (sym (answer (accepts 0 n p f)) ∙ e) in absurd (omega arith)
      by (inr f) =
          let s = sym (answer (stops_at 0 n f.0 (violation c d code (after c d code f.0 p).0) p f.1 f.2 refl f.3)) ∙ e in
          let q : 0 + f.0 ≡ k = count _ _ s in
          let r : f.0 ≡ k = omega arith in
          (omega arith, (λ j l. f.2 j (omega arith)), rw r at (number _ _ s))

-- ---- What a call leaves

-- No step or run changes a record's regions or limit (and the code is only read)
pub keeps : (r n : ℕ) (m : Machine) (code ws : List ℕ)
    → ((taking r n m code ws).1.code ≡ m.code) × ((taking r n m code ws).1.«data» ≡ m.«data») × ((taking r n m code ws).1.limit ≡ m.limit)
unfolding taking
keeps zero n m code ws = (refl, refl, refl)
keeps (suc r) n m code ws = (refl, refl, refl)

-- R0, the unused special registers and MODE stay 0 through every accepted step, so that test 11 never fires on a record handed back
module _ (c d : Region) (code : List ℕ) where
  pub quiet_next : (p : State × List ℕ) → violation c d code p.0 ≡ 0 → Quiet p.0.gpr p.0.spr
      → Quiet (next c d code p).0.gpr (next c d code p).0.spr
  unfolding next
  quiet_next p e q = quiet_moved (fetched c code p.0) (found d p.1 (act (fetched c code p.0) p.0).0) p.0 (passes c d code p.0 e).calm q

  abbrev Still : State × List ℕ → Type 0
  Still p = Quiet p.0.gpr p.0.spr

  quiet_after : (k : ℕ) (p : State × List ℕ) → Fine c d code k p → Quiet p.0.gpr p.0.spr
      → Quiet (after c d code k p).0.gpr (after c d code k p).0.spr
  unfolding after
  quiet_after zero p f q = q
  quiet_after (suc k) p f q = quiet_after k (next c d code p) (fine_next c d code k p f) (quiet_next p (fine_first c d code k p f) q)

-- "R0 is always 0", and "the others read zero": in every state of an accepted run
pub reads_zero : (m : Machine) (code ws : List ℕ) (n : ℕ) → not_zero_lem m ≡ false → Fine m.code m.«data» code n (state_of m, ws)
    → (j : ℕ) → j ≤ n → ReadsZero (after m.code m.«data» code j (state_of m, ws)).0
reads_zero m code ws n z f j l =
    quiet_reads (after m.code m.«data» code j (state_of m, ws)).0
    (quiet_after m.code m.«data» code j (state_of m, ws) (λ i h. f i (omega arith)) (quiet_record m z))

pub handed_back : (r n : ℕ) (m : Machine) (code ws : List ℕ) → not_zero_lem m ≡ false → not_zero_lem (taking r n m code ws).1 ≡ false
unfolding taking
handed_back zero n m code ws e = record_quiet (taking zero n m code ws).1 (run_keeps m.code m.«data» code (Still m.code m.«data» code) (quiet_next m.code m.«data» code) 0 n (state_of m, ws) (quiet_record m e))
handed_back (suc r) n m code ws e = e

-- ---- Two results that meet a promise are equal

pub values : (o q : ℕ × List ℕ) → o ≡ q → length o.1 ≡ length q.1
values o q e = ap (λ (r : ℕ × List ℕ). length r.1) e

value : (i : ℕ) (o q : ℕ × List ℕ) → o ≡ q → get_or o.1 i 0 ≡ get_or q.1 i 0
value i o q e = ap (λ (r : ℕ × List ℕ). get_or r.1 i 0) e

first_of : (o q : ℕ × List ℕ) → o ≡ q → o.0 ≡ q.0
first_of o q e = ap (λ (r : ℕ × List ℕ). r.0) e

-- A test by its number
test_of : ℕ → Test
test_of n = first ((eqb n 21, Misaligned) ∷ (eqb n 22, Outside) ∷ (eqb n 23, Illegal) ∷ (eqb n 24, Foreign) ∷ (eqb n 25, Askew) ∷ (eqb n 26, Beyond) ∷ []) Mode

test_again : (t : Test) → test_of (test_no t) ≡ t
unfolding test_of
test_again Misaligned = refl
test_again Outside = refl
test_again Illegal = refl
test_again Foreign = refl
test_again Askew = refl
test_again Beyond = refl
test_again Mode = refl

test_decides : (t u : Test) → test_no t ≡ test_no u → t ≡ u
test_decides t u e = sym (test_again t) ∙ ap test_of e ∙ test_again u

pub verdict_decides : (v w : Verdict) → verdict_answer v ≡ verdict_answer w → v ≡ w
verdict_decides (Refused n) (Refused m) e = ap Refused (refusal_decides n m (first_of _ _ e))
verdict_decides (Refused n) (Accepted k) e = let z = values _ _ e in absurd (omega arith)
verdict_decides (Refused n) (Violation v) e = let z = values _ _ e in absurd (omega arith)
verdict_decides (Accepted k) (Refused m) e = let z = values _ _ e in absurd (omega arith)
verdict_decides (Accepted k) (Accepted j) e = ap Accepted (value 0 _ _ e)
verdict_decides (Accepted k) (Violation v) e = let z = values _ _ e in absurd (omega arith)
verdict_decides (Violation v) (Refused m) e = let z = values _ _ e in absurd (omega arith)
verdict_decides (Violation v) (Accepted j) e = let z = values _ _ e in absurd (omega arith)
verdict_decides (Violation v) (Violation v') e =
    let p = test_decides v.test v'.test (first_of _ _ e) in
    let q = value 0 _ _ e in
    let r = value 1 _ _ e in
    let s = value 2 _ _ e in
    rw (p, q, r, s)

-- The promise of step and run is an equation of this form
pub outcome_unique : (v w : Verdict) (m n : Machine) (ws xs : List ℕ) (o : (ℕ × List ℕ) × Machine × List ℕ)
    → ◌≡◌ (verdict_answer v, m, ws) o → ◌≡◌ (verdict_answer w, n, xs) o → (v ≡ w) × (m ≡ n) × (ws ≡ xs)
outcome_unique v w m n ws xs o p q =
    let e : ◌≡◌ {A = (ℕ × List ℕ) × Machine × List ℕ} (verdict_answer v, m, ws) (verdict_answer w, n, xs) = p ∙ sym q in
    (verdict_decides v w (ap (λ (r : (ℕ × List ℕ) × Machine × List ℕ). r.0) e), ap (λ (r : (ℕ × List ℕ) × Machine × List ℕ). r.1) e, ap (λ (r : (ℕ × List ℕ) × Machine × List ℕ). r.2) e)
