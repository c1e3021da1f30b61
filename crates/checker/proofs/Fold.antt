-- The run, step by step: on, stopped, ended.
use Rattle.std.proofs.Common.{◌≡◌, ℕ, zero, suc, ◌+◌, ◌-◌, ◌<◌, List, [], ◌∷◌, sym, refl, add-one, arith}
use Rattle.machine.specs.declared.Region.{Region}
use Rattle.machine.specs.Effects.{State}
use Rattle.checker.specs.Checks.{fetched, violation, next}
use Rattle.checker.specs.Runs.{running, told}

module _ (c d : Region) (code : List ℕ) (p : State × List ℕ) where
  pub run_on : (k n : ℕ) → violation c d code p.0 ≡ 0 → running c d code k (suc n) p ≡ running c d code (suc k) n (next c d code p)
  unfolding running
  run_on k n e = rw (e, running)

  pub run_stop : (k n v : ℕ) → violation c d code p.0 ≡ v → 0 < v
      → running c d code k (suc n) p ≡ ((v, k ∷ p.0.dpc ∷ told v (fetched c code p.0) ∷ []), p)
  unfolding running
  run_stop k n zero e l = absurd (omega arith)
  run_stop k n (suc v) e l = rw (e, running)

  pub run_end : (k : ℕ) → running c d code k 0 p ≡ ((0, k ∷ []), p)
  unfolding running
  run_end k = refl

-- What each step keeps that breaks no test, a run keeps
module _ (c d : Region) (code : List ℕ) (P : State × List ℕ → Type 0) (keeps : (p : State × List ℕ) → violation c d code p.0 ≡ 0 → P p → P (next c d code p)) where
  pub run_keeps : (k n : ℕ) (p : State × List ℕ) → P p → P (running c d code k n p).1
  unfolding running
  run_keeps k zero p h = h
  run_keeps k (suc n) p h = by (violation c d code p.0) refl (run_keeps (suc k) n (next c d code p))
    where
      by : (v : ℕ) → violation c d code p.0 ≡ v → (P (next c d code p) → P (running c d code (suc k) n (next c d code p)).1) → P (running c d code k (suc n) p).1
      by zero e rest = rw (run_on c d code p k n e) (rest (keeps p e h))
      by (suc v) e rest = rw (run_stop c d code p k n (suc v) e (omega arith)) h

-- The same at a count below a limit, in the code's terms
module _ (c d : Region) (code : List ℕ) (p : State × List ℕ) (k n : ℕ) (l : k < n) where
  left_over : n - k ≡ suc (n - (k + 1))
  left_over = omega arith

  pub goes_on : violation c d code p.0 ≡ 0 → (q : State × List ℕ) → q ≡ next c d code p
      → running c d code (k + 1) (n - (k + 1)) q ≡ running c d code k (n - k) p
  goes_on e q f = rw (f, left_over, add-one) (sym (run_on c d code p k (n - suc k) e))

  pub stops : (v : ℕ) → violation c d code p.0 ≡ v → 0 < v
      → ((v, k ∷ p.0.dpc ∷ told v (fetched c code p.0) ∷ []), p) ≡ running c d code k (n - k) p
  stops v e z = rw left_over (sym (run_stop c d code p k (n - (k + 1)) v e z))

  -- As the loop leaves it, with nothing changed
  pub stopped : (v w : ℕ) (s : State) (ws : List ℕ) → violation c d code p.0 ≡ v → 0 < v → w ≡ told v (fetched c code p.0) → s ≡ p.0 → ws ≡ p.1
      → ◌≡◌ {A = (ℕ × List ℕ) × (State × List ℕ)} ((v, k ∷ s.dpc ∷ w ∷ []), (s, ws)) (running c d code k (n - k) p)
  stopped v w s ws e z t es ew = rw (t, es, ew) (stops v e z)
