-- What lies past C and D in the buffers: a run's answer does not depend on it, and the data past D stays as it is.
use Rattle.std.proofs.Common.{◌≡◌, ℕ, zero, suc, ◌-◌, ◌/◌, ◌%◌, ◌<◌, ◌≤◌, Bool, true, false, eqb, ltb, List, length, get_or, set, sym, refl, ap, ◌∙◌, subst, arith, length-set, get_or-set_other, get_or-set_same, ltb-false, eqb-true}
use borrow.Author.Tests.{eqb-false}
use Rattle.words.specs.Fields.{pick}
use Rattle.machine.specs.declared.Effect.{Effect}
use Rattle.machine.specs.declared.Effect.TheVariants as does
use Rattle.machine.specs.declared.Machine.{Machine}
use Rattle.machine.specs.declared.Region.{Region}
use Rattle.machine.specs.Effects.{State, act, moved}
use Rattle.machine.specs.Record.{holds, word_at, state_of}
use Rattle.machine.proofs.Regions.{placed}
use Rattle.checker.specs.Checks.{fetched, violation, next, found, left, outside}
use Rattle.checker.specs.Runs.{running, taking, told}
use Rattle.checker.proofs.Tests.{load_inside, store_inside, stop_21, stop_22, passes}
use Rattle.checker.proofs.Fold.{run_on, run_stop, run_keeps}

-- Two lists agree on a region's words
abbrev pub Agree : Region → List ℕ → List ℕ → Type 0
Agree r xs ys = (i : ℕ) → i < r.words → get_or xs i 0 ≡ get_or ys i 0

agree_at : (r : Region) (xs ys : List ℕ) → Agree r xs ys → (a : ℕ) → holds r a ≡ true → word_at r xs a ≡ word_at r ys a
unfolding word_at
agree_at r xs ys f a h = f ((a - r.start) / 4) (placed r a h)

-- What an effect that is not outside finds and leaves
module _ (d : Region) (ws ws' : List ℕ) (f : Agree d ws ws') (r : d.words ≤ length ws) (r' : d.words ≤ length ws') where
  same_found : (e : Effect) → outside d e ≡ false → found d ws e ≡ found d ws' e
  unfolding found
  same_found (does.Put n x) o = refl
  same_found (does.PutSpecial n x) o = refl
  same_found (does.Sum n x t) o = refl
  same_found (does.Load k n a) o = agree_at d ws ws' f a (load_inside d (does.Load k n a) k n a refl o)
  same_found (does.Store k a x) o = refl
  same_found (does.Trap z) o = refl
  same_found does.Return o = refl
  same_found does.Nothing o = refl

  agree_set : (j x : ℕ) → j < d.words → Agree d (set ws j x) (set ws' j x)
  agree_set j x l i h = by (eqb i j) refl
    where
      by : (t : Bool) → eqb i j ≡ t → get_or (set ws j x) i 0 ≡ get_or (set ws' j x) i 0
      by true e = rw (eqb-true i j e) (get_or-set_same {A = ℕ} ws j x 0 (omega arith) ∙ sym (get_or-set_same {A = ℕ} ws' j x 0 (omega arith)))
      by false e = get_or-set_other {A = ℕ} ws j i x 0 (eqb-false i j e) ∙ f i h ∙ sym (get_or-set_other {A = ℕ} ws' j i x 0 (eqb-false i j e))

  agree_left : (e : Effect) → outside d e ≡ false → Agree d (left d ws e) (left d ws' e)
  unfolding left
  agree_left (does.Put n x) o = f
  agree_left (does.PutSpecial n x) o = f
  agree_left (does.Sum n x t) o = f
  agree_left (does.Load k n a) o = f
  agree_left (does.Store k a x) o = agree_set ((a - d.start) / 4) x (placed d a (store_inside d (does.Store k a x) k a x refl o))
  agree_left (does.Trap z) o = f
  agree_left does.Return o = f
  agree_left does.Nothing o = f

-- A store keeps the length
pub left_length : (d : Region) (ws : List ℕ) (e : Effect) → length (left d ws e) ≡ length ws
unfolding left
left_length d ws (does.Put n x) = refl
left_length d ws (does.PutSpecial n x) = refl
left_length d ws (does.Sum n x t) = refl
left_length d ws (does.Load k n a) = refl
left_length d ws (does.Store k a x) = length-set ws ((a - d.start) / 4) x
left_length d ws (does.Trap z) = refl
left_length d ws does.Return = refl
left_length d ws does.Nothing = refl

-- and what lies past the region
left_past : (d : Region) (ws : List ℕ) (e : Effect) → outside d e ≡ false → (i : ℕ) → d.words ≤ i → get_or (left d ws e) i 0 ≡ get_or ws i 0
unfolding left
left_past d ws (does.Put n x) o i l = refl
left_past d ws (does.PutSpecial n x) o i l = refl
left_past d ws (does.Sum n x t) o i l = refl
left_past d ws (does.Load k n a) o i l = refl
left_past d ws (does.Store k a x) o i l =
    let h = placed d a (store_inside d (does.Store k a x) k a x refl o) in
    get_or-set_other {A = ℕ} ws ((a - d.start) / 4) i x 0 (omega arith)
left_past d ws (does.Trap z) o i l = refl
left_past d ws does.Return o i l = refl
left_past d ws does.Nothing o i l = refl

module _ (c d : Region) (code : List ℕ) where
  next_past : (p : State × List ℕ) → violation c d code p.0 ≡ 0 → (i : ℕ) → d.words ≤ i → get_or (next c d code p).1 i 0 ≡ get_or p.1 i 0
  unfolding next
  next_past p z i l = left_past d p.1 (act (fetched c code p.0) p.0).0 (passes c d code p.0 z).inside i l

  next_length : (p : State × List ℕ) → length (next c d code p).1 ≡ length p.1
  unfolding next
  next_length p = left_length d p.1 (act (fetched c code p.0) p.0).0

  -- A run keeps what every step keeps
  run_past : (n : ℕ) (p : State × List ℕ) (i : ℕ) → d.words ≤ i → get_or (running c d code 0 n p).1.1 i 0 ≡ get_or p.1 i 0
  run_past n p i l = run_keeps c d code (λ q. get_or q.1 i 0 ≡ get_or p.1 i 0) (λ q z h. next_past q z i l ∙ h) 0 n p refl

  run_length : (n : ℕ) (p : State × List ℕ) → length (running c d code 0 n p).1.1 ≡ length p.1
  run_length n p = run_keeps c d code (λ q. length q.1 ≡ length p.1) (λ q z h. next_length q ∙ h) 0 n p refl

-- No step or run changes the data past D, nor the buffer's length
pub past_kept : (r n : ℕ) (m : Machine) (code ws : List ℕ) (i : ℕ) → m.«data».words ≤ i → get_or (taking r n m code ws).2 i 0 ≡ get_or ws i 0
unfolding taking
past_kept zero n m code ws i l = run_past m.code m.«data» code n (state_of m, ws) i l
past_kept (suc r) n m code ws i l = refl

pub length_kept : (r n : ℕ) (m : Machine) (code ws : List ℕ) → length (taking r n m code ws).2 ≡ length ws
unfolding taking
length_kept zero n m code ws = run_length m.code m.«data» code n (state_of m, ws)
length_kept (suc r) n m code ws = refl

-- The same step from the same state, whatever lies past the regions
module _ (c d : Region) (code code' : List ℕ) (f : Agree c code code') (s : State) where
  module _ (a : eqb (s.dpc % 4) 0 ≡ true) (h : holds c s.dpc ≡ true) where
    same_word : fetched c code s ≡ fetched c code' s
    same_word = agree_at c code code' f s.dpc h

    same_tests : violation c d code s ≡ violation c d code' s
    unfolding violation
    same_tests = rw same_word

  early : (v : ℕ) → violation c d code s ≡ v → 22 < v → (eqb (s.dpc % 4) 0 ≡ true) × (holds c s.dpc ≡ true)
  early v e l = by (eqb (s.dpc % 4) 0) refl (holds c s.dpc) refl
    where
      by : (t : Bool) → eqb (s.dpc % 4) 0 ≡ t → (u : Bool) → holds c s.dpc ≡ u → (eqb (s.dpc % 4) 0 ≡ true) × (holds c s.dpc ≡ true)
      by false p u q = let z = stop_21 c d code s (eqb-false (s.dpc % 4) 0 p) in absurd (omega arith)
      by true p false q = let z = stop_22 c d code s (eqb-true (s.dpc % 4) 0 p) q in absurd (omega arith)
      by true p true q = (p, q)

  same_violation : violation c d code s ≡ violation c d code' s
  same_violation = by (eqb (s.dpc % 4) 0) refl (holds c s.dpc) refl
    where
      by : (t : Bool) → eqb (s.dpc % 4) 0 ≡ t → (u : Bool) → holds c s.dpc ≡ u → violation c d code s ≡ violation c d code' s
      by false e u h = stop_21 c d code s (eqb-false (s.dpc % 4) 0 e) ∙ sym (stop_21 c d code' s (eqb-false (s.dpc % 4) 0 e))
      by true e false h = stop_22 c d code s (eqb-true (s.dpc % 4) 0 e) h ∙ sym (stop_22 c d code' s (eqb-true (s.dpc % 4) 0 e) h)
      by true e true h = same_tests e h

  same_told : (v : ℕ) → violation c d code s ≡ v → told v (fetched c code s) ≡ told v (fetched c code' s)
  same_told v e = by (ltb v 23) refl
    where
      by : (t : Bool) → ltb v 23 ≡ t → pick t 0 (fetched c code s) ≡ pick t 0 (fetched c code' s)
      by true p = refl
      by false p = let q = early v e (let l : 23 ≤ v = ltb-false v 23 p in omega arith) in same_word q.0 q.1

  module _ (z : violation c d code s ≡ 0) (ws ws' : List ℕ) (g : Agree d ws ws') (r : d.words ≤ length ws) (r' : d.words ≤ length ws') where
    fits : fetched c code s ≡ fetched c code' s
    fits = agree_at c code code' f s.dpc (passes c d code s z).within

    same_state : (next c d code (s, ws)).0 ≡ (next c d code' (s, ws')).0
    unfolding next
    same_state = rw (← fits) (ap (λ (v : ℕ). moved (fetched c code s) v s) (same_found d ws ws' g r r' (act (fetched c code s) s).0 (passes c d code s z).inside))

    agree_next : Agree d (next c d code (s, ws)).1 (next c d code' (s, ws')).1
    unfolding next
    agree_next = rw (← fits) (agree_left d ws ws' g r r' (act (fetched c code s) s).0 (passes c d code s z).inside)

-- Two runs' answers and states are the same, and their data agree on the region
abbrev pub Alike : Region → (ℕ × List ℕ) × (State × List ℕ) → (ℕ × List ℕ) × (State × List ℕ) → Type 0
Alike d o q = (o.0 ≡ q.0) × (o.1.0 ≡ q.1.0) × Agree d o.1.1 q.1.1

module _ (c d : Region) (code code' : List ℕ) (f : Agree c code code') where
  roomy : (code ws : List ℕ) (s : State) → d.words ≤ length ws → d.words ≤ length (next c d code (s, ws)).1
  unfolding next
  roomy code ws s l = rw (left_length d ws (act (fetched c code s) s).0) l

  pub independent : (n k : ℕ) (s : State) (ws ws' : List ℕ) → Agree d ws ws' → d.words ≤ length ws → d.words ≤ length ws'
      → Alike d (running c d code k n (s, ws)) (running c d code' k n (s, ws'))
  unfolding running
  independent zero k s ws ws' g r r' = (refl, refl, g)
  independent (suc n) k s ws ws' g r r' = by (violation c d code s) refl (independent n (suc k))
    where
      by : (v : ℕ) → violation c d code s ≡ v
          → ((s : State) (ws ws' : List ℕ) → Agree d ws ws' → d.words ≤ length ws → d.words ≤ length ws'
          → Alike d (running c d code (suc k) n (s, ws)) (running c d code' (suc k) n (s, ws')))
          → Alike d (running c d code k (suc n) (s, ws)) (running c d code' k (suc n) (s, ws'))
      by zero e rest =
          let e' : violation c d code' s ≡ 0 = sym (same_violation c d code code' f s) ∙ e in
          rw (run_on c d code (s, ws) k n e, run_on c d code' (s, ws') k n e')
          (subst (λ (t : State). Alike d (running c d code (suc k) n (next c d code (s, ws))) (running c d code' (suc k) n (t, (next c d code' (s, ws')).1)))
          (same_state c d code code' f s e ws ws' g r r')
          (rest (next c d code (s, ws)).0 (next c d code (s, ws)).1 (next c d code' (s, ws')).1 (agree_next c d code code' f s e ws ws' g r r') (roomy code ws s r) (roomy code' ws' s r')))
      by (suc v) e rest =
          let e' : violation c d code' s ≡ suc v = sym (same_violation c d code code' f s) ∙ e in
          rw (run_stop c d code (s, ws) k n (suc v) e (omega arith), run_stop c d code' (s, ws') k n (suc v) e' (omega arith))
          (rw (same_told c d code code' f s (suc v) e) refl, refl, g)
