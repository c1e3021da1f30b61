use Prim.Native.Nat.{ℕ, zero, suc, ◌*◌, ◌-◌, ◌^◌, ◌≤◌, ◌<◌}
use mathlib.Core.Path.{◌≡◌, ◌∙◌}
use mathlib.Core.Logic.{◌⊎◌, inl, inr}
use native.Mathlib.Nat.{pow-le-pow_right, one-le-pow}
use native.Mathlib.Omega.{arith}
use Rattle.std.proofs.Math.Nat.{pow-succ'}
use Rattle.std.proofs.lemmas.Bool.{cases_lt}
use Rattle.judge.specs.Digits.{places}
use Rattle.judge.proofs.Decides.{places_hold, places_fewest}
use Rattle.judge.proofs.digits.places.Goals as goal

-- Digits that hold a number are no fewer than those that it needs
enough : (n p q : ℕ) → n < 10 ^ p → 10 ^ (q - 1) ≤ n → q ≤ p
enough n p q held needed = by (cases_lt p q)
  where
    by : (p < q) ⊎ (q ≤ p) → q ≤ p
    by (inl l) = let more : 10 ^ p ≤ 10 ^ (q - 1) = pow-le-pow_right {n = 10} (omega arith) {i = p} {j = q - 1} (omega arith) in absurd (omega arith)
    by (inr l) = l

-- A number above 0 needs the digits before its last
more : (n k : ℕ) → 0 < n → 1 ≤ k → (2 ≤ k → 10 ^ (k - 1) ≤ n) → 10 ^ (k - 1) ≤ n
more n k above some needed = by (cases_lt k 2)
  where
    by : (k < 2) ⊎ (2 ≤ k) → 10 ^ (k - 1) ≤ n
    by (inl l) = let one : k ≡ 1 = omega arith in rw one above
    by (inr l) = needed l

counted : (n k : ℕ) → n < 10 ^ 10 → 1 ≤ k → n < 10 ^ k → (2 ≤ k → 10 ^ (k - 1) ≤ n) → k ≡ places n
unfolding places
counted zero k small some held needed = by (cases_lt k 2)
  where
    by : (k < 2) ⊎ (2 ≤ k) → k ≡ 1
    by (inl l) = omega arith
    by (inr l) = let one = one-le-pow (k - 1) 10 (omega arith) in let none = needed l in absurd (omega arith)
counted (suc n) k small some held needed =
    let above : k ≤ places (suc n) = enough (suc n) (places (suc n)) k (places_hold (suc n) small) (more (suc n) k (omega arith) some needed) in
    let below : places (suc n) ≤ k = enough (suc n) k (places (suc n)) held (places_fewest (suc n) (omega arith)) in
    omega arith

lower : (p n : ℕ) → 10 ^ p ≤ n → 10 ^ (suc p - 1) ≤ n
lower p n h = let e : suc p - 1 ≡ p = omega arith in rw e h

-- What is answered is such a count
answered : (n k r : ℕ) → r ≡ k → k ≡ places n → r ≡ places n
answered n k r e h = e ∙ h

pub returns-in-Some-clause-value : goal.returns-in-Some-clause-value
returns-in-Some-clause-value c =
    let next : c.args.n < 10 * 10 ^ c.in-Some.power = c.in-Some.ensures.next_power_gt in
    let low = c.in-Some.ensures.power_le in
    answered _ (suc c.in-Some.power) _ (grind arith) (counted c.args.n (suc c.in-Some.power) (omega arith) (omega arith) (rw (pow-succ' 10 c.in-Some.power) next) (λ l. lower c.in-Some.power c.args.n low))

pub returns-in-None-clause-value : goal.returns-in-None-clause-value
returns-in-None-clause-value c =
    let zero = c.in-None.ensures.none in
    counted c.args.n 1 (omega arith) (omega arith) (omega arith) (λ l. absurd (omega arith))
