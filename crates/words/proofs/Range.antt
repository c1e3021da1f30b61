-- A test that is computed over a range of numbers, and what it shows of each.
use Prim.Native.Nat.{ℕ, zero, suc, ◌+◌, ◌≤◌, ◌<◌}
use mathlib.Core.Path.{◌≡◌, refl, ap, ◌∙◌}
use mathlib.Core.Bool.{Bool, true, false}
use native.Mathlib.Omega.{arith}
use borrow.Author.Tests.{eqb-true, eqb-false}
use lib.Dec.{T, eqb}
use Rattle.words.specs.Fields.{pick}

-- The n numbers from lo on pass the test
abbrev pub every : (ℕ → Bool) → ℕ → ℕ → Bool
every p lo zero = true
every p lo (suc n) = pick (p lo) (every p (suc lo) n) false

pub every_at : (p : ℕ → Bool) (lo n : ℕ) → T (every p lo n) → (k : ℕ) → lo ≤ k → k < lo + n → p k ≡ true
every_at p lo zero t k l h = absurd (omega arith)
every_at p lo (suc n) t k l h = by (p lo) refl t (eqb k lo) refl (every_at p (suc lo) n)
  where
    by : (b : Bool) → p lo ≡ b → T (pick b (every p (suc lo) n) false) → (c : Bool) → eqb k lo ≡ c
        → (T (every p (suc lo) n) → (k : ℕ) → suc lo ≤ k → k < suc lo + n → p k ≡ true) → p k ≡ true
    by true e t true d rest = ap p (eqb-true k lo d) ∙ e
    by true e t false d rest = rest t k (let u : k ≡ lo → ⊥ = eqb-false k lo d in omega arith) (omega arith)
    by false e t c d rest = absurd t
