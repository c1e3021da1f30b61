-- The thirteen special registers are those up to EMODE, and MODE.
use Rattle.std.proofs.Common.{◌≡◌, ℕ, ◌⊎◌, inl, inr, zero, suc, ◌<◌, ◌≤◌, Bool, true, false, not, ◌&&◌, ◌||◌, eqb, List, get_or, sym, ap, ◌∙◌, arith, eq-eqb, ne_eqb}
use Rattle.std.proofs.lemmas.Bool.{or_left, or_right, and_right, cases_eq, not_from_true}
use Rattle.std.proofs.lemmas.Bool.Decides.{nat_tests}
use Rattle.words.proofs.Range.{every_at}
use Rattle.machine.specs.Effects.{one_of, thirteen, EMODE, MODE}
use Rattle.machine.specs.Record.{idle, any_below}

pub special_mode : (n : ℕ) → n ≡ MODE → one_of n thirteen ≡ true
special_mode n e = rw e

pub special_not : (n : ℕ) → EMODE < n → (n ≡ MODE → ⊥) → one_of n thirteen ≡ false
special_not n l d = grind (arith, nat_tests)

pub special_low : (n : ℕ) → n ≤ EMODE → one_of n thirteen ≡ true
special_low n l = every_at (λ k. one_of k thirteen) 0 12 tt n (omega arith) (omega arith)

-- The special registers that have to be 0 are those past EMODE
pub idle_past : (n : ℕ) → EMODE < n → n < 32 → idle n ≡ true
idle_past n l h = every_at idle 12 20 tt n (omega arith) (omega arith)

-- A number that passes a test, and one more that does not
pub any_yes : (p : ℕ → Bool) (n m : ℕ) → n < m → p n ≡ true → any_below p m ≡ true
any_yes p n zero l e = absurd (omega arith)
any_yes p n (suc m) l e = by (cases_eq n m) (any_yes p n m)
  where
    by : (n ≡ m) ⊎ (n ≡ m → ⊥) → (n < m → p n ≡ true → any_below p m ≡ true) → (p m || any_below p m) ≡ true
    by (inl q) rest = or_left _ _ (ap p (sym q) ∙ e)
    by (inr q) rest = or_right _ _ (rest (omega arith) e)

-- The test of the special registers, number by number
abbrev pub loud : List ℕ → ℕ → Bool
loud p n = idle n && not (eqb (get_or p n 0) 0)

pub loud_yes : (p : List ℕ) (n : ℕ) → EMODE < n → n < 32 → (get_or p n 0 ≡ 0 → ⊥) → loud p n ≡ true
loud_yes p n l h d = rw (idle_past n l h, ne_eqb (get_or p n 0) 0 d)

pub loud_not : (p : List ℕ) (n : ℕ) → get_or p n 0 ≡ 0 → loud p n ≡ false
loud_not p n e = and_right _ _ (not_from_true _ (eq-eqb _ _ e))
