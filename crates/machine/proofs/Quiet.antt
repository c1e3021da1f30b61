-- R0, the unused special registers and MODE stay 0: no effect that leaves MODE at 0 sets one of them.
use Rattle.std.proofs.Common.{◌≡◌, ℕ, zero, suc, ◌%◌, ◌<◌, Bool, true, false, not, ◌&&◌, eqb, List, [], ◌∷◌, get_or, set, refl, ap, ◌∙◌, arith, get_or-set_other, eqb-true}
use borrow.Author.Tests.{eqb-false, not-false}
use Rattle.std.proofs.lemmas.Bool.{or_parts}
use Rattle.std.proofs.lemmas.Bool.Decides.{nat_tests}
use Rattle.words.specs.Fields.{pick}
use Rattle.machine.specs.declared.Machine.{Machine}
use Rattle.machine.specs.declared.Effect.{Effect}
use Rattle.machine.specs.declared.Effect.TheVariants as does
use Rattle.machine.specs.Effects.{State, register, put, put_special, applied, act, moved, mode_set, one_of, thirteen, SR, ESR, MODE}
use Rattle.machine.specs.Record.{any_below, idle, idle_set_lem, not_zero_lem}
use Rattle.machine.proofs.Special.{loud, loud_not}

-- Nothing of a list passes a test, number by number
none_passes : (p : ℕ → Bool) (n : ℕ) → any_below p n ≡ false → (k : ℕ) → k < n → p k ≡ false
none_passes p zero e k l = absurd (omega arith)
none_passes p (suc n) e k l =
    let o : (p n ≡ false) × (any_below p n ≡ false) = or_parts (p n) (any_below p n) e in
    let rest : k < n → p k ≡ false = none_passes p n o.1 k in
    grind (arith, o.0, rest)

pub each_fails : (p : ℕ → Bool) (n : ℕ) → ((k : ℕ) → k < n → p k ≡ false) → any_below p n ≡ false
each_fails p zero f = refl
each_fails p (suc n) f = rw (f n (omega arith)) (each_fails p n (λ k l. f k (omega arith)))

set_zero : (l : List ℕ) (i : ℕ) → get_or (set l i 0) i 0 ≡ 0
set_zero [] i = refl
set_zero (x ∷ l) zero = refl
set_zero (x ∷ l) (suc i) = set_zero l i

-- A special register that may hold something, or a zero, can be set
quiet_set : (p : List ℕ) (n x : ℕ) → (loud (set p n x) n ≡ false) → idle_set_lem p ≡ false → idle_set_lem (set p n x) ≡ false
unfolding idle_set_lem
quiet_set p n x q e = each_fails (loud (set p n x)) 32 at
  where
    at : (k : ℕ) → k < 32 → loud (set p n x) k ≡ false
    at k l = by (eqb k n) refl
      where
        by : (t : Bool) → eqb k n ≡ t → loud (set p n x) k ≡ false
        by true f = ap (loud (set p n x)) (eqb-true k n f) ∙ q
        by false f = rw (get_or-set_other {A = ℕ} p n k x 0 (eqb-false k n f)) (none_passes (loud p) 32 e k l)

-- The registers that have to be 0
pub record Quiet (g p : List ℕ) : Type 0 where
  pub zero_register : get_or g 0 0 ≡ 0
  pub idle_registers : idle_set_lem p ≡ false

quiet_put : (g : List ℕ) (n x : ℕ) → get_or g 0 0 ≡ 0 → get_or (put g n x) 0 0 ≡ 0
unfolding put
quiet_put g n x e = grind (arith, nat_tests, get_or-set_other {A = ℕ})

quiet_special : (p : List ℕ) (n x : ℕ) → mode_set (does.PutSpecial n x) ≡ false → idle_set_lem p ≡ false → idle_set_lem (put_special p n x) ≡ false
unfolding put_special mode_set
quiet_special p n x m e = by (one_of n thirteen) refl (eqb n MODE) refl m
  where
    by : (t : Bool) → one_of n thirteen ≡ t → (u : Bool) → eqb n MODE ≡ u → u && not (eqb x 0) ≡ false → idle_set_lem (pick t (set p n x) p) ≡ false
    by false f u q m = e
    by true f true q m =
        quiet_set p n x (loud_not (set p n x) n (rw (eqb-true x 0 (not-false (eqb x 0) m)) (set_zero p n))) e
    by true f false q m = quiet_set p n x (rw (f, q)) e

pub quiet_applied : (e : Effect) (v pc : ℕ) (g p : List ℕ) → mode_set e ≡ false → Quiet g p → Quiet (applied e v pc g p).1 (applied e v pc g p).2
unfolding applied
quiet_applied (does.Put n x) v pc g p m q = record { zero_register = quiet_put g n x q.zero_register; idle_registers = q.idle_registers }
quiet_applied (does.PutSpecial n x) v pc g p m q = record { zero_register = q.zero_register; idle_registers = quiet_special p n x m q.idle_registers }
quiet_applied (does.Sum n x o) v pc g p m q = record { zero_register = quiet_put g n x q.zero_register; idle_registers = q.idle_registers }
quiet_applied (does.Load k n a) v pc g p m q = record { zero_register = quiet_put g n v q.zero_register; idle_registers = q.idle_registers }
quiet_applied (does.Store k a x) v pc g p m q = q
quiet_applied (does.Trap z) v pc g p m q = q
quiet_applied does.Return v pc g p m q = record { zero_register = q.zero_register; idle_registers = quiet_set p SR (register p ESR) refl q.idle_registers }
quiet_applied does.Nothing v pc g p m q = q

pub quiet_moved : (w v : ℕ) (s : State) → mode_set (act w s).0 ≡ false → Quiet s.gpr s.spr → Quiet (moved w v s).gpr (moved w v s).spr
unfolding moved
quiet_moved w v s m q = quiet_applied (act w s).0 v s.pc s.gpr s.spr m q

-- A record passes test 11 exactly where its registers are quiet
pub quiet_record : (m : Machine) → not_zero_lem m ≡ false → Quiet m.gpr m.spr
unfolding not_zero_lem
quiet_record m e = record { zero_register = grind (arith, nat_tests); idle_registers = (or_parts _ _ e).1 }

pub record_quiet : (m : Machine) → Quiet m.gpr m.spr → not_zero_lem m ≡ false
unfolding not_zero_lem
record_quiet m q = grind (arith, nat_tests, q.zero_register, q.idle_registers)

-- ---- "R0 is always 0", and "the others read zero"

pub record ReadsZero (s : State) : Type 0 where
  pub zeroth : register s.gpr 0 ≡ 0
  -- An unused special register, and MODE
  pub unused : (n : ℕ) → idle (n % 32) ≡ true → register s.spr n ≡ 0

pub quiet_reads : (s : State) → Quiet s.gpr s.spr → ReadsZero s
unfolding register idle_set_lem
quiet_reads s q = record { zeroth = q.zero_register; unused = λ n i. silent n i (none_passes (loud s.spr) 32 q.idle_registers (n % 32) (omega arith)) }
  where
    silent : (n : ℕ) → idle (n % 32) ≡ true → loud s.spr (n % 32) ≡ false → get_or s.spr (n % 32) 0 ≡ 0
    silent n i l = eqb-true (get_or s.spr (n % 32) 0) 0 (not-false (eqb (get_or s.spr (n % 32) 0) 0) (rw i at l))
