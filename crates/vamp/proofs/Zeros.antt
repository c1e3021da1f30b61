-- R0, the unused special registers and MODE stay 0 through every step, so that test 11 never fires on a record handed back.
use Prim.Native.Nat.{ℕ, zero, suc}
use mathlib.Core.Path.{◌≡◌, refl, sym, ap, subst, ◌∙◌}
use mathlib.Core.Bool.{Bool, true, false, not}
use mathlib.Core.List.{List}
use borrow.Author.Tests.{eqb-true, eqb-false}
use lib.Dec.{eqb}
use lib.ListN.{length}
use Rattle.machine.specs.declared.Machine.{Machine}
use Rattle.machine.specs.Effects.{act}
use Rattle.machine.specs.Record.{DOUBLE_WORDS, not_zero_lem, state_of, with_state}
use Rattle.machine.proofs.Quiet.{Quiet, ReadsZero, quiet_moved, quiet_record, record_quiet, quiet_reads}
use Rattle.vamp.specs.Events.{fetched, event}
use Rattle.vamp.specs.Steps.{Vamp, found, vstep, after, onward, start, stepping, running}
use Rattle.vamp.proofs.Calls.{either}
use Rattle.vamp.proofs.Onward.{step_kept, step_carried}
use Rattle.vamp.proofs.Order.{passed}
use Rattle.vamp.proofs.Sequence.{ran}

abbrev pub Still : Vamp → Type 0
Still x = Quiet x.0.gpr x.0.spr

-- The answer of a step is that of its events
pub answer_is : (x : Vamp) → (vstep x).0 ≡ event x.1 x.0
unfolding vstep
answer_is x = refl

pub still_step : (x : Vamp) → Still x → Still (vstep x).1
still_step x q = by (eqb (vstep x).0.0 0) refl
  where
    by : (t : Bool) → eqb (vstep x).0.0 0 ≡ t → Still (vstep x).1
    by true e =
        let h : (vstep x).0.0 ≡ 0 = eqb-true (vstep x).0.0 0 e in
        let w = fetched x.1 x.0 in
        subst Still (sym (step_carried x h))
        (quiet_moved w (found (act w x.0).0 x.1) x.0 (passed x.1 x.0 (ap (λ (a : ℕ × ℕ). a.0) (sym (answer_is x)) ∙ h)).calm q)
    by false e = subst Still (sym (step_kept x (eqb-false (vstep x).0.0 0 e))) q

pub still_after : (n : ℕ) (x : Vamp) → Still x → Still (after n x)
unfolding after
still_after zero x q = q
still_after (suc n) x q = still_after n (vstep x).1 (still_step x q)

-- "R0 is always 0", and "the others read zero": in every state of a course
pub reads_zero : (m : Machine) (mem : List ℕ) → not_zero_lem m ≡ false → (n : ℕ) → ReadsZero (after n (state_of m, mem)).0
reads_zero m mem z n = quiet_reads (after n (state_of m, mem)).0 (still_after n (state_of m, mem) (quiet_record m z))

-- The records that step and run hand back
pub step_zeros : (m : Machine) (mem : List ℕ) → not_zero_lem m ≡ false → not_zero_lem (stepping m mem).1 ≡ false
unfolding stepping
step_zeros m mem z =
    either (λ (r : (ℕ × ℕ) × Machine × List ℕ). not_zero_lem r.1 ≡ false) (not (eqb (length mem) DOUBLE_WORDS)) (not_zero_lem m) _ _ _ z z
    (record_quiet (with_state m (vstep (state_of m, mem)).1.0) (still_step (state_of m, mem) (quiet_record m z)))

pub run_zeros : (m : Machine) (mem : List ℕ) (n : ℕ) → not_zero_lem m ≡ false → not_zero_lem (running m mem n).3 ≡ false
unfolding running
run_zeros m mem n z =
    either (λ (r : ℕ × (ℕ × ℕ) × ℕ × Machine × List ℕ). not_zero_lem r.3 ≡ false) (not (eqb (length mem) DOUBLE_WORDS)) (not_zero_lem m) _ _ _ z z
    (record_quiet (with_state m (onward n (start (state_of m, mem))).left.0)
    (subst Still (sym (ran n (state_of m, mem)).left_whole) (still_after n (state_of m, mem) (quiet_record m z))))
