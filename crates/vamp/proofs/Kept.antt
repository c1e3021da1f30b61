-- What no step changes: the length of memory, and a record's regions and limit.
use Prim.Native.Nat.{ℕ, zero, suc}
use mathlib.Core.Path.{◌≡◌, refl, ap, ◌∙◌}
use mathlib.Core.Bool.{Bool, true, false, not}
use mathlib.Core.List.{List}
use borrow.Author.Tests.{eqb-true, eqb-false}
use lib.Dec.{eqb}
use lib.ListN.{length}
use Rattle.words.specs.declared.StoreKind.{StoreKind}
use Rattle.words.specs.declared.StoreKind.TheVariants.{Sb, Sh, Sw}
use Rattle.machine.specs.declared.Machine.{Machine}
use Rattle.machine.specs.declared.Effect.{Effect}
use Rattle.machine.specs.declared.Effect.TheVariants as does
use Rattle.machine.specs.Effects.{act}
use Rattle.machine.specs.Record.{DOUBLE_WORDS, not_zero_lem}
use Rattle.vamp.specs.Memory.{stored}
use Rattle.vamp.specs.Events.{fetched}
use Rattle.vamp.specs.Steps.{Vamp, memory_after, vstep, after, stepping, running}
use Rattle.vamp.proofs.Calls.{either}
use Rattle.vamp.proofs.Memory.{put_length}
use Rattle.vamp.proofs.Onward.{step_kept, step_carried}

stored_length : (k : StoreKind) (mem : List ℕ) (a v : ℕ) → length (stored k mem a v) ≡ length mem
unfolding stored
stored_length Sb mem a v = put_length 8 mem a v
stored_length Sh mem a v = put_length 16 mem a v
stored_length Sw mem a v = put_length 32 mem a v

pub kept_length : (e : Effect) (mem : List ℕ) → length (memory_after e mem) ≡ length mem
unfolding memory_after
kept_length (does.Store k a x) mem = stored_length k mem a x
kept_length _ mem = refl

pub step_length : (x : Vamp) → length (vstep x).1.1 ≡ length x.1
step_length x = by (eqb (vstep x).0.0 0) refl
  where
    by : (t : Bool) → eqb (vstep x).0.0 0 ≡ t → length (vstep x).1.1 ≡ length x.1
    by true e =
        ap (λ (y : Vamp). length y.1) (step_carried x (eqb-true (vstep x).0.0 0 e))
        ∙ kept_length (act (fetched x.1 x.0) x.0).0 x.1
    by false e = ap (λ (y : Vamp). length y.1) (step_kept x (eqb-false (vstep x).0.0 0 e))

pub after_length : (n : ℕ) (x : Vamp) → length (after n x).1 ≡ length x.1
unfolding after
after_length zero x = refl
after_length (suc n) x = after_length n (vstep x).1 ∙ step_length x

-- The fixed part of a record
abbrev pub Fixed : Machine → Machine → Type 0
Fixed m n = (n.code ≡ m.code) × (n.«data» ≡ m.«data») × (n.limit ≡ m.limit)

pub step_fixed : (m : Machine) (mem : List ℕ) → Fixed m (stepping m mem).1
unfolding stepping
step_fixed m mem =
    either (λ (r : (ℕ × ℕ) × Machine × List ℕ). Fixed m r.1) (not (eqb (length mem) DOUBLE_WORDS)) (not_zero_lem m) _ _ _ (refl, refl, refl) (refl, refl, refl) (refl, refl, refl)

pub run_fixed : (m : Machine) (mem : List ℕ) (n : ℕ) → Fixed m (running m mem n).3
unfolding running
run_fixed m mem n =
    either (λ (r : ℕ × (ℕ × ℕ) × ℕ × Machine × List ℕ). Fixed m r.3) (not (eqb (length mem) DOUBLE_WORDS)) (not_zero_lem m) _ _ _ (refl, refl, refl) (refl, refl, refl) (refl, refl, refl)
