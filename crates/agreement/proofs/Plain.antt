-- Instructions that raise no event of their own, and those that reach memory by words. The assembler machine's twenty are both.
use Prim.Native.Nat.{ℕ}
use mathlib.Core.Path.{◌≡◌, refl, sym, ◌∙◌}
use mathlib.Core.Bool.{Bool, true, false}
use mathlib.Core.List.{List}
use Rattle.words.specs.declared.Instruction.{Instruction}
use Rattle.words.specs.declared.Instruction.TheVariants.{ArithmeticRegister, Trap, Rfe, ArithmeticImmediate, Load, Store}
use Rattle.words.specs.declared.Arithmetic.{Arithmetic}
use Rattle.words.specs.declared.Arithmetic.TheVariants.{Addo, Subo}
use Rattle.words.specs.declared.LoadKind.{LoadKind}
use Rattle.words.specs.declared.LoadKind.TheVariants.{Lw}
use Rattle.words.specs.declared.StoreKind.{StoreKind}
use Rattle.words.specs.declared.StoreKind.TheVariants.{Sw}
use Rattle.words.proofs.Signed.{false_true}
use Rattle.machine.specs.declared.Effect.{Effect}
use Rattle.machine.specs.declared.Effect.TheVariants as does
use Rattle.machine.specs.Effects.{meaning, computed}
use Rattle.words.specs.Words.{arithmetic_register_no, arithmetic_immediate_no, load_no, store_no}
use Rattle.checker.specs.Checks.{admits, admits_opcode, admits_function}
use Rattle.vamp.specs.Events.{trapped, overflowed}

-- addo, subo, addio, subio
abbrev pub sums : Arithmetic → Bool
sums Addo = true
sums Subo = true
sums _ = false

-- addo, addio, subo, subio, trap and rfe
abbrev pub excluded : Instruction → Bool
excluded (ArithmeticRegister a rd r1 r2) = sums a
excluded (ArithmeticImmediate a rd r1 imm) = sums a
excluded (Trap imm) = true
excluded Rfe = true
excluded _ = false

-- An effect that is no trap and no overflow
abbrev pub Calm : Effect → Type 0
Calm e = (trapped e ≡ false) × (overflowed e ≡ false)

computed_calm : (a : Arithmetic) (d x y : ℕ) → sums a ≡ false → Calm (computed a d x y)
unfolding trapped overflowed
computed_calm Addo d x y e = absurd (false_true (sym e))
computed_calm Subo d x y e = absurd (false_true (sym e))
computed_calm _ d x y e = (refl, refl)

-- All but the six do nothing else
pub plain_calm : (i : Instruction) (pc : ℕ) (g p : List ℕ) → excluded i ≡ false → Calm (meaning i pc g p).0
unfolding trapped overflowed meaning
plain_calm (ArithmeticRegister a rd r1 r2) pc g p e = computed_calm a _ _ _ e
plain_calm (ArithmeticImmediate a rd r1 imm) pc g p e = computed_calm a _ _ _ e
plain_calm (Trap imm) pc g p e = absurd (false_true (sym e))
plain_calm _ pc g p e = (refl, refl)

-- An access, if there is one, is of a word
abbrev pub ByWords : Effect → Type 0
ByWords (does.Load k n a) = k ≡ Lw
ByWords (does.Store k a x) = k ≡ Sw
ByWords _ = Unit {0}

-- ---- The assembler machine's twenty

-- A choice among the seven that takes neither addo nor subo takes no sum that may overflow
no_sums : (f : Arithmetic → Bool) → f Addo ≡ false → f Subo ≡ false → (a : Arithmetic) → f a ≡ true → sums a ≡ false
no_sums f p q Addo e = absurd (false_true (sym p ∙ e))
no_sums f p q Subo e = absurd (false_true (sym q ∙ e))
no_sums f p q _ e = refl

pub admitted_plain : (i : Instruction) → admits i ≡ true → excluded i ≡ false
unfolding admits
admitted_plain (ArithmeticRegister a rd r1 r2) e = no_sums (λ (b : Arithmetic). admits_function (arithmetic_register_no b)) refl refl a e
admitted_plain (ArithmeticImmediate a rd r1 imm) e = no_sums (λ (b : Arithmetic). admits_opcode (arithmetic_immediate_no b)) refl refl a e
admitted_plain (Trap imm) e = absurd (false_true e)
admitted_plain Rfe e = absurd (false_true e)
admitted_plain _ e = refl

computed_words : (a : Arithmetic) (d x y : ℕ) → ByWords (computed a d x y)
computed_words Addo d x y = tt
computed_words _ d x y = tt

load_word : (k : LoadKind) → admits_opcode (load_no k) ≡ true → k ≡ Lw
load_word Lw e = refl
load_word _ e = absurd (false_true e)

store_word : (k : StoreKind) → admits_opcode (store_no k) ≡ true → k ≡ Sw
store_word Sw e = refl
store_word _ e = absurd (false_true e)

pub admitted_words : (i : Instruction) (pc : ℕ) (g p : List ℕ) → admits i ≡ true → ByWords (meaning i pc g p).0
unfolding admits meaning
admitted_words (ArithmeticRegister a rd r1 r2) pc g p e = computed_words a _ _ _
admitted_words (ArithmeticImmediate a rd r1 imm) pc g p e = computed_words a _ _ _
admitted_words (Load k rd r1 imm) pc g p e = load_word k e
admitted_words (Store k r1 imm rd) pc g p e = store_word k e
admitted_words _ pc g p e = tt
