-- Registers hold words: no effect of a word that is read puts or stores a number from 2 ^ 32 on, where the registers hold none.
use Rattle.std.proofs.Common.{◌≡◌, ℕ, suc, ◌-◌, ◌/◌, ◌%◌, ◌^◌, ◌<◌, ◌≤◌, Bool, true, false, ltb, ◌⊎◌, List, get_or, set, ℤ, pos, negsuc, refl, inl, inr, arith, get_or-set_other, get_or-set_same, ltb-false, ltb-true}
use mathlib.Core.Option.{none, some}
use lib.Bits.{and_le_l, or_lt, xor_lt}
use lib.Pow.{shr_le}
use lib.Seq.{set_out}
use lib.Signed.{shr_z}
use Rattle.std.proofs.lemmas.Bool.Decides.{nat_tests}
use Rattle.words.specs.Fields.{signed, immediate16}
use Rattle.words.specs.Words.{reading}
use Rattle.words.specs.declared.Instruction.{Instruction}
use Rattle.words.specs.declared.Instruction.TheVariants.{ShiftImmediate, ShiftRegister, Movs2i, Movi2s, ArithmeticRegister, Lhg, Clr, CompareRegister, Set, J, Jal, Trap, Rfe, Beqz, Bnez, ArithmeticImmediate, Lhgi, Jr, Jalr, Clri, CompareImmediate, Seti, Load, Store}
use Rattle.words.specs.declared.Shift.{Shift}
use Rattle.words.specs.declared.Shift.TheVariants.{Sll, Sla, Srl, Sra}
use Rattle.words.specs.declared.Comparison.{Comparison}
use Rattle.words.specs.declared.Arithmetic.{Arithmetic}
use Rattle.words.specs.declared.Arithmetic.TheVariants.{Addo, Add, Subo, Sub, And, Or, Xor}
use Rattle.words.proofs.Signed.{signed_low, signed_high}
use Rattle.words.proofs.Numbering.{filled}
use Rattle.words.proofs.Again.{read_filled}
use Rattle.arithmetic.specs.Rulings.{plus, minus, integer, sext, high, shifted, bit, satisfies, compared}
use Rattle.arithmetic.proofs.Integers.{integer_low, integer_high}
use Rattle.machine.specs.declared.Effect.{Effect}
use Rattle.machine.specs.declared.Effect.TheVariants as does
use Rattle.machine.specs.Effects.{State, register, put, put_special, computed, meaning, applied, act, moved, SR, ESR}
use Rattle.machine.proofs.Acts.{word_reads, act_reads, act_illegal}

-- Every element is a word
abbrev pub Words : List ℕ → Type 0
Words xs = (i : ℕ) → get_or xs i 0 < 2 ^ 32

-- The numbers of an effect are words
abbrev pub Small : Effect → Type 0
Small (does.Put n x) = x < 2 ^ 32
Small (does.PutSpecial n x) = x < 2 ^ 32
Small (does.Sum n x o) = x < 2 ^ 32
Small (does.Store k a x) = x < 2 ^ 32
Small e = Unit {0}

register_small : (g : List ℕ) (n : ℕ) → Words g → register g n < 2 ^ 32
unfolding register
register_small g n w = w (n % 32)

plus_small : (a b : ℕ) → plus a b < 2 ^ 32
unfolding plus
plus_small a b = omega arith

minus_small : (a b : ℕ) → minus a b < 2 ^ 32
unfolding minus
minus_small a b = omega arith

bit_small : (t : Bool) → bit t < 2 ^ 32
bit_small t = grind (arith, nat_tests)

compared_small : (k : Comparison) (a b : ℕ) → compared k a b < 2 ^ 32
compared_small k a b = bit_small (satisfies k a b)

sext_small : (z : ℤ) (n : ℕ) → z ≡ pos n → n < 2 ^ 32 → sext z < 2 ^ 32
unfolding sext
sext_small z n e l = rw e l

sext_negative : (n : ℕ) → sext (negsuc n) < 2 ^ 32
unfolding sext
sext_negative n = omega arith

copied_small : (x m : ℕ) → x < 2 ^ 32 → (m : ℕ) → sext (shr_z (integer x) (2 ^ m)) < 2 ^ 32
copied_small x k h m = by (ltb x (2 ^ 31)) refl
  where
    by : (t : Bool) → ltb x (2 ^ 31) ≡ t → sext (shr_z (integer x) (2 ^ m)) < 2 ^ 32
    by true e =
        let l : x < 2 ^ 31 = ltb-true x (2 ^ 31) e in
        let b : x / 2 ^ m ≤ x = shr_le x m in
        sext_small (shr_z (integer x) (2 ^ m)) (x / 2 ^ m) (rw (integer_low x l)) (omega arith)
    by false e = rw (integer_high x (ltb-false x (2 ^ 31) e) h) (sext_negative ((2 ^ 32 - suc x) / 2 ^ m))

shifted_small : (s : Shift) (x n : ℕ) → x < 2 ^ 32 → shifted s x n < 2 ^ 32
unfolding shifted
shifted_small Sll x n l = omega arith
shifted_small Sla x n l = omega arith
shifted_small Srl x n l = let b : x / 2 ^ (n % 32) ≤ x = shr_le x (n % 32) in omega arith
shifted_small Sra x n l = copied_small x 0 l (n % 32)

computed_small : (a : Arithmetic) (d x y : ℕ) → x < 2 ^ 32 → y < 2 ^ 32 → Small (computed a d x y)
computed_small Addo d x y l h = plus_small x y
computed_small Add d x y l h = plus_small x y
computed_small Subo d x y l h = minus_small x y
computed_small Sub d x y l h = minus_small x y
computed_small And d x y l h = let b = and_le_l x y in omega arith
computed_small Or d x y l h = or_lt 32 x y l h
computed_small Xor d x y l h = xor_lt 32 x y l h

-- The immediate of an instruction that was read is that of the word
signed_small : (x : ℕ) → x < 2 ^ 16 → sext (signed (2 ^ 15) x) < 2 ^ 32
signed_small x h = by (ltb x (2 ^ 15)) refl
  where
    by : (t : Bool) → ltb x (2 ^ 15) ≡ t → sext (signed (2 ^ 15) x) < 2 ^ 32
    by true e = let l : x < 2 ^ 15 = ltb-true x (2 ^ 15) e in sext_small (signed (2 ^ 15) x) x (signed_low (2 ^ 15) x l) (omega arith)
    by false e = let l : 2 ^ 15 ≤ x = ltb-false x (2 ^ 15) e in rw (signed_high (2 ^ 15) x (2 ^ 16 - suc x) l (omega arith)) (sext_negative (2 ^ 16 - suc x))

immediate_small : (w : ℕ) → sext (immediate16 w) < 2 ^ 32
unfolding immediate16
immediate_small w = signed_small (w % 2 ^ 16) (omega arith)

high_small : (x : ℕ) → high x < 2 ^ 32
unfolding high
high_small x = omega arith

-- By the instruction, with the word's fields
filled_small : (i : Instruction) (w pc : ℕ) (g p : List ℕ) → Words g → Words p → Small (meaning (filled i w) pc g p).0
unfolding meaning
filled_small (ShiftImmediate s rd r1 sa) w pc g p l h = shifted_small s _ _ (register_small g _ l)
filled_small (ShiftRegister s rd r1 r2) w pc g p l h = shifted_small s _ _ (register_small g _ l)
filled_small (Movs2i rd sa) w pc g p l h = register_small p _ h
filled_small (Movi2s sa r1) w pc g p l h = register_small g _ l
filled_small (ArithmeticRegister a rd r1 r2) w pc g p l h = computed_small a _ _ _ (register_small g _ l) (register_small g _ l)
filled_small (Lhg rd r1) w pc g p l h = high_small _
filled_small (Clr rd) w pc g p l h = omega arith
filled_small (CompareRegister k rd r1 r2) w pc g p l h = compared_small k _ _
filled_small (Set rd) w pc g p l h = omega arith
filled_small (J imm) w pc g p l h = tt
filled_small (Jal imm) w pc g p l h = plus_small pc 4
filled_small (Trap imm) w pc g p l h = tt
filled_small Rfe w pc g p l h = tt
filled_small (Beqz r1 imm) w pc g p l h = tt
filled_small (Bnez r1 imm) w pc g p l h = tt
filled_small (ArithmeticImmediate a rd r1 imm) w pc g p l h = computed_small a _ _ _ (register_small g _ l) (immediate_small w)
filled_small (Lhgi rd imm) w pc g p l h = omega arith
filled_small (Jr r1) w pc g p l h = tt
filled_small (Jalr r1) w pc g p l h = plus_small pc 4
filled_small (Clri rd) w pc g p l h = omega arith
filled_small (CompareImmediate k rd r1 imm) w pc g p l h = compared_small k _ _
filled_small (Seti rd) w pc g p l h = omega arith
filled_small (Load k rd r1 imm) w pc g p l h = tt
filled_small (Store k r1 imm rd) w pc g p l h = register_small g _ l

-- What a word does is small
pub act_small : (w : ℕ) (s : State) → Words s.gpr → Words s.spr → Small (act w s).0
act_small w s l h = by (word_reads w)
  where
    by : ((i : Instruction) × (reading w ≡ (0, some i))) ⊎ (reading w ≡ (23, none)) → Small (act w s).0
    by (inl r) = rw (act_reads w s r.0 r.1, ← (read_filled w r.0 r.1)) (filled_small r.0 w s.pc s.gpr s.spr l h)
    by (inr e) = rw (act_illegal w s e) tt

-- So registers that hold words go on holding words, where a load finds one
set_words : (xs : List ℕ) (n x : ℕ) → x < 2 ^ 32 → Words xs → Words (set xs n x)
set_words xs n x l w i = grind (arith, w i, get_or-set_other {A = ℕ}, get_or-set_same {A = ℕ}, set_out {A = ℕ})

put_words : (g : List ℕ) (n x : ℕ) → x < 2 ^ 32 → Words g → Words (put g n x)
unfolding put
put_words g n x l w i = grind (arith, nat_tests, w i, set_words g (n % 32) x l w i)

special_words : (p : List ℕ) (n x : ℕ) → x < 2 ^ 32 → Words p → Words (put_special p n x)
unfolding put_special
special_words p n x l w i = grind (arith, nat_tests, w i, set_words p n x l w i)

pub applied_words : (e : Effect) (v pc : ℕ) (g p : List ℕ) → Small e → v < 2 ^ 32 → Words g → Words p
    → Words (applied e v pc g p).1 × Words (applied e v pc g p).2
unfolding applied
applied_words (does.Put n x) v pc g p s l wg wp = (put_words g n x s wg, wp)
applied_words (does.PutSpecial n x) v pc g p s l wg wp = (wg, special_words p n x s wp)
applied_words (does.Sum n x o) v pc g p s l wg wp = (put_words g n x s wg, wp)
applied_words (does.Load k n a) v pc g p s l wg wp = (put_words g n v l wg, wp)
applied_words (does.Store k a x) v pc g p s l wg wp = (wg, wp)
applied_words (does.Trap z) v pc g p s l wg wp = (wg, wp)
applied_words does.Return v pc g p s l wg wp = (wg, set_words p SR (register p ESR) (register_small p ESR wp) wp)
applied_words does.Nothing v pc g p s l wg wp = (wg, wp)

pub moved_words : (w v : ℕ) (s : State) → v < 2 ^ 32 → Words s.gpr → Words s.spr → Words (moved w v s).gpr × Words (moved w v s).spr
unfolding moved
moved_words w v s l wg wp = applied_words (act w s).0 v s.pc s.gpr s.spr (act_small w s wg wp) l wg wp
