-- Reading goes by the number: the number of an instruction leads to that instruction with the word's fields.
use Prim.Native.Nat.{ℕ, ◌+◌}
use native.Mathlib.Omega.{arith}
use mathlib.Core.Path.{◌≡◌, refl, ap₂, subst, ◌∙◌}
use mathlib.Core.Bool.{Bool, true, false, not, ◌&&◌}
use mathlib.Core.Option.{some}
use lib.Dec.{T}
use Rattle.words.specs.Fields.{opcode, function, rs1, second, third, amount, immediate16, immediate26}
use Rattle.words.specs.declared.Shift.{Shift}
use Rattle.words.specs.declared.Shift.TheVariants.{Sll, Sla, Srl, Sra}
use Rattle.words.specs.declared.Arithmetic.{Arithmetic}
use Rattle.words.specs.declared.Arithmetic.TheVariants.{Addo, Add, Subo, Sub, And, Or, Xor}
use Rattle.words.specs.declared.Comparison.{Comparison}
use Rattle.words.specs.declared.Comparison.TheVariants.{Sgr, Seq, Sge, Sls, Sne, Sle}
use Rattle.words.specs.declared.LoadKind.TheVariants.{Lb, Lh, Lw, Lbu, Lhu}
use Rattle.words.specs.declared.StoreKind.TheVariants.{Sb, Sh, Sw}
use Rattle.words.specs.Words.{shift_immediate_no, shift_register_no, arithmetic_immediate_no, arithmetic_register_no, compare_immediate_no, compare_register_no, Form, form_r, form_i, form_j, form, instructions, reading, among}
use Rattle.words.specs.declared.Instruction.{Instruction}
use Rattle.words.specs.declared.Instruction.TheVariants.{ShiftImmediate, ShiftRegister, Movs2i, Movi2s, ArithmeticRegister, Lhg, Clr, CompareRegister, Set, J, Jal, Trap, Rfe, Beqz, Bnez, ArithmeticImmediate, Lhgi, Jr, Jalr, Clri, CompareImmediate, Seti, Load, Store}

-- The same instruction with the fields of w
abbrev pub filled : Instruction → ℕ → Instruction
filled (ShiftImmediate s rd r1 sa) w = ShiftImmediate s (third w) (rs1 w) (amount w)
filled (ShiftRegister s rd r1 r2) w = ShiftRegister s (third w) (rs1 w) (second w)
filled (Movs2i rd sa) w = Movs2i (third w) (amount w)
filled (Movi2s sa r1) w = Movi2s (amount w) (rs1 w)
filled (ArithmeticRegister a rd r1 r2) w = ArithmeticRegister a (third w) (rs1 w) (second w)
filled (Lhg rd r1) w = Lhg (third w) (rs1 w)
filled (Clr rd) w = Clr (third w)
filled (CompareRegister k rd r1 r2) w = CompareRegister k (third w) (rs1 w) (second w)
filled (Set rd) w = Set (third w)
filled (J imm) w = J (immediate26 w)
filled (Jal imm) w = Jal (immediate26 w)
filled (Trap imm) w = Trap (immediate26 w)
filled Rfe w = Rfe
filled (Beqz r1 imm) w = Beqz (rs1 w) (immediate16 w)
filled (Bnez r1 imm) w = Bnez (rs1 w) (immediate16 w)
filled (ArithmeticImmediate a rd r1 imm) w = ArithmeticImmediate a (second w) (rs1 w) (immediate16 w)
filled (Lhgi rd imm) w = Lhgi (second w) (immediate16 w)
filled (Jr r1) w = Jr (rs1 w)
filled (Jalr r1) w = Jalr (rs1 w)
filled (Clri rd) w = Clri (second w)
filled (CompareImmediate k rd r1 imm) w = CompareImmediate k (second w) (rs1 w) (immediate16 w)
filled (Seti rd) w = Seti (second w)
filled (Load k rd r1 imm) w = Load k (second w) (rs1 w) (immediate16 w)
filled (Store k r1 imm rd) w = Store k (rs1 w) (immediate16 w) (second w)

-- opcode and function of a word with the number of a form: f is the word's own where the format has no function
abbrev pub op : Form → ℕ
op (form_r a b d s n) = 0x00
op (form_i n a d m) = n
op (form_j n m) = n

abbrev pub fn : Form → ℕ → ℕ
fn (form_r a b d s n) f = n
fn (form_i n a d m) f = f
fn (form_j n m) f = f

-- At its number the choice comes to the instruction, whatever the fields
abbrev Chosen : Instruction → ℕ → ℕ → Type 0
Chosen i w f = among (op (form i)) (fn (form i) f) (instructions w) ≡ (0, some (filled i w))

chosen : (i : Instruction) (w f : ℕ) → Chosen i w f
chosen (ShiftImmediate s rd r1 sa) w f = elim s as (λ s. Chosen (ShiftImmediate s rd r1 sa) w f) [ Sll ↦ refl | Sla ↦ refl | Srl ↦ refl | Sra ↦ refl ]
chosen (ShiftRegister s rd r1 r2) w f = elim s as (λ s. Chosen (ShiftRegister s rd r1 r2) w f) [ Sll ↦ refl | Sla ↦ refl | Srl ↦ refl | Sra ↦ refl ]
chosen (ArithmeticRegister a rd r1 r2) w f = elim a as (λ a. Chosen (ArithmeticRegister a rd r1 r2) w f) [ Addo ↦ refl | Add ↦ refl | Subo ↦ refl | Sub ↦ refl | And ↦ refl | Or ↦ refl | Xor ↦ refl ]
chosen (CompareRegister k rd r1 r2) w f = elim k as (λ k. Chosen (CompareRegister k rd r1 r2) w f) [ Sgr ↦ refl | Seq ↦ refl | Sge ↦ refl | Sls ↦ refl | Sne ↦ refl | Sle ↦ refl ]
chosen (ArithmeticImmediate a rd r1 imm) w f = elim a as (λ a. Chosen (ArithmeticImmediate a rd r1 imm) w f) [ Addo ↦ refl | Add ↦ refl | Subo ↦ refl | Sub ↦ refl | And ↦ refl | Or ↦ refl | Xor ↦ refl ]
chosen (CompareImmediate k rd r1 imm) w f = elim k as (λ k. Chosen (CompareImmediate k rd r1 imm) w f) [ Sgr ↦ refl | Seq ↦ refl | Sge ↦ refl | Sls ↦ refl | Sne ↦ refl | Sle ↦ refl ]
chosen (Load k rd r1 imm) w f = elim k as (λ k. Chosen (Load k rd r1 imm) w f) [ Lb ↦ refl | Lh ↦ refl | Lw ↦ refl | Lbu ↦ refl | Lhu ↦ refl ]
chosen (Store k r1 imm rd) w f = elim k as (λ k. Chosen (Store k r1 imm rd) w f) [ Sb ↦ refl | Sh ↦ refl | Sw ↦ refl ]
chosen i w f = refl

-- A word with the number of an instruction reads as that instruction with the word's fields
pub leads : (i : Instruction) (w : ℕ) → opcode w ≡ op (form i) → function w ≡ fn (form i) (function w) → reading w ≡ (0, some (filled i w))
unfolding reading
leads i w eo ef = ap₂ (λ (o f : ℕ). among o f (instructions w)) eo ef ∙ chosen i w (function w)

-- The register and the immediate forms of a group have the same order
pub shift_offset : (s : Shift) → shift_register_no s ≡ shift_immediate_no s + 4
shift_offset s = grind arith

pub arithmetic_offset : (a : Arithmetic) → arithmetic_register_no a ≡ arithmetic_immediate_no a + 0x18
arithmetic_offset a = grind arith

pub compare_offset : (k : Comparison) → compare_register_no k ≡ compare_immediate_no k + 0x10
compare_offset k = grind arith

-- Both halves of a test
pub both : (a b : Bool) → a && b ≡ true → (a ≡ true) × (b ≡ true)
both true b e = (refl, e)
both false b e = absurd (subst (λ (t : Bool). T (not t)) e tt)
