-- Document 01, "Words": the 58 legal words. One table gives each instruction its format, its number and its fields;
-- reading and making are both defined from it.
use Rattle.std.specs.Prelude.{ℕ, ◌+◌, ◌*◌, ◌-◌, ◌%◌, ◌^◌, Bool, true, ◌&&◌, List, [], ◌∷◌, ◌++◌, map, ltb, eqb, ℤ, pos, negsuc, neg_ℤ}
use Rattle.std.specs.Prelude as rust
use Rattle.std.proofs.Math.Option.{Option, none, some}
use Rattle.std.specs.Int.Signed.{le_z}
use Rattle.words.specs.Fields.{pick, opcode, function, rs1, second, third, amount, immediate16, immediate26}
use Rattle.words.specs.declared.Instruction.{Instruction}
use Rattle.words.specs.declared.Instruction.TheVariants.{ShiftImmediate, ShiftRegister, Movs2i, Movi2s, ArithmeticRegister, Lhg, Clr, CompareRegister, Set, J, Jal, Trap, Rfe, Beqz, Bnez, ArithmeticImmediate, Lhgi, Jr, Jalr, Clri, CompareImmediate, Seti, Load, Store}
use Rattle.words.specs.declared.Shift.{Shift}
use Rattle.words.specs.declared.Shift.TheVariants.{Sll, Sla, Srl, Sra}
use Rattle.words.specs.declared.Arithmetic.{Arithmetic}
use Rattle.words.specs.declared.Arithmetic.TheVariants.{Addo, Add, Subo, Sub, And, Or, Xor}
use Rattle.words.specs.declared.Comparison.{Comparison}
use Rattle.words.specs.declared.Comparison.TheVariants.{Sgr, Seq, Sge, Sls, Sne, Sle}
use Rattle.words.specs.declared.LoadKind.{LoadKind}
use Rattle.words.specs.declared.LoadKind.TheVariants.{Lb, Lh, Lw, Lbu, Lhu}
use Rattle.words.specs.declared.StoreKind.{StoreKind}
use Rattle.words.specs.declared.StoreKind.TheVariants.{Sb, Sh, Sw}

-- ---- The numbers, in hex, in the document's order

-- R, opcode 00, functions: slli, slai, srli, srai
abbrev pub shift_immediate_no : Shift → ℕ
shift_immediate_no Sll = 0x00
shift_immediate_no Sla = 0x01
shift_immediate_no Srl = 0x02
shift_immediate_no Sra = 0x03

-- R: sll, sla, srl, sra
abbrev pub shift_register_no : Shift → ℕ
shift_register_no Sll = 0x04
shift_register_no Sla = 0x05
shift_register_no Srl = 0x06
shift_register_no Sra = 0x07

-- R: addo, add, subo, sub, and, or, xor
abbrev pub arithmetic_register_no : Arithmetic → ℕ
arithmetic_register_no Addo = 0x20
arithmetic_register_no Add = 0x21
arithmetic_register_no Subo = 0x22
arithmetic_register_no Sub = 0x23
arithmetic_register_no And = 0x24
arithmetic_register_no Or = 0x25
arithmetic_register_no Xor = 0x26

-- R: sgr, seq, sge, sls, sne, sle
abbrev pub compare_register_no : Comparison → ℕ
compare_register_no Sgr = 0x29
compare_register_no Seq = 0x2A
compare_register_no Sge = 0x2B
compare_register_no Sls = 0x2C
compare_register_no Sne = 0x2D
compare_register_no Sle = 0x2E

-- I: addio, addi, subio, subi, andi, ori, xori
abbrev pub arithmetic_immediate_no : Arithmetic → ℕ
arithmetic_immediate_no Addo = 0x08
arithmetic_immediate_no Add = 0x09
arithmetic_immediate_no Subo = 0x0A
arithmetic_immediate_no Sub = 0x0B
arithmetic_immediate_no And = 0x0C
arithmetic_immediate_no Or = 0x0D
arithmetic_immediate_no Xor = 0x0E

-- I: sgri, seqi, sgei, slsi, snei, slei
abbrev pub compare_immediate_no : Comparison → ℕ
compare_immediate_no Sgr = 0x19
compare_immediate_no Seq = 0x1A
compare_immediate_no Sge = 0x1B
compare_immediate_no Sls = 0x1C
compare_immediate_no Sne = 0x1D
compare_immediate_no Sle = 0x1E

-- I: lb, lh, lw, lbu, lhu
abbrev pub load_no : LoadKind → ℕ
load_no Lb = 0x20
load_no Lh = 0x21
load_no Lw = 0x23
load_no Lbu = 0x24
load_no Lhu = 0x25

-- I: sb, sh, sw
abbrev pub store_no : StoreKind → ℕ
store_no Sb = 0x28
store_no Sh = 0x29
store_no Sw = 0x2B

-- ---- The table

-- A field of a word, as an instruction's syntax in tables 1.2 to 1.4 has it: used, with its value, or not
pub data Field (A : Type 0) : Type 0 where
  used : A → Field A
  unused : Field A

-- A word by its format, with its number and its fields in the order of their bits
pub data Form : Type 0 where
  -- opcode 00; RS1, RS2, RD, SA, function
  form_r : Field ℕ → Field ℕ → Field ℕ → Field ℕ → ℕ → Form
  -- opcode, RS1, RD, imm
  form_i : ℕ → Field ℕ → Field ℕ → Field ℤ → Form
  -- opcode, imm
  form_j : ℕ → Field ℤ → Form

-- Format, number and fields of each instruction
abbrev pub form : Instruction → Form
form (ShiftImmediate s rd rs1 sa) = form_r (used rs1) unused (used rd) (used sa) (shift_immediate_no s)
form (ShiftRegister s rd rs1 rs2) = form_r (used rs1) (used rs2) (used rd) unused (shift_register_no s)
form (Movs2i rd sa) = form_r unused unused (used rd) (used sa) 0x10
form (Movi2s sa rs1) = form_r (used rs1) unused unused (used sa) 0x11
form (ArithmeticRegister a rd rs1 rs2) = form_r (used rs1) (used rs2) (used rd) unused (arithmetic_register_no a)
form (Lhg rd rs1) = form_r (used rs1) unused (used rd) unused 0x27
form (Clr rd) = form_r unused unused (used rd) unused 0x28
form (CompareRegister k rd rs1 rs2) = form_r (used rs1) (used rs2) (used rd) unused (compare_register_no k)
form (Set rd) = form_r unused unused (used rd) unused 0x2F
form (J imm) = form_j 0x02 (used imm)
form (Jal imm) = form_j 0x03 (used imm)
form (Trap imm) = form_j 0x3E (used imm)
form Rfe = form_j 0x3F unused
form (Beqz rs1 imm) = form_i 0x04 (used rs1) unused (used imm)
form (Bnez rs1 imm) = form_i 0x05 (used rs1) unused (used imm)
form (ArithmeticImmediate a rd rs1 imm) = form_i (arithmetic_immediate_no a) (used rs1) (used rd) (used imm)
form (Lhgi rd imm) = form_i 0x0F unused (used rd) (used imm)
form (Jr rs1) = form_i 0x16 (used rs1) unused unused
form (Jalr rs1) = form_i 0x17 (used rs1) unused unused
form (Clri rd) = form_i 0x18 unused (used rd) unused
form (CompareImmediate k rd rs1 imm) = form_i (compare_immediate_no k) (used rs1) (used rd) (used imm)
form (Seti rd) = form_i 0x1F unused (used rd) unused
form (Load k rd rs1 imm) = form_i (load_no k) (used rs1) (used rd) (used imm)
form (Store k rs1 imm rd) = form_i (store_no k) (used rs1) (used rd) (used imm)

-- ---- Reading

abbrev pub shifts : List Shift
shifts = Sll ∷ Sla ∷ Srl ∷ Sra ∷ []

abbrev pub arithmetics : List Arithmetic
arithmetics = Addo ∷ Add ∷ Subo ∷ Sub ∷ And ∷ Or ∷ Xor ∷ []

abbrev pub comparisons : List Comparison
comparisons = Sgr ∷ Seq ∷ Sge ∷ Sls ∷ Sne ∷ Sle ∷ []

abbrev pub loads : List LoadKind
loads = Lb ∷ Lh ∷ Lw ∷ Lbu ∷ Lhu ∷ []

abbrev pub stores : List StoreKind
stores = Sb ∷ Sh ∷ Sw ∷ []

-- The 58 instructions, each with the fields of the word w that it uses
abbrev pub instructions : ℕ → List Instruction
instructions w =
    map (λ s. ShiftImmediate s (third w) (rs1 w) (amount w)) shifts ++
    map (λ s. ShiftRegister s (third w) (rs1 w) (second w)) shifts ++
    Movs2i (third w) (amount w) ∷
    Movi2s (amount w) (rs1 w) ∷
    map (λ a. ArithmeticRegister a (third w) (rs1 w) (second w)) arithmetics ++
    Lhg (third w) (rs1 w) ∷
    Clr (third w) ∷
    map (λ k. CompareRegister k (third w) (rs1 w) (second w)) comparisons ++
    Set (third w) ∷
    J (immediate26 w) ∷
    Jal (immediate26 w) ∷
    Trap (immediate26 w) ∷
    Rfe ∷
    Beqz (rs1 w) (immediate16 w) ∷
    Bnez (rs1 w) (immediate16 w) ∷
    map (λ a. ArithmeticImmediate a (second w) (rs1 w) (immediate16 w)) arithmetics ++
    Lhgi (second w) (immediate16 w) ∷
    Jr (rs1 w) ∷
    Jalr (rs1 w) ∷
    Clri (second w) ∷
    map (λ k. CompareImmediate k (second w) (rs1 w) (immediate16 w)) comparisons ++
    Seti (second w) ∷
    map (λ k. Load k (second w) (rs1 w) (immediate16 w)) loads ++
    map (λ k. Store k (rs1 w) (immediate16 w) (second w)) stores

-- Whether opcode o and function f are the number of a form
abbrev pub numbered : ℕ → ℕ → Form → Bool
numbered o f (form_r a b d s n) = eqb o 0x00 && eqb f n
numbered o f (form_i n a d m) = eqb o n
numbered o f (form_j n m) = eqb o n

-- The paper's number and values of each answer of the reader
abbrev pub reading_answer : rust.Option Instruction → ℕ × Option Instruction
reading_answer (rust.Some i) = (0, some i)
reading_answer rust.None = (23, none)

-- The one of some instructions that has the number o, f; 23 and none where no one has it
abbrev pub among : ℕ → ℕ → List Instruction → ℕ × Option Instruction
among o f [] = (23, none)
among o f (i ∷ is) = pick (numbered o f (form i)) (0, some i) (among o f is)

-- Reading a word: the instruction with its number and its fields; an illegal word answers 23 and gives none
unfoldable pub reading : ℕ → ℕ × Option Instruction
reading w = among (opcode w) (function w) (instructions w)

-- ---- Making

-- A register or SA is at most 31
abbrev pub small : Field ℕ → Bool
small (used n) = ltb n 32
small unused = true

-- An immediate is from -h to h - 1
abbrev pub ranged : ℕ → Field ℤ → Bool
ranged h (used z) = le_z (neg_ℤ (pos h)) z && le_z z (pos (h - 1))
ranged h unused = true

abbrev pub fits : Form → Bool
fits (form_r a b d s f) = small a && small b && small d && small s
fits (form_i op a d m) = small a && small d && ranged (2 ^ 15) m
fits (form_j op m) = ranged (2 ^ 25) m

-- A field as it stands in the word: zero where it is not used, an immediate modulo m
abbrev pub number : Field ℕ → ℕ
number (used n) = n
number unused = 0

abbrev pub modulus : ℕ → Field ℤ → ℕ
modulus m (used (pos n)) = n
modulus m (used (negsuc n)) = m - (n + 1)
modulus m unused = 0

-- The word of a form: opcode 31..26; R: RS1 25..21, RS2 20..16, RD 15..11, SA 10..6, function 5..0; I: RS1 25..21, RD 20..16, imm 15..0; J: imm 25..0
abbrev pub word : Form → ℕ
word (form_r a b d s f) = number a * 2 ^ 21 + number b * 2 ^ 16 + number d * 2 ^ 11 + number s * 2 ^ 6 + f
word (form_i op a d m) = op * 2 ^ 26 + number a * 2 ^ 21 + number d * 2 ^ 16 + modulus (2 ^ 16) m
word (form_j op m) = op * 2 ^ 26 + modulus (2 ^ 26) m

-- The paper's number and values of each answer of the maker
abbrev pub made_answer : rust.Option ℕ → ℕ × Option ℕ
made_answer (rust.Some w) = (0, some w)
made_answer rust.None = (14, none)

-- Laying a form out: 14 and no word for a register or SA above 31 or an immediate outside its range
unfoldable pub laid : Form → ℕ × Option ℕ
laid f = pick (fits f) (0, some (word f)) (14, none)

-- Making a word
abbrev pub making : Instruction → ℕ × Option ℕ
making i = laid (form i)

-- ---- A word with its unused fields zero

abbrev pub kept : {A : Type 0} → Field A → ℕ → ℕ
kept (used v) x = x
kept unused x = 0

-- The word w with the fields that a form does not use zeroed
abbrev pub cleared : Form → ℕ → ℕ
cleared (form_r a b d s n) w = opcode w * 2 ^ 26 + kept a (rs1 w) * 2 ^ 21 + kept b (second w) * 2 ^ 16 + kept d (third w) * 2 ^ 11 + kept s (amount w) * 2 ^ 6 + function w
cleared (form_i n a d m) w = opcode w * 2 ^ 26 + kept a (rs1 w) * 2 ^ 21 + kept d (second w) * 2 ^ 16 + kept m (w % 2 ^ 16)
cleared (form_j n m) w = opcode w * 2 ^ 26 + kept m (w % 2 ^ 26)
