-- Document 02, request Six: what a word touches. A row for each instruction and a column for each question, to be ticked off beside the syntax of tables 1.2 to 1.4.
use Rattle.std.specs.Prelude.{ℕ, List, [], ◌∷◌, eqb}
use Rattle.std.specs.Prelude as rust
use Rattle.std.proofs.Math.Option.{Option, none, some}
use Rattle.words.specs.Fields.{pick}
use Rattle.words.specs.Words.{reading}
use Rattle.words.specs.declared.Instruction.{Instruction}
use Rattle.words.specs.declared.Instruction.TheVariants.{ShiftImmediate, ShiftRegister, Movs2i, Movi2s, ArithmeticRegister, Lhg, Clr, CompareRegister, Set, J, Jal, Trap, Rfe, Beqz, Bnez, ArithmeticImmediate, Lhgi, Jr, Jalr, Clri, CompareImmediate, Seti, Load, Store}
use Rattle.words.specs.declared.Reads.{Reads}
use Rattle.words.specs.declared.Reads.TheVariants as general
use Rattle.words.specs.declared.Special.{Special}
use Rattle.words.specs.declared.Special.TheVariants.{None, Read, Written, Return}
use Rattle.words.specs.declared.Touches.{Touches}

-- ---- The table

-- The general registers read, in order; the general register written, if any; the special register read or written, or rfe
abbrev pub Touch : Type 0
Touch = List ℕ × Option ℕ × Special

-- RD as the register written: none where it is R0
abbrev pub to : ℕ → Option ℕ
to rd = pick (eqb rd 0) none (some rd)

-- The register that jal and jalr write
abbrev pub LINK : ℕ
LINK = 31

abbrev pub touches : Instruction → Touch
touches (ShiftImmediate s rd rs1 sa) = (rs1 ∷ [], to rd, None)
touches (ShiftRegister s rd rs1 rs2) = (rs1 ∷ rs2 ∷ [], to rd, None)
touches (Movs2i rd sa) = ([], to rd, Read sa)
touches (Movi2s sa rs1) = (rs1 ∷ [], none, Written sa)
touches (ArithmeticRegister a rd rs1 rs2) = (rs1 ∷ rs2 ∷ [], to rd, None)
touches (Lhg rd rs1) = (rs1 ∷ [], to rd, None)
touches (Clr rd) = ([], to rd, None)
touches (CompareRegister k rd rs1 rs2) = (rs1 ∷ rs2 ∷ [], to rd, None)
touches (Set rd) = ([], to rd, None)
touches (J imm) = ([], none, None)
touches (Jal imm) = ([], some LINK, None)
touches (Trap imm) = ([], none, None)
touches Rfe = ([], none, Return)
touches (Beqz rs1 imm) = (rs1 ∷ [], none, None)
touches (Bnez rs1 imm) = (rs1 ∷ [], none, None)
touches (ArithmeticImmediate a rd rs1 imm) = (rs1 ∷ [], to rd, None)
touches (Lhgi rd imm) = ([], to rd, None)
touches (Jr rs1) = (rs1 ∷ [], none, None)
touches (Jalr rs1) = (rs1 ∷ [], some LINK, None)
touches (Clri rd) = ([], to rd, None)
touches (CompareImmediate k rd rs1 imm) = (rs1 ∷ [], to rd, None)
touches (Seti rd) = ([], to rd, None)
touches (Load k rd rs1 imm) = (rs1 ∷ [], to rd, None)
touches (Store k rs1 imm rd) = (rs1 ∷ rd ∷ [], none, None)

-- ---- The questions, of a word. An illegal word touches nothing

unfoldable pub touched : ℕ → Touch
touched w = elim (reading w).1 [ some i ↦ touches i | none ↦ ([], none, None) ]

-- The general registers that it reads: RS1, then RS2 or a store's RD, R0 and repeats included
abbrev pub reads : ℕ → List ℕ
reads w = (touched w).0

-- The general register that it writes: RD, R31 for jal and jalr, none for R0
abbrev pub writes : ℕ → Option ℕ
writes w = (touched w).1

-- By its number, 0 for none: R0 is never written
abbrev pub number_of : Option ℕ → ℕ
number_of none = 0
number_of (some n) = n

-- The special register that it reads (movs2i) or writes (movi2s), by the number in SA; rfe has a kind of its own
abbrev pub special : ℕ → Special
special w = (touched w).2

-- ---- The values of each answer

abbrev pub reads_of : Reads → List ℕ
reads_of general.None = []
reads_of (general.One a) = a ∷ []
reads_of (general.Two a b) = a ∷ b ∷ []

abbrev pub writes_of : rust.Option ℕ → Option ℕ
writes_of rust.None = none
writes_of (rust.Some n) = some n

abbrev pub touches_of_lem : Touches → Touch
touches_of_lem t = (reads_of t.reads, writes_of t.writes, t.special)
