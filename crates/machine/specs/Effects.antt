-- Document 01, "What an instruction does", over tables 1.2 to 1.4: the effect of each instruction and its next PC', and what an effect leaves in the registers.
use Rattle.std.specs.Prelude.{ℕ, ◌*◌, ◌%◌, ◌^◌, Bool, false, not, ◌&&◌, ◌||◌, List, [], ◌∷◌, ◌+ℤ◌, ◌-ℤ◌, ◌==◌, bit_and, bit_or, bit_xor, slice_index, slice_set}
use Rattle.std.proofs.Math.Option.{Option, none, some}
use Rattle.words.specs.Fields.{pick}
use Rattle.words.specs.Words.{reading}
use Rattle.words.specs.declared.Instruction.{Instruction}
use Rattle.words.specs.declared.Instruction.TheVariants.{ShiftImmediate, ShiftRegister, Movs2i, Movi2s, ArithmeticRegister, Lhg, Clr, CompareRegister, Set, J, Jal, Trap, Rfe, Beqz, Bnez, ArithmeticImmediate, Lhgi, Jr, Jalr, Clri, CompareImmediate, Seti, Load, Store}
use Rattle.words.specs.declared.Arithmetic.{Arithmetic}
use Rattle.words.specs.declared.Arithmetic.TheVariants.{Addo, Add, Subo, Sub, And, Or, Xor}
use Rattle.words.specs.declared.LoadKind.{LoadKind}
use Rattle.words.specs.declared.LoadKind.TheVariants.{Lb, Lh, Lw, Lbu, Lhu}
use Rattle.words.specs.declared.StoreKind.{StoreKind}
use Rattle.words.specs.declared.StoreKind.TheVariants.{Sb, Sh, Sw}
use Rattle.arithmetic.specs.Rulings.{plus, minus, integer, sext, high, shifted, compared, beyond}
use Rattle.machine.specs.declared.Effect.{Effect}
use Rattle.machine.specs.declared.Effect.TheVariants as does
use Rattle.machine.specs.declared.State.{State as Declared}

-- ---- The registers

-- A register's number is a field of five bits
unfoldable pub register : List ℕ → ℕ → ℕ
register g n = slice_index g (n % 32)

-- R0 is always 0; a write to it is dropped
unfoldable pub put : List ℕ → ℕ → ℕ → List ℕ
put g n v = pick (n % 32 == 0) g (slice_set g (n % 32) v)

-- The thirteen special registers
abbrev pub SR : ℕ
SR = 0

abbrev pub ESR : ℕ
ESR = 1

abbrev pub ECA : ℕ
ECA = 2

abbrev pub EPC : ℕ
EPC = 3

abbrev pub EDPC : ℕ
EDPC = 4

abbrev pub EData : ℕ
EData = 5

abbrev pub RM : ℕ
RM = 6

abbrev pub IEEEf : ℕ
IEEEf = 7

abbrev pub FCC : ℕ
FCC = 8

abbrev pub PTO : ℕ
PTO = 9

abbrev pub PTL : ℕ
PTL = 10

abbrev pub EMODE : ℕ
EMODE = 11

abbrev pub MODE : ℕ
MODE = 16

abbrev pub thirteen : List ℕ
thirteen = SR ∷ ESR ∷ ECA ∷ EPC ∷ EDPC ∷ EData ∷ RM ∷ IEEEf ∷ FCC ∷ PTO ∷ PTL ∷ EMODE ∷ MODE ∷ []

-- Whether a number is one of a list
abbrev pub one_of : ℕ → List ℕ → Bool
one_of n [] = false
one_of n (k ∷ ks) = n == k || one_of n ks

-- The others drop writes, and so read zero (refusal 11 sees to it that they start so)
unfoldable pub put_special : List ℕ → ℕ → ℕ → List ℕ
put_special p n v = pick (one_of n thirteen) (slice_set p n v) p

-- ---- The effects

-- Sums and differences; those whose name ends in o tell whether the signed result lay beyond the words
abbrev pub computed : Arithmetic → ℕ → ℕ → ℕ → Effect
computed Addo d a b = does.Sum d (plus a b) (beyond (integer a +ℤ integer b))
computed Add d a b = does.Put d (plus a b)
computed Subo d a b = does.Sum d (minus a b) (beyond (integer a -ℤ integer b))
computed Sub d a b = does.Put d (minus a b)
computed And d a b = does.Put d (bit_and a b)
computed Or d a b = does.Put d (bit_or a b)
computed Xor d a b = does.Put d (bit_xor a b)

-- The link register of jal and jalr
abbrev pub LINK : ℕ
LINK = 31

-- The effect of each instruction and the next PC', by the old PC' pc, the general registers g and the special registers p
unfoldable pub meaning : Instruction → ℕ → List ℕ → List ℕ → Effect × ℕ
meaning (ShiftImmediate s rd rs1 sa) pc g p = (does.Put rd (shifted s (register g rs1) sa), plus pc 4)
meaning (ShiftRegister s rd rs1 rs2) pc g p = (does.Put rd (shifted s (register g rs1) (register g rs2)), plus pc 4)
meaning (Movs2i rd sa) pc g p = (does.Put rd (register p sa), plus pc 4)
meaning (Movi2s sa rs1) pc g p = (does.PutSpecial sa (register g rs1), plus pc 4)
meaning (ArithmeticRegister a rd rs1 rs2) pc g p = (computed a rd (register g rs1) (register g rs2), plus pc 4)
meaning (Lhg rd rs1) pc g p = (does.Put rd (high (register g rs1)), plus pc 4)
meaning (Clr rd) pc g p = (does.Put rd 0, plus pc 4)
meaning (CompareRegister k rd rs1 rs2) pc g p = (does.Put rd (compared k (register g rs1) (register g rs2)), plus pc 4)
meaning (Set rd) pc g p = (does.Put rd 1, plus pc 4)
meaning (J imm) pc g p = (does.Nothing, plus pc (sext imm))
meaning (Jal imm) pc g p = (does.Put LINK (plus pc 4), plus pc (sext imm))
meaning (Trap imm) pc g p = (does.Trap imm, plus pc 4)
meaning Rfe pc g p = (does.Return, register p EPC)
meaning (Beqz rs1 imm) pc g p = (does.Nothing, plus pc (pick (register g rs1 == 0) (sext imm) 4))
meaning (Bnez rs1 imm) pc g p = (does.Nothing, plus pc (pick (not (register g rs1 == 0)) (sext imm) 4))
meaning (ArithmeticImmediate a rd rs1 imm) pc g p = (computed a rd (register g rs1) (sext imm), plus pc 4)
meaning (Lhgi rd imm) pc g p = (does.Put rd (sext imm * 65536 % 2 ^ 32), plus pc 4)
meaning (Jr rs1) pc g p = (does.Nothing, register g rs1)
meaning (Jalr rs1) pc g p = (does.Put LINK (plus pc 4), register g rs1)
meaning (Clri rd) pc g p = (does.Put rd 0, plus pc 4)
meaning (CompareImmediate k rd rs1 imm) pc g p = (does.Put rd (compared k (register g rs1) (sext imm)), plus pc 4)
meaning (Seti rd) pc g p = (does.Put rd 1, plus pc 4)
meaning (Load k rd rs1 imm) pc g p = (does.Load k rd (plus (register g rs1) (sext imm)), plus pc 4)
meaning (Store k rs1 imm rd) pc g p = (does.Store k (plus (register g rs1) (sext imm)) (register g rd), plus pc 4)

-- ---- What an effect leaves in DPC, the general and the special registers, where v is what a load found. DPC takes the old PC'

unfoldable pub applied : Effect → ℕ → ℕ → List ℕ → List ℕ → ℕ × List ℕ × List ℕ
applied (does.Put n x) v pc g p = (pc, put g n x, p)
applied (does.PutSpecial n x) v pc g p = (pc, g, put_special p n x)
applied (does.Sum n x o) v pc g p = (pc, put g n x, p)
applied (does.Load k n a) v pc g p = (pc, put g n v, p)
applied (does.Store k a x) v pc g p = (pc, g, p)
applied (does.Trap z) v pc g p = (pc, g, p)
-- rfe: SR takes ESR, PC' (by its meaning) EPC, DPC EDPC
applied does.Return v pc g p = (register p EDPC, g, slice_set p SR (register p ESR))
applied does.Nothing v pc g p = (pc, g, p)

-- ---- A step's share that both machines have

-- The counters and the registers of a machine
abbrev pub State : Type 0
State = Declared

-- What the word w does: its effect and the next PC'. (An illegal word does nothing, and no step runs one.)
unfoldable pub act : ℕ → State → Effect × ℕ
act w s = elim (reading w).1 [ some i ↦ meaning i s.pc s.gpr s.spr | none ↦ (does.Nothing, plus s.pc 4) ]

-- The state after an effect, where v is what a load found and n the next PC'
abbrev pub performed : Effect → ℕ → ℕ → State → State
performed e v n s =
    let a = applied e v s.pc s.gpr s.spr in
    record { dpc = a.0; pc = n; gpr = a.1; spr = a.2 }

-- The state after the word w
unfoldable pub moved : ℕ → ℕ → State → State
moved w v s =
    let e = act w s in
    performed e.0 v e.1 s

-- The sizes of loads and stores, in bytes
abbrev pub load_size : LoadKind → ℕ
load_size Lb = 1
load_size Lh = 2
load_size Lw = 4
load_size Lbu = 1
load_size Lhu = 2

abbrev pub store_size : StoreKind → ℕ
store_size Sb = 1
store_size Sh = 2
store_size Sw = 4

-- ---- Questions about a word and its effect

-- The word is illegal
unfoldable pub illegal : ℕ → Bool
illegal w = (reading w).0 == 23

-- Size and effective address of a load or store
unfoldable pub access : Effect → Option (ℕ × ℕ)
access (does.Put n x) = none
access (does.PutSpecial n x) = none
access (does.Sum n x o) = none
access (does.Load k n a) = some (load_size k, a)
access (does.Store k a x) = some (store_size k, a)
access (does.Trap z) = none
access does.Return = none
access does.Nothing = none

-- An address that is not a multiple of a size
abbrev pub unaligned : ℕ → ℕ → Bool
unaligned size a = not (a % size == 0)

-- A load or store with ea not a multiple of its size
unfoldable pub askew : Effect → Bool
askew e = elim (access e) [ some p ↦ unaligned p.0 p.1 | none ↦ false ]

-- movi2s to MODE of a value other than 0
unfoldable pub mode_set : Effect → Bool
mode_set (does.Put n x) = false
mode_set (does.PutSpecial n x) = n == MODE && not (x == 0)
mode_set (does.Sum n x o) = false
mode_set (does.Load k n a) = false
mode_set (does.Store k a x) = false
mode_set (does.Trap z) = false
mode_set does.Return = false
mode_set does.Nothing = false
