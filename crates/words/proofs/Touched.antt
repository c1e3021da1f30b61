-- What a word touches, by its reading; and that it is what the syntax of tables 1.2 to 1.4 uses.
use Prim.Native.Nat.{ℕ}
use mathlib.Core.Path.{◌≡◌, refl, sym, ap, subst, ◌∙◌}
use mathlib.Core.Bool.{Bool, true, false}
use mathlib.Core.List.{List, [], ◌∷◌, ◌++◌}
use mathlib.Core.Option.{Option, none, some}
use mathlib.Core.Logic.{◌⊎◌, inl, inr}
use native.Mathlib.Omega.{arith}
use borrow.Author.Tests.{eqb-false}
use lib.Dec.{eqb}
use Rattle.words.specs.Fields.{pick}
use Rattle.words.specs.Words.{Field, used, unused, Form, form_r, form_i, form_j, form, reading}
use Rattle.words.specs.Touches.{Touch, to, LINK, touches, touched, writes}
use Rattle.words.specs.declared.Instruction.{Instruction}
use Rattle.words.specs.declared.Instruction.TheVariants.{ShiftImmediate, ShiftRegister, Movs2i, Movi2s, ArithmeticRegister, Lhg, Clr, CompareRegister, Set, J, Jal, Trap, Rfe, Beqz, Bnez, ArithmeticImmediate, Lhgi, Jr, Jalr, Clri, CompareImmediate, Seti, Load, Store}
use Rattle.words.specs.declared.Special.TheVariants.{None}

module _ (w : ℕ) where
  touched_some : (i : Instruction) → (reading w).1 ≡ some i → touched w ≡ touches i
  unfolding touched
  touched_some i e = rw (e, touched)

  touched_none : (reading w).1 ≡ none → touched w ≡ ([], none, None)
  unfolding touched
  touched_none e = rw (e, touched)

  pub touched_legal : (i : Instruction) → reading w ≡ (0, some i) → touched w ≡ touches i
  touched_legal i e = touched_some i (ap (λ (p : ℕ × Option Instruction). p.1) e)

  pub touched_illegal : reading w ≡ (23, none) → touched w ≡ ([], none, None)
  touched_illegal e = touched_none (ap (λ (p : ℕ × Option Instruction). p.1) e)

-- ---- Only what the syntax uses counts

-- The register fields that a form uses, in the order of their bits
abbrev value : Field ℕ → List ℕ
value (used n) = n ∷ []
value unused = []

abbrev registers : Form → List ℕ
registers (form_r a b d s n) = value a ++ value b ++ value d
registers (form_i n a d m) = value a ++ value d
registers (form_j n m) = []

-- The register fields that the syntax uses are those read and, behind them, at most one that is written, each once and in the order of the bits. Only jal and jalr write a register that is no field: R31
abbrev pub BySyntax : Form → List ℕ × Option ℕ → Type 0
BySyntax f t = ((rd : ℕ) × (registers f ≡ t.0 ++ rd ∷ []) × (t.1 ≡ to rd)) ⊎ ((registers f ≡ t.0) × ((t.1 ≡ none) ⊎ (t.1 ≡ some LINK)))

pub by_syntax : (i : Instruction) → BySyntax (form i) ((touches i).0, (touches i).1)
by_syntax (ShiftImmediate s rd rs1 sa) = inl (rd, refl, refl)
by_syntax (ShiftRegister s rd rs1 rs2) = inl (rd, refl, refl)
by_syntax (Movs2i rd sa) = inl (rd, refl, refl)
by_syntax (Movi2s sa rs1) = inr (refl, inl refl)
by_syntax (ArithmeticRegister a rd rs1 rs2) = inl (rd, refl, refl)
by_syntax (Lhg rd rs1) = inl (rd, refl, refl)
by_syntax (Clr rd) = inl (rd, refl, refl)
by_syntax (CompareRegister k rd rs1 rs2) = inl (rd, refl, refl)
by_syntax (Set rd) = inl (rd, refl, refl)
by_syntax (J imm) = inr (refl, inl refl)
by_syntax (Jal imm) = inr (refl, inr refl)
by_syntax (Trap imm) = inr (refl, inl refl)
by_syntax Rfe = inr (refl, inl refl)
by_syntax (Beqz rs1 imm) = inr (refl, inl refl)
by_syntax (Bnez rs1 imm) = inr (refl, inl refl)
by_syntax (ArithmeticImmediate a rd rs1 imm) = inl (rd, refl, refl)
by_syntax (Lhgi rd imm) = inl (rd, refl, refl)
by_syntax (Jr rs1) = inr (refl, inl refl)
by_syntax (Jalr rs1) = inr (refl, inr refl)
by_syntax (Clri rd) = inl (rd, refl, refl)
by_syntax (CompareImmediate k rd rs1 imm) = inl (rd, refl, refl)
by_syntax (Seti rd) = inl (rd, refl, refl)
by_syntax (Load k rd rs1 imm) = inl (rd, refl, refl)
by_syntax (Store k rs1 imm rd) = inr (refl, inl refl)

-- R0 is never named as written
abbrev NotR0 : Option ℕ → Type 0
NotR0 none = Unit {0}
NotR0 (some n) = n ≡ 0 → ⊥

to_not : (n : ℕ) → NotR0 (to n)
to_not n = by (eqb n 0) refl
  where
    by : (t : Bool) → eqb n 0 ≡ t → NotR0 (pick t none (some n))
    by true e = tt
    by false e = eqb-false n 0 e

touches_not : (i : Instruction) → NotR0 (touches i).1
touches_not i = by (by_syntax i)
  where
    by : BySyntax (form i) ((touches i).0, (touches i).1) → NotR0 (touches i).1
    by (inl h) = subst NotR0 (sym h.2) (to_not h.0)
    by (inr (_, inl h)) = subst NotR0 (sym h) tt
    by (inr (_, inr h)) = subst NotR0 (sym h) (λ (e : LINK ≡ 0). absurd (omega arith))

pub never_r0 : (w r : ℕ) → writes w ≡ some r → r ≡ 0 → ⊥
never_r0 w r e = by (reading w).1 refl
  where
    by : (o : Option Instruction) → (reading w).1 ≡ o → r ≡ 0 → ⊥
    by none q = subst NotR0 (ap (λ (t : Touch). t.1) (sym (touched_none w q)) ∙ e) tt
    by (some i) q = subst NotR0 (ap (λ (t : Touch). t.1) (sym (touched_some w i q)) ∙ e) (touches_not i)
