-- Document 02, request Six: what a word is said to touch is what a step of it touches. A step of either machine leaves `moved w v s`, v being what a load found.
use Rattle.std.proofs.Common.{◌≡◌, ℕ, ◌%◌, ◌<◌, ◌⊎◌, List, [], ◌∷◌, length, get_or, sym, refl, ap, ◌∙◌, subst, ap₂, inl, inr, arith, length-set, get_or-set_other, get_or-set_same, ne_eqb}
use mathlib.Core.Option.{Option, none, some}
use Rattle.std.proofs.lemmas.Bool.Decides.{nat_tests}
use Rattle.words.specs.Fields.{field, rs1, second, third}
use Rattle.words.specs.Words.{reading}
use Rattle.words.specs.Touches.{Touch, to, touches, touched, reads, writes, number_of, special}
use Rattle.words.specs.declared.Special.{Special}
use Rattle.words.specs.declared.Special.TheVariants.{None, Read, Written, Return}
use Rattle.words.specs.declared.Arithmetic.{Arithmetic}
use Rattle.words.specs.declared.Arithmetic.TheVariants.{Addo, Add, Subo, Sub, And, Or, Xor}
use Rattle.words.specs.declared.Instruction.{Instruction}
use Rattle.words.specs.declared.Instruction.TheVariants.{ShiftImmediate, ShiftRegister, Movs2i, Movi2s, ArithmeticRegister, Lhg, Clr, CompareRegister, Set, J, Jal, Trap, Rfe, Beqz, Bnez, ArithmeticImmediate, Lhgi, Jr, Jalr, Clri, CompareImmediate, Seti, Load, Store}
use Rattle.words.proofs.Again.{read_filled}
use Rattle.words.proofs.Numbering.{filled}
use Rattle.words.proofs.Touched.{touched_legal, touched_illegal, never_r0}
use Rattle.arithmetic.specs.Rulings.{plus}
use Rattle.machine.specs.declared.Effect.{Effect}
use Rattle.machine.specs.declared.Effect.TheVariants as does
use Rattle.machine.specs.Effects.{State, SR, ESR, EPC, EDPC, register, put, put_special, computed, meaning, applied, act, moved}
use Rattle.machine.proofs.Acts.{word_reads, act_reads, act_illegal}

-- ---- What an effect writes

-- The general register, 0 for none: R0 is never written
abbrev pub target : Effect → ℕ
target (does.Put n x) = n % 32
target (does.Sum n x o) = n % 32
target (does.Load k n a) = n % 32
target e = 0

target_below : (e : Effect) → target e < 32
target_below (does.Put n x) = omega arith
target_below (does.PutSpecial n x) = omega arith
target_below (does.Sum n x o) = omega arith
target_below (does.Load k n a) = omega arith
target_below (does.Store k a x) = omega arith
target_below (does.Trap z) = omega arith
target_below does.Return = omega arith
target_below does.Nothing = omega arith

-- What it puts there, v being what a load found
abbrev pub value : Effect → ℕ → ℕ
value (does.Put n x) v = x
value (does.Sum n x o) v = x
value (does.Load k n a) v = v
value e v = 0

-- The special registers
abbrev changes : Effect → Special
changes (does.PutSpecial n x) = Written n
changes does.Return = Return
changes e = None

put_same : (g : List ℕ) (n x r : ℕ) → length g ≡ 32 → n % 32 ≡ r → (r ≡ 0 → ⊥) → get_or (put g n x) r 0 ≡ x
unfolding put
put_same g n x r l e z = rw (e, ne_eqb r 0 z) (get_or-set_same g r x 0 (omega arith))

put_other : (g : List ℕ) (n x r : ℕ) → (n % 32 ≡ r → r ≡ 0) → get_or (put g n x) r 0 ≡ get_or g r 0
unfolding put
put_other g n x r z = grind (arith, nat_tests, get_or-set_other {A = ℕ})

put_length : (g : List ℕ) (n x : ℕ) → length (put g n x) ≡ length g
unfolding put
put_length g n x = grind (arith, nat_tests, length-set {A = ℕ})

special_other : (p : List ℕ) (n x r : ℕ) → (Written n ≡ Written r → ⊥) → get_or (put_special p n x) r 0 ≡ get_or p r 0
unfolding put_special
special_other p n x r z = let d : r ≡ n → ⊥ = λ q. z (ap Written (sym q)) in grind (arith, nat_tests, get_or-set_other {A = ℕ}, d)

module _ (v pc : ℕ) (g p : List ℕ) where
  applied_length : (e : Effect) → length (applied e v pc g p).1 ≡ length g
  unfolding applied
  applied_length (does.Put n x) = put_length g n x
  applied_length (does.PutSpecial n x) = refl
  applied_length (does.Sum n x o) = put_length g n x
  applied_length (does.Load k n a) = put_length g n v
  applied_length (does.Store k a x) = refl
  applied_length (does.Trap z) = refl
  applied_length does.Return = refl
  applied_length does.Nothing = refl

  applied_put : (e : Effect) (r : ℕ) → (r ≡ 0 → ⊥) → length g ≡ 32 → target e ≡ r → get_or (applied e v pc g p).1 r 0 ≡ value e v
  unfolding applied
  applied_put (does.Put n x) r z l t = put_same g n x r l t z
  applied_put (does.PutSpecial n x) r z l t = absurd (z (sym t))
  applied_put (does.Sum n x o) r z l t = put_same g n x r l t z
  applied_put (does.Load k n a) r z l t = put_same g n v r l t z
  applied_put (does.Store k a x) r z l t = absurd (z (sym t))
  applied_put (does.Trap y) r z l t = absurd (z (sym t))
  applied_put does.Return r z l t = absurd (z (sym t))
  applied_put does.Nothing r z l t = absurd (z (sym t))

  applied_kept : (e : Effect) (r : ℕ) → (target e ≡ r → r ≡ 0) → get_or (applied e v pc g p).1 r 0 ≡ get_or g r 0
  unfolding applied
  applied_kept (does.Put n x) r z = put_other g n x r z
  applied_kept (does.PutSpecial n x) r z = refl
  applied_kept (does.Sum n x o) r z = put_other g n x r z
  applied_kept (does.Load k n a) r z = put_other g n v r z
  applied_kept (does.Store k a x) r z = refl
  applied_kept (does.Trap y) r z = refl
  applied_kept does.Return r z = refl
  applied_kept does.Nothing r z = refl

  applied_special : (e : Effect) (r : ℕ) → (changes e ≡ Written r → ⊥) → (changes e ≡ Return → ⊥) → get_or (applied e v pc g p).2 r 0 ≡ get_or p r 0
  unfolding applied
  applied_special (does.Put n x) r z y = refl
  applied_special (does.PutSpecial n x) r z y = special_other p n x r z
  applied_special (does.Sum n x o) r z y = refl
  applied_special (does.Load k n a) r z y = refl
  applied_special (does.Store k a x) r z y = refl
  applied_special (does.Trap t) r z y = refl
  applied_special does.Return r z y = absurd (y refl)
  applied_special does.Nothing r z y = refl

-- ---- An effect writes what its word is said to write

-- What is written of the special registers: a read leaves them
abbrev change : Special → Special
change None = None
change (Read n) = None
change (Written n) = Written n
change Return = Return

-- What a word does writes what it is said to write
abbrev Said : Effect × ℕ → Touch → Type 0
Said a t = (target a.0 ≡ number_of t.1) × (changes a.0 ≡ change t.2)

-- RD is a field of five bits
to_field : (k w : ℕ) → field k w % 32 ≡ number_of (to (field k w))
unfolding field
to_field k w = grind (arith, nat_tests)

-- Sums, differences and logical operations put a value in RD
computed_target : (a : Arithmetic) (d x y : ℕ) → (target (computed a d x y) ≡ d % 32) × (changes (computed a d x y) ≡ None)
computed_target Addo d x y = (refl, refl)
computed_target Add d x y = (refl, refl)
computed_target Subo d x y = (refl, refl)
computed_target Sub d x y = (refl, refl)
computed_target And d x y = (refl, refl)
computed_target Or d x y = (refl, refl)
computed_target Xor d x y = (refl, refl)

module _ (w pc : ℕ) (g p : List ℕ) where
  writes_said : (i : Instruction) → Said (meaning (filled i w) pc g p) (touches (filled i w))
  unfolding meaning
  writes_said (ShiftImmediate s rd r sa) = (to_field 11 w, refl)
  writes_said (ShiftRegister s rd r q) = (to_field 11 w, refl)
  writes_said (Movs2i rd sa) = (to_field 11 w, refl)
  writes_said (Movi2s sa r) = (refl, refl)
  writes_said (ArithmeticRegister a rd r q) = let c = computed_target a (third w) (register g (rs1 w)) (register g (second w)) in (c.0 ∙ to_field 11 w, c.1)
  writes_said (Lhg rd r) = (to_field 11 w, refl)
  writes_said (Clr rd) = (to_field 11 w, refl)
  writes_said (CompareRegister k rd r q) = (to_field 11 w, refl)
  writes_said (Set rd) = (to_field 11 w, refl)
  writes_said (J imm) = (refl, refl)
  writes_said (Jal imm) = (refl, refl)
  writes_said (Trap imm) = (refl, refl)
  writes_said Rfe = (refl, refl)
  writes_said (Beqz r imm) = (refl, refl)
  writes_said (Bnez r imm) = (refl, refl)
  writes_said (ArithmeticImmediate a rd r imm) = let c = computed_target a (second w) (register g (rs1 w)) _ in (c.0 ∙ to_field 16 w, c.1)
  writes_said (Lhgi rd imm) = (to_field 16 w, refl)
  writes_said (Jr r) = (refl, refl)
  writes_said (Jalr r) = (refl, refl)
  writes_said (Clri rd) = (to_field 16 w, refl)
  writes_said (CompareImmediate k rd r imm) = (to_field 16 w, refl)
  writes_said (Seti rd) = (to_field 16 w, refl)
  writes_said (Load k rd r imm) = (to_field 16 w, refl)
  writes_said (Store k r imm rd) = (refl, refl)

-- ---- A step writes no other register

none_else : (o : Option ℕ) (r : ℕ) → (o ≡ some r → ⊥) → number_of o ≡ r → r ≡ 0
none_else none r n e = sym e
none_else (some k) r n e = absurd (n (ap some e))

written_else : (o : Special) (r : ℕ) → change o ≡ Written r → o ≡ Written r
written_else None r e = cc
written_else (Read n) r e = cc
written_else (Written n) r e = e
written_else Return r e = cc

return_else : (o : Special) → change o ≡ Return → o ≡ Return
return_else None e = cc
return_else (Read n) e = cc
return_else (Written n) e = cc
return_else Return e = refl

module _ (w v : ℕ) (s : State) where
  said : Said (act w s) (touched w)
  said = by (word_reads w)
    where
      at : (a : Effect × ℕ) (t : Touch) → act w s ≡ a → touched w ≡ t → Said a t → Said (act w s) (touched w)
      at a t e f h = subst (λ (b : Effect × ℕ). Said b (touched w)) (sym e) (subst (Said a) (sym f) h)

      by : ((i : Instruction) × (reading w ≡ (0, some i))) ⊎ (reading w ≡ (23, none)) → Said (act w s) (touched w)
      by (inl l) =
          at (meaning l.0 s.pc s.gpr s.spr) (touches l.0) (act_reads w s l.0 l.1) (touched_legal w l.0 l.1)
          (subst (λ (i : Instruction). Said (meaning i s.pc s.gpr s.spr) (touches i)) (read_filled w l.0 l.1) (writes_said w s.pc s.gpr s.spr l.0))
      by (inr e) = at (does.Nothing, plus s.pc 4) ([], none, None) (act_illegal w s e) (touched_illegal w e) (refl, refl)

  pub general_length : length (moved w v s).gpr ≡ length s.gpr
  unfolding moved
  general_length = applied_length v s.pc s.gpr s.spr (act w s).0

  -- A step leaves every general register but the one written as it was
  pub general_kept : (r : ℕ) → (writes w ≡ some r → ⊥) → get_or (moved w v s).gpr r 0 ≡ get_or s.gpr r 0
  unfolding moved
  general_kept r n = applied_kept v s.pc s.gpr s.spr (act w s).0 r (λ t. none_else (writes w) r n (sym said.0 ∙ t))

  -- and the one written takes the effect's value
  pub general_put : (r : ℕ) → writes w ≡ some r → length s.gpr ≡ 32 → get_or (moved w v s).gpr r 0 ≡ value (act w s).0 v
  unfolding moved
  general_put r e l = applied_put v s.pc s.gpr s.spr (act w s).0 r (never_r0 w r e) l (said.0 ∙ ap number_of e)

  -- and every special register but the one written by movi2s, rfe apart
  pub special_kept : (r : ℕ) → (special w ≡ Written r → ⊥) → (special w ≡ Return → ⊥) → get_or (moved w v s).spr r 0 ≡ get_or s.spr r 0
  unfolding moved
  special_kept r n m =
      applied_special v s.pc s.gpr s.spr (act w s).0 r
      (λ t. n (written_else (special w) r (sym said.1 ∙ t)))
      (λ t. m (return_else (special w) (sym said.1 ∙ t)))

-- It is one of the 32
pub number_below : (w : ℕ) → number_of (writes w) < 32
number_below w = let s : State = record { dpc = 0; pc = 0; gpr = []; spr = [] } in subst (λ (n : ℕ). n < 32) (said w 0 s).0 (target_below (act w s).0)

-- ---- rfe

only_rfe : (i : Instruction) → (touches i).2 ≡ Return → i ≡ Rfe
only_rfe (ShiftImmediate k rd r sa) e = cc
only_rfe (ShiftRegister k rd r q) e = cc
only_rfe (Movs2i rd sa) e = cc
only_rfe (Movi2s sa r) e = cc
only_rfe (ArithmeticRegister a rd r q) e = cc
only_rfe (Lhg rd r) e = cc
only_rfe (Clr rd) e = cc
only_rfe (CompareRegister k rd r q) e = cc
only_rfe (Set rd) e = cc
only_rfe (J imm) e = cc
only_rfe (Jal imm) e = cc
only_rfe (Trap imm) e = cc
only_rfe Rfe e = refl
only_rfe (Beqz r imm) e = cc
only_rfe (Bnez r imm) e = cc
only_rfe (ArithmeticImmediate a rd r imm) e = cc
only_rfe (Lhgi rd imm) e = cc
only_rfe (Jr r) e = cc
only_rfe (Jalr r) e = cc
only_rfe (Clri rd) e = cc
only_rfe (CompareImmediate k rd r imm) e = cc
only_rfe (Seti rd) e = cc
only_rfe (Load k rd r imm) e = cc
only_rfe (Store k r imm rd) e = cc

-- A word of that kind is rfe
pub return_rfe : (w : ℕ) → special w ≡ Return → reading w ≡ (0, some Rfe)
return_rfe w e = by (word_reads w)
  where
    legal : Instruction → ℕ × Option Instruction
    legal i = (0, some i)

    by : ((i : Instruction) × (reading w ≡ (0, some i))) ⊎ (reading w ≡ (23, none)) → reading w ≡ (0, some Rfe)
    by (inl l) = l.1 ∙ ap legal (only_rfe l.0 (ap (λ (t : Touch). t.2) (sym (touched_legal w l.0 l.1)) ∙ e))
    by (inr q) = let n : None ≡ Return = ap (λ (t : Touch). t.2) (sym (touched_illegal w q)) ∙ e in cc

-- It leaves the general registers, and the special ones but SR, as they were; SR takes ESR, DPC takes EDPC and PC' EPC
pub record Returns (s t : State) : Type 0 where
  pub general : t.gpr ≡ s.gpr
  pub others : (r : ℕ) → (r ≡ SR → ⊥) → get_or t.spr r 0 ≡ get_or s.spr r 0
  pub status : length s.spr ≡ 32 → register t.spr SR ≡ register s.spr ESR
  pub counter : t.dpc ≡ register s.spr EDPC
  pub delayed : t.pc ≡ register s.spr EPC

pub returns : (w v : ℕ) (s : State) → special w ≡ Return → Returns s (moved w v s)
unfolding moved applied meaning register
returns w v s e =
    rw (moved, act_reads w s Rfe (return_rfe w e)) (record {
      general = refl;
      others = λ r z. get_or-set_other s.spr SR r (register s.spr ESR) 0 z;
      status = λ l. get_or-set_same s.spr SR (register s.spr ESR) 0 (omega arith);
      counter = refl;
      delayed = refl;
    })

-- ---- A step reads no other register

applied_dpc : (e : Effect) (v pc : ℕ) (g h p q : List ℕ) → (changes e ≡ Return → register p EDPC ≡ register q EDPC) → (applied e v pc g p).0 ≡ (applied e v pc h q).0
unfolding applied
applied_dpc (does.Put n x) v pc g h p q f = refl
applied_dpc (does.PutSpecial n x) v pc g h p q f = refl
applied_dpc (does.Sum n x o) v pc g h p q f = refl
applied_dpc (does.Load k n a) v pc g h p q f = refl
applied_dpc (does.Store k a x) v pc g h p q f = refl
applied_dpc (does.Trap z) v pc g h p q f = refl
applied_dpc does.Return v pc g h p q f = f refl
applied_dpc does.Nothing v pc g h p q f = refl

-- The registers of a list hold the same in two files
abbrev pub Alike : List ℕ → List ℕ → List ℕ → Type 0
Alike [] g h = Unit {0}
Alike (r ∷ rs) g h = (register g r ≡ register h r) × Alike rs g h

-- The special registers that are read: that of movs2i; ESR, EPC and EDPC for rfe
abbrev pub sources : Special → List ℕ
sources None = []
sources (Read n) = n ∷ []
sources (Written n) = []
sources Return = ESR ∷ EPC ∷ EDPC ∷ []

module _ (pc : ℕ) (g h p q : List ℕ) where
  same_meaning : (i : Instruction) → Alike (touches i).0 g h → Alike (sources (touches i).2) p q → meaning i pc g p ≡ meaning i pc h q
  unfolding meaning
  same_meaning (ShiftImmediate k rd r sa) a b = rw a.0
  same_meaning (ShiftRegister k rd r m) a b = rw (a.0, a.1.0)
  same_meaning (Movs2i rd sa) a b = rw b.0
  same_meaning (Movi2s sa r) a b = rw a.0
  same_meaning (ArithmeticRegister k rd r m) a b = rw (a.0, a.1.0)
  same_meaning (Lhg rd r) a b = rw a.0
  same_meaning (Clr rd) a b = refl
  same_meaning (CompareRegister k rd r m) a b = rw (a.0, a.1.0)
  same_meaning (Set rd) a b = refl
  same_meaning (J imm) a b = refl
  same_meaning (Jal imm) a b = refl
  same_meaning (Trap imm) a b = refl
  same_meaning Rfe a b = rw b.1.0
  same_meaning (Beqz r imm) a b = rw a.0
  same_meaning (Bnez r imm) a b = rw a.0
  same_meaning (ArithmeticImmediate k rd r imm) a b = rw a.0
  same_meaning (Lhgi rd imm) a b = refl
  same_meaning (Jr r) a b = rw a.0
  same_meaning (Jalr r) a b = rw a.0
  same_meaning (Clri rd) a b = refl
  same_meaning (CompareImmediate k rd r imm) a b = rw a.0
  same_meaning (Seti rd) a b = refl
  same_meaning (Load k rd r imm) a b = rw a.0
  same_meaning (Store k r imm rd) a b = rw (a.0, a.1.0)

module _ (w : ℕ) (s t : State) (c : s.pc ≡ t.pc) (a : Alike (reads w) s.gpr t.gpr) (b : Alike (sources (special w)) s.spr t.spr) where
  -- Two states that agree on PC' and on what is read give the same effect and the same next PC'
  pub same_act : act w s ≡ act w t
  same_act = by (word_reads w)
    where
      onward : ℕ → Effect × ℕ
      onward x = (does.Nothing, plus x 4)

      by : ((i : Instruction) × (reading w ≡ (0, some i))) ⊎ (reading w ≡ (23, none)) → act w s ≡ act w t
      by (inl l) =
          let i = l.0 in
          let e = touched_legal w i l.1 in
          act_reads w s i l.1
          ∙ same_meaning s.pc s.gpr t.gpr s.spr t.spr i (subst (λ (x : Touch). Alike x.0 s.gpr t.gpr) e a) (subst (λ (x : Touch). Alike (sources x.2) s.spr t.spr) e b)
          ∙ ap (λ (x : ℕ). meaning i x t.gpr t.spr) c
          ∙ sym (act_reads w t i l.1)
      by (inr q) = act_illegal w s q ∙ ap onward c ∙ sym (act_illegal w t q)

  -- and so the same DPC, the same value in the register written, and for rfe the same SR
  pub same_dpc : (v : ℕ) → (moved w v s).dpc ≡ (moved w v t).dpc
  unfolding moved
  same_dpc v =
      applied_dpc (act w s).0 v s.pc s.gpr t.gpr s.spr t.spr (λ r. (at_return (return_else (special w) (sym (said w v s).1 ∙ r))).1.1.0)
      ∙ ap₂ (λ (e : Effect) (x : ℕ). (applied e v x t.gpr t.spr).0) (ap (λ (x : Effect × ℕ). x.0) same_act) c
    where
      at_return : special w ≡ Return → Alike (sources Return) s.spr t.spr
      at_return e = subst (λ (x : Special). Alike (sources x) s.spr t.spr) e b

  pub same_put : (v r : ℕ) → writes w ≡ some r → length s.gpr ≡ 32 → length t.gpr ≡ 32 → get_or (moved w v s).gpr r 0 ≡ get_or (moved w v t).gpr r 0
  same_put v r e l m = general_put w v s r e l ∙ ap (λ (x : Effect × ℕ). value x.0 v) same_act ∙ sym (general_put w v t r e m)

  pub same_status : (v : ℕ) → special w ≡ Return → length s.spr ≡ 32 → length t.spr ≡ 32 → register (moved w v s).spr SR ≡ register (moved w v t).spr SR
  same_status v e l m = (returns w v s e).status l ∙ (subst (λ (x : Special). Alike (sources x) s.spr t.spr) e b).0 ∙ sym ((returns w v t e).status m)
