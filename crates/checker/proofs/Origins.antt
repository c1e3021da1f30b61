-- What an explanation means: the named step is the true one, the register holds what it put there, DPC is what the transfer made of it.
use Rattle.std.proofs.Common.{◌≡◌, ℕ, zero, suc, ◌%◌, ◌<◌, ◌≤◌, Bool, true, false, not, ◌||◌, eqb, ◌⊎◌, List, [], ◌∷◌, length, get_or, set, ℤ, sym, refl, ap, ◌∙◌, inl, inr, arith, length-set, get_or-set_other, get_or-set_same, ne_eqb, eqb-true}
use mathlib.Core.Option as maybe
use mathlib.Core.Option.{none, some}
use Rattle.std.specs.Prelude.{Option, Some, None, is_some}
use borrow.Author.Tests.{eqb-false, not-false}
use Rattle.words.specs.Fields.{pick, opcode, function, rs1, second, immediate16, immediate26}
use Rattle.words.specs.Words.{form, numbered, reading}
use Rattle.words.specs.declared.LoadKind.TheVariants.{Lb, Lh, Lw, Lbu, Lhu}
use Rattle.words.specs.declared.StoreKind.TheVariants.{Sb, Sh, Sw}
use Rattle.words.specs.declared.Instruction.{Instruction}
use Rattle.words.specs.declared.Instruction.TheVariants.{ShiftImmediate, ShiftRegister, Movs2i, Movi2s, ArithmeticRegister, Lhg, Clr, CompareRegister, Set, J, Jal, Trap, Rfe, Beqz, Bnez, ArithmeticImmediate, Lhgi, Jr, Jalr, Clri, CompareImmediate, Seti, Load, Store}
use Rattle.words.specs.declared.Arithmetic.{Arithmetic}
use Rattle.words.specs.declared.Arithmetic.TheVariants.{Addo, Add, Subo, Sub, And, Or, Xor}
use Rattle.words.proofs.Again.{read_numbered}
use Rattle.words.proofs.Signed.{false_true}
use Rattle.arithmetic.specs.Rulings.{plus, sext}
use Rattle.machine.specs.declared.Effect.{Effect}
use Rattle.machine.specs.declared.Effect.TheVariants as does
use Rattle.machine.specs.declared.Machine.{Machine}
use Rattle.machine.specs.declared.Region.{Region}
use Rattle.machine.specs.Effects.{one_of, State, register, put, computed, meaning, applied, act, moved, illegal, access}
use Rattle.machine.specs.Record.{first, state_of}
use Rattle.machine.proofs.Acts.{word_reads, act_reads}
use Rattle.checker.specs.declared.At.{At}
use Rattle.checker.specs.declared.Explanation.{Explanation}
use Rattle.checker.specs.declared.Explanation.TheVariants as because
use Rattle.checker.specs.declared.Source.{Source}
use Rattle.checker.specs.declared.Source.TheVariants as from
use Rattle.checker.specs.declared.touches.Turn.{Turn}
use Rattle.checker.specs.declared.touches.Turn.TheVariants.{On, Taken, By}
use Rattle.checker.specs.Checks.{admits, foreign, fetched, violation, next, found}
use Rattle.checker.specs.declared.Verdict.{Verdict}
use Rattle.checker.specs.Runs.{after, verdict_answer, run_refusal, taking, runs}
use Rattle.checker.specs.Seven.{target, turn, before, word_of, place_of, writes, last_writer, source_of, led, addressed, explanation, explaining}
use Rattle.checker.proofs.Noted.{led_from}
use Rattle.checker.proofs.Retrace.{after_last}
use Rattle.checker.proofs.Tests.{Passes, passes}
use Rattle.checker.proofs.Theorems.{Fine, violation_only, outcome_unique}

-- ---- The named step is the true one

module _ (c d : Region) (code : List ℕ) (p : State × List ℕ) where
  -- No step from step j to before step k wrote register r
  abbrev pub Unwritten : ℕ → ℕ → ℕ → Type 0
  Unwritten r j k = (i : ℕ) → j ≤ i → i < k → writes c d code p i ≡ r → ⊥

  -- Step j is the last before step k that wrote register r; x is its DPC and w its word
  pub record Writer (r k j x w : ℕ) : Type 0 where
    pub earlier : j < k
    pub wrote : writes c d code p j ≡ r
    pub place : x ≡ (before c d code p j).dpc
    pub word : w ≡ word_of c d code p j
    pub last : Unwritten r (suc j) k

  unwritten_more : (r j k : ℕ) → (writes c d code p k ≡ r → ⊥) → Unwritten r j k → Unwritten r j (suc k)
  unwritten_more r j k n h i l u e = by (eqb i k) refl
    where
      by : (t : Bool) → eqb i k ≡ t → ⊥
      by true q = n (rw (eqb-true i k q) at e)
      by false q = let z : i ≡ k → ⊥ = eqb-false i k q in h i l (omega arith) e

  writer : (r k : ℕ) (a : At) → last_writer c d code p r k ≡ from.Step a → Writer r k a.step a.dpc a.word
  unfolding last_writer
  writer r zero a e = cc
  writer r (suc k) a e = by (eqb (writes c d code p k) r) refl e (writer r k a)
    where
      by : (t : Bool) → eqb (writes c d code p k) r ≡ t → pick t (from.Step (place_of c d code p k)) (last_writer c d code p r k) ≡ from.Step a
          → (last_writer c d code p r k ≡ from.Step a → Writer r k a.step a.dpc a.word) → Writer r (suc k) a.step a.dpc a.word
      by true q f rest =
          let s : place_of c d code p k ≡ a = cc in
          rw (← s) (record { earlier = omega arith; wrote = eqb-true (writes c d code p k) r q; place = refl; word = refl; last = λ i l u g. absurd (omega arith) })
      by false q f rest =
          let h = rest f in
          let l = h.earlier in
          record { earlier = omega arith; wrote = h.wrote; place = h.place; word = h.word; last = unwritten_more r (suc a.step) k (eqb-false (writes c d code p k) r q) h.last }

  unwritten : (r k : ℕ) → last_writer c d code p r k ≡ from.Card → Unwritten r 0 k
  unfolding last_writer
  unwritten r zero e = λ i l u g. absurd (omega arith)
  unwritten r (suc k) e = by (eqb (writes c d code p k) r) refl e (unwritten r k)
    where
      by : (t : Bool) → eqb (writes c d code p k) r ≡ t → pick t (from.Step (place_of c d code p k)) (last_writer c d code p r k) ≡ from.Card
          → (last_writer c d code p r k ≡ from.Card → Unwritten r 0 k) → Unwritten r 0 (suc k)
      by true q f rest = cc
      by false q f rest = unwritten_more r 0 k (eqb-false (writes c d code p k) r q) (rest f)

  no_zero : (r k : ℕ) → last_writer c d code p r k ≡ from.Zero → ⊥
  unfolding last_writer
  no_zero r zero e = cc
  no_zero r (suc k) e = by (eqb (writes c d code p k) r) e (no_zero r k)
    where
      by : (t : Bool) → pick t (from.Step (place_of c d code p k)) (last_writer c d code p r k) ≡ from.Zero
          → (last_writer c d code p r k ≡ from.Zero → ⊥) → ⊥
      by true f rest = cc
      by false f rest = rest f

  -- What each source of a register says
  abbrev pub True : ℕ → ℕ → Source → Type 0
  True r k from.Card = (r % 32 ≡ 0 → ⊥) × Unwritten (r % 32) 0 k
  True r k from.Zero = r % 32 ≡ 0
  True r k (from.Step a) = (r % 32 ≡ 0 → ⊥) × Writer (r % 32) k a.step a.dpc a.word

  pub true_source : (r k : ℕ) → True r k (source_of c d code p r k)
  unfolding source_of
  true_source r k = by (eqb (r % 32) 0) refl (last_writer c d code p (r % 32) k) refl
    where
      by : (t : Bool) → eqb (r % 32) 0 ≡ t → (s : Source) → last_writer c d code p (r % 32) k ≡ s → True r k (pick t from.Zero (last_writer c d code p (r % 32) k))
      by true q s e = eqb-true (r % 32) 0 q
      by false q from.Card e = rw e (eqb-false (r % 32) 0 q, unwritten (r % 32) k e)
      by false q from.Zero e = absurd (no_zero (r % 32) k e)
      by false q (from.Step a) e = rw e (eqb-false (r % 32) 0 q, writer (r % 32) k a e)

-- ---- The register holds what the named step put there

-- What an effect puts in the register that it writes, v being what a load found
abbrev pub value : Effect → ℕ → ℕ
value (does.Put n x) v = x
value (does.PutSpecial n x) v = 0
value (does.Sum n x o) v = x
value (does.Load k n a) v = v
value (does.Store k a x) v = 0
value (does.Trap z) v = 0
value does.Return v = 0
value does.Nothing v = 0

put_length : (g : List ℕ) (n x : ℕ) → length (put g n x) ≡ length g
unfolding put
put_length g n x = by (eqb (n % 32) 0)
  where
    by : (t : Bool) → length (pick t g (set g (n % 32) x)) ≡ length g
    by true = refl
    by false = length-set g (n % 32) x

put_same : (g : List ℕ) (n x r : ℕ) → length g ≡ 32 → n % 32 ≡ r → (r ≡ 0 → ⊥) → get_or (put g n x) r 0 ≡ x
unfolding put
put_same g n x r l e z = rw (e, ne_eqb r 0 z) (get_or-set_same g r x 0 (omega arith))

put_other : (g : List ℕ) (n x r : ℕ) → (n % 32 ≡ r → ⊥) → get_or (put g n x) r 0 ≡ get_or g r 0
unfolding put
put_other g n x r z = by (eqb (n % 32) 0)
  where
    by : (t : Bool) → get_or (pick t g (set g (n % 32) x)) r 0 ≡ get_or g r 0
    by true = refl
    by false = get_or-set_other g (n % 32) r x 0 (λ (q : r ≡ n % 32). z (sym q))

module _ (v pc : ℕ) (g q : List ℕ) where
  applied_length : (e : Effect) → length (applied e v pc g q).1 ≡ length g
  unfolding applied
  applied_length (does.Put n x) = put_length g n x
  applied_length (does.PutSpecial n x) = refl
  applied_length (does.Sum n x o) = put_length g n x
  applied_length (does.Load k n a) = put_length g n v
  applied_length (does.Store k a x) = refl
  applied_length (does.Trap z) = refl
  applied_length does.Return = refl
  applied_length does.Nothing = refl

  module _ (r : ℕ) (z : r ≡ 0 → ⊥) where
    applied_put : (e : Effect) → length g ≡ 32 → target e ≡ r → get_or (applied e v pc g q).1 r 0 ≡ value e v
    unfolding applied target
    applied_put (does.Put n x) l t = put_same g n x r l t z
    applied_put (does.PutSpecial n x) l t = absurd (z (sym t))
    applied_put (does.Sum n x o) l t = put_same g n x r l t z
    applied_put (does.Load k n a) l t = put_same g n v r l t z
    applied_put (does.Store k a x) l t = absurd (z (sym t))
    applied_put (does.Trap y) l t = absurd (z (sym t))
    applied_put does.Return l t = absurd (z (sym t))
    applied_put does.Nothing l t = absurd (z (sym t))

    applied_kept : (e : Effect) → (target e ≡ r → ⊥) → get_or (applied e v pc g q).1 r 0 ≡ get_or g r 0
    unfolding applied target
    applied_kept (does.Put n x) t = put_other g n x r t
    applied_kept (does.PutSpecial n x) t = refl
    applied_kept (does.Sum n x o) t = put_other g n x r t
    applied_kept (does.Load k n a) t = put_other g n v r t
    applied_kept (does.Store k a x) t = refl
    applied_kept (does.Trap y) t = refl
    applied_kept does.Return t = refl
    applied_kept does.Nothing t = refl

module _ (c d : Region) (code : List ℕ) (p : State × List ℕ) where
  -- What step j puts in the register that it writes
  abbrev pub puts : ℕ → ℕ
  puts j = value (act (word_of c d code p j) (before c d code p j)).0 (found d (after c d code j p).1 (act (word_of c d code p j) (before c d code p j)).0)

  -- The registers and the counters after step j
  abbrev result : ℕ → ℕ × List ℕ × List ℕ
  result j =
      let s = before c d code p j in
      let e = (act (word_of c d code p j) s).0 in
      applied e (found d (after c d code j p).1 e) s.pc s.gpr s.spr

  step_state : (j : ℕ) → before c d code p (suc j) ≡ record { dpc = (result j).0; pc = (act (word_of c d code p j) (before c d code p j)).1; gpr = (result j).1; spr = (result j).2 }
  unfolding next moved
  step_state j = ap (λ (x : State × List ℕ). x.0) (after_last c d code j p)

  registers : (j : ℕ) → (before c d code p (suc j)).gpr ≡ (result j).1
  registers j = ap (λ (s : State). s.gpr) (step_state j)

  length_before : (j : ℕ) → length p.0.gpr ≡ 32 → length (before c d code p j).gpr ≡ 32
  unfolding after
  length_before zero l = l
  length_before (suc j) l = ap length (registers j) ∙ applied_length _ _ _ _ _ ∙ length_before j l

  module _ (r : ℕ) (z : r ≡ 0 → ⊥) where
    kept_until : (j n : ℕ) → Unwritten c d code p r j n → j ≤ n → get_or (before c d code p n).gpr r 0 ≡ get_or (before c d code p j).gpr r 0
    kept_until j zero h l = let e : j ≡ 0 = omega arith in rw e
    kept_until j (suc n) h l = by (eqb j (suc n)) refl (kept_until j n)
      where
        by : (t : Bool) → eqb j (suc n) ≡ t
            → (Unwritten c d code p r j n → j ≤ n → get_or (before c d code p n).gpr r 0 ≡ get_or (before c d code p j).gpr r 0)
            → get_or (before c d code p (suc n)).gpr r 0 ≡ get_or (before c d code p j).gpr r 0
        by true e rest = rw (eqb-true j (suc n) e)
        by false e rest =
            let y : j ≡ suc n → ⊥ = eqb-false j (suc n) e in
            ap (λ (g : List ℕ). get_or g r 0) (registers n)
            ∙ applied_kept _ _ _ _ r z _ (h n (omega arith) (omega arith))
            ∙ rest (λ i a b. h i a (omega arith)) (omega arith)

  -- The value of a register at step k, by its source. R0 is 0 in every state of a run: `reads_zero`
  abbrev pub Holds : ℕ → ℕ → Source → Type 0
  Holds r k from.Card = register (before c d code p k).gpr r ≡ register p.0.gpr r
  Holds r k from.Zero = register (before c d code p k).gpr r ≡ register (before c d code p k).gpr 0
  Holds r k (from.Step a) = register (before c d code p k).gpr r ≡ puts a.step

  pub holds_source : (r k : ℕ) → length p.0.gpr ≡ 32 → Holds r k (source_of c d code p r k)
  unfolding register after
  holds_source r k l = by (source_of c d code p r k) (true_source c d code p r k)
    where
      by : (s : Source) → True c d code p r k s → Holds r k s
      by from.Card t = kept_until (r % 32) t.0 0 k t.1 (omega arith)
      by from.Zero t = rw t
      by (from.Step a) t =
          let b = t.1.earlier in
          kept_until (r % 32) t.0 (suc a.step) k t.1.last (omega arith)
          ∙ ap (λ (g : List ℕ). get_or g (r % 32) 0) (registers a.step)
          ∙ applied_put _ _ _ _ (r % 32) t.0 _ (length_before a.step l) t.1.wrote

-- ---- DPC is what the transfer made of it

-- Where a word leads, by how it leaves PC': x is its next PC'
abbrev pub Leads : Turn → ℕ → ℕ → List ℕ → Type 0
Leads On x pc g = x ≡ plus pc 4
Leads Taken x pc g = (z : ℤ) × (x ≡ plus pc (sext z))
Leads (By n) x pc g = x ≡ register g n

-- The transfers, by their opcodes
module _ (w : ℕ) where
  reads_jal : opcode w ≡ 0x03 → reading w ≡ (0, some (Jal (immediate26 w)))
  unfolding reading
  reads_jal e = rw e

  reads_jr : opcode w ≡ 0x16 → reading w ≡ (0, some (Jr (rs1 w)))
  unfolding reading
  reads_jr e = rw e

  reads_beqz : opcode w ≡ 0x04 → reading w ≡ (0, some (Beqz (rs1 w) (immediate16 w)))
  unfolding reading
  reads_beqz e = rw e

  reads_bnez : opcode w ≡ 0x05 → reading w ≡ (0, some (Bnez (rs1 w) (immediate16 w)))
  unfolding reading
  reads_bnez e = rw e

module _ (pc : ℕ) (g q : List ℕ) where
  branch : (t : Bool) (z : ℤ) → Leads (pick t Taken On) (plus pc (pick t (sext z) 4)) pc g
  branch true z = (z, refl)
  branch false z = refl

  -- Of the twenty all but the transfers go on; j, jalr and rfe are none of them
  onward : (o f : ℕ) (i : Instruction) → numbered o f (form i) ≡ true → admits i ≡ true
      → eqb o 0x03 ≡ false → eqb o 0x16 ≡ false → eqb o 0x04 ≡ false → eqb o 0x05 ≡ false → (meaning i pc g q).1 ≡ plus pc 4
  unfolding meaning admits
  onward o f (ShiftImmediate s rd r sa) n a jal jr beqz bnez = refl
  onward o f (ShiftRegister s rd r k) n a jal jr beqz bnez = refl
  onward o f (Movs2i rd sa) n a jal jr beqz bnez = refl
  onward o f (Movi2s sa r) n a jal jr beqz bnez = refl
  onward o f (ArithmeticRegister m rd r k) n a jal jr beqz bnez = refl
  onward o f (Lhg rd r) n a jal jr beqz bnez = refl
  onward o f (Clr rd) n a jal jr beqz bnez = refl
  onward o f (CompareRegister k rd r m) n a jal jr beqz bnez = refl
  onward o f (Set rd) n a jal jr beqz bnez = refl
  onward o f (J imm) n a jal jr beqz bnez = absurd (false_true a)
  onward o f (Jal imm) n a jal jr beqz bnez = absurd (false_true (sym jal ∙ n))
  onward o f (Trap imm) n a jal jr beqz bnez = refl
  onward o f Rfe n a jal jr beqz bnez = absurd (false_true a)
  onward o f (Beqz r imm) n a jal jr beqz bnez = absurd (false_true (sym beqz ∙ n))
  onward o f (Bnez r imm) n a jal jr beqz bnez = absurd (false_true (sym bnez ∙ n))
  onward o f (ArithmeticImmediate m rd r imm) n a jal jr beqz bnez = refl
  onward o f (Lhgi rd imm) n a jal jr beqz bnez = refl
  onward o f (Jr r) n a jal jr beqz bnez = absurd (false_true (sym jr ∙ n))
  onward o f (Jalr r) n a jal jr beqz bnez = absurd (false_true a)
  onward o f (Clri rd) n a jal jr beqz bnez = refl
  onward o f (CompareImmediate k rd r imm) n a jal jr beqz bnez = refl
  onward o f (Seti rd) n a jal jr beqz bnez = refl
  onward o f (Load k rd r imm) n a jal jr beqz bnez = refl
  onward o f (Store k r imm rd) n a jal jr beqz bnez = refl

  -- DPC takes the old PC', at every step but rfe
  computes : (v : ℕ) (m : Arithmetic) (rd a b : ℕ) → (applied (computed m rd a b) v pc g q).0 ≡ pc
  unfolding applied
  computes v Addo rd a b = refl
  computes v Add rd a b = refl
  computes v Subo rd a b = refl
  computes v Sub rd a b = refl
  computes v And rd a b = refl
  computes v Or rd a b = refl
  computes v Xor rd a b = refl

  takes : (v : ℕ) (i : Instruction) → admits i ≡ true → (applied (meaning i pc g q).0 v pc g q).0 ≡ pc
  unfolding meaning applied admits
  takes v (ShiftImmediate s rd r sa) a = refl
  takes v (ShiftRegister s rd r k) a = refl
  takes v (Movs2i rd sa) a = refl
  takes v (Movi2s sa r) a = refl
  takes v (ArithmeticRegister m rd r k) a = computes v m rd (register g r) (register g k)
  takes v (Lhg rd r) a = refl
  takes v (Clr rd) a = refl
  takes v (CompareRegister k rd r m) a = refl
  takes v (Set rd) a = refl
  takes v (J imm) a = refl
  takes v (Jal imm) a = refl
  takes v (Trap imm) a = refl
  takes v Rfe a = absurd (false_true a)
  takes v (Beqz r imm) a = refl
  takes v (Bnez r imm) a = refl
  takes v (ArithmeticImmediate m rd r imm) a = computes v m rd (register g r) (sext imm)
  takes v (Lhgi rd imm) a = refl
  takes v (Jr r) a = refl
  takes v (Jalr r) a = refl
  takes v (Clri rd) a = refl
  takes v (CompareImmediate k rd r imm) a = refl
  takes v (Seti rd) a = refl
  takes v (Load k rd r imm) a = refl
  takes v (Store k r imm rd) a = refl

-- How a word leaves PC', the outcomes of the tests of its opcode being known
abbrev turns : ℕ → List ℕ → Bool → Bool → Bool → Bool → Turn
turns w g jal jr beqz bnez =
    first
    ((jal, Taken)
    ∷ (jr, By (rs1 w))
    ∷ (beqz, pick (eqb (register g (rs1 w)) 0) Taken On)
    ∷ (bnez, pick (not (eqb (register g (rs1 w)) 0)) Taken On)
    ∷ []) On

pub leads : (w : ℕ) (s : State) (i : Instruction) → reading w ≡ (0, some i) → admits i ≡ true → Leads (turn w s.gpr) (act w s).1 s.pc s.gpr
unfolding turn meaning
leads w s i e a = by (eqb (opcode w) 0x03) refl (eqb (opcode w) 0x16) refl (eqb (opcode w) 0x04) refl (eqb (opcode w) 0x05) refl
  where
    by : (jal : Bool) → eqb (opcode w) 0x03 ≡ jal → (jr : Bool) → eqb (opcode w) 0x16 ≡ jr → (beqz : Bool) → eqb (opcode w) 0x04 ≡ beqz → (bnez : Bool) → eqb (opcode w) 0x05 ≡ bnez
        → Leads (turns w s.gpr jal jr beqz bnez) (act w s).1 s.pc s.gpr
    by true f jr g beqz h bnez k = rw (act_reads w s _ (reads_jal w (eqb-true (opcode w) 0x03 f))) (immediate26 w, refl)
    by false f true g beqz h bnez k = rw (act_reads w s _ (reads_jr w (eqb-true (opcode w) 0x16 g)))
    by false f false g true h bnez k = rw (act_reads w s _ (reads_beqz w (eqb-true (opcode w) 0x04 h))) (branch s.pc s.gpr s.spr (eqb (register s.gpr (rs1 w)) 0) (immediate16 w))
    by false f false g false h true k = rw (act_reads w s _ (reads_bnez w (eqb-true (opcode w) 0x05 k))) (branch s.pc s.gpr s.spr (not (eqb (register s.gpr (rs1 w)) 0)) (immediate16 w))
    by false f false g false h false k = rw (act_reads w s i e) (onward s.pc s.gpr s.spr (opcode w) (function w) i (read_numbered w i e) a f g h k)

-- A step that breaks no test runs one of the twenty
pub runs_own : (c d : Region) (code : List ℕ) (s : State) → violation c d code s ≡ 0
    → (i : Instruction) × (reading (fetched c code s) ≡ (0, some i)) × (admits i ≡ true)
unfolding illegal foreign
runs_own c d code s z = by (word_reads (fetched c code s)) (passes c d code s z)
  where
    by : ((i : Instruction) × (reading (fetched c code s) ≡ (0, some i))) ⊎ (reading (fetched c code s) ≡ (23, none)) → Passes c d code s
        → (i : Instruction) × (reading (fetched c code s) ≡ (0, some i)) × (admits i ≡ true)
    by (inl l) h = (l.0, l.1, not-false (admits l.0) (rw (l.1, foreign) at h.own))
    by (inr e) h = absurd (false_true (sym h.legal ∙ (rw (e, illegal) refl)))

module _ (c d : Region) (code : List ℕ) (p : State × List ℕ) where
  dpc_old : (j : ℕ) → violation c d code (before c d code p j) ≡ 0 → (before c d code p (suc j)).dpc ≡ (before c d code p j).pc
  dpc_old j z =
      let s = before c d code p j in
      let h = runs_own c d code s z in
      ap (λ (x : State). x.dpc) (step_state c d code p j)
      ∙ ap (λ (a : Effect × ℕ). (applied a.0 (found d (after c d code j p).1 a.0) s.pc s.gpr s.spr).0) (act_reads (fetched c code s) s h.0 h.1)
      ∙ takes s.pc s.gpr s.spr _ h.0 h.2

  -- Two steps later, DPC is the PC' that step j made
  dpc_made : (j : ℕ) → Fine c d code (suc (suc j)) p → (before c d code p (suc (suc j))).dpc ≡ (act (word_of c d code p j) (before c d code p j)).1
  dpc_made j f = dpc_old (suc j) (f (suc j) (omega arith)) ∙ ap (λ (x : State). x.pc) (step_state c d code p j)

  leads_word : (j : ℕ) → violation c d code (before c d code p j) ≡ 0
      → Leads (turn (word_of c d code p j) (before c d code p j).gpr) (act (word_of c d code p j) (before c d code p j)).1 (before c d code p j).pc (before c d code p j).gpr
  leads_word j z =
      let s = before c d code p j in
      let h = runs_own c d code s z in
      leads (fetched c code s) s h.0 h.1 h.2

  -- Step j is the one two steps before step k; x is its DPC and w its word
  pub record Transfer (k j x w : ℕ) : Type 0 where
    pub two_before : k ≡ suc (suc j)
    pub place : x ≡ (before c d code p j).dpc
    pub word : w ≡ word_of c d code p j

  -- What each explanation says of step k
  abbrev pub TellsOf : ℕ → Explanation → Type 0
  TellsOf k (because.Register n s) = (n ≡ rs1 (word_of c d code p k)) × True c d code p n k s × Holds c d code p n k s
  TellsOf k because.Card = ((k ≡ 0) × ((before c d code p k).dpc ≡ p.0.dpc)) ⊎ ((k ≡ 1) × ((before c d code p k).dpc ≡ p.0.pc))
  TellsOf k because.RanOn = (j : ℕ) × (k ≡ suc j) × ((before c d code p k).dpc ≡ plus (before c d code p j).dpc 4)
  TellsOf k (because.Transfer a) = Transfer k a.step a.dpc a.word × ((z : ℤ) × ((before c d code p k).dpc ≡ plus (before c d code p a.step).pc (sext z)))
  TellsOf k (because.Jr a n s) =
      Transfer k a.step a.dpc a.word
      × ((before c d code p k).dpc ≡ register (before c d code p a.step).gpr n)
      × True c d code p n a.step s
      × Holds c d code p n a.step s

  abbrev pub Tells : ℕ → Option Explanation → Type 0
  Tells k None = Unit {0}
  Tells k (Some e) = TellsOf k e

  module _ (l : length p.0.gpr ≡ 32) where
    led_tells : (k : ℕ) → Fine c d code k p → TellsOf k (led c d code p k)
    unfolding led after
    led_tells zero f = inl (refl, refl)
    led_tells (suc zero) f = inr (refl, dpc_old 0 (f 0 (omega arith)))
    led_tells (suc (suc j)) f = by (turn (word_of c d code p j) (before c d code p j).gpr) (leads_word j (f j (omega arith)))
      where
        by : (t : Turn) → Leads t (act (word_of c d code p j) (before c d code p j)).1 (before c d code p j).pc (before c d code p j).gpr
            → TellsOf (suc (suc j)) (led_from c d code p t j)
        by On h = (suc j, refl, dpc_made j f ∙ h ∙ ap (λ (x : ℕ). plus x 4) (sym (dpc_old j (f j (omega arith)))))
        by Taken h = (record { two_before = refl; place = refl; word = refl }, (h.0, dpc_made j f ∙ h.1))
        by (By n) h = (record { two_before = refl; place = refl; word = refl }, dpc_made j f ∙ h, true_source c d code p n j, holds_source c d code p n j l)

    addressed_tells : (k : ℕ) → TellsOf k (addressed c d code p k)
    unfolding addressed
    addressed_tells k = (refl, true_source c d code p _ k, holds_source c d code p _ k l)

    -- Whatever is explained at a step before which no step breaks a test is so
    pub tells : (v k : ℕ) → Fine c d code k p → Tells k (explanation c d code p v k)
    unfolding explanation
    tells v k f = by (one_of v (21 ∷ 22 ∷ [])) (one_of v (25 ∷ 26 ∷ []))
      where
        by : (a b : Bool) → Tells k (first ((a, Some (led c d code p k)) ∷ (b, Some (addressed c d code p k)) ∷ []) None)
        by true b = led_tells k f
        by false true = addressed_tells k
        by false false = tt

  -- ---- Each of 21, 22, 25 and 26 has an explanation, and nothing else has

  pub exactly_four : (v k : ℕ) → is_some (explanation c d code p v k) ≡ one_of v (21 ∷ 22 ∷ 25 ∷ 26 ∷ [])
  unfolding explanation
  exactly_four v k = by (eqb v 21) (eqb v 22) (eqb v 25) (eqb v 26)
    where
      by : (x y u w : Bool) → is_some (first ((x || (y || false), Some (led c d code p k)) ∷ (u || (w || false), Some (addressed c d code p k)) ∷ []) None) ≡ (x || (y || (u || (w || false))))
      by true y u w = refl
      by false true u w = refl
      by false false true w = refl
      by false false false true = refl
      by false false false false = refl

-- ---- The address of a load or store is RS1 and an immediate

abbrev pub AtBase : ℕ → List ℕ → maybe.Option (ℕ × ℕ) → Type 0
AtBase w g none = Unit {0}
AtBase w g (some x) = (z : ℤ) × (x.1 ≡ plus (register g (rs1 w)) (sext z))

module _ (w : ℕ) where
  reads_lw : opcode w ≡ 0x23 → reading w ≡ (0, some (Load Lw (second w) (rs1 w) (immediate16 w)))
  unfolding reading
  reads_lw e = rw e

  reads_sw : opcode w ≡ 0x2B → reading w ≡ (0, some (Store Sw (rs1 w) (immediate16 w) (second w)))
  unfolding reading
  reads_sw e = rw e

module _ (w pc : ℕ) (g q : List ℕ) where
  no_access : (m : Arithmetic) (rd a b : ℕ) → AtBase w g (access (computed m rd a b))
  unfolding access
  no_access Addo rd a b = tt
  no_access Add rd a b = tt
  no_access Subo rd a b = tt
  no_access Sub rd a b = tt
  no_access And rd a b = tt
  no_access Or rd a b = tt
  no_access Xor rd a b = tt

  -- Of the twenty only lw and sw reach the data
  no_other : (o f : ℕ) (i : Instruction) → numbered o f (form i) ≡ true → admits i ≡ true → eqb o 0x23 ≡ false → eqb o 0x2B ≡ false → AtBase w g (access (meaning i pc g q).0)
  unfolding meaning access admits
  no_other o f (ShiftImmediate s rd r sa) n a lw sw = tt
  no_other o f (ShiftRegister s rd r k) n a lw sw = tt
  no_other o f (Movs2i rd sa) n a lw sw = tt
  no_other o f (Movi2s sa r) n a lw sw = tt
  no_other o f (ArithmeticRegister m rd r k) n a lw sw = no_access m rd (register g r) (register g k)
  no_other o f (Lhg rd r) n a lw sw = tt
  no_other o f (Clr rd) n a lw sw = tt
  no_other o f (CompareRegister k rd r m) n a lw sw = tt
  no_other o f (Set rd) n a lw sw = tt
  no_other o f (J imm) n a lw sw = tt
  no_other o f (Jal imm) n a lw sw = tt
  no_other o f (Trap imm) n a lw sw = tt
  no_other o f Rfe n a lw sw = tt
  no_other o f (Beqz r imm) n a lw sw = tt
  no_other o f (Bnez r imm) n a lw sw = tt
  no_other o f (ArithmeticImmediate m rd r imm) n a lw sw = no_access m rd (register g r) (sext imm)
  no_other o f (Lhgi rd imm) n a lw sw = tt
  no_other o f (Jr r) n a lw sw = tt
  no_other o f (Jalr r) n a lw sw = tt
  no_other o f (Clri rd) n a lw sw = tt
  no_other o f (CompareImmediate k rd r imm) n a lw sw = tt
  no_other o f (Seti rd) n a lw sw = tt
  no_other o f (Load Lb rd r imm) n a lw sw = absurd (false_true a)
  no_other o f (Load Lh rd r imm) n a lw sw = absurd (false_true a)
  no_other o f (Load Lw rd r imm) n a lw sw = absurd (false_true (sym lw ∙ n))
  no_other o f (Load Lbu rd r imm) n a lw sw = absurd (false_true a)
  no_other o f (Load Lhu rd r imm) n a lw sw = absurd (false_true a)
  no_other o f (Store Sb r imm rd) n a lw sw = absurd (false_true a)
  no_other o f (Store Sh r imm rd) n a lw sw = absurd (false_true a)
  no_other o f (Store Sw r imm rd) n a lw sw = absurd (false_true (sym sw ∙ n))

pub at_base : (w : ℕ) (s : State) (i : Instruction) → reading w ≡ (0, some i) → admits i ≡ true → AtBase w s.gpr (access (act w s).0)
unfolding meaning access
at_base w s i e a = by (eqb (opcode w) 0x23) refl (eqb (opcode w) 0x2B) refl
  where
    by : (lw : Bool) → eqb (opcode w) 0x23 ≡ lw → (sw : Bool) → eqb (opcode w) 0x2B ≡ sw → AtBase w s.gpr (access (act w s).0)
    by true f sw g = rw (act_reads w s _ (reads_lw w (eqb-true (opcode w) 0x23 f))) (immediate16 w, refl)
    by false f true g = rw (act_reads w s _ (reads_sw w (eqb-true (opcode w) 0x2B g))) (immediate16 w, refl)
    by false f false g = rw (act_reads w s i e) (no_other w s.pc s.gpr s.spr (opcode w) (function w) i (read_numbered w i e) a f g)

-- ---- So what a run explains is so: the explanation that goes with its violation v at step k

pub run_tells : (m : Machine) (code ws : List ℕ) (v k x w : ℕ) → length m.gpr ≡ 32 → 0 < v → (runs m code ws).0 ≡ (v, k ∷ x ∷ w ∷ [])
    → Tells m.code m.«data» code (state_of m, ws) k (explaining m code ws (runs m code ws).0)
unfolding taking
run_tells m code ws v k x w l z e = by (run_refusal m (length code) (length ws)) e
  where
    by : (r : ℕ) → (taking r m.limit m code ws).0 ≡ (v, k ∷ x ∷ w ∷ []) → Tells m.code m.«data» code (state_of m, ws) k (explaining m code ws (taking r m.limit m code ws).0)
    by zero f = rw f (tells m.code m.«data» code (state_of m, ws) l v k (violation_only m.code m.«data» code m.limit v k x w (state_of m, ws) z f).1)
    by (suc r) f = let n : ◌≡◌ {A = ℕ} 0 3 = ap (λ (o : ℕ × List ℕ). length o.1) f in absurd (omega arith)

-- ---- Two results that meet the promise of a run are equal

pub run_unique : (v w : Verdict) (m n : Machine) (ws xs : List ℕ) (a b : Option Explanation) (o : (ℕ × List ℕ) × Machine × List ℕ) (x : Option Explanation)
    → ◌≡◌ (verdict_answer v, m, ws) o → a ≡ x → ◌≡◌ (verdict_answer w, n, xs) o → b ≡ x → (v ≡ w) × (m ≡ n) × (ws ≡ xs) × (a ≡ b)
run_unique v w m n ws xs a b o x e f g h = let u = outcome_unique v w m n ws xs o e g in (u.0, u.1, u.2, f ∙ sym h)
