-- The tests of a step by the kinds of effect.
use Rattle.std.proofs.Common.{◌≡◌, ℕ, ◌+◌, ◌*◌, ◌/◌, ◌%◌, ◌^◌, ◌<◌, ◌≤◌, Bool, true, false, not, eqb, leb, List, [], ◌∷◌, get_or, sym, refl, ap, ◌∙◌, arith, eq-eqb, ne_eqb, eqb-true, leb-true}
use mathlib.Core.Option.{none, some}
use borrow.Author.Tests.{not-true, not-false, eqb-false}
use Rattle.words.specs.declared.LoadKind.{LoadKind}
use Rattle.words.specs.declared.StoreKind.{StoreKind}
use Rattle.machine.specs.declared.Effect.{Effect}
use Rattle.machine.specs.declared.Effect.TheVariants as does
use Rattle.machine.specs.declared.Region.{Region}
use Rattle.words.specs.Fields.{pick}
use Rattle.words.specs.Words.{reading}
use Rattle.words.specs.declared.Instruction.{Instruction}
use Rattle.machine.specs.Effects.{State, illegal, access, act, meaning, performed, moved, askew, mode_set, unaligned}
use Rattle.machine.specs.Record.{holds, word_at, first}
use Rattle.machine.proofs.Acts.{act_reads, legal_not}
use Rattle.machine.proofs.Regions.{holds_in, holds_out}
use Rattle.checker.specs.declared.Test.{Test}
use Rattle.checker.specs.declared.Test.TheVariants.{Misaligned, Outside, Illegal, Foreign, Askew, Beyond, Mode}
use Rattle.checker.specs.Inner.{Offset}
use Rattle.checker.specs.Checks.{outside, admits, foreign, test_no, fetched, table, violation, found, left, next}
use Rattle.checker.specs.Runs.{told}

-- A load or store that is not outside the region has an address in it
pub load_inside : (d : Region) (e : Effect) (k : LoadKind) (n a : ℕ) → e ≡ does.Load k n a → outside d e ≡ false → holds d a ≡ true
unfolding outside access
load_inside d e k n a q o = not-false (holds d a) (rw q at o)

pub store_inside : (d : Region) (e : Effect) (k : StoreKind) (a x : ℕ) → e ≡ does.Store k a x → outside d e ≡ false → holds d a ≡ true
unfolding outside access
store_inside d e k a x q o = not-false (holds d a) (rw q at o)

-- How far into a region an address lies, where the difference is taken modulo 2^64
pub offset_wraps : (r : Region) (a n : ℕ) → a < 2 ^ 32 → r.start < 2 ^ 32 → r.words < 2 ^ 32 → n < 2 ^ 64 → (n + r.start) % 2 ^ 64 ≡ a → Offset r a n
offset_wraps r a n la ls lw ln e = (λ p. (holds_in r a (omega arith) (omega arith), omega arith), λ p. by p (leb r.start a) refl)
  where
    by : 4 * r.words ≤ n → (t : Bool) → leb r.start a ≡ t → holds r a ≡ false
    by p true q = let l : r.start ≤ a = leb-true r.start a q in holds_out r a (omega arith)
    by p false q = rw q

-- The word that far into a region's list
pub offset_word : (r : Region) (ws : List ℕ) (a n : ℕ) → Offset r a n → n < 4 * r.words → get_or ws (n / 4) 0 ≡ word_at r ws a
unfolding word_at
offset_word r ws a n o h = ap (λ (m : ℕ). get_or ws (m / 4) 0) (o.0 h).1

-- The reading of a word decides test 24
pub foreign_admits : (w : ℕ) (i : Instruction) → reading w ≡ (0, some i) → foreign w ≡ not (admits i)
unfolding foreign
foreign_admits w i e = rw (e, foreign)

-- A test's number is not 0
pub test_positive : (t : Test) → 0 < test_no t
test_positive Misaligned = omega arith
test_positive Outside = omega arith
test_positive Illegal = omega arith
test_positive Foreign = omega arith
test_positive Askew = omega arith
test_positive Beyond = omega arith
test_positive Mode = omega arith

-- The tests of a step in order, each where the earlier ones hold nothing against it
module _ (c d : Region) (code : List ℕ) (s : State) where
  pub stop_21 : (s.dpc % 4 ≡ 0 → ⊥) → violation c d code s ≡ 21
  unfolding violation
  stop_21 f = rw (ne_eqb (s.dpc % 4) 0 f)

  pub stop_22 : s.dpc % 4 ≡ 0 → holds c s.dpc ≡ false → violation c d code s ≡ 22
  unfolding violation
  stop_22 a f = rw (eq-eqb (s.dpc % 4) 0 a, f)

  -- What stops a step before its word is fetched
  pub stop_early : (t : Test) → first ((unaligned 4 s.dpc, 21) ∷ (not (holds c s.dpc), 22) ∷ []) 0 ≡ test_no t
      → (violation c d code s ≡ test_no t) × (0 ≡ told (test_no t) (fetched c code s))
  unfolding violation
  stop_early t e = by (eqb (s.dpc % 4) 0) refl (holds c s.dpc) refl e
    where
      by : (u : Bool) → eqb (s.dpc % 4) 0 ≡ u → (h : Bool) → holds c s.dpc ≡ h → first ((not u, 21) ∷ (not h, 22) ∷ []) 0 ≡ test_no t
          → (violation c d code s ≡ test_no t) × (0 ≡ told (test_no t) (fetched c code s))
      by false p h q f = rw (← f) (rw p, refl)
      by true p false q f = rw (← f) (rw (p, q), refl)
      by true p true q f = let z = test_positive t in absurd (omega arith)

  module _ (a : s.dpc % 4 ≡ 0) (h : holds c s.dpc ≡ true) where
    pub stop_23 : reading (fetched c code s) ≡ (23, none) → violation c d code s ≡ 23
    unfolding violation illegal
    stop_23 e = rw (eq-eqb (s.dpc % 4) 0 a, h, e)

    module _ (i : Instruction) (e : reading (fetched c code s) ≡ (0, some i)) where
      abbrev w : ℕ
      w = fetched c code s

      pub stop_24 : admits i ≡ false → violation c d code s ≡ 24
      unfolding violation
      stop_24 r = rw (eq-eqb (s.dpc % 4) 0 a, h, legal_not w i e, foreign_admits w i e, r)

      -- What is left are the tests of the effect
      pub tests_left : admits i ≡ true → (x : Effect) → x ≡ (meaning i s.pc s.gpr s.spr).0
          → violation c d code s ≡ first ((askew x, 25) ∷ (outside d x, 26) ∷ (mode_set x, 27) ∷ []) 0
      unfolding violation
      tests_left r x q = rw (eq-eqb (s.dpc % 4) 0 a, h, legal_not w i e, foreign_admits w i e, r, act_reads w s i e, q)

      -- A step taken, from what its parts answer: effect x and next PC' n; what a load found and the data v, ws'; the state s'
      pub taken : (ws : List ℕ) (x : Effect) (n v : ℕ) (s' : State) (ws' : List ℕ)
          → (x, n) ≡ meaning i s.pc s.gpr s.spr → v ≡ found d ws x → ws' ≡ left d ws x → s' ≡ performed x v n s
          → (s', ws') ≡ next c d code (s, ws)
      unfolding next moved
      taken ws x n v s' ws' m l w' a = rw (← (m ∙ sym (act_reads w s i e)), ← l, ← w', a)

-- The test of an effect: what its number tells
pub effect_number : (p q r : Bool) (t : Test) → test_no t ≡ first ((p, 25) ∷ (q, 26) ∷ (r, 27) ∷ []) 0 → 24 < test_no t
effect_number true q r t e = omega arith
effect_number false true r t e = omega arith
effect_number false false true t e = omega arith
effect_number false false false t e = let z = test_positive t in absurd (omega arith)

pub none_broken : (p q r : Bool) → ◌≡◌ {A = ℕ} (first ((p, 25) ∷ (q, 26) ∷ (r, 27) ∷ []) 0) 0 → (p ≡ false) × (q ≡ false) × (r ≡ false)
none_broken true q r e = absurd (omega arith)
none_broken false true r e = absurd (omega arith)
none_broken false false true e = absurd (omega arith)
none_broken false false false e = (refl, refl, refl)

-- A step that breaks no test: what each test says
seven : (a b c d e f g : Bool) → ◌≡◌ {A = ℕ} (first ((a, 21) ∷ (b, 22) ∷ (c, 23) ∷ (d, 24) ∷ (e, 25) ∷ (f, 26) ∷ (g, 27) ∷ []) 0) 0
    → (a ≡ false) × (b ≡ false) × (c ≡ false) × (d ≡ false) × (e ≡ false) × (f ≡ false) × (g ≡ false)
seven true b c d e f g z = absurd (omega arith)
seven false true c d e f g z = absurd (omega arith)
seven false false true d e f g z = absurd (omega arith)
seven false false false true e f g z = absurd (omega arith)
seven false false false false true f g z = absurd (omega arith)
seven false false false false false true g z = absurd (omega arith)
seven false false false false false false true z = absurd (omega arith)
seven false false false false false false false z = (refl, refl, refl, refl, refl, refl, refl)

pub record Passes (c d : Region) (code : List ℕ) (s : State) : Type 0 where
  pub aligned : s.dpc % 4 ≡ 0
  pub within : holds c s.dpc ≡ true
  pub legal : illegal (fetched c code s) ≡ false
  pub own : foreign (fetched c code s) ≡ false
  pub even : askew (act (fetched c code s) s).0 ≡ false
  pub inside : outside d (act (fetched c code s) s).0 ≡ false
  pub calm : mode_set (act (fetched c code s) s).0 ≡ false

pub passes : (c d : Region) (code : List ℕ) (s : State) → violation c d code s ≡ 0 → Passes c d code s
unfolding violation
passes c d code s z =
    let w = fetched c code s in
    let e = (act w s).0 in
    let p = seven (not (eqb (s.dpc % 4) 0)) (not (holds c s.dpc)) (illegal w) (foreign w) (askew e) (outside d e) (mode_set e) z in
    record {
      aligned = eqb-true (s.dpc % 4) 0 (not-false (eqb (s.dpc % 4) 0) p.0);
      within = not-false (holds c s.dpc) p.1;
      legal = p.2;
      own = p.3;
      even = p.4;
      inside = p.5;
      calm = p.6;
    }

-- A violation's number is one of the table's, in whatever order they stand
abbrev Numbered : ℕ → Type 0
Numbered n = 0 < n → (21 ≤ n) × (n ≤ 27)

abbrev AllNumbered : List (Bool × ℕ) → Type 0
AllNumbered [] = Unit {0}
AllNumbered (t ∷ ts) = Numbered t.1 × AllNumbered ts

first_numbered : (ts : List (Bool × ℕ)) → AllNumbered ts → Numbered (first ts 0)
first_numbered [] a = λ z. absurd (omega arith)
first_numbered (t ∷ ts) a = either t.0 t.1 (first ts 0) a.0 (first_numbered ts a.1)
  where
    either : (b : Bool) (n r : ℕ) → Numbered n → Numbered r → Numbered (pick b n r)
    either true n r x y = x
    either false n r x y = y

pub violation_number : (c d : Region) (code : List ℕ) (s : State) → 0 < violation c d code s → (21 ≤ violation c d code s) × (violation c d code s ≤ 27)
unfolding violation
violation_number c d code s = first_numbered (table c d code s) (λ z. omega arith, (λ z. omega arith, (λ z. omega arith, (λ z. omega arith, (λ z. omega arith, (λ z. omega arith, (λ z. omega arith, tt)))))))

-- A step that is stopped: which tests it passed, and the one that it broke
stopped_by : (a b c d e f g : Bool) (n : ℕ) → first ((a, 21) ∷ (b, 22) ∷ (c, 23) ∷ (d, 24) ∷ (e, 25) ∷ (f, 26) ∷ (g, 27) ∷ []) 0 ≡ n
    → (n ≡ 21 → a ≡ true) × (n ≡ 23 → (a ≡ false) × (b ≡ false) × (c ≡ true)) × (n ≡ 25 → (a ≡ false) × (b ≡ false) × (c ≡ false) × (e ≡ true))
stopped_by true b c d e f g n z = ((λ q. refl), (λ q. absurd (omega arith)), (λ q. absurd (omega arith)))
stopped_by false true c d e f g n z = ((λ q. absurd (omega arith)), (λ q. absurd (omega arith)), (λ q. absurd (omega arith)))
stopped_by false false true d e f g n z = ((λ q. absurd (omega arith)), (λ q. (refl, refl, refl)), (λ q. absurd (omega arith)))
stopped_by false false false true e f g n z = ((λ q. absurd (omega arith)), (λ q. absurd (omega arith)), (λ q. absurd (omega arith)))
stopped_by false false false false true f g n z = ((λ q. absurd (omega arith)), (λ q. absurd (omega arith)), (λ q. (refl, refl, refl, refl)))
stopped_by false false false false false true g n z = ((λ q. absurd (omega arith)), (λ q. absurd (omega arith)), (λ q. absurd (omega arith)))
stopped_by false false false false false false true n z = ((λ q. absurd (omega arith)), (λ q. absurd (omega arith)), (λ q. absurd (omega arith)))
stopped_by false false false false false false false n z = ((λ q. absurd (omega arith)), (λ q. absurd (omega arith)), (λ q. absurd (omega arith)))

module _ (c d : Region) (code : List ℕ) (s : State) where
  abbrev word : ℕ
  word = fetched c code s

  tests_of : (n : ℕ) → violation c d code s ≡ n
      → (n ≡ 21 → not (eqb (s.dpc % 4) 0) ≡ true)
      × (n ≡ 23 → (not (eqb (s.dpc % 4) 0) ≡ false) × (not (holds c s.dpc) ≡ false) × (illegal word ≡ true))
      × (n ≡ 25 → (not (eqb (s.dpc % 4) 0) ≡ false) × (not (holds c s.dpc) ≡ false) × (illegal word ≡ false) × (askew (act word s).0 ≡ true))
  unfolding violation
  tests_of n z =
      let e = (act word s).0 in
      stopped_by (not (eqb (s.dpc % 4) 0)) (not (holds c s.dpc)) (illegal word) (foreign word) (askew e) (outside d e) (mode_set e) n z

  pub at_21 : violation c d code s ≡ 21 → s.dpc % 4 ≡ 0 → ⊥
  at_21 z = eqb-false (s.dpc % 4) 0 (not-true (eqb (s.dpc % 4) 0) ((tests_of 21 z).0 refl))

  pub at_23 : violation c d code s ≡ 23 → (s.dpc % 4 ≡ 0) × (holds c s.dpc ≡ true) × (illegal word ≡ true)
  at_23 z =
      let t = (tests_of 23 z).1 refl in
      (eqb-true (s.dpc % 4) 0 (not-false (eqb (s.dpc % 4) 0) t.0), not-false (holds c s.dpc) t.1, t.2)

  pub at_25 : violation c d code s ≡ 25 → (s.dpc % 4 ≡ 0) × (holds c s.dpc ≡ true) × (illegal word ≡ false) × (askew (act word s).0 ≡ true)
  at_25 z =
      let t = (tests_of 25 z).2 refl in
      (eqb-true (s.dpc % 4) 0 (not-false (eqb (s.dpc % 4) 0) t.0), not-false (holds c s.dpc) t.1, t.2, t.3)
