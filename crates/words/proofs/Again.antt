-- A legal word, read and made again, gives that word with its unused fields zero.
use Prim.Native.Nat.{ℕ, suc, ◌-◌, ◌*◌, ◌%◌, ◌^◌, ◌≤◌, ◌<◌}
use mathlib.Core.Path.{◌≡◌, refl, sym, ap, ◌∙◌}
use mathlib.Core.Bool.{Bool, true, false}
use mathlib.Core.List.{List, [], ◌∷◌, map}
use mathlib.Core.Option.{Option, some}
use native.Mathlib.Nat.{zero-add}
use native.Mathlib.Omega.{arith}
use borrow.Author.Tests.{ltb-true, ltb-false, eqb-true}
use lib.Dec.{ltb, eqb}
use lib.IntN.{ℤ}
use lib.Signed.{mag}
use Rattle.words.specs.Fields.{pick, opcode, function, field, rs1, second, third, amount, signed, immediate16, immediate26}
use Rattle.words.specs.Words.{Field, used, unused, Form, form_r, form_i, form_j, form, instructions, reading, among, numbered, making, laid, small, ranged, number, modulus, kept, cleared}
use Rattle.words.specs.declared.Instruction.{Instruction}
use Rattle.words.proofs.Signed.{signed_low, signed_high, ranged_yes}
use Rattle.words.proofs.Numbering.{filled, both}

-- A field with another value, where it is used
abbrev at : {A : Type 0} → Field A → A → Field A
at (used v) x = used x
at unused x = unused

-- A form with the fields of a word
abbrev refit : Form → ℕ → Form
refit (form_r a b d s n) w = form_r (at a (rs1 w)) (at b (second w)) (at d (third w)) (at s (amount w)) n
refit (form_i n a d m) w = form_i n (at a (rs1 w)) (at d (second w)) (at m (immediate16 w))
refit (form_j n m) w = form_j n (at m (immediate26 w))

filled_form : (i : Instruction) (w : ℕ) → form (filled i w) ≡ refit (form i) w
filled_form i w = grind arith

-- A field of five bits is below 32, and a two's complement field is in its range and comes back
at_small : (a : Field ℕ) (k w : ℕ) → small (at a (field k w)) ≡ true
unfolding field
at_small a k w = grind arith

at_number : (a : Field ℕ) (x : ℕ) → number (at a x) ≡ kept a x
at_number a x = grind arith

-- What a field of the range means lies in the range, and modulo the range it is the field
module _ (k x : ℕ) (b : x < 2 * suc k) where
  signed_mag : mag (signed (suc k) x) ≤ k
  signed_mag = by (ltb x (suc k)) refl
    where
      by : (t : Bool) → ltb x (suc k) ≡ t → mag (signed (suc k) x) ≤ k
      by true e = let l : x < suc k = ltb-true x (suc k) e in rw (signed_low (suc k) x l) (omega arith)
      by false e = let l : suc k ≤ x = ltb-false x (suc k) e in rw (signed_high (suc k) x (2 * suc k - suc x) l (omega arith)) (omega arith)

  signed_modulus : modulus (2 * suc k) (used (signed (suc k) x)) ≡ x
  signed_modulus = by (ltb x (suc k)) refl
    where
      by : (t : Bool) → ltb x (suc k) ≡ t → modulus (2 * suc k) (used (signed (suc k) x)) ≡ x
      by true e = rw (signed_low (suc k) x (ltb-true x (suc k) e))
      by false e =
          let l : suc k ≤ x = ltb-false x (suc k) e in
          rw (signed_high (suc k) x (2 * suc k - suc x) l (omega arith)) (omega arith)

  at_ranged : (m : Field ℤ) → ranged (suc k) (at m (signed (suc k) x)) ≡ true
  at_ranged (used v) = ranged_yes k (signed (suc k) x) signed_mag
  at_ranged unused = refl

  at_modulus : (m : Field ℤ) → modulus (2 * suc k) (at m (signed (suc k) x)) ≡ kept m x
  at_modulus (used v) = signed_modulus
  at_modulus unused = refl

-- A form refitted with the fields of a word that has its number is laid out as that word, cleared
refit_laid : (f : Form) (w : ℕ) → numbered (opcode w) (function w) f ≡ true → laid (refit f w) ≡ (0, some (cleared f w))
unfolding laid immediate16 immediate26
refit_laid (form_r a b d s n) w e =
    let p = both (eqb (opcode w) 0) (eqb (function w) n) e in
    simp (at_small, at_number, eqb-true (opcode w) 0 p.0, eqb-true (function w) n p.1, zero-add)
refit_laid (form_i n a d m) w e = simp (at_small, at_number, at_ranged 32767 (w % 2 ^ 16) (omega arith), at_modulus 32767 (w % 2 ^ 16) (omega arith), eqb-true (opcode w) n e)
refit_laid (form_j n m) w e = simp (at_ranged 33554431 (w % 2 ^ 26) (omega arith), at_modulus 33554431 (w % 2 ^ 26) (omega arith), eqb-true (opcode w) n e)

-- What reading finds has the word's number and the word's fields
abbrev Own : ℕ → List Instruction → Type 0
Own w [] = Unit {0}
Own w (i ∷ is) = (filled i w ≡ i) × Own w is

found : (w : ℕ) (is : List Instruction) (i : Instruction) → Own w is → among (opcode w) (function w) is ≡ (0, some i)
    → (numbered (opcode w) (function w) (form i) ≡ true) × (filled i w ≡ i)
found w [] i own e = grind arith
found w (j ∷ is) i own e = by (numbered (opcode w) (function w) (form j)) refl (found w is i own.1) e
  where
    by : (t : Bool) → numbered (opcode w) (function w) (form j) ≡ t
        → (among (opcode w) (function w) is ≡ (0, some i) → (numbered (opcode w) (function w) (form i) ≡ true) × (filled i w ≡ i))
        → pick {A = ℕ × Option Instruction} t (0, some j) (among (opcode w) (function w) is) ≡ (0, some i)
        → (numbered (opcode w) (function w) (form i) ≡ true) × (filled i w ≡ i)
    by true n next e =
        let s : some j ≡ some i = ap (λ (p : ℕ × Option Instruction). p.1) e in
        let q : j ≡ i = cc in
        (rw q at n, rw q at own.0)
    by false n next e = next e

-- Each of the 58 has the word's fields
twice : (i : Instruction) (w : ℕ) → filled (filled i w) w ≡ filled i w
twice i w = grind arith

all_own : (w : ℕ) (is : List Instruction) → Own w (map (λ i. filled i w) is)
all_own w [] = tt
all_own w (i ∷ is) = (twice i w, all_own w is)

own_fields : (w : ℕ) → Own w (instructions w)
own_fields w = all_own w (instructions w)

-- What reading gives has the word's number and the word's fields
pub read_numbered : (w : ℕ) (i : Instruction) → reading w ≡ (0, some i) → numbered (opcode w) (function w) (form i) ≡ true
unfolding reading
read_numbered w i e = (found w (instructions w) i (own_fields w) e).0

pub read_filled : (w : ℕ) (i : Instruction) → reading w ≡ (0, some i) → filled i w ≡ i
unfolding reading
read_filled w i e = (found w (instructions w) i (own_fields w) e).1

-- A legal word, read and made again, is that word with its unused fields zero
pub again : (w : ℕ) (i : Instruction) → reading w ≡ (0, some i) → making i ≡ (0, some (cleared (form i) w))
unfolding reading
again w i e =
    let p = found w (instructions w) i (own_fields w) e in
    ap (λ (j : Instruction). laid (form j)) (sym p.1) ∙ ap laid (filled_form i w) ∙ refit_laid (form i) w p.0
