-- The line determines the ruling, and two results that meet a promise are equal.
use Prim.Native.Nat.{ℕ, zero, suc, ◌+◌, ◌-◌, ◌/◌, ◌%◌, ◌^◌, ◌≤◌, ◌<◌}
use mathlib.Core.Path.{◌≡◌, refl, sym, ap, ◌∙◌}
use mathlib.Core.Bool.{Bool, true, false}
use mathlib.Core.List.{List, [], ◌∷◌, ◌++◌}
use native.Mathlib.Nat.{pow-zero, pow-succ', one-le-pow, mod-one, mod-lt, mod-eq_of_lt, lt_of_lt_of_le}
use native.Mathlib.Omega.{arith}
use borrow.Author.Tests.{ltb-true, ltb-false, eqb-true}
use lib.Arith.{mod-mul}
use lib.Dec.{eqb, ltb}
use lib.ListN.{length, get_or, take, drop}
use lib.Seq.{take-append_seam}
use Rattle.words.specs.Fields.{pick}
use Rattle.checker.specs.declared.At.{At}
use Rattle.judge.specs.declared.Ruling.{Ruling}
use Rattle.judge.specs.declared.Ruling.TheVariants.{Refused, Accepted, Violation}
use Rattle.judge.specs.declared.lines.Line.{Line}
use Rattle.judge.specs.Digits.{glyph, digits, places}
use Rattle.judge.specs.Line.{decimal, hex, word_text, refused_text, accepted_text, violation_text, text_of, line_of}
use Rattle.judge.specs.Judging.{answer_of}
use Rattle.judge.proofs.Appending.{digits_length}

-- ---- Digits determine the number

glyph_decides : (a b : ℕ) → a < 16 → b < 16 → glyph a ≡ glyph b → a ≡ b
unfolding glyph
glyph_decides a b l k e = by (ltb a 10) (ltb b 10) refl refl
  where
    by : (s t : Bool) → ltb a 10 ≡ s → ltb b 10 ≡ t → a ≡ b
    by true true p q = let f = rw (p, q) at e in omega arith
    by true false p q = let f = rw (p, q) at e in let x = ltb-true a 10 p in let y = ltb-false b 10 q in absurd (omega arith)
    by false true p q = let f = rw (p, q) at e in let x = ltb-false a 10 p in let y = ltb-true b 10 q in absurd (omega arith)
    by false false p q = let f = rw (p, q) at e in let x = ltb-false a 10 p in let y = ltb-false b 10 q in omega arith

digits_decide : (b k n m : ℕ) → 0 < b → b ≤ 16 → digits b k n ≡ digits b k m → n % b ^ k ≡ m % b ^ k
unfolding digits
digits_decide b zero n m z l e = rw (pow-zero b) (mod-one n ∙ sym (mod-one m))
digits_decide b (suc k) n m z l e =
    let p : 0 < b ^ k = one-le-pow k b z in
    let g : n / b ^ k % b ≡ m / b ^ k % b =
    glyph_decides (n / b ^ k % b) (m / b ^ k % b) (lt_of_lt_of_le (mod-lt (n / b ^ k) z) l) (lt_of_lt_of_le (mod-lt (m / b ^ k) z) l) (cc) in
    let r : n % b ^ k ≡ m % b ^ k = digits_decide b k n m z l (cc) in
    rw (pow-succ' b k, mod-mul n z p, mod-mul m z p, g, r)

-- A number has as many digits as the table says
within : (t : Bool) (n b k r : ℕ) → ltb n b ≡ t → b ≡ 10 ^ k → n < 10 ^ r → n < 10 ^ pick t k r
within true n b k r e p h = rw (sym p) (ltb-true n b e)
within false n b k r e p h = h

pub places_hold : (n : ℕ) → n < 10 ^ 10 → n < 10 ^ places n
unfolding places
places_hold n h =
    within (ltb n 10) n 10 1 _ refl refl
    (within (ltb n 100) n 100 2 _ refl refl
    (within (ltb n 1000) n 1000 3 _ refl refl
    (within (ltb n 10000) n 10000 4 _ refl refl
    (within (ltb n 100000) n 100000 5 _ refl refl
    (within (ltb n 1000000) n 1000000 6 _ refl refl
    (within (ltb n 10000000) n 10000000 7 _ refl refl
    (within (ltb n 100000000) n 100000000 8 _ refl refl
    (within (ltb n 1000000000) n 1000000000 9 10 refl refl h))))))))

-- And no fewer hold it: no leading zeros
least : (t : Bool) (n b k r : ℕ) → ltb n b ≡ t → 10 ^ (k - 1) ≤ n → (b ≤ n → 10 ^ (r - 1) ≤ n) → 10 ^ (pick t k r - 1) ≤ n
least true n b k r e lo f = lo
least false n b k r e lo f = f (ltb-false n b e)

pub places_fewest : (n : ℕ) → 1 ≤ n → 10 ^ (places n - 1) ≤ n
unfolding places
places_fewest n h =
    least (ltb n 10) n 10 1 _ refl h
    (λ a. least (ltb n 100) n 100 2 _ refl a
    (λ b. least (ltb n 1000) n 1000 3 _ refl b
    (λ c. least (ltb n 10000) n 10000 4 _ refl c
    (λ d. least (ltb n 100000) n 100000 5 _ refl d
    (λ e. least (ltb n 1000000) n 1000000 6 _ refl e
    (λ f. least (ltb n 10000000) n 10000000 7 _ refl f
    (λ g. least (ltb n 100000000) n 100000000 8 _ refl g
    (λ i. least (ltb n 1000000000) n 1000000000 9 10 refl i (λ j. j)))))))))

pub decimal_decides : (n m : ℕ) → n < 2 ^ 32 → m < 2 ^ 32 → decimal n ≡ decimal m → n ≡ m
unfolding decimal
decimal_decides n m k l e =
    let p : places n ≡ places m = sym (digits_length 10 (places n) n) ∙ ap length e ∙ digits_length 10 (places m) m in
    let f : digits 10 (places m) n ≡ digits 10 (places m) m = ap (λ (x : ℕ). digits 10 x n) (sym p) ∙ e in
    let a : n < 10 ^ places m = rw (sym p) (places_hold n (omega arith)) in
    let b : m < 10 ^ places m = places_hold m (omega arith) in
    sym (mod-eq_of_lt a) ∙ digits_decide 10 (places m) n m (omega arith) (omega arith) f ∙ mod-eq_of_lt b

pub hex_decides : (n m : ℕ) → n < 2 ^ 32 → m < 2 ^ 32 → hex n ≡ hex m → n ≡ m
unfolding hex
hex_decides n m k l e =
    let a : n < 16 ^ 8 = omega arith in
    let b : m < 16 ^ 8 = omega arith in
    sym (mod-eq_of_lt a) ∙ digits_decide 16 8 n m (omega arith) (omega arith) e ∙ mod-eq_of_lt b

-- ---- A blank or the line's end ends what stands before it

abbrev Visible : List ℕ → Type 0
Visible [] = Unit {0}
Visible (x ∷ xs) = (32 < x) × Visible xs

glyph_visible : (d : ℕ) → 32 < glyph d
unfolding glyph
glyph_visible d = by (ltb d 10)
  where
    by : (t : Bool) → 32 < pick t (48 + d) (65 + (d - 10))
    by true = omega arith
    by false = omega arith

digits_visible : (b k n : ℕ) → Visible (digits b k n)
unfolding digits
digits_visible b zero n = tt
digits_visible b (suc k) n = (glyph_visible (n / b ^ k % b), digits_visible b k n)

pub decimal_visible : (n : ℕ) → Visible (decimal n)
unfolding decimal
decimal_visible n = digits_visible 10 (places n) n

hex_visible : (n : ℕ) → Visible (hex n)
unfolding hex
hex_visible n = digits_visible 16 8 n

word_visible : (v w : ℕ) → Visible (word_text v w)
unfolding word_text
word_visible v w = by (eqb v 21) (eqb v 22)
  where
    by : (s t : Bool) → Visible (pick s (45 ∷ []) (pick t (45 ∷ []) (hex w)))
    by true t = (omega arith, tt)
    by false true = (omega arith, tt)
    by false false = hex_visible w

pub split : (xs ys : List ℕ) (s : ℕ) (t u : List ℕ) → Visible xs → Visible ys → s ≤ 32 → xs ++ s ∷ t ≡ ys ++ s ∷ u → (xs ≡ ys) × (t ≡ u)
split [] [] s t u p q l e = (refl, cc)
split [] (y ∷ ys) s t u p q l e = let h : s ≡ y = cc in let k = q.0 in absurd (omega arith)
split (x ∷ xs) [] s t u p q l e = let h : x ≡ s = cc in let k = p.0 in absurd (omega arith)
split (x ∷ xs) (y ∷ ys) s t u p q l e =
    let h : x ≡ y = cc in
    let r = split xs ys s t u p.1 q.1 l (cc) in
    (rw (h, r.0), r.1)

-- ---- The theorem

-- A step's numbers have 32 bits, as their type has it
abbrev pub Words : At → Type 0
Words a = (a.step < 2 ^ 32) × (a.dpc < 2 ^ 32) × (a.word < 2 ^ 32)

pub at_same : (a b : At) → a.step ≡ b.step → a.dpc ≡ b.dpc → a.word ≡ b.word → a ≡ b
at_same a b p q r = fields p q r
  where
    fields : a.step ≡ b.step → a.dpc ≡ b.dpc → a.word ≡ b.word → ◌≡◌ {A = At} (record { step = a.step; dpc = a.dpc; word = a.word }) (record { step = b.step; dpc = b.dpc; word = b.word })
    fields p q r = rw (p, q, r)

-- Values of 32 bits, and word 0 for 21 and 22, whose line tells none: all that `judge` gives is so (Rulings)
abbrev pub Proper : Ruling → Type 0
Proper (Refused n) = n < 2 ^ 32
Proper (Accepted n d) = (n < 2 ^ 32) × (d < 2 ^ 32)
Proper (Violation v a) = (v < 2 ^ 32) × Words a × (v ≡ 21 → a.word ≡ 0) × (v ≡ 22 → a.word ≡ 0)

first_byte : (t u : List ℕ) → t ≡ u → get_or t 0 0 ≡ get_or u 0 0
first_byte t u e = ap (λ (x : List ℕ). get_or x 0 0) e

word_decides : (v w x : ℕ) → w < 2 ^ 32 → x < 2 ^ 32 → (v ≡ 21 → w ≡ 0) → (v ≡ 22 → w ≡ 0) → (v ≡ 21 → x ≡ 0) → (v ≡ 22 → x ≡ 0) → word_text v w ≡ word_text v x → w ≡ x
unfolding word_text
word_decides v w x k l a b c d e = by (eqb v 21) (eqb v 22) refl refl
  where
    by : (s t : Bool) → eqb v 21 ≡ s → eqb v 22 ≡ t → w ≡ x
    by true t p q = let h = eqb-true v 21 p in a h ∙ sym (c h)
    by false true p q = let h = eqb-true v 22 q in b h ∙ sym (d h)
    by false false p q = hex_decides w x k l (rw (p, q) at e)

pub text_decides : (r s : Ruling) → Proper r → Proper s → text_of r ≡ text_of s → r ≡ s
unfolding refused_text accepted_text violation_text
text_decides (Refused n) (Refused m) p q e =
    let a = split (decimal n) (decimal m) 10 [] [] (decimal_visible n) (decimal_visible m) (omega arith) (ap (λ (t : List ℕ). drop 8 t) e) in
    ap Refused (decimal_decides n m p q a.0)
text_decides (Refused n) (Accepted m d) p q e = let h = first_byte _ _ e in absurd (omega arith)
text_decides (Refused n) (Violation v a) p q e = let h = first_byte _ _ e in absurd (omega arith)
text_decides (Accepted n d) (Refused m) p q e = let h = first_byte _ _ e in absurd (omega arith)
text_decides (Accepted n d) (Accepted m c) p q e =
    let a = split (decimal n) (decimal m) 32 _ _ (decimal_visible n) (decimal_visible m) (omega arith) (ap (λ (t : List ℕ). drop 9 t) e) in
    let b = split (hex d) (hex c) 10 [] [] (hex_visible d) (hex_visible c) (omega arith) (ap (λ (t : List ℕ). drop 5 t) a.1) in
    let x = decimal_decides n m p.0 q.0 a.0 in
    let y = hex_decides d c p.1 q.1 b.0 in
    rw (x, y)
text_decides (Accepted n d) (Violation v a) p q e = let h = first_byte _ _ e in absurd (omega arith)
text_decides (Violation v a) (Refused n) p q e = let h = first_byte _ _ e in absurd (omega arith)
text_decides (Violation v a) (Accepted n c) p q e = let h = first_byte _ _ e in absurd (omega arith)
text_decides (Violation v a) (Violation v' a') p q e =
    let n = split (decimal v) (decimal v') 32 _ _ (decimal_visible v) (decimal_visible v') (omega arith) (ap (λ (t : List ℕ). drop 10 t) e) in
    let s = split (decimal a.step) (decimal a'.step) 32 _ _ (decimal_visible a.step) (decimal_visible a'.step) (omega arith) (ap (λ (t : List ℕ). drop 5 t) n.1) in
    let d = split (hex a.dpc) (hex a'.dpc) 32 _ _ (hex_visible a.dpc) (hex_visible a'.dpc) (omega arith) (ap (λ (t : List ℕ). drop 3 t) s.1) in
    let w = split (word_text v a.word) (word_text v' a'.word) 10 [] [] (word_visible v a.word) (word_visible v' a'.word) (omega arith) (ap (λ (t : List ℕ). drop 5 t) d.1) in
    let x : v ≡ v' = decimal_decides v v' p.0 q.0 n.0 in
    let y : a.step ≡ a'.step = decimal_decides a.step a'.step p.1.0 q.1.0 s.0 in
    let z : a.dpc ≡ a'.dpc = hex_decides a.dpc a'.dpc p.1.1 q.1.1 d.0 in
    let g : word_text v a.word ≡ word_text v a'.word = w.0 ∙ ap (λ (i : ℕ). word_text i a'.word) (sym x) in
    let o : a.word ≡ a'.word = word_decides v a.word a'.word p.1.2 q.1.2 p.2 p.3 (λ i. q.2 (sym x ∙ i)) (λ i. q.3 (sym x ∙ i)) g in
    let b : a ≡ a' = at_same a a' y z o in
    rw (x, b)

-- The same of the lines themselves
pub line_text : (t u : List ℕ) → line_of t ≡ line_of u → t ≡ u
unfolding line_of
line_text t u e =
    sym (take-append_seam t _) ∙ ap (λ (l : Line). take l.len l.bytes) e ∙ take-append_seam u _

pub line_decides : (r s : Ruling) (l m : Line) → Proper r → Proper s → l ≡ line_of (text_of r) → m ≡ line_of (text_of s) → l ≡ m → r ≡ s
line_decides r s l m p q e f g = text_decides r s p q (line_text (text_of r) (text_of s) (sym e ∙ g ∙ f))

-- ---- Two results that meet a promise are equal

-- The promise of `line` says which line it is
pub line_unique : (t : List ℕ) (l m : Line) → l ≡ line_of t → m ≡ line_of t → l ≡ m
line_unique t l m p q = p ∙ sym q

value : (i : ℕ) (o q : ℕ × List ℕ) → o ≡ q → get_or o.1 i 0 ≡ get_or q.1 i 0
value i o q e = ap (λ (r : ℕ × List ℕ). get_or r.1 i 0) e

number : (o q : ℕ × List ℕ) → o ≡ q → o.0 ≡ q.0
number o q e = ap (λ (r : ℕ × List ℕ). r.0) e

values : (o q : ℕ × List ℕ) → o ≡ q → length o.1 ≡ length q.1
values o q e = ap (λ (r : ℕ × List ℕ). length r.1) e

pub answer_decides : (r s : Ruling) → answer_of r ≡ answer_of s → r ≡ s
answer_decides (Refused n) (Refused m) e = ap Refused (number _ _ e)
answer_decides (Refused n) (Accepted k d) e = let z = values _ _ e in absurd (omega arith)
answer_decides (Refused n) (Violation v a) e = let z = values _ _ e in absurd (omega arith)
answer_decides (Accepted k d) (Refused n) e = let z = values _ _ e in absurd (omega arith)
answer_decides (Accepted k d) (Accepted k' d') e = let x = value 0 _ _ e in let y = value 1 _ _ e in rw (x, y)
answer_decides (Accepted k d) (Violation v a) e = let z = values _ _ e in absurd (omega arith)
answer_decides (Violation v a) (Refused n) e = let z = values _ _ e in absurd (omega arith)
answer_decides (Violation v a) (Accepted k' d') e = let z = values _ _ e in absurd (omega arith)
answer_decides (Violation v a) (Violation v' a') e =
    let p = number _ _ e in let b = at_same a a' (value 0 _ _ e) (value 1 _ _ e) (value 2 _ _ e) in rw (p, b)

-- The promise of `judge` is an equation of this form
pub judge_unique : (r s : Ruling) (o : ℕ × List ℕ) → answer_of r ≡ o → answer_of s ≡ o → r ≡ s
judge_unique r s o p q = answer_decides r s (p ∙ sym q)
