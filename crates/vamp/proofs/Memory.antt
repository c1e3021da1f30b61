-- The laws of double-word memory, each over any number of bits.
use Prim.Native.Nat.{ℕ, ◌+◌, ◌-◌, ◌*◌, ◌/◌, ◌%◌, ◌^◌, ◌≤◌, ◌<◌}
use mathlib.Core.Path.{◌≡◌, refl, sym, ap, ap₂, subst, ◌∙◌}
use mathlib.Core.Bool.{Bool, true, false}
use mathlib.Core.List.{List}
use native.Mathlib.Nat.{mod-lt, mul_comm, add_comm}
use native.Mathlib.Omega.{arith}
use borrow.Author.Tests.{eqb-true, eqb-false, ltb-true, ltb-false}
use lib.Arith.{digits_lt}
use lib.Dec.{eqb, ltb}
use lib.ListN.{get_or, length, length-set}
use lib.Pow.{pow_pos, pow-add, shr_lt, shr-shr, high, low, field, mod-mod-pow, mod-pow-add}
use lib.Seq.{get_or-set_same, get_or-set_other, set_out}
use Rattle.words.specs.Fields.{pick}
use Rattle.machine.specs.Record.{DOUBLE_WORDS, MEMORY}
use Rattle.vamp.specs.Memory.{part, patch, at, put}

-- ---- One double word

-- A part is a number of its bits
pub part_below : (b k x : ℕ) → part b k x < 2 ^ b
unfolding part
part_below b k x = mod-lt (x / 2 ^ (8 * k)) (pow_pos b)

-- What was put is there
pub part_same : (b k x v : ℕ) → part b k (patch b k x v) ≡ v % 2 ^ b
unfolding part patch
part_same b k x v =
    ap (λ (y : ℕ). y % 2 ^ b) (high (x / 2 ^ (8 * k + b) * 2 ^ b + v % 2 ^ b) (8 * k) (mod-lt x (pow_pos (8 * k))))
    ∙ low (x / 2 ^ (8 * k + b)) b (mod-lt v (pow_pos b))

-- What stands below the part, and what stands above it, is kept
below_kept : (b k x v : ℕ) → patch b k x v % 2 ^ (8 * k) ≡ x % 2 ^ (8 * k)
unfolding patch
below_kept b k x v = low (x / 2 ^ (8 * k + b) * 2 ^ b + v % 2 ^ b) (8 * k) (mod-lt x (pow_pos (8 * k)))

above_kept : (b k x v : ℕ) → patch b k x v / 2 ^ (8 * k + b) ≡ x / 2 ^ (8 * k + b)
unfolding patch
above_kept b k x v =
    sym (shr-shr (patch b k x v) (8 * k) b)
    ∙ ap (λ (y : ℕ). y / 2 ^ b) (high (x / 2 ^ (8 * k + b) * 2 ^ b + v % 2 ^ b) (8 * k) (mod-lt x (pow_pos (8 * k))))
    ∙ high (x / 2 ^ (8 * k + b)) b (mod-lt v (pow_pos b))

-- A part that lies wholly below n bits is one of the number's low n bits; one that lies wholly above them is one of what is left
of_low : (b k n x : ℕ) → 8 * k + b ≤ n → part b k x ≡ x % 2 ^ n % 2 ^ (b + 8 * k) / 2 ^ (8 * k)
unfolding part
of_low b k n x l =
    sym (field x b (8 * k))
    ∙ ap (λ (y : ℕ). y / 2 ^ (8 * k)) (sym (ap (λ (m : ℕ). x % 2 ^ m % 2 ^ (b + 8 * k)) (let e : n ≡ n - (b + 8 * k) + (b + 8 * k) = omega arith in e) ∙ mod-mod-pow x (n - (b + 8 * k)) (b + 8 * k)))

of_high : (b k n x : ℕ) → n ≤ 8 * k → part b k x ≡ x / 2 ^ n / 2 ^ (8 * k - n) % 2 ^ b
unfolding part
of_high b k n x l =
    ap (λ (m : ℕ). x / 2 ^ m % 2 ^ b) (let e : 8 * k ≡ n + (8 * k - n) = omega arith in e) ∙ ap (λ (y : ℕ). y % 2 ^ b) (sym (shr-shr x n (8 * k - n)))

-- A part below it, and a part above it, is unchanged
pub part_below_same : (b k x v b' k' : ℕ) → 8 * k' + b' ≤ 8 * k → part b' k' (patch b k x v) ≡ part b' k' x
part_below_same b k x v b' k' l =
    of_low b' k' (8 * k) (patch b k x v) l
    ∙ ap (λ (y : ℕ). y % 2 ^ (b' + 8 * k') / 2 ^ (8 * k')) (below_kept b k x v)
    ∙ sym (of_low b' k' (8 * k) x l)

pub part_above_same : (b k x v b' k' : ℕ) → 8 * k + b ≤ 8 * k' → part b' k' (patch b k x v) ≡ part b' k' x
part_above_same b k x v b' k' l =
    of_high b' k' (8 * k + b) (patch b k x v) l
    ∙ ap (λ (y : ℕ). y / 2 ^ (8 * k' - (8 * k + b)) % 2 ^ b') (above_kept b k x v)
    ∙ sym (of_high b' k' (8 * k + b) x l)

-- A double word stays one
digits : (j k : ℕ) {q r : ℕ} → q < 2 ^ j → r < 2 ^ k → q * 2 ^ k + r < 2 ^ (j + k)
digits j k {q} {r} h l = subst (λ (m : ℕ). q * 2 ^ k + r < m) (sym (pow-add 2 j k)) (digits_lt h l)

pub patch_below : (b k n x v : ℕ) → x < 2 ^ n → 8 * k + b ≤ n → patch b k x v < 2 ^ n
unfolding patch
patch_below b k n x v h l =
    let e : n - (8 * k + b) + (8 * k + b) ≡ n = omega arith in
    let f : n - (8 * k + b) + b + 8 * k ≡ n = omega arith in
    subst (λ (m : ℕ). patch b k x v < 2 ^ m) f
    (digits (n - (8 * k + b) + b) (8 * k)
    (digits (n - (8 * k + b)) b (shr_lt (n - (8 * k + b)) (8 * k + b) (subst (λ (m : ℕ). x < 2 ^ m) (sym e) h)) (mod-lt v (pow_pos b)))
    (mod-lt x (pow_pos (8 * k))))

-- The part that begins with j bytes: these bytes, and the rest
pub part_split : (j b k x : ℕ) → part (b + 8 * j) k x ≡ part (8 * j) k x + 2 ^ (8 * j) * part b (k + j) x
unfolding part
part_split j b k x =
    mod-pow-add (x / 2 ^ (8 * k)) b (8 * j)
    ∙ ap (λ (y : ℕ). y % 2 ^ b * 2 ^ (8 * j) + x / 2 ^ (8 * k) % 2 ^ (8 * j)) (shr-shr x (8 * k) (8 * j) ∙ ap (λ (m : ℕ). x / 2 ^ m) (let e : 8 * k + 8 * j ≡ 8 * (k + j) = omega arith in e))
    ∙ add_comm (x / 2 ^ (8 * (k + j)) % 2 ^ b * 2 ^ (8 * j)) (x / 2 ^ (8 * k) % 2 ^ (8 * j))
    ∙ ap (λ (y : ℕ). x / 2 ^ (8 * k) % 2 ^ (8 * j) + y) (mul_comm (x / 2 ^ (8 * (k + j)) % 2 ^ b) (2 ^ (8 * j)))

-- Four bytes
pub part_bytes : (k x : ℕ) → part 32 k x ≡ part 8 k x + 2 ^ 8 * part 8 (k + 1) x + 2 ^ 16 * part 8 (k + 2) x + 2 ^ 24 * part 8 (k + 3) x
part_bytes k x =
    let p : part 32 k x ≡ part 8 k x + 2 ^ 8 * part 24 (k + 1) x = part_split 1 24 k x in
    let q : part 24 (k + 1) x ≡ part 8 (k + 1) x + 2 ^ 8 * part 16 (k + 1 + 1) x = part_split 1 16 (k + 1) x in
    let r : part 16 (k + 2) x ≡ part 8 (k + 2) x + 2 ^ 8 * part 8 (k + 2 + 1) x = part_split 1 8 (k + 2) x in
    let q' : part 16 (k + 1 + 1) x ≡ part 16 (k + 2) x = ap (λ (m : ℕ). part 16 m x) (omega arith) in
    let r' : part 8 (k + 2 + 1) x ≡ part 8 (k + 3) x = ap (λ (m : ℕ). part 8 m x) (omega arith) in
    omega arith

-- ---- Memory

-- The length is kept
pub put_length : (b : ℕ) (mem : List ℕ) (a v : ℕ) → length (put b mem a v) ≡ length mem
put_length b mem a v = length-set mem (a / 8) (patch b (a % 8) (get_or mem (a / 8) 0) v)

-- What was put is there
pub at_same : (b : ℕ) (mem : List ℕ) (a v : ℕ) → a / 8 < length mem → at b (put b mem a v) a ≡ v % 2 ^ b
at_same b mem a v l =
    ap (part b (a % 8)) (get_or-set_same mem (a / 8) (patch b (a % 8) (get_or mem (a / 8) 0) v) 0 l) ∙ part_same b (a % 8) (get_or mem (a / 8) 0) v

module _ (b b' : ℕ) (mem : List ℕ) (a a' v : ℕ) where
  -- Another double word is unchanged
  other : (a' / 8 ≡ a / 8 → ⊥) → at b' (put b mem a v) a' ≡ at b' mem a'
  other d = ap (part b' (a' % 8)) (get_or-set_other mem (a / 8) (a' / 8) (patch b (a % 8) (get_or mem (a / 8) 0) v) 0 d)

  -- So is what stands apart in the same one
  near : a' / 8 ≡ a / 8 → ((x : ℕ) → part b' (a' % 8) (patch b (a % 8) x v) ≡ part b' (a' % 8) x) → at b' (put b mem a v) a' ≡ at b' mem a'
  near e f = by (ltb (a / 8) (length mem)) refl
    where
      by : (t : Bool) → ltb (a / 8) (length mem) ≡ t → at b' (put b mem a v) a' ≡ at b' mem a'
      by true t =
          ap (λ (i : ℕ). part b' (a' % 8) (get_or (put b mem a v) i 0)) e
          ∙ ap (part b' (a' % 8)) (get_or-set_same mem (a / 8) (patch b (a % 8) (get_or mem (a / 8) 0) v) 0 (ltb-true (a / 8) (length mem) t))
          ∙ f (get_or mem (a / 8) 0)
          ∙ ap (λ (i : ℕ). part b' (a' % 8) (get_or mem i 0)) (sym e)
      by false t = ap (λ (m : List ℕ). at b' m a') (set_out mem (a / 8) (patch b (a % 8) (get_or mem (a / 8) 0) v) (ltb-false (a / 8) (length mem) t))

  -- What shares no byte with it is unchanged: b' bits at a' that end before the b bits at a, or begin after them
  pub at_before : 8 * a' + b' ≤ 8 * a → at b' (put b mem a v) a' ≡ at b' mem a'
  at_before l = by (eqb (a' / 8) (a / 8)) refl
    where
      by : (t : Bool) → eqb (a' / 8) (a / 8) ≡ t → at b' (put b mem a v) a' ≡ at b' mem a'
      by true t =
          let e : a' / 8 ≡ a / 8 = eqb-true (a' / 8) (a / 8) t in
          near e (λ x. part_below_same b (a % 8) x v b' (a' % 8) (omega arith))
      by false t = other (eqb-false (a' / 8) (a / 8) t)

  pub at_after : 8 * a + b ≤ 8 * a' → at b' (put b mem a v) a' ≡ at b' mem a'
  at_after l = by (eqb (a' / 8) (a / 8)) refl
    where
      by : (t : Bool) → eqb (a' / 8) (a / 8) ≡ t → at b' (put b mem a v) a' ≡ at b' mem a'
      by true t =
          let e : a' / 8 ≡ a / 8 = eqb-true (a' / 8) (a / 8) t in
          near e (λ x. part_above_same b (a % 8) x v b' (a' % 8) (omega arith))
      by false t = other (eqb-false (a' / 8) (a / 8) t)

-- Words: the one that was put, and every other one
pub at_word : (mem : List ℕ) (a ea v : ℕ) → length mem ≡ DOUBLE_WORDS → a % 4 ≡ 0 → ea % 4 ≡ 0 → ea < MEMORY
    → at 32 (put 32 mem ea v) a ≡ pick (eqb a ea) (v % 2 ^ 32) (at 32 mem a)
at_word mem a ea v len ha he l = by (eqb a ea) refl (ltb a ea) refl
  where
    by : (t : Bool) → eqb a ea ≡ t → (u : Bool) → ltb a ea ≡ u → at 32 (put 32 mem ea v) a ≡ pick t (v % 2 ^ 32) (at 32 mem a)
    by true t u d = ap (λ (i : ℕ). at 32 (put 32 mem ea v) i) (eqb-true a ea t) ∙ at_same 32 mem ea v (omega arith)
    by false t true d = let p : a < ea = ltb-true a ea d in at_before 32 32 mem ea a v (omega arith)
    by false t false d =
        let p : ea ≤ a = ltb-false a ea d in
        let q : a ≡ ea → ⊥ = eqb-false a ea t in
        at_after 32 32 mem ea a v (omega arith)

-- A word is its four bytes
pub at_bytes : (mem : List ℕ) (a : ℕ) → a % 4 ≡ 0 → at 32 mem a ≡ at 8 mem a + 2 ^ 8 * at 8 mem (a + 1) + 2 ^ 16 * at 8 mem (a + 2) + 2 ^ 24 * at 8 mem (a + 3)
at_bytes mem a h =
    let p = part_bytes (a % 8) (get_or mem (a / 8) 0) in
    let one : at 8 mem (a + 1) ≡ part 8 (a % 8 + 1) (get_or mem (a / 8) 0) = near_by 1 (omega arith) in
    let two : at 8 mem (a + 2) ≡ part 8 (a % 8 + 2) (get_or mem (a / 8) 0) = near_by 2 (omega arith) in
    let three : at 8 mem (a + 3) ≡ part 8 (a % 8 + 3) (get_or mem (a / 8) 0) = near_by 3 (omega arith) in
    omega arith
  where
    near_by : (i : ℕ) → i < 4 → at 8 mem (a + i) ≡ part 8 (a % 8 + i) (get_or mem (a / 8) 0)
    near_by i l = ap₂ (λ (k j : ℕ). part 8 k (get_or mem j 0)) (let e : (a + i) % 8 ≡ a % 8 + i = omega arith in e) (let e : (a + i) / 8 ≡ a / 8 = omega arith in e)

-- Every double word stays one
pub put_below : (b n : ℕ) (mem : List ℕ) (a v : ℕ) → 8 * (a % 8) + b ≤ n → ((i : ℕ) → get_or mem i 0 < 2 ^ n) → (i : ℕ) → get_or (put b mem a v) i 0 < 2 ^ n
put_below b n mem a v l h i = by (eqb i (a / 8)) refl (ltb (a / 8) (length mem)) refl
  where
    x : ℕ
    x = patch b (a % 8) (get_or mem (a / 8) 0) v

    by : (t : Bool) → eqb i (a / 8) ≡ t → (u : Bool) → ltb (a / 8) (length mem) ≡ u → get_or (put b mem a v) i 0 < 2 ^ n
    by true t true u = rw (eqb-true i (a / 8) t, get_or-set_same mem (a / 8) x 0 (ltb-true (a / 8) (length mem) u)) (patch_below b (a % 8) n (get_or mem (a / 8) 0) v (h (a / 8)) l)
    by true t false u = rw (set_out mem (a / 8) x (ltb-false (a / 8) (length mem) u)) (h i)
    by false t u w = rw (get_or-set_other mem (a / 8) i x 0 (eqb-false i (a / 8) t)) (h i)
