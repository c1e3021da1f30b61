-- What a region holds, and test 10 in the paper's words: some address is in both regions.
use Rattle.std.proofs.Common.{◌≡◌, ℕ, ◌+◌, ◌-◌, ◌*◌, ◌/◌, ◌%◌, ◌<◌, ◌≤◌, Bool, true, false, ◌&&◌, ltb, List, get_or, sym, refl, ap, ◌∙◌, arith}
use Rattle.std.proofs.lemmas.Bool.{and_parts}
use Rattle.std.proofs.lemmas.Bool.Decides.{nat_tests}
use Rattle.words.specs.Fields.{pick}
use Rattle.words.proofs.Signed.{false_true}
use Rattle.machine.specs.declared.Machine.{Machine}
use Rattle.machine.specs.declared.Region.{Region}
use Rattle.machine.specs.Record.{LONGEST, MEMORY, holds, wrong_count_lem, unaligned_start_lem, past_memory_lem, later, overlap, word_at, image}

-- ---- What the tests 6, 8 and 9 leave of the regions

module _ (m : Machine) where
  pub right_count : wrong_count_lem m ≡ false → (m.code.words ≡ 0 → ⊥) × (m.code.words ≤ LONGEST) × (m.«data».words ≤ LONGEST)
  unfolding wrong_count_lem
  right_count e = grind (arith, nat_tests)

  pub aligned_starts : unaligned_start_lem m ≡ false → (m.code.start % 4 ≡ 0) × (m.«data».start % 4 ≡ 0)
  unfolding unaligned_start_lem
  aligned_starts e = grind (arith, nat_tests)

  pub in_memory : past_memory_lem m ≡ false → (m.code.start + 4 * m.code.words ≤ MEMORY) × (m.«data».start + 4 * m.«data».words ≤ MEMORY)
  unfolding past_memory_lem
  in_memory e = grind (arith, nat_tests)

-- ---- A region

pub holds_yes : (r : Region) (a : ℕ) → holds r a ≡ true → (r.start ≤ a) × (a < r.start + 4 * r.words)
holds_yes r a e = grind (arith, nat_tests)

pub holds_in : (r : Region) (a : ℕ) → r.start ≤ a → a < r.start + 4 * r.words → holds r a ≡ true
holds_in r a l h = grind (arith, nat_tests)

pub holds_out : (r : Region) (a : ℕ) → r.start + 4 * r.words ≤ a → holds r a ≡ false
holds_out r a l = grind (arith, nat_tests)

-- The place of an address in its region's list
pub placed : (r : Region) (a : ℕ) → holds r a ≡ true → (a - r.start) / 4 < r.words
placed r a e = let h = holds_yes r a e in omega arith

-- Word i is at s + 4i
pub word_at_lem : (r : Region) (ws : List ℕ) (i : ℕ) → word_at r ws (r.start + 4 * i) ≡ get_or ws i 0
unfolding word_at
word_at_lem r ws i = ap (λ (n : ℕ). get_or ws n 0) (let e : (r.start + 4 * i - r.start) / 4 ≡ i = omega arith in e)

-- ---- Both regions

-- Some address is in both
pub record Shared (m : Machine) : Type 0 where
  pub address : ℕ
  pub in_code : holds m.code address ≡ true
  pub in_data : holds m.«data» address ≡ true

-- No address is in both
abbrev pub Disjoint : Region → Region → Type 0
Disjoint c d = (a : ℕ) → holds c a ≡ true → holds d a ≡ true → ⊥

module _ (m : Machine) where
  -- Where an address is in both, so is the later of the two starts
  pub shared_overlaps : Shared m → overlap m ≡ true
  unfolding overlap
  shared_overlaps s = by (ltb m.code.start m.«data».start) refl (holds_yes m.code s.address s.in_code) (holds_yes m.«data» s.address s.in_data)
    where
      by : (t : Bool) → ltb m.code.start m.«data».start ≡ t
          → (m.code.start ≤ s.address) × (s.address < m.code.start + 4 * m.code.words)
          → (m.«data».start ≤ s.address) × (s.address < m.«data».start + 4 * m.«data».words)
          → (holds m.code (pick t m.«data».start m.code.start) && holds m.«data» (pick t m.«data».start m.code.start)) ≡ true
      by true e h k = grind (arith, nat_tests)
      by false e h k = grind (arith, nat_tests)

  pub overlaps_shared : overlap m ≡ true → Shared m
  unfolding overlap
  overlaps_shared e =
      let a = later m.code.start m.«data».start in
      record { address = a; in_code = (and_parts _ _ e).0; in_data = (and_parts _ _ e).1 }

  pub apart_disjoint : overlap m ≡ false → Disjoint m.code m.«data»
  apart_disjoint e a h k = false_true (sym e ∙ shared_overlaps (record { address = a; in_code = h; in_data = k }))

  pub disjoint_apart : Disjoint m.code m.«data» → overlap m ≡ false
  disjoint_apart d = by (overlap m) refl
    where
      by : (t : Bool) → overlap m ≡ t → t ≡ false
      by true e = let s = overlaps_shared e in absurd (d s.address s.in_code s.in_data)
      by false e = refl

  -- Never when D = 0, nor where C is
  empty_apart : (r : Region) (a : ℕ) → r.words ≡ 0 → holds r a ≡ true → ⊥
  empty_apart r a z h = let k = holds_yes r a h in omega arith

  pub no_data_apart : m.«data».words ≡ 0 → overlap m ≡ false
  no_data_apart z = disjoint_apart (λ a h k. empty_apart m.«data» a z k)

  pub no_code_apart : m.code.words ≡ 0 → overlap m ≡ false
  no_code_apart z = disjoint_apart (λ a h k. empty_apart m.code a z h)

-- ---- The image of both

module _ (c d : Region) (code ws : List ℕ) (a : ℕ) where
  pub image_code : holds c a ≡ true → image c d code ws a ≡ word_at c code a
  unfolding image
  image_code h = rw h

  pub image_data : Disjoint c d → holds d a ≡ true → image c d code ws a ≡ word_at d ws a
  unfolding image
  image_data n h = grind (arith, nat_tests, n a)

  pub image_else : holds c a ≡ false → holds d a ≡ false → image c d code ws a ≡ 0
  unfolding image
  image_else h k = rw (h, k)

  -- Where all words are below a bound, so are those of the image
  pub image_below : (n : ℕ) → 0 < n → ((i : ℕ) → get_or code i 0 < n) → ((i : ℕ) → get_or ws i 0 < n) → image c d code ws a < n
  unfolding image word_at
  image_below n z p q = by (holds c a) (holds d a)
    where
      by : (t u : Bool) → pick t (get_or code ((a - c.start) / 4) 0) (pick u (get_or ws ((a - d.start) / 4) 0) 0) < n
      by true u = p ((a - c.start) / 4)
      by false true = q ((a - d.start) / 4)
      by false false = z
