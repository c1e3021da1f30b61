-- The relation between the two machines, and the memory's share of it: a word load and a word store on the data list are those on double words.
use Prim.Native.Nat.{ℕ, ◌+◌, ◌-◌, ◌*◌, ◌/◌, ◌%◌, ◌^◌, ◌≤◌, ◌<◌}
use mathlib.Core.Path.{◌≡◌, refl, sym, ap, ◌∙◌}
use mathlib.Core.Bool.{Bool, true, false}
use mathlib.Core.List.{List}
use native.Mathlib.Nat.{mod-eq_of_lt}
use native.Mathlib.Omega.{arith}
use borrow.Author.Tests.{eqb-true, eqb-false}
use lib.Dec.{eqb}
use lib.ListN.{set, length}
use lib.Seq.{get_or-set_same, get_or-set_other}
use Rattle.words.specs.Fields.{pick}
use Rattle.machine.specs.declared.Region.{Region}
use Rattle.machine.specs.Effects.{State}
use Rattle.machine.specs.Record.{DOUBLE_WORDS, MEMORY, holds, word_at, image}
use Rattle.machine.proofs.Bounds.{Words}
use Rattle.machine.proofs.Regions.{Disjoint, holds_yes, image_code, image_data, image_else}
use Rattle.vamp.specs.Memory.{at, put}
use Rattle.vamp.proofs.Memory.{at_word}

-- Where the regions of a record that was loaded lie
pub record Laid (c d : Region) : Type 0 where
  pub code_in : c.start + 4 * c.words ≤ MEMORY
  pub data_in : d.start + 4 * d.words ≤ MEMORY
  pub code_even : c.start % 4 ≡ 0
  pub data_even : d.start % 4 ≡ 0
  pub apart : Disjoint c d

-- Memory is the image of code and data, at every word
abbrev pub Image : Region → Region → List ℕ → List ℕ → List ℕ → Type 0
Image c d code ws mem = (a : ℕ) → a % 4 ≡ 0 → a < MEMORY → at 32 mem a ≡ image c d code ws a

-- The one relation: the same state, memory the image of code and data, and words in all registers
pub record Same (c d : Region) (code : List ℕ) (x y : State × List ℕ) : Type 0 where
  pub state : y.0 ≡ x.0
  pub size : length y.1 ≡ DOUBLE_WORDS
  pub room : d.words ≤ length x.1
  pub memory : Image c d code x.1 y.1
  pub general : Words x.0.gpr
  pub special : Words x.0.spr

module _ (c d : Region) (l : Laid c d) (code ws mem : List ℕ) (i : Image c d code ws mem) where
  -- A fetch in the code region finds the code's word
  pub fetch_same : (a : ℕ) → a % 4 ≡ 0 → holds c a ≡ true → at 32 mem a ≡ word_at c code a
  fetch_same a e h = i a e (let p = holds_yes c a h in let q = l.code_in in omega arith) ∙ image_code c d code ws a h

  -- A load in the data region finds the data's word
  pub load_same : (a : ℕ) → a % 4 ≡ 0 → holds d a ≡ true → at 32 mem a ≡ word_at d ws a
  load_same a e h = i a e (let p = holds_yes d a h in let q = l.data_in in omega arith) ∙ image_data c d code ws a l.apart h

  -- After a store of a word there, memory is the image of the code and the data with that word
  module _ (ea v : ℕ) (e : ea % 4 ≡ 0) (h : holds d ea ≡ true) (small : v < 2 ^ 32) (room : d.words ≤ length ws) (size : length mem ≡ DOUBLE_WORDS) where
    place : (d.start ≤ ea) × (ea < d.start + 4 * d.words)
    place = holds_yes d ea h

    abbrev stored : List ℕ
    stored = set ws ((ea - d.start) / 4) v

    there : image c d code stored ea ≡ v
    unfolding word_at
    there = image_data c d code stored ea l.apart h ∙ get_or-set_same {A = ℕ} ws ((ea - d.start) / 4) v 0 (let p = place in omega arith)

    apart_words : (a : ℕ) → a % 4 ≡ 0 → (a ≡ ea → ⊥) → holds d a ≡ true → word_at d stored a ≡ word_at d ws a
    unfolding word_at
    apart_words a f n q =
        get_or-set_other {A = ℕ} ws ((ea - d.start) / 4) ((a - d.start) / 4) v 0
        (λ z. let p = place in let r = holds_yes d a q in let s = l.data_even in n (omega arith))

    elsewhere : (a : ℕ) → a % 4 ≡ 0 → (a ≡ ea → ⊥) → image c d code stored a ≡ image c d code ws a
    elsewhere a f n = by (holds c a) refl (holds d a) refl
      where
        by : (t : Bool) → holds c a ≡ t → (u : Bool) → holds d a ≡ u → image c d code stored a ≡ image c d code ws a
        by true p u q = image_code c d code stored a p ∙ sym (image_code c d code ws a p)
        by false p false q = image_else c d code stored a p q ∙ sym (image_else c d code ws a p q)
        by false p true q = image_data c d code stored a l.apart q ∙ apart_words a f n q ∙ sym (image_data c d code ws a l.apart q)

    pub store_same : Image c d code stored (put 32 mem ea v)
    store_same a f b = at_word mem a ea v size f e (let p = place in let q = l.data_in in omega arith) ∙ by (eqb a ea) refl
      where
        by : (t : Bool) → eqb a ea ≡ t → pick t (v % 2 ^ 32) (at 32 mem a) ≡ image c d code stored a
        by true p = mod-eq_of_lt small ∙ sym there ∙ ap (image c d code stored) (sym (eqb-true a ea p))
        by false p = i a f b ∙ sym (elsewhere a f (eqb-false a ea p))
