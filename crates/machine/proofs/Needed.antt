-- Document 02, request Six: each register that a word is said to read is needed: two files that differ in it alone lead to another effect or another next PC'.
use Rattle.std.proofs.Common.{◌≡◌, ℕ, ◌+◌, ◌*◌, ◌^◌, Bool, true, false, not, ◌&&◌, ◌||◌, eqb, List, [], ◌∷◌, set, replicate, refl}
use Rattle.words.specs.Fields.{pick, field, immediate16, immediate26}
use Rattle.words.specs.Words.{instructions}
use Rattle.words.specs.Touches.{touches}
use Rattle.words.specs.declared.Instruction.{Instruction}
use Rattle.arithmetic.specs.Rulings.{plus, minus, sext, high, shifted, satisfies}
use Rattle.machine.specs.declared.Effect.{Effect}
use Rattle.machine.specs.declared.Effect.TheVariants as does
use Rattle.machine.specs.Effects.{SR, register, meaning, applied, put_special}
use Rattle.machine.proofs.Touched.{sources}

-- Some number, or each, of a list passes a test
abbrev some_of : {A : Type 0} → (A → Bool) → List A → Bool
some_of p [] = false
some_of p (x ∷ xs) = p x || some_of p xs

abbrev each_of : {A : Type 0} → (A → Bool) → List A → Bool
each_of p [] = true
each_of p (x ∷ xs) = p x && each_of p xs

abbrev same : List ℕ → List ℕ → Bool
same [] [] = true
same [] (y ∷ ys) = false
same (x ∷ xs) [] = false
same (x ∷ xs) (y ∷ ys) = eqb x y && same xs ys

-- The numbers of an effect
abbrev told : Effect → List ℕ
told (does.Put n x) = n ∷ x ∷ []
told (does.PutSpecial n x) = n ∷ x ∷ []
told (does.Sum n x o) = n ∷ x ∷ pick o 1 0 ∷ []
told (does.Load k n a) = n ∷ a ∷ []
told (does.Store k a x) = a ∷ x ∷ []
told e = []

-- What an instruction does from PC' 0: the next PC', DPC and SR, which rfe takes from special registers, and the effect
abbrev done : Instruction → List ℕ → List ℕ → List ℕ
done i g p =
    let e = meaning i 0 g p in
    let a = applied e.0 0 0 g p in
    e.1 ∷ a.0 ∷ register a.2 SR ∷ told e.0

-- A file with x in register r and c in the others
abbrev file : ℕ → ℕ → ℕ → List ℕ
file c r x = set (replicate 32 c) r x

-- Pairs of files that are tried: both have c in all registers but one, where the first has a and the second b
pub record Pair : Type 0 where
  pub others : ℕ
  pub one : ℕ
  pub other : ℕ

abbrev pairs : List Pair
pairs =
    record { others = 5; one = 5; other = 6 }
    ∷ record { others = 5; one = 5; other = 4 }
    ∷ record { others = 1; one = 0; other = 0xFFFFFFFF }
    ∷ record { others = 0; one = 6400; other = 6401 }
    ∷ record { others = 0; one = 6400; other = 6399 }
    ∷ []

-- Some pair of files that differ in register r alone is told apart by what is done with it
abbrev pub tells : (List ℕ → List ℕ) → ℕ → Bool
tells f r = some_of (λ (x : Pair). not (same (f (file x.others r x.one)) (f (file x.others r x.other)))) pairs

abbrev zeros : List ℕ
zeros = replicate 32 0

-- Of the 58 instructions with RS1 1, RS2 or an I word's RD 2, an R word's RD 3, SA 4 and the immediate 6,400: every general and every special register that they are said to read
abbrev fields : ℕ
fields = 1 * 2 ^ 21 + 2 * 2 ^ 16 + 3 * 2 ^ 11 + 4 * 2 ^ 6

pub each_needed : each_of (λ i. each_of (tells (λ g. done i g zeros)) (touches i).0) (instructions fields) ≡ true
unfolding meaning applied register put_special field immediate16 immediate26 plus minus sext high shifted satisfies
each_needed = refl

pub each_special_needed : each_of (λ i. each_of (tells (λ p. done i zeros p)) (sources (touches i).2)) (instructions fields) ≡ true
unfolding meaning applied register put_special field immediate16 immediate26 plus minus sext high shifted satisfies
each_special_needed = refl
