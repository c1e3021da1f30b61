-- The numbers of the refusals: none is 0, and each determines its refusal.
use Rattle.std.proofs.Common.{◌≡◌, ℕ, ◌<◌, [], ◌∷◌, sym, refl, ap, ◌∙◌, eqb, arith}
use Rattle.machine.specs.declared.Refusal.{Refusal}
use Rattle.machine.specs.declared.Refusal.TheVariants.{WrongLength, TooShort, WrongMark, WrongVersion, ReservedSet, WrongCount, WrongSize, UnalignedStart, PastMemory, Overlap, NotZero, OverLimit}
use Rattle.machine.specs.Record.{first, refusal_no}

pub refusal_some : (r : Refusal) → 0 < refusal_no r
refusal_some WrongLength = omega arith
refusal_some TooShort = omega arith
refusal_some WrongMark = omega arith
refusal_some WrongVersion = omega arith
refusal_some ReservedSet = omega arith
refusal_some WrongCount = omega arith
refusal_some WrongSize = omega arith
refusal_some UnalignedStart = omega arith
refusal_some PastMemory = omega arith
refusal_some Overlap = omega arith
refusal_some NotZero = omega arith
refusal_some OverLimit = omega arith

-- The number determines the refusal
abbrev by_number : ℕ → Refusal
by_number n = first ((eqb n 1, WrongLength) ∷ (eqb n 2, TooShort) ∷ (eqb n 3, WrongMark) ∷ (eqb n 4, WrongVersion) ∷ (eqb n 5, ReservedSet) ∷ (eqb n 6, WrongCount) ∷ (eqb n 7, WrongSize) ∷ (eqb n 8, UnalignedStart) ∷ (eqb n 9, PastMemory) ∷ (eqb n 10, Overlap) ∷ (eqb n 11, NotZero) ∷ []) OverLimit

by_number_of : (r : Refusal) → by_number (refusal_no r) ≡ r
by_number_of WrongLength = refl
by_number_of TooShort = refl
by_number_of WrongMark = refl
by_number_of WrongVersion = refl
by_number_of ReservedSet = refl
by_number_of WrongCount = refl
by_number_of WrongSize = refl
by_number_of UnalignedStart = refl
by_number_of PastMemory = refl
by_number_of Overlap = refl
by_number_of NotZero = refl
by_number_of OverLimit = refl

pub refusal_decides : (r s : Refusal) → refusal_no r ≡ refusal_no s → r ≡ s
refusal_decides r s e = sym (by_number_of r) ∙ ap by_number e ∙ by_number_of s
