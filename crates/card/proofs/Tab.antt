-- The list f 0 to f (n - 1), and what is filled with it.
use Prim.Native.Nat.{ℕ, zero, suc, ◌+◌, ◌≤◌, ◌<◌}
use mathlib.Core.Path.{◌≡◌, refl, sym, ap, subst, ◌∙◌}
use mathlib.Core.Bool.{Bool, true, false}
use mathlib.Core.List.{List, [], ◌∷◌, ◌++◌, append_assoc, append-nil}
use native.Mathlib.Nat.{add-zero, add-suc}
use native.Mathlib.Numerals.{add-one}
use native.Mathlib.Omega.{arith}
use borrow.Author.Tests.{eqb-true, eqb-false, ltb-true, ltb-false}
use lib.Dec.{eqb, ltb}
use lib.ListN.{length, get_or, length-append, get_or-append, get_or-eq_default, replicate, replicate-append-replicate}
use lib.Seq.{get_or_at}
use denote.Param.Members.{Mut, Called}
use Rattle.std.proofs.lemmas.List.{ext_get_or}
use Rattle.std.specs.Array.{IsFromFnResultFrom, IsFromFnResult}
use Rattle.card.specs.Card.{tab}

pub tab_length : (f : ℕ → ℕ) (n : ℕ) → length (tab f n) ≡ n
unfolding tab
tab_length f zero = refl
tab_length f (suc n) = let e : length (tab f n) ≡ n = tab_length f n in length-append (tab f n) (f n ∷ []) ∙ omega arith

pub tab_at : (f : ℕ → ℕ) (n i : ℕ) → i < n → get_or (tab f n) i 0 ≡ f i
unfolding tab
tab_at f zero i l = absurd (omega arith)
tab_at f (suc n) i l = by (eqb i n) refl (tab_at f n i)
  where
    by : (t : Bool) → eqb i n ≡ t → (i < n → get_or (tab f n) i 0 ≡ f i) → get_or (tab f n ++ f n ∷ []) i 0 ≡ f i
    by true e rest = get_or_at (tab f n) (f n) [] 0 i (tab_length f n ∙ sym (eqb-true i n e)) ∙ ap f (sym (eqb-true i n e))
    by false e rest =
        let d : i ≡ n → ⊥ = eqb-false i n e in
        let h : i < n = omega arith in
        let k : length (tab f n) ≡ n = tab_length f n in
        get_or-append (tab f n) (f n ∷ []) 0 i (omega arith) ∙ rest h

pub tab_past : (f : ℕ → ℕ) (n i : ℕ) → n ≤ i → get_or (tab f n) i 0 ≡ 0
tab_past f n i l = get_or-eq_default (tab f n) 0 (let k : length (tab f n) ≡ n = tab_length f n in omega arith)

-- Where f is 0 from k on, so is the rest of the list
pub tab_zeros : (f : ℕ → ℕ) (k m : ℕ) → ((i : ℕ) → k ≤ i → f i ≡ 0) → tab f (k + m) ≡ tab f k ++ replicate m 0
unfolding tab
tab_zeros f k zero z = rw (add-zero k) (sym (append-nil (tab f k)))
tab_zeros f k (suc m) z =
    rw (add-suc k m, z (k + m) (omega arith), tab_zeros f k m z)
    (append_assoc (tab f k) (replicate m 0) (0 ∷ []) ∙ ap (λ (l : List ℕ). tab f k ++ l) (replicate-append-replicate m 1 0 ∙ ap (λ (n : ℕ). replicate n 0) (add-one m)))

-- Where all of f is below a bound, so is what the list has, and the 0 past its end
pub tab_below : (f : ℕ → ℕ) (n m : ℕ) → 0 < m → ((i : ℕ) → f i < m) → (i : ℕ) → get_or (tab f n) i 0 < m
tab_below f n m z p i = by (ltb i n) refl
  where
    by : (t : Bool) → ltb i n ≡ t → get_or (tab f n) i 0 < m
    by true e = rw (tab_at f n i (ltb-true i n e)) (p i)
    by false e = rw (tab_past f n i (ltb-false i n e)) z

-- A list of n numbers that are those of f is tab f n
pub tab_of : (f : ℕ → ℕ) (n : ℕ) (xs : List ℕ) → length xs ≡ n → ((i : ℕ) → i < n → get_or xs i 0 ≡ f i) → xs ≡ tab f n
tab_of f n xs l h = ext_get_or 0 xs (tab f n) (l ∙ sym (tab_length f n)) (λ i k. let j : i < n = omega arith in h i j ∙ sym (tab_at f n i j))

-- What a closure that no call changes has filled an array with
module _ {F : Type 0} (g : Mut F (ℕ × Unit {0}) ℕ) (c : F) (f : ℕ → ℕ) (one : (i y : ℕ) (q : F) → Called g c (i, tt) y q → (y ≡ f i) × (q ≡ c)) where
  each_is : (xs : List ℕ) (p : F) (i n k : ℕ) → p ≡ c → IsFromFnResultFrom g p xs i n → i ≤ k → k < i + n → get_or xs k 0 ≡ f k
  each_is xs p i zero k e r l h = absurd (omega arith)
  each_is xs p i (suc n) k e r l h =
      let first = one i r.1 r.0 (subst (λ (s : F). Called g s (i, tt) r.1 r.0) e r.3) in
      by (eqb k i) refl (r.2.1 0 ∙ first.0) (λ j. each_is xs r.0 (i + 1) n k first.1 r.4 j (omega arith))
    where
      by : (t : Bool) → eqb k i ≡ t → get_or xs i 0 ≡ f i → (i + 1 ≤ k → get_or xs k 0 ≡ f k) → get_or xs k 0 ≡ f k
      by true t here later = rw (eqb-true k i t) here
      by false t here later = let j : k ≡ i → ⊥ = eqb-false k i t in later (omega arith)

  pub tab_from_fn : (xs : List ℕ) (n : ℕ) → IsFromFnResult g c xs n → xs ≡ tab f n
  tab_from_fn xs n r = tab_of f n xs r.long (λ i l. each_is xs c 0 n i refl r.each (omega arith) (omega arith))
