-- Test 11 of the special registers: those past EMODE are the unused ones and MODE.
use Rattle.std.proofs.Common.{◌≡◌, ℕ, ◌+◌, ◌-◌, ◌<◌, ◌≤◌, Bool, true, false, not, eqb, ltb, List, length, take, drop, get_or, sym, refl, ap, ◌∙◌, subst, arith, ne_eqb, eqb-true, ltb-true, ltb-false}
use Rattle.std.specs.List.{list_any}
use Rattle.std.proofs.lemmas.List.{get_or-drop, get_or_read, length-drop, take_all}
use Rattle.std.proofs.lemmas.List.Folds.{Any-from_list_any, list_any_at}
use Rattle.words.proofs.Signed.{false_true}
use Rattle.machine.specs.Effects.{MODE}
use Rattle.machine.specs.Record.{any_below, idle_set_lem}
use Rattle.machine.proofs.Special.{special_low, any_yes, loud, loud_yes, loud_not}
use Rattle.machine.proofs.Quiet.{each_fails}

abbrev set : ℕ → Bool
set x = not (eqb x 0)

not_set : set 0 ≡ true → ⊥
not_set e = cc

module _ (p : List ℕ) (h : length p ≡ 32) where
  low : (k : ℕ) → k < 12 → loud p k ≡ false
  low k l = rw (special_low k (omega arith), ne_eqb k MODE (omega arith)) refl

  high : list_any set (drop 12 p) ≡ false → (k : ℕ) → 12 + k < 32 → loud p (12 + k) ≡ false
  high e k l = by (eqb (get_or p (12 + k) 0) 0) refl
    where
      by : (t : Bool) → eqb (get_or p (12 + k) 0) 0 ≡ t → loud p (12 + k) ≡ false
      by true f = loud_not p (12 + k) (eqb-true _ 0 f)
      by false f =
          let s : set (get_or (drop 12 p) k 0) ≡ true = rw (get_or-drop 12 p k 0, f) refl in
          absurd (false_true (sym e ∙ list_any_at set (drop 12 p) k 0 (rw length-drop (omega arith)) s))

  found : (k x : ℕ) → k < length (drop 12 p) → get_or (drop 12 p) k x ≡ x → set x ≡ true → any_below (loud p) 32 ≡ true
  found k x l e f =
      let b : 12 + k < 32 = omega (arith, rw length-drop at l) in
      let g : x ≡ get_or p (12 + k) 0 = get_or_read (drop 12 p) k x l (sym e) 0 ∙ get_or-drop 12 p k 0 in
      any_yes (loud p) (12 + k) 32 b (loud_yes p (12 + k) (omega arith) b (λ (z : get_or p (12 + k) 0 ≡ 0). not_set (rw (g ∙ z) at f)))

  idle_tail : list_any set (drop 12 p) ≡ idle_set_lem p
  unfolding idle_set_lem
  idle_tail = by (list_any set (drop 12 p)) refl
    where
      by : (t : Bool) → list_any set (drop 12 p) ≡ t → list_any set (drop 12 p) ≡ any_below (loud p) 32
      by true e =
          let a = Any-from_list_any set (drop 12 p) e in e ∙ sym (found a.0 a.1 a.2 a.3 a.4)
      by false e = e ∙ sym (each_fails (loud p) 32 at)
        where
          at : (k : ℕ) → k < 32 → loud p k ≡ false
          at k l = either (ltb k 12) refl
            where
              either : (u : Bool) → ltb k 12 ≡ u → loud p k ≡ false
              either true f = low k (ltb-true k 12 f)
              either false f =
                  let b : 12 ≤ k = ltb-false k 12 f in
                  let q : 12 + (k - 12) ≡ k = omega arith in
                  subst (λ (n : ℕ). loud p n ≡ false) q (high e (k - 12) (omega arith))

  -- As a slice of the registers from EMODE + 1 on has it
  pub idle_slice : list_any set (take 20 (drop 12 p)) ≡ idle_set_lem p
  idle_slice = ap (list_any set) (take_all 20 (drop 12 p) (rw length-drop (omega arith))) ∙ idle_tail
