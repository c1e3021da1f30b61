-- The second line determines the explanation: there is no line exactly where there is none, and any other ends as a line does.
use Prim.Native.Nat.{ℕ, ◌^◌, ◌<◌}
use mathlib.Core.Path.{◌≡◌, refl, sym, ap, ◌∙◌}
use mathlib.Core.List.{List, [], ◌∷◌, ◌++◌, append_assoc, append-nil}
use native.Mathlib.Omega.{arith}
use lib.ListN.{length, get_or, take, drop}
use lib.Seq.{take_at, drop_at}
use Rattle.std.specs.Prelude.{Option, Some, None}
use Rattle.checker.specs.declared.At.{At}
use Rattle.checker.specs.declared.Source.{Source}
use Rattle.checker.specs.declared.Source.TheVariants as came
use Rattle.checker.specs.declared.Explanation.{Explanation}
use Rattle.checker.specs.declared.Explanation.TheVariants as by
use Rattle.judge.specs.declared.lines.Line.{Line}
use Rattle.judge.specs.Line.{decimal, hex, END, line_of}
use Rattle.judge.specs.Because.{BECAUSE, step_text, source_text, from_text, register_text, card_text, ran_on_text, led_text, transfer_text, jr_text, because_text}
use Rattle.judge.proofs.Appending.{digits_length}
use Rattle.judge.proofs.Decides.{Words, at_same, decimal_decides, hex_decides, decimal_visible, split, line_text}

-- ---- Whether there is a line

pub none_silent : (e : Option Explanation) → e ≡ None → because_text e ≡ []
none_silent e p = ap because_text p

byte : (i : ℕ) (t u : List ℕ) → t ≡ u → get_or t i 0 ≡ get_or u i 0
byte i t u e = ap (λ (x : List ℕ). get_or x i 0) e

pub silent_none : (e : Option Explanation) → because_text e ≡ [] → e ≡ None
unfolding register_text card_text ran_on_text led_text transfer_text jr_text
silent_none None e = refl
silent_none (Some (by.Register n s)) e = let h = byte 0 _ _ e in absurd (omega arith)
silent_none (Some by.Card) e = let h = byte 0 _ _ e in absurd (omega arith)
silent_none (Some by.RanOn) e = let h = byte 0 _ _ e in absurd (omega arith)
silent_none (Some (by.Transfer a)) e = let h = byte 0 _ _ e in absurd (omega arith)
silent_none (Some (by.Jr a n s)) e = let h = byte 0 _ _ e in absurd (omega arith)

-- A text that ends as a line does
abbrev pub Ended : List ℕ → Type 0
Ended t = (u : List ℕ) × (t ≡ u ++ END)

pub ends : (e : Option Explanation) → (e ≡ None → ⊥) → Ended (because_text e)
unfolding register_text card_text ran_on_text transfer_text jr_text
ends None h = absurd (h refl)
ends (Some (by.Register n s)) h = (BECAUSE ++ from_text n s, refl)
ends (Some by.Card) h = (take 21 card_text, refl)
ends (Some by.RanOn) h = (take 18 ran_on_text, refl)
ends (Some (by.Transfer a)) h = (led_text a, refl)
ends (Some (by.Jr a n s)) h = (led_text a ++ 44 ∷ 32 ∷ from_text n s, sym (append_assoc (led_text a) (44 ∷ 32 ∷ from_text n s) END))

-- ---- Numbers in a text, and what follows them

hex_length : (n : ℕ) → length (hex n) ≡ 8
unfolding hex
hex_length n = digits_length 16 8 n

part_hex : (n m : ℕ) (t u : List ℕ) → n < 2 ^ 32 → m < 2 ^ 32 → hex n ++ t ≡ hex m ++ u → (n ≡ m) × (t ≡ u)
part_hex n m t u k l e =
    let a = hex_length n in
    let b = hex_length m in
    (hex_decides n m k l (sym (take_at (hex n) t 8 a) ∙ ap (λ (x : List ℕ). take 8 x) e ∙ take_at (hex m) u 8 b), sym (drop_at (hex n) t 8 a) ∙ ap (λ (x : List ℕ). drop 8 x) e ∙ drop_at (hex m) u 8 b)

part_decimal : (n m : ℕ) (t u : List ℕ) → n < 2 ^ 32 → m < 2 ^ 32 → decimal n ++ 32 ∷ t ≡ decimal m ++ 32 ∷ u → (n ≡ m) × (t ≡ u)
part_decimal n m t u k l e =
    let a = split (decimal n) (decimal m) 32 t u (decimal_visible n) (decimal_visible m) (omega arith) e in
    (decimal_decides n m k l a.0, a.1)

-- ---- A step, and what follows it

step_parts : (a : At) (t : List ℕ) → step_text a ++ t
    ≡ 115 ∷ 116 ∷ 101 ∷ 112 ∷ 32 ∷ (decimal a.step ++ 32 ∷ 97 ∷ 116 ∷ 32 ∷ (hex a.dpc ++ 32 ∷ 119 ∷ 111 ∷ 114 ∷ 100 ∷ 32 ∷ (hex a.word ++ t)))
unfolding step_text
step_parts a t = rw (append_assoc (decimal a.step) _ t, append_assoc (hex a.dpc) _ t, append-nil (hex a.word))

step_decides : (a b : At) (t u : List ℕ) → Words a → Words b → step_text a ++ t ≡ step_text b ++ u → (a ≡ b) × (t ≡ u)
step_decides a b t u p q e =
    let f = sym (step_parts a t) ∙ e ∙ step_parts b u in
    let s = part_decimal a.step b.step _ _ p.0 q.0 (ap (λ (x : List ℕ). drop 5 x) f) in
    let d = part_hex a.dpc b.dpc _ _ p.1 q.1 (ap (λ (x : List ℕ). drop 3 x) s.1) in
    let w = part_hex a.word b.word t u p.2 q.2 (ap (λ (x : List ℕ). drop 6 x) d.1) in
    (at_same a b s.0 d.0 w.0, w.1)

led_decides : (a b : At) (t u : List ℕ) → Words a → Words b → led_text a ++ t ≡ led_text b ++ u → (a ≡ b) × (t ≡ u)
unfolding led_text
led_decides a b t u p q e =
    let f = ap (λ (x : List ℕ). drop 17 x) e in
    step_decides a b t u p q (ap (λ (x : List ℕ). x ++ t) (sym (append-nil (step_text a))) ∙ f ∙ ap (λ (x : List ℕ). x ++ u) (append-nil (step_text b)))

-- ---- A register and its source, at the end of the line

abbrev SizedSource : Source → Type 0
SizedSource came.Card = Unit {0}
SizedSource came.Zero = Unit {0}
SizedSource (came.Step a) = Words a

source_decides : (s s' : Source) → SizedSource s → SizedSource s' → source_text s ++ END ≡ source_text s' ++ END → s ≡ s'
unfolding source_text step_text
source_decides came.Card came.Card p q e = refl
source_decides came.Card came.Zero p q e = let h = byte 0 _ _ e in absurd (omega arith)
source_decides came.Card (came.Step a) p q e = let h = byte 0 _ _ e in absurd (omega arith)
source_decides came.Zero came.Card p q e = let h = byte 0 _ _ e in absurd (omega arith)
source_decides came.Zero came.Zero p q e = refl
source_decides came.Zero (came.Step a) p q e = let h = byte 0 _ _ e in absurd (omega arith)
source_decides (came.Step a) came.Card p q e = let h = byte 0 _ _ e in absurd (omega arith)
source_decides (came.Step a) came.Zero p q e = let h = byte 0 _ _ e in absurd (omega arith)
source_decides (came.Step a) (came.Step b) p q e = let s = step_decides a b END END p q e in rw s.0

from_parts : (n : ℕ) (s : Source) (t : List ℕ) → from_text n s ++ t ≡ 114 ∷ (decimal n ++ 32 ∷ 102 ∷ 114 ∷ 111 ∷ 109 ∷ 32 ∷ (source_text s ++ t))
unfolding from_text
from_parts n s t = rw (append_assoc (decimal n) _ t, append-nil (source_text s))

from_decides : (n n' : ℕ) (s s' : Source) → n < 2 ^ 8 → n' < 2 ^ 8 → SizedSource s → SizedSource s' → from_text n s ++ END ≡ from_text n' s' ++ END → (n ≡ n') × (s ≡ s')
from_decides n n' s s' k l p q e =
    let f = sym (from_parts n s END) ∙ e ∙ from_parts n' s' END in
    let a = part_decimal n n' _ _ (omega arith) (omega arith) (ap (λ (x : List ℕ). drop 1 x) f) in
    (a.0, source_decides s s' p q (ap (λ (x : List ℕ). drop 5 x) a.1))

-- ---- The theorem

-- Every number as its type has it
abbrev pub Sized : Option Explanation → Type 0
Sized None = Unit {0}
Sized (Some (by.Register n s)) = (n < 2 ^ 8) × SizedSource s
Sized (Some by.Card) = Unit {0}
Sized (Some by.RanOn) = Unit {0}
Sized (Some (by.Transfer a)) = Words a
Sized (Some (by.Jr a n s)) = Words a × (n < 2 ^ 8) × SizedSource s

pub because_decides : (e f : Option Explanation) → Sized e → Sized f → because_text e ≡ because_text f → e ≡ f
unfolding register_text card_text ran_on_text led_text transfer_text jr_text step_text from_text
because_decides None f p q e = sym (silent_none f (sym e))
because_decides (Some (by.Register n s)) None p q e = let h = byte 0 _ _ e in absurd (omega arith)
because_decides (Some (by.Register n s)) (Some (by.Register n' s')) p q e =
    let a = from_decides n n' s s' p.0 q.0 p.1 q.1 (ap (λ (x : List ℕ). drop 8 x) e) in
    rw (a.0, a.1)
because_decides (Some (by.Register n s)) (Some by.Card) p q e = let h = byte 8 _ _ e in absurd (omega arith)
because_decides (Some (by.Register n s)) (Some by.RanOn) p q e = let h = byte 8 _ _ e in absurd (omega arith)
because_decides (Some (by.Register n s)) (Some (by.Transfer a')) p q e = let h = byte 8 _ _ e in absurd (omega arith)
because_decides (Some (by.Register n s)) (Some (by.Jr a' n' s')) p q e = let h = byte 8 _ _ e in absurd (omega arith)
because_decides (Some by.Card) None p q e = let h = byte 0 _ _ e in absurd (omega arith)
because_decides (Some by.Card) (Some (by.Register n' s')) p q e = let h = byte 8 _ _ e in absurd (omega arith)
because_decides (Some by.Card) (Some by.Card) p q e = refl
because_decides (Some by.Card) (Some by.RanOn) p q e = let h = byte 12 _ _ e in absurd (omega arith)
because_decides (Some by.Card) (Some (by.Transfer a')) p q e = let h = byte 17 _ _ e in absurd (omega arith)
because_decides (Some by.Card) (Some (by.Jr a' n' s')) p q e = let h = byte 17 _ _ e in absurd (omega arith)
because_decides (Some by.RanOn) None p q e = let h = byte 0 _ _ e in absurd (omega arith)
because_decides (Some by.RanOn) (Some (by.Register n' s')) p q e = let h = byte 8 _ _ e in absurd (omega arith)
because_decides (Some by.RanOn) (Some by.Card) p q e = let h = byte 12 _ _ e in absurd (omega arith)
because_decides (Some by.RanOn) (Some by.RanOn) p q e = refl
because_decides (Some by.RanOn) (Some (by.Transfer a')) p q e = let h = byte 12 _ _ e in absurd (omega arith)
because_decides (Some by.RanOn) (Some (by.Jr a' n' s')) p q e = let h = byte 12 _ _ e in absurd (omega arith)
because_decides (Some (by.Transfer a)) None p q e = let h = byte 0 _ _ e in absurd (omega arith)
because_decides (Some (by.Transfer a)) (Some (by.Register n' s')) p q e = let h = byte 8 _ _ e in absurd (omega arith)
because_decides (Some (by.Transfer a)) (Some by.Card) p q e = let h = byte 17 _ _ e in absurd (omega arith)
because_decides (Some (by.Transfer a)) (Some by.RanOn) p q e = let h = byte 12 _ _ e in absurd (omega arith)
because_decides (Some (by.Transfer a)) (Some (by.Transfer a')) p q e = let d = led_decides a a' END END p q e in rw d.0
because_decides (Some (by.Transfer a)) (Some (by.Jr a' n' s')) p q e = let h = byte 0 _ _ (led_decides a a' _ _ p q.0 e).1 in absurd (omega arith)
because_decides (Some (by.Jr a n s)) None p q e = let h = byte 0 _ _ e in absurd (omega arith)
because_decides (Some (by.Jr a n s)) (Some (by.Register n' s')) p q e = let h = byte 8 _ _ e in absurd (omega arith)
because_decides (Some (by.Jr a n s)) (Some by.Card) p q e = let h = byte 17 _ _ e in absurd (omega arith)
because_decides (Some (by.Jr a n s)) (Some by.RanOn) p q e = let h = byte 12 _ _ e in absurd (omega arith)
because_decides (Some (by.Jr a n s)) (Some (by.Transfer a')) p q e = let h = byte 0 _ _ (led_decides a a' _ _ p.0 q e).1 in absurd (omega arith)
because_decides (Some (by.Jr a n s)) (Some (by.Jr a' n' s')) p q e =
    let d = led_decides a a' _ _ p.0 q.0 e in
    let f = from_decides n n' s s' p.1 q.1 p.2 q.2 (ap (λ (x : List ℕ). drop 2 x) d.1) in
    rw (d.0, f.0, f.1)

-- The same of the lines themselves
pub because_line_decides : (e f : Option Explanation) (l m : Line) → Sized e → Sized f → l ≡ line_of (because_text e) → m ≡ line_of (because_text f) → l ≡ m → e ≡ f
because_line_decides e f l m p q g h i = because_decides e f p q (line_text (because_text e) (because_text f) (sym g ∙ i ∙ h))
