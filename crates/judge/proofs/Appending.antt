-- A line written text after text comes to the line of all of them.
use Prim.Native.Nat.{ℕ, zero, suc, ◌+◌, ◌-◌, ◌≤◌}
use mathlib.Core.Path.{◌≡◌, refl, sym, ap, ◌∙◌}
use mathlib.Core.List.{List, [], ◌++◌, append_assoc, append-nil}
use native.Mathlib.Omega.{arith}
use borrow.Rule.Slice.PartMut.{put_mid}
use lib.ListN.{length, length-append}
use lib.Seq.{take-append_seam, drop-append_seam}
use Rattle.std.proofs.lemmas.List.{drop-replicate}
use Rattle.judge.specs.declared.lines.Line.{Line}
use Rattle.judge.specs.Digits.{digits}
use Rattle.judge.specs.Line.{SIZE, line_of}
use Rattle.judge.specs.Work.{Extends}

-- A text copied behind that of a line
pub put_extends : (l : Line) (text copied : List ℕ) (k : ℕ) → l.len + length text ≤ SIZE → copied ≡ text → k ≡ length text
    → Extends l (record { bytes = put_mid l.len k l.bytes copied; len = l.len + length text }) text
unfolding line_of
put_extends l text copied k h e f = record { line = copied_behind }
  where
    copied_behind : (t : List ℕ) → l ≡ line_of t → record { bytes = put_mid l.len k l.bytes copied; len = l.len + length text } ≡ line_of (t ++ text)
    copied_behind t p =
        let room : SIZE - (length t + length text) ≡ SIZE - length t - length text = omega arith in
        rw (p, e, f, take-append_seam t _, drop-append_seam t _, drop-replicate {X = ℕ} (length text) (SIZE - length t) 0, length-append t text, room, append_assoc t text _)

-- Nothing put
pub nothing : (l : Line) → Extends l l []
nothing l = record { line = λ t e. e ∙ ap line_of (sym (append-nil t)) }

-- One text after another
pub then : {l m n : Line} {t u : List ℕ} → Extends l m t → Extends m n u → Extends l n (t ++ u)
then {t = t} {u = u} p q = record { line = λ x e. q.line (x ++ t) (p.line x e) ∙ ap line_of (append_assoc x t u) }

-- Nothing comes after the last of the texts that are joined
pub last : {l m : Line} {t : List ℕ} → Extends l m t → Extends l m (t ++ [])
last {t = t} p = rw (append-nil t) p

-- What was put after the empty line is the line
pub finished : {l m : Line} {t : List ℕ} → l ≡ line_of [] → Extends l m t → m ≡ line_of t
finished e p = p.line [] e

-- For a line that is put together text by text
pub ruleset texts = (then, last, finished)

pub digits_length : (b k n : ℕ) → length (digits b k n) ≡ k
unfolding digits
digits_length b zero n = refl
digits_length b (suc k) n = ap suc (digits_length b k n)
