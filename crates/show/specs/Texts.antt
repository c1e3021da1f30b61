-- What is put of a line that stands in another.
use Rattle.std.specs.Prelude.{ℕ, ◌-◌, ◌==◌, if◌then◌else◌, List, [], ◌∷◌, take}
use Rattle.judge.specs.declared.lines.Line.{Line}

-- Its bytes without the last, which is its end
abbrev pub unended : Line → List ℕ
unended l = take (l.len - 1) l.bytes

-- The same behind a blank, and nothing of a line that has no byte
abbrev pub behind_blank : Line → List ℕ
behind_blank l = if l.len == 0 then [] else (32 ∷ unended l)
