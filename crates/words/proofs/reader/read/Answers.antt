use borrow.Author.Rules.{rules}
use lib.IntN.{pos}
use mathlib.Core.Path.{◌≡◌, refl, ◌∙◌}
use mir.Facts.{to_z-of_z}
use mir.Syntax.{w32}
use native.Mathlib.Omega.{arith}
use Rattle.words.proofs.Numbering.{leads}
use Rattle.words.specs.Fields.{opcode}
use Rattle.words.specs.Words.{arithmetic_immediate_no}
use Rattle.words.specs.declared.Instruction.TheVariants.{ArithmeticImmediate, CompareImmediate, Load, Store}
use Rattle.words.proofs.reader.read.Goals as goal

pub returns-in_ok-operation-in-8-to-14 : goal.returns-in_ok-operation-in-8-to-14
returns-in_ok-operation-in-8-to-14 c =
    let e : opcode c.args.word.0 ≡ arithmetic_immediate_no c.in_ok-operation-in-8-to-14.operation = omega (arith, c.in_ok-operation-in-8-to-14.ensures.number) in
    simp (
      c.second-rd.ensures,
      c.rs1-rs1.ensures,
      to_z-of_z {w = w32} {z = c.immediate16-imm.result} (search rules) ∙ c.immediate16-imm.ensures,
      leads (ArithmeticImmediate c.in_ok-operation-in-8-to-14.operation 0 0 (pos 0)) c.args.word.0 e refl,
    )

pub returns-in_ok-comparison-in-25-to-30 : goal.returns-in_ok-comparison-in-25-to-30
returns-in_ok-comparison-in-25-to-30 c = grind (arith, leads (CompareImmediate c.in_ok-comparison-in-25-to-30.comparison 0 0 (pos 0)) c.args.word.0)

pub returns-in_ok-with_number-in-32-to-37 : goal.returns-in_ok-with_number-in-32-to-37
returns-in_ok-with_number-in-32-to-37 c = grind (arith, leads (Load c.in_ok-with_number-in-32-to-37.field-0 0 0 (pos 0)) c.args.word.0)

pub returns-in_ok-with_number-in-40-to-43 : goal.returns-in_ok-with_number-in-40-to-43
returns-in_ok-with_number-in-40-to-43 c = grind (arith, leads (Store c.in_ok-with_number-in-40-to-43.field-0 0 (pos 0) 0) c.args.word.0)
