use Rattle.std.proofs.Common.{arith, ap, drop, ◌∙◌, Bool, if◌then◌else◌, ℕ, ◌+◌, true, false, ◌≡◌}
use Rattle.ja_lex.specs.Spots.{ends_line}
use Rattle.ja_files.specs.Lines.{endings}
use Rattle.ja_files.proofs.Counting.{endings_more}
use Rattle.ja_files.proofs.lines.endings.Goals as goal
use Rattle.ja_files.proofs.lines.endings.Goals.{then-ends_line, else-ends_line}

pub loop-index-preserved : goal.loop-index-preserved
loop-index-preserved c =
    let text = c.args.text.now in
    let index = c.loop-index.index in
    let rest : ℕ = endings (drop (index + 1) text) in
    let more = endings_more text index c.loop-index-test.true in
    elim c.if-ends_line.branch [
      | then-ends_line w ↦
          let ends : ends_line (drop index text) ≡ true = cc in
          let here = more ∙ ap (λ (b : Bool). (if b then 1 else 0) + rest) ends in
          record { all = omega (arith, here); few = omega arith }
      | else-ends_line w ↦
          let stays : ends_line (drop index text) ≡ false = cc in
          let here = more ∙ ap (λ (b : Bool). (if b then 1 else 0) + rest) stays in
          record { all = omega (arith, here); few = omega arith }
    ]
