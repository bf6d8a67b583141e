use Rattle.std.proofs.Common.{ℕ, List, ◌++◌, ◌∙◌, ap, arith, map}
use Rattle.ja_lint_top.specs.Ending.{listed, name_shown}
use Rattle.ja_lint_top.proofs.Listed.{listed_all, listed_more}
use Rattle.ja_lint_top.proofs.ending.push_names.Goals as goal

pub loop-index-preserved : goal.loop-index-preserved
loop-index-preserved c =
    let files = c.args.files.now in
    let before = c.loop-index.out.items in
    let mid = c.extend_from_slice.new.self.items in
    listed_more (c.args.out.now.items ++ listed (map name_shown files)) before mid
    c.extend_from_slice-in-loop-index.new.self.items files c.loop-index.index _ (omega arith)
    c.loop-index.invariant
    (c.in_ok-extend_from_slice.ensures.items
    ∙ ap (λ (w : List ℕ). before ++ w) (c.deref.ensures.value ∙ c.in_ok-name.ensures))
    (c.in_ok-extend_from_slice-2.ensures.items
    ∙ ap (λ (w : List ℕ). mid ++ w) c.between.ensures)

pub returns : goal.returns
returns c =
    let files = c.args.files.now in
    listed_all (c.args.out.now.items ++ listed (map name_shown files)) c.loop-index.out.items
    files c.loop-index.index (omega arith) c.loop-index.invariant
