use Rattle.std.proofs.Common.{ℕ, List, ◌++◌, ◌∙◌, ap, arith}
use Rattle.ja_lint_text.specs.Values as spec
use Rattle.ja_lint_text.proofs.Alternatives.{listed_all, listed_more}
use Rattle.ja_lint_text.proofs.listing.push_listed.Goals as goal

pub loop-index-preserved : goal.loop-index-preserved
loop-index-preserved c =
    let words = c.args.words.now in
    let before = c.loop-index.text.items in
    let mid = c.extend_from_slice.new.self.items in
    listed_more (c.args.text.now.items ++ spec.listed words) before mid
    c.extend_from_slice-in-loop-index.new.self.items words c.loop-index.index
    c.index-words-index.result (omega arith) c.index-words-index.is c.loop-index.invariant
    (c.in_ok-extend_from_slice.ensures.items
    ∙ ap (λ (w : List ℕ). before ++ w) c.as_slice.ensures)
    (c.in_ok-extend_from_slice-2.ensures.items
    ∙ ap (λ (w : List ℕ). mid ++ w) c.between.ensures)

pub returns : goal.returns
returns c =
    let words = c.args.words.now in
    listed_all (c.args.text.now.items ++ spec.listed words) c.loop-index.text.items words
    c.loop-index.index (omega arith) c.loop-index.invariant
