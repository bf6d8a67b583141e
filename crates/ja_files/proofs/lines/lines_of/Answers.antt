use Rattle.std.proofs.Common.{ℕ, List, Bor, Vec, Global, arith, ap, map, refl, sym, ◌∙◌}
use Rattle.std.proofs.lemmas.List.{map-append, take_rest}
use Rattle.ja_files.proofs.Listed.{split_none, split_end, split_more, split_all}
use Rattle.ja_files.proofs.lines.lines_of.Goals as goal
use Rattle.ja_files.proofs.lines.lines_of.Goals.{then-ends_line+in_ok-push, else-ends_line}

-- the lines that these slices are
abbrev texts_of : List (Bor (List ℕ)) → List (List ℕ)
texts_of = map (λ (line : Bor (List ℕ)). line.now)

pub loop-index-init : goal.loop-index-init
loop-index-init c = record {
  begun = omega arith;
  split =
      split_none (texts_of c.new-lines.result.items) c.args.text.now
      (ap texts_of c.new-lines.ensures.items);
}

pub loop-index-preserved : goal.loop-index-preserved
loop-index-preserved c =
    elim c.if-ends_line.branch [
      | then-ends_line+in_ok-push w ↦ record {
        begun = omega arith;
        split =
            split_end (texts_of c.loop-index.lines.items) (texts_of c.if-ends_line.lines.items)
            c.args.text.now _ c.loop-index.start c.if-ends_line.start c.loop-index.index
            c.loop-index.invariant.split c.loop-index-test.true (sym w.if-ends_line.ensures) refl
            (ap (λ (v : Vec (Bor (List ℕ)) Global). texts_of v.items) w.lines-is
            ∙ ap texts_of w.in_ok-push.ensures.items ∙ map-append _ c.loop-index.lines.items _)
            w.start-is;
      }
      | else-ends_line w ↦ record {
        begun = omega arith;
        split =
            split_more (texts_of c.loop-index.lines.items) (texts_of c.if-ends_line.lines.items)
            c.args.text.now c.loop-index.start c.if-ends_line.start c.loop-index.index
            c.loop-index.invariant.split c.loop-index.invariant.begun c.loop-index-test.true
            (sym w.if-ends_line.ensures)
            (ap (λ (v : Vec (Bor (List ℕ)) Global). texts_of v.items) w.lines-is) w.start-is;
      }
    ]

pub returns : goal.returns
returns c =
    split_all (texts_of c.loop-index.lines.items) (texts_of c.push-2.new.self.items)
    c.args.text.now _ c.loop-index.start c.loop-index.index c.loop-index.invariant.split
    c.loop-index-test.false (take_rest c.args.text.now c.loop-index.start)
    (ap texts_of c.in_ok-push-2.ensures.items ∙ map-append _ c.loop-index.lines.items _)
