use Rattle.std.proofs.Common.{◌≡◌, ◌++◌, ◌∙◌, ℕ, List, [], ap, arith, drop, sym}
use Rattle.std.proofs.lemmas.List.{drop_all}
use Rattle.ja_show.specs.Page.{source_text}
use Rattle.ja_show.specs.code.Kept.{lists_in}
use Rattle.ja_show.proofs.page.push_source.Goals as goal

pub returns : goal.returns
unfolding source_text
returns c =
    let walk = c.loop-index.walk in
    let gone : drop c.loop-index.index c.args.text.now ≡ [] =
    drop_all c.loop-index.index c.args.text.now (omega arith) in
    c.in_ok-push_line_end.ensures
    ∙ ap (λ (cs : List ℕ). c.loop-index.out.items
    ++ source_text (lists_in c.args.names.now) walk.messages.now walk.links.now walk.spot
    walk.marked cs) (sym gone)
    ∙ c.loop-index.invariant.text
