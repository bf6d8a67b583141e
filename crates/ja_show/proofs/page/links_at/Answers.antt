use Rattle.std.proofs.Common.{ℕ, ◌∙◌, ap, take, rules, tests}
use Rattle.std.proofs.lemmas.Iterator.{YieldsList-from_slice}
use Rattle.std.proofs.lemmas.Iterator.Consumers.{count_from_yields_List}
use Rattle.std.proofs.lemmas.Iterator.Search.{YieldsList-from_take_while}
use Rattle.std.proofs.lemmas.List.Folds.{length-prefix_len}
use Rattle.ja_show.specs.Page.{is_from}
use Rattle.ja_show.proofs.page.links_at.Goals as goal

pub returns : goal.returns
returns c =
    let xs = c.args.links.now in
    let p = is_from c.args.spot in
    ap (λ (n : ℕ). take n xs)
    (count_from_yields_List c.take_while.result _ c.count-here.ensures.ran
    (YieldsList-from_take_while _ p (YieldsList-from_slice xs cc) c.take_while.ensures.closure
    c.take_while.ensures.done (λ x b q k. search (rules, tests))) ∙ length-prefix_len p xs)
