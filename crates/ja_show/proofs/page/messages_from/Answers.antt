use Rattle.std.proofs.Common.{ℕ, ◌∙◌, ap, drop, rules, tests}
use Rattle.std.proofs.lemmas.Iterator.{YieldsList-from_slice}
use Rattle.std.proofs.lemmas.Iterator.Consumers.{count_from_yields_List}
use Rattle.std.proofs.lemmas.Iterator.Search.{YieldsList-from_take_while}
use Rattle.std.proofs.lemmas.List.{take_rest}
use Rattle.std.proofs.lemmas.List.Folds.{length-prefix_len}
use Rattle.ja_show.specs.declared.message.Message.{Message}
use Rattle.ja_show.specs.code.Walk.{is_passed}
use Rattle.ja_show.proofs.page.messages_from.Goals as goal

pub returns : goal.returns
returns c =
    let xs = c.args.messages.now in
    let p = λ (m : Message). is_passed c.args.spot m.spot in
    take_rest xs c.count-passed.result
    ∙ ap (λ (n : ℕ). drop n xs)
    (count_from_yields_List c.take_while.result _ c.count-passed.ensures.ran
    (YieldsList-from_take_while _ p (YieldsList-from_slice xs cc) c.take_while.ensures.closure
    c.take_while.ensures.done (λ x b q k. search (rules, tests))) ∙ length-prefix_len p xs)
