use Rattle.std.proofs.Common.{refl, sym, ap, ◌∙◌, map, set}
use Rattle.std.specs.Option.{unwrap_or}
use Rattle.std.proofs.lemmas.List.{map-set}
use Rattle.ja_trie.proofs.Levels.{same_values}
use Rattle.ja_trie.proofs.node.put_kid.Goals as goal

pub returns-in_ok-own-in-None : goal.returns-in_ok-own-in-None
returns-in_ok-own-in-None g c =
    let own = c.in_ok-own-in-None.own in
    let copied = same_values (λ x. x.value) c.args.kids.now own
    c.in_ok-own-in-None.ensures.cases.whole
    ∙ ap (λ o. map (λ x. x.value) (unwrap_or o c.args.kids.now)) (sym c.in-None.is) in (
      refl,
      map-set (λ x. x.value) own c.args.index c.args.kid
          ∙ ap (λ l. set l c.args.index c.args.kid.value) copied,
    )
