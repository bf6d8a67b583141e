use Rattle.std.proofs.Common.{rules, arith, ◌≡◌, ◌/◌, ◌%◌, IfOk, is_ok, ap, sym, ◌∙◌, subst, length, set}
use Rattle.std.proofs.lemmas.List.{map-set}
use Rattle.std.proofs.lemmas.List.Elements.{AllZip-get_or, length_all_zip}
use Rattle.ja_trie.specs.code.Node.{places, IsNode}
use Rattle.ja_trie.proofs.Levels.{kid, level, deeper, ticked_le, same_level, long_level, same_values}
use Rattle.ja_trie.proofs.node.Node.+set.Goals as goal

pub set-requires : goal.set-requires
set-requires g t c κs within =
    let at = kid c.self.inside.kids c.in-Nodes.nodes c.args.width c.args.index c.args.self.now
    c.in-Nodes.is c.self.invariant.0 c.self.view_is c.requires.level c.requires.within in
    let long : length c.deref.result.now ≡ c.args.width = ap length c.deref.ensures
    ∙ at.long _ _ (omega (arith, at.kid, at.eight)) in
    search (rules, at.less, at.next, at.inside, long)

pub returns-in_err-below-in-Nodes-clause-nodes : goal.returns-in_err-below-in-Nodes-clause-nodes
returns-in_err-below-in-Nodes-clause-nodes g t c h high =
    let at = kid c.self.inside.kids c.in-Nodes.nodes c.args.width c.args.index c.args.self.now
    c.in-Nodes.is c.self.invariant.0 c.self.view_is c.requires.level c.requires.within in
    let long : length c.deref.result.now ≡ c.args.width = ap length c.deref.ensures
    ∙ at.long _ _ (omega (arith, at.kid, at.eight)) in
    let d = deeper c.args.width h at.next at.wide (sym c.requires.level ∙ high) in
    omega (arith, c.set.ensures.nodes d.0 (long ∙ d.2), d.1)

pub returns-in_err-nodes-in-Nodes-clause-nodes : goal.returns-in_err-nodes-in-Nodes-clause-nodes
returns-in_err-nodes-in-Nodes-clause-nodes g t c h high =
    let at = kid c.self.inside.kids c.in-Nodes.nodes c.args.width c.args.index c.args.self.now
    c.in-Nodes.is c.self.invariant.0 c.self.view_is c.requires.level c.requires.within in
    let long : length c.deref.result.now ≡ c.args.width = ap length c.deref.ensures
    ∙ at.long _ _ (omega (arith, at.kid, at.eight)) in
    let d = deeper c.args.width h at.next at.wide (sym c.requires.level ∙ high) in
    omega (arith, c.set.ensures.nodes d.0 (long ∙ d.2), d.1)

pub returns-in_ok-values-in-Values-clause-ok : goal.returns-in_ok-values-in-Values-clause-ok
returns-in_ok-values-in-Values-clause-ok g t c =
    let whole = ap places (sym c.in-Values.is) ∙ c.self.view_is in
    let copies = same_values (λ x. x.value) c.in-Values.values c.in_ok-values-in-Values.values
    c.in_ok-values-in-Values.ensures.cases.whole in
    subst (λ l. IfOk c.new.result (λ node. node.value ≡ l))
    (map-set (λ x. x.value) c.in_ok-values-in-Values.values c.args.index c.args.value
    ∙ ap (λ l. set l c.args.index c.args.value.value) (copies ∙ whole)) c.new.ensures.ok

pub returns-in_ok-nodes-in-Nodes-clause-ok : goal.returns-in_ok-nodes-in-Nodes-clause-ok
returns-in_ok-nodes-in-Nodes-clause-ok g t c =
    let shape = subst IsNode c.in-Nodes.is c.self.invariant.0 in
    let copied = c.in_ok-nodes-in-Nodes.ensures.cases.whole in
    let kept : length c.in-Nodes.nodes ≡ length c.in_ok-nodes-in-Nodes.nodes =
    length_all_zip _ _ _ copied in
    let at = level (λ n. n.value) c.args.width c.in_ok-nodes-in-Nodes.nodes shape.1.0 c.args.index
    c.args.self.now (sym kept ∙ shape.0) shape.1.1
    (long_level (λ n. n.value) _ _ _ copied shape.1.2)
    (same_level (λ n. n.value) c.args.width _ _ copied ∙ ap places (sym c.in-Nodes.is)
    ∙ c.self.view_is) c.requires.level c.requires.within in
    let kid = AllZip-get_or (λ x y. y.value ≡ x.value) c.in-Nodes.nodes c.in_ok-nodes-in-Nodes.nodes
    (c.args.index / c.args.width) c.index-nodes-at.result c.index-nodes-at.result copied
    (omega (arith, at.kid, at.eight, kept)) in
    subst (λ l. IfOk c.new-in-Nodes.result (λ node. node.value ≡ l))
    (at.writes c.args.value.value c.in_ok-below-in-Nodes.below c.index-nodes-at.result
    (c.in_ok-below-in-Nodes.ensures.ok
    ∙ ap (λ l. set l (c.args.index % c.args.width) c.args.value.value)
    (c.deref.ensures ∙ sym kid)))
    c.new-in-Nodes.ensures.ok

pub returns-in_ok-nodes-in-Nodes-clause-nodes : goal.returns-in_ok-nodes-in-Nodes-clause-nodes
returns-in_ok-nodes-in-Nodes-clause-nodes g t c h high =
    let at = kid c.self.inside.kids c.in-Nodes.nodes c.args.width c.args.index c.args.self.now
    c.in-Nodes.is c.self.invariant.0 c.self.view_is c.requires.level c.requires.within in
    let long : length c.deref.result.now ≡ c.args.width = ap length c.deref.ensures
    ∙ at.long _ _ (omega (arith, at.kid, at.eight)) in
    let d = deeper c.args.width h at.next at.wide (sym c.requires.level ∙ high) in
    omega (
      arith,
      c.set.ensures.nodes d.0 (long ∙ d.2),
      d.1,
      c.new-in-Nodes.ensures.ticked,
      ticked_le (is_ok c.new-in-Nodes.result),
    )
