use Rattle.std.proofs.Common.{rules, arith, ◌/◌, ap, sym, ◌∙◌, set}
use Rattle.std.proofs.lemmas.List.{map-set}
use Rattle.std.proofs.lemmas.Result.{IfOk-weaker, on_err_weaker}
use Rattle.ja_trie.specs.code.Node.{places}
use Rattle.ja_trie.proofs.Levels.{kid, deeper, same_put}
use Rattle.ja_trie.proofs.node.Node.+put.Goals as goal

pub put-requires : goal.put-requires
put-requires g t c κs within =
    let at = kid c.own.inside.kids c.in-Nodes.nodes c.args.width c.args.index c.args.node.now.value
    c.in-Nodes.is c.own.invariant.0 (c.own.view_is ∙ c.in-Some.ensures.value) c.requires.level
    c.requires.within in
    let long = at.long (c.args.index / c.args.width) c.index-nodes-at.result
    (omega (arith, at.kid, at.eight)) in
    search (rules, at.less, at.next, at.inside, long)

pub returns-in-Values-clause-ok : goal.returns-in-Values-clause-ok
returns-in-Values-clause-ok g t c =
    map-set (λ x. x.value) c.in-Values.values c.args.index c.args.value
    ∙ ap (λ l. set l c.args.index c.args.value.value)
    (ap places (sym c.in-Values.is) ∙ c.own.view_is ∙ c.in-Some.ensures.value)

pub returns-in-Nodes-clause-ok : goal.returns-in-Nodes-clause-ok
returns-in-Nodes-clause-ok g t c =
    let at = kid c.own.inside.kids c.in-Nodes.nodes c.args.width c.args.index c.args.node.now.value
    c.in-Nodes.is c.own.invariant.0 (c.own.view_is ∙ c.in-Some.ensures.value) c.requires.level
    c.requires.within in
    IfOk-weaker c.put.result _ _
    (λ _ e. at.writes c.args.value.value c.put.new.node c.index-nodes-at.result e)
    c.put.ensures.ok

pub returns-in-Nodes-clause-err : goal.returns-in-Nodes-clause-err
returns-in-Nodes-clause-err g t c =
    let at = kid c.own.inside.kids c.in-Nodes.nodes c.args.width c.args.index c.args.node.now.value
    c.in-Nodes.is c.own.invariant.0 (c.own.view_is ∙ c.in-Some.ensures.value) c.requires.level
    c.requires.within in
    on_err_weaker c.put.result (λ e. same_put (λ n. n.value) c.in-Nodes.nodes
    (c.args.index / c.args.width) c.put.new.node c.index-nodes-at.result e
    (omega (arith, at.kid, at.eight))
    ∙ ap places (sym c.in-Nodes.is) ∙ c.own.view_is ∙ c.in-Some.ensures.value) c.put.ensures.err

pub returns-in-Nodes-clause-nodes : goal.returns-in-Nodes-clause-nodes
returns-in-Nodes-clause-nodes g t c h high =
    let at = kid c.own.inside.kids c.in-Nodes.nodes c.args.width c.args.index c.args.node.now.value
    c.in-Nodes.is c.own.invariant.0 (c.own.view_is ∙ c.in-Some.ensures.value) c.requires.level
    c.requires.within in
    let long = at.long (c.args.index / c.args.width) c.index-nodes-at.result
    (omega (arith, at.kid, at.eight)) in
    let d = deeper c.args.width h at.next at.wide (sym c.requires.level ∙ high) in
    omega (arith, c.put.ensures.nodes d.0 (long ∙ d.2), d.1)
