use Rattle.std.proofs.Common.{rules, arith, ◌≡◌, ◌+◌, ap, sym, ◌∙◌, length, subst}
use Rattle.ja_trie.specs.Run.{IsRun}
use Rattle.ja_trie.specs.code.Node.{places, AreSame}
use Rattle.ja_trie.proofs.Levels.{kid}
use Rattle.ja_trie.proofs.Runs.{run_at, part_end, run_of_part, run_of_parts}
use Rattle.ja_trie.proofs.node.Node.+run_end.Goals as goal

pub run_end-end-requires : goal.run_end-end-requires
run_end-end-requires g t c κs within =
    let at = kid c.self.inside.kids c.in-Nodes.nodes c.args.width c.args.index c.args.self.now
    c.in-Nodes.is c.self.invariant.0 c.self.view_is c.requires.level c.requires.within in
    let long : length c.deref.result.now ≡ c.args.width =
    ap length c.deref.ensures ∙ at.long _ _ (omega (arith, at.kid, at.eight)) in
    search (rules, at.less, at.next, at.inside, long)

pub returns-then-end-from : goal.returns-then-end-from
returns-then-end-from g t c =
    let at = kid c.self.inside.kids c.in-Nodes.nodes c.args.width c.args.index c.args.self.now
    c.in-Nodes.is c.self.invariant.0 c.self.view_is c.requires.level c.requires.within in
    let same = subst AreSame c.in-Nodes.is (c.self.invariant.1 c.if-self-2.true) in
    run_of_parts (λ n. n.value) c.args.width c.in-Nodes.nodes c.args.self.now c.args.index
    c.index-nodes-at.result at (ap places (sym c.in-Nodes.is) ∙ c.self.view_is)
    c.requires.level c.run_end-end.result
    (run_at _ _ _ _ c.deref.ensures c.run_end-end.ensures) same.0 same.1
    c.requires.within (omega (arith, c.if-inside-eq0.true))
    (omega (arith, c.if-end-from.true, c.from-then-inside-eq0.ensures))

pub overflow_add-result-in-Nodes : goal.overflow_add-result-in-Nodes
overflow_add-result-in-Nodes g t c =
    let at = kid c.self.inside.kids c.in-Nodes.nodes c.args.width c.args.index c.args.self.now
    c.in-Nodes.is c.self.invariant.0 c.self.view_is c.requires.level c.requires.within in
    let most = part_end (λ n. n.value) c.args.width c.in-Nodes.nodes c.args.self.now c.args.index
    c.index-nodes-at.result at (ap places (sym c.in-Nodes.is) ∙ c.self.view_is)
    c.requires.level c.run_end-end.result
    (run_at _ _ _ _ c.deref.ensures c.run_end-end.ensures) in
    omega (arith, most, c.from-in-Nodes.ensures, c.ranges.index.fits, c.ranges.width.fits)

pub returns-else-self-2 : goal.returns-else-self-2
returns-else-self-2 g t c =
    let at = kid c.self.inside.kids c.in-Nodes.nodes c.args.width c.args.index c.args.self.now
    c.in-Nodes.is c.self.invariant.0 c.self.view_is c.requires.level c.requires.within in
    subst (λ n. IsRun c.args.self.now c.args.index (n + c.run_end-end.result))
    (sym c.from-in-Nodes.ensures)
    (run_of_part (λ n. n.value) c.args.width c.in-Nodes.nodes c.args.self.now c.args.index
    c.index-nodes-at.result at (ap places (sym c.in-Nodes.is) ∙ c.self.view_is)
    c.requires.level c.run_end-end.result
    (run_at _ _ _ _ c.deref.ensures c.run_end-end.ensures))
