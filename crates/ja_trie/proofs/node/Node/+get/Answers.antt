use Rattle.std.proofs.Common.{rules, arith, ◌≡◌, ◌%◌, ap, sym, ◌∙◌, length, get_or}
use Rattle.ja_trie.proofs.Levels.{kid}
use Rattle.ja_trie.proofs.node.Node.+get.Goals as goal

pub get-requires : goal.get-requires
get-requires g t c κs within =
    let at = kid c.self.inside.kids c.in-Nodes.nodes c.args.width c.args.index c.args.self.now
    c.in-Nodes.is c.self.invariant.0 c.self.view_is c.requires.level c.requires.within in
    let long : length c.deref-in-Nodes.result.now ≡ c.args.width =
    ap length c.deref-in-Nodes.ensures ∙ at.long _ _ (omega (arith, at.kid, at.eight)) in
    search (rules, at.less, at.next, at.inside, long)

pub returns-in-Nodes : goal.returns-in-Nodes
returns-in-Nodes g t c =
    let at = kid c.self.inside.kids c.in-Nodes.nodes c.args.width c.args.index c.args.self.now
    c.in-Nodes.is c.self.invariant.0 c.self.view_is c.requires.level c.requires.within in
    c.get.ensures ∙ ap (λ l. get_or l (c.args.index % c.args.width) c.get.result.now)
    c.deref-in-Nodes.ensures ∙ sym (at.reads _ _)
