use Rattle.std.proofs.Common.{is_some}
use Rattle.std.specs.Option.{unwrap_or}
use Rattle.ja_trie.specs.Join.{MayAnswer}
use Rattle.ja_trie.proofs.Joins.{IsJoining}
use Rattle.ja_trie.proofs.node.Node.+join.Given as goal

abbrev pub decreases-join : goal.decreases-join
decreases-join g l = l.width

abbrev pub invariant-loop-i : goal.invariant-loop-i
invariant-loop-i g l = IsJoining (MayAnswer g.F.Fn l.join)
    (λ n. n.value) l.width l.count l.nodes l.others l.i (unwrap_or l.kids l.nodes)
    (is_some l.kids) l.left l.fn.steps l.steps
