use Rattle.std.proofs.Common.{◌≡◌, ◌-◌, ◌*◌}
use Rattle.ja_trie.specs.Test.{MaySay}
use Rattle.ja_trie.proofs.Tested.{AreHeld}
use Rattle.ja_trie.proofs.node.Node.+all_with.Given as goal

abbrev pub decreases-all_with : goal.decreases-all_with
decreases-all_with g l = l.width

abbrev pub invariant-loop-i : goal.invariant-loop-i
invariant-loop-i g l = (l.left ≡ l.count - l.i * l.width)
    × AreHeld (MaySay g.F.Fn l.test) (λ n. n.value) l.width l.count l.nodes l.others l.i
