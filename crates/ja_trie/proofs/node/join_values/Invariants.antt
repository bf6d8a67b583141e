use Rattle.std.proofs.Common.{◌≡◌, ℕ, map, nat_lt, is_some}
use Rattle.std.specs.Option.{unwrap_or}
use Rattle.ja_trie.specs.code.Join.{JoinedTo}
use Rattle.ja_trie.specs.Join.{MayAnswer}
use Rattle.ja_trie.proofs.node.join_values.Given as goal

-- the places before `i` are joined
abbrev pub invariant-loop-i : goal.invariant-loop-i
invariant-loop-i g l = (puts : ℕ) × (is_some l.kids ≡ nat_lt 0 puts)
    × JoinedTo (MayAnswer g.F.Fn l.join) l.i (map (λ x. x.value) l.values)
    (map (λ x. x.value) l.others) (map (λ x. x.value) (unwrap_or l.kids l.values)) puts
