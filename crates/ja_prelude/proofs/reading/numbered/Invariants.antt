use Rattle.std.proofs.Common.{◌≡◌, ◌≤◌, ◌+◌, ◌++◌, length}
use Rattle.std.specs.Vec.Iter.{into_iter_items}
use Rattle.ja_prelude.specs.Reading as spec
use Rattle.ja_prelude.proofs.reading.numbered.Given as goal

abbrev pub invariant-loop-token : goal.invariant-loop-token
invariant-loop-token l = record {
  few : l.column + length (into_iter_items l.token-iterator) ≤ spec.max_tokens;
  tokens : l.list.items ++ spec.numbered (1 + l.column) (into_iter_items l.token-iterator)
      ≡ spec.numbered 1 l.fn.tokens.items;
}
