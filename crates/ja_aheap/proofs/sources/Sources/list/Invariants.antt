use Rattle.std.proofs.Common.{◌≡◌, ◌||◌, ℕ, is_some}
use Rattle.std.specs.Ordering.{nat_cmp}
use Rattle.std.specs.BTreeMap.{get}
use Rattle.ja_aheap.specs.code.Composed.{AreAt, composed_at}
use Rattle.ja_aheap.proofs.MapLemmas.{found}
use Rattle.ja_aheap.proofs.sources.Sources.list.Given as goal

abbrev pub invariant-loop-number : goal.invariant-loop-number
invariant-loop-number l = record {
  right : AreAt (composed_at l.self) l.initial.listed → AreAt (composed_at l.self) l.listed;
  listed : (q : ℕ) → (is_some (found l.number-iterator q) || is_some (get nat_cmp l.listed q))
      ≡ (is_some (get nat_cmp l.object.listed q) || is_some (get nat_cmp l.initial.listed q));
}
