use Rattle.std.proofs.Common.{◌∙◌, ap, sym, List, map, arith}
use Rattle.ja_base.proofs.Lists.{empty_by_length}
use Rattle.ja_aheap.specs.declared.writes.Write.{Write}
use Rattle.ja_aheap.specs.Objects.{object_of, write_of}
use Rattle.ja_aheap.proofs.WriteLemmas.{joined_in, joined_turn}
use Rattle.ja_aheap.proofs.object.AObject.weakly.Goals as goal

pub loop-write-preserved : goal.loop-write-preserved
loop-write-preserved c =
    joined_turn write_of c.loop-write.list.items c.pop.new.self.items c.in-Some.write
    (object_of c.loop-write.self) (object_of c.join_at.new.self) c.in-Some.ensures.items
    c.in_ok-join_at.ensures ∙ c.loop-write.invariant

pub returns : goal.returns
returns c =
    ap (λ (xs : List Write). joined_in (map write_of xs) (object_of c.loop-write.self))
    (sym (empty_by_length c.loop-write.list.items (omega (arith, c.in_default.ensures.cases.0))))
    ∙ c.loop-write.invariant
