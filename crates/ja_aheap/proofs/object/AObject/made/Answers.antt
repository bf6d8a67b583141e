use Rattle.std.proofs.Common.{◌∙◌, ap, sym, List, map, arith}
use Rattle.ja_base.proofs.Lists.{empty_by_length}
use Rattle.ja_abstract.specs.declared.abstraction.Key.{Key}
use Rattle.ja_value.specs.declared.property.AProp.{AProp}
use Rattle.ja_aheap.specs.Objects.{object_of}
use Rattle.ja_aheap.proofs.WriteLemmas.{replaced_in, replaced_turn, set_by, made_by_sets}
use Rattle.ja_aheap.proofs.object.AObject.made.Goals as goal

pub loop-key-preserved : goal.loop-key-preserved
loop-key-preserved c =
    replaced_turn set_by c.loop-key.listed.items c.pop.new.self.items
    (c.in-Some.key, c.in-Some.property)
    (object_of c.loop-key.object) (object_of c.write.new.self) c.in-Some.ensures.items
    c.in_ok-write.ensures.written ∙ c.loop-key.invariant

pub returns : goal.returns
returns c =
    ap (λ (xs : List (Key × AProp)). replaced_in (map set_by xs) (object_of c.loop-key.object))
    (sym (empty_by_length c.loop-key.listed.items (omega (arith, c.in_default.ensures.cases.0))))
    ∙ c.loop-key.invariant
    ∙ ap (replaced_in (map set_by c.args.made.listed.items)) c.absent-object.ensures
    ∙ (λ i k. (made_by_sets c.args.made.listed.items k) i)
