use Rattle.std.proofs.Common.{◌≡◌, ap, sym, ◌∙◌, rules}
use Rattle.std.proofs.lemmas.Bool.{true≢false}
use Rattle.std.specs.Ordering.{nat_cmp}
use Rattle.std.specs.BTreeMap.{get}
use Rattle.ja_abstract.specs.AbstractValue.{join_properties}
use Rattle.ja_value.specs.Value.{property_of}
use Rattle.ja_aheap.specs.declared.object.AObject.{AObject}
use Rattle.ja_aheap.specs.Objects.{at, shared_property}
use Rattle.ja_aheap.proofs.MapLemmas.{found, filled_twice}
use Rattle.ja_aheap.proofs.ObjectLemmas.{joined_owns, joined_below, below_joined, properties_turned}
use Rattle.ja_aheap.proofs.object.AObject.joined.Goals as goal

pub returns-then-leq-clause-joined : goal.returns-then-leq-clause-joined
returns-then-leq-clause-joined c =
    joined_below c.args.self.now c.args.other.now c.args.names (c.leq.ensures.0 c.if-leq.true)

pub returns-clause-joined : goal.returns-clause-joined
returns-clause-joined c =
    let a = c.args.self.now in
    let b = c.args.other.now in
    let new : AObject = record { common = c.in_ok-common.common; listed = c.fill-2.new.into } in
    joined_owns a b new c.args.names (λ q.
    filled_twice _ _ shared_property join_properties (get nat_cmp a.listed q)
    (get nat_cmp b.listed q) (get nat_cmp c.new-listed.result q)
    (get nat_cmp c.fill.new.into q) (get nat_cmp c.fill-2.new.into q)
    (property_of a.common) (property_of b.common) (property_of c.in_ok-common.common)
    (ap (λ es. found es q) c.new-listed.ensures.empty) (c.in_ok-fill.ensures q)
    (c.in_ok-fill-2.ensures q) (λ v w is makes. search rules)
    (λ v w is makes. let its : shared_property w ≡ join_properties (shared_property v) (at a q) =
    search rules in its ∙ properties_turned (shared_property v) (at a q))
    c.in_ok-common.ensures)

pub returns-clause-changed : goal.returns-clause-changed
returns-clause-changed c = λ same.
    let below = below_joined c.args.self.now c.args.other.now c.args.names
    (sym same ∙ returns-clause-joined c) in
    true≢false (sym (c.leq.ensures.1 below) ∙ c.if-leq.false)
