use Rattle.std.proofs.Common.{◌≡◌, Some, slice_get, refl, sym, subst, arith}
use mathlib.Core.Bool.{true≢false}
use Rattle.ja_graph.specs.declared.program.PropertySpec.{PropertySpec}
use Rattle.ja_graph.specs.code.Parts.{IsPropertyBefore}
use Rattle.ja_graph.proofs.EachLemmas.{read_at}
use Rattle.ja_graph.proofs.OnceLemmas.{properties_more, properties_all}
use Rattle.ja_graph.proofs.well_formed_opening.are_once.Goals as goal

pub loop-k-preserved : goal.loop-k-preserved
loop-k-preserved c =
    let qs = c.args.properties.now in
    let k = c.loop-k.k in
    let found : slice_get qs k ≡ Some c.index-properties-k.result = read_at qs k
    c.index-properties-k.result (omega arith) (cc) in
    properties_more qs k c.index-properties-k.result c.loop-k.invariant found
    (λ among. true≢false (sym (c.if-is_property_before.ensures.1
    (subst (λ (r : PropertySpec). IsPropertyBefore qs k r.name) c.index-properties-k.is
    among))))

pub returns : goal.returns
returns c = (
  λ _. properties_all c.args.properties.now c.loop-k.k (omega arith) c.loop-k.invariant,
  λ _. refl,
)
