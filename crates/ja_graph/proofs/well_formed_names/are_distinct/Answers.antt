use Rattle.std.proofs.Common.{◌≡◌, Some, ℕ, List, slice_get, refl, sym, subst, arith}
use mathlib.Core.Bool.{true≢false}
use Rattle.ja_graph.specs.code.Parts.{IsAmong}
use Rattle.ja_graph.proofs.EachLemmas.{read_at}
use Rattle.ja_graph.proofs.OnceLemmas.{names_more, names_all}
use Rattle.ja_graph.proofs.well_formed_names.are_distinct.Goals as goal

pub loop-k-preserved : goal.loop-k-preserved
loop-k-preserved c =
    let names = c.args.names.now in
    let k = c.loop-k.k in
    let found : slice_get names k ≡ Some c.index-names-k.result = read_at names k
    c.index-names-k.result (omega arith) (cc) in
    names_more names k c.index-names-k.result c.loop-k.invariant found
    (λ among. true≢false (sym (c.if-is_among.ensures.1
    (subst (λ (t : List ℕ). IsAmong names k t) (sym c.units.ensures.value) among))))

pub returns : goal.returns
returns c =
    (λ _. names_all c.args.names.now c.loop-k.k (omega arith) c.loop-k.invariant, λ _. refl)
