use Rattle.std.proofs.Common.{◌∙◌, ap, subst}
use Rattle.std.specs.Prelude.{IsTrue}
use Rattle.std.specs.List.{AllByRecursion}
use Rattle.std.proofs.lemmas.Result.{IfOk-weaker}
use Rattle.ja_base.specs.declared.ids.Site.{Site}
use Rattle.ja_abstract.specs.AbstractState.{AbstractState}
use Rattle.ja_astate.specs.State.{state_of}
use Rattle.ja_cert_parts.specs.declared.listed.Pair.{Pair}
use Rattle.ja_cert_read.specs.code.Building.{lists_pair, lists_site, with_masks, with_properties, IsBefore}
use Rattle.ja_cert_read.proofs.Starting.{starts_so}
use Rattle.ja_cert_read.proofs.starts.start.Goals as goal

pub returns-then-list_sites-clause-state : goal.returns-then-list_sites-clause-state
returns-then-list_sites-clause-state c =
    let before = c.in-Some.before in
    let heap = c.args.heap.now in
    let masks = c.args.masks.now in
    let is : IsBefore c.args.program.now c.args.function before =
    rw c.in-Some.is at c.requires.before in
    IfOk-weaker c.with_heap.result _ _
    (λ s made. ap (λ (a : AbstractState). with_masks masks (with_properties heap a)) made
    ∙ starts_so (state_of before.state.now) before.listed.now.pairs.items
    before.listed.now.sites.items heap masks is.all
    (subst (AllByRecursion (λ (pair : Pair). IsTrue (lists_pair heap pair)))
    c.deref.ensures.value (c.list_pairs.ensures c.if-list_pairs.true))
    (subst (AllByRecursion (λ (site : Site). IsTrue (lists_site masks site)))
    c.deref-then-list_pairs.ensures.value (c.list_sites.ensures c.if-list_sites.true)))
    c.with_heap.ensures.state

pub returns-clause-state : goal.returns-clause-state
returns-clause-state c =
    IfOk-weaker c.plain_state.result _ _
    (λ s made. ap (λ (a : AbstractState).
    with_masks c.args.masks.now (with_properties c.args.heap.now a)) made)
    c.plain_state.ensures.state
