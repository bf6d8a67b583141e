use Rattle.std.proofs.Common.{refl, subst}
use Rattle.std.proofs.lemmas.Result.{IfOk-weaker}
use Rattle.ja_rows.specs.Table.{point}
use Rattle.ja_aheap.specs.Heap.{heap_of}
use Rattle.ja_flow.proofs.AtNode.{HasSite, callee_within, site_within}
use Rattle.ja_flow.proofs.Constructing.{calling_made, calling_kept}
use Rattle.ja_flow.proofs.calling.calling_of.Goals as goal

pub constructing-requires-clause-callee : goal.constructing-requires-clause-callee
constructing-requires-clause-callee c =
    let k = c.args.caller.now in
    callee_within k.reader.program.now (point k.edge.caller k.edge.node k.info.now)
    k.reader.state.now c.requires.at_node

pub constructing-requires-clause-site : goal.constructing-requires-clause-site
constructing-requires-clause-site c =
    let k = c.args.caller.now in
    subst (HasSite (heap_of k.reader.state.now.heap).sites) c.in-New.is
    (site_within k.reader.program.now (point k.edge.caller k.edge.node k.info.now)
    k.reader.state.now c.requires.at_node)

pub returns-in-New : goal.returns-in-New
returns-in-New c =
    IfOk-weaker c.constructing.result _ _
    (λ kept made. calling_made _ _ _ _ _ c.args.caller.now kept c.in-New.is made)
    c.constructing.ensures

pub returns-in_default : goal.returns-in_default
returns-in_default c =
    calling_kept c.args.caller.now _ c.in_default.not-New refl c.new.ensures
