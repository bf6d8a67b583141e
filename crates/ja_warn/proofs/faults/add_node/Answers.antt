use Rattle.std.proofs.Common.{◌≡◌, ◌<◌, List, length, vec_len, sym, ◌∙◌, ap, subst}
use Rattle.std.specs.Prelude.{None, Some}
use Rattle.std.specs.List.{AllByRecursion}
use Rattle.std.specs.Option.{option_map}
use Rattle.std.proofs.lemmas.Option.{slice_get_within}
use Rattle.std.proofs.lemmas.Result.{IfOk-weaker}
use Rattle.ja_base.specs.declared.ids.Reg.{Reg}
use Rattle.ja_graph.specs.declared.node.NodeInfo.{NodeInfo}
use Rattle.ja_graph.specs.Node.{registers_named}
use Rattle.ja_graph.specs.Program.{nodes_of}
use Rattle.ja_machine.specs.Frames.{registers_of}
use Rattle.ja_abstract.specs.Reading.{View}
use Rattle.ja_aheap.specs.Entries.{entries_of}
use Rattle.ja_astate.specs.declared.state.AState.{AState}
use Rattle.ja_astate.specs.State.{state_of}
use Rattle.ja_astate.specs.Looks.{view_of}
use Rattle.ja_table.proofs.Found.{state_none, state_some}
use Rattle.ja_rules.proofs.NodeFacts.{named_registers}
use Rattle.ja_value.specs.Value.{value_of}
use Rattle.ja_warn.specs.Told.{name_at, named}
use Rattle.ja_warn.specs.code.Names.{AreWithin}
use Rattle.ja_warn.proofs.NodeRanges.{nodes_within}
use Rattle.ja_warn.specs.code.Faults.{found_at, held, reached_by}
use Rattle.ja_warn.proofs.ReachedLemmas.{reached_is}
use Rattle.ja_warn.proofs.faults.add_node.Goals as goal

pub returns-in_default : goal.returns-in_default
returns-in_default c =
    let own = c.args.own.now in
    let n = c.args.node.0 in
    λ k. ap (held k (found_at c.args.found.now k))
    (sym (reached_is c.args.program.now own n c.args.info.now None c.requires.info
    (ap (option_map state_of)
    (state_none own.nodes.items n c.state.result c.state.ensures c.in_default.is))))

pub new-reader-requires-clause-heap : goal.new-reader-requires-clause-heap
new-reader-requires-clause-heap c =
    let own = c.args.own.now in
    let n = c.args.node.0 in
    (c.requires.fits.states n c.in-Some.state.now
    (state_some own.nodes.items n c.state.result c.in-Some.state c.state.ensures c.in-Some.is)).heap

pub name_at-requires-clause-nodes : goal.name_at-requires-clause-nodes
name_at-requires-clause-nodes c =
    let p = c.args.program.now in
    let own = c.args.own.now in
    let n = c.args.node.0 in
    let f = own.context.function in
    let kept = state_some own.nodes.items n c.state.result c.in-Some.state c.state.ensures
    c.in-Some.is in
    subst (λ (a : AState). AreWithin (vec_len a.registers) c.args.nodes.now)
    (sym c.new-reader.ensures.state)
    (subst (λ count. AreWithin count c.args.nodes.now)
    (sym (c.requires.fits.states n c.in-Some.state.now kept).registers)
    (subst (AreWithin (registers_of p f)) (sym c.requires.nodes)
    (nodes_within p c.requires.program f)))

pub name_at-requires-clause-number : goal.name_at-requires-clause-number
name_at-requires-clause-number c =
    subst (λ (xs : List NodeInfo). c.args.node.0 < length xs) (sym c.requires.nodes)
    (slice_get_within (nodes_of c.args.program.now c.args.own.now.context.function)
    c.args.node.0 c.args.info.now c.requires.info)

pub name_at-requires-clause-node : goal.name_at-requires-clause-node
name_at-requires-clause-node c =
    let own = c.args.own.now in
    let n = c.args.node.0 in
    let i = c.args.info.now in
    let kept = state_some own.nodes.items n c.state.result c.in-Some.state c.state.ensures
    c.in-Some.is in
    subst (λ (a : AState). AllByRecursion (λ (r : Reg). r.0 < vec_len a.registers)
    (registers_named i.node)) (sym c.new-reader.ensures.state)
    (subst (λ count. AllByRecursion (λ (r : Reg). r.0 < count) (registers_named i.node))
    (sym (c.requires.fits.states n c.in-Some.state.now kept).registers)
    (named_registers c.args.program.now c.requires.program own.context.function c.args.node i
    c.requires.info))

pub add_operations-requires : goal.add_operations-requires
add_operations-requires c =
    let own = c.args.own.now in
    let n = c.args.node.0 in
    let i = c.args.info.now in
    let kept = state_some own.nodes.items n c.state.result c.in-Some.state c.state.ensures
    c.in-Some.is in
    subst (λ (a : AState). AllByRecursion (λ (r : Reg). r.0 < vec_len a.registers)
    (registers_named i.node)) (sym c.new-reader.ensures.state)
    (subst (λ count. AllByRecursion (λ (r : Reg). r.0 < count) (registers_named i.node))
    (sym (c.requires.fits.states n c.in-Some.state.now kept).registers)
    (named_registers c.args.program.now c.requires.program own.context.function c.args.node i
    c.requires.info))

pub returns : goal.returns
returns c =
    let p = c.args.program.now in
    let own = c.args.own.now in
    let f = own.context.function in
    let n = c.args.node.0 in
    let i = c.args.info.now in
    let a = c.in-Some.state.now in
    let kept = state_some own.nodes.items n c.state.result c.in-Some.state c.state.ensures
    c.in-Some.is in
    let w : View = record { program = p; state = state_of a; entries = entries_of own.entries } in
    let view_is : view_of c.new-reader.result ≡ w = λ j. record {
      program = c.new-reader.ensures.program j;
      state = state_of (c.new-reader.ensures.state j);
      entries = entries_of (c.new-reader.ensures.entries j);
    } in
    let name_is : value_of c.in_ok-name.name ≡ name_at w f c.args.node i.node =
    c.in_ok-name.ensures ∙ (λ j. named (view_is j) (c.requires.nodes j) c.args.node i.node) in
    IfOk-weaker c.add_operations.result _ _ (λ _ added k. added k
    ∙ ap (held k (found_at c.args.found.now k)) ((λ j. reached_by (view_is j) f i (name_is j))
    ∙ sym (reached_is p own n i (Some (state_of a)) c.requires.info
    (ap (option_map state_of) kept)))) c.add_operations.ensures
