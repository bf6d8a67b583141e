use Rattle.std.proofs.Common.{◌<◌, ap, sym, ◌∙◌, vec_len}
use Rattle.std.specs.Prelude.{is_some}
use Rattle.std.specs.List.{AllByRecursion}
use Rattle.std.specs.Option.{option_copied}
use Rattle.ja_base.specs.declared.ids.Reg.{Reg}
use Rattle.ja_graph.specs.declared.node.NodeInfo.{NodeInfo}
use Rattle.ja_graph.specs.Node.{registers_named}
use Rattle.ja_warn.specs.Told.{key_of}
use Rattle.ja_warn.proofs.NodeRanges.{found_has}
use Rattle.ja_warn.proofs.names.key_value.Goals as goal

pub value_of_key-requires : goal.value_of_key-requires
value_of_key-requires c =
    let count = vec_len c.args.reader.now.state.now.registers in
    found_has
    (λ (i : NodeInfo). AllByRecursion (λ (r : Reg). r.0 < count) (registers_named i.node))
    (λ (i : NodeInfo). is_some (key_of c.args.register i.node)) c.args.behind.now
    c.in-Some.info.now c.requires
    (sym c.first_property.ensures ∙ ap option_copied c.in-Some.is)
