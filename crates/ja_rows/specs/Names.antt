-- The nodes of names (10.1.4, 8.7, 11.4).
use Rattle.std.specs.Prelude.{true, false, not, ◌&&◌, ◌++◌}
use Rattle.ja_base.specs.declared.ids.NameId.{NameId}
use Rattle.ja_base.specs.declared.ids.Reg.{Reg}
use Rattle.ja_base.specs.declared.ids.Site.{Site}
use Rattle.ja_graph.specs.declared.builtins.TheConstants as builtins
use Rattle.ja_graph.specs.declared.node.NodeInfo.{NodeInfo}
use Rattle.ja_graph.specs.declared.program.Program.{Program}
use Rattle.ja_machine.specs.Events.{unbound_message}
use Rattle.ja_machine.specs.Frames.{scope}
use Rattle.ja_machine.specs.Nodes.{name_text}
use Rattle.ja_abstract.specs.AbstractValue.{Labels, join, undefined_value}
use Rattle.ja_abstract.specs.AbstractState.{with_register}
use Rattle.ja_abstract.specs.Primitives.{of_bools}
use Rattle.ja_abstract.specs.Reading.{View, demands_of_get, found, demands_of_found}
use Rattle.ja_abstract.specs.Writes.{put_states, demands_of_puts, or_global, is_array_label, delete_states, demands_of_delete}
use Rattle.ja_abstract.specs.Values.{value_if}
use Rattle.ja_rows.specs.Out.{Out, out, goes, all_go, sets, sets_results, throws, at, name_keys, read_value, reads}

abbrev pub without_arrays : Program → Labels → Labels
without_arrays p set l = set l && not (is_array_label p l)

-- the objects of the scope chain that may have the name, and null where the chain may end (10.1.4)
abbrev pub transfer_find_name : View → NodeInfo → Reg → NameId → Out
transfer_find_name w i dst name =
    let start = (at w scope).label in
    out (sets w dst (found w start (name_keys name)) i.next)
    (demands_of_found w start (name_keys name))

-- [[Get]] of the objects of a name (8.7.1); null, that no object has it, throws a ReferenceError
abbrev pub transfer_read_ref : View → NodeInfo → Reg → Reg → NameId → Site → Out
transfer_read_ref w i dst base name error =
    let b = at w base in
    let text = unbound_message (name_text w.program name) in
    let unbound = throws w b.flags.null i error builtins.REFERENCE_ERROR_PROTOTYPE text in
    out (unbound ++ reads w dst b.label (name_keys name) i.next)
    (demands_of_get w b.label (name_keys name))

-- .. where null gives undefined (11.4.3)
abbrev pub transfer_read_soft : View → NodeInfo → Reg → Reg → NameId → Out
transfer_read_soft w i dst base name =
    let b = at w base in
    let v = join (value_if b.flags.null undefined_value) (read_value w b.label (name_keys name)) in
    out (sets w dst v i.next) (demands_of_get w b.label (name_keys name))

-- [[Put]] to the objects of a name, or to the global object where they may be null (8.7.2)
abbrev pub transfer_write_ref : View → NodeInfo → Reg → NameId → Reg → Out
transfer_write_ref w i base name src =
    let target = without_arrays w.program (or_global (at w base)) in
    out (all_go i.next (put_states w target (name_keys name) (at w src)))
    (demands_of_puts w target (name_keys name))

-- [[Delete]] of a name, of null true (11.4.1)
abbrev pub transfer_delete_ref : View → NodeInfo → Reg → Reg → NameId → Out
transfer_delete_ref w i dst base name =
    let b = at w base in
    let unbound = goes b.flags.null i.next (with_register w.state dst (of_bools true false)) in
    let deleted = sets_results w dst i.next (delete_states w b.label (name_keys name)) in
    out (unbound ++ deleted) (demands_of_delete w b.label (name_keys name))
