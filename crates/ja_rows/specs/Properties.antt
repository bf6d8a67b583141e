-- The nodes of properties (8.6.2, 11.2.1, 11.4.1, 11.8.6, 11.8.7).
use Rattle.std.specs.Prelude.{not, ◌&&◌, ◌||◌, List, [], ◌∷◌, ◌++◌}
use lib.Chars.{codes}
use Rattle.ja_base.specs.declared.ids.Reg.{Reg}
use Rattle.ja_base.specs.declared.ids.Site.{Site}
use Rattle.ja_graph.specs.declared.builtins.TheConstants as builtins
use Rattle.ja_graph.specs.declared.node.NodeInfo.{NodeInfo}
use Rattle.ja_graph.specs.declared.program.Program.{Program}
use Rattle.ja_machine.specs.Events.{array_length_message, no_function_message, no_prototype_message}
use Rattle.ja_abstract.specs.declared.abstraction.Key.{Key}
use Rattle.ja_abstract.specs.AbstractValue.{Labels, AbstractValue}
use Rattle.ja_abstract.specs.Keys.{text_key}
use Rattle.ja_abstract.specs.Primitives.{of_bools}
use Rattle.ja_abstract.specs.Reading.{View, some_label, both, demands_if, get, demands_of_get, may_have, may_lack, proper_ancestors, demands_of_ancestors}
use Rattle.ja_abstract.specs.Writes.{put_states, put_may_throw, demands_of_puts, delete_states, demands_of_delete}
use Rattle.ja_abstract.specs.Values.{has_atoms, has_labels, value_if, is_function_label, has_non_object}
use Rattle.ja_rows.specs.Out.{Out, out, all_go, sets, sets_results, throws, type_error, at, keys_in, reads}

-- ---- `instanceof` (11.8.6, 15.3.5.3)

abbrev pub functions_in : View → AbstractValue → Labels
functions_in w v l = v.label l && is_function_label w.program l

abbrev pub prototype_keys : Program → List Key
prototype_keys p = text_key p (codes "prototype") ∷ []

abbrev pub instance_prototype : View → Reg → Reg → AbstractValue
instance_prototype w left right =
    value_if (has_labels w (at w left)) (get w (functions_in w (at w right))
    (prototype_keys w.program)).value

abbrev pub instance_value : View → Reg → Reg → AbstractValue
instance_value w left right =
    let v = at w left in
    let q = instance_prototype w left right in
    let some = some_label w (functions_in w (at w right)) in
    of_bools (some_label w (λ l. proper_ancestors w v.label l && q.label l))
    ((some && has_atoms v) || has_labels w q)

-- [[Get]] at the keys of a register (8.6.2.1)
abbrev pub transfer_read_prop : View → NodeInfo → Reg → Reg → Reg → Out
transfer_read_prop w i dst object key =
    out (reads w dst (at w object).label (keys_in w key) i.next)
    (demands_of_get w (at w object).label (keys_in w key))

-- [[Put]] at the keys of a register (8.6.2.2); a length that is none throws a RangeError (15.4.5.1)
abbrev pub transfer_write_prop : View → NodeInfo → Reg → Reg → Reg → Site → Out
transfer_write_prop w i object key src error =
    let target = (at w object).label in
    let keys = keys_in w key in
    let wrong = put_may_throw w target keys (at w src) in
    let refused = throws w wrong i error builtins.RANGE_ERROR_PROTOTYPE array_length_message in
    out (all_go i.next (put_states w target keys (at w src)) ++ refused)
    (demands_of_puts w target keys)

-- [[Delete]] at the keys of a register (8.6.2.5)
abbrev pub transfer_delete_prop : View → NodeInfo → Reg → Reg → Reg → Out
transfer_delete_prop w i dst object key =
    let target = (at w object).label in
    let keys = keys_in w key in
    out (sets_results w dst i.next (delete_states w target keys)) (demands_of_delete w target keys)

-- [[HasProperty]] at the keys of a register (8.6.2.4)
abbrev pub transfer_has_prop : View → NodeInfo → Reg → Reg → Reg → Out
transfer_has_prop w i dst object key =
    let start = (at w object).label in
    let q = get w start (keys_in w key) in
    out (sets w dst (of_bools (may_have w q) (may_lack q)) i.next)
    (demands_of_get w start (keys_in w key))

-- `instanceof` (11.8.6, 15.3.5.3): what is no function, and a `prototype` that is no object, throw
-- a TypeError
abbrev pub transfer_instance_of : View → NodeInfo → Reg → Reg → Reg → Site → Site → Out
transfer_instance_of w i dst left right not_function not_object =
    let v = at w left in
    let r = at w right in
    let q = instance_prototype w left right in
    let is_other =
    has_atoms r || some_label w (λ l. r.label l && not (is_function_label w.program l)) in
    let no_function = type_error w is_other i not_function no_function_message in
    let no_prototype = type_error w (has_non_object q) i not_object no_prototype_message in
    let of_prototype = demands_of_get w (functions_in w r) (prototype_keys w.program) in
    let of_chain = demands_of_ancestors w v.label in
    out (no_function ++ (no_prototype ++ sets w dst (instance_value w left right) i.next))
    (both (demands_if (has_labels w v) of_prototype) (demands_if (has_labels w q) of_chain))
