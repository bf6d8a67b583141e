-- The nodes that make objects, or want them (9.9, 11.1, 13.2).
use Rattle.std.specs.Prelude.{true, ◌++◌}
use Rattle.ja_base.specs.declared.ids.FnId.{FnId}
use Rattle.ja_base.specs.declared.ids.NodeId.{NodeId}
use Rattle.ja_base.specs.declared.ids.Reg.{Reg}
use Rattle.ja_base.specs.declared.ids.Site.{Site}
use Rattle.ja_graph.specs.declared.builtins.TheConstants as builtins
use Rattle.ja_graph.specs.declared.node.NodeInfo.{NodeInfo}
use Rattle.ja_graph.specs.declared.node.Wrappers.{Wrappers}
use Rattle.ja_graph.specs.declared.node.Made.{Made}
use Rattle.ja_machine.specs.Events.{nothing_message, not_an_object_message}
use Rattle.ja_machine.specs.Frames.{scope}
use Rattle.ja_abstract.specs.AbstractValue.{AbstractValue, no_value, no_flags, of_label, of_labels, has_text}
use Rattle.ja_abstract.specs.AbstractState.{AbstractState, new, with_register}
use Rattle.ja_abstract.specs.Primitives.{of_bools}
use Rattle.ja_abstract.specs.Reading.{View, has_present, no_demands}
use Rattle.ja_abstract.specs.Made.{empty_own, wrapper_own, text_own, function_own, prototype_own, with_objects}
use Rattle.ja_abstract.specs.Values.{has_atoms, has_labels, has_nullish}
use Rattle.ja_rows.specs.Out.{Out, Given, out, goes, sets, type_error, makes, makes_if, at}

-- ToObject of the primitives of a kind
abbrev pub wraps : View → Reg → Site → Site → AbstractValue → NodeId → Given
wraps w dst site proto v next = makes_if w (has_present w v) dst site (wrapper_own proto v) next

abbrev pub wraps_text : View → Reg → Site → AbstractValue → NodeId → Given
wraps_text w dst site v next = makes_if w (has_text v.text) dst site (text_own v.text) next

abbrev pub bools_of : AbstractValue → AbstractValue
bools_of v = of_bools v.flags.is_true v.flags.is_false

abbrev pub numbers_of : AbstractValue → AbstractValue
numbers_of v = record no_value { flags = record no_flags { nan = v.flags.nan }; number = v.number }

-- ToObject (9.9): an object is itself, a primitive gets an object of its kind, and undefined and
-- null throw a TypeError
abbrev pub transfer_to_object : View → NodeInfo → Reg → Reg → Wrappers → Site → Out
transfer_to_object w i dst src sites error =
    let v = at w src in
    out (sets w dst (of_labels v.label) i.next
    ++ (wraps w dst sites.boolean builtins.BOOLEAN_PROTOTYPE (bools_of v) i.next
    ++ (wraps w dst sites.number builtins.NUMBER_PROTOTYPE (numbers_of v) i.next
    ++ (wraps_text w dst sites.text v i.next
    ++ type_error w (has_nullish v) i error nothing_message)))) no_demands

-- what is no object throws a TypeError (11.8.7)
abbrev pub transfer_need_object : View → NodeInfo → Reg → Site → Out
transfer_need_object w i src error =
    let v = at w src in
    let refused = type_error w (has_atoms v) i error not_an_object_message in
    out (goes (has_labels w v) i.next w.state ++ refused) no_demands

-- an empty object, array or error (11.1.4, 11.1.5, 15.11)
abbrev pub transfer_new_object : View → NodeInfo → Reg → Site → Made → Out
transfer_new_object w i dst site kind =
    out (goes true i.next (makes w dst site (λ a. empty_own kind))) no_demands

-- a function, and the object that its constructions inherit from, each with the other (13.2)
abbrev pub transfer_make_function : View → NodeInfo → Reg → FnId → Site → Site → Out
transfer_make_function w i dst function site proto_site =
    let own =
    λ (a : AbstractState). function_own w.program function (a.register scope.0).label
    (new proto_site) in
    let proto = λ (a : AbstractState). prototype_own w.program (new site) in
    let made = with_objects w.program w.state site own proto_site proto in
    out (goes true i.next (with_register made dst (of_label (new site)))) no_demands
