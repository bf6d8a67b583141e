-- The nodes of activations and scopes (10.1, 12.14, 13).
use Rattle.std.specs.Prelude.{Bool, true, ◌&&◌, ◌++◌, Option}
use Rattle.std.specs.Option.{option_map_or}
use Rattle.ja_base.specs.declared.ids.NameId.{NameId}
use Rattle.ja_base.specs.declared.ids.Reg.{Reg}
use Rattle.ja_base.specs.declared.ids.Site.{Site}
use Rattle.ja_graph.specs.declared.attrs.TheConstants.{DONT_DELETE}
use Rattle.ja_graph.specs.declared.node.NodeInfo.{NodeInfo}
use Rattle.ja_machine.specs.Frames.{scope}
use Rattle.ja_machine.specs.Nodes.{bound_attrs}
use Rattle.ja_abstract.specs.declared.abstraction.Key.TheVariants as key
use Rattle.ja_abstract.specs.AbstractValue.{AbstractProperty, of_label, undefined_value, of_attrs}
use Rattle.ja_abstract.specs.AbstractState.{AbstractState, new, with_register}
use Rattle.ja_abstract.specs.Reading.{View, some_label, has_present, no_demands}
use Rattle.ja_abstract.specs.Made.{count_register, scope_own, activation_own, arguments_own, with_object, with_objects}
use Rattle.ja_abstract.specs.Writes.{has_some_part, own_at, defined, declared, is_missing, demands_of_delete}
use Rattle.ja_abstract.specs.Values.{has_labels}
use Rattle.ja_rows.specs.Out.{Out, Point, out, goes, at, name_keys}

abbrev pub enters_scope : AbstractState → Site → AbstractState
enters_scope a site = with_register a scope (of_label (new site))

-- the activation of a function, with its arguments object where it has one (10.1.6, 10.1.8)
abbrev pub transfer_enter : View → Point → NodeInfo → Site → Option Site → Out
transfer_enter w x i site arguments =
    let f = x.context.function in
    let own = activation_own w.program f arguments in
    let alone = with_object w.program w.state site own in
    let with_list =
    λ (list : Site). with_objects w.program w.state site own list (arguments_own w.program f) in
    let made = option_map_or with_list arguments alone in
    out (goes (has_some_part w (w.state.register count_register)) i.next (enters_scope made site))
    no_demands

-- a variable is added to the object in `scope`, unless it is there (10.1.3)
abbrev pub transfer_declare : View → NodeInfo → NameId → Out
transfer_declare w i name =
    let target = (at w scope).label in
    let k = key.Name name in
    let q : AbstractProperty = record { value = undefined_value; attrs = of_attrs DONT_DELETE } in
    let stays = some_label w (λ l. target l && has_present w (own_at w l k).value) in
    let is_new = some_label w (λ l. target l && is_missing w l k) in
    let given = goes stays i.next w.state ++ goes is_new i.next (declared w target k q) in
    out given (demands_of_delete w target (name_keys name))

-- a name is defined at the object in `scope` (10.1.3, 12.14, 13)
abbrev pub transfer_bind : View → NodeInfo → NameId → Reg → Bool → Out
transfer_bind w i name src read_only =
    let target = (at w scope).label in
    let q : AbstractProperty =
    record { value = at w src; attrs = of_attrs (bound_attrs read_only) } in
    out (goes (has_labels w (at w scope)) i.next (defined w target (key.Name name) q)) no_demands

-- an object more before the scope chain (12.14, 13)
abbrev pub transfer_push_scope : View → NodeInfo → Site → Out
transfer_push_scope w i site =
    let own = λ (a : AbstractState). scope_own (a.register scope.0).label in
    out (goes true i.next (enters_scope (with_object w.program w.state site own) site)) no_demands
