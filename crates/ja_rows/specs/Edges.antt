-- The nodes that enter functions: their call edges, and what they give where they enter none (9.1,
-- 11.2.2, 11.2.3; contexts by receiver: SAS 2009, object sensitivity).
use Rattle.std.specs.Prelude.{ℕ, Bool, true, false, not, ◌&&◌, ◌||◌, if◌then◌else◌, ◌==◌, List, [], map, filter, length, slice_get, Option, Some, None, is_some}
use Rattle.std.specs.List.{flat_map, range_with_len}
use Rattle.std.specs.Option.{option_map_or, option_and_then}
use Rattle.ja_base.specs.declared.ids.Context.{Context}
use Rattle.ja_base.specs.declared.ids.FnId.{FnId}
use Rattle.ja_base.specs.declared.ids.Label.{Label}
use Rattle.ja_base.specs.declared.ids.Reg.{Reg}
use Rattle.ja_base.specs.declared.ids.Site.{Site}
use Rattle.ja_graph.specs.declared.node.NodeInfo.{NodeInfo}
use Rattle.ja_graph.specs.declared.node.Hint.{Hint}
use Rattle.ja_graph.specs.declared.node.Args.{Args}
use Rattle.ja_graph.specs.declared.program.Class.TheVariants as class
use Rattle.ja_graph.specs.declared.program.Class.{Class}
use Rattle.ja_graph.specs.declared.program.Program.{Program}
use Rattle.ja_graph.specs.declared.program.SiteInfo.{SiteInfo}
use Rattle.ja_graph.specs.Program.{global}
use Rattle.ja_machine.specs.Calls.{default_function}
use Rattle.ja_machine.specs.Events.{not_a_function_message, not_a_constructor_message}
use Rattle.ja_machine.specs.Machine.{class_of_site}
use Rattle.ja_abstract.specs.AbstractValue.{Labels, AbstractValue, same_label, join, of_labels}
use Rattle.ja_abstract.specs.AbstractState.{new, labels_of}
use Rattle.ja_abstract.specs.Reading.{View, some_label, no_demands}
use Rattle.ja_abstract.specs.Values.{has_atoms, has_labels, value_if, primitives_of, has_nullish}
use Rattle.ja_rows.specs.declared.table.Edge.{Edge}
use Rattle.ja_rows.specs.Out.{Out, Point, sets, type_error, at}

abbrev pub site_info : Program → Label → Option SiteInfo
site_info p l = slice_get p.sites l.site.0

abbrev pub calls_at : Program → Label → Option FnId
calls_at p l = option_and_then (λ (s : SiteInfo). s.calls) (site_info p l)

abbrev pub constructs_at : Program → Label → Option FnId
constructs_at p l = option_and_then (λ (s : SiteInfo). s.constructs) (site_info p l)

-- the objects of the label run this function
abbrev pub runs : (Label → Option FnId) → ℕ → Labels
runs entry f l = option_map_or (λ (g : FnId). g.0 == f) (entry l) false

-- what runs no function: a primitive, or an object that has none
abbrev pub has_other : View → (Label → Option FnId) → AbstractValue → Bool
has_other w entry v = has_atoms v || some_label w (λ l. v.label l && not (is_some (entry l)))

-- a receiver that is null, undefined or an activation counts as the global object
abbrev pub is_activation_class : Class → Bool
is_activation_class class.Activation = true
is_activation_class c = false

abbrev pub is_activation_label : Program → Labels
is_activation_label p l = is_activation_class (class_of_site p l.site.0)

abbrev pub counts_as_global : View → AbstractValue → Bool
counts_as_global w v =
    v.flags.undefined || (v.flags.null || some_label w
    (λ l. v.label l && is_activation_label w.program l))

abbrev pub receivers : View → AbstractValue → Labels
receivers w v l =
    (v.label l && not (is_activation_label w.program l))
    || (counts_as_global w v && same_label (new global) l)

-- an edge for each function that some callee runs and each receiver
abbrev pub edge : Point → ℕ → Label → Edge
edge x f r =
    let callee : Context = record { function = record { 0 = f }; receiver = r } in
    record { caller = x.context; node = x.number; callee = callee }

abbrev pub edges_to : View → Point → (ℕ → Bool) → Labels → List Edge
edges_to w x is_run receivers =
    let to_function =
    λ (f : ℕ). if is_run f then map (edge x f)
    (filter receivers (labels_of w.program)) else [] in
    flat_map to_function (range_with_len 0 (length w.program.functions))

abbrev pub some_runs : View → (Label → Option FnId) → AbstractValue → ℕ → Bool
some_runs w entry v f = some_label w (λ l. v.label l && runs entry f l)

abbrev pub is_kept : View → Option Reg → Bool
is_kept w None = false
is_kept w (Some other) = has_labels w (at w other) || has_nullish (at w other)

abbrev pub is_converted : View → Option Reg → Bool
is_converted w None = true
is_converted w (Some other) =
    let v = primitives_of (at w other) in
    has_atoms (record v { flags = record v.flags { undefined = false; null = false } })

-- ToPrimitive (9.1): a primitive is itself; an object stays beside some other operands (11.9.3), or
-- its default value is computed (8.6.2.6)
abbrev pub transfer_convert : View → Point → NodeInfo → Reg → Reg → Hint → Option Reg → Out
transfer_convert w x i dst src kind other =
    let v = at w src in
    let f = default_function w.program kind in
    record {
      states =
          sets w dst (join (value_if (is_kept w other) (of_labels v.label)) (primitives_of v))
          i.next;
      demands = no_demands;
      edges = if is_converted w other then edges_to w x (λ g. g == f.0) v.label else [];
    }

-- a call (11.2.3): what runs no function throws a TypeError
abbrev pub transfer_call : View → Point → NodeInfo → Reg → Reg → Reg → Args → Site → Out
transfer_call w x i dst callee receiver args error =
    let entry = calls_at w.program in
    record {
      states = type_error w (has_other w entry (at w callee)) i error not_a_function_message;
      demands = no_demands;
      edges = edges_to w x (some_runs w entry (at w callee)) (receivers w (at w receiver));
    }

-- a construction (11.2.2, 13.2.2): what constructs nothing throws a TypeError
abbrev pub transfer_new : View → Point → NodeInfo → Reg → Reg → List Reg → Site → Site → Out
transfer_new w x i dst callee args site error =
    let entry = constructs_at w.program in
    record {
      states = type_error w (has_other w entry (at w callee)) i error not_a_constructor_message;
      demands = no_demands;
      edges = edges_to w x (some_runs w entry (at w callee)) (same_label (new site));
    }
