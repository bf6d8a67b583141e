-- The words of a warning: what may go wrong, what it is called, and what it is.
use Rattle.std.specs.Prelude.{ℕ, Bool, true, false, ◌&&◌, ◌==◌, if◌then◌else◌, List, [], ◌++◌, take, Option, Some, None, slice_get}
use Rattle.std.specs.List.{list_any}
use Rattle.std.specs.Option.{option_map_or}
use lib.Chars.{codes}
use Rattle.ja_base.specs.declared.ids.FnId.{FnId}
use Rattle.ja_base.specs.declared.ids.Place.{Place}
use Rattle.ja_graph.specs.declared.node.Node.{Node}
use Rattle.ja_graph.specs.declared.node.Node.TheVariants as node
use Rattle.ja_graph.specs.declared.node.NodeInfo.{NodeInfo}
use Rattle.ja_graph.specs.declared.program.Function.{Function}
use Rattle.ja_graph.specs.declared.program.Program.{Program}
use Rattle.ja_abstract.specs.declared.abstraction.Flags.{Flags}
use Rattle.ja_abstract.specs.AbstractValue.{AbstractValue}
use Rattle.ja_files.specs.declared.file.File.{File}
use Rattle.ja_report.specs.Report.{certainty_text}
use Rattle.ja_rows.specs.declared.table.Warning.{Warning}
use Rattle.ja_rows.specs.declared.table.WarningKind.{WarningKind}
use Rattle.ja_rows.specs.declared.table.WarningKind.TheVariants.{NotAFunction, NoObject, UnboundName, ScopeRow}
use Rattle.ja_texts.specs.Texts.{plain}
use Rattle.ja_value.specs.Value.{value_of}
use Rattle.ja_warn.specs.Told.{name_of}
use Rattle.ja_warn.specs.declared.reached.Told.{Told}
use Rattle.ja_lint_text.specs.Values.{function_text, value_words}

-- a name in single quotes
abbrev pub name_text : List ℕ → List ℕ
name_text name = codes "'" ++ plain name ++ codes "'"

-- ---- calls

abbrev pub same_place : Place → Place → Bool
same_place a b = (a.line == b.line) && (a.column == b.column)

-- a node is a `new` of this place
abbrev pub is_new : Node → Bool
is_new (node.New dst callee args site error) = true
is_new n = false

abbrev pub is_new_at : Place → NodeInfo → Bool
is_new_at at info = is_new info.node && same_place info.place at

abbrev pub constructs_at : Place → Function → Bool
constructs_at at fn = list_any (is_new_at at) fn.nodes

-- the operation of a place is a `new`, in the text or in a built-in function
unfoldable pub constructs : Program → Option FnId → Place → Bool
constructs p None at = list_any (constructs_at at) (take p.text_functions p.functions)
constructs p (Some f) at = option_map_or (constructs_at at) (slice_get p.functions f.0) false

-- what is done with a callee, and what it has to be
abbrev pub deed_words : Bool → List ℕ
deed_words new = if new then codes "new of " else codes "call of "

abbrev pub role_words : Bool → List ℕ
role_words new = if new then codes "constructor" else codes "function"

-- it surely isn't that, or may not be
abbrev pub denial_words : Bool → List ℕ
denial_words certain = if certain then codes ", which is no " else codes ", which may be no "

abbrev pub unfit_words : Bool → Bool → List ℕ
unfit_words new certain = denial_words certain ++ role_words new

abbrev pub call_words : Bool → Bool → Option (List ℕ) → List ℕ → List ℕ
call_words new certain (Some name) value =
    deed_words new ++ name_text name ++ unfit_words new certain ++ codes ": it is " ++ value
call_words new certain None value = deed_words new ++ value ++ unfit_words new certain

-- ---- properties

abbrev pub property_text : Option (List ℕ) → List ℕ
property_text (Some name) = codes "property " ++ name_text name
property_text None = codes "a property"

-- which of null and undefined a value may be, where it may be one
abbrev pub nullish_words : Flags → List ℕ
nullish_words f =
    if f.undefined then (if f.null then codes "null or undefined" else codes "undefined")
    else codes "null"

-- a value that surely has no properties, or what may have none, and what it is
abbrev pub may_words : Flags → List ℕ
may_words flags = codes "what may be " ++ nullish_words flags ++ codes ": it is "

abbrev pub doubt_words : Bool → Flags → List ℕ
doubt_words certain flags = if certain then [] else may_words flags

abbrev pub object_words : Bool → Flags → List ℕ → List ℕ
object_words certain flags value = doubt_words certain flags ++ value

abbrev pub property_words : Bool → Option (List ℕ) → Flags → List ℕ → List ℕ
property_words certain name flags value =
    property_text name ++ codes " of " ++ object_words certain flags value

-- ---- names

-- a name that surely is bound nowhere, or may be
abbrev pub nowhere_words : Bool → List ℕ
nowhere_words certain =
    if certain then codes " is bound nowhere" else codes " may be bound nowhere"

abbrev pub unbound_words : Bool → Option (List ℕ) → List ℕ
unbound_words certain name =
    option_map_or name_text name (codes "a name") ++ nowhere_words certain

-- a variable or a property that is out of the profile
abbrev pub unknown_words : Option (List ℕ) → List ℕ
unknown_words name =
    option_map_or name_text name (codes "a property") ++ codes " isn't known to this tool"

-- ---- warnings

-- of an operation that is a `new` or none, with the name that it is about, the flags of the value
-- there, and the value in words
abbrev pub kind_words : WarningKind → Bool → Bool → Option (List ℕ) → Flags → List ℕ → List ℕ
kind_words NotAFunction new certain name flags value = call_words new certain name value
kind_words NoObject new certain name flags value = property_words certain name flags value
kind_words UnboundName new certain name flags value = unbound_words certain name
kind_words ScopeRow new certain name flags value = unknown_words name

-- whether it surely goes wrong
abbrev pub certainty_words : WarningKind → Bool → List ℕ
certainty_words ScopeRow certain = []
certainty_words kind certain = codes " (" ++ certainty_text certain ++ codes ")"

-- the built-in function that it stands in
abbrev pub within_words : Program → Option FnId → List ℕ
within_words p None = []
within_words p (Some f) = codes " in " ++ function_text p f

-- what is out of the profile ends a path of the analysis
abbrev pub end_words : WarningKind → List ℕ
end_words ScopeRow = codes "; what follows it isn't checked"
end_words kind = []

-- a warning, with the value and the name that it is about
unfoldable pub warning_words : Program → List File → List ℕ → Warning → AbstractValue
    → Option (List ℕ) → List ℕ
warning_words p files firsts w v name =
    kind_words w.kind (constructs p w.builtin w.place) w.certain name v.flags
    (value_words p files firsts v)
    ++ certainty_words w.kind w.certain ++ within_words p w.builtin ++ end_words w.kind

-- .. as they are told
abbrev pub told_words : Program → List File → List ℕ → Told → List ℕ
told_words p files firsts x =
    warning_words p files firsts x.warning (value_of x.value) (name_of p (value_of x.name))
