-- What is told of the warnings of a table: a message for each, in their order.
use Rattle.std.specs.Prelude.{◌≡◌, Bool, List, [], ◌∷◌, if◌then◌else◌, map, Option, Some, None}
use Rattle.std.specs.Option.{option_map}
use Rattle.ja_base.specs.declared.ids.FnId.{FnId}
use Rattle.ja_base.specs.declared.ids.Place.{Place}
use Rattle.ja_files.specs.declared.file.File.{File}
use Rattle.ja_files.specs.Files.{spot_of}
use Rattle.ja_graph.specs.declared.program.Program.{Program}
use Rattle.ja_abstract.specs.AbstractValue.{AbstractValue}
use Rattle.ja_lint_text.specs.Words.{warning_words}
use Rattle.ja_rows.specs.declared.table.Warning.{Warning}
use Rattle.ja_rows.specs.declared.table.WarningKind.{WarningKind}
use Rattle.ja_rows.specs.declared.table.WarningKind.TheVariants as kind
use Rattle.ja_rows.specs.Table.{Table}
use Rattle.ja_rows.specs.Warning.{operation_of}
use Rattle.ja_show.specs.declared.message.Level.{Level}
use Rattle.ja_show.specs.declared.message.Level.TheVariants.{Certain, Possible, Note}
use Rattle.ja_show.specs.declared.message.Message.{Message}
use Rattle.ja_show.specs.declared.message.Rule.{Rule}
use Rattle.ja_show.specs.declared.message.Rule.TheVariants.{NotAFunction, NoObject, UnboundName, Unknown}
use Rattle.ja_warn.specs.Told.{name_of, IsNameThere, IsValueThere}
use Rattle.ja_lint_top.specs.Calls.{AreCallers}
use Rattle.ja_lint_top.specs.Refusals.{lines_of}

abbrev pub level_of : WarningKind → Bool → Level
level_of kind.ScopeRow certain = Note
level_of fault certain = if certain then Certain else Possible

abbrev pub rule_of : WarningKind → Rule
rule_of kind.NotAFunction = NotAFunction
rule_of kind.NoObject = NoObject
rule_of kind.UnboundName = UnboundName
rule_of kind.ScopeRow = Unknown

-- a warning in a built-in function has no place of the text, but those that call the function
abbrev pub IsStanding : Program → Table → Option FnId → Place → Option Place → List Place → Type 0
IsStanding p t None at place calls = (place ≡ Some at) × (calls ≡ [])
IsStanding p t (Some f) at place calls = (place ≡ None) × AreCallers p t f calls

-- The message of a warning, in words of what the table says of the value there and of its name; each
-- place of the one text is told as the spot of its file.
pub record Tells (files : List File) (p : Program) (t : Table) (w : Warning) (m : Message)
    : Type 0 where
  pub level : m.level ≡ level_of w.kind w.certain
  pub rule : m.rule ≡ rule_of w.kind
  pub value : AbstractValue
  pub there : IsValueThere p t (operation_of w) value
  pub name : AbstractValue
  pub named : IsNameThere p t (operation_of w) name
  pub text : m.text ≡ warning_words p files (lines_of files) w value (name_of p name)
  pub place : Option Place
  pub calls : List Place
  pub standing : IsStanding p t w.builtin w.place place calls
  pub spot_is : m.spot ≡ option_map (spot_of (lines_of files)) place
  pub calls_are : m.calls ≡ map (spot_of (lines_of files)) calls

-- one for each warning, in the order of the warnings
abbrev pub AreTold : List File → Program → Table → List Warning → List Message → Type 0
AreTold files p t [] messages = messages ≡ []
AreTold files p t (w ∷ ws) [] = ⊥
AreTold files p t (w ∷ ws) (m ∷ ms) = Tells files p t w m × AreTold files p t ws ms
