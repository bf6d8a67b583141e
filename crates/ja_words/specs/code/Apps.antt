-- The command that clap is given, as `specs/Simple.antt` of clap sees it.
use Rattle.std.specs.Prelude.{◌≡◌, Bool, true, false, List, Some}
use lib.Chars.{codes}
use Rattle.std.specs.List.{list_any}
use Rattle.std.specs.Str.{bytes_eq}
use Rattle.clap.specs.Words.{App, Rule, Text, app_of, new_app, new_rule, with_rule}
use Rattle.clap.specs.Words.{with_subcommand}
use Rattle.clap.specs.Simple.{on_top}
use Rattle.clap.specs.declared.builder.command.Command.{Command}
use Rattle.clap.specs.declared.builder.command.Command.TheViews.{out-Command as fields_of}
use Rattle.clap.specs.declared.builder.action.ArgAction.TheVariants.{Set, SetTrue}

-- a flag, an option that takes a value, and one that is always there
abbrev pub flag_rule : Text → Rule
flag_rule name = record (new_rule name) { long = Some name; action = Some SetTrue }

abbrev pub value_rule : Text → Rule
value_rule name = record (new_rule name) { long = Some name; action = Some Set }

abbrev pub required_rule : Text → Rule
required_rule name = record (value_rule name) { required = true }

abbrev pub analyse_app : App
analyse_app = with_rule
    (with_rule (new_app (codes "analyse")) (flag_rule (codes "cert")))
    (value_rule (codes "budget"))

abbrev pub check_app : App
check_app = new_app (codes "check")

abbrev pub run_app : App
run_app = with_rule (new_app (codes "run")) (value_rule (codes "steps"))

abbrev pub generate_app : App
generate_app = with_rule (new_app (codes "generate")) (required_rule (codes "number"))

-- the program, which has no help, and whose own name is no word
abbrev pub top_app : App
top_app = on_top (λ s. record s {
  no_binary_name = true;
  disable_help_flag = true;
  disable_help_subcommand = true;
}) (new_app (codes "tajs"))

abbrev pub tajs_app : App
tajs_app = with_subcommand
    (with_subcommand
    (with_subcommand (with_subcommand top_app analyse_app.top) check_app.top) run_app.top)
    generate_app.top

-- a command of clap is this one
abbrev pub IsApp : App → Command → Type 0
IsApp app command = (app_of command ≡ app) × ((fields_of command).has_globals ≡ false)

-- the word is `--`
abbrev pub is_dashes : Text → Bool
is_dashes word = bytes_eq word (codes "--")

abbrev pub has_dashes : List Text → Bool
has_dashes words = list_any is_dashes words
