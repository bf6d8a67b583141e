-- The command that clap is given, as `specs/Simple.antt` of clap sees it.
use Rattle.std.specs.Prelude.{◌≡◌, false, true, Some}
use lib.Chars.{codes}
use Rattle.clap.specs.Words.{App, Rule, Text, app_of, new_app, new_rule, with_rule}
use Rattle.clap.specs.Simple.{on_top}
use Rattle.clap.specs.declared.builder.command.Command.{Command}
use Rattle.clap.specs.declared.builder.command.Command.TheViews.{out-Command as fields_of}
use Rattle.clap.specs.declared.builder.action.ArgAction.{ArgAction}
use Rattle.clap.specs.declared.builder.action.ArgAction.TheVariants.{Append, Set, SetTrue}

-- a flag, an option that takes a value, and what words that are no options belong to
abbrev pub flag_rule : Text → Rule
flag_rule name = record (new_rule name) { long = Some name; action = Some SetTrue }

abbrev pub option_rule : Text → ArgAction → Rule
option_rule name action = record (new_rule name) { long = Some name; action = Some action }

abbrev pub list_rule : Text → Rule
list_rule name = record (new_rule name) { action = Some Append }

-- the program without its options: it has no help, and its own name is no word
abbrev pub named_app : App
named_app = on_top (λ s. record s {
  no_binary_name = true;
  disable_help_flag = true;
  disable_help_subcommand = true;
  disable_version_flag = true;
}) (new_app (codes "tajs-lint"))

-- the program
abbrev pub lint_app : App
lint_app = with_rule
    (with_rule
    (with_rule
    (with_rule
    (with_rule (with_rule named_app (option_rule (codes "device") Append))
    (option_rule (codes "format") Set))
    (flag_rule (codes "rows")))
    (flag_rule (codes "help")))
    (flag_rule (codes "version")))
    (list_rule (codes "file"))

-- a command of clap is this one
abbrev pub IsApp : App → Command → Type 0
IsApp app command = (app_of command ≡ app) × ((fields_of command).has_globals ≡ false)
