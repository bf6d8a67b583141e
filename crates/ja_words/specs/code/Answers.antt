-- What clap's answer says.
use Rattle.std.specs.Prelude.{◌≡◌, ◌≤◌, ℕ, Bool, true, false, List, [], Option, Some, None}
use lib.Chars.{codes}
use Rattle.std.specs.Fmt.{decimal}
use Rattle.clap.specs.Words.{Row, Text, fault_of, first_of, one_of, subcommand_of}
use Rattle.clap.specs.Words.{subcommand_rows_of}
use Rattle.clap.specs.declared.parser.matches.ArgMatches.{ArgMatches}
use Rattle.ja_gen.specs.Generated.{max_number}
use Rattle.ja_words.specs.Words.{default_budget, default_steps, max_budget}
use Rattle.ja_words.specs.Words.{max_steps}
use Rattle.ja_words.specs.code.Apps.{tajs_app}
use Rattle.ja_words.specs.declared.command.Budget.{Budget}
use Rattle.ja_words.specs.declared.command.Budget.TheVariants.{Height, Visits}
use Rattle.ja_words.specs.declared.command.Command.{Command}
use Rattle.ja_words.specs.declared.command.Command.TheVariants.{Analyse, Check, Generate, Run}

-- the word is a number from 1 to `most`, in decimal digits
abbrev pub Spells : ℕ → Text → ℕ → Type 0
Spells most word number = (word ≡ decimal number) × (1 ≤ number) × (number ≤ most)

-- what a word says as such a number
abbrev pub Counts : ℕ → Text → Option ℕ → Type 0
Counts most word None = (number : ℕ) → Spells most word number → ⊥
Counts most word (Some number) = Spells most word number

-- the number of an option that is always there, with the value that it was given, if any
abbrev pub SaysGiven : ℕ → Option Text → ℕ → Type 0
SaysGiven most None number = ⊥
SaysGiven most (Some word) number = Spells most word number

-- the same of an option that may be left out
abbrev pub SaysNumber : ℕ → ℕ → Option Text → ℕ → Type 0
SaysNumber default most None number = number ≡ default
SaysNumber default most (Some word) number = Spells most word number

abbrev pub ReadsNumber : ℕ → ℕ → Option Text → Option ℕ → Type 0
ReadsNumber default most value None = (number : ℕ) → SaysNumber default most value number → ⊥
ReadsNumber default most value (Some number) = SaysNumber default most value number

-- whether a flag is asked for, by its text in the matches
abbrev pub SaysFlag : Option Text → Bool → Type 0
SaysFlag text asked =
    (text ≡ Some (codes "true") → asked ≡ true) × (text ≡ Some (codes "false") → asked ≡ false)

-- the budget of an option, with the value that it was given, if any
abbrev pub MeansBudget : Option Text → Budget → Type 0
MeansBudget value (Visits number) = SaysNumber default_budget max_budget value number
MeansBudget value Height = value ≡ Some (codes "height")

abbrev pub ReadsBudget : Option Text → Option Budget → Type 0
ReadsBudget value None = (budget : Budget) → MeansBudget value budget → ⊥
ReadsBudget value (Some budget) = MeansBudget value budget

abbrev pub SaysBudget : List Row → Budget → Type 0
SaysBudget rows = MeansBudget (first_of (codes "budget") rows)

abbrev pub SaysSteps : List Row → ℕ → Type 0
SaysSteps rows = SaysNumber default_steps max_steps (first_of (codes "steps") rows)

abbrev pub SaysClasses : List Row → ℕ → Type 0
SaysClasses rows = SaysGiven max_number (first_of (codes "number") rows)

-- the command that a subcommand is, by its name and its matches
abbrev pub Says : Text × List Row → Command → Type 0
Says sub (Analyse cert budget) = (sub.0 ≡ codes "analyse")
    × SaysFlag (one_of (codes "cert") sub.1) cert × SaysBudget sub.1 budget
Says sub Check = sub.0 ≡ codes "check"
Says sub (Run steps) = (sub.0 ≡ codes "run") × SaysSteps sub.1 steps
Says sub (Generate number) = (sub.0 ≡ codes "generate") × SaysClasses sub.1 number

abbrev pub SaysIfMet : Option (Text × List Row) → Command → Type 0
SaysIfMet None command = ⊥
SaysIfMet (Some sub) command = Says sub command

-- what the subcommand says, if it is a command
abbrev pub ReadsCommand : Option (Text × List Row) → Option Command → Type 0
ReadsCommand sub None = (command : Command) → SaysIfMet sub command → ⊥
ReadsCommand sub (Some command) = SaysIfMet sub command

-- the same of a subcommand by its name and its rows, and of one whose name is known
abbrev pub ReadsNamed : Text → List Row → Option Command → Type 0
ReadsNamed name rows = ReadsCommand (Some (name, rows))

abbrev pub ReadsAnalyse : List Row → Option Command → Type 0
ReadsAnalyse = ReadsNamed (codes "analyse")

abbrev pub ReadsRun : List Row → Option Command → Type 0
ReadsRun = ReadsNamed (codes "run")

abbrev pub ReadsGenerate : List Row → Option Command → Type 0
ReadsGenerate = ReadsNamed (codes "generate")

-- what clap makes of the words: it takes them, with the subcommand that they name, or it doesn't
abbrev pub IsClapAnswer : List Text → Option ArgMatches → Type 0
IsClapAnswer words None = fault_of tajs_app words ≡ [] → ⊥
IsClapAnswer words (Some matches) = (fault_of tajs_app words ≡ [])
    × (subcommand_rows_of matches ≡ subcommand_of tajs_app words)
