-- The command lines of the program. A word is its bytes.
use Rattle.std.specs.Prelude.{◌≡◌, ◌≤◌, ◌⊎◌, ◌-◌, ◌^◌, ℕ, Bool, true, false, List, [], ◌∷◌, ◌++◌}
use Rattle.std.specs.Prelude.{Option, Some, None}
use lib.Chars.{codes}
use Rattle.std.specs.Fmt.{decimal}
use Rattle.ja_gen.specs.Generated.{max_number}
use Rattle.ja_words.specs.declared.command.Budget.{Budget}
use Rattle.ja_words.specs.declared.command.Budget.TheVariants.{Height, Visits}
use Rattle.ja_words.specs.declared.command.Command.{Command}
use Rattle.ja_words.specs.declared.command.Command.TheVariants.{Analyse, Check, Generate, Run}

abbrev pub Word : Type 0
Word = List ℕ

-- the words of a flag, which is asked for or not
abbrev pub IsFlag : Word → Bool → List Word → Type 0
IsFlag name false words = words ≡ []
IsFlag name true words = words ≡ name ∷ []

-- the words of an option with its value, which is the next word, or follows `=` in the same word
abbrev pub IsOption : Word → Word → List Word → Type 0
IsOption name value words =
    (words ≡ name ∷ value ∷ []) ⊎ (words ≡ (name ++ codes "=" ++ value) ∷ [])

-- the words of an option whose value is a number from 1 to `most`, in decimal digits
abbrev pub IsGiven : Word → ℕ → ℕ → List Word → Type 0
IsGiven name most number words =
    (1 ≤ number) × (number ≤ most) × IsOption name (decimal number) words

-- the same of an option that may be left out: there are no words for the number that is meant where
-- none is given
abbrev pub IsNumber : Word → ℕ → ℕ → ℕ → List Word → Type 0
IsNumber name default most number words =
    ((words ≡ []) × (number ≡ default)) ⊎ IsGiven name most number words

-- how many visits are made at most, and how many steps: where no number is given, and the greatest
abbrev pub default_budget : ℕ
default_budget = 1000000

abbrev pub max_budget : ℕ
max_budget = 2 ^ 128 - 1

abbrev pub default_steps : ℕ
default_steps = 1000000

abbrev pub max_steps : ℕ
max_steps = 10000000

-- the words of a budget: a number of visits, or the word `height` for the height of the program
abbrev pub IsBudget : Budget → List Word → Type 0
IsBudget (Visits number) words = IsNumber (codes "--budget") default_budget max_budget number words
IsBudget Height words = IsOption (codes "--budget") (codes "height") words

abbrev pub IsSteps : ℕ → List Word → Type 0
IsSteps = IsNumber (codes "--steps") default_steps max_steps

-- the words are those of the one group and those of the other, in either order
abbrev pub AreBoth : List Word → List Word → List Word → Type 0
AreBoth words a b = (words ≡ a ++ b) ⊎ (words ≡ b ++ a)

-- the words are options of the analysis, in any order, each at most once
abbrev pub IsAnalyseOptions : List Word → Bool → Budget → Type 0
IsAnalyseOptions words cert budget =
    (a : List Word) × (b : List Word) × IsFlag (codes "--cert") cert a × IsBudget budget b
    × AreBoth words a b

-- the words are the command line of this command: its word, and its options
abbrev pub IsCommandLine : List Word → Command → Type 0
IsCommandLine words (Analyse cert budget) =
    (options : List Word) × (words ≡ codes "analyse" ∷ options)
    × IsAnalyseOptions options cert budget
IsCommandLine words Check = words ≡ codes "check" ∷ []
IsCommandLine words (Run steps) =
    (options : List Word) × (words ≡ codes "run" ∷ options) × IsSteps steps options
IsCommandLine words (Generate number) =
    (options : List Word) × (words ≡ codes "generate" ∷ options)
    × IsGiven (codes "--number") max_number number options

-- what the words ask for: the command of a command line, and nothing exactly where they are none
abbrev pub AsksFor : List Word → Option Command → Type 0
AsksFor words (Some command) = IsCommandLine words command
AsksFor words None = (command : Command) → IsCommandLine words command → ⊥
