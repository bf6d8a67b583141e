-- Command lines that are written out, and one of each command.
use Rattle.std.proofs.Common.{◌≡◌, ◌≤◌, ◌<◌, ◌∙◌, ℕ, Bool, true, false, List, [], ◌∷◌, refl}
use Rattle.std.proofs.Common.{sym, ap, subst, inl, inr, arith, codes, decimal, length}
use Rattle.std.specs.Fmt.{digits}
use Rattle.std.specs.Str.Parse.{digits_value, IsNumeral}
use Rattle.std.proofs.lemmas.Fmt.{decimal_digit, decimal_is_IsNumeral_wide}
use Rattle.ja_gen.specs.Generated.{max_number}
use Rattle.ja_words.specs.Words.{IsCommandLine, Word, max_budget, max_steps}
use Rattle.ja_words.specs.code.Answers.{Spells}
use Rattle.ja_words.specs.declared.command.Budget.TheVariants.{Height, Visits}
use Rattle.ja_words.specs.declared.command.Command.{Command}
use Rattle.ja_words.specs.declared.command.Command.TheVariants.{Analyse, Check, Generate, Run}

pub attached : IsCommandLine (codes "analyse" ∷ codes "--budget=5" ∷ codes "--cert" ∷ [])
    (Analyse true (Visits 5))
unfolding digits
attached = (
  codes "--budget=5" ∷ codes "--cert" ∷ [],
  refl,
  (
    codes "--cert" ∷ [],
    codes "--budget=5" ∷ [],
    refl,
    inr (omega arith, omega arith, inr refl),
    inr refl,
  ),
)

pub apart : IsCommandLine (codes "analyse" ∷ codes "--cert" ∷ codes "--budget" ∷ codes "5" ∷ [])
    (Analyse true (Visits 5))
unfolding digits
apart = (
  codes "--cert" ∷ codes "--budget" ∷ codes "5" ∷ [],
  refl,
  (
    codes "--cert" ∷ [],
    codes "--budget" ∷ codes "5" ∷ [],
    refl,
    inr (omega arith, omega arith, inl refl),
    inl refl,
  ),
)

pub alone : IsCommandLine (codes "analyse" ∷ []) (Analyse false (Visits 1000000))
alone = ([], refl, ([], [], refl, inl (refl, refl), inl refl))

pub height : IsCommandLine (codes "analyse" ∷ codes "--budget" ∷ codes "height" ∷ [])
    (Analyse false Height)
height = (
  codes "--budget" ∷ codes "height" ∷ [],
  refl,
  ([], codes "--budget" ∷ codes "height" ∷ [], refl, inl refl, inl refl),
)

pub height_attached : IsCommandLine (codes "analyse" ∷ codes "--budget=height" ∷ [])
    (Analyse false Height)
height_attached = (
  codes "--budget=height" ∷ [],
  refl,
  ([], codes "--budget=height" ∷ [], refl, inr refl, inl refl),
)

pub seven_steps : IsCommandLine (codes "run" ∷ codes "--steps" ∷ codes "7" ∷ []) (Run 7)
unfolding digits
seven_steps = (codes "--steps" ∷ codes "7" ∷ [], refl, inr (omega arith, omega arith, inl refl))

pub three : IsCommandLine (codes "generate" ∷ codes "--number" ∷ codes "3" ∷ []) (Generate 3)
unfolding digits
three = (codes "--number" ∷ codes "3" ∷ [], refl, (omega arith, omega arith, inl refl))

pub greatest : IsCommandLine (codes "generate" ∷ codes "--number=200" ∷ []) (Generate 200)
unfolding digits
greatest = (codes "--number=200" ∷ [], refl, (omega arith, omega arith, inr refl))

-- the number that a word spells
number_is : (most : ℕ) (word : List ℕ) (number : ℕ) → most ≤ 10000000 → Spells most word number
    → number ≡ digits_value 10 word
number_is most word number small is =
    sym (decimal_is_IsNumeral_wide number (omega (arith, is.2))).1 ∙ ap (digits_value 10) (sym is.0)

no_leading_zero : (most : ℕ) (word : List ℕ) (number : ℕ) → most ≤ 10000000
    → digits_value 10 word < 10 → 1 < length word → Spells most word number → ⊥
no_leading_zero most word number small digit long is =
    let same = number_is most word number small is in
    let one = ap length (decimal_digit number (omega (arith, same))) in
    absurd (omega (arith, one, ap length is.0))

no_zero : (most number : ℕ) → most ≤ 10000000 → Spells most (codes "0") number → ⊥
no_zero most number small is =
    absurd (omega (arith, is.1, number_is most (codes "0") number small is))

-- the word behind `--steps` is the number, and so is that behind `--number`
steps_spelled : (word : Word) (steps : ℕ)
    → IsCommandLine (codes "run" ∷ codes "--steps" ∷ word ∷ []) (Run steps)
    → Spells max_steps word steps
steps_spelled word steps line = elim line.2 [
  | inl none ↦ absurd (cc)
  | inr given ↦ elim given.2 [
    | inl is ↦ (cc, given.0, given.1)
    | inr is ↦ absurd (cc)
  ]
]

number_spelled : (word : Word) (number : ℕ)
    → IsCommandLine (codes "generate" ∷ codes "--number" ∷ word ∷ []) (Generate number)
    → Spells max_number word number
number_spelled word number line = elim line.2.2 [
  | inl is ↦ (cc, line.2.0, line.2.1)
  | inr is ↦ absurd (cc)
]

pub leading_zero : (command : Command)
    → IsCommandLine (codes "run" ∷ codes "--steps" ∷ codes "07" ∷ []) command → ⊥
leading_zero (Run steps) line = no_leading_zero max_steps (codes "07") steps (omega arith)
    (omega arith) (omega arith) (steps_spelled (codes "07") steps line)
leading_zero command line = cc

pub zero_of_steps : (command : Command)
    → IsCommandLine (codes "run" ∷ codes "--steps" ∷ codes "0" ∷ []) command → ⊥
zero_of_steps (Run steps) line =
    no_zero max_steps steps (omega arith) (steps_spelled (codes "0") steps line)
zero_of_steps command line = cc

-- the word `height` is no number
pub height_of_steps : (command : Command)
    → IsCommandLine (codes "run" ∷ codes "--steps" ∷ codes "height" ∷ []) command → ⊥
height_of_steps (Run steps) line =
    let is = steps_spelled (codes "height") steps line in
    let numeral = (decimal_is_IsNumeral_wide steps (omega (arith, is.2))).0 in
    let digits = subst (IsNumeral 10) (sym is.0) numeral in
    absurd (omega (arith, digits.1.0))
height_of_steps command line = cc

pub leading_zero_of_number : (command : Command)
    → IsCommandLine (codes "generate" ∷ codes "--number" ∷ codes "01" ∷ []) command → ⊥
leading_zero_of_number (Generate number) line =
    no_leading_zero max_number (codes "01") number (omega arith) (omega arith) (omega arith)
    (number_spelled (codes "01") number line)
leading_zero_of_number command line = cc

pub zero_of_number : (command : Command)
    → IsCommandLine (codes "generate" ∷ codes "--number" ∷ codes "0" ∷ []) command → ⊥
zero_of_number (Generate number) line =
    no_zero max_number number (omega arith) (number_spelled (codes "0") number line)
zero_of_number command line = cc

pub past_number : (command : Command)
    → IsCommandLine (codes "generate" ∷ codes "--number" ∷ codes "201" ∷ []) command → ⊥
past_number (Generate number) line =
    let is = number_spelled (codes "201") number line in
    absurd (omega (arith, is.2, number_is max_number (codes "201") number (omega arith) is))
past_number command line = cc

-- ---- one of each command

pub some_analyse : (cert : Bool) (budget : ℕ) → 1 ≤ budget → budget ≤ max_budget
    → (words : List Word) × IsCommandLine words (Analyse cert (Visits budget))
some_analyse true budget low high = (
  codes "analyse" ∷ codes "--cert" ∷ codes "--budget" ∷ decimal budget ∷ [],
  (
    codes "--cert" ∷ codes "--budget" ∷ decimal budget ∷ [],
    refl,
    (
      codes "--cert" ∷ [],
      codes "--budget" ∷ decimal budget ∷ [],
      refl,
      inr (low, high, inl refl),
      inl refl,
    ),
  ),
)
some_analyse false budget low high = (
  codes "analyse" ∷ codes "--budget" ∷ decimal budget ∷ [],
  (
    codes "--budget" ∷ decimal budget ∷ [],
    refl,
    (
      [],
      codes "--budget" ∷ decimal budget ∷ [],
      refl,
      inr (low, high, inl refl),
      inl refl,
    ),
  ),
)

pub some_height : (cert : Bool) → (words : List Word) × IsCommandLine words (Analyse cert Height)
some_height true = (
  codes "analyse" ∷ codes "--cert" ∷ codes "--budget" ∷ codes "height" ∷ [],
  (
    codes "--cert" ∷ codes "--budget" ∷ codes "height" ∷ [],
    refl,
    (
      codes "--cert" ∷ [],
      codes "--budget" ∷ codes "height" ∷ [],
      refl,
      inl refl,
      inl refl,
    ),
  ),
)
some_height false = (
  codes "analyse" ∷ codes "--budget" ∷ codes "height" ∷ [],
  (
    codes "--budget" ∷ codes "height" ∷ [],
    refl,
    ([], codes "--budget" ∷ codes "height" ∷ [], refl, inl refl, inl refl),
  ),
)

pub some_check : (words : List Word) × IsCommandLine words Check
some_check = (codes "check" ∷ [], refl)

pub some_run : (steps : ℕ) → 1 ≤ steps → steps ≤ max_steps
    → (words : List Word) × IsCommandLine words (Run steps)
some_run steps low high = (
  codes "run" ∷ codes "--steps" ∷ decimal steps ∷ [],
  (codes "--steps" ∷ decimal steps ∷ [], refl, inr (low, high, inl refl)),
)

pub some_generate : (number : ℕ) → 1 ≤ number → number ≤ max_number
    → (words : List Word) × IsCommandLine words (Generate number)
some_generate number low high = (
  codes "generate" ∷ codes "--number" ∷ decimal number ∷ [],
  (codes "--number" ∷ decimal number ∷ [], refl, (low, high, inl refl)),
)
