-- What clap takes, and whose matches say a command, is its command line.
use Rattle.std.proofs.Common.{◌≡◌, ◌∙◌, ℕ, Bool, true, false, List, [], ◌∷◌, Option, Some, None}
use Rattle.std.proofs.Common.{refl, sym, ap, subst, inl, inr, codes, true≢false}
use Rattle.clap.specs.Values.{bool_text}
use Rattle.clap.specs.Words.{fault_of, subcommand_of, subcommand_rows_of}
use Rattle.clap.specs.Walk.{Row, Text, one_of, rows_after}
use Rattle.clap.specs.Simple.{Shape}
use Rattle.clap.specs.declared.parser.matches.ArgMatches.{ArgMatches}
use Rattle.ja_base.proofs.Tests.{or_left_false, or_right_false}
use Rattle.ja_words.specs.Words.{AsksFor, IsBudget, IsCommandLine, IsFlag, IsNumber, IsOption, Word}
use Rattle.ja_words.specs.Words.{default_budget}
use Rattle.ja_gen.specs.Generated.{max_number}
use Rattle.ja_words.specs.Words.{default_steps, max_budget, max_steps}
use Rattle.ja_words.specs.code.Answers.{IsClapAnswer, MeansBudget, ReadsCommand, Says, SaysFlag}
use Rattle.ja_words.specs.code.Answers.{SaysIfMet}
use Rattle.ja_words.specs.declared.command.Budget.{Budget}
use Rattle.ja_words.specs.declared.command.Budget.TheVariants.{Height, Visits}
use Rattle.ja_words.specs.code.Answers.{SaysGiven, SaysNumber}
use Rattle.ja_words.specs.code.Apps.{has_dashes, is_dashes, tajs_app}
use Rattle.ja_words.specs.declared.command.Command.{Command}
use Rattle.ja_words.specs.declared.command.Command.TheVariants.{Analyse, Check, Generate, Run}
use Rattle.ja_words.proofs.Given.{exactly_says, taken}
use Rattle.ja_words.proofs.NoFaults.{or_else_split}
use Rattle.ja_words.proofs.Leaves.{IsPlainLeaf, Reads, leaf_reads, left_fault}
use Rattle.ja_words.proofs.Options.{IsValue, ReadsAnalyse, ReadsGenerate, ReadsRun}
use Rattle.ja_words.proofs.Options.{analyse_is_plain, analyse_leaf, analyse_reads, check_is_plain}
use Rattle.ja_words.proofs.Options.{check_leaf, check_reads, generate_is_plain, generate_leaf}
use Rattle.ja_words.proofs.Options.{generate_reads, rows_with, run_is_plain, run_leaf, run_reads}
use Rattle.ja_words.proofs.TopLevel.{Enters, Which, analyse, check, enters_analyse, enters_check}
use Rattle.ja_words.proofs.TopLevel.{enters_generate, enters_run, generate, other, other_fails}
use Rattle.ja_words.proofs.TopLevel.{run, start, which}

flag_is : (text : Option Text) (read asked : Bool) → text ≡ Some (bool_text read)
    → SaysFlag text asked → asked ≡ read
flag_is text true asked e says = says.0 e
flag_is text false asked e says = says.1 e

number_is : (name : Word) (default most : ℕ) (value : Option Text) (number : ℕ) (words : List Word)
    → IsValue name value words → SaysNumber default most value number
    → IsNumber name default most number words
number_is name default most None number words is says = inl (is, says)
number_is name default most (Some v) number words is says =
    inr (says.1, says.2, subst (λ (t : Text). IsOption name t words) says.0 is)

budget_is : (value : Option Text) (budget : Budget) (words : List Word)
    → IsValue (codes "--budget") value words → MeansBudget value budget → IsBudget budget words
budget_is value (Visits number) words is says =
    number_is (codes "--budget") default_budget max_budget value number words is says
budget_is value Height words is says =
    subst (λ (o : Option Text). IsValue (codes "--budget") o words) says is

-- ---- by the command that the first word names

analyse_line : (rest : List Word) (rows : List Row) (command : Command) → ReadsAnalyse rest rows
    → Says (codes "analyse", rows) command → IsCommandLine (codes "analyse" ∷ rest) command
analyse_line rest rows (Analyse cert budget) read says =
    let same = flag_is (one_of (codes "cert") rows) read.cert cert read.says_cert says.1 in
    let means = subst (λ (o : Option Text). MeansBudget o budget) read.says_budget says.2 in (
      rest,
      refl,
      (
        read.cert_words,
        read.budget_words,
        subst (λ (b : Bool). IsFlag (codes "--cert") b read.cert_words) (sym same) read.is_cert,
        budget_is read.budget budget read.budget_words read.is_budget means,
        read.are_both,
      ),
    )
analyse_line rest rows command read says = absurd (cc)

run_line : (rest : List Word) (rows : List Row) (command : Command) → ReadsRun rest rows
    → Says (codes "run", rows) command → IsCommandLine (codes "run" ∷ rest) command
run_line rest rows (Run steps) read says =
    let number = subst (λ (o : Option Text). SaysNumber default_steps max_steps o steps)
    read.says_steps says.1 in (
      rest,
      refl,
      number_is (codes "--steps") default_steps max_steps read.steps steps rest
          read.is_steps number,
    )
run_line rest rows command read says = absurd (cc)

generate_line : (rest : List Word) (rows : List Row) (command : Command) → ReadsGenerate rest rows
    → Says (codes "generate", rows) command → IsCommandLine (codes "generate" ∷ rest) command
generate_line rest rows (Generate number) read says =
    let spells = subst (λ (o : Option Text). SaysGiven max_number o number)
    read.says_number says.1 in (
      rest,
      refl,
      (
        spells.1,
        spells.2,
        subst (λ (t : Text). IsOption (codes "--number") t rest) spells.0 read.is_number,
      ),
    )
generate_line rest rows command read says = absurd (cc)

check_line : (rest : List Word) (rows : List Row) (command : Command) → rest ≡ []
    → Says (codes "check", rows) command → IsCommandLine (codes "check" ∷ rest) command
check_line rest rows Check none says = ap (λ (r : List Word). codes "check" ∷ r) none
check_line rest rows command none says = absurd (cc)

-- what clap reads of the words behind the name of a command
module _ (name : Text) (leaf : Shape) (plain : IsPlainLeaf leaf) (rest : List Text)
    (enters : Enters name leaf rest) (dashes : has_dashes rest ≡ false)
    (clean : fault_of tajs_app (name ∷ rest) ≡ []) where
  read : Reads leaf start rest []
  read = leaf_reads leaf plain rest dashes
      (or_else_split (left_fault leaf start rest) [] (sym enters.fault ∙ clean)).0

  said : (command : Command) → SaysIfMet (subcommand_of tajs_app (name ∷ rest)) command
      → Says (name, rows_after leaf.rules [] rest) command
  said command says = subst
      (λ (o : Option (Text × List Row)). SaysIfMet o command) enters.subcommand says

module _ (rest : List Text) (dashes : has_dashes rest ≡ false) (command : Command) where
  abbrev Clean : Text → Type 0
  Clean name = fault_of tajs_app (name ∷ rest) ≡ []

  abbrev Said : Text → Type 0
  Said name = SaysIfMet (subcommand_of tajs_app (name ∷ rest)) command

  reads_analyse : Clean (codes "analyse") → Said (codes "analyse")
      → IsCommandLine (codes "analyse" ∷ rest) command
  reads_analyse clean says =
      let reads = read (codes "analyse") analyse_leaf analyse_is_plain rest
      (enters_analyse rest) dashes clean in
      let options = analyse_reads reads.uses rest reads.words_are reads.clean in
      let rows = ap (rows_with analyse_leaf) reads.last in
      analyse_line rest (rows_after analyse_leaf.rules [] rest) command
      (subst (ReadsAnalyse rest) (sym rows) options)
      (said (codes "analyse") analyse_leaf analyse_is_plain rest
      (enters_analyse rest) dashes clean command says)

  reads_run : Clean (codes "run") → Said (codes "run") → IsCommandLine (codes "run" ∷ rest) command
  reads_run clean says =
      let reads = read (codes "run") run_leaf run_is_plain rest (enters_run rest) dashes clean in
      let options = run_reads reads.uses rest reads.words_are reads.clean in
      let rows = ap (rows_with run_leaf) reads.last in
      run_line rest (rows_after run_leaf.rules [] rest) command
      (subst (ReadsRun rest) (sym rows) options)
      (said (codes "run") run_leaf run_is_plain rest (enters_run rest) dashes clean command says)

  reads_generate : Clean (codes "generate") → Said (codes "generate")
      → IsCommandLine (codes "generate" ∷ rest) command
  reads_generate clean says =
      let reads = read (codes "generate") generate_leaf generate_is_plain rest
      (enters_generate rest) dashes clean in
      let option = generate_reads reads.uses rest reads.words_are reads.clean in
      let rows = ap (rows_with generate_leaf) reads.last in
      generate_line rest (rows_after generate_leaf.rules [] rest) command
      (subst (ReadsGenerate rest) (sym rows) option)
      (said (codes "generate") generate_leaf generate_is_plain rest
      (enters_generate rest) dashes clean command says)

  reads_check : Clean (codes "check") → Said (codes "check")
      → IsCommandLine (codes "check" ∷ rest) command
  reads_check clean says =
      let reads = read (codes "check") check_leaf check_is_plain rest
      (enters_check rest) dashes clean in
      check_line rest (rows_after check_leaf.rules [] rest) command
      (check_reads reads.uses rest reads.words_are)
      (said (codes "check") check_leaf check_is_plain rest
      (enters_check rest) dashes clean command says)

line_of : (words : List Text) → has_dashes words ≡ false → fault_of tajs_app words ≡ []
    → (command : Command)
    → SaysIfMet (subcommand_of tajs_app words) command → IsCommandLine words command
line_of [] dashes clean command says = absurd says
line_of (word ∷ rest) dashes clean command says = go (which word)
  where
    rest_dashes : has_dashes rest ≡ false
    rest_dashes = or_right_false (is_dashes word) (has_dashes rest) dashes

    at_name : (name : Text) → word ≡ name
        → (Clean rest rest_dashes command name → Said rest rest_dashes command name
        → IsCommandLine (name ∷ rest) command) → IsCommandLine (word ∷ rest) command
    at_name name is reads = subst (λ (w : Text). IsCommandLine (w ∷ rest) command) (sym is)
        (reads (subst (λ (w : Text). fault_of tajs_app (w ∷ rest) ≡ []) is clean)
        (subst (λ (w : Text). SaysIfMet (subcommand_of tajs_app (w ∷ rest)) command) is says))

    go : Which word → IsCommandLine (word ∷ rest) command
    go (analyse is) = at_name (codes "analyse") is (reads_analyse rest rest_dashes command)
    go (check is) = at_name (codes "check") is (reads_check rest rest_dashes command)
    go (run is) = at_name (codes "run") is (reads_run rest rest_dashes command)
    go (generate is) = at_name (codes "generate") is (reads_generate rest rest_dashes command)
    go (other none) = absurd (other_fails word rest
        (or_left_false (is_dashes word) (has_dashes rest) dashes) none clean)

-- ---- what the words ask for, by clap's answer

pub dashes_ask_nothing : (words : List Text) → has_dashes words ≡ true → AsksFor words None
dashes_ask_nothing words has command line = true≢false (sym has ∙ (taken words command line).dashes)

pub refused_asks_nothing : (words : List Text) → IsClapAnswer words None → AsksFor words None
refused_asks_nothing words fails command line = fails (taken words command line).clean

pub answer_asks : (words : List Text) (matches : ArgMatches) → has_dashes words ≡ false
    → IsClapAnswer words (Some matches) → (command : Option Command)
    → ReadsCommand (subcommand_rows_of matches) command → AsksFor words command
answer_asks words matches dashes answer None reads = λ command line.
    reads command (subst (λ (o : Option (Text × List Row)). SaysIfMet o command) (sym answer.1)
    (exactly_says (subcommand_of tajs_app words) command (taken words command line).says))
answer_asks words matches dashes answer (Some command) reads =
    line_of words dashes answer.0 command
    (subst (λ (o : Option (Text × List Row)). SaysIfMet o command) answer.1 reads)
