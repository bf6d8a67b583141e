-- A command line is taken by clap, whose matches say its command.
use Rattle.std.proofs.Common.{◌≡◌, ◌||◌, ◌∙◌, ◌++◌, ◌<◌, ◌^◌, ℕ, Bool, true, false, List, []}
use Rattle.std.proofs.Common.{◌∷◌, ◌≤◌, Option, Some, None, refl, sym, ap, ap₂, subst, inl, inr, arith}
use Rattle.std.proofs.Common.{codes}
use Rattle.std.proofs.Common.{decimal}
use Rattle.std.proofs.lemmas.Fmt.{decimal_is_IsNumeral_wide}
use Rattle.std.specs.Str.Parse.{digits_value, IsNumeral}
use Rattle.std.proofs.lemmas.Option.{same_Some}
use Rattle.clap.specs.Values.{bool_text}
use Rattle.clap.specs.Walk.{Held, Row, Text, finished, first_of, idle, one_of, option, rows_after}
use Rattle.clap.specs.Simple.{Shape, subcommand_of}
use Rattle.clap.specs.Kinds.{Kinds, or_else}
use Rattle.clap.specs.Faults.{fault_of}
use Rattle.clap.proofs.OnLiterals.{clap_on_literals}
use Rattle.ja_words.specs.Words.{AreBoth, IsBudget, IsCommandLine, IsFlag, IsNumber, IsOption, Word}
use Rattle.ja_gen.specs.Generated.{max_number}
use Rattle.ja_words.specs.Words.{default_budget, default_steps, max_budget, max_steps}
use Rattle.ja_words.specs.code.Answers.{MeansBudget, SaysBudget, SaysClasses, SaysFlag, SaysGiven, SaysIfMet}
use Rattle.ja_words.specs.code.Answers.{SaysNumber, SaysSteps}
use Rattle.ja_words.specs.code.Apps.{has_dashes, tajs_app}
use Rattle.ja_words.specs.declared.command.Budget.{Budget}
use Rattle.ja_words.specs.declared.command.Budget.TheVariants.{Height, Visits}
use Rattle.ja_words.specs.declared.command.Command.{Command}
use Rattle.ja_words.specs.declared.command.Command.TheVariants.{Analyse, Check, Generate, Run}
use Rattle.ja_words.proofs.Leaves.{end_held, held, left_fault, standing, value_held, value_left}
use Rattle.ja_words.proofs.Lexed.{IsNoOption, long_word, numeral_is_no_option}
use Rattle.ja_words.proofs.Options.{IsValue, analyse_is_plain, analyse_leaf, budget_named}
use Rattle.ja_words.proofs.Options.{budget_rule}
use Rattle.ja_words.proofs.Options.{cert_rows, check_leaf, generate_is_plain, generate_leaf}
use Rattle.ja_words.proofs.Options.{number_named, number_rule, run_is_plain, run_leaf, steps_named}
use Rattle.ja_words.proofs.Options.{steps_rule}
use Rattle.ja_words.proofs.TopLevel.{enters_analyse, enters_check, enters_generate, enters_run}
use Rattle.ja_words.proofs.TopLevel.{start}

-- ---- the options of the analysis

abbrev analyse_after : List Text → List Row
analyse_after options = rows_after analyse_leaf.rules [] options

record GivesAnalyse (options : List Text) (cert : Bool) (budget : Option Text) : Type 0 where
  clean : left_fault analyse_leaf start options ≡ []
  dashes : has_dashes options ≡ false
  says_cert : one_of (codes "cert") (analyse_after options) ≡ Some (bool_text cert)
  says_budget : first_of (codes "budget") (analyse_after options) ≡ budget

nothing : GivesAnalyse [] false None
unfolding clap_on_literals
nothing = record { clean = refl; dashes = refl; says_cert = refl; says_budget = refl }

cert_alone : GivesAnalyse (codes "--cert" ∷ []) true None
unfolding clap_on_literals
cert_alone = record { clean = refl; dashes = refl; says_cert = refl; says_budget = refl }

budget_word : (v : Text) → GivesAnalyse (long_word (codes "budget") (Some v) ∷ []) false (Some v)
unfolding clap_on_literals
budget_word v = record { clean = refl; dashes = refl; says_cert = refl; says_budget = refl }

cert_budget_word : (v : Text)
    → GivesAnalyse (codes "--cert" ∷ long_word (codes "budget") (Some v) ∷ []) true (Some v)
unfolding clap_on_literals
cert_budget_word v = record { clean = refl; dashes = refl; says_cert = refl; says_budget = refl }

budget_word_cert : (v : Text)
    → GivesAnalyse (long_word (codes "budget") (Some v) ∷ codes "--cert" ∷ []) true (Some v)
unfolding clap_on_literals
budget_word_cert v = record { clean = refl; dashes = refl; says_cert = refl; says_budget = refl }

abbrev cert_in : Held → Option Text
cert_in h = one_of (codes "cert") (finished analyse_leaf.rules h)

abbrev budget_in : Held → Option Text
budget_in h = first_of (codes "budget") (finished analyse_leaf.rules h)

module _ (v : Text) (is : IsNoOption v) where
  abbrev left_at : (rows : List Row) (rest : List Text)
      → left_fault analyse_leaf
      (standing (option budget_rule.id) (held rows (Some (budget_rule.id, [])))) (v ∷ rest)
      ≡ left_fault analyse_leaf (standing idle (held rows (Some (budget_rule.id, v ∷ [])))) rest
  left_at rows rest = value_left analyse_leaf analyse_is_plain budget_rule budget_named refl rows v
      rest is

  abbrev held_at : (rows : List Row) (rest : List Text)
      → end_held analyse_leaf (standing (option budget_rule.id)
      (held rows (Some (budget_rule.id, [])))) (v ∷ rest)
      ≡ end_held analyse_leaf (standing idle (held rows (Some (budget_rule.id, v ∷ [])))) rest
  held_at rows rest = value_held analyse_leaf analyse_is_plain budget_rule budget_named refl rows v
      rest is

  budget_next : GivesAnalyse (codes "--budget" ∷ v ∷ []) false (Some v)
  unfolding clap_on_literals
  budget_next = record {
    clean = left_at [] [];
    dashes = ap (λ (b : Bool). b || false) is.dashes;
    says_cert = ap cert_in (held_at [] []);
    says_budget = ap budget_in (held_at [] []);
  }

  cert_budget_next : GivesAnalyse (codes "--cert" ∷ codes "--budget" ∷ v ∷ []) true (Some v)
  unfolding clap_on_literals
  cert_budget_next = record {
    clean = left_at cert_rows [];
    dashes = ap (λ (b : Bool). b || false) is.dashes;
    says_cert = ap cert_in (held_at cert_rows []);
    says_budget = ap budget_in (held_at cert_rows []);
  }

  budget_next_cert : GivesAnalyse (codes "--budget" ∷ v ∷ codes "--cert" ∷ []) true (Some v)
  unfolding clap_on_literals
  budget_next_cert = record {
    clean = left_at [] (codes "--cert" ∷ []);
    dashes = ap (λ (b : Bool). b || false) is.dashes;
    says_cert = ap cert_in (held_at [] (codes "--cert" ∷ []));
    says_budget = ap budget_in (held_at [] (codes "--cert" ∷ []));
  }

-- ---- of any command line

abbrev IsNoOptionIfGiven : Option Text → Type 0
IsNoOptionIfGiven None = Unit {0}
IsNoOptionIfGiven (Some v) = IsNoOption v

-- the value that says a number
record HasValue (name : Word) (default most number : ℕ) (words : List Word) : Type 0 where
  value : Option Text
  is_value : IsValue name value words
  says : SaysNumber default most value number
  is_no_option : IsNoOptionIfGiven value

decimal_is_no_option : (most number : ℕ) → most < 10 ^ 64 → number ≤ most
    → IsNoOption (decimal number)
decimal_is_no_option most number small high = numeral_is_no_option (decimal number)
    (decimal_is_IsNumeral_wide number (omega arith)).0

value_of : (name : Word) (default most number : ℕ) (words : List Word) → most < 10 ^ 64
    → IsNumber name default most number words → HasValue name default most number words
value_of name default most number words small (inl h) =
    record { value = None; is_value = h.0; says = h.1; is_no_option = tt }
value_of name default most number words small (inr h) = record {
  value = Some (decimal number);
  is_value = h.2;
  says = (refl, h.0, h.1);
  is_no_option = decimal_is_no_option most number small h.1;
}

-- .. and that means a budget
record HasBudget (budget : Budget) (words : List Word) : Type 0 where
  value : Option Text
  is_value : IsValue (codes "--budget") value words
  means : MeansBudget value budget
  is_no_option : IsNoOptionIfGiven value

height_is_no_option : IsNoOption (codes "height")
height_is_no_option = record { long = refl; short = refl; dashes = refl }

budget_of : (budget : Budget) (words : List Word) → IsBudget budget words → HasBudget budget words
budget_of (Visits number) words is =
    let value = value_of (codes "--budget") default_budget max_budget number words (omega arith) is
    in record {
      value = value.value;
      is_value = value.is_value;
      means = value.says;
      is_no_option = value.is_no_option;
    }
budget_of Height words is = record {
  value = Some (codes "height");
  is_value = is;
  means = refl;
  is_no_option = height_is_no_option;
}

both_are : (words a b x y : List Text) → AreBoth words a b → a ≡ x → b ≡ y → AreBoth words x y
both_are words a b x y (inl is) first second =
    inl (is ∙ ap₂ (λ (c d : List Text). c ++ d) first second)
both_are words a b x y (inr is) first second =
    inr (is ∙ ap₂ (λ (c d : List Text). d ++ c) first second)

either : (options : List Text) (cert : Bool) (budget : Option Text) (x y : List Text)
    → AreBoth options x y
    → GivesAnalyse (x ++ y) cert budget → GivesAnalyse (y ++ x) cert budget
    → GivesAnalyse options cert budget
either options cert budget x y (inl is) one other =
    subst (λ (o : List Text). GivesAnalyse o cert budget) (sym is) one
either options cert budget x y (inr is) one other =
    subst (λ (o : List Text). GivesAnalyse o cert budget) (sym is) other

gives_analyse : (options : List Text) (cert : Bool) (budget : Option Text) (a b : List Text)
    → IsFlag (codes "--cert") cert a → IsValue (codes "--budget") budget b
    → IsNoOptionIfGiven budget
    → AreBoth options a b → GivesAnalyse options cert budget
gives_analyse options false None a b flag value fine both =
    either options false None [] [] (both_are options a b [] [] both flag value) nothing nothing
gives_analyse options true None a b flag value fine both =
    either options true None (codes "--cert" ∷ []) []
    (both_are options a b (codes "--cert" ∷ []) [] both flag value) cert_alone cert_alone
gives_analyse options false (Some v) a b flag (inl value) fine both =
    either options false (Some v) [] (codes "--budget" ∷ v ∷ [])
    (both_are options a b [] (codes "--budget" ∷ v ∷ []) both flag value)
    (budget_next v fine) (budget_next v fine)
gives_analyse options false (Some v) a b flag (inr value) fine both =
    either options false (Some v) [] (long_word (codes "budget") (Some v) ∷ [])
    (both_are options a b [] (long_word (codes "budget") (Some v) ∷ []) both flag value)
    (budget_word v) (budget_word v)
gives_analyse options true (Some v) a b flag (inl value) fine both =
    either options true (Some v) (codes "--cert" ∷ []) (codes "--budget" ∷ v ∷ [])
    (both_are options a b (codes "--cert" ∷ []) (codes "--budget" ∷ v ∷ []) both flag value)
    (cert_budget_next v fine) (budget_next_cert v fine)
gives_analyse options true (Some v) a b flag (inr value) fine both =
    either options true (Some v) (codes "--cert" ∷ []) (long_word (codes "budget") (Some v) ∷ [])
    (both_are options a b (codes "--cert" ∷ [])
    (long_word (codes "budget") (Some v) ∷ []) both flag value)
    (cert_budget_word v) (budget_word_cert v)

-- ---- the one option of a run, and of a generated program

record GivesOne (leaf : Shape) (id : Text) (options : List Text) (value : Option Text) : Type 0
  where
    clean : left_fault leaf start options ≡ []
    dashes : has_dashes options ≡ false
    says : first_of id (rows_after leaf.rules [] options) ≡ value

abbrev GivesRun : List Text → Option Text → Type 0
GivesRun = GivesOne run_leaf (codes "steps")

abbrev GivesGenerate : List Text → Option Text → Type 0
GivesGenerate = GivesOne generate_leaf (codes "number")

no_steps : GivesRun [] None
unfolding clap_on_literals
no_steps = record { clean = refl; dashes = refl; says = refl }

steps_word : (v : Text) → GivesRun (long_word (codes "steps") (Some v) ∷ []) (Some v)
unfolding clap_on_literals
steps_word v = record { clean = refl; dashes = refl; says = refl }

steps_next : (v : Text) → IsNoOption v → GivesRun (codes "--steps" ∷ v ∷ []) (Some v)
unfolding clap_on_literals
steps_next v is = record {
  clean = value_left run_leaf run_is_plain steps_rule steps_named refl [] v [] is;
  dashes = ap (λ (b : Bool). b || false) is.dashes;
  says = ap (λ (h : Held). first_of (codes "steps") (finished run_leaf.rules h))
      (value_held run_leaf run_is_plain steps_rule steps_named refl [] v [] is);
}

gives_run : (options : List Text) (steps : Option Text) → IsValue (codes "--steps") steps options
    → IsNoOptionIfGiven steps → GivesRun options steps
gives_run options None is fine =
    subst (λ (o : List Text). GivesRun o None) (sym is) no_steps
gives_run options (Some v) (inl is) fine =
    subst (λ (o : List Text). GivesRun o (Some v)) (sym is) (steps_next v fine)
gives_run options (Some v) (inr is) fine =
    subst (λ (o : List Text). GivesRun o (Some v)) (sym is) (steps_word v)

number_word : (v : Text) → GivesGenerate (long_word (codes "number") (Some v) ∷ []) (Some v)
unfolding clap_on_literals
number_word v = record { clean = refl; dashes = refl; says = refl }

number_next : (v : Text) → IsNoOption v
    → GivesGenerate (codes "--number" ∷ v ∷ []) (Some v)
unfolding clap_on_literals
number_next v is = record {
  clean = value_left generate_leaf generate_is_plain number_rule number_named refl [] v [] is;
  dashes = ap (λ (b : Bool). b || false) is.dashes;
  says = ap (λ (h : Held). first_of (codes "number") (finished generate_leaf.rules h))
      (value_held generate_leaf generate_is_plain number_rule number_named refl [] v [] is);
}

gives_generate : (options : List Text) (v : Text) → IsOption (codes "--number") v options
    → IsNoOption v → GivesGenerate options (Some v)
gives_generate options v (inl is) fine =
    subst (λ (o : List Text). GivesGenerate o (Some v)) (sym is) (number_next v fine)
gives_generate options v (inr is) fine =
    subst (λ (o : List Text). GivesGenerate o (Some v)) (sym is) (number_word v)

check_clean : left_fault check_leaf start [] ≡ []
unfolding clap_on_literals
check_clean = refl

-- ---- what clap makes of a command line

abbrev pub SaysExactly : Option (Text × List Row) → Command → Type 0
SaysExactly None command = ⊥
SaysExactly (Some sub) (Analyse cert budget) = (sub.0 ≡ codes "analyse")
    × (one_of (codes "cert") sub.1 ≡ Some (bool_text cert)) × SaysBudget sub.1 budget
SaysExactly (Some sub) Check = sub.0 ≡ codes "check"
SaysExactly (Some sub) (Run steps) = (sub.0 ≡ codes "run") × SaysSteps sub.1 steps
SaysExactly (Some sub) (Generate number) = (sub.0 ≡ codes "generate") × SaysClasses sub.1 number

pub record IsTaken (words : List Text) (command : Command) : Type 0 where
  pub dashes : has_dashes words ≡ false
  pub clean : fault_of tajs_app words ≡ []
  pub says : SaysExactly (subcommand_of tajs_app words) command

pub taken : (words : List Word) (command : Command) → IsCommandLine words command
    → IsTaken words command
taken words (Analyse cert budget) line =
    let options = line.0 in
    let value = budget_of budget line.2.1 line.2.3 in
    let gives = gives_analyse options cert value.value line.2.0 line.2.1 line.2.2 value.is_value
    value.is_no_option line.2.4 in
    let enters = enters_analyse options in
    subst (λ (w : List Text). IsTaken w (Analyse cert budget)) (sym line.1) (record {
      dashes = gives.dashes;
      clean = enters.fault ∙ ap (λ (k : Kinds). or_else k []) gives.clean;
      says = subst (λ (o : Option (Text × List Row)). SaysExactly o (Analyse cert budget))
          (sym enters.subcommand) (
            refl,
            gives.says_cert,
            subst (λ (o : Option Text). MeansBudget o budget) (sym gives.says_budget) value.means,
          );
    })
taken words Check line =
    let enters = enters_check [] in
    subst (λ (w : List Text). IsTaken w Check) (sym line) (record {
      dashes = refl;
      clean = enters.fault ∙ ap (λ (k : Kinds). or_else k []) check_clean;
      says = subst (λ (o : Option (Text × List Row)). SaysExactly o Check)
          (sym enters.subcommand) refl;
    })
taken words (Run steps) line =
    let options = line.0 in
    let value = value_of (codes "--steps") default_steps max_steps steps options
    (omega arith) line.2 in
    let gives = gives_run options value.value value.is_value value.is_no_option in
    let enters = enters_run options in
    subst (λ (w : List Text). IsTaken w (Run steps)) (sym line.1) (record {
      dashes = gives.dashes;
      clean = enters.fault ∙ ap (λ (k : Kinds). or_else k []) gives.clean;
      says = subst (λ (o : Option (Text × List Row)). SaysExactly o (Run steps))
          (sym enters.subcommand) (
            refl,
            subst (λ (o : Option Text). SaysNumber default_steps max_steps o steps)
                (sym gives.says) value.says,
          );
    })
taken words (Generate number) line =
    let options = line.0 in
    let gives = gives_generate options (decimal number) line.2.2
    (decimal_is_no_option max_number number (omega arith) line.2.1) in
    let enters = enters_generate options in
    subst (λ (w : List Text). IsTaken w (Generate number)) (sym line.1) (record {
      dashes = gives.dashes;
      clean = enters.fault ∙ ap (λ (k : Kinds). or_else k []) gives.clean;
      says = subst (λ (o : Option (Text × List Row)). SaysExactly o (Generate number))
          (sym enters.subcommand) (
            refl,
            subst (λ (o : Option Text). SaysGiven max_number o number) (sym gives.says)
                (refl, line.2.0, line.2.1),
          );
    })

-- ---- what is said exactly is said

true_text : Some (codes "true") ≡ Some (codes "false") → ⊥
true_text e = cc e

flag_said : (text : Option Text) (asked : Bool) → text ≡ Some (bool_text asked)
    → SaysFlag text asked
flag_said text true e = (λ _. refl, λ other. absurd (true_text (sym e ∙ other)))
flag_said text false e = (λ other. absurd (true_text (sym other ∙ e)), λ _. refl)

pub exactly_says : (sub : Option (Text × List Row)) (command : Command) → SaysExactly sub command
    → SaysIfMet sub command
exactly_says None command says = says
exactly_says (Some sub) (Analyse cert budget) says =
    (says.0, flag_said (one_of (codes "cert") sub.1) cert says.1, says.2)
exactly_says (Some sub) Check says = says
exactly_says (Some sub) (Run steps) says = says
exactly_says (Some sub) (Generate number) says = says

-- ---- the words determine the command

bool_said : (text : Option Text) (a b : Bool) → text ≡ Some (bool_text a)
    → text ≡ Some (bool_text b) → a ≡ b
bool_said text true true p q = refl
bool_said text false false p q = refl
bool_said text a b p q = cc

given_said : (most : ℕ) (value : Option Text) (a b : ℕ) → most < 10 ^ 64
    → SaysGiven most value a → SaysGiven most value b → a ≡ b
given_said most None a b small p q = absurd p
given_said most (Some v) a b small p q =
    sym (decimal_is_IsNumeral_wide a (omega (arith, p.2))).1 ∙ ap (digits_value 10) (sym p.0 ∙ q.0)
    ∙ (decimal_is_IsNumeral_wide b (omega (arith, q.2))).1

number_said : (default most : ℕ) (value : Option Text) (a b : ℕ) → most < 10 ^ 64
    → SaysNumber default most value a → SaysNumber default most value b → a ≡ b
number_said default most None a b small p q = p ∙ sym q
number_said default most (Some v) a b small p q = given_said most (Some v) a b small p q

-- the word `height` is no number
no_number : (default most : ℕ) (value : Option Text) (number : ℕ) → most < 10 ^ 64
    → value ≡ Some (codes "height") → SaysNumber default most value number → ⊥
no_number default most None number small is says = cc
no_number default most (Some v) number small is says =
    let numeral = (decimal_is_IsNumeral_wide number (omega (arith, says.2))).0 in
    let word : v ≡ codes "height" = same_Some v (codes "height") is in
    let digits = subst (IsNumeral 10) (sym says.0 ∙ word) numeral in
    absurd (omega (arith, digits.1.0))

budget_said : (value : Option Text) (a b : Budget) → MeansBudget value a → MeansBudget value b
    → a ≡ b
budget_said value (Visits a) (Visits b) p q =
    ap Visits (number_said default_budget max_budget value a b (omega arith) p q)
budget_said value (Visits a) Height p q =
    absurd (no_number default_budget max_budget value a (omega arith) q p)
budget_said value Height (Visits b) p q =
    absurd (no_number default_budget max_budget value b (omega arith) p q)
budget_said value Height Height p q = refl

said_once : (sub : Option (Text × List Row)) (c d : Command) → SaysExactly sub c → SaysExactly sub d
    → c ≡ d
said_once None c d p q = absurd p
said_once (Some sub) (Analyse cert budget) (Analyse cert' budget') p q =
    ap₂ Analyse (bool_said (one_of (codes "cert") sub.1) cert cert' p.1 q.1)
    (budget_said (first_of (codes "budget") sub.1) budget budget' p.2 q.2)
said_once (Some sub) Check Check p q = refl
said_once (Some sub) (Run steps) (Run steps') p q =
    ap Run (number_said default_steps max_steps (first_of (codes "steps") sub.1) steps steps'
    (omega arith) p.1 q.1)
said_once (Some sub) (Generate number) (Generate number') p q =
    ap Generate (given_said max_number (first_of (codes "number") sub.1) number number'
    (omega arith) p.1 q.1)
said_once (Some sub) c d p q = cc

pub one_command : (words : List Word) (c d : Command) → IsCommandLine words c
    → IsCommandLine words d → c ≡ d
one_command words c d p q =
    said_once (subcommand_of tajs_app words) c d (taken words c p).says (taken words d q).says
