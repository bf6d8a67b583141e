-- What the options of a command say, by their matches.
use Rattle.std.proofs.Common.{◌≡◌, ◌∙◌, ℕ, Bool, true, false, Option, Some, None}
use Rattle.std.proofs.Common.{refl, sym, subst, codes}
use Rattle.clap.specs.Words.{Text}
use Rattle.clap.specs.Words.{first_value}
use Rattle.clap.specs.Words.{one_text, rows_of}
use Rattle.clap.specs.declared.parser.matches.Found.{Found}
use Rattle.clap.proofs.WalkLemmas.{first_value-rows, one_text-rows}
use Rattle.ja_gen.specs.Generated.{max_number}
use Rattle.ja_words.specs.Words.{default_steps, max_steps}
use Rattle.ja_words.specs.code.Answers.{MeansBudget, ReadsAnalyse, ReadsBudget, ReadsGenerate}
use Rattle.ja_words.specs.code.Answers.{ReadsNumber, ReadsRun, SaysGiven, SaysNumber}
use Rattle.ja_words.specs.declared.command.Budget.{Budget}
use Rattle.ja_words.specs.declared.command.Command.TheVariants.{Analyse, Generate, Run}

pub no_budget : (f : Found) (value : Option Text) → value ≡ first_value f (codes "budget")
    → ReadsBudget value None → ReadsAnalyse (rows_of f) None
no_budget f value is none (Analyse cert budget) says =
    none budget (subst (λ (o : Option Text). MeansBudget o budget)
    (sym (is ∙ first_value-rows f (codes "budget"))) says.2)
no_budget f value is none command says = cc

pub analyse_read : (f : Found) (value : Option Text) (budget : Budget) (cert : Bool)
    → value ≡ first_value f (codes "budget")
    → MeansBudget value budget
    → (one_text f (codes "cert") ≡ Some (codes "true") → cert ≡ true)
    → (one_text f (codes "cert") ≡ Some (codes "false") → cert ≡ false)
    → ReadsAnalyse (rows_of f) (Some (Analyse cert budget))
analyse_read f value budget cert is says yes_cert no_cert = (
  refl,
  (
    λ e. yes_cert (one_text-rows f (codes "cert") ∙ e),
    λ e. no_cert
        (one_text-rows f (codes "cert") ∙ e),
  ),
  subst (λ (o : Option Text). MeansBudget o budget)
      (is ∙ first_value-rows f (codes "budget")) says,
)

pub no_steps : (f : Found) (value : Option Text) → value ≡ first_value f (codes "steps")
    → ReadsNumber default_steps max_steps value None → ReadsRun (rows_of f) None
no_steps f value is none (Run steps) says =
    none steps (subst (λ (o : Option Text). SaysNumber default_steps max_steps o steps)
    (sym (is ∙ first_value-rows f (codes "steps"))) says.1)
no_steps f value is none command says = cc

pub run_read : (f : Found) (value : Option Text) (steps : ℕ) → value ≡ first_value f (codes "steps")
    → SaysNumber default_steps max_steps value steps → ReadsRun (rows_of f) (Some (Run steps))
run_read f value steps is says = (
  refl,
  subst (λ (o : Option Text). SaysNumber default_steps max_steps o steps)
      (is ∙ first_value-rows f (codes "steps")) says,
)

pub no_number : (f : Found) (value : Option Text) → value ≡ first_value f (codes "number")
    → ((number : ℕ) → SaysGiven max_number value number → ⊥) → ReadsGenerate (rows_of f) None
no_number f value is none (Generate number) says =
    none number (subst (λ (o : Option Text). SaysGiven max_number o number)
    (sym (is ∙ first_value-rows f (codes "number"))) says.1)
no_number f value is none command says = cc

pub generate_read : (f : Found) (value : Option Text) (number : ℕ)
    → value ≡ first_value f (codes "number") → SaysGiven max_number value number
    → ReadsGenerate (rows_of f) (Some (Generate number))
generate_read f value number is says = (
  refl,
  subst (λ (o : Option Text). SaysGiven max_number o number)
      (is ∙ first_value-rows f (codes "number")) says,
)
