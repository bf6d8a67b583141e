-- What the getters of the matches give, by the rows.
use Rattle.std.proofs.Common.{◌≡◌, ◌∙◌, List, [], Option, Some, None, Result, Ok, Err, IfOk, map}
use Rattle.std.proofs.Common.{ap, sym, option_map, Bor, Vec}
use Rattle.std.specs.Option.{unwrap_or}
use Rattle.clap.specs.Words.{Text, matched_of, raw_values, rows_of}
use Rattle.clap.specs.declared.parser.matches.Found.{Found}
use Rattle.clap.proofs.WalkLemmas.{raw_values-rows}
use Rattle.ja_lint_words.specs.Words.{texts}
use Rattle.ja_lint_words.specs.code.Answers.{values_of}

abbrev Texts : Type 0
Texts = Bor (List (Bor Text))

abbrev all_in : Option Texts → List Text
all_in answer = unwrap_or (option_map (λ (s : Texts). texts s.now) answer) []

module _ (f : Found) (id : Text) (answer : Option Texts)
    (gives : option_map (λ (s : Texts). map (λ (v : Bor Text). v.now) s.now) answer
    ≡ option_map raw_values (matched_of f id)) where
  -- the values of an argument, by what `get_strs` answers
  all_values : all_in answer ≡ values_of id (rows_of f)
  all_values = ap (λ (o : Option (List Text)). unwrap_or o []) (gives ∙ raw_values-rows f id)

  pub some_values : (values : Texts) → answer ≡ Some values
      → texts values.now ≡ values_of id (rows_of f)
  some_values values is = sym (ap all_in is) ∙ all_values

  pub no_values : answer ≡ None → [] ≡ values_of id (rows_of f)
  no_values is = sym (ap all_in is) ∙ all_values

-- a list that was copied
pub copied : {A E : Type 0} (r : Result (Vec (Bor Text) A) E) (xs : List (Bor Text))
    (all : List Text) → IfOk r (λ v. v.items ≡ xs) → texts xs ≡ all
    → IfOk r (λ v. texts v.items ≡ all)
copied (Ok v) xs all e same = ap texts e ∙ same
copied (Err error) xs all e same = tt
