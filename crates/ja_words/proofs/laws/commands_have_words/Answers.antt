-- The value stands in the next word.
use Rattle.ja_words.proofs.Examples.{some_analyse, some_check, some_generate, some_height, some_run}
use Rattle.ja_words.proofs.laws.commands_have_words.Goals as goal

pub returns : goal.returns
returns c = record {
  analyse = λ cert budget low high. some_analyse cert budget low high;
  height = λ cert. some_height cert;
  check = some_check;
  run = λ steps low high. some_run steps low high;
  generate = λ number low high. some_generate number low high;
}
