-- A word is read as the one number that it may be.
use Rattle.std.proofs.Common.{arith}
use Rattle.std.proofs.lemmas.Bool.{iff_false}
use Rattle.ja_words.proofs.NumberLemmas.{only_parsed, unparsed}
use Rattle.ja_words.proofs.numbers.number_in.Goals as goal

pub returns-else-is_spelled : goal.returns-else-is_spelled
returns-else-is_spelled c = λ number is.
    only_parsed c.args.most c.args.word.now c.parse.result c.in-Ok.number
    (omega (arith, c.ranges.most.fits))
    c.parse.ensures.value.0 c.in-Ok.is
    (iff_false c.is_spelled.ensures c.if-is_spelled.false) number is

pub returns-in-Err : goal.returns-in-Err
returns-in-Err c = λ number is.
    unparsed c.args.most c.args.word.now c.parse.result c.in-Err.field-0
    (omega (arith, c.ranges.most.fits))
    c.parse.ensures.value.0 c.in-Err.is number is
