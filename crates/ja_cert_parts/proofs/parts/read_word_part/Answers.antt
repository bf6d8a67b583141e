use Rattle.std.proofs.Common.{sym, ◌∙◌}
use Rattle.std.proofs.lemmas.Result.{err_from_is_err_and}
use Rattle.ja_abstract.specs.Keys.{is_whole_text}
use Rattle.ja_cert.specs.Wrong.{are_units, word_rank}
use Rattle.ja_cert_parts.proofs.PartLemmas.{begins, digits_told, no_word, number_word, other_read, text_read, text_word}
use Rattle.ja_cert_parts.proofs.parts.read_word_part.Goals as goal

pub returns-in_default : goal.returns-in_default
returns-in_default c =
    no_word c.args.word.now c.as_bytes.result.now c.here.result c.as_bytes.ensures.value
    c.in_default.ensures.cases c.here.ensures

pub returns-in_err-number : goal.returns-in_err-number
returns-in_err-number c =
    let p = err_from_is_err_and c.from_residual.result c.from_residual.ensures.1 in
    rw (p.1, p.2)
    (digits_told (word_rank c.args.word.now) (is_whole_text c.in-Some.rest.now) 8 _
    (number_word c.args.word.now c.in-Some.rest.now
    (begins c.args.word.now c.as_bytes.result.now c.in-Some.rest.now c.in-Some.first.now 61
    c.as_bytes.ensures.value c.in-Some.ensures.cases.0 c.if-first-eq61.true))
    c.in_err-number.ensures)

pub returns-in_err-text : goal.returns-in_err-text
returns-in_err-text c =
    let p = err_from_is_err_and c.from_residual-in_err-text.result
    c.from_residual-in_err-text.ensures.1 in
    rw (p.1, p.2)
    (digits_told (word_rank c.args.word.now) (are_units c.in-Some.rest.now) 9 _
    (text_word c.args.word.now c.in-Some.rest.now
    (begins c.args.word.now c.as_bytes.result.now c.in-Some.rest.now c.in-Some.first.now 39
    c.as_bytes.ensures.value c.in-Some.ensures.cases.0 c.if-first-eq39.true))
    c.in_err-text.ensures)

pub returns-then-first-eq39 : goal.returns-then-first-eq39
returns-then-first-eq39 c =
    text_read c.args.word.now c.in-Some.rest.now c.in_ok-text.text
    (begins c.args.word.now c.as_bytes.result.now c.in-Some.rest.now c.in-Some.first.now 39
    c.as_bytes.ensures.value c.in-Some.ensures.cases.0 c.if-first-eq39.true)
    c.in_ok-text.ensures.0 c.in_ok-text.ensures.1

pub returns : goal.returns
returns c =
    other_read c.args.word.now c.in-Some.rest.now c.in-Some.first.now c.read_named.result
    (sym c.as_bytes.ensures.value ∙ c.in-Some.ensures.cases.0) c.if-first-eq61.false
    c.if-first-eq39.false c.read_named.ensures
