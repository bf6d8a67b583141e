use Rattle.std.proofs.Common.{ℕ, ◌<◌, sym, ◌∙◌, subst}
use Rattle.std.proofs.lemmas.Result.{err_from_is_err_and}
use Rattle.ja_cert_json.specs.View.{view}
use Rattle.ja_abstract.specs.declared.abstraction.Key.TheVariants as key
use Rattle.ja_cert.specs.Wrong.{here_unless, is_below}
use Rattle.ja_cert_parts.specs.code.Reading.{Tells}
use Rattle.ja_cert_parts.proofs.KeyLemmas.{key_of_data, name_read, name_told, word_read, word_told, word_within}
use Rattle.ja_cert_parts.proofs.numbers.read_key.Goals as goal

pub returns-in_err-name : goal.returns-in_err-name
returns-in_err-name c =
    let p = err_from_is_err_and c.from_residual.result c.from_residual.ensures.1 in
    let P : ℕ → Type 0 =
    λ n. Tells (here_unless (is_below n (view c.args.value.now))) c.in_err-name.field-0.0 in
    rw (p.1, p.2)
    (name_told c.args.program.now (view c.args.value.now) c.in_err-name.field-0.0
    (sym c.is_u64.ensures ∙ c.if-is_u64.true) (subst P c.len.ensures c.in_err-name.ensures))

pub returns-then-is_u64 : goal.returns-then-is_u64
returns-then-is_u64 c =
    let read = c.in_ok-name.ensures.1 in
    let P : ℕ → Type 0 = λ n. c.in_ok-name.name < n in (
      name_read c.args.program.now (view c.args.value.now) c.in_ok-name.name
          (sym c.is_u64.ensures ∙ c.if-is_u64.true) read.0 (subst P c.len.ensures read.1),
      (
        read.0,
        key_of_data c.args.program.now (key.Name (record { 0 = c.in_ok-name.name }))
            (view c.args.value.now) read.0,
      ),
    )

pub returns-in_err-place : goal.returns-in_err-place
returns-in_err-place c =
    let p = err_from_is_err_and c.from_residual-in_err-place.result
    c.from_residual-in_err-place.ensures.1 in
    rw (p.1, p.2)
    (word_told c.args.program.now (view c.args.value.now) c.in_err-place.field-0.0
    (sym c.is_u64.ensures ∙ c.if-is_u64.false) c.in_err-place.ensures)

pub key_at-requires : goal.key_at-requires
key_at-requires c = word_within (view c.args.value.now) c.in_ok-place.place c.in_ok-place.ensures.1

pub returns : goal.returns
returns c =
    word_read c.args.program.now (view c.args.value.now) c.in_ok-place.place c.key_at.result
    (sym c.is_u64.ensures ∙ c.if-is_u64.false) c.in_ok-place.ensures.1 c.key_at.ensures.word
