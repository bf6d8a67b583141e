use Rattle.std.proofs.Common.{Some, map, refl, subst}
use Rattle.std.specs.String.{string_bytes}
use Rattle.ja_gen.specs.Generated.{generated_text}
use Rattle.ja_words.specs.Words.{AsksFor, IsCommandLine}
use Rattle.ja_words.specs.declared.command.Command.TheVariants as command
use Rattle.ja_top.proofs.Judging.{all_ok}
use Rattle.ja_top.proofs.Reporting.{answers}
use Rattle.ja_top.proofs.Transcripts.{follows}
use Rattle.ja_top.proofs.top.answer.Goals as goal

pub returns-in-Some-Generate-clause-cause : goal.returns-in-Some-Generate-clause-cause
returns-in-Some-Generate-clause-cause g c =
    let number = c.in-Some-Generate.number in
    let words = map string_bytes c.args.words.now in
    let asks : IsCommandLine words (command.Generate number) =
    subst (IsCommandLine words) c.in-Some-Generate.field-0-is
    (subst (AsksFor words) c.in-Some-Generate.is c.in_ok-number.ensures) in
    all_ok _ _ c.summarise.result (λ a h. answers _ (generated_text number)
    (command.Generate number) a.status a.text.items asks (refl, refl) (h, refl))
    c.summarise.ensures

pub returns-in-Some-clause-memory : goal.returns-in-Some-clause-memory
returns-in-Some-clause-memory g c =
    let asks : AsksFor (map string_bytes c.args.words.now) (Some c.in-Some.command) =
    subst (AsksFor (map string_bytes c.args.words.now)) c.in-Some.is c.in_ok-number.ensures in
    follows _ _ c.answer_of.result (λ h. h c.args.words.now asks) c.answer_of.ensures.memory

pub returns-in-Some-clause-taken : goal.returns-in-Some-clause-taken
returns-in-Some-clause-taken g c =
    let asks : AsksFor (map string_bytes c.args.words.now) (Some c.in-Some.command) =
    subst (AsksFor (map string_bytes c.args.words.now)) c.in-Some.is c.in_ok-number.ensures in
    c.answer_of.ensures.taken c.args.words.now asks
