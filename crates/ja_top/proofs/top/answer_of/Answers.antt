use Rattle.std.proofs.Common.{subst, ℕ, List}
use Rattle.ja_top.specs.Answers.{Follows}
use Rattle.ja_top.proofs.Reporting.{answers, given}
use Rattle.ja_top.proofs.top.answer_of.Goals as goal

pub returns-in_ok-answer-in-Ok-clause-cause : goal.returns-in_ok-answer-in-Ok-clause-cause
returns-in_ok-answer-in-Ok-clause-cause g c = λ words asks.
    let status = c.in_ok-answer-in-Ok.answer.status in
    let text = c.in_ok-answer-in-Ok.answer.text.items in
    let before = c.args.devices.now in
    let after = c.follow.new.devices in
    let A : List ℕ → Type 0 = λ b. Follows c.args.command b before after status text in
    let follows = subst A c.deref.ensures.value c.in_ok-answer-in-Ok.ensures.answer in
    answers _ c.in-Ok.bytes.items c.args.command status text asks
    (given _ c.in-Ok.bytes.items c.args.command c.requires (record {
      took = c.in-Ok.ensures.whole;
      end = c.in-Ok.ensures.end;
      within = c.in-Ok.ensures.within;
    })) follows
