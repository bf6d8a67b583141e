use Rattle.std.proofs.Common.{◌∙◌}
use Rattle.std.proofs.lemmas.Result.{err_from_is_err_and}
use Rattle.ja_cert_json.specs.View.{view}
use Rattle.ja_value.specs.Value.{property_of}
use Rattle.ja_cert_parts.proofs.ListedLemmas.{entry_is, entry_written}
use Rattle.ja_cert_parts.proofs.listed.EntryAtMemberInProgram.read.Goals as goal

pub returns-in_err-read : goal.returns-in_err-read
returns-in_err-read c =
    let p = err_from_is_err_and c.from_residual.result
    c.from_residual.ensures.1 in
    let is = entry_is c.args.rule.now.program.now c.args.before.now (view c.args.value.now)
    c.last_entry.result c.last_entry.ensures in
    rw (p.1, p.2, is) c.in_err-read.ensures

pub returns : goal.returns
returns c =
    let is = entry_is c.args.rule.now.program.now c.args.before.now (view c.args.value.now)
    c.last_entry.result c.last_entry.ensures in
    let read = c.in_ok-read.read in (
      rw is c.in_ok-read.ensures.0,
      (
        entry_written c.args.rule.now.program.now read.label read.key (property_of read.property)
            ∙ c.in_ok-read.ensures.1.0,
        c.in_ok-read.ensures.1.1,
      ),
    )
