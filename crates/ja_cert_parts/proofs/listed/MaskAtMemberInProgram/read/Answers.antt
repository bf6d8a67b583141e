use Rattle.std.proofs.lemmas.Result.{err_from_is_err_and}
use Rattle.ja_cert_json.specs.View.{view}
use Rattle.ja_cert.specs.Wrong.{mask_wrong}
use Rattle.ja_cert_parts.proofs.FaultLemmas.{passes, read_ok, tells_first}
use Rattle.ja_cert_parts.proofs.ListLemmas.{told_fields}
use Rattle.ja_cert_parts.proofs.ListedLemmas.{mask_above, mask_is, mask_not_two, mask_written}
use Rattle.ja_cert_parts.proofs.listed.MaskAtMemberInProgram.read.Goals as goal

pub returns-in_err-fields : goal.returns-in_err-fields
unfolding mask_wrong
returns-in_err-fields c =
    let p = err_from_is_err_and c.from_residual.result
    c.from_residual.ensures.1 in
    rw (p.1, p.2)
    (told_fields 2 _ (view c.args.value.now) _ (mask_not_two c.args.rule.now.program.now _)
    c.in_err-fields.ensures)

pub returns-in_err-site : goal.returns-in_err-site
returns-in_err-site c =
    let p = err_from_is_err_and c.from_residual-in_err-site.result
    c.from_residual-in_err-site.ensures.1 in
    let is = c.in_ok-fields.ensures.1 in
    let told = c.in_err-site.ensures.told _ (passes _ _ _ c.read_site.ensures) in
    rw (p.1, p.2, mask_is _ _ _ _ _ is) (tells_first _ _ _ told)

pub returns-in_err-here_unless : goal.returns-in_err-here_unless
returns-in_err-here_unless c =
    let p = err_from_is_err_and c.from_residual-in_err-here_unless.result
    c.from_residual-in_err-here_unless.ensures.1 in
    let is = c.in_ok-fields.ensures.1 in
    let site = read_ok _ _ _ _ c.in_ok-site.ensures.same c.read_site.ensures in
    let above = mask_above c.args.rule.now.program.now c.args.before.now _ _ _ c.in_ok-site.site _
    is site.1.0 c.is_site_behind.ensures in
    rw (p.1, p.2, mask_is _ _ _ _ _ is, site.0, above)
    (tells_first _ _ _ c.in_err-here_unless.ensures)

pub returns-in_err-mask : goal.returns-in_err-mask
returns-in_err-mask c =
    let p = err_from_is_err_and c.from_residual-in_err-mask.result
    c.from_residual-in_err-mask.ensures.1 in
    let is = c.in_ok-fields.ensures.1 in
    let site = read_ok _ _ _ _ c.in_ok-site.ensures.same c.read_site.ensures in
    let above = mask_above c.args.rule.now.program.now c.args.before.now _ _ _ c.in_ok-site.site _
    is site.1.0 c.is_site_behind.ensures in
    let told = c.in_err-mask.ensures.told _ (passes _ _ _ c.read_mask.ensures) in
    rw (p.1, p.2, mask_is _ _ _ _ _ is, site.0, above, c.in_ok-here_unless.ensures.0)
    (tells_first _ _ _ told)

pub returns : goal.returns
returns c =
    let is = c.in_ok-fields.ensures.1 in
    let site = read_ok _ _ _ _ c.in_ok-site.ensures.same c.read_site.ensures in
    let above = mask_above c.args.rule.now.program.now c.args.before.now _ _ _ c.in_ok-site.site _
    is site.1.0 c.is_site_behind.ensures in
    let mask = read_ok _ _ _ _ c.in_ok-mask.ensures.same c.read_mask.ensures in (
      rw (mask_is _ _ _ _ _ is, site.0, above, c.in_ok-here_unless.ensures.0, mask.0),
      (
        mask_written c.args.rule.now.program.now (view c.args.value.now) _ _ c.in_ok-site.site
            c.in_ok-mask.mask is site.1.0 mask.1,
        tt,
      ),
    )
