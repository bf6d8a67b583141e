use Rattle.std.proofs.lemmas.Result.{err_from_is_err_and}
use Rattle.ja_cert_json.specs.View.{view}
use Rattle.ja_value.specs.Value.{property_of}
use Rattle.ja_cert.specs.Wrong.{owned_wrong}
use Rattle.ja_cert_parts.proofs.FaultLemmas.{passes, read_ok, tells_first}
use Rattle.ja_cert_parts.proofs.ListLemmas.{told_fields}
use Rattle.ja_cert_parts.proofs.ListedLemmas.{not_four, owned_is, pair_is, property_written}
use Rattle.ja_cert_parts.proofs.listed.read_owned.Goals as goal

pub returns-in_err-fields : goal.returns-in_err-fields
unfolding owned_wrong
returns-in_err-fields c =
    let p = err_from_is_err_and c.from_residual.result
    c.from_residual.ensures.1 in
    rw (p.1, p.2)
    (told_fields 4 _ (view c.args.value.now) _ (not_four c.args.rule.now.program.now _ _)
    c.in_err-fields.ensures)

pub returns-in_err-label : goal.returns-in_err-label
returns-in_err-label c =
    let p = err_from_is_err_and c.from_residual-in_err-label.result
    c.from_residual-in_err-label.ensures.1 in
    let is = c.in_ok-fields.ensures.1 in
    let told = c.in_err-label.ensures.told _ (passes _ _ _ c.read_label.ensures) in
    rw (p.1, p.2, owned_is _ _ _ _ _ _ _ _ is) (tells_first _ _ _ told)

pub returns-in_err-key : goal.returns-in_err-key
returns-in_err-key c =
    let p = err_from_is_err_and c.from_residual-in_err-key.result
    c.from_residual-in_err-key.ensures.1 in
    let is = c.in_ok-fields.ensures.1 in
    let label = read_ok _ _ _ _ c.in_ok-label.ensures.same c.read_label.ensures in
    let told = c.in_err-key.ensures.told _ (passes _ _ _ c.read_key.ensures) in
    rw (p.1, p.2, owned_is _ _ _ _ _ _ _ _ is, label.0) (tells_first _ _ _ told)

pub returns-in_err-here_unless : goal.returns-in_err-here_unless
returns-in_err-here_unless c =
    let p = err_from_is_err_and c.from_residual-in_err-here_unless.result
    c.from_residual-in_err-here_unless.ensures.1 in
    let is = c.in_ok-fields.ensures.1 in
    let label = read_ok _ _ _ _ c.in_ok-label.ensures.same c.read_label.ensures in
    let key = read_ok _ _ _ _ c.in_ok-key.ensures.same c.read_key.ensures in
    let pair = pair_is c.args.rule.now.program.now (view c.args.value.now) _ _ _ _
    c.in_ok-label.label c.in_ok-key.key is label.1.0 key.1.1 in
    rw (p.1, p.2, owned_is _ _ _ _ _ _ _ _ is, label.0, key.0, pair, ← c.is_behind.ensures)
    (tells_first _ _ _ c.in_err-here_unless.ensures)

pub returns-in_err-value : goal.returns-in_err-value
returns-in_err-value c =
    let p = err_from_is_err_and c.from_residual-in_err-value.result
    c.from_residual-in_err-value.ensures.1 in
    let is = c.in_ok-fields.ensures.1 in
    let label = read_ok _ _ _ _ c.in_ok-label.ensures.same c.read_label.ensures in
    let key = read_ok _ _ _ _ c.in_ok-key.ensures.same c.read_key.ensures in
    let pair = pair_is c.args.rule.now.program.now (view c.args.value.now) _ _ _ _
    c.in_ok-label.label c.in_ok-key.key is label.1.0 key.1.1 in
    let told = c.in_err-value.ensures.told _ (passes _ _ _ c.read_value.ensures) in
    rw (
      p.1,
      p.2,
      owned_is _ _ _ _ _ _ _ _ is,
      label.0,
      key.0,
      pair,
      ← c.is_behind.ensures,
      c.in_ok-here_unless.ensures.0,
    ) (tells_first _ _ _ told)

pub returns-in_err-attrs : goal.returns-in_err-attrs
returns-in_err-attrs c =
    let p = err_from_is_err_and c.from_residual-in_err-attrs.result
    c.from_residual-in_err-attrs.ensures.1 in
    let is = c.in_ok-fields.ensures.1 in
    let label = read_ok _ _ _ _ c.in_ok-label.ensures.same c.read_label.ensures in
    let key = read_ok _ _ _ _ c.in_ok-key.ensures.same c.read_key.ensures in
    let pair = pair_is c.args.rule.now.program.now (view c.args.value.now) _ _ _ _
    c.in_ok-label.label c.in_ok-key.key is label.1.0 key.1.1 in
    let value = read_ok _ _ _ _ c.in_ok-value.ensures.same c.read_value.ensures in
    let told = c.in_err-attrs.ensures.told _ (passes _ _ _ c.read_attrs.ensures) in
    rw (
      p.1,
      p.2,
      owned_is _ _ _ _ _ _ _ _ is,
      label.0,
      key.0,
      pair,
      ← c.is_behind.ensures,
      c.in_ok-here_unless.ensures.0,
      value.0,
      ← key.1.0,
    ) (tells_first _ _ _ told)

pub returns : goal.returns
returns c =
    let is = c.in_ok-fields.ensures.1 in
    let label = read_ok _ _ _ _ c.in_ok-label.ensures.same c.read_label.ensures in
    let key = read_ok _ _ _ _ c.in_ok-key.ensures.same c.read_key.ensures in
    let pair = pair_is c.args.rule.now.program.now (view c.args.value.now) _ _ _ _
    c.in_ok-label.label c.in_ok-key.key is label.1.0 key.1.1 in
    let value = read_ok _ _ _ _ c.in_ok-value.ensures.same c.read_value.ensures in
    let attrs = read_ok _ _ _ _ c.in_ok-attrs.ensures.same c.read_attrs.ensures in (
      rw (
        owned_is _ _ _ _ _ _ _ _ is,
        label.0,
        key.0,
        pair,
        ← c.is_behind.ensures,
        c.in_ok-here_unless.ensures.0,
        value.0,
        ← key.1.0,
        attrs.0,
      ),
      (
        property_written c.args.rule.now.program.now (view c.args.value.now) _ _ _ _
            c.in_ok-label.label c.in_ok-key.key
            (property_of (record { value = c.in_ok-value.value; attrs = c.in_ok-attrs.attrs })) is
            label.1.0 key.1.0 value.1.0 attrs.1.0,
        record { labels = value.1.1; attrs = attrs.1.1 },
      ),
    )
