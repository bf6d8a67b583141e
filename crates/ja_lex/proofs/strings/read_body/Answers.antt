use Rattle.std.proofs.Common.{◌≡◌, ◌-◌, max, true, false, length, get_or, drop, length-drop, sym, ◌∙◌, ap, arith}
use Rattle.std.proofs.lemmas.List.{get_or_read}
use Rattle.std.specs.Option.{option_map}
use Rattle.ja_lex.specs.Strings.{body_after, first_item, item_length, is_wrong, before}
use Rattle.ja_lex.proofs.Bodies.{prefixed, prefixed_map, closed_at, body_end, body_closed, body_wrong, body_next}
use Rattle.ja_lex.proofs.strings.read_body.Goals as goal

pub returns-then-first-quote-clause-value : goal.returns-then-first-quote-clause-value
returns-then-first-quote-clause-value c =
    let e : get_or c.items.rest.now 0 0 ≡ c.args.quote = sym
    (get_or_read c.items.rest.now _ _ (omega arith) c.first-item.is 0)
    ∙ c.if-first-quote.true in
    rw c.from_vec.ensures (closed_at c.items.units.items c.items.octal c.items.count
    ∙ sym (ap (option_map (prefixed c.items.units.items c.items.octal c.items.count))
    (body_closed c.args.quote c.items.rest.now c.in-len1-up.len_at_least e))
    ∙ c.items.invariant.same)

pub returns-then-is_wrong-clause-value : goal.returns-then-is_wrong-clause-value
returns-then-is_wrong-clause-value c =
    let wrong : is_wrong (first_item c.items.rest.now)
    ≡ true = ap is_wrong (sym c.first_item-item.ensures.value) ∙ sym c.if-is_wrong.ensures in
    sym (ap (option_map (prefixed c.items.units.items c.items.octal c.items.count))
    (body_wrong c.args.quote c.items.rest.now c.in-len1-up.len_at_least
    (λ e. c.if-first-quote.false (get_or_read c.items.rest.now _ _ (omega arith) c.first-item.is
    0 ∙ e)) wrong)) ∙ c.items.invariant.same

pub items-preserved : goal.items-preserved
items-preserved c =
    let i : c.first_item-item.result ≡ first_item
    c.items.rest.now = c.first_item-item.ensures.value in
    let right : is_wrong c.first_item-item.result ≡ false = sym c.if-is_wrong.ensures in
    let next : body_after c.args.quote 0 c.items.rest.now
    ≡ option_map (before c.first_item-item.result)
    (body_after c.args.quote 0 (drop (max (item_length c.first_item-item.result) 1)
    c.items.rest.now)) =
    rw i (body_next c.args.quote c.items.rest.now c.in-len1-up.len_at_least
    (λ e. c.if-first-quote.false (get_or_read c.items.rest.now _ _ (omega arith) c.first-item.is
    0 ∙ e)) (ap is_wrong (sym i) ∙ right)) in
    let n : c.max.result ≡ max (item_length c.first_item-item.result) 1 = c.max.ensures
    ∙ ap (λ x. max x 1) c.item_length-length.ensures in
    let shorter : length c.behind-rest.result.now
    ≡ length c.items.rest.now - c.max.result = ap length c.behind-rest.ensures.value
    ∙ length-drop c.max.result c.items.rest.now in
    record {
      same =
          rw (
            c.in_ok-push_item.ensures,
            c.is_octal_item-octal.ensures,
            c.item_length-length.ensures,
            c.behind-rest.ensures.value,
            n,
          )
          (sym (prefixed_map c.items.units.items c.items.octal c.items.count
          c.first_item-item.result (body_after c.args.quote 0
          (drop (max (item_length c.first_item-item.result) 1) c.items.rest.now)))
          ∙ ap (option_map (prefixed c.items.units.items c.items.octal c.items.count)) (sym next)
          ∙ c.items.invariant.same);
      within = omega arith;
    }

pub returns-clause-value : goal.returns-clause-value
returns-clause-value c =
    sym (ap (option_map (prefixed c.items.units.items c.items.octal c.items.count))
    (body_end c.args.quote c.items.rest.now c.in_default.len_below)) ∙ c.items.invariant.same
