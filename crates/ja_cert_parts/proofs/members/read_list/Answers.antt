use Rattle.std.proofs.Common.{[], ◌∷◌, map, length, ap, sym, subst, ◌∙◌, arith}
use Rattle.std.specs.List.{AllByRecursion}
use Rattle.std.proofs.lemmas.List.{length-map}
use Rattle.std.proofs.lemmas.Result.{err_from_is_err_and}
use Rattle.ja_cert_json.specs.View.{view}
use Rattle.ja_base.proofs.Lists.{all_append}
use Rattle.ja_cert.specs.Wrong.{list_of, members_wrong}
use Rattle.ja_cert_parts.proofs.FaultLemmas.{passes, read_ok, tells_if}
use Rattle.ja_cert_parts.proofs.ListLemmas.{read_more, read_none, wrong_in_list}
use Rattle.ja_cert_parts.proofs.members.read_list.Goals as goal

pub returns-in_err-item-items : goal.returns-in_err-item-items
returns-in_err-item-items g c =
    let p = err_from_is_err_and c.from_residual.result c.from_residual.ensures.1 in
    rw (p.1, p.2)
    (tells_if (list_of (view c.args.value.now))
    (members_wrong (g.M.Member.wrong c.args.rule.now) []) _ c.in_err-item-items.ensures)

pub loop-item-init : goal.loop-item-init
loop-item-init g c = (
  read_none (g.M.Member.wrong c.args.rule.now) (g.M.Member.«data» c.args.rule.now)
      c.new-members.result.items c.new-members.ensures.items,
  subst (AllByRecursion (g.M.Member.holds c.args.rule.now)) (sym c.new-members.ensures.items) tt,
)

pub returns-in_err-member : goal.returns-in_err-member
returns-in_err-member g c =
    let p = err_from_is_err_and c.from_residual-in_err-member.result
    c.from_residual-in_err-member.ensures.1 in
    let wrong = g.M.Member.wrong c.args.rule.now in
    let written = g.M.Member.«data» c.args.rule.now in
    let front = map written c.deref.result.now in
    let before = c.deref.ensures.value in
    let told = c.in_err-member.ensures.told (wrong front (view c.item-item.result))
    (passes (wrong front (view c.item-item.result)) _ c.read.result c.read.ensures) in
    rw (p.1, p.2)
    (wrong_in_list wrong view (view c.args.value.now) c.in_ok-item-items.item-items.now front
    c.loop-item.item-index c.len.result c.item-item.result _ c.in_ok-item-items.ensures.1.0
    c.loop-item-test.true c.item-item.is (ap (map written) before ∙ c.loop-item.invariant.0.0)
    (ap (λ ms. members_wrong wrong [] (map written ms)) before ∙ c.loop-item.invariant.0.1)
    (omega (
      arith,
      c.len.ensures,
      c.loop-item.members.ok.0,
      length-map c.deref.result.now written,
      ap length before,
    ))
    told)

pub loop-item-preserved : goal.loop-item-preserved
loop-item-preserved g c =
    let wrong = g.M.Member.wrong c.args.rule.now in
    let written = g.M.Member.«data» c.args.rule.now in
    let before = c.deref.ensures.value in
    let read = read_ok (wrong (map written c.deref.result.now) (view c.item-item.result)) _
    c.read.result c.in_ok-member.member c.in_ok-member.ensures.same c.read.ensures in
    let Held = g.M.Member.holds c.args.rule.now in (
      read_more wrong view written c.in_ok-item-items.item-items.now c.loop-item.members.items
          c.push.new.self.items c.in_ok-member.member c.loop-item.item-index c.item-item.result
          c.loop-item-test.true c.item-item.is c.loop-item.invariant.0 c.in_ok-push.ensures.items
          (ap (λ ms. wrong (map written ms) (view c.item-item.result)) (sym before) ∙ read.0)
          read.1.0,
      subst (AllByRecursion Held) (sym c.in_ok-push.ensures.items)
          (all_append Held c.loop-item.members.items (c.in_ok-member.member ∷ [])
          c.loop-item.invariant.1 (read.1.1, tt)),
    )
