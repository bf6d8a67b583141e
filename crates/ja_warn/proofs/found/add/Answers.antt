use Rattle.std.proofs.Common.{◌≡◌, rules, sym, ◌∙◌, ap, subst}
use Rattle.std.specs.Option.{option_map, option_copied_mut}
use Rattle.std.proofs.lemmas.Result.{IfOk-weaker}
use Rattle.ja_value.specs.Value.{value_of}
use Rattle.ja_warn.specs.code.Faults.{Finding, Spot, finding, finding_of, found_at, merged, with_reached}
use Rattle.ja_warn.proofs.Held.{held_added}
use Rattle.ja_warn.proofs.found.add.Goals as goal

pub returns-in-Some : goal.returns-in-Some
returns-in-Some c =
    let o : Finding =
    finding_of c.args.warning c.args.fault (value_of c.args.value.now) (value_of c.args.name.now) in
    let found = ap (option_map finding)
    (sym c.get_mut.ensures.value ∙ ap option_copied_mut c.in-Some.is) in
    IfOk-weaker c.merge.result _ _ (λ _ joined. held_added c.args.found.now
    (c.get_mut.follows.lender c.merge.new.self) c.spot_of-spot.result o c.merge.new.self
    c.spot_of-spot.ensures ((c.get_mut.follows.holds c.merge.new.self).3 (search rules))
    (joined ∙ ap (λ q. merged q o) (sym found))) c.merge.ensures

pub returns-in_ok-insert-in-None : goal.returns-in_ok-insert-in-None
returns-in_ok-insert-in-None c =
    let o : Finding =
    finding_of c.args.warning c.args.fault (value_of c.args.value.now) (value_of c.args.name.now) in
    let s = c.spot_of-spot.result in
    let same = c.get_mut.follows.holds-at-none in
    let none = ap (λ m. found_at m s) same ∙ ap (option_map finding)
    (sym c.get_mut.ensures.value ∙ ap option_copied_mut c.in-None.is) in
    subst (λ m. (k : Spot) → found_at c.insert.new.self k ≡ with_reached k (found_at m k) o) same
    (held_added c.get_mut.follows.lender-at-none c.insert.new.self s o _ c.spot_of-spot.ensures
    c.in_ok-insert-in-None.ensures.updates
    ((λ j. record {
      warning = c.args.warning;
      fault = c.args.fault;
      value = c.in_ok-value-in-None.ensures j;
      name = c.in_ok-name-in-None.ensures j;
    }) ∙ ap (λ q. merged q o) (sym none)))
