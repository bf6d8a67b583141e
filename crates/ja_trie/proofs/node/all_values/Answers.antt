use Rattle.std.proofs.Common.{arith, ◌<◌, true, false, get_or, map, refl, sym, ◌∙◌, below_more}
use Rattle.std.proofs.lemmas.Bool.{true≢false}
use Rattle.std.proofs.lemmas.Fn.{says_at_two}
use Rattle.std.proofs.lemmas.List.{get_or-map, length-map}
use Rattle.ja_trie.specs.Test.{MaySay}
use Rattle.ja_trie.proofs.Tested.{said_of}
use Rattle.ja_trie.proofs.node.all_values.Goals as goal

pub returns-then-not-test : goal.returns-then-not-test
returns-then-not-test g c =
    let i = c.loop-i.i in
    let below : i < 8 = omega (arith, c.loop-i-test.true, c.min-i-end.ensures) in
    record {
      held = λ wrong. absurd (true≢false (sym wrong));
      failed = λ _. (
        i,
        omega (arith, c.loop-i-test.true, c.min-i-end.ensures),
        omega (arith, length-map c.args.values.now (λ x. x.value), c.type_inv.values, below),
        λ d. said_of (MaySay g.F.Fn c.args.test.now) _ _ _ _ false
            (c.deref.ensures ∙ sym (get_or-map (λ x. x.value) c.args.values.now i
            c.index-values-i.result d (omega (arith, c.type_inv.values, below))))
            (c.deref-in-loop-i.ensures ∙ sym (get_or-map (λ x. x.value) c.args.others.now i
            c.index-others-i.result d (omega (arith, c.type_inv.others, below))))
            (says_at_two g.F.Fn c.if-not-test.ensures refl),
      );
    }

pub loop-i-preserved : goal.loop-i-preserved
loop-i-preserved g c =
    let i = c.loop-i.i in
    let below : i < 8 = omega (arith, c.loop-i-test.true, c.min-i-end.ensures) in
    below_more (λ k. (d : _) → MaySay g.F.Fn c.args.test.now
    (get_or (map (λ x. x.value) c.args.values.now) k d)
    (get_or (map (λ x. x.value) c.args.others.now) k d) true) i c.loop-i.invariant
    (λ d. said_of (MaySay g.F.Fn c.args.test.now) _ _ _ _ true
    (c.deref.ensures ∙ sym (get_or-map (λ x. x.value) c.args.values.now i
    c.index-values-i.result d (omega (arith, c.type_inv.values, below))))
    (c.deref-in-loop-i.ensures ∙ sym (get_or-map (λ x. x.value) c.args.others.now i
    c.index-others-i.result d (omega (arith, c.type_inv.others, below))))
    (says_at_two g.F.Fn c.if-not-test.ensures refl))

pub returns : goal.returns
returns g c = record {
  held = λ _ k within inside d. c.loop-i.invariant k
      (omega (
        arith,
        c.loop-i-test.false,
        c.loop-i.auto.i-end,
        c.min-i-end.ensures,
        c.type_inv.values,
        length-map c.args.values.now (λ x. x.value),
      )) d;
  failed = λ wrong. absurd (true≢false wrong);
}
