use Rattle.std.proofs.Common.{rules, arith, ◌≡◌, ◌/◌, ◌<◌, ◌+◌, ◌*◌, true, false, length, get_or, refl, sym, ap, ◌∙◌}
use Rattle.std.proofs.lemmas.Bool.{true≢false}
use Rattle.std.proofs.lemmas.Fn.{says_at_two}
use Rattle.std.proofs.lemmas.List.{get_or_default}
use Rattle.ja_trie.specs.code.Node.{places}
use Rattle.ja_trie.specs.Test.{MaySay}
use Rattle.ja_trie.proofs.Levels.{below, mixed, first_node, first_value}
use Rattle.ja_trie.proofs.Tested.{said_of, said_at, said_copies, said_each, held_none, held_more, held_all, failed_at}
use Rattle.ja_trie.proofs.node.Node.+all_with.Goals.{in_default-via-in-Values+in_default, in_default-via-in-Nodes+in_default}
use Rattle.ja_trie.proofs.node.Node.+all_with.Goals as goal

pub returns-then-count-eq0 : goal.returns-then-count-eq0
returns-then-count-eq0 g t c = record {
  held = λ _ k within inside d. absurd (omega (arith, c.if-count-eq0.true));
  failed = λ wrong. absurd (true≢false wrong);
}

pub unreachable-requires : goal.unreachable-requires
unreachable-requires g t c =
    elim c.in_default.branch [
      | in_default-via-in-Values+in_default w ↦
          mixed _ _ _ _ _ _ w.in_default.is-0 w.in_default.is-1 c.self.invariant.0
          c.other.invariant.0
          c.self.view_is c.other.view_is (sym c.requires.same)
      | in_default-via-in-Nodes+in_default w ↦
          mixed _ _ _ _ _ _ w.in_default.is-1 w.in_default.is-0 c.other.invariant.0
          c.self.invariant.0
          c.other.view_is c.self.view_is c.requires.same
    ]

pub returns-then-other : goal.returns-then-other
returns-then-other g t c =
    said_each (MaySay g.F.Fn c.args.test.now) c.args.count _ _ _ _ _
    (first_value c.self.inside.kids c.in-Values-Values.values c.args.self.now
    c.index-values-0.result c.in-Values-Values.is-0 c.self.view_is
    (c.self.invariant.1 c.if-self.true))
    (first_value c.other.inside.kids c.in-Values-Values.others c.args.other.now
    c.index-others-0.result c.in-Values-Values.is-1 c.other.view_is
    (c.other.invariant.1 c.if-other.true))
    (omega (arith, c.if-count-eq0.false))
    (said_of (MaySay g.F.Fn c.args.test.now) _ _ _ _ _ c.deref.ensures c.deref-then-other.ensures
    (says_at_two g.F.Fn c.test.ensures refl))

pub all_with-requires : goal.all_with-requires
all_with-requires g t c κs within =
    let a = first_node c.self.inside.kids c.in-Nodes-Nodes.nodes c.args.width c.args.self.now
    c.index-nodes-0.result c.in-Nodes-Nodes.is-0 c.self.invariant.0 c.self.view_is
    c.requires.level (c.self.invariant.1 c.if-self-2.true) in
    let b = first_node c.other.inside.kids c.in-Nodes-Nodes.others c.args.width c.args.other.now
    c.index-others-0-then-other-2.result c.in-Nodes-Nodes.is-1 c.other.invariant.0
    c.other.view_is (c.requires.same ∙ c.requires.level) (c.other.invariant.1 c.if-other-2.true) in
    let first : length c.deref-then-other-2.result.now ≡ c.args.width =
    ap length c.deref-then-other-2.ensures ∙ a.long in
    let second : length c.deref-then-other-2-2.result.now ≡ c.args.width =
    ap length c.deref-then-other-2-2.ensures ∙ b.long in
    search (rules, a.less, a.next, first, second)

pub returns-then-other-2 : goal.returns-then-other-2
returns-then-other-2 g t c =
    let a = first_node c.self.inside.kids c.in-Nodes-Nodes.nodes c.args.width c.args.self.now
    c.index-nodes-0.result c.in-Nodes-Nodes.is-0 c.self.invariant.0 c.self.view_is
    c.requires.level (c.self.invariant.1 c.if-self-2.true) in
    let b = first_node c.other.inside.kids c.in-Nodes-Nodes.others c.args.width c.args.other.now
    c.index-others-0-then-other-2.result c.in-Nodes-Nodes.is-1 c.other.invariant.0
    c.other.view_is (c.requires.same ∙ c.requires.level) (c.other.invariant.1 c.if-other-2.true) in
    said_at (MaySay g.F.Fn c.args.test.now) c.args.count _ _ _ _ _ _ a.whole b.whole refl
    (said_copies (MaySay g.F.Fn c.args.test.now)
    (get_or c.in-Nodes-Nodes.nodes 0 c.index-nodes-0.result)
    (get_or c.in-Nodes-Nodes.others 0 c.index-others-0-then-other-2.result)
    (λ n. n.value) c.args.width c.args.count _ a.long b.long a.wide
    (said_at (MaySay g.F.Fn c.args.test.now) c.args.count _ _ _ _ _ _
    c.deref-then-other-2.ensures c.deref-then-other-2-2.ensures refl c.all_with.ensures))

pub all_with-requires-in-loop-i : goal.all_with-requires-in-loop-i
all_with-requires-in-loop-i g t c κs within =
    let a = below c.self.inside.kids c.in-Nodes-Nodes.nodes c.args.width c.args.self.now
    c.in-Nodes-Nodes.is-0 c.self.invariant.0 c.self.view_is c.requires.level in
    let b = below c.other.inside.kids c.in-Nodes-Nodes.others c.args.width c.args.other.now
    c.in-Nodes-Nodes.is-1 c.other.invariant.0 c.other.view_is
    (c.requires.same ∙ c.requires.level) in
    let first : length c.deref-in-loop-i.result.now ≡ c.args.width = ap length
    c.deref-in-loop-i.ensures
    ∙ a.3 c.loop-i.i _ (omega (arith, a.2, c.loop-i-test.true)) in
    let second : length c.deref-in-loop-i-2.result.now ≡ c.args.width =
    ap length c.deref-in-loop-i-2.ensures
    ∙ b.3 c.loop-i.i _ (omega (arith, b.2, c.loop-i-test.true)) in
    let next : 8 * (c.args.width / 8) ≡ c.args.width = a.1 in
    let less : c.args.width / 8 < c.args.width = omega (arith, a.0, a.1) in
    search (rules, less, next, first, second)

pub returns-then-not-all_with : goal.returns-then-not-all_with
returns-then-not-all_with g t c =
    let a = below c.self.inside.kids c.in-Nodes-Nodes.nodes c.args.width c.args.self.now
    c.in-Nodes-Nodes.is-0 c.self.invariant.0 c.self.view_is c.requires.level in
    let b = below c.other.inside.kids c.in-Nodes-Nodes.others c.args.width c.args.other.now
    c.in-Nodes-Nodes.is-1 c.other.invariant.0 c.other.view_is
    (c.requires.same ∙ c.requires.level) in
    let d = c.index-nodes-i.result in
    let second = c.deref-in-loop-i-2.ensures ∙ ap (λ n. n.value)
    (get_or_default c.in-Nodes-Nodes.others c.loop-i.i c.index-others-i.result d
    (omega (arith, b.2, c.loop-i-test.true))) in
    said_at (MaySay g.F.Fn c.args.test.now) c.args.count _ _ _ _ false false
    (ap places (sym c.in-Nodes-Nodes.is-0) ∙ c.self.view_is)
    (ap places (sym c.in-Nodes-Nodes.is-1) ∙ c.other.view_is) refl
    (failed_at (MaySay g.F.Fn c.args.test.now) (λ n. n.value) c.args.width c.args.count
    c.in-Nodes-Nodes.nodes c.in-Nodes-Nodes.others c.loop-i.i c.loop-i.left d
    (omega (arith, a.2, c.loop-i-test.true)) (omega (arith, b.2, c.loop-i-test.true)) a.3 b.3
    c.loop-i.invariant.0
    (said_at (MaySay g.F.Fn c.args.test.now) c.loop-i.left _ _ _ _ _ false
    c.deref-in-loop-i.ensures second refl c.if-not-all_with.ensures))

pub loop-i-init : goal.loop-i-init
loop-i-init g t c = (
  omega arith,
  held_none (MaySay g.F.Fn c.args.test.now) (λ n. n.value) c.args.width c.args.count
      c.in-Nodes-Nodes.nodes c.in-Nodes-Nodes.others,
)

pub loop-i-preserved : goal.loop-i-preserved
loop-i-preserved g t c =
    let a = below c.self.inside.kids c.in-Nodes-Nodes.nodes c.args.width c.args.self.now
    c.in-Nodes-Nodes.is-0 c.self.invariant.0 c.self.view_is c.requires.level in
    let b = below c.other.inside.kids c.in-Nodes-Nodes.others c.args.width c.args.other.now
    c.in-Nodes-Nodes.is-1 c.other.invariant.0 c.other.view_is
    (c.requires.same ∙ c.requires.level) in
    let d = c.index-nodes-i.result in
    let second = c.deref-in-loop-i-2.ensures ∙ ap (λ n. n.value)
    (get_or_default c.in-Nodes-Nodes.others c.loop-i.i c.index-others-i.result d
    (omega (arith, b.2, c.loop-i-test.true))) in
    let step : (c.loop-i.i + 1) * c.args.width ≡ c.loop-i.i * c.args.width + c.args.width =
    omega arith in (
      omega (arith, c.saturating_sub-left.ensures, c.loop-i.invariant.0),
      held_more (MaySay g.F.Fn c.args.test.now) (λ n. n.value) c.args.width c.args.count
          c.in-Nodes-Nodes.nodes c.in-Nodes-Nodes.others c.loop-i.i c.loop-i.left d
          (omega (arith, a.2, c.loop-i-test.true)) (omega (arith, b.2, c.loop-i-test.true))
          (a.3 c.loop-i.i d (omega (arith, a.2, c.loop-i-test.true)))
          c.loop-i.invariant.0
          (said_at (MaySay g.F.Fn c.args.test.now) c.loop-i.left _ _ _ _ _ true
          c.deref-in-loop-i.ensures second refl c.if-not-all_with.ensures)
          c.loop-i.invariant.1,
    )

pub returns-after-loop-i : goal.returns-after-loop-i
returns-after-loop-i g t c =
    let a = below c.self.inside.kids c.in-Nodes-Nodes.nodes c.args.width c.args.self.now
    c.in-Nodes-Nodes.is-0 c.self.invariant.0 c.self.view_is c.requires.level in
    let b = below c.other.inside.kids c.in-Nodes-Nodes.others c.args.width c.args.other.now
    c.in-Nodes-Nodes.is-1 c.other.invariant.0 c.other.view_is
    (c.requires.same ∙ c.requires.level) in
    said_at (MaySay g.F.Fn c.args.test.now) c.args.count _ _ _ _ true true
    (ap places (sym c.in-Nodes-Nodes.is-0) ∙ c.self.view_is)
    (ap places (sym c.in-Nodes-Nodes.is-1) ∙ c.other.view_is) refl
    (held_all (MaySay g.F.Fn c.args.test.now) (λ n. n.value) c.args.width c.args.count
    c.in-Nodes-Nodes.nodes c.in-Nodes-Nodes.others c.loop-i.i
    (omega (arith, a.2, c.loop-i-test.false)) (omega (arith, a.2, b.2)) a.0 a.3 b.3
    c.loop-i.invariant.1)
