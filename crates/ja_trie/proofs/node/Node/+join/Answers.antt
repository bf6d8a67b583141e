use Rattle.std.proofs.Common.{rules, arith, ◌≡◌, ◌*◌, ◌+◌, ◌/◌, ◌<◌, ◌≤◌, true, false, is_ok, is_some, nat_lt, length, map, get_or, replicate, mul-le-mul_left, refl, sym, ap, ◌∙◌, subst}
use Rattle.std.specs.List.{flat_map}
use Rattle.std.specs.Option.{unwrap_or}
use Rattle.std.proofs.lemmas.Bool.{true≢false}
use Rattle.std.proofs.lemmas.List.{get_or_default, map-set}
use Rattle.std.proofs.lemmas.Result.{MatchResult-from_err, MatchResult-weaker}
use Rattle.ja_trie.specs.code.Node.{places, places_after, AreLong}
use Rattle.ja_trie.specs.code.Join.{JoinedTo}
use Rattle.ja_trie.specs.Join.{MayAnswer, put_by}
use Rattle.ja_trie.proofs.Levels.{below, deeper, ticked_le, not_ticked, mixed, first_node, first_value}
use Rattle.ja_trie.proofs.Joins.{joined_none, joined_at, joined_long, joined_few, joined_each, joined_copies, told_each, told_put, nothing_put, some_put, parts_none, joining_kept, joining_put, joining_at, joining_all, one_more, room_for, one_above, room_above, one_for_each}
use Rattle.ja_trie.proofs.node.Node.+join.Goals.{in-Some-2+in_ok-of_node-in-Some-2, in-None-2, in-Some-3+in_ok-put_kid-in-Nodes-Nodes, in_default-2, in_default-via-in-Values+in_default, in_default-via-in-Nodes+in_default}
use Rattle.ja_trie.proofs.node.Node.+join.Goals as goal

pub returns-then-count-eq0 : goal.returns-then-count-eq0
returns-then-count-eq0 g t c = (
  0,
  refl,
  subst (λ n. JoinedTo (MayAnswer g.F.Fn c.args.join.now) n c.args.self.now
      c.args.other.now c.args.self.now 0) (sym c.if-count-eq0.true)
      (joined_none (MayAnswer g.F.Fn c.args.join.now) c.args.self.now c.args.other.now),
  λ h e. omega arith,
)

pub returns-then-count-width : goal.returns-then-count-width
returns-then-count-width g t c =
    let self = first_value c.self.inside.kids c.in-Values-Values.values c.args.self.now
    c.index-values-0.result c.in-Values-Values.is-0 c.self.view_is
    (c.self.invariant.1 c.if-self.true) ∙ ap (λ v. replicate 8 v) (sym c.deref.ensures) in
    let other = first_value c.other.inside.kids c.in-Values-Values.others c.args.other.now
    c.index-others-0.result c.in-Values-Values.is-1 c.other.view_is
    (c.other.invariant.1 c.if-other.true)
    ∙ ap (λ v. replicate 8 v) (sym c.deref-then-count-width.ensures) in
    let room : 8 ≤ c.args.count = omega (
      arith,
      c.if-count-width.true,
      c.requires.level,
      ap length self,
    ) in
    MatchResult-weaker c.join_value.result c.join_value.ensures
    (λ node e. (
      8 * put_by e.0,
      e.2 ∙ told_each e.0,
      joined_at (MayAnswer g.F.Fn c.args.join.now) c.args.count _ _ _ _ _ _ (8 * put_by e.0)
          (sym self) (sym other) (sym e.3 ∙ ap (λ l. places_after l node) (sym self))
          (joined_each (MayAnswer g.F.Fn c.args.join.now) 8 c.args.count _ _ e.0 room e.1),
      λ h high. one_for_each h (8 * put_by e.0) (put_by e.0) _ _ e.4 (omega arith),
    ))
    (λ y made h high. one_for_each h c.args.count 1 _ _ made (omega arith))

pub join-requires : goal.join-requires
join-requires g t c κs within =
    let a = first_node c.self.inside.kids c.in-Nodes-Nodes.nodes c.args.width c.args.self.now
    c.index-nodes-0.result c.in-Nodes-Nodes.is-0 c.self.invariant.0 c.self.view_is
    c.requires.level (c.self.invariant.1 c.if-self-2.true) in
    let b = first_node c.other.inside.kids c.in-Nodes-Nodes.others c.args.width c.args.other.now
    c.index-others-0-then-count-width-2.result c.in-Nodes-Nodes.is-1 c.other.invariant.0
    c.other.view_is (c.requires.same ∙ c.requires.level) (c.other.invariant.1 c.if-other-2.true) in
    let first : length c.deref-then-count-width-2.result.now ≡ c.args.width =
    ap length c.deref-then-count-width-2.ensures ∙ a.long in
    let second : length c.deref-then-count-width-2-2.result.now ≡ c.args.width =
    ap length c.deref-then-count-width-2-2.ensures ∙ b.long in
    search (rules, a.less, a.next, first, second)

pub returns-in_err-kid-in-Nodes-Nodes : goal.returns-in_err-kid-in-Nodes-Nodes
returns-in_err-kid-in-Nodes-Nodes g t c =
    let a = first_node c.self.inside.kids c.in-Nodes-Nodes.nodes c.args.width c.args.self.now
    c.index-nodes-0.result c.in-Nodes-Nodes.is-0 c.self.invariant.0 c.self.view_is
    c.requires.level (c.self.invariant.1 c.if-self-2.true) in
    let room : 8 * c.args.width ≤ c.args.count = omega (arith, c.if-count-width-2.true) in
    MatchResult-from_err c.from_residual-in_err-kid-in-Nodes-Nodes.result _ _
    c.from_residual-in_err-kid-in-Nodes-Nodes.ensures.0 (λ y h high.
    let d = deeper c.args.width h a.next a.wide (sym c.requires.level ∙ high) in
    room_above h d.0 c.args.width c.args.width c.args.count c.args.steps.now c.join.new.steps
    c.join.new.steps d.1 a.wide (omega arith) room
    (c.in_err-kid-in-Nodes-Nodes.ensures d.0 (ap length c.deref-then-count-width-2.ensures
    ∙ a.long ∙ d.2))
    (omega arith))

pub of_node-requires : goal.of_node-requires
of_node-requires g t c =
    let a = first_node c.self.inside.kids c.in-Nodes-Nodes.nodes c.args.width c.args.self.now
    c.index-nodes-0.result c.in-Nodes-Nodes.is-0 c.self.invariant.0 c.self.view_is
    c.requires.level (c.self.invariant.1 c.if-self-2.true) in
    let e = c.in_ok-kid-in-Nodes-Nodes.ensures in
    let after = ap (places_after c.deref-then-count-width-2.result.now) c.in-Some-2.is in (
      omega arith,
      (
        c.args.width / 8,
        omega (arith, a.wide, a.next),
        sym (ap length after)
            ∙ joined_long (MayAnswer g.F.Fn c.args.join.now) c.args.width _ _ _ e.0 e.2
            ∙ ap length c.deref-then-count-width-2.ensures ∙ a.long ∙ sym a.next,
      ),
    )

pub returns-in_err-of_node-in-Some-2 : goal.returns-in_err-of_node-in-Some-2
returns-in_err-of_node-in-Some-2 g t c =
    let a = first_node c.self.inside.kids c.in-Nodes-Nodes.nodes c.args.width c.args.self.now
    c.index-nodes-0.result c.in-Nodes-Nodes.is-0 c.self.invariant.0 c.self.view_is
    c.requires.level (c.self.invariant.1 c.if-self-2.true) in
    let room : 8 * c.args.width ≤ c.args.count = omega (arith, c.if-count-width-2.true) in
    let e = c.in_ok-kid-in-Nodes-Nodes.ensures in
    MatchResult-from_err c.from_residual-in_err-of_node-in-Some-2.result _ _
    c.from_residual-in_err-of_node-in-Some-2.ensures.0 (λ y h high.
    let d = deeper c.args.width h a.next a.wide (sym c.requires.level ∙ high) in
    room_above h d.0 e.0 c.args.width c.args.count c.args.steps.now c.join.new.steps _ d.1 a.wide
    (joined_few (MayAnswer g.F.Fn c.args.join.now) c.args.width _ _ _ e.0 e.2).0 room
    (e.3 d.0 (ap length c.deref-then-count-width-2.ensures ∙ a.long ∙ d.2)) c.of_node.ensures.nodes)

pub returns-then-count-width-2 : goal.returns-then-count-width-2
returns-then-count-width-2 g t c =
    let a = first_node c.self.inside.kids c.in-Nodes-Nodes.nodes c.args.width c.args.self.now
    c.index-nodes-0.result c.in-Nodes-Nodes.is-0 c.self.invariant.0 c.self.view_is
    c.requires.level (c.self.invariant.1 c.if-self-2.true) in
    let b = first_node c.other.inside.kids c.in-Nodes-Nodes.others c.args.width c.args.other.now
    c.index-others-0-then-count-width-2.result c.in-Nodes-Nodes.is-1 c.other.invariant.0
    c.other.view_is (c.requires.same ∙ c.requires.level) (c.other.invariant.1 c.if-other-2.true) in
    let room : 8 * c.args.width ≤ c.args.count = omega (arith, c.if-count-width-2.true) in
    let x = get_or c.in-Nodes-Nodes.nodes 0 c.index-nodes-0.result in
    let y = get_or c.in-Nodes-Nodes.others 0 c.index-others-0-then-count-width-2.result in
    let e = c.in_ok-kid-in-Nodes-Nodes.ensures in
    elim c.match-branch-5.branch [
      | in-Some-2+in_ok-of_node-in-Some-2 w ↦
          let some : true ≡ nat_lt 0 e.0 = sym (ap is_some w.in-Some-2.is) ∙ e.1 in
          rw w.result-is (
            8 * e.0,
            told_put (8 * e.0) (omega (arith, some_put e.0 some)),
            joined_at (MayAnswer g.F.Fn c.args.join.now) c.args.count _ _ _ _ _ _ (8 * e.0)
                a.whole b.whole (sym w.in_ok-of_node-in-Some-2.ensures.ok)
                (joined_copies (MayAnswer g.F.Fn c.args.join.now) x y w.in-Some-2.kid (λ n. n.value)
                c.args.width 8 c.args.count e.0 a.long b.long room
                (joined_at (MayAnswer g.F.Fn c.args.join.now) c.args.width _ _ _ _ _ _ e.0
                c.deref-then-count-width-2.ensures c.deref-then-count-width-2-2.ensures
                (ap (places_after c.deref-then-count-width-2.result.now) w.in-Some-2.is) e.2)),
            λ h high.
                let d = deeper c.args.width h a.next a.wide (sym c.requires.level ∙ high) in
                one_above h d.0 e.0 c.args.steps.now c.join.new.steps _ d.1 (some_put e.0 some)
                (e.3 d.0 (ap length c.deref-then-count-width-2.ensures ∙ a.long ∙ d.2))
                (omega (arith, w.steps-is, w.of_node.ensures.nodes)),
          )
      | in-None-2 w ↦
          let none : e.0 ≡ 0 = nothing_put e.0 (sym (ap is_some w.in-None-2.is) ∙ e.1) in
          rw w.result-is (
            8 * e.0,
            ap (λ n. nat_lt 0 (8 * n)) (sym none),
            joined_at (MayAnswer g.F.Fn c.args.join.now) c.args.count _ _ _ _ _ _ (8 * e.0)
                a.whole b.whole a.whole
                (joined_copies (MayAnswer g.F.Fn c.args.join.now) x y x (λ n. n.value)
                c.args.width 8 c.args.count e.0 a.long b.long room
                (joined_at (MayAnswer g.F.Fn c.args.join.now) c.args.width _ _ _ _ _ _ e.0
                c.deref-then-count-width-2.ensures c.deref-then-count-width-2-2.ensures
                (ap (places_after c.deref-then-count-width-2.result.now) w.in-None-2.is ∙
                c.deref-then-count-width-2.ensures) e.2)),
            λ h high.
                let d = deeper c.args.width h a.next a.wide (sym c.requires.level ∙ high) in
                let made = e.3 d.0 (ap length c.deref-then-count-width-2.ensures ∙ a.long ∙ d.2) in
                let nothing : (d.0 + 1) * e.0 ≡ 0 = ap (λ m. (d.0 + 1) * m) none ∙ omega arith in
                omega (arith, w.steps-is),
          )
    ]

pub loop-i-init : goal.loop-i-init
loop-i-init g t c =
    let a = below c.self.inside.kids c.in-Nodes-Nodes.nodes c.args.width c.args.self.now
    c.in-Nodes-Nodes.is-0 c.self.invariant.0 c.self.view_is c.requires.level in
    let b = below c.other.inside.kids c.in-Nodes-Nodes.others c.args.width c.args.other.now
    c.in-Nodes-Nodes.is-1 c.other.invariant.0 c.other.view_is
    (c.requires.same ∙ c.requires.level) in
    record {
      wide = a.0;
      next = a.1;
      eight = a.2;
      eight_others = b.2;
      eight_kids = a.2;
      long = a.3;
      long_others = b.3;
      long_kids = a.3;
      rest = omega arith;
      puts = 0;
      told = refl;
      few = omega arith;
      parts = parts_none (MayAnswer g.F.Fn c.args.join.now)
          (λ n. n.value) c.args.width c.args.count _ _ _ refl;
      made = λ h high. omega arith;
    }

pub join-requires-in-loop-i : goal.join-requires-in-loop-i
join-requires-in-loop-i g t c κs within =
    let j = c.loop-i.invariant in
    let first : length c.deref-in-loop-i.result.now ≡ c.args.width = ap length
    c.deref-in-loop-i.ensures
    ∙ j.long c.loop-i.i _ (omega (arith, j.eight, c.loop-i-test.true)) in
    let second : length c.deref-in-loop-i-2.result.now ≡ c.args.width =
    ap length c.deref-in-loop-i-2.ensures ∙ j.long_others c.loop-i.i _
    (omega (arith, j.eight_others, c.loop-i-test.true)) in
    let less : c.args.width / 8 < c.args.width = omega (arith, j.wide, j.next) in
    search (rules, less, j.next, first, second)

pub loop-i-preserved : goal.loop-i-preserved
loop-i-preserved g t c =
    let j = c.loop-i.invariant in
    let e = c.in_ok-kid-in-Nodes-Nodes-2.ensures in
    let d = c.index-nodes-i.result in
    let ns = c.in-Nodes-Nodes.nodes in
    let second = c.deref-in-loop-i-2.ensures ∙ ap (λ n. n.value)
    (get_or_default c.in-Nodes-Nodes.others c.loop-i.i c.index-others-i.result d
    (omega (arith, j.eight_others, c.loop-i-test.true))) in
    elim c.match-branch-8.branch [
      | in-Some-3+in_ok-put_kid-in-Nodes-Nodes w ↦
          let put = w.in_ok-put_kid-in-Nodes-Nodes.ensures in
          joining_at _ _ _ _ _ _ _ _ _ _ _ _ _ _
          (ap (λ o. map (λ n. n.value) (unwrap_or o ns)) w.kids-is ∙ put.1
          ∙ sym (map-set (λ n. n.value) (unwrap_or c.loop-i.kids ns) c.loop-i.i w.in-Some-3.kid))
          (ap is_some w.kids-is ∙ put.0)
          (joining_put (MayAnswer g.F.Fn c.args.join.now)
          (λ n. n.value) c.args.width c.args.count ns
          c.in-Nodes-Nodes.others c.loop-i.i (unwrap_or c.loop-i.kids ns) (is_some c.loop-i.kids)
          c.loop-i.left c.args.steps.now c.loop-i.steps j c.loop-i-test.true d w.in-Some-3.kid e.0
          c.saturating_sub-left.result c.join-in-loop-i.new.steps
          (sym (ap is_some w.in-Some-3.is) ∙ e.1)
          (joined_at (MayAnswer g.F.Fn c.args.join.now) c.loop-i.left _ _ _ _ _ _ e.0
          c.deref-in-loop-i.ensures second (ap (places_after
          c.deref-in-loop-i.result.now) w.in-Some-3.is) e.2)
          (λ h high. e.3 h (ap length c.deref-in-loop-i.ensures ∙ high))
          c.saturating_sub-left.ensures)
      | in_default-2 w ↦
          joining_at _ _ _ _ _ _ _ _ _ _ _ _ _ _
          (ap (λ o. map (λ n. n.value) (unwrap_or o ns)) w.kids-is) (ap is_some w.kids-is)
          (joining_kept (MayAnswer g.F.Fn c.args.join.now)
          (λ n. n.value) c.args.width c.args.count ns
          c.in-Nodes-Nodes.others c.loop-i.i (unwrap_or c.loop-i.kids ns) (is_some c.loop-i.kids)
          c.loop-i.left c.args.steps.now c.loop-i.steps j c.loop-i-test.true d e.0
          c.saturating_sub-left.result c.join-in-loop-i.new.steps
          (sym (ap is_some w.in_default-2.is) ∙ e.1)
          (joined_at (MayAnswer g.F.Fn c.args.join.now) c.loop-i.left _ _ _ _ _ _ e.0
          c.deref-in-loop-i.ensures second (ap (places_after
          c.deref-in-loop-i.result.now) w.in_default-2.is
          ∙ c.deref-in-loop-i.ensures) e.2)
          (λ h high. e.3 h (ap length c.deref-in-loop-i.ensures ∙ high))
          c.saturating_sub-left.ensures)
    ]

pub returns-in_err-kid-in-Nodes-Nodes-2 : goal.returns-in_err-kid-in-Nodes-Nodes-2
returns-in_err-kid-in-Nodes-Nodes-2 g t c =
    let j = c.loop-i.invariant in
    let kid : length c.deref-in-loop-i.result.now ≡ c.args.width = ap length
    c.deref-in-loop-i.ensures
    ∙ j.long c.loop-i.i _ (omega (arith, j.eight, c.loop-i-test.true)) in
    MatchResult-from_err c.from_residual-in_err-kid-in-Nodes-Nodes-2.result _ _
    c.from_residual-in_err-kid-in-Nodes-Nodes-2.ensures.0 (λ y h high.
    let d = deeper c.args.width h j.next j.wide (sym c.requires.level ∙ high) in
    room_for h d.0 j.puts c.loop-i.left c.args.count c.args.steps.now c.loop-i.steps _ d.1 j.few
    (j.made d.0 d.2) (c.in_err-kid-in-Nodes-Nodes-2.ensures d.0 (kid ∙ d.2)))

pub returns-in_err-put_kid-in-Nodes-Nodes : goal.returns-in_err-put_kid-in-Nodes-Nodes
returns-in_err-put_kid-in-Nodes-Nodes g t c =
    let j = c.loop-i.invariant in
    let e = c.in_ok-kid-in-Nodes-Nodes-2.ensures in
    let kid : length c.deref-in-loop-i.result.now ≡ c.args.width = ap length
    c.deref-in-loop-i.ensures
    ∙ j.long c.loop-i.i _ (omega (arith, j.eight, c.loop-i-test.true)) in
    MatchResult-from_err c.from_residual-in_err-put_kid-in-Nodes-Nodes.result _ _
    c.from_residual-in_err-put_kid-in-Nodes-Nodes.ensures.0 (λ y h high.
    let d = deeper c.args.width h j.next j.wide (sym c.requires.level ∙ high) in
    let few : (d.0 + 1) * e.0 ≤ (d.0 + 1) * c.loop-i.left = mul-le-mul_left (d.0 + 1)
    (joined_few (MayAnswer g.F.Fn c.args.join.now) c.loop-i.left _ _ _ e.0 e.2).0 in
    room_for h d.0 j.puts c.loop-i.left c.args.count c.args.steps.now c.loop-i.steps _ d.1 j.few
    (j.made d.0 d.2) (omega (arith, e.3 d.0 (kid ∙ d.2), few)))

pub unreachable-requires : goal.unreachable-requires
unreachable-requires g t c =
    elim c.in_default.branch [
      | in_default-via-in-Values+in_default w ↦
          mixed _ _ _ _ _ _ w.in_default.is-0 w.in_default.is-1 c.self.invariant.0
          c.other.invariant.0
          c.self.view_is c.other.view_is (sym c.requires.same)
      | in_default-via-in-Nodes+in_default w ↦
          mixed _ _ _ _ _ _ w.in_default.is-1 w.in_default.is-0 c.other.invariant.0
          c.self.invariant.0
          c.other.view_is c.self.view_is c.requires.same
    ]

pub new-requires-in-Some-kids : goal.new-requires-in-Some-kids
new-requires-in-Some-kids g t c =
    let j = c.loop-i.invariant in
    let own = ap (λ o. unwrap_or o c.in-Nodes-Nodes.nodes) c.in-Some-kids.is in (
      omega arith,
      (
        omega arith,
        (
          (
            sym (ap length own) ∙ j.eight_kids,
            (
              c.args.width / 8,
              omega (arith, j.next, j.wide),
              subst (λ ks. AreLong (λ n. n.value) ks (8 * (c.args.width / 8))) own
                  (subst (AreLong (λ n. n.value) _) (sym j.next) j.long_kids),
            ),
          ),
          λ wrong. absurd (true≢false (sym wrong)),
        ),
      ),
    )

pub returns-in_err-new-in-Some-kids : goal.returns-in_err-new-in-Some-kids
returns-in_err-new-in-Some-kids g t c =
    let j = c.loop-i.invariant in
    MatchResult-from_err c.from_residual-in_err-new-in-Some-kids.result _ _
    c.from_residual-in_err-new-in-Some-kids.ensures.0 (λ y h high.
    let d = deeper c.args.width h j.next j.wide (sym c.requires.level ∙ high) in
    room_for h d.0 j.puts c.loop-i.left c.args.count c.args.steps.now c.loop-i.steps _ d.1 j.few
    (j.made d.0 d.2)
    (omega (
      arith,
      c.new-in-Some-kids.ensures.ticked,
      not_ticked (is_ok c.new-in-Some-kids.result) (ap is_ok c.in_err-new-in-Some-kids.was),
    )))

pub returns-in_ok-new-in-Some-kids : goal.returns-in_ok-new-in-Some-kids
returns-in_ok-new-in-Some-kids g t c =
    let j = c.loop-i.invariant in
    let own = ap (λ o. unwrap_or o c.in-Nodes-Nodes.nodes) c.in-Some-kids.is in
    let some : true ≡ nat_lt 0 j.puts = sym (ap is_some c.in-Some-kids.is) ∙ j.told in
    let self = ap places (sym c.in-Nodes-Nodes.is-0) ∙ c.self.view_is in
    let other = ap places (sym c.in-Nodes-Nodes.is-1) ∙ c.other.view_is in
    let all = joining_all _ _ _ _ _ _ _ _ _ _ _ _ j c.loop-i-test.false in (
      j.puts,
      some,
      joined_at (MayAnswer g.F.Fn c.args.join.now) c.args.count _ _ _ _ _ _ j.puts self other
          (ap (flat_map (λ n. n.value)) own ∙ sym c.in_ok-new-in-Some-kids.ensures.ok) all,
      λ h high.
          let d = deeper c.args.width h j.next j.wide (sym c.requires.level ∙ high) in
          omega (
            arith,
            one_more h d.0 j.puts _ _ d.1 (j.made d.0 d.2),
            some_put j.puts some,
            c.new-in-Some-kids.ensures.ticked,
            ticked_le (is_ok c.new-in-Some-kids.result),
          ),
    )

pub returns-in-None-kids : goal.returns-in-None-kids
returns-in-None-kids g t c =
    let j = c.loop-i.invariant in
    let none : false ≡ nat_lt 0 j.puts = sym (ap is_some c.in-None-kids.is) ∙ j.told in
    let self = ap places (sym c.in-Nodes-Nodes.is-0) ∙ c.self.view_is in
    let other = ap places (sym c.in-Nodes-Nodes.is-1) ∙ c.other.view_is in
    let same = ap (λ o. flat_map (λ n. n.value) (unwrap_or o c.in-Nodes-Nodes.nodes))
    c.in-None-kids.is in
    let all = joining_all _ _ _ _ _ _ _ _ _ _ _ _ j c.loop-i-test.false in (
      j.puts,
      none,
      joined_at (MayAnswer g.F.Fn c.args.join.now) c.args.count _ _ _ _ _ _ j.puts self other
          (same ∙ self) all,
      λ h high.
          let d = deeper c.args.width h j.next j.wide (sym c.requires.level ∙ high) in
          omega (arith, one_more h d.0 j.puts _ _ d.1 (j.made d.0 d.2)),
    )
