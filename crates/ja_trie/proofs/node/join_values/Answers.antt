use Rattle.std.proofs.Common.{arith, ◌≡◌, ◌+◌, ◌<◌, get_or, set, map, is_some, refl, sym, ap, ◌∙◌, subst, Some, None, Option}
use Rattle.std.specs.Option.{unwrap_or}
use Rattle.std.specs.declared.result.Result.TheVariants.{Ok}
use Rattle.std.proofs.lemmas.Fn.{says_at_two}
use Rattle.std.proofs.lemmas.List.{get_or-map, length-map}
use Rattle.ja_trie.specs.code.Join.{JoinedTo}
use Rattle.ja_trie.specs.Join.{MayAnswer}
use Rattle.ja_trie.proofs.Joins.{joined_none, joined_kept, joined_put, joined_min, moved, told_put}
use Rattle.ja_trie.proofs.node.join_values.Goals.{in-Some+in_ok-new+in_ok-put_kid, in_default}
use Rattle.ja_trie.proofs.node.join_values.Goals as goal

pub loop-i-init : goal.loop-i-init
loop-i-init g c = (0, refl, joined_none (MayAnswer g.F.Fn c.args.join.now) _ _)

pub loop-i-preserved : goal.loop-i-preserved
loop-i-preserved g c =
    let i = c.loop-i.i in
    let below : i < 8 = omega (arith, c.loop-i-test.true, c.min-i-end.ensures) in
    let xs = map (λ x. x.value) c.args.values.now in
    let ys = map (λ x. x.value) c.args.others.now in
    let zs = map (λ x. x.value) (unwrap_or c.loop-i.kids c.args.values.now) in
    let h = c.loop-i.invariant in
    let first : c.deref.result.now ≡ get_or xs i c.deref.result.now = c.deref.ensures
    ∙ sym (get_or-map (λ x. x.value) c.args.values.now i c.index-values-i.result
    c.deref.result.now (omega (arith, c.type_inv.values, below))) in
    let second : c.deref-in-loop-i.result.now ≡ get_or ys i c.deref.result.now =
    c.deref-in-loop-i.ensures
    ∙ sym (get_or-map (λ x. x.value) c.args.others.now i c.index-others-i.result
    c.deref.result.now (omega (arith, c.type_inv.others, below))) in
    let called : (a : Option _) → c.in_ok-value.field-0 ≡ a
    → MayAnswer g.F.Fn c.args.join.now (get_or xs i c.deref.result.now)
    (get_or ys i c.deref.result.now) a =
    λ a e. moved (MayAnswer g.F.Fn c.args.join.now) _ _ _ _ a first second
    (says_at_two g.F.Fn c.in_ok-value.ensures (ap Ok e)) in
    let long = length-map c.args.values.now (λ x. x.value) in
    let others = length-map c.args.others.now (λ x. x.value) in
    elim c.match-branch-2.branch [
      | in-Some+in_ok-new+in_ok-put_kid w ↦
          let put = w.in_ok-put_kid.ensures in
          let now : map (λ x. x.value) (unwrap_or c.match-branch-2.kids c.args.values.now)
          ≡ set zs i w.in-Some.value =
          ap (λ o. map (λ x. x.value) (unwrap_or o c.args.values.now)) w.kids-is ∙ put.1
          ∙ ap (set zs i) w.in_ok-new.ensures.ok in (
            h.0 + 1,
            ap is_some w.kids-is ∙ put.0 ∙ told_put (h.0 + 1) (omega arith),
            subst (λ l. JoinedTo (MayAnswer g.F.Fn c.args.join.now) (i + 1) xs ys l (h.0 + 1))
                (sym now)
                (joined_put (MayAnswer g.F.Fn c.args.join.now) i xs ys zs h.0 c.deref.result.now
                w.in-Some.value h.2 (omega (arith, long, c.type_inv.values, below))
                (omega (arith, others, c.type_inv.others, below))
                (called (Some w.in-Some.value) w.in-Some.is)),
          )
      | in_default w ↦ rw w.kids-is (
        h.0,
        h.1,
        joined_kept (MayAnswer g.F.Fn c.args.join.now) i xs ys zs h.0 c.deref.result.now
            h.2 (omega (arith, long, c.type_inv.values, below))
            (omega (arith, others, c.type_inv.others, below)) (called None w.in_default.is),
      )
    ]

pub returns : goal.returns
returns g c =
    let h = c.loop-i.invariant in (
      h.0,
      h.1,
      joined_min (MayAnswer g.F.Fn c.args.join.now) c.args.count _ _ _ h.0
          c.loop-i.i (length-map c.args.values.now (λ x. x.value) ∙ c.type_inv.values)
          (omega (arith, c.loop-i-test.false, c.loop-i.auto.i-end, c.min-i-end.ensures)) h.2,
    )
