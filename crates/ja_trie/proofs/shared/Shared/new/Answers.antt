use Rattle.std.proofs.Common.{arith, ◌≡◌, ◌+◌, ◌*◌, ◌^◌, ◌<◌, ◌≤◌, ◌-◌, length, take, replicate, ap, ◌∙◌, inr}
use Rattle.std.proofs.lemmas.List.{length-replicate, take-replicate}
use Rattle.std.proofs.Math.Nat.{one-le-pow}
use Rattle.ja_trie.proofs.Sharing.{eightfold, replicate_level, replicate_shared, depth_least, depth_more}
use Rattle.ja_trie.proofs.shared.Shared.new.Goals as goal

pub of_node-requires : goal.of_node-requires
of_node-requires g c =
    let h = c.loop-root.invariant in
    let width = c.loop-root.width in (
      omega arith,
      (
        width,
        omega (arith, h.1, one-le-pow h.0 8 (omega arith)),
        ap length h.2 ∙ length-replicate (8 * width) c.in_ok-value.value.value,
      ),
    )

pub loop-root-smaller : goal.loop-root-smaller
loop-root-smaller g c =
    let h = c.loop-root.invariant in
    let less : c.args.length - c.loop-root.width * 8 < c.args.length - c.loop-root.width =
    omega (
      arith,
      h.1,
      one-le-pow h.0 8 (omega arith),
      c.from.ensures,
      c.from-in-loop-root.ensures,
      c.loop-root-test.true,
    ) in
    less

pub loop-root-preserved : goal.loop-root-preserved
loop-root-preserved g c =
    let h = c.loop-root.invariant in
    let v = c.in_ok-value.value.value in
    let power : c.loop-root.width * 8 ≡ 8 ^ (h.0 + 1) = omega (arith, h.1, eightfold h.0) in
    let many : 8 * (8 * c.loop-root.width) ≡ 8 * (c.loop-root.width * 8) = omega arith in (
      h.0 + 1,
      power,
      c.in_ok-root-2.ensures.ok
          ∙ replicate_level (λ n. n.value) c.loop-root.root v 8 (8 * c.loop-root.width) h.2
          ∙ ap (λ n. replicate n v) many,
      inr (omega (arith, c.from.ensures, c.from-in-loop-root.ensures, c.loop-root-test.true)),
      omega (arith, h.4, c.of_node.ensures.nodes),
    )

pub invariant_of-result : goal.invariant_of-result
invariant_of-result g c =
    let h = c.loop-root.invariant in
    replicate_shared _ _ h.0 _ c.in_ok-value.value.value
    (omega (arith, c.from.ensures, c.from-in-loop-root.ensures, c.loop-root-test.false))
    h.1 h.2 h.3

-- where a node more is refused, there was no room yet
pub returns-in_err-root-2-clause-nodes : goal.returns-in_err-root-2-clause-nodes
returns-in_err-root-2-clause-nodes g c d fits =
    let h = c.loop-root.invariant in
    let power : c.loop-root.width * 8 ≡ 8 ^ (h.0 + 1) = omega (arith, h.1, eightfold h.0) in
    let deeper = depth_more h.0 d c.args.length fits
    (omega (
      arith,
      power,
      c.from.ensures,
      c.from-in-loop-root.ensures,
      c.loop-root-test.true,
    )) in
    omega (arith, h.4, c.of_node.ensures.nodes, deeper)

pub returns-clause-ok : goal.returns-clause-ok
returns-clause-ok g c =
    let h = c.loop-root.invariant in
    ap (take c.args.length) h.2
    ∙ take-replicate c.args.length (8 * c.loop-root.width) c.in_ok-value.value.value
    (omega (arith, c.from.ensures, c.from-in-loop-root.ensures, c.loop-root-test.false))
    ∙ ap (replicate c.args.length) c.in_ok-value.ensures.ok

pub returns-clause-nodes : goal.returns-clause-nodes
returns-clause-nodes g c d fits =
    let h = c.loop-root.invariant in
    let shape = replicate_shared _ _ h.0 _ c.in_ok-value.value.value
    (omega (arith, c.from.ensures, c.from-in-loop-root.ensures, c.loop-root-test.false))
    h.1 h.2 h.3 in
    let depth : h.0 ≤ d = depth_least _ _ _ shape d fits in
    omega (arith, h.4, depth)
