use Rattle.std.proofs.Common.{◌≡◌, ◌∙◌, ◌<◌, ℕ, List, ap, Bool, not, ◌++◌, [], take, get_or, length, arith}
use Rattle.std.specs.Prelude.{filter, is_some, nat_eq, ◌||◌}
use Rattle.std.specs.List.{list_any}
use Rattle.std.specs.HashSet.{contains}
use Rattle.std.specs.Cmp.Lexicographic.{pointwise}
use Rattle.ja_machine.specs.declared.machine.Addr.{Addr}
use Rattle.ja_machine.specs.Heap.{own}
use Rattle.ja_machine.specs.Enumeration.{own_names, names_along}
use Rattle.ja_heap.proofs.InSight.{in_sight, all_in_sight, names_more, hidden_more, same_filtered}
use Rattle.ja_heap.proofs.heap.Heap.names.Goals as goal

pub loop-depth-init : goal.loop-depth-init
loop-depth-init c =
    let h = c.args.self.now in
    let all = names_along h c.in_ok-chain.chain.items in
    record {
      listed =
          ap (λ xs. xs ++ filter (in_sight h []) all) c.new-names.ensures.items
          ∙ (all_in_sight h all ∙ ap (names_along h) c.in_ok-chain.ensures);
      hidden = λ name. ap (list_any (pointwise nat_eq name)) c.new-nearer.ensures.empty;
    }

pub loop-depth-preserved : goal.loop-depth-preserved
loop-depth-preserved c =
    let h = c.args.self.now in
    let xs = c.in_ok-chain.chain.items in
    let d = c.loop-depth.depth in
    let b : Addr = c.index-b.result.now in
    let old = c.loop-depth.names.items in
    let low : d < length xs = omega (arith, c.loop-depth-test.true, c.in_ok-chain.chain.ok) in
    let here : b ≡ get_or xs d b = c.index-b.ensures in
    let seen : List ℕ → Bool = λ name. not (contains (pointwise nat_eq) c.loop-depth.nearer name) in
    let pushed = c.in_ok-push_names.ensures
    ∙ ap (λ ys. old ++ ys) (same_filtered seen (in_sight h (take d xs))
    (λ name. ap not (c.loop-depth.invariant.hidden name)) (own_names h b)
    ∙ ap (λ a. filter (in_sight h (take d xs)) (own_names h a)) here) in
    record {
      listed =
          names_more h xs d b old c.push_names.new.names.items _ low pushed
          c.loop-depth.invariant.listed;
      hidden =
          λ name. c.in_ok-add_names.ensures name
          ∙ (ap (λ t. t || is_some (own h b name)) (c.loop-depth.invariant.hidden name)
          ∙ hidden_more h xs d b name low here);
    }
