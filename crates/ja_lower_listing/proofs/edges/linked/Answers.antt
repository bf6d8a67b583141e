use Rattle.std.proofs.Common.{◌≡◌, ◌<◌, ◌++◌, ◌∷◌, [], List, vec_len, length, map, unwrap_or, ap, sym, subst, ◌∙◌, append_assoc, append-nil, length-append, arith}
use Rattle.ja_lower_listing.specs.declared.item.Item.{Item}
use Rattle.ja_lower_listing.specs.declared.item.Item.TheVariants as item
use Rattle.ja_lower_listing.specs.declared.item.Target.TheVariants as target
use Rattle.ja_lower_listing.specs.Listing.{led, jump_of, way_on, with_edges, nodes_from}
use Rattle.ja_lower_listing.specs.code.Passes.{IsEnd, followed, seen, ways_on}
use Rattle.ja_lower_listing.proofs.Followed.{end_behind, way_lands}
use Rattle.ja_lower_listing.proofs.Links.{take_last, get_last, no_nodes, none_left, ways_node, ways_copy, nodes_copy, plain_nodes, plain_ways}
use Rattle.ja_lower_listing.proofs.edges.linked.Goals as goal

pub loop-item-preserved-in-Continue-branch-2 : goal.loop-item-preserved-in-Continue-branch-2
loop-item-preserved-in-Continue-branch-2 c =
    let whole : List Item = c.args.items.items in
    let rest : List Item = c.next.new.self.rest.items in
    let step = c.in-Some.ensures.steps.0 in
    let count : vec_len c.loop-item.ways ≡ length c.loop-item.ways.items = omega arith in
    let ways : c.loop-item.ways.items ≡ ways_on whole rest ++ (seen whole rest).here
    ∷ [] = c.loop-item.invariant.ways ∙ ap (λ xs. ways_on whole xs) step
    ∙ ap (λ x. ways_on whole (x ∷ rest)) c.in-Node.is ∙ ways_node _ _ _ _ _ _ in
    let some : 0 < vec_len c.loop-item.ways = omega
    (arith, ap length ways, length-append (ways_on whole rest) ((seen whole rest).here ∷ [])) in
    let here : c.unwrap_or-here.result ≡ (seen whole rest).here = c.unwrap_or-here.ensures
    ∙ ap (λ o. unwrap_or o target.Behind) (c.pop.ensures.value target.Behind some)
    ∙ get_last _ _ _ _ _ ways count in
    let end : IsEnd whole rest = end_behind whole c.in-Some.item rest
    (subst (λ xs. IsEnd whole xs) step c.loop-item.invariant.end) in
    let node = sym (c.node.ensures whole rest c.loop-item.invariant.edges end here)
    ∙ sym (ap (λ x. nodes_from whole (x ∷ rest)) c.in-Node.is)
    ∙ sym (ap (λ xs. nodes_from whole xs) step) in
    record {
      edges = c.loop-item.invariant.edges;
      end = end;
      nodes =
          ap (λ ns. ns ++ nodes_from whole rest) c.in_ok-push-in-Node.ensures.items
          ∙ append_assoc c.loop-item.nodes.items (c.node.result ∷ []) (nodes_from whole rest)
          ∙ ap (λ ns. c.loop-item.nodes.items ++ ns) node ∙ c.loop-item.invariant.nodes;
      ways = c.pop.ensures.rest ∙ take_last _ _ _ _ ways count;
    }

pub loop-item-preserved-in-Continue-branch-4 : goal.loop-item-preserved-in-Continue-branch-4
loop-item-preserved-in-Continue-branch-4 c =
    let whole : List Item = c.args.items.items in
    let rest : List Item = c.next.new.self.rest.items in
    let before = c.loop-item.nodes.items in
    let step = c.in-Some.ensures.steps.0 in
    let count : vec_len c.loop-item.ways ≡ length c.loop-item.ways.items = omega arith in
    let ways : c.loop-item.ways.items ≡ ways_on whole rest ++ (seen whole rest).here
    ∷ [] = c.loop-item.invariant.ways ∙ ap (λ xs. ways_on whole xs) step
    ∙ ap (λ x. ways_on whole (x ∷ rest)) c.in-Copy.is ∙ ways_copy _ _ _ in
    let some : 0 < vec_len c.loop-item.ways = omega
    (arith, ap length ways, length-append (ways_on whole rest) ((seen whole rest).here ∷ [])) in
    let here : c.unwrap_or-here-in-Copy.result
    ≡ (seen whole rest).here = c.unwrap_or-here-in-Copy.ensures
    ∙ ap (λ o. unwrap_or o target.Behind) (c.pop-in-Copy.ensures.value target.Behind some)
    ∙ get_last _ _ _ _ _ ways count in
    let end : IsEnd whole rest = end_behind whole c.in-Some.item rest
    (subst (λ xs. IsEnd whole xs) step c.loop-item.invariant.end) in
    let next : c.landing.result ≡ way_on whole rest = c.landing.ensures whole
    c.loop-item.invariant.edges ∙ ap (followed whole) here ∙ way_lands whole rest end in
    let first : c.in_ok-first-in-Copy.first
    ≡ length before = omega (arith, c.in_ok-first-in-Copy.ensures) in
    let line : nodes_from whole c.loop-item.item-iterator.rest.items
    ≡ nodes_from whole (item.Copy c.in-Copy.block ∷ rest) = ap (λ xs. nodes_from whole xs) step
    ∙ ap (λ x. nodes_from whole (x ∷ rest)) c.in-Copy.is in
    let nodes = nodes_copy whole rest c.in-Copy.block before
    (ap (λ ns. before ++ ns) (sym line) ∙ c.loop-item.invariant.nodes) in
    let copies = c.in_ok-copy-in-Copy.ensures whole c.loop-item.invariant.edges
    ∙ ap (λ ns. before ++ map (with_edges (led c.in_ok-first-in-Copy.first (jump_of whole)
    c.landing.result)) ns) c.into_vec.ensures
    ∙ ap (λ n. before ++ map (with_edges (led n (jump_of whole) c.landing.result))
    c.in-Copy.block.nodes) first
    ∙ ap (λ t. before ++ map (with_edges (led (length before) (jump_of whole) t))
    c.in-Copy.block.nodes) next in
    record {
      edges = c.loop-item.invariant.edges;
      end = end;
      nodes =
          ap (λ ns. ns ++ nodes_from whole rest) copies
          ∙ append_assoc before (map (with_edges
          (led (length before) (jump_of whole) (way_on whole rest))) c.in-Copy.block.nodes)
          (nodes_from whole rest) ∙ ap (λ ns. before ++ ns) (sym nodes ∙ sym line)
          ∙ c.loop-item.invariant.nodes;
      ways = c.pop-in-Copy.ensures.rest ∙ take_last _ _ _ _ ways count;
    }

pub loop-item-preserved : goal.loop-item-preserved
loop-item-preserved c =
    let whole : List Item = c.args.items.items in
    let rest : List Item = c.next.new.self.rest.items in
    let step = c.in-Some.ensures.steps.0 in
    record {
      edges = c.loop-item.invariant.edges;
      end =
          end_behind whole c.in-Some.item rest
          (subst (λ xs. IsEnd whole xs) step c.loop-item.invariant.end);
      nodes =
          ap (λ ns. c.loop-item.nodes.items ++ ns)
          (sym (plain_nodes whole rest c.in-Some.item c.in-Spot.is)
          ∙ sym (ap (λ xs. nodes_from whole xs) step)) ∙ c.loop-item.invariant.nodes;
      ways =
          c.loop-item.invariant.ways ∙ ap (λ xs. ways_on whole xs) step
          ∙ plain_ways whole rest c.in-Some.item c.in-Spot.is;
    }

pub returns : goal.returns
returns c =
    let whole : List Item = c.args.items.items in
    let rest : List Item = c.loop-item.item-iterator.rest.items in
    let end : rest ≡ [] = none_left rest (omega (arith, c.in-None.ensures.steps.0)) in
    let nodes : nodes_from whole rest ≡ [] = ap (λ xs. nodes_from whole xs) end ∙ no_nodes whole in
    sym (append-nil c.loop-item.nodes.items) ∙ ap (λ ns. c.loop-item.nodes.items ++ ns) (sym nodes)
    ∙ c.loop-item.invariant.nodes
