use Rattle.std.proofs.Common.{◌≡◌, ◌∙◌, ap, length, map, None, rules, sym}
use Rattle.std.proofs.lemmas.Result.{err_from_is_err_and}
use lib.Chars.{codes}
use Rattle.ja_cert_json.specs.View.{view}
use Rattle.ja_graph.specs.Program.{nodes_of}
use Rattle.ja_cert.specs.Certificate.{whole}
use Rattle.ja_cert.specs.Wrong.{here_unless, is_above, is_below, point_number, under}
use Rattle.ja_astate.specs.State.{state_of}
use Rattle.ja_cert_parts.specs.code.Reading.{Tells}
use Rattle.ja_cert_read.specs.code.Building.{mask_sites, property_pairs}
use Rattle.ja_cert_read.specs.code.Contexts.{point_data}
use Rattle.ja_cert_read.proofs.ContextsRight.{above_points, point_number_is, point_written}
use Rattle.ja_cert_read.proofs.Starting.{own_says}
use Rattle.ja_cert_read.proofs.PointSteps.{point_right, point_told_heap, point_told_keys, point_told_masks, point_told_number, point_told_order, point_told_registers}
use Rattle.ja_cert_read.proofs.Told.{inside_err, inside_ok, right_test, tells_test, under_none}
use Rattle.ja_cert_read.proofs.WholeSteps.{listed_right}
use Rattle.ja_cert_read.proofs.points.PointAtMemberInFunction.read.Goals as goal
use Rattle.ja_cert_read.proofs.points.PointAtMemberInFunction.read.Goals.{After-is_behind}

-- the node's number is right, and it is compared with those before it
number : (c : After-is_behind)
    → (under (codes "node") (here_unless (is_below (length (nodes_of c.args.rule.now.program.now
    c.args.rule.now.function)) (view c.in_ok-point.point.third.now))) ≡ None)
    × (whole c.in_ok-node.node.0 ≡ view c.in_ok-point.point.third.now)
number c =
    let h = inside_ok (codes "node") _ _ c.read_node.result c.in_ok-node.node c.read_node.ensures
    c.in_ok-node.ensures.same in
    (h.0, h.1.0)

order : (c : After-is_behind)
    → c.is_behind.result ≡ is_above point_number (map (point_data c.args.rule.now.program.now
    c.args.rule.now.function) c.args.before.now) (view c.args.value.now)
order c =
    let n = c.in_ok-node.node.0 in
    let is = point_number_is (view c.args.value.now) _ _ _ _ n c.in_ok-point.ensures.1
    (number c).1 in
    c.is_behind.ensures
    ∙ sym (above_points c.args.rule.now.program.now c.args.rule.now.function c.args.before.now
    (view c.args.value.now) n is)

pub returns-in_err-point : goal.returns-in_err-point
returns-in_err-point c = search (rules, point_told_keys)

pub returns-in_err-node : goal.returns-in_err-node
returns-in_err-node c =
    let p = err_from_is_err_and c.from_residual-in_err-node.result
    c.from_residual-in_err-node.ensures.1 in
    rw (p.1, p.2) (point_told_number _ _ _ _ c.in_ok-point.ensures.1 _
    (inside_err (codes "node") _ _ c.read_node.result _ c.read_node.ensures
    c.in_err-node.ensures.told))

pub returns-in_err-here_unless : goal.returns-in_err-here_unless
returns-in_err-here_unless c =
    let p = err_from_is_err_and c.from_residual-in_err-here_unless.result
    c.from_residual-in_err-here_unless.ensures.1 in
    let at = (goal.at.returns-in_err-here_unless c).After-is_behind in
    rw (p.1, p.2) (point_told_order _ _ _ _ c.in_ok-point.ensures.1 _ (number at).0
    (tells_test c.is_behind.result _ _ (order at) c.in_err-here_unless.ensures))

pub returns-in_err-registers : goal.returns-in_err-registers
returns-in_err-registers c =
    let p = err_from_is_err_and c.from_residual-in_err-registers.result
    c.from_residual-in_err-registers.ensures.1 in
    let at = (goal.at.returns-in_err-registers c).After-is_behind in
    let placed = right_test c.is_behind.result _ (order at) c.in_ok-here_unless.ensures.0 in
    rw (p.1, p.2) (point_told_registers _ _ _ _ c.in_ok-point.ensures.1 _ (number at).0 placed
    (inside_err (codes "registers") _ _ c.read_list.result _ c.read_list.ensures
    c.in_err-registers.ensures.told))

pub returns-in_err-heap : goal.returns-in_err-heap
returns-in_err-heap c =
    let p = err_from_is_err_and c.from_residual-in_err-heap.result
    c.from_residual-in_err-heap.ensures.1 in
    let at = (goal.at.returns-in_err-heap c).After-is_behind in
    let placed = right_test c.is_behind.result _ (order at) c.in_ok-here_unless.ensures.0 in
    let registers = inside_ok (codes "registers") _ _ c.read_list.result c.in_ok-registers.registers
    c.read_list.ensures c.in_ok-registers.ensures.same in
    rw (p.1, p.2) (point_told_heap _ _ _ _ c.in_ok-point.ensures.1 _ (number at).0 placed
    registers.0 (inside_err (codes "heap") _ _ c.read_list-2.result _ c.read_list-2.ensures
    c.in_err-heap.ensures.told))

pub returns-in_err-masks : goal.returns-in_err-masks
returns-in_err-masks c =
    let p = err_from_is_err_and c.from_residual-in_err-masks.result
    c.from_residual-in_err-masks.ensures.1 in
    let at = (goal.at.returns-in_err-masks c).After-is_behind in
    let placed = right_test c.is_behind.result _ (order at) c.in_ok-here_unless.ensures.0 in
    let registers = inside_ok (codes "registers") _ _ c.read_list.result c.in_ok-registers.registers
    c.read_list.ensures c.in_ok-registers.ensures.same in
    let heap = inside_ok (codes "heap") _ _ c.read_list-2.result c.in_ok-heap.heap
    c.read_list-2.ensures c.in_ok-heap.ensures.same in
    rw (p.1, p.2) (point_told_masks _ _ _ _ c.in_ok-point.ensures.1 _ (number at).0 placed
    registers.0 heap.0 (inside_err (codes "alloc") _ _ c.read_list-3.result _ c.read_list-3.ensures
    c.in_err-masks.ensures.told))

pub returns-in_err-listed : goal.returns-in_err-listed
unfolding Tells
returns-in_err-listed c =
    let p = err_from_is_err_and c.from_residual-in_err-listed.result
    c.from_residual-in_err-listed.ensures.1 in
    rw (p.1, p.2) tt

pub returns-in_err-state : goal.returns-in_err-state
unfolding Tells
returns-in_err-state c =
    let p = err_from_is_err_and c.from_residual-in_err-state.result
    c.from_residual-in_err-state.ensures.1 in
    rw (p.1, p.2) tt

pub returns : goal.returns
returns c =
    let at = (goal.at.returns c).After-is_behind in
    let found = c.in_ok-point.ensures.1 in
    let placed = right_test c.is_behind.result _ (order at) c.in_ok-here_unless.ensures.0 in
    let registers = inside_ok (codes "registers") _ _ c.read_list.result c.in_ok-registers.registers
    c.read_list.ensures c.in_ok-registers.ensures.same in
    let heap = inside_ok (codes "heap") _ _ c.read_list-2.result c.in_ok-heap.heap
    c.read_list-2.ensures c.in_ok-heap.ensures.same in
    let masks = inside_ok (codes "alloc") _ _ c.read_list-3.result c.in_ok-masks.masks
    c.read_list-3.ensures c.in_ok-masks.ensures.same in (
      point_right _ _ _ _ found (number at).0 placed registers.0 heap.0 masks.0,
      (
        point_written c.args.rule.now.program.now c.args.rule.now.function (view c.args.value.now) _
            c.in_ok-state.state c.in_ok-registers.registers.items c.in_ok-heap.heap.items
            c.in_ok-masks.masks.items _ _ _ _ found masks.1.0 heap.1.0 (number at).1 registers.1.0
            c.in_ok-state.ensures.parts,
        record {
          fits = c.in_ok-state.ensures.parts.state;
          said = c.in_ok-state.ensures.said;
          all = own_says c.in_ok-heap.heap.items c.in_ok-masks.masks.items _ _
              (state_of c.in_ok-state.state)
              (c.in_ok-listed.ensures.pairs ∙ ap property_pairs c.deref.ensures.value)
              (c.in_ok-listed.ensures.sites ∙ ap mask_sites c.deref-2.ensures.value)
              c.in_ok-state.ensures.all;
        },
      ),
    )

-- what is listed of the state is right
pub state_of_parts-requires-clause-registers : goal.state_of_parts-requires-clause-registers
state_of_parts-requires-clause-registers c =
    let registers = inside_ok (codes "registers") _ _ c.read_list.result c.in_ok-registers.registers
    c.read_list.ensures c.in_ok-registers.ensures.same in
    listed_right _ _ _ registers.1.0 (under_none (codes "registers") _ registers.0)

pub state_of_parts-requires-clause-heap : goal.state_of_parts-requires-clause-heap
state_of_parts-requires-clause-heap c =
    let heap = inside_ok (codes "heap") _ _ c.read_list-2.result c.in_ok-heap.heap
    c.read_list-2.ensures c.in_ok-heap.ensures.same in
    listed_right _ _ _ heap.1.0 (under_none (codes "heap") _ heap.0)

pub state_of_parts-requires-clause-masks : goal.state_of_parts-requires-clause-masks
state_of_parts-requires-clause-masks c =
    let masks = inside_ok (codes "alloc") _ _ c.read_list-3.result c.in_ok-masks.masks
    c.read_list-3.ensures c.in_ok-masks.ensures.same in
    listed_right _ _ _ masks.1.0 (under_none (codes "alloc") _ masks.0)

-- .. and says nothing of what no program has
pub state_of_parts-requires-clause-own_registers : goal.state_of_parts-requires-clause-own_registers
state_of_parts-requires-clause-own_registers c =
    (inside_ok (codes "registers") _ _ c.read_list.result c.in_ok-registers.registers
    c.read_list.ensures c.in_ok-registers.ensures.same).1.1

pub state_of_parts-requires-clause-own_heap : goal.state_of_parts-requires-clause-own_heap
state_of_parts-requires-clause-own_heap c =
    (inside_ok (codes "heap") _ _ c.read_list-2.result c.in_ok-heap.heap
    c.read_list-2.ensures c.in_ok-heap.ensures.same).1.1
