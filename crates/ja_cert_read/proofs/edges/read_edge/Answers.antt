use Rattle.std.proofs.Common.{◌≡◌, ◌∷◌, [], ◌∙◌, ap, arith, length, map, rules, sym, None, Some}
use Rattle.std.proofs.lemmas.Bool.{ltb-false, ltb-true}
use Rattle.std.proofs.lemmas.List.{length-map}
use Rattle.std.proofs.lemmas.Result.{err_from_is_err_and}
use Rattle.std.specs.Fmt.{decimal}
use Rattle.ja_cert_json.specs.View.{view}
use Rattle.ja_cert.specs.Certificate.{label_data, listed, whole}
use Rattle.ja_cert.specs.Wrong.{at, here_unless, is_function, is_label, is_node, list_of}
use Rattle.ja_cert_read.proofs.EdgeSteps.{edge_right, edge_told_callee, edge_told_caller, edge_told_count, edge_told_entered, edge_told_list, edge_told_node, edge_told_receiver, edge_written, node_of}
use Rattle.ja_cert_read.proofs.ObjectLemmas.{five_read}
use Rattle.ja_cert_read.proofs.Told.{inside_err, inside_ok, tells_same}
use Rattle.ja_cert_read.proofs.edges.read_edge.Goals as goal
use Rattle.ja_cert_read.proofs.edges.read_edge.Goals.{in_default-via-then-branch-lt5, in_default-via-else-branch-lt5+else-this-lt6, After-read_function, In_ok-function, In_ok-receiver, In_ok-node, In_ok-function-2}

-- the five numbers of the list
found : (c : After-read_function)
    → let ds = view c.caller-item.result ∷ view c.receiver-item.result ∷ view c.node-item.result
    ∷ view c.callee-item.result ∷ view c.callee_receiver-item.result ∷ [] in
    (list_of (view c.args.value.now) ≡ Some ds) × (listed ds ≡ view c.args.value.now)
found c =
    let values = five_read _ _ _ _ _ _
    (omega (arith, c.in-len5.len_at_least, c.in-len5.len_below)) c.caller-item.is
    c.receiver-item.is c.node-item.is c.callee-item.is c.callee_receiver-item.is in (
      c.in_ok-list.ensures.1.0 ∙ ap (λ vs. Some (map view vs)) values,
      ap (λ vs. listed (map view vs)) (sym values) ∙ c.in_ok-list.ensures.1.1,
    )

pub returns-in_err-list : goal.returns-in_err-list
returns-in_err-list c = search (rules, edge_told_list)

pub returns-in_default : goal.returns-in_default
returns-in_default c =
    let values = c.in_ok-list.field-0.now in
    edge_told_count _ _ _ _ c.in_ok-list.ensures.1.0
    (λ five. let size : length values ≡ 5 = sym (length-map values view) ∙ five in
    elim c.in_default.branch [
      | in_default-via-then-branch-lt5 w ↦ omega (arith, ltb-true)
      | in_default-via-else-branch-lt5+else-this-lt6 w ↦ omega (arith, ltb-false)
    ]) c.here.ensures

pub returns-in_err-function : goal.returns-in_err-function
returns-in_err-function c =
    let p = err_from_is_err_and c.from_residual-in_err-function.result
    c.from_residual-in_err-function.ensures.1 in
    let from = goal.at.returns-in_err-function c in
    rw (p.1, p.2) (edge_told_caller _ _ (found from.After-read_function).0 _
    (inside_err _ _ _ c.read_function.result _ c.read_function.ensures
    c.in_err-function.ensures.told))

caller : (c : In_ok-function)
    → (at 0 (here_unless (is_function c.args.program.now (view c.caller-item.result))) ≡ None)
    × (whole c.in_ok-function.function.0 ≡ view c.caller-item.result)
caller c =
    let h = inside_ok (decimal 0) _ _ c.read_function.result c.in_ok-function.function
    c.read_function.ensures c.in_ok-function.ensures.same in
    (h.0, h.1.0)

pub returns-in_err-receiver : goal.returns-in_err-receiver
returns-in_err-receiver c =
    let p = err_from_is_err_and c.from_residual-in_err-receiver.result
    c.from_residual-in_err-receiver.ensures.1 in
    let from = goal.at.returns-in_err-receiver c in
    rw (p.1, p.2) (edge_told_receiver _ _ (found from.After-read_function).0 _
    (caller from.In_ok-function).0 (inside_err _ _ _ c.read_label.result _ c.read_label.ensures
    c.in_err-receiver.ensures.told))

receiver : (c : In_ok-receiver)
    → (at 1 (here_unless (is_label c.args.program.now (view c.receiver-item.result))) ≡ None)
    × (label_data c.in_ok-receiver.receiver ≡ view c.receiver-item.result)
receiver c =
    let h = inside_ok (decimal 1) _ _ c.read_label.result c.in_ok-receiver.receiver
    c.read_label.ensures c.in_ok-receiver.ensures.same in
    (h.0, h.1.0)

pub returns-in_err-node : goal.returns-in_err-node
returns-in_err-node c =
    let p = err_from_is_err_and c.from_residual-in_err-node.result
    c.from_residual-in_err-node.ensures.1 in
    let from = goal.at.returns-in_err-node c in
    let known = caller from.In_ok-function in
    let within = node_of c.args.program.now (view c.caller-item.result) (view c.node-item.result)
    c.in_ok-function.function known.1 in
    rw (p.1, p.2) (edge_told_node _ _ (found from.After-read_function).0 _ known.0
    (receiver from.In_ok-receiver).0 (tells_same _ _ _ (ap (λ b. at 2 (here_unless b)) (sym within))
    (inside_err _ _ _ c.read_node.result _ c.read_node.ensures c.in_err-node.ensures.told)))

node : (c : In_ok-node)
    → whole c.in_ok-function.function.0 ≡ view c.caller-item.result
    → (at 2 (here_unless (is_node c.args.program.now (view c.caller-item.result)
    (view c.node-item.result))) ≡ None) × (whole c.in_ok-node.node.0 ≡ view c.node-item.result)
node c known =
    let h = inside_ok (decimal 2) _ _ c.read_node.result c.in_ok-node.node
    c.read_node.ensures c.in_ok-node.ensures.same in
    let within = node_of c.args.program.now (view c.caller-item.result) (view c.node-item.result)
    c.in_ok-function.function known in
    (ap (λ b. at 2 (here_unless b)) (sym within) ∙ h.0, h.1.0)

pub returns-in_err-function-2 : goal.returns-in_err-function-2
returns-in_err-function-2 c =
    let p = err_from_is_err_and c.from_residual-in_err-function-2.result
    c.from_residual-in_err-function-2.ensures.1 in
    let from = goal.at.returns-in_err-function-2 c in
    let known = caller from.In_ok-function in
    rw (p.1, p.2) (edge_told_callee _ _ (found from.After-read_function).0 _ known.0
    (receiver from.In_ok-receiver).0 (node from.In_ok-node known.1).0
    (inside_err _ _ _ c.read_function-2.result _ c.read_function-2.ensures
    c.in_err-function-2.ensures.told))

callee : (c : In_ok-function-2)
    → (at 3 (here_unless (is_function c.args.program.now (view c.callee-item.result))) ≡ None)
    × (whole c.in_ok-function-2.function.0 ≡ view c.callee-item.result)
callee c =
    let h = inside_ok (decimal 3) _ _ c.read_function-2.result c.in_ok-function-2.function
    c.read_function-2.ensures c.in_ok-function-2.ensures.same in
    (h.0, h.1.0)

pub returns-in_err-receiver-2 : goal.returns-in_err-receiver-2
returns-in_err-receiver-2 c =
    let p = err_from_is_err_and c.from_residual-in_err-receiver-2.result
    c.from_residual-in_err-receiver-2.ensures.1 in
    let from = goal.at.returns-in_err-receiver-2 c in
    let known = caller from.In_ok-function in
    rw (p.1, p.2) (edge_told_entered _ _ (found from.After-read_function).0 _ known.0
    (receiver from.In_ok-receiver).0 (node from.In_ok-node known.1).0
    (callee from.In_ok-function-2).0 (inside_err _ _ _ c.read_label-2.result _
    c.read_label-2.ensures c.in_err-receiver-2.ensures.told))

pub returns : goal.returns
returns c =
    let from = goal.at.returns c in
    let all = found from.After-read_function in
    let a = caller from.In_ok-function in
    let b = receiver from.In_ok-receiver in
    let d = node from.In_ok-node a.1 in
    let e = callee from.In_ok-function-2 in
    let f = inside_ok (decimal 4) _ _ c.read_label-2.result c.in_ok-receiver-2.receiver
    c.read_label-2.ensures c.in_ok-receiver-2.ensures.same in (
      edge_right _ _ all.0 a.0 b.0 d.0 e.0 f.0,
      edge_written _ _ _ _ _ _ _ all.1 a.1 b.1 d.1 e.1 f.1.0,
    )
