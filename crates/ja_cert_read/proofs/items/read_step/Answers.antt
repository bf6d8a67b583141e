use Rattle.std.proofs.Common.{◌≡◌, ◌∷◌, [], ◌∙◌, ap, arith, length, map, sym, None}
use Rattle.std.proofs.lemmas.Bool.{ltb-false, ltb-true}
use Rattle.std.proofs.lemmas.List.{length-map}
use Rattle.std.proofs.lemmas.Result.{err_from_is_err_and}
use Rattle.std.specs.Fmt.{decimal}
use Rattle.ja_cert_json.specs.View.{view}
use Rattle.ja_cert.specs.Certificate.{label_data, whole}
use Rattle.ja_cert.specs.Wrong.{at, here_unless, is_function, is_label}
use Rattle.ja_cert_read.proofs.EdgeSteps.{node_of}
use Rattle.ja_cert_read.proofs.ItemsRight.{step_right, step_told_count, step_told_function, step_told_node, step_told_receiver}
use Rattle.ja_cert_read.proofs.ObjectLemmas.{three_read}
use Rattle.ja_cert_read.proofs.Told.{inside_err, inside_ok, tells_same}
use Rattle.ja_cert_read.proofs.items.read_step.Goals as goal
use Rattle.ja_cert_read.proofs.items.read_step.Goals.{in_default-via-then-values-lt3, in_default-via-else-values-lt3+else-values-lt4, After-read_function, In_ok-function, In_ok-receiver}

values : (c : After-read_function)
    → map view c.args.values.now ≡ view c.function-item.result ∷ view c.receiver-item.result
    ∷ view c.node-item.result ∷ []
values c =
    ap (map view) (three_read _ _ _ _ (omega (arith, c.in-len3.len_at_least, c.in-len3.len_below))
    c.function-item.is c.receiver-item.is c.node-item.is)

function : (c : In_ok-function)
    → (at 1 (here_unless (is_function c.args.program.now (view c.function-item.result))) ≡ None)
    × (whole c.in_ok-function.function.0 ≡ view c.function-item.result)
function c =
    let h = inside_ok (decimal 1) _ _ c.read_function.result c.in_ok-function.function
    c.read_function.ensures c.in_ok-function.ensures.same in
    (h.0, h.1.0)

receiver : (c : In_ok-receiver)
    → (at 2 (here_unless (is_label c.args.program.now (view c.receiver-item.result))) ≡ None)
    × (label_data c.in_ok-receiver.receiver ≡ view c.receiver-item.result)
receiver c =
    let h = inside_ok (decimal 2) _ _ c.read_label.result c.in_ok-receiver.receiver
    c.read_label.ensures c.in_ok-receiver.ensures.same in
    (h.0, h.1.0)

pub returns-in_default : goal.returns-in_default
returns-in_default c =
    step_told_count _ _ _ (λ count. let size : length c.args.values.now ≡ 3 =
    sym (length-map c.args.values.now view) ∙ count in
    elim c.in_default.branch [
      | in_default-via-then-values-lt3 w ↦ omega (arith, ltb-true)
      | in_default-via-else-values-lt3+else-values-lt4 w ↦ omega (arith, ltb-false)
    ]) c.here.ensures

pub returns-in_err-function : goal.returns-in_err-function
returns-in_err-function c =
    let p = err_from_is_err_and c.from_residual.result c.from_residual.ensures.1 in
    let from = goal.at.returns-in_err-function c in
    rw (p.1, p.2) (step_told_function _ _ (values from.After-read_function) _
    (inside_err _ _ _ c.read_function.result _ c.read_function.ensures
    c.in_err-function.ensures.told))

pub returns-in_err-receiver : goal.returns-in_err-receiver
returns-in_err-receiver c =
    let p = err_from_is_err_and c.from_residual-in_err-receiver.result
    c.from_residual-in_err-receiver.ensures.1 in
    let from = goal.at.returns-in_err-receiver c in
    rw (p.1, p.2) (step_told_receiver _ _ (values from.After-read_function) _
    (function from.In_ok-function).0 (inside_err _ _ _ c.read_label.result _ c.read_label.ensures
    c.in_err-receiver.ensures.told))

pub returns-in_err-node : goal.returns-in_err-node
returns-in_err-node c =
    let p = err_from_is_err_and c.from_residual-in_err-node.result
    c.from_residual-in_err-node.ensures.1 in
    let from = goal.at.returns-in_err-node c in
    let known = function from.In_ok-function in
    let within = node_of c.args.program.now (view c.function-item.result) (view c.node-item.result)
    c.in_ok-function.function known.1 in
    rw (p.1, p.2) (step_told_node _ _ (values from.After-read_function) _ known.0
    (receiver from.In_ok-receiver).0 (tells_same _ _ _ (ap (λ b. at 3 (here_unless b)) (sym within))
    (inside_err _ _ _ c.read_node.result _ c.read_node.ensures c.in_err-node.ensures.told)))

pub returns : goal.returns
returns c =
    let from = goal.at.returns c in
    let all = values from.After-read_function in
    let a = function from.In_ok-function in
    let b = receiver from.In_ok-receiver in
    let within = node_of c.args.program.now (view c.function-item.result) (view c.node-item.result)
    c.in_ok-function.function a.1 in
    let d = inside_ok (decimal 3) _ _ c.read_node.result c.in_ok-node.node
    c.read_node.ensures c.in_ok-node.ensures.same in (
      step_right _ _ all a.0 b.0 (ap (λ b. at 3 (here_unless b)) (sym within) ∙ d.0),
      rw (a.1, b.1, d.1.0) (sym all),
    )
