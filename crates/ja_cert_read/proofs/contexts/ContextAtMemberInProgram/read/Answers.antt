use Rattle.std.proofs.Common.{◌≡◌, ◌∙◌, map, None, rules, sym}
use Rattle.std.proofs.lemmas.Result.{err_from_is_err_and}
use lib.Chars.{codes}
use Rattle.ja_cert_json.specs.View.{view}
use Rattle.ja_abstract.specs.AbstractState.{label_number}
use Rattle.ja_cert.specs.Certificate.{label_data, whole}
use Rattle.ja_cert.specs.Wrong.{context_number, here_unless, is_above, is_function, is_label, under}
use Rattle.ja_cert_read.specs.code.Contexts.{listed_data}
use Rattle.ja_cert_read.proofs.ContextsRight.{above_contexts, context_number_is, context_written, function_is}
use Rattle.ja_cert_read.proofs.PointSteps.{context_right, context_told_entries, context_told_function, context_told_keys, context_told_order, context_told_points, context_told_receiver}
use Rattle.ja_cert_read.proofs.Told.{inside_err, inside_ok, right_test, tells_test}
use Rattle.ja_cert_read.proofs.contexts.ContextAtMemberInProgram.read.Goals as goal
use Rattle.ja_cert_read.proofs.contexts.ContextAtMemberInProgram.read.Goals.{After-is_behind, In_ok-function}

-- the numbers of the context are right, and it is compared with those before it
function : (c : In_ok-function)
    → (under (codes "function") (here_unless (is_function c.args.rule.now.program.now
    (view c.in_ok-own.own.second.now))) ≡ None)
    × (whole c.in_ok-function.function.0 ≡ view c.in_ok-own.own.second.now)
function c =
    let h = inside_ok (codes "function") _ _ c.read_function.result c.in_ok-function.function
    c.read_function.ensures c.in_ok-function.ensures.same in
    (h.0, h.1.0)

receiver : (c : After-is_behind)
    → (under (codes "receiver") (here_unless (is_label c.args.rule.now.program.now
    (view c.in_ok-own.own.fourth.now))) ≡ None)
    × (label_data c.in_ok-receiver.receiver ≡ view c.in_ok-own.own.fourth.now)
receiver c =
    let h = inside_ok (codes "receiver") _ _ c.read_label.result c.in_ok-receiver.receiver
    c.read_label.ensures c.in_ok-receiver.ensures.same in
    (h.0, h.1.0)

order : (c : After-is_behind)
    → whole c.in_ok-function.function.0 ≡ view c.in_ok-own.own.second.now
    → c.is_behind.result ≡ is_above context_number (map (listed_data c.args.rule.now.program.now)
    c.args.before.now) (view c.args.value.now)
order c function_at =
    let json = view c.args.value.now in
    let is = context_number_is json _ _ _ _ c.in_ok-function.function.0
    (label_number c.in_ok-receiver.receiver) c.in_ok-own.ensures.1 function_at (receiver c).1 in
    c.is_behind.ensures
    ∙ sym (above_contexts c.args.rule.now.program.now c.args.before.now json _ is)

pub returns-in_err-own : goal.returns-in_err-own
returns-in_err-own c = search (rules, context_told_keys)

pub returns-in_err-function : goal.returns-in_err-function
returns-in_err-function c =
    let p = err_from_is_err_and c.from_residual-in_err-function.result
    c.from_residual-in_err-function.ensures.1 in
    rw (p.1, p.2) (context_told_function _ _ _ c.in_ok-own.ensures.1 _
    (inside_err (codes "function") _ _ c.read_function.result _ c.read_function.ensures
    c.in_err-function.ensures.told))

pub returns-in_err-receiver : goal.returns-in_err-receiver
returns-in_err-receiver c =
    let p = err_from_is_err_and c.from_residual-in_err-receiver.result
    c.from_residual-in_err-receiver.ensures.1 in
    let known = function (goal.at.returns-in_err-receiver c).In_ok-function in
    rw (p.1, p.2) (context_told_receiver _ _ _ c.in_ok-own.ensures.1 _ known.0
    (inside_err (codes "receiver") _ _ c.read_label.result _ c.read_label.ensures
    c.in_err-receiver.ensures.told))

pub returns-in_err-here_unless : goal.returns-in_err-here_unless
returns-in_err-here_unless c =
    let p = err_from_is_err_and c.from_residual-in_err-here_unless.result
    c.from_residual-in_err-here_unless.ensures.1 in
    let at = goal.at.returns-in_err-here_unless c in
    let known = function at.In_ok-function in
    rw (p.1, p.2) (context_told_order _ _ _ c.in_ok-own.ensures.1 _ known.0
    (receiver at.After-is_behind).0
    (tells_test c.is_behind.result _ _ (order at.After-is_behind known.1)
    c.in_err-here_unless.ensures))

pub returns-in_err-entries : goal.returns-in_err-entries
returns-in_err-entries c =
    let p = err_from_is_err_and c.from_residual-in_err-entries.result
    c.from_residual-in_err-entries.ensures.1 in
    let at = goal.at.returns-in_err-entries c in
    let known = function at.In_ok-function in
    let placed = right_test c.is_behind.result _ (order at.After-is_behind known.1)
    c.in_ok-here_unless.ensures.0 in
    rw (p.1, p.2) (context_told_entries _ _ _ c.in_ok-own.ensures.1 _ known.0
    (receiver at.After-is_behind).0 placed
    (inside_err (codes "entries") _ _ c.read_list.result _ c.read_list.ensures
    c.in_err-entries.ensures.told))

pub returns-in_err-points : goal.returns-in_err-points
returns-in_err-points c =
    let p = err_from_is_err_and c.from_residual-in_err-points.result
    c.from_residual-in_err-points.ensures.1 in
    let at = goal.at.returns-in_err-points c in
    let known = function at.In_ok-function in
    let placed = right_test c.is_behind.result _ (order at.After-is_behind known.1)
    c.in_ok-here_unless.ensures.0 in
    let entries = inside_ok (codes "entries") _ _ c.read_list.result c.in_ok-entries.entries
    c.read_list.ensures c.in_ok-entries.ensures.same in
    let within = function_is _ c.in_ok-function.function known.1 in
    rw (p.1, p.2) (context_told_points _ _ _ c.in_ok-own.ensures.1 _ known.0
    (receiver at.After-is_behind).0 placed entries.0
    (rw within (inside_err (codes "points") _ _ c.read_list-2.result _ c.read_list-2.ensures
    c.in_err-points.ensures.told)))

pub returns : goal.returns
returns c =
    let at = goal.at.returns c in
    let found = c.in_ok-own.ensures.1 in
    let known = function at.In_ok-function in
    let label = receiver at.After-is_behind in
    let placed = right_test c.is_behind.result _ (order at.After-is_behind known.1)
    c.in_ok-here_unless.ensures.0 in
    let entries = inside_ok (codes "entries") _ _ c.read_list.result c.in_ok-entries.entries
    c.read_list.ensures c.in_ok-entries.ensures.same in
    let points = inside_ok (codes "points") _ _ c.read_list-2.result c.in_ok-points.points
    c.read_list-2.ensures c.in_ok-points.ensures.same in
    let within = function_is _ c.in_ok-function.function known.1 in (
      context_right _ _ _ found known.0 label.0 placed entries.0 (rw within points.0),
      (
        context_written c.args.rule.now.program.now (view c.args.value.now) _ _ _ _ _ found
            entries.1.0 known.1 points.1.0 label.1,
        record { states = points.1.1; entries = entries.1.1 },
      ),
    )
