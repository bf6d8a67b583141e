use Rattle.std.proofs.Common.{◌∙◌, arith}
use Rattle.std.proofs.lemmas.Result.{err_from_is_err_and}
use Rattle.ja_cert_read.proofs.ItemsRight.{back_written, behind_along, behind_open, behind_step, fill_written, none_there, open_is, open_written, step_written}
use Rattle.ja_cert_read.proofs.Told.{tells_same}
use Rattle.ja_cert_read.proofs.items.read_behind.Goals as goal

pub returns-in_err-here_unless-in-0 : goal.returns-in_err-here_unless-in-0
returns-in_err-here_unless-in-0 c =
    let p = err_from_is_err_and c.from_residual.result c.from_residual.ensures.1 in
    let none = behind_open _ _ _ c.in-0.is ∙ open_is c.args.values.now _ c.is_empty.ensures in
    rw (p.1, p.2) (tells_same _ _ _ none c.in_err-here_unless-in-0.ensures)

pub returns-in_err-context-in-1 : goal.returns-in_err-context-in-1
returns-in_err-context-in-1 c =
    let p = err_from_is_err_and c.from_residual-in_err-context-in-1.result
    c.from_residual-in_err-context-in-1.ensures.1 in
    rw (p.1, p.2) (tells_same _ _ _ (behind_step _ _ _ c.in-1.is) c.in_err-context-in-1.ensures)

pub returns-in_err-edge-in-2 : goal.returns-in_err-edge-in-2
returns-in_err-edge-in-2 c =
    let p = err_from_is_err_and c.from_residual-in_err-edge-in-2.result
    c.from_residual-in_err-edge-in-2.ensures.1 in
    rw (p.1, p.2) (tells_same _ _ _ (behind_along _ _ _ (λ no. omega (arith, no, c.in-2.is))
    (λ no. omega (arith, no, c.in-2.is))) c.in_err-edge-in-2.ensures)

pub returns-in_err-edge-in_default : goal.returns-in_err-edge-in_default
returns-in_err-edge-in_default c =
    let p = err_from_is_err_and c.from_residual-in_err-edge-in_default.result
    c.from_residual-in_err-edge-in_default.ensures.1 in
    rw (p.1, p.2) (tells_same _ _ _ (behind_along _ _ _ (λ no. omega (arith, no))
    (λ no. omega (arith, no))) c.in_err-edge-in_default.ensures)

pub returns-in_ok-here_unless-in-0 : goal.returns-in_ok-here_unless-in-0
returns-in_ok-here_unless-in-0 c =
    let empty = open_is c.args.values.now _ c.is_empty.ensures
    ∙ c.in_ok-here_unless-in-0.ensures.0 in
    (behind_open _ _ _ c.in-0.is ∙ empty, open_written _ _ c.in-0.is (none_there _ empty))

pub returns-in_ok-context-in-1 : goal.returns-in_ok-context-in-1
returns-in_ok-context-in-1 c = (
  behind_step _ _ _ c.in-1.is ∙ c.in_ok-context-in-1.ensures.0,
  step_written _ _ _ _ c.in-1.is c.in_ok-context-in-1.ensures.1,
)

pub returns-in_ok-edge-in-2 : goal.returns-in_ok-edge-in-2
returns-in_ok-edge-in-2 c = (
  behind_along _ _ _ (λ no. omega (arith, no, c.in-2.is)) (λ no. omega (arith, no, c.in-2.is))
      ∙ c.in_ok-edge-in-2.ensures.0,
  fill_written _ _ _ c.in-2.is c.in_ok-edge-in-2.ensures.1,
)

pub returns-in_ok-edge-in_default : goal.returns-in_ok-edge-in_default
returns-in_ok-edge-in_default c = (
  behind_along _ _ _ (λ no. omega (arith, no)) (λ no. omega (arith, no))
      ∙ c.in_ok-edge-in_default.ensures.0,
  back_written c.args.place _ _ (λ no. omega (arith, no)) (λ no. omega (arith, no))
      (λ no. omega (arith, no))
      c.in_ok-edge-in_default.ensures.1,
)
