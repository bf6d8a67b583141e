use Rattle.std.proofs.Common.{◌≡◌, ◌++◌, [], ◌∷◌, ◌-◌, ◌∙◌, rules, arith, ap, length, vec_len, ℕ, Vec}
use Rattle.ja_cert.proofs.Commas.{closed_none, closed_some}
use Rattle.ja_cert.proofs.pieces.close_list.Goals.{then-len-start, else-len-start}
use Rattle.ja_cert.proofs.pieces.close_list.Goals as goal

pub returns : goal.returns
returns c base ds size was =
    let text = c.args.text.now in
    let long : vec_len text ≡ length text.items = search rules in
    elim c.if-len-start.branch [
      | then-len-start w ↦
          closed_some base text.items c.if-len-start.text.items _ (vec_len text - 1) ds was
          (omega (arith, size, long, c.len.ensures, w.if-len-start.true))
          (ap (λ (v : Vec ℕ _). v.items) w.text-is ∙ w.pop.ensures.rest)
          (omega (arith, long)) c.in_ok-push.ensures.items
      | else-len-start w ↦
          closed_none base text.items _ ds was
          (omega (arith, size, long, c.len.ensures, w.if-len-start.false))
          (c.in_ok-push.ensures.items
          ∙ ap (λ (v : Vec ℕ _). v.items ++ 93 ∷ []) w.text-is)
    ]
