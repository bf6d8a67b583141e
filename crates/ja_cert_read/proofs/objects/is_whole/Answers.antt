use Rattle.std.proofs.Common.{◌≡◌, ◌+◌, ◌∙◌, ap, arith, length, subst, sym}
use Rattle.ja_cert_read.proofs.Wholes.{set_all, set_more, write_at, SetUpTo}
use Rattle.ja_cert_read.proofs.objects.is_whole.Goals as goal

pub loop-place-preserved : goal.loop-place-preserved
loop-place-preserved c =
    let ws = c.args.writes.now in
    let k = c.loop-place.place in
    let w = c.index-writes-place.result in
    set_more c.args.names ws k w c.loop-place.invariant
    (write_at ws k w (omega (arith, c.loop-place-test.true)) c.index-writes-place.is) (
      c.if-write.false,
      sym c.key_number.ensures ∙ c.if-key_number-number_at.false
          ∙ c.number_at.ensures,
    )

pub returns : goal.returns
returns c = λ whole.
    let ws = c.args.writes.now in
    let all : c.loop-place.place ≡ length ws =
    omega (arith, c.loop-place-test.false, c.loop-place.auto.place-end) in
    set_all c.args.names ws (subst (SetUpTo c.args.names ws) all c.loop-place.invariant)
    (c.if-writes-from.false ∙ ap (λ n. n + 6) c.from.ensures)
