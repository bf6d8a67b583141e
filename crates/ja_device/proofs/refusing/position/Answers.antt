-- By its index, a device is the first that has the name, or one more that doesn't have it.
use Rattle.std.proofs.Common.{sym, ◌∙◌, arith}
use Rattle.std.specs.Cmp.Lexicographic.{same_text, other_text}
use Rattle.std.proofs.lemmas.List.{length-map}
use Rattle.ja_device.proofs.Signing.{seen_at, first_here, none_more, none_of_all}
use Rattle.ja_device.proofs.refusing.position.Goals as goal

pub returns-then-eq : goal.returns-then-eq
returns-then-eq g c =
    first_here _ _ c.loop-index.index _ (seen_at (λ d. (g.D.Device.seen d).name) c.args.list.now
    c.loop-index.index c.index-list-index.result c.loop-index-test.true c.index-list-index.is)
    (sym c.name.ensures ∙ same_text _ _ c.if-eq.ensures) c.loop-index.invariant

pub loop-index-preserved : goal.loop-index-preserved
loop-index-preserved g c =
    none_more _ _ c.loop-index.index _ (seen_at (λ d. (g.D.Device.seen d).name) c.args.list.now
    c.loop-index.index c.index-list-index.result c.loop-index-test.true c.index-list-index.is)
    (λ e. other_text _ _ c.if-eq.ensures (c.name.ensures ∙ e)) c.loop-index.invariant

pub returns : goal.returns
returns g c =
    none_of_all _ _ c.loop-index.index (omega
    (arith, length-map c.args.list.now (λ d. (g.D.Device.seen d).name))) c.loop-index.invariant
