-- By its index, a device is the first that can't stand behind those before it, or one more that
-- can.
use Rattle.std.proofs.Common.{◌≤◌, length, map, Some, None, arith, subst, sym}
use Rattle.std.proofs.lemmas.List.{length-map, take-map}
use Rattle.ja_device.specs.Devices.{signature_of}
use Rattle.ja_device.specs.code.Signatures.{IsFaultBehind}
use Rattle.ja_device.proofs.Signing.{seen_at, front_more, refused_behind}
use Rattle.ja_device.proofs.refusing.judged.Goals as goal

pub returns-in-Some : goal.returns-in-Some
returns-in-Some g c =
    let signature = λ (d : g.row.D.Denot). signature_of (g.D.Device.seen d) in
    let few : length (map signature c.args.list.now)
    ≤ 64 = omega (arith, c.loop-index.invariant.few, length-map c.args.list.now signature) in
    refused_behind _ c.loop-index.index _ c.in-Some.fault
    (seen_at signature c.args.list.now c.loop-index.index c.index-list-index.result
    c.loop-index-test.true c.index-list-index.is) few
    c.loop-index.invariant.before (subst (λ ss.
    IsFaultBehind ss (signature c.index-list-index.result) (Some c.in-Some.fault))
    (sym (take-map signature c.loop-index.index c.args.list.now)) c.in-Some.ensures)

pub loop-index-preserved : goal.loop-index-preserved
loop-index-preserved g c =
    let signature = λ (d : g.row.D.Denot). signature_of (g.D.Device.seen d) in
    let few : length (map signature c.args.list.now)
    ≤ 64 = omega (arith, c.loop-index.invariant.few, length-map c.args.list.now signature) in
    record {
      few = c.loop-index.invariant.few;
      before =
          front_more _ c.loop-index.index _ (seen_at signature c.args.list.now c.loop-index.index
          c.index-list-index.result c.loop-index-test.true c.index-list-index.is) few
          c.loop-index.invariant.before (subst
          (λ ss. IsFaultBehind ss (signature c.index-list-index.result) None)
          (sym (take-map signature c.loop-index.index c.args.list.now)) c.in_default.ensures);
    }
