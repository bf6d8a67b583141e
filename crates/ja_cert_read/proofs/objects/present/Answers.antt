use Rattle.std.specs.Vec.Iter.{into_iter_items}
use Rattle.ja_cert_read.proofs.Wholes.{leaving_in, leaving_out}
use Rattle.ja_cert_read.proofs.objects.present.Goals as goal

pub loop-write-preserved-in-Continue-1 : goal.loop-write-preserved-in-Continue-1
loop-write-preserved-in-Continue-1 c =
    leaving_in c.args.writes.list.items _ (into_iter_items c.next.new.self) c.in-Some.write
    c.loop-write.listed.items c.push.new.self.items c.loop-write.invariant
    c.in-Some.ensures.steps.0 c.in_ok-push.ensures.items

pub loop-write-preserved : goal.loop-write-preserved
loop-write-preserved c =
    leaving_out c.args.writes.list.items _ (into_iter_items c.next.new.self) c.in-Some.write
    c.loop-write.listed.items c.loop-write.invariant c.in-Some.ensures.steps.0
    (c.is_absent.ensures c.if-not-is_absent.false)
