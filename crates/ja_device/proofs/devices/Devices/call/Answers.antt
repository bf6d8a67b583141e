-- The device of the index was called, and has kept its name and its kinds.
use Rattle.std.proofs.Common.{◌<◌, sym, subst, length, map}
use Rattle.std.specs.Prelude.{slice_set}
use Rattle.ja_device.specs.Devices.{AllSeen, IsAsked}
use Rattle.ja_device.proofs.Signing.{still_signatures, is_asked}
use Rattle.ja_device.proofs.devices.Devices.call.Goals as goal

pub invariant_of-self : goal.invariant_of-self
invariant_of-self g c =
    let within = subst (λ (v : AllSeen). c.args.index < length v.devices) (sym c.self.view_is)
    c.requires in
    still_signatures g.D.Device.seen c.self.inside.list.items c.args.index c.index_mut.result.now
    c.call-answer.new.self c.args.args.now c.call-answer.result within c.index_mut.ensures.value
    c.call-answer.ensures c.self.invariant

pub returns : goal.returns
returns g c =
    let within = subst (λ (v : AllSeen). c.args.index < length v.devices) (sym c.self.view_is)
    c.requires in
    let after : AllSeen = record {
      devices = map g.D.Device.seen
          (slice_set c.self.inside.list.items c.args.index c.call-answer.new.self);
      failed = c.failed_after-self-inside.result;
    } in
    subst (λ before. IsAsked before after c.args.index c.args.args.now c.call-answer.result)
    c.self.view_is
    (is_asked g.D.Device.seen c.self.inside.list.items c.args.index c.index_mut.result.now
    c.call-answer.new.self c.args.args.now c.call-answer.result within c.index_mut.ensures.value
    c.call-answer.ensures c.self.inside.failed c.failed_after-self-inside.result
    c.failed_after-self-inside.ensures)
