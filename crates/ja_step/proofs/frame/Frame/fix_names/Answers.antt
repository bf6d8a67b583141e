use Rattle.std.proofs.Common.{rules, List, ap, refl}
use Rattle.ja_step.proofs.Lists.{set_at, push_at}
use Rattle.ja_machine.specs.declared.machine.Remaining.{Remaining}
use Rattle.ja_step.specs.code.Steps.{frame_of}
use Rattle.ja_step.proofs.frame.Frame.fix_names.Goals as goal

pub returns-then-place-len : goal.returns-then-place-len
returns-then-place-len c =
    ap (λ (rs : List Remaining). record (frame_of c.args.self.now) { lists = rs })
    (set_at c.args.list c.args.self.now.lists.items c.place-place.result c.place-place.ensures
    (record { list = c.args.list; names = c.args.names }) refl (search rules))

pub returns-in_ok-push : goal.returns-in_ok-push
returns-in_ok-push c =
    ap (λ (rs : List Remaining). record (frame_of c.args.self.now) { lists = rs })
    (rw (c.in_ok-push.ensures.items) (push_at c.args.list c.args.self.now.lists.items
    c.place-place.result c.place-place.ensures (record { list = c.args.list; names = c.args.names })
    refl (search rules)))
