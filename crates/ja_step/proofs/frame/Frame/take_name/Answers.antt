use Rattle.std.proofs.Common.{rules, List, map, ap, refl, ◌∙◌}
use Rattle.ja_step.proofs.Lists.{names_at, no_names, list_at, set_at, push_at}
use Rattle.ja_machine.specs.declared.machine.Remaining.{Remaining}
use Rattle.ja_machine.specs.Frames.{with_remaining}
use Rattle.ja_step.specs.declared.frame.Listed.{Listed}
use Rattle.ja_step.specs.code.Steps.{frame_of, remaining_of}
use Rattle.ja_step.proofs.frame.Frame.take_name.Goals as goal

pub returns-then-place-len : goal.returns-then-place-len
returns-then-place-len c =
    let ls : List Listed = c.args.self.now.lists.items in
    let old : Listed = c.index_mut.result.now in
    let new : Listed = record { list = old.list; names = c.take_first.new.names } in
    let same = list_at c.args.list ls c.place-place.result c.place-place.ensures old (search rules)
    c.index_mut.ensures.value in
    let names = names_at c.args.list ls c.place-place.result c.place-place.ensures old
    (search rules) c.index_mut.ensures.value in
    ap (λ (rs : List Remaining). record (frame_of c.args.self.now) { lists = rs })
    (rw (← names, ← c.take_first.ensures)
    (set_at c.args.list ls c.place-place.result c.place-place.ensures new same (search rules)))

pub returns-in_ok-push : goal.returns-in_ok-push
returns-in_ok-push c =
    let ls : List Listed = c.args.self.now.lists.items in
    let none = no_names c.args.list ls c.place-place.result c.place-place.ensures (search rules) in
    let m : Listed = record { list = c.args.list; names = c.new.result } in
    let fixed = push_at c.args.list ls c.place-place.result c.place-place.ensures m refl
    (search rules) in
    ap (λ (rs : List Remaining). record (frame_of c.args.self.now) { lists = rs })
    (rw (c.in_ok-push.ensures.items, ← none)
    (fixed ∙ ap (with_remaining (map remaining_of ls) c.args.list) c.new.ensures.items))
