use Rattle.std.proofs.Common.{◌∙◌, sym, ap, take}
use Rattle.std.proofs.lemmas.List.{take_more}
use Rattle.ja_heap.specs.code.Slots.{has_name, slot_of}
use Rattle.ja_heap.proofs.InSlots.{first_at, pushed_past}
use Rattle.ja_heap.proofs.properties.looked_through.Goals as goal

pub returns-then-has_name : goal.returns-then-has_name
returns-then-has_name c =
    let name = c.args.name.now in
    let xs = c.args.slots.now in
    let i = c.loop-i.i in
    let x = c.index-slots-i.result in
    sym (first_at name xs i x c.loop-i-test.true c.loop-i.invariant
    (ap (has_name name) (sym c.index-slots-i.is)
    ∙ (sym c.has_name.ensures ∙ c.if-has_name.true)))

pub loop-i-preserved : goal.loop-i-preserved
loop-i-preserved c =
    let name = c.args.name.now in
    let xs = c.args.slots.now in
    let i = c.loop-i.i in
    let x = c.index-slots-i.result in
    ap (slot_of name) (take_more xs i x c.loop-i-test.true)
    ∙ (pushed_past name (take i xs) _ (ap (has_name name) (sym c.index-slots-i.is)
    ∙ (sym c.has_name.ensures ∙ c.if-has_name.false)) ∙ c.loop-i.invariant)
