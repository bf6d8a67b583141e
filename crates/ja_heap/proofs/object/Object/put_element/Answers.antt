use Rattle.std.proofs.Common.{◌≡◌, ◌∙◌, pos, false, cond, ap, sym, arith}
use Rattle.std.specs.Prelude.{int_lt, is_some}
use Rattle.std.proofs.lemmas.Int.{ints}
use Rattle.ja_machine.specs.Heap.{property_of}
use Rattle.ja_machine.specs.Writes.{object_with_value, property_number}
use Rattle.ja_heap.proofs.Puts.{length_set, element_put}
use Rattle.ja_heap.proofs.object.Object.put_element.Goals as goal

pub returns-then-from-get-clause-put : goal.returns-then-from-get-clause-put
returns-then-from-get-clause-put c =
    let o = c.args.self.now in
    let index = c.in-Some-Some.index in
    let old = c.in-Some-Some.old in
    let was = sym (c.length-old.ensures ∙ ap (λ l. property_number (property_of o l)) c.requires)
    ∙ c.in-Some-Some.is-1 in
    let now = c.in_ok-set_value.ensures.written in
    let low : int_lt (pos index) old ≡ false = grind
    (arith, ints, c.if-from-get.true, c.from.ensures, c.get.ensures.value) in
    let set = length_set o c.args.name.now c.args.v c.whole_number.result old
    c.replace_value.new.self was (c.replace_value.ensures
    ∙ (λ i. cond (is_some (property_of (now i) (c.requires i)))
    (object_with_value (now i) (c.requires i) c.whole_number.result) (now i))) in
    element_put o c.replace_value.new.self c.args.name.now c.args.v c.whole_number.result index old
    (sym c.array_index.ensures ∙ c.in-Some-Some.is-0) was low c.whole_number.ensures set
