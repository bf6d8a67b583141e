use Rattle.std.proofs.Common.{ap, sym, ◌≡◌, ◌∙◌, ◌+◌, Some, List, ℕ, ℤ, pos, false, filter, not, arith}
use Rattle.std.proofs.lemmas.Int.{ints}
use Rattle.std.specs.Prelude.{int_lt}
use Rattle.ja_machine.specs.declared.machine.Property.{Property}
use Rattle.ja_machine.specs.declared.machine.Object.{Object}
use Rattle.ja_machine.specs.Writes.{is_cut, without}
use Rattle.ja_heap.proofs.Cuts.{none_cut, not_lower}
use Rattle.ja_heap.proofs.IndexTexts.{one_cut}
use Rattle.ja_heap.proofs.object.Object.cut_below.Goals as goal

pub returns-then-from-old : goal.returns-then-from-old
returns-then-from-old c =
    let f : int_lt (pos c.args.new) c.args.old
    ≡ false = grind (arith, ints, c.if-from-old.true, c.from.ensures) in
    sym (ap (λ (qs : List Property). let o : Object = record c.args.self.now { properties = qs } in
    o) (none_cut (is_cut c.args.new (Some c.args.old)) c.args.self.now.properties
    (λ q. not_lower c.args.new c.args.old q f)))

pub returns-in-Some : goal.returns-in-Some
returns-in-Some c =
    let name : List ℕ = c.in-Some.name in
    let alone : c.args.old ≡ pos (c.args.new + 1) =
    grind (
      arith,
      ints,
      c.if-from-old.false,
      c.if-from-old-2.false,
      c.from.ensures,
      c.from-2.ensures,
    ) in
    let left : ℤ → List Property = λ old.
    filter (λ (q : Property). not (is_cut c.args.new (Some old) q)) c.args.self.now.properties in
    let cut : without c.args.self.now.properties name ≡ left c.args.old =
    one_cut c.args.new name c.args.self.now.properties c.in-Some.ensures ∙ ap left (sym alone) in
    let removed : c.remove.new.self ≡ left c.args.old =
    c.remove.ensures ∙ (ap (λ (o : Object). without o.properties name) c.self.view_is ∙ cut) in
    let put : Object → List Property → Object = λ o qs. record o { properties = qs } in
    ap (λ o. put o c.remove.new.self) c.self.view_is ∙ ap (put c.args.self.now) removed
