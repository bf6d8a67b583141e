use Rattle.std.proofs.Common.{◌≡◌, List, [], Some, None, Option, map, refl, sym, ap, subst}
use Rattle.std.specs.Prelude.{slice_get}
use Rattle.std.specs.List.{All}
use Rattle.std.specs.Option.{option_map_or}
use Rattle.std.proofs.lemmas.List.Elements.{All-from_recursion}
use Rattle.std.proofs.lemmas.Option.{slice_get_read, slice_get_past}
use Rattle.ja_graph.specs.declared.program.Function.{Function}
use Rattle.ja_graph.specs.WellFormed.{IsName}
use Rattle.ja_machine.specs.Nodes.{name_text}
use Rattle.ja_operations.proofs.activations.parameters.Goals as goal

pub returns-in-Some-clause-all : goal.returns-in-Some-clause-all
returns-in-Some-clause-all c =
    let p = c.args.program.now in
    let f : Function = c.in-Some.function.now in
    let n = c.args.function.0 in
    let read = c.in-Some.ensures.lookup in
    let at : slice_get p.functions n ≡ Some f = subst
    (λ (fs : List Function). slice_get fs n ≡ Some f) c.as_slice.ensures
    (slice_get_read c.as_slice.result.now _ n f refl (read.3.0) (read.1)) in
    subst (All (IsName p)) (sym c.as_slice-in-Some.ensures)
    (All-from_recursion (IsName p) f.parameters (c.requires.each n f at).parameters)

pub returns-in-None-clause-names : goal.returns-in-None-clause-names
returns-in-None-clause-names c =
    let p = c.args.program.now in
    let n = c.args.function.0 in
    let none : slice_get p.functions n ≡ None = subst
    (λ (fs : List Function). slice_get fs n ≡ None) c.as_slice.ensures
    (slice_get_past c.as_slice.result.now n (c.in-None.ensures.lookup.3)) in
    sym (ap (λ (o : Option Function). option_map_or
    (λ (fn : Function). map (name_text p) fn.parameters) o []) none)
