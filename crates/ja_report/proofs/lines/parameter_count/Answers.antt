use Rattle.std.proofs.Common.{◌≡◌, ◌≤◌, ◌∙◌, ℕ, List, Some, None, Option, refl, sym, ap, subst, arith}
use Rattle.std.specs.Prelude.{length, slice_get}
use Rattle.std.specs.Option.{option_map_or}
use Rattle.std.proofs.lemmas.Option.{slice_get_read, slice_get_past}
use Rattle.ja_graph.specs.WellFormed.{IsWellFormed, fixed_registers, max_registers}
use Rattle.ja_graph.specs.declared.program.Function.{Function}
use Rattle.ja_graph.specs.declared.program.Program.{Program}
use Rattle.ja_report.proofs.lines.parameter_count.Goals as goal

-- a function has few parameters
few_parameters : (p : Program) (f : ℕ) (fn : Function) → IsWellFormed p
    → slice_get p.functions f ≡ Some fn → length fn.parameters ≤ max_registers
few_parameters p f fn well is =
    let own = well.each f fn is in
    let enough : fixed_registers fn ≤ fn.registers = own.registers in
    omega (arith, enough, own.few_registers)

pub overflow_cast-result : goal.overflow_cast-result
overflow_cast-result c =
    let p = c.args.program.now in
    let f : Function = c.in-Some.function.now in
    let n = c.args.function.0 in
    let read = c.in-Some.ensures.lookup in
    let at : slice_get p.functions n ≡ Some f = subst
    (λ (fs : List Function). slice_get fs n ≡ Some f) c.as_slice.ensures
    (slice_get_read c.as_slice.result.now _ n f refl (read.3.0) (read.1)) in
    omega (arith, c.len.ensures, few_parameters p n f c.requires at)

pub returns-in-Some : goal.returns-in-Some
returns-in-Some c =
    let p = c.args.program.now in
    let f : Function = c.in-Some.function.now in
    let n = c.args.function.0 in
    let read = c.in-Some.ensures.lookup in
    let at : slice_get p.functions n ≡ Some f = subst
    (λ (fs : List Function). slice_get fs n ≡ Some f) c.as_slice.ensures
    (slice_get_read c.as_slice.result.now _ n f refl (read.3.0) (read.1)) in
    c.len.ensures ∙ sym (ap (λ (o : Option Function). option_map_or
    (λ (fn : Function). length fn.parameters) o 0) at)

pub returns-in-None : goal.returns-in-None
returns-in-None c =
    let p = c.args.program.now in
    let n = c.args.function.0 in
    let none : slice_get p.functions n ≡ None = subst
    (λ (fs : List Function). slice_get fs n ≡ None) c.as_slice.ensures
    (slice_get_past c.as_slice.result.now n (c.in-None.ensures.lookup.3)) in
    sym (ap (λ (o : Option Function). option_map_or
    (λ (fn : Function). length fn.parameters) o 0) none)
