use Rattle.std.proofs.Common.{◌≡◌, ◌<◌, None, length, get_or, take, sym, ap, subst, ◌∙◌, arith}
use Rattle.std.specs.List.{flat_map}
use Rattle.std.proofs.lemmas.List.{take_all}
use Rattle.ja_table.specs.Tables.{FitsContext}
use Rattle.ja_warn.specs.code.Faults.{held, reached_of_context}
use Rattle.ja_warn.proofs.Held.{held_context}
use Rattle.ja_warn.proofs.faults.operations_by.Goals as goal

pub add_context-requires-clause-fits : goal.add_context-requires-clause-fits
add_context-requires-clause-fits c =
    let cs = c.args.table.now.contexts.items in
    let n = c.loop-own.own-index in
    let own = c.own-item.result in
    let is : own ≡ get_or cs n own = cc (c.own-item.is, c.deref-own-items.ensures.value) in
    let within : n < length cs = omega (arith, ap length c.deref-own-items.ensures.value) in
    subst (FitsContext c.args.program.now) (sym is) (c.requires.fits.each n own within)

pub loop-own-preserved : goal.loop-own-preserved
loop-own-preserved c =
    let cs = c.args.table.now.contexts.items in
    let n = c.loop-own.own-index in
    let own = c.own-item.result in
    let is : own ≡ get_or cs n own = cc (c.own-item.is, c.deref-own-items.ensures.value) in
    let within : n < length cs = omega (arith, ap length c.deref-own-items.ensures.value) in
    λ k. held_context c.args.program.now k cs n own _ _ within is (c.loop-own.invariant k)
    (c.in_ok-add_context.ensures k)

pub returns : goal.returns
returns c =
    let cs = c.args.table.now.contexts.items in
    let all : take c.loop-own.own-index cs ≡ cs =
    take_all c.loop-own.own-index cs (omega (arith, ap length c.deref-own-items.ensures.value)) in
    λ k. c.loop-own.invariant k
    ∙ ap (λ xs. held k None (flat_map (reached_of_context c.args.program.now) xs)) all
