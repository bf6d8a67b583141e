use Rattle.std.proofs.Common.{◌≡◌, ◌<◌, ◌∙◌, ◌++◌, length, get_or, sym, ap, subst, arith}
use Rattle.std.specs.List.{flat_map}
use Rattle.std.proofs.lemmas.List.{take_all}
use Rattle.ja_table.specs.Tables.{FitsContext}
use Rattle.ja_check.specs.code.Checking.{steps_in}
use Rattle.ja_check.proofs.Lists.{listed_next}
use Rattle.ja_check.proofs.table_items.push_steps.Goals as goal

pub push_steps_of-requires-clause-fits : goal.push_steps_of-requires-clause-fits
push_steps_of-requires-clause-fits c =
    let cs = c.args.table.now.contexts.items in
    let n = c.loop-own.own-index in
    let own = c.own-item.result in
    let is : own ≡ get_or cs n own = cc (c.own-item.is, c.deref-own-items.ensures.value) in
    let within : n < length cs = omega (arith, ap length c.deref-own-items.ensures.value) in
    subst (FitsContext c.args.program.now) (sym is) (c.requires.fits.each n own within)

pub loop-own-preserved : goal.loop-own-preserved
loop-own-preserved c =
    let cs = c.args.table.now.contexts.items in
    let n = c.loop-own.own-index in
    let own = c.own-item.result in
    let is : own ≡ get_or cs n own = cc (c.own-item.is, c.deref-own-items.ensures.value) in
    let within : n < length cs = omega (arith, ap length c.deref-own-items.ensures.value) in
    listed_next (steps_in c.args.program.now) c.args.items.now.items c.loop-own.items.items
    c.push_steps_of.new.items.items cs n own within is c.loop-own.invariant
    c.in_ok-push_steps_of.ensures

pub returns : goal.returns
returns c =
    c.loop-own.invariant
    ∙ ap (λ xs. c.args.items.now.items ++ flat_map (steps_in c.args.program.now) xs)
    (take_all c.loop-own.own-index c.args.table.now.contexts.items
    (omega (arith, c.loop-own-test.false, ap length c.deref-own-items.ensures.value)))
