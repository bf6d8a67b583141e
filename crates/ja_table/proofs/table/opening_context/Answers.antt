use Rattle.std.proofs.Common.{◌<◌, refl, sym, ◌∙◌, subst}
use Rattle.std.proofs.lemmas.Option.{same_Some}
use Rattle.ja_base.specs.declared.ids.Context.{Context}
use Rattle.ja_machine.specs.Frames.{registers_of}
use Rattle.ja_astate.specs.State.{IsStateOf}
use Rattle.ja_table.specs.Tables.{IsContext}
use Rattle.ja_table.proofs.TableLemmas.{root_is_context, root_within, states_opening, fits_put}
use Rattle.ja_table.proofs.table.opening_context.Goals as goal

pub new-requires : goal.new-requires
new-requires c =
    subst (IsContext c.args.program.now) (sym c.own_context.ensures)
    (root_is_context c.args.program.now c.requires)

pub index_mut-requires : goal.index_mut-requires
index_mut-requires c =
    let own = c.in_ok-own.own in
    subst (λ n. 0 < n) (sym own.nodes.ok.0) (root_within c.args.program.now c.requires own
    c.in_ok-own.ensures.fits (c.in_ok-own.ensures.context ∙ c.own_context.ensures))

pub returns-clause-states : goal.returns-clause-states
returns-clause-states c =
    states_opening c.args.program.now c.requires c.own_context.result c.in_ok-own.own.nodes.items
    _ c.in_ok-opening.field-0 c.own_context.ensures c.in_ok-own.ensures.nodes refl
    c.in_ok-opening.ensures.state

pub returns-clause-fits : goal.returns-clause-fits
returns-clause-fits c =
    let own = c.in_ok-own.own in
    let p = c.args.program.now in
    let is = c.in_ok-own.ensures.context ∙ c.own_context.ensures in
    fits_put p own _ 0 _ c.in_ok-own.ensures.fits
    (root_within p c.requires own c.in_ok-own.ensures.fits is) refl refl
    (λ s e. subst (IsStateOf p (registers_of p own.context.function))
    (same_Some c.in_ok-opening.field-0 s e)
    (subst (λ (x : Context). IsStateOf p (registers_of p x.function) c.in_ok-opening.field-0)
    (sym is) c.in_ok-opening.ensures.shape)) refl
