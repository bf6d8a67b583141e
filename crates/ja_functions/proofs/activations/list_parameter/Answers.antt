use Rattle.std.proofs.Common.{◌++◌, get_or, map, refl, sym, ap, ◌∙◌}
use Rattle.ja_base.specs.declared.ids.NameId.{NameId}
use Rattle.ja_graph.specs.declared.attrs.TheConstants.{DONT_DELETE}
use Rattle.ja_abstract.specs.declared.abstraction.Key.TheVariants as key
use Rattle.ja_abstract.specs.AbstractValue.{AbstractValue}
use Rattle.ja_abstract.specs.Made.{property_of}
use Rattle.ja_aheap.specs.Objects.{listed_of}
use Rattle.ja_transfer.specs.Outcomes.{at_view}
use Rattle.ja_functions.specs.code.Aged.{aged_at}
use Rattle.ja_functions.proofs.Lists.{Properties, listed_more, one_parameter}
use Rattle.ja_functions.proofs.activations.list_parameter.Goals as goal

pub returns : goal.returns
returns c =
    let names = c.args.names.now in
    let i = c.args.number in
    let first : NameId = record { 0 = 0 } in
    let a = aged_at (at_view c.args.stepper.now).state c.args.site c.args.arguments in
    let before : Properties = map listed_of c.args.listed.now.items in
    listed_more c.args.listed.now.items c.push.new.self.items _ before _ refl
    c.in_ok-push.ensures.items
    (c.property_of.ensures
    ∙ ap (λ (v : AbstractValue). property_of (key.Name (get_or names i first)) v DONT_DELETE)
    c.in_ok-value.ensures)
    ∙ ap (λ (xs : Properties). before ++ xs)
    (sym (one_parameter a names i first c.requires.number))
