use base.Stored.{Coded-set}
use denote.Struct.Field.{bool-field}
use mathlib.Core.Bool.{Bool-set}
use Rattle.std.proofs.Common.{◌≡◌, sym, ◌∙◌, subst}
use Rattle.std.proofs.Math.Logic.{∥∥₁_elim}
use Rattle.std.specs.Result.{IfOk}
use Rattle.ja_abstract.specs.contracts.abstraction.NumberPart as number_part
use Rattle.ja_abstract.specs.contracts.abstraction.TextPart as text_part
use Rattle.ja_abstract.specs.declared.abstraction.NumberPart.{NumberPart}
use Rattle.ja_abstract.specs.declared.abstraction.TextPart.{TextPart}
use Rattle.ja_abstract.specs.AbstractValue.{AbstractProperty, no_property}
use Rattle.ja_abstract.specs.Contents.{opened}
use Rattle.ja_value.specs.declared.property.AProp.{AProp}
use Rattle.ja_value.specs.Value.{property_of}
use Rattle.ja_table.specs.code.Opened.{opened_property}
use Rattle.ja_table.proofs.OpenedProperties.{nothing_is, opened_some, opened_none}
use Rattle.ja_table.proofs.opening_heap.opened.Goals as goal

bits_set : IsSet bool-field.Value
bits_set = Bool-set

numbers_set : IsSet NumberPart
numbers_set = Coded-set (number_part.the_row).coded

texts_set : IsSet TextPart
texts_set = Coded-set (text_part.the_row).coded

properties_set : IsSet AbstractProperty
properties_set = hlevel (bits_set, numbers_set, texts_set)

pub returns-in-Some : goal.returns-in-Some
returns-in-Some c =
    let p = c.args.program.now in
    let is : opened p c.args.label c.args.key ≡ opened_property c.in-Some.object.now c.args.key =
    ∥∥₁_elim c.requires.program (properties_set _ _) (λ good. opened_some p good c.args.label
    c.args.key c.in-Some.object.now c.if-label.false (sym c.in-Some.ensures) c.requires.key) in
    subst (λ (e : AbstractProperty). IfOk c.opened_property.result (λ q. property_of q ≡ e))
    (sym is) c.opened_property.ensures

pub returns-in-None : goal.returns-in-None
returns-in-None c =
    let p = c.args.program.now in
    let is : opened p c.args.label c.args.key ≡ no_property =
    ∥∥₁_elim c.requires.program (properties_set _ _) (λ good. opened_none p good c.args.label
    c.args.key c.if-label.false (sym c.in-None.ensures)) in
    let none : AProp = record { value = c.empty.result; attrs = c.unknown_attrs.result } in
    nothing_is none c.empty.ensures c.unknown_attrs.ensures ∙ sym is
