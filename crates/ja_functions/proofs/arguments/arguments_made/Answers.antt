use Rattle.std.proofs.Common.{[], ◌∷◌, ◌++◌, Some, map, ap, ◌∙◌}
use Rattle.ja_graph.specs.declared.attrs.TheConstants.{DONT_ENUM}
use Rattle.ja_graph.specs.declared.builtins.TheConstants as builtins
use Rattle.ja_abstract.specs.declared.abstraction.Key.TheVariants as key
use Rattle.ja_abstract.specs.AbstractValue.{AbstractValue}
use Rattle.ja_abstract.specs.Keys.{index_keys}
use Rattle.ja_abstract.specs.Made.{own_of, inherits, property_of, length_key}
use Rattle.ja_aheap.specs.Objects.{listed_of}
use Rattle.ja_transfer.specs.Outcomes.{at_view}
use Rattle.ja_functions.specs.code.Aged.{aged_at, index_properties}
use Rattle.ja_functions.proofs.IndexKeys.{own_is}
use Rattle.ja_functions.proofs.Lists.{Properties, listed_three}
use Rattle.ja_functions.proofs.arguments.arguments_made.Goals as goal

pub returns : goal.returns
returns c =
    let s = c.args.stepper.now in
    let p = s.reader.program.now in
    let f = s.context.function in
    let a = aged_at (at_view s).state c.args.site (Some c.args.list) in
    let rest : Properties = inherits builtins.OBJECT_PROTOTYPE
    ∷ property_of (key.Name builtins.CALLEE) (a.register 3) DONT_ENUM
    ∷ property_of length_key (a.register 4) DONT_ENUM ∷ [] in
    ap own_of (listed_three c.list_indices.new.listed.items c.push.new.self.items
    c.push-2.new.self.items c.push-3.new.self.items _ _ _
    (index_properties p f a (index_keys p)) _ _ _
    (c.in_ok-list_indices.ensures
    ∙ ap (λ (xs : Properties). xs ++ index_properties p f a (index_keys p))
    (ap (map listed_of) c.new-listed.ensures.items))
    c.in_ok-push.ensures.items c.in_ok-push-2.ensures.items c.in_ok-push-3.ensures.items
    c.in_ok-inherits.ensures
    (c.property_of.ensures ∙ ap (λ (v : AbstractValue). property_of (key.Name builtins.CALLEE) v
    DONT_ENUM) c.in_ok-callee.ensures)
    (c.property_of-2.ensures ∙ ap (λ (v : AbstractValue). property_of length_key v DONT_ENUM)
    c.in_ok-count.ensures))
    ∙ own_is p f a rest
