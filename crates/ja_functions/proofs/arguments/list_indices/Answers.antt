use Rattle.std.proofs.Common.{◌≡◌, ◌+◌, ◌++◌, List, Some, get_or, map, take, sym, subst, ap, ◌∙◌}
use Rattle.std.proofs.lemmas.Option.{slice_get-get_or}
use Rattle.std.specs.Prelude.{IsTrue}
use Rattle.ja_base.proofs.Lists.{all_at}
use Rattle.ja_abstract.specs.declared.abstraction.Key.{Key}
use Rattle.ja_abstract.specs.declared.abstraction.Key.TheVariants as key
use Rattle.ja_abstract.specs.AbstractState.{is_key}
use Rattle.ja_abstract.specs.InProgram.{AreKeys}
use Rattle.ja_abstract.specs.Keys.{index_keys}
use Rattle.ja_abstract.proofs.WritesInProgram.{index_keys_are}
use Rattle.ja_aheap.specs.Objects.{listed_of}
use Rattle.ja_transfer.specs.Outcomes.{at_view}
use Rattle.ja_functions.specs.code.Aged.{aged_at, index_properties}
use Rattle.ja_functions.proofs.Lists.{Properties, indices_more}
use Rattle.ja_functions.proofs.arguments.list_indices.Goals as goal

abbrev first_name : Key
first_name = key.Name (record { 0 = 0 })

pub list_index-requires-clause-key : goal.list_index-requires-clause-key
list_index-requires-clause-key c =
    let s = c.args.stepper.now in
    let p = s.reader.program.now in
    let items = c.indices-key-items.result.now in
    let i = c.loop-key.key-index in
    let are : items ≡ index_keys p = c.indices-key-items.ensures p s.reader.keys_are in
    all_at (λ (k : Key). IsTrue (is_key p k)) items i (get_or items i first_name)
    (subst (AreKeys p) (sym are) (index_keys_are p))
    (slice_get-get_or items i first_name c.loop-key-test.true)

pub loop-key-preserved : goal.loop-key-preserved
loop-key-preserved c =
    let s = c.args.stepper.now in
    let p = s.reader.program.now in
    let f = s.context.function in
    let a = aged_at (at_view s).state c.args.site (Some c.args.list) in
    let items = c.indices-key-items.result.now in
    let i = c.loop-key.key-index in
    let are : items ≡ index_keys p = c.indices-key-items.ensures p s.reader.keys_are in
    let first : Properties = map listed_of c.args.listed.now.items in
    indices_more p f a items i first_name first _ _ c.loop-key-test.true
    (c.loop-key.invariant
    ∙ ap (λ (ks : List Key). first ++ index_properties p f a (take i ks)) (sym are))
    c.in_ok-list_index.ensures
    ∙ ap (λ (ks : List Key). first ++ index_properties p f a (take (i + 1) ks)) are
