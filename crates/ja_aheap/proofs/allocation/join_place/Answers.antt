use Rattle.std.proofs.Common.{◌==◌, if◌then◌else◌, List, Option, ap, sym, ◌∙◌}
use Rattle.ja_abstract.specs.Made.{Own}
use Rattle.ja_trie.specs.Join.{kept_or}
use Rattle.ja_aheap.specs.declared.object.AObject.{AObject}
use Rattle.ja_aheap.specs.code.Own.{own_below, join_owns, own_in_place}
use Rattle.ja_aheap.proofs.HeapLemmas.{shown_within, set_in_place, same_in_place}
use Rattle.ja_aheap.proofs.allocation.join_place.Goals as goal

pub returns-in_ok-set-in-Some-clause-joined : goal.returns-in_ok-set-in-Some-clause-joined
returns-in_ok-set-in-Some-clause-joined g c = λ n.
    let names = c.args.names in
    let objects = c.args.objects.now in
    let mine = shown_within names objects c.args.into c.get.result.now c.requires.into
    c.get.ensures in
    let its = shown_within names objects c.args.from c.get-2.result.now c.requires.from
    c.get-2.ensures in
    let both = ap (λ (a : Option AObject). own_below names (kept_or c.get.result.now a))
    (sym c.in-Some.is) ∙ c.in_ok-joined.ensures.joined ∙ (λ i. join_owns (mine i) (its i)) in
    ap (λ (os : List AObject). own_in_place names os n) c.in_ok-set-in-Some.ensures.ok
    ∙ set_in_place names objects c.args.into c.in-Some.joined c.requires.into n
    ∙ ap (λ (own : Own). if c.args.into == n then own else own_in_place names objects n) both

pub returns-in-None-clause-joined : goal.returns-in-None-clause-joined
returns-in-None-clause-joined g c = λ n.
    let names = c.args.names in
    let objects = c.args.objects.now in
    let mine = shown_within names objects c.args.into c.get.result.now c.requires.into
    c.get.ensures in
    let its = shown_within names objects c.args.from c.get-2.result.now c.requires.from
    c.get-2.ensures in
    let both = ap (λ (a : Option AObject). own_below names (kept_or c.get.result.now a))
    (sym c.in-None.is) ∙ c.in_ok-joined.ensures.joined ∙ (λ i. join_owns (mine i) (its i)) in
    same_in_place (own_in_place names objects) c.args.into n _ (sym mine ∙ both)
