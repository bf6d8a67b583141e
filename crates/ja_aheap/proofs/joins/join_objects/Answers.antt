use Rattle.std.proofs.Common.{◌≡◌, ◌≢◌, sym, ◌∙◌, subst}
use Rattle.ja_trie.specs.Join.{kept_or}
use Rattle.ja_aheap.specs.declared.object.AObject.{AObject}
use Rattle.ja_aheap.specs.code.Own.{own_below, join_owns}
use Rattle.ja_aheap.proofs.HeapLemmas.{joined_in_place, changed_in_place, kept_in_place, some_put, none_put, no_paths}
use Rattle.ja_aheap.proofs.joins.join_objects.Goals as goal

pub returns-clause-joined : goal.returns-clause-joined
returns-clause-joined g c = λ n.
    let h = c.in_ok-put.ensures.ok in
    joined_in_place c.args.names _ c.args.objects.now c.args.others.now c.join_with.new.self h.0
    h.2 (λ x y o says.
    subst (λ (z : AObject). own_below c.args.names (kept_or x o)
    ≡ join_owns (own_below c.args.names x) (own_below c.args.names z)) says.shows.1
    (subst (λ (z : AObject). own_below c.args.names (kept_or z o)
    ≡ join_owns (own_below c.args.names z) (own_below c.args.names says.second.now)) says.shows.0
    says.says.met.0)) n

pub returns-clause-changed : goal.returns-clause-changed
returns-clause-changed g c = λ said.
    let h = c.in_ok-put.ensures.ok in
    changed_in_place c.args.names _ c.args.objects.now c.args.others.now c.join_with.new.self
    h.0 h.2 (λ x y z says.
    subst (λ (o : AObject). own_below c.args.names z ≢ own_below c.args.names o) says.shows.0
    says.says.met.1) (some_put h.0 (sym said ∙ h.1))

pub returns-clause-same : goal.returns-clause-same
returns-clause-same g c = λ said.
    let h = c.in_ok-put.ensures.ok in
    kept_in_place _ _ _ _ h.0 h.2 (none_put h.0 (sym said ∙ h.1))

pub returns-clause-none : goal.returns-clause-none
returns-clause-none g c = λ said.
    let h = c.in_ok-put.ensures.ok in
    no_paths _ h.0 _ _ (none_put h.0 (sym said ∙ h.1)) h.3
