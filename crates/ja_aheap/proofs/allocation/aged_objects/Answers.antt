use Rattle.std.proofs.Common.{ℕ, List, ◌≡◌, length, ap, ◌∙◌, subst}
use Rattle.std.specs.Prelude.{slice_get}
use Rattle.std.specs.Option.{option_map}
use Rattle.ja_trie.specs.Join.{kept_or}
use Rattle.ja_trie.specs.Nodes.{ArePaths}
use Rattle.ja_aheap.specs.declared.object.AObject.{AObject}
use Rattle.ja_aheap.specs.Objects.{object_of}
use Rattle.ja_aheap.specs.code.Own.{aged_own}
use Rattle.ja_aheap.proofs.HeapLemmas.{aged_in_place}
use Rattle.ja_aheap.proofs.allocation.aged_objects.Goals as goal

pub returns-in_err-join_with-clause-nodes : goal.returns-in_err-join_with-clause-nodes
returns-in_err-join_with-clause-nodes g c =
    subst (λ (n : ℕ). ArePaths n n c.args.steps.now c.join_with.new.steps)
    (ap length c.in_ok-aged.ensures.ok)
    c.in_err-join_with.ensures.most

pub returns-clause-aged : goal.returns-clause-aged
returns-clause-aged g c = λ n.
    let h = c.in_ok-join_with.ensures.ok in
    aged_in_place _ c.args.site _ _ _ h.0 h.2 (λ x y a says.
    subst (λ (o : AObject). object_of (kept_or o a) ≡ aged_own c.args.site (object_of o))
    says.shows.0 says.says.met) n
    ∙ ap (λ (os : List AObject). option_map (λ (o : AObject). aged_own c.args.site (object_of o))
    (slice_get os n)) c.in_ok-aged.ensures.ok

pub returns-clause-nodes : goal.returns-clause-nodes
returns-clause-nodes g c =
    subst (λ (n : ℕ). ArePaths n n c.args.steps.now c.join_with.new.steps)
    (ap length c.in_ok-aged.ensures.ok)
    c.in_ok-join_with.ensures.most
