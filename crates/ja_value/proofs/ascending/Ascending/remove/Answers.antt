use Rattle.std.proofs.Common.{◌≡◌, ap, sym, ◌∙◌, not, subst, ℕ, List, filter, ◌&&◌, of_calls}
use Rattle.std.specs.Prelude.{◌==◌}
use Rattle.std.specs.List.Sorted.{IsStrictlySortedBy}
use Rattle.std.specs.Ordering.{nat_cmp}
use Rattle.std.proofs.lemmas.List.Kept.{IsStrictlySortedBy-filter}
use Rattle.arrayvec.proofs.ArrayVecLemmas.{filter-from_retain}
use Rattle.ja_value.specs.Labels.{has}
use Rattle.ja_value.proofs.AscendingLemmas.{has-filter}
use Rattle.ja_value.proofs.ascending.Ascending.remove.Goals as goal
use Rattle.ja_value.proofs.ascending.Ascending.remove.Goals.{After-retain}

left : (c : After-retain) → c.retain.new.self.items
    ≡ filter (λ k. not (k == c.args.number)) c.self.inside.numbers.items
left c = filter-from_retain _ _ _ (λ x b f' y h. search of_calls parts 8) _ _ c.retain.ensures.filtered

pub invariant_of-self : goal.invariant_of-self
invariant_of-self c =
    subst (IsStrictlySortedBy nat_cmp) (sym (left c)) (IsStrictlySortedBy-filter nat_cmp _ _
    c.self.invariant)

pub returns : goal.returns
returns c =
    λ q. ap (λ (ks : List ℕ). has ks q) (left c) ∙ has-filter _ c.args.number q
    ∙ ap (λ (ks : List ℕ). not (q == c.args.number) && has ks q) c.self.view_is
