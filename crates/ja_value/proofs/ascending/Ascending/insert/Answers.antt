use Rattle.std.proofs.Common.{◌≡◌, ◌||◌, ap, sym, ◌∙◌, not, subst, ℕ, List, true}
use Rattle.std.specs.Prelude.{◌==◌}
use Rattle.std.specs.List.Sorted.{IsStrictlySortedBy}
use Rattle.std.specs.Ordering.{nat_cmp}
use Rattle.ja_value.specs.Labels.{has}
use Rattle.ja_value.proofs.AscendingLemmas.{Gap, found, gap, missed, has-insert, sorted-insert, there_too}
use Rattle.ja_value.proofs.ascending.Ascending.insert.Goals as goal
use Rattle.ja_value.proofs.ascending.Ascending.insert.Goals.{In-Ok, In_ok-insert-in-Err}

there : (c : In-Ok) → has c.self.inside.numbers.items c.args.number ≡ true
there c =
    found _ _ c.args.number _ _ c.as_slice.ensures c.self.invariant
    c.binary_search.ensures.position c.in-Ok.is

place_of : (c : In_ok-insert-in-Err)
    → Gap c.self.inside.numbers.items c.args.number c.in-Err.place
place_of c =
    gap _ _ c.args.number c.in-Err.place _ c.as_slice.ensures c.self.invariant
    c.binary_search.ensures.position c.in-Err.is

pub invariant_of-self-in-Err : goal.invariant_of-self-in-Err
invariant_of-self-in-Err c =
    subst (IsStrictlySortedBy nat_cmp) (sym c.in_ok-insert-in-Err.ensures.ok)
    (sorted-insert _ _ _ c.self.invariant (place_of c))

pub returns-in-Ok-clause-inserted : goal.returns-in-Ok-clause-inserted
returns-in-Ok-clause-inserted c =
    let P : List ℕ → Type 0 = λ ks. (q : ℕ) → has ks q ≡ ((q == c.args.number) || has ks q) in
    subst P c.self.view_is (there_too _ _ (there c))

pub returns-in-Ok-clause-told : goal.returns-in-Ok-clause-told
returns-in-Ok-clause-told c =
    sym (ap not (there c)) ∙ ap (λ (ks : List ℕ). not (has ks c.args.number)) c.self.view_is

pub returns-in_ok-insert-in-Err-clause-inserted : goal.returns-in_ok-insert-in-Err-clause-inserted
returns-in_ok-insert-in-Err-clause-inserted c =
    λ q. ap (λ (ks : List ℕ). has ks q) c.in_ok-insert-in-Err.ensures.ok
    ∙ has-insert _ c.in-Err.place c.args.number q
    ∙ ap (λ (ks : List ℕ). (q == c.args.number) || has ks q) c.self.view_is

pub returns-in_ok-insert-in-Err-clause-told : goal.returns-in_ok-insert-in-Err-clause-told
returns-in_ok-insert-in-Err-clause-told c =
    sym (ap not (missed _ _ _ (place_of c)))
    ∙ ap (λ (ks : List ℕ). not (has ks c.args.number)) c.self.view_is
