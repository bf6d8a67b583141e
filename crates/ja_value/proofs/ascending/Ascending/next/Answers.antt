use Rattle.std.proofs.Common.{◌≡◌, List, ℕ, true, subst, sym, arith}
use Rattle.ja_value.specs.Labels.{has, IsNext}
use Rattle.ja_value.proofs.AscendingLemmas.{found, gap, next_at}
use Rattle.ja_value.proofs.ascending.Ascending.next.Goals as goal

pub returns-in-Ok : goal.returns-in-Ok
returns-in-Ok c = record {
  there = (
    omega arith,
    subst (λ (ks : List ℕ). has ks c.args.number ≡ true) c.self.view_is
        (found _ _ c.args.number _ _ c.as_slice-numbers.ensures c.self.invariant
        c.binary_search.ensures.position c.in-Ok.is),
  );
  before = λ q from less. absurd (omega (arith, from, less));
}

pub returns-in-Err : goal.returns-in-Err
returns-in-Err c =
    subst (λ (ks : List ℕ). IsNext (has ks) c.args.number c.copied.result) c.self.view_is
    (subst (IsNext (has _) c.args.number) (sym c.copied.ensures)
    (next_at _ _ c.args.number c.in-Err.place _ c.as_slice-numbers.ensures c.self.invariant
    (gap _ _ c.args.number c.in-Err.place _ c.as_slice-numbers.ensures c.self.invariant
    c.binary_search.ensures.position c.in-Err.is) c.get.ensures.lookup))
