use Rattle.std.proofs.Common.{◌≡◌, ◌≤◌, ◌<◌, ◌-◌, ◌∷◌, [], ◌++◌, Some, length, slice_get, slice_index_or, sym, subst, add-one, arith}
use Rattle.ja_search.specs.code.Search.{IsMet}
use Rattle.ja_search.proofs.Searching.{IsCandidate, border_at, border_few, first_candidate, next_candidate, none_met, one_more_met}
use Rattle.std.proofs.lemmas.Option.{slice_get_within}
use Rattle.ja_search.proofs.search.meets.Goals as goal

pub counts-init : goal.counts-init
counts-init c = record {
  within = omega arith;
  candidate = λ read is. first_candidate c.args.mark.now read c.args.unit c.args.met is;
}

pub returns-then-count-eq0-clause-met : goal.returns-then-count-eq0-clause-met
returns-then-count-eq0-clause-met c = λ read is.
    none_met c.args.mark.now read c.args.unit
    (subst (IsCandidate c.args.mark.now read c.args.unit) c.if-count-eq0.true
    (c.counts.invariant.candidate read is))
    (λ e. let h = c.counts-test.ensures.1 (subst (λ n. slice_get c.args.mark.now n
    ≡ Some c.args.unit) (sym c.if-count-eq0.true) e) in cc)

pub counts-smaller : goal.counts-smaller
counts-smaller c =
    let some : 0 < c.counts.count = omega arith in
    let within : c.counts.count ≤ length c.args.borders.now = omega arith in
    omega (
      arith,
      some,
      border_few c.args.mark.now (c.counts.count - 1)
          (slice_index_or c.args.borders.now (c.counts.count - 1) 0)
          (border_at c.args.mark.now c.args.borders.now c.counts.count c.requires.borders some within),
    )

pub counts-preserved : goal.counts-preserved
counts-preserved c =
    let some : 0 < c.counts.count = omega arith in
    let within : c.counts.count ≤ length c.args.borders.now = omega arith in
    let border = border_at c.args.mark.now c.args.borders.now c.counts.count c.requires.borders some
    within in
    record {
      within = omega (
        arith,
        border_few c.args.mark.now (c.counts.count - 1)
            (slice_index_or c.args.borders.now (c.counts.count - 1) 0) border,
      );
      candidate = λ read is.
          next_candidate c.args.mark.now read c.args.unit c.counts.count (c.counts.count - 1)
          (slice_index_or c.args.borders.now (c.counts.count - 1) 0) (omega (arith, some))
          (omega arith) (c.counts.invariant.candidate read is)
          (λ e. let h = c.counts-test.ensures.1 e in cc) border;
    }

pub returns-clause-within : goal.returns-clause-within
returns-clause-within c =
    omega (
      arith,
      slice_get_within c.args.mark.now c.counts.count c.args.unit
          (c.counts-test.ensures.0 (cc)),
    )

pub returns-clause-met : goal.returns-clause-met
returns-clause-met c = λ read is.
    subst (IsMet c.args.mark.now (read ++ c.args.unit ∷ [])) (sym (add-one c.counts.count))
    (one_more_met c.args.mark.now read c.args.unit c.counts.count (c.counts-test.ensures.0 (cc))
    (c.counts.invariant.candidate read is))
