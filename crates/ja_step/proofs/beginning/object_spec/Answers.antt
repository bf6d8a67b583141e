use Rattle.std.proofs.Common.{◌≡◌, List, Some, refl, sym, subst}
use Rattle.std.specs.Prelude.{find, slice_get}
use Rattle.std.proofs.lemmas.Option.{slice_get_read}
use Rattle.ja_graph.specs.declared.program.ObjectSpec.{ObjectSpec}
use Rattle.ja_step.proofs.Searches.{is_of_site, found_here, found_further}
use Rattle.ja_step.proofs.beginning.object_spec.Goals as goal

pub loop-spec-preserved : goal.loop-spec-preserved
loop-spec-preserved c = record {
  same = c.loop-spec.invariant.same;
  further =
      found_further c.args.site c.as_slice-opening.result.now c.loop-spec.spec-index
      c.spec-item.result c.loop-spec-test.true c.spec-item.is c.loop-spec.invariant.further
      c.if-spec-site.false;
}

pub returns-then-spec-site-clause-first : goal.returns-then-spec-site-clause-first
returns-then-spec-site-clause-first c =
    let o : ObjectSpec = c.spec-item.result in
    sym (subst (λ (xs : List ObjectSpec). find (is_of_site c.args.site) xs ≡ Some o)
    c.as_slice-opening.ensures (found_here c.args.site c.as_slice-opening.result.now
    c.loop-spec.spec-index o c.loop-spec-test.true c.spec-item.is c.loop-spec.invariant.further
    c.if-spec-site.true))

pub returns-then-spec-site-clause-among : goal.returns-then-spec-site-clause-among
returns-then-spec-site-clause-among c =
    let o : ObjectSpec = c.spec-item.result in
    let n = c.loop-spec.spec-index in (
      n,
      subst (λ (xs : List ObjectSpec). slice_get xs n ≡ Some o) c.as_slice-opening.ensures
          (slice_get_read c.as_slice-opening.result.now _ n o refl c.loop-spec-test.true
          c.spec-item.is),
    )
