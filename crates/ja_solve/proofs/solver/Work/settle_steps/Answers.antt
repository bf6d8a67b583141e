use Rattle.std.proofs.Common.{arith, rules, subst, sym}
use Rattle.ja_graph.specs.declared.program.Program.{Program}
use Rattle.ja_table.specs.Tables.{IsContext}
use Rattle.ja_solve.specs.code.Sweeps.{program_of}
use Rattle.ja_solve.proofs.Sweeps.{all_stepped, both_unchanged, context_in, explains_from, goes_both, goes_same, left_falls, more_before, none_before, program_is, AreSteppedBefore}
use Rattle.ja_table.proofs.Kept.{slice_at}
use Rattle.ja_solve.proofs.solver.Work.settle_steps.Goals as goal

pub contexts-init : goal.contexts-init
contexts-init c = record {
  built = c.requires.built;
  goes_on = goes_same c.args.self.now;
  settled = λ same. none_before (program_of c.args.self.now) c.args.self.now.table
      c.requires.built.fits;
}

pub settle_context-requires : goal.settle_context-requires
settle_context-requires c = record { built = c.contexts.invariant.built }

pub returns-in_err-settle_context-clause-fault : goal.returns-in_err-settle_context-clause-fault
returns-in_err-settle_context-clause-fault c =
    explains_from c.args.self.now c.contexts.self c.contexts.invariant.goes_on _ (search rules)

pub contexts-smaller : goal.contexts-smaller
contexts-smaller c =
    let was = c.contexts.self in
    let now = c.settle_context.new.self in
    let p = (program_of c.args.self.now) in
    let cs = was.table.contexts.items in
    let at = slice_at cs c.contexts.place c.index.result.now
    (omega (arith, c.contexts-test.true, c.len.ensures, was.table.contexts.ok.0))
    c.index.ensures in
    left_falls p cs now.table.contexts.items c.contexts.place c.contexts_up_to-place.result
    c.index.result.now at
    (subst (λ (q : Program). IsContext q c.index.result.now.context)
    (program_is c.args.self.now was c.contexts.invariant.goes_on)
    (context_in (program_of was) was.table c.contexts.place c.index.result.now
    c.contexts.invariant.built.fits at))
    (c.contexts_up_to-place.ensures c.in_ok-settle_context.ensures.built.fits.ordered)

pub contexts-preserved : goal.contexts-preserved
contexts-preserved c =
    let was = c.contexts.self in
    let now = c.settle_context.new.self in
    let cs = was.table.contexts.items in
    let at = slice_at cs c.contexts.place c.index.result.now
    (omega (arith, c.contexts-test.true, c.len.ensures, was.table.contexts.ok.0))
    c.index.ensures in
    record {
      built = c.in_ok-settle_context.ensures.built;
      goes_on =
          goes_both c.args.self.now was now c.contexts.invariant.goes_on
          c.in_ok-settle_context.ensures.goes_on;
      settled =
          λ same. let u = both_unchanged c.args.self.now was now
          c.contexts.invariant.goes_on c.in_ok-settle_context.ensures.goes_on same in
          more_before (program_of now) was.table now.table c.contexts.place
          c.contexts_up_to-place.result c.index.result.now
          c.in_ok-settle_context.ensures.built.fits
          (c.in_ok-settle_context.ensures.goes_on.same u.second) at
          (subst (λ (q : Program). AreSteppedBefore q was.table c.contexts.place)
          (sym (program_is was now c.in_ok-settle_context.ensures.goes_on))
          (c.contexts.invariant.settled u.first))
          (c.in_ok-settle_context.ensures.settled u.second)
          (c.contexts_up_to-place.ensures c.in_ok-settle_context.ensures.built.fits.ordered);
    }

pub returns-clause-settled : goal.returns-clause-settled
returns-clause-settled c = λ same.
    all_stepped (program_of c.contexts.self) c.contexts.self.table c.contexts.place
    (omega (
      arith,
      c.contexts-test.false,
      c.len.ensures,
      c.contexts.self.table.contexts.ok.0,
    )) (c.contexts.invariant.settled same)
