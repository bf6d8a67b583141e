use Rattle.std.proofs.Common.{List, false, refl, subst}
use Rattle.std.specs.Prelude.{All}
use Rattle.std.proofs.lemmas.Bool.{false≢true}
use Rattle.std.proofs.lemmas.List.{take_all}
use Rattle.std.proofs.lemmas.List.Elements.{All-more}
use Rattle.ja_base.specs.declared.ids.Context.{Context}
use Rattle.ja_table.specs.declared.table.CallEdge.{CallEdge}
use Rattle.ja_table.specs.Parts.{HasEnds}
use Rattle.ja_table.proofs.Told.{told_none, told_some}
use Rattle.ja_table.proofs.parts.are_ended.Goals as goal

abbrev no_context : Context
no_context = record {
  function = record { 0 = 0 };
  receiver = record { site = record { 0 = 0 }; old = false };
}

abbrev no_edge : CallEdge
no_edge = record {
  edge = record { caller = no_context; node = record { 0 = 0 }; callee = no_context };
}

pub returns-then-not-has_ends : goal.returns-then-not-has_ends
returns-then-not-has_ends c =
    told_none (λ all. false≢true (c.if-not-has_ends.ensures.1
    (all c.loop-kept.kept-index no_edge c.loop-kept-test.true)))

pub loop-kept-preserved : goal.loop-kept-preserved
loop-kept-preserved c =
    All-more (HasEnds c.args.table.now.contexts.items) c.args.edges.now c.loop-kept.kept-index
    no_edge c.loop-kept-test.true c.loop-kept.invariant (c.if-not-has_ends.ensures.0 refl)

pub returns : goal.returns
returns c =
    told_some (subst (λ (ds : List CallEdge). All (HasEnds c.args.table.now.contexts.items) ds)
    (take_all c.loop-kept.kept-index c.args.edges.now c.loop-kept-test.false)
    c.loop-kept.invariant)
