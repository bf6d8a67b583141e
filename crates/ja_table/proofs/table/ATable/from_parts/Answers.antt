use Rattle.std.proofs.Common.{refl, subst, sym}
use Rattle.std.specs.Prelude.{All}
use Rattle.std.proofs.lemmas.Bool.{false≢true}
use Rattle.ja_table.specs.Order.{AreContextsOrdered, AreEdgesOrdered}
use Rattle.ja_table.specs.Parts.{HasEnds}
use Rattle.ja_table.proofs.Told.{told_none, told_some}
use Rattle.ja_table.proofs.table.ATable.from_parts.Goals as goal

pub returns-then-not-are_contexts_ordered-clause-parts : goal.returns-then-not-are_contexts_ordered-clause-parts
returns-then-not-are_contexts_ordered-clause-parts c =
    told_none (λ parts. false≢true (c.if-not-are_contexts_ordered.ensures.1
    (subst AreContextsOrdered (sym c.deref.ensures.value) parts.ordered)))

pub returns-then-not-are_edges_ordered-clause-parts : goal.returns-then-not-are_edges_ordered-clause-parts
returns-then-not-are_edges_ordered-clause-parts c =
    told_none (λ parts. false≢true (c.if-not-are_edges_ordered.ensures.1
    (subst AreEdgesOrdered (sym c.deref-2.ensures.value) parts.edges_ordered)))

pub are_ended-requires : goal.are_ended-requires
are_ended-requires c =
    subst AreContextsOrdered c.deref.ensures.value
    (c.if-not-are_contexts_ordered.ensures.0 refl)

pub returns-then-not-are_ended-clause-parts : goal.returns-then-not-are_ended-clause-parts
returns-then-not-are_ended-clause-parts c =
    told_none (λ parts. false≢true (c.if-not-are_ended.ensures.1
    (subst (All (HasEnds c.args.contexts.items)) (sym c.deref-3.ensures.value) parts.ends)))

pub returns-clause-parts : goal.returns-clause-parts
returns-clause-parts c =
    told_some (record {
      ordered = subst AreContextsOrdered c.deref.ensures.value
          (c.if-not-are_contexts_ordered.ensures.0 refl);
      edges_ordered = subst AreEdgesOrdered c.deref-2.ensures.value
          (c.if-not-are_edges_ordered.ensures.0 refl);
      ends = subst (All (HasEnds c.args.contexts.items)) c.deref-3.ensures.value
          (c.if-not-are_ended.ensures.0 refl);
    })
