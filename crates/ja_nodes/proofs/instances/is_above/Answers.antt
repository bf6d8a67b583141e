use Rattle.std.proofs.Common.{◌&&◌, false, refl, sym, subst, ◌∙◌}
use Rattle.std.specs.List.{list_any}
use Rattle.ja_abstract.specs.AbstractState.{labels_below}
use Rattle.ja_value.specs.Value.{labels_in}
use Rattle.ja_transfer.specs.Outcomes.{at_view}
use Rattle.ja_nodes.specs.code.Instances.{AreAbove}
use Rattle.ja_nodes.proofs.instances.is_above.Goals as goal

pub returns-then-not-is_asked : goal.returns-then-not-is_asked
returns-then-not-is_asked c =
    subst (λ b. AreAbove (at_view c.args.stepper.now) b (labels_in c.args.start.now)
    (labels_in c.args.prototypes.now) (false, c.new.result)) (sym c.if-not-is_asked.true)
    (record { above = refl; demands_are = c.new.ensures })

pub returns : goal.returns
returns c =
    let s = c.args.stepper.now in
    let w = at_view s in
    let ends = labels_in c.args.prototypes.now in
    let found = c.in_ok-proper.ensures in
    subst (λ b. AreAbove w b (labels_in c.args.start.now) ends
    (c.intersects-is_above.result, c.in_ok-proper.field-0.demands)) (sym c.if-not-is_asked.false)
    (record {
      above =
          c.intersects-is_above.ensures
          ∙ (λ n. list_any (λ l. found.proper_are n l && ends l)
          (labels_below (s.reader.sites_are n)));
      demands_are = found.demands_are;
    })
