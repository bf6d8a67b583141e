use Rattle.std.proofs.Common.{ap, ◌∙◌, ◌++◌, [], ◌∷◌, map}
use Rattle.ja_rows.specs.declared.table.Item.TheVariants.{Open, Fill, Back}
use Rattle.ja_table.specs.declared.table.CallEdge.{CallEdge}
use Rattle.ja_check.proofs.ItemLemmas.{items_listed}
use Rattle.ja_check.proofs.table_items.items.Goals as goal

pub returns : goal.returns
returns c =
    items_listed c.args.program.now c.args.table.now c.requires.fits c.push.new.self.items
    c.push_steps.new.items.items c.push_fills.new.items.items c.push_backs.new.items.items
    (c.in_ok-push.ensures.items ∙ ap (λ xs. xs ++ Open ∷ []) c.new-items.ensures.items)
    c.in_ok-push_steps.ensures
    (c.in_ok-push_fills.ensures
    ∙ ap (λ ds. c.push_steps.new.items.items ++ map (λ (d : CallEdge). Fill d.edge) ds)
    c.deref.ensures.value)
    (c.in_ok-push_backs.ensures
    ∙ ap (λ ds. c.push_fills.new.items.items ++ map (λ (d : CallEdge). Back d.edge) ds)
    c.deref-2.ensures.value)
