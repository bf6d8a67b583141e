use Rattle.std.proofs.Common.{List, false, get_or, ap, ◌∙◌}
use Rattle.std.proofs.lemmas.List.{take_all}
use Rattle.ja_base.specs.declared.ids.Label.{Label}
use Rattle.ja_abstract.specs.declared.abstraction.Key.{Key}
use Rattle.ja_abstract.specs.Keys.{text_keys}
use Rattle.ja_abstract.specs.Reading.{both, demands_of_own}
use Rattle.ja_aheap.specs.Objects.{demands_in}
use Rattle.ja_astate.specs.Looks.{view_of}
use Rattle.ja_astate.specs.code.Pairs.{demands_over}
use Rattle.ja_astate.proofs.Loops.{demanded_more}
use Rattle.ja_astate.proofs.reader.Reader.demand_texts.Goals as goal

pub loop-label-preserved : goal.loop-label-preserved
loop-label-preserved c =
    let w = view_of c.args.self.now in
    let none : Label = record { site = record { 0 = 0 }; old = false } in
    let now = demands_in c.loop-label.demands in
    let labels = c.args.labels.now in
    let l = get_or labels c.loop-label.label-index none in
    demanded_more (λ (l : Label). demands_of_own w l (text_keys w.program)) labels
    c.loop-label.label-index none c.loop-label-test.true (demands_in c.args.demands.now) now
    (demands_in c.demand_own.new.demands) c.loop-label.invariant
    (c.in_ok-demand_own.ensures
    ∙ ap (λ (ks : List Key). both now (demands_of_own w l ks))
    (c.texts.ensures w.program c.args.self.now.keys_are))

pub returns : goal.returns
returns c =
    let w = view_of c.args.self.now in
    let labels = c.args.labels.now in
    c.loop-label.invariant
    ∙ ap (λ (ls : List Label). both (demands_in c.args.demands.now)
    (demands_over ls (λ l. demands_of_own w l (text_keys w.program))))
    (take_all c.loop-label.label-index labels c.loop-label-test.false)
