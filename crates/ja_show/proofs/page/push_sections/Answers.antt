use Rattle.std.proofs.Common.{◌≡◌, ◌∙◌, ℕ, ap, arith, get_or, length}
use Rattle.std.specs.declared.alloc.Global.{Global}
use Rattle.std.specs.declared.vec.Vec.{Vec}
use Rattle.ja_show.specs.Page.{sections}
use Rattle.ja_show.specs.code.Kept.{lists_in}
use Rattle.ja_show.proofs.Kept.{section_more, sections_all, within_at}
use Rattle.ja_show.proofs.page.push_sections.Goals as goal

pub push_section-requires-clause-within : goal.push_section-requires-clause-within
push_section-requires-clause-within c =
    let texts = c.args.texts.now in
    let same : length c.deref.result.now
    ≡ length (get_or texts c.loop-text.text-index c.text-item.result).items =
    ap length (c.deref.ensures.value ∙ ap (λ (text : Vec ℕ Global). text.items) c.text-item.is) in
    let few =
    within_at texts c.loop-text.text-index c.text-item.result c.requires.within
    c.loop-text-test.true in
    omega arith

pub loop-text-preserved : goal.loop-text-preserved
loop-text-preserved c = record {
  text =
      section_more (lists_in c.args.names.now) c.args.messages.now c.args.links.now
      c.loop-text.out.items c.push_section.new.out.items c.args.out.now.items
      (sections (lists_in c.args.names.now) c.args.messages.now c.args.links.now 0
      (lists_in c.args.texts.now))
      c.args.texts.now c.loop-text.text-index c.loop-text.file c.text-item.result
      c.deref.result.now c.loop-text.invariant.text c.loop-text-test.true
      (c.deref.ensures.value ∙ ap (λ (text : Vec ℕ Global). text.items) c.text-item.is)
      c.in_ok-push_section.ensures;
  count = omega arith;
}

pub returns : goal.returns
returns c =
    sections_all (lists_in c.args.names.now) c.args.messages.now c.args.links.now
    c.loop-text.out.items c.args.out.now.items
    (sections (lists_in c.args.names.now) c.args.messages.now c.args.links.now 0
    (lists_in c.args.texts.now))
    c.args.texts.now c.loop-text.text-index c.loop-text.file c.loop-text.invariant.text
    c.loop-text-test.false
