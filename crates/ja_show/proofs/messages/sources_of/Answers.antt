use Rattle.std.proofs.Common.{ℕ, ap, ◌∙◌, map, refl}
use Rattle.std.specs.declared.alloc.Global.{Global}
use Rattle.std.specs.declared.vec.Vec.{Vec}
use Rattle.ja_files.specs.Lines.{lines_of}
use Rattle.ja_show.specs.code.Kept.{lines_in}
use Rattle.ja_show.proofs.Kept.{kept_all, kept_more, map_twice}
use Rattle.ja_show.proofs.messages.sources_of.Goals as goal

pub loop-text-init : goal.loop-text-init
loop-text-init c = ap (map lines_in) c.new-sources.ensures.items

pub loop-text-preserved : goal.loop-text-preserved
loop-text-preserved c =
    kept_more lines_in (λ (text : Vec ℕ Global). lines_of text.items) c.loop-text.sources.items
    c.push.new.self.items c.args.texts.now c.loop-text.text-index c.text-item.result c.in_ok-lines.lines
    c.loop-text.invariant c.loop-text-test.true c.in_ok-push.ensures.items
    (c.in_ok-lines.ensures ∙ ap lines_of c.deref.ensures.value
    ∙ ap (λ (text : Vec ℕ Global). lines_of text.items) c.text-item.is)

pub returns : goal.returns
returns c =
    kept_all lines_in (λ (text : Vec ℕ Global). lines_of text.items) c.loop-text.sources.items
    c.args.texts.now c.loop-text.text-index c.loop-text.invariant c.loop-text-test.false
    ∙ map_twice (λ (text : Vec ℕ Global). text.items) lines_of c.args.texts.now
