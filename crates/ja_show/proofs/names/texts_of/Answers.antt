use Rattle.std.proofs.Common.{ap, map, refl}
use Rattle.ja_files.specs.Files.{characters_of}
use Rattle.ja_show.specs.code.Kept.{lists_in}
use Rattle.ja_show.proofs.Kept.{kept_all, kept_more}
use Rattle.ja_show.proofs.names.texts_of.Goals as goal

pub loop-file-init : goal.loop-file-init
loop-file-init c = ap lists_in c.new-texts.ensures.items

pub loop-file-preserved : goal.loop-file-preserved
loop-file-preserved c =
    kept_more (λ v. v.items) characters_of c.loop-file.texts.items c.push.new.self.items
    c.args.files.now c.loop-file.file-index _ c.in_ok-characters.characters c.loop-file.invariant
    c.loop-file-test.true c.in_ok-push.ensures.items c.in_ok-characters.ensures

pub returns : goal.returns
returns c =
    kept_all (λ v. v.items) characters_of c.loop-file.texts.items c.args.files.now
    c.loop-file.file-index c.loop-file.invariant c.loop-file-test.false
