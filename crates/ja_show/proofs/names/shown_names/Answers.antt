use Rattle.std.proofs.Common.{ap, ◌∙◌, map, refl}
use Rattle.ja_files.specs.declared.file.File.{File}
use Rattle.ja_files.specs.Files.{name_of}
use Rattle.ja_show.specs.Messages.{shown_name}
use Rattle.ja_show.specs.code.Kept.{lists_in}
use Rattle.ja_show.proofs.Kept.{kept_all, kept_more, map_twice}
use Rattle.ja_show.proofs.names.shown_names.Goals as goal

pub loop-file-init : goal.loop-file-init
loop-file-init c = ap lists_in c.new-names.ensures.items

pub loop-file-preserved : goal.loop-file-preserved
loop-file-preserved c =
    kept_more (λ v. v.items) (λ (file : File). shown_name (name_of file)) c.loop-file.names.items
    c.push.new.self.items c.args.files.now c.loop-file.file-index _ c.in_ok-name.name
    c.loop-file.invariant c.loop-file-test.true c.in_ok-push.ensures.items c.in_ok-name.ensures

pub returns : goal.returns
returns c =
    kept_all (λ v. v.items) (λ (file : File). shown_name (name_of file)) c.loop-file.names.items
    c.args.files.now c.loop-file.file-index c.loop-file.invariant c.loop-file-test.false
    ∙ map_twice name_of shown_name c.args.files.now
