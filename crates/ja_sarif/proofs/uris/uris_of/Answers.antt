use Rattle.std.proofs.Common.{ap, map, string_bytes, ◌∙◌}
use Rattle.ja_files.specs.declared.file.File.{File}
use Rattle.ja_sarif.specs.Sarif.{uri_of}
use Rattle.ja_show.proofs.Kept.{kept_all, kept_more, map_twice}
use Rattle.ja_sarif.proofs.uris.uris_of.Goals as goal

pub loop-file-init : goal.loop-file-init
loop-file-init c = ap (map string_bytes) c.new-uris.ensures.items

pub loop-file-preserved : goal.loop-file-preserved
loop-file-preserved c =
    kept_more string_bytes (λ (file : File). uri_of file.name.now) c.loop-file.uris.items
    c.push.new.self.items c.args.files.now c.loop-file.file-index _ c.in_ok-uri.uri
    c.loop-file.invariant c.loop-file-test.true c.in_ok-push.ensures.items c.in_ok-uri.ensures

pub returns : goal.returns
returns c =
    kept_all string_bytes (λ (file : File). uri_of file.name.now) c.loop-file.uris.items
    c.args.files.now c.loop-file.file-index c.loop-file.invariant c.loop-file-test.false
    ∙ map_twice (λ (file : File). file.name.now) uri_of c.args.files.now
