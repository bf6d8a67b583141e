use Rattle.std.proofs.Common.{append-nil, sym}
use Rattle.std.specs.Str.{chars}
use Rattle.std.specs.String.{string_bytes}
use Rattle.ja_files.specs.Files.{bytes_of, characters_of}
use Rattle.ja_files.proofs.Texts.{joined_all, joined_more}
use Rattle.ja_files.proofs.joining.push_others.Goals as goal

pub loop-file-init : goal.loop-file-init
loop-file-init c = record {
  bytes = sym (append-nil (string_bytes c.args.text.now));
  characters = sym (append-nil (chars (string_bytes c.args.text.now)));
}

pub loop-file-preserved : goal.loop-file-preserved
loop-file-preserved c = record {
  bytes =
      joined_more bytes_of (string_bytes c.args.text.now) (string_bytes c.loop-file.text)
      (string_bytes c.push_next.new.text) c.args.files.now c.loop-file.file-index _
      c.loop-file.invariant.bytes c.loop-file-test.true c.in_ok-push_next.ensures.bytes;
  characters =
      joined_more characters_of (chars (string_bytes c.args.text.now))
      (chars (string_bytes c.loop-file.text)) (chars (string_bytes c.push_next.new.text))
      c.args.files.now c.loop-file.file-index _ c.loop-file.invariant.characters
      c.loop-file-test.true c.in_ok-push_next.ensures.characters;
}

pub returns-clause-bytes : goal.returns-clause-bytes
returns-clause-bytes c =
    joined_all bytes_of (string_bytes c.args.text.now) (string_bytes c.loop-file.text)
    c.args.files.now c.loop-file.file-index c.loop-file.invariant.bytes c.loop-file-test.false

pub returns-clause-characters : goal.returns-clause-characters
returns-clause-characters c =
    joined_all characters_of (chars (string_bytes c.args.text.now))
    (chars (string_bytes c.loop-file.text)) c.args.files.now c.loop-file.file-index
    c.loop-file.invariant.characters c.loop-file-test.false
