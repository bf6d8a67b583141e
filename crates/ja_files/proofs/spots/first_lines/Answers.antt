use Rattle.std.proofs.Common.{◌+◌, ◌++◌, ap, arith, length, map, ℕ, List}
use Rattle.ja_lex.specs.Spots.{max_bytes}
use Rattle.ja_files.specs.Files.{characters_of, lines_from}
use Rattle.ja_files.proofs.Counting.{each_within, files-few, lines_all, lines_more, room-le, room_left}
use Rattle.ja_files.proofs.spots.first_lines.Goals as goal

pub loop-file-init : goal.loop-file-init
loop-file-init c =
    let room = room-le c.args.files.now in
    record {
      all =
          ap (λ (ls : List ℕ). ls ++ lines_from 1 (map characters_of c.args.files.now))
          c.new-lines.ensures.items;
      room = omega arith;
      each = ap length c.new-lines.ensures.items;
      some = omega arith;
    }

pub taken-requires : goal.taken-requires
taken-requires c =
    each_within c.args.files.now c.loop-file.file-index _ c.loop-file.line max_bytes
    c.loop-file-test.true c.loop-file.invariant.some c.loop-file.invariant.room

pub loop-file-preserved : goal.loop-file-preserved
loop-file-preserved c =
    let inside = c.loop-file-test.true in
    record {
      all =
          lines_more c.loop-file.lines.items c.push.new.self.items c.loop-file.line
          c.in_ok-line.field-0 c.args.files.now c.loop-file.file-index _ inside
          c.in_ok-push.ensures.items c.in_ok-line.ensures.lines c.loop-file.invariant.all;
      room =
          room_left c.args.files.now c.loop-file.file-index _ c.loop-file.line
          c.in_ok-line.field-0 (max_bytes + 4) inside c.in_ok-line.ensures.few
          c.loop-file.invariant.room;
      each = omega (arith, c.in_ok-push.ensures.len);
      some = omega arith;
    }

pub returns-clause-lines : goal.returns-clause-lines
returns-clause-lines c =
    lines_all c.loop-file.lines.items c.loop-file.line c.args.files.now c.loop-file.file-index
    c.loop-file-test.false c.loop-file.invariant.all

pub returns-clause-few : goal.returns-clause-few
returns-clause-few c =
    let room = room-le c.args.files.now in
    let few = files-few c.args.files.now in
    omega arith
