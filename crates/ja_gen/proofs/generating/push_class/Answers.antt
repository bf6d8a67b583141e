-- The fact of each line, and the four of them.
use Rattle.std.proofs.Common.{append_assoc}
use Rattle.std.specs.String.{string_bytes}
use Rattle.ja_gen.specs.Generated.{class_text, constructor_line, method_line, object_line}
use Rattle.ja_gen.specs.Generated.{result_line}
use Rattle.ja_gen.proofs.Lists.{four_added}
use Rattle.ja_gen.proofs.generating.push_class.Goals as goal

pub returns : goal.returns
unfolding class_text constructor_line method_line object_line result_line
returns c =
    let i = c.args.i in
    four_added (constructor_line i) (method_line i) (object_line i) (result_line i)
    (string_bytes c.args.text.now) (string_bytes c.writeln.new.self)
    (string_bytes c.writeln-2.new.self) (string_bytes c.writeln-3.new.self)
    (string_bytes c.writeln-4.new.self)
    c.in_ok-writeln.ensures.bytes c.in_ok-writeln-2.ensures.bytes
    (simp append_assoc c.in_ok-writeln-3.ensures.bytes)
    (simp append_assoc c.in_ok-writeln-4.ensures.bytes)
