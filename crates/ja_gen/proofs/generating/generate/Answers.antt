-- A class is added, and the text stays short.
use Rattle.std.proofs.Common.{◌-◌, arith}
use Rattle.std.specs.String.{string_bytes}
use Rattle.ja_gen.proofs.GeneratedLemmas.{class_added, is_short}
use Rattle.ja_gen.proofs.generating.generate.Goals as goal

pub loop-i-preserved : goal.loop-i-preserved
loop-i-preserved c =
    class_added c.loop-i.i (string_bytes c.loop-i.text) (string_bytes c.push_class.new.text)
    (omega arith) c.loop-i.invariant c.in_ok-push_class.ensures

pub returns-clause-short : goal.returns-clause-short
returns-clause-short c =
    is_short (c.loop-i.i - 1) (string_bytes c.loop-i.text) (omega arith) c.loop-i.invariant
