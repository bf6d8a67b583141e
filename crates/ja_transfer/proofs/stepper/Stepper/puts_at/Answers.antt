use Rattle.std.proofs.Common.{ap, ◌∙◌}
use Rattle.std.specs.Prelude.{IsTrue}
use Rattle.std.proofs.lemmas.List.Elements.{All-from_recursion}
use Rattle.ja_abstract.specs.declared.abstraction.Key.{Key}
use Rattle.ja_abstract.specs.declared.abstraction.Key.TheVariants as key
use Rattle.ja_abstract.specs.AbstractState.{is_key}
use Rattle.ja_value.specs.Value.{value_of}
use Rattle.ja_transfer.specs.Outcomes.{at_view}
use Rattle.ja_transfer.specs.code.Puts.{putting_of, put_more}
use Rattle.ja_transfer.proofs.PutLemmas.{putting_more}
use Rattle.ja_transfer.proofs.stepper.Stepper.puts_at.Goals as goal

pub put_at-requires : goal.put_at-requires
put_at-requires c =
    let p = c.args.self.now.reader.program.now in
    All-from_recursion (λ (k : Key). IsTrue (is_key p k)) c.args.keys.now c.requires
    c.loop-key.key-index (key.Name (record { 0 = 0 })) c.loop-key-test.true

pub loop-key-preserved : goal.loop-key-preserved
loop-key-preserved c =
    let now = putting_of c.loop-key.puts in
    putting_more (at_view c.args.self.now) c.args.label (value_of c.args.value.now)
    c.args.keys.now c.loop-key.key-index (key.Name (record { 0 = 0 })) c.loop-key-test.true now
    (putting_of c.add.new.self) c.loop-key.invariant
    (c.in_ok-add.ensures ∙ ap (put_more now) c.in_ok-put.ensures)
