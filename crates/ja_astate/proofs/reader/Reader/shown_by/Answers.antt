use Rattle.std.proofs.Common.{List, map, ap, ◌∙◌}
use Rattle.std.proofs.lemmas.List.{take_all}
use Rattle.ja_abstract.specs.declared.abstraction.Key.{Key}
use Rattle.ja_abstract.specs.declared.abstraction.Key.TheVariants as key
use Rattle.ja_abstract.specs.Resolved.{join_values}
use Rattle.ja_value.specs.Value.{value_of}
use Rattle.ja_astate.specs.Looks.{view_of}
use Rattle.ja_astate.specs.code.Chains.{shown_text}
use Rattle.ja_astate.proofs.Showing.{value_more, text_key_is}
use Rattle.ja_astate.proofs.reader.Reader.shown_by.Goals as goal

pub shown_text-requires : goal.shown_text-requires
shown_text-requires c =
    text_key_is c.args.self.now.program.now c.texts-keys.result.now c.loop-key.key-index
    (key.Name (record { 0 = 0 }))
    (c.texts-keys.ensures c.args.self.now.program.now c.args.self.now.keys_are)
    c.loop-key-test.true

pub loop-key-preserved : goal.loop-key-preserved
loop-key-preserved c =
    value_more (shown_text (view_of c.args.self.now) c.args.labels.now) c.texts-keys.result.now
    c.loop-key.key-index (key.Name (record { 0 = 0 })) c.loop-key-test.true
    (value_of c.loop-key.sum) (value_of c.in_ok-text.text) (value_of c.join.new.self)
    c.loop-key.invariant c.in_ok-text.ensures c.in_ok-join.ensures.joined

pub returns : goal.returns
returns c =
    let keys = c.texts-keys.result.now in
    c.loop-key.invariant
    ∙ ap (λ (ks : List Key).
    join_values (map (shown_text (view_of c.args.self.now) c.args.labels.now) ks))
    (take_all c.loop-key.key-index keys c.loop-key-test.false
    ∙ c.texts-keys.ensures c.args.self.now.program.now c.args.self.now.keys_are)
