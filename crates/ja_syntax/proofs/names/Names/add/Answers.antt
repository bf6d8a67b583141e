use Rattle.std.proofs.Common.{ap, ◌∙◌}
use Rattle.ja_syntax.specs.code.Hoisted.{with_name}
use Rattle.ja_syntax.proofs.NamesLemmas.{nows, inserted_now}
use Rattle.ja_syntax.proofs.names.Names.add.Goals as goal

pub returns-clause-names : goal.returns-clause-names
returns-clause-names c =
    ap nows c.in_ok-insert.ensures.keys ∙ inserted_now c.self.inside.texts.keys c.units.result
    ∙ ap (λ names. with_name names c.units.result.now) c.self.view_is
    ∙ ap (λ t. with_name c.args.self.now t) c.units.ensures.value
