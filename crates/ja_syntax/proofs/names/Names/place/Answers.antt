use Rattle.std.proofs.Common.{ℕ, Bool, List, Bor, ap, ◌∙◌}
use Rattle.std.specs.List.{position_or_len}
use Rattle.std.specs.Str.{bytes_eq}
use Rattle.ja_syntax.proofs.NamesLemmas.{position_now, found_at, found_nowhere}
use Rattle.ja_syntax.proofs.names.Names.place.Goals as goal

pub returns-in-Some-clause-first : goal.returns-in-Some-clause-first
returns-in-Some-clause-first c =
    let test : Bor (List ℕ) → Bool = λ k. bytes_eq c.args.text.now k.now in
    let first = found_at test c.self.inside.texts.keys c.in-Some.place c.in-Some.ensures.index in
    first ∙ position_now c.args.text.now c.self.inside.texts.keys
    ∙ ap (λ names. position_or_len (bytes_eq c.args.text.now) names) c.self.view_is

pub returns-in-None-clause-first : goal.returns-in-None-clause-first
returns-in-None-clause-first c =
    let test : Bor (List ℕ) → Bool = λ k. bytes_eq c.args.text.now k.now in
    let last = found_nowhere test c.self.inside.texts.keys c.in-None.ensures.index in
    c.len.ensures.len ∙ last ∙ position_now c.args.text.now c.self.inside.texts.keys
    ∙ ap (λ names. position_or_len (bytes_eq c.args.text.now) names) c.self.view_is
