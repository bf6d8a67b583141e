use Rattle.std.proofs.Common.{List, ℕ, sym, ◌∙◌, Bor}
use Rattle.ja_cert_parts.proofs.WordLemmas.{position_end, position_hit, position_miss}
use Rattle.ja_cert_parts.proofs.words.position.Goals as goal

pub returns-then-eq : goal.returns-then-eq
returns-then-eq c =
    position_hit (λ (w : Bor (List ℕ)). w.now) c.args.words.now c.args.word.now c.loop-place.place
    _ c.loop-place-test.true (sym c.eq.ensures ∙ c.if-eq.true) c.loop-place.invariant

pub loop-place-preserved : goal.loop-place-preserved
loop-place-preserved c =
    position_miss (λ (w : Bor (List ℕ)). w.now) c.args.words.now c.args.word.now
    c.loop-place.place _ c.loop-place-test.true (sym c.eq.ensures ∙ c.if-eq.false)
    c.loop-place.invariant

pub returns : goal.returns
returns c =
    position_end (λ (w : Bor (List ℕ)). w.now) c.args.words.now c.args.word.now c.loop-place.place
    c.loop-place-test.false c.loop-place.invariant
