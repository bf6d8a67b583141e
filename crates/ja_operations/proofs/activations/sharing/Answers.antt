use Rattle.std.proofs.Common.{◌≡◌, ℕ, ◌+◌, ◌-◌, ◌<◌, Bool, not, List, [], ◌∷◌, ◌++◌, map, take, drop, length, get_or, sym, ap, subst, ◌∙◌, arith}
use Rattle.std.proofs.lemmas.List.{drop_more, take_rest}
use Rattle.std.specs.List.{list_any}
use Rattle.ja_base.specs.declared.ids.NameId.{NameId}
use Rattle.ja_prim.specs.Texts.{same_text}
use Rattle.ja_machine.specs.Nodes.{name_text}
use Rattle.ja_operations.proofs.Sharing.{AreMarks, marked, all_marked}
use Rattle.ja_operations.proofs.activations.sharing.Goals as goal

pub loop-index-preserved : goal.loop-index-preserved
loop-index-preserved c =
    let text : NameId → List ℕ = name_text c.args.program.now in
    let names : List NameId = c.args.parameters.now in
    let i = c.loop-index.index in
    let flags : List Bool = c.loop-index.flags.items in
    let x : NameId = get_or names i (record { 0 = 0 }) in
    let low : i < length names = omega (arith, c.loop-index-test.true, c.min-index-end.ensures) in
    let given : i < length c.args.arguments.now = omega
    (arith, c.loop-index-test.true, c.min-index-end.ensures) in
    let rest : List NameId = take (length names - (i + 1)) (drop (i + 1) names) in
    let among : c.is_among.result ≡ list_any (same_text (text x)) (map text (drop (i + 1) names)) =
    c.is_among.ensures
    ∙ ap (λ (t : List ℕ). list_any (same_text t) (map text rest)) c.name_text-name.ensures
    ∙ ap (λ (ns : List NameId). list_any (same_text (text x)) (map text ns))
    (take_rest names (i + 1)) in
    subst (AreMarks text names c.args.arguments.now (i + 1))
    (sym (c.in_ok-push.ensures.items ∙ ap (λ (b : Bool). flags ++ not b ∷ []) among))
    (marked text names c.args.arguments.now i flags x low given
    (drop_more names i (record { 0 = 0 }) low) c.loop-index.invariant)

pub returns : goal.returns
returns c =
    all_marked (name_text c.args.program.now) c.args.parameters.now c.args.arguments.now
    c.loop-index.index c.loop-index.flags.items
    (omega (arith, c.loop-index-test.false, c.min-index-end.ensures)) c.loop-index.invariant
