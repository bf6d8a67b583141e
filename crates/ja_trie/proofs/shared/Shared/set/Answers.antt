use Rattle.std.proofs.Common.{arith, ◌<◌, take, set, refl, ap, ◌∙◌}
use Rattle.std.proofs.Math.Seq.{take-set-lt}
use Rattle.ja_trie.proofs.Sharing.{long_is, root_paths}
use Rattle.ja_trie.proofs.shared.Shared.set.Goals as goal

pub returns-in_err-put-clause-nodes : goal.returns-in_err-put-clause-nodes
returns-in_err-put-clause-nodes g c =
    let s = c.self.invariant in
    root_paths _ _ _ s c.args.self.now c.self.inside.root.value 1 _ _
    (long_is _ _ _ _ s c.self.view_is) refl
    (λ h high. omega (arith, c.put.ensures.nodes h high))

pub returns-clause-ok : goal.returns-clause-ok
returns-clause-ok g c =
    let long = long_is _ _ _ _ c.self.invariant c.self.view_is in
    let within : c.args.index < c.self.inside.length = omega (arith, long, c.requires) in
    ap (take c.self.inside.length) c.in_ok-put.ensures.ok
    ∙ take-set-lt c.self.inside.length c.self.inside.root.value c.args.index
    c.in_ok-value.value.value within
    ∙ ap (λ l. set l c.args.index c.in_ok-value.value.value) c.self.view_is
    ∙ ap (set c.args.self.now c.args.index) c.in_ok-value.ensures.ok

pub returns-clause-nodes : goal.returns-clause-nodes
returns-clause-nodes g c =
    let s = c.self.invariant in
    root_paths _ _ _ s c.args.self.now c.self.inside.root.value 1 _ _
    (long_is _ _ _ _ s c.self.view_is) refl
    (λ h high. omega (arith, c.put.ensures.nodes h high))
