use Rattle.std.proofs.Common.{rules, arith, ◌≡◌, ◌≤◌, ◌+◌, ◌*◌, subst, is_some, length, refl, sym, ap, ◌∙◌}
use Rattle.std.proofs.lemmas.List.{length-take}
use Rattle.ja_trie.specs.code.Node.{places_after}
use Rattle.ja_trie.specs.Join.{MayAnswer}
use Rattle.ja_trie.proofs.Joins.{joined_at, joined_long, joined_few}
use Rattle.ja_trie.proofs.Sharing.{long_is, width_same, root_paths, few_paths, root_joined}
use Rattle.ja_trie.proofs.shared.Shared.join_with.Goals as goal

pub join-requires : goal.join-requires
join-requires g c =
    let s = c.self.invariant in
    let o = c.other.invariant in
    let long = long_is _ _ _ _ s c.self.view_is in
    let long' = long_is _ _ _ _ o c.other.view_is in
    let w = width_same _ _ _ _ _ _ s o (sym long ∙ sym c.requires.same ∙ long') in
    let first : length c.deref.result.now ≡ 8 * c.self.inside.width =
    ap length c.deref.ensures ∙ s.whole in
    let second : length c.deref-2.result.now ≡ length c.deref.result.now =
    ap length c.deref-2.ensures ∙ o.whole ∙ ap (λ n. 8 * n) (sym w) ∙ sym first in
    search (rules, first, second)

pub invariant_of-self : goal.invariant_of-self
invariant_of-self g c =
    let s = c.self.invariant in
    let e = c.in_ok-joined.ensures in
    let after = ap (places_after c.deref.result.now) c.in-Some.is in
    record {
      enough = s.enough;
      whole = sym (ap length after) ∙ joined_long (MayAnswer g.F.Fn c.args.join) _ _ _ _ e.0 e.2
          ∙ ap length c.deref.ensures ∙ s.whole;
      depth = s.depth;
      power = s.power;
      least = s.least;
    }

pub returns-in-Some-clause-ok : goal.returns-in-Some-clause-ok
returns-in-Some-clause-ok g c =
    let s = c.self.invariant in
    let e = c.in_ok-joined.ensures in
    let after = ap (places_after c.deref.result.now) c.in-Some.is in (
      e.0,
      sym (ap is_some c.in-Some.is) ∙ e.1,
      root_joined (MayAnswer g.F.Fn c.args.join) _ _ _ _ _ _ c.in-Some.root.value _ _ _ e.0
          s c.other.invariant c.self.view_is c.other.view_is refl c.requires.same
          (joined_at (MayAnswer g.F.Fn c.args.join) c.self.inside.length _ _ _ _ _ _ e.0
          c.deref.ensures c.deref-2.ensures after e.2),
      root_paths _ _ _ s c.args.self.now c.deref.result.now e.0 _ _
          (long_is _ _ _ _ s c.self.view_is) c.deref.ensures e.3,
    )

pub returns-clause-ok : goal.returns-clause-ok
returns-clause-ok g c =
    let s = c.self.invariant in
    let e = c.in_ok-joined.ensures in
    let after = ap (places_after c.deref.result.now) c.in-None.is ∙ c.deref.ensures in (
      e.0,
      sym (ap is_some c.in-None.is) ∙ e.1,
      root_joined (MayAnswer g.F.Fn c.args.join) _ _ _ _ _ _ c.self.inside.root.value _ _ _ e.0
          s c.other.invariant c.self.view_is c.other.view_is c.self.view_is c.requires.same
          (joined_at (MayAnswer g.F.Fn c.args.join) c.self.inside.length _ _ _ _ _ _ e.0
          c.deref.ensures c.deref-2.ensures after e.2),
      root_paths _ _ _ s c.args.self.now c.deref.result.now e.0 _ _
          (long_is _ _ _ _ s c.self.view_is) c.deref.ensures e.3,
    )

pub returns-in-Some-clause-long : goal.returns-in-Some-clause-long
returns-in-Some-clause-long g c =
    let s = c.self.invariant in
    let e = c.in_ok-joined.ensures in
    let after = ap (places_after c.deref.result.now) c.in-Some.is in
    let root : length c.in-Some.root.value ≡ 8 * c.self.inside.width =
    sym (ap length after) ∙ joined_long (MayAnswer g.F.Fn c.args.join) _ _ _ _ e.0 e.2
    ∙ ap length c.deref.ensures ∙ s.whole in
    length-take c.self.inside.length c.in-Some.root.value
    ∙ omega (arith, root, s.enough, long_is _ _ _ _ s c.self.view_is)

-- one for each place at most, since no more are put than there are
pub returns-in_err-joined-clause-most : goal.returns-in_err-joined-clause-most
returns-in_err-joined-clause-most g c =
    let s = c.self.invariant in
    let long = long_is _ _ _ _ s c.self.view_is in
    root_paths _ _ _ s c.args.self.now c.deref.result.now (length c.args.self.now) _ _ long
    c.deref.ensures (λ h high. subst (λ n. c.join.new.steps ≤ c.args.steps.now + (h + 1) * n)
    (sym long) (c.in_err-joined.ensures h high))

pub returns-in-Some-clause-most : goal.returns-in-Some-clause-most
returns-in-Some-clause-most g c =
    let s = c.self.invariant in
    let long = long_is _ _ _ _ s c.self.view_is in
    let e = c.in_ok-joined.ensures in
    root_paths _ _ _ s c.args.self.now c.deref.result.now (length c.args.self.now) _ _ long
    c.deref.ensures (λ h high. few_paths h _ (length c.args.self.now) _ _
    (omega (arith, long, (joined_few (MayAnswer g.F.Fn c.args.join) _ _ _ _ _ e.2).0)) (e.3 h high))

pub returns-clause-most : goal.returns-clause-most
returns-clause-most g c =
    let s = c.self.invariant in
    let long = long_is _ _ _ _ s c.self.view_is in
    let e = c.in_ok-joined.ensures in
    root_paths _ _ _ s c.args.self.now c.deref.result.now (length c.args.self.now) _ _ long
    c.deref.ensures (λ h high. few_paths h _ (length c.args.self.now) _ _
    (omega (arith, long, (joined_few (MayAnswer g.F.Fn c.args.join) _ _ _ _ _ e.2).0)) (e.3 h high))
