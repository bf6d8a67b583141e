use Rattle.std.proofs.Common.{rules, ◌≡◌, ◌*◌, length, refl, sym, ap, ◌∙◌}
use Rattle.ja_trie.specs.Test.{MaySay}
use Rattle.ja_trie.proofs.Sharing.{long_is, width_same}
use Rattle.ja_trie.proofs.Tested.{said_at, said_of_root}
use Rattle.ja_trie.proofs.shared.Shared.all_with.Goals as goal

pub all_with-requires : goal.all_with-requires
all_with-requires g c =
    let s = c.self.invariant in
    let o = c.other.invariant in
    let long = long_is _ _ _ _ s c.self.view_is in
    let long' = long_is _ _ _ _ o c.other.view_is in
    let w = width_same _ _ _ _ _ _ s o (sym long ∙ sym c.requires.same ∙ long') in
    let first : length c.deref.result.now ≡ 8 * c.self.inside.width =
    ap length c.deref.ensures ∙ s.whole in
    let second : length c.deref-2.result.now ≡ length c.deref.result.now =
    ap length c.deref-2.ensures ∙ o.whole ∙ ap (λ n. 8 * n) (sym w) ∙ sym first in
    search (rules, first, second)

pub returns : goal.returns
returns g c =
    said_of_root (MaySay g.F.Fn c.args.test) _ _ _ _ _ _ _ _ _ c.self.invariant c.other.invariant
    c.self.view_is c.other.view_is c.requires.same
    (said_at (MaySay g.F.Fn c.args.test) c.self.inside.length _ _ _ _ _ _ c.deref.ensures
    c.deref-2.ensures refl c.all_with.ensures)
