use Rattle.std.proofs.Common.{◌≡◌, ◌+◌, ap}
use Rattle.ja_aheap.proofs.ObjectLemmas.{leq_from_numbers, leq_at_number, leq_at_rest}
use Rattle.ja_aheap.proofs.object.AObject.leq.Goals as goal

pub returns-then-leq_at_all_listed : goal.returns-then-leq_at_all_listed
returns-then-leq_at_all_listed c =
    let a = c.args.self.now in
    let b = c.args.other.now in
    let end = 6 + c.from-end.result in
    let is_end : end ≡ 6 + c.args.names = ap (λ n. 6 + n) c.from-end.ensures in (
      λ said. leq_from_numbers a b c.args.names end is_end
          (c.leq_at_all_listed.ensures.0 c.if-leq_at_all_listed.true)
          (c.leq_at_others.ensures.0 said),
      λ each. c.leq_at_others.ensures.1 (leq_at_rest a b c.args.names end is_end each),
    )

pub returns-else-leq_at_all_listed : goal.returns-else-leq_at_all_listed
returns-else-leq_at_all_listed c =
    let end = 6 + c.from-end.result in
    let is_end : end ≡ 6 + c.args.names = ap (λ n. 6 + n) c.from-end.ensures in (
      λ said. absurd (cc),
      λ each. c.leq_at_all_listed.ensures.1 (λ q one.
          leq_at_number c.args.self.now c.args.other.now c.args.names end is_end each q),
    )
