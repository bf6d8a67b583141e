use Rattle.std.proofs.Common.{◌≡◌, ◌+◌, ap, sym, ◌∙◌, ◌<◌, ⊎_elim, arith}
use Rattle.std.proofs.lemmas.Bool.{cases_lt, true≢false}
use Rattle.ja_aheap.proofs.ObjectLemmas.{entry_from_numbers, entry_at_number, entry_at_rest}
use Rattle.ja_aheap.proofs.object.AObject.is_as_at_entry.Goals as goal

pub returns-else-is_entry : goal.returns-else-is_entry
returns-else-is_entry c =
    let a = c.args.self.now in
    let end = 6 + c.from-end.result in
    let is_end : end ≡ 6 + c.args.names = ap (λ n. 6 + n) c.from-end.ensures in (
      λ said. entry_from_numbers a c.args.names end is_end
          (c.lists_entries.ensures.0 c.if-lists_entries.true)
          (λ q none below. let above = c.lists_all.ensures.0 said q none none in
          absurd (omega (arith, above))),
      λ each. c.lists_all.ensures.1 (λ q none none'. ⊎_elim
          (λ (below : q < end). absurd (true≢false (sym (c.is_entry.ensures.1
          (entry_at_rest a c.args.names end is_end each q none below)) ∙ c.if-is_entry.false)))
          (λ above. above) (cases_lt q end)),
    )

pub returns-else-lists_entries : goal.returns-else-lists_entries
returns-else-lists_entries c =
    let end = 6 + c.from-end.result in
    let is_end : end ≡ 6 + c.args.names = ap (λ n. 6 + n) c.from-end.ensures in (
      λ said. absurd (cc),
      λ each. c.lists_entries.ensures.1 (λ q there.
          entry_at_number c.args.self.now c.args.names end is_end each q),
    )
