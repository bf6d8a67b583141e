use Rattle.ja_aheap.proofs.object.AObject.leq_at_all_listed.Goals as goal

pub returns-then-leq_beside : goal.returns-then-leq_beside
returns-then-leq_beside c =
    let said = c.if-leq_beside.true in (λ _ q one below. c.leq_beside.ensures said q one, λ _. said)
