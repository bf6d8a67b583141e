use Rattle.std.proofs.Common.{ℕ, Bool, ap, sym, subst}
use Rattle.ja_value.specs.Labels.{has, IsNext}
use Rattle.ja_value.proofs.LabelLemmas.{number_label}
use Rattle.ja_value.proofs.label_set.LabelSet.next.Goals as goal

pub returns : goal.returns
returns c =
    subst (λ (test : ℕ → Bool). IsNext test c.args.number c.next.result)
    (λ i q. has c.args.self.now.numbers (sym (number_label q) i)) c.next.ensures
