use Rattle.std.proofs.Common.{arith, Some, None, replicate, refl, ap, ◌∙◌}
use Rattle.std.specs.declared.result.Result.TheVariants.{Ok}
use Rattle.std.proofs.lemmas.Fn.{says_at_two}
use Rattle.ja_trie.proofs.node.join_value.Goals as goal

pub returns-in_ok-of_value-in-Some : goal.returns-in_ok-of_value-in-Some
returns-in_ok-of_value-in-Some g c = (
  Some c.in-Some.joined,
  says_at_two g.F.Fn c.in_ok-joined.ensures (ap Ok c.in-Some.is),
  refl,
  c.in_ok-of_value-in-Some.ensures.ok
      ∙ ap (λ v. replicate 8 v) c.in_ok-joined-in-Some.ensures.ok,
  omega (arith, c.of_value.ensures.nodes),
)

pub returns-in-None : goal.returns-in-None
returns-in-None g c = (
  None,
  says_at_two g.F.Fn c.in_ok-joined.ensures (ap Ok c.in-None.is),
  refl,
  refl,
  omega arith,
)
