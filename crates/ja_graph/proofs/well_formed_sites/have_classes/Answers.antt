use Rattle.std.proofs.Common.{ℕ, get_or, refl, arith}
use Rattle.std.proofs.lemmas.Option.{slice_get-get_or}
use Rattle.ja_graph.specs.declared.program.Class.{Class}
use Rattle.ja_graph.specs.declared.program.Class.TheVariants as class
use Rattle.ja_graph.specs.WellFormed.{IsBuiltin}
use Rattle.ja_graph.proofs.EachLemmas.{below_more, below_all}
use Rattle.ja_graph.proofs.well_formed_sites.have_classes.Goals as goal

pub loop-site-preserved : goal.loop-site-preserved
loop-site-preserved c =
    let p = c.args.program.now in
    let classes = c.args.classes.now in
    let i = c.loop-site.site in
    below_more (λ (s : ℕ) (c : Class). IsBuiltin p s c) classes i (get_or classes i class.Object)
    c.loop-site.invariant (slice_get-get_or classes i class.Object (omega arith))
    (c.if-not-is_builtin.ensures.0 refl)

pub returns : goal.returns
returns c = (
  λ _. below_all (λ (s : ℕ) (d : Class). IsBuiltin c.args.program.now s d) c.args.classes.now
      c.loop-site.site (omega arith) c.loop-site.invariant,
  λ _. refl,
)
