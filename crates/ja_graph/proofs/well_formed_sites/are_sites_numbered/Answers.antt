use Rattle.std.proofs.Common.{◌≡◌, ℕ, length, None, Some, refl, sym, ◌∙◌, subst}
use Rattle.std.proofs.lemmas.Bool.Decides.{Decides-eqb}
use Rattle.ja_graph.specs.code.Parts.{AreNumbered}
use Rattle.ja_graph.specs.WellFormed.{makings_from}
use Rattle.ja_graph.proofs.NumberedLemmas.{sites_numbered}
use Rattle.ja_graph.proofs.well_formed_sites.are_sites_numbered.Goals as goal

pub returns-in-Some : goal.returns-in-Some
returns-in-Some c =
    let p = c.args.program.now in
    let last = c.in-Some.last in
    let same = Decides-eqb last c.len.result in (
      λ e.
          let there : last ≡ length p.sites = same.0 e ∙ c.len.ensures in
          (sites_numbered p).0 (subst (λ (n : ℕ).
          AreNumbered p (length p.opening) n (makings_from 0 p.functions)) there
          ((c.in-Some.ensures last).0 refl)),
      λ numbered.
          let ends : Some last ≡ Some (length p.sites) = (c.in-Some.ensures (length p.sites)).1
          ((sites_numbered p).1 numbered) in
          let there : last ≡ length p.sites = cc in
          same.1 (there ∙ sym c.len.ensures),
    )

pub returns-in-None : goal.returns-in-None
returns-in-None c =
    let p = c.args.program.now in (
      λ e. absurd (cc),
      λ numbered.
          let ends : None ≡ Some (length p.sites) = (c.in-None.ensures (length p.sites)).1
          ((sites_numbered p).1 numbered) in
          absurd (cc),
    )
