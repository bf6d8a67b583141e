-- What is found of the program of a text is found of the text.
use Rattle.std.specs.Prelude.{List, ℕ, Result, Ok, Err, IfOk, IfErr}
use Rattle.std.proofs.Common.{subst, sym}
use Rattle.ja_graph.specs.declared.program.Program.{Program}
use Rattle.ja_load.specs.Loading.{IsProgramOf}
use Rattle.ja_prim.specs.declared.signature.Signature.{Signature}
use Rattle.ja_top.specs.Findings.{Finds, IsFoundIn, IsUnfound, IsUnfoundIn}
use Rattle.ja_top.specs.declared.finding.FindFault.{FindFault}
use Rattle.ja_top.specs.declared.finding.FindFault.TheVariants as fault
use Rattle.ja_top.specs.declared.finding.Findings.{Findings}

module _ (bytes : List ℕ) (signatures : List Signature) (p : Program)
    (of : IsProgramOf bytes signatures p) where
  why : (f : FindFault) → IsUnfoundIn p f → IsUnfound bytes signatures f
  why fault.Spent h = (p, of, h)
  why fault.Memory h = h
  why (fault.NotText offset) h = absurd h
  why (fault.Load f) h = absurd h

  -- of what a call gives
  pub finds : (r : Result Findings FindFault) → IfOk r (IsFoundIn p)
      → IfOk r (Finds bytes signatures)
  finds (Ok found) h =
      let same = sym h.program in (
        subst (IsProgramOf bytes signatures) same of,
        subst (λ (q : Program). IsFoundIn q found) same h,
      )
  finds (Err f) h = h

  pub finds_none : (r : Result Findings FindFault) → IfErr r (IsUnfoundIn p)
      → IfErr r (IsUnfound bytes signatures)
  finds_none (Ok found) h = h
  finds_none (Err f) h = why f h
