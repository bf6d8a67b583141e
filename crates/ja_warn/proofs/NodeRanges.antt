-- The registers of the nodes beside a node are in range.
use Rattle.std.specs.Prelude.{◌≡◌, ◌<◌, Bool, List, [], ◌∷◌, find, Some}
use Rattle.std.specs.List.{AllByRecursion}
use Rattle.std.proofs.Common.{inl, inr, sym, ◌∙◌, subst}
use Rattle.std.proofs.lemmas.Bool.{cases_Bool, cond-true, cond-false}
use Rattle.std.proofs.lemmas.Option.{same_Some}
use Rattle.ja_base.specs.declared.ids.FnId.{FnId}
use Rattle.ja_base.specs.declared.ids.Reg.{Reg}
use Rattle.ja_base.proofs.Options.{none_not_some}
use Rattle.ja_graph.specs.declared.node.NodeInfo.{NodeInfo}
use Rattle.ja_graph.specs.declared.program.Program.{Program}
use Rattle.ja_graph.specs.Node.{registers_named}
use Rattle.ja_graph.specs.Program.{nodes_of}
use Rattle.ja_graph.specs.WellFormed.{IsWellFormed}
use Rattle.ja_machine.specs.Frames.{registers_of}
use Rattle.ja_machine.proofs.Lists.{all_from}
use Rattle.ja_rules.proofs.NodeFacts.{named_registers}
use Rattle.ja_warn.specs.code.Names.{AreWithin}

-- what each of a list has, the one that is found has
pub found_has : {X : Type 0} (P : X → Type 0) (test : X → Bool) (xs : List X) (x : X)
    → AllByRecursion P xs → find test xs ≡ Some x → P x
found_has P test [] x all is = absurd (none_not_some is)
found_has P test (y ∷ ys) x all is =
    elim (cases_Bool (test y)) [
      | inl e ↦ subst P (same_Some y x (sym (cond-true (test y) (Some y) (find test ys) e) ∙ is))
          all.0
      | inr e ↦ found_has P test ys x all.1
          (sym (cond-false (test y) (Some y) (find test ys) e) ∙ is)
    ]

pub nodes_within : (p : Program) → IsWellFormed p → (f : FnId)
    → AreWithin (registers_of p f) (nodes_of p f)
nodes_within p good f =
    all_from (λ (i : NodeInfo). AllByRecursion (λ (r : Reg). r.0 < registers_of p f)
    (registers_named i.node)) (nodes_of p f)
    (λ n i is. named_registers p good f (record { 0 = n }) i is)
