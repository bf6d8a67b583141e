use Rattle.std.proofs.Common.{List, sym, ◌∙◌, subst}
use Rattle.std.specs.List.{AllByRecursion}
use Rattle.ja_base.specs.declared.ids.NameId.{NameId}
use Rattle.ja_graph.specs.declared.node.NodeInfo.{NodeInfo}
use Rattle.ja_graph.specs.WellFormed.{LastIsEscape}
use Rattle.ja_graph.specs.WellFormed.{IsName}
use Rattle.ja_graph.proofs.well_formed_functions.is_function_well_formed.Goals as goal
use Rattle.ja_graph.proofs.well_formed_functions.is_function_well_formed.Goals.{then-is_last_escape, else-is_last_escape, then-has_registers, else-has_registers}

pub returns-then-are_names : goal.returns-then-are_names
returns-then-are_names c =
    let p = c.args.program.now in
    let fn = c.args.function.now in
    elim c.if-has_registers.branch [
      | then-has_registers w ↦
          (elim c.if-is_last_escape.branch [
            | then-is_last_escape v ↦
                (let ends = subst (λ (xs : List NodeInfo). LastIsEscape xs) c.as_slice.ensures
                (c.is_last_escape.ensures.0 v.if-is_last_escape.true) in
                let registers = v.has_registers.ensures.0
                (sym v.value-is ∙ w.if-has_registers.true) in
                let parameters = subst (λ (xs : List NameId). AllByRecursion (IsName p) xs)
                w.as_slice-then-has_registers.ensures
                (w.are_names.ensures.0 (sym w.value-is ∙ c.if-are_names.true)) in (
                  λ e. record {
                    last = ends.last;
                    last_is = ends.last_is;
                    escape = ends.escape;
                    registers = registers.0;
                    few_registers = registers.1;
                    parameters = parameters;
                    each = c.are_nodes_well_formed.ensures.0 e;
                  },
                  λ well. c.are_nodes_well_formed.ensures.1 well.each,
                ))
            | else-is_last_escape v ↦ absurd (cc
                (v.if-is_last_escape.false, v.value-is, w.if-has_registers.true))
          ])
      | else-has_registers w ↦ absurd (cc (
        w.if-has_registers.false,
        w.value-is,
        c.if-are_names.true,
      ))
    ]
