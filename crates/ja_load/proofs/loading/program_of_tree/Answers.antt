use Rattle.std.proofs.Common.{◌≤◌, length, ap, sym, ◌∙◌, subst, arith}
use Rattle.std.specs.List.{AllByRecursion}
use Rattle.ja_graph.specs.WellFormed.{IsWellFormed, max_registers, max_names}
use Rattle.ja_graph.specs.declared.program.Function.{Function}
use Rattle.ja_lower.specs.declared.lowered.Lowered.{Lowered}
use Rattle.ja_load.specs.Loading.{names_before, sites_before}
use Rattle.ja_load.proofs.WellFormedLemmas.{LoweringLaws, PreludeFacts, program_is_well_formed, program_of_parts, setting, whole_of_parts}
use Rattle.ja_load.proofs.loading.program_of_tree.Goals as goal

pub overflow_cast-own : goal.overflow_cast-own
overflow_cast-own c =
    let signatures = c.args.signatures.now in
    let functions = ap (λ (l : Lowered). length l.functions) c.in_ok-lowered.ensures.lowered in
    omega (
      arith,
      c.len-own.ensures,
      functions,
      c.functions_are_counted.ensures.text (names_before signatures) (sites_before signatures)
          c.args.tree.now.statements,
      c.in_ok-lowered.ensures.within.functions,
    )

pub returns-clause-program : goal.returns-clause-program
returns-clause-program c =
    let statements = c.args.tree.now.statements in
    let signatures = c.args.signatures.now in
    let text = c.in_ok-lowered.ensures.lowered in
    let count = c.len-own.ensures ∙ ap (λ (l : Lowered). length l.functions) text
    ∙ c.functions_are_counted.ensures.text (names_before signatures) (sites_before signatures)
    statements in
    let all = c.in_ok-whole.ensures.lowered
    ∙ sym (c.parts_follow_one_another.ensures (setting signatures statements) _ text) in
    program_of_parts _ signatures statements _ _ c.in_ok-program.ensures.program count all

pub returns-clause-well_formed : goal.returns-clause-well_formed
returns-clause-well_formed c =
    let statements = c.args.tree.now.statements in
    let signatures = c.args.signatures.now in
    let text = c.in_ok-lowered.ensures.lowered in
    let count = c.len-own.ensures ∙ ap (λ (l : Lowered). length l.functions) text
    ∙ c.functions_are_counted.ensures.text (names_before signatures) (sites_before signatures)
    statements in
    let laws : LoweringLaws = record {
      parts = c.parts_follow_one_another.ensures;
      well_formed = c.functions_are_well_formed.ensures;
      numbered = c.sites_are_numbered.ensures;
      told = c.sites_are_told.ensures;
      name_functions = c.sites_name_functions.ensures;
      few_sites = c.sites_are_few.ensures;
      in_size = c.nodes_are_within_the_size.ensures;
      counted = c.functions_are_counted.ensures.whole;
    } in
    let facts : PreludeFacts = record {
      counted = c.texts_are_functions.ensures.functions;
      paths = c.texts_are_functions.ensures.paths;
      few = c.nodes_are_few.ensures;
      allowed = c.nodes_are_allowed.ensures.allowed;
    } in
    let parts = whole_of_parts laws signatures statements _ text in
    let all = c.in_ok-whole.ensures.lowered ∙ parts in
    let registers = subst (λ (l : Lowered).
    AllByRecursion (λ (fn : Function). fn.registers ≤ max_registers) l.functions) all
    c.in_ok-whole.ensures.registers in
    let few_names = subst (λ (l : Lowered). length l.names ≤ max_names) parts
    c.in_ok-lowered.ensures.names in
    let program = program_of_parts _ signatures statements _ _ c.in_ok-program.ensures.program count
    all in
    subst IsWellFormed (sym program) (program_is_well_formed laws facts _ signatures statements
    c.requires c.in_ok-lowered.ensures.within registers few_names)
