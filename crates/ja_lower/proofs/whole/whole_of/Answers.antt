use Rattle.std.proofs.Common.{◌≡◌, ◌≤◌, ◌+◌, ◌++◌, ◌∷◌, [], ℕ, suc, List, length, ap, sym, subst, ◌∙◌, length-append, arith}
use Rattle.std.specs.List.{AllByRecursion}
use Rattle.std.specs.Vec.Iter.{into_iter_items}
use Rattle.ja_graph.specs.declared.program.Function.{Function}
use Rattle.ja_graph.specs.declared.program.SiteInfo.{SiteInfo}
use Rattle.ja_graph.specs.WellFormed.{max_registers}
use Rattle.ja_lower.specs.declared.body.Body.{Body}
use Rattle.ja_lower.specs.Lowering.{function_of, functions_of, sites_of}
use Rattle.ja_lower.proofs.Wholes.{functions_more, sites_more, functions_done, sites_done, all_more}
use Rattle.ja_lower.proofs.whole.whole_of.Goals as goal

pub loop-body-preserved : goal.loop-body-preserved
loop-body-preserved c =
    let fs : List Function = c.loop-body.whole.functions.items in
    let ss : List SiteInfo = c.loop-body.whole.sites.items in
    let rest : List Body = into_iter_items c.next.new.self in
    let first : ℕ = c.args.first_site in
    let number : ℕ = c.args.first_function + length fs in
    let step = c.in-Some.ensures.steps.0 in
    let more = c.in_ok-add.ensures.functions in
    let its = c.in_ok-add.ensures.sites in
    let count : length c.add.new.whole.functions.items ≡ suc (length fs) = ap length more
    ∙ length-append fs _ ∙ omega arith in
    let next : c.args.first_function + length c.add.new.whole.functions.items
    ≡ suc number = omega (arith, count) in
    record {
      few = omega (arith, count, ap length step, c.loop-body.invariant.few);
      functions =
          ap (λ xs. xs ++ functions_of (first + length c.add.new.whole.sites.items) rest) more
          ∙ ap (λ xs. (fs ++ function_of (first + length ss) c.in-Some.body ∷ [])
          ++ functions_of (first + length xs) rest) its
          ∙ functions_more fs ss first number c.in-Some.body rest
          ∙ ap (λ xs. fs ++ functions_of (first + length ss) xs) (sym step)
          ∙ c.loop-body.invariant.functions;
      sites =
          ap (λ n. c.add.new.whole.sites.items ++ sites_of n rest) next
          ∙ ap (λ xs. xs ++ sites_of (suc number) rest) its
          ∙ sites_more ss number c.in-Some.body rest
          ∙ ap (λ xs. ss ++ sites_of number xs) (sym step) ∙ c.loop-body.invariant.sites;
      registers =
          subst (λ xs. AllByRecursion (λ (f : Function). f.registers ≤ max_registers) xs) (sym more)
          (all_more (λ (f : Function). f.registers ≤ max_registers) fs _
          c.loop-body.invariant.registers
          c.in_ok-add.ensures.registers);
    }

pub returns-clause-functions : goal.returns-clause-functions
returns-clause-functions c =
    sym (functions_done _ _ _ (omega (arith, c.in-None.ensures.steps.0)))
    ∙ c.loop-body.invariant.functions

pub returns-clause-sites : goal.returns-clause-sites
returns-clause-sites c =
    sym (sites_done _ _ _ (omega (arith, c.in-None.ensures.steps.0))) ∙ c.loop-body.invariant.sites
