use Rattle.std.proofs.Common.{◌≡◌, ◌≤◌, ℕ, List, length, sym, ◌∙◌, subst, take, arith}
use Rattle.std.proofs.lemmas.Bool.{leb-true}
use Rattle.ja_graph.specs.code.Parts.{AreDistinct}
use Rattle.ja_graph.specs.WellFormed.{builtin_names, max_names}
use Rattle.ja_graph.proofs.well_formed_programs.has_names.Goals as goal
use Rattle.ja_graph.proofs.well_formed_programs.has_names.Goals.{then-names-le-MOST_NAMES, else-names-le-MOST_NAMES}

pub returns-then-begin_with_builtin_names : goal.returns-then-begin_with_builtin_names
returns-then-begin_with_builtin_names c =
    let same = c.as_slice-names.ensures in
    elim c.if-names-le-MOST_NAMES.branch [
      | then-names-le-MOST_NAMES w ↦
          (let begin = w.begin_with_builtin_names.ensures.0
          (sym w.value-is ∙ c.if-begin_with_builtin_names.true) in (
            λ e. record {
              few_names =
                  subst (λ (names : List (List ℕ)). length names ≤ max_names) same
                  w.if-names-le-MOST_NAMES.true;
              builtin =
                  subst (λ (names : List (List ℕ)). take (length builtin_names) names
                  ≡ builtin_names) same begin;
              distinct = subst AreDistinct same (c.are_distinct.ensures.0 e);
            },
            λ has. c.are_distinct.ensures.1 (subst AreDistinct (sym same) has.distinct),
          ))
      | else-names-le-MOST_NAMES w ↦ absurd (omega (
        arith,
        leb-true (length c.as_slice-names.result.now) max_names
            (sym w.value-is ∙ c.if-begin_with_builtin_names.true),
        w.if-names-le-MOST_NAMES.false,
      ))
    ]
