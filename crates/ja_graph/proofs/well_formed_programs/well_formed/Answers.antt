use Rattle.std.proofs.Common.{sym, ◌∙◌}
use Rattle.ja_graph.proofs.WellFormedLemmas.{whole_from_parts, parts_of_whole}
use Rattle.ja_graph.proofs.well_formed_programs.well_formed.Goals as goal
use Rattle.ja_graph.proofs.well_formed_programs.well_formed.Goals.{then-has_functions, else-has_functions, then-has_sites, else-has_sites}

pub returns-then-has_opening : goal.returns-then-has_opening
returns-then-has_opening c =
    let p = c.args.program.now in
    elim c.if-has_sites.branch [
      | then-has_sites w ↦
          (elim c.if-has_functions.branch [
            | then-has_functions v ↦
                (let functions = c.has_functions.ensures.0 v.if-has_functions.true in
                let sites = v.has_sites.ensures.0 (sym v.value-is ∙ w.if-has_sites.true) in
                let opening = w.has_opening.ensures.0 (sym w.value-is ∙ c.if-has_opening.true) in (
                  λ e. whole_from_parts p functions sites opening (c.has_names.ensures.0 e),
                  λ well. c.has_names.ensures.1 (parts_of_whole p well).3,
                ))
            | else-has_functions v ↦ absurd (cc (
              v.if-has_functions.false,
              v.value-is,
              w.if-has_sites.true,
            ))
          ])
      | else-has_sites w ↦ absurd (cc (w.if-has_sites.false, w.value-is, c.if-has_opening.true))
    ]
