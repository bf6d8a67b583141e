-- A program is well formed exactly where its parts are.
use Rattle.std.proofs.Common.{◌≡◌, ◌<◌, List, [], ◌∷◌, length, Some, refl, arith}
use Rattle.std.specs.List.{slice_get}
use Rattle.ja_base.proofs.Lists.{first_element}
use Rattle.ja_graph.specs.declared.program.Program.{Program}
use Rattle.ja_graph.specs.code.Parts.{HasFunctions, HasSites, HasOpening, HasNames}
use Rattle.ja_graph.specs.WellFormed.{IsWellFormed}

pub whole_from_parts : (p : Program) → HasFunctions p → HasSites p → HasOpening p → HasNames p
    → IsWellFormed p
whole_from_parts p functions sites opening names =
    let first = first_element p.functions (omega
    (arith, functions.text_among, functions.text_functions)) in
    record {
      text = first.0;
      text_is = first.1;
      text_among = functions.text_among;
      text_functions = functions.text_functions;
      value_first = functions.value_first;
      text_first = functions.text_first;
      each = functions.each;
      few_nodes = functions.few_nodes;
      objects = opening.objects;
      all_objects = opening.all_objects;
      builtins = sites.builtins;
      unowned = sites.unowned;
      name_functions = sites.name_functions;
      sites = sites.numbered.sites;
      numbered = sites.numbered.numbered;
      told = sites.numbered.told;
      few_sites = sites.few_sites;
      names = names.builtin;
      distinct = names.distinct;
      few_names = names.few_names;
    }

pub parts_of_whole : (p : Program) → IsWellFormed p
    → HasFunctions p × HasSites p × HasOpening p × HasNames p
parts_of_whole p well = (
  record {
    text_among = well.text_among;
    text_functions = well.text_functions;
    value_first = well.value_first;
    text_first = well.text_first;
    few_nodes = well.few_nodes;
    each = well.each;
  },
  record {
    few_sites = well.few_sites;
    builtins = well.builtins;
    unowned = well.unowned;
    name_functions = well.name_functions;
    numbered = record { sites = well.sites; numbered = well.numbered; told = well.told };
  },
  record { objects = well.objects; all_objects = well.all_objects },
  record { few_names = well.few_names; builtin = well.names; distinct = well.distinct },
)
