-- The lemmas that the searches of a function are given, by its name.
use Rattle.ja_prelude.proofs.Facts.{texts_are_read, texts_are_few, spelled, texts_are_functions, functions_counted, paths_counted, nodes_are_allowed, nodes_stand_alone}
use Rattle.ja_prelude.proofs.TableLemmas.{classes_are_named, paths_are_named, all_sites_are_named, functions_are_numbered, functions_are_called, constructors_have_prototypes, objects_are_at_their_paths, errors_are_named}

pub ruleset for_texts_are_read = (texts_are_read, texts_are_few, spelled)

pub ruleset for_texts_are_functions = (texts_are_functions, functions_counted, paths_counted)

pub ruleset for_nodes_are_allowed = (nodes_are_allowed, nodes_stand_alone)

pub ruleset for_sites_are_named = (classes_are_named, paths_are_named, all_sites_are_named)

pub ruleset for_functions_are_numbered =
    (functions_are_numbered, functions_are_called, constructors_have_prototypes)

pub ruleset for_objects_are_at_their_paths = (objects_are_at_their_paths, errors_are_named)
