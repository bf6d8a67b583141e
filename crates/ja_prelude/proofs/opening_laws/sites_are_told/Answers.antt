use Rattle.ja_prelude.proofs.OpeningLemmas.{classes_are_told, sites_are_unowned, sites_name_functions}
use Rattle.ja_prelude.proofs.opening_laws.sites_are_told.Goals as goal

pub returns-clause-classes : goal.returns-clause-classes
returns-clause-classes c = classes_are_told

pub returns-clause-unowned : goal.returns-clause-unowned
returns-clause-unowned c = sites_are_unowned

pub returns-clause-functions : goal.returns-clause-functions
returns-clause-functions c = sites_name_functions
