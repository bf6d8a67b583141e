use Rattle.ja_prelude.proofs.OpeningLemmas.{objects_are_well_formed, sites_have_objects}
use Rattle.ja_prelude.proofs.opening_laws.objects_are_well_formed.Goals as goal

pub returns-clause-objects : goal.returns-clause-objects
returns-clause-objects c = objects_are_well_formed

pub returns-clause-all : goal.returns-clause-all
returns-clause-all c = sites_have_objects
