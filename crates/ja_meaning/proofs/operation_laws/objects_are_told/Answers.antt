-- A label of the program is one of its labels alone, as proved in Operations.
use Rattle.ja_meaning.proofs.Operations.{told_by_site, told_by_readings}
use Rattle.ja_meaning.proofs.operation_laws.objects_are_told.Goals as goal

pub returns-clause-by_site : goal.returns-clause-by_site
returns-clause-by_site c = told_by_site

pub returns-clause-by_readings : goal.returns-clause-by_readings
returns-clause-by_readings c = told_by_readings
