-- By the counts of objects, as proved in Resolved.
use Rattle.ja_meaning.proofs.Renamed.{by_origins, old_alone, none_new}
use Rattle.ja_meaning.proofs.Resolved.{origins-has, renamed_labels-has, knows-renamed}
use Rattle.ja_meaning.proofs.renaming_laws.renaming_is_by_origins.Goals as goal

pub returns-clause-origins : goal.returns-clause-origins
returns-clause-origins c = origins-has

pub returns-clause-labels : goal.returns-clause-labels
returns-clause-labels c = λ e now mask aged a set o h. renamed_labels-has e now mask aged a o set h

pub returns-clause-contents : goal.returns-clause-contents
returns-clause-contents c = knows-renamed

pub returns-clause-exactly : goal.returns-clause-exactly
returns-clause-exactly c = by_origins

pub returns-clause-old_alone : goal.returns-clause-old_alone
returns-clause-old_alone c = old_alone

pub returns-clause-none_new : goal.returns-clause-none_new
returns-clause-none_new c = none_new
