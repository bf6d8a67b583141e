-- The sites of labels.
use Rattle.std.specs.Prelude.{not, Bool, ◌||◌}
use Rattle.ja_base.specs.declared.ids.Label.{Label}
use Rattle.ja_base.specs.declared.ids.Site.{Site}
use Rattle.ja_abstract.specs.AbstractValue.{Labels}
use Rattle.ja_abstract.specs.AbstractState.{new}

-- the first of a set's labels of its site: the new one, or the old one without it
abbrev pub is_first : Labels → Label → Bool
is_first set l = not l.old || not (set (new l.site))

abbrev pub site_of_label : Label → Site
site_of_label l = l.site
