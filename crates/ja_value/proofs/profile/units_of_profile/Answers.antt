use Rattle.ja_value.proofs.ProfileLemmas.{all_units}
use Rattle.ja_value.proofs.profile.units_of_profile.Goals as goal

pub returns : goal.returns
returns c =
    record { few = c.requires; units = all_units c.args.units.now c.type_inv.units }
