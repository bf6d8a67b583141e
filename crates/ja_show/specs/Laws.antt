-- What the laws about messages speak of.
use Rattle.std.specs.Prelude.{ℕ, List, [], Option}
use Rattle.ja_files.specs.declared.file.Spot.{Spot}
use Rattle.ja_show.specs.declared.message.Level.{Level}
use Rattle.ja_show.specs.declared.message.Message.{Message}
use Rattle.ja_show.specs.declared.message.Rule.TheVariants.{Unknown}

-- a message about what isn't known
abbrev pub told : Level → Option Spot → List ℕ → List Spot → Message
told level spot text calls =
    record {
      level = level;
      rule = Unknown;
      spot = spot;
      text = text;
      calls = calls;
    }
