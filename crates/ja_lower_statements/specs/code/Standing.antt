-- What the ways that the code has, and what is around a statement there, stand for.
use Rattle.std.specs.Prelude.{◌≡◌, ℕ, List, map, Option, Some, None, Result, Ok, Err}
use Rattle.std.specs.Option.{option_map}
use Rattle.ja_base.specs.declared.ids.Memory.{Memory}
use Rattle.ja_base.specs.declared.ids.Reg.{Reg}
use Rattle.ja_lower_statements.specs.declared.around.Around.{Around}
use Rattle.ja_lower_statements.specs.declared.trials.Guarded.{Guarded}
use Rattle.ja_lower_statements.specs.declared.trials.Kept.{Kept}
use Rattle.ja_lower_listing.specs.declared.item.Spot.{Spot}
use Rattle.ja_lower_statements.specs.declared.way.Jump.{Jump}
use Rattle.ja_lower_statements.specs.declared.way.Jump.TheVariants as jump
use Rattle.ja_lower_statements.specs.declared.way.Step.{Step}
use Rattle.ja_lower_statements.specs.declared.way.Step.TheVariants as step
use Rattle.ja_lower_statements.specs.declared.way.Way.{Way}
use Rattle.ja_lower_draft.specs.Lines.{Listing}
use Rattle.ja_lower_statements.specs.Statements as statements
use Rattle.ja_lower_statements.specs.Ways as ways
use Rattle.ja_lower_draft.specs.Copies.{Template}

abbrev pub step_of : Step → List (List ℕ) → List ℕ → Option Template → ways.Way
step_of (step.Loop end turn) labels text block = ways.of_loop labels end turn
step_of (step.Switch end) labels text block = ways.of_switch end
step_of (step.Label end) labels text block = ways.of_label text end
step_of (step.Catch saved) labels text block = ways.of_catch saved
step_of (step.Finally saved) labels text (Some block) = ways.of_finally saved block
-- there is none without a block
step_of (step.Finally saved) labels text None = ways.of_catch saved

-- a way has the labels of a loop, the text of a label, and the block of a `finally`
abbrev pub way_of : Way → ways.Way
way_of way =
    step_of way.step (map (λ t. t.now) way.labels.now) way.text.now
    (option_map (λ t. t.now) way.block)

-- where a jump goes, without or with a label, if it is to a way
abbrev pub target_of : Jump → Option (List ℕ) → ways.Way → Option Spot
target_of jump.Break = ways.break_target
target_of jump.Continue = ways.continue_target

abbrev pub around_of : Around → statements.Around
around_of a =
    record {
      scene = a.scene.now;
      ways = map way_of a.ways.now;
      labels = map (λ t. t.now) a.labels.now;
    }

-- what the functions that leave a way give, unless memory was refused
abbrev pub Leaves : ways.Leaving → Result (Option Reg) Memory → Listing → Type 0
Leaves v (Ok kept) new = v ≡ record { listing = new; kept = kept }
Leaves v (Err e) new = Unit {0}

abbrev pub guarded_at : Guarded → Listing → statements.Guarded
guarded_at g l = record { listing = l; first = g.first; saved = g.saved }

abbrev pub Guards : statements.Guarded → Result Guarded Memory → Listing → Type 0
Guards v (Ok g) new = v ≡ guarded_at g new
Guards v (Err e) new = Unit {0}

abbrev pub kept_at : Kept → Listing → statements.Kept
kept_at k l = record { listing = l; first = k.first; saved = k.saved; template = k.template }

abbrev pub Keeps : statements.Kept → Result Kept Memory → Listing → Type 0
Keeps v (Ok k) new = v ≡ kept_at k new
Keeps v (Err e) new = Unit {0}
