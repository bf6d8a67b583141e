-- Each command is added to those before it.
use Rattle.std.proofs.Common.{◌∙◌, ◌||◌, Bool, Result, Ok, Err, IfOk, ap₂}
use Rattle.clap.specs.Built.{AddsSubcommand}
use Rattle.clap.specs.Simple.{App, with_subcommand}
use Rattle.clap.specs.declared.builder.command.Command.{Command}
use Rattle.ja_words.specs.code.Apps.{IsApp, analyse_app, check_app, generate_app, run_app, top_app}
use Rattle.ja_words.proofs.app.tajs.Goals as goal

module _ (a s : App) (old sub : Command) (above : IsApp a old) (below : IsApp s sub) where
  added : (new : Command) → AddsSubcommand old sub new → IsApp (with_subcommand a s.top) new
  added new adds = (
    adds.shape below.1 ∙ ap₂ (λ (x y : App). with_subcommand x y.top) above.0 below.0,
    adds.globals ∙ ap₂ (λ (x y : Bool). x || y) above.1 below.1,
  )

  if_added : {E : Type 0} (r : Result Command E) → IfOk r (AddsSubcommand old sub)
      → IfOk r (IsApp (with_subcommand a s.top))
  if_added (Ok new) adds = added new adds
  if_added (Err e) adds = adds

pub returns : goal.returns
returns c =
    let with_analyse = with_subcommand top_app analyse_app.top in
    let with_check = with_subcommand with_analyse check_app.top in
    let with_run = with_subcommand with_check run_app.top in
    if_added with_run generate_app _ _
    (added with_check run_app _ _
    (added with_analyse check_app _ _
    (added top_app analyse_app _ _ c.top.ensures c.in_ok-analyse.ensures _
    c.in_ok-subcommand.ensures)
    c.check.ensures _ c.in_ok-subcommand-2.ensures)
    c.in_ok-run.ensures _ c.in_ok-subcommand-3.ensures)
    c.in_ok-generate.ensures _ c.subcommand-4.ensures
