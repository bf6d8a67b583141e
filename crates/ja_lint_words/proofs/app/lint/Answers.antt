-- Each argument is added to those before it.
use Rattle.std.proofs.Common.{◌≡◌, ◌∙◌, ◌||◌, Bool, false, Result, Ok, Err, IfOk, ap₂, codes}
use Rattle.clap.specs.Built.{AddsArg}
use Rattle.clap.specs.Walk.{Rule, rule_of}
use Rattle.clap.specs.Simple.{App, with_rule}
use Rattle.clap.specs.declared.builder.action.ArgAction.TheVariants.{Append, Set}
use Rattle.clap.specs.declared.builder.arg.Arg.{Arg}
use Rattle.clap.specs.declared.builder.command.Command.{Command}
use Rattle.ja_lint_words.specs.code.App.{IsApp, flag_rule, list_rule, named_app, option_rule}
use Rattle.ja_lint_words.proofs.app.lint.Goals as goal

module _ (a : App) (r : Rule) (old : Command) (arg : Arg) (above : IsApp a old)
    (is : (rule_of arg ≡ r) × (arg.global ≡ false)) where
  added : (new : Command) → AddsArg old arg new → IsApp (with_rule a r) new
  added new adds = (
    adds.shape is.1 ∙ ap₂ with_rule above.0 is.0,
    adds.globals ∙ ap₂ (λ (x y : Bool). x || y) above.1 is.1,
  )

  if_added : {E : Type 0} (r' : Result Command E) → IfOk r' (AddsArg old arg)
      → IfOk r' (IsApp (with_rule a r))
  if_added (Ok new) adds = added new adds
  if_added (Err e) adds = adds

pub returns : goal.returns
returns c =
    let with_device = with_rule named_app (option_rule (codes "device") Append) in
    let with_format = with_rule with_device (option_rule (codes "format") Set) in
    let with_rows = with_rule with_format (flag_rule (codes "rows")) in
    let with_help = with_rule with_rows (flag_rule (codes "help")) in
    let with_version = with_rule with_help (flag_rule (codes "version")) in
    let device = added named_app (option_rule (codes "device") Append) c.named.result
    c.option.result c.named.ensures c.option.ensures c.in_ok-arg.field-0 c.in_ok-arg.ensures in
    let format = added with_device (option_rule (codes "format") Set) c.in_ok-arg.field-0
    c.option-2.result device c.option-2.ensures c.in_ok-arg-2.field-0 c.in_ok-arg-2.ensures in
    let rows = added with_format (flag_rule (codes "rows")) c.in_ok-arg-2.field-0
    c.flag.result format c.flag.ensures c.in_ok-arg-3.field-0 c.in_ok-arg-3.ensures in
    let help = added with_rows (flag_rule (codes "help")) c.in_ok-arg-3.field-0
    c.flag-2.result rows c.flag-2.ensures c.in_ok-arg-4.field-0 c.in_ok-arg-4.ensures in
    let version = added with_help (flag_rule (codes "version")) c.in_ok-arg-4.field-0
    c.flag-3.result help c.flag-3.ensures c.in_ok-arg-5.field-0 c.in_ok-arg-5.ensures in
    if_added with_version (list_rule (codes "file")) c.in_ok-arg-5.field-0 c.list.result version
    c.list.ensures c.arg-6.result c.arg-6.ensures
