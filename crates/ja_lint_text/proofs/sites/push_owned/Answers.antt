use Rattle.std.proofs.Common.{◌≡◌, ◌++◌, ℕ, List, ap, append_assoc, subst, ◌∙◌}
use Rattle.std.specs.Prelude.{OnOk}
use lib.Chars.{codes}
use Rattle.ja_lint_text.specs.Values.{function_text}
use Rattle.ja_lint_text.proofs.sites.push_owned.Goals as goal

pub returns : goal.returns
returns c =
    let name = function_text c.args.program.now c.args.function in
    let front = c.args.text.now.items in
    subst (λ (l : List ℕ). OnOk c.push_function.result (c.push_function.new.text.items ≡ l))
    (ap (λ (l : List ℕ). l ++ name) c.in_ok-extend_from_slice.ensures.items
    ∙ append_assoc front (codes "an object made in ") name) c.push_function.ensures
