use Rattle.std.proofs.Common.{ℕ, ◌-◌, ◌≡◌, ◌∙◌, ap, rules, tests}
use Rattle.std.proofs.lemmas.Iterator.{YieldsList-from_slice}
use Rattle.std.proofs.lemmas.Iterator.Consumers.{count_from_yields_List}
use Rattle.std.proofs.lemmas.Iterator.Search.{YieldsList-from_take_while}
use Rattle.std.proofs.lemmas.List.Folds.{length-prefix_len}
use Rattle.std.specs.List.{prefix_len}
use Rattle.std.specs.Prelude.{nat_le, slice_index}
use Rattle.ja_lex.specs.Spots.{place_at}
use Rattle.ja_files.specs.Files.{file_at, spot_at}
use Rattle.ja_files.proofs.spots.spot_of.Goals as goal

pub returns : goal.returns
returns c =
    let xs = c.args.first_lines.now in
    let at = c.args.place in
    let p = λ (first : ℕ). nat_le first at.line in
    let begun : c.count-begun.result ≡ prefix_len p xs =
    count_from_yields_List c.take_while.result _ c.count-begun.ensures.ran
    (YieldsList-from_take_while _ p (YieldsList-from_slice xs cc) c.take_while.ensures.closure
    c.take_while.ensures.done (λ x b q k. search (rules, tests))) ∙ length-prefix_len p xs in
    let file : c.saturating_sub-file.result ≡ file_at xs at.line =
    c.saturating_sub-file.ensures ∙ ap (λ (n : ℕ). n - 1) begun in
    let line : c.saturating_sub-2.result
    ≡ at.line - (slice_index xs c.saturating_sub-file.result - 1) =
    c.saturating_sub-2.ensures ∙ ap (λ (n : ℕ). at.line - n)
    (c.saturating_sub.ensures ∙ ap (λ (n : ℕ). n - 1) c.first_line-first.ensures) in
    ap (λ (n : ℕ). spot_at c.saturating_sub-file.result (place_at n at.column)) line
    ∙ ap (λ (k : ℕ). spot_at k (place_at (at.line - (slice_index xs k - 1)) at.column)) file
