-- There are as many names as contents, and what is refused is refused of these.
use Rattle.std.proofs.Common.{Bor, Global, List, Vec, ℕ, ap, arith, inl, inr, length, map, subst}
use Rattle.std.proofs.lemmas.List.{length-map}
use Rattle.std.proofs.lemmas.Result.{IfOk-weaker}
use Rattle.ja_lint_top.specs.code.Answers.{IsNoText}
use Rattle.ja_lint_top.proofs.Held.{held_count}
use Rattle.ja_lint_top.proofs.top.answer_names.Goals as goal

abbrev name_in : Bor (List ℕ) → List ℕ
name_in name = name.now

abbrev bytes_in : Vec ℕ Global → List ℕ
bytes_in bytes = bytes.items

pub texts_of-requires : goal.texts_of-requires
texts_of-requires g c =
    let names = c.args.names.now in
    let contents = c.in-Ok.contents.items in
    omega (
      arith,
      ap length c.deref.ensures.value,
      held_count (g.F.Files.held c.args.files.now) (map name_in names) (map bytes_in contents)
          c.in-Ok.ensures.held,
      length-map names name_in,
      length-map contents bytes_in,
    )
