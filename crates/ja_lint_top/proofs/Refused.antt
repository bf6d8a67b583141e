-- What the refusals of files say.
use Rattle.std.specs.Prelude.{◌≡◌, ◌≤◌, ◌+◌, ℕ, zero, suc, List, [], ◌∷◌, ◌++◌, length, map, slice_get, Contains, None, Some}
use Rattle.std.specs.List.{flat_map, AllByRecursion}
use Rattle.std.proofs.Common.{ap, arith, codes, inl, inr, refl, subst, subst₂}
use Rattle.std.specs.Str.{IsUtf8}
use Rattle.std.specs.Str.Lossy.{utf8_valid_len}
use Rattle.std.proofs.lemmas.List.{length-append}
use Rattle.std.proofs.lemmas.Option.{same_Some}
use Rattle.ja_base.proofs.Options.{none_not_some}
use Rattle.ja_files.specs.declared.file.File.{File}
use Rattle.ja_files.specs.Files.{behind_separator, bytes_of, joined_text, lines_from, separator, taken}
use Rattle.ja_lex.specs.Spots.{max_bytes}
use Rattle.ja_load.specs.Loading.{HasManyFunctions, HasManyNodes}
use Rattle.ja_prim.specs.declared.signature.Signature.{Signature}
use Rattle.ja_top.specs.Findings.{IsUnfound}
use Rattle.ja_top.specs.declared.finding.FindFault.TheVariants as fault
use Rattle.ja_lint_top.specs.Lint.{IsUnreadable}
use Rattle.ja_lint_top.specs.Reading.{Held, AreHeld, Holds, HoldsMore, HoldsNone}
use Rattle.ja_lint_top.specs.Refusals.{about, no_text_words, text_of, Refuses, RefusesAll}
use Rattle.ja_lint_top.specs.Replies.{Reply, Fails}
use Rattle.ja_lint_top.specs.code.Answers.{AreWithin}
use Rattle.ja_lint_top.specs.declared.asking.Format.{Format}
use Rattle.ja_lint_top.proofs.Collected.{contains_behind, contains_head}
use Rattle.ja_lint_top.proofs.Limits.{functions_written, length_written, nodes_written, spent_written}

module _ (form : Format) (signatures : List Signature) (files : List File) (r : Reply) where
  pub many_functions : HasManyFunctions (text_of files)
      → Refuses form files None (codes "more than 4096 functions") r
      → RefusesAll form signatures files r
  many_functions many refuses =
      inr (inl (many, subst (λ words. Refuses form files None words r) functions_written refuses))

  pub many_nodes : HasManyNodes (text_of files) signatures
      → Refuses form files None (codes "more than 65536 nodes") r
      → RefusesAll form signatures files r
  many_nodes many refuses =
      inr (inr (inl (many, subst (λ words. Refuses form files None words r) nodes_written refuses)))

  pub spent : IsUnfound (text_of files) signatures fault.Spent
      → Refuses form files None (codes "not closed after 1000000 visits") r
      → RefusesAll form signatures files r
  spent unfound refuses =
      inr (inr (inr (
        unfound.0,
        unfound.1,
        unfound.2,
        subst (λ words. Refuses form files None words r) spent_written refuses,
      )))

-- ---- files by their names

-- what is held under the name with a number
pub held_at : (held : Held) (names contents : List (List ℕ)) (number : ℕ) (name bytes : List ℕ)
    → AreHeld held names contents → slice_get names number ≡ Some name
    → slice_get contents number ≡ Some bytes → Contains names name × Holds held name bytes
held_at held [] contents zero name bytes are at there = absurd (none_not_some at)
held_at held [] contents (suc k) name bytes are at there = absurd (none_not_some at)
held_at held (n ∷ names) [] number name bytes are at there = absurd are
held_at held (n ∷ names) (c ∷ contents) zero name bytes are at there =
    let name_is : n ≡ name = same_Some n name at in
    let bytes_are : c ≡ bytes = same_Some c bytes there in (
      subst (Contains (n ∷ names)) name_is (contains_head n names),
      subst₂ (Holds held) name_is bytes_are are.0,
    )
held_at held (n ∷ names) (c ∷ contents) (suc k) name bytes are at there =
    let (among, holds) = held_at held names contents k name bytes are.1 at there in
    (contains_behind n name names among, holds)

module _ (held : Held) (names : List (List ℕ)) (name : List ℕ) (r : Reply)
    (among : Contains names name) where
  pub failed : (reason : List ℕ) → HoldsNone held name → Fails (about name reason) r
      → IsUnreadable held names r
  failed reason none fails = (name, among, inl (none, (reason, fails)))

  pub too_long : HoldsMore held name → Fails (about name (codes "more than 16777216 bytes")) r
      → IsUnreadable held names r
  too_long more fails = (
    name,
    among,
    inr (inl (
      more,
      subst (λ words. Fails (about name words) r) length_written
          fails,
    )),
  )

  pub no_text : (bytes : List ℕ) (offset : ℕ) → Holds held name bytes → (IsUtf8 bytes → ⊥)
      → offset ≡ utf8_valid_len bytes → Fails (about name (no_text_words offset)) r
      → IsUnreadable held names r
  no_text bytes offset holds none is fails = (
    name,
    among,
    inr (inr (
      bytes,
      holds,
      none,
      subst (λ n. Fails (about name (no_text_words n)) r) is fails,
    )),
  )

-- ---- each file is within the limit of all

fit_behind : (n : ℕ) (files : List File)
    → length (flat_map behind_separator (map bytes_of files)) ≤ n
    → AllByRecursion (λ (file : File). length (bytes_of file) ≤ n) files
fit_behind n [] fit = tt
fit_behind n (file ∷ files) fit =
    let here = length-append (separator ++ bytes_of file)
    (flat_map behind_separator (map bytes_of files)) in
    let text = length-append separator (bytes_of file) in
    (omega (arith, fit, here, text), fit_behind n files (omega (arith, fit, here)))

pub are_within : (files : List File) → length (text_of files) ≤ max_bytes → AreWithin files
unfolding joined_text
are_within [] fit = tt
are_within (file ∷ files) fit =
    let all = length-append (bytes_of file) (flat_map behind_separator (map bytes_of files)) in
    (omega (arith, fit, all), fit_behind max_bytes files (omega (arith, fit, all)))

-- as many first lines as texts
pub lines_counted : (line : ℕ) (texts : List (List ℕ))
    → length (lines_from line texts) ≡ length texts
unfolding lines_from
lines_counted line [] = refl
lines_counted line (text ∷ texts) = ap suc (lines_counted (line + taken text) texts)
