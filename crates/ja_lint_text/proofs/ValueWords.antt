-- The words of a value with the first of its sites are those of the value.
use Rattle.std.specs.Prelude.{◌≡◌, ◌+◌, ◌-◌, ℕ, List, ◌++◌, drop, length, map, take}
use Rattle.std.proofs.Common.{sym, ◌∙◌, ap, arith}
use Rattle.std.proofs.lemmas.List.{length-append, length-map, take-append-drop, take-map}
use Rattle.ja_base.specs.declared.ids.Site.{Site}
use Rattle.ja_graph.specs.declared.program.Program.{Program}
use Rattle.ja_abstract.specs.AbstractValue.{AbstractValue}
use Rattle.ja_files.specs.declared.file.File.{File}
use Rattle.ja_lint_text.specs.Values.{alternatives, most_told, primitive_words, row_words, site_words, sites_in, value_words}
use Rattle.ja_lint_text.specs.code.Lists.{alternatives_of, words_with}
use Rattle.ja_lint_text.proofs.Alternatives.{alternatives_first, take_front}

rest_is : (sites told : List Site) → told ≡ take most_told sites
    → length sites ≡ length told + length (drop most_told sites)
rest_is sites told told_is =
    ap length (sym (take-append-drop most_told sites))
    ∙ length-append (take most_told sites) (drop most_told sites)
    ∙ ap (λ (l : List Site). length l + length (drop most_told sites)) (sym told_is)

pub whole_value : (p : Program) (fs : List File) (ls : List ℕ) (v : AbstractValue)
    (sites told : List Site) (words : List (List ℕ)) (count : ℕ) (text : List ℕ)
    → sites ≡ sites_in p v.label → told ≡ take most_told sites
    → words ≡ words_with p fs ls v told → count ≡ length words + (length sites - length told)
    → text ≡ alternatives_of count words → text ≡ value_words p fs ls v
unfolding value_words
whole_value p fs ls v sites told words count text sites_are told_is words_are count_is text_is =
    let f : Site → List ℕ = site_words p fs ls in
    let front : List (List ℕ) = primitive_words v in
    let behind : List (List ℕ) = row_words v.flags.row in
    let all : List (List ℕ) = front ++ map f sites ++ behind in
    let words_is : words ≡ front ++ take most_told (map f sites) ++ behind =
    words_are ∙ ap (λ (ss : List Site). front ++ map f ss ++ behind) told_is
    ∙ ap (λ (m : List (List ℕ)). front ++ m ++ behind) (sym (take-map f most_told sites)) in
    let same : take most_told words ≡ take most_told all =
    ap (take most_told) words_is
    ∙ take_front most_told most_told front (map f sites) behind (omega arith) in
    let few : length words ≡ length front + length told + length behind =
    ap length words_are ∙ length-append (front ++ map f told) behind
    ∙ ap (λ n. n + length behind) (length-append front (map f told)
    ∙ ap (λ n. length front + n) (length-map told f)) in
    let many : length all ≡ length front + length sites + length behind =
    length-append (front ++ map f sites) behind
    ∙ ap (λ n. n + length behind) (length-append front (map f sites)
    ∙ ap (λ n. length front + n) (length-map sites f)) in
    let size : count ≡ length all =
    omega (arith, count_is, few, many, rest_is sites told told_is) in
    text_is ∙ alternatives_first count words all size same
    ∙ ap (λ (ss : List Site). alternatives (front ++ map f ss ++ behind)) sites_are
