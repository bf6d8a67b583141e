-- A certificate ends with a brace and a line feed.
use Rattle.std.proofs.Common.{◌≡◌, ℕ, ◌+◌, ◌<◌, ◌≤◌, List, [], ◌∷◌, ◌++◌, length, take, drop, Bool, true, false, Some, None, refl, sym, ap, ◌∙◌, arith, append_assoc, length-append, take-append-drop}
use Rattle.std.specs.List.{list_all}
use Rattle.std.proofs.lemmas.Bool.{and_right}
use Rattle.std.proofs.lemmas.List.{drop-append-le}
use Rattle.std.proofs.lemmas.List.Folds.{list_all-append}
use lib.Chars.{codes}
use Rattle.json.specs.Print.{quoted}
use Rattle.json.specs.Word.{is_space}
use Rattle.serde_json.specs.Data.{Members, member, no_members, object}
use Rattle.serde_json.specs.Read.{read}
use Rattle.serde_json.specs.Written.{comma_if, compact_text, members_text}
use Rattle.ja_cut_laws.specs.Cuts.{line_of}
use Rattle.ja_cut_laws.proofs.Refused.{cut_is_refused, spaces_change_nothing}

-- what stands before the closing brace
abbrev inner : Bool → Members → List ℕ
inner later no_members = []
inner later (member k d ms) =
    comma_if later ++ (quoted k ++ 58 ∷ (compact_text d ++ inner true ms))

inner_is : (later : Bool) (ms : Members) → members_text later ms ≡ inner later ms ++ 125 ∷ []
inner_is later no_members = refl
inner_is later (member k d ms) =
    ap (λ l. comma_if later ++ (quoted k ++ 58 ∷ (compact_text d ++ l))) (inner_is true ms)
    ∙ simp append_assoc

abbrev front : Members → List ℕ
front ms = 123 ∷ inner false ms

compact_is : (ms : Members) → compact_text (object ms) ≡ front ms ++ 125 ∷ []
compact_is ms = ap (λ l. 123 ∷ l) (inner_is false ms)

line_is : (ms : Members) → line_of (object ms) ≡ front ms ++ 125 ∷ 10 ∷ []
line_is ms =
    ap (λ l. l ++ codes "\n") (compact_is ms) ∙ append_assoc (front ms) (125 ∷ []) (10 ∷ [])

brace_behind : (n : ℕ) (ms : Members) → n ≤ length (front ms)
    → list_all is_space (drop n (line_of (object ms))) ≡ false
brace_behind n ms within =
    ap (λ l. list_all is_space (drop n l)) (line_is ms)
    ∙ ap (list_all is_space) (drop-append-le n (front ms) (125 ∷ 10 ∷ []) within)
    ∙ list_all-append is_space (drop n (front ms)) (125 ∷ 10 ∷ [])
    ∙ and_right (list_all is_space (drop n (front ms))) false refl

pub cut_line_is_refused : (ms : Members) (n : ℕ)
    → read (line_of (object ms)) ≡ Some (object ms)
    → n < length (compact_text (object ms)) → read (take n (line_of (object ms))) ≡ None
cut_line_is_refused ms n back within =
    let size : length (compact_text (object ms)) ≡ length (front ms) + 1 =
    ap length (compact_is ms) ∙ length-append (front ms) (125 ∷ []) in
    cut_is_refused (take n (line_of (object ms))) (record {
      rest = drop n (line_of (object ms));
      value = object ms;
      whole = ap read (take-append-drop n (line_of (object ms))) ∙ back;
      brackets = refl;
      more = brace_behind n ms (omega (arith, within, size));
    })

pub brace_is_enough : (ms : Members) → read (line_of (object ms)) ≡ Some (object ms)
    → read (compact_text (object ms)) ≡ Some (object ms)
brace_is_enough ms back =
    sym (spaces_change_nothing (compact_text (object ms)) (codes "\n") refl) ∙ back
