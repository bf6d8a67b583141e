-- The trees of texts are those of the grammar, and no others.
use Rattle.std.proofs.Common.{◌≡◌, ℕ, true, Ok, refl, sym, subst, ◌∙◌}
use Rattle.std.proofs.Common.{List, [], ◌∷◌, ◌++◌}
use Rattle.std.specs.List.{flat_map, list_all}
use Rattle.ja_base.proofs.Tests.{and_left_true, and_right_true}
use Rattle.ja_grammar.specs.code.Answering.{Answers}
use Rattle.ja_grammar.specs.Input.{Tokens, strict, Outcome, Done, Refused}
use Rattle.ja_grammar.specs.Language.{Spells, max_levels}
use Rattle.ja_grammar.specs.ReadStatement.{program}
use Rattle.ja_grammar.proofs.Theorem.{answered_only}
use Rattle.ja_lex.specs.Tokens.{tokens}
use Rattle.ja_syntax.specs.declared.tree.Statement.{Statement}
use Rattle.ja_prelude.specs.Prelude.{prelude_statements}
use Rattle.ja_prelude.specs.Reading.{AreSpelled, is_read, is_text, numbered, statements_in, tree_of}
use Rattle.ja_prelude.specs.Texts.{prelude_texts}
use Rattle.ja_prelude.proofs.Facts.{spelled, texts_are_read}

-- ---- of one text

one_by : (i : Tokens) (o : Outcome (List Statement)) → program strict max_levels i ≡ o
    → is_read o ≡ true → (levels : ℕ) (statements : List Statement) → Spells levels i statements
    → statements ≡ statements_in o
one_by i (Done xs r) is read levels statements other =
    let answered = subst (λ o. Answers o (Ok xs)) (sym is) refl in
    answered_only i xs answered levels statements other
one_by i (Refused why r) is read levels statements other = absurd (cc)

pub one : (text : List ℕ) → is_text text ≡ true → (levels : ℕ) (statements : List Statement)
    → Spells levels (numbered 1 (tokens text)) statements → statements ≡ tree_of text
unfolding is_text tree_of
one text read =
    let i = numbered 1 (tokens text) in
    one_by i (program strict max_levels i) refl read

-- ---- of texts, one behind the other

all_spelled : (texts : List (List ℕ)) → list_all is_text texts ≡ true
    → AreSpelled texts (flat_map tree_of texts)
all_spelled [] read = refl
all_spelled (text ∷ texts) read =
    let first = and_left_true (is_text text) (list_all is_text texts) read in
    let others = and_right_true (is_text text) (list_all is_text texts) read in
    let tree = tree_of text in
    (tree, flat_map tree_of texts, spelled text first, all_spelled texts others, refl)

all_only : (texts : List (List ℕ)) → list_all is_text texts ≡ true
    → (statements : List Statement) → AreSpelled texts statements
    → statements ≡ flat_map tree_of texts
all_only [] read statements is = is
all_only (text ∷ texts) read statements is =
    let first = and_left_true (is_text text) (list_all is_text texts) read in
    let others = and_right_true (is_text text) (list_all is_text texts) read in
    let here = one text first max_levels is.0 is.2 in
    let behind = all_only texts others is.1 is.3 in
    is.4 ∙ (λ k. here k ++ behind k)

-- ---- of the built-in functions

pub prelude_spelled : AreSpelled prelude_texts prelude_statements
unfolding prelude_statements
prelude_spelled = all_spelled prelude_texts texts_are_read

pub prelude_only : (statements : List Statement) → AreSpelled prelude_texts statements
    → statements ≡ prelude_statements
unfolding prelude_statements
prelude_only = all_only prelude_texts texts_are_read
