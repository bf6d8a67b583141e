-- What the answer to the tokens of a program says: its tree is the text's and the only one, and a
-- refusal is right, and the only one that is.
use Rattle.std.proofs.Common.{◌≡◌, ◌≢◌, ◌∙◌, refl, sym, ap, ℕ, List, Ok, Err}
use Rattle.ja_lex.specs.Tokens.{tokens}
use Rattle.ja_syntax.specs.declared.tree.Statement.{Statement}
use Rattle.ja_grammar.specs.declared.fault.ParseFault.{ParseFault}
use Rattle.ja_grammar.specs.declared.fault.ParseFault.TheVariants.{Memory}
use Rattle.ja_grammar.specs.declared.fault.Refusal.{Refusal}
use Rattle.ja_grammar.specs.Input.{Tokens, head, Outcome, Done, Refused, strict}
use Rattle.ja_grammar.specs.code.Answering.{Answers}
use Rattle.ja_grammar.specs.Language.{max_levels, Spells, fault_at, IsRefused, Explains}
use Rattle.ja_grammar.specs.ReadStatement.{program}
use Rattle.ja_grammar.proofs.Explaining as laws
use Rattle.ja_grammar.proofs.GoodKnot.{place_law}
use Rattle.ja_grammar.proofs.Knot.{program_is, strict_rules}
use Rattle.ja_grammar.proofs.Real.{AreNamesReal}

-- a tree that is answered is the text's
pub answered_tree : (i : Tokens) (xs : List Statement)
    → Answers (program strict max_levels i) (Ok xs) → Spells max_levels i xs
answered_tree i xs h = go (program strict max_levels i) refl h
  where
    go : (o : Outcome (List Statement)) → program strict max_levels i ≡ o → Answers o (Ok xs)
        → Spells max_levels i xs
    go (Done ys r) e h =
        (r, program_is strict strict_rules max_levels i xs r (e ∙ ap (λ z. Done z r) (sym h)))
    go (Refused why r) e h = absurd h

pub answered_only : (i : Tokens) (xs : List Statement)
    → Answers (program strict max_levels i) (Ok xs) → (d : ℕ) (ys : List Statement) → Spells d i ys
    → ys ≡ xs
answered_only i xs h d ys other = laws.one_tree max_levels d i xs ys (answered_tree i xs h) other

-- some text has each token of a text
names_real : (text : List ℕ) → AreNamesReal (tokens text)
names_real text v u w split is = (text, v, w, split)

pub answered_fault : (text : List ℕ) (fault : ParseFault)
    → Answers (program strict max_levels (tokens text)) (Err fault) → Explains (tokens text) fault
answered_fault text = laws.answered_fault place_law (tokens text) (names_real text)

pub answered_none : (i : Tokens) (fault : ParseFault)
    → Answers (program strict max_levels i) (Err fault) → fault ≢ Memory
    → (xs : List Statement) → Spells max_levels i xs → ⊥
answered_none i fault h other = laws.answered_none i fault other h

-- what reading comes to is a refusal
pub refused_by : (text : List ℕ) (why : Refusal) (r : Tokens)
    → program strict max_levels (tokens text) ≡ Refused why r
    → IsRefused (tokens text) (fault_at why (head r))
refused_by text = laws.explained place_law (tokens text) (names_real text)

-- two refusals of one text are the same
pub refused_once : (text : List ℕ) (f g : ParseFault) → IsRefused (tokens text) f
    → IsRefused (tokens text) g → f ≡ g
refused_once text = laws.refused_once place_law (tokens text) (names_real text)

-- a text that is refused has no tree
pub refused_none : (text : List ℕ) (f : ParseFault) → IsRefused (tokens text) f
    → (xs : List Statement) → Spells max_levels (tokens text) xs → ⊥
refused_none text = laws.refused_none place_law (tokens text) (names_real text)

-- and each is the one to which reading comes
pub refused_so : (text : List ℕ) (fault : ParseFault) → IsRefused (tokens text) fault
    → (why : Refusal) × (r : Tokens) × (program strict max_levels (tokens text) ≡ Refused why r)
    × (fault ≡ fault_at why (head r))
refused_so text = laws.refused_so place_law (tokens text) (names_real text)
