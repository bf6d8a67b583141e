-- Which texts are in the language, and where any other one is refused.
use Rattle.std.specs.Prelude.{◌≡◌, ◌+◌, ℕ, nat_le, nat_lt, Bool, true, false, not, ◌&&◌, ◌||◌, ◌==◌, List, [], ◌∷◌, ◌++◌, length, Option, Some, None}
use Rattle.ja_base.specs.declared.ids.Place.{Place}
use Rattle.ja_base.specs.declared.ids.ScopeKind.{ScopeKind}
use Rattle.ja_base.specs.declared.ids.ScopeKind.TheVariants as scope
use Rattle.ja_lex.specs.declared.token.Token.{Token}
use Rattle.ja_lex.specs.Tokens.{tokens}
use Rattle.ja_syntax.specs.declared.symbol.Symbol.TheVariants as k
use Rattle.ja_syntax.specs.declared.tree.Statement.{Statement}
use Rattle.ja_syntax.specs.Symbols.{fault_of}
use Rattle.ja_grammar.specs.declared.fault.ParseFault.{ParseFault}
use Rattle.ja_grammar.specs.declared.fault.ParseFault.TheVariants.{Syntax, Scope, Depth, Memory}
use Rattle.ja_grammar.specs.declared.fault.Refusal.{Refusal}
use Rattle.ja_grammar.specs.declared.fault.Refusal.TheVariants as refusal
use Rattle.ja_grammar.specs.Forms.{begins_suffix, is_label_behind}
use Rattle.ja_grammar.specs.Input.{Tokens, next, head, behind, Rules, strict}
use Rattle.ja_grammar.specs.Productions.{At, NotAt}
use Rattle.ja_grammar.specs.StatementGrammar.{IsProgram}

-- the greatest number of levels under which a token may stand
abbrev pub max_levels : ℕ
max_levels = 200

-- tokens and the end are these statements, with at most so many levels
abbrev pub Spells : ℕ → Tokens → List Statement → Type 0
Spells levels i xs = (r : Tokens) × IsProgram strict levels i xs r

-- tokens are a text of the language, with any number of levels
pub record IsText (i : Tokens) : Type 0 where
  pub levels : ℕ
  pub tree : List Statement
  pub spelled : Spells levels i tree

-- ---- the place: the first token with which no text goes on

-- there is a refusal for want of levels
abbrev pub is_level : Refusal → Bool
is_level refusal.Deep = true
is_level (refusal.DeepLabel place) = true
is_level _ = false

-- The rules where so many levels are left, of which the last `spare` are for tokens alone that have
-- at most `late` tokens from them on.
unfoldable pub spared : ℕ → ℕ → ℕ → Rules
spared late spare levels why i =
    strict levels why i || (is_level why && (nat_le levels spare && nat_lt late (length i)))

-- some text has this token
abbrev pub IsReal : Token → Type 0
IsReal t = (text : List ℕ) × (v : Tokens) × (w : Tokens) × (tokens text ≡ v ++ t ∷ w)

-- each of these tokens is in some text
abbrev pub AreReal : Tokens → Type 0
AreReal [] = Unit {0}
AreReal (t ∷ i) = IsReal t × AreReal i

-- Some text goes on behind these tokens with the next token of the rest, or ends there as the rest
-- does. What comes behind that token may stand under more than 200 levels.
pub record GoesOn (before rest : Tokens) : Type 0 where
  pub more : Tokens
  pub same : head more ≡ head rest
  pub spare : ℕ
  pub tree : List Statement
  pub end : Tokens
  pub spelled : IsProgram (spared (length (behind more)) spare) (max_levels + spare)
      (before ++ more) tree end

-- The first token, or the end, with which no text goes on, whatever follows it; with each one
-- before it a text goes on, by real tokens.
pub record FirstRefused (before rest : Tokens) : Type 0 where
  pub goes_on : (v : Tokens) (t : Token) (w : Tokens) → before ≡ v ++ t ∷ w
      → (g : GoesOn v (t ∷ w)) × AreReal (behind g.more)
  pub refused : GoesOn before rest → ⊥

-- ---- the reason: the rule without which a text goes on

-- the same place
abbrev pub same_place : Place → Place → Bool
same_place p q = p.line == q.line && p.column == q.column

-- the same refusal, by one rule that can be left out
abbrev pub is_same : Refusal → Refusal → Bool
is_same refusal.RegExp refusal.RegExp = true
is_same refusal.Arguments refusal.Arguments = true
is_same (refusal.Broken p) (refusal.Broken q) = same_place p q
is_same (refusal.Operand p) (refusal.Operand q) = same_place p q
is_same (refusal.Alone p) (refusal.Alone q) = same_place p q
is_same (refusal.UnknownLabel p) (refusal.UnknownLabel q) = same_place p q
is_same _ _ = false

-- the rules of the language but that of one refusal
unfoldable pub without : Refusal → ℕ → Rules
without left_out levels why i = not (is_same left_out why) && strict levels why i

-- tokens are a text, of any number of levels, without the rule of a refusal
abbrev pub IsTextWithout : Refusal → Tokens → Type 0
IsTextWithout why i =
    (levels : ℕ) × (xs : List Statement) × (r : Tokens) × IsProgram (without why) levels i xs r

-- no text goes on so, whatever the levels
abbrev pub IsForbidden : Tokens → Tokens → Type 0
IsForbidden before rest = (more : Tokens) → head more ≡ head rest → IsText (before ++ more) → ⊥

-- the rest goes on with no member or call (11.2)
abbrev pub NoSuffix : Tokens → Type 0
NoSuffix rest = begins_suffix (next rest) ≡ false

-- no label of a jump comes next (12.7, 12.8)
abbrev pub NoLabel : Tokens → Type 0
NoLabel rest = is_label_behind (head rest) ≡ false

-- the same next token, and behind it real ones
abbrev pub Follows : Tokens → Tokens → Type 0
Follows more rest = (head more ≡ head rest) × AreReal (behind more)

-- the same next two tokens, and behind them real ones
abbrev pub FollowsTwo : Tokens → Tokens → Type 0
FollowsTwo more rest =
    (head more ≡ head rest) × (head (behind more) ≡ head (behind rest))
    × AreReal (behind (behind more))

-- A rule stands in the way: with the next token no text goes on, and without the rule one does.
pub data Stands : Refusal → Tokens → Tokens → Type 0 where
  -- more levels would do; a label is too deep itself, and known by the `:` behind it
  deep : {before rest : Tokens} (more : Tokens) → NotAt k.Colon rest → Follows more rest
      → IsText (before ++ more) → Stands refusal.Deep before rest
  deep_label : {before rest : Tokens} {place : Place} (front : Tokens) (t : Token) (more : Tokens)
      → before ≡ front ++ t ∷ [] → t.place ≡ place → At k.Colon rest
      → Follows more rest → IsText (before ++ more) → Stands (refusal.DeepLabel place) before rest
  -- if regular expressions were in the profile; if `arguments` could be declared
  regexp : {before rest : Tokens} (more : Tokens) → IsForbidden before rest → Follows more rest
      → IsTextWithout refusal.RegExp (before ++ more)
      → Stands refusal.RegExp before rest
  arguments : {before rest : Tokens} (more : Tokens) → IsForbidden before rest → Follows more rest
      → IsTextWithout refusal.Arguments (before ++ more)
      → Stands refusal.Arguments before rest
  -- but for a rule of the word at the place: that the operand of `++` and `--` is a reference, that
  -- a label is not inside itself, that the label of a `continue` is a loop's
  broken : {before rest : Tokens} {place : Place} (more : Tokens) → IsForbidden before rest
      → Follows more rest
      → IsTextWithout (refusal.Broken place) (before ++ more)
      → Stands (refusal.Broken place) before rest
  -- the operand of the `++` or `--` at the place ends here: but for the rule on it, something that
  -- ends an operand could follow
  operand : {before rest : Tokens} {place : Place} (more : Tokens) → NoSuffix rest → NoSuffix more
      → AreReal more → IsForbidden before more
      → IsTextWithout (refusal.Operand place) (before ++ more)
      → Stands (refusal.Operand place) before rest
  -- no label follows the `break` at the place: if there were something to leave, something that is
  -- no label could follow
  alone : {before rest : Tokens} {place : Place} (more : Tokens) → NoLabel rest → NoLabel more
      → AreReal more → IsForbidden before more
      → IsTextWithout (refusal.Alone place) (before ++ more)
      → Stands (refusal.Alone place) before rest
  -- a jump where there is nothing to leave, and behind it a label that is none around
  unknown : {before rest : Tokens} {place : Place} (more : Tokens) → IsForbidden before rest
      → FollowsTwo more rest
      → IsTextWithout (refusal.UnknownLabel place) (before ++ more)
      → Stands (refusal.UnknownLabel place) before rest

-- why the next token is refused: for one rule, or for none alone
abbrev pub Because : Refusal → Tokens → Tokens → Type 0
Because refusal.Unexpected before rest = (why : Refusal) → Stands why before rest → ⊥
Because why before rest = Stands why before rest

-- ---- the kind and the place of a refusal

-- a token that leaves the profile by itself is refused with its kind of scope, and any other one is
-- wrong
abbrev pub token_fault : Place → Option ScopeKind → ParseFault
token_fault place (Some kind) = Scope kind place
token_fault place None = Syntax place

-- What is answered to a refusal at the first token of the rest. A rule that is broken from an
-- earlier word on comes before what the token is by itself.
abbrev pub fault_at : Refusal → Token → ParseFault
fault_at refusal.Unexpected t = token_fault t.place (fault_of t.kind)
fault_at refusal.RegExp t = Scope scope.RegExp t.place
fault_at refusal.Arguments t = Scope scope.ArgumentsName t.place
fault_at refusal.Deep t = Depth t.place
fault_at (refusal.DeepLabel place) t = Depth place
fault_at (refusal.Broken place) t = Syntax place
fault_at (refusal.Operand place) t = Syntax place
fault_at (refusal.Alone place) t = Syntax place
fault_at (refusal.UnknownLabel place) t = Syntax place

-- Why tokens are refused: at the first of them, or the end, with which no text goes on, and by the
-- rule that stands in the way.
pub record IsRefused (i : Tokens) (fault : ParseFault) : Type 0 where
  pub before : Tokens
  pub rest : Tokens
  pub split : i ≡ before ++ rest
  pub first : FirstRefused before rest
  pub why : Refusal
  pub because : Because why before rest
  pub answer : fault ≡ fault_at why (head rest)

-- what a refusal says
abbrev pub Explains : Tokens → ParseFault → Type 0
Explains i Memory = Unit {0}
Explains i fault = IsRefused i fault
