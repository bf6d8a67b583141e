-- The place laws of members, calls and `new` (11.2).
use Rattle.std.proofs.Common.{◌≡◌, ◌≢◌, ℕ, Bool, true, false, not, List, [], ◌∷◌, ◌++◌, refl, sym, ap, ◌∙◌}
use Rattle.ja_base.specs.declared.ids.Place.{Place}
use Rattle.ja_lex.specs.declared.token.Token.{Token}
use Rattle.ja_syntax.specs.declared.symbol.Symbol.{Symbol}
use Rattle.ja_syntax.specs.declared.symbol.Symbol.TheVariants as k
use Rattle.ja_syntax.specs.declared.tree.Expression.{Expression}
use Rattle.ja_syntax.specs.declared.tree.Expression.TheVariants as e
use Rattle.ja_syntax.specs.declared.tree.Name.{Name}
use Rattle.ja_syntax.specs.declared.tree.Suffix.{Suffix}
use Rattle.ja_syntax.specs.declared.tree.Suffix.TheVariants as suffix
use Rattle.ja_syntax.specs.declared.tree.Expression.TheOpen.{Expression-F}
use Rattle.ja_syntax.specs.declared.tree.Expression.TheViews.{out-Expression, out-roll-Expression}
use Rattle.ja_syntax.specs.References.{is_reference, is_reference_at, ends_in_property}
use Rattle.ja_grammar.specs.declared.fault.Refusal.{Refusal}
use Rattle.ja_grammar.specs.declared.fault.Refusal.TheVariants.{Unexpected}
use Rattle.ja_grammar.specs.declared.part.ExpressionPart.TheVariants as part
use Rattle.ja_grammar.specs.Forms.{name_of, begins_property, begins_suffix, chained}
use Rattle.ja_grammar.specs.Input.{Tokens, head, next, symbol, Done, and_then, ◌>>◌, pure, look, expect, listed, listed_by, until, many, Rules, strict}
use Rattle.ja_grammar.specs.Productions.{HasRoom}
use Rattle.ja_grammar.specs.ReadExpression.{Below, chain_head, head_by, dotted, indexed, property_suffix, property_suffix_by, arguments, any_suffix, any_suffix_by, member, created, created_by, left_hand}
use Rattle.ja_grammar.proofs.Closing.{end_no_property, end_no_suffix, bracket_closes, parenthesis_closes, no_suffix_closes}
use Rattle.ja_grammar.proofs.ExpressionTakes.{property_suffix_takes, any_suffix_takes}
use Rattle.ja_grammar.proofs.Good.{Follow, Reason, Sample, GoodAt, Any, pure_good, bind_good, look_good, weaken_good}
use Rattle.ja_grammar.proofs.Levels.{EndsExpression}
use Rattle.ja_grammar.proofs.Lists.{listed_good, listed_sample}
use Rattle.ja_grammar.proofs.LiteralGood.{primary_good}
use Rattle.ja_grammar.proofs.Outcomes.{expect_done, enter_done, same_symbol_is}
use Rattle.ja_grammar.proofs.Roomier.{Roomier, token_sample, expected_sample, then_pure, enters, lower, expects, takes_one, unexpected, closes_pure, below_sample}
use Rattle.ja_grammar.proofs.SampleTokens.{name, name_is, name_real, dot, dot_is, dot_real, open_parenthesis, open_parenthesis_is, open_parenthesis_real, close_parenthesis, close_parenthesis_is, close_parenthesis_real, close_bracket, close_bracket_is, close_bracket_real}
use Rattle.ja_grammar.proofs.Steps.{pure_sample, bind_sample, end_sample}
use Rattle.ja_grammar.proofs.Until.{until_turn, until_ends, until_goes, until_good_with}

-- what surely ends a member
abbrev pub EndsMember : Follow
EndsMember r = begins_property (next r) ≡ false

-- what can be written to
abbrev pub IsReference : Expression → Type 0
IsReference x = is_reference x ≡ true

abbrev EndsInProperty : List (Suffix Expression) → Type 0
EndsInProperty ss = ends_in_property ss ≡ true

-- what ends a list of suffixes
abbrev no_property : Symbol → Bool
no_property found = not (begins_property found)

abbrev no_suffix : Symbol → Bool
no_suffix found = not (begins_suffix found)

dot_suffix : (κ : Symbol) → κ ≡ k.Dot → no_suffix κ ≡ false
unfolding begins_suffix
dot_suffix κ is = ap no_suffix is

pub parenthesis_ends_member : (κ : Symbol) → κ ≡ k.OpenParenthesis → begins_property κ ≡ false
unfolding begins_property
parenthesis_ends_member κ is = ap begins_property is

-- a list of suffixes with a property behind it
ends_in_last : (found : List (Suffix Expression)) (x : Name) (place : Place)
    → EndsInProperty (found ++ suffix.Member x place ∷ [])
ends_in_last [] x place = refl
ends_in_last (s ∷ []) x place = refl
ends_in_last (s ∷ t ∷ ss) x place = ends_in_last (t ∷ ss) x place

chained_reference : (x : Expression) (ss : List (Suffix Expression)) → EndsInProperty ss
    → IsReference (chained x ss)
unfolding chained is_reference
chained_reference x [] w = cc w
chained_reference x (s ∷ ss) w =
    ap (λ y. is_reference_at (out-Expression y)) (sym (e.rolls-Chain x (s ∷ ss)))
    ∙ ap is_reference_at (out-roll-Expression (Expression-F.Chain x (s ∷ ss))) ∙ w

-- ---- samples

module _ (g : Rules) (b : Below) where
  -- `. x` is a suffix
  member_reads : (tail : Tokens) → any_suffix g b (dot ∷ name ∷ tail)
      ≡ Done (suffix.Member (name_of name) dot.place) tail
  unfolding any_suffix property_suffix dotted
  member_reads tail =
      ap (λ κ. any_suffix_by g b dot κ (dot ∷ name ∷ tail)) dot_is
      ∙ ap (λ κ. property_suffix_by g b κ (dot ∷ name ∷ tail)) dot_is
      ∙ ap (λ o. and_then o (λ u. pure (suffix.Member (name_of u) dot.place)))
      (expect_done k.Name name tail name_is)

  -- `( )` are arguments
  arguments_reads : ((i : Tokens) → HasRoom g i) → (tail : Tokens)
      → arguments g b (open_parenthesis ∷ close_parenthesis ∷ tail) ≡ Done [] tail
  unfolding arguments listed
  arguments_reads room tail =
      ap (λ o. and_then o (λ _. listed k.CloseParenthesis (b.expression (part.Assignment false))))
      (enter_done g open_parenthesis (close_parenthesis ∷ tail)
      (room (open_parenthesis ∷ close_parenthesis ∷ tail)))
      ∙ ap (λ found. listed_by k.CloseParenthesis (b.expression (part.Assignment false)) found
      (close_parenthesis ∷ tail)) (same_symbol_is (symbol close_parenthesis) k.CloseParenthesis
      close_parenthesis_is)

  -- with them, what is created is complete
  pub created_reads : ((i : Tokens) → HasRoom g i)
      → (place : Place) (x : Expression) (tail : Tokens)
      → created_by g b place x (symbol open_parenthesis)
      (open_parenthesis ∷ close_parenthesis ∷ tail) ≡ Done (e.New x [] place) tail
  created_reads room place x tail =
      ap (λ κ. created_by g b place x κ (open_parenthesis ∷ close_parenthesis ∷ tail))
      open_parenthesis_is
      ∙ ap (λ o. and_then o (λ xs. pure (e.New x xs place))) (arguments_reads room tail)

module _ {U : Tokens} {O : Refusal} {J : Reason O} {d : ℕ} {g' : Rules} {b b' : Below}
    (h : Roomier J d g' b b') where
  pub chain_head_good : (i : Tokens) → GoodAt U J (chain_head (strict d) b) (chain_head g' b') Any
      Any i
  unfolding chain_head
  chain_head_good i =
      look_good (λ t. head_by (strict d) b t (symbol t)) (λ t. head_by g' b' t (symbol t)) i
      (go (next i) refl)
    where
      go : (κ : Symbol) → next i ≡ κ → GoodAt U J (head_by (strict d) b (head i) κ)
          (head_by g' b' (head i) κ) Any Any i
      go k.New is =
          bind_good i h.reasons.closed (enters h i (λ ends. cc (is, ends))
          (λ other. cc (is, other))) (λ t r q.
          (lower h i q).expression U (part.Created (head i).place) r)
          (λ t _. below_sample h (part.Created (head i).place))
      go _ is = primary_good h i

  -- ---- suffixes

  dotted_good : (i : Tokens) → next i ≢ k.End
      → GoodAt U J (dotted (strict d) b) (dotted g' b') Any Any i
  unfolding dotted
  dotted_good i more = bind_good i h.reasons.closed (takes_one h i more)
      (λ t r _. bind_good r h.reasons.closed (expects h k.Name r (λ e. cc e))
      (λ u m _. pure_good J Any Any (suffix.Member (name_of u) t.place) m)
      (λ u _. pure_sample (suffix.Member (name_of u) t.place) tt))
      (λ t _. expected_sample _ k.Name name name_is name_real (λ tail. tt)
      (pure_sample {F = Any} (suffix.Member (name_of name) t.place) tt))

  indexed_good : (i : Tokens) → next i ≢ k.End → next i ≢ k.Colon
      → GoodAt U J (indexed (strict d) b) (indexed g' b') Any Any i
  unfolding indexed
  indexed_good i more other = bind_good i h.reasons.closed (enters h i more other)
      (λ t r q. bind_good r h.reasons.closed ((lower h i q).expression U (part.Whole false) r)
      (λ x m _. closes_pure h k.CloseBracket (suffix.Index x t.place) tt m (λ e. cc e))
      (λ x _. rest t x))
      (λ t _. bind_sample (below_sample h (part.Whole false)) (λ x _. rest t x))
    where
      rest : (t : Token) (x : Expression) → Sample U
          (expect k.CloseBracket >> pure (suffix.Index x t.place)) EndsExpression Any Any
      rest t x =
          token_sample k.CloseBracket close_bracket close_bracket_is close_bracket_real
          (λ tail. bracket_closes (symbol close_bracket) close_bracket_is) (suffix.Index x t.place)
          tt

  pub property_suffix_good : (i : Tokens) → GoodAt U J (property_suffix (strict d) b)
      (property_suffix g' b') Any Any i
  unfolding property_suffix
  property_suffix_good i =
      look_good (λ t. property_suffix_by (strict d) b (symbol t))
      (λ t. property_suffix_by g' b' (symbol t)) i (go (next i) refl)
    where
      go : (κ : Symbol) → next i ≡ κ → GoodAt U J (property_suffix_by (strict d) b κ)
          (property_suffix_by g' b' κ) Any Any i
      go k.Dot is = dotted_good i (λ ends. cc (is, ends))
      go k.OpenBracket is = indexed_good i (λ ends. cc (is, ends)) (λ other. cc (is, other))
      go _ is = unexpected h Any Any i

  pub arguments_good : (i : Tokens) → next i ≢ k.End → next i ≢ k.Colon
      → GoodAt U J (arguments (strict d) b) (arguments g' b') Any Any i
  unfolding arguments
  arguments_good i more other = bind_good i h.reasons.closed (enters h i more other)
      (λ t r q. listed_good {F = EndsExpression} k.CloseParenthesis
      (b.expression (part.Assignment false)) (b'.expression (part.Assignment false)) (λ e. cc e)
      (λ e. cc e) h.reasons.closed
      (h.takes.expression (part.Assignment false)) (h.takes_more.expression (part.Assignment false))
      ((lower h i q).expression U (part.Assignment false)) (below_sample h (part.Assignment false))
      (λ tail at. parenthesis_closes (next tail) at) close_parenthesis close_parenthesis_is
      close_parenthesis_real (λ r _. h.reasons.free Unexpected [] r refl) r)
      (λ t _. listed_sample k.CloseParenthesis (b'.expression (part.Assignment false))
      close_parenthesis close_parenthesis_is close_parenthesis_real tt (λ tail _. tt))

  pub any_suffix_good : (i : Tokens) → GoodAt U J (any_suffix (strict d) b) (any_suffix g' b') Any
      Any i
  unfolding any_suffix
  any_suffix_good i =
      look_good (λ t. any_suffix_by (strict d) b t (symbol t))
      (λ t. any_suffix_by g' b' t (symbol t)) i (go (next i) refl)
    where
      go : (κ : Symbol) → next i ≡ κ → GoodAt U J (any_suffix_by (strict d) b (head i) κ)
          (any_suffix_by g' b' (head i) κ) Any Any i
      go k.OpenParenthesis is =
          bind_good i h.reasons.closed (arguments_good i (λ ends. cc (is, ends))
          (λ other. cc (is, other)))
          (λ xs r _. pure_good J Any Any (suffix.Call xs (head i).place) r)
          (λ xs _. pure_sample (suffix.Call xs (head i).place) tt)
      go _ is = property_suffix_good i

  -- ---- chains

  members_good : (i : Tokens) → GoodAt U J (until no_property (property_suffix (strict d) b))
      (until no_property (property_suffix g' b')) EndsMember Any i
  members_good i =
      until_good_with no_property (property_suffix (strict d) b) (property_suffix g' b')
      h.reasons.closed end_no_property (property_suffix_takes (strict d) h.takes)
      (property_suffix_takes g' h.takes_more)
      (λ i _. property_suffix_good i) (λ found.
      end_sample {F = Any} found tt (λ tail ends. tt)
      (λ tail ends. until_ends no_property (property_suffix g' b') found tail (ap not ends))) i

  pub member_good : (i : Tokens) → GoodAt U J (member (strict d) b) (member g' b') EndsMember Any i
  unfolding member until
  member_good i = bind_good i h.reasons.closed (chain_head_good i)
      (λ x r _. bind_good r h.reasons.closed (members_good r)
      (λ ss m _. pure_good J EndsMember Any (chained x ss) m)
      (λ ss _. pure_sample (chained x ss) tt))
      (λ x _. then_pure {W = Any} (chained x) members_sample)
    where
      members_sample : Sample U (until no_property (property_suffix g' b')) Any EndsMember Any
      members_sample =
          end_sample [] tt (λ tail ends. tt) (λ tail ends.
          until_ends no_property (property_suffix g' b') [] tail (ap not ends))

  created_sample : (place : Place) (x : Expression)
      → Sample U (look (λ t. created_by g' b' place x (symbol t))) EndsMember Any Any
  created_sample place x = record {
    more = open_parenthesis ∷ close_parenthesis ∷ [];
    value = e.New x [] place;
    real = (open_parenthesis_real, (close_parenthesis_real, tt));
    fits = tt;
    follows = λ tail _. parenthesis_ends_member (symbol open_parenthesis) open_parenthesis_is;
    reads = λ tail _. created_reads g' b' h.some place x tail;
  }

  -- behind `new` with its arguments, anything may follow
  pub created_good : (place : Place) (i : Tokens)
      → GoodAt U J (created (strict d) b place) (created g' b' place) Any Any i
  unfolding created
  created_good place i = bind_good i h.reasons.closed (member_good i)
      (λ x r _. look_good (λ t. created_by (strict d) b place x (symbol t))
      (λ t. created_by g' b' place x (symbol t)) r (go x r (next r) refl))
      (λ x _. created_sample place x)
    where
      go : (x : Expression) (r : Tokens) (κ : Symbol) → next r ≡ κ
          → GoodAt U J (created_by (strict d) b place x κ) (created_by g' b' place x κ) Any Any r
      go x r k.OpenParenthesis is =
          bind_good r h.reasons.closed (arguments_good r (λ ends. cc (is, ends))
          (λ other. cc (is, other))) (λ xs m _. pure_good J Any Any (e.New x xs place) m)
          (λ xs _. pure_sample (e.New x xs place) tt)
      go x r _ is = pure_good J Any Any (e.New x [] place) r

  -- suffixes, and then a property
  suffixes_sample : (found : List (Suffix Expression))
      → Sample U (many (until_turn no_suffix (any_suffix g' b')) found) Any EndsExpression
      EndsInProperty
  suffixes_sample found = record {
    more = dot ∷ name ∷ [];
    value = found ++ suffix.Member (name_of name) dot.place ∷ [];
    real = (dot_real, (name_real, tt));
    fits = ends_in_last found (name_of name) dot.place;
    follows = λ tail ends. tt;
    reads =
        λ tail ends. until_goes no_suffix (any_suffix g' b') end_no_suffix
        (any_suffix_takes g' h.takes_more) found (dot ∷ name ∷ tail) tail
        (suffix.Member (name_of name) dot.place)
        (dot_suffix (symbol dot) dot_is) (member_reads g' b' tail)
        ∙ until_ends no_suffix (any_suffix g' b')
        (found ++ suffix.Member (name_of name) dot.place ∷ []) tail
        (ap not (no_suffix_closes (next tail) ends));
  }

  suffixes_good : (i : Tokens) → GoodAt U J (until no_suffix (any_suffix (strict d) b))
      (until no_suffix (any_suffix g' b')) EndsExpression EndsInProperty i
  suffixes_good i =
      until_good_with no_suffix (any_suffix (strict d) b) (any_suffix g' b') h.reasons.closed
      end_no_suffix (any_suffix_takes (strict d) h.takes) (any_suffix_takes g' h.takes_more)
      (λ i _. any_suffix_good i) suffixes_sample i

  -- what was taken can be completed into a reference
  pub left_hand_good_reference : (i : Tokens)
      → GoodAt U J (left_hand (strict d) b) (left_hand g' b') EndsExpression IsReference i
  unfolding left_hand until
  left_hand_good_reference i = bind_good i h.reasons.closed (chain_head_good i)
      (λ x r _. bind_good r h.reasons.closed (suffixes_good r)
      (λ ss m _. pure_good J EndsExpression IsReference (chained x ss) m)
      (λ ss w. pure_sample (chained x ss) (chained_reference x ss w)))
      (λ x _. bind_sample (suffixes_sample [])
      (λ ss w. pure_sample (chained x ss) (chained_reference x ss w)))

  pub left_hand_good : (i : Tokens) → GoodAt U J (left_hand (strict d) b) (left_hand g' b')
      EndsExpression Any i
  left_hand_good i =
      weaken_good i (λ tail ends. ends) (λ x w. tt) (λ why w r j. j) (left_hand_good_reference i)
