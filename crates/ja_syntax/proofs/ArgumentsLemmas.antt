-- What one level of an expression says of the name `arguments`.
use Rattle.std.proofs.Common.{◌≡◌, ◌||◌, Bool, false, List, [], ◌∷◌, ◌∙◌, ap, sym, map, refl, Option, Some, None}
use Rattle.std.specs.List.{list_any}
use Rattle.ja_base.specs.declared.ids.Place.{Place}
use Rattle.ja_syntax.specs.Arguments.{expression_step, statement_step, case_step, in_suffix, in_operation, in_property, if_any, any}
use Rattle.ja_syntax.specs.code.Arguments.{in_expression}
use Rattle.ja_syntax.specs.code.Mentions.{optional_mentions, suffix_mentions}
use Rattle.ja_syntax.specs.declared.tree.Property.{Property}
use Rattle.ja_syntax.specs.declared.tree.Suffix.{Suffix}
use Rattle.ja_syntax.specs.declared.tree.Suffix.TheVariants as suffix
use Rattle.ja_syntax.specs.declared.tree.Operation.{Operation}
use Rattle.ja_syntax.specs.declared.tree.Name.{Name}
use Rattle.ja_syntax.specs.declared.tree.Expression.{Expression}
use Rattle.ja_syntax.specs.declared.tree.Expression.TheVariants as e
use Rattle.ja_syntax.specs.declared.tree.Expression.TheVariants.{rolls-Array, rolls-Object, rolls-Chain, rolls-New, rolls-Binary, rolls-Sequence}
use Rattle.ja_syntax.specs.declared.tree.Expression.TheOpen.{Expression-F}
use Rattle.ja_syntax.specs.declared.tree.Expression.TheFolds.{fold-roll-Expression}

-- a test of what stands for the elements is one of the elements
pub any_map : {A B : Type 0} (p : B → Bool) (f : A → B) (q : A → Bool) → ((x : A) → p (f x) ≡ q x)
    → (xs : List A) → list_any p (map f xs) ≡ list_any q xs
any_map p f q h [] = refl
any_map p f q h (x ∷ xs) =
    ap (λ b. b || list_any p (map f xs)) (h x) ∙ ap (λ b. q x || b) (any_map p f q h xs)

module _ (g : Option Expression → Bool) (empty : g None ≡ false)
    (full : (v : Expression) → g (Some v) ≡ in_expression v) where
  optional_is : (x : Option Expression) → g x ≡ optional_mentions x
  optional_is None = empty
  optional_is (Some v) = full v

module _ (g : Suffix Expression → Bool) (member : (name : Name) (place : Place)
    → g (suffix.Member name place) ≡ false)
    (index : (key : Expression) (place : Place) → g (suffix.Index key place) ≡ in_expression key)
    (call : (arguments : List Expression) (place : Place)
    → g (suffix.Call arguments place) ≡ list_any in_expression arguments) where
  suffix_is : (x : Suffix Expression) → g x ≡ suffix_mentions x
  suffix_is (suffix.Member name place) = member name place
  suffix_is (suffix.Index key place) = index key place
  suffix_is (suffix.Call arguments place) = call arguments place

many : (xs : List Expression) → any (map in_expression xs) ≡ list_any in_expression xs
many xs = any_map (λ b. b) in_expression in_expression (λ x. refl) xs

pub in_array : (elements : List (Option Expression)) (place : Place)
    → in_expression (e.Array elements place) ≡ list_any optional_mentions elements
in_array elements place =
    ap in_expression (sym (rolls-Array elements place))
    ∙ (fold-roll-Expression Bool Bool Bool expression_step statement_step case_step
    (Expression-F.Array elements place) ∙ any_map if_any _ optional_mentions
    (optional_is _ refl (λ v. refl)) elements)

pub in_object : (properties : List (Property Expression)) (place : Place)
    → in_expression (e.Object properties place) ≡ list_any (λ p. in_expression p.value) properties
in_object properties place =
    ap in_expression (sym (rolls-Object properties place))
    ∙ (fold-roll-Expression Bool Bool Bool expression_step statement_step case_step
    (Expression-F.Object properties place) ∙ any_map in_property _ (λ p. in_expression p.value)
    (λ p. refl) properties)

pub in_chain : (head : Expression) (suffixes : List (Suffix Expression))
    → in_expression (e.Chain head suffixes)
    ≡ (in_expression head || list_any suffix_mentions suffixes)
in_chain head suffixes =
    ap in_expression (sym (rolls-Chain head suffixes))
    ∙ (fold-roll-Expression Bool Bool Bool expression_step statement_step case_step
    (Expression-F.Chain head suffixes) ∙ ap (λ b. in_expression head || b)
    (any_map in_suffix _ suffix_mentions (suffix_is _ (λ n p. refl) (λ k p. refl) (λ xs p. many xs))
    suffixes))

pub in_new : (callee : Expression) (arguments : List Expression) (place : Place)
    → in_expression (e.New callee arguments place)
    ≡ (in_expression callee || list_any in_expression arguments)
in_new callee arguments place =
    ap in_expression (sym (rolls-New callee arguments place))
    ∙ (fold-roll-Expression Bool Bool Bool expression_step statement_step case_step
    (Expression-F.New callee arguments place)
    ∙ ap (λ b. in_expression callee || b) (many arguments))

pub in_binary : (first : Expression) (operations : List (Operation Expression)) (place : Place)
    → in_expression (e.Binary first operations place)
    ≡ (in_expression first || list_any (λ o. in_expression o.right) operations)
in_binary first operations place =
    ap in_expression (sym (rolls-Binary first operations place))
    ∙ (fold-roll-Expression Bool Bool Bool expression_step statement_step case_step
    (Expression-F.Binary first operations place)
    ∙ ap (λ b. in_expression first || b) (any_map in_operation _ (λ o. in_expression o.right)
    (λ o. refl) operations))

pub in_sequence : (first : Expression) (others : List Expression) (place : Place)
    → in_expression (e.Sequence first others place)
    ≡ (in_expression first || list_any in_expression others)
in_sequence first others place =
    ap in_expression (sym (rolls-Sequence first others place))
    ∙ (fold-roll-Expression Bool Bool Bool expression_step statement_step case_step
    (Expression-F.Sequence first others place) ∙ ap (λ b. in_expression first || b) (many others))
