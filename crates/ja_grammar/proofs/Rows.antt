-- What some texts are refused with, and what they are not.
use Rattle.std.proofs.Common.{◌≡◌, ◌≢◌, ℕ, List, codes, replicate, ◌++◌, Option, Some, None, refl, sym, ap, ◌∙◌, subst, arith}
use Rattle.ja_base.specs.declared.ids.Place.{Place}
use Rattle.ja_base.specs.declared.ids.ScopeKind.TheVariants as scope
use Rattle.ja_lex.specs.Tokens.{tokens}
use Rattle.ja_syntax.specs.declared.tree.Statement.{Statement}
use Rattle.ja_grammar.specs.declared.fault.ParseFault.{ParseFault}
use Rattle.ja_grammar.specs.declared.fault.ParseFault.TheVariants.{Syntax, Scope, Depth, Memory}
use Rattle.ja_grammar.specs.Input.{head, Outcome, Done, Refused, strict}
use Rattle.ja_grammar.specs.Language.{max_levels, fault_at, IsRefused}
use Rattle.ja_grammar.specs.ReadStatement.{program}
use Rattle.ja_grammar.proofs.Evaluating.{reading}
use Rattle.ja_grammar.proofs.Theorem.{refused_by, refused_so}

-- what an outcome answers, if it is a refusal
abbrev refusal_of : Outcome (List Statement) → Option ParseFault
refusal_of (Done xs r) = None
refusal_of (Refused why r) = Some (fault_at why (head r))

-- the only refusal of a text is the one that reading it comes to
only : (text : List ℕ) (fault other : ParseFault)
    → refusal_of (program strict max_levels (tokens text)) ≡ Some fault → fault ≢ other
    → IsRefused (tokens text) other → ⊥
only text fault other reads unlike h = let s = refused_so text other h in
    unlike (same (sym reads ∙ ap refusal_of s.2) ∙ sym s.3)
  where
    same : {f g : ParseFault} → Some f ≡ Some g → f ≡ g
    same {f} e = ap (λ (o : Option ParseFault). by o) e
      where
        by : Option ParseFault → ParseFault
        by None = f
        by (Some x) = x

-- and it is one
so : (text : List ℕ) (fault : ParseFault)
    → refusal_of (program strict max_levels (tokens text)) ≡ Some fault
    → IsRefused (tokens text) fault
so text fault reads = go (program strict max_levels (tokens text)) refl reads
  where
    go : (o : Outcome (List Statement)) → program strict max_levels (tokens text) ≡ o
        → refusal_of o ≡ Some fault → IsRefused (tokens text) fault
    go (Done xs r) e h = absurd (cc h)
    go (Refused why r) e h = let same : fault_at why (head r) ≡ fault = cc in
        subst (λ f. IsRefused (tokens text) f) same (refused_by text why r e)

abbrev at : ℕ → Place
at column = record { line = 1; column = column }

-- the column of a refusal
abbrev column : ParseFault → ℕ
column (Syntax place) = place.column
column (Scope kind place) = place.column
column (Depth place) = place.column
column Memory = 0

-- ---- what reading each text comes to

abbrev Comes : List ℕ → ParseFault → Type 0
Comes text fault = refusal_of (program strict max_levels (tokens text)) ≡ Some fault

division : Comes (codes "var a /b/") (Syntax (at 7))
unfolding reading
division = refl

regular_expression : Comes (codes "a = /b/") (Scope scope.RegExp (at 5))
unfolding reading
regular_expression = refl

lookup : Comes (codes "a arguments") (Syntax (at 3))
unfolding reading
lookup = refl

declaration : Comes (codes "var arguments") (Scope scope.ArgumentsName (at 5))
unfolding reading
declaration = refl

operand : Comes (codes "++ 1 eval") (Syntax (at 1))
unfolding reading
operand = refl

name : Comes (codes "(a:b)") (Syntax (at 3))
unfolding reading
name = refl

jump : Comes (codes "for(;;){break 1}") (Syntax (at 15))
unfolding reading
jump = refl

deep : Comes (replicate 300 40) (Depth (at 201))
unfolding reading
deep = refl

deeper : Comes (replicate 201 40 ++ codes ")") (Depth (at 201))
unfolding reading
deeper = refl

-- ---- so that is what it is refused with

pub division_is : IsRefused (tokens (codes "var a /b/")) (Syntax (at 7))
division_is = so (codes "var a /b/") (Syntax (at 7)) division

pub regular_expression_is : IsRefused (tokens (codes "a = /b/")) (Scope scope.RegExp (at 5))
regular_expression_is = so (codes "a = /b/") (Scope scope.RegExp (at 5)) regular_expression

pub lookup_is : IsRefused (tokens (codes "a arguments")) (Syntax (at 3))
lookup_is = so (codes "a arguments") (Syntax (at 3)) lookup

pub declaration_is : IsRefused (tokens (codes "var arguments")) (Scope scope.ArgumentsName (at 5))
declaration_is = so (codes "var arguments") (Scope scope.ArgumentsName (at 5)) declaration

pub operand_is : IsRefused (tokens (codes "++ 1 eval")) (Syntax (at 1))
operand_is = so (codes "++ 1 eval") (Syntax (at 1)) operand

pub name_is : IsRefused (tokens (codes "(a:b)")) (Syntax (at 3))
name_is = so (codes "(a:b)") (Syntax (at 3)) name

pub jump_is : IsRefused (tokens (codes "for(;;){break 1}")) (Syntax (at 15))
jump_is = so (codes "for(;;){break 1}") (Syntax (at 15)) jump

pub deep_is : IsRefused (tokens (replicate 300 40)) (Depth (at 201))
deep_is = so (replicate 300 40) (Depth (at 201)) deep

pub deeper_is : IsRefused (tokens (replicate 201 40 ++ codes ")")) (Depth (at 201))
deeper_is = so (replicate 201 40 ++ codes ")") (Depth (at 201)) deeper

-- ---- and with nothing else

pub no_regular_expression : IsRefused (tokens (codes "var a /b/")) (Scope scope.RegExp (at 7)) → ⊥
no_regular_expression =
    only (codes "var a /b/") (Syntax (at 7)) (Scope scope.RegExp (at 7)) division (λ e. cc e)

pub no_declaration : IsRefused (tokens (codes "a arguments")) (Scope scope.ArgumentsName (at 3)) → ⊥
no_declaration =
    only (codes "a arguments") (Syntax (at 3)) (Scope scope.ArgumentsName (at 3)) lookup (λ e. cc e)

pub operator_first : IsRefused (tokens (codes "++ 1 eval")) (Scope scope.Eval (at 6)) → ⊥
operator_first =
    only (codes "++ 1 eval") (Syntax (at 1)) (Scope scope.Eval (at 6)) operand (λ e. cc e)

pub no_label : IsRefused (tokens (codes "(a:b)")) (Syntax (at 2)) → ⊥
no_label =
    only (codes "(a:b)") (Syntax (at 3)) (Syntax (at 2)) name
    (λ e. let n = ap column e in omega (arith, n))

pub no_jump : IsRefused (tokens (codes "for(;;){break 1}")) (Syntax (at 9)) → ⊥
no_jump =
    only (codes "for(;;){break 1}") (Syntax (at 15)) (Syntax (at 9)) jump
    (λ e. let n = ap column e in omega (arith, n))

pub first_too_deep : (n : ℕ) → n ≢ 201 → IsRefused (tokens (replicate 300 40)) (Depth (at n)) → ⊥
first_too_deep n other =
    only (replicate 300 40) (Depth (at 201)) (Depth (at n)) deep (λ e. other (sym (ap column e)))

pub deep_before_wrong : IsRefused (tokens (replicate 201 40 ++ codes ")")) (Syntax (at 202)) → ⊥
deep_before_wrong =
    only (replicate 201 40 ++ codes ")") (Depth (at 201)) (Syntax (at 202)) deeper (λ e. cc e)
