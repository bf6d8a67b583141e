-- The folds of trees, opened by so many levels: of a tree that is written out they compute.
use Rattle.std.proofs.Common.{◌≡◌, ℕ, zero, suc, refl, ap, sym, ◌∙◌}
use Rattle.ja_syntax.specs.declared.tree.Expression.{Expression, out-Expression, roll-out-Expression}
use Rattle.ja_syntax.specs.declared.tree.Statement.{Statement, out-Statement, roll-out-Statement}
use Rattle.ja_syntax.specs.declared.tree.Case.{Case, out-Case, roll-out-Case}
use Rattle.ja_syntax.specs.declared.tree.Expression.TheOpen.{Expression-F, Statement-F, Case-F}
use Rattle.ja_syntax.specs.declared.tree.Expression.TheFolds.{fold-Expression, fold-Statement, fold-Case, fold_out-Expression, fold_out-Statement, fold_out-Case, para-Expression, para-Statement, para-Case, para-roll-Expression, para-roll-Statement, para-roll-Case, map-Expression, map-Statement, map-Case}

-- what is made of each kind of tree
pub record Made (A B C : Type 0) : Type 0 where
  pub expression : Expression → A
  pub statement : Statement → B
  pub case : Case → C

module _ (A B C : Type 0) (e : Expression-F A B C → A) (s : Statement-F A B C → B)
    (c : Case-F A B C → C) where
  abbrev pub folds : Made A B C
  folds =
      record {
        expression = fold-Expression A B C e s c;
        statement = fold-Statement A B C e s c;
        case = fold-Case A B C e s c;
      }

  -- one level above what is made
  abbrev pub fold_above : Made A B C → Made A B C
  fold_above m = record {
    expression =
        λ x. e (map-Expression Expression Statement Case A B C m.expression m.statement m.case
        (out-Expression x));
    statement =
        λ x. s (map-Statement Expression Statement Case A B C m.expression m.statement m.case
        (out-Statement x));
    case =
        λ x. c (map-Case Expression Statement Case A B C m.expression m.statement m.case
        (out-Case x));
  }

  unfoldable pub fold_levels : ℕ → Made A B C
  fold_levels zero = folds
  fold_levels (suc n) = fold_above (fold_levels n)

  fold_once : fold_above folds ≡ folds
  fold_once = λ i. record {
    expression = λ x. sym (fold_out-Expression A B C e s c x) i;
    statement = λ x. sym (fold_out-Statement A B C e s c x) i;
    case = λ x. sym (fold_out-Case A B C e s c x) i;
  }

  pub fold_levels_are : (n : ℕ) → fold_levels n ≡ folds
  unfolding fold_levels
  fold_levels_are zero = refl
  fold_levels_are (suc n) = ap fold_above (fold_levels_are n) ∙ fold_once

module _ (A B C : Type 0) where
  -- a tree beside what is made of it
  abbrev E : Type 0
  E = Expression × A

  abbrev S : Type 0
  S = Statement × B

  abbrev K : Type 0
  K = Case × C

  module _ (e : Expression-F E S K → A) (s : Statement-F E S K → B) (c : Case-F E S K → C) where
    abbrev pub paras : Made A B C
    paras =
        record {
          expression = para-Expression A B C e s c;
          statement = para-Statement A B C e s c;
          case = para-Case A B C e s c;
        }

    abbrev pub para_above : Made A B C → Made A B C
    para_above m = record {
      expression =
          λ x. e (map-Expression Expression Statement Case E S K (λ y. (y, m.expression y))
          (λ y. (y, m.statement y)) (λ y. (y, m.case y)) (out-Expression x));
      statement =
          λ x. s (map-Statement Expression Statement Case E S K (λ y. (y, m.expression y))
          (λ y. (y, m.statement y)) (λ y. (y, m.case y)) (out-Statement x));
      case =
          λ x. c (map-Case Expression Statement Case E S K (λ y. (y, m.expression y))
          (λ y. (y, m.statement y)) (λ y. (y, m.case y)) (out-Case x));
    }

    unfoldable pub para_levels : ℕ → Made A B C
    para_levels zero = paras
    para_levels (suc n) = para_above (para_levels n)

    para_once : para_above paras ≡ paras
    para_once = λ i. record {
      expression =
          λ x. sym (ap (para-Expression A B C e s c) (sym (roll-out-Expression x))
          ∙ para-roll-Expression A B C e s c (out-Expression x)) i;
      statement =
          λ x. sym (ap (para-Statement A B C e s c) (sym (roll-out-Statement x))
          ∙ para-roll-Statement A B C e s c (out-Statement x)) i;
      case =
          λ x. sym (ap (para-Case A B C e s c) (sym (roll-out-Case x))
          ∙ para-roll-Case A B C e s c (out-Case x)) i;
    }

    pub para_levels_are : (n : ℕ) → para_levels n ≡ paras
    unfolding para_levels
    para_levels_are zero = refl
    para_levels_are (suc n) = ap para_above (para_levels_are n) ∙ para_once
