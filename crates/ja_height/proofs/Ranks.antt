-- A value whose rank is no higher than that of one below it is below that one too.
use Rattle.std.specs.Prelude.{◌≡◌, ◌≤◌, Bool, true, false, List}
use Rattle.std.proofs.Common.{refl, ap, arith}
use Rattle.std.proofs.lemmas.Bool.{false≢true, true≢false}
use Rattle.ja_base.specs.declared.ids.Label.{Label}
use Rattle.ja_abstract.specs.declared.abstraction.Flags.{Flags}
use Rattle.ja_abstract.specs.AbstractValue.{AbstractValue, join_flags}
use Rattle.ja_abstract.specs.Order.{LeqValue}
use Rattle.ja_abstract.specs.Rank.{rank, among}
use Rattle.ja_abstract.proofs.Ranks.{rank_rises}

-- two tests are equal if they can't be other than equal
equal : (x y : Bool) → ((x ≡ y → ⊥) → ⊥) → x ≡ y
equal true true other = refl
equal true false other = absurd (other true≢false)
equal false true other = absurd (other false≢true)
equal false false other = refl

module _ (labels : List Label) (a b : AbstractValue) (above : LeqValue a b)
    (less : rank labels b ≤ rank labels a) where
  -- what is below isn't not below
  other : (LeqValue (among labels b) a → ⊥) → ⊥
  other h = let more = rank_rises labels a b above h in omega arith

  -- .. so an equation of tests holds that follows from it
  then_equal : (x y : Bool) → (LeqValue (among labels b) a → x ≡ y) → x ≡ y
  then_equal x y from = equal x y (λ no. other (λ h. no (from h)))

  flag : (f : Flags → Bool) → f (join_flags b.flags a.flags) ≡ f a.flags
  flag f = then_equal _ _ (λ h. ap f h.flags)

  pub back : LeqValue (among labels b) a
  back = record {
    flags = λ i. record {
      absent = flag (λ (f : Flags). f.absent) i;
      entry = flag (λ (f : Flags). f.entry) i;
      row = flag (λ (f : Flags). f.row) i;
      undefined = flag (λ (f : Flags). f.undefined) i;
      null = flag (λ (f : Flags). f.null) i;
      is_true = flag (λ (f : Flags). f.is_true) i;
      is_false = flag (λ (f : Flags). f.is_false) i;
      nan = flag (λ (f : Flags). f.nan) i;
    };
    number = λ n e. then_equal _ true (λ h. h.number n e);
    text = λ t e. then_equal _ true (λ h. h.text t e);
    label = λ l e. then_equal _ true (λ h. h.label l e);
  }
