-- The next name is kept, or stands there before.
use Rattle.std.proofs.Common.{◌≡◌, ◌+◌, ◌∙◌, Bor, List, ℕ, [], ap, arith, get_or, subst, sym}
use Rattle.ja_lint_devices.specs.Devices.{is_among}
use Rattle.ja_lint_top.specs.Refusals.{unseen}
use Rattle.ja_lint_top.proofs.Once.{all_taken, passed, taken, texts_of, whole_of}
use Rattle.ja_lint_top.proofs.asking.once.Goals as goal
use Rattle.ja_lint_top.proofs.asking.once.Goals.{then-not-is_among+in_ok-push, else-not-is_among}

pub loop-name-preserved : goal.loop-name-preserved
loop-name-preserved c =
    let names = c.args.names.now in
    let i = c.loop-name.name-index in
    let kept = c.loop-name.kept.items in
    let whole : List (List ℕ) = unseen [] (texts_of names) in
    let Kept : List (Bor (List ℕ)) → Type 0 = λ ks. whole_of ks names (i + 1) ≡ whole in
    let none : Bor (List ℕ) = record { ref_ptr = (0, 0); now = [] } in
    let name : List ℕ = (get_or names i none).now in
    let found : c.is_among.result ≡ is_among (texts_of kept) name = c.is_among.ensures
    ∙ ap (λ (ks : List (Bor (List ℕ))). is_among (texts_of ks) name) c.deref.ensures.value in
    elim c.if-not-is_among.branch [
      | then-not-is_among+in_ok-push w ↦
          subst (λ v. Kept v.items) (sym w.kept-is)
          (subst Kept (sym w.in_ok-push.ensures.items)
          (taken kept names i none whole (omega arith)
          (sym found ∙ w.if-not-is_among.true) c.loop-name.invariant))
      | else-not-is_among w ↦
          subst (λ v. Kept v.items) (sym w.kept-is)
          (passed kept names i none whole (omega arith)
          (sym found ∙ w.if-not-is_among.false) c.loop-name.invariant)
    ]

pub returns : goal.returns
returns c =
    all_taken c.loop-name.kept.items c.args.names.now c.loop-name.name-index _ (omega arith)
    c.loop-name.invariant
