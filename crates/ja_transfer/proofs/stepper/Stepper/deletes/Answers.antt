use Rattle.std.proofs.Common.{◌≡◌, [], ◌∷◌, List, Some, None, ap, subst, sym, ◌∙◌}
use Rattle.std.proofs.lemmas.Result.{IfOk-weaker}
use Rattle.ja_base.specs.declared.ids.Label.{Label}
use Rattle.ja_abstract.specs.InProgram.{AreKeys}
use Rattle.ja_rows.specs.Out.{sets_results}
use Rattle.ja_value.specs.Value.{labels_in}
use Rattle.ja_transfer.specs.Outcomes.{at_view}
use Rattle.ja_transfer.specs.code.Members.{strong_spot}
use Rattle.ja_transfer.proofs.DeleteLemmas.{delete_strong, delete_weak}
use Rattle.ja_transfer.proofs.GivenLemmas.{added_as}
use Rattle.ja_transfer.proofs.MemberLemmas.{IsLabel, members_labels, of_one}
use Rattle.ja_transfer.proofs.SpotLemmas.{spot_is}
use Rattle.ja_transfer.proofs.stepper.Stepper.deletes.Goals as goal

-- ---- at one label and one name

pub strong_delete-requires : goal.strong_delete-requires
strong_delete-requires c =
    let p = c.args.self.now.reader.program.now in
    let keys = c.args.keys.now in
    let ls = c.deref.result.now in
    let l = c.in-Some.label in
    let k = c.in-Some.key in
    let are = c.deref.ensures.value ∙ c.in_ok-members.ensures in
    let spot : strong_spot ls keys ≡ Some (l, k) = sym c.strong_spot.ensures ∙ c.in-Some.is in
    let one : ls ≡ l ∷ [] = (spot_is ls keys l k spot).0 in
    let name : keys ≡ k ∷ [] = (spot_is ls keys l k spot).1 in
    record {
      dst = c.requires.dst;
      label = of_one (IsLabel p) ls l one (members_labels p (labels_in c.args.target.now) ls are);
      key = (subst (AreKeys p) name c.requires.keys).0;
    }

pub returns-in-Some : goal.returns-in-Some
returns-in-Some c =
    let s = c.args.self.now in
    let keys = c.args.keys.now in
    let ls = c.deref.result.now in
    let l = c.in-Some.label in
    let k = c.in-Some.key in
    let are = c.deref.ensures.value ∙ c.in_ok-members.ensures in
    let spot : strong_spot ls keys ≡ Some (l, k) = sym c.strong_spot.ensures ∙ c.in-Some.is in
    let same = ap (sets_results (at_view s) c.args.dst s.info.now.next) (delete_strong (at_view s)
    (labels_in c.args.target.now) keys ls are l k spot) in
    IfOk-weaker c.strong_delete.result _ _ (λ _ added. added_as s _ _ c.args.states.now
    c.strong_delete.new.states same added) c.strong_delete.ensures

-- ---- elsewhere

pub weak_delete-requires : goal.weak_delete-requires
weak_delete-requires c =
    let p = c.args.self.now.reader.program.now in
    let ls = c.deref-in-None.result.now in
    let are = c.deref-in-None.ensures.value ∙ c.in_ok-members.ensures in
    record {
      dst = c.requires.dst;
      labels = members_labels p (labels_in c.args.target.now) ls are;
      keys = c.requires.keys;
    }

pub returns : goal.returns
returns c =
    let s = c.args.self.now in
    let keys = c.args.keys.now in
    let ls = c.deref-in-None.result.now in
    let are = c.deref-in-None.ensures.value ∙ c.in_ok-members.ensures in
    let spot : strong_spot ls keys ≡ None =
    ap (λ (xs : List Label). strong_spot xs keys) (c.deref-in-None.ensures.value ∙ sym c.deref.ensures.value)
    ∙ sym c.strong_spot.ensures ∙ c.in-None.is in
    let same = delete_weak (at_view s) (labels_in c.args.target.now) keys ls are c.args.dst
    s.info.now.next spot in
    IfOk-weaker c.weak_delete.result _ _ (λ _ added. added_as s _ _ c.args.states.now
    c.weak_delete.new.states same added) c.weak_delete.ensures
