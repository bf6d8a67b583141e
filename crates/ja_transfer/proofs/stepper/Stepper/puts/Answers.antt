use Rattle.std.proofs.Common.{◌≡◌, [], ◌∷◌, List, Some, None, ap, subst, sym, ◌∙◌}
use Rattle.std.proofs.lemmas.Result.{IfOk-weaker}
use Rattle.ja_base.specs.declared.ids.Label.{Label}
use Rattle.ja_abstract.specs.InProgram.{AreKeys}
use Rattle.ja_rows.specs.Out.{all_go}
use Rattle.ja_value.specs.Value.{labels_in, value_of}
use Rattle.ja_transfer.specs.Outcomes.{at_view}
use Rattle.ja_transfer.specs.code.Members.{strong_spot}
use Rattle.ja_transfer.proofs.GivenLemmas.{added_as}
use Rattle.ja_transfer.proofs.MemberLemmas.{IsLabel, members_labels, of_one}
use Rattle.ja_transfer.proofs.PutLemmas.{put_strong, put_weak, put_demands, puts_demands}
use Rattle.ja_transfer.proofs.SpotLemmas.{spot_is}
use Rattle.ja_transfer.proofs.stepper.Stepper.puts.Goals as goal

-- ---- at one label and one name

pub strong_put-requires : goal.strong_put-requires
strong_put-requires c =
    let p = c.args.self.now.reader.program.now in
    let target = labels_in c.args.target.now in
    let keys = c.args.keys.now in
    let ls = c.deref.result.now in
    let l = c.in-Some.label in
    let k = c.in-Some.key in
    let are = c.deref.ensures.value ∙ c.in_ok-members.ensures in
    let spot : strong_spot ls keys ≡ Some (l, k) = sym c.strong_spot.ensures ∙ c.in-Some.is in
    let one : ls ≡ l ∷ [] = (spot_is ls keys l k spot).0 in
    let name : keys ≡ k ∷ [] = (spot_is ls keys l k spot).1 in
    record {
      label = of_one (IsLabel p) ls l one (members_labels p target ls are);
      key = (subst (AreKeys p) name c.requires.keys).0;
    }

pub returns-in-Some-clause-states : goal.returns-in-Some-clause-states
returns-in-Some-clause-states c =
    let s = c.args.self.now in
    let keys = c.args.keys.now in
    let ls = c.deref.result.now in
    let l = c.in-Some.label in
    let k = c.in-Some.key in
    let are = c.deref.ensures.value ∙ c.in_ok-members.ensures in
    let spot : strong_spot ls keys ≡ Some (l, k) = sym c.strong_spot.ensures ∙ c.in-Some.is in
    let same = ap (all_go s.info.now.next) (put_strong (at_view s) (labels_in c.args.target.now)
    keys ls are (value_of c.args.value.now) l k spot) in
    IfOk-weaker c.strong_put.result _ _ (λ _ added. added_as s _ _ c.args.states.now
    c.strong_put.new.states same added) c.strong_put.ensures.states

pub returns-in-Some-clause-demands : goal.returns-in-Some-clause-demands
returns-in-Some-clause-demands c =
    let s = c.args.self.now in
    let keys = c.args.keys.now in
    let ls = c.deref.result.now in
    let l = c.in-Some.label in
    let k = c.in-Some.key in
    let are = c.deref.ensures.value ∙ c.in_ok-members.ensures in
    let spot : strong_spot ls keys ≡ Some (l, k) = sym c.strong_spot.ensures ∙ c.in-Some.is in
    let one : ls ≡ l ∷ [] = (spot_is ls keys l k spot).0 in
    let name : keys ≡ k ∷ [] = (spot_is ls keys l k spot).1 in
    IfOk-weaker c.strong_put.result _ _ (λ _ demanded. demanded ∙ put_demands (at_view s)
    (labels_in c.args.target.now) keys ls are l k one name) c.strong_put.ensures.demands

-- ---- elsewhere

pub weak_put-requires : goal.weak_put-requires
weak_put-requires c =
    let p = c.args.self.now.reader.program.now in
    let target = labels_in c.args.target.now in
    let ls = c.deref-in-None.result.now in
    let are = c.deref-in-None.ensures.value ∙ c.in_ok-members.ensures in
    record {
      labels = members_labels p target ls are;
      keys = c.requires.keys;
    }

pub returns-clause-states : goal.returns-clause-states
returns-clause-states c =
    let s = c.args.self.now in
    let keys = c.args.keys.now in
    let ls = c.deref-in-None.result.now in
    let are = c.deref-in-None.ensures.value ∙ c.in_ok-members.ensures in
    let spot : strong_spot ls keys ≡ None =
    ap (λ (xs : List Label). strong_spot xs keys) (c.deref-in-None.ensures.value ∙ sym c.deref.ensures.value)
    ∙ sym c.strong_spot.ensures ∙ c.in-None.is in
    let same = put_weak (at_view s) (labels_in c.args.target.now) keys ls are
    (value_of c.args.value.now) s.info.now.next spot in
    IfOk-weaker c.weak_put.result _ _ (λ _ added. added_as s _ _ c.args.states.now
    c.weak_put.new.states same added) c.weak_put.ensures.states

pub returns-clause-demands : goal.returns-clause-demands
returns-clause-demands c =
    let s = c.args.self.now in
    let ls = c.deref-in-None.result.now in
    let are = c.deref-in-None.ensures.value ∙ c.in_ok-members.ensures in
    IfOk-weaker c.weak_put.result _ _ (λ _ demanded. demanded ∙ puts_demands (at_view s)
    (labels_in c.args.target.now) c.args.keys.now ls are) c.weak_put.ensures.demands
