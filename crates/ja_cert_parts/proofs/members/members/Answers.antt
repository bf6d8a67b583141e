use Rattle.std.proofs.Common.{List, ℕ, map, refl, sym, ◌∙◌, Bor, arith}
use Rattle.std.specs.Prelude.{is_some}
use Rattle.std.proofs.lemmas.Grind.{common_steps}
use Rattle.std.proofs.lemmas.List.{length-map}
use Rattle.ja_cert_json.specs.declared.value.Json.{Json}
use Rattle.ja_cert_json.specs.View.{view}
use Rattle.ja_cert.specs.Wrong.{members_of}
use Rattle.ja_cert_parts.proofs.FaultLemmas.{tells_unless}
use Rattle.ja_cert_parts.proofs.ListLemmas.{key_test, lacks_member, next_member, not_false, not_true, other_member}
use Rattle.ja_cert_parts.proofs.members.members.Goals as goal

abbrev names : List (Bor (List ℕ)) → List (List ℕ)
names keys = map (λ (key : Bor (List ℕ)). key.now) keys

pub returns-in_default-next-clause-read : goal.returns-in_default-next-clause-read
returns-in_default-next-clause-read c =
    let keys = c.args.keys.now in
    tells_unless (is_some (members_of (names keys) (view c.args.value.now))) _
    (lacks_member (names keys) c.loop-key.key-index c.loop-key.left
    (members_of (names keys) (view c.args.value.now))
    (map (λ (v : Bor Json). view v.now) c.loop-key.values.items)
    (omega (arith, length-map keys (λ (key : Bor (List ℕ)). key.now), c.loop-key-test.true))
    c.in_default-next.ensures.steps.0 c.loop-key.invariant.found) c.here-in_default-next.ensures

pub returns-then-ne-clause-read : goal.returns-then-ne-clause-read
returns-then-ne-clause-read c =
    let keys = c.args.keys.now in
    tells_unless (is_some (members_of (names keys) (view c.args.value.now))) _
    (other_member (names keys) c.loop-key.key-index c.loop-key.left c.next.new.self
    c.in-Some-next.name.now c.in-Some-next.member.now
    (members_of (names keys) (view c.args.value.now))
    (map (λ (v : Bor Json). view v.now) c.loop-key.values.items)
    (omega (arith, length-map keys (λ (key : Bor (List ℕ)). key.now), c.loop-key-test.true))
    c.in-Some-next.ensures.steps
    (key_test (λ (key : Bor (List ℕ)). key.now) keys c.loop-key.key-index _ _ _ _
    c.loop-key-test.true c.as_str.ensures.value
    (not_true _ (sym c.ne.ensures ∙ c.if-ne.true))) c.loop-key.invariant.found)
    c.here-then-ne.ensures

pub loop-key-preserved : goal.loop-key-preserved
loop-key-preserved c =
    let keys = c.args.keys.now in
    record {
      count = grind (arith, common_steps);
      found = next_member (λ (v : Bor Json). view v.now) (names keys) c.loop-key.key-index
          c.loop-key.left
          c.next.new.self c.in-Some-next.name.now c.in-Some-next.member.now
          (members_of (names keys) (view c.args.value.now)) c.loop-key.values.items
          c.push.new.self.items c.in-Some-next.member
          (omega (arith, length-map keys (λ (key : Bor (List ℕ)). key.now), c.loop-key-test.true))
          c.in-Some-next.ensures.steps
          (key_test (λ (key : Bor (List ℕ)). key.now) keys c.loop-key.key-index _ _ _ _
          c.loop-key-test.true c.as_str.ensures.value
          (not_false _ (sym c.ne.ensures ∙ c.if-ne.false))) c.in_ok-push.ensures.items refl
          c.loop-key.invariant.found;
    }
