-- What devices have heard where one of them has answered once more.
use Rattle.std.proofs.Common.{◌≡◌, ◌≢◌, ℕ, zero, suc, ◌+◌, ◌<◌, true, List, [], ◌∷◌, ◌++◌, map, filter, option_map, Option, Some, None, refl, sym, ap, ◌∙◌, arith, append-nil, append_assoc}
use Rattle.std.specs.Prelude.{cond, ◌==◌, slice_get, slice_set, Ok, Err}
use Rattle.std.specs.List.{enumerate_from}
use Rattle.std.proofs.lemmas.Bool.{ne_eqb}
use Rattle.std.proofs.lemmas.Bool.Decides.{nat_tests}
use Rattle.std.proofs.lemmas.List.{map-append}
use Rattle.std.proofs.lemmas.List.Elements.{filter-append}
use Rattle.std.proofs.lemmas.Option.{same_Some}
use Rattle.ja_base.proofs.Lists.{set_same}
use Rattle.ja_prim.specs.declared.primitive.Primitive.{Primitive}
use Rattle.ja_prim.specs.declared.signature.Signature.{Signature}
use Rattle.ja_device.specs.Devices.{Seen, AllSeen, IsAsked, hearing, signature_of}
use Rattle.ja_device.specs.declared.fault.CallFault.TheVariants as fault
use Rattle.ja_device.specs.declared.heard.Heard.{Heard}
use Rattle.ja_run.specs.declared.ended.CallRecord.{CallRecord}
use Rattle.ja_run.specs.Asked.{heard_by, with_heard, with_calls, answering}

-- devices from a number on
abbrev with_calls_from : ℕ → List CallRecord → List Seen → List Seen
with_calls_from k calls ds =
    map (λ row. with_heard (heard_by calls row.0) row.1) (enumerate_from k ds)

-- ---- no calls

told_nothing : (heard : Option (List Heard)) → option_map (λ calls. calls ++ []) heard ≡ heard
told_nothing None = refl
told_nothing (Some calls) = ap Some (append-nil calls)

nothing_from : (k : ℕ) (ds : List Seen) → with_calls_from k [] ds ≡ ds
nothing_from k [] = refl
nothing_from k (d ∷ ds) =
    ap (λ (h : Option (List Heard)). record d { heard = h } ∷ with_calls_from (k + 1) [] ds)
    (told_nothing d.heard) ∙ ap (λ (l : List Seen). d ∷ l) (nothing_from (k + 1) ds)

pub nothing_heard : (before : AllSeen) → before ≡ answering [] before
nothing_heard before =
    ap (λ (l : List Seen). record before { devices = l }) (sym (nothing_from 0 before.devices))

-- ---- signatures

signatures_from : (k : ℕ) (calls : List CallRecord) (ds : List Seen)
    → map signature_of (with_calls_from k calls ds) ≡ map signature_of ds
signatures_from k calls [] = refl
signatures_from k calls (d ∷ ds) =
    ap (λ (l : List Signature). signature_of d ∷ l) (signatures_from (k + 1) calls ds)

-- names and kinds stay
pub same_signatures : (calls : List CallRecord) (ds : List Seen)
    → map signature_of (with_calls calls ds) ≡ map signature_of ds
same_signatures calls ds = signatures_from 0 calls ds

-- ---- one call more

told_more : (xs ys : List Heard) (heard : Option (List Heard))
    → option_map (λ calls. calls ++ (xs ++ ys)) heard
    ≡ option_map (λ calls. calls ++ ys) (option_map (λ calls. calls ++ xs) heard)
told_more xs ys None = refl
told_more xs ys (Some calls) = ap Some (sym (append_assoc calls xs ys))

module _ (calls : List CallRecord) (which : ℕ) (args : List Primitive) (q : Primitive) where
  abbrev call : CallRecord
  call = record { device = which; args = args; answer = q }

  heard_more : (i : ℕ) → heard_by (calls ++ call ∷ []) i ≡ heard_by calls i
      ++ heard_by (call ∷ []) i
  heard_more i =
      ap (map (λ (r : CallRecord). let h : Heard = record { args = r.args; answer = r.answer } in
      h)) (filter-append (λ (r : CallRecord). r.device == i) calls (call ∷ []))
      ∙ map-append (λ (r : CallRecord). let h : Heard = record {
        args = r.args;
        answer = r.answer;
      } in h) (filter (λ (r : CallRecord). r.device == i) calls)
      (filter (λ (r : CallRecord). r.device == i) (call ∷ []))

  -- the others have heard what they had
  other_heard : (i : ℕ) → which ≢ i → heard_by (calls ++ call ∷ []) i ≡ heard_by calls i
  other_heard i other =
      let none : heard_by (call ∷ []) i ≡ [] = ap
      (λ b. map (λ (r : CallRecord). let h : Heard = record {
        args = r.args;
        answer = r.answer;
      } in h) (cond b (call ∷ []) [])) (ne_eqb which i other) in
      heard_more i ∙ ap (λ (l : List Heard). heard_by calls i ++ l) none
      ∙ append-nil (heard_by calls i)

  -- that one has heard the call
  one_heard : (i : ℕ) → which ≡ i → (d : Seen)
      → with_heard (heard_by (calls ++ call ∷ []) i) d
      ≡ hearing args q (with_heard (heard_by calls i) d)
  one_heard i same d =
      let test : (which == i) ≡ true = grind (arith, nat_tests) in
      let one : heard_by (call ∷ []) i ≡ record { args = args; answer = q }
      ∷ [] = ap (λ b. map (λ (r : CallRecord).
      let h : Heard = record { args = r.args; answer = r.answer } in h) (cond b (call ∷ []) []))
      test in
      ap (λ (l : List Heard). with_heard l d)
      (heard_more i ∙ ap (λ (l : List Heard). heard_by calls i ++ l) one)
      ∙ ap (λ (h : Option (List Heard)). record d { heard = h })
      (told_more (heard_by calls i) (record { args = args; answer = q } ∷ []) d.heard)

  behind_it : (k : ℕ) (ds : List Seen) → which < k
      → with_calls_from k (calls ++ call ∷ []) ds ≡ with_calls_from k calls ds
  behind_it k [] less = refl
  behind_it k (d ∷ ds) less =
      let rest = behind_it (k + 1) ds (omega (arith, less)) in
      ap (λ (l : List Heard). with_heard l d ∷ with_calls_from (k + 1) (calls ++ call ∷ []) ds)
      (other_heard k (λ same. omega (arith, less, same)))
      ∙ ap (λ (l : List Seen). with_heard (heard_by calls k) d ∷ l) rest

  at_it : (k i : ℕ) (ds : List Seen) (d : Seen) → which ≡ k + i
      → slice_get (with_calls_from k calls ds) i ≡ Some d
      → with_calls_from k (calls ++ call ∷ []) ds
      ≡ slice_set (with_calls_from k calls ds) i (hearing args q d)
  at_it k i [] d same there = absurd (cc)
  at_it k zero (e ∷ ds) d same there =
      let rest = behind_it (k + 1) ds (omega (arith, same)) in
      let first = same_Some (with_heard (heard_by calls k) e) d there in
      ap (λ (x : Seen). x ∷ with_calls_from (k + 1) (calls ++ call ∷ []) ds)
      (one_heard k (omega (arith, same)) e ∙ ap (hearing args q) first)
      ∙ ap (λ (l : List Seen). hearing args q d ∷ l) rest
  at_it k (suc i) (e ∷ ds) d same there =
      let rest = at_it (k + 1) i ds d (omega (arith, same)) there in
      ap (λ (l : List Heard). with_heard l e ∷ with_calls_from (k + 1) (calls ++ call ∷ []) ds)
      (other_heard k (λ equal. omega (arith, same, equal)))
      ∙ ap (λ (l : List Seen). with_heard (heard_by calls k) e ∷ l) rest

  -- a device that was asked and has answered
  pub one_more : (before after : AllSeen) → IsAsked (answering calls before) after which args (Ok q)
      → after ≡ answering (calls ++ call ∷ []) before
  one_more before after asked =
      let heard = at_it 0 which before.devices asked.device (omega arith) asked.device_is in
      asked.after_is
      ∙ ap (λ (d : Seen). record before {
        devices = slice_set (with_calls calls before.devices)
            which d;
      }) asked.call.1
      ∙ ap (λ (l : List Seen). record before { devices = l }) (sym heard)

-- ---- no answer

-- where memory was refused, nothing has changed
pub not_asked : (before after : AllSeen) (which : ℕ) (args : List Primitive)
    → IsAsked before after which args (Err fault.Memory) → after ≡ before
not_asked before after which args asked =
    asked.after_is
    ∙ ap (λ (d : Seen). record before { devices = slice_set before.devices which d }) asked.call
    ∙ ap (λ (l : List Seen). record before { devices = l })
    (set_same before.devices which asked.device asked.device_is)
