-- One step after another.
use Rattle.std.proofs.Common.{◌≡◌, inl, inr, ℕ, ◌+◌, ◌<◌, true, List, [], ◌∷◌, ◌++◌, length, map, Some, refl, sym, ap, ◌∙◌, subst, arith}
use Rattle.std.specs.Prelude.{IsSome, slice_get, option_map, Result, Ok, Err, IfErr}
use Rattle.std.proofs.lemmas.List.{length-map}
use Rattle.std.proofs.lemmas.Option.{same_Some, slice_get-map, slice_get_within}
use Rattle.ja_base.proofs.Options.{some_value}
use Rattle.ja_prim.specs.declared.primitive.Primitive.{Primitive}
use Rattle.ja_prim.specs.declared.signature.Signature.{Signature}
use Rattle.ja_device.specs.Devices.{AllSeen, IsAsked, signature_of}
use Rattle.ja_graph.specs.declared.program.Program.{Program}
use Rattle.ja_machine.specs.declared.machine.Answer.{Answer}
use Rattle.ja_machine.specs.declared.machine.Answer.TheVariants as answers
use Rattle.ja_machine.specs.declared.machine.Conf.{Conf}
use Rattle.ja_machine.specs.declared.machine.End.{End}
use Rattle.ja_machine.specs.declared.machine.Event.TheVariants as event
use Rattle.ja_machine.specs.declared.machine.Wants.TheVariants as wanted
use Rattle.ja_machine.specs.Machine.{opening_state, fits, is_of_kinds, wants, step}
use Rattle.ja_machine.specs.Runs.{NeverStuck, AreSteps}
use Rattle.ja_step.specs.Given.{answer_to}
use Rattle.ja_run.specs.declared.ended.CallRecord.{CallRecord}
use Rattle.ja_run.specs.declared.running.Given.TheVariants as given
use Rattle.ja_run.specs.Asked.{answering, HaveHeard, IsCutShort}
use Rattle.ja_run.specs.code.Making.{HasMade, IsGiven, MayBeGiven, arguments_in}
use Rattle.ja_run.specs.Run.{answers_given, given_by, Leads, AreAnswered, EndsIn, AnswersFit}
use Rattle.ja_run.proofs.Answering.{asking, goes_on}
use Rattle.ja_run.proofs.Giving.{opens, unasked_more, asked_more}
use Rattle.ja_run.proofs.Hearing.{one_more, nothing_heard, same_signatures}

-- what holds whatever happens holds of an error
pub with_error : {T E P : Type 0} (r : Result T E) → P → IfErr r (λ _. P)
with_error (Ok x) p = tt
with_error (Err e) p = p

-- A run is under way: so many steps have led to the state, the devices were so before them, and are
-- so now.
pub record IsUnderWay (p : Program) (before now : AllSeen) (calls : List CallRecord) (n : ℕ)
    (c : Conf) : Type 0 where
  pub fit : AnswersFit p
  pub never : NeverStuck p
  pub devices : map signature_of before.devices ≡ p.signatures
  pub heard : HaveHeard before now calls
  pub made : HasMade p calls n c

-- ---- before the first step

pub begun : (p : Program) (before : AllSeen) (calls : List CallRecord) (c : Conf) → AnswersFit p
    → NeverStuck p → map signature_of before.devices ≡ p.signatures → calls ≡ []
    → c ≡ opening_state p → IsUnderWay p before before calls 0 c
begun p before calls c fit never devices none is = record {
  fit = fit;
  never = never;
  devices = devices;
  heard = nothing_heard before ∙ ap (λ (l : List CallRecord). answering l before) (sym none);
  made = record {
    leads =
        subst (λ (l : List CallRecord). Leads p l 0 c) (sym none) (opens p c (ap Some (sym is)));
    counted = ap (λ (d : Conf). d.steps) is;
  };
}

-- where memory is refused for the first state
pub not_begun : (p : Program) (before : AllSeen) (limit : ℕ) → IsCutShort p limit before before
not_begun p before limit =
    ([], nothing_heard before, (0, omega arith, (opening_state p, opens p (opening_state p) refl)))

-- ---- one step more

module _ {p : Program} {before now : AllSeen} {calls : List CallRecord} {n : ℕ} {c : Conf}
    (u : IsUnderWay p before now calls n c) where
  signatures : map signature_of now.devices ≡ p.signatures
  signatures =
      ap (λ (a : AllSeen). map signature_of a.devices) u.heard
      ∙ same_signatures calls before.devices ∙ u.devices

  -- a device that is asked is there
  pub there : (which : ℕ) → wants p c ≡ wanted.Device which → which < length now.devices
  there which asks =
      let s = u.fit.asked c which asks in
      let within = slice_get_within p.signatures which s.0 s.1 in
      let as_many : length p.signatures ≡ length now.devices =
      ap length (sym signatures) ∙ length-map now.devices signature_of in
      omega (arith, within, as_many)

  module _ (which : ℕ) (q : Primitive) (after : AllSeen) (asks : wants p c ≡ wanted.Device which)
      (asked : IsAsked now after which (arguments_in c.frames) (Ok q)) where
    abbrev call : CallRecord
    call = record { device = which; args = arguments_in c.frames; answer = q }

    -- .. and answers within its kinds
    fine : fits p (wants p c) (answers.Device q) ≡ true
    fine =
        let s = u.fit.asked c which asks in
        let same =
        sym s.1 ∙ ap (λ (l : List Signature). slice_get l which) (sym signatures)
        ∙ slice_get-map signature_of now.devices which
        ∙ ap (option_map signature_of) asked.device_is in
        let kinds = ap (λ (t : Signature). is_of_kinds t.kinds q)
        (same_Some s.0 (signature_of asked.device) same) in
        s.2 q (kinds ∙ asked.call.0)

    pub device_steps : IsSome (step p c (answers.Device q))
    device_steps =
        (u.never (answers_given p (given_by calls) n) c (answers.Device q) u.made.leads.reached).0
        fine

    pub device_heard : HaveHeard before after (calls ++ call ∷ [])
    device_heard =
        one_more calls which (arguments_in c.frames) q before after
        (subst (λ (a : AllSeen). IsAsked a after which (arguments_in c.frames) (Ok q)) u.heard
        asked)

    pub device_leads : (d : Conf) → step p c (answers.Device q) ≡ Some (event.Next d)
        → Leads p (calls ++ call ∷ []) (n + 1) d
    device_leads d goes =
        let a = asking p which c asks in
        let args = ap arguments_in a.frames_are in
        subst (λ (l : List Primitive). Leads p
        (calls ++ record { device = which; args = l; answer = q } ∷ []) (n + 1) d) (sym args)
        (asked_more p calls n c u.made.leads which asks a.top a.below a.frames_are q d goes)

    -- the run goes on
    pub device_next : (d : Conf) × Leads p (calls ++ call ∷ []) (n + 1) d
    device_next =
        let e = some_value (step p c (answers.Device q)) device_steps in
        let d = goes_on p c which q e.0 asks e.1 in
        (d.0, device_leads d.0 (e.1 ∙ ap Some d.1))

  -- where memory is refused while an answer is given
  pub not_given : (after : AllSeen) (limit : ℕ) → n < limit → MayBeGiven p c now after
      → IsCutShort p limit before after
  not_given after limit less (inl same) =
      (calls, same ∙ u.heard, (n, omega (arith, less), (c, u.made.leads)))
  not_given after limit less (inr (which, asks, inl same)) =
      (calls, same ∙ u.heard, (n, omega (arith, less), (c, u.made.leads)))
  not_given after limit less (inr (which, asks, inr (q, asked))) = (
    calls ++ call which q after asks asked ∷ [],
    device_heard which q after asks asked,
    (n + 1, omega (arith, less), device_next which q after asks asked),
  )

  -- an answer is given, and recorded where it is a device's
  module _ (after : AllSeen) (recorded : List CallRecord) where
    pub given_heard : (a : Answer) → IsGiven p c now after calls recorded (given.Answered a)
        → HaveHeard before after recorded
    given_heard a (inl (none, is, same, as_before)) =
        same ∙ u.heard ∙ ap (λ (l : List CallRecord). answering l before) (sym as_before)
    given_heard (answers.Device q) (inr (which, asks, (asked, more))) =
        device_heard which q after asks asked
        ∙ ap (λ (l : List CallRecord). answering l before) (sym more)
    given_heard answers.Tick (inr (which, asks, nothing)) = absurd nothing
    given_heard (answers.Pick i) (inr (which, asks, nothing)) = absurd nothing

    pub given_steps : (a : Answer) → IsGiven p c now after calls recorded (given.Answered a)
        → IsSome (step p c a)
    given_steps a (inl (none, is, same, as_before)) =
        subst (λ (b : Answer). IsSome (step p c b)) (sym is)
        ((u.never (answers_given p (given_by calls) n) c (answer_to (wants p c))
        u.made.leads.reached).0 (u.fit.unasked c none))
    given_steps (answers.Device q) (inr (which, asks, (asked, more))) =
        device_steps which q after asks asked
    given_steps answers.Tick (inr (which, asks, nothing)) = absurd nothing
    given_steps (answers.Pick i) (inr (which, asks, nothing)) = absurd nothing

    pub given_leads : (a : Answer) (d : Conf)
        → IsGiven p c now after calls recorded (given.Answered a) → step p c a ≡ Some (event.Next d)
        → Leads p recorded (n + 1) d
    given_leads a d (inl (none, is, same, as_before)) goes =
        subst (λ (l : List CallRecord). Leads p l (n + 1) d) (sym as_before)
        (unasked_more p calls n c u.made.leads none d
        (subst (λ (b : Answer). step p c b ≡ Some (event.Next d)) is goes))
    given_leads (answers.Device q) d (inr (which, asks, (asked, more))) goes =
        subst (λ (l : List CallRecord). Leads p l (n + 1) d) (sym more)
        (device_leads which q after asks asked d goes)
    given_leads answers.Tick d (inr (which, asks, nothing)) goes = absurd nothing
    given_leads (answers.Pick i) d (inr (which, asks, nothing)) goes = absurd nothing

    -- the last step
    pub given_ends : (a : Answer) (end : End) (last : Conf)
        → IsGiven p c now after calls recorded (given.Answered a)
        → step p c a ≡ Some (event.End end last) → EndsIn p recorded (n + 1) end last
    given_ends a end last (inl (none, is, same, as_before)) ends = record {
      made = n;
      counted = refl;
      before = c;
      leads = subst (λ (l : List CallRecord). Leads p l n c) (sym as_before) u.made.leads;
      ends = subst (λ (b : Answer). step p c b ≡ Some (event.End end last)) is ends;
    }
    given_ends (answers.Device q) end last (inr (which, asks, (asked, more))) ends =
        absurd (cc (goes_on p c which q (event.End end last) asks ends).1)
    given_ends answers.Tick end last (inr (which, asks, nothing)) ends = absurd nothing
    given_ends (answers.Pick i) end last (inr (which, asks, nothing)) ends = absurd nothing

    -- where memory is refused in the step
    pub given_answered : (a : Answer) (limit : ℕ) → n < limit
        → IsGiven p c now after calls recorded (given.Answered a) → AreAnswered p limit recorded
    given_answered a limit less (inl (none, is, same, as_before)) =
        subst (AreAnswered p limit) (sym as_before) (n, omega (arith, less), (c, u.made.leads))
    given_answered (answers.Device q) limit less (inr (which, asks, (asked, more))) =
        subst (AreAnswered p limit) (sym more)
        (n + 1, omega (arith, less), device_next which q after asks asked)
    given_answered answers.Tick limit less (inr (which, asks, nothing)) = absurd nothing
    given_answered (answers.Pick i) limit less (inr (which, asks, nothing)) = absurd nothing

    -- .. and the run is under way
    pub given_more : (a : Answer) (d : Conf) → AreSteps p
        → IsGiven p c now after calls recorded (given.Answered a) → step p c a ≡ Some (event.Next d)
        → IsUnderWay p before after recorded (n + 1) d
    given_more a d steps by goes =
        let counted = (steps c a (event.Next d) goes).0 in
        record {
          fit = u.fit;
          never = u.never;
          devices = u.devices;
          heard = given_heard a by;
          made =
              record {
                leads = given_leads a d by goes;
                counted = omega (arith, counted, u.made.counted);
              };
        }
