-- What devices give: the answers to the first steps are the same where more is given behind it.
use Rattle.std.proofs.Common.{◌≡◌, ℕ, zero, suc, ◌+◌, ◌-◌, ◌<◌, ◌≤◌, ◌⊎◌, inl, inr, Bool, true, false, List, [], ◌∷◌, ◌++◌, length, drop, Option, Some, None, refl, sym, ap, ◌∙◌, subst, arith, append-nil, append_assoc}
use Rattle.std.specs.Prelude.{if◌then◌else◌}
use Rattle.std.specs.Option.{option_and_then, option_map_or}
use Rattle.std.proofs.Math.ListN.{drop_of_length-le}
use Rattle.std.proofs.lemmas.Bool.{cases_order}
use Rattle.std.proofs.lemmas.List.{drop-append-le, length-append, length-drop, length-map, map-append}
use Rattle.ja_prim.specs.declared.primitive.Primitive.{Primitive}
use Rattle.ja_graph.specs.declared.program.Program.{Program}
use Rattle.ja_machine.specs.declared.machine.Answer.{Answer}
use Rattle.ja_machine.specs.declared.machine.Answer.TheVariants as answers
use Rattle.ja_machine.specs.declared.machine.Conf.{Conf}
use Rattle.ja_machine.specs.declared.machine.End.{End}
use Rattle.ja_machine.specs.declared.machine.Event.{Event}
use Rattle.ja_machine.specs.declared.machine.Event.TheVariants as event
use Rattle.ja_machine.specs.declared.machine.Frame.{Frame}
use Rattle.ja_machine.specs.declared.machine.Wants.{Wants}
use Rattle.ja_machine.specs.declared.machine.Wants.TheVariants as wanted
use Rattle.ja_machine.specs.Machine.{fits, frames_step, wants, step, next_of, state_of}
use Rattle.ja_step.specs.Given.{answer_to, primitives}
use Rattle.ja_run.specs.declared.ended.CallRecord.{CallRecord}
use Rattle.ja_run.specs.Run.{asked, answer_with, answer_in, answer_behind, answers_given, state_after, call_in, calls_of, given_by, Leads, IsUnasked}

-- ---- one answer

-- a state that asks no device is given what nobody is asked for
pub unasked_answer : (w : Wants) (left : List Primitive) → IsUnasked w
    → answer_with w left ≡ answer_to w
unasked_answer wanted.Tick left none = refl
unasked_answer (wanted.Pick count) left none = refl
unasked_answer (wanted.Device which) left none = absurd none

-- where a device is asked, that doesn't fit
pub unasked : (p : Program) (w : Wants) → fits p w (answer_to w) ≡ true → IsUnasked w
unasked p wanted.Tick fine = tt
unasked p (wanted.Pick count) fine = tt
unasked p (wanted.Device which) fine = absurd (cc)

asked_with : (w : Wants) (left : List Primitive) (earlier : List Answer)
    → asked (answer_with w left ∷ earlier) ≤ asked earlier + length left
asked_with wanted.Tick left earlier = omega arith
asked_with (wanted.Pick count) left earlier = omega arith
asked_with (wanted.Device which) [] earlier = omega arith
asked_with (wanted.Device which) (q ∷ left) earlier = omega arith

asked_in : (p : Program) (at : Option Conf) (left : List Primitive) (earlier : List Answer)
    → asked (answer_in p at left ∷ earlier) ≤ asked earlier + length left
asked_in p None left earlier = omega arith
asked_in p (Some c) left earlier = asked_with (wants p c) left earlier

-- an answer that fits is the same where more is given behind it
same_with : (p : Program) (w : Wants) (left more : List Primitive)
    → fits p w (answer_with w left) ≡ true → answer_with w (left ++ more) ≡ answer_with w left
same_with p wanted.Tick left more fine = refl
same_with p (wanted.Pick count) left more fine = refl
same_with p (wanted.Device which) [] more fine = absurd (cc)
same_with p (wanted.Device which) (q ∷ left) more fine = refl

-- ---- one step

-- the state behind an answer
abbrev pub behind : Program → Answer → Option Conf → Option Conf
behind p a at = option_and_then (λ (c : Conf). option_and_then next_of (step p c a)) at

-- what goes on has begun
begun : {A B : Type 0} (f : A → Option B) (o : Option A) (y : B) → option_and_then f o ≡ Some y
    → (x : A) × (o ≡ Some x)
begun f None y is = absurd (cc)
begun f (Some x) y is = (x, refl)

chosen : (fine : Bool) (o : Option Event) (e : Event) → (if fine then o else None) ≡ Some e
    → fine ≡ true
chosen true o e is = refl
chosen false o e is = absurd (cc)

-- the answer of a step fits
fitting : (p : Program) (c : Conf) (a : Answer) (e : Event) → step p c a ≡ Some e
    → fits p (wants p c) a ≡ true
fitting p c a e is = chosen (fits p (wants p c) a) (frames_step p c a c.frames) e is

same_in : (p : Program) (at : Option Conf) (left more : List Primitive) (d : Conf)
    → behind p (answer_in p at left) at ≡ Some d
    → answer_in p at (left ++ more) ≡ answer_in p at left
same_in p None left more d is = absurd (cc)
same_in p (Some c) left more d is =
    let e = begun next_of (step p c (answer_with (wants p c) left)) d is in
    same_with p (wants p c) left more (fitting p c (answer_with (wants p c) left) e.0 e.1)

-- a step that ends a run asks no device
pub must_be_unasked : (p : Program) (c : Conf) (which : ℕ) (end : End) (last : Conf)
    → wants p c ≡ wanted.Device which → step p c (answer_to (wants p c)) ≡ Some (event.End end last)
    → ⊥
must_be_unasked p c which end last asks ends =
    subst IsUnasked asks (unasked p (wants p c)
    (fitting p c (answer_to (wants p c)) (event.End end last) ends))

-- ---- the answers to the first steps

-- no more answers are taken than are given
taken : (p : Program) (given : List Primitive) (n : ℕ)
    → asked (answers_given p given n) ≤ length given
taken p given zero = omega arith
taken p given (suc n) =
    let earlier = answers_given p given n in
    let before : asked earlier ≤ length given = taken p given n in
    let now = asked_in p (state_of p earlier) (drop (asked earlier) given) earlier in
    let left : length (drop (asked earlier) given)
    ≡ length given - asked earlier = length-drop (asked earlier) given in
    omega (arith, before, now, left)

-- with more behind it the same is left, and more
left_over : (p : Program) (given more : List Primitive) (n : ℕ)
    → drop (asked (answers_given p given n)) (given ++ more)
    ≡ drop (asked (answers_given p given n)) given ++ more
left_over p given more n =
    drop-append-le (asked (answers_given p given n)) given more (taken p given n)

-- .. and so the answers are the same, as long as the run goes on
pub agrees : (p : Program) (given more : List Primitive) (n : ℕ) (c : Conf)
    → state_after p given n ≡ Some c → answers_given p (given ++ more) n ≡ answers_given p given n
agrees p given more zero c is = refl
agrees p given more (suc n) c is =
    let earlier = answers_given p given n in
    let at = state_of p earlier in
    let left = drop (asked earlier) given in
    let b = begun (λ (b : Conf). option_and_then next_of (step p b (answer_in p at left))) at c
    is in
    ap (λ (e : List Answer). answer_behind p (given ++ more) e ∷ e) (agrees p given more n b.0 b.1)
    ∙ ap (λ (a : Answer). a ∷ earlier) (ap (answer_in p at) (left_over p given more n)
    ∙ same_in p at left more c is)

-- .. and so are the states
pub same_state : (p : Program) (given more : List Primitive) (n : ℕ) (c : Conf)
    → state_after p given n ≡ Some c → state_after p (given ++ more) n ≡ Some c
same_state p given more n c is = ap (state_of p) (agrees p given more n c is) ∙ is

-- ---- earlier and later states

-- a run that has ended has no state later either
pub stays_none : (p : Program) (given : List Primitive) (m n : ℕ) → m ≤ n
    → state_after p given m ≡ None → state_after p given n ≡ None
stays_none p given m zero within none =
    let same : m ≡ zero = omega (arith, within) in
    subst (λ k. state_after p given k ≡ None) same none
stays_none p given m (suc n) within none =
    by (cases_order m (suc n)) (λ low. stays_none p given m n low none)
  where
    at : ℕ → Answer
    at k = answer_behind p given (answers_given p given k)

    by : (m ≡ suc n) ⊎ ((m < suc n) ⊎ (suc n < m)) → (m ≤ n → state_after p given n ≡ None)
        → state_after p given (suc n) ≡ None
    by (inl same) before = subst (λ k. state_after p given k ≡ None) same none
    by (inr (inl low)) before = ap (behind p (at n)) (before (omega (arith, low)))
    by (inr (inr high)) before = absurd (omega (arith, within, high))

-- .. and one that has a state had one before
pub had : (p : Program) (given : List Primitive) (m n : ℕ) (c : Conf) → m ≤ n
    → state_after p given n ≡ Some c → (b : Conf) × (state_after p given m ≡ Some b)
had p given m n c within is = by (state_after p given m) refl
  where
    by : (at : Option Conf) → state_after p given m ≡ at
        → (b : Conf) × (state_after p given m ≡ Some b)
    by None none = absurd (cc (stays_none p given m n within none))
    by (Some b) some = (b, some)

-- ---- calls

-- one answer more leaves the calls as they are, and maybe adds one
more_calls : (p : Program) (a : Answer) (earlier : List Answer)
    → (more : List CallRecord) × (calls_of p (a ∷ earlier) ≡ calls_of p earlier ++ more)
more_calls p (answers.Device q) earlier =
    (option_map_or (λ (c : Conf). call_in (wants p c) c.frames q) (state_of p earlier) [], refl)
more_calls p answers.Tick earlier = ([], sym (append-nil (calls_of p earlier)))
more_calls p (answers.Pick i) earlier = ([], sym (append-nil (calls_of p earlier)))

-- the calls of more steps begin with those of fewer
pub longer : (p : Program) (given : List Primitive) (m n : ℕ) → m ≤ n
    → (more : List CallRecord) × (calls_of p (answers_given p given n)
    ≡ calls_of p (answers_given p given m) ++ more)
longer p given m zero within =
    let same : m ≡ zero = omega (arith, within) in (
      [],
      ap (λ k. calls_of p (answers_given p given k)) (sym same)
          ∙ sym (append-nil (calls_of p (answers_given p given m))),
    )
longer p given m (suc n) within = by (cases_order m (suc n)) (λ low. longer p given m n low)
  where
    calls : ℕ → List CallRecord
    calls k = calls_of p (answers_given p given k)

    by : (m ≡ suc n) ⊎ ((m < suc n) ⊎ (suc n < m))
        → (m ≤ n → (more : List CallRecord) × (calls n ≡ calls m ++ more))
        → (more : List CallRecord) × (calls (suc n) ≡ calls m ++ more)
    by (inl same) before = ([], ap calls (sym same) ∙ sym (append-nil (calls m)))
    by (inr (inl low)) before =
        let e = before (omega (arith, low)) in
        let f = more_calls p (answer_behind p given (answers_given p given n))
        (answers_given p given n) in (
          e.0 ++ f.0,
          f.1 ∙ ap (λ (l : List CallRecord). l ++ f.0) e.1
              ∙ append_assoc (calls m) e.0 f.0,
        )
    by (inr (inr high)) before = absurd (omega (arith, within, high))

-- there are at most as many calls as answers of devices
few_in : (w : Wants) (frames : List Frame) (q : Primitive) → length (call_in w frames q) ≤ 1
few_in wanted.Tick frames q = omega arith
few_in (wanted.Pick count) frames q = omega arith
few_in (wanted.Device which) [] q = omega arith
few_in (wanted.Device which) (f ∷ below) q = omega arith

few_at : (p : Program) (at : Option Conf) (q : Primitive)
    → length (option_map_or (λ (c : Conf). call_in (wants p c) c.frames q) at []) ≤ 1
few_at p None q = omega arith
few_at p (Some c) q = few_in (wants p c) c.frames q

few_calls : (p : Program) (given : List Answer) → length (calls_of p given) ≤ asked given
few_calls p [] = omega arith
few_calls p (answers.Device q ∷ earlier) =
    let call = option_map_or (λ (c : Conf). call_in (wants p c) c.frames q) (state_of p earlier)
    [] in
    omega (
      arith,
      few_calls p earlier,
      few_at p (state_of p earlier) q,
      length-append (calls_of p earlier) call,
    )
few_calls p (answers.Tick ∷ earlier) = few_calls p earlier
few_calls p (answers.Pick i ∷ earlier) = few_calls p earlier

-- nothing is left of the answers of the calls that were answered
pub all_taken : (p : Program) (calls : List CallRecord) (n : ℕ) (c : Conf) → Leads p calls n c
    → drop (asked (answers_given p (given_by calls) n)) (given_by calls) ≡ []
all_taken p calls n c leads =
    let few = few_calls p (answers_given p (given_by calls) n) in
    let as_many : length (given_by calls) ≡ length calls = length-map calls
    (λ (r : CallRecord). r.answer) in
    let same : length (calls_of p (answers_given p (given_by calls) n))
    ≡ length calls = ap length leads.answered in
    drop_of_length-le (given_by calls) (omega (arith, few, as_many, same))

-- ---- one step more

-- no device is asked in the first state
pub opens : (p : Program) (c : Conf) → state_of p [] ≡ Some c → Leads p [] 0 c
opens p c is = record { reached = is; answered = refl }

unasked_calls : (p : Program) (w : Wants) (earlier : List Answer)
    → calls_of p (answer_to w ∷ earlier) ≡ calls_of p earlier
unasked_calls p wanted.Tick earlier = refl
unasked_calls p (wanted.Pick count) earlier = refl
unasked_calls p (wanted.Device which) earlier = refl

module _ (p : Program) (calls : List CallRecord) (n : ℕ) (c : Conf)
    (leads : Leads p calls n c) where
  abbrev given : List Primitive
  given = given_by calls

  abbrev earlier : List Answer
  earlier = answers_given p given n

  -- the answer to a state that asks no device
  plain_answer : IsUnasked (wants p c) → answer_behind p given earlier ≡ answer_to (wants p c)
  plain_answer none =
      ap (λ (at : Option Conf). answer_in p at (drop (asked earlier) given)) leads.reached
      ∙ unasked_answer (wants p c) (drop (asked earlier) given) none

  plain_state : IsUnasked (wants p c) → state_after p given (suc n)
      ≡ option_and_then next_of (step p c (answer_to (wants p c)))
  plain_state none =
      ap (λ (a : Answer). behind p a (state_of p earlier)) (plain_answer none)
      ∙ ap (behind p (answer_to (wants p c))) leads.reached

  pub unasked_more : IsUnasked (wants p c) → (d : Conf)
      → step p c (answer_to (wants p c)) ≡ Some (event.Next d) → Leads p calls (n + 1) d
  unasked_more none d goes =
      let same : suc n ≡ n + 1 = omega arith in
      subst (λ k. Leads p calls k d) same (record {
        reached = plain_state none ∙ ap (option_and_then next_of) goes;
        answered =
            ap (λ (a : Answer). calls_of p (a ∷ earlier)) (plain_answer none)
            ∙ unasked_calls p (wants p c) earlier ∙ leads.answered;
      })

  -- nothing comes behind the end
  pub ended : (more : List Primitive) (end : End) (last : Conf)
      → step p c (answer_to (wants p c)) ≡ Some (event.End end last)
      → state_after p (given ++ more) (suc n) ≡ None
  ended more end last ends =
      let given_more = given ++ more in
      let left = drop (asked (answers_given p given_more n)) given_more in
      let none = unasked p (wants p c) (fitting p c (answer_to (wants p c)) (event.End end last)
      ends) in
      ap (λ (at : Option Conf). behind p (answer_in p at left) at)
      (same_state p given more n c leads.reached)
      ∙ ap (λ (a : Answer). option_and_then next_of (step p c a))
      (unasked_answer (wants p c) left none)
      ∙ ap (option_and_then next_of) ends

  -- .. nor where a device is asked that gives no answer
  pub unanswered : (which : ℕ) → wants p c ≡ wanted.Device which
      → state_after p given (suc n) ≡ None
  unanswered which asks =
      ap (λ (left : List Primitive). behind p (answer_in p (state_of p earlier) left)
      (state_of p earlier)) (all_taken p calls n c leads)
      ∙ ap (λ (at : Option Conf). behind p (answer_in p at []) at) leads.reached
      ∙ ap (λ (w : Wants). option_and_then next_of
      (if fits p w (answer_with w []) then frames_step p c (answer_with w []) c.frames
      else None)) asks

  -- a device is asked, and answers
  module _ (which : ℕ) (asks : wants p c ≡ wanted.Device which) (top : Frame) (below : List Frame)
      (frames : c.frames ≡ top ∷ below) (q : Primitive) where
    abbrev call : CallRecord
    call = record { device = which; args = primitives top.arguments; answer = q }

    device_answer : answer_behind p (given ++ q ∷ []) earlier ≡ answers.Device q
    device_answer =
        ap (answer_in p (state_of p earlier))
        (left_over p given (q ∷ []) n ∙ ap (λ (left : List Primitive). left ++ q ∷ [])
        (all_taken p calls n c leads))
        ∙ ap (λ (at : Option Conf). answer_in p at (q ∷ [])) leads.reached
        ∙ ap (λ (w : Wants). answer_with w (q ∷ [])) asks

    device_answers : answers_given p (given_by (calls ++ call ∷ [])) (suc n) ≡ answers.Device q
        ∷ earlier
    device_answers =
        ap (λ (g : List Primitive). answers_given p g (suc n))
        (map-append (λ (r : CallRecord). r.answer) calls (call ∷ []))
        ∙ ap (λ (e : List Answer). answer_behind p (given ++ q ∷ []) e ∷ e)
        (agrees p given (q ∷ []) n c leads.reached)
        ∙ ap (λ (a : Answer). a ∷ earlier) device_answer

    calls_more : calls_of p (answers.Device q ∷ earlier) ≡ calls ++ call ∷ []
    calls_more =
        ap (λ (l : List CallRecord). l ++ option_map_or
        (λ (d : Conf). call_in (wants p d) d.frames q) (state_of p earlier) []) leads.answered
        ∙ ap (λ (at : Option Conf). calls ++ option_map_or
        (λ (d : Conf). call_in (wants p d) d.frames q) at []) leads.reached
        ∙ ap (λ (w : Wants). calls ++ call_in w c.frames q) asks
        ∙ ap (λ (fs : List Frame). calls ++ call_in (wanted.Device which) fs q) frames

    pub asked_more : (d : Conf) → step p c (answers.Device q) ≡ Some (event.Next d)
        → Leads p (calls ++ call ∷ []) (n + 1) d
    asked_more d goes =
        let same : suc n ≡ n + 1 = omega arith in
        subst (λ k. Leads p (calls ++ call ∷ []) k d) same (record {
          reached =
              ap (state_of p) device_answers ∙ ap (behind p (answers.Device q)) leads.reached
              ∙ ap (option_and_then next_of) goes;
          answered = ap (calls_of p) device_answers ∙ calls_more;
        })
