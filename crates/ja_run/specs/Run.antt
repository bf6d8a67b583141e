-- The run of a program under the answers that its devices give, and how it ends within some steps.
use Rattle.std.specs.Prelude.{◌≡◌, ◌≤◌, ◌<◌, ◌⊎◌, ℕ, zero, suc, ◌+◌, true, List, [], ◌∷◌, ◌++◌, map, drop, slice_get, Option, Some, None}
use Rattle.std.specs.Option.{option_map_or}
use Rattle.ja_prim.specs.declared.primitive.Primitive.{Primitive}
use Rattle.ja_prim.specs.declared.signature.Signature.{Signature}
use Rattle.ja_graph.specs.declared.program.Program.{Program}
use Rattle.ja_machine.specs.declared.machine.Conf.{Conf}
use Rattle.ja_machine.specs.declared.machine.Frame.{Frame}
use Rattle.ja_machine.specs.declared.machine.Answer.{Answer}
use Rattle.ja_machine.specs.declared.machine.Answer.TheVariants as answers
use Rattle.ja_machine.specs.declared.machine.Wants.{Wants}
use Rattle.ja_machine.specs.declared.machine.Wants.TheVariants as wanted
use Rattle.ja_machine.specs.declared.machine.End.{End}
use Rattle.ja_machine.specs.declared.machine.Event.TheVariants as event
use Rattle.ja_machine.specs.Machine.{fits, is_of_kinds, wants, step, state_of}
use Rattle.ja_step.specs.Given.{answer_to, primitives}
use Rattle.ja_run.specs.declared.ended.CallRecord.{CallRecord}
use Rattle.ja_run.specs.declared.ended.RunEnd.{RunEnd}
use Rattle.ja_run.specs.declared.ended.RunEnd.TheVariants as run_end
use Rattle.ja_run.specs.declared.ended.Ended.{Ended}
use Rattle.ja_run.specs.Ends.{run_end_of}

-- ---- the answers

-- how many of some answers are those of devices
abbrev pub asked : List Answer → ℕ
asked [] = 0
asked (answers.Device q ∷ earlier) = suc (asked earlier)
asked (answers.Tick ∷ earlier) = asked earlier
asked (answers.Pick i ∷ earlier) = asked earlier

-- what is given to a state that wants this, where devices have these answers left: a device gives
-- the next one
abbrev pub answer_with : Wants → List Primitive → Answer
answer_with (wanted.Device which) (q ∷ left) = answers.Device q
answer_with w left = answer_to w

-- what stands in the place of an answer where the run has ended before: nothing comes of it
abbrev pub no_answer : Answer
no_answer = answers.Tick

-- the answer in a state, if the run has not ended before
abbrev pub answer_in : Program → Option Conf → List Primitive → Answer
answer_in p None left = no_answer
answer_in p (Some c) left = answer_with (wants p c) left

-- the answer behind earlier ones
abbrev pub answer_behind : Program → List Primitive → List Answer → Answer
answer_behind p given earlier = answer_in p (state_of p earlier) (drop (asked earlier) given)

-- the answers to the first steps, the last one first, where devices give these in order
abbrev pub answers_given : Program → List Primitive → ℕ → List Answer
answers_given p given zero = []
answers_given p given (suc n) =
    answer_behind p given (answers_given p given n) ∷ answers_given p given n

-- the state after so many steps, if the run has not ended before; where no answer of a device is
-- left, it goes no further
abbrev pub state_after : Program → List Primitive → ℕ → Option Conf
state_after p given n = state_of p (answers_given p given n)

-- ---- the calls of devices

-- the call that is answered in a state that wants this and has these frames
abbrev pub call_in : Wants → List Frame → Primitive → List CallRecord
call_in (wanted.Device which) (f ∷ below) q =
    record { device = which; args = primitives f.arguments; answer = q } ∷ []
call_in w frames q = []

-- the calls that devices have answered, in order
abbrev pub calls_of : Program → List Answer → List CallRecord
calls_of p [] = []
calls_of p (answers.Device q ∷ earlier) =
    calls_of p earlier ++ option_map_or (λ (c : Conf). call_in (wants p c) c.frames q)
    (state_of p earlier) []
calls_of p (answers.Tick ∷ earlier) = calls_of p earlier
calls_of p (answers.Pick i ∷ earlier) = calls_of p earlier

-- what devices gave
abbrev pub given_by : List CallRecord → List Primitive
given_by calls = map (λ (r : CallRecord). r.answer) calls

-- So many steps lead to a state, and in them devices have answered these calls.
pub record Leads (p : Program) (calls : List CallRecord) (steps : ℕ) (c : Conf) : Type 0 where
  pub reached : state_after p (given_by calls) steps ≡ Some c
  pub answered : calls_of p (answers_given p (given_by calls) steps) ≡ calls

-- calls that devices have answered in the first steps of a run, in so many of them at most
abbrev pub AreAnswered : Program → ℕ → List CallRecord → Type 0
AreAnswered p limit calls = (steps : ℕ) × (steps ≤ limit) × ((c : Conf) × Leads p calls steps c)

-- ---- the end

-- The last of so many steps ends the run, in a state and with an end of the machine.
pub record EndsIn (p : Program) (calls : List CallRecord) (steps : ℕ) (end : End)
    (last : Conf) : Type 0 where
  pub made : ℕ
  pub counted : steps ≡ made + 1
  pub before : Conf
  pub leads : Leads p calls made before
  pub ends : step p before (answer_to (wants p before)) ≡ Some (event.End end last)

-- .. which is told so
abbrev pub Ends : Program → List CallRecord → ℕ → RunEnd → Type 0
Ends p calls steps e =
    (end : End) × (last : Conf) × EndsIn p calls steps end last × (e ≡ run_end_of last.heap end)

-- Behind so many steps a device is asked, which gives no answer.
abbrev pub Asks : Program → List CallRecord → ℕ → ℕ → Type 0
Asks p calls steps which = (c : Conf) × Leads p calls steps c × (wants p c ≡ wanted.Device which)

-- how a run ends that may make so many steps: at its limit exactly where it has made them all and
-- goes on; at a device that gives no answer; or as the machine ends
abbrev pub EndsBy : Program → ℕ → List CallRecord → ℕ → RunEnd → Type 0
EndsBy p limit calls steps run_end.Limit = (steps ≡ limit) × ((c : Conf) × Leads p calls limit c)
EndsBy p limit calls steps (run_end.Device which) = (steps < limit) × Asks p calls steps which
EndsBy p limit calls steps e = (steps ≤ limit) × Ends p calls steps e

-- the run of at most so many steps, under the answers of its calls
abbrev pub IsRun : Program → ℕ → Ended → Type 0
IsRun p limit e = EndsBy p limit e.calls e.steps e.end

-- ---- laws

-- no device is asked
abbrev pub IsUnasked : Wants → Type 0
IsUnasked (wanted.Device which) = ⊥
IsUnasked w = Unit {0}

-- The answers that are given are answers that are wanted: those that nobody is asked for, and each
-- of a device's kinds.
pub record AnswersFit (p : Program) : Type 0 where
  pub unasked : (c : Conf) → IsUnasked (wants p c)
      → fits p (wants p c) (answer_to (wants p c)) ≡ true
  pub asked : (c : Conf) (which : ℕ) → wants p c ≡ wanted.Device which
      → (s : Signature) × (slice_get p.signatures which ≡ Some s)
      × ((q : Primitive) → is_of_kinds s.kinds q ≡ true
      → fits p (wants p c) (answers.Device q) ≡ true)

-- a program has one run of at most so many steps under the same answers of devices
abbrev pub RunsOnce : Program → Type 0
RunsOnce p =
    (limit : ℕ) (e f : Ended) → IsRun p limit e → IsRun p limit f
    → given_by e.calls ≡ given_by f.calls → e ≡ f

-- Where a run is at its limit, one more step is made, or a device is asked that gives no answer.
-- Where a device gave no answer, it stays so, if it gives none again. Where the run has ended, it
-- stays as it is.
abbrev pub ContinuesBy : Ended → Ended → RunEnd → Type 0
ContinuesBy e f run_end.Limit =
    (f.steps ≡ e.steps + 1) ⊎ ((which : ℕ) × (f.end ≡ run_end.Device which) × (f.steps ≡ e.steps))
ContinuesBy e f (run_end.Device which) = f.calls ≡ e.calls → f ≡ e
ContinuesBy e f end = f ≡ e

-- the calls begin as the others do
pub record Continues (e f : Ended) : Type 0 where
  pub more : List CallRecord
  pub calls : f.calls ≡ e.calls ++ more
  pub by : ContinuesBy e f e.end

-- a run to n steps is a prefix of the run to n + 1 in which devices give the same answers, and
-- maybe more
abbrev pub ArePrefixes : Program → Type 0
ArePrefixes p =
    (n : ℕ) (e f : Ended) (more : List Primitive) → IsRun p n e → IsRun p (n + 1) f
    → given_by f.calls ≡ given_by e.calls ++ more → Continues e f
