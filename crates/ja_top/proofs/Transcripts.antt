-- What the end of a run says.
use Rattle.std.specs.Prelude.{◌≡◌, List, ℕ, Result, Ok, Err, IfOk, IfErr}
use Rattle.std.proofs.Common.{◌∙◌, inr, ap, refl, sym, subst}
use Rattle.ja_base.specs.declared.ids.Memory.{Memory}
use Rattle.ja_device.specs.Devices.{AllSeen}
use Rattle.ja_graph.specs.declared.program.Program.{Program}
use Rattle.ja_load.specs.Loading.{IsProgramOf, HasNone}
use Rattle.ja_load.specs.declared.fault.LoadFault.{LoadFault}
use Rattle.ja_prim.specs.declared.signature.Signature.{Signature}
use Rattle.ja_run.specs.declared.ended.RunEnd.{RunEnd}
use Rattle.ja_run.specs.declared.ended.RunEnd.TheVariants as run_end
use Rattle.ja_top.specs.declared.answer.Answer.{Answer}
use Rattle.ja_top.specs.declared.status.Status.{Status}
use Rattle.ja_top.specs.declared.status.Status.TheVariants as status
use Rattle.ja_top.specs.Analyses.{Refuses}
use Rattle.ja_top.specs.Runs.{MayBeLeft, MayBeLeftByText, Runs, Transcribes}
use Rattle.ja_top.specs.Runs.{returned, signatures_of}
use Rattle.ja_top.specs.Statuses.{status_of_end}

-- ---- the program of a text

module _ (bytes : List ℕ) (signatures : List Signature) (p : Program) (steps : ℕ)
    (before after : AllSeen) (its : signatures ≡ signatures_of before)
    (of : IsProgramOf bytes signatures p) where
  here : IsProgramOf bytes (signatures_of before) p
  here = subst (λ s. IsProgramOf bytes s p) its of

  of_end : (text : List ℕ) (end : RunEnd)
      → Transcribes p steps before after (status_of_end end) text
      → Runs bytes steps before after (status_of_end end) text
  of_end text run_end.Normal h = (p, here, h)
  of_end text (run_end.Uncaught value) h = (p, here, h)
  of_end text (run_end.Scope kind place) h = (p, here, h)
  of_end text (run_end.Device which) h = (p, here, h)
  of_end text run_end.Limit h = (p, here, h)

  -- the transcript of the run of the program of a text is a run of the text
  runs : (status : Status) (text : List ℕ) → Transcribes p steps before after status text
      → Runs bytes steps before after status text
  runs status text h =
      let Transcript : Status → Type 0 = λ s. Transcribes p steps before after s text in
      let Run : Status → Type 0 = λ s. Runs bytes steps before after s text in
      subst Run (sym h.status_is) (of_end text h.ended.end (subst Transcript h.status_is h))

  -- the same of what is given by a call
  pub all_runs : (r : Result Answer Memory)
      → IfOk r (λ (a : Answer). Transcribes p steps before after a.status a.text.items)
      → IfOk r (λ (a : Answer). Runs bytes steps before after a.status a.text.items)
  all_runs (Ok a) h = runs a.status a.text.items h
  all_runs (Err e) h = h

  -- where the run of the program of a text was refused memory, so was the run of the text
  pub all_left : (r : Result Answer Memory) → IfErr r (λ _. MayBeLeft p steps before after)
      → IfErr r (λ _. MayBeLeftByText bytes steps before after)
  all_left (Ok a) h = h
  all_left (Err e) h = inr (p, here, h)

-- ---- refusals

-- a text that has no program is refused, and each device is as it was
module _ (bytes : List ℕ) (steps : ℕ) (devices : AllSeen) (text : List ℕ) where
  pub refused : (status : Status) → Refuses bytes (signatures_of devices) status text
      → Runs bytes steps devices devices status text
  refused status.NotText h = (h, refl)
  refused status.Syntax h = (h, refl)
  refused status.Scope h = (h, refl)
  refused status.Limit h = (h, refl)
  refused status.Done h = absurd h
  refused status.Warned h = absurd h
  refused status.Usage h = absurd h
  refused status.ReadFault h = absurd h
  refused status.WriteFault h = absurd h
  refused status.TooLong h = absurd h
  refused status.Spent h = absurd h
  refused status.CertRefused h = absurd h
  refused status.DeviceFault h = absurd h
  refused status.Left h = absurd h
  refused status.Uncaught h = absurd h
  refused status.StepsSpent h = absurd h
  refused status.Memory h = absurd h

-- .. in the answer of a call that says why a text has none
pub all_refused : (bytes : List ℕ) (signatures : List Signature) (steps : ℕ) (devices : AllSeen)
    (f : LoadFault) (r : Result Answer Memory) → signatures ≡ signatures_of devices
    → HasNone bytes signatures f
    → IfOk r (λ (a : Answer). (b : List ℕ) (s : List Signature) → HasNone b s f
    → Refuses b s a.status a.text.items)
    → IfOk r (λ (a : Answer). Runs bytes steps devices devices a.status a.text.items)
all_refused bytes signatures steps devices f (Ok a) its none h =
    refused bytes steps devices a.text.items a.status
    (subst (λ s. Refuses bytes s a.status a.text.items) its (h bytes signatures none))
all_refused bytes signatures steps devices f (Err e) its none h = h

-- ---- errors

-- what an error says, and what follows from it
pub follows : {T E : Type 0} (P Q : Type 0) (r : Result T E) → (P → Q)
    → IfErr r (λ _. P) → IfErr r (λ _. Q)
follows P Q (Ok a) f h = h
follows P Q (Err e) f h = f h

-- ---- the devices that come back

-- all come back of a run that no device ended
pub all_returned : (end : RunEnd) (left : AllSeen)
    → ((which : ℕ) → end ≡ run_end.Device which → ⊥) → left ≡ returned end left
all_returned run_end.Normal left none = refl
all_returned (run_end.Uncaught value) left none = refl
all_returned (run_end.Scope kind place) left none = refl
all_returned (run_end.Device which) left none = absurd (none which refl)
all_returned run_end.Limit left none = refl

-- and where one ended it, all but this one
pub one_missing : (end : RunEnd) (left after : AllSeen) (which : ℕ) → end ≡ run_end.Device which
    → after ≡ returned (run_end.Device which) left → after ≡ returned end left
one_missing end left after which is back = back ∙ ap (λ e. returned e left) (sym is)
