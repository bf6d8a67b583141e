-- A run of a text that has a program, in which nothing fails, is complete.
use Rattle.std.specs.Prelude.{◌≡◌, ◌<◌, ◌≤◌, ◌+◌, ◌-◌, ◌^◌, ℕ, true, false, List, Option, length, map}
use Rattle.std.specs.String.{string_bytes}
use Rattle.std.proofs.Common.{◌∙◌, ap, refl, sym, subst, arith, inl, inr}
use Rattle.std.proofs.Math.Nat.{min-eq_left, min-eq_right}
use Rattle.std.proofs.lemmas.Bool.{cases_Bool, ltb-true, ltb-false}
use Rattle.std.proofs.Math.Dec.{ltb}
use Rattle.ja_base.specs.Counts.{counted}
use Rattle.ja_base.specs.Streams.{IsLonger, Rose, Took}
use Rattle.ja_device.specs.Devices.{AllSeen}
use Rattle.ja_lex.specs.Spots.{max_bytes}
use Rattle.ja_run.specs.Asked.{IsLeft}
use Rattle.ja_run.specs.declared.ended.CallRecord.{CallRecord}
use Rattle.ja_run.specs.declared.ended.RunEnd.{RunEnd}
use Rattle.ja_run.specs.declared.ended.RunEnd.TheVariants as run_end
use Rattle.ja_top.specs.Answers.{AnswersBytes, Call, Follows, IsAnswered, IsGiven, Written}
use Rattle.ja_top.specs.Complete.{HasRun, IsRunOut}
use Rattle.ja_top.specs.Runs.{returned, signatures_of, Runs, RefusesText}
use Rattle.ja_top.specs.Statuses.{status_of_end}
use Rattle.ja_top.specs.declared.status.Status.{Status}
use Rattle.ja_top.specs.declared.status.Status.TheVariants.{Done, Warned, Usage, ReadFault}
use Rattle.ja_top.specs.declared.status.Status.TheVariants.{WriteFault, TooLong, NotText, Syntax}
use Rattle.ja_top.specs.declared.status.Status.TheVariants.{Scope, Limit, Spent, CertRefused, DeviceFault, Left}
use Rattle.ja_top.specs.declared.status.Status.TheVariants.{Uncaught, StepsSpent, Memory}
use Rattle.ja_top.proofs.Complete.{not_refused}
use Rattle.ja_words.specs.declared.command.Command.{Command}
use Rattle.ja_words.specs.declared.command.Command.TheVariants as command
use Rattle.ja_words.proofs.Given.{one_command}

-- ---- a device that failed is counted

-- a count of one more rose
counted_rose : (n : ℕ) → Rose n (counted n)
counted_rose n = elim (cases_Bool (ltb n (2 ^ 64 - 1))) [
  | inl e ↦ inl (subst (λ m. n < m) (sym (min-eq_left (below e))) (omega arith))
  | inr e ↦ inr (min-eq_right (above e))
]
  where
    below : ltb n (2 ^ 64 - 1) ≡ true → n + 1 ≤ 2 ^ 64 - 1
    below e = omega (arith, ltb-true n (2 ^ 64 - 1) e)

    above : ltb n (2 ^ 64 - 1) ≡ false → 2 ^ 64 - 1 ≤ n + 1
    above e = omega (arith, ltb-false n (2 ^ 64 - 1) e)

-- where a run ended at a device, one failed
device_rose : (before after left : AllSeen) (calls : List CallRecord) (end : RunEnd)
    → DeviceFault ≡ status_of_end end → IsLeft before left calls end → after ≡ returned end left
    → Rose before.failed after.failed
device_rose before after left calls (run_end.Device which) is (args, asked) back =
    subst (Rose before.failed)
    (sym (ap (λ (d : AllSeen). d.failed) back ∙ ap (λ (d : AllSeen). d.failed) asked.after_is))
    (counted_rose before.failed)
device_rose before after left calls run_end.Normal is h back = absurd (cc is)
device_rose before after left calls (run_end.Uncaught value) is h back = absurd (cc is)
device_rose before after left calls (run_end.Scope kind place) is h back = absurd (cc is)
device_rose before after left calls run_end.Limit is h back = absurd (cc is)

module _ (c : Call) (w : Written) (all : HasRun c w) where
  -- ---- what is run

  -- the words ask for one command, and the bytes that are run are those that are held
  abbrev RunsHeld : Status → List ℕ → Type 0
  RunsHeld status text = Runs all.bytes all.steps c.devices c.devices_after status text

  followed : (status : Status) (text : List ℕ) → AnswersBytes c status text
      → RunsHeld status text
  followed status text (asked, asks, (bytes, given, h)) =
      let same : asked ≡ command.Run all.steps =
      one_command (map string_bytes c.words) asked (command.Run all.steps) asks all.asks in
      let input = subst (λ (a : Command). IsGiven a c bytes) same given in
      let its : bytes ≡ all.bytes =
      subst (λ (o : Option (List ℕ)). Took o bytes) all.held input.took in
      subst (λ b. Runs b all.steps c.devices c.devices_after status text) its
      (subst (λ (a : Command). Follows a bytes c.devices c.devices_after status text) same h)

  fault : (text : List ℕ) → RunsHeld DeviceFault text → ⊥
  fault text (p, of, t) =
      all.answers (device_rose c.devices c.devices_after t.left t.ended.calls t.ended.end
      t.status_is t.left_is t.after_is)

  refused : (status : Status) (text : List ℕ)
      → RefusesText all.bytes c.devices c.devices_after status text → ⊥
  refused status text h =
      not_refused all.bytes (signatures_of c.devices) all.program all.is_program status text h.0

  -- ---- what is answered

  too_long : IsLonger max_bytes c.left → ⊥
  too_long longer =
      let more : max_bytes < length all.bytes =
      subst (λ (o : Option (List ℕ)). IsLonger max_bytes o) all.held longer in
      absurd (omega (arith, more, all.within))

  pub run_out : (status : Status) → IsAnswered c w status → IsRunOut status
  run_out Done h = inl refl
  run_out Left h = inr (inl refl)
  run_out Uncaught h = inr (inr (inl refl))
  run_out StepsSpent h = inr (inr (inr (inl refl)))
  run_out Memory h = inr (inr (inr (inr refl)))
  run_out Usage (text, cause, appends, finished) =
      absurd (cause.0 (command.Run all.steps, all.asks))
  run_out ReadFault (text, cause, appends, finished) = absurd (all.faultless.reads cause.1)
  run_out WriteFault h = absurd (all.faultless.writes h.0)
  run_out TooLong (text, cause, appends, finished) = absurd (too_long cause.1)
  run_out Warned (text, cause, appends, finished) = absurd (followed Warned text cause)
  run_out Spent (text, cause, appends, finished) = absurd (followed Spent text cause)
  run_out CertRefused (text, cause, appends, finished) = absurd (followed CertRefused text cause)
  run_out DeviceFault (text, cause, appends, finished) =
      absurd (fault text (followed DeviceFault text cause))
  run_out NotText (text, cause, appends, finished) =
      absurd (refused NotText text (followed NotText text cause))
  run_out Syntax (text, cause, appends, finished) =
      absurd (refused Syntax text (followed Syntax text cause))
  run_out Scope (text, cause, appends, finished) =
      absurd (refused Scope text (followed Scope text cause))
  run_out Limit (text, cause, appends, finished) =
      absurd (refused Limit text (followed Limit text cause))
