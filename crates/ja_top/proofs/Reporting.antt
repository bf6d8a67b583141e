-- What the statuses of an answer say.
use Rattle.std.specs.Prelude.{◌≡◌, Bool, if◌then◌else◌, IfOk, List, ℕ, Result, Ok, Err, Some, true, false}
use Rattle.ja_base.specs.declared.ids.Memory.{Memory as NoMemory}
use Rattle.std.proofs.Common.{◌∙◌, ap, refl, sym, subst, inl, inr}
use Rattle.ja_graph.specs.declared.program.Program.{Program}
use Rattle.ja_grammar.specs.declared.fault.ParseFault.TheVariants as parse_fault
use Rattle.ja_load.specs.declared.fault.LoadFault.{LoadFault}
use Rattle.ja_load.specs.declared.fault.LoadFault.TheVariants as fault
use Rattle.ja_rows.specs.declared.table.Warning.{Warning}
use Rattle.ja_prim.specs.declared.signature.Signature.{Signature}
use Rattle.ja_report.specs.Refusals.{refusal_text}
use Rattle.ja_report.specs.declared.refusals.Refusal.{Refusal}
use Rattle.ja_report.specs.declared.refusals.Refusal.TheVariants as refusal
use Rattle.ja_top.specs.declared.answer.Answer.{Answer}
use Rattle.ja_top.specs.declared.request.Request.{Request}
use Rattle.ja_top.specs.declared.status.Status.{Status}
use Rattle.ja_top.specs.declared.status.Status.TheVariants.{Done, Warned, Usage, ReadFault}
use Rattle.ja_top.specs.declared.status.Status.TheVariants.{WriteFault, TooLong, NotText, Syntax}
use Rattle.ja_top.specs.declared.status.Status.TheVariants.{Scope, Limit, Spent, CertRefused, DeviceFault, Left}
use Rattle.ja_top.specs.declared.status.Status.TheVariants.{Uncaught, StepsSpent, Memory}
use Rattle.ja_load.specs.Loading.{IsProgramOf, HasNone}
use Rattle.ja_top.specs.Analyses.{IsAnalysed, Reports, Refuses, Analyses}
use Rattle.ja_top.specs.Answers.{Call, AnswersBytes, Asks, Follows, HasCause, IsGiven, IsInput, IsReading, request_of, summing}
use Rattle.ja_top.specs.Checks.{Checks}
use Rattle.ja_top.specs.Answers.{Written, IsAnswered}
use Rattle.ja_top.specs.Runs.{Runs, signatures_of}
use Rattle.ja_top.specs.Statuses.{has_fault, refusal_of}
use Rattle.ja_top.specs.code.Solutions.{IsRefusal}
use Rattle.ja_top.specs.code.Statuses.{status_of, status_of_refusal}
use Rattle.ja_base.specs.Streams.{Appends, TurnsTo}
use Rattle.ja_device.specs.Devices.{AllSeen}
use Rattle.ja_words.specs.declared.command.Budget.{Budget}
use Rattle.ja_words.specs.declared.command.Command.{Command}
use Rattle.ja_words.specs.declared.command.Command.TheVariants as command

-- what has one of two statuses by its warnings has that of these warnings
pub by_faults : (Says : Status → Type 0) (ws : List Warning) → (has_fault ws ≡ false → Says Done)
    → (has_fault ws ≡ true → Says Warned) → Says (status_of ws)
by_faults Says ws done warned = by (has_fault ws) refl
  where
    by : (b : Bool) → has_fault ws ≡ b → Says (if b then Warned else Done)
    by true is = warned is
    by false is = done is

-- an analysis with its warnings is reported under the status of these
pub reports : (request : Request) (p : Program) (text : List ℕ) (ws : List Warning)
    → IsAnalysed request p text ws → Reports request p (status_of ws) text
reports request p text ws h =
    by_faults (λ status. Reports request p status text) ws (λ none. (ws, none, h))
    (λ some. (ws, some, h))

-- a report on the program of a text is an analysis of the text
pub analyses : (request : Request) (bytes : List ℕ) (signatures : List Signature) (p : Program)
    (status : Status) (text : List ℕ) → IsProgramOf bytes signatures p
    → Reports request p status text → Analyses request bytes signatures status text
analyses request bytes signatures p status text of h = inl (p, of, h)

module _ (r : Refusal) (a : Answer) (is : IsRefusal a r) (bytes : List ℕ)
    (signatures : List Signature) where
  abbrev Told : Status → Type 0
  Told status = Refuses bytes signatures status a.text.items

  -- where it is this refusal, its status and its text are those of this one
  of_status : (s : Refusal) → r ≡ s → Told (status_of_refusal s) → Told a.status
  of_status s same h = subst Told (sym (is.status_is ∙ ap status_of_refusal same)) h

  of_text : (s : Refusal) → r ≡ s → a.text.items ≡ refusal_text s
  of_text s same = is.text_is ∙ ap refusal_text same

  -- the refusal of a text that has no program says why it has none
  pub refuses : (f : LoadFault) → refusal_of f ≡ Some r → HasNone bytes signatures f
      → Refuses bytes signatures a.status a.text.items
  refuses (fault.Parse (parse_fault.Syntax place)) of h =
      let same : r ≡ refusal.Syntax place = cc of in
      of_status (refusal.Syntax place) same (place, h, of_text (refusal.Syntax place) same)
  refuses (fault.Parse (parse_fault.Scope kind place)) of h =
      let same : r ≡ refusal.Scope kind place = cc of in
      of_status (refusal.Scope kind place) same
      (kind, place, h, of_text (refusal.Scope kind place) same)
  refuses (fault.Parse (parse_fault.Depth place)) of h =
      let same : r ≡ refusal.Depth = cc of in
      of_status refusal.Depth same (inl (place, h, of_text refusal.Depth same))
  refuses (fault.Parse parse_fault.Memory) of h = absurd (cc of)
  refuses fault.Functions of h =
      let same : r ≡ refusal.Functions = cc of in
      of_status refusal.Functions same (inr (inl (h, of_text refusal.Functions same)))
  refuses fault.Nodes of h =
      let same : r ≡ refusal.Nodes = cc of in
      of_status refusal.Nodes same (inr (inr (h, of_text refusal.Nodes same)))
  refuses fault.Names of h = absurd (cc of)

-- an analysis as the words ask for it
module _ (asked : Command) (cert : Bool) (budget : Budget) (request : Request) (bytes : List ℕ)
    (before after : AllSeen) where
  pub analysed : (r : Result Answer NoMemory) → asked ≡ command.Analyse cert budget
      → request ≡ request_of cert budget → after ≡ before
      → IfOk r (λ (a : Answer). Analyses request bytes (signatures_of before) a.status a.text.items)
      → IfOk r (λ (a : Answer). Follows asked bytes before after a.status a.text.items)
  analysed (Ok a) is same stands h =
      subst (λ c. Follows c bytes before after a.status a.text.items) (sym is)
      (subst (λ q. Analyses q bytes (signatures_of before) a.status a.text.items) same h, stands)
  analysed (Err e) is same stands h = h

-- a status that no command comes to
module _ (status : Status)
    (report : (request : Request) (p : Program) (text : List ℕ) → Reports request p status text → ⊥)
    (refusal : (bytes : List ℕ) (signatures : List Signature) (text : List ℕ)
    → Refuses bytes signatures status text → ⊥)
    (checked : (bytes text : List ℕ) → Checks bytes status text → ⊥)
    (run : (bytes : List ℕ) (steps : ℕ) (before after : AllSeen) (text : List ℕ)
    → Runs bytes steps before after status text → ⊥) where
  unanalysed : (request : Request) (bytes : List ℕ) (signatures : List Signature) (text : List ℕ)
      → Analyses request bytes signatures status text → ⊥
  unanalysed request bytes signatures text h =
      elim h [
        | inl r ↦ report request r.0 text r.2
        | inr r ↦ refusal bytes signatures text r
      ]

  unfollowed : (asked : Command) (bytes : List ℕ) (before after : AllSeen) (text : List ℕ)
      → Follows asked bytes before after status text → ⊥
  unfollowed (command.Analyse cert budget) bytes before after text h =
      unanalysed (request_of cert budget) bytes (signatures_of before) text h.0
  unfollowed command.Check bytes before after text h = checked bytes text h.0
  unfollowed (command.Run steps) bytes before after text h = run bytes steps before after text h
  unfollowed (command.Generate number) bytes before after text h =
      unanalysed (summing number) bytes (signatures_of before) text h.0

  never : (c : Call) (text : List ℕ) → AnswersBytes c status text → ⊥
  never c text h = unfollowed h.0 h.2.0 c.devices c.devices_after text h.2.2

-- what is answered to the bytes that were read has its cause
caused : (c : Call) (status : Status) (text : List ℕ) → AnswersBytes c status text
    → HasCause c status text
caused c Done text h = h
caused c Warned text h = h
caused c NotText text h = h
caused c Syntax text h = h
caused c Scope text h = h
caused c Limit text h = h
caused c Spent text h = h
caused c CertRefused text h = h
caused c DeviceFault text h = h
caused c Left text h = h
caused c Uncaught text h = h
caused c StepsSpent text h = h
caused c Usage text h =
    absurd (never Usage (λ q p t b. b) (λ s n t b. b) (λ s t b. b) (λ s n d e t b. b) c text h)
caused c ReadFault text h =
    absurd (never ReadFault (λ q p t b. b) (λ s n t b. b) (λ s t b. b) (λ s n d e t b. b) c text h)
caused c WriteFault text h =
    absurd (never WriteFault (λ q p t b. b) (λ s n t b. b) (λ s t b. b) (λ s n d e t b. b) c text h)
caused c TooLong text h =
    absurd (never TooLong (λ q p t b. b) (λ s n t b. b) (λ s t b. b) (λ s n d e t b. b) c text h)
caused c Memory text h =
    absurd (never Memory (λ q p t b. b) (λ s n t b. b) (λ s t b. b) (λ s n d e t b. b) c text h)

-- .. of the command that the words ask for
pub answers : (c : Call) (bytes : List ℕ) (asked : Command) (status : Status) (text : List ℕ)
    → Asks c.words asked → IsGiven asked c bytes
    → Follows asked bytes c.devices c.devices_after status text → HasCause c status text
answers c bytes asked status text asks given h =
    caused c status text (asked, asks, (bytes, given, h))

-- a command that reads is given what was read
pub given : (c : Call) (bytes : List ℕ) (asked : Command) → IsReading asked → IsInput c bytes
    → IsGiven asked c bytes
given c bytes (command.Analyse cert budget) reading input = input
given c bytes command.Check reading input = input
given c bytes (command.Run steps) reading input = input
given c bytes (command.Generate number) reading input = absurd reading

-- an answer with its cause that was written is answered
pub answered : (c : Call) (w : Written) (status : Status) (text : List ℕ) → HasCause c status text
    → Appends w.written w.written_after text → TurnsTo w.finished w.finished_after true
    → IsAnswered c w status
answered c w Done text h a f = (text, h, a, f)
answered c w Warned text h a f = (text, h, a, f)
answered c w Usage text h a f = (text, h, a, f)
answered c w ReadFault text h a f = (text, h, a, f)
answered c w TooLong text h a f = (text, h, a, f)
answered c w Spent text h a f = (text, h, a, f)
answered c w NotText text h a f = (text, h, a, f)
answered c w Syntax text h a f = (text, h, a, f)
answered c w Scope text h a f = (text, h, a, f)
answered c w Limit text h a f = (text, h, a, f)
answered c w CertRefused text h a f = (text, h, a, f)
answered c w DeviceFault text h a f = (text, h, a, f)
answered c w Left text h a f = (text, h, a, f)
answered c w Uncaught text h a f = (text, h, a, f)
answered c w StepsSpent text h a f = (text, h, a, f)
answered c w WriteFault text h a f = absurd h
answered c w Memory text h a f = absurd h
