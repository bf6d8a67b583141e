-- An analysis with enough visits, of a text that has a program, is complete.
use Rattle.std.specs.Prelude.{◌≡◌, ◌<◌, ◌≤◌, ℕ, List, Option, length, map}
use Rattle.std.specs.String.{string_bytes}
use Rattle.std.proofs.Common.{◌∙◌, ap, refl, sym, subst, arith, inl, inr}
use Rattle.ja_base.specs.Streams.{IsLonger, Took}
use Rattle.ja_grammar.proofs.Theorem.{refused_none}
use Rattle.ja_grammar.specs.Language.{IsRefused}
use Rattle.ja_grammar.specs.declared.fault.ParseFault.{ParseFault}
use Rattle.ja_graph.specs.declared.program.Program.{Program}
use Rattle.ja_height.specs.Height.{height}
use Rattle.ja_lex.specs.Spots.{max_bytes}
use Rattle.ja_lex.specs.Tokens.{tokens}
use Rattle.ja_load.specs.Loading.{IsProgramOf, IsTextOf, names_before}
use Rattle.ja_lower.specs.Limits.{function_count, size_of}
use Rattle.ja_prim.specs.declared.signature.Signature.{Signature}
use Rattle.ja_syntax.specs.declared.tree.Statement.{Statement}
use Rattle.ja_top.specs.Analyses.{visits_of, Analyses, Refuses, Reports}
use Rattle.ja_top.specs.Answers.{AnswersBytes, Asks, Call, Follows, IsAnswered, IsGiven, IsReading, Written, request_of, summing}
use Rattle.ja_top.specs.Complete.{HasAll, HasEnough, IsComplete, IsHeld}
use Rattle.ja_top.specs.Runs.{signatures_of}
use Rattle.ja_top.specs.declared.request.Request.{Request}
use Rattle.ja_top.specs.declared.status.Status.{Status}
use Rattle.ja_top.specs.declared.status.Status.TheVariants.{Done, Warned, Usage, ReadFault}
use Rattle.ja_top.specs.declared.status.Status.TheVariants.{WriteFault, TooLong, NotText, Syntax}
use Rattle.ja_top.specs.declared.status.Status.TheVariants.{Scope, Limit, Spent, CertRefused, DeviceFault, Left}
use Rattle.ja_top.specs.declared.status.Status.TheVariants.{Uncaught, StepsSpent, Memory}
use Rattle.ja_top.proofs.Enough.{unspent}
use Rattle.ja_top.proofs.OneProgram.{one_text, program_same}
use Rattle.ja_words.specs.declared.command.Budget.{Budget}
use Rattle.ja_words.specs.declared.command.Budget.TheVariants.{Height, Visits}
use Rattle.ja_words.specs.declared.command.Command.{Command}
use Rattle.ja_words.specs.declared.command.Command.TheVariants as command
use Rattle.ja_words.proofs.Given.{one_command}

-- ---- a text that has a program isn't refused

module _ (bytes : List ℕ) (signatures : List Signature) (p : Program)
    (of : IsProgramOf bytes signatures p) where
  unrefused : (f : ParseFault) → IsRefused (tokens bytes) f → ⊥
  unrefused f h = refused_none bytes f h of.statements of.text.1

  same_tree : (xs : List Statement) → IsTextOf bytes xs → xs ≡ of.statements
  same_tree xs h = one_text bytes of.statements xs of.text h

  pub not_refused : (status : Status) (text : List ℕ) → Refuses bytes signatures status text → ⊥
  not_refused NotText text h = h.0 of.text.0
  not_refused Syntax text h = unrefused _ h.1.1
  not_refused Scope text h = unrefused _ h.2.1
  not_refused Limit text (inl h) = unrefused _ h.1.1
  not_refused Limit text (inr (inl ((xs, is, many), printed))) =
      let few = of.within.functions in
      let same : function_count xs ≡ function_count of.statements =
      ap function_count (same_tree xs is) in
      absurd (omega (arith, few, many, same))
  not_refused Limit text (inr (inr ((xs, is, fine, many), printed))) =
      let few = of.within.nodes in
      let same : size_of (names_before signatures) xs
      ≡ size_of (names_before signatures) of.statements =
      ap (size_of (names_before signatures)) (same_tree xs is) in
      absurd (omega (arith, few, many, same))
  not_refused status text h = absurd h

  -- where a budget is enough for one program of the text, it is for each: they differ only in the
  -- memory in which the text stands
  enough_for : (budget : Budget) → height p ≤ visits_of p budget → (q : Program)
      → IsProgramOf bytes signatures q → height q ≤ visits_of q budget
  enough_for Height enough q is = omega arith
  enough_for (Visits number) enough q is =
      subst (λ (r : Program). height r ≤ number) (sym (program_same bytes signatures p q of is))
      enough

-- ---- the answers of the analysis

reported : (request : Request) (p : Program) (status : Status) (text : List ℕ)
    → (status ≡ Spent → ⊥) → Reports request p status text → IsComplete status
reported request p Done text other h = inl refl
reported request p Warned text other h = inr (inl refl)
reported request p Spent text other h = absurd (other refl)
reported request p status text other h = absurd h

analysed : (request : Request) (bytes : List ℕ) (signatures : List Signature) (p : Program)
    → IsProgramOf bytes signatures p → (status : Status) (text : List ℕ) → (status ≡ Spent → ⊥)
    → Analyses request bytes signatures status text → IsComplete status
analysed request bytes signatures p of status text other (inl (q, is, h)) =
    reported request q status text other h
analysed request bytes signatures p of status text other (inr h) =
    absurd (not_refused bytes signatures p of status text h)

module _ (c : Call) (w : Written) (all : HasAll c w) where
  -- the bytes that are answered are those that are held
  given_are : (asked : Command) (bytes : List ℕ) → HasEnough asked all.program
      → IsHeld asked c all.bytes → IsGiven asked c bytes → bytes ≡ all.bytes
  given_are (command.Analyse cert budget) bytes enough held given =
      subst (λ (o : Option (List ℕ)). Took o bytes) held given.took
  given_are (command.Generate number) bytes enough held given = given.0 ∙ sym held
  given_are asked bytes enough held given = absurd enough

  its : (bytes : List ℕ) → bytes ≡ all.bytes
      → IsProgramOf bytes (signatures_of c.devices) all.program
  its bytes same =
      subst (λ b. IsProgramOf b (signatures_of c.devices) all.program) (sym same) all.is_program

  followed : (asked : Command) (bytes : List ℕ) (status : Status) (text : List ℕ)
      → HasEnough asked all.program → bytes ≡ all.bytes → (status ≡ Spent → ⊥)
      → Follows asked bytes c.devices c.devices_after status text → IsComplete status
  followed (command.Analyse cert budget) bytes status text enough same other h =
      analysed (request_of cert budget) bytes (signatures_of c.devices) all.program
      (its bytes same) status text other h.0
  followed (command.Generate number) bytes status text enough same other h =
      analysed (summing number) bytes (signatures_of c.devices) all.program
      (its bytes same) status text other h.0
  followed asked bytes status text enough same other h = absurd enough

  -- the budget isn't spent
  not_spent : (asked : Command) (bytes text : List ℕ) → HasEnough asked all.program
      → bytes ≡ all.bytes → Follows asked bytes c.devices c.devices_after Spent text → ⊥
  not_spent (command.Analyse cert budget) bytes text enough same h =
      unspent (request_of cert budget) bytes (signatures_of c.devices) text
      (enough_for bytes (signatures_of c.devices) all.program (its bytes same) budget enough) h.0
  not_spent (command.Generate number) bytes text enough same h =
      unspent (summing number) bytes (signatures_of c.devices) text (λ p of. omega arith) h.0
  not_spent asked bytes text enough same h = absurd enough

  -- the words ask for one command
  abbrev FollowsHeld : Status → List ℕ → Type 0
  FollowsHeld status text =
      (bytes : List ℕ) × (bytes ≡ all.bytes)
      × Follows all.asked bytes c.devices c.devices_after status text

  held_are : (status : Status) (text : List ℕ) → AnswersBytes c status text
      → FollowsHeld status text
  held_are status text (asked, asks, (bytes, given, h)) =
      let same : asked ≡ all.asked =
      one_command (map string_bytes c.words) asked all.asked asks all.asks in (
        bytes,
        given_are all.asked bytes all.enough all.held
            (subst (λ (a : Command). IsGiven a c bytes) same given),
        subst (λ (a : Command). Follows a bytes c.devices c.devices_after status text) same h,
      )

  answers : (status : Status) (text : List ℕ) → (status ≡ Spent → ⊥)
      → AnswersBytes c status text → IsComplete status
  answers status text other h =
      let f = held_are status text h in
      followed all.asked f.0 status text all.enough f.1 other f.2

  spent : (text : List ℕ) → AnswersBytes c Spent text → ⊥
  spent text h =
      let f = held_are Spent text h in not_spent all.asked f.0 text all.enough f.1 f.2

  -- not more bytes are left than a text may have
  unread : (asked : Command) → HasEnough asked all.program → IsReading asked
      → IsHeld asked c all.bytes → IsLonger max_bytes c.left → ⊥
  unread (command.Analyse cert budget) enough reading held longer =
      let more : max_bytes < length all.bytes =
      subst (λ (o : Option (List ℕ)). IsLonger max_bytes o) held longer in
      absurd (omega (arith, more, all.within))
  unread (command.Generate number) enough reading held longer = absurd reading
  unread asked enough reading held longer = absurd enough

  too_long : (asked : Command) → Asks c.words asked → IsReading asked
      → IsLonger max_bytes c.left → ⊥
  too_long asked asks reading longer =
      let same : asked ≡ all.asked =
      one_command (map string_bytes c.words) asked all.asked asks all.asks in
      unread all.asked all.enough (subst IsReading same reading) all.held longer

  pub complete : (status : Status) → IsAnswered c w status → IsComplete status
  complete Done h = inl refl
  complete Warned h = inr (inl refl)
  complete Memory h = inr (inr refl)
  complete Usage (text, cause, appends, finished) = absurd (cause.0 (all.asked, all.asks))
  complete ReadFault (text, cause, appends, finished) = absurd (all.faultless.reads cause.1)
  complete WriteFault h = absurd (all.faultless.writes h.0)
  complete TooLong (text, cause, appends, finished) =
      absurd (too_long cause.0.0 cause.0.1 cause.0.2 cause.1)
  complete Spent (text, cause, appends, finished) = absurd (spent text cause)
  complete NotText (text, cause, appends, finished) = answers NotText text (λ e. cc e) cause
  complete Syntax (text, cause, appends, finished) = answers Syntax text (λ e. cc e) cause
  complete Scope (text, cause, appends, finished) = answers Scope text (λ e. cc e) cause
  complete Limit (text, cause, appends, finished) = answers Limit text (λ e. cc e) cause
  complete CertRefused (text, cause, appends, finished) =
      answers CertRefused text (λ e. cc e) cause
  complete DeviceFault (text, cause, appends, finished) =
      answers DeviceFault text (λ e. cc e) cause
  complete Left (text, cause, appends, finished) = answers Left text (λ e. cc e) cause
  complete Uncaught (text, cause, appends, finished) = answers Uncaught text (λ e. cc e) cause
  complete StepsSpent (text, cause, appends, finished) =
      answers StepsSpent text (λ e. cc e) cause
