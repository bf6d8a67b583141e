-- A check of a certificate whose table is closed, in which nothing fails, is complete.
use Rattle.std.proofs.Common.{◌≡◌, ◌<◌, ℕ, List, Option, length, refl, subst, inl, inr, arith}
use Rattle.ja_base.specs.Streams.{IsLonger, Took}
use Rattle.ja_lex.specs.Spots.{max_bytes}
use Rattle.ja_words.specs.declared.command.Command.TheVariants as command
use Rattle.ja_top.specs.Answers.{AnswersBytes, Call, IsAnswered, Written}
use Rattle.ja_top.specs.Checks.{Checks}
use Rattle.ja_top.specs.Complete.{IsComplete}
use Rattle.ja_top.specs.declared.status.Status.{Status}
use Rattle.ja_top.specs.declared.status.Status.TheVariants.{Done, Warned, Usage, ReadFault, WriteFault, TooLong, NotText, Syntax, Scope, Limit, Spent, CertRefused, DeviceFault, Left, Uncaught, StepsSpent, Memory}
use Rattle.ja_cert_laws.specs.Complete.{HasClosed}
use Rattle.ja_cert_laws.proofs.ClosedCertificates.{refused}
use Rattle.ja_cert_laws.proofs.Piped.{followed}

module _ (c : Call) (w : Written) (all : HasClosed c w) where
  -- what is answered is answered to the bytes that are held
  checks : (status : Status) (text : List ℕ) → AnswersBytes c status text
      → Checks all.bytes status text
  checks status text h =
      let f = followed c command.Check status text all.asks h in
      let same : f.0 ≡ all.bytes =
      subst (λ (o : Option (List ℕ)). Took o f.0) all.held f.1.took in
      subst (λ b. Checks b status text) same f.2.0

  too_long : IsLonger max_bytes c.left → ⊥
  too_long longer =
      let more : max_bytes < length all.bytes =
      subst (λ (o : Option (List ℕ)). IsLonger max_bytes o) all.held longer in
      absurd (omega (arith, more, all.within))

  pub check_complete : (status : Status) → IsAnswered c w status → IsComplete status
  check_complete Done h = inl refl
  check_complete Warned h = inr (inl refl)
  check_complete Memory h = inr (inr refl)
  check_complete Usage (text, cause, appends, finished) =
      absurd (cause.0 (command.Check, all.asks))
  check_complete ReadFault (text, cause, appends, finished) =
      absurd (all.faultless.reads cause.1)
  check_complete WriteFault h = absurd (all.faultless.writes h.0)
  check_complete TooLong (text, cause, appends, finished) = absurd (too_long cause.1)
  check_complete NotText (text, cause, appends, finished) =
      absurd ((checks NotText text cause).0 all.utf8)
  check_complete CertRefused (text, cause, appends, finished) =
      absurd (refused all.bytes all.certificate all.is all.closed text
      (checks CertRefused text cause).1)
  check_complete Syntax (text, cause, appends, finished) = absurd (checks Syntax text cause)
  check_complete Scope (text, cause, appends, finished) = absurd (checks Scope text cause)
  check_complete Limit (text, cause, appends, finished) = absurd (checks Limit text cause)
  check_complete Spent (text, cause, appends, finished) = absurd (checks Spent text cause)
  check_complete DeviceFault (text, cause, appends, finished) =
      absurd (checks DeviceFault text cause)
  check_complete Left (text, cause, appends, finished) = absurd (checks Left text cause)
  check_complete Uncaught (text, cause, appends, finished) = absurd (checks Uncaught text cause)
  check_complete StepsSpent (text, cause, appends, finished) =
      absurd (checks StepsSpent text cause)
