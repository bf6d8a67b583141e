-- What `check` answers to what `analyse --cert` wrote is what `analyse` answers.
use Rattle.std.proofs.Common.{◌≡◌, ◌≤◌, ℕ, true, false, List, [], ◌++◌, map, length, Option, Some, refl, sym, ap, subst, ◌∙◌, inl, inr, arith}
use Rattle.std.specs.Prelude.{◌⊎◌, ◌↔◌, String, if◌then◌else◌}
use Rattle.std.specs.Global.{Vec}
use Rattle.std.specs.Option.{option_map}
use Rattle.std.specs.String.{string_bytes}
use Rattle.std.specs.declared.alloc.Global.{Global}
use Rattle.ja_base.specs.Streams.{Appends, IsLonger, Took, TurnsTo}
use Rattle.ja_device.specs.Signatures.{AreSignatures}
use Rattle.ja_graph.specs.declared.program.Program.{Program}
use Rattle.ja_lex.specs.Spots.{max_bytes}
use Rattle.ja_load.specs.Loading.{program_of, IsProgramOf}
use Rattle.ja_prim.specs.declared.signature.Signature.{Signature}
use Rattle.ja_rows.specs.declared.table.Item.{Item}
use Rattle.ja_rows.specs.declared.table.Warning.{Warning}
use Rattle.ja_table.specs.Tables.{table_of}
use Rattle.ja_cert_read.specs.declared.certificate.Certificate.{Certificate}
use Rattle.ja_words.specs.declared.command.Budget.{Budget}
use Rattle.ja_words.specs.declared.command.Command.{Command}
use Rattle.ja_words.specs.declared.command.Command.TheVariants as command
use Rattle.ja_words.proofs.Given.{one_command}
use Rattle.ja_top.specs.Analyses.{Analyses, IsAnalysed, Reports}
use Rattle.ja_top.specs.Answers.{request_of, AnswersBytes, Asks, Call, Follows, IsAnswered, IsGiven, IsInput, Written}
use Rattle.ja_top.specs.Checks.{Checks}
use Rattle.ja_top.specs.Runs.{signatures_of}
use Rattle.ja_top.specs.Statuses.{has_fault}
use Rattle.ja_top.specs.declared.status.Status.{Status}
use Rattle.ja_top.specs.declared.status.Status.TheVariants.{Done, Warned, Usage, ReadFault, WriteFault, TooLong, NotText, Syntax, Scope, Limit, Spent, CertRefused, DeviceFault, Left, Uncaught, StepsSpent, Memory}
use Rattle.ja_top.proofs.Reporting.{by_faults}
use Rattle.ja_cert_laws.specs.Accepted.{asking, HasReport, IsLost, IsPassedOn, IsReported}
use Rattle.ja_cert_laws.specs.Back.{IsSolved}
use Rattle.ja_cert_laws.proofs.Accepted.{checked_is_reported, reported_is_checked}
use Rattle.ja_cert_laws.proofs.Lengths.{visits_within}

-- the status by warnings
abbrev judged : List Warning → Status
judged ws = if has_fault ws then Warned else Done

-- ---- of a text

module _ (bytes : List ℕ) (signatures : List Signature) (p : Program) (budget : Budget)
    (certificate : List ℕ) (ws : List Warning)
    (a : IsAnalysed (request_of true budget) p certificate ws) (short : length bytes ≤ max_bytes)
    (fits : length certificate ≤ max_bytes) (devices : AreSignatures signatures)
    (of : IsProgramOf bytes signatures p) where
  -- no more visits than bytes: so there is a certificate with them
  few : length a.visits ≤ max_bytes
  few =
      omega (
        arith,
        visits_within p (table_of a.table) a.visits,
        ap length (sym a.printed),
        fits,
      )

  abbrev listed : Vec Item
  listed = record {
    ptr = a.table.contexts.ptr;
    len = length a.visits;
    cap = length a.visits;
    alloc = a.table.contexts.alloc;
    items = a.visits;
    ok = (refl, omega arith);
    small = omega (arith, few);
  }

  abbrev c : Certificate
  c = record { program = p; table = a.table; visits = listed }

  signatures_are : p.signatures ≡ signatures
  unfolding program_of
  signatures_are = ap (λ (q : Program). q.signatures) of.program

  solved : IsSolved c
  solved = record {
    loaded = record {
      program = subst (λ ss. IsProgramOf (string_bytes p.text) ss p) (sym signatures_are)
          (subst (λ b. IsProgramOf b signatures p) (sym of.keeps) of);
      well_formed = a.formed;
      text = subst (λ b. length b ≤ max_bytes) (sym of.keeps) short;
      devices = subst AreSignatures (sym signatures_are) devices;
    };
    fits = a.fits;
    built = a.built;
  }

  pub checked_exactly : (status : Status) (text : List ℕ) → (Checks certificate status text
      ↔ IsReported p (table_of a.table) a.visits ws status text)
  checked_exactly status text = (
    λ k. checked_is_reported c solved ws a.sound status text
        (subst (λ b. Checks b status text) a.printed k),
    λ k. subst (λ b. Checks b status text) (sym a.printed)
        (reported_is_checked c solved ws a.sound status text k),
  )

  -- the same without the certificate
  plainly : (text : List ℕ) → IsReported p (table_of a.table) a.visits ws (judged ws) text
      → Reports (request_of false budget) p (judged ws) text
  plainly text k =
      let plain : IsAnalysed (request_of false budget) p text ws = record {
        formed = a.formed;
        table = a.table;
        fits = a.fits;
        visits = a.visits;
        printed = k.text_is;
        built = a.built;
        few = a.few;
        sound = a.sound;
      } in
      by_faults (λ s. Reports (request_of false budget) p s text) ws (λ none. (ws, none, plain))
      (λ some. (ws, some, plain))

  -- what is checked is analysed so
  pub analysed_so : (status : Status) (text : List ℕ) → Checks certificate status text
      → (status ≡ judged ws) × Analyses (request_of false budget) bytes signatures (judged ws) text
  analysed_so status text checked =
      let k = (checked_exactly status text).0 checked in (
        k.status_is,
        inl (p, of, plainly text (record { status_is = refl; text_is = k.text_is })),
      )

-- ---- of two calls

-- what `check` says of a certificate that was written with this status
abbrev Answers : Budget → List ℕ → List Signature → Status → List ℕ → Type 0
Answers budget bytes signatures s certificate =
    length certificate ≤ max_bytes → (r : Status) (text : List ℕ) → Checks certificate r text
    → (r ≡ s) × Analyses (request_of false budget) bytes signatures s text

module _ (budget : Budget) (bytes : List ℕ) (signatures : List Signature) (certificate : List ℕ)
    (short : length bytes ≤ max_bytes) (devices : AreSignatures signatures) where
  by_warnings : (s : Status) (p : Program) (ws : List Warning) → judged ws ≡ s
      → IsProgramOf bytes signatures p → IsAnalysed (request_of true budget) p certificate ws
      → Answers budget bytes signatures s certificate
  by_warnings s p ws same of a fits r text checked =
      let so = analysed_so bytes signatures p budget certificate ws a short fits devices of r text
      checked in
      let Says : Status → Type 0 =
      λ q. Analyses (request_of false budget) bytes signatures q text in
      (so.0 ∙ same, subst Says same so.1)

  answers : (s : Status) → HasReport s
      → Analyses (request_of true budget) bytes signatures s certificate
      → Answers budget bytes signatures s certificate
  answers Done has (inl (p, of, (ws, none, a))) =
      by_warnings Done p ws (ap (λ b. if b then Warned else Done) none) of a
  answers Done has (inr refused) = absurd refused
  answers Warned has (inl (p, of, (ws, some, a))) =
      by_warnings Warned p ws (ap (λ b. if b then Warned else Done) some) of a
  answers Warned has (inr refused) = absurd refused
  answers s has analysed = absurd has

-- the words ask for this command, so it is the one that is followed
pub followed : (c : Call) (asked : Command) (s : Status) (text : List ℕ) → Asks c.words asked
    → AnswersBytes c s text
    → (bytes : List ℕ) × IsGiven asked c bytes
    × Follows asked bytes c.devices c.devices_after s text
followed c asked s text asks h =
    subst (λ (other : Command). (bytes : List ℕ) × IsGiven other c bytes
    × Follows other bytes c.devices c.devices_after s text)
    (one_command (map string_bytes c.words) h.0 asked h.1 asks) h.2

-- what was written to an empty sink
all_written : (w : Written) (text : List ℕ) → w.written ≡ Some []
    → Appends w.written w.written_after text → w.written_after ≡ Some text
all_written w text empty appends =
    appends ∙ ap (option_map (λ (before : List ℕ). before ++ text)) empty

module _ (c d : Call) (w v : Written) (words : List (String Global)) (budget : Budget)
    (devices : AreSignatures (signatures_of c.devices))
    (certifies : Asks c.words (command.Analyse true budget)) (checks : Asks d.words command.Check)
    (plain : Asks words (command.Analyse false budget)) (passed : IsPassedOn w d) where
  -- the first call wrote this certificate of these bytes
  record Wrote (s : Status) : Type 0 where
    bytes : List ℕ
    input : IsInput c bytes
    certificate : List ℕ
    is : w.written_after ≡ Some certificate
    stands : c.devices_after ≡ c.devices
    answers_so : Answers budget bytes (signatures_of c.devices) s certificate

  wrote_bytes : (s : Status) (text : List ℕ) → HasReport s → AnswersBytes c s text
      → Appends w.written w.written_after text → Wrote s
  wrote_bytes s text has h appends =
      let f = followed c (command.Analyse true budget) s text certifies h in
      record {
        bytes = f.0;
        input = f.1;
        certificate = text;
        is = all_written w text passed.empty appends;
        stands = f.2.1;
        answers_so = answers budget f.0 (signatures_of c.devices) text f.1.within devices s has
            f.2.0;
      }

  wrote : (s : Status) → HasReport s → IsAnswered c w s → Wrote s
  wrote Done has (text, cause, appends, finished) = wrote_bytes Done text has cause appends
  wrote Warned has (text, cause, appends, finished) = wrote_bytes Warned text has cause appends
  wrote s has answered = absurd has

  abbrev e : Call
  e = asking words c

  -- the cause of the second call's answer is one of the first call's with the other words
  module _ (s : Status) (has : HasReport s) (first : Wrote s) where
    second : (r : Status) (text : List ℕ) → AnswersBytes d r text
        → (r ≡ s) × AnswersBytes e s text
    second r text h =
        let f = followed d command.Check r text checks h in
        let same : f.0 ≡ first.certificate = left_is f.0 d.left (passed.left ∙ first.is) f.1.took in
        let so = first.answers_so (subst (λ b. length b ≤ max_bytes) same f.1.within) r text
        (subst (λ b. Checks b r text) same f.2.0) in (
          so.0,
          (
            command.Analyse false budget,
            plain,
            (
              first.bytes,
              record {
                took = first.input.took;
                end = first.input.end;
                within = first.input.within;
              },
              (so.1, first.stands),
            ),
          ),
        )
      where
        left_is : (bytes : List ℕ) (left : Option (List ℕ)) → left ≡ Some first.certificate
            → Took left bytes → bytes ≡ first.certificate
        left_is bytes left is took = subst (λ o. Took o bytes) is took

    abbrev Ends : Status → Type 0
    Ends r = IsLost w r ⊎ ((r ≡ s) × IsAnswered e v r)

    -- a text was written with its cause
    with_cause : (r : Status) (text : List ℕ) → AnswersBytes d r text
        → Appends v.written v.written_after text → TurnsTo v.finished v.finished_after true
        → Ends r
    with_cause r text h appends finished =
        let so = second r text h in
        inr (
          so.0,
          subst (IsAnswered e v) (sym so.0) (is_answered s has text so.1 appends finished),
        )
      where
        is_answered : (q : Status) → HasReport q → (text : List ℕ) → AnswersBytes e q text
            → Appends v.written v.written_after text → TurnsTo v.finished v.finished_after true
            → IsAnswered e v q
        is_answered Done some text h appends finished = (text, h, appends, finished)
        is_answered Warned some text h appends finished = (text, h, appends, finished)
        is_answered q some text h appends finished = absurd some

    ends : (r : Status) → IsAnswered d v r → Ends r
    ends Usage (text, cause, appends, finished) = absurd (cause.0 (command.Check, checks))
    ends ReadFault h = inl tt
    ends WriteFault h = inl tt
    ends Memory h = inl tt
    ends TooLong (text, cause, appends, finished) =
        inl (subst (IsLonger max_bytes) passed.left cause.1)
    ends Done (text, h, appends, finished) = with_cause Done text h appends finished
    ends Warned (text, h, appends, finished) = with_cause Warned text h appends finished
    ends NotText (text, h, appends, finished) = with_cause NotText text h appends finished
    ends Syntax (text, h, appends, finished) = with_cause Syntax text h appends finished
    ends Scope (text, h, appends, finished) = with_cause Scope text h appends finished
    ends Limit (text, h, appends, finished) = with_cause Limit text h appends finished
    ends Spent (text, h, appends, finished) = with_cause Spent text h appends finished
    ends CertRefused (text, h, appends, finished) = with_cause CertRefused text h appends finished
    ends DeviceFault (text, h, appends, finished) = with_cause DeviceFault text h appends finished
    ends Left (text, h, appends, finished) = with_cause Left text h appends finished
    ends Uncaught (text, h, appends, finished) = with_cause Uncaught text h appends finished
    ends StepsSpent (text, h, appends, finished) = with_cause StepsSpent text h appends finished

  pub answered_so : (s r : Status) → IsAnswered c w s → HasReport s → IsAnswered d v r
      → IsLost w r ⊎ ((r ≡ s) × IsAnswered e v r)
  answered_so s r first has second = ends s has (wrote s has first) r second
