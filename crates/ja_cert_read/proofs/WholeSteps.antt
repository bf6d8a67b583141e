-- What is told where a certificate is read, one part after another.
use Rattle.std.specs.Prelude.{◌≡◌, ◌==◌, ℕ, true, false, List, [], ◌∷◌, Option, Some, None, is_some}
use Rattle.std.specs.Option.{option_map_or}
use Rattle.std.proofs.Common.{sym, ap, ◌∙◌, inl, inr}
use Rattle.std.proofs.lemmas.Bool.{eqb-true}
use lib.Chars.{codes}
use Rattle.serde_json.specs.Data.{Data}
use Rattle.serde_json.specs.Read.{read}
use Rattle.ja_cert_json.specs.View.{view}
use Rattle.ja_graph.specs.declared.program.Program.{Program}
use Rattle.ja_load.specs.Loading.{IsProgramOf}
use Rattle.ja_cert_read.specs.declared.certificate.CertFault.{CertFault}
use Rattle.ja_cert_read.specs.declared.certificate.CertFault.TheVariants as cert
use Rattle.ja_cert_parts.specs.declared.fault.Fault.{Fault}
use Rattle.ja_cert_read.specs.declared.reading.Head.{Head}
use Rattle.ja_cert.specs.Certificate.{listed, whole}
use Rattle.ja_cert_read.specs.Certified.{HasData, IsNoCertificate}
use Rattle.ja_cert.specs.Wrong.{MemberWrong, Path, certificate_keys, context_wrong, device_wrong, early_fields_wrong, edge_wrong, first_of, here, here_unless, is_text, is_version, is_word, item_wrong, late_fields_wrong, list_of, list_wrong, members_of, members_wrong, under, whole_of, wrong_before_loading, wrong_of}
use Rattle.ja_cert_parts.specs.code.Reading.{Tells}
use Rattle.ja_cert_read.specs.code.Whole.{data_in, IsHeadOf, IsToldAs, IsUnloaded, IsUnread}
use Rattle.ja_cert_read.proofs.ContextsRight.{list_right}
use Rattle.ja_cert_read.proofs.ObjectLemmas.{number_is}
use Rattle.ja_cert_read.proofs.Told.{all_right, right_found, tells_after, tells_found, tells_missing}
use Rattle.ja_cert_read.proofs.WholeRead.{head_of}
use Rattle.ja_cert_parts.proofs.ListLemmas.{list_of_listed}

-- ---- before the text is loaded

pub head_told_keys : (d : Data) (e : Fault)
    → Tells (here_unless (is_some (members_of certificate_keys d))) e
    → Tells (wrong_before_loading d) e
unfolding wrong_before_loading
head_told_keys d e told =
    tells_missing (members_of certificate_keys d) early_fields_wrong e told

module _ (d : Data) {contexts devices edges text version visits : Data}
    (found : members_of certificate_keys d ≡ Some (contexts ∷ devices ∷ edges ∷ text ∷ version
    ∷ visits ∷ [])) where
  abbrev pub version_wrong : Option Path
  version_wrong = under (codes "version") (here_unless (is_version version))

  abbrev pub text_wrong : Option Path
  text_wrong = under (codes "text") (here_unless (is_word is_text text))

  abbrev pub devices_wrong : Option Path
  devices_wrong = under (codes "devices") (list_wrong device_wrong devices)

  by_head : (e : Fault) → Tells (first_of (version_wrong ∷ text_wrong ∷ devices_wrong ∷ [])) e
      → Tells (wrong_before_loading d) e
  unfolding wrong_before_loading
  by_head e t =
      tells_found (members_of certificate_keys d)
      (contexts ∷ devices ∷ edges ∷ text ∷ version ∷ visits ∷ []) early_fields_wrong e found t

  pub head_told_version : (e : Fault) → Tells version_wrong e → Tells (wrong_before_loading d) e
  head_told_version e t =
      by_head e (tells_after [] version_wrong (text_wrong ∷ devices_wrong ∷ []) e tt t)

  pub head_told_text : (e : Fault) → version_wrong ≡ None → Tells text_wrong e
      → Tells (wrong_before_loading d) e
  head_told_text e a t =
      by_head e (tells_after (version_wrong ∷ []) text_wrong (devices_wrong ∷ []) e (a, tt) t)

  pub head_told_devices : (e : Fault) → version_wrong ≡ None → text_wrong ≡ None
      → Tells devices_wrong e → Tells (wrong_before_loading d) e
  head_told_devices e a b t =
      by_head e (tells_after (version_wrong ∷ text_wrong ∷ []) devices_wrong [] e (a, (b, tt)) t)

  pub head_right : version_wrong ≡ None → text_wrong ≡ None → devices_wrong ≡ None
      → wrong_before_loading d ≡ None
  unfolding wrong_before_loading
  head_right a b c =
      right_found (members_of certificate_keys d)
      (contexts ∷ devices ∷ edges ∷ text ∷ version ∷ visits ∷ []) early_fields_wrong found
      (all_right (version_wrong ∷ text_wrong ∷ devices_wrong ∷ []) (a, (b, (c, tt))))

  pub head_members : (other_devices other_text other_version : Data) → other_devices ≡ devices
      → other_text ≡ text → other_version ≡ version → members_of certificate_keys d
      ≡ Some (contexts ∷ other_devices ∷ edges ∷ other_text ∷ other_version ∷ visits ∷ [])
  head_members other_devices other_text other_version a b c = rw (a, b, c) found

is_one : (o : Option ℕ) → option_map_or (λ (n : ℕ). n == 1) o false ≡ true → o ≡ Some 1
is_one None h = absurd (cc)
is_one (Some n) h = ap (λ (m : ℕ). Some m) (eqb-true n 1 h)

pub version_is : (d : Data) → is_version d ≡ true → whole 1 ≡ d
version_is d h = number_is d 1 (is_one (whole_of d) h)

-- a list that is written so, of which nothing is wrong
pub listed_right : (f : MemberWrong) (d : Data) (ds : List Data) → listed ds ≡ d
    → list_wrong f d ≡ None → members_wrong f [] ds ≡ None
listed_right f d ds is h = list_right f ds (ap (list_wrong f) is ∙ h)

-- ---- with the program

module _ (p : Program) (h : Head) where
  abbrev pub contexts_wrong : Option Path
  contexts_wrong = under (codes "contexts") (list_wrong (context_wrong p) (view h.contexts.now))

  abbrev pub edges_wrong : Option Path
  edges_wrong =
      under (codes "edges")
      (option_map_or (λ (cs : List Data). list_wrong (edge_wrong p cs) (view h.edges.now))
      (list_of (view h.contexts.now)) here)

  abbrev pub visits_wrong : Option Path
  visits_wrong = under (codes "visits") (list_wrong (item_wrong p) (view h.visits.now))

  abbrev body_wrong : Option Path
  body_wrong = late_fields_wrong p (data_in h)

  pub body_told_contexts : (e : Fault) → Tells contexts_wrong e → Tells body_wrong e
  body_told_contexts e t =
      tells_after [] contexts_wrong (edges_wrong ∷ visits_wrong ∷ []) e tt t

  pub body_told_edges : (e : Fault) → contexts_wrong ≡ None → Tells edges_wrong e
      → Tells body_wrong e
  body_told_edges e a t =
      tells_after (contexts_wrong ∷ []) edges_wrong (visits_wrong ∷ []) e (a, tt) t

  pub body_told_visits : (e : Fault) → contexts_wrong ≡ None → edges_wrong ≡ None
      → Tells visits_wrong e → Tells body_wrong e
  body_told_visits e a b t =
      tells_after (contexts_wrong ∷ edges_wrong ∷ []) visits_wrong [] e (a, (b, tt)) t

  pub body_right : contexts_wrong ≡ None → edges_wrong ≡ None → visits_wrong ≡ None
      → body_wrong ≡ None
  body_right a b c =
      all_right (contexts_wrong ∷ edges_wrong ∷ visits_wrong ∷ []) (a, (b, (c, tt)))

  -- the contexts are these
  pub edges_among : (ds : List Data) → listed ds ≡ view h.contexts.now
      → edges_wrong ≡ under (codes "edges") (list_wrong (edge_wrong p ds) (view h.edges.now))
  edges_among ds is =
      ap (λ o. under (codes "edges")
      (option_map_or (λ (cs : List Data). list_wrong (edge_wrong p cs) (view h.edges.now)) o here))
      (ap list_of (sym is) ∙ list_of_listed ds)

-- ---- why bytes are none

pub unread_told : (bytes : List ℕ) (f : CertFault) → IsUnread bytes f → IsNoCertificate bytes f
unread_told bytes cert.Json h = h
unread_told bytes (cert.Shape item) h = absurd h
unread_told bytes (cert.Load f) h = absurd h
unread_told bytes cert.Memory h = tt

pub early_told : (bytes : List ℕ) (d : Data) (f : CertFault) → read bytes ≡ Some d
    → IsToldAs (wrong_before_loading d) f → IsNoCertificate bytes f
early_told bytes d cert.Json is h = absurd h
early_told bytes d (cert.Shape item) is h = (h.0, h.2, inl (d, is, h.1))
early_told bytes d (cert.Load f) is h = absurd h
early_told bytes d cert.Memory is h = tt

pub unloaded_told : (bytes : List ℕ) (d : Data) (h : Head) (f : CertFault) → HasData bytes d
    → IsHeadOf d h → IsUnloaded h.text.now h.signatures.items f → IsNoCertificate bytes f
unloaded_told bytes d h cert.Json has head none = absurd none
unloaded_told bytes d h (cert.Shape item) has head none = absurd none
unloaded_told bytes d h (cert.Load f) has head none =
    (d, has, (h.text.now, h.signatures.items, head_of d h head, none))
unloaded_told bytes d h cert.Memory has head none = tt

pub late_told : (bytes : List ℕ) (d : Data) (h : Head) (p : Program) (f : CertFault)
    → HasData bytes d → IsHeadOf d h → IsProgramOf h.text.now h.signatures.items p
    → IsToldAs (late_fields_wrong p (data_in h)) f → IsNoCertificate bytes f
unfolding wrong_of
late_told bytes d h p cert.Json has head program told = absurd told
late_told bytes d h p (cert.Shape item) has head program told =
    let wrong : wrong_of p d ≡ Some told.0 =
    ap (λ o. option_map_or (late_fields_wrong p) o here) head.members ∙ told.1 in (
      told.0,
      told.2,
      inr (
        d,
        has,
        (
          h.text.now,
          h.signatures.items,
          head_of d h head,
          (p, program, wrong),
        ),
      ),
    )
late_told bytes d h p (cert.Load f) has head program told = absurd told
late_told bytes d h p cert.Memory has head program told = tt
