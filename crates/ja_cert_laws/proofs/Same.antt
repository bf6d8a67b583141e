-- Bytes are one certificate, and no fault but want of memory explains them as none: no refusal is
-- told of them.
use Rattle.std.proofs.Common.{◌≡◌, ℕ, List, [], ◌∷◌, map, get_or, Option, Some, None, refl, sym, ap, subst, ◌∙◌, inl, inr}
use Rattle.std.specs.Prelude.{IfSome, String}
use Rattle.std.specs.declared.alloc.Global.{Global}
use Rattle.std.specs.List.{AllByRecursion}
use Rattle.std.specs.Option.{option_and_then, option_map_or}
use Rattle.std.specs.String.{string_bytes}
use Rattle.std.proofs.lemmas.List.Elements.{recursion_from_All}
use Rattle.serde_json.specs.Data.{Data, null, string}
use Rattle.serde_json.specs.Find.{as_str}
use Rattle.serde_json.specs.Read.{read}
use Rattle.ja_base.proofs.Lists.{all_weaker}
use Rattle.ja_prim.specs.declared.signature.Signature.{Signature}
use Rattle.ja_graph.specs.WellFormed.{IsWellFormed}
use Rattle.ja_graph.specs.declared.program.Program.{Program}
use Rattle.ja_aheap.specs.Entries.{entries_of}
use Rattle.ja_load.specs.Loading.{IsProgramOf, HasNone}
use Rattle.ja_load.specs.declared.fault.LoadFault.{LoadFault}
use Rattle.ja_table.specs.Order.{AreContextsOrdered}
use Rattle.ja_table.specs.Tables.{find_context, no_entries, states_in, table_of, FitsContext}
use Rattle.ja_table.specs.declared.table.ATable.{ATable}
use Rattle.ja_table.specs.declared.table.CallEdge.{CallEdge}
use Rattle.ja_table.specs.declared.table.ContextTable.{ContextTable}
use Rattle.ja_table.proofs.ListedContexts.{find_kept}
use Rattle.ja_cert.specs.Certificate.{device_data, edge_data, listed, whole}
use Rattle.ja_cert.specs.Wrong.{Path, certificate_keys, members_of, wrong_before_loading, wrong_of}
use Rattle.ja_cert_laws.specs.Back.{IsWantOfMemory, SaysSame}
use Rattle.ja_cert_read.specs.Certified.{HasHead, IsCertificate, IsNoCertificate, IsWrongAt}
use Rattle.ja_cert_read.specs.code.Contexts.{own_data}
use Rattle.ja_cert_read.specs.code.Whole.{call_edge_data}
use Rattle.ja_cert_read.specs.declared.certificate.CertFault.{CertFault}
use Rattle.ja_cert_read.specs.declared.certificate.CertFault.TheVariants as fault
use Rattle.ja_cert_read.specs.declared.certificate.Certificate.{Certificate}
use Rattle.ja_cert_read.specs.Said.{said_table}
use Rattle.ja_cert_laws.proofs.Contexts.{IsContextOfProfile}
use Rattle.ja_cert_laws.proofs.Items.{devices_same, items_same}
use Rattle.ja_cert_laws.proofs.Members.{fields_in, list_same}
use Rattle.ja_cert_laws.proofs.OtherText.{fits_same, other, own_same, wrong_same}
use Rattle.ja_abstract.specs.Profile.{IsPropertyOfProfile, IsStateOfProfile}
use Rattle.ja_table.specs.Profile.{IsTableOfProfile}
use Rattle.ja_cert_laws.proofs.Programs.{none_told, only_memory}
use Rattle.ja_cert_laws.proofs.Tables.{contexts_same, edges_same, table_same, IsListed}
use Rattle.ja_cert_laws.proofs.Whole.{parts_are, parts_data}
use Rattle.ja_top.proofs.OneProgram.{program_same}
use Rattle.ja_top.specs.Checks.{IsExplained}

-- ---- contexts with numbers and texts of the profile

profile_found : (t : ATable) → IsTableOfProfile (table_of t) → (c : ContextTable)
    → find_context c.context t.contexts.items ≡ Some c → IsContextOfProfile c
profile_found t profile c found = record {
  states = λ n. subst (λ (o : Option ContextTable). IfSome (option_and_then
      (λ (d : ContextTable). states_in d.nodes.items n) o) IsStateOfProfile) found
      (profile.states c.context n);
  entries = λ l k. subst (λ (o : Option ContextTable). IfSome (option_map_or
      (λ (d : ContextTable). entries_of d.entries) o no_entries l k) IsPropertyOfProfile) found
      (profile.entries c.context l k);
}

profile_each : (t : ATable) → AreContextsOrdered t.contexts.items → IsTableOfProfile (table_of t)
    → AllByRecursion IsContextOfProfile t.contexts.items
profile_each t ordered profile =
    all_weaker (λ (c : ContextTable). find_context c.context t.contexts.items ≡ Some c)
    IsContextOfProfile (profile_found t profile) t.contexts.items
    (find_kept t.contexts.items ordered)

listed_all : (p : Program) (cs : List ContextTable) → AllByRecursion (FitsContext p) cs
    → AllByRecursion IsContextOfProfile cs → AllByRecursion (IsListed p) cs
listed_all p [] fits profile = tt
listed_all p (c ∷ cs) fits profile =
    (record { fits = fits.0; profile = profile.0 }, listed_all p cs fits.1 profile.1)

own_others : (p : Program) (s : String Global) (cs : List ContextTable)
    → map (own_data (other p s)) cs ≡ map (own_data p) cs
own_others p s [] = refl
own_others p s (c ∷ cs) =
    let rest = own_others p s cs in
    λ i. own_same p s c i ∷ rest i

-- ---- two certificates

module _ (bytes : List ℕ) (c d : Certificate) (h : IsCertificate bytes c)
    (j : IsCertificate bytes d) (profile : IsTableOfProfile (table_of c.table))
    (also : IsTableOfProfile (table_of d.table)) where
  abbrev p : Program
  p = c.program

  abbrev q : Program
  q = d.program

  abbrev moved : Program
  moved = other c.program d.program.text

  abbrev contexts_in : Certificate → List ContextTable
  contexts_in x = x.table.contexts.items

  -- the JSON is the same
  json_same : h.json ≡ j.json
  json_same =
      ap (λ (o : Option Data). option_map_or (λ (x : Data). x) o null)
      (sym h.data_is.data_is ∙ j.data_is.data_is)

  parts_of : (x : Certificate) (is : IsCertificate bytes x)
      → parts_data x.program x.table.contexts.items x.table.edges.items x.visits.items ≡ is.json
  parts_of x is = sym (parts_are x.program x.table x.visits.items is.fits) ∙ is.written_so

  data_same : parts_data p c.table.contexts.items c.table.edges.items c.visits.items
      ≡ parts_data q d.table.contexts.items d.table.edges.items d.visits.items
  data_same = parts_of c h ∙ json_same ∙ sym (parts_of d j)

  field_same : (i : ℕ) → get_or (fields_in (parts_data p c.table.contexts.items
      c.table.edges.items c.visits.items)) i null
      ≡ get_or (fields_in (parts_data q d.table.contexts.items d.table.edges.items
      d.visits.items)) i null
  field_same i = ap (λ x. get_or (fields_in x) i null) data_same

  devices : p.signatures ≡ q.signatures
  unfolding parts_data
  devices = devices_same p.signatures q.signatures (list_same _ _ (field_same 1))

  texts : string_bytes p.text ≡ string_bytes q.text
  unfolding parts_data
  texts = ap (λ x. option_map_or (λ (w : List ℕ). w) (as_str x) []) (field_same 3)

  program_is : q ≡ moved
  program_is =
      program_same (string_bytes p.text) p.signatures p q h.program
      (subst (λ ss. IsProgramOf (string_bytes p.text) ss q) (sym devices)
      (subst (λ t. IsProgramOf t q.signatures q) (sym texts) j.program))

  own_lists : map (own_data p) c.table.contexts.items ≡ map (own_data p) d.table.contexts.items
  unfolding parts_data
  own_lists =
      list_same _ _ (field_same 0)
      ∙ ap (λ (r : Program). map (own_data r) d.table.contexts.items) program_is
      ∙ own_others p q.text d.table.contexts.items

  fits_moved : AllByRecursion (FitsContext p) d.table.contexts.items
  fits_moved =
      all_weaker (FitsContext moved) (FitsContext p) (fits_same p q.text)
      d.table.contexts.items (subst (λ r. AllByRecursion (FitsContext r) d.table.contexts.items)
      program_is (recursion_from_All (FitsContext q) d.table.contexts.items j.fits.each))

  edge_lists : map (λ (e : CallEdge). e.edge) c.table.edges.items
      ≡ map (λ (e : CallEdge). e.edge) d.table.edges.items
  unfolding parts_data
  edge_lists =
      edges_same _ _ (sym (kept c.table.edges.items) ∙ list_same _ _ (field_same 2)
      ∙ kept d.table.edges.items)
    where
      kept : (es : List CallEdge) → map call_edge_data es
          ≡ map edge_data (map (λ (e : CallEdge). e.edge) es)
      kept [] = refl
      kept (e ∷ es) = ap (λ ds. edge_data e.edge ∷ ds) (kept es)

  tables_said : said_table p (table_of c.table) ≡ said_table p (table_of d.table)
  tables_said =
      table_same p c.table d.table (contexts_same p c.table.contexts.items d.table.contexts.items
      (listed_all p c.table.contexts.items
      (recursion_from_All (FitsContext p) c.table.contexts.items h.fits.each)
      (profile_each c.table h.fits.ordered profile))
      (listed_all p d.table.contexts.items fits_moved
      (profile_each d.table j.fits.ordered also)) own_lists) edge_lists

  said_moved : said_table p (table_of d.table) ≡ table_of d.table
  said_moved =
      subst (λ (r : Program). said_table r (table_of d.table) ≡ table_of d.table) program_is j.said

  pub says_same : SaysSame c d
  unfolding parts_data
  says_same = record {
    program = record { text = sym texts; others = program_is };
    table = sym said_moved ∙ sym tables_said ∙ h.said;
    visits = sym (items_same _ _ (list_same _ _ (field_same 5)));
  }

-- ---- no fault

none_is : {X : Type 0} (x : X) → None ≡ Some x → ⊥
none_is x e = cc

module _ (bytes : List ℕ) (c : Certificate) (h : IsCertificate bytes c) where
  -- the JSON of the bytes
  read_same : (d : Data) → read bytes ≡ Some d → h.json ≡ d
  read_same d is =
      ap (λ (o : Option Data). option_map_or (λ (x : Data). x) o null)
      (sym h.data_is.data_is ∙ is)

  record HasThis (text : List ℕ) (signatures : List Signature) : Type 0 where
    text_is : text ≡ string_bytes c.program.text
    signatures_are : signatures ≡ c.program.signatures

  head_is : (d : Data) (text : List ℕ) (signatures : List Signature) → read bytes ≡ Some d
      → HasHead d text signatures → HasThis text signatures
  unfolding parts_data
  head_is d text signatures is head =
      let json : parts_data c.program c.table.contexts.items c.table.edges.items c.visits.items
      ≡ d =
      sym (parts_are c.program c.table c.visits.items h.fits) ∙ h.written_so ∙ read_same d is in
      let members : Some (head.0 ∷ listed (map device_data signatures) ∷ head.1 ∷ string text
      ∷ whole 1 ∷ head.2 ∷ [])
      ≡ members_of certificate_keys (parts_data c.program c.table.contexts.items
      c.table.edges.items c.visits.items) =
      sym head.3 ∙ ap (members_of certificate_keys) (sym json) in
      let nth : ℕ → Option (List Data) → Data =
      λ i o. option_map_or (λ (ds : List Data). get_or ds i null) o null in
      record {
        text_is = ap (λ o. option_map_or (λ (w : List ℕ). w) (as_str (nth 3 o)) []) members;
        signatures_are = devices_same signatures c.program.signatures
            (list_same _ _ (ap (nth 1) members));
      }

  program_moved : (text : List ℕ) (signatures : List Signature) (r : Program)
      → HasThis text signatures → IsProgramOf text signatures r
      → r ≡ other c.program r.text
  program_moved text signatures r this is =
      program_same (string_bytes c.program.text) c.program.signatures c.program r h.program
      (subst (λ ss. IsProgramOf (string_bytes c.program.text) ss r) this.signatures_are
      (subst (λ t. IsProgramOf t signatures r) this.text_is is))

  not_wrong : (path : Path) → IsWrongAt bytes path → ⊥
  not_wrong path (inl early) =
      none_is path (sym h.data_is.right ∙ ap wrong_before_loading (read_same early.0 early.1)
      ∙ early.2)
  not_wrong path (inr late) =
      let d = late.0 in
      let r = late.2.3.0 in
      let this = head_is d late.2.0 late.2.1 late.1.data_is late.2.2 in
      let moved = program_moved late.2.0 late.2.1 r this late.2.3.1 in
      none_is path (sym h.right ∙ ap (wrong_of c.program) (read_same d late.1.data_is)
      ∙ sym (wrong_same c.program r.text d) ∙ ap (λ (x : Program). wrong_of x d) (sym moved)
      ∙ late.2.3.2)

  its_none : (f : LoadFault) → IsNoCertificate bytes (fault.Load f)
      → HasNone (string_bytes c.program.text) c.program.signatures f
  its_none f none =
      let this = head_is none.0 none.2.0 none.2.1 none.1.data_is none.2.2 in
      subst (λ ss. HasNone (string_bytes c.program.text) ss f) this.signatures_are
      (subst (λ t. HasNone t none.2.1 f) this.text_is none.2.3)

  pub not_refused : IsWellFormed c.program → (f : CertFault) → IsNoCertificate bytes f
      → IsWantOfMemory f
  not_refused formed fault.Json none = none_is h.json (sym none ∙ h.data_is.data_is)
  not_refused formed (fault.Shape item) none = not_wrong none.0 none.2
  not_refused formed (fault.Load f) none =
      only_memory (string_bytes c.program.text) c.program.signatures c.program h.program formed f
      (its_none f none)
  not_refused formed fault.Memory none = tt

  pub unexplained : (f : CertFault) (text : List ℕ) → IsNoCertificate bytes f
      → IsExplained f text → ⊥
  unexplained fault.Json text none told = none_is h.json (sym none ∙ h.data_is.data_is)
  unexplained (fault.Shape item) text none told = not_wrong none.0 none.2
  unexplained (fault.Load f) text none (r, is, told) =
      none_told (string_bytes c.program.text) c.program.signatures c.program h.program f r is
      (its_none f none)
  unexplained fault.Memory text none told = told
