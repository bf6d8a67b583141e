-- A certificate whose table is closed isn't refused.
use Rattle.std.proofs.Common.{ℕ, ◌∷◌, List, refl, subst, inl, inr}
use Rattle.std.specs.List.{AllByRecursion}
use Rattle.std.proofs.lemmas.List.Elements.{recursion_from_All}
use Rattle.ja_base.proofs.Lists.{all_right}
use Rattle.ja_graph.specs.declared.program.Program.{Program}
use Rattle.ja_rows.specs.declared.table.Item.{Item}
use Rattle.ja_rows.specs.Table.{HasOpening, IsClosed, IsItem, Table}
use Rattle.ja_table.proofs.ProfileLemmas.{table_of_profile}
use Rattle.ja_table.specs.Tables.{table_of, Fits}
use Rattle.ja_check.proofs.ItemLemmas.{all_items}
use Rattle.ja_check.proofs.Opening.{fits_opened, opening_reached}
use Rattle.ja_check.specs.Check.{items_of, IsFirstUnsettled}
use Rattle.ja_cert_read.specs.Certified.{IsCertificate}
use Rattle.ja_cert_read.specs.declared.certificate.Certificate.{Certificate}
use Rattle.ja_top.specs.Checks.{IsRefusedCertificate}
use Rattle.ja_cert_laws.specs.Back.{SaysSame}
use Rattle.ja_cert_laws.proofs.OtherSteps.{closed_same, opening_same}
use Rattle.ja_cert_laws.proofs.OtherText.{other}
use Rattle.ja_cert_laws.proofs.Same.{says_same, unexplained}

module _ (bytes : List ℕ) (c : Certificate) (is : IsCertificate bytes c) where
  -- ---- another certificate of the same bytes

  module _ (d : Certificate) (j : IsCertificate bytes d) where
    pub same : SaysSame c d
    same = says_same bytes c d is j (table_of_profile c.table) (table_of_profile d.table)

    -- what holds of it holds of the first with another text
    pub here : (P : Program → Table → List Item → Type 0)
        → P d.program (table_of d.table) d.visits.items
        → P (other c.program d.program.text) (table_of c.table) c.visits.items
    here P k =
        let moved = other c.program d.program.text in
        subst (P moved (table_of c.table)) same.visits
        (subst (λ u. P moved u d.visits.items) same.table
        (subst (λ q. P q (table_of d.table) d.visits.items) same.program.others k))

  -- ---- the table is closed

  module _ (closed : IsClosed c.program (table_of c.table)) where
    fits : Fits c.program c.table
    fits = fits_opened c.program c.table is.fits (opening_reached c.program c.table closed.opening)

    opened : (d : Certificate) → IsCertificate bytes d
        → (HasOpening d.program (table_of d.table) → ⊥) → ⊥
    opened d j none =
        here d j (λ q u items. HasOpening q u → ⊥) none
        (opening_same c.program d.program.text (table_of c.table) closed.opening)

    settled : (d : Certificate) → IsCertificate bytes d → (item : Item)
        → IsFirstUnsettled d.program (table_of d.table) item → ⊥
    settled d j item first =
        let p = c.program in
        let t = table_of c.table in
        let moved = other p d.program.text in
        let f : IsFirstUnsettled moved t item =
        here d j (λ q u items. IsFirstUnsettled q u item) first in
        let all : AllByRecursion (IsItem p t) (items_of p t) =
        recursion_from_All (IsItem p t) (items_of p t)
        (all_items p c.table fits (items_of p t) refl) in
        let listed : AllByRecursion (IsItem p t) (item ∷ f.after) =
        all_right (IsItem p t) f.before (item ∷ f.after)
        (subst (AllByRecursion (IsItem p t)) f.items_are all) in
        f.changes ((closed_same p d.program.text t closed).settled item listed.0)

    pub refused : (text : List ℕ) → IsRefusedCertificate bytes text → ⊥
    refused text (inl (f, none, told)) = unexplained bytes c is f text none told
    refused text (inr (d, j, inl (none, told))) = opened d j none
    refused text (inr (d, j, inr (item, opening, first, told))) = settled d j item first
