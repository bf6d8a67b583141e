-- Members of lists and objects that are written so, and what isn't wrong of each.
use Rattle.std.proofs.Common.{◌≡◌, List, [], ◌∷◌, ◌++◌, None, refl, sym, ap, ◌∙◌}
use Rattle.std.specs.List.{AllByRecursion}
use Rattle.serde_json.specs.Data.{Data, null, boolean, number, string, array, object, Members, no_members, member}
use Rattle.ja_cert.specs.Certificate.{listed}
use Rattle.ja_cert.specs.Wrong.{MemberWrong, list_in, list_wrong, members_wrong}
use Rattle.ja_cert_read.proofs.Orders.{members_parts}

-- ---- lists

abbrev pub data_in : Data → List Data
data_in null = []
data_in (boolean b) = []
data_in (number n) = []
data_in (string s) = []
data_in (array ds) = list_in ds
data_in (object ms) = []

pub list_is : (ds : List Data) → data_in (listed ds) ≡ ds
list_is [] = refl
list_is (d ∷ ds) = ap (λ es. d ∷ es) (list_is ds)

pub list_same : (ds es : List Data) → listed ds ≡ listed es → ds ≡ es
list_same ds es e = sym (list_is ds) ∙ ap data_in e ∙ list_is es

-- ---- objects

abbrev members_data : Members → List Data
members_data no_members = []
members_data (member k d ms) = d ∷ members_data ms

abbrev pub fields_in : Data → List Data
fields_in null = []
fields_in (boolean b) = []
fields_in (number n) = []
fields_in (string s) = []
fields_in (array ds) = []
fields_in (object ms) = members_data ms

-- ---- what isn't wrong

members_all : (f : MemberWrong) (P : Data → Type 0)
    → ((before : List Data) (d : Data) → f before d ≡ None → P d) → (before ds : List Data)
    → members_wrong f before ds ≡ None → AllByRecursion P ds
members_all f P into before [] h = tt
members_all f P into before (d ∷ ds) h =
    let parts = members_parts f before d ds h in
    (into before d parts.0, members_all f P into (before ++ d ∷ []) ds parts.1)

pub right_each : (f : MemberWrong) (P : Data → Type 0)
    → ((before : List Data) (d : Data) → f before d ≡ None → P d) → (ds : List Data)
    → list_wrong f (listed ds) ≡ None → AllByRecursion P ds
right_each f P into ds h =
    members_all f P into [] ds (sym (ap (members_wrong f []) (list_is ds)) ∙ h)
