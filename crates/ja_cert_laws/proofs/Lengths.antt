-- JSON has at least as many bytes as a list in it has elements, so a certificate has no more visits
-- than bytes.
use Rattle.std.proofs.Common.{◌≤◌, ℕ, Bool, true, false, List, [], ◌∷◌, ◌++◌, map, length, arith}
use Rattle.std.specs.String.{string_bytes}
use Rattle.std.proofs.lemmas.List.{length-append, length-map}
use lib.Chars.{codes}
use Rattle.json.specs.Print.{quoted}
use Rattle.serde_json.specs.Data.{Data, Members, array, member, no_members, object, string}
use Rattle.serde_json.specs.View.{items_of}
use Rattle.serde_json.specs.Written.{comma_if, compact_text, items_text, members_text}
use Rattle.ja_graph.specs.declared.program.Program.{Program}
use Rattle.ja_rows.specs.declared.table.Item.{Item}
use Rattle.ja_rows.specs.Listed.{contexts_of, edges_of}
use Rattle.ja_rows.specs.Table.{Table}
use Rattle.ja_cert.specs.Certificate.{certificate_data, certificate_text, context_data, device_data, edge_data, item_data, listed, whole}

-- what stands in a text, with something before and behind it
within : (n : ℕ) (before text behind : List ℕ) → n ≤ length text
    → n ≤ length (before ++ (text ++ behind))
within n before text behind le =
    omega (arith, le, length-append before (text ++ behind), length-append text behind)

after : (n : ℕ) (before text : List ℕ) → n ≤ length text → n ≤ length (before ++ text)
after n before text le = omega (arith, le, length-append before text)

later_long : (ds : List Data) → length ds ≤ length (items_text true (items_of ds))
later_long [] = omega arith
later_long (d ∷ ds) =
    omega (
      arith,
      later_long ds,
      length-append (compact_text d) (items_text true (items_of ds)),
    )

pub list_long : (ds : List Data) → length ds ≤ length (compact_text (array (items_of ds)))
list_long [] = omega arith
list_long (d ∷ ds) =
    omega (
      arith,
      later_long ds,
      length-append (compact_text d) (items_text true (items_of ds)),
    )

module _ (n : ℕ) (later : Bool) (k : List ℕ) (d : Data) (ms : Members) where
  pub member_long : n ≤ length (compact_text d) → n ≤ length (members_text later (member k d ms))
  member_long le =
      after n (comma_if later) _ (after n (quoted k) _
      (within n (58 ∷ []) (compact_text d) (members_text true ms) le))

  pub members_long : n ≤ length (members_text true ms)
      → n ≤ length (members_text later (member k d ms))
  members_long le =
      after n (comma_if later) _ (after n (quoted k) _
      (after n (58 ∷ compact_text d) (members_text true ms) le))

module _ (p : Program) (t : Table) (visits : List Item) where
  abbrev visits_on : Members
  visits_on = member (codes "visits") (listed (map item_data visits)) no_members

  abbrev version_on : Members
  version_on = member (codes "version") (whole 1) visits_on

  abbrev text_on : Members
  text_on = member (codes "text") (string (string_bytes p.text)) version_on

  abbrev edges_on : Members
  edges_on = member (codes "edges") (listed (map edge_data (edges_of p t))) text_on

  abbrev devices_on : Members
  devices_on = member (codes "devices") (listed (map device_data p.signatures)) edges_on

  abbrev contexts : Data
  contexts = listed (map (context_data p t) (contexts_of p t))

  pub visits_within : length visits ≤ length (certificate_text p t visits)
  unfolding certificate_data
  visits_within =
      let n : ℕ = length visits in
      let all : n ≤ length (compact_text (listed (map item_data visits))) =
      omega (arith, list_long (map item_data visits), length-map visits item_data) in
      let inner : n ≤ length (members_text false (member (codes "contexts") contexts devices_on)) =
      members_long n false (codes "contexts") contexts devices_on
      (members_long n true (codes "devices") (listed (map device_data p.signatures)) edges_on
      (members_long n true (codes "edges") (listed (map edge_data (edges_of p t))) text_on
      (members_long n true (codes "text") (string (string_bytes p.text)) version_on
      (members_long n true (codes "version") (whole 1) visits_on
      (member_long n true (codes "visits") (listed (map item_data visits)) no_members all))))) in
      within n [] (compact_text (object (member (codes "contexts") contexts devices_on)))
      (codes "\n") (after n (123 ∷ []) (members_text false (member (codes "contexts") contexts
      devices_on)) inner)
