-- The nodes of the built-in functions, by their listings.
use Rattle.std.proofs.Common.{◌≡◌, ℕ, ◌+◌, true, List, [], ◌∷◌, ◌++◌, map, length, refl, ap, sym, ◌∙◌}
use Rattle.std.specs.List.{flat_map, sum_by, zip}
use Rattle.std.proofs.lemmas.List.{length-map}
use Rattle.std.proofs.lemmas.List.Sums.{sum_by-cons}
use Rattle.ja_base.specs.declared.ids.Place.{Place}
use Rattle.ja_graph.specs.WellFormed.{builtin_names}
use Rattle.ja_graph.specs.declared.node.Node.{Node}
use Rattle.ja_graph.specs.declared.node.NodeInfo.{NodeInfo}
use Rattle.ja_lower_listing.specs.declared.item.Item.{Item}
use Rattle.ja_lower_listing.specs.Laws.{placed}
use Rattle.ja_lower_listing.specs.Listing.{assembled}
use Rattle.ja_lower_listing.proofs.Kept.{assembled_kept}
use Rattle.ja_lower_draft.specs.Lines.{Scene}
use Rattle.ja_lower.specs.Limits.{size_of_body}
use Rattle.ja_lower.specs.Lowering as lower
use Rattle.ja_lower.specs.Lowering.{scene_with, function_body}
use Rattle.ja_lower.specs.declared.body.Body.{Body}
use Rattle.ja_lower_names.specs.Names.{number}
use Rattle.ja_lower_names.specs.TextOrder.{functions_in, names_in}
use Rattle.ja_lower_statements.specs.Functions.{function_listing}
use Rattle.ja_syntax.specs.declared.tree.FunctionOf.{FunctionOf}
use Rattle.ja_syntax.specs.declared.tree.Name.{Name}
use Rattle.ja_syntax.specs.declared.tree.Statement.{Statement}
use Rattle.ja_prelude.proofs.Readings.{Readings, defined, computing, computing_is, functions_by, names_by, scene_by, listing_by, listing_defined}
use Rattle.ja_prelude.specs.Prelude.{prelude_statements, prelude_paths, prelude_names, prelude_bodies, nodes_of, by_path}

-- how many parameters a function has, and its nodes
pub record Row : Type 0 where
  pub parameters : ℕ
  pub nodes : List Node

abbrev pub row_of : Body → Row
row_of body = record { parameters = length body.parameters; nodes = nodes_of body }

abbrev pub row_by : Readings → Scene → FunctionOf Statement → Row
row_by r scene f =
    record {
      parameters = length f.parameters;
      nodes = map (λ (n : Node × Place). n.0) (placed (listing_by r scene f));
    }

unfoldable pub rows_by : Readings → List Row
rows_by r =
    map (row_by r (scene_by r (names_by r builtin_names prelude_statements) prelude_statements))
    (functions_by r prelude_statements)

-- the functions without their paths
abbrev pub bodies : List Body
bodies = lower.prelude_bodies prelude_names prelude_statements

map_after : {A B C : Type 0} (g : B → C) (f : A → B) (xs : List A)
    → map g (map f xs) ≡ map (λ x. g (f x)) xs
map_after g f [] = refl
map_after g f (x ∷ xs) = ap (λ ys. g (f x) ∷ ys) (map_after g f xs)

nodes_listed : (whole : List Item) → map (λ (info : NodeInfo). info.node) (assembled whole)
    ≡ map (λ (n : Node × Place). n.0) (placed whole)
nodes_listed whole =
    sym (map_after (λ (n : Node × Place). n.0) (λ (info : NodeInfo). (info.node, info.place))
    (assembled whole))
    ∙ ap (λ ns. map (λ (n : Node × Place). n.0) ns) (assembled_kept whole)

row_is : (scene : Scene) (f : FunctionOf Statement)
    → row_of (function_body scene f) ≡ row_by defined scene f
row_is scene f =
    let counted = length-map f.parameters (λ (p : Name). number scene.names p.text) in
    let listed = nodes_listed (function_listing scene f)
    ∙ ap (λ items. map (λ (n : Node × Place). n.0) (placed items))
    (sym (listing_defined scene f)) in
    λ i. record { parameters = counted i; nodes = listed i }

rows_are : (scene : Scene) (fs : List (FunctionOf Statement))
    → map row_of (map (function_body scene) fs) ≡ map (row_by defined scene) fs
rows_are scene [] = refl
rows_are scene (f ∷ fs) = λ i. row_is scene f i ∷ rows_are scene fs i

rows_defined : map row_of bodies ≡ rows_by defined
unfolding rows_by lower.prelude_bodies lower.names_of names_in functions_in
rows_defined =
    rows_are (scene_with true prelude_names prelude_statements) (functions_in prelude_statements)

pub rows_computed : map row_of bodies ≡ rows_by computing
rows_computed = rows_defined ∙ ap rows_by (sym computing_is)

-- ---- what is known of rows is known of the functions

abbrev pub size_of_row : Row → ℕ
size_of_row r = length r.nodes + r.parameters

sizes_are : (bs : List Body) → sum_by size_of_body bs ≡ sum_by size_of_row (map row_of bs)
sizes_are [] = refl
sizes_are (b ∷ bs) =
    sum_by-cons size_of_body b bs
    ∙ (λ i. (sym (length-map b.nodes (λ (info : NodeInfo). info.node)) i + length b.parameters)
    + sizes_are bs i)
    ∙ sym (sum_by-cons size_of_row (row_of b) (map row_of bs))

-- something of each row, with its path
abbrev pub by_path_of : {A : Type 0} → (List Node → List A) → List (List ℕ) → List Row
    → List (List ℕ × A)
by_path_of read paths rows =
    flat_map (λ (x : List ℕ × Row). map (λ a. (x.0, a)) (read x.1.nodes)) (zip paths rows)

by_path_is : {A : Type 0} (read : List Node → List A) (paths : List (List ℕ)) (bs : List Body)
    → by_path read (lower.at_paths paths bs) ≡ by_path_of read paths (map row_of bs)
by_path_is read [] bs = refl
by_path_is read (p ∷ ps) [] = refl
by_path_is read (p ∷ ps) (b ∷ bs) =
    ap (λ xs. map (λ a. (p, a)) (read (nodes_of b)) ++ xs) (by_path_is read ps bs)

pub by_path_computed : {A : Type 0} (read : List Node → List A)
    → by_path read prelude_bodies ≡ by_path_of read prelude_paths (rows_by computing)
unfolding prelude_bodies
by_path_computed read =
    by_path_is read prelude_paths bodies ∙ ap (λ rows. by_path_of read prelude_paths rows)
    rows_computed

pub size_computed : sum_by size_of_body bodies ≡ sum_by size_of_row (rows_by computing)
size_computed = sizes_are bodies ∙ ap (λ rows. sum_by size_of_row rows) rows_computed

parameters_are : (ps : List (List ℕ)) (bs : List Body)
    → map (λ (b : Body). length b.parameters) (lower.at_paths ps bs)
    ≡ map (λ (x : List ℕ × Row). x.1.parameters) (zip ps (map row_of bs))
parameters_are [] bs = refl
parameters_are (p ∷ ps) [] = refl
parameters_are (p ∷ ps) (b ∷ bs) = ap (λ ns. length b.parameters ∷ ns) (parameters_are ps bs)

pub parameters_computed : map (λ (b : Body). length b.parameters) prelude_bodies
    ≡ map (λ (x : List ℕ × Row). x.1.parameters) (zip prelude_paths (rows_by computing))
unfolding prelude_bodies
parameters_computed =
    parameters_are prelude_paths bodies ∙ ap
    (λ rows. map (λ (x : List ℕ × Row). x.1.parameters) (zip prelude_paths rows)) rows_computed
