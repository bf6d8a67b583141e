-- What is listed of a context: fields of lists, labels and keys in order, and the tests of what
-- says nothing.
use Rattle.std.proofs.Common.{◌≡◌, ◌≢◌, ℕ, ◌-◌, ◌==◌, Bool, false, ◌&&◌, List, [], ◌∷◌, map, length, Option, Some, None, refl, ap, sym, ◌∙◌, arith}
use Rattle.std.specs.Prelude.{not, slice_get}
use Rattle.std.specs.List.{list_all}
use Rattle.std.specs.Option.{option_map, option_map_or}
use Rattle.std.proofs.lemmas.Bool.Decides.{nat_tests}
use Rattle.std.proofs.lemmas.List.{length-map}
use Rattle.std.proofs.lemmas.Option.{slice_get-map}
use Rattle.serde_json.specs.Data.{Data, string}
use Rattle.ja_prim.specs.Texts.{same_text}
use Rattle.ja_graph.specs.declared.program.Program.{Program}
use Rattle.ja_base.specs.declared.ids.Label.{Label}
use Rattle.ja_base.specs.declared.ids.FnId.{FnId}
use Rattle.ja_base.specs.declared.ids.Site.{Site}
use Rattle.ja_abstract.specs.declared.abstraction.Mask.{Mask}
use Rattle.ja_abstract.specs.declared.abstraction.Key.{Key}
use Rattle.ja_abstract.specs.AbstractValue.{AbstractProperty, AbstractValue}
use Rattle.ja_abstract.specs.AbstractState.{label_number}
use Rattle.ja_report.specs.Lines.{alloc, entry, mask_text, property, register}
use Rattle.ja_report.specs.Texts.{attrs_text}
use Rattle.ja_value.specs.Value.{property_of, value_of}
use Rattle.ja_cert.specs.Certificate.{key_data, label_data, line_data, listed, value_data, whole}
use Rattle.ja_cert.specs.Wrong.{are_of_entry, entry_wrong, first_number, here, here_unless, is_above, is_behind, is_entry, is_of_entry, is_of_property, is_word, key_rank, list_of, mask_fields_wrong, mask_wrong, or_else, owned_fields_wrong, owned_wrong, pair_number, property_wrong, register_fields_wrong, register_wrong, value_is, whole_of}
use Rattle.ja_cert_parts.specs.code.Ranks.{entry_pair, key_place, pair_of, property_pair}
use Rattle.ja_cert_parts.specs.declared.listed.EntryAt.{EntryAt}
use Rattle.ja_cert_parts.specs.declared.listed.MaskAt.{MaskAt}
use Rattle.ja_cert_parts.specs.declared.listed.Pair.{Pair}
use Rattle.ja_cert_parts.specs.declared.listed.PropertyAt.{PropertyAt}
use Rattle.ja_cert_parts.specs.declared.listed.RegisterAt.{RegisterAt}
use Rattle.ja_cert_parts.proofs.KeyLemmas.{key_known}

-- ---- lists of other lengths

-- any other list has no fields
pub not_four : (p : Program) (allowed : ℕ → Bool) (ascends : Bool) (ds : List Data)
    → length ds ≢ 4 → owned_fields_wrong p allowed ascends ds ≡ here
not_four p allowed ascends [] other = refl
not_four p allowed ascends (a ∷ []) other = refl
not_four p allowed ascends (a ∷ b ∷ []) other = refl
not_four p allowed ascends (a ∷ b ∷ c ∷ []) other = refl
not_four p allowed ascends (a ∷ b ∷ c ∷ d ∷ []) other = absurd (other refl)
not_four p allowed ascends (a ∷ b ∷ c ∷ d ∷ e ∷ ds) other = refl

pub register_not_two : (p : Program) (f : FnId) (ascends : Bool) (ds : List Data)
    → length ds ≢ 2 → register_fields_wrong p f ascends ds ≡ here
register_not_two p f ascends [] other = refl
register_not_two p f ascends (a ∷ []) other = refl
register_not_two p f ascends (a ∷ b ∷ []) other = absurd (other refl)
register_not_two p f ascends (a ∷ b ∷ c ∷ ds) other = refl

pub mask_not_two : (p : Program) (ascends : Bool) (ds : List Data)
    → length ds ≢ 2 → mask_fields_wrong p ascends ds ≡ here
mask_not_two p ascends [] other = refl
mask_not_two p ascends (a ∷ []) other = refl
mask_not_two p ascends (a ∷ b ∷ []) other = absurd (other refl)
mask_not_two p ascends (a ∷ b ∷ c ∷ ds) other = refl

pub not_one : (word : List ℕ) (d : Data) (ds : List Data) (n : ℕ) → list_of d ≡ Some ds
    → n ≡ length ds → n ≢ 1 → (n == 1) ≡ value_is word d
not_one word d ds n list count other =
    short ds n count other ∙ sym (ap (λ (o : Option (List Data)). option_map_or
    (λ (es : List Data). (length es == 1) && list_all (is_word (same_text word)) es) o false) list)
  where
    short : (ds : List Data) (n : ℕ) → n ≡ length ds → n ≢ 1
        → (n == 1) ≡ ((length ds == 1) && list_all (is_word (same_text word)) ds)
    short ds n count other = grind (arith, nat_tests)

pub no_entry : (d : Data) (ds : List Data) → list_of d ≡ Some ds → length ds ≢ 4
    → false ≡ is_entry d
no_entry d ds list other =
    other_fields ds other
    ∙ sym (ap (λ (o : Option (List Data)). option_map_or are_of_entry o false) list)
  where
    other_fields : (ds : List Data) → length ds ≢ 4 → false ≡ are_of_entry ds
    other_fields [] other = refl
    other_fields (a ∷ []) other = refl
    other_fields (a ∷ b ∷ []) other = refl
    other_fields (a ∷ b ∷ c ∷ []) other = refl
    other_fields (a ∷ b ∷ c ∷ d ∷ []) other = absurd (other refl)
    other_fields (a ∷ b ∷ c ∷ d ∷ e ∷ ds) other = refl

-- ---- keys in order

property_placed : (p : Program) (l : Label) (k : Key) (q : AbstractProperty)
    → pair_number p (line_data p (property l k q)) ≡ pair_of p (record { label = l; key = k })
unfolding line_data
property_placed p l k q =
    ap (λ (o : Option ℕ). label_number l ∷ option_map_or (λ (n : ℕ). n) o 0 ∷ []) (key_known p k)

entry_placed : (p : Program) (l : Label) (k : Key) (q : AbstractProperty)
    → pair_number p (line_data p (entry l k q)) ≡ pair_of p (record { label = l; key = k })
unfolding line_data
entry_placed p l k q =
    ap (λ (o : Option ℕ). label_number l ∷ option_map_or (λ (n : ℕ). n) o 0 ∷ []) (key_known p k)

register_first : (p : Program) (r : ℕ) (v : AbstractValue)
    → first_number (line_data p (register 0 r v)) ≡ r ∷ []
unfolding line_data
register_first p r v = refl

mask_first : (p : Program) (s : Site) (m : Mask)
    → first_number (line_data p (alloc s m)) ≡ s.0 ∷ []
unfolding line_data
mask_first p s m = refl

-- ---- the last one before a member

last_map : {X Y : Type 0} (f : X → Y) (xs : List X)
    → slice_get (map f xs) (length (map f xs) - 1) ≡ option_map f (slice_get xs (length xs - 1))
last_map f xs =
    ap (λ (n : ℕ). slice_get (map f xs) (n - 1)) (length-map xs f)
    ∙ slice_get-map f xs (length xs - 1)

option_twice : {X Y Z : Type 0} (f : X → Y) (g : Y → Z) (h : X → Z) → ((x : X) → g (f x) ≡ h x)
    → (o : Option X) → option_map g (option_map f o) ≡ option_map h o
option_twice f g h same None = refl
option_twice f g h same (Some x) = ap (λ z. Some z) (same x)

-- a member stands above those before it, of which the last one has these numbers
above_is : {X : Type 0} (rank : Data → List ℕ) (f : X → Data) (h : X → List ℕ)
    → ((x : X) → rank (f x) ≡ h x) → (xs : List X) (d : Data)
    → is_above rank (map f xs) d ≡ is_behind (option_map h (slice_get xs (length xs - 1))) (rank d)
above_is rank f h same xs d =
    ap (λ (o : Option (List ℕ)). is_behind o (rank d))
    (ap (option_map rank) (last_map f xs)
    ∙ option_twice f rank h same (slice_get xs (length xs - 1)))

pair_above : {X : Type 0} (p : Program) (f : X → Data) (g : X → Pair)
    → ((x : X) → pair_number p (f x) ≡ pair_of p (g x)) → (xs : List X) (d : Data)
    (last : Option Pair) → last ≡ option_map g (slice_get xs (length xs - 1))
    → is_above (pair_number p) (map f xs) d
    ≡ is_behind (option_map (pair_of p) last) (pair_number p d)
pair_above p f g same xs d last is =
    above_is (pair_number p) f (λ x. pair_of p (g x)) same xs d
    ∙ ap (λ (o : Option (List ℕ)). is_behind o (pair_number p d))
    (sym (option_twice g (pair_of p) (λ x. pair_of p (g x)) (λ x. refl)
    (slice_get xs (length xs - 1))) ∙ ap (option_map (pair_of p)) (sym is))

number_above : {X : Type 0} (f : X → Data) (g : X → ℕ)
    → ((x : X) → first_number (f x) ≡ g x ∷ []) → (xs : List X) (d r v : Data) (n : ℕ) (b : Bool)
    → listed (r ∷ v ∷ []) ≡ d → whole n ≡ r
    → b ≡ is_behind (option_map (λ x. g x ∷ []) (slice_get xs (length xs - 1))) (n ∷ [])
    → is_above first_number (map f xs) d ≡ b
number_above f g same xs d r v n b is number behind =
    above_is first_number f (λ x. g x ∷ []) same xs d
    ∙ ap (is_behind (option_map (λ x. g x ∷ []) (slice_get xs (length xs - 1))))
    (ap first_number (sym is)
    ∙ ap (λ (e : Data). option_map_or (λ (m : ℕ). m) (whole_of e) 0 ∷ []) (sym number))
    ∙ sym behind

-- ---- a label and a key

pub pair_is : (p : Program) (d l k v a : Data) (label : Label) (key : Key)
    → listed (l ∷ k ∷ v ∷ a ∷ []) ≡ d → label_data label ≡ l → key_rank p k ≡ key_place p key
    → pair_number p d ≡ pair_of p (record { label = label; key = key })
pair_is p d l k v a label key is labelled ranked =
    ap (pair_number p) (sym is)
    ∙ ap (λ (e : Data). option_map_or (λ (n : ℕ). n) (whole_of e) 0
    ∷ option_map_or (λ (n : ℕ). n) (key_rank p k) 0 ∷ []) (sym labelled)
    ∙ ap (λ (o : Option ℕ). label_number label ∷ option_map_or (λ (n : ℕ). n) o 0 ∷ []) ranked

-- ---- what is wrong of what has so many fields

pub owned_is : (p : Program) (allowed : ℕ → Bool) (ascends : Bool) (d l k v a : Data)
    → listed (l ∷ k ∷ v ∷ a ∷ []) ≡ d
    → owned_wrong p allowed ascends d ≡ owned_fields_wrong p allowed ascends (l ∷ k ∷ v ∷ a ∷ [])
unfolding owned_wrong
owned_is p allowed ascends d l k v a is = ap (owned_wrong p allowed ascends) (sym is)

pub entry_is : (p : Program) (before : List EntryAt) (d : Data) (last : Option Pair)
    → last ≡ option_map entry_pair (slice_get before (length before - 1))
    → entry_wrong p (map (λ e. line_data p (entry e.label e.key (property_of e.property))) before) d
    ≡ owned_wrong p is_of_entry (is_behind (option_map (pair_of p) last) (pair_number p d)) d
unfolding entry_wrong
entry_is p before d last is =
    ap (λ (b : Bool). owned_wrong p is_of_entry b d)
    (pair_above p (λ (e : EntryAt). line_data p (entry e.label e.key (property_of e.property)))
    entry_pair (λ e. entry_placed p e.label e.key (property_of e.property)) before d last is)

pub property_is : (p : Program) (before : List PropertyAt) (d : Data) (last : Option Pair)
    → last ≡ option_map property_pair (slice_get before (length before - 1))
    → property_wrong p
    (map (λ q. line_data p (property q.label q.key (property_of q.property))) before) d
    ≡ or_else
    (owned_wrong p is_of_property (is_behind (option_map (pair_of p) last) (pair_number p d)) d)
    (here_unless (not (is_entry d)))
unfolding property_wrong
property_is p before d last is =
    ap (λ (b : Bool). or_else (owned_wrong p is_of_property b d) (here_unless (not (is_entry d))))
    (pair_above p
    (λ (q : PropertyAt). line_data p (property q.label q.key (property_of q.property)))
    property_pair (λ q. property_placed p q.label q.key (property_of q.property)) before d last is)

pub register_is : (p : Program) (f : FnId) (before : List Data) (d r v : Data)
    → listed (r ∷ v ∷ []) ≡ d
    → register_wrong p f before d
    ≡ register_fields_wrong p f (is_above first_number before d) (r ∷ v ∷ [])
unfolding register_wrong
register_is p f before d r v is =
    ap (λ (e : Data). option_map_or (register_fields_wrong p f (is_above first_number before d))
    (list_of e) here) (sym is)

pub register_above : (p : Program) (before : List RegisterAt) (d r v : Data) (n : ℕ) (b : Bool)
    → listed (r ∷ v ∷ []) ≡ d → whole n ≡ r
    → b ≡ is_behind (option_map (λ x. x.register ∷ []) (slice_get before (length before - 1)))
    (n ∷ [])
    → is_above first_number
    (map (λ x. line_data p (register 0 x.register (value_of x.value))) before) d ≡ b
register_above p before d r v n b is number behind =
    number_above (λ (x : RegisterAt). line_data p (register 0 x.register (value_of x.value)))
    (λ x. x.register) (λ x. register_first p x.register (value_of x.value)) before d r v n b is
    number behind

pub mask_is : (p : Program) (before : List Data) (d s m : Data) → listed (s ∷ m ∷ []) ≡ d
    → mask_wrong p before d ≡ mask_fields_wrong p (is_above first_number before d) (s ∷ m ∷ [])
unfolding mask_wrong
mask_is p before d s m is =
    ap (λ (e : Data). option_map_or (mask_fields_wrong p (is_above first_number before d))
    (list_of e) here) (sym is)

pub mask_above : (p : Program) (before : List MaskAt) (d s m : Data) (site : Site) (b : Bool)
    → listed (s ∷ m ∷ []) ≡ d → whole site.0 ≡ s
    → b ≡ is_behind (option_map (λ x. x.site.0 ∷ []) (slice_get before (length before - 1)))
    (site.0 ∷ [])
    → is_above first_number (map (λ x. line_data p (alloc x.site x.mask)) before) d ≡ b
mask_above p before d s m site b is number behind =
    number_above (λ (x : MaskAt). line_data p (alloc x.site x.mask)) (λ x. x.site.0)
    (λ x. mask_first p x.site x.mask) before d s m site.0 b is number behind

-- ---- as they are written

-- the parts of a property that is read, as they are written
pub property_written : (p : Program) (d l k v a : Data) (label : Label) (key : Key)
    (q : AbstractProperty) → listed (l ∷ k ∷ v ∷ a ∷ []) ≡ d → label_data label ≡ l
    → key_data key ≡ k → value_data p q.value ≡ v → string (attrs_text key q.attrs) ≡ a
    → line_data p (property label key q) ≡ d
unfolding line_data
property_written p d l k v a label key q whole e f g h =
    (λ i. listed (e i ∷ f i ∷ g i ∷ h i ∷ [])) ∙ whole

pub entry_written : (p : Program) (label : Label) (key : Key) (q : AbstractProperty)
    → line_data p (entry label key q) ≡ line_data p (property label key q)
unfolding line_data
entry_written p label key q = refl

pub register_written : (p : Program) (d r v : Data) (number : ℕ) (value : AbstractValue)
    → listed (r ∷ v ∷ []) ≡ d → whole number ≡ r → value_data p value ≡ v
    → line_data p (register 0 number value) ≡ d
unfolding line_data
register_written p d r v number value is e f = (λ i. listed (e i ∷ f i ∷ [])) ∙ is

pub mask_written : (p : Program) (d s m : Data) (site : Site) (mask : Mask)
    → listed (s ∷ m ∷ []) ≡ d → whole site.0 ≡ s → string (mask_text mask) ≡ m
    → line_data p (alloc site mask) ≡ d
unfolding line_data
mask_written p d s m site mask is e f = (λ i. listed (e i ∷ f i ∷ [])) ∙ is
