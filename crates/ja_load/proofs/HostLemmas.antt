-- What a program has that begins with the built-in objects and those of devices: its objects are
-- well formed, and its sites are told.
use Rattle.std.proofs.Common.{◌≡◌, ℕ, zero, suc, ◌+◌, ◌-◌, ◌<◌, ◌≤◌, ◌==◌, Bool, true, false, cond, not, if◌then◌else◌, List, [], ◌∷◌, ◌++◌, length, map, filter, Some, None, refl, sym, ap, ◌∙◌, subst, ◌⊎◌, inl, inr, append_assoc, length-append, arith}
use Rattle.std.specs.Prelude.{IsSome, Option}
use Rattle.std.specs.List.{AllByRecursion, enumerate_from, find, slice_get}
use Rattle.std.proofs.lemmas.Bool.{cases_lt}
use Rattle.std.proofs.lemmas.List.{length-map}
use Rattle.std.proofs.lemmas.List.FromFn.{length-enumerate_from}
use Rattle.std.proofs.lemmas.Option.{slice_get_within, same_Some}
use Rattle.ja_base.specs.declared.ids.Site.{Site}
use Rattle.ja_base.proofs.Lists.{all_append, all_at, element_within}
use Rattle.ja_graph.specs.declared.attrs.TheConstants.{ALL_ATTRS}
use Rattle.ja_device.specs.Signatures.{AreDistinct}
use Rattle.ja_graph.specs.declared.builtins.TheConstants.{BUILTIN_CLASSES, FUNCTION_PROTOTYPE, GLOBAL, LENGTH}
use Rattle.ja_graph.specs.declared.program.Class.{Class}
use Rattle.ja_graph.specs.declared.program.ObjectSpec.{ObjectSpec}
use Rattle.ja_graph.specs.declared.program.Program.{Program}
use Rattle.ja_graph.specs.declared.program.PropertySpec.{PropertySpec}
use Rattle.ja_graph.specs.declared.program.SiteInfo.{SiteInfo}
use Rattle.ja_graph.specs.declared.program.SpecContent.{SpecContent}
use Rattle.ja_graph.specs.declared.program.SpecContent.TheVariants as content
use Rattle.ja_graph.specs.Program.{object_spec}
use Rattle.ja_graph.specs.WellFormed.{IsBuiltin, IsContent, IsName, IsObjectWellFormed, NamesFunctions, StandsBefore, builtin_names}
use Rattle.ja_load.specs.Hosts.{device_info, device_object, device_property, device_sites, is_of_device, object_with_devices, opening_with, properties_with}
use Rattle.ja_load.proofs.BuiltHosts.{IsBuiltIn, IsDevice, object-cases}
use Rattle.ja_load.proofs.Places.{any-at, append-cases, find-at, found-at, get-behind, kept-at, map-at, mapped-at, number-at, number-there, numbered-at}
use Rattle.ja_lower_names.specs.Names.{number}
use Rattle.ja_prelude.proofs.ListLemmas.{eq_of, get-first, get-front, same_passes}
use Rattle.ja_prelude.proofs.OpeningLemmas.{classes_are_told, objects_are_well_formed, sites_have_no_owner, sites_have_objects, sites_name_functions}
use Rattle.ja_prelude.proofs.TableLemmas.{names_count, sites_count, table-count}
use Rattle.ja_prelude.specs.Table.{builtin_sites, number_of, opening_objects}
use Rattle.ja_prim.specs.declared.signature.Signature.{Signature}

-- ---- names

-- names of one number are one
one-name : (names : List (List ℕ)) (n m : ℕ) (t u : List ℕ) → slice_get names n ≡ Some t
    → slice_get names m ≡ Some u → (number names t).0 ≡ (number names u).0 → t ≡ u
one-name names n m t u is also same =
    same_Some t u (sym (number-at names n t is) ∙ ap (slice_get names) same
    ∙ number-at names m u also)

-- ---- the objects that are there when a run begins

-- there are as many as built-in objects and devices
pub opening_count : (names : List (List ℕ)) (signatures : List Signature)
    → length (opening_with names signatures) ≡ 74 + length signatures
unfolding opening_with
opening_count names signatures =
    omega (
      arith,
      length-append (map (object_with_devices names signatures) opening_objects)
          (map (λ row. device_object row.0) (enumerate_from 0 signatures)),
      length-map opening_objects (object_with_devices names signatures),
      table-count,
      length-map (enumerate_from 0 signatures) (λ (row : ℕ × Signature). device_object row.0),
      length-enumerate_from 0 signatures,
    )

-- the built-in ones stand at their places
builtin-at : (names : List (List ℕ)) (signatures : List Signature) (i : ℕ) (b : ObjectSpec)
    → slice_get opening_objects i ≡ Some b → slice_get (opening_with names signatures) i
    ≡ Some (object_with_devices names signatures b)
unfolding opening_with
builtin-at names signatures i b is =
    get-front (map (object_with_devices names signatures) opening_objects)
    (map (λ row. device_object row.0) (enumerate_from 0 signatures)) i
    (object_with_devices names signatures b)
    (map-at (object_with_devices names signatures) opening_objects i b is)

-- .. and those of devices behind them
device-at : (names : List (List ℕ)) (signatures : List Signature) (k : ℕ) (s : Signature)
    → slice_get signatures k ≡ Some s → slice_get (opening_with names signatures) (74 + k)
    ≡ Some (device_object k)
unfolding opening_with
device-at names signatures k s is =
    let number : 0 + k ≡ k = omega arith in
    get-behind (map (object_with_devices names signatures) opening_objects)
    (map (λ row. device_object row.0) (enumerate_from 0 signatures)) k (74 + k)
    (device_object k) (omega (
      arith,
      length-map opening_objects
          (object_with_devices names signatures),
      table-count,
    ))
    (map-at (λ (row : ℕ × Signature). device_object row.0) (enumerate_from 0 signatures) k
    (0 + k, s) (number-there signatures 0 k s is) ∙ ap (λ n. Some (device_object n)) number)

-- an object keeps all but its properties
pub record IsKept (names : List (List ℕ)) (signatures : List Signature) (b o : ObjectSpec) : Type
    0 where
  pub site : o.site ≡ b.site
  pub prototype : o.prototype ≡ b.prototype
  pub scope : o.scope ≡ b.scope
  pub properties : (o.properties ≡ b.properties)
      ⊎ (o.properties ≡ properties_with names signatures b.properties)

pub builtin-kept : (names : List (List ℕ)) (signatures : List Signature) (b : ObjectSpec)
    → IsKept names signatures b (object_with_devices names signatures b)
builtin-kept names signatures b = at (b.site.0 == GLOBAL.0)
  where
    at : (c : Bool) → IsKept names signatures b
        (if c then record b { properties = properties_with names signatures b.properties } else b)
    at true = record { site = refl; prototype = refl; scope = refl; properties = inr refl }
    at false = record { site = refl; prototype = refl; scope = refl; properties = inl refl }

-- ---- properties

-- properties have names and objects of the program, and each name once
record AreFit (p : Program) (qs : List PropertySpec) : Type 0 where
  pub names : (j : ℕ) (q : PropertySpec) → slice_get qs j ≡ Some q → IsName p q.name
  pub contents : (j : ℕ) (q : PropertySpec) → slice_get qs j ≡ Some q → IsContent p q.content
  pub once : (j k : ℕ) (q r : PropertySpec) → slice_get qs j ≡ Some q → slice_get qs k ≡ Some r
      → q.name.0 ≡ r.name.0 → j ≡ k

-- a property of a device
record IsOfDeviceNamed (names : List (List ℕ)) (signatures : List Signature) (k : ℕ)
    (q : PropertySpec) : Type 0 where
  pub signature : Signature
  pub signature_is : slice_get signatures k ≡ Some signature
  pub property : device_property names k signature ≡ q

device-properties : (names : List (List ℕ)) (signatures : List Signature) (k : ℕ) (q : PropertySpec)
    → slice_get (map (λ row. device_property names row.0 row.1) (enumerate_from 0 signatures)) k
    ≡ Some q → IsOfDeviceNamed names signatures k q
device-properties names signatures k q is =
    let found = mapped-at (λ (row : ℕ × Signature). device_property names row.0 row.1)
    (enumerate_from 0 signatures) k q is in
    let row = numbered-at signatures 0 k found.0 found.1 in
    let number : found.0.0 ≡ k = omega (arith, row.0) in
    record {
      signature = found.0.1;
      signature_is = row.1;
      property = ap (λ n. device_property names n found.0.1) (sym number) ∙ found.2;
    }

-- each name of the signatures is a name of the program
abbrev pub AreNamed : List (List ℕ) → List Signature → Type 0
AreNamed names signatures =
    (i : ℕ) (s : Signature) → slice_get signatures i ≡ Some s
    → (n : ℕ) × (slice_get names n ≡ Some s.name)

content-more : (p q : Program) (c : SpecContent) → length p.opening ≤ length q.opening
    → IsContent p c → IsContent q c
content-more p q (content.Object s) more is = omega (arith, more, is)
content-more p q (content.Prim value) more is = tt
content-more p q content.Row more is = tt

-- once in each of two lists, of which none has a name of the other, is once in both
once-both : (qs rs : List PropertySpec) → ((j k : ℕ) (q r : PropertySpec) → slice_get qs j ≡ Some q
    → slice_get qs k ≡ Some r → q.name.0 ≡ r.name.0 → j ≡ k)
    → ((j k : ℕ) (q r : PropertySpec) → slice_get rs j ≡ Some q → slice_get rs k ≡ Some r
    → q.name.0 ≡ r.name.0 → j ≡ k) → ((j k : ℕ) (q r : PropertySpec) → slice_get qs j ≡ Some q
    → slice_get rs k ≡ Some r → q.name.0 ≡ r.name.0 → ⊥) → (j k : ℕ) (q r : PropertySpec)
    → slice_get (qs ++ rs) j ≡ Some q → slice_get (qs ++ rs) k ≡ Some r → q.name.0 ≡ r.name.0
    → j ≡ k
once-both qs rs first second apart j k q r is also same =
    at (append-cases qs rs j q is) (append-cases qs rs k r also)
  where
    at : (slice_get qs j ≡ Some q) ⊎ ((m : ℕ) × (j ≡ length qs + m) × (slice_get rs m ≡ Some q))
        → (slice_get qs k ≡ Some r) ⊎ ((n : ℕ) × (k ≡ length qs + n) × (slice_get rs n ≡ Some r))
        → j ≡ k
    at (inl here) (inl there) = first j k q r here there same
    at (inl here) (inr there) = absurd (apart j there.0 q r here there.2 same)
    at (inr here) (inl there) = absurd (apart k here.0 r q there here.2 (sym same))
    at (inr here) (inr there) =
        omega (arith, here.1, there.1, second here.0 there.0 q r here.2 there.2 same)

-- what is left of a list in which each name stands once has each name once
once-kept : (test : PropertySpec → Bool) (qs : List PropertySpec)
    → ((j k : ℕ) (q r : PropertySpec) → slice_get qs j ≡ Some q → slice_get qs k ≡ Some r
    → q.name.0 ≡ r.name.0 → j ≡ k) → (j k : ℕ) (q r : PropertySpec)
    → slice_get (filter test qs) j ≡ Some q → slice_get (filter test qs) k ≡ Some r
    → q.name.0 ≡ r.name.0 → j ≡ k
once-kept test [] once j k q r is also same = absurd (cc)
once-kept test (x ∷ qs) once j k q r is also same =
    at (test x) j k is also (once-kept test qs
    (λ m n y z here there e. omega (arith, once (suc m) (suc n) y z here there e)))
  where
    apart : (n : ℕ) (y z : PropertySpec) → x ≡ y → slice_get (filter test qs) n ≡ Some z
        → y.name.0 ≡ z.name.0 → ⊥
    apart n y z first there e =
        let found = kept-at test qs n z there in
        let places : 0 ≡ suc found.0 = once 0 (suc found.0) x z refl found.1
        (ap (λ (w : PropertySpec). w.name.0) first ∙ e) in
        absurd (omega (arith, places))

    at : (b : Bool) (j k : ℕ) → slice_get (cond b (x ∷ filter test qs) (filter test qs)) j ≡ Some q
        → slice_get (cond b (x ∷ filter test qs) (filter test qs)) k ≡ Some r
        → ((m n : ℕ) (y z : PropertySpec) → slice_get (filter test qs) m ≡ Some y
        → slice_get (filter test qs) n ≡ Some z → y.name.0 ≡ z.name.0 → m ≡ n) → j ≡ k
    at true zero zero here there rest = refl
    at true zero (suc k) here there rest = absurd (apart k q r (same_Some x q here) there same)
    at true (suc j) zero here there rest =
        absurd (apart j r q (same_Some x r there) here (sym same))
    at true (suc j) (suc k) here there rest = ap suc (rest j k q r here there same)
    at false j k here there rest = rest j k q r here there same

-- the properties of devices are of different names
once-devices : (names : List (List ℕ)) (signatures : List Signature) → AreNamed names signatures
    → AreDistinct signatures → (j k : ℕ) (q r : PropertySpec) → IsOfDeviceNamed names signatures j q
    → IsOfDeviceNamed names signatures k r → q.name.0 ≡ r.name.0 → j ≡ k
once-devices names signatures named distinct j k q r first second same =
    let s = first.signature in
    let t = second.signature in
    let here = named j s first.signature_is in
    let there = named k t second.signature_is in
    let numbers : (number names s.name).0 ≡ (number names t.name).0 = ap
    (λ (x : PropertySpec). x.name.0) first.property ∙ same
    ∙ sym (ap (λ (x : PropertySpec). x.name.0) second.property) in
    distinct j k s t first.signature_is second.signature_is
    (one-name names here.0 there.0 s.name t.name here.1 there.1 numbers)

-- a property that is left has no device's name
apart-devices : (names : List (List ℕ)) (signatures : List Signature) (k : ℕ) (q r : PropertySpec)
    → not (is_of_device names signatures q.name) ≡ true → IsOfDeviceNamed names signatures k r
    → q.name.0 ≡ r.name.0 → ⊥
apart-devices names signatures k q r left device same =
    let numbers : (number names device.signature.name).0
    ≡ q.name.0 = ap (λ (x : PropertySpec). x.name.0) device.property ∙ sym same in
    let found : is_of_device names signatures q.name
    ≡ true = any-at (λ (s : Signature). (number names s.name).0 == q.name.0) signatures k
    device.signature device.signature_is (same_passes (number names device.signature.name).0
    q.name.0 numbers) in
    let both : not true ≡ true = ap not (sym found) ∙ left in
    absurd (cc)

-- a property behind the devices is one that was there, or a device's
properties-cases : (names : List (List ℕ)) (signatures : List Signature) (qs : List PropertySpec)
    (j : ℕ) (q : PropertySpec) → slice_get (properties_with names signatures qs) j ≡ Some q
    → ((i : ℕ) × (slice_get qs i ≡ Some q)) ⊎ ((k : ℕ) × IsOfDeviceNamed names signatures k q)
properties-cases names signatures qs j q is =
    at (append-cases (filter (λ (r : PropertySpec). not (is_of_device names signatures r.name)) qs)
    (map (λ row. device_property names row.0 row.1) (enumerate_from 0 signatures)) j q is)
  where
    at : (slice_get (filter (λ (r : PropertySpec). not (is_of_device names signatures r.name)) qs) j
        ≡ Some q) ⊎ ((k : ℕ) × (j ≡ length (filter
        (λ (r : PropertySpec). not (is_of_device names signatures r.name)) qs) + k)
        × (slice_get (map (λ (row : ℕ × Signature). device_property names row.0 row.1)
        (enumerate_from 0 signatures)) k ≡ Some q))
        → ((i : ℕ) × (slice_get qs i ≡ Some q)) ⊎ ((k : ℕ) × IsOfDeviceNamed names signatures k q)
    at (inl left) =
        let found = kept-at (λ (r : PropertySpec). not (is_of_device names signatures r.name)) qs j
        q left in
        inl (found.0, found.1)
    at (inr behind) = inr (behind.0, device-properties names signatures behind.0 q behind.2)

-- What devices need of a program: there are as many objects as built-in ones and devices, and no
-- two devices have one name, which is one of the program's.
record MayHold (p : Program) (signatures : List Signature) : Type 0 where
  pub objects : length p.opening ≡ 74 + length signatures
  pub named : AreNamed p.names signatures
  pub distinct : AreDistinct signatures

device-name : (p : Program) (signatures : List Signature) → MayHold p signatures
    → (k : ℕ) (q : PropertySpec) → IsOfDeviceNamed p.names signatures k q → IsName p q.name
device-name p signatures may k q device =
    let place = may.named k device.signature device.signature_is in
    let found = number-at p.names place.0 device.signature.name place.1 in
    subst (λ (r : PropertySpec). IsName p r.name) device.property
    (slice_get_within p.names (number p.names device.signature.name).0 device.signature.name
    found)

device-content : (p : Program) (signatures : List Signature) → MayHold p signatures
    → (k : ℕ) (q : PropertySpec) → IsOfDeviceNamed p.names signatures k q → IsContent p q.content
device-content p signatures may k q device =
    let within : 74 + k < length p.opening = omega
    (arith, may.objects, slice_get_within signatures k device.signature device.signature_is) in
    subst (λ (r : PropertySpec). IsContent p r.content) device.property within

properties-fit : (p plain : Program) (signatures : List Signature) (qs : List PropertySpec)
    → MayHold p signatures → length plain.opening ≡ 74 → plain.names ≡ p.names → AreFit plain qs
    → AreFit p (properties_with p.names signatures qs)
properties-fit p plain signatures qs may count same fit = record {
  names = λ j q is. name q (properties-cases p.names signatures qs j q is);
  contents = λ j q is. content q (properties-cases p.names signatures qs j q is);
  once =
      once-both (filter (λ (r : PropertySpec). not (is_of_device p.names signatures r.name)) qs)
      (map (λ row. device_property p.names row.0 row.1) (enumerate_from 0 signatures))
      (once-kept (λ (r : PropertySpec). not (is_of_device p.names signatures r.name)) qs fit.once)
      (λ j k q r is also e. once-devices p.names signatures may.named may.distinct j k q r
      (device-properties p.names signatures j q is)
      (device-properties p.names signatures k r also) e)
      (λ j k q r is also e. let found = kept-at
      (λ (r : PropertySpec). not (is_of_device p.names signatures r.name)) qs j q is in
      apart-devices p.names signatures k q r found.2
      (device-properties p.names signatures k r also) e);
}
  where
    name : (q : PropertySpec) → ((i : ℕ) × (slice_get qs i ≡ Some q))
        ⊎ ((k : ℕ) × IsOfDeviceNamed p.names signatures k q) → IsName p q.name
    name q (inl there) = omega (arith, fit.names there.0 q there.1, ap length same)
    name q (inr device) = device-name p signatures may device.0 q device.1

    content : (q : PropertySpec) → ((i : ℕ) × (slice_get qs i ≡ Some q))
        ⊎ ((k : ℕ) × IsOfDeviceNamed p.names signatures k q) → IsContent p q.content
    content q (inl there) =
        content-more plain p q.content (omega (arith, count, may.objects))
        (fit.contents there.0 q there.1)
    content q (inr device) = device-content p signatures may device.0 q device.1

-- ---- the objects

-- the same program with the built-in objects alone
abbrev plain_of : Program → Program
plain_of p = record p { opening = opening_objects }

-- What is known of a program with devices: the objects that it begins with, the sites that come
-- first, its functions, and its names, which begin with the built-in ones and have those of the
-- devices among them.
pub record HasDevices (p : Program) (own : ℕ) (signatures : List Signature)
    (others : List SiteInfo) : Type 0 where
  pub opening : p.opening ≡ opening_with p.names signatures
  pub sites : p.sites ≡ builtin_sites (own + length signatures) ++ device_sites own signatures
      ++ others
  pub functions : own + length signatures + 75 ≤ length p.functions
  pub many : length builtin_names ≤ length p.names
  pub named : AreNamed p.names signatures
  pub distinct : AreDistinct signatures

may-hold : (p : Program) (own : ℕ) (signatures : List Signature) (others : List SiteInfo)
    → HasDevices p own signatures others → MayHold p signatures
may-hold p own signatures others has =
    record {
      objects = ap length has.opening ∙ opening_count p.names signatures;
      named = has.named;
      distinct = has.distinct;
    }

-- what stands before a built-in object still does
stands-before : (p : Program) (signatures : List Signature) (i : ℕ) (s : Site)
    → p.opening ≡ opening_with p.names signatures → StandsBefore (plain_of p) i s
    → StandsBefore p i s
stands-before p signatures i s opening before =
    let kept = builtin-kept p.names signatures before.1 in (
      before.0,
      object_with_devices p.names signatures before.1,
      before.2,
      ap (λ os. slice_get os before.0) opening
          ∙ builtin-at p.names signatures before.0 before.1 before.3,
      ap (λ (t : Site). t.0) kept.site
          ∙ before.4,
    )

builtin-well_formed : (p : Program) (own : ℕ) (signatures : List Signature) (others : List SiteInfo)
    → HasDevices p own signatures others → (i : ℕ) (o : ObjectSpec)
    → IsBuiltIn p.names signatures i o → IsObjectWellFormed p i o
builtin-well_formed p own signatures others has i o builtin =
    let b = builtin.object in
    let is = objects_are_well_formed (own + length signatures) (plain_of p)
    (device_sites own signatures ++ others)
    (has.sites ∙ append_assoc (builtin_sites (own + length signatures))
    (device_sites own signatures) others) refl has.many i b builtin.object_is in
    let kept : IsKept p.names signatures b o = subst (IsKept p.names signatures b) builtin.same
    (builtin-kept p.names signatures b) in
    let may = may-hold p own signatures others has in
    let before : AreFit (plain_of p) b.properties = record {
      names = is.names;
      contents = is.contents;
      once = is.once;
    } in
    let fit : AreFit p o.properties = properties may before kept.properties in
    record {
      site = omega (arith, is.site, table-count, may.objects, ap (λ (t : Site). t.0) kept.site);
      prototype =
          λ s e. stands-before p signatures i s has.opening
          (is.prototype s (sym kept.prototype ∙ e));
      scope = λ s e. stands-before p signatures i s has.opening (is.scope s (sym kept.scope ∙ e));
      scoped =
          λ info told runs. subst (λ (x : Option Site). IsSome x) (sym kept.scope) (is.scoped info
          (ap (λ (t : Site). slice_get p.sites t.0) (sym kept.site) ∙ told) runs);
      names = fit.names;
      contents = fit.contents;
      once = fit.once;
    }
  where
    properties : MayHold p signatures → AreFit (plain_of p) builtin.object.properties
        → (o.properties ≡ builtin.object.properties)
        ⊎ (o.properties ≡ properties_with p.names signatures builtin.object.properties)
        → AreFit p o.properties
    properties may before (inl same) =
        subst (AreFit p) (sym same) (record {
          names = before.names;
          contents =
              λ j q is. content-more (plain_of p) p q.content
              (omega (arith, table-count, may.objects)) (before.contents j q is);
          once = before.once;
        })
    properties may before (inr with_devices) =
        subst (AreFit p) (sym with_devices) (properties-fit p (plain_of p) signatures
        builtin.object.properties may table-count refl before)

-- a built-in object stands before those of devices
builtin-stands : (p : Program) (signatures : List Signature) (i : ℕ) (s : Site)
    → p.opening ≡ opening_with p.names signatures → s.0 < 74 → 74 ≤ i → StandsBefore p i s
builtin-stands p signatures i s opening within behind =
    let found = found-at (λ (o : ObjectSpec). o.site.0 == s.0) opening_objects
    (sites_have_objects (plain_of p) s.0 refl (omega (arith, within, table-count))) in
    let before : found.0 < i = omega (
      arith,
      slice_get_within opening_objects found.0 found.1 found.2,
      table-count,
      behind,
    ) in
    stands-before p signatures i s opening (
      found.0,
      found.1,
      before,
      found.2,
      eq_of found.1.site.0 s.0 found.3,
    )

-- the one property of the function of a device
abbrev length_property : PropertySpec
length_property =
    record {
      name = LENGTH;
      content = content.Prim (number_of 0);
      attrs = ALL_ATTRS;
    }

device-well_formed : (p : Program) (own : ℕ) (signatures : List Signature) (others : List SiteInfo)
    → HasDevices p own signatures others → (i : ℕ) (o : ObjectSpec)
    → IsDevice p.names signatures i o → IsObjectWellFormed p i o
device-well_formed p own signatures others has i o device =
    let may = may-hold p own signatures others has in
    let k = device.which in
    let within : 74 + k < length p.opening = omega
    (arith, may.objects, slice_get_within signatures k device.signature device.signature_is) in
    let behind : 74 ≤ i = omega (arith, device.place) in
    let length_named : LENGTH.0 < length p.names = omega (arith, has.many, names_count) in
    let made : IsObjectWellFormed p i (device_object k) = record {
      site = within;
      prototype =
          λ s e. subst (StandsBefore p i) (same_Some FUNCTION_PROTOTYPE s e)
          (builtin-stands p signatures i FUNCTION_PROTOTYPE has.opening (omega arith) behind);
      scope =
          λ s e. subst (StandsBefore p i) (same_Some GLOBAL s e)
          (builtin-stands p signatures i GLOBAL has.opening (omega arith) behind);
      scoped = λ info told runs. refl;
      names = λ j q is. let only = single j q is in
          subst (λ (r : PropertySpec). IsName p r.name) only.1 length_named;
      contents = λ j q is. let only = single j q is in
          subst (λ (r : PropertySpec). IsContent p r.content) only.1 tt;
      once = λ j l q r is also same. (single j q is).0 ∙ sym (single l r also).0;
    } in
    subst (IsObjectWellFormed p i) device.same made
  where
    single : (j : ℕ) (q : PropertySpec) → slice_get (device_object device.which).properties j
        ≡ Some q → (j ≡ 0) × (length_property ≡ q)
    single zero q is = (refl, same_Some length_property q is)
    single (suc j) q is = absurd (cc)

-- each object is well formed
pub objects_with_devices : (p : Program) (own : ℕ) (signatures : List Signature)
    (others : List SiteInfo) → HasDevices p own signatures others → (i : ℕ) (o : ObjectSpec)
    → slice_get p.opening i ≡ Some o → IsObjectWellFormed p i o
objects_with_devices p own signatures others has i o is =
    at (object-cases p.names signatures i o (ap (λ os. slice_get os i) (sym has.opening) ∙ is))
  where
    at : IsBuiltIn p.names signatures i o ⊎ IsDevice p.names signatures i o
        → IsObjectWellFormed p i o
    at (inl builtin) = builtin-well_formed p own signatures others has i o builtin
    at (inr device) = device-well_formed p own signatures others has i o device

-- each site without a node has its object
pub sites_have_objects_with_devices : (p : Program) (own : ℕ) (signatures : List Signature)
    (others : List SiteInfo) → HasDevices p own signatures others → (s : ℕ) → s < length p.opening
    → IsSome (object_spec p s)
sites_have_objects_with_devices p own signatures others has s before = at (cases_lt s 74)
  where
    at : (s < 74) ⊎ (74 ≤ s) → IsSome (object_spec p s)
    at (inl within) =
        let found = found-at (λ (o : ObjectSpec). o.site.0 == s) opening_objects
        (sites_have_objects (plain_of p) s refl (omega (arith, within, table-count))) in
        let kept = builtin-kept p.names signatures found.1 in
        let passes : ((object_with_devices p.names signatures found.1).site.0 == s)
        ≡ true = ap (λ (t : Site). t.0 == s) kept.site ∙ found.3 in
        subst (λ os. IsSome (find (λ (o : ObjectSpec). o.site.0 == s) os)) (sym has.opening)
        (find-at (λ (o : ObjectSpec). o.site.0 == s) (opening_with p.names signatures) found.0
        (object_with_devices p.names signatures found.1)
        (builtin-at p.names signatures found.0 found.1 found.2) passes)
    at (inr behind) =
        let may = may-hold p own signatures others has in
        let signature = element_within signatures (s - 74)
        (omega (arith, before, behind, may.objects)) in
        let passes : ((device_object (s - 74)).site.0 == s)
        ≡ true = same_passes (74 + (s - 74)) s (omega (arith, behind)) in
        subst (λ os. IsSome (find (λ (o : ObjectSpec). o.site.0 == s) os)) (sym has.opening)
        (find-at (λ (o : ObjectSpec). o.site.0 == s) (opening_with p.names signatures)
        (74 + (s - 74)) (device_object (s - 74))
        (device-at p.names signatures (s - 74) signature.0 signature.1) passes)

-- ---- the sites

-- the classes of the built-in ones are told
pub classes_with_devices : (p : Program) (own : ℕ) (signatures : List Signature)
    (others : List SiteInfo) → HasDevices p own signatures others → (s : ℕ) (c : Class)
    → slice_get BUILTIN_CLASSES s ≡ Some c → IsBuiltin p s c
classes_with_devices p own signatures others has s c is =
    let may = may-hold p own signatures others has in
    let told = classes_are_told (own + length signatures) (plain_of p)
    (device_sites own signatures ++ others)
    (has.sites ∙ append_assoc (builtin_sites (own + length signatures))
    (device_sites own signatures) others) refl s c is in
    (told.0, told.1, told.2, omega (arith, told.3, table-count, may.objects))

pub device_sites_count : (first : ℕ) (signatures : List Signature)
    → length (device_sites first signatures) ≡ length signatures
unfolding device_sites
device_sites_count first signatures =
    length-map (enumerate_from 0 signatures) (λ (row : ℕ × Signature). device_info (first + row.0))
    ∙ length-enumerate_from 0 signatures

-- what holds of the site of each device holds of their sites
each-device : (P : SiteInfo → Type 0) (first : ℕ) (signatures : List Signature)
    → ((k : ℕ) → k < length signatures → P (device_info (first + k)))
    → AllByRecursion P (device_sites first signatures)
unfolding device_sites
each-device P first signatures each = at 0 signatures (λ k within. each k (omega (arith, within)))
  where
    at : (k : ℕ) (ss : List Signature) → ((n : ℕ) → n < k + length ss → P (device_info (first + n)))
        → AllByRecursion P (map (λ (row : ℕ × Signature). device_info (first + row.0))
        (enumerate_from k ss))
    at k [] each = tt
    at k (s ∷ ss) each =
        (each k (omega arith), at (k + 1) ss (λ n within. each n (omega (arith, within))))

-- the functions that objects run are the program's
pub functions_with_devices : (p : Program) (own : ℕ) (signatures : List Signature)
    (others : List SiteInfo) → HasDevices p own signatures others
    → AllByRecursion (NamesFunctions p) (builtin_sites (own + length signatures)
    ++ device_sites own signatures)
functions_with_devices p own signatures others has =
    all_append (NamesFunctions p) (builtin_sites (own + length signatures))
    (device_sites own signatures) (sites_name_functions (own + length signatures) p
    has.functions) (each-device (NamesFunctions p) own signatures
    (λ k within. record {
      owner = tt;
      calls = (omega (arith, within, has.functions), tt);
      constructs = tt;
    }))

-- no site without a node has an owner
pub unowned_with_devices : (p : Program) (own : ℕ) (signatures : List Signature)
    (others : List SiteInfo) → HasDevices p own signatures others → (s : ℕ) → s < length p.opening
    → (info : SiteInfo) → slice_get p.sites s ≡ Some info → info.owner ≡ None
unowned_with_devices p own signatures others has s before info is =
    let may = may-hold p own signatures others has in
    let front = builtin_sites (own + length signatures) ++ device_sites own signatures in
    let within : s < length front = omega (
      arith,
      before,
      may.objects,
      length-append (builtin_sites (own + length signatures)) (device_sites own signatures),
      sites_count (own + length signatures),
      device_sites_count own signatures,
    ) in
    let found = get-first front others s info within
    (ap (λ infos. slice_get infos s) (sym has.sites) ∙ is) in
    all_at (λ (i : SiteInfo). i.owner ≡ None) front s info
    (all_append (λ (i : SiteInfo). i.owner ≡ None) (builtin_sites (own + length signatures))
    (device_sites own signatures) (sites_have_no_owner (own + length signatures))
    (each-device (λ (i : SiteInfo). i.owner ≡ None) own signatures (λ k inside. refl))) found
