-- The objects of host devices: each is a function object of the global object, which takes the
-- place of a built-in property of its name.
use Rattle.std.specs.Prelude.{ℕ, Bool, not, ◌+◌, ◌==◌, if◌then◌else◌, List, [], ◌∷◌, ◌++◌, map, filter, length, Some, None}
use Rattle.std.specs.List.{enumerate_from, list_any}
use Rattle.ja_base.specs.declared.ids.NameId.{NameId}
use Rattle.ja_base.specs.declared.ids.Site.{Site}
use Rattle.ja_graph.specs.declared.attrs.TheConstants.{ALL_ATTRS, DONT_ENUM}
use Rattle.ja_lower_names.specs.Names.{number}
use Rattle.ja_prim.specs.declared.signature.Signature.{Signature}
use Rattle.ja_graph.specs.declared.builtins.TheConstants.{BUILTIN_CLASSES, FUNCTION_PROTOTYPE, GLOBAL, LENGTH}
use Rattle.ja_graph.specs.declared.program.Class.TheVariants as class
use Rattle.ja_graph.specs.declared.program.ObjectSpec.{ObjectSpec}
use Rattle.ja_graph.specs.declared.program.PropertySpec.{PropertySpec}
use Rattle.ja_graph.specs.declared.program.SiteInfo.{SiteInfo}
use Rattle.ja_graph.specs.declared.program.SpecContent.TheVariants as spec
use Rattle.ja_prelude.specs.Table.{number_of, opening_objects}

-- the site of the device of a number: those of devices stand behind those of the built-in objects
abbrev pub device_site : ℕ → Site
device_site which = record { 0 = length BUILTIN_CLASSES + which }

-- what is known of the sites of devices, the first of which has a function of this number: they can
-- be called, and construct nothing
abbrev pub device_info : ℕ → SiteInfo
device_info function = record {
  class = class.Function;
  place = record { line = 0; column = 0 };
  owner = None;
  calls = Some (record { 0 = function });
  constructs = None;
  builtin = None;
}

unfoldable pub device_sites : ℕ → List Signature → List SiteInfo
device_sites first signatures =
    map (λ row. device_info (first + row.0)) (enumerate_from 0 signatures)

-- the function object of a device (15.3): its `length` is 0
abbrev pub device_object : ℕ → ObjectSpec
device_object which = record {
  site = device_site which;
  prototype = Some FUNCTION_PROTOTYPE;
  scope = Some GLOBAL;
  value = None;
  properties =
      record {
        name = LENGTH;
        content = spec.Prim (number_of 0);
        attrs = ALL_ATTRS;
      } ∷ [];
}

-- the property of the global object that has it, under this name
abbrev pub property_named : NameId → ℕ → PropertySpec
property_named name which =
    record {
      name = name;
      content = spec.Object (device_site which);
      attrs = DONT_ENUM;
    }

-- .. in a program with these names
abbrev pub device_property : List (List ℕ) → ℕ → Signature → PropertySpec
device_property names which s = property_named (number names s.name) which

-- a name is that of a device
abbrev pub is_of_device : List (List ℕ) → List Signature → NameId → Bool
is_of_device names signatures name =
    list_any (λ (s : Signature). (number names s.name).0 == name.0) signatures

-- the properties of the global object, where those of devices take the place of others
abbrev pub properties_with : List (List ℕ) → List Signature → List PropertySpec → List PropertySpec
properties_with names signatures properties =
    filter (λ (q : PropertySpec). not (is_of_device names signatures q.name)) properties
    ++ map (λ row. device_property names row.0 row.1) (enumerate_from 0 signatures)

abbrev pub object_with_devices : List (List ℕ) → List Signature → ObjectSpec → ObjectSpec
object_with_devices names signatures o =
    if o.site.0 == GLOBAL.0 then record o {
      properties = properties_with names signatures
          o.properties;
    } else o

-- the objects that are there when a run begins: the built-in ones, and behind them those of devices
unfoldable pub opening_with : List (List ℕ) → List Signature → List ObjectSpec
opening_with names signatures =
    map (object_with_devices names signatures) opening_objects
    ++ map (λ row. device_object row.0) (enumerate_from 0 signatures)
