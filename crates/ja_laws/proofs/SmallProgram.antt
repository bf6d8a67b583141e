-- A small program and small states, for what is computed: the built-in sites and those of two
-- functions, few names of its own, and states in which nothing is known but what is said.
use Rattle.std.specs.Prelude.{ℕ, pos, true, false, List, [], ◌∷◌, ◌++◌, filter, map, replicate, Some, None, String}
use Rattle.std.specs.Global.{Global}
use lib.Chars.{codes}
use Rattle.ja_base.specs.declared.ids.FnId.{FnId}
use Rattle.ja_base.specs.declared.ids.Label.{Label}
use Rattle.ja_base.specs.declared.ids.NameId.{NameId}
use Rattle.ja_base.specs.declared.ids.Place.{Place}
use Rattle.ja_base.specs.declared.ids.Reg.{Reg}
use Rattle.ja_base.specs.declared.ids.Site.{Site}
use Rattle.ja_prim.specs.declared.primitive.Num.TheVariants.{Whole}
use Rattle.ja_prim.specs.declared.primitive.Primitive.TheVariants as primitive
use Rattle.ja_prim.specs.declared.signature.Signature.{Signature}
use Rattle.ja_graph.specs.declared.attrs.Attrs.{Attrs}
use Rattle.ja_graph.specs.declared.attrs.TheConstants.{NO_ATTRS}
use Rattle.ja_graph.specs.declared.node.Node.{Node}
use Rattle.ja_graph.specs.declared.node.Node.TheVariants as node
use Rattle.ja_graph.specs.declared.node.NodeInfo.{NodeInfo}
use Rattle.ja_graph.specs.declared.program.Class.{Class}
use Rattle.ja_graph.specs.declared.program.Class.TheVariants as class
use Rattle.ja_graph.specs.declared.program.Function.{Function}
use Rattle.ja_graph.specs.declared.program.Program.{Program}
use Rattle.ja_graph.specs.declared.program.SiteInfo.{SiteInfo}
use Rattle.ja_abstract.specs.declared.abstraction.AAttrs.{AAttrs}
use Rattle.ja_abstract.specs.declared.abstraction.Flags.{Flags}
use Rattle.ja_abstract.specs.declared.abstraction.Key.{Key}
use Rattle.ja_abstract.specs.declared.abstraction.NumberPart.{NumberPart}
use Rattle.ja_abstract.specs.declared.abstraction.TextPart.{TextPart}
use Rattle.ja_abstract.specs.AbstractValue.{AbstractValue, AbstractProperty, of_primitive, of_attrs, undefined_value, absent_property}
use Rattle.ja_abstract.specs.AbstractState.{AbstractState, new, old, site_of, labels_below, name_key, exactly_none, with_register}
use Rattle.ja_abstract.specs.Primitives.{of_bools}
use Rattle.ja_abstract.specs.Reading.{View}
use Rattle.ja_abstract.specs.Resolved.{Demands, Entries}

-- ---- the program

abbrev place : Place
place = record { line = 1; column = 1 }

abbrev site : Class → SiteInfo
site c = record {
  class = c;
  place = place;
  owner = None;
  calls = None;
  constructs = None;
  builtin = None;
}

abbrev pub function_id : ℕ → FnId
function_id f = record { 0 = f }

abbrev pub reg : ℕ → Reg
reg r = record { 0 = r }

abbrev pub name : ℕ → NameId
name n = record { 0 = n }

-- a node goes on to 1, to 2 on false, and to 3 with what it throws
abbrev pub info : Node → NodeInfo
info n = record {
  node = n;
  next = record { 0 = 1 };
  other = record { 0 = 2 };
  handler = record { 0 = 3 };
  place = place;
}

-- The sites: those of an object, an array, a function, its prototype, an activation, its arguments
-- object, an error, and a function that constructs nothing have the numbers of built-in
-- constructors, of which no row speaks; so few labels are enough.
abbrev pub object_site : Site
object_site = site_of 3

abbrev pub array_site : Site
array_site = site_of 4

abbrev pub function_site : Site
function_site = site_of 6

abbrev pub proto_site : Site
proto_site = site_of 8

abbrev pub activation_site : Site
activation_site = site_of 10

abbrev pub arguments_site : Site
arguments_site = site_of 12

abbrev pub error_site : Site
error_site = site_of 14

abbrev pub plain_site : Site
plain_site = site_of 15

abbrev sites : List SiteInfo
sites =
    replicate 4 (site class.Object)
    ++ (site class.Array ∷ site class.Object
    ∷ record (site class.Function) {
      calls = Some (function_id 1);
      constructs = Some (function_id 1);
    }
    ∷ replicate 3 (site class.Object)
    ++ (site class.Activation ∷ replicate 3 (site class.Object)
    ++ (site class.Error
    ∷ record (site class.Function) { calls = Some (function_id 2) } ∷ [])))

abbrev function : List NameId → List NodeInfo → Function
function parameters nodes =
    record { name = []; parameters = parameters; registers = 12; nodes = nodes }

abbrev exits : List NodeInfo
exits = info (node.Return (reg 5)) ∷ info node.Escape ∷ []

-- function 1 has the parameters p and q, and an arguments object
abbrev functions : List Function
functions =
    function [] exits
    ∷ function (name 106 ∷ name 107 ∷ []) (info (node.Enter activation_site (Some arguments_site))
    ∷ exits)
    ∷ function [] exits ∷ function [] exits ∷ []

-- the names that have numbers of their own, and from 104 on those of the program
abbrev names : List (List ℕ)
names =
    replicate 101 []
    ++ (codes "length"
    ∷ codes "callee"
    ∷ codes "arguments"
    ∷ codes "prototype"
    ∷ codes "constructor" ∷ codes "p" ∷ codes "q" ∷ codes "0" ∷ codes "5" ∷ [])

-- a device that answers truth values and numbers
abbrev answers_truths_and_numbers : Signature
answers_truths_and_numbers = record {
  name = [];
  kinds =
      record { undefined = false; null = false; boolean = true; number = true; text = false };
}

abbrev pub small : String Global → Program
small text = record {
  functions = functions;
  text_functions = 2;
  sites = sites;
  names = names;
  signatures = answers_truths_and_numbers ∷ [];
  opening = [];
  value_first = function_id 2;
  text_first = function_id 3;
  text = text;
}

-- ---- its labels and keys

-- those of the program, and of all built-in prototypes
abbrev pub labels : List Label
labels = labels_below 24

abbrev pub global_object : Label
global_object = new (site_of 0)

abbrev pub object : Label
object = new object_site

abbrev pub old_objects : Label
old_objects = old object_site

abbrev pub array : Label
array = new array_site

abbrev pub function_object : Label
function_object = new function_site

abbrev pub proto : Label
proto = new proto_site

abbrev pub activation : Label
activation = new activation_site

abbrev pub arguments_object : Label
arguments_object = new arguments_site

abbrev pub error : Label
error = new error_site

abbrev pub plain_function : Label
plain_function = new plain_site

abbrev pub message_name : Key
message_name = name_key 74

abbrev pub length_name : Key
length_name = name_key 101

abbrev pub prototype_name : Key
prototype_name = name_key 104

abbrev pub p_name : Key
p_name = name_key 106

abbrev pub q_name : Key
q_name = name_key 107

abbrev pub zero_name : Key
zero_name = name_key 108

abbrev pub five_name : Key
five_name = name_key 109

-- ---- values

abbrev pub number : ℕ → AbstractValue
number n = of_primitive (primitive.Number (Whole (pos n)))

abbrev pub one_text : List ℕ → AbstractValue
one_text t = of_primitive (primitive.Text t)

abbrev pub true_value : AbstractValue
true_value = of_bools true false

abbrev pub false_value : AbstractValue
false_value = of_bools false true

abbrev pub with_attrs : AbstractValue → Attrs → AbstractProperty
with_attrs v a = record { value = v; attrs = of_attrs a }

-- a property without attributes
abbrev pub plain : AbstractValue → AbstractProperty
plain v = with_attrs v NO_ATTRS

-- ---- states

-- each register undefined, each property absent, nothing made
abbrev pub blank : AbstractState
blank = record {
  register = λ r. undefined_value;
  property = λ l k. absent_property;
  mask = λ s. exactly_none;
}

abbrev pub holding : ℕ → AbstractValue → AbstractState → AbstractState
holding r v a = with_register a (reg r) v

abbrev pub no_entries : Entries
no_entries l k = None

abbrev pub view : String Global → AbstractState → View
view text a = record { program = small text; state = a; entries = no_entries }

-- ---- what is seen of them: sets as lists

abbrev pub SeenValue : Type 0
SeenValue = Flags × (NumberPart × (TextPart × List Label))

abbrev pub seen : AbstractValue → SeenValue
seen v = (v.flags, (v.number, (v.text, filter v.label labels)))

abbrev pub SeenProperty : Type 0
SeenProperty = SeenValue × AAttrs

abbrev pub seen_at : Label → Key → AbstractState → SeenProperty
seen_at l k a = (seen (a.property l k).value, (a.property l k).attrs)

abbrev pub seen_property : AbstractProperty → SeenProperty
seen_property q = (seen q.value, q.attrs)

-- the pairs that are demanded at some keys
abbrev pub demanded : List Key → Demands → List (Key × List Label)
demanded keys d = map (λ (k : Key). (k, filter (λ l. d l k) labels)) keys
