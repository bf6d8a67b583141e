-- A text, and what it is lowered with: what the laws of the whole speak of.
use Rattle.std.specs.Prelude.{◌+◌, ℕ, List, length}
use Rattle.ja_prim.specs.declared.signature.Signature.{Signature}
use Rattle.ja_lower.specs.declared.lowered.Lowered.{Lowered}
use Rattle.ja_lower.specs.Lowering.{first_names, behind_devices, followed_by, lowered, lowered_prelude, lowered_with_prelude}
use Rattle.ja_syntax.specs.declared.tree.Statement.{Statement}

-- the names that come first, the paths and the texts of the built-in functions, the devices, the
-- number of the first site, and the text
pub record Setting : Type 0 where
  pub names : List (List ℕ)
  pub paths : List (List ℕ)
  pub prelude : List Statement
  pub signatures : List Signature
  pub first_site : ℕ
  pub statements : List Statement

-- the names that come before those of the text
abbrev pub names_before : Setting → List (List ℕ)
names_before s = first_names s.names s.prelude s.signatures

-- what it is lowered to, with the functions of devices and the built-in ones behind its own
abbrev pub whole : Setting → Lowered
whole s =
    lowered_with_prelude s.names s.paths s.prelude s.signatures s.first_site s.statements

-- the text alone
abbrev pub text_of : Setting → Lowered
text_of s = lowered (names_before s) s.first_site s.statements

-- a text, and behind it the functions of the devices, which have no sites, and the built-in ones
abbrev pub with_others : Setting → Lowered → Lowered
with_others s text =
    followed_by text (behind_devices s.signatures (lowered_prelude s.names s.paths
    (s.first_site + length text.sites) (length text.functions + length s.signatures) s.prelude))
