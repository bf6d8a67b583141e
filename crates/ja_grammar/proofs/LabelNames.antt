-- The labels of a context stand before it, so that they can be written again behind a `break`.
use Rattle.std.proofs.Common.{◌≡◌, ◌≢◌, ℕ, zero, suc, Bool, true, false, not, ◌&&◌, ◌||◌, ◌==◌, List, [], ◌∷◌, length, Some, unwrap_or, if◌then◌else◌, refl, sym, ap, ◌∙◌}
use Rattle.std.proofs.lemmas.Slice.Eq.{bytes_eq-Decides}
use Rattle.std.specs.List.{list_all, list_any}
use Rattle.std.specs.Str.{bytes_eq}
use Rattle.ja_base.proofs.Tests.{and_left_true, and_right_true}
use Rattle.ja_lex.specs.declared.token.Token.{Token}
use Rattle.ja_lex.specs.declared.token.TokenKind.{TokenKind}
use Rattle.ja_lex.specs.declared.token.TokenKind.TheVariants.{Word, Number, Text, Mark, End, Bad}
use Rattle.ja_syntax.specs.declared.symbol.Symbol.{Symbol}
use Rattle.ja_syntax.specs.declared.symbol.Symbol.TheVariants as k
use Rattle.ja_syntax.specs.Lookups.{lookup}
use Rattle.ja_syntax.specs.Symbols.{same_symbol, symbol_of, word_of, mark_symbol, punctuators}
use Rattle.ja_grammar.specs.Contexts.{Label, Context, marked, loop_context, switch_context, labelled_context, has_label, may_break}
use Rattle.ja_grammar.specs.Forms.{word, is_name, is_label_behind}
use Rattle.ja_grammar.specs.Input.{Tokens, symbol}
use Rattle.ja_grammar.proofs.Real.{IsRealAfter}
use Rattle.ja_grammar.proofs.Levels.{IsNamed, AllNamed, AreNames}
use Rattle.ja_grammar.proofs.Outcomes.{same_symbol_is}
use Rattle.ja_grammar.proofs.SampleTokens.{token, end_behind}
use Rattle.ja_grammar.proofs.Words.{word_alone}

-- ---- a token whose symbol is a name is a word

-- a table of other symbols gives no name
no_name : (table : List (List ℕ × Symbol))
    → list_all (λ (e : List ℕ × Symbol). not (same_symbol e.1 k.Name)) table ≡ true
    → (text : List ℕ)
    → not (same_symbol (unwrap_or (lookup table text) k.Foreign) k.Name) ≡ true
unfolding same_symbol
no_name [] h text = refl
no_name (e ∷ es) h text =
    go (bytes_eq e.0 text) (no_name es (and_right_true (not (same_symbol e.1 k.Name)) _ h) text)
  where
    go : (b : Bool) → not (same_symbol (unwrap_or (lookup es text) k.Foreign) k.Name) ≡ true
        → not (same_symbol (unwrap_or (if b then Some e.1 else lookup es text) k.Foreign) k.Name)
        ≡ true
    go true rest = and_left_true (not (same_symbol e.1 k.Name)) _ h
    go false rest = rest

-- no mark is a name
mark_no_name : (text : List ℕ) → mark_symbol text ≢ k.Name
unfolding mark_symbol punctuators same_symbol
mark_no_name text is =
    absurd (off (sym (ap not (same_symbol_is (mark_symbol text) k.Name is))
    ∙ no_name punctuators refl text))
  where
    off : false ≡ true → ⊥
    off e = cc e

word_is_kind : (t : Token) → symbol t ≡ k.Name → Word (word t) ≡ t.kind
unfolding symbol_of word_of
word_is_kind t is = go t.kind is
  where
    go : (kind : TokenKind) → symbol_of kind ≡ k.Name → Word (word_of kind) ≡ kind
    go (Word text) h = refl
    go (Number value) h = absurd (cc h)
    go (Text units) h = absurd (cc h)
    go (Mark text) h = absurd (mark_no_name text h)
    go End h = absurd (cc h)
    go (Bad fault) h = absurd (cc h)

-- ---- the contexts within one

marked_names : (U : Tokens) (n : ℕ) (ls : List Label) → AllNamed U ls → AllNamed U (marked n ls)
unfolding marked
marked_names U zero ls h = h
marked_names U (suc n) [] h = h
marked_names U (suc n) (l ∷ ls) h = (h.0, marked_names U n ls h.1)

pub loop_names : {U : Tokens} (c : Context) (n : ℕ) → AreNames U c → AreNames U (loop_context c n)
loop_names {U} c n h = record { all = marked_names U n c.labels h.all }

pub switch_names : {U : Tokens} (c : Context) → AreNames U c → AreNames U (switch_context c)
switch_names c h = record { all = h.all }

-- behind one more token
names_more : (U : Tokens) (t : Token) (ls : List Label) → AllNamed U ls → AllNamed (t ∷ U) ls
names_more U t [] h = tt
names_more U t (l ∷ ls) h =
    ((t ∷ h.0.0, h.0.1, h.0.2, ap (λ x. t ∷ x) h.0.3, h.0.4, h.0.5), names_more U t ls h.1)

-- which may be a label
pub labelled_names : (U : Tokens) (c : Context) (t : Token) → symbol t ≡ k.Name → AreNames U c
    → AreNames (t ∷ U) (labelled_context c (word t))
labelled_names U c t is h =
    record { all = (([], t, U, refl, is, word_is_kind t is), names_more U t c.labels h.all) }

-- ---- a label where a `break` needs one

pub break_label : (U : Tokens) (c : Context) → AreNames U c → may_break c ≡ true
    → c.in_breakable ≡ false → (u : Token) × IsRealAfter U u × (is_label_behind u ≡ true)
    × (has_label c (word u) ≡ true)
unfolding has_label is_label_behind word_of
break_label U c names may off =
    go c.labels names.all (sym (ap (λ b. b || not (length c.labels == 0)) off) ∙ may)
  where
    again : (text : List ℕ) → IsNamed U text → IsRealAfter U (token (Word text) text)
    again text h = record {
      real = λ names. let r = names h.0 h.1 h.2 h.3 h.4 in
          (text, [], end_behind (length text) ∷ [], word_alone r.0 r.1 h.1 r.2 text r.3 (sym h.5));
    }

    go : (ls : List Label) → AllNamed U ls → not (length ls == 0) ≡ true
        → (u : Token) × IsRealAfter U u × (is_label_behind u ≡ true)
        × (list_any (λ l. bytes_eq l.name (word u)) ls ≡ true)
    go [] h some = absurd (cc some)
    go (l ∷ ls) h some = let is = ap symbol_of h.0.5 ∙ h.0.4 in (
      token (Word l.name) l.name,
      again l.name h.0,
      ap (λ κ. is_name κ && true) is,
      ap (λ b. b || list_any (λ m. bytes_eq m.name l.name) ls)
          ((bytes_eq-Decides l.name l.name).1 refl),
    )
