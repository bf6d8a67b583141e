-- The place laws of the single steps, and what completes the rest of a production.
use Rattle.std.proofs.Common.{◌≡◌, ◌≢◌, ◌⊎◌, inl, inr, not, ◌||◌, ℕ, zero, suc, ◌<◌, ◌≤◌, Bool, true, false, true≢false, [], ◌∷◌, ◌++◌, length, if◌then◌else◌, suc-le-suc, refl, sym, ap, ◌∙◌, subst, append_assoc, arith}
use Rattle.ja_lex.specs.declared.token.Token.{Token}
use Rattle.ja_syntax.specs.declared.symbol.Symbol.{Symbol}
use Rattle.ja_syntax.specs.declared.symbol.Symbol.TheVariants.{End}
use Rattle.ja_syntax.specs.Symbols.{same_symbol}
use Rattle.ja_grammar.specs.declared.fault.Refusal.{Refusal}
use Rattle.ja_grammar.specs.declared.fault.Refusal.TheVariants.{Unexpected, Deep, DeepLabel}
use Rattle.ja_grammar.specs.Input.{Tokens, head, next, behind, symbol, Outcome, Done, Refused, Parser, and_then, ◌>>=◌, pure, refuse, look_second, Rules, strict, unless, take_token, enter, expect}
use Rattle.ja_grammar.specs.Language.{is_level, is_same}
use Rattle.ja_grammar.specs.Productions.{Is, HasRoom}
use Rattle.ja_grammar.proofs.Outcomes.{done_rest, same_done, same_refused, done_not_refused, refused_not_done, same_symbol_true, same_symbol_false, cons_of, rest_of, head_behind, expect_done, unless_reads, unless_refuses}
use Rattle.ja_grammar.proofs.Shrinks.{Leaves, Moves, shrinks_by, split_within}
use Rattle.ja_grammar.proofs.Good.{Follow, Reason, lifted, elsewhere, is_jump, Completes, CompletesWith, Viable, Sample, Stops, Refuses, GoodAt, unexpected_stays, refuse_good, lifted_good, like_good, look_good}
use Rattle.ja_grammar.proofs.Real.{IsRealAfter, real_append}
use Rattle.ja_grammar.proofs.Strict.{strict_asks, strict_room, strict_room_label, strict_full, strict_full_label}

-- ---- samples

-- nothing is left
pub pure_sample : {U : Tokens} {A : Type 0} {F : Follow} {W : A → Type 0} (a : A) → W a
    → Sample U (pure a) F F W
pure_sample a w =
    record {
      more = [];
      value = a;
      real = tt;
      fits = w;
      follows = λ tail ends. ends;
      reads = λ tail ends. refl;
    }

-- two parts
pub bind_sample : {U : Tokens} {A B : Type 0} {p : Parser A} {f : A → Parser B} {F G H : Follow}
    {V : A → Type 0} {W : B → Type 0}
    → Sample U p F G V → ((a : A) → V a → Sample U (f a) G H W) → Sample U (p >>= f) F H W
bind_sample {U} {f = f} {F} {G} {H} {V} {W} first second = record {
  more = first.more ++ s.more;
  value = s.value;
  real = real_append U first.more s.more first.real s.real;
  fits = s.fits;
  follows =
      λ tail ends. rw (append_assoc first.more s.more tail)
      (first.follows (s.more ++ tail) (s.follows tail ends));
  reads =
      λ tail ends. rw (append_assoc first.more s.more tail)
      (ap (λ o. and_then o f) (first.reads (s.more ++ tail) (s.follows tail ends))
      ∙ s.reads tail ends);
}
  where
    s : Sample U (f first.value) G H W
    s = second first.value first.fits

-- one token
pub expect_sample : {U : Tokens} (k : Symbol) (t : Token) {F G : Follow} {W : Token → Type 0}
    → Is k t → IsRealAfter U t → W t → ((tail : Tokens) → G tail → F (t ∷ tail))
    → Sample U (expect k) F G W
expect_sample k t is real w starts =
    record {
      more = t ∷ [];
      value = t;
      real = (real, tt);
      fits = w;
      follows = starts;
      reads = λ tail ends. expect_done k t tail is;
    }

-- the production ends here, because of what follows
pub end_sample : {U : Tokens} {A : Type 0} {q : Parser A} {F G : Follow} {W : A → Type 0} (a : A)
    → W a
    → ((tail : Tokens) → G tail → F tail) → ((tail : Tokens) → G tail → q tail ≡ Done a tail)
    → Sample U q F G W
end_sample a w follow reads =
    record { more = []; value = a; real = tt; fits = w; follows = follow; reads = reads }

-- ---- a token

-- takes a token that is not the end
pub take_good : {U : Tokens} {O : Refusal} (J : Reason O) (F : Follow) (W : Token → Type 0)
    (i : Tokens) → next i ≢ End → W (head i) → GoodAt U J take_token take_token F W i
take_good {U} J F W i more w = record {
  done = λ t r e. same_done (λ t r. Stops U take_token take_token F W i t r) e (record {
    before = head i ∷ [];
    split = cons_of i more;
    local = λ s h. refl;
    roomy = λ s h. refl;
    viable = ([], head i, w, tt, λ tail ends. refl);
  });
  refused = λ why r e. absurd (done_not_refused e);
}

-- ---- where a rule is asked

-- two parsers, written otherwise
subst_good : {U : Tokens} {O : Refusal} {A : Type 0} {J : Reason O} {F : Follow} {W : A → Type 0}
    {i : Tokens} {p p' q q' : Parser A} → p ≡ p' → q ≡ q' → GoodAt U J p q F W i
    → GoodAt U J p' q' F W i
subst_good {U} {J = J} {F = F} {W = W} {i = i} {p' = p'} {q = q} e f h =
    subst (λ y. GoodAt U J p' y F W i) f (subst (λ y. GoodAt U J y q F W i) e h)

refuses_all : {A : Type 0} (g : Rules) (why : Refusal) (p : Parser A)
    → ((s : Tokens) → g why s ≡ true) → refuse why ≡ unless g why p
refuses_all g why p on = λ n. λ s. sym (unless_refuses g why p s (on s)) n

reads_all : {A : Type 0} (g : Rules) (why : Refusal) (p : Parser A)
    → ((s : Tokens) → g why s ≡ false) → p ≡ unless g why p
reads_all g why p off = λ n. λ s. sym (unless_reads g why p s (off s)) n

-- a rule that is no level's: it is asked, and `q` may leave it out
pub unless_good : {U : Tokens} {O : Refusal} {A : Type 0} (J : Reason O) (F : Follow)
    (W : A → Type 0) (d : ℕ) (g' : Rules) (why : Refusal) (p q : Parser A) (i : Tokens)
    → is_level why ≡ false
    → ((s : Tokens) → g' why s ≡ not (is_same O why)) → J.right why [] i
    → (is_same O why ≡ true → CompletesWith U q F W [] why i)
    → GoodAt U J (unless (strict d) why p) (unless g' why q) F W i
unless_good {U} {O} J F W d g' why p q i level asks h goes = go (is_same O why) refl
  where
    strictly : refuse why ≡ unless (strict d) why p
    strictly = refuses_all (strict d) why p (λ s. strict_asks d why s level)

    go : (b : Bool) → is_same O why ≡ b → GoodAt U J (unless (strict d) why p) (unless g' why q) F W
        i
    go true out =
        subst_good strictly (reads_all g' why q (λ s. asks s ∙ ap not out))
        (lifted_good J F W why q i (ap (λ b. b || is_same O why) level ∙ out) h (goes out))
    go false kept =
        subst_good strictly (refuses_all g' why q (λ s. asks s ∙ ap not kept))
        (refuse_good J F W why i (ap (λ b. b || is_same O why) level ∙ kept) h)

-- a level: none is left, or reading goes on
pub level_good : {U : Tokens} {O : Refusal} {A : Type 0} (J : Reason O) (F : Follow)
    (W : A → Type 0) (d : ℕ) (g' : Rules) (why : Refusal) (p q : Parser A) (i : Tokens)
    → is_level why ≡ true
    → ((s : Tokens) → g' why s ≡ false) → (d ≡ 0 → J.right why [] i)
    → CompletesWith U q F W [] why i → (0 < d → GoodAt U J p q F W i)
    → GoodAt U J (unless (strict d) why p) (unless g' why q) F W i
level_good {U} {O} J F W zero g' why p q i level asks h goes good =
    subst_good (refuses_all (strict 0) why p (full why level)) (reads_all g' why q asks)
    (lifted_good J F W why q i (ap (λ b. b || is_same O why) level) (h refl) goes)
  where
    full : (why : Refusal) → is_level why ≡ true → (s : Tokens) → strict 0 why s ≡ true
    full Deep level s = strict_full s
    full (DeepLabel place) level s = strict_full_label place s
    full _ level s = absurd (cc level)
level_good J F W (suc d) g' why p q i level asks h goes good =
    subst_good (reads_all (strict (suc d)) why p (room why level)) (reads_all g' why q asks)
    (good (omega arith))
  where
    room : (why : Refusal) → is_level why ≡ true → (s : Tokens) → strict (suc d) why s ≡ false
    room Deep level s = strict_room (suc d) s (omega arith)
    room (DeepLabel place) level s = strict_room_label (suc d) place s (omega arith)
    room _ level s = absurd (cc level)

-- takes a token that counts
pub enter_good : {U : Tokens} {O : Refusal} (J : Reason O) (F : Follow) (W : Token → Type 0) (d : ℕ)
    (g' : Rules) (i : Tokens) → ((s : Tokens) → HasRoom g' s) → next i ≢ End → J.right Deep [] i
    → W (head i)
    → GoodAt U J (enter (strict d)) (enter g') F W i
unfolding enter
enter_good J F W d g' i room more h w =
    level_good J F W d g' Deep take_token take_token i refl room (λ _. h)
    (head i ∷ [], head i, w, λ tail ends. (refl, refl), tt) (λ _. take_good J F W i more w)

-- by a test
pub if_good : {U : Tokens} {O : Refusal} {A : Type 0} {J : Reason O} {F : Follow} {W : A → Type 0}
    (b : Bool) (p p' q q' : Parser A) (i : Tokens)
    → (b ≡ true → GoodAt U J p q F W i) → (b ≡ false → GoodAt U J p' q' F W i)
    → GoodAt U J (if b then p else p') (if b then q else q') F W i
if_good true p p' q q' i on off = on refl
if_good false p p' q q' i on off = off refl

-- takes a token with this symbol, or refuses
pub expect_good : {U : Tokens} {O : Refusal} (J : Reason O) (F : Follow) (W : Token → Type 0)
    (k : Symbol) (i : Tokens) → k ≢ End → (next i ≢ k → J.right Unexpected [] i)
    → (Is k (head i) → W (head i))
    → GoodAt U J (expect k) (expect k) F W i
unfolding expect
expect_good {U} {O} J F W k i more h w = look_good by by i (go (same_symbol (next i) k) refl)
  where
    by : Token → Parser Token
    by t = λ i. if same_symbol (symbol t) k then Done (head i) (behind i) else Refused Unexpected i

    go : (b : Bool) → same_symbol (next i) k ≡ b → GoodAt U J (by (head i)) (by (head i)) F W i
    go true e =
        subst (λ b. let p : Parser Token = λ i. if b then Done (head i) (behind i)
        else Refused Unexpected i in GoodAt U J p p F W i) (sym e)
        (let at = same_symbol_true (next i) k e in
        take_good J F W i (λ ends. more (sym at ∙ ends)) (w at))
    go false e =
        subst (λ b. let p : Parser Token = λ i. if b then Done (head i) (behind i)
        else Refused Unexpected i in GoodAt U J p p F W i) (sym e)
        (refuse_good J F W Unexpected i (unexpected_stays O) (h (same_symbol_false (next i) k e)))

-- ---- by the next two tokens

-- The next token is refused, for a reason by the one behind it.
pub second_refused : {U : Tokens} {O : Refusal} {A : Type 0} (J : Reason O) (F : Follow)
    (W : A → Type 0) (why : Token → Refusal) (p q : Parser A) (i : Tokens)
    → ((u : Token) → is_jump (why u) ≡ true)
    → ((u : Token) → is_level (why u) ≡ false) → ((u v : Token) → elsewhere (why u) v ≡ false)
    → ((s : Tokens) → p s ≡ Refused (why (head (behind s))) s)
    → ((s : Tokens) → lifted O (why (head (behind s))) ≡ false
    → q s ≡ Refused (why (head (behind s))) s)
    → (lifted O (why (head (behind i))) ≡ true → CompletesWith U q F W [] (why (head (behind i))) i)
    → J.right (why (head (behind i))) [] i → GoodAt U J p q F W i
second_refused {U} {O} {A} J F W why p q i jump level nowhere reads reads' goes h = record {
  done = λ b r e. absurd (refused_not_done (sym (reads i) ∙ e));
  refused =
      λ v r e. same_refused {A = A} (λ v r. Refuses U J p q F W i v r) (sym (reads i) ∙ e) (record {
        before = [];
        split = refl;
        whys = λ s. why (head (behind s));
        nearly = λ s same. ap why (sym same);
        varies = λ s. inr (jump (head (behind s)));
        level = λ s. level (head (behind s)) ∙ sym (level (head (behind i)));
        local = λ s _. reads s;
        roomy = λ s _ off. reads' s off;
        others = λ s on. absurd (true≢false (sym on ∙ nowhere (head (behind i)) (head s)));
        viable = tt;
        goes_on = goes;
        right = h;
      });
}

-- what stops leaves no more tokens than there were
pub good_within : {U : Tokens} {O : Refusal} {A : Type 0} {J : Reason O} {p q : Parser A}
    {F : Follow} {W : A → Type 0} (i : Tokens) → GoodAt U J p q F W i → Leaves false (p i) i
good_within {A = A} {p = p} i h = shrinks_by (go (p i) refl)
  where
    go : (o : Outcome A) → p i ≡ o → length (rest_of o) ≤ length i
    go (Done a r) e = let s = h.done a r e in split_within s.before r s.split
    go (Refused why r) e = let s = h.refused why r e in split_within s.before r s.split

-- What stops takes the next token, where it does so in another text with that token.
pub good_moves : {U : Tokens} {O : Refusal} {A : Type 0} {J : Reason O} {p q : Parser A}
    {F : Follow} {W : A → Type 0} (i s : Tokens) (a : A) (m : Tokens) → GoodAt U J p q F W i
    → head i ≡ head s → p s ≡ Done a m → suc (length m) ≤ length s → Moves p i
good_moves {A = A} {p = p} {q = q} {F = F} {W = W} i s a m h same reads fewer =
    record { moves = go (p i) refl }
  where
    longer : (w r : Tokens) → i ≡ w ++ r → (w ≡ [] → ⊥) → suc (length r) ≤ length i
    longer [] r e some = absurd (some refl)
    longer (t ∷ w) r e some = let n = split_within w r (ap behind e) in
        rw (ap length e) (suc-le-suc (split_within w r refl))

    stuck : (o : Tokens → Outcome A) (before r : Tokens) → i ≡ before ++ r
        → ((x : Tokens) → head r ≡ head x → p (before ++ x) ≡ o x) → before ≡ [] → p s ≡ o s
    stuck o before r split local none =
        sym (ap (λ w. p (w ++ s)) none) ∙ local s
        (sym (ap head (split ∙ ap (λ w. w ++ r) none)) ∙ same)

    go : (o : Outcome A) → p i ≡ o → suc (length (rest_of o)) ≤ length i
    go (Done b r) e = let t = h.done b r e in longer t.before r t.split (λ none.
        let n = ap length (done_rest (sym reads
        ∙ stuck (Done b) t.before r t.split t.local none)) in omega arith)
    go (Refused why r) e = let t = h.refused why r e in
        longer t.before r t.split (λ none. done_not_refused
        (sym reads ∙ stuck (λ x. Refused (t.whys x) x) t.before r t.split t.local none))

-- Goes on by the next two tokens: whatever comes, the first of them is taken, and the first alone
-- can be completed; no refusal behind it alone is made for what it is.
pub look_second_good : {U : Tokens} {O : Refusal} {A : Type 0} {J : Reason O} {F : Follow}
    {W : A → Type 0} (f g : Token → Token → Parser A) (i : Tokens)
    → Moves (f (head i) (head (behind i))) i
    → Completes U (look_second g) F W (head i ∷ [])
    → ((why : Refusal) (u : Token) (r : Tokens) → J.right why (head i ∷ []) r
    → elsewhere why u ≡ true → ⊥)
    → GoodAt U J (f (head i) (head (behind i))) (g (head i) (head (behind i))) F W i
    → GoodAt U J (look_second f) (look_second g) F W i
look_second_good {U} {O} {A} {J} {F} {W} f g i moves one named h =
    like_good U J (f t u) (g t u) F W (look_second f) (look_second g) i M Far reached far refl
    (agree f) (agree g) viable h
  where
    t : Token
    t = head i

    u : Token
    u = head (behind i)

    M : Tokens → Tokens → Type 0
    M before r = (w : Tokens) × (before ≡ head i ∷ w) × (behind i ≡ w ++ r)

    -- another token stands behind the first
    Far : Tokens → Type 0
    Far before = behind before ≢ []

    far : (why : Refusal) (u : Token) (before r : Tokens) → M before r → J.right why before r
        → elsewhere why u ≡ true → Far before
    far why u before r m right other none =
        named why u r (subst (λ x. J.right why x r)
        (m.1 ∙ ap (λ x. head i ∷ x) (sym (ap behind m.1) ∙ none)) right) other

    reached : (before r : Tokens) → rest_of (f (head i) (head (behind i)) i) ≡ r → i ≡ before ++ r
        → M before r
    reached [] r e split = absurd (omega (arith, moves.moves, ap length e, ap length split))
    reached (v ∷ w) r e split = (w, ap (λ x. x ∷ w) (sym (ap head split)), ap behind split)

    second : (w r s : Tokens) → behind i ≡ w ++ r → (head r ≡ head s) ⊎ (w ≢ [])
        → head (behind i) ≡ head (w ++ s)
    second w r s e (inl same) = head_behind w (behind i) r s e same
    second [] r s e (inr some) = absurd (some refl)
    second (v ∷ w) r s e (inr some) = ap head e

    near : (before w r s : Tokens) → before ≡ head i ∷ w → (head r ≡ head s) ⊎ Far before
        → (head r ≡ head s) ⊎ (w ≢ [])
    near before w r s e (inl same) = inl same
    near before w r s e (inr some) = inr (λ none. some (ap behind e ∙ none))

    agree : (f : Token → Token → Parser A) (before r s : Tokens) → M before r
        → (head r ≡ head s) ⊎ Far before
        → f (head (before ++ s)) (head (behind (before ++ s))) (before ++ s)
        ≡ f (head i) (head (behind i)) (before ++ s)
    agree f before r s m same = rw (m.1, second m.0 r s m.2 (near before m.0 r s m.1 same)) refl

    one_more : (w r : Tokens) → behind i ≡ w ++ r
        → Viable U (g (head i) (head (behind i))) F W (head i ∷ w)
        → Viable U (look_second g) F W (head i ∷ w)
    one_more [] r e c = one
    one_more (v ∷ w) r e c = (
      c.0,
      c.1,
      c.2,
      c.3,
      λ tail ends. ap (λ x. g (head i) x (head i ∷ v ∷ w ++ (c.0 ++ tail)))
          (sym (ap head e)) ∙ c.4 tail ends,
    )

    viable : (before r : Tokens) → M before r → Viable U (g (head i) (head (behind i))) F W before
        → Viable U (look_second g) F W before
    viable before r m =
        subst (λ x. Viable U (g (head i) (head (behind i))) F W x → Viable U (look_second g) F W x)
        (sym m.1) (one_more m.0 r m.2)
