-- Where a reading function stops, and why no text goes on there. `q` reads as `p` does, with more
-- levels and without the rule of the refusal O; `F` is what may follow, `W` what is asked of the
-- value that a completed text has, and `J` what is known of a refusal.
use Rattle.std.proofs.Common.{◌≡◌, ◌≢◌, ◌⊎◌, inl, inr, Bool, true, false, true≢false, not, ◌||◌, [], ◌∷◌, ◌++◌, refl, sym, ap, ◌∙◌, subst, append_assoc, append-nil}
use Rattle.ja_lex.specs.declared.token.Token.{Token}
use Rattle.ja_grammar.proofs.Outcomes.{same_done, same_refused, done_not_refused, refused_not_done, head_behind, rest_of}
use Rattle.ja_grammar.specs.declared.fault.Refusal.{Refusal}
use Rattle.ja_grammar.specs.declared.fault.Refusal.TheVariants.{Unexpected, RegExp, Arguments, Deep, DeepLabel, Broken, Operand, Alone, UnknownLabel}
use Rattle.ja_grammar.specs.Forms.{begins_suffix, is_label_behind}
use Rattle.ja_grammar.specs.Input.{Tokens, symbol, head, behind, Outcome, Done, Refused, Parser, and_then, ◌>>=◌, pure, refuse, look}
use Rattle.ja_grammar.specs.Language.{is_level, is_same}
use Rattle.ja_grammar.proofs.Real.{AreRealAfter, Covers, covers_front, covers_between, reals_more, real_append, real_behind, real_append_behind, real_append_second}

-- ---- what is said

-- what may follow a text
abbrev pub Follow : Type 1
Follow = Tokens → Type 0

-- the refusals that q doesn't make
abbrev pub lifted : Refusal → Refusal → Bool
lifted O why = is_level why || is_same O why

-- the next tokens with which such a refusal is made too, whatever the next token is
abbrev pub elsewhere : Refusal → Token → Bool
elsewhere (Operand place) u = not (begins_suffix (symbol u))
elsewhere (Alone place) u = not (is_label_behind u)
elsewhere _ u = false

-- what a text goes on with instead, without the rule of the refusal
abbrev pub Instead : Refusal → Tokens → Follow
Instead (Operand place) r x = elsewhere (Operand place) (head x) ≡ true
Instead (Alone place) r x = elsewhere (Alone place) (head x) ≡ true
Instead (UnknownLabel place) r x = (head r ≡ head x) × (head (behind r) ≡ head (behind x))
Instead _ r x = head r ≡ head x

-- that is the same token, or one with which it is refused too
pub instead_head : (why : Refusal) (r x : Tokens) → Instead why r x
    → (head r ≡ head x) ⊎ (elsewhere why (head x) ≡ true)
instead_head Unexpected r x h = inl h
instead_head RegExp r x h = inl h
instead_head Arguments r x h = inl h
instead_head Deep r x h = inl h
instead_head (DeepLabel place) r x h = inl h
instead_head (Broken place) r x h = inl h
instead_head (Operand place) r x h = inr h
instead_head (Alone place) r x h = inr h
instead_head (UnknownLabel place) r x h = inl h.0

-- what of a completion is none of the text's own tokens
abbrev pub added : Refusal → Tokens → Tokens
added (Operand place) x = x
added (Alone place) x = x
added (UnknownLabel place) x = behind (behind x)
added _ x = behind x

pub added_real : (U : Tokens) (why : Refusal) (c : Tokens) → AreRealAfter U c
    → AreRealAfter U (added why c)
added_real U (Operand place) c h = h
added_real U (Alone place) c h = h
added_real U (UnknownLabel place) c h = real_behind U (behind c) (real_behind U c h)
added_real U _ c h = real_behind U c h

pub added_append : (U : Tokens) (why : Refusal) (c v : Tokens) → AreRealAfter U (added why c)
    → AreRealAfter U v → AreRealAfter U (added why (c ++ v))
added_append U (Operand place) c v h g = real_append U c v h g
added_append U (Alone place) c v h g = real_append U c v h g
added_append U (UnknownLabel place) c v h g = real_append_second U c v h g
added_append U _ c v h g = real_append_behind U c v h g

-- a refusal that looks at the second token is one of these
abbrev pub is_jump : Refusal → Bool
is_jump Unexpected = true
is_jump (UnknownLabel place) = true
is_jump _ = false

-- What is known of a refusal, from the tokens before it and the rest. Where nothing was taken, it
-- is made for the next token.
pub record Reason (O : Refusal) : Type 1 where
  pub right : Refusal → Tokens → Tokens → Type 0
  pub taken : (why : Refusal) (u : Token) (r : Tokens) → right why [] r → elsewhere why u ≡ true → ⊥

-- real tokens complete these ones, which stand behind U
abbrev pub Completes : {A : Type 0} → Tokens → Parser A → Follow → (A → Type 0) → Tokens → Type 0
Completes {A} U p F W w =
    (c : Tokens) × (a : A) × W a × AreRealAfter (U ++ w) c
    × ((tail : Tokens) → F tail → p (w ++ (c ++ tail)) ≡ Done a tail)

-- the same, where a token was taken at all
abbrev pub Viable : {A : Type 0} → Tokens → Parser A → Follow → (A → Type 0) → Tokens → Type 0
Viable U p F W [] = Unit {0}
Viable U p F W (t ∷ w) = Completes U p F W (t ∷ w)

-- more tokens complete these ones, without the rule of the refusal; those that are none of the
-- text's own are real
abbrev pub CompletesWith : {A : Type 0} → Tokens → Parser A → Follow → (A → Type 0) → Tokens
    → Refusal → Tokens → Type 0
CompletesWith {A} U p F W w why r =
    (c : Tokens) × (a : A) × W a × ((tail : Tokens) → F tail
    → Instead why r (c ++ tail) × (p (w ++ (c ++ tail)) ≡ Done a tail))
    × AreRealAfter (U ++ w) (added why c)

-- real tokens are read whole that begin with one with which the refusal is made too
abbrev pub CompletesElsewhere : {A : Type 0} → Tokens → Parser A → Follow → (A → Type 0) → Refusal
    → Type 0
CompletesElsewhere {A} U p F W why =
    (c : Tokens) × (a : A) × W a × ((tail : Tokens) → F tail
    → (elsewhere why (head (c ++ tail)) ≡ true) × (p (c ++ tail) ≡ Done a tail)) × AreRealAfter U c

-- Tokens, real behind U, that `q` reads whole, where G follows, and with which F begins: what
-- completes a production of which the rest is `q`.
pub record Sample {A : Type 0} (U : Tokens) (q : Parser A) (F G : Follow) (W : A → Type 0) : Type
    0 where
  pub more : Tokens
  pub value : A
  pub real : AreRealAfter U more
  pub fits : W value
  pub follows : (tail : Tokens) → G tail → F (more ++ tail)
  pub reads : (tail : Tokens) → G tail → q (more ++ tail) ≡ Done value tail

-- `p` stops before r with a value: nothing behind the next token counts, q reads the same, and what
-- was taken can be completed
pub record Stops {A : Type 0} (U : Tokens) (p q : Parser A) (F : Follow) (W : A → Type 0)
    (i : Tokens) (a : A) (r : Tokens) : Type 0 where
  pub before : Tokens
  pub split : i ≡ before ++ r
  pub local : (s : Tokens) → head r ≡ head s → p (before ++ s) ≡ Done a s
  pub roomy : (s : Tokens) → head r ≡ head s → q (before ++ s) ≡ Done a s
  pub viable : Viable U q F W before

-- `p` refuses what stands before r. Whatever comes behind the next token, it is refused there, if
-- for another reason (`whys`), by `q` too if it makes that refusal; what was taken can be
-- completed, and where `q` doesn't make the refusal it goes on.
pub record Refuses {O : Refusal} {A : Type 0} (U : Tokens) (J : Reason O) (p q : Parser A)
    (F : Follow) (W : A → Type 0) (i : Tokens) (why : Refusal) (r : Tokens) : Type 0 where
  pub before : Tokens
  pub split : i ≡ before ++ r
  pub whys : Tokens → Refusal
  pub nearly : (s : Tokens) → head (behind r) ≡ head (behind s) → whys s ≡ why
  pub varies : (s : Tokens) → (whys s ≡ why) ⊎ (is_jump (whys s) ≡ true)
  pub level : (s : Tokens) → is_level (whys s) ≡ is_level why
  pub local : (s : Tokens) → head r ≡ head s → p (before ++ s) ≡ Refused (whys s) s
  pub roomy : (s : Tokens) → head r ≡ head s → lifted O (whys s) ≡ false
      → q (before ++ s) ≡ Refused (whys s) s
  pub others : (s : Tokens) → elsewhere why (head s) ≡ true → p (before ++ s) ≡ Refused why s
  pub viable : Viable U q F W before
  pub goes_on : lifted O why ≡ true → CompletesWith U q F W before why r
  pub right : J.right why before r

-- Reading i, behind U, by `p` stops as it should, however it ends.
pub record GoodAt {O : Refusal} {A : Type 0} (U : Tokens) (J : Reason O) (p q : Parser A)
    (F : Follow) (W : A → Type 0) (i : Tokens) : Type 0 where
  pub done : (a : A) (r : Tokens) → p i ≡ Done a r → Stops U p q F W i a r
  pub refused : (why : Refusal) (r : Tokens) → p i ≡ Refused why r → Refuses U J p q F W i why r

-- any value will do
abbrev pub Any : {A : Type 0} → A → Type 0
Any a = Unit {0}

-- a reason stays one behind more tokens
abbrev pub Closed : {O : Refusal} → Reason O → Type 0
Closed J = (why : Refusal) (w v r : Tokens) → J.right why v r → J.right why (w ++ v) r

-- no refusal is made for a rule that is never left out
pub unexpected_stays : (O : Refusal) → is_same O Unexpected ≡ false
unexpected_stays Unexpected = refl
unexpected_stays RegExp = refl
unexpected_stays Arguments = refl
unexpected_stays Deep = refl
unexpected_stays (DeepLabel place) = refl
unexpected_stays (Broken place) = refl
unexpected_stays (Operand place) = refl
unexpected_stays (Alone place) = refl
unexpected_stays (UnknownLabel place) = refl

-- ---- a value at once, a refusal at once

-- nothing is read
pub pure_good : {U : Tokens} {O : Refusal} {A : Type 0} (J : Reason O) (F : Follow) (W : A → Type 0)
    (a : A) (i : Tokens) → GoodAt U J (pure a) (pure a) F W i
pure_good {U} J F W a i = record {
  done =
      λ b r e. same_done (λ b r. Stops U (pure a) (pure a) F W i b r) e
      (record { before = []; split = refl; local = λ s h. refl; roomy = λ s h. refl; viable = tt });
  refused = λ why r e. absurd (done_not_refused e);
}

-- the next token is refused, whatever follows it, by both
pub refuse_good : {U : Tokens} {O : Refusal} {A : Type 0} (J : Reason O) (F : Follow)
    (W : A → Type 0) (why : Refusal) (i : Tokens) → lifted O why ≡ false → J.right why [] i
    → GoodAt U J (refuse {A = A} why) (refuse why) F W i
refuse_good {U} {O} J F W why i stays h = record {
  done = λ b r e. absurd (refused_not_done e);
  refused =
      λ v r e. same_refused (λ v r. Refuses U J (refuse why) (refuse why) F W i v r) e (record {
        before = [];
        split = refl;
        whys = λ _. why;
        nearly = λ s _. refl;
        varies = λ s. inl refl;
        level = λ s. refl;
        local = λ s _. refl;
        roomy = λ s _ _. refl;
        others = λ s _. refl;
        viable = tt;
        goes_on = λ on. absurd (true≢false (sym on ∙ stays));
        right = h;
      });
}

-- the next token is refused by `p` alone
pub lifted_good : {U : Tokens} {O : Refusal} {A : Type 0} (J : Reason O) (F : Follow)
    (W : A → Type 0) (why : Refusal) (q : Parser A) (i : Tokens) → lifted O why ≡ true
    → J.right why [] i
    → CompletesWith U q F W [] why i → GoodAt U J (refuse why) q F W i
lifted_good {U} {O} J F W why q i on h c = record {
  done = λ b r e. absurd (refused_not_done e);
  refused = λ v r e. same_refused (λ v r. Refuses U J (refuse why) q F W i v r) e (record {
    before = [];
    split = refl;
    whys = λ _. why;
    nearly = λ s _. refl;
    varies = λ s. inl refl;
    level = λ s. refl;
    local = λ s _. refl;
    roomy = λ s _ off. absurd (true≢false (sym on ∙ off));
    others = λ s _. refl;
    viable = tt;
    goes_on = λ _. c;
    right = h;
  });
}

-- ---- one after the other

module _ {A B : Type 0} (U : Tokens) (q : Parser A) (g : A → Parser B) (F G : Follow)
    (V : A → Type 0) (W : B → Type 0) where
  -- what is real behind U is so behind more tokens
  sample_real : (w : Tokens) {x : Parser B} (s : Sample U x F G W) → AreRealAfter (U ++ w) s.more
  sample_real w s = reals_more U (U ++ w) (covers_front U w) s.more s.real

  pub completes_first : ((a : A) → V a → Sample U (g a) F G W) → (w : Tokens) → Completes U q F V w
      → Completes U (q >>= g) G W w
  completes_first sample w h = (
    h.0 ++ s.more,
    s.value,
    s.fits,
    real_append (U ++ w) h.0 s.more h.3 (sample_real w s),
    λ tail ends. rw (append_assoc h.0 s.more tail, h.4 (s.more ++ tail) (s.follows tail ends))
        (s.reads tail ends),
  )
    where
      s : Sample U (g h.1) F G W
      s = sample h.1 h.2

  pub viable_first : ((a : A) → V a → Sample U (g a) F G W) → (w : Tokens) → Viable U q F V w
      → Viable U (q >>= g) G W w
  viable_first sample [] h = tt
  viable_first sample (t ∷ w) h = completes_first sample (t ∷ w) h

  -- the second part stands behind U', of which each token stands in U or in the first part
  pub completes_second : (U' : Tokens) (a : A) (v w : Tokens) → Covers (U' ++ w) (U ++ (v ++ w))
      → ((tail : Tokens) → q (v ++ (w ++ tail)) ≡ Done a (w ++ tail))
      → Completes U' (g a) G W w → Completes U (q >>= g) G W (v ++ w)
  completes_second U' a v w covers reads h = (
    h.0,
    h.1,
    h.2,
    reals_more (U' ++ w) (U ++ (v ++ w)) covers h.0 h.3,
    λ tail ends. rw (append_assoc v w (h.0 ++ tail), reads (h.0 ++ tail)) (h.4 tail ends),
  )

  -- the same without the rule of a refusal
  pub with_first : (why : Refusal) (r : Tokens) → ((a : A) → V a → Sample U (g a) F G W)
      → (w : Tokens) → CompletesWith U q F V w why r → CompletesWith U (q >>= g) G W w why r
  with_first why r sample w h = (
    h.0 ++ s.more,
    s.value,
    s.fits,
    λ tail ends. let k = h.3 (s.more ++ tail) (s.follows tail ends) in (
      rw (append_assoc h.0 s.more tail) k.0,
      rw (append_assoc h.0 s.more tail, k.1) (s.reads tail ends),
    ),
    added_append (U ++ w) why h.0 s.more h.4 (sample_real w s),
  )
    where
      s : Sample U (g h.1) F G W
      s = sample h.1 h.2

  pub with_second : (U' : Tokens) (why : Refusal) (r : Tokens) (a : A) (v w : Tokens)
      → Covers (U' ++ w) (U ++ (v ++ w)) → ((x : Tokens) → Instead why r x
      → q (v ++ (w ++ x)) ≡ Done a (w ++ x))
      → CompletesWith U' (g a) G W w why r → CompletesWith U (q >>= g) G W (v ++ w) why r
  with_second U' why r a v w covers reads h = (
    h.0,
    h.1,
    h.2,
    λ tail ends. let k = h.3 tail ends in
        (k.0, rw (append_assoc v w (h.0 ++ tail), reads (h.0 ++ tail) k.0) k.1),
    reals_more (U' ++ w) (U ++ (v ++ w)) covers (added why h.0) h.4,
  )

-- The second part refuses at once, for the place of a word that was taken, whatever comes of these
-- tokens.
pub record Closes {O : Refusal} {A B : Type 0} (U : Tokens) (J : Reason O) (p q : Parser A)
    (f g : A → Parser B) (F G : Follow) (V : A → Type 0) (W : B → Type 0) (i : Tokens) (a : A)
    (m : Tokens) : Type 0 where
  pub why : Refusal
  pub level : is_level why ≡ false
  -- with these tokens next, the first part stops too, and the second refuses
  pub next_is : elsewhere why (head m) ≡ true
  pub ahead : (s : Stops U p q F V i a m) (x : Tokens) → elsewhere why (head x) ≡ true
      → (p (s.before ++ x) ≡ Done a x) × (q (s.before ++ x) ≡ Done a x)
  pub refuses : (x : Tokens) → elsewhere why (head x) ≡ true → f a x ≡ Refused why x
  pub refuses_more : is_same O why ≡ false → (x : Tokens) → elsewhere why (head x) ≡ true
      → g a x ≡ Refused why x
  pub instead : (x : Tokens) → elsewhere why (head x) ≡ true → Instead why m x
  pub goes_on : is_same O why ≡ true → CompletesElsewhere U (g a) G W why
  pub right : (w : Tokens) → i ≡ w ++ m → J.right why w m

module _ {O : Refusal} {A B : Type 0} (U : Tokens) (J : Reason O) (p q : Parser A)
    (f g : A → Parser B) (F G : Follow) (V : A → Type 0) (W : B → Type 0) where
  viable_second : (U' : Tokens) {i m : Tokens} {a : A} (s : Stops U p q F V i a m)
      → ((v : Tokens) → Covers (U' ++ v) (U ++ (s.before ++ v))) → (w r : Tokens) → m ≡ w ++ r
      → ((a : A) → V a → Sample U (g a) F G W) → Viable U' (g a) G W w
      → Viable U (q >>= g) G W (s.before ++ w)
  viable_second U' {a = a} s covers [] r e sample h =
      rw (append-nil s.before) (viable_first U q g F G V W sample s.before s.viable)
  viable_second U' {m = m} {a = a} s covers (t ∷ w) r e sample h =
      go s.before (completes_second U q g F G V W U' a s.before (t ∷ w) (covers (t ∷ w))
      (λ tail. s.roomy (t ∷ w ++ tail) (ap head e)) h)
    where
      go : (v : Tokens) → Completes U (q >>= g) G W (v ++ t ∷ w)
          → Viable U (q >>= g) G W (v ++ t ∷ w)
      go [] c = c
      go (u ∷ v) c = c

  -- the second part stops
  second_stops : (U' : Tokens) {i m r : Tokens} {a : A} {b : B}
      → ((a : A) → V a → Sample U (g a) F G W)
      → (s : Stops U p q F V i a m) → ((v : Tokens) → Covers (U' ++ v) (U ++ (s.before ++ v)))
      → Stops U' (f a) (g a) G W m b r → Stops U (p >>= f) (q >>= g) G W i b r
  second_stops U' {m = m} {r = r} {a = a} sample s covers t = record {
    before = s.before ++ t.before;
    split = s.split ∙ ap (λ x. s.before ++ x) t.split ∙ sym (append_assoc s.before t.before r);
    local =
        λ x h. rw (
          append_assoc s.before t.before x,
          s.local (t.before ++ x) (head_behind t.before m r x t.split h),
        ) (t.local x h);
    roomy =
        λ x h. rw (
          append_assoc s.before t.before x,
          s.roomy (t.before ++ x) (head_behind t.before m r x t.split h),
        ) (t.roomy x h);
    viable = viable_second U' s covers t.before r t.split sample t.viable;
  }

  -- the first part refuses
  first_refuses : {K : Reason O} {i r : Tokens} {why : Refusal}
      → ((a : A) → V a → Sample U (g a) F G W)
      → ((why : Refusal) (w r : Tokens) → K.right why w r → J.right why w r)
      → Refuses U K p q F V i why r → Refuses U J (p >>= f) (q >>= g) G W i why r
  first_refuses {r = r} {why = why} sample weaken s = record {
    before = s.before;
    split = s.split;
    whys = s.whys;
    nearly = s.nearly;
    varies = s.varies;
    level = s.level;
    local = λ x h. ap (λ o. and_then o f) (s.local x h);
    roomy = λ x h off. ap (λ o. and_then o g) (s.roomy x h off);
    others = λ x h. ap (λ o. and_then o f) (s.others x h);
    viable = viable_first U q g F G V W sample s.before s.viable;
    goes_on = λ on. with_first U q g F G V W why r sample s.before (s.goes_on on);
    right = weaken why s.before r s.right;
  }

  -- the second part refuses
  second_refuses : (U' : Tokens) {L : Reason O} {i m r : Tokens} {a : A} {why : Refusal}
      → ((a : A) → V a → Sample U (g a) F G W)
      → (s : Stops U p q F V i a m) → ((v : Tokens) → Covers (U' ++ v) (U ++ (s.before ++ v)))
      → ((why : Refusal) (v r : Tokens) → m ≡ v ++ r → L.right why v r
      → J.right why (s.before ++ v) r)
      → Refuses U' L (f a) (g a) G W m why r → Refuses U J (p >>= f) (q >>= g) G W i why r
  second_refuses U' {L = L} {m = m} {r = r} {a = a} {why = why} sample s covers step t = record {
    before = s.before ++ t.before;
    split = s.split ∙ ap (λ x. s.before ++ x) t.split ∙ sym (append_assoc s.before t.before r);
    whys = t.whys;
    nearly = t.nearly;
    varies = t.varies;
    level = t.level;
    local =
        λ x h. rw (
          append_assoc s.before t.before x,
          s.local (t.before ++ x) (head_behind t.before m r x t.split h),
        ) (t.local x h);
    roomy =
        λ x h off. rw (
          append_assoc s.before t.before x,
          s.roomy (t.before ++ x) (head_behind t.before m r x t.split h),
        ) (t.roomy x h off);
    others =
        λ x h. rw (
          append_assoc s.before t.before x,
          s.local (t.before ++ x) (heads t.before x t.split t.right h),
        ) (t.others x h);
    viable = viable_second U' s covers t.before r t.split sample t.viable;
    goes_on =
        λ on. with_second U q g F G V W U' why r a s.before t.before (covers t.before)
        (λ x h. s.roomy (t.before ++ x) (by t.before x t.split t.right (instead_head why r x h)))
        (t.goes_on on);
    right = step why t.before r t.split t.right;
  }
    where
      heads : (v x : Tokens) → m ≡ v ++ r → L.right why v r → elsewhere why (head x) ≡ true
          → head m ≡ head (v ++ x)
      heads [] x e right h = absurd (L.taken why (head x) r right h)
      heads (u ∷ v) x e right h = ap head e

      by : (v x : Tokens) → m ≡ v ++ r → L.right why v r
          → (head r ≡ head x) ⊎ (elsewhere why (head x) ≡ true) → head m ≡ head (v ++ x)
      by v x e right (inl same) = head_behind v m r x e same
      by v x e right (inr h) = heads v x e right h

  -- the second part refuses at once
  second_closes : {i m : Tokens} {a : A} → ((a : A) → V a → Sample U (g a) F G W)
      → (s : Stops U p q F V i a m) → (t : Closes U J p q f g F G V W i a m)
      → Refuses U J (p >>= f) (q >>= g) G W i t.why m
  second_closes {m = m} {a = a} sample s t = record {
    before = s.before;
    split = s.split;
    whys = λ _. t.why;
    nearly = λ x _. refl;
    varies = λ x. inl refl;
    level = λ x. refl;
    local = λ x h. both x (ap (elsewhere t.why) (sym h) ∙ t.next_is);
    roomy = λ x h off. let e = ap (elsewhere t.why) (sym h) ∙ t.next_is in
        ap (λ o. and_then o g) (t.ahead s x e).1 ∙ t.refuses_more (stays off) x e;
    others = both;
    viable = viable_first U q g F G V W sample s.before s.viable;
    goes_on = λ on. let c = t.goes_on (out on) in (
      c.0,
      c.1,
      c.2,
      λ tail ends. let k = c.3 tail ends in
          (t.instead (c.0 ++ tail) k.0, ap (λ o. and_then o g) (t.ahead s (c.0 ++ tail) k.0).1 ∙ k.1),
      reals_more U (U ++ s.before) (covers_front U s.before) (added t.why c.0)
          (added_real U t.why c.0 c.4),
    );
    right = t.right s.before s.split;
  }
    where
      both : (x : Tokens) → elsewhere t.why (head x) ≡ true
          → (p >>= f) (s.before ++ x) ≡ Refused t.why x
      both x h = ap (λ o. and_then o f) (t.ahead s x h).0 ∙ t.refuses x h

      stays : lifted O t.why ≡ false → is_same O t.why ≡ false
      stays off = sym (ap (λ b. b || is_same O t.why) t.level) ∙ off

      out : lifted O t.why ≡ true → is_same O t.why ≡ true
      out on = sym (ap (λ b. b || is_same O t.why) t.level) ∙ on

-- One after the other: the general form. `V` is asked of what completes the first part, K and L say
-- why each part refuses; the second part stands behind tokens that stand in U or in the first part.
pub bind_good_in : {U : Tokens} {O : Refusal} {A B : Type 0} {p q : Parser A} {f g : A → Parser B}
    {F G : Follow} {V : A → Type 0} {W : B → Type 0} {J K : Reason O} {L : A → Reason O}
    (behind : A → Tokens) (i : Tokens)
    → GoodAt U K p q F V i
    → ((a : A) (m : Tokens) (s : Stops U p q F V i a m) (v : Tokens)
    → Covers (behind a ++ v) (U ++ (s.before ++ v)))
    → ((a : A) (r : Tokens) → p i ≡ Done a r
    → GoodAt (behind a) (L a) (f a) (g a) G W r ⊎ Closes U J p q f g F G V W i a r)
    → ((a : A) → V a → Sample U (g a) F G W)
    → ((why : Refusal) (w r : Tokens) → K.right why w r → J.right why w r)
    → ((a : A) (m : Tokens) (s : Stops U p q F V i a m) (why : Refusal) (v r : Tokens) → m ≡ v ++ r
    → (L a).right why v r → J.right why (s.before ++ v) r)
    → GoodAt U J (p >>= f) (q >>= g) G W i
unfolding second_stops first_refuses second_refuses second_closes
bind_good_in {U} {O} {A} {B} {p} {q} {f} {g} {F} {G} {V} {W} {J} {K} {L} U' i first covers second
    sample weaken step = record { done = at_done; refused = at_refused }
  where
    reads : {a : A} {m : Tokens} {o : Outcome B} → p i ≡ Done a m → (p >>= f) i ≡ o → f a m ≡ o
    reads e h = sym (ap (λ o. and_then o f) e) ∙ h

    at_done : (b : B) (r : Tokens) → (p >>= f) i ≡ Done b r → Stops U (p >>= f) (q >>= g) G W i b r
    at_done b r e = go (p i) refl
      where
        go : (o : Outcome A) → p i ≡ o → Stops U (p >>= f) (q >>= g) G W i b r
        go (Done a m) h = by (second a m h)
          where
            by : GoodAt (U' a) (L a) (f a) (g a) G W m ⊎ Closes U J p q f g F G V W i a m
                → Stops U (p >>= f) (q >>= g) G W i b r
            by (inl t) = let s = first.done a m h in
                second_stops U J p q f g F G V W (U' a) sample s (covers a m s)
                (t.done b r (reads h e))
            by (inr t) = absurd (done_not_refused (sym (reads h e) ∙ t.refuses m t.next_is))
        go (Refused why m) h = absurd (done_not_refused (sym e ∙ ap (λ o. and_then o f) h))

    at_refused : (why : Refusal) (r : Tokens) → (p >>= f) i ≡ Refused why r
        → Refuses U J (p >>= f) (q >>= g) G W i why r
    at_refused why r e = go (p i) refl
      where
        go : (o : Outcome A) → p i ≡ o → Refuses U J (p >>= f) (q >>= g) G W i why r
        go (Done a m) h = by (second a m h)
          where
            by : GoodAt (U' a) (L a) (f a) (g a) G W m ⊎ Closes U J p q f g F G V W i a m
                → Refuses U J (p >>= f) (q >>= g) G W i why r
            by (inl t) = let s = first.done a m h in
                second_refuses U J p q f g F G V W (U' a) {L = L a} sample s (covers a m s)
                (step a m s) (t.refused why r (reads h e))
            by (inr t) =
                same_refused {A = B} (λ why r. Refuses U J (p >>= f) (q >>= g) G W i why r)
                (sym (t.refuses m t.next_is) ∙ reads h e)
                (second_closes U J p q f g F G V W sample (first.done a m h) t)
        go (Refused v m) h =
            let e' : refuse {A = A} v m ≡ refuse {A = A} why r = same_refused
            (λ x y. refuse {A = A} v m ≡ refuse {A = A} x y)
            (sym (ap (λ o. and_then o f) h) ∙ e) refl in
            first_refuses U J p q f g F G V W {K = K} sample weaken (first.refused why r (h ∙ e'))

-- the same, where both stand behind U
pub bind_good_by : {U : Tokens} {O : Refusal} {A B : Type 0} {p q : Parser A} {f g : A → Parser B}
    {F G : Follow} {V : A → Type 0} {W : B → Type 0} {J K : Reason O} {L : A → Reason O}
    (i : Tokens)
    → GoodAt U K p q F V i
    → ((a : A) (r : Tokens) → p i ≡ Done a r
    → GoodAt U (L a) (f a) (g a) G W r ⊎ Closes U J p q f g F G V W i a r)
    → ((a : A) → V a → Sample U (g a) F G W)
    → ((why : Refusal) (w r : Tokens) → K.right why w r → J.right why w r)
    → ((a : A) (m : Tokens) (s : Stops U p q F V i a m) (why : Refusal) (v r : Tokens) → m ≡ v ++ r
    → (L a).right why v r → J.right why (s.before ++ v) r)
    → GoodAt U J (p >>= f) (q >>= g) G W i
bind_good_by {U} {L = L} i first second sample weaken step =
    bind_good_in {L = L} (λ _. U) i first (λ a m s v. covers_between U s.before v) second sample
    weaken step

-- One after the other, with one reason
pub bind_good : {U : Tokens} {O : Refusal} {A B : Type 0} {p q : Parser A} {f g : A → Parser B}
    {F G : Follow} {V : A → Type 0} {W : B → Type 0} {J : Reason O} (i : Tokens) → Closed J
    → GoodAt U J p q F V i
    → ((a : A) (r : Tokens) → p i ≡ Done a r → GoodAt U J (f a) (g a) G W r)
    → ((a : A) → V a → Sample U (g a) F G W)
    → GoodAt U J (p >>= f) (q >>= g) G W i
bind_good {J = J} i closed first second sample =
    bind_good_by {L = λ a. J} i first (λ a r e. inl (second a r e)) sample (λ why w r h. h)
    (λ a m s why v r e h. closed why s.before v r h)

-- what follows may be less, and less may be asked
pub weaken_good : {U : Tokens} {O : Refusal} {A : Type 0} {p q : Parser A} {F G : Follow}
    {V W : A → Type 0} {J K : Reason O} (i : Tokens)
    → ((tail : Tokens) → G tail → F tail) → ((a : A) → V a → W a)
    → ((why : Refusal) (w r : Tokens) → K.right why w r → J.right why w r)
    → GoodAt U K p q F V i → GoodAt U J p q G W i
weaken_good {U} {O} {A} {p = p} {q = q} {F} {G} {V} {W} {J} {K} i follow value reason h = record {
  done = λ a r e. let s = h.done a r e in
      record {
        before = s.before;
        split = s.split;
        local = s.local;
        roomy = s.roomy;
        viable = viable s.before s.viable;
      };
  refused = λ why r e. refuses (h.refused why r e);
}
  where
    viable : (w : Tokens) → Viable U q F V w → Viable U q G W w
    viable [] v = tt
    viable (t ∷ w) c = (c.0, c.1, value c.1 c.2, c.3, λ tail ends. c.4 tail (follow tail ends))

    refuses : {why : Refusal} {r : Tokens} → Refuses U K p q F V i why r
        → Refuses U J p q G W i why r
    refuses {why = why} {r = r} s = record {
      before = s.before;
      split = s.split;
      whys = s.whys;
      nearly = s.nearly;
      varies = s.varies;
      level = s.level;
      local = s.local;
      roomy = s.roomy;
      others = s.others;
      viable = viable s.before s.viable;
      goes_on = λ on. let c = s.goes_on on in
          (c.0, c.1, value c.1 c.2, λ tail ends. c.3 tail (follow tail ends), c.4);
      right = reason why s.before r s.right;
    }

-- The same, from two parsers that read these tokens as p and q do: M holds of what p took and of
-- the rest; where what was taken is Far, they do so whatever the next token is.
module _ {O : Refusal} {A : Type 0} (U : Tokens) (J : Reason O) (p q : Parser A) (F : Follow)
    (W : A → Type 0) (p' q' : Parser A) (i : Tokens) (M : Tokens → Tokens → Type 0)
    (Far : Tokens → Type 0)
    (reached : (before r : Tokens) → rest_of (p i) ≡ r → i ≡ before ++ r → M before r)
    (far : (why : Refusal) (u : Token) (before r : Tokens) → M before r → J.right why before r
    → elsewhere why u ≡ true → Far before)
    (at : p' i ≡ p i)
    (agree : (before r s : Tokens) → M before r → (head r ≡ head s) ⊎ Far before
    → p' (before ++ s) ≡ p (before ++ s))
    (agree' : (before r s : Tokens) → M before r → (head r ≡ head s) ⊎ Far before
    → q' (before ++ s) ≡ q (before ++ s))
    (viable : (before r : Tokens) → M before r → Viable U q F W before
    → Viable U q' F W before) where
  like_stops : {a : A} {r : Tokens} → rest_of (p i) ≡ r → Stops U p q F W i a r
      → Stops U p' q' F W i a r
  like_stops {r = r} e s = let m = reached s.before r e s.split in record {
    before = s.before;
    split = s.split;
    local = λ x h. agree s.before r x m (inl h) ∙ s.local x h;
    roomy = λ x h. agree' s.before r x m (inl h) ∙ s.roomy x h;
    viable = viable s.before r m s.viable;
  }

  like_refuses : {why : Refusal} {r : Tokens} → rest_of (p i) ≡ r → Refuses U J p q F W i why r
      → Refuses U J p' q' F W i why r
  like_refuses {why = why} {r = r} e s = let m = reached s.before r e s.split in record {
    before = s.before;
    split = s.split;
    whys = s.whys;
    nearly = s.nearly;
    varies = s.varies;
    level = s.level;
    local = λ x h. agree s.before r x m (inl h) ∙ s.local x h;
    roomy = λ x h off. agree' s.before r x m (inl h) ∙ s.roomy x h off;
    others =
        λ x h. agree s.before r x m (inr (far why (head x) s.before r m s.right h)) ∙ s.others x h;
    viable = viable s.before r m s.viable;
    goes_on = λ on. let c = s.goes_on on in (
      c.0,
      c.1,
      c.2,
      λ tail ends. let k = c.3 tail ends in (
        k.0,
        agree' s.before r (c.0 ++ tail) m
            (by s.before m s.right (c.0 ++ tail) (instead_head why r (c.0 ++ tail) k.0)) ∙ k.1,
      ),
      c.4,
    );
    right = s.right;
  }
    where
      by : (before : Tokens) → M before r → J.right why before r → (x : Tokens)
          → (head r ≡ head x) ⊎ (elsewhere why (head x) ≡ true) → (head r ≡ head x) ⊎ Far before
      by before m right x (inl h) = inl h
      by before m right x (inr h) = inr (far why (head x) before r m right h)

  pub like_good : GoodAt U J p q F W i → GoodAt U J p' q' F W i
  unfolding like_stops like_refuses
  like_good h = record {
    done = λ a r e. like_stops (ap rest_of (sym at ∙ e)) (h.done a r (sym at ∙ e));
    refused = λ why r e. like_refuses (ap rest_of (sym at ∙ e)) (h.refused why r (sym at ∙ e));
  }

-- goes on by the next token
pub look_good : {U : Tokens} {O : Refusal} {A : Type 0} {J : Reason O} {F : Follow} {W : A → Type 0}
    (f g : Token → Parser A) (i : Tokens)
    → GoodAt U J (f (head i)) (g (head i)) F W i → GoodAt U J (look f) (look g) F W i
look_good {U} {O} {A} {J} {F} {W} f g i h =
    like_good U J (f (head i)) (g (head i)) F W (look f) (look g) i (λ before r. i ≡ before ++ r)
    (λ before. before ≢ []) (λ before r _ e. e)
    (λ why u before r e right other none. J.taken why u r (subst (λ w. J.right why w r) none right)
    other) refl
    (λ before r s e near. ap (λ t. f t (before ++ s)) (sym (same before r s e near)))
    (λ before r s e near. ap (λ t. g t (before ++ s)) (sym (same before r s e near)))
    viable h
  where
    same : (before r s : Tokens) → i ≡ before ++ r → (head r ≡ head s) ⊎ (before ≢ [])
        → head i ≡ head (before ++ s)
    same before r s e (inl near) = head_behind before i r s e near
    same [] r s e (inr some) = absurd (some refl)
    same (t ∷ w) r s e (inr some) = ap head e

    viable : (before r : Tokens) → i ≡ before ++ r → Viable U (g (head i)) F W before
        → Viable U (look g) F W before
    viable [] r e v = tt
    viable (t ∷ w) r e c = (
      c.0,
      c.1,
      c.2,
      c.3,
      λ tail ends. ap (λ u. g u (t ∷ w ++ (c.0 ++ tail))) (sym (ap head e))
          ∙ c.4 tail ends,
    )
