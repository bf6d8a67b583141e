-- A run ends once, and goes on from where it was at its limit.
use Rattle.std.proofs.Common.{◌≡◌, ◌<◌, ◌≤◌, ◌⊎◌, inl, inr, ℕ, suc, ◌+◌, List, [], ◌∷◌, ◌++◌, length, Some, None, refl, sym, ap, ◌∙◌, subst, arith, append-nil}
use Rattle.std.proofs.lemmas.Bool.{cases_order}
use Rattle.std.proofs.lemmas.List.{length-append, length-map}
use Rattle.std.proofs.lemmas.Option.{same_Some}
use Rattle.ja_base.proofs.Lists.{empty_by_length}
use Rattle.ja_prim.specs.declared.primitive.Primitive.{Primitive}
use Rattle.ja_graph.specs.declared.program.Program.{Program}
use Rattle.ja_machine.specs.declared.machine.Conf.{Conf}
use Rattle.ja_machine.specs.declared.machine.End.{End}
use Rattle.ja_machine.specs.declared.machine.End.TheVariants as ending
use Rattle.ja_machine.specs.declared.machine.Event.TheVariants as event
use Rattle.ja_machine.specs.declared.machine.Heap.{Heap}
use Rattle.ja_machine.specs.declared.machine.Wants.TheVariants as wanted
use Rattle.ja_machine.specs.Machine.{wants, step}
use Rattle.ja_step.specs.Given.{answer_to}
use Rattle.ja_run.specs.declared.ended.CallRecord.{CallRecord}
use Rattle.ja_run.specs.declared.ended.Ended.{Ended}
use Rattle.ja_run.specs.declared.ended.RunEnd.{RunEnd}
use Rattle.ja_run.specs.declared.ended.RunEnd.TheVariants as run_end
use Rattle.ja_run.specs.Ends.{run_end_of}
use Rattle.ja_run.specs.Run.{answers_given, state_after, calls_of, given_by, Leads, EndsBy, RunsOnce, ContinuesBy, ArePrefixes}
use Rattle.ja_run.proofs.Giving.{agrees, same_state, stays_none, had, longer, ended, unanswered, must_be_unasked}

-- ---- how a run stands

record AtLimit (limit made steps : ℕ) (e : RunEnd) : Type 0 where
  end_is : e ≡ run_end.Limit
  counted : steps ≡ limit
  all : made ≡ limit

record AtDevice (p : Program) (c : Conf) (limit made steps : ℕ) (e : RunEnd) : Type 0 where
  which : ℕ
  end_is : e ≡ run_end.Device which
  asks : wants p c ≡ wanted.Device which
  counted : steps ≡ made
  within : made < limit

record AtEnd (p : Program) (c : Conf) (limit made steps : ℕ) (e : RunEnd) : Type 0 where
  end : End
  last : Conf
  ends : step p c (answer_to (wants p c)) ≡ Some (event.End end last)
  end_is : e ≡ run_end_of last.heap end
  counted : steps ≡ made + 1
  within : made < limit

-- it goes no further
abbrev Stops : Program → Conf → ℕ → ℕ → ℕ → RunEnd → Type 0
Stops p c limit made steps e = AtDevice p c limit made steps e ⊎ AtEnd p c limit made steps e

record Stands (p : Program) (limit : ℕ) (calls : List CallRecord) (steps : ℕ) (e : RunEnd) : Type
    0 where
  made : ℕ
  c : Conf
  leads : Leads p calls made c
  how : AtLimit limit made steps e ⊎ Stops p c limit made steps e

stands : (p : Program) (limit : ℕ) (calls : List CallRecord) (steps : ℕ) (e : RunEnd)
    → EndsBy p limit calls steps e → Stands p limit calls steps e
stands p limit calls steps run_end.Limit h =
    record {
      made = limit;
      c = h.1.0;
      leads = h.1.1;
      how = inl (record { end_is = refl; counted = h.0; all = refl });
    }
stands p limit calls steps (run_end.Device which) h =
    record {
      made = steps;
      c = h.1.0;
      leads = h.1.1;
      how = inr (inl (record {
        which = which;
        end_is = refl;
        asks = h.1.2;
        counted = refl;
        within = h.0;
      }));
    }
stands p limit calls steps e h = record {
  made = h.1.2.made;
  c = h.1.2.before;
  leads = h.1.2.leads;
  how =
      inr (inr (record {
        end = h.1.0;
        last = h.1.1;
        ends = h.1.2.ends;
        end_is = h.1.3;
        counted = h.1.2.counted;
        within = omega (arith, h.0, h.1.2.counted);
      }));
}

stops_within : (p : Program) (c : Conf) (limit made steps : ℕ) (e : RunEnd)
    → Stops p c limit made steps e → made < limit
stops_within p c limit made steps e (inl h) = h.within
stops_within p c limit made steps e (inr h) = h.within

at_most : (p : Program) (c : Conf) (limit made steps : ℕ) (e : RunEnd)
    → AtLimit limit made steps e ⊎ Stops p c limit made steps e → made ≤ limit
at_most p c limit made steps e (inl h) = omega (arith, h.all)
at_most p c limit made steps e (inr h) = omega (arith, stops_within p c limit made steps e h)

-- no state comes behind one in which a run stops
stops_there : (p : Program) (calls : List CallRecord) (limit made steps : ℕ) (c : Conf) (e : RunEnd)
    → Leads p calls made c → Stops p c limit made steps e
    → state_after p (given_by calls) (suc made) ≡ None
stops_there p calls limit made steps c e leads (inl h) =
    unanswered p calls made c leads h.which h.asks
stops_there p calls limit made steps c e leads (inr h) =
    subst (λ (g : List Primitive). state_after p g (suc made) ≡ None) (append-nil (given_by calls))
    (ended p calls made c leads [] h.end h.last h.ends)

-- in one state it stops in one way
same_end : (p : Program) (c : Conf) (k l made s t : ℕ) (e f : RunEnd) → Stops p c k made s e
    → Stops p c l made t f → (s ≡ t) × (e ≡ f)
same_end p c k l made s t e f (inl x) (inl y) =
    let which : x.which ≡ y.which = cc (x.asks, y.asks) in
    (x.counted ∙ sym y.counted, x.end_is ∙ ap run_end.Device which ∙ sym y.end_is)
same_end p c k l made s t e f (inl x) (inr y) =
    absurd (must_be_unasked p c x.which y.end y.last x.asks y.ends)
same_end p c k l made s t e f (inr x) (inl y) =
    absurd (must_be_unasked p c y.which x.end x.last y.asks x.ends)
same_end p c k l made s t e f (inr x) (inr y) =
    let ends : x.end ≡ y.end = cc (x.ends, y.ends) in
    let lasts : x.last ≡ y.last = cc (x.ends, y.ends) in (
      omega (arith, x.counted, y.counted),
      x.end_is ∙ ap (λ (d : Conf). run_end_of d.heap x.end) lasts
          ∙ ap (run_end_of y.last.heap) ends ∙ sym y.end_is,
    )

-- ---- two runs, of which devices give in one what they give in the other, and maybe more

module _ (p : Program) (calls longer_calls : List CallRecord) (more : List Primitive)
    (same : given_by longer_calls ≡ given_by calls ++ more) (m n : ℕ) (c d : Conf)
    (x : Leads p calls m c) (y : Leads p longer_calls n d) where
  abbrev given : List Primitive
  given = given_by calls

  abbrev longer_given : List Primitive
  longer_given = given_by longer_calls

  -- as long as the first one goes on, so does the other
  same_calls : (k : ℕ) (b : Conf) → state_after p given k ≡ Some b
      → calls_of p (answers_given p longer_given k) ≡ calls_of p (answers_given p given k)
  same_calls k b at =
      ap (λ (g : List Primitive). calls_of p (answers_given p g k)) same
      ∙ ap (calls_of p) (agrees p given more k b at)

  -- where the other one is the shorter one, no more is given in it
  no_more : n ≤ m → longer_given ≡ given
  no_more within =
      let b = had p given n m c within x.reached in
      let rest = longer p given n m within in
      let split : calls ≡ longer_calls ++ rest.0 =
      sym x.answered ∙ rest.1 ∙ ap (λ (l : List CallRecord). l ++ rest.0)
      (sym (same_calls n b.0 b.1) ∙ y.answered) in
      let lengths : length calls ≡ length longer_calls + length rest.0 =
      ap length split ∙ length-append longer_calls rest.0 in
      let given_lengths : length longer_given ≡ length given + length more =
      ap length same ∙ length-append given more in
      let answers_of : length longer_given ≡ length longer_calls = length-map longer_calls
      (λ (r : CallRecord). r.answer) in
      let answers : length given ≡ length calls = length-map calls (λ (r : CallRecord). r.answer) in
      let none = empty_by_length more (omega
      (arith, lengths, given_lengths, answers_of, answers)) in
      same ∙ ap (λ (l : List Primitive). given ++ l) none ∙ append-nil given

  -- so it doesn't stop sooner
  no_sooner : state_after p longer_given (suc n) ≡ None → m ≤ n
  no_sooner stops = by (cases_order m n)
    where
      by : (m ≡ n) ⊎ ((m < n) ⊎ (n < m)) → m ≤ n
      by (inl equal) = omega (arith, equal)
      by (inr (inl less)) = omega (arith, less)
      by (inr (inr sooner)) =
          let there = subst (λ (g : List Primitive). state_after p g (suc n) ≡ None)
          (no_more (omega (arith, sooner))) stops in
          absurd (cc (stays_none p given (suc n) m (omega (arith, sooner)) there, x.reached))

  -- its calls begin as those of the first one
  calls_continue : m ≤ n → (rest : List CallRecord) × (longer_calls ≡ calls ++ rest)
  calls_continue within =
      let rest = longer p longer_given m n within in (
        rest.0,
        sym y.answered ∙ rest.1 ∙ ap (λ (l : List CallRecord). l ++ rest.0)
            (same_calls m c x.reached ∙ x.answered),
      )

  -- after as many steps both are in one state, with the same calls
  one_state : m ≡ n → (c ≡ d) × (calls ≡ longer_calls)
  one_state equal =
      let first : state_after p longer_given m
      ≡ Some c = subst (λ (g : List Primitive). state_after p g m ≡ Some c) (sym same)
      (same_state p given more m c x.reached) in
      let second : state_after p longer_given m
      ≡ Some d = subst (λ k. state_after p longer_given k ≡ Some d) (sym equal) y.reached in (
        same_Some c d (sym first ∙ second),
        sym x.answered ∙ sym (same_calls m c x.reached)
            ∙ ap (λ k. calls_of p (answers_given p longer_given k)) equal ∙ y.answered,
      )

  -- the other one comes at least as far, where its limit is no lower
  as_far : (limit steps : ℕ) (e : RunEnd) → m ≤ limit
      → AtLimit limit n steps e ⊎ Stops p d limit n steps e → m ≤ n
  as_far limit steps e within (inl h) = omega (arith, within, h.all)
  as_far limit steps e within (inr h) = no_sooner (stops_there p longer_calls limit n steps d e y h)

-- ---- the laws

abbrev with_parts : ℕ → List CallRecord → RunEnd → Ended
with_parts steps calls end = record { steps = steps; calls = calls; end = end }

equal_parts : (e f : Ended) → e.steps ≡ f.steps → e.calls ≡ f.calls → e.end ≡ f.end → e ≡ f
equal_parts e f steps calls end =
    ap (λ s. with_parts s e.calls e.end) steps
    ∙ ap (λ (l : List CallRecord). with_parts f.steps l e.end) calls
    ∙ ap (with_parts f.steps f.calls) end

-- both stop in the state in which they are
both_stop : (p : Program) (e f : Ended) (k l m n : ℕ) (c d : Conf) → m ≡ n → c ≡ d
    → e.calls ≡ f.calls → Stops p c k m e.steps e.end → Stops p d l n f.steps f.end → e ≡ f
both_stop p e f k l m n c d equal state calls x y =
    let there = subst (λ (b : Conf). Stops p b l n f.steps f.end) (sym state) y in
    let then = subst (λ i. Stops p c l i f.steps f.end) (sym equal) there in
    let ends = same_end p c k l m e.steps f.steps e.end f.end x then in
    equal_parts e f ends.0 calls ends.1

pub runs_once : (p : Program) → RunsOnce p
runs_once p limit e f x y same = by u.how v.how
  where
    u : Stands p limit e.calls e.steps e.end
    u = stands p limit e.calls e.steps e.end x

    v : Stands p limit f.calls f.steps f.end
    v = stands p limit f.calls f.steps f.end y

    no_more_there : given_by f.calls ≡ given_by e.calls ++ []
    no_more_there = sym same ∙ sym (append-nil (given_by e.calls))

    no_more_here : given_by e.calls ≡ given_by f.calls ++ []
    no_more_here = same ∙ sym (append-nil (given_by f.calls))

    as_far_there : u.made ≤ v.made
    as_far_there =
        as_far p e.calls f.calls [] no_more_there u.made v.made u.c v.c u.leads v.leads limit
        f.steps f.end (at_most p u.c limit u.made e.steps e.end u.how) v.how

    as_far_here : v.made ≤ u.made
    as_far_here =
        as_far p f.calls e.calls [] no_more_here v.made u.made v.c u.c v.leads u.leads limit e.steps
        e.end (at_most p v.c limit v.made f.steps f.end v.how) u.how

    made : u.made ≡ v.made
    made = omega (arith, as_far_there, as_far_here)

    states : (u.c ≡ v.c) × (e.calls ≡ f.calls)
    states =
        one_state p e.calls f.calls [] no_more_there u.made v.made u.c v.c u.leads v.leads made

    by : AtLimit limit u.made e.steps e.end ⊎ Stops p u.c limit u.made e.steps e.end
        → AtLimit limit v.made f.steps f.end ⊎ Stops p v.c limit v.made f.steps f.end → e ≡ f
    by (inl a) (inl b) =
        equal_parts e f (a.counted ∙ sym b.counted) states.1 (a.end_is ∙ sym b.end_is)
    by (inl a) (inr b) =
        absurd (omega (arith, made, a.all, stops_within p v.c limit v.made f.steps f.end b))
    by (inr a) (inl b) =
        absurd (omega (arith, made, b.all, stops_within p u.c limit u.made e.steps e.end a))
    by (inr a) (inr b) =
        both_stop p e f limit limit u.made v.made u.c v.c made states.0 states.1 a b

-- an end of the machine stays
stays : (e f : Ended) (h : Heap) (end : End) → f ≡ e → ContinuesBy e f (run_end_of h end)
stays e f h ending.Normal same = same
stays e f h (ending.Uncaught v) same = same
stays e f h (ending.Scope kind place) same = same

pub are_prefixes : (p : Program) → ArePrefixes p
are_prefixes p n e f more x y same =
    record { more = rest.0; calls = rest.1; by = by u.how v.how }
  where
    u : Stands p n e.calls e.steps e.end
    u = stands p n e.calls e.steps e.end x

    v : Stands p (n + 1) f.calls f.steps f.end
    v = stands p (n + 1) f.calls f.steps f.end y

    within : u.made ≤ n
    within = at_most p u.c n u.made e.steps e.end u.how

    further : u.made ≤ v.made
    further =
        as_far p e.calls f.calls more same u.made v.made u.c v.c u.leads v.leads (n + 1) f.steps
        f.end (omega (arith, within)) v.how

    rest : (r : List CallRecord) × (f.calls ≡ e.calls ++ r)
    rest = calls_continue p e.calls f.calls more same u.made v.made u.c v.c u.leads v.leads further

    -- where nothing comes behind the first one, the other one is the same
    stopped : Stops p u.c n u.made e.steps e.end
        → state_after p (given_by f.calls) (suc u.made) ≡ None → f ≡ e
    stopped a none = sym (at v.how)
      where
        no_further : (v.made ≡ u.made) ⊎ ((v.made < u.made) ⊎ (u.made < v.made)) → u.made ≡ v.made
        no_further (inl equal) = sym equal
        no_further (inr (inl less)) = absurd (omega (arith, less, further))
        no_further (inr (inr later)) =
            absurd (cc (
              stays_none p (given_by f.calls) (suc u.made) v.made (omega (arith, later))
                  none,
              v.leads.reached,
            ))

        made : u.made ≡ v.made
        made = no_further (cases_order v.made u.made)

        states : (u.c ≡ v.c) × (e.calls ≡ f.calls)
        states =
            one_state p e.calls f.calls more same u.made v.made u.c v.c u.leads v.leads made

        at : AtLimit (n + 1) v.made f.steps f.end ⊎ Stops p v.c (n + 1) v.made f.steps f.end → e ≡ f
        at (inl b) = absurd (omega (arith, within, made, b.all))
        at (inr b) =
            both_stop p e f n (n + 1) u.made v.made u.c v.c made states.0 states.1 a b

    by_limit : AtLimit n u.made e.steps e.end
        → AtLimit (n + 1) v.made f.steps f.end ⊎ Stops p v.c (n + 1) v.made f.steps f.end
        → ContinuesBy e f run_end.Limit
    by_limit a (inl b) = inl (omega (arith, a.counted, b.counted))
    by_limit a (inr (inl b)) =
        inr (b.which, b.end_is, omega (arith, a.counted, a.all, further, b.counted, b.within))
    by_limit a (inr (inr b)) =
        inl (omega (arith, a.counted, a.all, further, b.counted, b.within))

    by_device : AtDevice p u.c n u.made e.steps e.end → f.calls ≡ e.calls → f ≡ e
    by_device a calls =
        stopped (inl a) (subst (λ (l : List CallRecord). state_after p (given_by l) (suc u.made)
        ≡ None) (sym calls) (unanswered p e.calls u.made u.c u.leads a.which a.asks))

    by : AtLimit n u.made e.steps e.end ⊎ Stops p u.c n u.made e.steps e.end
        → AtLimit (n + 1) v.made f.steps f.end ⊎ Stops p v.c (n + 1) v.made f.steps f.end
        → ContinuesBy e f e.end
    by (inl a) b = subst (ContinuesBy e f) (sym a.end_is) (by_limit a b)
    by (inr (inl a)) b = subst (ContinuesBy e f) (sym a.end_is) (by_device a)
    by (inr (inr a)) b =
        let none = subst (λ (g : List Primitive). state_after p g (suc u.made) ≡ None) (sym same)
        (ended p e.calls u.made u.c u.leads more a.end a.last a.ends) in
        subst (ContinuesBy e f) (sym a.end_is) (stays e f a.last.heap a.end (stopped (inr a) none))
