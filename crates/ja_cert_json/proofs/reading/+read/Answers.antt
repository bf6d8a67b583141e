use Rattle.std.proofs.Common.{◌≡◌, ◌-◌, ◌+◌, ◌<◌, [], ◌∷◌, ◌++◌, length, take, map, Some, None, option_map, string_bytes, sym, ap, ap₂, ◌∙◌, arith, rules}
use Rattle.std.proofs.lemmas.List.{take_more}
use lib.Seq.{take_all}
use Rattle.json.specs.Token.{Token}
use Rattle.json.specs.Json.{parse_map, after_end_array, read_key, items, members, value}
use Rattle.json.specs.Reads.{token_of}
use Rattle.json.proofs.Grammar.{value_is, value-begin_array, value-begin_object, read_key-shorter}
use Rattle.serde_json.specs.Data.{null, boolean, array, object, item, put}
use Rattle.serde_json.specs.Read.{of_json, of_members, converted}
use Rattle.serde_json.specs.View.{items_of}
use Rattle.ja_cert_json.specs.View.{items_before, items_view, members_view, seen, view}
use Rattle.ja_cert_json.specs.declared.value.Json.{Bool, Null, the_lemmas}
use Rattle.ja_cert_json.proofs.Views.{view-Object, members_view-insert_entry}
use Rattle.ja_cert_json.proofs.Turns.{converted-array, converted-object, list_from, list_found, list_more, list_over, list_refused, member_read, member_refused, key_refused, members_over, array_before, items_before-no_items, no_array, one_more_item, same_and_more, same_before}
use Rattle.ja_cert_json.proofs.reading.+read.Goals as goal

-- ---- a value

pub read_value-returns-in_err-token-clause-err : goal.read_value-returns-in_err-token-clause-err
read_value-returns-in_err-token-clause-err t c refused =
    let empty : c.args.reader.now ≡ [] = grind arith in
    ap (converted of_json) (ap (value c.args.depth) empty ∙ value_is c.args.depth [])

pub read_value-returns-then-depth-eq0-clause-err :
    goal.read_value-returns-then-depth-eq0-clause-err
unfolding value
read_value-returns-then-depth-eq0-clause-err t c never =
    let first : c.args.reader.now ≡ token_of c.in_ok-token.token ∷ c.next.new.self = grind arith in
    let none : c.args.depth ≡ 0 = omega arith in
    ap (converted of_json) (ap₂ value none (first
    ∙ ap (λ k. token_of k ∷ c.next.new.self) c.in-BeginArray.is))

pub read_value-returns-then-depth-eq0-2-clause-err :
    goal.read_value-returns-then-depth-eq0-2-clause-err
unfolding value
read_value-returns-then-depth-eq0-2-clause-err t c never =
    let first : c.args.reader.now ≡ token_of c.in_ok-token.token ∷ c.next.new.self = grind arith in
    let none : c.args.depth ≡ 0 = omega arith in
    ap (converted of_json) (ap₂ value none (first
    ∙ ap (λ k. token_of k ∷ c.next.new.self) c.in-BeginObject.is))

pub read_value-returns-in_err-found-in-BeginArray-clause-err :
    goal.read_value-returns-in_err-found-in-BeginArray-clause-err
read_value-returns-in_err-found-in-BeginArray-clause-err t c refused =
    let first : c.args.reader.now ≡ token_of c.in_ok-token.token ∷ c.next.new.self = grind arith in
    let opened = ap (converted of_json) (ap (value c.args.depth)
    (first ∙ ap (λ k. token_of k ∷ c.next.new.self) c.in-BeginArray.is)
    ∙ value-begin_array c.args.depth c.next.new.self (omega arith))
    ∙ converted-array (items (value (c.args.depth - 1)) (length c.next.new.self) c.next.new.self) in
    opened ∙ ap (parse_map array) (c.read_items.ensures.err (grind arith))

pub read_value-returns-in_err-members-in-BeginObject-clause-err :
    goal.read_value-returns-in_err-members-in-BeginObject-clause-err
read_value-returns-in_err-members-in-BeginObject-clause-err t c refused =
    let first : c.args.reader.now ≡ token_of c.in_ok-token.token ∷ c.next.new.self = grind arith in
    let opened = ap (converted of_json) (ap (value c.args.depth)
    (first ∙ ap (λ k. token_of k ∷ c.next.new.self) c.in-BeginObject.is)
    ∙ value-begin_object c.args.depth c.next.new.self (omega arith))
    ∙ converted-object (members (value (c.args.depth - 1)) (length c.next.new.self)
    c.next.new.self) in
    opened ∙ ap (parse_map object) (c.read_members.ensures.err (grind arith))

pub read_value-returns-in_ok-text_beside-in-String-clause-ok :
    goal.read_value-returns-in_ok-text_beside-in-String-clause-ok
read_value-returns-in_ok-text_beside-in-String-clause-ok t c =
    let first : c.args.reader.now ≡ token_of c.in_ok-token.token ∷ c.next.new.self = grind arith in
    let is : c.args.reader.now ≡ Token.string c.in-String.text.now ∷ c.next.new.self =
    grind (arith, first) in
    ap (converted of_json) (ap (value c.args.depth) is ∙ value_is c.args.depth _)
    ∙ ap (λ d. Some (d, c.next.new.self)) (sym c.in_ok-text_beside-in-String.ensures)

pub read_value-returns-in-Some-clause-ok : goal.read_value-returns-in-Some-clause-ok
read_value-returns-in-Some-clause-ok t c =
    let first : c.args.reader.now ≡ token_of c.in_ok-token.token ∷ c.next.new.self = grind arith in
    let is : c.args.reader.now ≡ Token.number c.in-Number.text.now ∷ c.next.new.self =
    grind (arith, first) in
    ap (converted of_json) (ap (value c.args.depth) is ∙ value_is c.args.depth _)
    ∙ ap (option_map (λ d. (d, c.next.new.self)))
    (sym c.in_ok-json-in-Number.ensures ∙ ap (option_map view) c.in-Some.is)
    ∙ ap (λ d. Some (d, c.next.new.self)) (sym c.number_beside.ensures)

pub read_value-returns-in-None-clause-err : goal.read_value-returns-in-None-clause-err
read_value-returns-in-None-clause-err t c refused =
    let first : c.args.reader.now ≡ token_of c.in_ok-token.token ∷ c.next.new.self = grind arith in
    let is : c.args.reader.now ≡ Token.number c.in-Number.text.now ∷ c.next.new.self =
    grind (arith, first) in
    ap (converted of_json) (ap (value c.args.depth) is ∙ value_is c.args.depth _)
    ∙ ap (option_map (λ d. (d, c.next.new.self)))
    (sym c.in_ok-json-in-Number.ensures ∙ ap (option_map view) c.in-None.is)

pub read_value-returns-in-Bool-clause-ok : goal.read_value-returns-in-Bool-clause-ok
read_value-returns-in-Bool-clause-ok t c =
    let first : c.args.reader.now ≡ token_of c.in_ok-token.token ∷ c.next.new.self = grind arith in
    let is : c.args.reader.now ≡ Token.boolean c.in-Bool.truth ∷ c.next.new.self =
    grind (arith, first) in
    let shown : view (Bool c.in-Bool.truth) ≡ boolean c.in-Bool.truth =
    search (rules, the_lemmas) in
    ap (converted of_json) (ap (value c.args.depth) is ∙ value_is c.args.depth _)
    ∙ ap (λ d. Some (d, c.next.new.self)) (sym shown)

pub read_value-returns-in-Null-clause-ok : goal.read_value-returns-in-Null-clause-ok
read_value-returns-in-Null-clause-ok t c =
    let first : c.args.reader.now ≡ token_of c.in_ok-token.token ∷ c.next.new.self = grind arith in
    let is : c.args.reader.now ≡ Token.null ∷ c.next.new.self = grind (arith, first) in
    let shown : view Null ≡ null = search (rules, the_lemmas) in
    ap (converted of_json) (ap (value c.args.depth) is ∙ value_is c.args.depth _)
    ∙ ap (λ d. Some (d, c.next.new.self)) (sym shown)

pub read_value-returns-in-EndObject-clause-err : goal.read_value-returns-in-EndObject-clause-err
read_value-returns-in-EndObject-clause-err t c refused =
    let first : c.args.reader.now ≡ token_of c.in_ok-token.token ∷ c.next.new.self = grind arith in
    let none : value c.args.depth c.args.reader.now ≡ None =
    rw (value_is c.args.depth c.args.reader.now, first) (grind arith) in
    ap (converted of_json) none

pub read_value-returns-in_ok-found-in-BeginArray-clause-ok :
    goal.read_value-returns-in_ok-found-in-BeginArray-clause-ok
read_value-returns-in_ok-found-in-BeginArray-clause-ok t c =
    let first : c.args.reader.now ≡ token_of c.in_ok-token.token ∷ c.next.new.self = grind arith in
    let opened = ap (converted of_json) (ap (value c.args.depth)
    (first ∙ ap (λ k. token_of k ∷ c.next.new.self) c.in-BeginArray.is)
    ∙ value-begin_array c.args.depth c.next.new.self (omega arith))
    ∙ converted-array (items (value (c.args.depth - 1)) (length c.next.new.self) c.next.new.self) in
    opened ∙ c.in_ok-found-in-BeginArray.ensures.ok

pub read_value-returns-in_ok-new-in-BeginObject-clause-ok :
    goal.read_value-returns-in_ok-new-in-BeginObject-clause-ok
read_value-returns-in_ok-new-in-BeginObject-clause-ok t c =
    let first : c.args.reader.now ≡ token_of c.in_ok-token.token ∷ c.next.new.self = grind arith in
    let opened = ap (converted of_json) (ap (value c.args.depth)
    (first ∙ ap (λ k. token_of k ∷ c.next.new.self) c.in-BeginObject.is)
    ∙ value-begin_object c.args.depth c.next.new.self (omega arith))
    ∙ converted-object (members (value (c.args.depth - 1)) (length c.next.new.self)
    c.next.new.self) in
    let kept = c.in_ok-new-in-BeginObject in
    let shown = view-Object kept.field-0
    ∙ ap (λ m. object (members_view m.entries)) kept.ensures.ok in
    opened ∙ ap (parse_map object) c.in_ok-members-in-BeginObject.ensures.ok
    ∙ ap (λ d. Some (d, c.read_members.new.reader)) (sym shown)

-- ---- the values of a list that are the same as those of another one

pub read_items-returns-then-take_end_array-clause-ok :
    goal.read_items-returns-then-take_end_array-clause-ok
read_items-returns-then-take_end_array-clause-ok t c =
    let l = c.same in
    let vs = take l.count c.in-Some.kept.now in
    let rest = c.take_end_array.new.self in
    let ended : after_end_array l.reader ≡ Some rest = grind arith in
    let same : map view c.in_ok-values.values.items ≡ map view vs = c.in_ok-values.ensures in
    ap (parse_map array) (l.invariant.0 ∙ ap (parse_map (items_before vs))
    (list_over c.args.depth l.reader rest ended))
    ∙ ap (λ ds. Some (array ds, rest)) (items_before-no_items vs ∙ ap items_of (sym same))
    ∙ ap (λ d. Some (d, rest)) (sym c.in_ok-json-2.ensures)

pub read_items-returns-in_err-json-3-clause-err : goal.read_items-returns-in_err-json-3-clause-err
read_items-returns-in_err-json-3-clause-err t c refused =
    let l = c.same in
    let going : after_end_array l.reader ≡ None = grind arith in
    let here : c.take_end_array.new.self ≡ l.reader = grind arith in
    l.invariant.0 ∙ ap (parse_map (items_before (take l.count c.in-Some.kept.now)))
    (list_refused c.args.depth l.reader going
    (ap (λ ts. converted of_json (value c.args.depth ts)) (sym here)
    ∙ c.read_value.ensures.err (grind arith)))

pub read_items-returns-in_err-json-4-clause-err : goal.read_items-returns-in_err-json-4-clause-err
read_items-returns-in_err-json-4-clause-err t c refused =
    let l = c.same in
    let vs = take l.count c.in-Some.kept.now in
    let v = c.in-Some-2.json in
    let rest = c.read_value.new.reader in
    let going : after_end_array l.reader ≡ None = grind arith in
    let here : c.take_end_array.new.self ≡ l.reader = grind arith in
    let found : converted of_json (value c.args.depth l.reader) ≡ Some (view v, rest) =
    ap (λ ts. converted of_json (value c.args.depth ts)) (sym here) ∙ c.in_ok-json-3.ensures.ok
    ∙ ap (λ o. Some (seen c.index-kept-count.result o, rest)) c.in-Some-2.is in
    l.invariant.0 ∙ ap (parse_map (items_before vs))
    (list_more c.args.depth l.reader rest (view v) going found
    ∙ ap (parse_map (item (view v))) (c.read_rest-in-Some-2.ensures.err (grind arith)))

pub read_items-returns-in-Some-2-clause-ok : goal.read_items-returns-in-Some-2-clause-ok
read_items-returns-in-Some-2-clause-ok t c =
    let l = c.same in
    let vs = take l.count c.in-Some.kept.now in
    let v = c.in-Some-2.json in
    let rest = c.read_value.new.reader in
    let more = list_from c.args.depth rest in
    let going : after_end_array l.reader ≡ None = grind arith in
    let here : c.take_end_array.new.self ≡ l.reader = grind arith in
    let found : converted of_json (value c.args.depth l.reader) ≡ Some (view v, rest) =
    ap (λ ts. converted of_json (value c.args.depth ts)) (sym here) ∙ c.in_ok-json-3.ensures.ok
    ∙ ap (λ o. Some (seen c.index-kept-count.result o, rest)) c.in-Some-2.is in
    let copied = c.in_ok-values-2.values.items in
    let same : map view vs ≡ map view copied = sym c.in_ok-values-2.ensures in
    let all = c.push.new.self.items in
    let pushed : all ≡ copied ++ v ∷ [] = c.in_ok-push.ensures.items in
    ap (parse_map array) (l.invariant.0 ∙ ap (parse_map (items_before vs))
    (list_more c.args.depth l.reader rest (view v) going found)
    ∙ one_more_item vs v more
    ∙ same_before (vs ++ v ∷ []) (copied ++ v ∷ []) more (same_and_more vs copied v same)
    ∙ ap (λ ws. parse_map (items_before ws) more) (sym pushed))
    ∙ array_before all more ∙ c.in_ok-json-4.ensures.ok

pub read_items-same-preserved : goal.read_items-same-preserved
read_items-same-preserved t c =
    let l = c.same in
    let kept = c.in-Some.kept.now in
    let vs = take l.count kept in
    let v = c.index-kept-count.result in
    let rest = c.read_value.new.reader in
    let more = list_from c.args.depth rest in
    let going : after_end_array l.reader ≡ None = grind arith in
    let here : c.take_end_array.new.self ≡ l.reader = grind arith in
    let none : c.in_ok-json-3.field-0 ≡ None = search rules in
    let found : converted of_json (value c.args.depth l.reader) ≡ Some (view v, rest) =
    ap (λ ts. converted of_json (value c.args.depth ts)) (sym here) ∙ c.in_ok-json-3.ensures.ok
    ∙ ap (λ o. Some (seen v o, rest)) none in
    let within : l.count < length kept = omega (arith, c.same-test.true) in
    let next : vs ++ v ∷ [] ≡ take (l.count + 1) kept =
    sym (take_more kept l.count v within ∙ ap (λ x. vs ++ x ∷ []) (sym c.index-kept-count.is)) in (
      l.invariant.0 ∙ ap (parse_map (items_before vs))
          (list_more c.args.depth l.reader rest (view v) going found)
          ∙ one_more_item vs v more ∙ ap (λ ws. parse_map (items_before ws) more) next,
      omega (arith, l.invariant.1, ap length here, c.in_ok-json-3.ensures.shorter),
      omega (arith, within),
    )

pub read_items-returns-then-take_end_array-2-clause-ok :
    goal.read_items-returns-then-take_end_array-2-clause-ok
read_items-returns-then-take_end_array-2-clause-ok t c =
    let l = c.same in
    let kept = c.in-Some.kept.now in
    let rest = c.take_end_array-2.new.self in
    let ended : after_end_array l.reader ≡ Some rest = grind arith in
    let all : take l.count kept ≡ kept = take_all l.count kept (omega (arith, c.same-test.false)) in
    let is : view c.args.other.now ≡ array (items_view kept) =
    list_found (view c.args.other.now) (items_view kept)
    (sym c.as_array.ensures ∙ ap (option_map (λ v. items_view v.now)) c.in-Some.is) in
    ap (parse_map array) (l.invariant.0 ∙ ap (λ ws. parse_map (items_before ws)
    (list_from c.args.depth l.reader)) all
    ∙ ap (parse_map (items_before kept)) (list_over c.args.depth l.reader rest ended))
    ∙ ap (λ ds. Some (array ds, rest)) (items_before-no_items kept)
    ∙ ap (λ d. Some (d, rest)) (sym is)

pub read_items-returns-in_err-json-5-clause-err : goal.read_items-returns-in_err-json-5-clause-err
read_items-returns-in_err-json-5-clause-err t c refused =
    let l = c.same in
    let here : c.take_end_array-2.new.self ≡ l.reader = grind arith in
    l.invariant.0 ∙ ap (parse_map (items_before (take l.count c.in-Some.kept.now)))
    (ap (list_from c.args.depth) (sym here) ∙ c.read_rest-2.ensures.err (grind arith))

pub read_items-returns-clause-ok : goal.read_items-returns-clause-ok
read_items-returns-clause-ok t c =
    let l = c.same in
    let kept = c.in-Some.kept.now in
    let copied = c.in_ok-values-3.values.items in
    let more = list_from c.args.depth l.reader in
    let here : c.take_end_array-2.new.self ≡ l.reader = grind arith in
    let all : take l.count kept ≡ kept = take_all l.count kept (omega (arith, c.same-test.false)) in
    let same : map view kept ≡ map view copied = sym c.in_ok-values-3.ensures in
    ap (parse_map array) (l.invariant.0 ∙ ap (λ ws. parse_map (items_before ws) more) all
    ∙ same_before kept copied more same)
    ∙ array_before copied more
    ∙ ap (λ ts. parse_map (λ ds. array (items_before copied ds)) (list_from c.args.depth ts))
    (sym here) ∙ c.in_ok-json-5.ensures.ok

-- ---- the others

pub read_rest-returns-in_err-found-clause-err : goal.read_rest-returns-in_err-found-clause-err
read_rest-returns-in_err-found-clause-err t c refused =
    let l = c.rest in
    let going : after_end_array l.reader ≡ None = grind arith in
    let here : c.take_end_array.new.self ≡ l.reader = grind arith in
    no_array c.args.values.items _ (l.invariant.0
    ∙ ap (parse_map (λ ds. array (items_before l.all.items ds)))
    (list_refused c.args.depth l.reader going
    (ap (λ ts. converted of_json (value c.args.depth ts)) (sym here)
    ∙ c.read_value.ensures.err (grind arith))))

pub read_rest-rest-preserved : goal.read_rest-rest-preserved
read_rest-rest-preserved t c =
    let l = c.rest in
    let vs = l.all.items in
    let v = c.in_ok-json.json in
    let rest = c.read_value.new.reader in
    let more = list_from c.args.depth rest in
    let going : after_end_array l.reader ≡ None = grind arith in
    let here : c.take_end_array.new.self ≡ l.reader = grind arith in
    let found : converted of_json (value c.args.depth l.reader) ≡ Some (view v, rest) =
    ap (λ ts. converted of_json (value c.args.depth ts)) (sym here) ∙ c.in_ok-found.ensures.ok
    ∙ ap (λ d. Some (d, rest)) (sym c.in_ok-json.ensures) in
    let pushed : c.push.new.self.items ≡ vs ++ v ∷ [] = c.in_ok-push.ensures.items in (
      l.invariant.0 ∙ sym (array_before vs (list_from c.args.depth l.reader))
          ∙ ap (parse_map array) (ap (parse_map (items_before vs))
          (list_more c.args.depth l.reader rest (view v) going found)
          ∙ one_more_item vs v more)
          ∙ array_before (vs ++ v ∷ []) more
          ∙ ap (λ ws. parse_map (λ ds. array (items_before ws ds)) more) (sym pushed),
      omega (arith, l.invariant.1, ap length here, c.in_ok-found.ensures.shorter),
    )

pub read_rest-returns-clause-ok : goal.read_rest-returns-clause-ok
read_rest-returns-clause-ok t c =
    let l = c.rest in
    let vs = l.all.items in
    let rest = c.take_end_array.new.self in
    let ended : after_end_array l.reader ≡ Some rest = grind arith in
    l.invariant.0 ∙ ap (parse_map (λ ds. array (items_before vs ds)))
    (list_over c.args.depth l.reader rest ended)
    ∙ ap (λ ds. Some (array ds, rest)) (items_before-no_items vs)
    ∙ ap (λ d. Some (d, rest)) (sym c.in_ok-json-2.ensures)

-- ---- the members of an object

pub read_members-returns-in_err-name-clause-err : goal.read_members-returns-in_err-name-clause-err
read_members-returns-in_err-name-clause-err t c refused =
    let p = value c.args.depth in
    let l = c.members in
    let n = l.invariant.0 in
    let old = members_view l.members.entries in
    l.invariant.2 ∙ key_refused p old n l.reader c.in_err-name.ensures.value

pub read_members-returns-in_err-found-clause-err :
    goal.read_members-returns-in_err-found-clause-err
read_members-returns-in_err-found-clause-err t c refused =
    let p = value c.args.depth in
    let l = c.members in
    let n = l.invariant.0 in
    let old = members_view l.members.entries in
    let k = c.in-Some.name.now in
    let s = c.next_key.new.self in
    let named : read_key l.reader ≡ Some (Some k, s) = grind arith in
    l.invariant.2 ∙ member_refused p old n k l.reader s named
    (c.read_value.ensures.err (grind arith))

pub read_members-members-preserved : goal.read_members-members-preserved
read_members-members-preserved t c =
    let p = value c.args.depth in
    let l = c.members in
    let n = l.invariant.0 in
    let old = members_view l.members.entries in
    let k = c.in-Some.name.now in
    let s = c.next_key.new.self in
    let named : read_key l.reader ≡ Some (Some k, s) = grind arith in
    let done = c.in_ok-found.ensures in
    let v = c.in_ok-json.json in
    let r = c.read_value.new.reader in
    let less = read_key-shorter l.reader (Some k) s named in
    let lesser = done.shorter in
    let copied : string_bytes c.in_ok-key.key ≡ k = search rules in
    let inserted : members_view c.insert.new.self.entries ≡ put k (view v) old =
    ap members_view c.in_ok-insert.ensures.entries
    ∙ members_view-insert_entry l.members.entries c.in_ok-key.key v
    ∙ ap (λ name. put name (view v) old) copied in (
      n - 1,
      omega (arith, l.invariant.1),
      l.invariant.2 ∙ member_read p old n k l.reader s r (view v) (omega (arith, l.invariant.1))
          named (done.ok ∙ ap (λ d. Some (d, r)) (sym c.in_ok-json.ensures))
          ∙ ap (λ found. converted (λ ms. of_members ms found) (members p (n - 1) r))
          (sym inserted),
      omega (arith, l.invariant.3),
    )

pub read_members-returns-clause-ok : goal.read_members-returns-clause-ok
read_members-returns-clause-ok t c =
    let p = value c.args.depth in
    let l = c.members in
    let n = l.invariant.0 in
    let old = members_view l.members.entries in
    l.invariant.2 ∙ members_over p old n l.reader c.next_key.new.self l.invariant.1 (grind arith)
