use Rattle.std.proofs.Common.{◌≡◌, ◌≤◌, ◌++◌, ◌∙◌, ℕ, List, ap, arith, codes, length, map, subst, sym}
use Rattle.std.specs.List.{AllByRecursion, flat_map}
use Rattle.ja_files.specs.Files.{characters_of, name_of}
use Rattle.ja_lex.specs.Spots.{max_bytes}
use Rattle.ja_show.specs.Messages.{shown_name}
use Rattle.ja_show.specs.Page.{escaped, heading, message_item, page_text, sections}
use Rattle.ja_show.specs.code.Kept.{lists_in}
use Rattle.ja_show.specs.declared.style.TheConstants.{HEAD, STYLE}
use Rattle.ja_show.proofs.Kept.{files_within, length_lists, texts_within}
use Rattle.ja_show.proofs.Parts.{adds, adds_as, added_to_none, none_yet}
use Rattle.ja_show.proofs.page.page_text.Goals as goal

pub push_sections-requires-clause-few : goal.push_sections-requires-clause-few
push_sections-requires-clause-few c =
    let few = files_within c.args.files.now c.requires.within in
    let each : length c.in_ok-texts.texts.items ≡ length c.args.files.now =
    length_lists characters_of c.in_ok-texts.texts.items c.args.files.now c.in_ok-texts.ensures in
    let same : length c.deref-4.result.now ≡ length c.in_ok-texts.texts.items =
    ap length c.deref-4.ensures.value in
    omega arith

pub push_sections-requires-clause-within : goal.push_sections-requires-clause-within
push_sections-requires-clause-within c =
    subst (λ (texts : List (List ℕ)).
    AllByRecursion (λ (text : List ℕ). length text ≤ max_bytes) texts)
    (sym (ap lists_in c.deref-4.ensures.value ∙ c.in_ok-texts.ensures))
    (texts_within c.args.files.now c.requires.within)

pub returns : goal.returns
unfolding page_text
returns c =
    let summary = escaped c.args.summary.now in
    let messages = c.args.messages.now in
    let links = c.args.links.now in
    let names = map shown_name (map name_of c.args.files.now) in
    let texts = map characters_of c.args.files.now in
    let head_of : List (List ℕ) → List ℕ =
    λ ns. HEAD.now ++ heading c.args.title.now ns ++ STYLE.now ++ heading c.args.title.now ns
    ++ codes "</h1>\n<p>" ++ summary ++ codes "</p>\n<ul>\n" in
    let head =
    adds_as (head_of names) (none_yet c.new-out.result.items) c.in_ok-push_head.ensures
    (ap head_of (ap lists_in c.deref.ensures.value ∙ c.in_ok-names.ensures)) in
    let items =
    adds_as (flat_map (message_item names) messages) head c.in_ok-push_items.ensures
    (ap (λ (ns : List (List ℕ)). flat_map (message_item ns) messages)
    (ap lists_in c.deref-2.ensures.value ∙ c.in_ok-names.ensures)) in
    let list = adds (codes "</ul>\n") items c.in_ok-extend_from_slice.ensures.items in
    let files =
    adds_as (sections names messages links 0 texts) list c.in_ok-push_sections.ensures
    (ap (λ (ns : List (List ℕ)).
    sections ns messages links 0 (lists_in c.deref-4.result.now))
    (ap lists_in c.deref-3.ensures.value ∙ c.in_ok-names.ensures)
    ∙ ap (λ (ts : List (List ℕ)). sections names messages links 0 ts)
    (ap lists_in c.deref-4.ensures.value ∙ c.in_ok-texts.ensures)) in
    added_to_none c.new-out.ensures.items
    (adds (codes "</body>\n</html>\n") files c.in_ok-extend_from_slice-2.ensures.items)
