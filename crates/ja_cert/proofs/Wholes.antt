-- The texts of objects, by their members.
use Rattle.std.proofs.Common.{◌≡◌, ℕ, List, [], ◌++◌, ◌∙◌, ap, append_assoc, decimal}
use Rattle.std.specs.Fmt.{digits}
use lib.Chars.{codes}
use Rattle.serde_json.specs.Data.{Data, object, member, no_members}
use Rattle.serde_json.specs.Written.{compact_text}
use Rattle.serde_json.proofs.OnLiterals.{serde_json_on_literals}
use Rattle.ja_cert.specs.Certificate.{whole}

-- ---- a node with its state

state_text : (masks heap : Data) (n : ℕ) (registers : Data)
    → codes "{\"alloc\":" ++ compact_text masks ++ codes ",\"heap\":" ++ compact_text heap
    ++ codes ",\"node\":" ++ decimal n ++ codes ",\"registers\":" ++ compact_text registers
    ++ codes "}"
    ≡ compact_text (object (member (codes "alloc") masks (member (codes "heap") heap
    (member (codes "node") (whole n) (member (codes "registers") registers no_members)))))
unfolding serde_json_on_literals
state_text masks heap n registers = simp append_assoc

-- nine pieces, one behind the other
nine : (base a b c d e f g h i ka xa kb xb kc xc kd xd ke : List ℕ) → a ≡ base ++ ka
    → b ≡ a ++ xa → c ≡ b ++ kb → d ≡ c ++ xb → e ≡ d ++ kc → f ≡ e ++ xc → g ≡ f ++ kd
    → h ≡ g ++ xd → i ≡ h ++ ke
    → i ≡ base ++ (ka ++ xa ++ kb ++ xb ++ kc ++ xc ++ kd ++ xd ++ ke)
nine base a b c d e f g h i ka xa kb xb kc xc kd xd ke is_a is_b is_c is_d is_e is_f is_g is_h
    is_i =
    simp (is_i, is_h, is_g, is_f, is_e, is_d, is_c, is_b, is_a, append_assoc)

pub state_written : (base a b c d e f g h i : List ℕ) (masks heap : Data) (n : ℕ)
    (registers : Data) → a ≡ base ++ codes "{\"alloc\":" → b ≡ a ++ compact_text masks
    → c ≡ b ++ codes ",\"heap\":" → d ≡ c ++ compact_text heap → e ≡ d ++ codes ",\"node\":"
    → f ≡ e ++ decimal n → g ≡ f ++ codes ",\"registers\":" → h ≡ g ++ compact_text registers
    → i ≡ h ++ codes "}"
    → i ≡ base ++ compact_text (object (member (codes "alloc") masks (member (codes "heap") heap
    (member (codes "node") (whole n) (member (codes "registers") registers no_members)))))
state_written base a b c d e f g h i masks heap n registers is_a is_b is_c is_d is_e is_f is_g is_h
    is_i =
    nine base a b c d e f g h i _ _ _ _ _ _ _ _ _ is_a is_b is_c is_d is_e is_f is_g is_h is_i
    ∙ ap (λ (l : List ℕ). base ++ l) (state_text masks heap n registers)

-- ---- a context, with a comma behind it

context_text : (entries : Data) (f : ℕ) (points : Data) (r : ℕ)
    → codes "{\"entries\":" ++ compact_text entries ++ codes ",\"function\":" ++ decimal f
    ++ codes ",\"points\":" ++ compact_text points ++ codes ",\"receiver\":" ++ decimal r
    ++ codes "},"
    ≡ compact_text (object (member (codes "entries") entries (member (codes "function") (whole f)
    (member (codes "points") points (member (codes "receiver") (whole r) no_members)))))
    ++ codes ","
unfolding serde_json_on_literals
context_text entries f points r = simp append_assoc

pub context_written : (base a b c d e f g h i : List ℕ) (entries : Data) (n : ℕ) (points : Data)
    (r : ℕ) → a ≡ base ++ codes "{\"entries\":" → b ≡ a ++ compact_text entries
    → c ≡ b ++ codes ",\"function\":" → d ≡ c ++ decimal n → e ≡ d ++ codes ",\"points\":"
    → f ≡ e ++ compact_text points → g ≡ f ++ codes ",\"receiver\":" → h ≡ g ++ decimal r
    → i ≡ h ++ codes "},"
    → i ≡ base ++ (compact_text (object (member (codes "entries") entries
    (member (codes "function") (whole n) (member (codes "points") points
    (member (codes "receiver") (whole r) no_members))))) ++ codes ",")
context_written base a b c d e f g h i entries n points r is_a is_b is_c is_d is_e is_f is_g is_h
    is_i =
    nine base a b c d e f g h i _ _ _ _ _ _ _ _ _ is_a is_b is_c is_d is_e is_f is_g is_h is_i
    ∙ ap (λ (l : List ℕ). base ++ l) (context_text entries n points r)

-- ---- the whole

front_of : Data → Data → Data → List ℕ
front_of contexts devices edges =
    codes "{\"contexts\":" ++ compact_text contexts ++ codes ",\"devices\":"
    ++ compact_text devices ++ codes ",\"edges\":" ++ compact_text edges

certificate_text : (contexts devices edges text visits : Data)
    → codes "{\"contexts\":" ++ compact_text contexts ++ codes ",\"devices\":"
    ++ compact_text devices ++ codes ",\"edges\":" ++ compact_text edges ++ codes ",\"text\":"
    ++ compact_text text ++ codes ",\"version\":1,\"visits\":" ++ compact_text visits
    ++ codes "}\n"
    ≡ compact_text (object (member (codes "contexts") contexts (member (codes "devices") devices
    (member (codes "edges") edges (member (codes "text") text
    (member (codes "version") (whole 1) (member (codes "visits") visits no_members)))))))
    ++ codes "\n"
unfolding serde_json_on_literals digits
certificate_text contexts devices edges text visits = simp append_assoc

-- six pieces, one behind the other
pub six : (base a b c d e f ka xa kb xb kc xc : List ℕ) → a ≡ base ++ ka → b ≡ a ++ xa
    → c ≡ b ++ kb → d ≡ c ++ xb → e ≡ d ++ kc → f ≡ e ++ xc
    → f ≡ base ++ (ka ++ xa ++ kb ++ xb ++ kc ++ xc)
six base a b c d e f ka xa kb xb kc xc is_a is_b is_c is_d is_e is_f =
    simp (is_f, is_e, is_d, is_c, is_b, is_a, append_assoc)

pub certificate_written : (none a b c d e f : List ℕ) (contexts devices edges text visits : Data)
    → none ≡ [] → a ≡ none ++ (codes "{\"contexts\":" ++ compact_text contexts
    ++ codes ",\"devices\":" ++ compact_text devices ++ codes ",\"edges\":"
    ++ compact_text edges) → b ≡ a ++ codes ",\"text\":" → c ≡ b ++ compact_text text
    → d ≡ c ++ codes ",\"version\":1,\"visits\":" → e ≡ d ++ compact_text visits
    → f ≡ e ++ codes "}\n"
    → f ≡ compact_text (object (member (codes "contexts") contexts (member (codes "devices") devices
    (member (codes "edges") edges (member (codes "text") text
    (member (codes "version") (whole 1) (member (codes "visits") visits no_members)))))))
    ++ codes "\n"
unfolding front_of
certificate_written none a b c d e f contexts devices edges text visits is_none is_a is_b is_c is_d
    is_e is_f =
    six none a b c d e f _ _ _ _ _ _ is_a is_b is_c is_d is_e is_f
    ∙ ap (λ (l : List ℕ). l ++ (front_of contexts devices edges ++ codes ",\"text\":"
    ++ compact_text text ++ codes ",\"version\":1,\"visits\":" ++ compact_text visits
    ++ codes "}\n")) is_none ∙ certificate_text contexts devices edges text visits
