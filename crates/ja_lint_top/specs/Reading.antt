-- What is held under the names of files, where it is told: the bytes of each, or nothing that can be
-- read.
use Rattle.std.specs.Prelude.{◌≡◌, ◌<◌, ℕ, List, [], ◌∷◌, length, Option, None, Some, ⊤}
use Rattle.ja_lex.specs.Spots.{max_bytes}
use Rattle.ja_lint_top.specs.declared.files.Unread.{Unread}
use Rattle.ja_lint_top.specs.declared.files.Unread.TheVariants.{Failed, TooLong, Memory}

abbrev pub Held : Type 0
Held = Option (List ℕ → Option (List ℕ))

-- these bytes are held under a name
abbrev pub Holds : Held → List ℕ → List ℕ → Type 0
Holds None name bytes = ⊤
Holds (Some held) name bytes = held name ≡ Some bytes

-- more bytes than a text may have
abbrev pub HoldsMore : Held → List ℕ → Type 0
HoldsMore None name = ⊤
HoldsMore (Some held) name =
    (bytes : List ℕ) × (held name ≡ Some bytes) × (max_bytes < length bytes)

-- nothing that can be read
abbrev pub HoldsNone : Held → List ℕ → Type 0
HoldsNone None name = ⊤
HoldsNone (Some held) name = held name ≡ None

-- these bytes are held under these names, one after another
abbrev pub AreHeld : Held → List (List ℕ) → List (List ℕ) → Type 0
AreHeld held [] contents = contents ≡ []
AreHeld held (name ∷ names) [] = ⊥
AreHeld held (name ∷ names) (bytes ∷ contents) =
    Holds held name bytes × AreHeld held names contents

-- why a file isn't read; want of memory has no cause
abbrev pub IsUnread : Held → List ℕ → Unread → Type 0
IsUnread held name (Failed reason) = HoldsNone held name
IsUnread held name TooLong = HoldsMore held name
IsUnread held name Memory = ⊤
