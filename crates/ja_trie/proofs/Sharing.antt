-- The depth of a shared list, what its root says of it, and lists of one value.
use Rattle.std.proofs.Common.{◌≡◌, ℕ, zero, suc, ◌+◌, ◌-◌, ◌*◌, ◌^◌, ◌<◌, ◌≤◌, ◌⊎◌, Option, List, ◌++◌, length, take, replicate, sym, ap, ◌∙◌, arith, add-one, pow-suc, ⊎_elim}
use Rattle.std.specs.List.{flat_map}
use Rattle.std.proofs.lemmas.Bool.{cases_lt}
use Rattle.std.proofs.lemmas.List.{replicate-append-replicate, length-take, length-replicate}
use Rattle.std.proofs.Math.Nat.{pow-le-pow_right, one-le-pow, mul-le-mul_left}
use Rattle.ja_trie.specs.Join.{Joined}
use Rattle.ja_trie.specs.Nodes.{ArePaths}
use Rattle.ja_trie.specs.code.Join.{JoinedTo}
use Rattle.ja_trie.specs.code.Shared.{IsShared}
use Rattle.ja_trie.proofs.Joins.{joined_at, joined_take, joined_whole}

-- ---- depths

-- one level more has eight times as many places
pub eightfold : (d : ℕ) → 8 ^ (d + 1) ≡ 8 * 8 ^ d
eightfold d =
    let more : 8 ^ (d + 1) ≡ 8 ^ d * 8 = ap (λ n. 8 ^ n) (add-one d) ∙ pow-suc 8 d in
    omega arith

-- as many levels as places have room for them
pub long_power : (n : ℕ) → n ≤ 8 ^ (n + 1)
long_power zero = omega arith
long_power (suc n) =
    let more : 8 ^ (n + 1 + 1) ≡ 8 * 8 ^ (n + 1) = eightfold (n + 1) in
    let up : suc n + 1 ≡ n + 1 + 1 = omega arith in
    let same : 8 ^ (suc n + 1) ≡ 8 ^ (n + 1 + 1) = ap (λ k. 8 ^ k) up in
    omega (arith, long_power n, one-le-pow (n + 1) 8 (omega arith))

-- with so much depth there is no room, so it takes more
pub depth_more : (low d long : ℕ) → long ≤ 8 ^ (d + 1) → 8 ^ (low + 1) < long → low < d
depth_more low d long room short =
    ⊎_elim (λ lt. lt) (λ le.
    let high = pow-le-pow_right {n = 8} (omega arith) {i = d + 1} {j = low + 1} (omega arith) in
    absurd (omega arith)) (cases_lt low d)

-- the depth is the least that has room
pub depth_least : {T : Type 0} (long w : ℕ) (places : List T) (s : IsShared long w places) (d : ℕ)
    → long ≤ 8 ^ (d + 1) → s.depth ≤ d
depth_least long w places s d room =
    ⊎_elim (λ lt. ⊎_elim (λ e. omega arith) (λ below.
    let high = pow-le-pow_right {n = 8} (omega arith) {i = d + 1} {j = s.depth} (omega arith) in
    absurd (omega (arith, s.power))) s.least) (λ le. le) (cases_lt d s.depth)

-- ---- a list and its root

-- as long as it says
pub long_is : {T : Type 0} (long w : ℕ) (places self : List T) (s : IsShared long w places)
    → take long places ≡ self → length self ≡ long
long_is long w places self s is =
    sym (ap length is) ∙ length-take long places ∙ omega (arith, s.enough, s.whole)

-- the root has a power of eight of places
pub root_length : {T : Type 0} (long w : ℕ) (places : List T) (s : IsShared long w places)
    → length places ≡ 8 ^ (s.depth + 1)
root_length long w places s =
    s.whole ∙ ap (λ n. 8 * n) s.power ∙ sym (eightfold s.depth)

-- lists of one length have roots of one width
pub width_same : {T : Type 0} (long long' w w' : ℕ) (places places' : List T)
    (s : IsShared long w places) (s' : IsShared long' w' places') → long ≡ long' → w ≡ w'
width_same long long' w w' places places' s s' e =
    let here =
    depth_least long w places s s'.depth (omega (arith, s'.enough, s'.power, eightfold s'.depth)) in
    let there =
    depth_least long' w' places' s' s.depth (omega (arith, s.enough, s.power, eightfold s.depth)) in
    let same : s.depth ≡ s'.depth = omega arith in
    s.power ∙ ap (λ d. 8 ^ d) same ∙ sym s'.power

more_room : (a b puts : ℕ) → a ≤ b → (a + 1) * puts ≤ (b + 1) * puts
more_room a b puts le =
    let e : b ≡ a + (b - a) = omega arith in
    let product : (b + 1) * puts ≡ (a + 1) * puts + (b - a) * puts =
    ap (λ n. (n + 1) * puts) e ∙ omega arith in
    omega arith

-- what a root counts of its height, a list counts of each depth with room for it
pub root_paths : {T : Type 0} (long w : ℕ) (places : List T) (s : IsShared long w places)
    (self root : List T) (puts from to : ℕ) → length self ≡ long → root ≡ places
    → ((h : ℕ) → length root ≡ 8 ^ (h + 1) → to ≤ from + (h + 1) * puts)
    → ArePaths (length self) puts from to
root_paths long w places s self root puts from to long_self is made d room =
    let high = ap length is ∙ root_length long w places s in
    let depth = depth_least long w places s d (omega (arith, long_self, room)) in
    omega (arith, made s.depth high, more_room s.depth d puts depth)

-- what is counted for some places is no more than for all
pub few_paths : (h puts n from to : ℕ) → puts ≤ n → to ≤ from + (h + 1) * puts
    → to ≤ from + (h + 1) * n
few_paths h puts n from to few made =
    let all : (h + 1) * puts ≤ (h + 1) * n = mul-le-mul_left (h + 1) few in
    omega arith

-- where roots are joined as far as the first list goes, the lists are
pub root_joined : {T : Type 0} (R : T → T → Option T → Type 0) (long long' w w' : ℕ)
    (xs ys zs self other after : List T) (puts : ℕ)
    (s : IsShared long w xs) (o : IsShared long' w' ys)
    → take long xs ≡ self → take long' ys ≡ other → take long zs ≡ after
    → length other ≡ length self → JoinedTo R long xs ys zs puts → Joined R self other after puts
root_joined R long long' w w' xs ys zs self other after puts s o is is' is'' same h =
    let here = long_is long w xs self s is in
    let there = long_is long' w' ys other o is' in
    let cut : take long ys ≡ other =
    ap (λ k. take k ys) (sym here ∙ sym same ∙ there) ∙ is' in
    joined_whole R long self other after puts (omega (arith, here)) same
    (joined_at R long _ _ _ _ _ _ puts is cut is'' (joined_take R long xs ys zs puts h))

-- ---- lists of one value

-- so many equal parts of one value
pub replicate_level : {X A : Type 0} (f : X → List A) (x : X) (a : A) (k m : ℕ)
    → f x ≡ replicate m a → flat_map f (replicate k x) ≡ replicate (k * m) a
replicate_level f x a zero m e = let none : 0 ≡ 0 * m = omega arith in ap (λ n. replicate n a) none
replicate_level f x a (suc k) m e =
    let more : (k + 1) * m ≡ k * m + m = omega arith in
    let at : m + k * m ≡ suc k * m = omega arith in
    ap (λ l. l ++ flat_map f (replicate k x)) e
    ∙ ap (λ l. replicate m a ++ l) (replicate_level f x a k m e)
    ∙ replicate-append-replicate m (k * m) a ∙ ap (λ n. replicate n a) at

-- the shape of a list of one value, whose root is of the least depth with room for it
abbrev pub replicate_shared : {T : Type 0} (long w d : ℕ) (root : List T) (a : T) → long ≤ 8 * w
    → w ≡ 8 ^ d → root ≡ replicate (8 * w) a → (d ≡ 0) ⊎ (w < long) → IsShared long w root
replicate_shared long w d root a enough power all least = record {
  enough = enough;
  whole = ap length all ∙ length-replicate (8 * w) a;
  depth = d;
  power = power;
  least = least;
}
