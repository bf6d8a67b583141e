-- The 32-bit operations on numbers (ES3 9.5, 9.6, 11.4.8, 11.7, 11.10).
use Rattle.std.specs.Prelude.{ℕ, ◌-◌, ◌/◌, ◌%◌, ◌^◌, nat_lt, if◌then◌else◌, ℤ, pos, ◌-ℤ◌, ◌*ℤ◌, unsigned_abs, bit_and, bit_or, bit_xor}
use Rattle.std.specs.Int.{int_div_euclid, int_rem_euclid}
use Rattle.ja_prim.specs.declared.primitive.Num.{Num}
use Rattle.ja_prim.specs.declared.primitive.Num.TheVariants.{NaN, Whole}

-- the residue of a whole number modulo 2^32: from 0 to 2^32 - 1
abbrev pub residue : ℤ → ℕ
residue z = unsigned_abs (int_rem_euclid z (pos (2 ^ 32)))

-- the number from -2^31 to 2^31 - 1 that has this residue
abbrev pub signed_of : ℕ → ℤ
signed_of r = if nat_lt r (2 ^ 31) then pos r else pos r -ℤ pos (2 ^ 32)

-- ToUint32 (9.6); of NaN 0
abbrev pub to_uint32 : Num → ℕ
to_uint32 NaN = 0
to_uint32 (Whole z) = residue z

-- ToInt32 (9.5)
abbrev pub to_int32 : Num → ℤ
to_int32 a = signed_of (to_uint32 a)

-- how many places a shift moves: the right operand modulo 32
abbrev pub places : Num → ℕ
places b = to_uint32 b % 32

-- the left shift (11.7.1): times 2^k, of which the residue counts
abbrev pub shl : Num → Num → Num
shl a b = Whole (signed_of (residue (to_int32 a *ℤ pos (2 ^ places b))))

-- the right shift with sign (11.7.2): the quotient by 2^k, rounded down
abbrev pub shr : Num → Num → Num
shr a b = Whole (int_div_euclid (to_int32 a) (pos (2 ^ places b)))

-- the right shift without sign (11.7.3): the same of the residue
abbrev pub ushr : Num → Num → Num
ushr a b = Whole (pos (to_uint32 a / 2 ^ places b))

-- AND of the bits of the residues (11.10)
abbrev pub and : Num → Num → Num
and a b = Whole (signed_of (bit_and (to_uint32 a) (to_uint32 b)))

-- OR of them (11.10)
abbrev pub or : Num → Num → Num
or a b = Whole (signed_of (bit_or (to_uint32 a) (to_uint32 b)))

-- XOR of them (11.10)
abbrev pub xor : Num → Num → Num
xor a b = Whole (signed_of (bit_xor (to_uint32 a) (to_uint32 b)))

-- each of the 32 bits turned (11.4.8)
abbrev pub not : Num → Num
not a = Whole (signed_of (2 ^ 32 - 1 - to_uint32 a))
