-- Which limits of a pool a struct sets (RFC 5042 6.4.3.1).
use Rattle.std.specs.Prelude.{◌≡◌, ◌≤◌, ℕ, ◌==◌, ◌^◌, ◌-◌, Bool, true, not, nat_lt, if◌then◌else◌, Option, None}
use Rattle.iw_codes.specs.declared.numbers.TheConstants as numbers
use Rattle.iw_handle.specs.declared.refusal.Refusal.{Refusal}
use Rattle.iw_handle.specs.declared.structs.Limits.{Limits}
use Rattle.iw_handle.specs.declared.structs.TheConstants as sizes
use Rattle.iw_handle.specs.Structs.{struct_refusal}
use Rattle.iw_handle.specs.State.{first_of}
use Rattle.iw_handle.specs.Words.{bits_refusal, has_bit}

-- in the first version it had no flags
abbrev pub is_plain : Limits → Bool
is_plain l = nat_lt l.size sizes.FLAGGED_LIMITS_SIZE

-- what is wrong with the struct itself; its flags are a sum of 1 (share) and 2 (mark)
abbrev pub limits_refusal : Limits → Option Refusal
limits_refusal l = first_of (struct_refusal sizes.LIMITS_SIZE l.size) (if is_plain l then None else bits_refusal 4 l.flags)

-- this limit counts, whose flag this is: in the first version each does; with flags those whose flag is set; else each but one of 0
abbrev pub counts : Limits → ℕ → ℕ → Bool
counts l flag limit = if is_plain l then true else if l.flags == 0 then not (limit == 0) else has_bit l.flags flag

-- a limit that does not count is as one that nothing reaches
abbrev pub no_limit : ℕ
no_limit = 2 ^ 64 - 1

abbrev pub share_of : Limits → ℕ
share_of l = if counts l numbers.HAS_SHARE l.share then l.share else no_limit

abbrev pub mark_of : Limits → ℕ
mark_of l = if counts l numbers.HAS_MARK l.mark then l.mark else no_limit

-- a struct of the version with flags, of which all but the size is cleared, is taken and sets no limit
abbrev pub ClearedSetsNone : Type 0
ClearedSetsNone = (l : Limits) → sizes.FLAGGED_LIMITS_SIZE ≤ l.size → l.share ≡ 0 → l.mark ≡ 0 → l.flags ≡ 0 →
    (limits_refusal l ≡ None) × (share_of l ≡ no_limit) × (mark_of l ≡ no_limit)
