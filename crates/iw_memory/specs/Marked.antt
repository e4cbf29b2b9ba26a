-- Which slots are free, by bits of words of 64.
use Rattle.std.specs.Prelude.{◌≡◌, ◌<◌, ◌≤◌, ◌/◌, ◌%◌, ℕ, Bool, if◌then◌else◌, List, length, slice_index_or}
use Rattle.std.specs.Int.{bit_at}
use Rattle.iw_memory.specs.declared.slots.Slot.{Slot}
use Rattle.iw_memory.specs.Inside.{is_free, free}

abbrev pub bit : Bool → ℕ
bit set = if set then 1 else 0

-- what the words say of slot i
abbrev pub mark : List ℕ → ℕ → ℕ
mark words i = bit_at (slice_index_or words (i / 64) 0) (i % 64)

-- the words say of each slot whether it is free; one that was not made yet is
pub record AreMarked (slots : List Slot) (words : List ℕ) : Type 0 where
  pub few : length slots ≤ 1024
  pub marks : (i : ℕ) → i < 1024 → mark words i ≡ bit (is_free (slice_index_or slots i free))
