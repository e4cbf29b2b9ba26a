-- A region as it is stored.
use Rattle.std.specs.Prelude.{ℕ, List}
use Rattle.iw_memory.specs.Region.{Region, overlay}

-- a stored region, and the slot of the domain that it belongs to
pub record Held : Type 0 where
  pub domain : ℕ
  pub slot : ℕ
  pub region : Region

-- h with new octets written from place `at` on
abbrev pub with_octets : Held → ℕ → List ℕ → Held
with_octets h at new = record h { region = record h.region { octets = overlay h.region.octets at new } }
