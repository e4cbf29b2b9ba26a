-- The cell that keeps the usage: its row, what is seen of it, and the laws of what is shared. Assumes `Logic`.
use Rattle.std.proofs.Common.{ℕ}
use base.Fml.{Fml, Lft}
use denote.RattleType.{RattleType}
use denote.Memory.{hidden_shr}
use denote.Param.Laws.{Laws}
use Rattle.std.specs.contracts.cell.Cell as CE
use Rattle.std.proofs.cell.Cell.TheLaws as cell_laws
use Rattle.iw_quota.specs.contracts.usage.Usage as US
use Rattle.iw_quota.proofs.usage.Usage.TheLaws as usage_laws

abbrev pub Kept : RattleType
Kept = CE.the_row US.the_row

abbrev pub Kept-laws : Laws Kept
Kept-laws = cell_laws.the_row_laws US.the_row usage_laws.the_row_laws

abbrev pub kept : Lft → ℕ × ℕ → Fml
kept κ c = hidden_shr Kept κ (record { value = tt }) c.0 c.1
