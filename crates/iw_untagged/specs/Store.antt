-- What the buffers in memory stand for.
use Rattle.iw_untagged.specs.declared.buffers.Buffers.{Buffers}
use Rattle.iw_untagged.specs.declared.buffers.Buffers.TheVariants.{Own, Shared}
use Rattle.iw_untagged.specs.Receiving.{Source, Posted, Pooled}

abbrev pub source_of : {A : Type 0} → Buffers A → Source
source_of (Own buffers) = Posted buffers.items
source_of (Shared bound) = Pooled bound.value.places bound.value.pool
