-- What the fields of an `Fpdu` mean, and what they keep.
use Rattle.std.specs.Prelude.{◌≡◌}
use Rattle.iw_fpdu.specs.Frame.{frame_end}
use Rattle.iw_fpdu.specs.Found.{Found, IsRead}
use Rattle.iw_fpdu.specs.declared.fpdu.Fpdu.TheInside.{Inside}

abbrev pub found_by : {A : Type 0} → Inside A → Found
found_by {A} a = record { arrived = a.islands.now.arrived; layout = a.layout; base = a.base; start = a.start }

pub record IsSound {A : Type 0} (a : Inside A) : Type 0 where
  pub read : IsRead (found_by a) a.len
  pub end : a.end ≡ frame_end a.layout.markers a.start a.len
