-- Worked values.
use Rattle.std.specs.Prelude.{ℕ, ◌≡◌, true, false, [], ◌∷◌, ◌++◌, map, replicate}
use Rattle.iw_ranges.specs.Arrived.{Arrived, Missing, Here}
use Rattle.iw_fpdu.specs.Places.{frame_start, span_start}
use Rattle.iw_fpdu.specs.Frame.{frame_end}
use Rattle.iw_fpdu.specs.Reading.{length_at, end_at, pointer_at}
use Rattle.iw_fpdu.specs.Found.{octet_in, is_whole}

-- a marker with this pointer came at frame place 512, and past it a frame with a Write of four octets
abbrev pub lone : ℕ → ℕ → Arrived
lone high low = record {
  floor = 0;
  cells = replicate 512 Missing ++ map Here (
      (0 ∷ 0 ∷ high ∷ low ∷ 0 ∷ 0x12 ∷ 0xc1 ∷ 0x40 ∷ 1 ∷ 0 ∷ 0 ∷ 0 ∷ []) ++ replicate 8 0 ++ (0xde ∷ 0xad ∷ 0xbe ∷ 0xef ∷ 0 ∷ 0 ∷ 0 ∷ 0 ∷ [])
      );
}

abbrev pub pointer_in : Arrived → ℕ
pointer_in arrived = pointer_at (octet_in arrived 0) 512

pub record KnownPlaces : Type 0 where
  -- the frame past the marker is whole, and that at the in-order point is not
  pub second_whole : is_whole (lone 0 0) true 0 516 ≡ true
  pub first_missing : is_whole (lone 0 0) true 0 4 ≡ false
  pub second_length : length_at (octet_in (lone 0 0) 0) 516 ≡ 18
  pub second_end : end_at (octet_in (lone 0 0) 0) true 516 ≡ 540
  -- its span begins with the marker, and the next frame where it ends
  pub second_span : span_start true 516 ≡ 512
  pub third_start : frame_start true 540 ≡ 540
  -- past a frame that ends at a marker the next begins past the marker
  pub first_end : frame_end true 4 502 ≡ 512
  pub second_start : frame_start true 512 ≡ 516
  -- a frame of 600 octets lies over it
  pub long_end : frame_end true 4 600 ≡ 616
  -- pointers: the two low bits count as zero; to place 0, which is a marker's; and to before it
  pub to_itself : pointer_in (lone 0 0) ≡ 0
  pub low_bits : pointer_in (lone 0 3) ≡ 0
  pub to_a_marker : pointer_in (lone 2 0) ≡ 512
  pub before_all : pointer_in (lone 2 4) ≡ 516
