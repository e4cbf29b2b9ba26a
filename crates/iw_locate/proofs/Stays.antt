-- A frame that came whole stays the same frame.
use Rattle.std.proofs.Common.{◌≡◌, ℕ, ◌+◌, ◌<◌, ◌≤◌, Bool, true, not, cond, List, refl, sym, ap, ◌∙◌, arith}
use Rattle.std.proofs.lemmas.Bool.{le-ltb}
use Rattle.iw_ranges.specs.Arrived.{Arrived, Cell, Missing, Here, Gone, cell_at, is_missing, has_come, first_copy, taken_in, delivered, advanced}
use Rattle.iw_ranges.proofs.ByPlace.{cell_at-taken_in, gives_up_before}
use Rattle.iw_fpdu.specs.declared.layout.Layout.{Layout}
use Rattle.iw_fpdu.specs.Places.{data_index, IsStart, span_start}
use Rattle.iw_fpdu.specs.Frame.{frame_end}
use Rattle.iw_fpdu.specs.Reading.{data_at, length_at, end_at, mismatch_at}
use Rattle.iw_fpdu.specs.Found.{octet_of, octet_in, IsWhole, ulpdu_len, ulpdu, mismatch}
use Rattle.iw_fpdu.specs.Laws.{found_at}
use Rattle.iw_fpdu.proofs.Again.{cell_stays}
use Rattle.iw_fpdu.proofs.Octets.{Agree, agree, same_frame_data, same_length, same_mismatch}

-- at each place of the span of the frame that stood at s something came, and the octet is the one that stood there
pub record HoldsAs (old new : Arrived) (markers : Bool) (base s : ℕ) : Type 0 where
  pub octet : (q : ℕ) → span_start markers s ≤ q → q < end_at (octet_in old base) markers s → octet_in new base q ≡ octet_in old base q
  pub come : (q : ℕ) → span_start markers s ≤ q → q < end_at (octet_in old base) markers s → has_come new (base + q) ≡ true

-- the frame at s is the one that stood there, and is whole
pub record IsSameAt (old new : Arrived) (layout : Layout) (base s : ℕ) : Type 0 where
  pub whole : IsWhole new layout.markers base s
  pub len : ulpdu_len (found_at new layout base s) ≡ ulpdu_len (found_at old layout base s)
  pub end : end_at (octet_in new base) layout.markers s ≡ end_at (octet_in old base) layout.markers s
  pub ulpdu : ulpdu (found_at new layout base s) ≡ ulpdu (found_at old layout base s)
  pub mismatch : mismatch (found_at new layout base s) ≡ mismatch (found_at old layout base s)

pub same_by_octets : (old new : Arrived) (layout : Layout) (base s : ℕ) → IsStart layout.markers s → HoldsAs old new layout.markers base s → IsSameAt old new layout base s
same_by_octets old new layout base s start holds =
    let m : Bool = layout.markers in
    let f : ℕ → ℕ = octet_in new base in
    let g : ℕ → ℕ = octet_in old base in
    let n : ℕ = length_at g s in
    let same : Agree f g m s n = agree f g m s n holds.octet in
    let len : length_at f s ≡ n = same_length f g m s n start same in
    record {
      whole = λ q low high. holds.come q low (omega (arith, high, ap (frame_end m s) len));
      len = len;
      end = ap (frame_end m s) len;
      ulpdu = ap (data_at f m (data_index m s + 2)) len ∙ same_frame_data f g m s n 2 n start same (omega arith);
      mismatch = ap (mismatch_at layout f s) len ∙ same_mismatch f g layout s n start same;
    }

-- the cells of the span of the frame that stood at s are the same
abbrev pub HasSameCells : Arrived → Arrived → Bool → ℕ → ℕ → Type 0
HasSameCells old new markers base s = (q : ℕ) → span_start markers s ≤ q → q < end_at (octet_in old base) markers s → cell_at new (base + q) ≡ cell_at old (base + q)

pub same_by_cells : (old new : Arrived) (layout : Layout) (base s : ℕ) → IsStart layout.markers s → IsWhole old layout.markers base s → HasSameCells old new layout.markers base s
    → IsSameAt old new layout base s
same_by_cells old new layout base s start whole same =
    same_by_octets old new layout base s start
    (record {
      octet = λ q low high. ap octet_of (same q low high);
      come = λ q low high. ap (λ c. not (is_missing c)) (same q low high) ∙ whole q low high;
    })

-- ---- more octets come
pub same_delivered : (arrived : Arrived) (layout : Layout) (base s place : ℕ) (octets : List ℕ) → IsStart layout.markers s → IsWhole arrived layout.markers base s
    → IsSameAt arrived (delivered arrived place octets) layout base s
same_delivered arrived layout base s place octets start whole =
    same_by_cells arrived (delivered arrived place octets) layout base s start whole (λ q low high. cell_stays arrived place octets (base + q) (whole q low high))

copy_stays : (place q : ℕ) (octets : List ℕ) (c : Cell) → not (is_missing c) ≡ true → first_copy place octets q c ≡ c
copy_stays place q octets Missing h = cc
copy_stays place q octets (Here x) h = refl
copy_stays place q octets Gone h = refl

pub cell_taken : (arrived : Arrived) (place : ℕ) (octets : List ℕ) (p : ℕ) → has_come arrived p ≡ true → cell_at (taken_in arrived place octets) p ≡ cell_at arrived p
cell_taken arrived place octets p come = cell_at-taken_in arrived place octets p ∙ copy_stays place p octets (cell_at arrived p) come

pub same_taken_in : (arrived : Arrived) (layout : Layout) (base s place : ℕ) (octets : List ℕ) → IsStart layout.markers s → IsWhole arrived layout.markers base s
    → IsSameAt arrived (taken_in arrived place octets) layout base s
same_taken_in arrived layout base s place octets start whole =
    same_by_cells arrived (taken_in arrived place octets) layout base s start whole (λ q low high. cell_taken arrived place octets (base + q) (whole q low high))

-- ---- the in-order point moves on, or lay further back
pub cell_advanced : (arrived : Arrived) (to p : ℕ) → to ≤ p → cell_at (advanced arrived to) p ≡ cell_at arrived p
cell_advanced arrived to p past = gives_up_before arrived to p ∙ ap (λ b. cond b Gone (cell_at arrived p)) (le-ltb p to past)

pub same_advanced : (arrived : Arrived) (layout : Layout) (base s to : ℕ) → IsStart layout.markers s → to ≤ base + span_start layout.markers s → IsWhole arrived layout.markers base s
    → IsSameAt arrived (advanced arrived to) layout base s
same_advanced arrived layout base s to start past whole =
    same_by_cells arrived (advanced arrived to) layout base s start whole (λ q low high. cell_advanced arrived to (base + q) (omega arith))

pub same_unadvanced : (arrived : Arrived) (layout : Layout) (base s to : ℕ) → IsStart layout.markers s → to ≤ base + span_start layout.markers s → IsWhole (advanced arrived to) layout.markers base s
    → IsSameAt (advanced arrived to) arrived layout base s
same_unadvanced arrived layout base s to start past whole =
    same_by_cells (advanced arrived to) arrived layout base s start whole (λ q low high. sym (cell_advanced arrived to (base + q) (omega arith)))

-- ---- both at once
pub same_after : (a b c : Arrived) (layout : Layout) (base s : ℕ) → IsSameAt a b layout base s → IsSameAt b c layout base s → IsSameAt a c layout base s
same_after a b c layout base s first second = record {
  whole = second.whole;
  len = second.len ∙ first.len;
  end = second.end ∙ first.end;
  ulpdu = second.ulpdu ∙ first.ulpdu;
  mismatch = second.mismatch ∙ first.mismatch;
}
