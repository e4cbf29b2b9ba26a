use Rattle.std.proofs.Common.{◌≡◌, ◌+◌, ◌-◌, ◌≤◌, ℕ, List, [], get_or, length, take, drop, ap, ◌∙◌, sym, arith}
use Rattle.std.proofs.lemmas.List.{take_at, append-nil, get_or-drop}
use Rattle.std.specs.Int.{w32, to_le_bytes}
use Rattle.std.specs.Str.{bytes_eq}
use Rattle.iw_crc.specs.Crc.{crc32c}
use Rattle.iw_fpdu.specs.Places.{span_start, data_index}
use Rattle.iw_fpdu.specs.Frame.{field_place, pad_len}
use Rattle.iw_fpdu.specs.PiecesOctet.{octet_from}
use Rattle.iw_fpdu.specs.Reading.{crc_agrees, octets_at, data_at, field_at}
use Rattle.iw_fpdu.proofs.Octets.{span_low, data_low, field_end, field_eq, field_run, cut_at, data_run}
use Rattle.iw_fpdu.proofs.check.does_crc_agree.Goals as goal

pub overflow_sub-octets : goal.overflow_sub-octets
overflow_sub-octets c =
    omega (
      arith,
      c.requires.span,
      field_end c.args.markers c.args.start c.args.len c.requires.start,
      span_low c.args.markers c.args.start,
      data_low c.args.markers c.args.start (2 + c.args.len + pad_len c.args.len) c.requires.start,
    )

pub number_in-requires : goal.number_in-requires
number_in-requires c =
    omega (
      arith,
      c.split_at.ensures.back_len,
      c.requires.span,
      field_end c.args.markers c.args.start c.args.len c.requires.start,
      span_low c.args.markers c.args.start,
      data_low c.args.markers c.args.start (2 + c.args.len + pad_len c.args.len) c.requires.start,
    )

pub returns : goal.returns
unfolding crc_agrees
returns c =
    let m = c.args.markers in
    let from = span_start m c.args.start in
    let octets = c.args.octets.now in
    let fp = field_place m c.args.start c.args.len in
    let end = field_end m c.args.start c.args.len c.requires.start in
    let low : from ≤ fp = omega (arith, span_low m c.args.start, data_low m c.args.start (2 + c.args.len + pad_len c.args.len) c.requires.start) in
    let n_is : length octets - 4 ≡ fp - from = omega (arith, c.requires.span, end) in
    let before : c.split_at.result.0.now ≡ octets_at (octet_from from octets) from fp =
    c.split_at.ensures.front ∙ ap (λ n. take n octets) n_is
    ∙ sym (ap (octets_at (octet_from from octets) from) (let e : fp ≡ from + (fp - from) = omega arith in e) ∙ cut_at from octets from (fp - from) (omega arith) (omega (arith, c.requires.span, end)) ∙ ap (λ n. take (fp - from) (drop n octets)) (let e : from - from ≡ 0 = omega arith in e)) in
    let field : c.split_at.result.1.now ≡ data_at (octet_from from octets) m (data_index m c.args.start + (2 + c.args.len + pad_len c.args.len)) 4 =
    take_all c.split_at.result.1.now 4 (omega (arith, c.split_at.ensures.back_len, n_is, c.requires.span, end, low))
    ∙ ap (take 4) (c.split_at.ensures.back ∙ ap (λ n. drop n octets) n_is)
    ∙ sym (data_run (octet_from from octets) m (data_index m c.args.start + (2 + c.args.len + pad_len c.args.len)) 4 (field_run m c.args.start c.args.len c.requires.start) ∙ cut_at from octets fp 4 low (omega (arith, c.requires.span, end))) in
    let four : length c.split_at.result.1.now ≡ 4 = omega (arith, c.split_at.ensures.back_len, n_is, c.requires.span, end, low) in
    field_eq c.split_at.result.1.now c.number_in.result c.crc32c.result four (λ i. omega (arith, c.type_inv.octets (length octets - 4 + i), ap (λ ys. get_or ys i 0) c.split_at.ensures.back, get_or-drop (length octets - 4) octets i 0)) c.crc32c.type_inv c.number_in.ensures
    ∙ ap (λ xs. bytes_eq xs (to_le_bytes w32 c.crc32c.result)) field
    ∙ ap (λ n. bytes_eq (field_at (octet_from from octets) m c.args.start c.args.len) (to_le_bytes w32 n)) (c.crc32c.ensures ∙ ap crc32c before)
  where
    take_all : (ys : List ℕ) (n : ℕ) → n ≡ length ys → ys ≡ take n ys
    take_all ys n e = sym (ap (take n) (sym (append-nil ys)) ∙ take_at ys [] n (sym e))
