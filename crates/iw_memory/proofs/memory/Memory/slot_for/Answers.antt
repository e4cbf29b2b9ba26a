use Rattle.std.proofs.Common.{◌≡◌, true, Some, None, sym, ap, ◌∙◌, arith, get_or}
use Rattle.std.proofs.lemmas.Bool.Decides.{nat_tests}
use Rattle.std.specs.Option.{option_map}
use Rattle.std.specs.List.{position_or_len}
use Rattle.iw_memory.specs.Inside.{is_free}
use Rattle.iw_memory.specs.Table.{slots_of, is_added}
use Rattle.iw_memory.specs.Part.{free_slot}
use Rattle.iw_memory.specs.Region.{most_octets}
use Rattle.iw_memory.proofs.TableLemmas.{place_known, register_refusal-known}
use Rattle.iw_memory.proofs.memory.Memory.slot_for.Goals as goal

pub returns-then-slot-ge-MAX_SLOTS-clause-refused : goal.returns-then-slot-ge-MAX_SLOTS-clause-refused
returns-then-slot-ge-MAX_SLOTS-clause-refused g c =
    let found : option_map (position_or_len is_free) (get_or c.self.inside.domains c.args.pd None) ≡ Some c.in-Some.slot =
    sym c.lowest_free.ensures ∙ c.in-Some.is in
    let known = place_known c.self.invariant.sound c.args.pd c.in-Some.slot found in
    let there : is_added c.args.self.now c.args.pd ≡ true = ap (λ t. is_added t c.args.pd) (sym c.self.view_is) ∙ known.0 in
    let first : free_slot (slots_of c.args.self.now c.args.pd) ≡ c.in-Some.slot = ap (λ t. free_slot (slots_of t c.args.pd)) (sym c.self.view_is) ∙ known.1 in
    rw (register_refusal-known (most_octets c.args.kept) c.args.self.now c.args.pd c.args.base c.args.len c.in-Some.slot there first) (grind (arith, nat_tests))

pub returns-then-len-most_octets-clause-refused : goal.returns-then-len-most_octets-clause-refused
returns-then-len-most_octets-clause-refused g c =
    let found : option_map (position_or_len is_free) (get_or c.self.inside.domains c.args.pd None) ≡ Some c.in-Some.slot =
    sym c.lowest_free.ensures ∙ c.in-Some.is in
    let known = place_known c.self.invariant.sound c.args.pd c.in-Some.slot found in
    let there : is_added c.args.self.now c.args.pd ≡ true = ap (λ t. is_added t c.args.pd) (sym c.self.view_is) ∙ known.0 in
    let first : free_slot (slots_of c.args.self.now c.args.pd) ≡ c.in-Some.slot = ap (λ t. free_slot (slots_of t c.args.pd)) (sym c.self.view_is) ∙ known.1 in
    rw (register_refusal-known (most_octets c.args.kept) c.args.self.now c.args.pd c.args.base c.args.len c.in-Some.slot there first) (grind (arith, nat_tests))

pub returns-then-len-base-clause-refused : goal.returns-then-len-base-clause-refused
returns-then-len-base-clause-refused g c =
    let found : option_map (position_or_len is_free) (get_or c.self.inside.domains c.args.pd None) ≡ Some c.in-Some.slot =
    sym c.lowest_free.ensures ∙ c.in-Some.is in
    let known = place_known c.self.invariant.sound c.args.pd c.in-Some.slot found in
    let there : is_added c.args.self.now c.args.pd ≡ true = ap (λ t. is_added t c.args.pd) (sym c.self.view_is) ∙ known.0 in
    let first : free_slot (slots_of c.args.self.now c.args.pd) ≡ c.in-Some.slot = ap (λ t. free_slot (slots_of t c.args.pd)) (sym c.self.view_is) ∙ known.1 in
    rw (register_refusal-known (most_octets c.args.kept) c.args.self.now c.args.pd c.args.base c.args.len c.in-Some.slot there first) (grind (arith, nat_tests))

pub returns-clause-refused : goal.returns-clause-refused
returns-clause-refused g c =
    let found : option_map (position_or_len is_free) (get_or c.self.inside.domains c.args.pd None) ≡ Some c.in-Some.slot =
    sym c.lowest_free.ensures ∙ c.in-Some.is in
    let known = place_known c.self.invariant.sound c.args.pd c.in-Some.slot found in
    let there : is_added c.args.self.now c.args.pd ≡ true = ap (λ t. is_added t c.args.pd) (sym c.self.view_is) ∙ known.0 in
    let first : free_slot (slots_of c.args.self.now c.args.pd) ≡ c.in-Some.slot = ap (λ t. free_slot (slots_of t c.args.pd)) (sym c.self.view_is) ∙ known.1 in
    rw (register_refusal-known (most_octets c.args.kept) c.args.self.now c.args.pd c.args.base c.args.len c.in-Some.slot there first) (grind (arith, nat_tests))

pub returns-clause-slot : goal.returns-clause-slot
returns-clause-slot g c =
    let found : option_map (position_or_len is_free) (get_or c.self.inside.domains c.args.pd None) ≡ Some c.in-Some.slot =
    sym c.lowest_free.ensures ∙ c.in-Some.is in
    let known = place_known c.self.invariant.sound c.args.pd c.in-Some.slot found in
    let there : is_added c.args.self.now c.args.pd ≡ true = ap (λ t. is_added t c.args.pd) (sym c.self.view_is) ∙ known.0 in
    let first : free_slot (slots_of c.args.self.now c.args.pd) ≡ c.in-Some.slot = ap (λ t. free_slot (slots_of t c.args.pd)) (sym c.self.view_is) ∙ known.1 in
    (sym first, omega arith)
