use Rattle.std.proofs.Common.{rules, ◌≡◌, ◌∙◌, sym, ap, slice_set, Some, None, refl}
use Rattle.std.specs.Prelude.{nat_eq}
use Rattle.std.specs.HashMap as hash
use Rattle.std.specs.Map.{lookup}
use Rattle.std.proofs.lemmas.Bool.{ne_eqb}
use Rattle.slab.specs.Slab as slab
use Rattle.iw_endpoint.specs.Inside.{Changes}
use Rattle.iw_endpoint.proofs.Numbers.{nothing_removed, keeps_removed, listed_removed, listed_stays}
use Rattle.iw_endpoint.proofs.streams.Streams.remove.Goals as goal

pub invariant_of-self-2 : goal.invariant_of-self-2
invariant_of-self-2 g c =
    let n = c.args.number in
    let key : hash.get nat_eq c.self.inside.keys n ≡ Some c.in-Some.place = search rules in
    let u = c.remove.ensures.updates in
    let gone : Changes (hash.get nat_eq c.self.inside.keys) (hash.get nat_eq c.remove.new.self) n None = record { changed = u.1; others = λ m ne. u.2 m (ne_eqb n m (λ e. ne (sym e))) } in
    keeps_removed _ _ _ _ c.self.inside.next n c.in-Some.place c.self.invariant key gone c.remove-2.ensures.updates.others c.remove-2.ensures.updates.changed

pub returns : goal.returns
returns g c =
    let n = c.args.number in
    let key : hash.get nat_eq c.self.inside.keys n ≡ Some c.in-Some.place = search rules in
    let u = c.remove.ensures.updates in
    let gone : Changes (hash.get nat_eq c.self.inside.keys) (hash.get nat_eq c.remove.new.self) n None = record { changed = u.1; others = λ m ne. u.2 m (ne_eqb n m (λ e. ne (sym e))) } in
    listed_removed _ _ _ _ c.self.inside.next n c.in-Some.place c.self.invariant key gone c.remove-2.ensures.updates.others ∙ ap (λ ys. slice_set ys n None) c.self.view_is

pub returns-in_default : goal.returns-in_default
returns-in_default g c =
    let n = c.args.number in
    let key : hash.get nat_eq c.self.inside.keys n ≡ None = search rules in
    listed_stays (hash.get nat_eq c.self.inside.keys) (hash.get nat_eq c.remove.new.self) (slab.get c.self.inside.places) (slab.get c.self.inside.places) c.self.inside.next (λ q. ap (lookup (nat_eq q)) c.in_default.ensures.unchanged) (λ m. refl)
    ∙ nothing_removed _ _ c.self.inside.next n c.self.invariant key
    ∙ ap (λ ys. slice_set ys n None) c.self.view_is
