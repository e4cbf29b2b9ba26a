use Rattle.std.proofs.Common.{◌≡◌, ℕ, List, [], ◌∷◌, ◌++◌, length, take, sym, ap, ◌∙◌, subst, arith}
use Rattle.std.specs.Iterator.{Yields}
use Rattle.std.specs.Prelude.{◌==◌}
use Rattle.std.proofs.Common.{true}
use Rattle.std.proofs.lemmas.List.{append-nil}
use Rattle.std.proofs.lemmas.Bool.Decides.{nat_tests}
use Rattle.iw_octets.specs.Pieces.{joined, GivesOctets}
use Rattle.iw_octets.proofs.Runs.{gives_all, joined_push, yields_push}
use Rattle.iw_stream.proofs.Heads.{fills-next, fills-enough}
use Rattle.iw_stream.proofs.landing.first_octets.Goals as goal

is_46 : (n : ℕ) → (n == 46) ≡ true → n ≡ 46
is_46 n e = grind (arith, nat_tests)

pub loop-piece-preserved : goal.loop-piece-preserved
loop-piece-preserved g c =
    let given : List ℕ = joined c.loop-piece.yielded in
    let piece : List ℕ = c.in-Some.piece.now in
    c.fill.ensures ∙ ap (λ xs. take 46 (xs ++ piece)) c.loop-piece.invariant ∙ fills-next given piece ∙ ap (take 46) (sym (joined_push c.loop-piece.yielded c.in-Some.piece))

pub returns-then-is_full : goal.returns-then-is_full
returns-then-is_full g c =
    let given : List ℕ = joined c.loop-piece.yielded in
    let piece : List ℕ = c.in-Some.piece.now in
    let step = subst (λ r. GivesOctets c.loop-piece.piece-iterator r c.next.new.self) c.in-Some.is c.next.ensures.steps in
    let given_by = subst (λ s. Yields GivesOctets s c.loop-piece.yielded c.loop-piece.piece-iterator) c.into_iter-piece-iterator.ensures.into_iter_gives c.loop-piece.yielded_by in
    let all : c.pieces-piece-items.result ≡ joined (c.loop-piece.yielded ++ c.in-Some.piece ∷ []) ++ c.next.new.self =
    gives_all c.pieces-piece-items.result (c.loop-piece.yielded ++ c.in-Some.piece ∷ []) c.next.new.self
    (yields_push GivesOctets c.pieces-piece-items.result c.loop-piece.yielded c.loop-piece.piece-iterator c.in-Some.piece c.next.new.self given_by step) in
    let now : c.fill.new.first.items ≡ take 46 (joined (c.loop-piece.yielded ++ c.in-Some.piece ∷ [])) =
    c.fill.ensures ∙ ap (λ xs. take 46 (xs ++ piece)) c.loop-piece.invariant ∙ fills-next given piece ∙ ap (take 46) (sym (joined_push c.loop-piece.yielded c.in-Some.piece)) in
    let full : length c.fill.new.first.items ≡ 46 = is_46 _ (sym c.is_full.ensures.value ∙ c.if-is_full.true) in
    now ∙ fills-enough _ c.next.new.self (ap length (sym now) ∙ full) ∙ ap (take 46) (sym all ∙ c.pieces-piece-items.ensures)

pub returns : goal.returns
returns g c =
    let given_by = subst (λ s. Yields GivesOctets s c.loop-piece.yielded c.loop-piece.piece-iterator) c.into_iter-piece-iterator.ensures.into_iter_gives c.loop-piece.yielded_by in
    let nothing = subst (λ r. GivesOctets c.loop-piece.piece-iterator r c.next.new.self) c.in-None.is c.next.ensures.steps in
    let all : c.pieces-piece-items.result ≡ joined c.loop-piece.yielded =
    gives_all c.pieces-piece-items.result c.loop-piece.yielded c.loop-piece.piece-iterator given_by ∙ ap (λ z. joined c.loop-piece.yielded ++ z) nothing.0 ∙ append-nil (joined c.loop-piece.yielded) in
    c.loop-piece.invariant ∙ ap (take 46) (sym all ∙ c.pieces-piece-items.ensures)
