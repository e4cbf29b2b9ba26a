-- What is left of octets on their way to a socket.
use Rattle.std.proofs.Common.{◌≡◌, ℕ, ◌+◌, ◌-◌, ◌≤◌, List, [], ◌++◌, length, take, drop, Option, Result, Ok, Err, refl, sym, ap, subst, ◌∙◌, append_assoc, arith, take_all, length-drop, inl, inr}
use Rattle.std.specs.Prelude.{◌⊎◌, false, IfOk, OnErr}
use Rattle.std.specs.Io.KnownBytes.{Appends, Keeps}
use Rattle.std.proofs.KnownBytes.{Appends-nil, Appends-kept, Appends-trans}
use Rattle.std.proofs.lemmas.List.{drop-append-le, drop-drop, drop_all, take-append-drop}
use Rattle.iw_endpoint.specs.Endpoint.{EndpointState, emission_at, after_emit}
use Rattle.iw_connection.specs.declared.filling.Filled.{Filled}
use Rattle.iw_connection.specs.declared.filling.Filled.TheVariants as filled
use Rattle.iw_connection.specs.declared.working.Refusal.{Refusal}
use Rattle.iw_connection.specs.Filling.{Emits, Ends, Fills, is_frame}
use Rattle.iw_connection.proofs.Emissions.{none_emitted}
use Rattle.iw_server.specs.Unwritten.{Takes, Gathers}

-- a slice from a place to the end
pub slice_end : (xs : List ℕ) (s : ℕ) → take (length xs - s) (drop s xs) ≡ drop s xs
slice_end xs s =
    let len = length-drop s xs in
    take_all (length xs - s) (drop s xs) (omega arith)

-- ---- what the socket took

pub takes_none : (a : Option (List ℕ)) (octets : List ℕ) → Takes a a octets octets
takes_none a octets = record { taken = []; split = refl; written = Appends-nil a }

pub takes_more : (a b c : Option (List ℕ)) (octets items : List ℕ) (w n : ℕ) → Takes a b octets (drop w items) → Appends b c (take n (drop w items)) → Takes a c octets (drop (w + n) items)
takes_more a b c octets items w n t more =
    let front = take n (drop w items) in
    record {
      taken = t.taken ++ front;
      split = t.split ∙ ap (λ xs. t.taken ++ xs) (sym (take-append-drop n (drop w items))) ∙ sym (append_assoc t.taken front (drop n (drop w items)))
          ∙ ap (λ xs. (t.taken ++ front) ++ xs) (drop-drop n w items);
      written = Appends-trans a b c t.taken front t.written more;
    }

pub takes_kept : (a b c : Option (List ℕ)) (octets left : List ℕ) → Takes a b octets left → Keeps b c → Takes a c octets left
takes_kept a b c octets left t same = record { taken = t.taken; split = t.split; written = Appends-kept a b c t.taken t.written same }

pub takes_all : (a b : Option (List ℕ)) (octets items : List ℕ) (w : ℕ) → length items ≤ w → Takes a b octets (drop w items) → Takes a b octets []
takes_all a b octets items w low t = subst (Takes a b octets) (drop_all w items low) t

-- ---- what was emitted behind it

emits_behind : (old at : EndpointState) (number n : ℕ) (octets octets' : List ℕ) (w : ℕ) → w ≤ length octets → Emits old number n octets octets' at → Emits old number n (drop w octets) (drop w octets') at
emits_behind old at number n octets octets' w low s = record { frames = s.frames; octets = ap (drop w) s.octets ∙ drop-append-le w octets _ low; left = s.left }

ends_there : (at new : EndpointState) (number : ℕ) (held : Type 0) (f : Filled) → Ends at number new held f → (new ≡ at) ⊎ ((is_frame (emission_at at number) ≡ false) × (new ≡ after_emit at number))
ends_there at new number held filled.More e = inl e.0
ends_there at new number held filled.All e = inr (ap is_frame e.0, e.1)
ends_there at new number held (filled.Fault fault) e = inr (ap is_frame e.0, e.1)

pub gathers_none : (e : EndpointState) (number : ℕ) (octets : List ℕ) → Gathers e number octets octets e
gathers_none e number octets = record { n = 0; at = e; emits = none_emitted e number octets; ends = inl refl }

pub gathers : (old new : EndpointState) (number most capacity : ℕ) (octets octets' : List ℕ) (w : ℕ) (r : Result Filled Refusal) → w ≤ length octets
    → IfOk r (λ f. Fills old number most octets octets' capacity new f) → OnErr r ((new ≡ old) × (octets' ≡ octets))
    → Gathers old number (drop w octets) (drop w octets') new
gathers old new number most capacity octets octets' w (Ok f) low ok err =
    let to = ok.1 in
    record { n = ok.0; at = to.at; emits = emits_behind old to.at number ok.0 octets octets' w low to.emits; ends = ends_there to.at new number _ f to.ends }
gathers old new number most capacity octets octets' w (Err refusal) low ok err =
    subst (λ e. Gathers old number (drop w octets) (drop w octets') e) (sym err.0)
    (subst (λ xs. Gathers old number (drop w octets) (drop w xs) old) (sym err.1) (gathers_none old number (drop w octets)))
