-- A wrong step that the law on limited regions refuses: it leaves the region and is answered as if it had done no more than its
-- work, but copies the region's octets to where its own peer may read them.
use Rattle.std.specs.Prelude.{◌≡◌, ℕ, List, [], ◌∷◌, unwrap_or, true, Some, Ok}
use Rattle.iw_octets.specs.declared.stag.Stag.{Stag}
use Rattle.iw_memory.specs.declared.rights.Right.TheVariants.{Write}
use Rattle.iw_memory.specs.declared.rights.Rights.{Rights}
use Rattle.iw_memory.specs.Region.{bound_region}
use Rattle.iw_memory.specs.Table.{empty, with_part, region_at}
use Rattle.iw_stream.specs.declared.answer.Step.TheVariants.{Placed}
use Rattle.iw_endpoint.specs.Endpoint.{EndpointState, fresh, octets_of, rewritten}
use Rattle.iw_endpoint.specs.Isolation.{StreamAnswer, Worked}
use Rattle.iw_endpoint.specs.Limited.{KnowNumbers, IsAnothers, PassesBy}

-- a region that is limited to stream 2, and one that is limited to stream 1, of one domain
abbrev pub anothers : Stag
anothers = record { domain = 1; slot = 0; key = 0 }

abbrev pub own : Stag
own = record { domain = 1; slot = 1; key = 0 }

abbrev pub all_rights : Rights
all_rights = record { write = true; read = true; sink = true; invalidate = true }

abbrev pub before_copy : EndpointState
before_copy = record fresh {
  table = with_part empty 1 (Some (record { key = 0; region = Some (bound_region 2 0 (94 ∷ []) all_rights) } ∷ record { key = 0; region = Some (bound_region 1 0 (0 ∷ []) all_rights) } ∷ []));
}

-- work at stream 1 tells that it placed an octet in the stream's own region
abbrev pub placed_own : EndpointState → StreamAnswer
placed_own e = Worked (Ok (Placed Write own 0 1))

abbrev pub copied : EndpointState → EndpointState
copied e = rewritten e own (unwrap_or (octets_of e anothers) [])

pub record RefusesCopiedOctets : Type 0 where
  -- the law speaks of this region and stream 1
  pub known : KnowNumbers before_copy
  pub limited : IsAnothers before_copy 1 anothers
  -- the region stays, and what is told does not depend on it
  pub kept : region_at (copied before_copy).table anothers ≡ region_at before_copy.table anothers
  pub unseen : (octets : List ℕ) → placed_own (rewritten before_copy anothers octets) ≡ placed_own before_copy
  -- its octets are what the stream's own region then holds
  pub shown : octets_of (copied before_copy) own ≡ octets_of before_copy anothers
  pub refused : PassesBy placed_own copied before_copy anothers → ⊥
