-- What the fields mean that this end's frame is made of.
use Rattle.std.specs.Prelude.{ℕ, [], Some, None}
use Rattle.arrayvec.specs.ArrayVec.{ArrayVec}
use Rattle.iw_startup.specs.declared.config.Config.{Config}
use Rattle.iw_startup.specs.declared.own.Standing.{Standing}
use Rattle.iw_startup.specs.declared.own.Standing.TheVariants as standing
use Rattle.iw_startup.specs.declared.side.Reply.TheVariants.{Accept, Reject}
use Rattle.iw_startup.specs.declared.side.Side.{Side}
use Rattle.iw_startup.specs.declared.side.Side.TheVariants.{Initiator, Responder}

-- what this end asks for, and which end it is
pub record OwnState : Type 0 where
  pub config : Config
  pub side : Side

-- the private data that is kept is an initiator's, or that of an answer
abbrev pub private_asked : Standing → ArrayVec ℕ → ArrayVec ℕ
private_asked standing.Initiator private = private
private_asked standing.Unanswered private = record { items = [] }
private_asked standing.Accepted private = record { items = [] }
private_asked standing.Rejected private = record { items = [] }

abbrev pub side_of : Standing → ArrayVec ℕ → Side
side_of standing.Initiator private = Initiator
side_of standing.Unanswered private = Responder None
side_of standing.Accepted private = Responder (Some (Accept private))
side_of standing.Rejected private = Responder (Some (Reject private))
