use Rattle.std.proofs.Common.{ℕ, List, sym, subst}
use Rattle.iw_startup.specs.declared.side.Side.TheVariants.{Initiator}
use Rattle.iw_startup.specs.Own.{OwnState}
use Rattle.iw_startup.specs.State.{IsReached}
use Rattle.iw_startup.proofs.Reached.{reached-initiator}
use Rattle.iw_startup.proofs.startup.Startup.initiator.Goals as goal

pub invariant_of-result : goal.invariant_of-result
invariant_of-result c =
    subst (λ (own : OwnState). IsReached (record { config = own.config; side = own.side; octets = c.new.result.items })) (sym c.initiator.ensures)
    (subst (λ (octets : List ℕ). IsReached (record { config = c.args.config; side = Initiator; octets = octets })) (sym c.new.ensures) (reached-initiator c.args.config c.requires))
