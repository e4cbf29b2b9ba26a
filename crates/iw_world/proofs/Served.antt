-- A call of a schedule at an end of a server.
use Rattle.std.proofs.Common.{refl}
use Rattle.iw_events.specs.declared.act.Act.{Act}
use Rattle.iw_events.specs.declared.act.Act.TheVariants.{Domain, Register, Deregister, Invalidate, Store, Open, Share, Pool, Unpool, OpenShared, Stream}
use Rattle.iw_laws.specs.Words.{Octets}
use Rattle.iw_laws.specs.Rules.{EndState, PeerRule}
use Rattle.iw_laws.specs.Servers.{PlainPeerRule}
use Rattle.iw_laws.proofs.Gone.{was_there}

-- what comes from a stream that is there comes from the one of the same number, which was opened
pub plain_peer : (peer : EndState) (act : Act Octets) → PeerRule peer act → PlainPeerRule (λ n. n) (λ n. n) peer act
plain_peer peer (Stream n act) rule = λ h. record { from = n; connected = refl; opened = was_there peer.endpoint n (rule.0 h); sent = rule.1 }
plain_peer peer (Domain pd refused) rule = tt
plain_peer peer (Register pd base rights octets answer) rule = tt
plain_peer peer (Deregister stag answer) rule = tt
plain_peer peer (Invalidate stag refused) rule = tt
plain_peer peer (Store stag to octets refused) rule = tt
plain_peer peer (Open n pd role options private refused) rule = tt
plain_peer peer (Share pd refused) rule = tt
plain_peer peer (Pool pd len refused) rule = tt
plain_peer peer (Unpool pd answer) rule = tt
plain_peer peer (OpenShared n pd role options private refused) rule = tt
