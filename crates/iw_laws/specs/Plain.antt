-- Calls on regions and pools, whatever numbers the streams of an end have.
use Rattle.std.specs.Prelude.{List}
use Rattle.iw_events.specs.declared.act.Act.{Act}
use Rattle.iw_events.specs.declared.act.Act.TheVariants.{Domain, Register, Deregister, Invalidate, Store, Open, Share, Pool, Unpool, OpenShared, Stream}
use Rattle.iw_events.specs.declared.act.Entry.{Entry}
use Rattle.iw_laws.specs.Words.{Octets, AtEach}
use Rattle.iw_laws.specs.Calls.{EndAnswered}

-- by what was done at the end before; of an opening nothing is said
abbrev pub PlainAnswered : List (Act Octets) → Act Octets → Type 0
PlainAnswered before (Open n pd role options private refused) = Unit {0}
PlainAnswered before (OpenShared n pd role options private refused) = Unit {0}
PlainAnswered before (Domain pd refused) = EndAnswered before (Domain pd refused)
PlainAnswered before (Register pd base rights octets answer) = EndAnswered before (Register pd base rights octets answer)
PlainAnswered before (Deregister stag answer) = EndAnswered before (Deregister stag answer)
PlainAnswered before (Invalidate stag refused) = EndAnswered before (Invalidate stag refused)
PlainAnswered before (Store stag to octets refused) = EndAnswered before (Store stag to octets refused)
PlainAnswered before (Share pd refused) = EndAnswered before (Share pd refused)
PlainAnswered before (Pool pd len refused) = EndAnswered before (Pool pd len refused)
PlainAnswered before (Unpool pd answer) = EndAnswered before (Unpool pd answer)
PlainAnswered before (Stream n act) = EndAnswered before (Stream n act)

-- each call on regions or pools is answered by them, as the entries before it leave them
abbrev pub ShowsRegions : List (Entry Octets) → Type 0
ShowsRegions = AtEach PlainAnswered
