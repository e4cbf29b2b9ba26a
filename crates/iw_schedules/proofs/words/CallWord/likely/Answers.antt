use Rattle.std.proofs.Common.{rules, ◌≡◌, get_or, refl}
use Rattle.iw_schedules.specs.declared.words.CallWord.TheVariants.{Domain, Register, Deregister, Invalidate, Store, Open, Share, Pool, Unpool, OpenShared, Accept, Reject, Recv, Send, Write, Read, Emit, Work, Deliver, Raw, First, Mulpdu, Break}
use Rattle.iw_schedules.proofs.words.CallWord.likely.Goals as goal

-- the third letter
letter : (c : goal.After-result-2-1) → c.unwrap_or-third.result ≡ get_or c.args.word.now 2 0
letter c = search rules

pub returns : goal.returns
returns c Domain is = rw (letter c, is) refl
returns c Register is = rw (letter c, is) refl
returns c Deregister is = rw (letter c, is) refl
returns c Invalidate is = rw (letter c, is) refl
returns c Store is = rw (letter c, is) refl
returns c Open is = rw (letter c, is) refl
returns c Share is = rw (letter c, is) refl
returns c Pool is = rw (letter c, is) refl
returns c Unpool is = rw (letter c, is) refl
returns c OpenShared is = rw (letter c, is) refl
returns c Accept is = rw (letter c, is) refl
returns c Reject is = rw (letter c, is) refl
returns c Recv is = rw (letter c, is) refl
returns c Send is = rw (letter c, is) refl
returns c Write is = rw (letter c, is) refl
returns c Read is = rw (letter c, is) refl
returns c Emit is = rw (letter c, is) refl
returns c Work is = rw (letter c, is) refl
returns c Deliver is = rw (letter c, is) refl
returns c Raw is = rw (letter c, is) refl
returns c First is = rw (letter c, is) refl
returns c Mulpdu is = rw (letter c, is) refl
returns c Break is = rw (letter c, is) refl
