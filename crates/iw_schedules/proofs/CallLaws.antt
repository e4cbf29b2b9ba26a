-- The words behind an end are read as the grammar says, and no others are.
use Rattle.std.proofs.Common.{◌≡◌, ◌⊎◌, inl, inr, ℕ, ◌-◌, ◌^◌, List, [], ◌∷◌, replicate, Result, Ok, Err, refl, sym, ap, subst, ◌∙◌, codes}
use Rattle.iw_stream.specs.declared.answer.Role.{Role}
use Rattle.iw_stream.specs.declared.answer.Role.TheVariants.{Preset, Initiator, Responder}
use Rattle.iw_events.specs.declared.call.Call.{Call}
use Rattle.iw_events.specs.declared.call.Call.TheVariants.{Domain, Register, Deregister, Invalidate, Store, Open, Share, Pool, Unpool, OpenShared, Stream}
use Rattle.iw_octets.specs.declared.message.Message.TheVariants as messages
use Rattle.iw_queues.specs.declared.request.Request.TheVariants as requests
use Rattle.iw_events.specs.declared.call.StreamCall.TheVariants.{Recv, First, Deliver, Raw, Mulpdu, Accept, Reject, Break}
use Rattle.iw_schedules.specs.declared.fault.FaultName.{FaultName}
use Rattle.iw_schedules.specs.declared.kinds.TheConstants.{MAX_WORD_OCTETS}
use Rattle.iw_schedules.specs.declared.words.CallWord.{CallWord}
use Rattle.iw_schedules.specs.declared.words.CallWord.TheVariants as named
use Rattle.iw_schedules.specs.declared.calls.Step.{Step}
use Rattle.iw_schedules.specs.declared.calls.Step.TheVariants as steps
use Rattle.iw_schedules.specs.Reading.{◌>>=◌}
use Rattle.iw_schedules.specs.Kinds.{number_word, times_word, stag_word, octets_word, private_word}
use Rattle.iw_schedules.specs.SendKind.{kind_word, is_solicited, invalidated_word}
use Rattle.iw_schedules.specs.Rights.{rights_word}
use Rattle.iw_schedules.specs.Options.{options_for}
use Rattle.iw_schedules.specs.Words.{role_text, roles, role_word, call_text, call_words, call_word}
use Rattle.iw_schedules.specs.Calls.{field, octet_number, long_number, short_number, times_at, step_call, one, posted, read_of, domain_at, register_at, deregister_at, invalidate_at, store_at, open_at, share_at, pool_at, unpool_at, open_shared_at, accept_at, reject_at, recv_at, send_at, write_at, read_at, steps_at, deliver_at, raw_at, first_at, mulpdu_at, break_at, beyond, calls_at}
use Rattle.iw_schedules.specs.Grammar.{Word, IsOctetNumber, IsTimes, IsCall}
use Rattle.iw_schedules.specs.Grammar.IsKind.{plain, solicited, invalidating, both as solicited_and_invalidating}
use Rattle.iw_schedules.specs.Grammar.IsCall.{domain, register, deregister, invalidate, store, opening, share, pool, unpool, opening_shared, accept, reject, recv, send, write, read, emit, emit_times, work, work_times, deliver, raw, first, mulpdu, breaking}
use Rattle.iw_schedules.proofs.KindLaws.{bind_ok, okay, number_is, number_again, times_is, times_again, stag_is, stag_again, octets_is, octets_again, private_is, private_again, rights_is, rights_again, options_of_are, options_of_again, one_of_is, kind_is}

abbrev Calls : Type 0
Calls = List (Call (List ℕ))

-- a word that was read, and the words behind it
pub record Field {X : Type 0} (kind : Word → Result X FaultName) (words : List Word) (x : X) (others : List Word) : Type 0 where
  pub word : Word
  pub words_are : words ≡ word ∷ others
  pub value : kind word ≡ Ok x

field_made : {X : Type 0} (r : Result X FaultName) (others : List Word) (y : X × List Word) → (r >>= λ x. Ok (x, others)) ≡ Ok y → (r ≡ Ok y.0) × (others ≡ y.1)
field_made {X} (Ok x) others y e =
    let made : X × List Word = (x, others) in
    let pair : made ≡ y = cc in
    (ap (λ (p : X × List Word). okay FaultName p.0) pair, ap (λ (p : X × List Word). p.1) pair)
field_made (Err fault) others y e = absurd cc

pub field_is : {X : Type 0} (kind : Word → Result X FaultName) (words : List Word) (y : X × List Word) → field kind words ≡ Ok y → Field kind words y.0 y.1
field_is kind [] y e = absurd cc
field_is kind (word ∷ words) y e =
    let made = field_made (kind word) words y e in
    record { word = word; words_are = ap (λ ws. word ∷ ws) made.1; value = made.0 }

-- words that begin with one of this kind, and go on so
reads : {X Y : Type 0} (kind : Word → Result X FaultName) (words : List Word) (k : X × List Word → Result Y FaultName) (y : Y) (P : List Word → Type 0) → (field kind words >>= k) ≡ Ok y
    → ((word : Word) (x : X) (others : List Word) → kind word ≡ Ok x → k (x, others) ≡ Ok y → P (word ∷ others)) → P words
reads kind words k y P e so =
    let a = bind_ok (field kind words) k y e in
    let f = field_is kind words a.0 a.1 in
    subst P (sym f.words_are) (so f.word a.0.0 a.0.1 f.value a.2)

abbrev both : Calls → List Word → Calls × List Word
both calls others = (calls, others)

-- the last step: nothing is left
finishes : (P : List Word → Calls → Type 0) (calls made : Calls) (others : List Word) → okay FaultName (both made others) ≡ okay FaultName (both calls []) → P [] made → P others calls
finishes P calls made others e is =
    let pair : both made others ≡ both calls [] = cc in
    let same : made ≡ calls = ap (λ (p : Calls × List Word). p.0) pair in
    let none : others ≡ [] = ap (λ (p : Calls × List Word). p.1) pair in
    subst (λ ws. P ws calls) (sym none) (subst (P []) same is)

-- ---- each call

pub domain_is : (words : List Word) (calls : Calls) → domain_at words ≡ Ok (calls, []) → IsCall (codes "domain" ∷ words) calls
unfolding domain_at
domain_is words calls e =
    reads octet_number words _ (calls, []) (λ ws. IsCall (codes "domain" ∷ ws) calls) e (λ a pd others is_a then_a.
    finishes (λ ws made. IsCall (codes "domain" ∷ a ∷ ws) made) calls (one (Domain pd)) others then_a (domain (number_is 255 a pd is_a)))

pub register_is : (words : List Word) (calls : Calls) → register_at words ≡ Ok (calls, []) → IsCall (codes "register" ∷ words) calls
unfolding register_at
register_is words calls e =
    reads octet_number words _ (calls, []) (λ ws. IsCall (codes "register" ∷ ws) calls) e (λ a pd past_a is_a then_a.
    reads long_number past_a _ (calls, []) (λ ws. IsCall (codes "register" ∷ a ∷ ws) calls) then_a (λ b base past_b is_b then_b.
    reads rights_word past_b _ (calls, []) (λ ws. IsCall (codes "register" ∷ a ∷ b ∷ ws) calls) then_b (λ c rights past_c is_c then_c.
    reads octets_word past_c _ (calls, []) (λ ws. IsCall (codes "register" ∷ a ∷ b ∷ c ∷ ws) calls) then_c (λ d octets others is_d then_d.
    finishes (λ ws made. IsCall (codes "register" ∷ a ∷ b ∷ c ∷ d ∷ ws) made) calls (one (Register pd base rights octets)) others then_d (register (number_is 255 a pd is_a) (number_is (2 ^ 64 - 1) b base is_b) (rights_is c rights is_c) (octets_is d octets is_d))))))

pub deregister_is : (words : List Word) (calls : Calls) → deregister_at words ≡ Ok (calls, []) → IsCall (codes "deregister" ∷ words) calls
unfolding deregister_at
deregister_is words calls e =
    reads stag_word words _ (calls, []) (λ ws. IsCall (codes "deregister" ∷ ws) calls) e (λ a stag others is_a then_a.
    finishes (λ ws made. IsCall (codes "deregister" ∷ a ∷ ws) made) calls (one (Deregister stag)) others then_a (deregister (stag_is a stag is_a)))

pub invalidate_is : (words : List Word) (calls : Calls) → invalidate_at words ≡ Ok (calls, []) → IsCall (codes "invalidate" ∷ words) calls
unfolding invalidate_at
invalidate_is words calls e =
    reads stag_word words _ (calls, []) (λ ws. IsCall (codes "invalidate" ∷ ws) calls) e (λ a stag others is_a then_a.
    finishes (λ ws made. IsCall (codes "invalidate" ∷ a ∷ ws) made) calls (one (Invalidate stag)) others then_a (invalidate (stag_is a stag is_a)))

pub store_is : (words : List Word) (calls : Calls) → store_at words ≡ Ok (calls, []) → IsCall (codes "store" ∷ words) calls
unfolding store_at
store_is words calls e =
    reads stag_word words _ (calls, []) (λ ws. IsCall (codes "store" ∷ ws) calls) e (λ a stag past_a is_a then_a.
    reads long_number past_a _ (calls, []) (λ ws. IsCall (codes "store" ∷ a ∷ ws) calls) then_a (λ b to past_b is_b then_b.
    reads octets_word past_b _ (calls, []) (λ ws. IsCall (codes "store" ∷ a ∷ b ∷ ws) calls) then_b (λ c octets others is_c then_c.
    finishes (λ ws made. IsCall (codes "store" ∷ a ∷ b ∷ c ∷ ws) made) calls (one (Store stag to octets)) others then_c (store (stag_is a stag is_a) (number_is (2 ^ 64 - 1) b to is_b) (octets_is c octets is_c)))))

pub open_is : (words : List Word) (calls : Calls) → open_at words ≡ Ok (calls, []) → IsCall (codes "open" ∷ words) calls
unfolding open_at
open_is words calls e =
    reads octet_number words _ (calls, []) (λ ws. IsCall (codes "open" ∷ ws) calls) e (λ a stream past_a is_a then_a.
    reads octet_number past_a _ (calls, []) (λ ws. IsCall (codes "open" ∷ a ∷ ws) calls) then_a (λ b pd past_b is_b then_b.
    reads role_word past_b _ (calls, []) (λ ws. IsCall (codes "open" ∷ a ∷ b ∷ ws) calls) then_b (λ c role past_c is_c then_c.
    reads (options_for role) past_c _ (calls, []) (λ ws. IsCall (codes "open" ∷ a ∷ b ∷ c ∷ ws) calls) then_c (λ d options past_d is_d then_d.
    reads private_word past_d _ (calls, []) (λ ws. IsCall (codes "open" ∷ a ∷ b ∷ c ∷ d ∷ ws) calls) then_d (λ f private others is_f then_f.
    finishes (λ ws made. IsCall (codes "open" ∷ a ∷ b ∷ c ∷ d ∷ f ∷ ws) made) calls (one (Open stream pd role options private)) others then_f
    (subst (λ w. IsCall (codes "open" ∷ a ∷ b ∷ w ∷ d ∷ f ∷ []) (one (Open stream pd role options private))) (sym (one_of_is role_text roles c role is_c))
    (opening (number_is 255 a stream is_a) (number_is 255 b pd is_b) (options_of_are role d options is_d) (private_is f private is_f))))))))

pub share_is : (words : List Word) (calls : Calls) → share_at words ≡ Ok (calls, []) → IsCall (codes "share" ∷ words) calls
unfolding share_at
share_is words calls e =
    reads octet_number words _ (calls, []) (λ ws. IsCall (codes "share" ∷ ws) calls) e (λ a pd others is_a then_a.
    finishes (λ ws made. IsCall (codes "share" ∷ a ∷ ws) made) calls (one (Share pd)) others then_a (share (number_is 255 a pd is_a)))

pub pool_is : (words : List Word) (calls : Calls) → pool_at words ≡ Ok (calls, []) → IsCall (codes "pool" ∷ words) calls
unfolding pool_at
pool_is words calls e =
    reads octet_number words _ (calls, []) (λ ws. IsCall (codes "pool" ∷ ws) calls) e (λ a pd past_a is_a then_a.
    reads (number_word MAX_WORD_OCTETS) past_a _ (calls, []) (λ ws. IsCall (codes "pool" ∷ a ∷ ws) calls) then_a (λ b len others is_b then_b.
    finishes (λ ws made. IsCall (codes "pool" ∷ a ∷ b ∷ ws) made) calls (one (Pool pd len)) others then_b (pool (number_is 255 a pd is_a) (number_is MAX_WORD_OCTETS b len is_b))))

pub unpool_is : (words : List Word) (calls : Calls) → unpool_at words ≡ Ok (calls, []) → IsCall (codes "unpool" ∷ words) calls
unfolding unpool_at
unpool_is words calls e =
    reads octet_number words _ (calls, []) (λ ws. IsCall (codes "unpool" ∷ ws) calls) e (λ a pd others is_a then_a.
    finishes (λ ws made. IsCall (codes "unpool" ∷ a ∷ ws) made) calls (one (Unpool pd)) others then_a (unpool (number_is 255 a pd is_a)))

pub open_shared_is : (words : List Word) (calls : Calls) → open_shared_at words ≡ Ok (calls, []) → IsCall (codes "openshared" ∷ words) calls
unfolding open_shared_at
open_shared_is words calls e =
    reads octet_number words _ (calls, []) (λ ws. IsCall (codes "openshared" ∷ ws) calls) e (λ a stream past_a is_a then_a.
    reads octet_number past_a _ (calls, []) (λ ws. IsCall (codes "openshared" ∷ a ∷ ws) calls) then_a (λ b pd past_b is_b then_b.
    reads role_word past_b _ (calls, []) (λ ws. IsCall (codes "openshared" ∷ a ∷ b ∷ ws) calls) then_b (λ c role past_c is_c then_c.
    reads (options_for role) past_c _ (calls, []) (λ ws. IsCall (codes "openshared" ∷ a ∷ b ∷ c ∷ ws) calls) then_c (λ d options past_d is_d then_d.
    reads private_word past_d _ (calls, []) (λ ws. IsCall (codes "openshared" ∷ a ∷ b ∷ c ∷ d ∷ ws) calls) then_d (λ f private others is_f then_f.
    finishes (λ ws made. IsCall (codes "openshared" ∷ a ∷ b ∷ c ∷ d ∷ f ∷ ws) made) calls (one (OpenShared stream pd role options private)) others then_f
    (subst (λ w. IsCall (codes "openshared" ∷ a ∷ b ∷ w ∷ d ∷ f ∷ []) (one (OpenShared stream pd role options private))) (sym (one_of_is role_text roles c role is_c))
    (opening_shared (number_is 255 a stream is_a) (number_is 255 b pd is_b) (options_of_are role d options is_d) (private_is f private is_f))))))))

pub accept_is : (words : List Word) (calls : Calls) → accept_at words ≡ Ok (calls, []) → IsCall (codes "accept" ∷ words) calls
unfolding accept_at
accept_is words calls e =
    reads octet_number words _ (calls, []) (λ ws. IsCall (codes "accept" ∷ ws) calls) e (λ a stream past_a is_a then_a.
    reads private_word past_a _ (calls, []) (λ ws. IsCall (codes "accept" ∷ a ∷ ws) calls) then_a (λ b private others is_b then_b.
    finishes (λ ws made. IsCall (codes "accept" ∷ a ∷ b ∷ ws) made) calls (one (Stream stream (Accept private))) others then_b (accept (number_is 255 a stream is_a) (private_is b private is_b))))

pub reject_is : (words : List Word) (calls : Calls) → reject_at words ≡ Ok (calls, []) → IsCall (codes "reject" ∷ words) calls
unfolding reject_at
reject_is words calls e =
    reads octet_number words _ (calls, []) (λ ws. IsCall (codes "reject" ∷ ws) calls) e (λ a stream past_a is_a then_a.
    reads private_word past_a _ (calls, []) (λ ws. IsCall (codes "reject" ∷ a ∷ ws) calls) then_a (λ b private others is_b then_b.
    finishes (λ ws made. IsCall (codes "reject" ∷ a ∷ b ∷ ws) made) calls (one (Stream stream (Reject private))) others then_b (reject (number_is 255 a stream is_a) (private_is b private is_b))))

pub recv_is : (words : List Word) (calls : Calls) → recv_at words ≡ Ok (calls, []) → IsCall (codes "recv" ∷ words) calls
unfolding recv_at
recv_is words calls e =
    reads octet_number words _ (calls, []) (λ ws. IsCall (codes "recv" ∷ ws) calls) e (λ a stream past_a is_a then_a.
    reads (number_word MAX_WORD_OCTETS) past_a _ (calls, []) (λ ws. IsCall (codes "recv" ∷ a ∷ ws) calls) then_a (λ b len others is_b then_b.
    finishes (λ ws made. IsCall (codes "recv" ∷ a ∷ b ∷ ws) made) calls (one (Stream stream (Recv len))) others then_b (recv (number_is 255 a stream is_a) (number_is MAX_WORD_OCTETS b len is_b))))

pub send_is : (words : List Word) (calls : Calls) → send_at words ≡ Ok (calls, []) → IsCall (codes "send" ∷ words) calls
unfolding send_at
send_is words calls e =
    reads octet_number words _ (calls, []) (λ ws. IsCall (codes "send" ∷ ws) calls) e (λ a stream past_a is_a then_a.
    reads kind_word past_a _ (calls, []) (λ ws. IsCall (codes "send" ∷ a ∷ ws) calls) then_a (λ b kind past_b is_b then_b.
    reads (invalidated_word kind) past_b _ (calls, []) (λ ws. IsCall (codes "send" ∷ a ∷ b ∷ ws) calls) then_b (λ c stag past_c is_c then_c.
    reads octets_word past_c _ (calls, []) (λ ws. IsCall (codes "send" ∷ a ∷ b ∷ c ∷ ws) calls) then_c (λ d octets others is_d then_d.
    finishes (λ ws made. IsCall (codes "send" ∷ a ∷ b ∷ c ∷ d ∷ ws) made) calls (posted stream (requests.Message (messages.Send octets (is_solicited kind) stag))) others then_d
    (send (number_is 255 a stream is_a) (kind_is b c kind stag is_b is_c) (octets_is d octets is_d))))))

pub write_is : (words : List Word) (calls : Calls) → write_at words ≡ Ok (calls, []) → IsCall (codes "write" ∷ words) calls
unfolding write_at
write_is words calls e =
    reads octet_number words _ (calls, []) (λ ws. IsCall (codes "write" ∷ ws) calls) e (λ a stream past_a is_a then_a.
    reads stag_word past_a _ (calls, []) (λ ws. IsCall (codes "write" ∷ a ∷ ws) calls) then_a (λ b stag past_b is_b then_b.
    reads long_number past_b _ (calls, []) (λ ws. IsCall (codes "write" ∷ a ∷ b ∷ ws) calls) then_b (λ c to past_c is_c then_c.
    reads octets_word past_c _ (calls, []) (λ ws. IsCall (codes "write" ∷ a ∷ b ∷ c ∷ ws) calls) then_c (λ d octets others is_d then_d.
    finishes (λ ws made. IsCall (codes "write" ∷ a ∷ b ∷ c ∷ d ∷ ws) made) calls (posted stream (requests.Message (messages.Write stag to octets))) others then_d (write (number_is 255 a stream is_a) (stag_is b stag is_b) (number_is (2 ^ 64 - 1) c to is_c) (octets_is d octets is_d))))))

pub read_is : (words : List Word) (calls : Calls) → read_at words ≡ Ok (calls, []) → IsCall (codes "read" ∷ words) calls
unfolding read_at
read_is words calls e =
    reads octet_number words _ (calls, []) (λ ws. IsCall (codes "read" ∷ ws) calls) e (λ a stream past_a is_a then_a.
    reads stag_word past_a _ (calls, []) (λ ws. IsCall (codes "read" ∷ a ∷ ws) calls) then_a (λ b sink past_b is_b then_b.
    reads long_number past_b _ (calls, []) (λ ws. IsCall (codes "read" ∷ a ∷ b ∷ ws) calls) then_b (λ c sink_to past_c is_c then_c.
    reads short_number past_c _ (calls, []) (λ ws. IsCall (codes "read" ∷ a ∷ b ∷ c ∷ ws) calls) then_c (λ d size past_d is_d then_d.
    reads stag_word past_d _ (calls, []) (λ ws. IsCall (codes "read" ∷ a ∷ b ∷ c ∷ d ∷ ws) calls) then_d (λ f source past_f is_f then_f.
    reads long_number past_f _ (calls, []) (λ ws. IsCall (codes "read" ∷ a ∷ b ∷ c ∷ d ∷ f ∷ ws) calls) then_f (λ g source_to others is_g then_g.
    finishes (λ ws made. IsCall (codes "read" ∷ a ∷ b ∷ c ∷ d ∷ f ∷ g ∷ ws) made) calls (posted stream (requests.Read (read_of sink sink_to size source source_to))) others then_g
    (read (number_is 255 a stream is_a) (stag_is b sink is_b) (number_is (2 ^ 64 - 1) c sink_to is_c) (number_is (2 ^ 32 - 1) d size is_d) (stag_is f source is_f) (number_is (2 ^ 64 - 1) g source_to is_g))))))))

pub deliver_is : (words : List Word) (calls : Calls) → deliver_at words ≡ Ok (calls, []) → IsCall (codes "deliver" ∷ words) calls
unfolding deliver_at
deliver_is words calls e =
    reads octet_number words _ (calls, []) (λ ws. IsCall (codes "deliver" ∷ ws) calls) e (λ a stream past_a is_a then_a.
    reads long_number past_a _ (calls, []) (λ ws. IsCall (codes "deliver" ∷ a ∷ ws) calls) then_a (λ b from past_b is_b then_b.
    reads long_number past_b _ (calls, []) (λ ws. IsCall (codes "deliver" ∷ a ∷ b ∷ ws) calls) then_b (λ c len others is_c then_c.
    finishes (λ ws made. IsCall (codes "deliver" ∷ a ∷ b ∷ c ∷ ws) made) calls (one (Stream stream (Deliver from len))) others then_c (deliver (number_is 255 a stream is_a) (number_is (2 ^ 64 - 1) b from is_b) (number_is (2 ^ 64 - 1) c len is_c)))))

pub raw_is : (words : List Word) (calls : Calls) → raw_at words ≡ Ok (calls, []) → IsCall (codes "raw" ∷ words) calls
unfolding raw_at
raw_is words calls e =
    reads octet_number words _ (calls, []) (λ ws. IsCall (codes "raw" ∷ ws) calls) e (λ a stream past_a is_a then_a.
    reads short_number past_a _ (calls, []) (λ ws. IsCall (codes "raw" ∷ a ∷ ws) calls) then_a (λ b number past_b is_b then_b.
    reads octets_word past_b _ (calls, []) (λ ws. IsCall (codes "raw" ∷ a ∷ b ∷ ws) calls) then_b (λ c octets others is_c then_c.
    finishes (λ ws made. IsCall (codes "raw" ∷ a ∷ b ∷ c ∷ ws) made) calls (one (Stream stream (Raw number octets))) others then_c (raw (number_is 255 a stream is_a) (number_is (2 ^ 32 - 1) b number is_b) (octets_is c octets is_c)))))

pub first_is : (words : List Word) (calls : Calls) → first_at words ≡ Ok (calls, []) → IsCall (codes "first" ∷ words) calls
unfolding first_at
first_is words calls e =
    reads octet_number words _ (calls, []) (λ ws. IsCall (codes "first" ∷ ws) calls) e (λ a stream past_a is_a then_a.
    reads short_number past_a _ (calls, []) (λ ws. IsCall (codes "first" ∷ a ∷ ws) calls) then_a (λ b number others is_b then_b.
    finishes (λ ws made. IsCall (codes "first" ∷ a ∷ b ∷ ws) made) calls (one (Stream stream (First number))) others then_b (first (number_is 255 a stream is_a) (number_is (2 ^ 32 - 1) b number is_b))))

pub mulpdu_is : (words : List Word) (calls : Calls) → mulpdu_at words ≡ Ok (calls, []) → IsCall (codes "mulpdu" ∷ words) calls
unfolding mulpdu_at
mulpdu_is words calls e =
    reads octet_number words _ (calls, []) (λ ws. IsCall (codes "mulpdu" ∷ ws) calls) e (λ a stream past_a is_a then_a.
    reads short_number past_a _ (calls, []) (λ ws. IsCall (codes "mulpdu" ∷ a ∷ ws) calls) then_a (λ b size others is_b then_b.
    finishes (λ ws made. IsCall (codes "mulpdu" ∷ a ∷ b ∷ ws) made) calls (one (Stream stream (Mulpdu size))) others then_b (mulpdu (number_is 255 a stream is_a) (number_is (2 ^ 32 - 1) b size is_b))))

pub break_is : (words : List Word) (calls : Calls) → break_at words ≡ Ok (calls, []) → IsCall (codes "break" ∷ words) calls
unfolding break_at
break_is words calls e =
    reads octet_number words _ (calls, []) (λ ws. IsCall (codes "break" ∷ ws) calls) e (λ a stream others is_a then_a.
    finishes (λ ws made. IsCall (codes "break" ∷ a ∷ ws) made) calls (one (Stream stream Break)) others then_a (breaking (number_is 255 a stream is_a)))

-- ---- equal calls

times_told : (words : List Word) (y : ℕ × List Word) → times_at words ≡ Ok y → ((words ≡ []) × (y.1 ≡ []) × (1 ≡ y.0)) ⊎ ((word : Word) × (words ≡ word ∷ y.1) × IsTimes word y.0)
times_told [] y e =
    let made : ℕ × List Word = (1, []) in
    let pair : made ≡ y = cc in
    inl (refl, ap (λ (p : ℕ × List Word). p.1) (sym pair), ap (λ (p : ℕ × List Word). p.0) pair)
times_told (word ∷ words) y e =
    let made = field_made (times_word word) words y e in
    inr (word, ap (λ ws. word ∷ ws) made.1, times_is word y.0 made.0)

-- a call of this name, once or as often as the line says
steps_are : (step : Step) (name : Word) (words : List Word) (calls : Calls) → steps_at step words ≡ Ok (calls, [])
    → ((a : Word) (stream : ℕ) → IsOctetNumber a stream → IsCall (name ∷ a ∷ []) (one (Stream stream (step_call step))))
    → ((a b : Word) (stream n : ℕ) → IsOctetNumber a stream → IsTimes b n → IsCall (name ∷ a ∷ b ∷ []) (replicate n (Stream stream (step_call step))))
    → IsCall (name ∷ words) calls
unfolding steps_at
steps_are step name words calls e once often =
    reads octet_number words _ (calls, []) (λ ws. IsCall (name ∷ ws) calls) e (λ a stream past_a is_a then_a.
    let number = number_is 255 a stream is_a in
    let t = bind_ok (times_at past_a) _ (calls, []) then_a in
    let made = replicate t.0.0 (Stream stream (step_call step)) in
    elim (times_told past_a t.0 t.1) [
      | inl none ↦
          let last = finishes (λ ws made. IsCall (name ∷ a ∷ ws) made) calls made t.0.1 t.2 (subst (λ n. IsCall (name ∷ a ∷ []) (replicate n (Stream stream (step_call step)))) none.2 (once a stream number)) in
          subst (λ ws. IsCall (name ∷ a ∷ ws) calls) (none.1 ∙ sym none.0) last
      | inr some ↦
          let last = finishes (λ ws made. IsCall (name ∷ a ∷ some.0 ∷ ws) made) calls made t.0.1 t.2 (often a some.0 stream t.0.0 number some.2) in
          subst (λ ws. IsCall (name ∷ a ∷ ws) calls) (sym some.1) last
    ])

emit_is : (words : List Word) (calls : Calls) → steps_at steps.Emit words ≡ Ok (calls, []) → IsCall (codes "emit" ∷ words) calls
emit_is words calls e = steps_are steps.Emit (codes "emit") words calls e (λ a stream p. emit p) (λ a b stream n p q. emit_times p q)

work_is : (words : List Word) (calls : Calls) → steps_at steps.Work words ≡ Ok (calls, []) → IsCall (codes "work" ∷ words) calls
work_is words calls e = steps_are steps.Work (codes "work") words calls e (λ a stream p. work p) (λ a b stream n p q. work_times p q)

-- ---- all calls

call_word_is : (word : Word) (call : CallWord) → call_word word ≡ Ok call → word ≡ call_text call
unfolding call_word
call_word_is word call e = one_of_is call_text call_words word call e

past_is : (call : CallWord) (words : List Word) (calls : Calls) → beyond call words ≡ Ok (calls, []) → IsCall (call_text call ∷ words) calls
past_is named.Domain words calls e = domain_is words calls e
past_is named.Register words calls e = register_is words calls e
past_is named.Deregister words calls e = deregister_is words calls e
past_is named.Invalidate words calls e = invalidate_is words calls e
past_is named.Store words calls e = store_is words calls e
past_is named.Open words calls e = open_is words calls e
past_is named.Share words calls e = share_is words calls e
past_is named.Pool words calls e = pool_is words calls e
past_is named.Unpool words calls e = unpool_is words calls e
past_is named.OpenShared words calls e = open_shared_is words calls e
past_is named.Accept words calls e = accept_is words calls e
past_is named.Reject words calls e = reject_is words calls e
past_is named.Recv words calls e = recv_is words calls e
past_is named.Send words calls e = send_is words calls e
past_is named.Write words calls e = write_is words calls e
past_is named.Read words calls e = read_is words calls e
past_is named.Emit words calls e = emit_is words calls e
past_is named.Work words calls e = work_is words calls e
past_is named.Deliver words calls e = deliver_is words calls e
past_is named.Raw words calls e = raw_is words calls e
past_is named.First words calls e = first_is words calls e
past_is named.Mulpdu words calls e = mulpdu_is words calls e
past_is named.Break words calls e = break_is words calls e

pub calls_are : (words : List Word) (calls : Calls) → calls_at words ≡ Ok (calls, []) → IsCall words calls
unfolding calls_at
calls_are words calls e =
    let a = bind_ok (field call_word words) _ (calls, []) e in
    let f = field_is call_word words a.0 a.1 in
    let text = call_word_is f.word a.0.0 f.value in
    subst (λ ws. IsCall ws calls) (cc (f.words_are, text)) (past_is a.0.0 a.0.1 calls a.2)

role_again : (role : Role) → role_word (role_text role) ≡ Ok role
role_again Preset = refl
role_again Initiator = refl
role_again Responder = refl

pub calls_again : (words : List Word) (calls : Calls) → IsCall words calls → calls_at words ≡ Ok (calls, [])
unfolding calls_at call_word domain_at register_at deregister_at invalidate_at store_at open_at share_at pool_at unpool_at open_shared_at accept_at reject_at recv_at send_at write_at read_at steps_at deliver_at raw_at first_at mulpdu_at break_at
calls_again words calls (domain {a} {pd} p) = rw (number_again 255 a pd p) refl
calls_again words calls (register {a} {b} {c} {d} {pd} {base} {rights} {octets} p q r s) = rw (number_again 255 a pd p, number_again (2 ^ 64 - 1) b base q, rights_again c rights r, octets_again d octets s) refl
calls_again words calls (deregister {a} {stag} p) = rw (stag_again a stag p) refl
calls_again words calls (invalidate {a} {stag} p) = rw (stag_again a stag p) refl
calls_again words calls (store {a} {b} {c} {stag} {to} {octets} p q r) = rw (stag_again a stag p, number_again (2 ^ 64 - 1) b to q, octets_again c octets r) refl
calls_again words calls (opening {a} {b} {d} {e} {stream} {pd} {role} {options} {private} p q r s) = rw (number_again 255 a stream p, number_again 255 b pd q, role_again role, options_of_again role d options r, private_again e private s) refl
calls_again words calls (share {a} {pd} p) = rw (number_again 255 a pd p) refl
calls_again words calls (pool {a} {b} {pd} {len} p q) = rw (number_again 255 a pd p, number_again MAX_WORD_OCTETS b len q) refl
calls_again words calls (unpool {a} {pd} p) = rw (number_again 255 a pd p) refl
calls_again words calls (opening_shared {a} {b} {d} {e} {stream} {pd} {role} {options} {private} p q r s) = rw (number_again 255 a stream p, number_again 255 b pd q, role_again role, options_of_again role d options r, private_again e private s) refl
calls_again words calls (accept {a} {b} {stream} {private} p q) = rw (number_again 255 a stream p, private_again b private q) refl
calls_again words calls (reject {a} {b} {stream} {private} p q) = rw (number_again 255 a stream p, private_again b private q) refl
calls_again words calls (recv {a} {b} {stream} {len} p q) = rw (number_again 255 a stream p, number_again MAX_WORD_OCTETS b len q) refl
calls_again words calls (send {a} {d} {stream} {octets} p plain r) = rw (number_again 255 a stream p, octets_again d octets r) refl
calls_again words calls (send {a} {d} {stream} {octets} p solicited r) = rw (number_again 255 a stream p, octets_again d octets r) refl
calls_again words calls (send {a} {d} {stream} {octets} p (invalidating {word} {stag} q) r) = rw (number_again 255 a stream p, stag_again word stag q, octets_again d octets r) refl
calls_again words calls (send {a} {d} {stream} {octets} p (solicited_and_invalidating {word} {stag} q) r) = rw (number_again 255 a stream p, stag_again word stag q, octets_again d octets r) refl
calls_again words calls (write {a} {b} {c} {d} {stream} {to} {stag} {octets} p q r s) = rw (number_again 255 a stream p, stag_again b stag q, number_again (2 ^ 64 - 1) c to r, octets_again d octets s) refl
calls_again words calls (read {a} {b} {c} {d} {e} {f} {stream} {sink_to} {size} {source_to} {sink} {source} p q r s t u) =
    rw (number_again 255 a stream p, stag_again b sink q, number_again (2 ^ 64 - 1) c sink_to r, number_again (2 ^ 32 - 1) d size s, stag_again e source t, number_again (2 ^ 64 - 1) f source_to u) refl
calls_again words calls (emit {a} {stream} p) = rw (number_again 255 a stream p) refl
calls_again words calls (emit_times {a} {b} {stream} {n} p q) = rw (number_again 255 a stream p, times_again b n q) refl
calls_again words calls (work {a} {stream} p) = rw (number_again 255 a stream p) refl
calls_again words calls (work_times {a} {b} {stream} {n} p q) = rw (number_again 255 a stream p, times_again b n q) refl
calls_again words calls (deliver {a} {b} {c} {stream} {from} {len} p q r) = rw (number_again 255 a stream p, number_again (2 ^ 64 - 1) b from q, number_again (2 ^ 64 - 1) c len r) refl
calls_again words calls (raw {a} {b} {c} {stream} {number} {octets} p q r) = rw (number_again 255 a stream p, number_again (2 ^ 32 - 1) b number q, octets_again c octets r) refl
calls_again words calls (first {a} {b} {stream} {number} p q) = rw (number_again 255 a stream p, number_again (2 ^ 32 - 1) b number q) refl
calls_again words calls (mulpdu {a} {b} {stream} {size} p q) = rw (number_again 255 a stream p, number_again (2 ^ 32 - 1) b size q) refl
calls_again words calls (breaking {a} {stream} p) = rw (number_again 255 a stream p) refl
