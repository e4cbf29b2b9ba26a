-- The octets of a posted message, in either form.
use Rattle.std.specs.Prelude.{ℕ, List}
use Rattle.iw_octets.specs.declared.message.Message.{Message}
use Rattle.iw_octets.specs.declared.message.Message.TheVariants.{Write, Send}
use Rattle.std_alloc.specs.declared.vec.Vec.{Vec}
use Rattle.iw_queues.specs.declared.outgoing.Form.{Form}
use Rattle.iw_queues.specs.declared.outgoing.Form.TheVariants.{Shared, Kept}
use Rattle.iw_queues.specs.declared.request.Request.{Request}
use Rattle.iw_queues.specs.declared.request.Request.TheVariants as requests

abbrev pub octets_of : {A : Type 0} → Form A → List ℕ
octets_of (Shared octets) = octets
octets_of (Kept v) = v.items

-- a message whose octets are a vector's
abbrev pub message_of : {A : Type 0} → Message (Vec ℕ A) → Message (List ℕ)
message_of (Write stag to v) = Write stag to v.items
message_of (Send v solicited invalidate) = Send v.items solicited invalidate

abbrev pub request_of : {A : Type 0} → Message (Vec ℕ A) → Request (List ℕ)
request_of message = requests.Message (message_of message)
