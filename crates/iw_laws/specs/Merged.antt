-- What goes out of an end: the messages that were posted, and the responses to the peer's Reads, each in order, and no two mingled.
use Rattle.std.specs.Prelude.{◌≡◌, ℕ, ◌-◌, Bool, if◌then◌else◌, List, [], ◌∷◌, ◌++◌, length, drop}
use Rattle.iw_octets.specs.declared.constants.TheConstants.{MAX_ULPDU, TAGGED_HEADER}
use Rattle.iw_octets.specs.declared.payload.ReadRequest.{ReadRequest}
use Rattle.iw_octets.specs.declared.segment.Segment.{Segment}
use Rattle.iw_octets.specs.declared.segment.Segment.TheVariants.{Tagged, Untagged}
use Rattle.iw_queues.specs.declared.request.Request.{Request}
use Rattle.iw_queues.specs.Segments.{Numbers, numbers_after, IsCut, AreSegments}
use Rattle.iw_reads.specs.Response.{response_head}
use Rattle.iw_laws.specs.Words.{Octets}
use Rattle.iw_laws.specs.Turns.{Answer, carries_response}

-- a message that was posted, or a response
pub data Item : Type 0 where
  Post : Request Octets → Item
  Response : Answer → Item

abbrev pub posts_in : List Item → List (Request Octets)
posts_in [] = []
posts_in (Post message ∷ items) = message ∷ posts_in items
posts_in (Response answer ∷ items) = posts_in items

abbrev pub answers_in : List Item → List Answer
answers_in [] = []
answers_in (Post message ∷ items) = answers_in items
answers_in (Response answer ∷ items) = answer ∷ answers_in items

abbrev pub octets_of : List Answer → Octets
octets_of [] = []
octets_of (answer ∷ answers) = answer.octets ++ octets_of answers

-- the segment with these octets of a response, which stand from `offset` on in it
abbrev pub response_segment : ReadRequest → ℕ → Bool → Octets → Segment Octets
response_segment request offset last octets = Tagged (response_head request offset last) octets

-- the octets of responses that these segments have, in order
abbrev pub response_in : Segment Octets → Octets
response_in (Tagged head payload) = if carries_response (Tagged head payload) then payload else []
response_in (Untagged head payload) = []

abbrev pub responded : List (Segment Octets) → Octets
responded [] = []
responded (segment ∷ segments) = response_in segment ++ responded segments

-- the segments of what is left of an item past its first `offset` octets: a response has as many octets as were asked for
abbrev pub ItemSegments : Numbers → Item → ℕ → List (Segment Octets) → Type 0
ItemSegments numbers (Post message) offset ss = AreSegments numbers message offset ss
ItemSegments numbers (Response answer) offset ss =
    (length answer.octets ≡ answer.request.size)
    × IsCut (MAX_ULPDU - TAGGED_HEADER) (response_segment answer.request) offset (drop offset answer.octets) ss

abbrev pub numbers_past : Numbers → Item → Numbers
numbers_past numbers (Post message) = numbers_after numbers message
numbers_past numbers (Response answer) = numbers

-- the segments of these, one after the other, `offset` octets of the first having gone before
abbrev pub AreMerged : Numbers → ℕ → List Item → List (Segment Octets) → Type 0
AreMerged numbers offset [] ss = ss ≡ []
AreMerged numbers offset (item ∷ items) ss =
    (mine later : List (Segment Octets)) × (ss ≡ mine ++ later) × ItemSegments numbers item offset mine
    × AreMerged (numbers_past numbers item) 0 items later
