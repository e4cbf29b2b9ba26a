-- No number is used for a second stream.
use Rattle.std.specs.Prelude.{◌≡◌, ℕ, List, [], ◌∷◌, ◌++◌, true, false}
use Rattle.iw_endpoint.specs.Endpoint.{EndpointState, fresh, has_stream, next_number}
use Rattle.iw_endpoint.specs.Isolation.{Call, AddDomain, Register, RegisterDrawn, RegisterOctets, RegisterOctetsDrawn, Deregister, DeregisterKept, TakeRegion, Invalidate, Store, Facts, Local, LocalMut, Open, Share, PostShared, TakeShared, OpenShared, OpenNext, OpenSharedNext, AtStream, after, after_all}

-- a call for the next number carries the one that the endpoint gives
abbrev pub IsGiven : EndpointState → Call → Type 0
IsGiven e (OpenNext n pd role config) = n ≡ next_number e
IsGiven e (OpenSharedNext n pd role config) = n ≡ next_number e
IsGiven e (AddDomain pd) = Unit {0}
IsGiven e (Register pd base octets rights) = Unit {0}
IsGiven e (RegisterDrawn pd base octets rights drawn) = Unit {0}
IsGiven e (RegisterOctets pd base octets kept rights) = Unit {0}
IsGiven e (RegisterOctetsDrawn pd base octets kept rights drawn) = Unit {0}
IsGiven e (Deregister stag) = Unit {0}
IsGiven e (DeregisterKept stag) = Unit {0}
IsGiven e (TakeRegion stag) = Unit {0}
IsGiven e (Invalidate stag) = Unit {0}
IsGiven e (Store stag to octets) = Unit {0}
IsGiven e (Facts stag) = Unit {0}
IsGiven e (Local stag) = Unit {0}
IsGiven e (LocalMut stag octets) = Unit {0}
IsGiven e (Open n pd role config) = Unit {0}
IsGiven e (Share pd) = Unit {0}
IsGiven e (PostShared pd buffer) = Unit {0}
IsGiven e (TakeShared pd) = Unit {0}
IsGiven e (OpenShared n pd role config) = Unit {0}
IsGiven e (AtStream n call) = Unit {0}

abbrev pub AreGiven : EndpointState → List Call → Type 0
AreGiven e [] = Unit {0}
AreGiven e (call ∷ calls) = IsGiven e call × AreGiven (after e call) calls

-- a number that had a stream, and has none, never has one again
abbrev pub NumbersAreUsedOnce : Type 0
NumbersAreUsedOnce = (first second third : List Call) → AreGiven fresh (first ++ second ++ third) → (n : ℕ)
    → has_stream (after_all fresh first) n ≡ true → has_stream (after_all fresh (first ++ second)) n ≡ false → has_stream (after_all fresh (first ++ second ++ third)) n ≡ false
