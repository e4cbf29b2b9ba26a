-- What is to be emitted next, and what follows for a call to emit.
use Rattle.std.proofs.Common.{◌≡◌, ℕ, Bool, List, true, false, cond, Option, Some, None, refl, arith}
use Rattle.std.specs.Prelude.{◌==◌, ◌||◌, not, is_some}
use Rattle.std.proofs.lemmas.Bool.{false≢true, true≢false}
use Rattle.std.proofs.lemmas.Bool.Decides.{nat_tests}
use Rattle.std.proofs.lemmas.Option.{none-some}
use Rattle.std.specs.Option.{option_map_or}
use Rattle.iw_stream.specs.declared.ending.Ending.{Ending}
use Rattle.iw_stream.specs.declared.ending.Ending.TheVariants.{Runs, Over, Broken}
use Rattle.iw_stream.specs.Ending.{has_ended, last_word}
use Rattle.iw_stream.specs.Starting.{is_open, first_place_out, rtr_in}
use Rattle.iw_startup.specs.declared.enhanced.Rtr.{Rtr}
use Rattle.iw_stream.specs.Stream.{StreamState, Due, StartUp, LastWord, Ready, NoneDue, due, message_due, ended, keeps_silent, is_mute, owes_frame, rtr_due}

-- what is due if no start-up frame and no Terminate is
abbrev next_due : StreamState → Due
next_due s = cond (is_mute s) NoneDue (option_map_or Ready (rtr_due s) (message_due s))

pub due_startup : (s : StreamState) → owes_frame s ≡ true → due s ≡ StartUp
due_startup s owes = (λ i. cond (owes i) StartUp (option_map_or LastWord (last_word s.ending) (next_due s)))

pub due_last : (s : StreamState) (o : Option (List ℕ)) → owes_frame s ≡ false → last_word s.ending ≡ o → is_some o ≡ true → due s ≡ option_map_or LastWord o NoneDue
due_last s None owes is some = absurd (false≢true some)
due_last s (Some payload) owes is some = (λ i. cond (owes i) StartUp (option_map_or LastWord (is i) (next_due s)))

pub due_mute : (s : StreamState) → owes_frame s ≡ false → last_word s.ending ≡ None → is_mute s ≡ true → due s ≡ NoneDue
due_mute s owes silent mute =
    (λ i. cond (owes i) StartUp (option_map_or LastWord (silent i) (cond (mute i) NoneDue (option_map_or Ready (rtr_due s) (message_due s)))))

pub due_ready : (s : StreamState) (rtr : Rtr) → owes_frame s ≡ false → last_word s.ending ≡ None → is_mute s ≡ false → rtr_due s ≡ Some rtr → due s ≡ Ready rtr
due_ready s rtr owes silent mute is =
    (λ i. cond (owes i) StartUp (option_map_or LastWord (silent i) (cond (mute i) NoneDue (option_map_or Ready (is i) (message_due s)))))

pub due_message : (s : StreamState) → owes_frame s ≡ false → last_word s.ending ≡ None → is_mute s ≡ false → rtr_due s ≡ None → due s ≡ message_due s
due_message s owes silent mute none =
    (λ i. cond (owes i) StartUp (option_map_or LastWord (silent i) (cond (mute i) NoneDue (option_map_or Ready (none i) (message_due s)))))

or_false : (a b : Bool) → (a || b) ≡ false → a ≡ false
or_false false b e = refl
or_false true b e = absurd (true≢false e)

none_due : (ending : Ending) → has_ended ending ≡ false → last_word ending ≡ None
none_due Runs e = refl
none_due (Over terminate) e = absurd (true≢false e)
none_due Broken e = absurd (true≢false e)

-- a stream that may send frames owes no Terminate
pub speaks : (s : StreamState) → is_mute s ≡ false → last_word s.ending ≡ None
speaks s mute = none_due s.ending (or_false (ended s) (not (is_open s.start) || keeps_silent s) mute)

-- it is to be sent right behind the start-up frame
pub rtr_first : (s : StreamState) (rtr : Rtr) → rtr_due s ≡ Some rtr → s.sent ≡ first_place_out s.start
rtr_first s rtr is = go (s.sent == first_place_out s.start) refl is
  where
    go : (b : Bool) → (s.sent == first_place_out s.start) ≡ b → cond b (rtr_in s.start) None ≡ Some rtr → s.sent ≡ first_place_out s.start
    go true same e = grind (arith, nat_tests)
    go false same e = absurd (none-some rtr e)
