-- Whatever the peer told, this end keeps to it.
use Rattle.std.proofs.Common.{◌≡◌, ◌≤◌, ◌&&◌, ◌||◌, Bool, true, false, not, refl, arith}
use Rattle.std.specs.Prelude.{IsTrue}
use Rattle.std.proofs.lemmas.Bool.Decides.{nat_tests}
use Rattle.iw_startup.specs.declared.enhanced.EnhancedData.{EnhancedData}
use Rattle.iw_startup.specs.Enhanced.{answer_data}
use Rattle.iw_startup.specs.Frame.{unset_depth}
use Rattle.iw_startup.specs.Laws.{WordsAreKept}

offers : (model write read : Bool) → model ≡ true → ((model && (write || not read)) || (model && read)) ≡ true
offers true true read h = refl
offers true false true h = refl
offers true false false h = refl
offers false write read h = cc

wanted : (model write read : Bool) → IsTrue (write || read) → (IsTrue (model && (write || not read)) → write ≡ true) × (IsTrue (model && read) → read ≡ true)
wanted model true true h = (λ _. refl, λ _. refl)
wanted true true false h = (λ _. refl, λ e. cc)
wanted false true false h = (λ _. refl, λ e. cc)
wanted true false true h = (λ e. cc, λ _. refl)
wanted false false true h = (λ e. cc, λ _. refl)
wanted model false false h = cc

within : (asked : EnhancedData) → (asked.ird ≡ unset_depth → ⊥) → (answer_data false asked).ord ≤ asked.ird
within asked other = grind (arith, nat_tests)

unset_ord : (rejecting : Bool) (asked : EnhancedData) → asked.ird ≡ unset_depth → (answer_data rejecting asked).ord ≡ unset_depth
unset_ord rejecting asked is = rw is refl

unset_ird : (rejecting : Bool) (asked : EnhancedData) → asked.ord ≡ unset_depth → (answer_data rejecting asked).ird ≡ unset_depth
unset_ird rejecting asked is = rw is refl

pub words_are_kept : WordsAreKept
words_are_kept = record {
  own_ord = λ told. (omega arith, omega arith);
  within = within;
  unset_ord = unset_ord;
  unset_ird = unset_ird;
  model = λ rejecting asked. refl;
  offers = λ rejecting asked h. offers asked.peer_to_peer asked.rtr_write asked.rtr_read h;
  wanted = λ rejecting asked h. wanted asked.peer_to_peer asked.rtr_write asked.rtr_read h;
  no_send = λ rejecting asked. refl;
  none = λ rejecting asked h. (rw h refl, rw h refl);
}
