-- A calm moment is still, no node is stuck there, and each node at work has had its ticks.
use Rattle.std.proofs.Common.{◌≡◌, ◌≤◌, ◌+◌, ◌*◌, ◌&&◌, ◌||◌, ℕ, suc, Bool, true, false, List, [], ◌∷◌, length, not, nat_le, inl, inr, refl, sym, subst}
use Rattle.std.proofs.lemmas.Bool.{and_parts, cases_Bool, leb-true}
use Rattle.std.specs.Prelude.{◌⊎◌}
use Rattle.std.specs.List.{list_all}
use Rattle.s0_crypto.specs.Sealing.{keys_of}
use Rattle.zw_text.specs.declared.entry.Entry.{Entry}
use Rattle.zw_text.specs.Transcript.{joined}
use Rattle.law_wire.specs.law_transcript.Lists.{Has}
use Rattle.law_time.specs.Requests.{are_none}
use Rattle.law_time.specs.Stretches.{are_plain_listeners, commands_in, is_alone, is_time, waited, workers}
use Rattle.law_time.specs.Verdicts.{is_answered}
use Rattle.proof_in_time.specs.Waited.{waited_for}
use Rattle.proof_ready.specs.Each.{is_time_for}
use Rattle.proof_ready.specs.Ready.{Listeners, One_alone, Sleeper}
use Rattle.proof_ready.specs.Stretch.{moment, told_before, told_in}
use Rattle.proof_ready.proofs.Each.{all_that_has, any_that_has}
use Rattle.proof_ready.proofs.OneOpen.{own_long}
use Rattle.proof_ready.proofs.Reading.{in_filter, one_alone, some_of}
use Rattle.proof_ready.proofs.ends.stretches_are_answered_in_time.Goals as goal

pub returns-clause-together : goal.returns-clause-together
returns-clause-together c = λ key devices before lines made done whole calm stretch plain long.
    let past = told_before (keys_of key) devices before in
    let told = told_in (keys_of key) devices before lines in
    let now = (moment (keys_of key) devices before).outside.devices in
    all_that_has (λ node. list_all (is_answered now past told node) (commands_in past told node)) (workers past told)
    (λ n works.
    c.still_nodes_are_answered.ensures key (keys_of key) devices before lines n
    (record { keys_are = refl; done = done; whole = whole; made = made; still = calm.still; stretch = stretch; are_fit = Listeners plain }) calm.to_come works
    (inl (leb-true 500 (waited told) long)))

pub returns-clause-asleep : goal.returns-clause-asleep
returns-clause-asleep c = λ key devices before lines made done whole calm stretch plain long.
    let past = told_before (keys_of key) devices before in
    let told = told_in (keys_of key) devices before lines in
    let now = (moment (keys_of key) devices before).outside.devices in
    all_that_has (λ node. list_all (is_answered now past told node) (commands_in past told node)) (workers past told)
    (λ n works.
    c.still_nodes_are_answered.ensures key (keys_of key) devices before lines n
    (record { keys_are = refl; done = done; whole = whole; made = made; still = calm.still; stretch = stretch; are_fit = Sleeper plain }) calm.to_come works
    (inl (leb-true 500 (waited told) long)))

-- each command of the one node has had 500 ticks: so it has had its own
ticks_alone : (past told : List Entry) (n : ℕ) → is_alone past told ≡ true → is_time past told ≡ true → Has (workers past told) n
    → 101 + 30 * suc (length (commands_in past told n)) ≤ waited_for n told
ticks_alone past told n alone time works =
    let one = one_alone (workers past told) alone in
    let same = this one.0 (subst (λ (l : List ℕ). Has l n) one.1 works) in
    let some = some_of (commands_in past told n) (in_filter (λ node. not (are_none (commands_in past told node))) (joined past) n (any_that_has (workers past told) n works)).1 in
    own_long past told n some.0 (subst (λ (k : ℕ). workers past told ≡ k ∷ []) same one.1) some.1 time
  where
    this : (only : ℕ) → Has (only ∷ []) n → only ≡ n
    this only (inl is) = is
    this only (inr none) = absurd none

pub returns-clause-alone : goal.returns-clause-alone
returns-clause-alone c = λ key devices before lines made done whole calm stretch alone time.
    let past = told_before (keys_of key) devices before in
    let told = told_in (keys_of key) devices before lines in
    let now = (moment (keys_of key) devices before).outside.devices in
    all_that_has (λ node. list_all (is_answered now past told node) (commands_in past told node)) (workers past told)
    (λ n works.
    c.still_nodes_are_answered.ensures key (keys_of key) devices before lines n
    (record { keys_are = refl; done = done; whole = whole; made = made; still = calm.still; stretch = stretch; are_fit = One_alone alone }) calm.to_come works
    (ticks_alone past told n alone time works))

pub returns-clause-each : goal.returns-clause-each
returns-clause-each c = λ key devices before lines made done whole calm stretch n works long.
    let past = told_before (keys_of key) devices before in
    let told = told_in (keys_of key) devices before lines in
    let now = (moment (keys_of key) devices before).outside.devices in
    elim (either (is_alone past told && is_time_for 30 past told n) (are_plain_listeners now past told && is_time_for 24 past told n) long) [
      | inl so ↦
          let both = and_parts (is_alone past told) (is_time_for 30 past told n) so in
          c.still_nodes_are_answered.ensures key (keys_of key) devices before lines n
          (record { keys_are = refl; done = done; whole = whole; made = made; still = calm.still; stretch = stretch; are_fit = One_alone both.0 }) calm.to_come works
          (leb-true (101 + 30 * suc (length (commands_in past told n))) (waited_for n told) both.1)
      | inr so ↦
          let both = and_parts (are_plain_listeners now past told) (is_time_for 24 past told n) so in
          c.still_nodes_are_answered.ensures key (keys_of key) devices before lines n
          (record { keys_are = refl; done = done; whole = whole; made = made; still = calm.still; stretch = stretch; are_fit = Listeners both.0 }) calm.to_come works
          (inr (leb-true (101 + 24 * suc (length (commands_in past told n))) (waited_for n told) both.1))
    ]
  where
    either : (a b : Bool) → a || b ≡ true → (a ≡ true) ⊎ (b ≡ true)
    either true b so = inl refl
    either false b so = inr so
