-- A node that has a command is at work, at most 16 are; one that listens and must waits for its next series, and one that sleeps is woken last.
use Rattle.std.proofs.Common.{◌≡◌, ◌≢◌, ◌⊎◌, ◌≤◌, ◌+◌, ◌*◌, ◌∙◌, ◌++◌, ℕ, suc, inl, inr, Bool, true, false, List, length, arith, refl, subst, sym}
use Rattle.std.proofs.lemmas.Bool.{false≢true}
use Rattle.zw_text.specs.declared.entry.Entry.{Entry}
use Rattle.zw_text.specs.Transcript.{outcome}
use Rattle.proof_rests.specs.world_lines.Spoken.{transcript_of}
use Rattle.proof_in_time.specs.Waited.{waited_for}
use Rattle.law_wire.specs.law_transcript.Commands.{waiting}
use Rattle.law_wire.specs.law_transcript.Lists.{Has}
use Rattle.law_wire.specs.law_transcript.Nodes.{always, is_joined, listing_of}
use Rattle.law_time.specs.Interviews.{listens}
use Rattle.law_time.specs.Sessions.{is_final, is_open}
use Rattle.law_time.specs.Stretches.{are_plain_listeners, commands_in, waited}
use Rattle.proof_rests.specs.proof_attempts.proof_host.device_sim.State.{State}
use Rattle.proof_rests.specs.proof_requests.host_model.State.{node_of}
use Rattle.proof_ready.specs.Ease.{clock_of}
use Rattle.proof_ready.specs.Ready.{AreByFit, AreFit, AreSo, IsLongFor, ListPlainly, Listeners, Locked_one, One_alone, Open_one, Plain_ones, Sleeper}
use Rattle.proof_in_time.proofs.Spoken.{whole_parts}
use Rattle.proof_ready.specs.Stretch.{at_work, first_of, moment, told_before, told_in}
use Rattle.law_time.specs.Calm.{is_series_to_come}
use Rattle.proof_ready.proofs.Reading.{plain_listener, still_host, woken_so}
use Rattle.proof_ready.proofs.Waiting.{comes_or_closed, few_work, works}
use Rattle.proof_ready.proofs.Working.{woken_last}
use Rattle.proof_ready.proofs.stuck.still_stretches_end_in_time.Goals as goal

by_hearing : (A : Type 0) (b : Bool) → (b ≡ true → A) → (b ≡ false → A) → A
by_hearing A true hears sleeps = hears refl
by_hearing A false hears sleeps = sleeps refl

pub returns : goal.returns
returns c = λ key keys devices before lines n command is well joined has long.
    let past = told_before keys devices before in
    let told = told_in keys devices before lines in
    let now : List State = (moment keys devices before).outside.devices in
    let these = at_work keys devices before lines in
    let began = whole_parts (first_of keys devices) before lines is.done is.whole in
    let within : (k : ℕ) → is_joined past k ≡ true → k ≤ 232 = λ k there. (c.joined_nodes_are_there.ensures keys devices before began.0 began.1 k there).to in
    let marked = works past told n command (within n joined) joined has in
    let there = c.joined_nodes_are_there.ensures keys devices before began.0 began.1 n joined in
    let from : 1 ≤ n = let two = there.from in omega (arith, two) in
    let as_told = c.calm_hosts_are_done.ensures.told keys devices before began.0 began.1 n from there.to in
    let known = c.workers_are_known.ensures keys devices before began.0 began.1 key told is.stretch.quiet is.are_fit in
    let few = few_work key now past told is.stretch.quiet in
    let waits : listens n past ≡ true → Has (waiting n past) command → (is_open n past ≡ false) ⊎ ((node_of (moment keys devices before).host.state n).again_wait ≢ 0) = λ hears comes.
    or_waits ((node_of (moment keys devices before).host.state n).again_wait ≢ 0) (is_open n past ≡ false) (is_series_to_come past (clock_of past) n ≡ true)
    (c.series_to_come_are_waited_for.ensures keys devices before began.0 began.1 n joined) (comes_or_closed past (clock_of past) n command well joined hears comes) in
    let plainly : ListPlainly these devices → (listens n past ≡ true → (500 ≤ waited told) ⊎ (101 + 24 * suc (length (commands_in past told n)) ≤ waited_for n told))
    → (listens n past ≡ false → (500 ≤ waited told) ⊎ (101 + 30 * suc (length (commands_in past told n)) ≤ waited_for n told))
    → is_final (outcome command (transcript_of (first_of keys devices) (before ++ lines))) ≡ true = λ plain hearing sleeping.
    let begins = c.still_stretches_begin.ensures.whole key keys devices before lines is plain in
    by_hearing _ (listens n past)
    (λ hears. c.stretches_end_in_time.ensures.listening these n command keys devices before lines begins marked few (as_told.listens_so ∙ hears) (waits hears) has (hearing hears))
    (λ sleeps.
    c.stretches_end_in_time.ensures.sleeping these n command keys devices before lines begins marked few
    (c.sleepers_are_asleep.ensures keys devices before began.0 began.1 (always (listing_of now)) (still_host (always (listing_of now)) now past is.still) n joined (known.1 n marked) sleeps)
    (woken_last past told (woken_so key now past told is.stretch.quiet is.are_fit within) n command joined has sleeps) has (sleeping sleeps)) in
    let alone : AreSo these devices past → 101 + 30 * suc (length (commands_in past told n)) ≤ waited_for n told
    → is_final (outcome command (transcript_of (first_of keys devices) (before ++ lines))) ≡ true = λ so own.
    elim so [
      | Plain_ones plain ↦ plainly plain (λ hears. inr (omega (arith, own))) (λ sleeps. inr own)
      | Open_one one layered unsealed ↦
          let same : n ≡ one.node = one.alone.only n marked in
          c.stretches_end_in_time.ensures.openly these n command keys devices before lines (c.still_stretches_begin.ensures.openly key keys devices before lines is one layered unsealed) marked
          (waits (subst (λ (k : ℕ). listens k past ≡ true) (sym same) one.hears)) has own
      | Locked_one one sealed ↦
          let same : n ≡ one.node = one.alone.only n marked in
          c.stretches_end_in_time.ensures.sealed these n command keys devices before lines (c.still_stretches_begin.ensures.sealed key keys devices before lines is one sealed) marked
          (waits (subst (λ (k : ℕ). listens k past ≡ true) (sym same) one.hears)) has own
    ] in
    by_fit these devices now past told n _ (λ listeners. (plain_listener key now past told is.stretch.quiet is.are_fit within listeners n marked).0) plainly alone is.are_fit known.2 long
  where
    or_waits : (Waits Closed Comes : Type 0) → (Comes → Waits) → Closed ⊎ Comes → Closed ⊎ Waits
    or_waits Waits Closed Comes waits (inl closed) = inl closed
    or_waits Waits Closed Comes waits (inr comes) = inr (waits comes)

    less : (a b c : ℕ) → (500 ≤ a) ⊎ (101 + 30 * b ≤ c) → (500 ≤ a) ⊎ (101 + 24 * b ≤ c)
    less a b c (inl all) = inl all
    less a b c (inr own) = inr (omega (arith, own))

    by_fit : (these : List Bool) (devices now : List State) (past told : List Entry) (n : ℕ) (Is : Type 0) → (are_plain_listeners now past told ≡ true → listens n past ≡ true)
        → (ListPlainly these devices → (listens n past ≡ true → (500 ≤ waited told) ⊎ (101 + 24 * suc (length (commands_in past told n)) ≤ waited_for n told))
        → (listens n past ≡ false → (500 ≤ waited told) ⊎ (101 + 30 * suc (length (commands_in past told n)) ≤ waited_for n told)) → Is)
        → (AreSo these devices past → 101 + 30 * suc (length (commands_in past told n)) ≤ waited_for n told → Is)
        → (fit : AreFit now past told) → AreByFit these devices now past told fit → IsLongFor now past told fit n → Is
    by_fit these devices now past told n Is hear plainly alone (Listeners listeners) so long =
        plainly so (λ hears. long) (λ sleeps. absurd (false≢true (sym sleeps ∙ hear listeners)))
    by_fit these devices now past told n Is hear plainly alone (Sleeper sleeper) so long =
        plainly so (λ hears. less (waited told) (suc (length (commands_in past told n))) (waited_for n told) long) (λ sleeps. long)
    by_fit these devices now past told n Is hear plainly alone (One_alone one) so long = alone so long
