-- The moment is ready, and the host serves the nodes at work.
use Rattle.std.proofs.Common.{◌≡◌, ℕ, ◌≤◌, List, true, false, sym, subst}
use Rattle.s0_crypto.specs.declared.key_pair.Keys.{Keys}
use Rattle.law_wire.specs.law_transcript.Nodes.{is_joined}
use Rattle.law_time.specs.Stretches.{lists_security}
use Rattle.proof_rests.specs.proof_attempts.proof_host.device_sim.State.{State}
use Rattle.proof_rests.specs.world_lines.Spoken.{Spoken}
use Rattle.proof_ready.specs.Ease.{AreToReach}
use Rattle.proof_in_time.specs.Coming.{IsKeptFor}
use Rattle.proof_in_time.proofs.Spoken.{whole_parts}
use Rattle.proof_ready.specs.Ready.{AreUp, MachineIsReady}
use Rattle.proof_ready.specs.Stretch.{IsStretchByText, at_work, first_of, moment, told_before, told_in}
use Rattle.proof_ready.proofs.Listening.{made_nodes, made_up}
use Rattle.proof_ready.proofs.Reading.{reached_are, reached_before}
use Rattle.proof_ready.proofs.stretch.still_stretches_begin.Goals as goal

module _ (c : goal.After-workers_are_plain) (key : List ℕ) (keys : Keys) (devices : List State) (before lines : List Spoken) (is : IsStretchByText key keys devices before lines) where
  up : AreUp devices
  up = made_up c.listeners_hear.ensures.fresh key devices is.made

  reach : AreToReach (at_work keys devices before lines) devices (told_before keys devices before)
  reach n marked =
      let past = told_before keys devices before in
      let told = told_in keys devices before lines in
      let now : List State = (moment keys devices before).outside.devices in
      let parts = whole_parts (first_of keys devices) before lines is.done is.whole in
      let same = c.devices_are_the_same.ensures keys devices before parts.0 parts.1 in
      let within : (k : ℕ) → is_joined past k ≡ true → k ≤ 232 = λ k joined. (c.joined_nodes_are_there.ensures keys devices before parts.0 parts.1 k joined).to in
      let workers = (c.workers_are_known.ensures keys devices before parts.0 parts.1 key told is.stretch.quiet is.are_fit).0 in
      (workers.joined n marked, reached_before past devices now same n (reached_are key now past told is.stretch.quiet is.are_fit within is.stretch.reached n marked))

  ready : MachineIsReady (at_work keys devices before lines) (moment keys devices before)
  ready =
      let parts = whole_parts (first_of keys devices) before lines is.done is.whole in
      c.still_machines_are_ready.ensures keys devices before parts.0 parts.1 up is.still key (told_in keys devices before lines) is.stretch.quiet is.are_fit

  kept : IsKeptFor (at_work keys devices before lines) (told_in keys devices before lines)
  kept = record { worked = c.stretches_are_for_their_workers.ensures key keys devices before lines is; kept = is.stretch.kept }

pub returns-clause-whole : goal.returns-clause-whole
returns-clause-whole c = λ key keys devices before lines is plain.
    let parts = whole_parts (first_of keys devices) before lines is.done is.whole in
    let machine = ready c key keys devices before lines is in
    let begins =
    c.stretches_may_begin.ensures.whole keys devices before parts.0 parts.1 (made_nodes key devices is.made) (up c key keys devices before lines is) is.still key (told_in keys devices before lines)
    is.stretch.quiet is.are_fit (reach c key keys devices before lines is) plain in
    record {
      many = machine.many;
      none = machine.none;
      plain = c.workers_are_plain.ensures.whole key keys devices before lines is plain;
      done = is.done;
      whole = is.whole;
      kept = kept c key keys devices before lines is;
      ready = begins.0;
      serves = machine.serves;
      speak = begins.1;
    }

pub returns-clause-openly : goal.returns-clause-openly
returns-clause-openly c = λ key keys devices before lines is one layered unsealed.
    let parts = whole_parts (first_of keys devices) before lines is.done is.whole in
    let machine = ready c key keys devices before lines is in
    record {
      many = machine.many;
      none = machine.none;
      over = λ n marked. c.workers_are_plain.ensures.openly key keys devices before lines is n marked (subst (λ (k : ℕ). lists_security devices k ≡ false) (sym (one.alone.only n marked)) unsealed);
      done = is.done;
      whole = is.whole;
      kept = kept c key keys devices before lines is;
      ready = c.stretches_may_begin.ensures.openly keys devices before parts.0 parts.1 (made_nodes key devices is.made) (up c key keys devices before lines is) is.still key
          (told_in keys devices before lines) is.stretch.quiet is.are_fit (reach c key keys devices before lines is) one layered unsealed;
    }

pub returns-clause-sealed : goal.returns-clause-sealed
returns-clause-sealed c = λ key keys devices before lines is one sealed.
    let parts = whole_parts (first_of keys devices) before lines is.done is.whole in
    let machine = ready c key keys devices before lines is in
    record {
      many = machine.many;
      none = machine.none;
      over = λ n marked. c.workers_are_plain.ensures.sealed key keys devices before lines is n marked (subst (λ (k : ℕ). lists_security devices k ≡ true) (sym (one.alone.only n marked)) sealed);
      done = is.done;
      whole = is.whole;
      kept = kept c key keys devices before lines is;
      ready = c.stretches_may_begin.ensures.sealed keys devices before parts.0 parts.1 (made_nodes key devices is.made) (up c key keys devices before lines is) is.still key
          (told_in keys devices before lines) is.stretch.quiet is.are_fit (reach c key keys devices before lines is) one sealed;
    }
