-- A command of a node at work was let in for a node that lists Supervision, as its device does; the rest is of the law's own words.
use Rattle.std.proofs.Common.{◌≡◌, ℕ, ◌≤◌, inl, inr, true, false, List, [], ◌∷◌, ◌++◌, sym, subst, arith}
use Rattle.s0_crypto.specs.declared.key_pair.Keys.{Keys}
use Rattle.zw_text.specs.declared.entry.Entry.{Entry}
use Rattle.zw_text.specs.Transcript.{shown}
use Rattle.chip_sim.specs.Nodes.{is_marked}
use Rattle.host_orders.specs.Classes.{lists}
use Rattle.law_wire.specs.law_transcript.Commands.{waiting}
use Rattle.law_wire.specs.law_transcript.Lists.{EachAfter}
use Rattle.law_wire.specs.law_transcript.Nodes.{is_joined, listing_of}
use Rattle.law_wire.proofs.Having.{has_either}
use Rattle.law_time.specs.Stretches.{accepted_for, lists_security}
use Rattle.proof_rests.specs.proof_attempts.proof_host.device_sim.State.{State}
use Rattle.proof_rests.specs.world_lines.Spoken.{Spoken}
use Rattle.proof_rests.specs.world_lines.Done.{events_of}
use Rattle.proof_in_time.specs.InStep.{IsOpenByKind}
use Rattle.proof_in_time.specs.LockNodes.{IsLockNode}
use Rattle.proof_in_time.specs.Openly.{IsOpenOver}
use Rattle.proof_in_time.proofs.Over.{each-right}
use Rattle.proof_in_time.proofs.Spoken.{told_both, whole_parts}
use Rattle.proof_ready.specs.LetIn.{MayBeLetIn}
use Rattle.proof_ready.specs.Ready.{AreKnown, marks_of}
use Rattle.proof_ready.specs.Stretch.{IsStretchByText, at_work, first_of, moment, told_before, told_in}
use Rattle.proof_ready.proofs.Listening.{known_list, lock_by_kind, open_by_kind, plain_by_kind}
use Rattle.proof_in_time.proofs.JudgedOutcomes.{same_listing}
use Rattle.proof_ready.proofs.ByKind.{alone_marked, marked_alone}
use Rattle.proof_ready.proofs.OneOpen.{no_security}
use Rattle.proof_ready.proofs.Reading.{command_of, opened_are}
use Rattle.proof_ready.proofs.Working.{accepted_lists, waiting_lists}
use Rattle.proof_ready.proofs.stretch.workers_are_plain.Goals as goal

module _ (c : goal.After-workers_are_known) (key : List ℕ) (keys : Keys) (devices : List State) (before lines : List Spoken) (is : IsStretchByText key keys devices before lines) where
  within : (n : ℕ) → is_joined (told_before keys devices before) n ≡ true → n ≤ 232
  within n joined =
      let parts = whole_parts (first_of keys devices) before lines is.done is.whole in
      (c.joined_nodes_are_there.ensures keys devices before parts.0 parts.1 n joined).to

  supervised : (n : ℕ) → is_marked (at_work keys devices before lines) n ≡ true → lists (listing_of devices n) 0x6C ≡ true
  supervised n marked =
      let past : List Entry = told_before keys devices before in
      let told : List Entry = told_in keys devices before lines in
      let now : List State = (moment keys devices before).outside.devices in
      let parts = whole_parts (first_of keys devices) before lines is.done is.whole in
      let same = c.devices_are_the_same.ensures keys devices before parts.0 parts.1 in
      let known = (c.workers_are_known.ensures keys devices before parts.0 parts.1 key told is.stretch.quiet is.are_fit).1 n marked in
      let first = c.orders_are_let_in.ensures keys devices before parts.0 in
      let each : EachAfter (MayBeLetIn (listing_of devices)) past told =
      each-right (MayBeLetIn (listing_of devices)) [] past told
      (subst (λ (T : List Entry). EachAfter (MayBeLetIn (listing_of devices)) [] T) (told_both (first_of keys devices) before lines)
      (c.orders_are_let_in.ensures keys devices (before ++ lines) is.done).0) in
      let one = command_of key now past told is.stretch.quiet is.are_fit within n marked in
      elim (has_either (waiting n past) (shown (accepted_for n) told) one.0 one.1) [
        | inl waits ↦
            waiting_lists devices now past n one.0 (same_listing n devices now same) first.0 (first.1 n) (opened_are key now past told is.stretch.quiet is.are_fit within n marked) waits
        | inr later ↦ accepted_lists (listing_of devices) n one.0 past told (known_list devices past n known) each later
      ]

  known_of : AreKnown (at_work keys devices before lines) devices (told_before keys devices before)
  known_of =
      let parts = whole_parts (first_of keys devices) before lines is.done is.whole in
      (c.workers_are_known.ensures keys devices before parts.0 parts.1 key (told_in keys devices before lines) is.stretch.quiet is.are_fit).1

  by_kind : (n : ℕ) → is_marked (at_work keys devices before lines) n ≡ true → lists_security devices n ≡ false → IsOpenByKind devices n
  by_kind n marked unsealed = open_by_kind devices (told_before keys devices before) n (known_of n marked) (supervised n marked) unsealed

  lock : (n : ℕ) → is_marked (at_work keys devices before lines) n ≡ true → lists_security devices n ≡ true → IsLockNode keys devices n
  lock n marked sealed =
      let has = lock_by_kind devices (told_before keys devices before) n (known_of n marked) (supervised n marked) sealed in
      subst (λ (k : Keys). IsLockNode k devices n) (sym is.keys_are) (c.locks_as_made_begin_courses.ensures key devices n has.0 is.made has.1.0 has.1.1)

  -- one that is marked alone may take what is not sealed
  open_alone : (n : ℕ) → is_marked (at_work keys devices before lines) n ≡ true → lists_security devices n ≡ false → IsOpenOver devices (events_of (before ++ lines)) n
  open_alone n marked unsealed =
      let parts = whole_parts (first_of keys devices) before lines is.done is.whole in
      let joined = (c.workers_are_known.ensures keys devices before parts.0 parts.1 key (told_in keys devices before lines) is.stretch.quiet is.are_fit).0.joined n marked in
      let near = within n joined in
      c.nodes_are_plain_by_kind.ensures.openly (marks_of (n ∷ [])) key keys devices (before ++ lines) is.made (λ k other. subst (IsOpenByKind devices) (sym (marked_alone n k other)) (by_kind n marked unsealed)) is.done n
      (omega (arith, near)) (alone_marked n near)

pub returns-clause-openly : goal.returns-clause-openly
returns-clause-openly c = λ key keys devices before lines is n marked unsealed. open_alone c key keys devices before lines is n marked unsealed

pub returns-clause-sealed : goal.returns-clause-sealed
returns-clause-sealed c = λ key keys devices before lines is n marked sealed. lock c key keys devices before lines is n marked sealed

pub returns-clause-whole : goal.returns-clause-whole
returns-clause-whole c = λ key keys devices before lines is plain.
    c.nodes_are_plain_by_kind.ensures.plain (at_work keys devices before lines) key keys devices (before ++ lines) is.made
    (λ n marked. plain_by_kind devices n (by_kind c key keys devices before lines is n marked (no_security (listing_of devices n) (plain n marked))) (plain n marked)) is.done
