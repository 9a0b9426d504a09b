-- The tie of the host's request, few frames, and a machine that is ready for the nodes at work, together.
use Rattle.std.proofs.Common.{◌≡◌, ◌≤◌, ◌∙◌, ℕ, Bool, true, false, Option, List, ap, sym, subst, arith}
use Rattle.std.specs.List.{AllByRecursion}
use Rattle.s0_crypto.specs.declared.key_pair.Keys.{Keys}
use Rattle.zw_text.specs.declared.entry.Entry.{Entry}
use Rattle.air_frames.specs.Flown.{Flown}
use Rattle.air_frames.specs.declared.frame.Heading.TheVariants.{Outward}
use Rattle.chip_sim.specs.Nodes.{is_marked}
use Rattle.host_node.specs.Facts.{NodeFacts, SeriesFacts}
use Rattle.host_node.specs.State.{NodeState}
use Rattle.host_node.specs.declared.series.Series.{Series}
use Rattle.host_node.specs.declared.series.Series.TheVariants.{Idle}
use Rattle.law_wire.specs.law_transcript.Lists.{Has}
use Rattle.law_wire.specs.law_transcript.Nodes.{always, is_joined, listing_of}
use Rattle.law_time.specs.Calm.{IsStill}
use Rattle.law_time.specs.Stretches.{is_quiet, lists_a_layer, lists_security, workers}
use Rattle.proof_rests.specs.proof_attempts.proof_host.device_sim.State.{State}
use Rattle.proof_rests.specs.proof_attempts.proof_messages.Reporting.{TellsPlainly}
use Rattle.proof_rests.specs.proof_attempts.world_model.State.{Machine}
use Rattle.proof_rests.specs.proof_requests.host_model.State.{node_of}
use Rattle.proof_rests.specs.proof_requests.host_model.Taking.{is_secure}
use Rattle.proof_rests.specs.world_lines.Spoken.{Spoken}
use Rattle.proof_rests.specs.world_lines.Done.{AreDone}
use Rattle.proof_rests.specs.world_lines.Whole.{AreWhole}
use Rattle.proof_chip.specs.proof_line.proof_traffic.OutsideTraffic.{AreNodes}
use Rattle.proof_in_time.specs.proof_answered.Few.{AreFew}
use Rattle.proof_in_time.specs.proof_answered.Listening.{HasListener}
use Rattle.proof_in_time.specs.proof_answered.Outward.{AllListen, IsFor, IsOf, IsOfSaying}
use Rattle.proof_in_time.specs.proof_answered.Workers.{IsFrom, IsFromSaying, OnlySpeak}
use Rattle.proof_in_time.specs.proof_answered.proof_calm.Tied.{IsTied}
use Rattle.proof_in_time.specs.Coming.{IsReadyFor}
use Rattle.proof_in_time.specs.Exchange.{NoneFly, NoneTold}
use Rattle.proof_in_time.specs.Locked.{IsReadyLocked, Still as Rests}
use Rattle.proof_in_time.specs.Open.{IsReadyOpenly, Still}
use Rattle.proof_in_time.specs.Plainly.{SpeakPlainly}
use Rattle.proof_in_time.specs.Trail.{IsHeardPlainly}
use Rattle.proof_ready.specs.Ease.{AreToReach, ChipRests, NodeIsAsTold, clock_of}
use Rattle.proof_ready.specs.Ready.{AreFit, AreKnown, AreUp, AreWorkers, ListPlainly, MachineIsReady, OneHears, marks_of}
use Rattle.proof_ready.specs.Stretch.{first_of, moment, told_before}
use Rattle.proof_ready.proofs.Listening.{cutter_at, known_list, lists_openly, lists_sealed, lists_segments, lists_unsealed, waits_for}
use Rattle.proof_ready.proofs.OneOpen.{device_known}
use Rattle.proof_ready.proofs.Reading.{moves, opened_are}
use Rattle.proof_ready.proofs.Working.{numbers_are, open_known}
use Rattle.proof_in_time.proofs.JudgedOutcomes.{same_listing}
use Rattle.proof_ready.proofs.stretch.stretches_may_begin.Goals as goal

no_segments : (x : NodeState) → NodeFacts x → x.series ≡ Idle → x.segments ≡ 0
no_segments x facts idle = (subst (λ (series : Series). SeriesFacts series x.book x.attempt_wait x.again_wait x.next_segment x.segments x.text x.pending) idle facts.series).1.no_segments

module _ (c : goal.After-workers_are_known) (keys : Keys) (devices : List State) (lines : List Spoken) (are : AreDone (first_of keys devices) lines) (whole : AreWhole (first_of keys devices) lines)
    (nodes : AreNodes devices) (up : AreUp devices)
    (still : IsStill (always (listing_of (moment keys devices lines).outside.devices)) (moment keys devices lines).outside.devices (told_before keys devices lines) (clock_of (told_before keys devices lines)))
    (key : List ℕ) (stretch : List Entry) (quiet : is_quiet key (moment keys devices lines).outside.devices (told_before keys devices lines) stretch ≡ true)
    (fit : AreFit (moment keys devices lines).outside.devices (told_before keys devices lines) stretch)
    (reach : AreToReach (marks_of (workers (told_before keys devices lines) stretch)) devices (told_before keys devices lines)) where
  abbrev these : List Bool
  these = marks_of (workers (told_before keys devices lines) stretch)

  abbrev m : Machine
  m = moment keys devices lines

  is : MachineIsReady these m
  is = c.still_machines_are_ready.ensures keys devices lines are whole up still key stretch quiet fit

  known : AreKnown these devices (told_before keys devices lines)
  known = (c.workers_are_known.ensures keys devices lines are whole key stretch quiet fit).1

  working : AreWorkers these (told_before keys devices lines)
  working = (c.workers_are_known.ensures keys devices lines are whole key stretch quiet fit).0

  chip : ChipRests m.outside.outer
  chip = c.calm_chips_rest.ensures.rests keys devices lines are whole (moves (told_before keys devices lines) still.judged) still.settled still.chip still.called

  tied : IsTied these m
  tied =
      c.calm_requests_are_tied.ensures keys devices lines are whole nodes still.host still.marks (moves (told_before keys devices lines) still.judged) still.air still.idle chip
      (c.hosts_know_their_members.ensures keys devices lines are whole) these reach

  few : AreFew 0 3 m
  few = c.calm_machines_have_few_frames.ensures keys devices lines are whole still.air still.working

  speak : OnlySpeak these m
  speak = record {
    frames = subst (AllByRecursion (IsOf these)) (sym is.none_flies) tt;
    devices = is.away;
    pending = subst (AllByRecursion (IsFrom these)) (sym is.none_unheard) tt;
  }

  plainly : SpeakPlainly these m
  plainly = record {
    frames = subst (AllByRecursion (IsOfSaying these TellsPlainly)) (sym is.none_flies) tt;
    pending = subst (AllByRecursion (IsFromSaying these TellsPlainly)) (sym is.none_unheard) tt;
  }

  told : (n : ℕ) → is_marked these n ≡ true → NodeIsAsTold (told_before keys devices lines) m.host.state n
  told n marked =
      let place = c.joined_nodes_are_there.ensures keys devices lines are whole n (working.joined n marked) in
      let two = place.from in
      c.calm_hosts_are_done.ensures.told keys devices lines are whole n (omega (arith, two)) place.to

  begins : ListPlainly these devices → IsReadyFor these m × SpeakPlainly these m
  begins plain = (
    record {
      tied = tied;
      few = few;
      knows = is.host.knows;
      speak = speak;
      waiting = record {
        waits = λ n marked.
            waits_for true devices (told_before keys devices lines) m n 6 (known n marked) (c.hosts_know_what_devices_list.ensures keys devices lines are whole n) (lists_openly these devices plain n marked)
            (is.idle n marked);
        whole = (c.orders_go_unsealed.ensures.whole these keys devices lines (lists_openly these devices plain) are).0;
        joined = is.joined;
        hears = is.hears;
      };
      first = is.host.first;
    },
    plainly,
  )

  module _ (one : OneHears these (told_before keys devices lines)) where
    listen : AllListen these m
    listen =
        let device = device_known devices (told_before keys devices lines) one.node true one.hears (known one.node one.alone.marked).device in
        record {
          frames = subst (AllByRecursion (IsFor these)) (sym is.none_flies) tt;
          nodes = λ n marked.
              subst (λ (k : ℕ). HasListener k m.outside.devices) (sym (one.alone.only n marked))
              (c.listeners_are_there.ensures keys devices lines are whole up one.node device.0 device.1.0 device.1.1);
        }

    served : (node_of m.host.state one.node).listens ≡ true
    served = (told one.node one.alone.marked).listens_so ∙ one.hears

    begins_openly : lists_a_layer devices one.node ≡ true → lists_security devices one.node ≡ false → IsReadyOpenly these m
    begins_openly layered unsealed =
        let all = lists_unsealed these devices one.node one.alone unsealed in
        record {
          tied = tied;
          few = few;
          knows = is.host.knows;
          speak = speak;
          openly = record {
            n = one.node;
            alone = one.alone;
            at = Still
                (waits_for false devices (told_before keys devices lines) m one.node 23 (known one.node one.alone.marked) (c.hosts_know_what_devices_list.ensures keys devices lines are whole one.node)
                (all one.node one.alone.marked) (is.idle one.node one.alone.marked))
                (record {
                  no_task = is.host.no_task;
                  speak = plainly;
                  flying = subst (AllByRecursion (λ (frame : Flown). frame.heading ≡ Outward → IsHeardPlainly one.node m frame.payload)) (sym is.none_flies) tt;
                  given = λ asking. absurd asking;
                  taken = λ some. absurd (let none = no_segments (node_of m.host.state one.node) (tied.peopled.facts.nodes.facts one.node) (is.idle one.node one.alone.marked) in omega (arith, some, none));
                });
            go = (c.orders_go_unsealed.ensures.openly these keys devices lines all are).0;
            joined = is.joined;
            listen = listen;
            cuts = cutter_at one.node devices m.outside.devices (c.devices_are_the_same.ensures keys devices lines are whole) (lists_segments (listing_of devices one.node) layered unsealed);
            served = served;
          };
          first = is.host.first;
        }

    begins_sealed : lists_security devices one.node ≡ true → IsReadyLocked these m
    begins_sealed sealed =
        let within : (n : ℕ) → is_joined (told_before keys devices lines) n ≡ true → n ≤ 232 = λ n joined. (c.joined_nodes_are_there.ensures keys devices lines are whole n joined).to in
        let same = c.devices_are_the_same.ensures keys devices lines are whole in
        let near = within one.node (working.joined one.node one.alone.marked) in
        let opened = opened_are key m.outside.devices (told_before keys devices lines) stretch quiet fit within one.node one.alone.marked in
        record {
          tied = tied;
          few = few;
          knows = is.host.knows;
          speak = speak;
          locked = record {
            n = one.node;
            alone = one.alone;
            at = Rests (omega arith)
                (record {
                  rests = λ runs. let bad = sym (is.idle one.node one.alone.marked) ∙ runs in cc;
                  no_task = is.host.no_task;
                  none = record { flies = subst (NoneFly one.node) (sym is.none_flies) tt; told = subst (NoneTold one.node) (sym is.none_unheard) tt };
                  silent = tt;
                });
            go = c.commands_go_sealed.ensures these one.node keys devices lines one.alone.marked (omega (arith, near)) are (lists_sealed devices one.node sealed)
                (λ number has opens.
                open_known devices m.outside.devices (told_before keys devices lines) one.node number (same_listing one.node devices m.outside.devices same) opened
                (subst (λ (l : List ℕ). Has l number) (numbers_are one.node (told_before keys devices lines)) has) opens);
            secure = ap (λ (o : Option (List ℕ)). is_secure o)
                (c.hosts_know_what_devices_list.ensures keys devices lines are whole one.node ∙ known_list devices (told_before keys devices lines) one.node (known one.node one.alone.marked))
                ∙ lists_sealed devices one.node sealed;
            joined = is.joined;
            listen = listen;
            served = served;
          };
          first = is.host.first;
        }

pub returns-clause-whole : goal.returns-clause-whole
returns-clause-whole c = λ keys devices lines are whole nodes up still key stretch quiet fit reach plain.
    begins c keys devices lines are whole nodes up still key stretch quiet fit reach plain

pub returns-clause-openly : goal.returns-clause-openly
returns-clause-openly c = λ keys devices lines are whole nodes up still key stretch quiet fit reach one layered unsealed.
    begins_openly c keys devices lines are whole nodes up still key stretch quiet fit reach one layered unsealed

pub returns-clause-sealed : goal.returns-clause-sealed
returns-clause-sealed c = λ keys devices lines are whole nodes up still key stretch quiet fit reach one sealed.
    begins_sealed c keys devices lines are whole nodes up still key stretch quiet fit reach one sealed
