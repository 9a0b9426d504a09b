-- Where the nodes of a stretch are one that sleeps, what is asked for is so at each phase, and a frame of the host that arrives is a message of its last session, or tells it that
-- there is no more.
use Rattle.std.proofs.Common.{◌≡◌, ℕ, Bool, true, List, [], length, Option, Some, refl, sym, ap, ◌∙◌, subst}
use Rattle.std.specs.Prelude.{option_map}
use Rattle.std.specs.List.{AllByRecursion}
use Rattle.zw_text.specs.declared.entry.Entry.{Entry}
use Rattle.supervision.specs.Host.{begun_of}
use Rattle.air_frames.specs.Flown.{Flown}
use Rattle.host_requests.specs.declared.task.Purpose.{Purpose}
use Rattle.host_requests.specs.declared.task.Purpose.TheVariants.{Attempt, Housekeeping}
use Rattle.host_requests.specs.declared.task.Task.{Task}
use Rattle.host_requests.specs.declared.task.Task.TheVariants.{NoMore}
use Rattle.host_requests.specs.declared.under_way.UnderWay.{UnderWay}
use Rattle.host_node.specs.Search.{next_of}
use Rattle.chip_sim.specs.Nodes.{is_marked}
use Rattle.host_model.specs.State.{HostState, node_of}
use Rattle.world_model.specs.Events.{entries}
use Rattle.world_model.specs.State.{Machine}
use Rattle.proof_answered.specs.proof_calm.proof_work.proof_walk.Phases.{Phase}
use Rattle.proof_answered.proofs.proof_traffic_Parts.{Airs}
use Rattle.proof_answered.proofs.Outwards.{awaits_of}
use Rattle.proof_answered.specs.Sleepers.{AllHear, All_listen, Back_asleep, Before, HasSleeper, IsAlone, IsTelling, Is_queued, Is_sent, NoMoreAt, Not_asked, One_sleeps, SleeperAt, Up, Was_told, Woken}
use Rattle.proof_answered.specs.Workers.{KnowsWorkers}
use Rattle.proof_in_time.specs.Asked.{AreAskedSo, IsAskedNow, IsMessageOf, IsPlainPurpose, IsPlainTask, Sends}
use Rattle.proof_in_time.specs.Coming.{IsMessage}
use Rattle.proof_in_time.specs.InHand.{SleepsAlone}
use Rattle.proof_in_time.proofs.AskedSo.{asked_on, asked_said, asked_turn, says_so}
use Rattle.proof_in_time.proofs.Keeping.{kept_before}
use Rattle.proof_in_time.proofs.Lively.{A_message, KindsStay, No_more, SaysTo}
use Rattle.proof_in_time.proofs.Rising.{not_both}
use Rattle.proof_in_time.proofs.Until.{Asking}

-- these are one node alone, which sleeps, and so it is of what the host asks to send
abbrev pub AsksAlone : List Bool → Phase → Machine → Type 0
AsksAlone these here m = SleepsAlone these m × AreAskedSo these here m

-- ---- the tasks of the host

module _ (these : List Bool) where
  no_tasks : (queue : List Task) → queue ≡ [] → AllByRecursion (IsPlainTask these) queue
  no_tasks queue none = subst (AllByRecursion (IsPlainTask these)) (sym none) tt

  asked_tasks : (n : ℕ) (h : HostState) → IsAlone these n → NoMoreAt n h → AllByRecursion (IsPlainTask these) h.requests.queue
  asked_tasks n h alone (Not_asked none not) = no_tasks h.requests.queue none
  asked_tasks n h alone (Is_queued are not queued) = subst (AllByRecursion (IsPlainTask these)) (sym are) (alone.marked, tt)
  asked_tasks n h alone (Is_sent none telling queued) = no_tasks h.requests.queue none

  sleeper_tasks : (n : ℕ) (here : Phase) (past : List Entry) (m : Machine) → IsAlone these n → (sleeper : HasSleeper n m.outside.devices) → SleeperAt n sleeper.device here past m → AllByRecursion (IsPlainTask these) m.host.state.requests.queue
  sleeper_tasks n here past m alone sleeper (Before is down none quiet) = no_tasks m.host.state.requests.queue down.no_task
  sleeper_tasks n here past m alone sleeper (Woken after down none one awake) = no_tasks m.host.state.requests.queue down.no_task
  sleeper_tasks n here past m alone sleeper (Up after up quiet awake) = asked_tasks n m.host.state alone up.no_more
  sleeper_tasks n here past m alone sleeper (Was_told after up telling idle none quiet) = asked_tasks n m.host.state alone up.no_more
  sleeper_tasks n here past m alone sleeper (Back_asleep after down left none quiet) = no_tasks m.host.state.requests.queue down.no_task

  plain_tasks : (here : Phase) (past : List Entry) (m : Machine) → SleepsAlone these m → AllHear these here past m → AllByRecursion (IsPlainTask these) m.host.state.requests.queue
  plain_tasks here past m (n, (alone, sleeper)) (All_listen all) = absurd (not_both n m.outside.devices (all.nodes n alone.marked) sleeper)
  plain_tasks here past m is (One_sleeps n alone frames sleeper at) = sleeper_tasks n here past m alone sleeper at

  -- ---- what a frame says

  tells_end : (n k : ℕ) (h : HostState) (request : UnderWay) → h.requests.under_way ≡ Some request → request.purpose ≡ Housekeeping (NoMore k) → k ≡ n → IsTelling n h
  tells_end n k h request under_way purpose same =
      ap (λ (u : Option UnderWay). option_map (λ (r : UnderWay). r.purpose) u) under_way ∙ ap Some (purpose ∙ ap (λ (j : ℕ). Housekeeping (NoMore j)) same)

  message_of_node : (n k : ℕ) (m : Machine) (text payload : List ℕ) → k ≡ n → payload ≡ text → IsMessageOf m.host.state k text → SaysTo n m payload
  message_of_node n k m text payload same payload_is is =
      subst (λ (j : ℕ). SaysTo j m payload) same
      (A_message is.begun (subst (IsMessage (begun_of (node_of m.host.state k).book)) (sym payload_is) is.message))

  says_to : (n : ℕ) (m : Machine) (frame : Flown) → IsAlone these n → IsAskedNow these m.host.state frame → SaysTo n m frame.payload
  says_to n m frame alone asked = by asked.request.purpose refl asked.plain asked.sends
    where
      task : (t : Task) → asked.request.purpose ≡ Housekeeping t → IsPlainPurpose these m.host.state (Housekeeping t) → Sends (Housekeeping t) frame.node frame.payload → SaysTo n m frame.payload
      task (NoMore k) same marked (node, payload) = No_more (tells_end n k m.host.state asked.request asked.under_way same (alone.only k marked)) payload
      task t same plain sends = absurd plain

      by : (p : Purpose) → asked.request.purpose ≡ p → IsPlainPurpose these m.host.state p → Sends p frame.node frame.payload → SaysTo n m frame.payload
      by (Attempt k more text) same (marked, message) (node, payload) = message_of_node n k m text frame.payload (alone.only k marked) payload message
      by (Housekeeping t) same plain sends = task t same plain sends
      by p same plain sends = absurd plain

-- ---- at each phase

module _ (airs : Airs) (these : List Bool) (many : length these ≡ 233) (stays : KindsStay)
    (workers : (h : HostState) (k : ℕ) → KnowsWorkers these h → next_of h.nodes h.served ≡ Some k → is_marked these k ≡ true) where
  pub asking_alone : Asking these (AsksAlone these)
  asking_alone = record {
    said = λ m line asked. (asked.0, asked_said these line m asked.1);
    on = λ here next past m event goes may up is known later asked.
        let before = kept_before these past (entries m event) is in
        let tied = ((known before).0.0.0 before.worked.stretched).0.tied before.worked.stretched.quiet in
        let next_tied = ((later is).0.0.0 is.worked.stretched).0.tied is.worked.stretched.quiet in (
          (asked.0.0, (asked.0.1.0, stays.sleeper asked.0.0 m event asked.0.1.1)),
          asked_on airs these many here next m event goes may tied.0 tied.1 tied.2 tied.6 tied.7 next_tied.0 next_tied.1 next_tied.6 (plain_tasks these here past m asked.0 (known before).1.hears) (known before).1.whole
              (λ n marked. (up.0 n marked).step.unsealed) (λ k next_is. workers m.host.state k ((known before).0.0.1 before.worked.stretched) next_is) asked.1,
        );
    turn = λ here next past m turns is known later asked. (asked.0, asked_turn these m here next turns (((known is).0.0.0 is.worked.stretched).0.tied is.worked.stretched.quiet).0 asked.1);
    says = λ here past m is known asked n alone frame next out.
        says_to these n m frame alone (says_so airs these many here m (awaits_of here m (((known is).0.0.0 is.worked.stretched).0.tied is.worked.stretched.quiet).1) asked.1 frame next out);
  }
