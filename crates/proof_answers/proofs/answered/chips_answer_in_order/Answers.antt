-- What the chip has for its host is known where the events end, by the same steps of its link as what goes on the air; at the end of a whole run between lines.
use Rattle.std.proofs.Common.{List, []}
use Rattle.std.specs.Prelude.{Some}
use Rattle.s0_crypto.specs.declared.key_pair.Keys.{Keys}
use Rattle.zw_text.specs.declared.entry.Entry.{Entry}
use Rattle.law_wire.specs.Arriving.{MayLand}
use Rattle.law_wire.specs.Routes.{MayGo}
use Rattle.outside_model.specs.Devices.{State}
use Rattle.world_model.specs.State.{Machine, first_machine}
use Rattle.world_model.specs.Did.{AllAlong}
use Rattle.world_lines.specs.Spoken.{Spoken, after_all, transcript_of}
use Rattle.world_lines.specs.Done.{AreDone, events_of}
use Rattle.proof_chip.proofs.SpokenLines.{all_lines, all_may, lines_of}
use Rattle.proof_devices.specs.proof_air.proof_walk.Phases.{Phase, Between}
use Rattle.proof_devices.specs.proof_air.proof_walk.Time.{KnowTime, MayCount}
use Rattle.proof_devices.specs.proof_air.proof_walk.Walk.{Walk, WalkOver, WalkWhere, both_know}
use Rattle.proof_devices.proofs.Over.{beside, over}
use Rattle.proof_devices.proofs.Where.{where_lead, where_whole}
use Rattle.proof_devices.specs.proof_air.Hearing.{KnowAir as KnowHistory, MayHear}
use Rattle.proof_devices.specs.proof_air.Landing.{KnowLanding}
use Rattle.proof_devices.specs.proof_routes.Knowing.{KnowNetworks}
use Rattle.proof_chip.specs.proof_line.Linked.{IsOrderly}
use Rattle.proof_chip.proofs.LinkSome.{lines_orderly}
use Rattle.proof_chip.proofs.LinkWalk.{ended_known, links_first, nothing_did}
use Rattle.proof_chip.proofs.Parts.{Laws}
use Rattle.proof_chip.specs.Calling.{KnowCalls}
use Rattle.proof_chip.specs.Knowing.{AnyEntry}
use Rattle.proof_chip.specs.Served.{KnowBeside, KnowMembers}
use Rattle.proof_chip.proofs.Airs.{air_first}
use Rattle.proof_chip.proofs.Served.{ground_air}
use Rattle.proof_chip.proofs.Staying.{stays_ended}
use Rattle.proof_chip.proofs.Tallies.{tally_first}
use Rattle.proof_devices.specs.Acks.{KnowAcks}
use Rattle.proof_devices.specs.Answering as lives
use Rattle.proof_devices.specs.Living.{MayAny, KnowDevices}
use Rattle.proof_devices.specs.Meeting.{Ground}
use Rattle.proof_devices.specs.proof_routes.Forgetting.{KnowPassages, MayForget}
use Rattle.proof_answers.specs.Answered.{KnowAnswering, KnowGround}
use Rattle.proof_answers.proofs.Written.{answered_walk, answers_cut, answers_whole, given_of, law_of}
use Rattle.proof_answers.proofs.First.{tells_first}
use Rattle.proof_answers.proofs.answered.chips_answer_in_order.Goals as goal

-- what is called
laws_of : (c : goal.After-lines_keep_and_ask_well) → Laws
laws_of c = record {
  air = record {
    goes = c.frames_fly_in_order.ensures.goes;
    next = c.frames_fly_in_order.ensures.next;
    lands = c.frames_fly_in_order.ensures.lands;
    count = c.frames_fly_in_order.ensures.count;
    begins = c.frames_fly_in_order.ensures.begins;
  };
  keeps = c.requests_keep_facts.ensures.all;
  pump = c.hosts_make_requests.ensures.pump;
  judges = c.hosts_make_requests.ensures.items;
  tick = c.hosts_make_requests.ensures.tick;
  outer = c.outsides_make_requests.ensures.events;
  takes = c.outsides_make_requests.ensures.items;
}

-- one walk over another's ground
module _ (devices : List State) (history : Walk MayHear KnowHistory) (time : Walk MayCount KnowTime) (landing : WalkOver (both_know KnowHistory KnowTime) MayLand KnowLanding)
    (networks : Walk (MayGo devices) (KnowNetworks devices)) (members : Walk AnyEntry KnowMembers) (calls : WalkOver KnowHistory AnyEntry KnowCalls) where
  abbrev First : Phase → List Entry → Machine → Type 0
  First = both_know KnowHistory KnowTime

  abbrev Second : Phase → List Entry → Machine → Type 0
  Second = both_know First KnowLanding

  abbrev Third : Phase → List Entry → Machine → Type 0
  Third = both_know Second (KnowNetworks devices)

  abbrev Fourth : Phase → List Entry → Machine → Type 0
  Fourth = both_know Third KnowMembers

  beside_walk : Walk AnyEntry (KnowBeside devices)
  beside_walk =
      over AnyEntry AnyEntry Fourth KnowCalls
      (over (MayGo devices) AnyEntry Third KnowMembers
      (over MayLand (MayGo devices) Second (KnowNetworks devices)
      (over MayCount MayLand First KnowLanding (over MayHear MayCount KnowHistory KnowTime history (beside MayCount KnowHistory KnowTime time)) landing)
      (beside (MayGo devices) Second (KnowNetworks devices) networks))
      (beside AnyEntry Third KnowMembers members))
      (record {
        said = λ past m words line read ground known. calls.said past m words line read ground.0.0.0.0 known;
        event = λ here next past m event goes may ground known. calls.event here next past m event goes may ground.0.0.0.0 known;
        turn = λ here next past m turns ground known. calls.turn here next past m turns ground.0.0.0.0 known;
      })

-- with the lives of devices, the ways of frames and the marks that lose acknowledgements
module _ (devices : List State) (history : Walk MayHear KnowHistory) (time : Walk MayCount KnowTime) (networks : Walk (MayGo devices) (KnowNetworks devices)) (frames : WalkOver (KnowNetworks devices) MayForget KnowPassages)
    (devices_live : WalkOver (both_know KnowHistory KnowTime) MayAny (KnowDevices devices)) (acks : WalkOver (Ground devices) MayAny KnowAcks) (chip : Walk AnyEntry (KnowBeside devices)) where
  lives_walk : Walk MayAny (lives.Ground devices)
  lives_walk = over MayCount MayAny (both_know KnowHistory KnowTime) (KnowDevices devices) (over MayHear MayCount KnowHistory KnowTime history (beside MayCount KnowHistory KnowTime time)) devices_live

  meeting_walk : Walk MayForget (Ground devices)
  meeting_walk =
      over MayAny MayForget (lives.Ground devices) (both_know (KnowNetworks devices) KnowPassages) lives_walk
      (beside MayForget (lives.Ground devices) (both_know (KnowNetworks devices) KnowPassages) (over (MayGo devices) MayForget (KnowNetworks devices) KnowPassages networks frames))

  abbrev Both : Phase → List Entry → Machine → Type 0
  Both = both_know (KnowBeside devices) (Ground devices)

  ground_walk : Walk MayAny (KnowGround devices)
  ground_walk =
      over MayForget MayAny Both KnowAcks
      (over AnyEntry MayForget (KnowBeside devices) (Ground devices) chip (beside MayForget (KnowBeside devices) (Ground devices) meeting_walk))
      (record {
        said = λ past m words line read ground known. acks.said past m words line read ground.1 known;
        event = λ here next past m event goes may ground known. acks.event here next past m event goes may ground.1 known;
        turn = λ here next past m turns ground known. acks.turn here next past m turns ground.1 known;
      })

-- all of it, over what is called
module _ (c : goal.After-lines_keep_and_ask_well) (devices : List State) where
  all_walk : WalkWhere IsOrderly AnyEntry (KnowAnswering devices)
  all_walk =
      let networks = c.networks_go_on.ensures.walk devices in
      let chip = beside_walk devices c.history_goes_on.ensures.walk c.time_goes_on.ensures.walk c.landings_go_on.ensures.walk networks c.nodes_go_on.ensures.walk c.calls_go_on.ensures.walk in
      let ground =
      ground_walk devices c.history_goes_on.ensures.walk c.time_goes_on.ensures.walk networks (c.frames_go_on.ensures.walk devices) (c.devices_live_on.ensures.walk devices) (c.acks_go_on.ensures.walk devices) chip in
      let obey = c.hosts_obey_the_line.ensures in
      answered_walk devices (laws_of c) c.frames_fly_in_order.ensures.none MayAny ground (law_of devices (ground_air devices (c.networks_go_on.ensures.tie devices) c.calls_go_on.ensures.none))
      (given_of devices (c.networks_go_on.ensures.tie devices) c.devices_are_as_shown.ensures) obey.each obey.units obey.opened

  module _ (keys : Keys) where
    abbrev start : Machine
    start = first_machine keys (Some []) devices

    known_first : KnowAnswering devices Between [] start
    known_first =
        let rules = c.rules_of_histories.ensures.link [] tt in
        let history = c.history_goes_on.ensures.first keys (Some []) devices in
        let time = c.time_goes_on.ensures.first keys (Some []) devices in
        let networks = c.networks_go_on.ensures.first keys [] devices in (
          (
            (
              (
                ((((history, time), c.landings_go_on.ensures.first keys (Some []) devices), networks), c.nodes_go_on.ensures.first keys (Some []) devices),
                c.calls_go_on.ensures.first keys (Some []) devices,
              ),
              (((history, time), c.devices_live_on.ensures.first keys (Some []) devices), (networks, c.frames_go_on.ensures.first keys [] devices)),
            ),
            c.acks_go_on.ensures.first keys (Some []) devices,
          ),
          (
            nothing_did,
            links_first keys (Some []) devices (c.hosts_obey_the_line.ensures.first keys),
            air_first keys (Some []) devices rules,
            tally_first keys (Some []) devices rules,
            tt,
            tells_first keys (Some []) devices rules,
          ),
        )

    orderly : (lines : List Spoken) → AreDone start lines → AllAlong IsOrderly start (events_of lines)
    orderly lines are =
        let events = events_of lines in
        let these = all_lines start lines are in
        let may = all_may start lines are in
        let asks = c.lines_keep_and_ask_well.ensures keys devices (lines_of lines) events these may in
        let writes = c.hosts_write_well.ensures.run keys (Some []) devices events may asks.1 in
        lines_orderly (lines_of lines) start events these writes asks.1

pub returns-clause-cut : goal.returns-clause-cut
returns-clause-cut c = λ keys devices lines are.
    let m : Machine = first_machine keys (Some []) devices in
    let known = where_lead IsOrderly AnyEntry (KnowAnswering devices) (all_walk c devices) [] m lines are (orderly c devices keys lines are) (known_first c devices keys) in
    let (did, cuts, airs, tally, stays, tells) = known.1.1 in
    answers_cut devices did known.0 (transcript_of m lines) (after_all m lines) airs tally tells cuts.0 stays

pub returns-clause-whole : goal.returns-clause-whole
returns-clause-whole c = λ keys devices lines are whole.
    let m : Machine = first_machine keys (Some []) devices in
    let known = where_whole IsOrderly AnyEntry (KnowAnswering devices) (all_walk c devices) [] m lines are whole (orderly c devices keys lines are) (known_first c devices keys) in
    let time = known.0.0.0.0.0.0.0.1 in
    let (did, cuts, airs, tally, stays, tells) = known.1 in
    answers_whole devices did (transcript_of m lines) (after_all m lines) airs tally tells
    (ended_known did (transcript_of m lines) (after_all m lines) time cuts)
    (stays_ended devices did (transcript_of m lines) (after_all m lines) time cuts tally stays)
