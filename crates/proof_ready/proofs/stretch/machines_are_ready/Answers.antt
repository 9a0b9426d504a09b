-- What is known of the host, its nodes and their devices, together.
use Rattle.std.proofs.Common.{◌≡◌, ◌∙◌, ℕ, ◌≤◌, inl, inr, true, false, List, [], refl, ap, sym, subst, arith}
use Rattle.std.proofs.lemmas.Bool.{or_parts}
use Rattle.std.specs.Prelude.{Some}
use Rattle.std.specs.List.{AllByRecursion}
use Rattle.serial_link.specs.declared.turn.Turn.{Turn}
use Rattle.air_frames.specs.Flown.{Flown}
use Rattle.chip_sim.specs.Nodes.{is_marked}
use Rattle.chip_sim.specs.Rules.{WaitsWhileBusy}
use Rattle.host_node.specs.declared.series.Series.TheVariants.{Idle}
use Rattle.law_wire.specs.law_transcript.Nodes.{is_joined}
use Rattle.law_time.specs.Interviews.{listens}
use Rattle.proof_rests.specs.proof_requests.host_model.State.{node_of}
use Rattle.proof_in_time.specs.proof_answered.Listening.{HasListener}
use Rattle.proof_in_time.specs.proof_answered.Outward.{IsFor}
use Rattle.proof_in_time.specs.proof_answered.Sleepers.{HasSleeper, IsDown, IsQuietFlown, IsQuietFrame, NoneWakes, All_listen, Before, Not_yet, One_sleeps}
use Rattle.proof_in_time.specs.proof_answered.proof_calm.Tied.{unheard, unheard_by}
use Rattle.proof_in_time.specs.proof_answered.proof_calm.proof_traffic.OnAir.{on_air}
use Rattle.proof_chip.specs.proof_line.proof_traffic.OutsideTraffic.{outward}
use Rattle.proof_chip.specs.proof_line.world_model.State.{first_machine}
use Rattle.proof_chip.specs.proof_world.world_lines.Spoken.{after_all, transcript_of}
use Rattle.proof_ready.specs.Ease.{NodeIsAsTold}
use Rattle.proof_ready.specs.Ready.{marks_of}
use Rattle.proof_ready.proofs.Marks.{many_marks}
use Rattle.proof_ready.proofs.OneOpen.{device_known}
use Rattle.proof_ready.proofs.Reading.{all_away, moves, still_host}
use Rattle.proof_ready.proofs.Workers.{unmarked}
use Rattle.proof_ready.proofs.stretch.machines_are_ready.Goals as goal

pub returns : goal.returns
returns c = λ keys devices lines are whole up listing still nodes workers known.
    let m = first_machine keys (Some []) devices in
    let past = transcript_of m lines in
    let now = after_all m lines in
    let these = marks_of nodes in
    let quiet = still_host listing now.outside.devices past still in
    let there = c.joined_nodes_are_there.ensures keys devices lines are whole in
    let moving = moves past still.judged in
    let chip = c.calm_chips_rest.ensures.rests keys devices lines are whole moving still.settled still.chip still.called in
    let heard = c.calm_hosts_have_heard_all.ensures.host keys devices lines are whole moving in
    let none_flies : on_air now.outside.outer.air.frames ≡ [] = (c.calm_air_is_empty.ensures keys devices lines are whole still.air).none_flies in
    let none_waits : now.outside.outer.chip.state.port.waiting ≡ []
    = subst (λ (turn : Turn). WaitsWhileBusy turn now.outside.outer.chip.state.port.waiting) chip.turn heard.waits.busy in
    let none_unheard : unheard now.outside.outer ≡ [] = ap (λ (bytes : List ℕ). unheard_by bytes now.outside.outer.chip.state.port) heard.to_host ∙ none_waits in
    let host = c.hosts_are_ready.ensures keys devices lines are whole listing quiet these workers in
    let frames : AllByRecursion (IsFor these) (on_air now.outside.outer.air.frames) = subst (AllByRecursion (IsFor these)) (sym none_flies) tt in
    let listener : (n : ℕ) → is_marked these n ≡ true → listens n past ≡ true → HasListener n now.outside.devices = λ n marked hears.
    let has = device_known devices past n true hears (known n marked).device in
    c.listeners_are_there.ensures keys devices lines are whole up n has.0 has.1.0 has.1.1 in
    let sleeper : (n : ℕ) → is_marked these n ≡ true → listens n past ≡ false → HasSleeper n now.outside.devices = λ n marked sleeps.
    let has = device_known devices past n false sleeps (known n marked).device in
    c.sleepers_are_there.ensures keys devices lines are whole n has.0 has.1.0 has.1.1 in
    let idle : (n : ℕ) → is_joined past n ≡ true → (node_of now.host.state n).series ≡ Idle = λ n joined.
    let place = there n joined in
    let from : 1 ≤ n = omega (arith, place.from) in
    c.calm_hosts_are_done.ensures.idle keys devices lines are whole n from place.to (quiet.idle n joined) in
    let told : (n : ℕ) → is_marked these n ≡ true → NodeIsAsTold past now.host.state n = λ n marked.
    let place = there n (workers.joined n marked) in
    let from : 1 ≤ n = omega (arith, place.from) in
    c.calm_hosts_are_done.ensures.told keys devices lines are whole n from place.to in
    let down : (n : ℕ) → is_marked these n ≡ true → listens n past ≡ false → IsDown n now.host.state = λ n marked sleeps.
    let joined = workers.joined n marked in
    record {
      sleeps = (told n marked).listens_so ∙ sleeps;
      asleep = (or_parts (node_of now.host.state n).listens (node_of now.host.state n).awake (c.sleepers_are_asleep.ensures keys devices lines are whole listing quiet n joined (known n marked) sleeps)).1;
      idle = idle n joined;
      no_request = host.no_request;
      no_task = host.no_task;
    } in
    let silent : NoneWakes now = record { frames = subst (AllByRecursion IsQuietFlown) (sym none_flies) tt; pending = subst (AllByRecursion IsQuietFrame) (sym none_unheard) tt } in
    record {
      many = many_marks nodes;
      none = unmarked these past now workers there;
      host = host;
      joined = λ n marked. (there n (workers.joined n marked)).in_air;
      idle = λ n marked. idle n (workers.joined n marked);
      hears = elim workers.hear [
        | inl listen ↦ All_listen (record { frames = frames; nodes = λ n marked. listener n marked (listen n marked) })
        | inr one ↦ One_sleeps one.node one.alone frames (sleeper one.node one.alone.marked one.sleeps) (Before (Not_yet refl tt) (down one.node one.alone.marked one.sleeps) (ap (λ (flights : List Flown). outward flights) none_flies) silent)
      ];
      serves = elim workers.hear [
        | inl listen ↦ inl (record { listens = λ n marked. (told n marked).listens_so ∙ listen n marked; no_task = host.no_task })
        | inr one ↦ inr (one.node, (one.alone, sleeper one.node one.alone.marked one.sleeps))
      ];
      none_flies = none_flies;
      none_unheard = none_unheard;
      away = all_away these now.outside.devices still.working;
    }
