-- Both links are known as each line ends: where bytes move the host's has heard all that came.
use Rattle.std.proofs.Common.{◌≡◌, ℕ, ◌+◌, ◌≤◌, nat_lt, false, true, List, [], ◌∷◌, ◌++◌, length, refl, sym, ap, ap₂, ◌∙◌, length-append, append-nil, arith}
use Rattle.std.proofs.lemmas.Grind.{flat_map-append}
use Rattle.std.specs.Prelude.{Some}
use Rattle.std.specs.List.{flat_map}
use Rattle.s0_crypto.specs.declared.key_pair.Keys.{Keys}
use Rattle.zw_words.specs.declared.side.Side.TheVariants.{Host}
use Rattle.serial_link.specs.Rules.{Step}
use Rattle.law_wire.specs.Links.{Moment, Round, arrival_of, arrivals_of, moments_of, round_from}
use Rattle.law_wire.specs.Serial.{SerialEvent, serial_events}
use Rattle.law_wire.specs.Serial.SerialEvent.{Line_begins, Tick_begins, Writes}
use Rattle.law_time.specs.Calm.{is_stalled as is_stalled_told}
use Rattle.proof_rests.specs.proof_attempts.proof_host.device_sim.State.{State}
use Rattle.proof_chip.specs.proof_line.Linked.{Did, LinksEnded}
use Rattle.proof_chip.specs.proof_line.outside_model.Events.{ticked_entry}
use Rattle.proof_chip.specs.proof_line.outside_model.State.{is_stalled}
use Rattle.proof_chip.specs.proof_line.world_model.State.{Machine, first_machine}
use Rattle.proof_chip.specs.proof_world.world_lines.Spoken.{Spoken, after_all, transcript_of}
use Rattle.proof_chip.specs.proof_world.world_lines.Done.{AreDone}
use Rattle.proof_chip.specs.proof_world.world_lines.Whole.{AreWhole}
use Rattle.proof_ready.specs.Ease.{HostHasHeard, arrived_from, clock_of}
use Rattle.proof_ready.proofs.Stalled.{stalls_end}
use Rattle.proof_ready.proofs.pipes.calm_hosts_have_heard_all.Goals as goal

nothing : (xs : List (List ℕ)) → length xs ≤ 0 → xs ≡ []
nothing [] few = refl
nothing (x ∷ xs) few = absurd (let wrong = few in omega (arith, wrong))

-- what has arrived in a round is told by its events alone
arrivals_are : (events : List SerialEvent) (parts : List (List Step)) (round : Round) → length parts ≡ length events
    → length (arrivals_of Host (round_from round (moments_of events parts)).moments) ≡ arrived_from (length (arrivals_of Host round.moments)) events
arrivals_are [] parts round each = refl
arrivals_are (event ∷ events) [] round each = absurd (let wrong = each in omega (arith, wrong))
arrivals_are (Writes side unit arriving lacking ∷ events) (part ∷ parts) round each =
    let one : Moment = record { event = Writes side unit arriving lacking; steps = part } in
    let here : List (List ℕ) = arrival_of Host (Writes side unit arriving lacking) in
    let more : length (arrivals_of Host (round.moments ++ one ∷ [])) ≡ length (arrivals_of Host round.moments) + length here =
    ap (λ units. length units) (flat_map-append (λ (one : Moment). arrival_of Host one.event) round.moments (one ∷ []))
    ∙ length-append (arrivals_of Host round.moments) (here ++ []) ∙ ap (λ units. length (arrivals_of Host round.moments) + length units) (append-nil here) in
    arrivals_are events parts (record round { moments = round.moments ++ one ∷ [] }) (omega (arith, each)) ∙ ap (λ count. arrived_from count events) more
arrivals_are (Line_begins line ∷ events) (part ∷ parts) round each = arrivals_are events parts (record { is_tick = false; moments = [] }) (omega (arith, each))
arrivals_are (Tick_begins ∷ events) (part ∷ parts) round each = arrivals_are events parts (record { is_tick = true; moments = [] }) (omega (arith, each))

-- the links where lines end
module _ (c : goal.After-time_goes_on) (keys : Keys) (devices : List State) (lines : List Spoken) (are : AreDone (first_machine keys (Some []) devices) lines) (whole : AreWhole (first_machine keys (Some []) devices) lines)
    (moves : is_stalled_told (transcript_of (first_machine keys (Some []) devices) lines) (clock_of (transcript_of (first_machine keys (Some []) devices) lines)) ≡ false) where
  abbrev start : Machine
  start = first_machine keys (Some []) devices

  ended : (did : Did) × LinksEnded did (transcript_of start lines) (after_all start lines)
  ended = let known = (c.lines_lead_links.ensures keys devices lines are whole).1 in (known.0, known.1.1)

  still : is_stalled (after_all start lines).outside.outer ≡ false
  still = stalls_end c.time_goes_on.ensures.walk keys devices (c.time_goes_on.ensures.first keys (Some []) devices) lines are whole moves

  heard : HostHasHeard (after_all start lines)
  heard =
      let both = ended.1.1.2 in
      let none = nothing ended.1.1.1.coming (ended.1.1.3.1.few (ap₂ (λ (a b : ℕ). nat_lt a b) both.host_time.clock both.host_time.until ∙ still)) in
      record { to_host = both.line.way.bytes ∙ ap (λ (texts : List (List ℕ)). flat_map (λ (text : List ℕ). text) texts) none; at_rest = both.rests; fit = both.frames; waits = both.line.waits }

  chip_heard : arrived_from 0 (serial_events (transcript_of start lines ++ ticked_entry (after_all start lines).outside.outer)) ≤ 63 → (after_all start lines).outside.outer.to_chip.bytes ≡ []
  chip_heard few =
      let both = ended.1.1.2 in
      let up = ended.1.1.0 in
      let link = both.line.chip in
      let left = ended.1.1.3.0.few (ap₂ (λ (a b : ℕ). nat_lt a b) both.chip_time.clock both.chip_time.until ∙ still) in
      let brought = sym link.at.brought ∙ arrivals_are (serial_events (transcript_of start lines ++ ticked_entry (after_all start lines).outside.outer)) link.parts (record { is_tick = false; moments = [] }) link.each in
      let none = nothing up.coming (omega (arith, left, brought, few)) in
      both.chip_way.bytes ∙ ap (λ (texts : List (List ℕ)). flat_map (λ (text : List ℕ). text) texts) none

pub returns-clause-host : goal.returns-clause-host
returns-clause-host c = λ keys devices lines are whole moves. heard c keys devices lines are whole moves

pub returns-clause-chip : goal.returns-clause-chip
returns-clause-chip c = λ keys devices lines are whole moves few. chip_heard c keys devices lines are whole moves few
