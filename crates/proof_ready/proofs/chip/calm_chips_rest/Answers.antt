-- What the transcript counts is what has arrived for the chip; and where all of it is heard, a link that waits for ACK has none to come.
use Rattle.std.proofs.Common.{◌≡◌, ◌≤◌, ◌<◌, ℕ, ◌||◌, nat_lt, Bool, true, false, List, [], ◌∷◌, ◌++◌, length, map, refl, sym, ap, ◌∙◌, subst, ltb-true, true≢false, arith}
use Rattle.std.proofs.lemmas.Bool.{and_parts}
use Rattle.std.specs.Prelude.{Some}
use Rattle.std.specs.List.{list_all}
use Rattle.s0_crypto.specs.declared.key_pair.Keys.{Keys}
use Rattle.serial_link.specs.State.{Side as LinkSide}
use Rattle.serial_link.specs.Rules.{SideObeys, Step}
use Rattle.serial_link.specs.declared.turn.Turn.TheVariants.{Idle}
use Rattle.zw_words.specs.declared.side.Side.TheVariants.{Host}
use Rattle.zw_text.specs.declared.entry.Entry.{Entry}
use Rattle.zw_text.specs.Transcript.{folded, lines_run, shown}
use Rattle.law_wire.specs.Links.{bytes_in}
use Rattle.law_wire.specs.law_transcript.Lists.{shown_after}
use Rattle.law_wire.specs.law_transcript.Restarts.{ticks_asked}
use Rattle.law_wire.specs.Serial.{serial_events}
use Rattle.law_time.specs.Calm.{after_frame, chip_frame_at, chip_is_idle, host_unit_at, is_settled, since_begun, starts_at}
use Rattle.law_time.specs.Judged.{acknowledgements_come}
use Rattle.law_time.specs.Requests.{are_none}
use Rattle.proof_rests.specs.proof_attempts.proof_host.device_sim.State.{State}
use Rattle.proof_chip.specs.proof_line.Linked.{Did, LinksEnded}
use Rattle.proof_chip.specs.proof_line.Links.{LinkNow}
use Rattle.proof_chip.specs.proof_line.outside_model.Events.{ticked_entry}
use Rattle.proof_chip.specs.proof_line.world_model.State.{Machine, first_machine}
use Rattle.proof_chip.specs.proof_world.world_lines.Spoken.{Spoken, after_all, transcript_of}
use Rattle.proof_chip.specs.proof_world.world_lines.Done.{AreDone}
use Rattle.proof_chip.specs.proof_world.world_lines.Whole.{AreWhole}
use Rattle.proof_ready.specs.Ease.{arrived_from, clock_of}
use Rattle.proof_ready.proofs.Ahead.{acks_few, acks_in, came_from, silent_never_waits, still_ahead}
use Rattle.proof_ready.proofs.Answered.{answers_come, chip_silent, host_lost, lost_is}
use Rattle.proof_ready.proofs.Settled.{few_arrive, lines_read}
use Rattle.proof_ready.proofs.LinkWaiting.{idle_link, waits_from}
use Rattle.proof_ready.proofs.chip.calm_chips_rest.Goals as goal

none_are : {A : Type 0} (xs : List A) → are_none xs ≡ true → xs ≡ []
none_are [] none = refl
none_are (x ∷ xs) none = absurd (true≢false (sym none))

module _ (c : goal.After-ticks_are_told) (keys : Keys) (devices : List State) (lines : List Spoken) (are : AreDone (first_machine keys (Some []) devices) lines) (whole : AreWhole (first_machine keys (Some []) devices) lines) where
  abbrev start : Machine
  start = first_machine keys (Some []) devices

  abbrev past : List Entry
  past = transcript_of start lines

  abbrev m : Machine
  m = after_all start lines

  ended : (did : Did) × LinksEnded did past m
  ended = let known = (c.lines_lead_links.ensures keys devices lines are whole).1 in (known.0, known.1.1)

  clock_is : m.outside.outer.clock ≡ ticks_asked (lines_run past)
  clock_is = let clock = (c.lines_lead_links.ensures keys devices lines are whole).0.0.0.clock in omega (arith, clock)

  few : is_settled past ≡ true → arrived_from 0 (serial_events (past ++ ticked_entry m.outside.outer)) ≤ 63
  few settled =
      let both = ended.1.1.2 in
      let most = few_arrive past m.outside.outer (c.ticks_are_told.ensures keys (Some []) devices lines false are (λ is. absurd (true≢false (sym is)))) (lines_read start lines are) (both.line.time ∙ both.chip_time.clock) clock_is in
      let less : length (shown host_unit_at (folded since_begun [] past)) < 64 = ltb-true (length (shown host_unit_at (folded since_begun [] past))) 64 settled in
      omega (arith, most, less)

  abbrev up : LinkNow
  up = ended.1.1.0

  module _ (heard : m.outside.outer.to_chip.bytes ≡ []) where
    none_left : acks_in up.coming ≤ 0
    none_left =
        let both = ended.1.1.2 in
        let some = acks_few up.coming in
        let bytes : bytes_in up.coming ≡ 0 = ap (λ (l : List ℕ). length l) (sym both.chip_way.bytes ∙ heard) in
        omega (arith, some, bytes)

    come : acknowledgements_come Host (folded after_frame [] past) ≤ came_from 0 (serial_events (past ++ ticked_entry m.outside.outer)) up.lost
    come =
        let both = ended.1.1.2 in
        answers_come past m.outside.outer up.lost
        (ap (λ (l : List (List Entry)). map (λ (entries : List Entry). host_lost entries) l) both.line.clears ∙ lost_is up.lost ended.1.1.1.lost both.line.many)

    none_waits : chip_is_idle past (clock_of past) ≡ true → waits_from false up.life ≡ false
    none_waits idle = by (are_none (shown chip_frame_at past)) (waits_from false up.life) refl refl
        (and_parts (are_none (shown chip_frame_at past) || nat_lt 0 (acknowledgements_come Host (folded after_frame [] past))) (list_all (λ tick. nat_lt tick (clock_of past)) (shown_after starts_at [] past)) idle).0
      where
        by : (none waits : Bool) → are_none (shown chip_frame_at past) ≡ none → waits_from false up.life ≡ waits
            → (are_none (shown chip_frame_at past) || nat_lt 0 (acknowledgements_come Host (folded after_frame [] past))) ≡ true → waits_from false up.life ≡ false
        by none false none_is waits_is answered = waits_is
        by true true none_is waits_is answered =
            silent_never_waits (serial_events (past ++ ticked_entry m.outside.outer)) up ended.1.1.2.line.chip (chip_silent past m.outside.outer (none_are (shown chip_frame_at past) none_is))
        by false true none_is waits_is answered =
            let some : 0 < acknowledgements_come Host (folded after_frame [] past) =
            ltb-true 0 (acknowledgements_come Host (folded after_frame [] past)) (ap (λ (b : Bool). b || nat_lt 0 (acknowledgements_come Host (folded after_frame [] past))) (sym none_is) ∙ answered) in
            let ahead = still_ahead (serial_events (past ++ ticked_entry m.outside.outer)) up ended.1.1.2.line.chip waits_is in
            let most = come in
            let least = none_left in
            absurd (omega (arith, some, most, ahead, least))

    turn_is : chip_is_idle past (clock_of past) ≡ true → m.outside.outer.chip.state.port.side.turn ≡ Idle
    turn_is idle =
        let both = ended.1.1.2 in
        let link = both.line.chip in
        ap (λ (side : LinkSide). side.turn) (sym both.line.link)
        ∙ idle_link up.life up.link (subst (λ (l : List Step). SideObeys l up.link) link.at.life link.does.obeys) (none_waits idle)

pub returns-clause-to_chip : goal.returns-clause-to_chip
returns-clause-to_chip c = λ keys devices lines are whole moves settled.
    c.calm_hosts_have_heard_all.ensures.chip keys devices lines are whole moves (few c keys devices lines are whole settled)

pub returns-clause-turn : goal.returns-clause-turn
returns-clause-turn c = λ keys devices lines are whole moves settled idle.
    turn_is c keys devices lines are whole (returns-clause-to_chip c keys devices lines are whole moves settled) idle

pub returns-clause-rests : goal.returns-clause-rests
returns-clause-rests c = λ keys devices lines are whole moves settled idle owes.
    let turn = returns-clause-turn c keys devices lines are whole moves settled idle in
    record { to_chip = returns-clause-to_chip c keys devices lines are whole moves settled; turn = turn; due = c.calm_chips_are_owed_nothing.ensures.idle keys devices lines are whole owes moves turn }
