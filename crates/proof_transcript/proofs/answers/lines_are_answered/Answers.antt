-- Each line is answered: what decides its answer is known where it begins.
use Rattle.std.proofs.Common.{◌≡◌, ℕ, true, false, List, [], Option, Some, refl, sym, subst}
use Rattle.s0_crypto.specs.declared.key_pair.Keys.{Keys}
use Rattle.device_sim.specs.State.{State}
use Rattle.proof_air.specs.host_model.State.{first_host}
use Rattle.host_keep.specs.Kept.{first_kept, kept_of}
use Rattle.law_host.specs.law_transcript.Lists.{EachAfter}
use Rattle.law_host.specs.law_transcript.Nodes.{listing_of, always}
use Rattle.proof_spoken.proofs.DevicePlaces.{go_same, run_goes}
use Rattle.proof_spoken.specs.proof_device.GoingOn.{AreSame}
use Rattle.proof_air.specs.world_model.State.{Machine, first_machine}
use Rattle.proof_air.specs.world_model.Did.{happens_all}
use Rattle.proof_air.specs.world_lines.Spoken.{Spoken, after_all, transcript_of}
use Rattle.proof_air.specs.world_lines.Done.{AreDone, events_of}
use Rattle.proof_air.specs.world_lines.Whole.{AreWhole}
use Rattle.proof_spoken.proofs.SpokenLines.{all_after, all_lines, all_may, lines_of}
use Rattle.proof_spoken.specs.Restarts.{IsHeld}
use Rattle.proof_air.specs.world_model.Refusals.{HasBad}
use Rattle.proof_air.proofs.Lines.{all_tied, tied_lead, tied_stand}
use Rattle.proof_air.specs.proof_walk.Walk.{AllTied}
use Rattle.proof_transcript.specs.Answering.{AnswerTies, IsAnswerOf, KnowsAnswers}
use Rattle.proof_transcript.proofs.AnswerFacts.{ties_are}
use Rattle.proof_transcript.proofs.Answering.{answers_of, answers_walk, nothing_due, sound_of}
use Rattle.proof_transcript.proofs.PlacesKept.{HasPlaces, HostsKeep, places_kept}
use Rattle.proof_transcript.proofs.StoredPlaces.{KeepsNoMore, alone_keeps}
use Rattle.proof_transcript.proofs.answers.lines_are_answered.Goals as goal

module _ (c : goal.After-texts_give_one_thing) where
  hosts_keep : HostsKeep
  hosts_keep = record {
    facts = c.facts_are_kept.ensures.each;
    orders = c.tables_keep_orders.ensures.host;
    opened_alone = c.a_restart_keeps_what_is_held.ensures.opened;
    opened_facts = c.a_restart_keeps_what_is_held.ensures.opened_facts;
  }

  places_first : (keys : Keys) (devices : List State) → HasPlaces (first_machine keys (Some []) devices)
  places_first keys devices = record {
    texts = [];
    told = refl;
    facts = c.facts_are_kept.ensures.first keys;
    no_more = alone_keeps (first_host keys) first_kept (c.a_host_begins_with_what_is_kept.ensures keys);
  }

  no_more : (keys : Keys) (devices : List State) (lines : List Spoken) → AreDone (first_machine keys (Some []) devices) lines → KeepsNoMore (after_all (first_machine keys (Some []) devices) lines).host.state
  no_more keys devices lines are =
      let m = first_machine keys (Some []) devices in
      subst (λ (n : Machine). KeepsNoMore n.host.state) (sym (all_after m lines)) (places_kept hosts_keep m (events_of lines) (all_may m lines are) (places_first keys devices)).no_more

  -- and its records are what it was given, in legal order
  no_bad : (keys : Keys) (devices : List State) (lines : List Spoken) → AreDone (first_machine keys (Some []) devices) lines → (at : ℕ)
      → HasBad (after_all (first_machine keys (Some []) devices) lines).records at → ⊥
  no_bad keys devices lines are at bad =
      let m = first_machine keys (Some []) devices in
      let may = all_may m lines are in
      let has = (subst (λ (n : Machine). HasPlaces n) (sym (all_after m lines)) (places_kept hosts_keep m (events_of lines) may (places_first keys devices))) in
      let well = c.lines_keep_and_ask_well.ensures keys devices (lines_of lines) (events_of lines) (all_lines m lines are) may in
      let held = c.restarts_go_on.ensures.all [] m (events_of lines) (c.the_machine_keeps_facts.ensures.first keys (Some []) devices) (c.restarts_go_on.ensures.first keys (Some []) refl) may well.0 in
      let is_held = subst (λ (n : Machine). IsHeld n.host.state n.records) (sym (all_after m lines)) held.1 in
      let these = subst (λ (o : Option (List (List ℕ))). IsHeld (after_all m lines).host.state o) has.told is_held in
      c.texts_give_one_thing.ensures.good has.texts (kept_of these.records) at (record { records = these.records; are = these.are; legal = these.legal; gives = refl })
      (subst (λ (o : Option (List (List ℕ))). HasBad o at) has.told bad)

  same_devices : (keys : Keys) (devices : List State) (lines : List Spoken) → AreSame devices (after_all (first_machine keys (Some []) devices) lines).outside.devices
  same_devices keys devices lines =
      let m = first_machine keys (Some []) devices in
      subst (λ (n : Machine). AreSame devices n.outside.devices) (sym (all_after m lines)) (go_same devices (happens_all m (events_of lines)).outside.devices (run_goes m (events_of lines)))

  ties : (keys : Keys) (devices : List State) (lines : List Spoken) → AreDone (first_machine keys (Some []) devices) lines → AreWhole (first_machine keys (Some []) devices) lines
      → AnswerTies devices (transcript_of (first_machine keys (Some []) devices) lines) (after_all (first_machine keys (Some []) devices) lines)
  ties keys devices lines are whole =
      let m = first_machine keys (Some []) devices in
      let listing = listing_of devices in
      let end = after_all m lines in
      let past = transcript_of m lines in
      let spoken = c.lines_tell_what_nodes_list.ensures.spoken keys devices lines are in
      let tell = c.lines_tell_what_nodes_list.ensures.tell keys devices lines are in
      let knows_first = c.interviews_give_what_is_known.ensures.first listing keys in
      let known = c.interviews_give_what_is_known.ensures.lines listing [] m lines spoken tell knows_first in
      let knows = c.interviews_give_what_is_known.ensures.end listing [] m lines spoken tell knows_first in
      let (facts, said) = c.answers_stand_after_their_lines.ensures.lines listing [] m lines (c.the_machine_keeps_facts.ensures.first keys (Some []) devices) tt known spoken in
      let laws = c.laws_follow.ensures.laws past end.host.state facts in
      ties_are devices past end facts (c.laws_follow.ensures.tables past end.host.state facts) (c.what_is_told.ensures keys devices lines are whole) knows
      (λ node. c.tables_are_what_was_said.ensures (always listing) past end.host.state node facts said) (no_more keys devices lines are)
      (c.lines_refuse_what_is_old.ensures keys (Some []) devices lines are whole (c.lines_number_frames.ensures keys (Some []) devices lines are) laws.sessions_keep)
      (no_bad keys devices lines are) (same_devices keys devices lines)

  tied : (keys : Keys) (devices : List State) (lines : List Spoken) → AreDone (first_machine keys (Some []) devices) lines
      → AllTied (AnswerTies devices) [] (first_machine keys (Some []) devices) lines
  tied keys devices lines are = all_tied (AnswerTies devices) [] (first_machine keys (Some []) devices) lines are (λ front done whole. ties keys devices front done whole)

  stand : (keys : Keys) (devices : List State) (lines : List Spoken) → AreDone (first_machine keys (Some []) devices) lines
      → EachAfter (IsAnswerOf devices) [] (transcript_of (first_machine keys (Some []) devices) lines)
  stand keys devices lines are =
      tied_stand (AnswerTies devices) (IsAnswerOf devices) (KnowsAnswers devices) (answers_walk devices) [] (first_machine keys (Some []) devices) lines are (tied keys devices lines are) tt

pub returns-clause-part : goal.returns-clause-part
returns-clause-part c = λ keys devices lines are. record {
  between = answers_of devices [] (transcript_of (first_machine keys (Some []) devices) lines) (stand c keys devices lines are);
  in_the_end = λ (is : false ≡ true). absurd cc;
}

pub returns-clause-reads : goal.returns-clause-reads
returns-clause-reads c = λ keys devices lines are. sound_of devices [] (transcript_of (first_machine keys (Some []) devices) lines) (stand c keys devices lines are)

pub returns-clause-whole : goal.returns-clause-whole
returns-clause-whole c = λ keys devices lines are whole.
    let m = first_machine keys (Some []) devices in
    let led = tied_lead (AnswerTies devices) (IsAnswerOf devices) (KnowsAnswers devices) (answers_walk devices) [] m lines are whole (tied c keys devices lines are) tt in
    record { between = answers_of devices [] (transcript_of m lines) led.0; in_the_end = λ is. nothing_due devices (transcript_of m lines) (after_all m lines) led.1 }
