-- What is shown is tied to the transcript where each line begins, so it is what the transcript gives; in the end, after whole lines, nothing is to be shown.
use Rattle.std.proofs.Common.{◌≡◌, ℕ, Bool, true, false, List, [], ◌∷◌, ◌++◌, Some, refl, sym, ap, subst, ◌∙◌}
use Rattle.s0_crypto.specs.declared.key_pair.Keys.{Keys}
use Rattle.device_sim.specs.State.{State}
use Rattle.zw_text.specs.declared.line.Line.TheVariants as lines
use Rattle.zw_text.specs.declared.entry.Entry.{Entry}
use Rattle.zw_text.specs.declared.entry.Entry.TheVariants.{Said}
use Rattle.law_host.specs.law_transcript.Lists.{EachAfter}
use Rattle.law_host.specs.law_transcript.Nodes.{always, listing_of}
use Rattle.law_host.specs.law_wire.Serial.{ended}
use Rattle.law_host.specs.HostLegal.{values_now}
use Rattle.proof_air.specs.world_model.State.{Machine, first_machine}
use Rattle.proof_air.specs.world_model.Events.{shown_values}
use Rattle.proof_air.specs.world_model.Did.{happens_all}
use Rattle.proof_air.specs.world_lines.Spoken.{Spoken, after_all, transcript_of}
use Rattle.proof_air.specs.world_lines.Done.{AreDone, events_of}
use Rattle.proof_air.specs.world_lines.Whole.{AreWhole}
use Rattle.proof_spoken.proofs.DevicePlaces.{go_same, run_goes}
use Rattle.proof_spoken.specs.proof_device.GoingOn.{AreSame}
use Rattle.proof_spoken.specs.proof_device.Showing.{AllShow, AreApart}
use Rattle.proof_air.proofs.Lists.{each-append}
use Rattle.proof_spoken.proofs.SpokenLines.{all_after, all_may}
use Rattle.proof_air.proofs.Lines.{all_tied, tied_lead, tied_stand}
use Rattle.proof_air.specs.proof_walk.Walk.{AllTied}
use Rattle.proof_transcript.specs.Showing.{KnowsShown, ShownTies, Stands}
use Rattle.proof_transcript.specs.Told.{IsTold}
use Rattle.proof_transcript.proofs.LastTable.{shown_kept}
use Rattle.proof_transcript.proofs.Nodes.{devices_are}
use Rattle.proof_transcript.proofs.SaidNext.{unbegun, said_after, said_done, said_told, said_transcript}
use Rattle.proof_transcript.proofs.ShownDevices.{found_like, lines_show}
use Rattle.proof_transcript.proofs.Showing.{devices_of, shown_walk, values_of, words_stand}
use Rattle.proof_transcript.proofs.shows.lines_show_what_is_kept.Goals as goal

module _ (c : goal.After-changes_are_shown) (keys : Keys) (devices : List State) where
  abbrev start : Machine
  start = first_machine keys (Some []) devices

  -- the values of a node after these lines
  values_tied : (spoken : List Spoken) → AreDone start spoken → IsTold (transcript_of start spoken) (after_all start spoken) → (node : ℕ)
      → values_now (always (listing_of devices)) (transcript_of start spoken) node ≡ shown_values (after_all start spoken).host.state node
  values_tied spoken are told node =
      let listing = listing_of devices in
      let end = after_all start spoken in
      let past = transcript_of start spoken in
      let are_spoken = c.lines_tell_what_nodes_list.ensures.spoken keys devices spoken are in
      let tell = c.lines_tell_what_nodes_list.ensures.tell keys devices spoken are in
      let known = c.interviews_give_what_is_known.ensures.lines listing [] start spoken are_spoken tell (c.interviews_give_what_is_known.ensures.first listing keys) in
      let (facts, said) = c.answers_stand_after_their_lines.ensures.lines listing [] start spoken (c.the_machine_keeps_facts.ensures.first keys (Some []) devices) tt known are_spoken in
      shown_kept (always listing) past end.host.state (c.laws_follow.ensures.laws past end.host.state facts) (c.laws_follow.ensures.stores past end.host.state facts)
      (λ n. c.runs_have_their_tables.ensures listing keys (Some []) devices spoken n are_spoken tell) told.heard node

  same_devices : (spoken : List Spoken) → AreSame devices (after_all start spoken).outside.devices
  same_devices spoken =
      subst (λ (n : Machine). AreSame devices n.outside.devices) (sym (all_after start spoken)) (go_same devices (happens_all start (events_of spoken)).outside.devices (run_goes start (events_of spoken)))

  show : (spoken : List Spoken) → AreDone start spoken → AreApart devices → AllShow (transcript_of start spoken) devices (after_all start spoken).outside.devices
  show spoken are apart =
      subst (λ (n : Machine). AllShow (transcript_of start spoken) devices n.outside.devices) (sym (all_after start spoken))
      (lines_show start spoken devices (happens_all start (events_of spoken)).outside.devices (c.changes_are_shown.ensures.all start (events_of spoken) (all_may start spoken are) apart))

  ties : (spoken : List Spoken) → AreDone start spoken → AreWhole start spoken → ShownTies devices (transcript_of start spoken) (after_all start spoken)
  ties spoken are whole =
      let end = after_all start spoken in
      let past = transcript_of start spoken in
      record {
        device = λ node apart. found_like past node devices end.outside.devices (same_devices spoken) (show spoken are apart) ∙ sym (devices_are node end.outside.devices);
        values = λ words node read.
            let next : List Spoken = spoken ++ unbegun words (lines.Store node) ∷ [] in
            let told : IsTold (past ++ Said words ∷ []) end = said_told past end words (lines.Store node) tt read (c.what_is_told.ensures keys devices spoken are whole) in
            let there : IsTold (transcript_of start next) (after_all start next) =
            subst (λ (l : List Entry). IsTold l (after_all start next)) (sym (said_transcript start spoken words (lines.Store node)))
            (subst (λ (n : Machine). IsTold (past ++ Said words ∷ []) n) (sym (said_after start spoken words (lines.Store node))) told) in
            ap (λ (l : List Entry). values_now (always (listing_of devices)) l node) (sym (said_transcript start spoken words (lines.Store node)))
            ∙ (values_tied next (said_done start spoken words (lines.Store node) read are whole) there node
            ∙ ap (λ (n : Machine). shown_values n.host.state node) (said_after start spoken words (lines.Store node)));
      }

  tied : (spoken : List Spoken) → AreDone start spoken → AllTied (ShownTies devices) [] start spoken
  tied spoken are = all_tied (ShownTies devices) [] start spoken are (λ front done whole. ties front done whole)

  stand : (spoken : List Spoken) (whole : Bool) → AreDone start spoken → (whole ≡ true → AreWhole start spoken) → EachAfter (Stands devices) [] (ended whole (transcript_of start spoken))
  stand spoken true are all =
      let past = transcript_of start spoken in
      let led = tied_lead (ShownTies devices) (Stands devices) (KnowsShown devices) (shown_walk devices) [] start spoken are (all refl) (tied spoken are) ((λ apart. refl), tt) in
      each-append (Stands devices) [] past (Said [] ∷ []) led.0 (words_stand devices past (after_all start spoken) [] led.1, tt)
  stand spoken false are all =
      tied_stand (ShownTies devices) (Stands devices) (KnowsShown devices) (shown_walk devices) [] start spoken are (tied spoken are) ((λ apart. refl), tt)

pub returns-clause-devices : goal.returns-clause-devices
returns-clause-devices c = λ keys devices spoken whole are all apart.
    devices_of devices apart [] (ended whole (transcript_of (first_machine keys (Some []) devices) spoken)) (stand c keys devices spoken whole are all)

pub returns-clause-values : goal.returns-clause-values
returns-clause-values c = λ keys devices spoken whole are all.
    values_of devices [] (ended whole (transcript_of (first_machine keys (Some []) devices) spoken)) (stand c keys devices spoken whole are all)
