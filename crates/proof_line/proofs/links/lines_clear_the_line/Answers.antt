-- What is known of both links where the events end gives the law; at the end of a whole run it is known between lines.
use Rattle.std.proofs.Common.{◌≡◌, Bool, true, false, List, [], ◌∷◌, ◌++◌, refl}
use Rattle.std.specs.Prelude.{Some}
use Rattle.s0_crypto.specs.declared.key_pair.Keys.{Keys}
use Rattle.proof_world.specs.device_sim.State.{State}
use Rattle.zw_text.specs.declared.entry.Entry.TheVariants.{Said}
use Rattle.law_wire.specs.Serial.{ended}
use Rattle.proof_walk.specs.world_lines.Spoken.{Spoken, after_all, transcript_of}
use Rattle.proof_walk.specs.world_lines.Done.{AreDone, events_of}
use Rattle.proof_walk.specs.world_lines.Whole.{AreWhole}
use Rattle.proof_walk.specs.world_model.State.{Machine, first_machine}
use Rattle.proof_walk.specs.world_model.Did.{AllAlong}
use Rattle.proof_world.proofs.SpokenLines.{all_lines, all_may, lines_of}
use Rattle.proof_walk.proofs.Where.{where_lead, where_whole}
use Rattle.proof_line.specs.Linked.{Anything, Cuts, Did, HostObeyed, IsOrderly, KnowAll, began}
use Rattle.proof_line.proofs.LinkEnds.{cut_clears, host_obeyed, whole_clears}
use Rattle.proof_line.proofs.LinkSome.{lines_orderly}
use Rattle.proof_line.proofs.LinkWalk.{ended_known}
use Rattle.proof_line.proofs.links.lines_clear_the_line.Goals as goal

module _ (c : goal.After-lines_clear_nowhere_else) (keys : Keys) (devices : List State) (lines : List Spoken) (are : AreDone (first_machine keys (Some []) devices) lines) where
  abbrev start : Machine
  start = first_machine keys (Some []) devices

  orderly : AllAlong IsOrderly start (events_of lines)
  orderly =
      let events = events_of lines in
      let these = all_lines start lines are in
      let may = all_may start lines are in
      let asks = c.lines_keep_and_ask_well.ensures keys devices (lines_of lines) events these may in
      let writes = c.hosts_write_well.ensures.run keys (Some []) devices events may asks.1 in
      lines_orderly (lines_of lines) start events these writes asks.1

  cut : (did : Did) × Cuts did (transcript_of start lines)
  cut =
      let ties = c.links_go_on.ensures in
      let known = where_lead IsOrderly Anything KnowAll ties.walk [] start lines are orderly (ties.first keys (Some []) devices) in
      (known.1.1.0, known.1.1.1.0)

  whole : AreWhole start lines → (did : Did) × Cuts did (transcript_of start lines ++ Said [] ∷ [])
  whole all =
      let ties = c.links_go_on.ensures in
      let known = where_whole IsOrderly Anything KnowAll ties.walk [] start lines are all orderly (ties.first keys (Some []) devices) in
      (began known.1.0, ended_known known.1.0 (transcript_of start lines) (after_all start lines) known.0 known.1.1)

  obeyed : (over : Bool) → (over ≡ true → AreWhole start lines) → HostObeyed (ended over (transcript_of start lines))
  obeyed true all = host_obeyed (transcript_of start lines ++ Said [] ∷ []) (whole (all refl)).1
  obeyed false all = host_obeyed (transcript_of start lines) cut.1

pub returns-clause-cut : goal.returns-clause-cut
returns-clause-cut c = λ keys devices lines are.
    let m = first_machine keys (Some []) devices in
    cut_clears (transcript_of m lines) (cut c keys devices lines are).1 (c.lines_clear_nowhere_else.ensures keys (Some []) devices lines are false)

pub returns-clause-whole : goal.returns-clause-whole
returns-clause-whole c = λ keys devices lines are all.
    let m = first_machine keys (Some []) devices in
    whole_clears (transcript_of m lines) (whole c keys devices lines are all).1 (c.lines_clear_nowhere_else.ensures keys (Some []) devices lines are true)

pub returns-clause-obeyed : goal.returns-clause-obeyed
returns-clause-obeyed c = λ keys devices lines over are all. obeyed c keys devices lines are over all
