-- What is known of the devices before the last line, and where it was cut.
use Rattle.std.proofs.Common.{◌≡◌, ◌≢◌, ◌≤◌, ℕ, List, [], ◌∷◌, ◌++◌, length, refl, sym, subst, ◌∙◌, arith}
use Rattle.std.specs.Prelude.{Some}
use Rattle.s0_crypto.specs.declared.key_pair.Keys.{Keys}
use Rattle.device_sim.specs.State.{State}
use Rattle.zw_text.specs.declared.entry.Entry.{Entry}
use Rattle.law_transcript.specs.Nodes.{controller, device_of}
use Rattle.law_wire.specs.Halted.{RanAsFar}
use Rattle.world_lines.specs.Spoken.{Spoken, after_all, transcript_of}
use Rattle.world_lines.specs.Done.{AreDone}
use Rattle.world_model.specs.State.{Machine, first_machine}
use Rattle.world_model.specs.Events.{Event}
use Rattle.proof_air.specs.proof_device.Showing.{AreApart}
use Rattle.proof_air.proofs.Lines.{lines_lead}
use Rattle.proof_devices.specs.LastLine.{with_last}
use Rattle.proof_devices.specs.Living.{Answers, MayAny}
use Rattle.proof_devices.proofs.Changes.{changes_first}
use Rattle.proof_devices.proofs.Halting.{AnswersFrom, from_keep, from_rested, nothing_far}
use Rattle.proof_devices.proofs.LastLine.{after_more, cut_short, has_last, line_far, transcript_more}
use Rattle.proof_devices.proofs.Replies.{answers_first, answers_keep}
use Rattle.proof_devices.proofs.Together.{KnowTogether, together}
use Rattle.proof_devices.proofs.Walking.{devices_first}
use Rattle.proof_devices.proofs.devices.lines_run_as_far.Goals as goal

module _ (c : goal.After-changes_are_shown) (keys : Keys) (texts : List (List ℕ)) (devices : List State) (apart : AreApart devices) where
  abbrev start : Machine
  start = first_machine keys (Some texts) devices

  last_far : (front : List Spoken) (line : Spoken) (more : List Event) → AreDone start (front ++ line ∷ [])
      → AreDone start (front ++ record { words = line.words; line = line.line; events = line.events ++ more } ∷ []) → length more ≤ 1 → (node : ℕ) (old new : State) → node ≢ controller
      → device_of node devices ≡ Some old
      → device_of node (after_all start (front ++ record { words = line.words; line = line.line; events = line.events ++ more } ∷ [])).outside.devices ≡ Some new
      → RanAsFar node (transcript_of start (front ++ line ∷ [])) old new
  last_far front line more are are_more few node old new other before after_it =
      let long : Spoken = record { words = line.words; line = line.line; events = line.events ++ more } in
      let cut = cut_short start front line are in
      let cut_more = cut_short start front long are_more in
      let past : List Entry = transcript_of start front in
      let then : Machine = after_all start front in
      let known = (lines_lead MayAny (KnowTogether Answers devices)
      (together Answers devices apart (answers_keep devices apart) c.history_goes_on.ensures.walk c.time_goes_on.ensures.walk (c.networks_go_on.ensures.walk devices) c.changes_are_shown.ensures.each) []
      start front cut.done cut.whole (
        (
          ((c.history_goes_on.ensures.first keys (Some texts) devices, c.time_goes_on.ensures.first keys (Some texts) devices), c.networks_go_on.ensures.first keys texts devices),
          devices_first Answers start refl (λ old other. answers_first old),
        ),
        changes_first start,
      )).1 in
      let clock = known.0.0.0.1.0.0.clock in
      let walk = together (AnswersFrom past) devices apart (from_keep past devices apart) c.history_goes_on.ensures.walk c.time_goes_on.ensures.walk (c.networks_go_on.ensures.walk devices)
      c.changes_are_shown.ensures.each in
      subst (λ (l : List Entry). RanAsFar node l old new) (sym (transcript_more start front line))
      (line_far devices past walk then ((known.0.0, from_rested devices past then (omega (arith, clock)) known.0.1), known.1) apart line more cut.last cut_more.last few node old new other before
      (subst (λ (n : Machine). device_of node n.outside.devices ≡ Some new) (after_more start front long) after_it))

  far : (lines : List Spoken) (more : List Event) → AreDone start lines → AreDone start (with_last more lines) → length more ≤ 1 → (node : ℕ) (old new : State) → node ≢ controller
      → device_of node devices ≡ Some old → device_of node (after_all start (with_last more lines)).outside.devices ≡ Some new → RanAsFar node (transcript_of start lines) old new
  far [] more are are_more few node old new other before after_it =
      let both : Some old ≡ Some new = sym before ∙ after_it in
      let same : new ≡ old = cc in
      nothing_far node old new same
  far (first ∷ rest) more are are_more few node old new other before after_it =
      let last = has_last more first rest in
      subst (λ (l : List Spoken). RanAsFar node (transcript_of start l) old new) (sym last.are)
      (last_far last.front last.line more (subst (AreDone start) last.are are) (subst (AreDone start) last.longer are_more) few node old new other before
      (subst (λ (l : List Spoken). device_of node (after_all start l).outside.devices ≡ Some new) last.longer after_it))

pub returns : goal.returns
returns c = λ keys texts devices lines more are are_more few apart node old new other before after_it. far c keys texts devices apart lines more are are_more few node old new other before after_it
