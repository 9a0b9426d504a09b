-- The laws of a legal run as one: in a fair world each of them has what it assumes.
use Rattle.std.proofs.Common.{◌≡◌, ℕ, true, List, [], Option, Some, subst}
use Rattle.std.specs.Prelude.{IfSome}
use Rattle.law_transcript.specs.Nodes.{always, listing_of}
use Rattle.law_transcript.specs.Records.{KeepsRecords}
use Rattle.law_host.specs.Heard.{heard_by_host}
use Rattle.law_host.specs.Notes.{first_start}
use Rattle.proof_commands.specs.Laws.{AreSchedules, first, kept_anew, transcript, told_anew}
use Rattle.law_host.proofs.WithRecords.{legal_with}
use Rattle.proof_commands.proofs.Legally.{has_given, if_anew, stored_so_far}
use Rattle.proof_commands.proofs.Told.{records_left}
use Rattle.proof_commands.proofs.laws.stories_are_legal.Goals as goal

pub returns : goal.returns
returns c = λ key old new story unentered is fair whole all.
    let tells = fair.run.told in
    let past = transcript key old story in
    let told = told_anew old.records new.records in
    let schedules : whole ≡ true → AreSchedules (first key old) story = λ ended. (all ended).schedules in
    let well = c.stories_keep_records.ensures key old new story unentered is tells in
    let alone = c.stories_are_heard.ensures.legal key old new story unentered is tells whole schedules in
    let heard : whole ≡ true → old.records ≡ Some [] → IfSome new.records (KeepsRecords (heard_by_host past)) =
    λ ended none. subst (λ (o : Option (List (List ℕ))). IfSome o (KeepsRecords (heard_by_host past))) (records_left key old new story unentered is (all ended).all_entered none)
    (alone.legal.records_kept ended) in
    let shown : whole ≡ true → old.records ≡ Some [] → IfSome new.records (KeepsRecords past) =
    λ ended none. has_given past new.records (c.stories_leave_records.ensures key old new story unentered is (all ended).schedules (all ended).all_entered none) in
    record {
      answers = c.stories_answer_lines.ensures.due key old new story unentered is tells whole schedules;
      devices = c.stories_do_as_shown.ensures.devices key old new story unentered is fair whole all;
      air = c.stories_are_legal_on_air.ensures key old new story unentered is tells whole schedules;
      line = c.stories_are_legal_on_line.ensures key old new story unentered is tells whole schedules;
      host = legal_with key first_start whole (heard_by_host past) (kept_anew key old story) told alone
          (λ ended. if_anew old.records new.records (KeepsRecords (heard_by_host past)) (heard ended));
      sends = c.stories_send_what_is_due.ensures.sends key old new story unentered is tells;
      cancels = c.stories_tell_of_commands.ensures.taken_back key old new story unentered is well;
      stores = stored_so_far whole (always (listing_of old.devices)) past (c.stories_tell_of_commands.ensures.stores key old new story unentered is tells);
      shows = c.stories_answer_lines.ensures.shows key old new story unentered is tells fair.apart whole schedules;
      values = c.stories_answer_lines.ensures.stored key old new story unentered is tells whole schedules;
      records = λ ended. if_anew old.records new.records (KeepsRecords past) (shown ended);
    }
