-- What hosts keep over all that they heard, a host that starts with records keeps from its start on: so with its notes from there it is legal.
use Rattle.std.proofs.Common.{ℕ, Bool, true, false, List, [], ◌∷◌, ◌++◌, refl, subst, append_assoc}
use Rattle.std.specs.Prelude.{Option}
use Rattle.host_heard.specs.declared.told.Told.{Told}
use Rattle.port_run.specs.host_core.Network.{keys_of}
use Rattle.zw_text.specs.declared.entry.Entry.{Entry}
use Rattle.zw_text.specs.declared.entry.Entry.TheVariants.{Said}
use Rattle.law_transcript.specs.Answers.{MayAnswer, MayCancel, refusals_by_host}
use Rattle.law_transcript.specs.Lists.{EachAfter}
use Rattle.law_transcript.specs.Payloads.{FollowsBegin, MayRequest}
use Rattle.law_transcript.specs.Sessions.{MayBegin}
use Rattle.law_transcript.specs.Units.{Carried}
use Rattle.law_wire.specs.Serial.{ended}
use Rattle.law_time.specs.Heeds.{Heeds}
use Rattle.law_time.specs.Moments.{Allows}
use Rattle.law_time.specs.Queue.{may_queue}
use Rattle.law_time.specs.Choice.{may_follow, may_number, may_send}
use Rattle.law_time.specs.Unanswered.{may_give_up}
use Rattle.law_time.specs.Rests.{may_rest}
use Rattle.law_time.specs.Prompt.{IsPrompt, IsPromptAfter}
use Rattle.proof_host.proofs.Over.{each-right as each_from}
use Rattle.proof_asking.specs.proof_requests.law_host.Heard.{heeds_alone, listing_heard}
use Rattle.proof_asking.specs.proof_requests.law_host.HostLegal.{ShowsValues}
use Rattle.proof_asking.specs.proof_requests.law_host.Notes.{Start}
use Rattle.proof_asking.specs.proof_requests.law_host.Starting.{IsLegalFrom, StartsFrom}
use Rattle.proof_noting.specs.Starts.{NotesFrom}
use Rattle.proof_replay.specs.Laws.{HostsKeepLaws}

-- the end of a whole run stands after all of it
ended_from : (Law : List Entry → Entry → Type 0) (whole : Bool) (before heard : List Entry) → EachAfter Law [] (ended whole (before ++ heard)) → EachAfter Law before (ended whole heard)
ended_from Law true before heard all = each_from Law [] before (heard ++ Said [] ∷ []) (subst (λ (l : List Entry). EachAfter Law [] l) (append_assoc before heard (Said [] ∷ [])) all)
ended_from Law false before heard all = each_from Law [] before heard all

prompt_after : (heeds : Heeds) (whole : Bool) (before heard : List Entry) → IsPrompt whole heeds (before ++ heard) → IsPromptAfter before whole heeds heard
prompt_after heeds whole before heard all = record {
  fits = each_from (Allows (may_queue heeds)) [] before heard all.fits;
  turn = each_from (Allows (may_send heeds)) [] before heard all.turn;
  one_by_one = each_from (Allows may_follow) [] before heard all.one_by_one;
  numbers = each_from (Allows may_number) [] before heard all.numbers;
  begins = ended_from FollowsBegin whole before heard all.begins;
  gives_up = record { between = each_from (Allows (may_give_up heeds)) [] before heard all.gives_up.between; in_the_end = all.gives_up.in_the_end };
  rests = record { between = each_from (Allows (may_rest heeds)) [] before heard all.rests.between; in_the_end = all.rests.in_the_end };
}

pub legal_from : (key : List ℕ) (records : List (List ℕ)) (from : Start) (starts : StartsFrom records from) (whole : Bool) (heard : List Entry) (told : Option (List (List ℕ)))
    (taken : List Entry → Carried → List Told) → HostsKeepLaws (keys_of key) whole (from.before ++ heard) told → IsPrompt whole (heeds_alone taken) (from.before ++ heard)
    → NotesFrom key taken from starts.kept whole heard → IsLegalFrom key records whole heard told
legal_from key records from starts whole heard told taken laws prompt noted = record {
  start = from;
  starts = starts;
  alone = record {
    taken = taken;
    legal = record {
      answers = record {
        between = each_from (MayAnswer listing_heard (refusals_by_host listing_heard)) [] from.before heard laws.said.answers.between;
        in_the_end = laws.said.answers.in_the_end;
      };
      cancels = each_from MayCancel [] from.before heard laws.said.cancels;
      sessions = each_from MayBegin [] from.before heard laws.said.sessions;
      carries = laws.said.carries;
      link = laws.link;
      notes = noted.in_full.notes;
      stores = laws.said.stores;
      values = ended_from (ShowsValues listing_heard) whole from.before heard laws.said.values;
      sends = each_from (MayRequest listing_heard key) [] from.before heard (laws.sends key refl);
      prompt = prompt_after (heeds_alone taken) whole from.before heard prompt;
      records_kept = laws.said.records_kept;
    };
    heeded = noted.in_full.heeded;
  };
  live = noted.live;
}
