-- A host that is legal with some records is so with any others that say what it showed.
use Rattle.std.proofs.Common.{◌≡◌, ℕ, Bool, true, List, ◌++◌, Option}
use Rattle.std.specs.Prelude.{IfSome}
use Rattle.zw_text.specs.declared.entry.Entry.{Entry}
use Rattle.law_time.specs.law_transcript.Records.{KeepsRecords}
use Rattle.law_host.specs.HostLegal.{IsLegalAlone}
use Rattle.law_host.specs.Notes.{Start}

pub legal_with : (key : List ℕ) (start : Start) (whole : Bool) (heard : List Entry) (held told : Option (List (List ℕ))) → IsLegalAlone key start whole heard held
    → (whole ≡ true → IfSome told (KeepsRecords (start.before ++ heard))) → IsLegalAlone key start whole heard told
legal_with key start whole heard held told alone shown = record {
  taken = alone.taken;
  legal = record {
    answers = alone.legal.answers;
    cancels = alone.legal.cancels;
    sessions = alone.legal.sessions;
    carries = alone.legal.carries;
    link = alone.legal.link;
    notes = alone.legal.notes;
    stores = alone.legal.stores;
    values = alone.legal.values;
    sends = alone.legal.sends;
    prompt = alone.legal.prompt;
    records_kept = shown;
  };
  heeded = alone.heeded;
}
