-- What a keeper tells of records agrees with those that a run holds: so what holds of those holds of what is told.
use Rattle.std.proofs.Common.{◌≡◌, ℕ, Bool, true, List, subst}
use Rattle.std.specs.Prelude.{Option, Some, None, IfSome}
use Rattle.zw_text.specs.declared.entry.Entry.{Entry}
use Rattle.law_transcript.specs.Records.{KeepsRecords}
use Rattle.proof_asking.specs.proof_known.Known.{KeepsWhatIsSaid}
use Rattle.proof_replay.specs.Laws.{Agrees}

pub agrees_same : (told held : Option (List (List ℕ))) → held ≡ told → Agrees told held
agrees_same None held same = tt
agrees_same (Some texts) held same = same

told_kept : (told held : Option (List (List ℕ))) (heard : List Entry) → Agrees told held → IfSome held (KeepsRecords heard) → IfSome told (KeepsRecords heard)
told_kept None held heard agrees kept = tt
told_kept (Some texts) held heard agrees kept = subst (λ (o : Option (List (List ℕ))). IfSome o (KeepsRecords heard)) agrees kept

pub said_as_told : (whole : Bool) (heard : List Entry) (told held : Option (List (List ℕ))) → (whole ≡ true → Agrees told held) → KeepsWhatIsSaid whole heard held → KeepsWhatIsSaid whole heard told
said_as_told whole heard told held agrees said = record {
  answers = said.answers;
  cancels = said.cancels;
  sessions = said.sessions;
  carries = said.carries;
  stores = said.stores;
  values = said.values;
  records_kept = λ is. told_kept told held heard (agrees is) (said.records_kept is);
}
