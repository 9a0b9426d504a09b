-- What the records at exit show is so of those that are told anew.
use Rattle.std.proofs.Common.{◌≡◌, ℕ, Bool, true, List, [], ◌∷◌, Option, Some, None, refl, sym, subst}
use Rattle.std.specs.Prelude.{IfSome}
use Rattle.zw_text.specs.declared.entry.Entry.{Entry}
use Rattle.law_transcript.specs.Records.{KeepsRecords}
use Rattle.law_transcript.specs.Stores.{StoresConfirmed}
use Rattle.proof_audit.specs.Transcript.{HasRecords}
use Rattle.proof_commands.specs.Laws.{told_anew}

-- ---- records

-- where none were told at first nothing is said of them
pub if_anew : (had left : Option (List (List ℕ))) (Law : List (List ℕ) → Type 0) → (had ≡ Some [] → IfSome left Law) → IfSome (told_anew had left) Law
if_anew None left Law law = tt
if_anew (Some []) left Law law = law refl
if_anew (Some (text ∷ texts)) left Law law = tt

pub has_given : (transcript : List Entry) (records : Option (List (List ℕ))) → HasRecords transcript records → IfSome records (KeepsRecords transcript)
has_given transcript records (texts, told, keeps) = subst (λ (o : Option (List (List ℕ))). IfSome o (KeepsRecords transcript)) (sym told) keeps

-- ---- values

-- what is stored in full is stored as far as a run went
pub stored_so_far : (whole : Bool) (listing : List Entry → ℕ → List ℕ) (transcript : List Entry) → StoresConfirmed true listing transcript → StoresConfirmed whole listing transcript
stored_so_far whole listing transcript stores = record { asked = stores.asked; all = λ is. stores.all refl; following = stores.following }
