-- A fold that looks ahead for a refusal alone, over one list behind another.
use Rattle.std.proofs.Common.{◌≡◌, false, List, [], ◌∷◌, ◌++◌, sym, ap, ◌∙◌, append-nil, append_assoc}
use Rattle.zw_text.specs.declared.entry.Entry.{Entry}
use Rattle.proof_work.specs.law_transcript.Restarts.{begins_refused}
use Rattle.proof_requests.proofs.proof_waking_Apart.{same_refused}

-- each step has the entries before it and those after it
module _ {S : Type 0} (step : List Entry → S → Entry → List Entry → S)
    (same : (past : List Entry) (s : S) (e : Entry) (rest other : List Entry) → begins_refused rest ≡ begins_refused other → step past s e rest ≡ step past s e other) where
  abbrev pub ahead_from : List Entry → S → List Entry → S
  ahead_from past s [] = s
  ahead_from past s (e ∷ rest) = ahead_from (past ++ e ∷ []) (step past s e rest) rest

  pub ahead_joined : (start : List Entry) (s : S) (past told : List Entry) → begins_refused told ≡ false → ahead_from start s (past ++ told) ≡ ahead_from (start ++ past) (ahead_from start s past) told
  ahead_joined start s [] told fresh = ap (λ (l : List Entry). ahead_from l s told) (sym (append-nil start))
  ahead_joined start s (e ∷ []) told fresh = ap (λ (next : S). ahead_from (start ++ e ∷ []) next told) (same start s e told [] fresh)
  ahead_joined start s (e ∷ (next ∷ past)) told fresh =
      ap (λ (one : S). ahead_from (start ++ e ∷ []) one (next ∷ (past ++ told))) (same start s e (next ∷ (past ++ told)) (next ∷ past) (same_refused next past told))
      ∙ ahead_joined (start ++ e ∷ []) (step start s e (next ∷ past)) (next ∷ past) told fresh
      ∙ ap (λ (l : List Entry). ahead_from l (ahead_from start s (e ∷ (next ∷ past))) told) (append_assoc start (e ∷ []) (next ∷ past))
