-- Where what an interview told was not kept the request of it has ended all the same, and the keeper's failure is an excuse.
use Rattle.std.proofs.Common.{◌≡◌, ◌⊎◌, ℕ, ◌==◌, not, Bool, true, false, if◌then◌else◌, inl, inr, List, [], ◌∷◌, ◌++◌, length, refl, sym, ap, ◌∙◌, subst}
use Rattle.std.specs.Prelude.{Option, Some, None}
use Rattle.std.specs.List.{flat_map}
use Rattle.zw_text.specs.declared.entry.Entry.{Entry}
use Rattle.zw_text.specs.declared.entry.Entry.TheVariants as entry
use Rattle.zw_text.specs.Transcript.{shown}
use Rattle.zw_text.proofs.Views.{shown-append}
use Rattle.chip_functions.specs.declared.notice.Update.{Update}
use Rattle.chip_functions.specs.declared.notice.Update.TheVariants.{Received, RequestFailed}
use Rattle.host_requests.specs.Events.{RequestsEvent, interviewed_by}
use Rattle.host_requests.specs.Events.RequestsEvent.{Responds, CallsBack, Updates}
use Rattle.host_model.specs.State.{HostState}
use Rattle.host_model.specs.May.{IsInterviewed, May as MayHost, says_listens}
use Rattle.host_model.specs.Events.{HostEvent, Interviews, Interview_unkept, IsOwn}
use Rattle.host_model.specs.Outs.{outs}
use Rattle.host_model.specs.Taking.{InterviewEvents, told_requests}
use Rattle.host_model.proofs.Own.{sleepers_own, submitted_own}
use Rattle.host_model.proofs.Submitted.{next_is, no_more_is}
use Rattle.proof_nonces.specs.proof_work.Tasks.{KeepsInterview, ended, interviews}
use Rattle.proof_nonces.specs.proof_work.law_time.Requests.{are_none}
use Rattle.proof_nonces.specs.proof_work.law_time.Rests.{interview_end, is_unkept, unkept_at}
use Rattle.proof_nonces.specs.proof_work.proof_host.Entries.{entries_at}
use Rattle.proof_nonces.specs.proof_attempts.proof_requests.Ends.{AreToldOf, KnowsEnds}
use Rattle.proof_nonces.specs.proof_attempts.proof_requests.proof_alone.State.{HostMachine}
use Rattle.proof_nonces.specs.proof_attempts.proof_requests.proof_alone.Steps.{AreTold, Does}
use Rattle.proof_nonces.specs.proof_attempts.proof_requests.proof_alone.Phases.{Phase, Resting, Asked, Risen, Ticking, Open, Behind, Sleeping, Submitting, May}
use Rattle.proof_nonces.proofs.Noting.{noted_told}
use Rattle.proof_rests.specs.Known.{KnowsDoing, an_interview}
use Rattle.proof_rests.proofs.Walking.{EndsTold}

-- ---- an interview ended well

-- so much was brought by the request before
record IsEndedWell (h : HostState) (n : ℕ) (update : Update) : Type 0 where
  capability : ℕ
  classes : List ℕ
  interviewed : IsInterviewed h n update capability classes

received_well : (h : HostState) (update : Update) (o : Option ℕ) (n : ℕ) (told : Update) (left : List HostEvent) → interviewed_by h.requests update ≡ o → InterviewEvents update o (Interview_unkept n told ∷ left)
    → IsEndedWell h n told
received_well h (Received k basic generic specific classes) (Some capability) n told left brought (inl is) =
    absurd (let bad : Interview_unkept n told ∷ left ≡ Interviews k (says_listens capability) classes (Received k basic generic specific classes) ∷ [] = is in cc)
received_well h (Received k basic generic specific classes) (Some capability) n told left brought (inr is) =
    let of : n ≡ k = let same : Interview_unkept n told ∷ left ≡ Interview_unkept k (Received k basic generic specific classes) ∷ [] = is in cc in
    let update_is : told ≡ Received k basic generic specific classes = let same : Interview_unkept n told ∷ left ≡ Interview_unkept k (Received k basic generic specific classes) ∷ [] = is in cc in record {
      capability = capability;
      classes = classes;
      interviewed = record {
        brought = ap (λ (u : Update). interviewed_by h.requests u) update_is ∙ brought;
        types = (basic, generic, specific);
        received = update_is ∙ ap (λ (m : ℕ). Received m basic generic specific classes) (sym of);
      };
    }
received_well h RequestFailed (Some capability) n told left brought is = absurd (let bad : Interview_unkept n told ∷ left ≡ [] = is in cc)
received_well h (Received k basic generic specific classes) None n told left brought is =
    absurd (let bad : Interview_unkept n told ∷ left ≡ told_requests (Updates (Received k basic generic specific classes)) = is in cc)
received_well h RequestFailed None n told left brought is = absurd (let bad : Interview_unkept n told ∷ left ≡ told_requests (Updates RequestFailed) = is in cc)

told_well : (h : HostState) (event : RequestsEvent) (n : ℕ) (update : Update) (left : List HostEvent) → AreToldOf h event (Interview_unkept n update ∷ left) → IsEndedWell h n update
told_well h (Responds response) n update left is = absurd (let bad : Interview_unkept n update ∷ left ≡ told_requests (Responds response) = is in cc)
told_well h (CallsBack id status) n update left is = absurd (let bad : Interview_unkept n update ∷ left ≡ told_requests (CallsBack id status) = is in cc)
told_well h (Updates now) n update left is = received_well h now (interviewed_by h.requests now) n update left refl is
told_well h event n update left is = absurd is

behind_well : (past : List Entry) (m : HostMachine) (n : ℕ) (update : Update) (left : List HostEvent) → KnowsEnds (Behind (Interview_unkept n update ∷ left)) past m → IsEndedWell m.state n update
behind_well past m n update left (inl (none, owes)) = absurd none.0
behind_well past m n update left (inr (inl frame)) = told_well m.state frame.event n update left frame.told
behind_well past m n update left (inr (inr line)) = absurd (let is = line.told in let bad : Interview_unkept n update ∷ left ≡ told_requests line.event = is in cc)

-- it is not kept only behind a frame
unkept_well : (here next : Phase) (past told : List Entry) (m : HostMachine) (n : ℕ) (update : Update) → May here m (Does (Interview_unkept n update) told) next → KnowsDoing here past m → IsEndedWell m.state n update
unkept_well (Ticking (first ∷ left)) next past told m n update may ground = absurd (subst IsOwn (sym may.0.0) ground.1.0.0.0.0.1.0.0)
unkept_well (Behind (first ∷ left)) next past told m n update may ground =
    behind_well past m n update left (subst (λ (e : HostEvent). KnowsEnds (Behind (e ∷ left)) past m) (sym may.0.0) ground.1.1)
unkept_well Sleeping next past told m n update may ground =
    let (node, wants, is, to_is) = may.0 in absurd (subst IsOwn (sym is) (no_more_is IsOwn sleepers_own m.state node))
unkept_well Submitting next past told m n update may ground = absurd (next_is IsOwn submitted_own m.state (Interview_unkept n update) may.0.0)
unkept_well (Ticking []) next past told m n update may ground = absurd may.0
unkept_well (Behind []) next past told m n update may ground = absurd may.0
unkept_well Resting next past told m n update may ground = absurd may.0
unkept_well (Asked line) next past told m n update may ground = absurd may.0
unkept_well Risen next past told m n update may ground = absurd may.0
unkept_well Open next past told m n update may ground = absurd may.0

-- ---- what is entered

-- what proof_work says of interviews: their ends are entered
abbrev pub InterviewsTold : Type 0
InterviewsTold = (n : ℕ) (h : HostState) (event : HostEvent) → MayHost h event → KeepsInterview event → length (flat_map (interview_end n) (entries_at h event)) ≡ length (interviews n (ended h event))

some_after : (first more : List ℕ) (n : ℕ) → not (are_none (first ++ n ∷ more)) ≡ true
some_after [] more n = refl
some_after (k ∷ first) more n = refl

pub still_unkept : (n : ℕ) (since told : List Entry) → is_unkept n since ≡ true → is_unkept n (since ++ told) ≡ true
still_unkept n since told is = ap (λ (l : List ℕ). not (are_none l)) (shown-append (unkept_at n) since told) ∙ by (shown (unkept_at n) since) is
  where
    by : (l : List ℕ) → not (are_none l) ≡ true → not (are_none (l ++ shown (unkept_at n) told)) ≡ true
    by [] some = absurd (let bad : false ≡ true = some in cc)
    by (k ∷ l) some = refl

module _ (ends : InterviewsTold) (n : ℕ) where
  -- of its own node it is an excuse; of any other nothing ends
  unkept_ends : (h : HostState) (k : ℕ) (update : Update) (told : List Entry) → IsEndedWell h k update → AreTold (outs h (Interview_unkept k update)) told
      → (length (shown (an_interview n).ends (entries_at h (Interview_unkept k update))) ≡ length (flat_map (an_interview n).among (ended h (Interview_unkept k update))))
      ⊎ ((since : List Entry) → is_unkept n (since ++ told) ≡ true)
  unkept_ends h k update told well are = by (k == n) refl
    where
      told_is : told ≡ entry.Unkept k ∷ []
      told_is = noted_told (entry.Unkept k ∷ []) told are

      by : (b : Bool) → (k == n) ≡ b
          → (length (shown (an_interview n).ends (entries_at h (Interview_unkept k update))) ≡ length (flat_map (an_interview n).among (ended h (Interview_unkept k update))))
          ⊎ ((since : List Entry) → is_unkept n (since ++ told) ≡ true)
      by true is =
          inr (λ since. ap (λ (l : List ℕ). not (are_none l)) (shown-append (unkept_at n) since told ∙ ap (λ (l : List Entry). shown (unkept_at n) since ++ shown (unkept_at n) l) told_is
          ∙ ap (λ (b : Bool). shown (unkept_at n) since ++ ((if b then k ∷ [] else []) ++ [])) is) ∙ some_after (shown (unkept_at n) since) [] k)
      by false is =
          inl (sym (sym (ends n h (Interviews k (says_listens well.capability) well.classes update) (well.capability, well.interviewed, refl) tt)
          ∙ ap (λ (b : Bool). length ((if b then k ∷ [] else []) ++ [])) is))

  pub interviews_told : EndsTold (an_interview n) (is_unkept n)
  interviews_told here next past told m (Interview_unkept k update) may ground = unkept_ends m.state k update told (unkept_well here next past told m k update may ground) may.2
  interviews_told here next past told m event may ground = inl (ends n m.state event may.1.0 tt)
