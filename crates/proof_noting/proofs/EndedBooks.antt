-- The books of a course after the end of a request in a host alone: they are the host's, where what was sent has ended well, and where it has ended badly.
use Rattle.std.proofs.Common.{◌≡◌, ℕ, ◌==◌, ◌||◌, Bool, true, false, if◌then◌else◌, inl, inr, List, [], ◌∷◌, ◌++◌, Option, Some, None, refl, sym, ap, ◌∙◌, subst}
use Rattle.std.specs.Prelude.{is_some, slice_index}
use Rattle.std.proofs.lemmas.Bool.{both_ways}
use Rattle.chip_functions.specs.Field.{IsNode}
use Rattle.chip_functions.specs.declared.notice.TransmitStatus.TheVariants.{CompleteOk, Fail, NoAck, NoRoute, NotIdle}
use Rattle.zw_text.specs.declared.entry.Entry.{Entry}
use Rattle.host_heard.specs.declared.told.Told.{Told}
use Rattle.law_transcript.specs.Lists.{EachAfter}
use Rattle.law_transcript.specs.Units.{Carried}
use Rattle.law_time.specs.Heeds.{Heeds}
use Rattle.law_time.specs.Judged.{last_of}
use Rattle.law_time.specs.Sessions.{last_command}
use Rattle.host_requests.specs.Events.{RequestsEvent, end_at}
use Rattle.host_requests.specs.declared.end.How.{How}
use Rattle.host_requests.specs.declared.end.How.TheVariants.{AbortSent, AtCallback, AtResponse, AtUpdate, LinkFailed, Refused, Silent}
use Rattle.host_requests.specs.declared.task.Task.{Task}
use Rattle.host_requests.specs.declared.task.Task.TheVariants.{Segment}
use Rattle.host_requests.specs.declared.task.Purpose.{Purpose}
use Rattle.host_requests.specs.declared.task.Purpose.TheVariants.{Abort, Attempt, Housekeeping}
use Rattle.host_requests.specs.declared.under_way.UnderWay.{UnderWay}
use Rattle.host_node.specs.State.{NodeState}
use Rattle.host_node.specs.Steps.{attempt_end}
use Rattle.host_node.specs.declared.attempt.Moment.{Moment}
use Rattle.host_model.specs.State.{HostState, node_of}
use Rattle.host_model.specs.After.{after, requests_do}
use Rattle.host_model.specs.Ends.{Bad, Good as part_good, PartEnd, Passed_over, end_entries, end_entries_if, part_end, part_entries}
use Rattle.host_model.specs.Events.{Requests_do}
use Rattle.host_model.specs.Facts.{HostFacts}
use Rattle.host_model.specs.Outs.{request_entries}
use Rattle.proof_hearing.specs.proof_choice.proof_giving.Tie.{has_text}
use Rattle.proof_hearing.specs.Books.{BooksSo}
use Rattle.proof_hearing.specs.proof_queue.proof_attempts.proof_requests.Carrying.{CarriesSo}
use Rattle.proof_hearing.specs.proof_queue.proof_attempts.proof_requests.law_host.Course.{Course, without_texts}
use Rattle.proof_hearing.specs.proof_queue.proof_attempts.proof_requests.law_host.Ends.{ends_sealing}
use Rattle.proof_hearing.specs.proof_queue.proof_attempts.proof_requests.law_host.Heard.{heeds_alone}
use Rattle.proof_hearing.specs.proof_queue.proof_attempts.proof_requests.law_host.Nonces.{is_late}
use Rattle.proof_hearing.specs.proof_queue.proof_attempts.proof_work.Doing.{IsTold}
use Rattle.proof_hearing.proofs.Alike.{Alike}
use Rattle.proof_hearing.specs.proof_choice.proof_following.Ended.{GaveUp, outcome_entries, sent_by}
use Rattle.proof_noting.proofs.AsksSealed.{AskSo}
use Rattle.proof_noting.proofs.EndCourse.{made_of}
use Rattle.proof_noting.proofs.EndLeaves.{CutOff, EndLeaves, NodeEnds, cut_at, itself, kept_at, node_ends, others_at, request_leaves}
use Rattle.proof_noting.proofs.EndLeaves.NodeEnds.{Is_cut, Stays_so}
use Rattle.proof_noting.proofs.EndNotes.{attempt_keep, attempt_node, resent_node, task_keep}
use Rattle.proof_noting.proofs.Lately.{KeepsLate, late_on}
use Rattle.proof_noting.proofs.LeftBooks.{AreUnsealed, bad_books, kept_books, late_books, stale_so, task_unsealed}
use Rattle.proof_noting.proofs.Sendings.{ToNodes}

-- ---- what was sent

-- what is not sealed leaves no text that waits
made_unsealed : (sent : List Carried) → AreUnsealed sent → (outcome : List Entry) (c : Course) → made_of sent false outcome c ≡ c
made_unsealed [] all outcome c = refl
made_unsealed (one ∷ more) all outcome c = ap (λ (b : Bool). if b then without_texts one.node c else c) all.0

textless : (s : NodeState) → has_text s ≡ false → (s.text ≡ None) × (s.pending ≡ None)
textless s none = by s.text s.pending refl refl none
  where
    by : (o q : Option (List ℕ)) → s.text ≡ o → s.pending ≡ q → (is_some o || is_some q) ≡ false → (s.text ≡ None) × (s.pending ≡ None)
    by None None text pending is = (text, pending)
    by None (Some plain) text pending is = absurd (let bad : true ≡ false = is in cc)
    by (Some sealed) q text pending is = absurd (let bad : true ≡ false = is in cc)

module _ (key : List ℕ) (taken : List Entry → Carried → List Told) (past whole : List Entry) (h : HostState) (facts : HostFacts h) (event : RequestsEvent) (of_told : IsTold event) (moment : Moment)
    (u : UnderWay) (how : How)
    (under : h.requests.under_way ≡ Some u) (e : end_at h.requests event ≡ Some (record { purpose = u.purpose; how = how })) (asks : (n : ℕ) → IsNode n → AskSo h n) (id : ℕ)
    (nodes : ToNodes (sent_by u.purpose id)) (carries : CarriesSo u.purpose) (c : Course) (so : BooksSo key (heeds_alone taken) past h c)
    (late : (n : ℕ) → IsNode n → is_late (heeds_alone taken) past n ≡ true → is_late (heeds_alone taken) whole n ≡ true) (last : (n : ℕ) → last_command n whole ≡ last_of (node_of h n).book.commands) where
  abbrev heeds : Heeds
  heeds = heeds_alone taken

  abbrev g : HostState
  g = requests_do h event

  abbrev notes : List Entry
  notes = request_entries h event

  abbrev outcome : List Entry
  outcome = outcome_entries g u.purpose how

  abbrev later : List Entry
  later = whole ++ notes

  abbrev ended : HostState
  ended = after h (Requests_do event moment)

  abbrev Then : Course → Type 0
  Then x = BooksSo key heeds later ended x

  kept : EndLeaves h ended
  kept = request_leaves h event moment of_told

  -- ---- which attempts stay late

  keep_all : outcome ≡ [] → (n : ℕ) → EachAfter (KeepsLate taken n) whole notes
  keep_all none n = subst (EachAfter (KeepsLate taken n) whole) (sym (ap (end_entries_if g) e)) (by u.purpose refl)
    where
      by : (p : Purpose) → u.purpose ≡ p → EachAfter (KeepsLate taken n) whole (end_entries g (record { purpose = p; how = how }))
      by (Attempt k more payload) is = subst (EachAfter (KeepsLate taken n) whole) (sym (sym (ap (λ (q : Purpose). outcome_entries g q how) is) ∙ none)) tt
      by (Housekeeping task) is = task_keep taken n whole g task how
      by Abort is = tt

  keep_others : (k : ℕ) (more : Bool) (payload : List ℕ) → u.purpose ≡ Attempt k more payload → (n : ℕ) → (n ≡ k → ⊥) → EachAfter (KeepsLate taken n) whole notes
  keep_others k more payload is n other =
      subst (EachAfter (KeepsLate taken n) whole) (sym (ap (end_entries_if g) e ∙ ap (λ (q : Purpose). end_entries g (record { purpose = q; how = how })) is)) (by (part_end more how))
    where
      by : (part : PartEnd) → EachAfter (KeepsLate taken n) whole (part_entries g k part)
      by part_good = tt
      by Passed_over = tt
      by Bad = attempt_keep taken n whole h facts (last n) k other (attempt_end (node_of h k))

  late_all : outcome ≡ [] → (n : ℕ) → IsNode n → is_late heeds past n ≡ true → is_late heeds (whole ++ notes) n ≡ true
  late_all none n is was = late_on taken n whole notes (keep_all none n) (late n is was)

  late_others : (k : ℕ) (more : Bool) (payload : List ℕ) → u.purpose ≡ Attempt k more payload → (n : ℕ) → IsNode n → (n ≡ k → ⊥) → is_late heeds past n ≡ true → is_late heeds (whole ++ notes) n ≡ true
  late_others k more payload purpose n is other was = late_on taken n whole notes (keep_others k more payload purpose n other) (late n is was)

  -- ---- where nothing is cleared

  -- each node stays so, where no attempt ends badly
  stays : ((n : ℕ) (more : Bool) (payload : List ℕ) → u.purpose ≡ Attempt n more payload → part_end more how ≡ Bad → ⊥) → (m : ℕ) → IsNode m → Alike (node_of h m) (node_of ended m)
  stays none m is = by (node_ends h facts event moment u.purpose how e m is)
    where
      by : NodeEnds u.purpose how m (node_of h m) (node_of ended m) → Alike (node_of h m) (node_of ended m)
      by (Stays_so alike) = alike
      by (Is_cut more payload purpose bad cut) = absurd (none m more payload purpose bad)

  stay_books : ((n : ℕ) (more : Bool) (payload : List ℕ) → u.purpose ≡ Attempt n more payload → part_end more how ≡ Bad → ⊥) → outcome ≡ [] → Then c
  stay_books none nothing = kept_books key taken past later h ended kept c (stays none) (late_all nothing) so

  -- it is of a task
  task_stays : (task : Task) → u.purpose ≡ Housekeeping task → outcome ≡ [] → Then c
  task_stays task is = stay_books (λ n more payload purpose bad. let no : Housekeeping task ≡ Attempt n more payload = sym is ∙ purpose in cc)

  -- or an abort
  abort_stays : u.purpose ≡ Abort → outcome ≡ [] → Then c
  abort_stays is = stay_books (λ n more payload purpose bad. let no : Abort ≡ Attempt n more payload = sym is ∙ purpose in cc)

  -- ---- an attempt

  module _ (n : ℕ) (more : Bool) (payload : List ℕ) (purpose : u.purpose ≡ Attempt n more payload) where
    is_node : IsNode n
    is_node = attempt_node u.purpose id nodes n more payload purpose

    late_there : (m : ℕ) → IsNode m → (m ≡ n → ⊥) → is_late heeds past m ≡ true → is_late heeds later m ≡ true
    late_there m is other was = late_others n more payload purpose m is other was

    -- what of it waits in the book alone is of one that is late
    idle_books : part_end more how ≡ Bad → (node_of h n).pending ≡ None → outcome ≡ [] → Then c
    idle_books bad none nothing =
        let freed : CutOff (node_of h n) (node_of ended n) = cut_at h facts event moment u.purpose how e n more payload purpose is_node bad in
        let others : (m : ℕ) → (m ≡ n → ⊥) → Alike (node_of h m) (node_of ended m) = others_at h facts event moment u.purpose how e n more payload purpose bad in
        late_books key taken past later h ended kept n is_node others freed late_there c
        (stale_so key taken past later h ended kept n is_node others freed late_there c none (late_all nothing n is_node) so) so

    well_books : (part : PartEnd) → part_end more how ≡ part → (part ≡ Bad → ⊥) → outcome ≡ [] → Then c
    well_books part is well nothing =
        stay_books
        (λ m follows text other bad.
        let both : Attempt n more payload ≡ Attempt m follows text = sym purpose ∙ other in
        let same : more ≡ follows = cc in
        well (sym is ∙ ap (λ (b : Bool). part_end b how) same ∙ bad)) nothing

    quiet_attempt : (part : PartEnd) → part_end more how ≡ part → (part_end more how ≡ Bad → (node_of h n).pending ≡ None) → outcome ≡ [] → Then c
    quiet_attempt part_good is waits nothing = well_books part_good is (λ bad. cc) nothing
    quiet_attempt Passed_over is waits nothing = well_books Passed_over is (λ bad. cc) nothing
    quiet_attempt Bad is waits nothing = idle_books is (waits is) nothing

    -- a segment is passed over where others follow it, and then no text waits
    passed_more : (b : Bool) (way : How) → part_end b way ≡ Passed_over → b ≡ true
    passed_more true way passed = refl
    passed_more false (AtCallback CompleteOk) is = absurd (let no : part_good ≡ Passed_over = is in cc)
    passed_more false (AtCallback NoAck) is = absurd (let no : Bad ≡ Passed_over = is in cc)
    passed_more false (AtCallback Fail) is = absurd (let no : Bad ≡ Passed_over = is in cc)
    passed_more false (AtCallback NotIdle) is = absurd (let no : Bad ≡ Passed_over = is in cc)
    passed_more false (AtCallback NoRoute) is = absurd (let no : Bad ≡ Passed_over = is in cc)
    passed_more false (AtResponse response) is = absurd (let no : Bad ≡ Passed_over = is in cc)
    passed_more false (AtUpdate update capability) is = absurd (let no : Bad ≡ Passed_over = is in cc)
    passed_more false Refused is = absurd (let no : Bad ≡ Passed_over = is in cc)
    passed_more false Silent is = absurd (let no : Bad ≡ Passed_over = is in cc)
    passed_more false LinkFailed is = absurd (let no : Bad ≡ Passed_over = is in cc)
    passed_more false AbortSent is = absurd (let no : Bad ≡ Passed_over = is in cc)

    passed_cut : part_end more how ≡ Passed_over → CutOff (node_of h n) (node_of ended n)
    passed_cut passed =
        let left = textless (node_of h n) (no_texts (has_text (node_of h n)) refl (passed_more more how passed)) in
        subst (λ (t : NodeState). CutOff (node_of h n) t) (sym (kept_at h facts event moment u.purpose how e n more payload purpose passed n))
        (record { cleared = record { seen = refl; text = left.0; pending = left.1 }; opened = refl; commands = refl })
      where
        no_texts : (b : Bool) → has_text (node_of h n) ≡ b → more ≡ true → b ≡ false
        no_texts false has follows = refl
        no_texts true has follows = absurd (both_ways more ((asks n is_node).last has u more payload under purpose) follows)

    module _ (gone : Bool) (none : gone ≡ false → outcome ≡ []) where
      abbrev one : Carried
      one = record { node = n; payload = payload }

      gave : (b : Bool) → (b ≡ false → outcome ≡ []) → GaveUp (ends_sealing one c) n outcome (made_of (one ∷ []) b outcome c)
      gave true nothing = inr refl
      gave false nothing = inl (nothing refl, refl)

      cut_books : CutOff (node_of h n) (node_of ended n) → ((m : ℕ) → (m ≡ n → ⊥) → Alike (node_of h m) (node_of ended m)) → Then (made_of (one ∷ []) gone outcome c)
      cut_books freed others =
          bad_books key taken past later h ended kept n is_node others freed late_there payload outcome c (made_of (one ∷ []) gone outcome c)
          (λ plain pending. (asks n is_node).asks plain pending u more payload under purpose) (λ nothing was. late_all nothing n is_node was) (gave gone none) so

      bad_attempt : (part : PartEnd) → part_end more how ≡ part → (part ≡ part_good → ⊥) → Then (made_of (one ∷ []) gone outcome c)
      bad_attempt part_good is other = absurd (other refl)
      bad_attempt Passed_over is other =
          cut_books (passed_cut is)
          (λ m another. subst (λ (t : NodeState). Alike (node_of h m) t) (sym (kept_at h facts event moment u.purpose how e n more payload purpose is m)) (itself (node_of h m)))
      bad_attempt Bad is other =
          cut_books (cut_at h facts event moment u.purpose how e n more payload purpose is_node is) (others_at h facts event moment u.purpose how e n more payload purpose is)

  -- ---- whichever it is of

  -- nothing has ended badly
  pub kept_ended : outcome ≡ [] → ((n : ℕ) (more : Bool) (payload : List ℕ) → u.purpose ≡ Attempt n more payload → part_end more how ≡ Bad → (node_of h n).pending ≡ None) → Then c
  kept_ended none waits = by u.purpose refl
    where
      by : (p : Purpose) → u.purpose ≡ p → Then c
      by (Attempt n more payload) is = quiet_attempt n more payload is (part_end more how) refl (waits n more payload is) none
      by (Housekeeping task) is = task_stays task is none
      by Abort is = abort_stays is none

  module _ (not_good : (n : ℕ) (more : Bool) (payload : List ℕ) → u.purpose ≡ Attempt n more payload → part_end more how ≡ part_good → ⊥) (gone : Bool) (none : gone ≡ false → outcome ≡ [])
      (some : gone ≡ true → outcome ≡ [] → ⊥) (none_sent : sent_by u.purpose id ≡ [] → outcome ≡ []) where
    of_task : (task : Task) → u.purpose ≡ Housekeeping task → (b : Bool) → gone ≡ b → Then (made_of (sent_by u.purpose id) gone outcome c)
    of_task task is true gone_is = absurd (some gone_is (ap (λ (q : Purpose). outcome_entries g q how) is))
    of_task task is false gone_is =
        subst Then
        (sym (ap (λ (x : Bool). made_of (sent_by u.purpose id) x outcome c) gone_is ∙ ap (λ (q : Purpose). made_of (sent_by q id) false outcome c) is
        ∙ made_unsealed (sent_by (Housekeeping task) id) (task_unsealed id task (subst CarriesSo is carries) again) outcome c)) (task_stays task is (none gone_is))
      where
        again : (n : ℕ) (payload : List ℕ) → task ≡ Segment n payload → (slice_index payload 0 == 0x98) ≡ false
        again n payload at =
            let resent : u.purpose ≡ Housekeeping (Segment n payload) = is ∙ ap (λ (t : Task). Housekeeping t) at in (asks n (resent_node u.purpose id nodes n payload resent)).again u payload under resent

    -- what was sent has
    pub bad_ended : Then (made_of (sent_by u.purpose id) gone outcome c)
    bad_ended = by u.purpose refl
      where
        by : (p : Purpose) → u.purpose ≡ p → Then (made_of (sent_by u.purpose id) gone outcome c)
        by (Attempt n more payload) is =
            subst (λ (q : Purpose). Then (made_of (sent_by q id) gone outcome c)) (sym is)
            (bad_attempt n more payload is gone none (part_end more how) refl (λ good. not_good n more payload is good))
        by (Housekeeping task) is = of_task task is gone refl
        by Abort is =
            let nothing : sent_by u.purpose id ≡ [] = ap (λ (q : Purpose). sent_by q id) is in
            subst (λ (l : List Carried). Then (made_of l gone outcome c)) (sym nothing) (abort_stays is (none_sent nothing))
