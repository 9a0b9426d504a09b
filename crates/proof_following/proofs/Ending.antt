-- What the end of a request by a frame makes of the course of notes: what the host notes of it is due, in order, its record is asked for, and no request is under way.
use Rattle.std.proofs.Common.{◌≡◌, ◌⊎◌, ℕ, ◌==◌, ◌&&◌, ◌||◌, not, Bool, true, false, if◌then◌else◌, inl, inr, List, [], ◌∷◌, ◌++◌, map, refl, sym, ap, ap₂, ◌∙◌, subst, append-nil, append_assoc}
use Rattle.std.specs.Prelude.{filter}
use Rattle.std.specs.List.{flat_map, list_any}
use Rattle.std.proofs.lemmas.Bool.{and_left, and_right, both_ways, eqb-true}
use Rattle.chip_functions.specs.Notice.{status_code}
use Rattle.chip_functions.specs.declared.notice.Notice.{Notice}
use Rattle.chip_functions.specs.declared.notice.Notice.TheVariants.{SendData as CalledBack, ApplicationUpdate}
use Rattle.chip_functions.specs.declared.notice.Update.TheVariants.{Received}
use Rattle.chip_functions.specs.declared.request.Request.{Request}
use Rattle.chip_functions.specs.declared.request.Request.TheVariants as requests
use Rattle.chip_functions.specs.declared.response.Response.TheVariants as responses
use Rattle.zw_text.specs.declared.entry.Done.{Done as HowDone}
use Rattle.zw_text.specs.declared.entry.Done.TheVariants as done
use Rattle.zw_text.specs.declared.entry.Entry.{Entry}
use Rattle.zw_text.specs.declared.entry.Entry.TheVariants as entry
use Rattle.law_transcript.specs.Units.{Carried, sending_in, sending_of}
use Rattle.law_time.specs.Heeds.{Heeds}
use Rattle.law_time.specs.Ends.{calls_back, ending, ends_here, is_answered_here, is_called_back, is_ending_here, is_given_up, is_refused_here, is_silent}
use Rattle.law_time.specs.Errands.{errand}
use Rattle.law_time.specs.Interviews.{asks_information, ends_uninformed, ends_unknown, fails, informs, is_known, node_interviewed, says_none, succeeds}
use Rattle.law_time.specs.Judged.{acknowledged, is_following, notices_here, responses_here}
use Rattle.law_time.specs.Requests.{Judging, asked, request_last}
use Rattle.law_time.specs.Unanswered.{to_give_up}
use Rattle.host_requests.specs.declared.end.How.{How}
use Rattle.host_requests.specs.declared.end.How.TheVariants.{AtCallback, AtResponse, AtUpdate, Refused, Silent, LinkFailed}
use Rattle.host_requests.specs.declared.task.Task.TheVariants.{Plain, NoMore, Second, Neighbours, IsFailed}
use Rattle.host_requests.specs.declared.task.Purpose.{Purpose}
use Rattle.host_requests.specs.declared.task.Purpose.TheVariants.{Housekeeping, Attempt, Abort}
use Rattle.host_node.specs.Steps.{falls_asleep}
use Rattle.host_model.specs.State.{HostState, node_of}
use Rattle.host_model.specs.Ends.{PartEnd, Good, Passed_over, Bad, asleep_entry, done_of, end_entries, failed_entry, neighbours_entry, part_end, part_entries}
use Rattle.proof_ends.specs.proof_requests.law_host.Course.{Course, each_in_turn, if_kept, with_note, with_notes, without_texts}
use Rattle.proof_ends.specs.proof_requests.law_host.Ends.{answer_to, done_notes, ends_badly, ends_interview, ends_sealing, ends_with, ends_without, failed_notes, frame_notes, gives_up, gives_up_late, is_of_sealed, sleep_note, sleep_notes, to_give_up_by_end, ways}
use Rattle.proof_ends.specs.Ends.{seconds_of}
use Rattle.proof_ends.specs.proof_requests.Ends.{EndsHere}
use Rattle.proof_following.specs.Ended.{AreGone, EndingOf, EndsAs, GaveUp, GoneOf, GoneSo, IsByFrame, IsLate, answer_entries, errand_entries, failed_entries, noted_by, outcome_entries, sent_by, sleep_entries}
use Rattle.proof_following.specs.Ended.EndsAs.{Ends_well, Ends_badly, Gives_it_up}
use Rattle.proof_ends.proofs.EndsDone.{ends_as_done}
use Rattle.proof_ends.proofs.Noting.{answered_ends, answered_none, asleep_is, badly, given_none, second_of, silent_none}

-- ---- in which way

first_of : (a b : Bool) → (a && b) ≡ true → a ≡ true
first_of true b is = refl
first_of false b is = is

no_way : {A : Type 0} → false ≡ true → A
no_way bad = absurd (let b : false ≡ true = bad in cc)

calls_one : (k j : ℕ) (asks : List Request) (notices : List Notice) → (k == j) ≡ false → calls_back k asks notices ≡ true → calls_back j asks notices ≡ false
calls_one k j (requests.SendData node payload options id ∷ more) (CalledBack callback result ∷ others) other is =
    let code : status_code result ≡ k = eqb-true (status_code result) k (second_of (callback == id) (status_code result == k) is) in
    and_right (callback == id) (status_code result == j) (ap (λ (n : ℕ). n == j) code ∙ other)
calls_one k j asks notices other is = no_way is

calls_none : (j : ℕ) (asks : List Request) → calls_back j asks [] ≡ false
calls_none j [] = refl
calls_none j (requests.SendData node payload options id ∷ more) = refl
calls_none j (request ∷ more) = refl

-- what is chosen of some ways
abbrev chosen : HowDone → Bool → List HowDone → List HowDone
chosen how b rest = if b then how ∷ rest else rest

module _ (past : List Entry) where
  called_one : (k j : ℕ) → (k == j) ≡ false → is_called_back k past ≡ true → is_called_back j past ≡ false
  called_one k j other is =
      and_left (calls_back j (request_last past) (notices_here past)) (is_ending_here past)
      (calls_one k j (request_last past) (notices_here past) other (first_of (calls_back k (request_last past) (notices_here past)) (is_ending_here past) is))

  refused_alone : (j : ℕ) → is_refused_here past ≡ true → is_called_back j past ≡ false
  refused_alone j is =
      and_left (calls_back j (request_last past) (notices_here past)) (is_ending_here past)
      (ap (λ (l : List Notice). calls_back j (request_last past) l) (answered_none past (second_of _ (is_answered_here past) is)) ∙ calls_none j (request_last past))

  called_alone : (k : ℕ) → is_called_back k past ≡ true → is_refused_here past ≡ false
  called_alone k is = by (is_refused_here past) refl
    where
      by : (b : Bool) → is_refused_here past ≡ b → b ≡ false
      by false same = refl
      by true same = absurd (both_ways (is_called_back k past) (refused_alone k same) is)

  no_ending : ending (asked past) ≡ [] → is_ending_here past ≡ false
  no_ending none = and_right (is_following past) _ (ap (λ (l : List Judging). list_any (λ one. one.place == acknowledged past) l) none)

  -- where a frame ends it just one way is
  one_way : (how : HowDone) → is_ending_here past ≡ true → ends_here past how ≡ true → filter (ends_here past) ways ≡ how ∷ []
  one_way done.Delivered ending is =
      ap₂ (chosen done.Delivered) is (ap₂ (chosen done.NoAck) (called_one 0 1 refl is) (ap₂ (chosen done.Fail) (called_one 0 2 refl is) (ap₂ (chosen done.NotIdle) (called_one 0 3 refl is)
      (ap₂ (chosen done.NoRoute) (called_one 0 4 refl is) (ap₂ (chosen done.Refused) (called_alone 0 is) refl)))))
  one_way done.NoAck ending is =
      ap₂ (chosen done.Delivered) (called_one 1 0 refl is) (ap₂ (chosen done.NoAck) is (ap₂ (chosen done.Fail) (called_one 1 2 refl is) (ap₂ (chosen done.NotIdle) (called_one 1 3 refl is)
      (ap₂ (chosen done.NoRoute) (called_one 1 4 refl is) (ap₂ (chosen done.Refused) (called_alone 1 is) refl)))))
  one_way done.Fail ending is =
      ap₂ (chosen done.Delivered) (called_one 2 0 refl is) (ap₂ (chosen done.NoAck) (called_one 2 1 refl is) (ap₂ (chosen done.Fail) is (ap₂ (chosen done.NotIdle) (called_one 2 3 refl is)
      (ap₂ (chosen done.NoRoute) (called_one 2 4 refl is) (ap₂ (chosen done.Refused) (called_alone 2 is) refl)))))
  one_way done.NotIdle ending is =
      ap₂ (chosen done.Delivered) (called_one 3 0 refl is) (ap₂ (chosen done.NoAck) (called_one 3 1 refl is) (ap₂ (chosen done.Fail) (called_one 3 2 refl is) (ap₂ (chosen done.NotIdle) is
      (ap₂ (chosen done.NoRoute) (called_one 3 4 refl is) (ap₂ (chosen done.Refused) (called_alone 3 is) refl)))))
  one_way done.NoRoute ending is =
      ap₂ (chosen done.Delivered) (called_one 4 0 refl is) (ap₂ (chosen done.NoAck) (called_one 4 1 refl is) (ap₂ (chosen done.Fail) (called_one 4 2 refl is) (ap₂ (chosen done.NotIdle) (called_one 4 3 refl is)
      (ap₂ (chosen done.NoRoute) is (ap₂ (chosen done.Refused) (called_alone 4 is) refl)))))
  one_way done.Refused ending is =
      ap₂ (chosen done.Delivered) (refused_alone 0 is) (ap₂ (chosen done.NoAck) (refused_alone 1 is) (ap₂ (chosen done.Fail) (refused_alone 2 is) (ap₂ (chosen done.NotIdle) (refused_alone 3 is)
      (ap₂ (chosen done.NoRoute) (refused_alone 4 is) (ap₂ (chosen done.Refused) is refl)))))
  one_way done.Silent ending is = absurd (both_ways (is_ending_here past) (no_ending (silent_none past is)) ending)
  one_way done.LinkFailed ending is = absurd (both_ways (is_ending_here past) (no_ending (given_none past is)) ending)

  -- ---- interviews

  informs_none : (n : ℕ) (l : List Notice) → informs n l ≡ true → says_none l ≡ false
  informs_none n (ApplicationUpdate (Received from basic generic specific classes) ∷ more) is = refl
  informs_none n l is = no_way is

  none_informed : (n : ℕ) → is_refused_here past ≡ true → informs n (notices_here past) ≡ false
  none_informed n is = ap (λ (l : List Notice). informs n l) (answered_none past (second_of _ (is_answered_here past) is))

  -- one that succeeds does not fail
  never_both : (n : ℕ) → succeeds n past ≡ true → fails n past ≡ false
  never_both n is = and_right (asks_information n (request_last past)) (ends_uninformed past || ends_unknown n past) neither
    where
      known : is_known n past ≡ true
      known = second_of (asks_information n (request_last past) && informs n (notices_here past) && is_ending_here past) (is_known n past) is

      most : (asks_information n (request_last past) && informs n (notices_here past) && is_ending_here past) ≡ true
      most = first_of (asks_information n (request_last past) && informs n (notices_here past) && is_ending_here past) (is_known n past) is

      ends : is_ending_here past ≡ true
      ends = second_of (asks_information n (request_last past) && informs n (notices_here past)) (is_ending_here past) most

      told : informs n (notices_here past) ≡ true
      told =
          second_of (asks_information n (request_last past)) (informs n (notices_here past))
          (first_of (asks_information n (request_last past) && informs n (notices_here past)) (is_ending_here past) most)

      if_not : (b : Bool) (other : b ≡ true → ⊥) → b ≡ false
      if_not false other = refl
      if_not true other = absurd (other refl)

      says : (says_none (notices_here past) && is_ending_here past) ≡ false
      says = and_left (says_none (notices_here past)) (is_ending_here past) (informs_none n (notices_here past) told)

      refused : is_refused_here past ≡ false
      refused = if_not (is_refused_here past) (λ bad. both_ways (informs n (notices_here past)) (none_informed n bad) told)

      silent : is_silent past ≡ false
      silent = if_not (is_silent past) (λ bad. both_ways (is_ending_here past) (no_ending (silent_none past bad)) ends)

      given : is_given_up past ≡ false
      given = if_not (is_given_up past) (λ bad. both_ways (is_ending_here past) (no_ending (given_none past bad)) ends)

      neither : (ends_uninformed past || ends_unknown n past) ≡ false
      neither =
          ap₂ (λ (a b : Bool). a || b)
          (ap₂ (λ (a b : Bool). a || b) (ap₂ (λ (a b : Bool). a || b) (ap₂ (λ (a b : Bool). a || b) says refused) silent) given)
          (and_right (informs n (notices_here past) && is_ending_here past) (not (is_known n past)) (ap not known))

module _ (heeds : Heeds) (past : List Entry) where
  no_errands : errand heeds.listing past ≡ [] → (hows : List HowDone) → flat_map (done_notes heeds past) hows ≡ []
  no_errands none [] = refl
  no_errands none (how ∷ hows) = ap₂ (λ (a b : List Entry). a ++ b) (ap (map (λ (node : ℕ). entry.Done node how)) none) (no_errands none hows)

  one_errand : (n : ℕ) (how : HowDone) → errand heeds.listing past ≡ n ∷ [] → done_notes heeds past how ≡ entry.Done n how ∷ []
  one_errand n how is = ap (map (λ (node : ℕ). entry.Done node how)) is

module _ (heeds : Heeds) (past : List Entry) (g : HostState) (id : ℕ) where
  pub sleeps_are : (p : Purpose) → EndingOf heeds past g id p → sleep_notes past ≡ sleep_entries g p
  sleeps_are (Housekeeping (NoMore n)) of =
      ap (λ (l : List ℕ). flat_map (sleep_note past) l) of.told
      ∙ ap (λ (l : List Entry). l ++ []) (ap (λ (b : Bool). if b then entry.Asleep n ∷ [] else []) (of.sleeper n of.well) ∙ sym (asleep_is (falls_asleep (node_of g n)) n))
      ∙ append-nil (asleep_entry (falls_asleep (node_of g n)) n)
  sleeps_are (Housekeeping task) of = ap (λ (l : List ℕ). flat_map (sleep_note past) l) of.told
  sleeps_are (Attempt n more payload) of = ap (λ (l : List ℕ). flat_map (sleep_note past) l) of.told
  sleeps_are Abort of = ap (λ (l : List ℕ). flat_map (sleep_note past) l) of.told

  pub interviewed_are : (p : Purpose) → EndingOf heeds past g id p → node_interviewed (request_last past) ≡ seconds_of p
  interviewed_are (Housekeeping (Second n)) of = ap node_interviewed of.request
  interviewed_are (Housekeeping task) of = ap node_interviewed of.request
  interviewed_are (Attempt n more payload) of = ap node_interviewed of.request
  interviewed_are Abort of = ap node_interviewed of.request

  -- ---- by a frame

  errands_are : (p : Purpose) (how : How) → EndingOf heeds past g id p → EndsHere past id p how → is_ending_here past ≡ true
      → flat_map (done_notes heeds past) (filter (ends_here past) ways) ≡ errand_entries p how
  errands_are (Housekeeping (Plain n payload)) how of e ends =
      ap (λ (l : List HowDone). flat_map (done_notes heeds past) l) (one_way past (done_of how) ends (ends_as_done past id (Housekeeping (Plain n payload)) how refl e))
      ∙ ap (λ (l : List Entry). l ++ []) (one_errand heeds past n (done_of how) of.errands)
  errands_are (Housekeeping task) how of e ends = no_errands heeds past of.errands (filter (ends_here past) ways)
  errands_are (Attempt n more payload) how of e ends = no_errands heeds past of.errands (filter (ends_here past) ways)
  errands_are Abort how of e ends = no_errands heeds past of.errands (filter (ends_here past) ways)

  neighbours_are : (n : ℕ) (how : How) → IsByFrame how → EndsHere past id (Housekeeping (Neighbours n)) how → answer_to (request_last past) (responses_here past) ≡ neighbours_entry n how
  neighbours_are n (AtResponse (responses.GetRoutingInfo nodes)) by e = ap₂ answer_to e.request e.so.2
  neighbours_are n (AtResponse response) by e = ap₂ answer_to e.request e.so.2
  neighbours_are n (AtCallback status) by e = no_way e.so.0
  neighbours_are n (AtUpdate update first) by e = no_way e.so.0
  neighbours_are n Refused by e = no_way e.so.0
  neighbours_are n how by e = absurd by

  failed_are : (n : ℕ) (how : How) → IsByFrame how → EndsHere past id (Housekeeping (IsFailed n)) how → answer_to (request_last past) (responses_here past) ≡ failed_entry n how
  failed_are n (AtResponse (responses.IsFailedNode has_failed)) by e = ap₂ answer_to e.request e.so.2
  failed_are n (AtResponse response) by e = ap₂ answer_to e.request e.so.2
  failed_are n (AtCallback status) by e = no_way e.so.0
  failed_are n (AtUpdate update first) by e = no_way e.so.0
  failed_are n Refused by e = no_way e.so.0
  failed_are n how by e = absurd by

  answers_are : (p : Purpose) (how : How) → IsByFrame how → EndsHere past id p how → answer_to (request_last past) (responses_here past) ≡ answer_entries p how
  answers_are (Housekeeping (Neighbours n)) how by e = neighbours_are n how by e
  answers_are (Housekeeping (IsFailed n)) how by e = failed_are n how by e
  answers_are (Housekeeping task) how by e = ap (λ (q : List Request). answer_to q (responses_here past)) e.request
  answers_are (Attempt n more payload) how by e = ap (λ (q : List Request). answer_to q (responses_here past)) e.request
  answers_are Abort how by e = ap (λ (q : List Request). answer_to q (responses_here past)) e.request

  pub frame_ends_it : (p : Purpose) (how : How) → IsByFrame how → EndsHere past id p how → is_ending_here past ≡ true
  frame_ends_it p (AtCallback status) by e = e.so.2
  frame_ends_it p (AtResponse response) by e = answered_ends past e.so.3
  frame_ends_it p (AtUpdate update first) by e = e.so.2
  frame_ends_it p Refused by e = answered_ends past (second_of _ (is_answered_here past) e.so.1)
  frame_ends_it p how by e = absurd by

  -- what is due of it but for interviews and attempts
  pub frame_notes_are : (p : Purpose) (how : How) → IsByFrame how → EndingOf heeds past g id p → EndsHere past id p how
      → frame_notes heeds past ≡ errand_entries p how ++ (sleep_entries g p ++ answer_entries p how)
  frame_notes_are p how by of e =
      ap₂ (λ (a b : List Entry). a ++ b) (ap₂ (λ (a b : List Entry). a ++ b) (errands_are p how of e (frame_ends_it p how by e)) (sleeps_are p of)) (answers_are p how by e)
      ∙ append_assoc (errand_entries p how) (sleep_entries g p) (answer_entries p how)

-- ---- what was sent has ended badly

pub sealing_due : (one : Carried) (c : Course) → (ends_sealing one c).due ≡ c.due
sealing_due one c = by (is_of_sealed one)
  where
    by : (b : Bool) → (if b then without_texts one.node c else c).due ≡ c.due
    by true = refl
    by false = refl

module _ (heeds : Heeds) (past : List Entry) (now : ℕ) where
  gives_of : (commands : List ℕ) (n : ℕ) (c : Course) (outcome : List Entry) → GoneOf commands (past ++ c.due) n outcome → GaveUp c n outcome (each_in_turn (gives_up past n) commands c)
  gives_of commands n c outcome (inl (none, nothing)) = inl (nothing, ap (λ (l : List ℕ). each_in_turn (gives_up past n) l c) none)
  gives_of commands n c outcome (inr (command, one, is)) =
      inr (ap (λ (l : List ℕ). each_in_turn (gives_up past n) l c) one ∙ ap (λ (l : List Entry). without_texts n (with_notes l c)) (sym is))

  pub gives_late : (n : ℕ) (c : Course) (outcome : List Entry) → GoneSo heeds (past ++ c.due) now n outcome → GaveUp c n outcome (gives_up_late heeds past now n c)
  gives_late n c outcome gone = gives_of (to_give_up heeds (past ++ c.due) now n) n c outcome gone

  abbrev GoneByEnd : List Entry → ℕ → List Entry → Type 0
  GoneByEnd past n outcome = GoneOf (to_give_up_by_end heeds past now n) past n outcome

  pub badly_one : (one : Carried) (c : Course) (outcome : List Entry) → GoneByEnd (past ++ c.due) one.node outcome → EndsAs c (one ∷ []) outcome (ends_badly heeds past now one c)
  badly_one one c outcome gone =
      by (gives_of (to_give_up_by_end heeds (past ++ (ends_sealing one c).due) now one.node) one.node (ends_sealing one c) outcome
      (subst (λ (l : List Entry). GoneByEnd (past ++ l) one.node outcome) (sym (sealing_due one c)) gone))
    where
      by : GaveUp (ends_sealing one c) one.node outcome (ends_badly heeds past now one c) → EndsAs c (one ∷ []) outcome (ends_badly heeds past now one c)
      by (inl (nothing, same)) = Ends_badly one refl nothing same
      by (inr is) = Gives_it_up one refl is

  -- of what a request sends, one text at most
  badly_all : (sent : List Carried) (c : Course) (outcome : List Entry) → ((sent ≡ []) × (outcome ≡ [])) ⊎ ((one : Carried) × (sent ≡ one ∷ []) × GoneByEnd (past ++ c.due) one.node outcome)
      → EndsAs c sent outcome (each_in_turn (ends_badly heeds past now) sent c)
  badly_all sent c outcome (inl (none, nothing)) = Ends_well nothing (ap (λ (l : List Carried). each_in_turn (ends_badly heeds past now) l c) none)
  badly_all sent c outcome (inr (one, is, gone)) =
      subst (λ (l : List Carried). EndsAs c l outcome (each_in_turn (ends_badly heeds past now) l c)) (sym is) (badly_one one c outcome gone)

-- all that the host notes
pub entries_are : (g : HostState) (p : Purpose) (how : How) → end_entries g (record { purpose = p; how = how })
    ≡ ((errand_entries p how ++ (sleep_entries g p ++ answer_entries p how)) ++ failed_entries p) ++ outcome_entries g p how
entries_are g (Housekeeping (Plain n payload)) how = refl
entries_are g (Housekeeping (NoMore n)) how =
    let asleep : List Entry = asleep_entry (falls_asleep (node_of g n)) n in sym (append-nil ((asleep ++ []) ++ []) ∙ append-nil (asleep ++ []) ∙ append-nil asleep)
entries_are g (Housekeeping (Second n)) how = refl
entries_are g (Housekeeping (Neighbours n)) how = sym (append-nil (neighbours_entry n how ++ []) ∙ append-nil (neighbours_entry n how))
entries_are g (Housekeeping (IsFailed n)) how = sym (append-nil (failed_entry n how ++ []) ∙ append-nil (failed_entry n how))
entries_are g (Housekeeping task) how = refl
entries_are g (Attempt n more payload) how = refl
entries_are g Abort how = refl

module _ (heeds : Heeds) (past : List Entry) (g : HostState) (id : ℕ) where
  -- ---- an interview fails with it

  fails_one : (n : ℕ) (c : Course) → fails n past ≡ true → ends_interview past n c ≡ with_note (entry.InterviewFailed n) c
  fails_one n c fails_so =
      ap (λ (b : Bool). if b then if_kept n (with_note (entry.Interviewed n)) c else (if fails n past then with_note (entry.InterviewFailed n) c else c)) fresh
      ∙ ap (λ (b : Bool). if b then with_note (entry.InterviewFailed n) c else c) fails_so
    where
      fresh : succeeds n past ≡ false
      fresh = by (succeeds n past) refl
        where
          by : (b : Bool) → succeeds n past ≡ b → b ≡ false
          by false same = refl
          by true same = absurd (both_ways (fails n past) (never_both past n same) fails_so)

  pub interview_fails : (p : Purpose) → EndingOf heeds past g id p → ((n : ℕ) → p ≡ Housekeeping (Second n) → fails n past ≡ true) → (c : Course)
      → each_in_turn (ends_interview past) (node_interviewed (request_last past)) c ≡ with_notes (failed_entries p) c
  interview_fails (Housekeeping (Second n)) of fail c =
      ap (λ (l : List ℕ). each_in_turn (ends_interview past) l c) (interviewed_are heeds past g id (Housekeeping (Second n)) of) ∙ fails_one n c (fail n refl)
  interview_fails (Housekeeping task) of fail c =
      ap (λ (l : List ℕ). each_in_turn (ends_interview past) l c) (interviewed_are heeds past g id (Housekeeping task) of) ∙ sym (ap (λ (l : List Entry). record c { due = l }) (append-nil c.due))
  interview_fails (Attempt n more payload) of fail c =
      ap (λ (l : List ℕ). each_in_turn (ends_interview past) l c) (interviewed_are heeds past g id (Attempt n more payload) of) ∙ sym (ap (λ (l : List Entry). record c { due = l }) (append-nil c.due))
  interview_fails Abort of fail c =
      ap (λ (l : List ℕ). each_in_turn (ends_interview past) l c) (interviewed_are heeds past g id Abort of) ∙ sym (ap (λ (l : List Entry). record c { due = l }) (append-nil c.due))

  -- ---- the whole

  abbrev whole : ℕ → Bool → Course → List Carried → Course
  whole now b d sent = if b then d else each_in_turn (ends_badly heeds past now) sent d

  abbrev interviewed : Course → Course
  interviewed c = each_in_turn (ends_interview past) (node_interviewed (request_last past)) (with_notes (frame_notes heeds past) (record c { over = true }))

  outcome_well : (p : Purpose) (how : How) → EndsHere past id p how → is_called_back 0 past ≡ true → outcome_entries g p how ≡ []
  outcome_well (Attempt n more payload) how e well = by (part_end more how) refl
    where
      by : (part : PartEnd) → part_end more how ≡ part → part_entries g n part ≡ []
      by Good same = refl
      by Passed_over same = refl
      by Bad same = absurd (both_ways (is_called_back 0 past) (badly past id n more payload how same e) well)
  outcome_well (Housekeeping task) how e well = refl
  outcome_well Abort how e well = refl

  pub ends_by_it : (p : Purpose) (how : How) (now : ℕ) (c : Course) → IsByFrame how → EndingOf heeds past g id p → EndsHere past id p how
      → ((n : ℕ) → p ≡ Housekeeping (Second n) → fails n past ≡ true) → AreGone heeds (past ++ (noted_by g p how c).due) now p id (outcome_entries g p how)
      → EndsAs (noted_by g p how c) (sent_by p id) (outcome_entries g p how) (ends_with heeds past now c)
  ends_by_it p how now c frame of e fail gone = by (is_called_back 0 past) refl
    where
      noted : interviewed c ≡ noted_by g p how c
      noted =
          interview_fails p of fail (with_notes (frame_notes heeds past) (record c { over = true }))
          ∙ ap (λ (l : List Entry). record c { over = true; due = (c.due ++ l) ++ failed_entries p }) (frame_notes_are heeds past g id p how frame of e)
          ∙ ap (λ (l : List Entry). record c { over = true; due = l }) (append_assoc c.due (errand_entries p how ++ (sleep_entries g p ++ answer_entries p how)) (failed_entries p))

      sent_is : sending_in (asked past).frame ≡ sent_by p id
      sent_is = ap (λ (l : List Request). flat_map sending_of l) of.request

      same : (b : Bool) → is_called_back 0 past ≡ b → ends_with heeds past now c ≡ whole now b (noted_by g p how c) (sent_by p id)
      same b is = ap (λ (x : Bool). whole now x (interviewed c) (sending_in (asked past).frame)) is ∙ ap₂ (λ (d : Course) (l : List Carried). whole now b d l) noted sent_is

      by : (b : Bool) → is_called_back 0 past ≡ b → EndsAs (noted_by g p how c) (sent_by p id) (outcome_entries g p how) (ends_with heeds past now c)
      by true is = Ends_well (outcome_well p how e is) (same true is)
      by false is =
          subst (λ (d : Course). EndsAs (noted_by g p how c) (sent_by p id) (outcome_entries g p how) d) (sym (same false is))
          (badly_all heeds past now (sent_by p id) (noted_by g p how c) (outcome_entries g p how) gone)

  -- ---- without a frame: the line gives it up, or its wait ends

  late_errands : (p : Purpose) (how : How) → EndingOf heeds past g id p → done_notes heeds past (done_of how) ≡ errand_entries p how
  late_errands (Housekeeping (Plain n payload)) how of = one_errand heeds past n (done_of how) of.errands
  late_errands (Housekeeping task) how of = ap (map (λ (node : ℕ). entry.Done node (done_of how))) of.errands
  late_errands (Attempt n more payload) how of = ap (map (λ (node : ℕ). entry.Done node (done_of how))) of.errands
  late_errands Abort how of = ap (map (λ (node : ℕ). entry.Done node (done_of how))) of.errands

  late_failed : (p : Purpose) → EndingOf heeds past g id p → failed_notes past ≡ failed_entries p
  late_failed (Housekeeping (Second n)) of = ap (map entry.InterviewFailed) (interviewed_are heeds past g id (Housekeeping (Second n)) of)
  late_failed (Housekeeping task) of = ap (map entry.InterviewFailed) (interviewed_are heeds past g id (Housekeeping task) of)
  late_failed (Attempt n more payload) of = ap (map entry.InterviewFailed) (interviewed_are heeds past g id (Attempt n more payload) of)
  late_failed Abort of = ap (map entry.InterviewFailed) (interviewed_are heeds past g id Abort of)

  late_answers : (p : Purpose) (how : How) → IsLate how → answer_entries p how ≡ []
  late_answers (Housekeeping (Neighbours n)) Silent late = refl
  late_answers (Housekeeping (Neighbours n)) LinkFailed late = refl
  late_answers (Housekeeping (IsFailed n)) Silent late = refl
  late_answers (Housekeeping (IsFailed n)) LinkFailed late = refl
  late_answers (Housekeeping (Neighbours n)) how late = absurd late
  late_answers (Housekeeping (IsFailed n)) how late = absurd late
  late_answers (Housekeeping task) how late = refl
  late_answers (Attempt n more payload) how late = refl
  late_answers Abort how late = refl

  pub late_is : (p : Purpose) (how : How) (now : ℕ) (c : Course) → IsLate how → EndingOf heeds past g id p
      → ends_without heeds past now (done_of how) c ≡ each_in_turn (ends_badly heeds past now) (sent_by p id) (noted_by g p how c)
  late_is p how now c late of =
      ap₂ (λ (l : List Carried) (some : List Entry). each_in_turn (ends_badly heeds past now) l (record c { over = true; due = c.due ++ some })) (ap (λ (l : List Request). flat_map sending_of l) of.request) notes
    where
      notes : done_notes heeds past (done_of how) ++ sleep_notes past ++ failed_notes past ≡ (errand_entries p how ++ (sleep_entries g p ++ answer_entries p how)) ++ failed_entries p
      notes =
          ap₂ (λ (a b : List Entry). a ++ b) (ap₂ (λ (a b : List Entry). a ++ b) (late_errands p how of) (sleeps_are heeds past g id p of)) (late_failed p of)
          ∙ ap (λ (l : List Entry). l ++ failed_entries p)
          (sym (ap (λ (l : List Entry). errand_entries p how ++ (sleep_entries g p ++ l)) (late_answers p how late) ∙ ap (λ (l : List Entry). errand_entries p how ++ l) (append-nil (sleep_entries g p))))

  pub ends_late : (p : Purpose) (how : How) (now : ℕ) (c : Course) → IsLate how → EndingOf heeds past g id p
      → AreGone heeds (past ++ (noted_by g p how c).due) now p id (outcome_entries g p how)
      → EndsAs (noted_by g p how c) (sent_by p id) (outcome_entries g p how) (ends_without heeds past now (done_of how) c)
  ends_late p how now c late of gone =
      subst (λ (d : Course). EndsAs (noted_by g p how c) (sent_by p id) (outcome_entries g p how) d) (sym (late_is p how now c late of))
      (badly_all heeds past now (sent_by p id) (noted_by g p how c) (outcome_entries g p how) gone)
