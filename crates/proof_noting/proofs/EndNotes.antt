-- What a host notes of the end of its request, and of which nodes attempts stay late by it; and the books of a course where the request hears of something and does not end.
use Rattle.std.specs.List.{AllByRecursion, flat_map, list_any}
use Rattle.std.proofs.Common.{◌≡◌, ℕ, ◌==◌, ◌&&◌, Bool, true, false, if◌then◌else◌, List, [], ◌∷◌, ◌++◌, Option, Some, None, refl, sym, ap, ap₂, ◌∙◌, subst, append_assoc}
use Rattle.std.proofs.lemmas.Bool.{both_ways, eq-eqb}
use Rattle.chip_functions.specs.Field.{IsNode}
use Rattle.chip_functions.specs.declared.notice.Notice.{Notice}
use Rattle.chip_functions.specs.declared.notice.TransmitStatus.TheVariants.{CompleteOk, Fail, NoAck, NoRoute, NotIdle}
use Rattle.chip_functions.specs.declared.request.Request.{Request}
use Rattle.chip_functions.specs.declared.response.Response.TheVariants.{GetRoutingInfo, IsFailedNode}
use Rattle.zw_text.specs.declared.entry.Ended.TheVariants.{Unanswered as out_unanswered}
use Rattle.zw_text.specs.declared.entry.Entry.{Entry}
use Rattle.zw_text.specs.declared.entry.Entry.TheVariants as entry
use Rattle.host_heard.specs.declared.told.Told.{Told}
use Rattle.law_transcript.specs.Lists.{EachAfter}
use Rattle.law_transcript.specs.Units.{Carried, sending_of}
use Rattle.law_time.specs.Ends.{calls_back, is_called_back}
use Rattle.law_time.specs.Heeds.{Heeds}
use Rattle.law_time.specs.Interviews.{fails}
use Rattle.law_time.specs.Judged.{last_of}
use Rattle.law_time.specs.Sessions.{is_last_command, last_command}
use Rattle.host_requests.specs.declared.end.How.TheVariants.{AbortSent, AtCallback, AtResponse, AtUpdate, LinkFailed, Refused, Silent}
use Rattle.host_requests.specs.Events.{RequestsEvent, end_at}
use Rattle.host_requests.specs.Events.RequestsEvent.{CallsBack, Fails, IsSent, Responds, Ticks, Updates}
use Rattle.host_requests.specs.Next.{end_from, next_from}
use Rattle.host_requests.specs.declared.end.End.{End}
use Rattle.host_requests.specs.declared.end.How.{How}
use Rattle.host_requests.specs.declared.next.Next.TheVariants.{Ends}
use Rattle.host_requests.specs.declared.task.Task.{Task}
use Rattle.host_requests.specs.declared.task.Task.TheVariants.{IsFailed, Neighbours, NoMore, Plain, Second, Segment}
use Rattle.host_requests.specs.declared.task.Purpose.{Purpose}
use Rattle.host_requests.specs.declared.task.Purpose.TheVariants.{Abort, Attempt, Housekeeping}
use Rattle.host_requests.specs.declared.under_way.UnderWay.{UnderWay}
use Rattle.host_node.specs.Steps.{falls_asleep, tick_end}
use Rattle.host_node.specs.declared.attempt.AttemptEnd.{AttemptEnd}
use Rattle.host_node.specs.declared.attempt.AttemptEnd.TheVariants.{Again, NoneRan, Unanswered}
use Rattle.host_node.specs.declared.attempt.Moment.TheVariants.{BetweenTicks}
use Rattle.host_model.specs.State.{HostState, node_of}
use Rattle.host_model.specs.Sessions.{open_command}
use Rattle.host_model.specs.After.{after, requests_do}
use Rattle.host_model.specs.Ends.{Bad, Good as part_good, PartEnd, Passed_over, after_end_if, asleep_entry, out_entry, attempt_entries, failed_entry, neighbours_entry, part_end, part_entries, task_entries}
use Rattle.host_model.specs.Events.{Node_ticks, Requests_do}
use Rattle.host_model.specs.Facts.{HostFacts}
use Rattle.host_model.specs.Outs.{noted, request_entries}
use Rattle.proof_hearing.proofs.HostOuts.{EndsAre, OutsAre, outs_put}
use Rattle.proof_hearing.proofs.Opening.{open_last}
use Rattle.proof_hearing.proofs.Nodes.{ends_by}
use Rattle.proof_hearing.specs.Books.{nonces_to, BooksSo}
use Rattle.proof_hearing.specs.proof_queue.proof_attempts.proof_requests.Ends.{EndsHere, next_at}
use Rattle.proof_hearing.specs.proof_queue.proof_attempts.proof_requests.law_host.Course.{Course, each_in_turn, with_notes}
use Rattle.proof_hearing.specs.proof_queue.proof_attempts.proof_requests.law_host.Ends.{ends_badly, ends_with, frame_notes}
use Rattle.proof_hearing.specs.proof_queue.proof_attempts.proof_requests.law_host.Following.{is_note}
use Rattle.proof_hearing.specs.proof_queue.proof_attempts.proof_requests.law_host.Nonces.{is_late}
use Rattle.proof_hearing.specs.proof_queue.proof_attempts.proof_work.Doing.{IsTold}
use Rattle.proof_hearing.proofs.SeriesGoes.{lasts_of, others_by}
use Rattle.proof_hearing.proofs.Alike.{same_alike}
use Rattle.proof_hearing.proofs.BooksGo.{books_on}
use Rattle.proof_hearing.specs.proof_choice.proof_following.Ended.{EndingOf, IsByFrame, IsFrameEvent, answer_entries, errand_entries, failed_entries, noted_by, outcome_entries, sent_by, sleep_entries}
use Rattle.proof_hearing.proofs.Ending.{frame_notes_are, interview_fails}
use Rattle.proof_hearing.proofs.Framing.{callback_framed, response_framed, update_framed}
use Rattle.proof_hearing.proofs.proof_ends_Noting.{badly}
use Rattle.proof_noting.proofs.EndLeaves.{request_leaves}
use Rattle.proof_noting.proofs.Lately.{KeepsLate}
use Rattle.proof_noting.proofs.Sendings.{ToNodes}

-- ---- what it notes

ends_notes : EndsAre (λ (e : Entry). is_note e ≡ true)
ends_notes = record {
  attempts = record { unanswered = λ command. refl; asleep = λ n. refl };
  done = λ n how. refl;
  uninterviewed = λ n. refl;
  neighbours = λ n nodes. refl;
  failed = λ n is. refl;
}

un_noted : (l : List Entry) → OutsAre (λ (e : Entry). is_note e ≡ true) (noted l) → AllByRecursion (λ (e : Entry). is_note e ≡ true) l
un_noted [] all = tt
un_noted (e ∷ l) all = (all.0, un_noted l all.1)

pub request_notes : (h : HostState) (event : RequestsEvent) → AllByRecursion (λ (e : Entry). is_note e ≡ true) (request_entries h event)
request_notes h event = un_noted (request_entries h event) (outs_put (λ (e : Entry). is_note e ≡ true) h (Requests_do event BetweenTicks) ends_notes)

pub tick_notes : (h : HostState) (n : ℕ) → AllByRecursion (λ (e : Entry). is_note e ≡ true) (attempt_entries n (tick_end (node_of h n)) (open_command (node_of h n)))
tick_notes h n =
    un_noted (attempt_entries n (tick_end (node_of h n)) (open_command (node_of h n))) (outs_put (λ (e : Entry). is_note e ≡ true) h (Node_ticks n) ends_notes.attempts)

module _ (taken : List Entry → Carried → List Told) (n : ℕ) where
  abbrev pub Keep : List Entry → List Entry → Type 0
  Keep past told = EachAfter (KeepsLate taken n) past told

  asleep_keep : (past : List Entry) (fell : Bool) (k : ℕ) → Keep past (asleep_entry fell k)
  asleep_keep past true k = (tt, tt)
  asleep_keep past false k = tt

  neighbours_keep : (past : List Entry) (k : ℕ) (how : How) → Keep past (neighbours_entry k how)
  neighbours_keep past k (AtResponse (GetRoutingInfo nodes)) = (tt, tt)
  neighbours_keep past k how = tt

  failed_keep : (past : List Entry) (k : ℕ) (how : How) → Keep past (failed_entry k how)
  failed_keep past k (AtResponse (IsFailedNode failed)) = (tt, tt)
  failed_keep past k how = tt

  pub task_keep : (past : List Entry) (h : HostState) (task : Task) (how : How) → Keep past (task_entries h task how)
  task_keep past h (Plain k payload) how = (tt, tt)
  task_keep past h (NoMore k) how = asleep_keep past (falls_asleep (node_of h k)) k
  task_keep past h (Second k) how = (tt, tt)
  task_keep past h (Neighbours k) how = neighbours_keep past k how
  task_keep past h (IsFailed k) how = failed_keep past k how
  task_keep past h task how = tt

  -- of another node a command is given up
  module _ (past : List Entry) (h : HostState) (facts : HostFacts h) (last : last_command n past ≡ last_of (node_of h n).book.commands) (k : ℕ) (other : n ≡ k → ⊥) where
    none_last : (command : ℕ) → open_command (node_of h k) ≡ Some command → is_last_command n past command ≡ false
    none_last command opened =
        ap (λ (l : List ℕ). list_any (λ one. one == command) l) last ∙ sym (ap (λ (o : Option ℕ). ends_by (lasts_of (node_of h n)) o) opened)
        ∙ others_by h.commands k n (node_of h k) (node_of h n) (λ same. other (sym same)) (facts.owns k).sessions (facts.owns n).sessions (open_last (node_of h k))

    out_keep : (command : Option ℕ) (fell : Bool) → open_command (node_of h k) ≡ command → Keep past (out_entry command ++ asleep_entry fell k)
    out_keep None fell opened = asleep_keep past fell k
    out_keep (Some command) fell opened = (none_last command opened, asleep_keep (past ++ entry.Out command out_unanswered ∷ []) fell k)

    pub attempt_keep : (end : AttemptEnd) → Keep past (attempt_entries k end (open_command (node_of h k)))
    attempt_keep NoneRan = tt
    attempt_keep Again = tt
    attempt_keep (Unanswered fell) = out_keep (open_command (node_of h k)) fell refl

-- ---- what the request makes of it

pub at_does : (h : HostState) (event : RequestsEvent) → IsTold event → (requests_do h event).requests ≡ next_from h.requests (next_at h.requests event) h.requests.under_way
at_does h IsSent told = refl
at_does h Fails told = refl
at_does h (Responds response) told = refl
at_does h (CallsBack id status) told = refl
at_does h (Updates update) told = refl
at_does h Ticks told = refl
at_does h event told = absurd told

pub at_ends : (h : HostState) (event : RequestsEvent) → IsTold event → end_at h.requests event ≡ end_from (next_at h.requests event) h.requests.under_way
at_ends h IsSent told = refl
at_ends h Fails told = refl
at_ends h (Responds response) told = refl
at_ends h (CallsBack id status) told = refl
at_ends h (Updates update) told = refl
at_ends h Ticks told = refl
at_ends h event told = absurd told

pub frame_told : (event : RequestsEvent) → IsFrameEvent event → IsTold event
frame_told (Responds response) of = tt
frame_told (CallsBack id status) of = tt
frame_told (Updates update) of = tt
frame_told event of = absurd of

pub by_frame : (h : HostState) (event : RequestsEvent) → IsFrameEvent event → (u : UnderWay) (how : How) → next_at h.requests event u ≡ Ends how → IsByFrame how
by_frame h (Responds response) of u how so = response_framed response u how so
by_frame h (CallsBack id status) of u how so = callback_framed h.requests.last_id id status u how so
by_frame h (Updates update) of u how so = update_framed h.requests.first update u how so
by_frame h event of u how so = absurd of

-- the request that is of an attempt, or of a segment that is sent again, is for a node
pub attempt_node : (p : Purpose) (id : ℕ) → ToNodes (sent_by p id) → (n : ℕ) (more : Bool) (payload : List ℕ) → p ≡ Attempt n more payload → IsNode n
attempt_node p id nodes n more payload is = (subst (λ (q : Purpose). ToNodes (sent_by q id)) is nodes).0

pub resent_node : (p : Purpose) (id : ℕ) → ToNodes (sent_by p id) → (n : ℕ) (payload : List ℕ) → p ≡ Housekeeping (Segment n payload) → IsNode n
resent_node p id nodes n payload is = (subst (λ (q : Purpose). ToNodes (sent_by q id)) is nodes).0

-- the request does not end: the books stay
pub quiet_books : (key : List ℕ) (heeds : Heeds) (past later : List Entry) (h : HostState) (event : RequestsEvent) → IsTold event → end_at h.requests event ≡ None
    → ((n : ℕ) → IsNode n → is_late heeds past n ≡ true → is_late heeds later n ≡ true) → (c : Course) → BooksSo key heeds past h c → BooksSo key heeds later (after h (Requests_do event BetweenTicks)) c
quiet_books key heeds past later h event told none late c so =
    let g : HostState = after h (Requests_do event BetweenTicks) in
    let leaves = request_leaves h event BetweenTicks told in
    books_on key heeds past later h c.books c.offered c.opened c.sealed so g leaves.nonces (λ n. ap (nonces_to n) leaves.queue)
    (λ n is. same_alike (node_of h n) (node_of g n) (ap (λ (o : Option End). node_of (after_end_if (requests_do h event) o BetweenTicks) n) none)) leaves.orders late

-- a part that ends well was called back as delivered
pub good_is : (more : Bool) (how : How) → part_end more how ≡ part_good → how ≡ AtCallback CompleteOk
good_is more (AtCallback CompleteOk) is = refl
good_is true (AtCallback NoAck) is = absurd (let bad : Passed_over ≡ part_good = is in cc)
good_is false (AtCallback NoAck) is = absurd (let bad : Bad ≡ part_good = is in cc)
good_is true (AtCallback Fail) is = absurd (let bad : Bad ≡ part_good = is in cc)
good_is false (AtCallback Fail) is = absurd (let bad : Bad ≡ part_good = is in cc)
good_is true (AtCallback NotIdle) is = absurd (let bad : Bad ≡ part_good = is in cc)
good_is false (AtCallback NotIdle) is = absurd (let bad : Bad ≡ part_good = is in cc)
good_is true (AtCallback NoRoute) is = absurd (let bad : Bad ≡ part_good = is in cc)
good_is false (AtCallback NoRoute) is = absurd (let bad : Bad ≡ part_good = is in cc)
good_is true (AtResponse response) is = absurd (let bad : Bad ≡ part_good = is in cc)
good_is false (AtResponse response) is = absurd (let bad : Bad ≡ part_good = is in cc)
good_is true (AtUpdate update capability) is = absurd (let bad : Bad ≡ part_good = is in cc)
good_is false (AtUpdate update capability) is = absurd (let bad : Bad ≡ part_good = is in cc)
good_is true Refused is = absurd (let bad : Bad ≡ part_good = is in cc)
good_is false Refused is = absurd (let bad : Bad ≡ part_good = is in cc)
good_is true Silent is = absurd (let bad : Bad ≡ part_good = is in cc)
good_is false Silent is = absurd (let bad : Bad ≡ part_good = is in cc)
good_is true LinkFailed is = absurd (let bad : Bad ≡ part_good = is in cc)
good_is false LinkFailed is = absurd (let bad : Bad ≡ part_good = is in cc)
good_is true AbortSent is = absurd (let bad : Bad ≡ part_good = is in cc)
good_is false AbortSent is = absurd (let bad : Bad ≡ part_good = is in cc)

-- by a frame
module _ (past : List Entry) (id n : ℕ) (more : Bool) (payload : List ℕ) where
  called_well : EndsHere past id (Attempt n more payload) (AtCallback CompleteOk) → is_called_back 0 past ≡ true
  called_well ends =
      ap₂ (λ (a b : Bool). a && b)
      (ap₂ (λ (q : List Request) (l : List Notice). calls_back 0 q l) ends.request ends.so.1 ∙ ap (λ (b : Bool). b && true) (eq-eqb id id refl)) ends.so.2

  pub good_called : (how : How) → part_end more how ≡ part_good → EndsHere past id (Attempt n more payload) how → is_called_back 0 past ≡ true
  good_called how good ends = called_well (subst (λ (x : How). EndsHere past id (Attempt n more payload) x) (good_is more how good) ends)

module _ (heeds : Heeds) (past : List Entry) (g : HostState) (id : ℕ) where
  -- called back as delivered nothing has ended badly
  pub outcome_well : (p : Purpose) (how : How) → EndsHere past id p how → is_called_back 0 past ≡ true → outcome_entries g p how ≡ []
  outcome_well (Attempt n more payload) how e well = by (part_end more how) refl
    where
      by : (part : PartEnd) → part_end more how ≡ part → part_entries g n part ≡ []
      by part_good same = refl
      by Passed_over same = refl
      by Bad same = absurd (both_ways (is_called_back 0 past) (badly past id n more payload how same e) well)
  outcome_well (Housekeeping task) how e well = refl
  outcome_well Abort how e well = refl

  -- all is noted but for what was sent, where it has ended badly
  pub framed_is : (p : Purpose) (how : How) (now : ℕ) (c : Course) → IsByFrame how → EndingOf heeds past g id p → EndsHere past id p how
      → ((n : ℕ) → p ≡ Housekeeping (Second n) → fails n past ≡ true)
      → ends_with heeds past now c ≡ (if is_called_back 0 past then noted_by g p how c else each_in_turn (ends_badly heeds past now) (sent_by p id) (noted_by g p how c))
  framed_is p how now c frame of e fail =
      ap₂ (λ (d : Course) (l : List Carried). if is_called_back 0 past then d else each_in_turn (ends_badly heeds past now) l d)
      (interview_fails heeds past g id p of fail (with_notes (frame_notes heeds past) (record c { over = true }))
      ∙ ap (λ (l : List Entry). record c { over = true; due = (c.due ++ l) ++ failed_entries p }) (frame_notes_are heeds past g id p how frame of e)
      ∙ ap (λ (l : List Entry). record c { over = true; due = l }) (append_assoc c.due (errand_entries p how ++ (sleep_entries g p ++ answer_entries p how)) (failed_entries p)))
      (ap (λ (l : List Request). flat_map sending_of l) of.request)
