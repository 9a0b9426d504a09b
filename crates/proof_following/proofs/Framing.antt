-- What a frame that is judged makes of the course of notes where the request under way hears of it: what the host notes of its end is due, where it ends, and else nothing.
use Rattle.std.proofs.Common.{◌≡◌, ℕ, ◌==◌, ◌&&◌, not, Bool, true, false, if◌then◌else◌, List, [], ◌∷◌, ◌++◌, Option, Some, None, refl, sym, ap, ap₂, ◌∙◌, subst, append-nil, append_assoc}
use Rattle.std.specs.Prelude.{is_none}
use Rattle.std.specs.List.{flat_map}
use Rattle.std.proofs.lemmas.Bool.{and_left}
use Rattle.chip_functions.specs.Response.{response_function}
use Rattle.chip_functions.specs.declared.notice.TransmitStatus.{TransmitStatus}
use Rattle.chip_functions.specs.declared.notice.Update.{Update}
use Rattle.chip_functions.specs.declared.notice.Update.TheVariants.{Received}
use Rattle.chip_functions.specs.declared.request.Request.{Request}
use Rattle.chip_functions.specs.declared.response.Response.{Response}
use Rattle.chip_functions.specs.declared.response.Response.TheVariants as responses
use Rattle.zw_text.specs.declared.entry.Entry.{Entry}
use Rattle.zw_text.specs.declared.entry.Entry.TheVariants as entry
use Rattle.law_transcript.specs.Units.{Carried, sending_in, sending_of}
use Rattle.law_time.specs.Heeds.{Heeds}
use Rattle.law_time.specs.Ends.{calls_back, is_called_back, is_ending_here}
use Rattle.law_time.specs.Interviews.{fails, node_interviewed, succeeds}
use Rattle.law_time.specs.Judged.{notices_here}
use Rattle.law_time.specs.Moments.{clock}
use Rattle.law_time.specs.Requests.{asked, request_last}
use Rattle.host_requests.specs.Frames.{function_of}
use Rattle.host_requests.specs.Next.{at_callback, at_response, at_update, end_from, end_of, ends_at_update, is_answered, judged as judged_by}
use Rattle.host_requests.specs.declared.end.How.{How}
use Rattle.host_requests.specs.declared.end.How.TheVariants.{AtCallback, AtResponse, AtUpdate, Refused}
use Rattle.host_requests.specs.declared.next.Next.{Next}
use Rattle.host_requests.specs.declared.next.Next.TheVariants.{Ends as ends_so, GoesOn}
use Rattle.host_requests.specs.declared.task.Task.TheVariants.{Second}
use Rattle.host_requests.specs.declared.task.Purpose.{Purpose}
use Rattle.host_requests.specs.declared.task.Purpose.TheVariants.{Housekeeping}
use Rattle.host_requests.specs.declared.under_way.UnderWay.{UnderWay}
use Rattle.host_model.specs.State.{HostState}
use Rattle.host_model.specs.Ends.{end_entries, end_entries_if}
use Rattle.proof_ends.specs.proof_requests.Asking.{Doing, doing_from, doing_next}
use Rattle.proof_ends.specs.proof_requests.Ends.{EndsBy, EndsFrom, EndsHere}
use Rattle.proof_ends.specs.proof_requests.law_host.Course.{Course, each_in_turn, if_kept, with_note, with_notes, without_texts}
use Rattle.proof_ends.specs.proof_requests.law_host.Ends.{ends_badly, ends_by_frame, ends_interview, ends_sealing, ends_with, frame_notes, is_of_sealed}
use Rattle.proof_ends.proofs.EndsHere.{answers_it, ends_if, ends_same}
use Rattle.proof_following.specs.Ended.{AreGone, EndingOf, EndsAs, IsByFrame, NotedSo, answer_entries, errand_entries, failed_entries, noted_by, outcome_entries, rest_of, sent_by, sleep_entries}
use Rattle.proof_following.specs.Ended.EndsAs.{Ends_well, Ends_badly, Gives_it_up}
use Rattle.proof_following.proofs.Ending.{ends_by_it, entries_are, frame_ends_it, frame_notes_are, interviewed_are, sealing_due}

-- ---- by which frames a request ends

judged_framed : (r : Response) (u : UnderWay) (how : How) → judged_by r u ≡ ends_so how → IsByFrame how
judged_framed (responses.SendData answer) u how so = subst IsByFrame (ends_if (answer == 0) Refused how _ so).1 tt
judged_framed (responses.RequestNodeInfo answer) u how so = subst IsByFrame (ends_if (answer == 0) Refused how _ so).1 tt
judged_framed r u how so = subst IsByFrame (ends_same (AtResponse r) how so) tt

pub response_framed : (r : Response) (u : UnderWay) (how : How) → at_response r u ≡ ends_so how → IsByFrame how
response_framed r u how so = judged_framed r u how (answers_it (is_answered u.progress) (response_function r == function_of u.purpose) r u how so).1

pub callback_framed : (last id : ℕ) (status : TransmitStatus) (u : UnderWay) (how : How) → at_callback last id status u ≡ ends_so how → IsByFrame how
callback_framed last id status u how so = subst IsByFrame (ends_if _ (AtCallback status) how u.progress so).1 tt

pub update_framed : (first : Option ℕ) (update : Update) (u : UnderWay) (how : How) → at_update first update u ≡ ends_so how → IsByFrame how
update_framed first update u how so = subst IsByFrame (ends_if (ends_at_update update u) (AtUpdate update first) how u.progress so).1 tt

-- ---- what it makes of the course

same_rest : (one : Carried) (c : Course) → rest_of (ends_sealing one c) ≡ rest_of c
same_rest one c = by (is_of_sealed one)
  where
    by : (b : Bool) → rest_of (if b then without_texts one.node c else c) ≡ rest_of c
    by true = refl
    by false = refl

same_over : (one : Carried) (c : Course) → (ends_sealing one c).over ≡ c.over
same_over one c = by (is_of_sealed one)
  where
    by : (b : Bool) → (if b then without_texts one.node c else c).over ≡ c.over
    by true = refl
    by false = refl

module _ (heeds : Heeds) (past : List Entry) (g : HostState) (id : ℕ) where
  module _ (p : Purpose) (how : How) (c : Course) where
    abbrev most : List Entry
    most = (errand_entries p how ++ (sleep_entries g p ++ answer_entries p how)) ++ failed_entries p

    all_due : c.due ++ end_entries g (record { purpose = p; how = how }) ≡ (c.due ++ most) ++ outcome_entries g p how
    all_due = ap (λ (l : List Entry). c.due ++ l) (entries_are g p how) ∙ sym (append_assoc c.due most (outcome_entries g p how))

    none_more : outcome_entries g p how ≡ [] → c.due ++ most ≡ c.due ++ end_entries g (record { purpose = p; how = how })
    none_more none = sym (all_due ∙ ap (λ (l : List Entry). (c.due ++ most) ++ l) none ∙ append-nil (c.due ++ most))

    pub noted_so : (later : Course) → EndsAs (noted_by g p how c) (sent_by p id) (outcome_entries g p how) later → NotedSo c (end_entries g (record { purpose = p; how = how })) true later
    noted_so later (Ends_well none same) =
        record { due = ap (λ (d : Course). d.due) same ∙ none_more none; over_is = ap (λ (d : Course). d.over) same; rest = ap rest_of same }
    noted_so later (Ends_badly one is none same) = record {
      due = ap (λ (d : Course). d.due) same ∙ sealing_due one (noted_by g p how c) ∙ none_more none;
      over_is = ap (λ (d : Course). d.over) same ∙ same_over one (noted_by g p how c);
      rest = ap rest_of same ∙ same_rest one (noted_by g p how c);
    }
    noted_so later (Gives_it_up one is same) = record {
      due = ap (λ (d : Course). d.due) same ∙ ap (λ (l : List Entry). l ++ outcome_entries g p how) (sealing_due one (noted_by g p how c)) ∙ sym all_due;
      over_is = ap (λ (d : Course). d.over) same ∙ same_over one (noted_by g p how c);
      rest = ap rest_of same ∙ same_rest one (noted_by g p how c);
    }

  -- a frame that ends no request that is under way
  pub none_ends : (c : Course) → (c.over ≡ false → is_ending_here past ≡ false) → ends_by_frame heeds past c ≡ c
  none_ends c none = by c.over refl
    where
      by : (b : Bool) → c.over ≡ b → (if not b && is_ending_here past then ends_with heeds past (clock past) c else c) ≡ c
      by true is = refl
      by false is = ap (λ (b : Bool). if b then ends_with heeds past (clock past) c else c) (none is)

  pub one_ends : (c : Course) → c.over ≡ false → is_ending_here past ≡ true → ends_by_frame heeds past c ≡ ends_with heeds past (clock past) c
  one_ends c running ends = ap₂ (λ (a b : Bool). if not a && b then ends_with heeds past (clock past) c else c) running ends

  -- what is owed of the end of a request that a frame ends
  pub record OwesEnd (p : Purpose) (how : How) (c : Course) : Type 0 where
    pub framed : IsByFrame how
    pub of : EndingOf heeds past g id p
    pub fail : (n : ℕ) → p ≡ Housekeeping (Second n) → fails n past ≡ true
    pub gone : AreGone heeds (past ++ (noted_by g p how c).due) (clock past) p id (outcome_entries g p how)

  pub frame_goes : (next : UnderWay → Next) (d : Doing) (o : Option UnderWay) (c : Course) → c.over ≡ is_none o → EndsFrom past id next o
      → ((u : UnderWay) (how : How) → o ≡ Some u → next u ≡ ends_so how → OwesEnd u.purpose how c)
      → NotedSo c (end_entries_if g (end_from next o)) (is_none (doing_from d next o).under_way) (ends_by_frame heeds past c)
  frame_goes next d None c over ends owes =
      subst (λ (x : Course). NotedSo c [] true x) (sym (none_ends c (λ running. absurd (let bad : false ≡ true = sym running ∙ over in cc))))
      (record { due = sym (append-nil c.due); over_is = over; rest = refl })
  frame_goes next d (Some u) c over ends owes = by (next u) refl ends
    where
      by : (n : Next) → next u ≡ n → EndsBy past id u n → NotedSo c (end_entries_if g (end_of u n)) (is_none (doing_next d u n).under_way) (ends_by_frame heeds past c)
      by (GoesOn progress) same none =
          subst (λ (x : Course). NotedSo c [] false x) (sym (none_ends c (λ running. none))) (record { due = sym (append-nil c.due); over_is = over; rest = refl })
      by (ends_so how) same e =
          let owed = owes u how refl same in
          subst (λ (x : Course). NotedSo c (end_entries g (record { purpose = u.purpose; how = how })) true x) (sym (one_ends c over (frame_ends_it heeds past g id u.purpose how owed.framed e)))
          (noted_so u.purpose how c (ends_with heeds past (clock past) c) (ends_by_it heeds past g id u.purpose how (clock past) c owed.framed owed.of e owed.fail owed.gone))

-- ---- the information of a node came

abbrev pub informed_note : ℕ → Bool → Entry
informed_note n true = entry.Interviewed n
informed_note n false = entry.Unkept n

module _ (heeds : Heeds) (past : List Entry) (g : HostState) (id n basic generic specific : ℕ) (classes : List ℕ) (capability : ℕ) where
  abbrev way : How
  way = AtUpdate (Received n basic generic specific classes) (Some capability)

  abbrev noted_at : Course → Course
  noted_at c = with_notes (frame_notes heeds past) (record c { over = true })

  asks_back : is_called_back 0 past ≡ false → (d : Course) (now : ℕ) → sending_in (asked past).frame ≡ []
      → (if is_called_back 0 past then d else each_in_turn (ends_badly heeds past now) (sending_in (asked past).frame) d) ≡ d
  asks_back uncalled d now none =
      ap₂ (λ (b : Bool) (l : List Carried). if b then d else each_in_turn (ends_badly heeds past now) l d) uncalled none

  pub informed_goes : (kept : Bool) (keepings : List Bool) (now : ℕ) (c : Course) → c.keepings ≡ kept ∷ keepings → EndingOf heeds past g id (Housekeeping (Second n))
      → EndsHere past id (Housekeeping (Second n)) way → succeeds n past ≡ true
      → ends_with heeds past now c ≡ record c { over = true; keepings = keepings; due = c.due ++ informed_note n kept ∷ [] }
  informed_goes kept keepings now c chosen of e succeeds_so =
      asks_back uncalled (each_in_turn (ends_interview past) (node_interviewed (request_last past)) (noted_at c)) now (ap (λ (l : List Request). flat_map sending_of l) of.request)
      ∙ ap (λ (l : List ℕ). each_in_turn (ends_interview past) l (noted_at c)) (interviewed_are heeds past g id (Housekeeping (Second n)) of)
      ∙ ap (λ (b : Bool). if b then if_kept n (with_note (entry.Interviewed n)) (noted_at c) else (if fails n past then with_note (entry.InterviewFailed n) (noted_at c) else noted_at c)) succeeds_so
      ∙ ap (λ (l : List Entry). if_kept n (with_note (entry.Interviewed n)) (record c { over = true; due = c.due ++ l })) (frame_notes_are heeds past g id (Housekeeping (Second n)) way tt of e)
      ∙ by kept chosen
      ∙ ap (λ (l : List Entry). record c { over = true; keepings = keepings; due = l ++ informed_note n kept ∷ [] }) (append-nil c.due)
    where
      uncalled : is_called_back 0 past ≡ false
      uncalled = and_left (calls_back 0 (request_last past) (notices_here past)) (is_ending_here past) (ap (λ (q : List Request). calls_back 0 q (notices_here past)) of.request)

      by : (b : Bool) → c.keepings ≡ b ∷ keepings → if_kept n (with_note (entry.Interviewed n)) (record c { over = true; due = c.due ++ [] })
          ≡ record c { over = true; keepings = keepings; due = (c.due ++ []) ++ informed_note n b ∷ [] }
      by true is = ap (λ (l : List Bool). if_kept n (with_note (entry.Interviewed n)) (record c { over = true; due = c.due ++ []; keepings = l })) is
      by false is = ap (λ (l : List Bool). if_kept n (with_note (entry.Interviewed n)) (record c { over = true; due = c.due ++ []; keepings = l })) is
