-- Where a frame is judged it ends the last request by the transcript just where the host ends the request under way by it, and in the same way.
use Rattle.std.proofs.Common.{◌≡◌, ℕ, ◌+◌, ◌&&◌, ◌||◌, not, Bool, true, false, if◌then◌else◌, inl, inr, List, [], ◌∷◌, ◌++◌, filter, refl, sym, ap, ap₂, ◌∙◌, subst, append-nil, append_assoc, arith}
use Rattle.std.specs.Prelude.{◌==◌, Option, Some, None, Result, Ok, Err, nat_lt}
use Rattle.std.specs.List.{AllByRecursion, flat_map, list_all, list_any}
use Rattle.std.proofs.lemmas.Bool.{and_parts, and_right, eq-eqb, eqb-true, ne_eqb, or_left, or_right}
use Rattle.zw_base.proofs.Each.{all-weaker}
use Rattle.serial_frame.specs.Frame.{FrameParts, checksum, framed, kind_code}
use Rattle.serial_frame.specs.Items.{unit_text}
use Rattle.serial_frame.specs.declared.frame.Kind.{Kind}
use Rattle.serial_frame.specs.declared.frame.Kind.TheVariants as kind
use Rattle.serial_frame.specs.declared.unit.TheConstants.{ACK}
use Rattle.serial_frame.specs.declared.unit.Unit.{Unit as LineUnit}
use Rattle.serial_frame.specs.declared.unit.Unit.TheVariants.{Framed}
use Rattle.chip_functions.specs.declared.fault.BodyFault.{BodyFault}
use Rattle.chip_functions.specs.declared.function.TheConstants.{SEND_DATA, REQUEST_NODE_INFO}
use Rattle.chip_functions.specs.declared.notice.Notice.{Notice}
use Rattle.chip_functions.specs.declared.notice.Notice.TheVariants.{AddNode, ApplicationCommandHandler, ApplicationUpdate, SendData as CalledBack}
use Rattle.chip_functions.specs.declared.notice.TransmitStatus.{TransmitStatus}
use Rattle.chip_functions.specs.declared.notice.Update.{Update}
use Rattle.chip_functions.specs.declared.request.Request.{Request}
use Rattle.chip_functions.specs.declared.request.Request.TheVariants as requests
use Rattle.chip_functions.specs.declared.response.Response.{Response}
use Rattle.chip_functions.specs.declared.response.Response.TheVariants as responses
use Rattle.chip_functions.specs.Notice.{notice_of}
use Rattle.chip_functions.specs.Response.{response_function, response_of}
use Rattle.zw_words.specs.declared.side.Side.TheVariants.{Host}
use Rattle.zw_text.specs.declared.entry.Entry.{Entry}
use Rattle.zw_text.specs.declared.entry.Entry.TheVariants as entry
use Rattle.zw_text.proofs.Views.{folded-append}
use Rattle.proof_waking.specs.law_transcript.Units.{function_in, notice_in, read_well, request_in}
use Rattle.proof_waking.specs.law_time.Moments.{clock}
use Rattle.proof_waking.specs.law_time.Judged.{acknowledged, after_step, is_following, judged, judged_here, last_of, notices_here, response_in, responses_here}
use Rattle.proof_waking.specs.law_time.Requests.{Asked as TheAsked, Judging, are_none, asked, failing, is_response_to, judged_since}
use Rattle.proof_waking.specs.law_time.Ends.{ending, ending_among, ends_by, is_abort_frame, is_answered_here, is_before_failing, is_callback, is_ending_here, is_information, refuses, wait_of}
use Rattle.host_requests.specs.Frames.{function_of, request_of, send}
use Rattle.host_requests.specs.Next.{at_callback, at_update, is_answered, judged as judged_by, purpose_ends_at_update}
use Rattle.host_requests.specs.declared.end.How.{How}
use Rattle.host_requests.specs.declared.end.How.TheVariants.{AtCallback, AtResponse, AtUpdate, Refused}
use Rattle.host_requests.specs.declared.next.Next.{Next}
use Rattle.host_requests.specs.declared.next.Next.TheVariants.{Ends, GoesOn}
use Rattle.host_requests.specs.declared.task.Purpose.{Purpose}
use Rattle.host_requests.specs.declared.under_way.Progress.{Progress}
use Rattle.host_requests.specs.declared.under_way.UnderWay.{UnderWay}
use Rattle.proof_waking.specs.proof_alone.Steps.{IsOfUnit}
use Rattle.proof_waking.specs.Judged.{TieFrames}
use Rattle.proof_waking.proofs.Apart.{IsApart, acknowledged_frames, apart_judged, apart_same}
use Rattle.proof_waking.proofs.Parts.{mark_still}
use Rattle.proof_waking.proofs.Judging.{units_after}
use Rattle.proof_requests.specs.Standing.{Prior, Standing, brought_before, ending_in, ends_now, failing_in, first_ending, prior_of, responses_in, standing_of, wait_in, with_entries, with_judging}
use Rattle.proof_requests.specs.Asking.{AsksSo, Doing, FollowsFirst, HasEnded, IsKept, IsUnderWay, TieAsked, TieUnderWay, WasAsked}
use Rattle.proof_requests.specs.Ends.{EndsBy, EndsFrom, EndsHow, EndsNone, IsLast, IsTaken}
use Rattle.proof_requests.specs.Saying.{FrameSays, frame_next, kind_next, notice_next, response_next}
use Rattle.proof_requests.specs.Saying.FrameSays.{Leaves, Again, Takes, Finishes}
use Rattle.proof_requests.proofs.Ended.{line_judged, silence_judged}
use Rattle.proof_requests.proofs.Ending.{frame_ending, line_ends_none, silence_ends_none}
use Rattle.proof_requests.proofs.Growing.{asked_on}
use Rattle.proof_requests.proofs.Judging.{ending_judged, ending_kept, or_false}
use Rattle.proof_requests.proofs.Moving.{finished_by, left_of}
use Rattle.proof_requests.proofs.Saying.{Kinds, frame_says, kinds, notice_text, response_is, response_text, same_function}
use Rattle.proof_requests.proofs.Standing.{stands_aside, stands_judged}
use Rattle.proof_requests.proofs.Telling.{acknowledged_more, grown, quiet_asides, quiet_on}
use Rattle.proof_requests.proofs.Walking.{marks_quiet}

-- ---- what the host makes of a frame

pub cannot_end : (progress : Progress) (how : How) → GoesOn progress ≡ Ends how → ⊥
cannot_end progress how is = cc

pub ends_same : (how other : How) → Ends how ≡ Ends other → how ≡ other
ends_same how other is = cc

-- a test that ends it so was met
pub ends_if : (b : Bool) (so how : How) (progress : Progress) → (if b then Ends so else GoesOn progress) ≡ Ends how → (b ≡ true) × (so ≡ how)
ends_if true so how progress is = (refl, ends_same so how is)
ends_if false so how progress is = absurd (cannot_end progress how is)

-- a response ends it where it is the first of its function
pub answers_it : (answered same : Bool) (r : Response) (u : UnderWay) (how : How) → (if answered || not same then GoesOn u.progress else judged_by r u) ≡ Ends how → (same ≡ true) × (judged_by r u ≡ Ends how)
answers_it true same r u how is = absurd (cannot_end u.progress how is)
answers_it false false r u how is = absurd (cannot_end u.progress how is)
answers_it false true r u how is = (refl, is)

-- one that refuses
refused_by : (first : Bool) (unit : List ℕ) (q : Request) (takes : (node : ℕ) × (payload : List ℕ) × (id : ℕ) × (q ≡ send node payload id)) → notice_in unit ≡ [] → (ends_by first unit q || false) ≡ true → refuses unit ≡ true
refused_by first unit q (node, payload, id, is) quiet ends =
    let so : ((first && refuses unit) || false) ≡ true =
    sym (ap (λ (r : Request). ends_by first unit r || false) is ∙ ap (λ (l : List Notice). (list_any (is_callback id) l || (first && refuses unit)) || false) quiet) ∙ ends in
    (and_parts first (refuses unit) (sym (or_false (first && refuses unit)) ∙ so)).1

uninformed_by : (first : Bool) (unit : List ℕ) (q : Request) (node : ℕ) → q ≡ requests.RequestNodeInfo node → notice_in unit ≡ [] → (ends_by first unit q || false) ≡ true → refuses unit ≡ true
uninformed_by first unit q node is quiet ends =
    let so : ((first && refuses unit) || false) ≡ true =
    sym (ap (λ (r : Request). ends_by first unit r || false) is ∙ ap (λ (l : List Notice). (list_any (is_information node) l || (first && refuses unit)) || false) quiet) ∙ ends in
    (and_parts first (refuses unit) (sym (or_false (first && refuses unit)) ∙ so)).1

untaken : (a b : Bool) → a ≡ false → b ≡ false → (a || b) ≡ true → ⊥
untaken true b first second is = let bad : true ≡ false = first in cc
untaken false true first second is = let bad : true ≡ false = second in cc
untaken false false first second is = let bad : false ≡ true = is in cc

kind_refuses : (first : Bool) (unit : List ℕ) (p : Purpose) (id : ℕ) → IsTaken p → notice_in unit ≡ [] → (ends_by first unit (request_of p id) || false) ≡ true → Kinds p id → refuses unit ≡ true
kind_refuses first unit p id taken quiet ends (inl sends) = refused_by first unit (request_of p id) (sends.node, sends.payload, id, sends.request) quiet ends
kind_refuses first unit p id taken quiet ends (inr (inl informs)) = uninformed_by first unit (request_of p id) informs.node informs.request quiet ends
kind_refuses first unit p id taken quiet ends (inr (inr answers)) =
    absurd (untaken (function_of p == SEND_DATA) (function_of p == REQUEST_NODE_INFO) answers.no_sending answers.no_information taken)

send_taken : (p : Purpose) → (SEND_DATA == function_of p) ≡ true → IsTaken p
send_taken p same = or_left (function_of p == SEND_DATA) (function_of p == REQUEST_NODE_INFO) (eq-eqb (function_of p) SEND_DATA (sym (eqb-true SEND_DATA (function_of p) same)))

ask_taken : (p : Purpose) → (REQUEST_NODE_INFO == function_of p) ≡ true → IsTaken p
ask_taken p same = or_right (function_of p == SEND_DATA) (function_of p == REQUEST_NODE_INFO) (eq-eqb (function_of p) REQUEST_NODE_INFO (sym (eqb-true REQUEST_NODE_INFO (function_of p) same)))

-- ---- frames as text

pub response_read : (f : FrameParts) (x : Result Response BodyFault) → f.kind ≡ kind.Response → response_of f.func f.body ≡ x → response_in (unit_text (Framed f)) ≡ read_well x
response_read f x kind_is read = by f.kind kind_is
  where
    by : (k : Kind) → k ≡ kind.Response → response_in (framed (kind_code k ∷ f.func ∷ f.body) (checksum (kind_code k ∷ f.func ∷ f.body))) ≡ read_well x
    by kind.Response is = response_text f.func f.body (checksum (1 ∷ f.func ∷ f.body)) ∙ ap read_well read
    by kind.Request is = absurd (let bad : kind.Request ≡ kind.Response = is in cc)

notice_read : (f : FrameParts) (x : Result Notice BodyFault) → f.kind ≡ kind.Request → notice_of f.func f.body ≡ x → notice_in (unit_text (Framed f)) ≡ read_well x
notice_read f x kind_is read = by f.kind kind_is
  where
    by : (k : Kind) → k ≡ kind.Request → notice_in (framed (kind_code k ∷ f.func ∷ f.body) (checksum (kind_code k ∷ f.func ∷ f.body))) ≡ read_well x
    by kind.Request is = notice_text f.func f.body (checksum (0 ∷ f.func ∷ f.body)) ∙ ap read_well read
    by kind.Response is = absurd (let bad : kind.Response ≡ kind.Request = is in cc)

no_notice : (f : FrameParts) → f.kind ≡ kind.Response → notice_in (unit_text (Framed f)) ≡ []
no_notice f kind_is = by f.kind kind_is
  where
    by : (k : Kind) → k ≡ kind.Response → notice_in (framed (kind_code k ∷ f.func ∷ f.body) (checksum (kind_code k ∷ f.func ∷ f.body))) ≡ []
    by kind.Response is = refl
    by kind.Request is = absurd (let bad : kind.Request ≡ kind.Response = is in cc)

-- ---- what ended before does not end here

earlier : (place : ℕ) (test : Judging → Bool) (l : List Judging) (one : Judging) → l ≡ one ∷ [] → (one.place == place) ≡ false → list_any (λ each. each.place == place) (filter test l) ≡ false
earlier place test l one is other =
    ap (λ (k : List Judging). list_any (λ each. each.place == place) (filter test k)) is ∙ by (test one)
  where
    by : (b : Bool) → list_any (λ each. each.place == place) (if b then one ∷ [] else []) ≡ false
    by true = ap (λ (c : Bool). c || false) other
    by false = refl

none_here : (place : ℕ) (l : List Judging) → l ≡ [] → list_any (λ each. each.place == place) l ≡ false
none_here place l is = ap (λ (k : List Judging). list_any (λ each. each.place == place) k) is

-- and where nothing was asked nothing ends
none_asked : (to_come : Bool) (l : List Judging) → ending_among [] to_come l ≡ []
none_asked to_come [] = refl
none_asked to_come (one ∷ more) = none_asked (to_come && not (to_come && is_response_to [] one.unit)) more

unasked_ends : (a : TheAsked) → a.frame ≡ [] → ending a ≡ []
unasked_ends a none =
    ap (λ (l : List Judging). filter (λ one. list_all (nat_lt one.tick) (wait_of a) && list_all (is_before_failing one) (failing a)) l)
    (ap (λ (frame : List ℕ). ending_among frame true (judged_since a)) none ∙ none_asked true (judged_since a))

module _ (past marks : List Entry) (f : FrameParts) (rest : List LineUnit) (marked : AllByRecursion IsOfUnit marks) (frames : TieFrames past (Framed f ∷ rest)) where
  abbrev acked : List Entry
  acked = past ++ entry.Written Host (ACK ∷ []) ∷ []

  abbrev later : List Entry
  later = past ++ entry.Written Host (ACK ∷ []) ∷ marks

  abbrev one : Judging
  one = record { unit = unit_text (Framed f); tick = clock past; place = acknowledged past + 1 }

  later_is : acked ++ marks ≡ later
  later_is = append_assoc past (entry.Written Host (ACK ∷ []) ∷ []) marks

  apart : AllByRecursion IsApart marks
  apart = all-weaker IsOfUnit IsApart (λ e mark. (mark_still e mark).0) marks marked

  last : last_of (judged acked) ≡ unit_text (Framed f) ∷ []
  last = (acknowledged_frames past (Framed f ∷ rest) rest (unit_text (Framed f)) (ACK ∷ []) refl refl frames).last

  following : is_following later ≡ true
  following = folded-append after_step false past (entry.Written Host (ACK ∷ []) ∷ marks) ∙ units_after marks marked

  pub frame_here : judged_here later ≡ unit_text (Framed f) ∷ []
  frame_here =
      ap (λ (b : Bool). if b then last_of (judged later) else []) following
      ∙ ap (λ (l : List Entry). last_of (judged l)) (sym later_is) ∙ ap (λ (l : List (List ℕ)). last_of l) (apart_judged acked marks apart) ∙ last

  count : acknowledged later ≡ acknowledged past + 1
  count =
      ap acknowledged (sym later_is) ∙ (apart_same acked marks apart).count ∙ acknowledged_more past (entry.Written Host (ACK ∷ []) ∷ []) 1 (tt, tt) refl

  -- ---- the last request

  on_acked : asked acked ≡ with_entries (asked past) (entry.Written Host (ACK ∷ []) ∷ [])
  on_acked = asked_on past (entry.Written Host (ACK ∷ []) ∷ []) refl (refl, tt)

  on_later : asked later ≡ with_entries (asked acked) marks
  on_later = ap asked (sym later_is) ∙ quiet_on acked marks (marks_quiet marks marked)

  same_frame : (asked later).frame ≡ (asked past).frame
  same_frame = ap (λ (a : TheAsked). a.frame) on_later ∙ ap (λ (a : TheAsked). a.frame) on_acked

  stands : WasAsked past → standing_of (asked later) ≡ with_judging (standing_of (asked past)) one
  stands was =
      ap standing_of on_later
      ∙ stands_aside (asked acked) marks (grown past (entry.Written Host (ACK ∷ []) ∷ []) on_acked was).framed (quiet_asides marks (marks_quiet marks marked))
      ∙ ap standing_of on_acked
      ∙ stands_judged (asked past) (unit_text (Framed f)) was.framed (ap (λ (l : List Entry). last_of (judged (l ++ entry.Written Host (ACK ∷ []) ∷ []))) was.whole ∙ last)
      ∙ ap (λ (l : List Entry). with_judging (standing_of (asked past)) (record { unit = unit_text (Framed f); tick = clock l; place = acknowledged l + 1 })) was.whole

  ends_are : WasAsked past → ending (asked later) ≡ ending_in (with_judging (standing_of (asked past)) one)
  ends_are was = ap ending_in (stands was)

  -- no frame ends it here
  not_here : list_any (λ each. each.place == acknowledged later) (ending (asked later)) ≡ false → is_ending_here later ≡ false
  not_here none = and_right (is_following later) (list_any (λ each. each.place == acknowledged later) (ending (asked later))) none

  unended : ending (asked later) ≡ [] → is_ending_here later ≡ false
  unended none = not_here (none_here (acknowledged later) (ending (asked later)) none)

  pub unasked : (asked past).frame ≡ [] → EndsNone later
  unasked none = inl (unended (unasked_ends (asked later) (same_frame ∙ none)))

  -- what is heard here
  pub responses_are : (l : List Response) → response_in (unit_text (Framed f)) ≡ l → responses_here later ≡ l
  responses_are l is = ap (λ (k : List (List ℕ)). flat_map response_in k) frame_here ∙ append-nil (response_in (unit_text (Framed f))) ∙ is

  notices_are : (l : List Notice) → notice_in (unit_text (Framed f)) ≡ l → notices_here later ≡ l
  notices_are l is = ap (λ (k : List (List ℕ)). flat_map notice_in k) frame_here ∙ append-nil (notice_in (unit_text (Framed f))) ∙ is

  -- ---- by what the host does

  module _ (now : ℕ) (d : Doing) (time : clock past ≡ now) (was : WasAsked past) (asks : AsksSo (standing_of (asked past)) now now (acknowledged past) (Framed f ∷ rest) d) where
    abbrev s : Standing
    s = standing_of (asked past)

    later_prior : prior_of (asked later).before ≡ s.prior
    later_prior = ap (λ (t : Standing). t.prior) (stands was)

    over : HasEnded s now (acknowledged past) d.leaving → EndsNone later
    over (inl e) =
        let judged_by_then = e.judged in
        inl (not_here
        (ap (λ (l : List Judging). list_any (λ each. each.place == acknowledged later) l) (ends_are was)
        ∙ earlier (acknowledged later) (λ each. list_all (nat_lt each.tick) (wait_in (with_judging s one)) && list_all (is_before_failing each) (failing_in (with_judging s one)))
        (first_ending (with_judging s one)) e.one (ending_kept s one e.one e.first)
        (ne_eqb e.one.place (acknowledged later) (λ same. let counted = count in omega (arith, counted, judged_by_then, same)))))
    over (inr (inl e)) = inl (unended (ends_are was ∙ silence_ends_none (with_judging s one) now d.leaving (silence_judged s one now d.leaving time e)))
    over (inr (inr (inl e))) =
        inl (unended (ends_are was ∙ line_ends_none (with_judging s one) now (acknowledged past + 1) d.leaving (line_judged s one now (acknowledged past) d.leaving time refl e)))
    over (inr (inr (inr e))) = inr (ap is_abort_frame same_frame ∙ e.abort)

    -- one that it does not end goes on
    goes : (u : UnderWay) → IsUnderWay s now d.turn d.id u → ends_now s one ≡ false → is_ending_here later ≡ false
    goes u is none =
        unended (ends_are was ∙ ap (λ (l : List Judging). filter (λ each. list_all (nat_lt each.tick) (wait_in (with_judging s one)) && list_all (is_before_failing each) (failing_in (with_judging s one))) l)
        (ending_judged s one is.unended ∙ ap (λ (b : Bool). if b then one ∷ [] else []) none))

    same_one : (e : Judging) → one ∷ [] ≡ e ∷ [] → one ≡ e
    same_one e is = cc

    -- one that it ends
    finishes : (u : UnderWay) → IsUnderWay s now d.turn d.id u → ends_now s one ≡ true → is_ending_here later ≡ true
    finishes u is ends =
        let e = finished_by s one now (acknowledged past) rest f d None time refl refl asks.line asks.due u is ends in
        let this : one ≡ e.one = same_one e.one (sym (ending_judged s one is.unended ∙ ap (λ (b : Bool). if b then one ∷ [] else []) ends) ∙ e.first) in
        let alone : ending (asked later) ≡ one ∷ [] =
        ends_are was ∙ frame_ending (with_judging s one) now (acknowledged past + 1) (left_of false _) e ∙ ap (λ (j : Judging). j ∷ []) (sym this) in
        ap₂ (λ (a b : Bool). a && b) following
        (ap₂ (λ (l : List Judging) (n : ℕ). list_any (λ each. each.place == n) l) alone count ∙ or_false ((acknowledged past + 1) == (acknowledged past + 1))
        ∙ eq-eqb (acknowledged past + 1) (acknowledged past + 1) refl)

    module _ (u : UnderWay) (is : IsUnderWay s now d.turn d.id u) (ends : ends_now s one ≡ true) where
      -- by a response
      module _ (r : Response) (kind_is : f.kind ≡ kind.Response) (read : response_of f.func f.body ≡ Ok r) (same : (response_function r == function_of u.purpose) ≡ true) where
        heard : response_in (unit_text (Framed f)) ≡ r ∷ []
        heard = response_read f (Ok r) kind_is read

        answered : is_answered_here later ≡ true
        answered =
            ap₂ (λ (a b : Bool). a && b)
            (ap₂ (λ (frame : List ℕ) (l : List (List ℕ)). list_any (is_response_to frame) l) same_frame frame_here ∙ or_false (is_response_to s.frame (unit_text (Framed f)))
            ∙ responds)
            (finishes u is ends)
          where
            responds : is_response_to s.frame (unit_text (Framed f)) ≡ true
            responds =
                ap (λ (l : List Response). (function_in (unit_text (Framed f)) == function_in s.frame) && not (are_none l)) heard
                ∙ ap₂ (λ (a b : ℕ). (a == b) && true) (sym (response_is f.func f.body r read)) (ap function_in is.frame ∙ same_function u.purpose d.id) ∙ ap (λ (b : Bool). b && true) same

        refused : IsTaken u.purpose → EndsHow later d.id u.purpose Refused
        refused taken = (
          taken,
          ap₂ (λ (a b : Bool). a && b)
              (ap (λ (l : List (List ℕ)). list_any refuses l) frame_here ∙ or_false (refuses (unit_text (Framed f)))
              ∙ kind_refuses (are_none (responses_in s) && is_response_to s.frame one.unit) (unit_text (Framed f)) u.purpose d.id taken (no_notice f kind_is)
              (ap (λ (l : List Request). list_any (ends_by (are_none (responses_in s) && is_response_to s.frame one.unit) one.unit) l) (sym is.request) ∙ ends) (kinds u.purpose d.id))
              answered,
        )

        whole : IsLast r → EndsHow later d.id u.purpose (AtResponse r)
        whole last = (same, last, responses_are (r ∷ []) heard, answered)

        so_how : (how other : How) → other ≡ how → EndsHow later d.id u.purpose other → EndsHow later d.id u.purpose how
        so_how how other is = subst (EndsHow later d.id u.purpose) is

        taken_how : (answer : ℕ) (how : How) → IsTaken u.purpose → judged_by (responses.SendData answer) u ≡ Ends how → EndsHow later d.id u.purpose how
        taken_how answer how taken is = so_how how Refused (ends_if (answer == 0) Refused how _ is).1 (refused taken)

      response_how : (r : Response) (how : How) → f.kind ≡ kind.Response → response_of f.func f.body ≡ Ok r → (response_function r == function_of u.purpose) ≡ true → judged_by r u ≡ Ends how
          → EndsHow later d.id u.purpose how
      response_how (responses.SendData answer) how kind_is read same so = taken_how (responses.SendData answer) kind_is read same answer how (send_taken u.purpose same) so
      response_how (responses.RequestNodeInfo answer) how kind_is read same so = taken_how (responses.RequestNodeInfo answer) kind_is read same answer how (ask_taken u.purpose same) so
      response_how r how kind_is read same so = so_how r kind_is read same how (AtResponse r) (ends_same (AtResponse r) how so) (whole r kind_is read same tt)

      -- by a notice
      called_how : (id : ℕ) (status : TransmitStatus) (how : How) → f.kind ≡ kind.Request → notice_of f.func f.body ≡ Ok (CalledBack id status) → at_callback d.id id status u ≡ Ends how
          → EndsHow later d.id u.purpose how
      called_how id status how kind_is read so =
          let by = ends_if ((function_of u.purpose == SEND_DATA) && (id == d.id)) (AtCallback status) how u.progress so in
          let parts = and_parts (function_of u.purpose == SEND_DATA) (id == d.id) by.0 in
          subst (EndsHow later d.id u.purpose) by.1 (
            parts.0,
            notices_are (CalledBack id status ∷ []) (notice_read f (Ok (CalledBack id status)) kind_is read) ∙ ap (λ (n : ℕ). CalledBack n status ∷ []) (eqb-true id d.id parts.1),
            finishes u is ends,
          )

      updated_how : (update : Update) (how : How) → IsKept s d.leaving u.purpose → f.kind ≡ kind.Request → notice_of f.func f.body ≡ Ok (ApplicationUpdate update)
          → at_update d.leaving.first update u ≡ Ends how → EndsHow later d.id u.purpose how
      updated_how update how kept kind_is read so =
          let by = ends_if (purpose_ends_at_update update u.purpose) (AtUpdate update d.leaving.first) how u.progress so in
          subst (EndsHow later d.id u.purpose) by.1 (
            by.0,
            notices_are (ApplicationUpdate update ∷ []) (notice_read f (Ok (ApplicationUpdate update)) kind_is read),
            finishes u is ends,
            kept.1 ∙ ap brought_before (sym later_prior),
          )

      read_response : (x : Result Response BodyFault) (how : How) → f.kind ≡ kind.Response → response_of f.func f.body ≡ x → response_next x u ≡ Ends how → EndsHow later d.id u.purpose how
      read_response (Ok r) how kind_is read so =
          let by = answers_it (is_answered u.progress) (response_function r == function_of u.purpose) r u how so in
          response_how r how kind_is read by.0 by.1
      read_response (Err fault) how kind_is read so = absurd (cannot_end u.progress how so)

      read_notice : (x : Result Notice BodyFault) (how : How) → IsKept s d.leaving u.purpose → f.kind ≡ kind.Request → notice_of f.func f.body ≡ x → notice_next d.id d.leaving.first x u ≡ Ends how
          → EndsHow later d.id u.purpose how
      read_notice (Ok (CalledBack id status)) how kept kind_is read so = called_how id status how kind_is read so
      read_notice (Ok (ApplicationUpdate update)) how kept kind_is read so = updated_how update how kept kind_is read so
      read_notice (Ok (ApplicationCommandHandler status source payload)) how kept kind_is read so = absurd (cannot_end u.progress how so)
      read_notice (Ok (AddNode callback status said)) how kept kind_is read so = absurd (cannot_end u.progress how so)
      read_notice (Err fault) how kept kind_is read so = absurd (cannot_end u.progress how so)

      kind_how : (k : Kind) (how : How) → IsKept s d.leaving u.purpose → f.kind ≡ k → kind_next d.id d.leaving.first k f u ≡ Ends how → EndsHow later d.id u.purpose how
      kind_how kind.Response how kept kind_is so = read_response (response_of f.func f.body) how kind_is refl so
      kind_how kind.Request how kept kind_is so = read_notice (notice_of f.func f.body) how kept kind_is refl so

    says : (u : UnderWay) → IsUnderWay s now d.turn d.id u → IsKept s d.leaving u.purpose → (next : Next) → frame_next d.id d.leaving.first f u ≡ next → FrameSays s one u next → EndsBy later d.id u next
    says u is kept next next_is (Leaves goes_is none ends) = subst (EndsBy later d.id u) (sym goes_is) (goes u is ends)
    says u is kept next next_is (Again goes_is before some ends) = subst (EndsBy later d.id u) (sym goes_is) (goes u is ends)
    says u is kept next next_is (Takes goes_is fresh other some ends) = subst (EndsBy later d.id u) (sym goes_is) (goes u is ends)
    says u is kept next next_is (Finishes how ends_is loud ends brings) =
        subst (EndsBy later d.id u) (sym ends_is)
        (record {
          request = ap request_in same_frame ∙ is.request;
          follows = subst (λ (p : Prior). FollowsFirst p u.purpose) (sym later_prior) kept.2;
          carries = kept.3;
          so = kind_how u is ends f.kind how kept refl (next_is ∙ ends_is);
        })

    ends_of : (o : Option UnderWay) → TieUnderWay s now now (acknowledged past) d.turn d.id d.leaving o → EndsFrom later d.id (frame_next d.id d.leaving.first f) o
    ends_of None ended = over ended
    ends_of (Some u) (is, kept) = says u is kept (frame_next d.id d.leaving.first f u) refl (frame_says s one now d.turn d.id u is d.leaving.first f refl)

-- a frame that is judged
pub frame_ends_so : (past marks : List Entry) (f : FrameParts) (rest : List LineUnit) (now : ℕ) (d : Doing) → AllByRecursion IsOfUnit marks → TieFrames past (Framed f ∷ rest) → clock past ≡ now
    → TieAsked past now now (Framed f ∷ rest) d → EndsFrom (past ++ entry.Written Host (ACK ∷ []) ∷ marks) d.id (frame_next d.id d.leaving.first f) d.under_way
frame_ends_so past marks f rest now d marked frames time (inl none) =
    subst (EndsFrom (past ++ entry.Written Host (ACK ∷ []) ∷ marks) d.id (frame_next d.id d.leaving.first f)) (sym none.none) (unasked past marks f rest marked frames none.unasked)
frame_ends_so past marks f rest now d marked frames time (inr (was, asks)) = ends_of past marks f rest marked frames now d time was asks d.under_way asks.under_way
