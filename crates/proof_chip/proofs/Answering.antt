-- The count of the frames for the host goes on with an item that the chip judges and that answers a frame.
use Rattle.std.proofs.Common.{◌≡◌, ◌<◌, ℕ, ◌+◌, ◌||◌, Bool, true, false, if◌then◌else◌, List, [], ◌∷◌, ◌++◌, length, map, refl, sym, ap, ◌∙◌, subst, append_assoc, length-append, arith}
use Rattle.std.specs.Prelude.{Option, Some, slice_get}
use Rattle.std.specs.Option.{is_some}
use Rattle.std.specs.List.{AllByRecursion}
use Rattle.zw_base.proofs.Each.{all-weaker}
use Rattle.serial_frame.specs.Frame.{FrameParts}
use Rattle.serial_frame.specs.declared.item.Item.TheVariants.{Good}
use Rattle.serial_frame.specs.declared.unit.Unit.TheVariants.{Framed}
use Rattle.serial_link.specs.Rules.{Step}
use Rattle.route_table.specs.declared.route.Route.{Route}
use Rattle.chip_functions.specs.declared.request.Request.{Request}
use Rattle.chip_functions.specs.declared.request.Request.TheVariants.{SendData}
use Rattle.chip_sim.specs.State.{ChipState}
use Rattle.chip_sim.specs.Answers.{takes as takes_of}
use Rattle.chip_sim.specs.Requests.{asked as asked_of, heard, judged_frame, passed, requested}
use Rattle.chip_sim.specs.Events.{ChipEvent, Judged, after, collides}
use Rattle.chip_sim.specs.Link.{link_steps}
use Rattle.chip_sim.specs.Rules.{judged_posts, listed as listed_of, posts}
use Rattle.chip_sim.specs.declared.out.ChipOut.{ChipOut}
use Rattle.mesh_sim.specs.Air.{AirState}
use Rattle.zw_text.specs.declared.entry.Entry.{Entry}
use Rattle.zw_text.specs.declared.entry.Entry.TheVariants as entry
use Rattle.zw_text.specs.Transcript.{AirFrame, frame_at, frames}
use Rattle.zw_text.proofs.Views.{shown-append}
use Rattle.law_transcript.specs.Lists.{EachAfter, last_or}
use Rattle.law_wire.specs.Asked.{Course, Sending, acks, clock_of, course_of, in_tick, last_sending, sending_after, sending_of, takes}
use Rattle.law_wire.specs.Given.{given, given_at}
use Rattle.law_wire.specs.Answering.{MayWait}
use Rattle.outside_model.specs.declared.waits.Call.{Call}
use Rattle.outside_model.specs.declared.waits.Call.TheVariants.{OfFrame}
use Rattle.outside_model.specs.Devices.{State}
use Rattle.outside_model.specs.State.{OuterState, Outcome, each, with_chip}
use Rattle.outside_model.specs.Chip.{chip_does, put_out}
use Rattle.proof_air.proofs.Counting.{each-left}
use Rattle.proof_air.proofs.Times.{does_chip}
use Rattle.proof_line.specs.proof_traffic.Flights.{Fly}
use Rattle.proof_line.specs.proof_traffic.OnAir.{on_air}
use Rattle.proof_line.specs.proof_traffic.OutsideTraffic.{flags}
use Rattle.proof_line.proofs.Parts.{Laws}
use Rattle.proof_chip.specs.Serving.{GoesOn, Serves}
use Rattle.proof_chip.specs.Sending.{AreSending, ItemsSo, TieAir}
use Rattle.proof_chip.specs.Tally.{Outlook, TallyNow, TallySo, infos_in, numbers_from, outlook}
use Rattle.proof_chip.proofs.Airing.{IsMore, IsNoAck, answer, last_answered}
use Rattle.proof_chip.proofs.Growing.{told}
use Rattle.proof_chip.proofs.Judged.{goes_back, judged_nodes, passed_at}
use Rattle.proof_chip.proofs.Leaving.{Airs, LeavesSo, Quiet, Shows, leaves_air, shows_of}
use Rattle.proof_chip.proofs.Answered.{answered_outs}
use Rattle.proof_chip.proofs.Passing.{more_other, others_no_ack}
use Rattle.proof_chip.proofs.Payloads.{has_payload}
use Rattle.proof_chip.proofs.Replied.{LooksSo, LooksTaken, aired_now, answered_now}
use Rattle.proof_chip.proofs.Replying.{reply_many}
use Rattle.proof_chip.proofs.Requesting.{answered_waits}
use Rattle.proof_chip.proofs.Settling.{AreIdle, IsIdle}
use Rattle.proof_chip.proofs.Taking.{takes_same}
use Rattle.proof_chip.proofs.Tallied.{chip_t}
use Rattle.proof_chip.proofs.Coming.{now_above}
use Rattle.proof_chip.proofs.Putting.{Puts, airs_one, frames_more, more_idle, numbers_next, taken_within}
use Rattle.proof_chip.proofs.Looking.{SendsSo, does_clock, last_call, looks_by, looks_so, sends_so}

-- ---- a frame that is answered

module _ (devices : List State) (laws : Laws) (did : List Step) (past : List Entry) (o : OuterState) (f : FrameParts) (route : Option Route) (free : collides o.chip.state ≡ false)
    (items : ItemsSo devices did past o) (puts : Puts past o) where
  abbrev e : ChipEvent
  e = Judged (Good (Framed f)) route

  abbrev s : ChipState
  s = heard o.chip.state (Good (Framed f))

  abbrev p : OuterState
  p = (chip_does o e).outer

  abbrev from : OuterState
  from = with_chip o (after o.chip.state e)

  abbrev v : Outlook
  v = outlook o

  pub state_is : p.chip.state ≡ requested (asked_of f) s
  state_is = does_chip o e ∙ ap (λ (b : Bool). judged_frame (passed b (Good (Framed f))) s) free

  sends : SendsSo s (is_some p.chip.state.sending) (asked_of f)
  sends = subst (λ (x : ChipState). SendsSo s (is_some x.sending) (asked_of f)) (sym state_is) (sends_so s (asked_of f))

  pub shows : Shows s from (asked_of f) (chip_does o e)
  unfolding chip_does
  shows = subst (λ (l : List ChipOut). Shows s from (asked_of f) (each put_out from l)) (sym (answered_outs o.chip.state f route free)) (shows_of s from (asked_of f) route)

  posts_are : length (posts o.chip.state e) ≡ length (judged_posts (Some f) s)
  posts_are = ap (λ (b : Bool). length (judged_posts (passed b (Good (Framed f))) s)) free

  -- ---- the frames on the air after it

  puts_same : (rest : List Entry) → (chip_does o e).entries ≡ answer ∷ rest → AllByRecursion IsMore rest → p.air ≡ o.air → length p.chip.state.joined ≡ 233 → Puts (past ++ (chip_does o e).entries) p
  puts_same rest is more air joined = record {
    log = puts.log;
    fly = subst (λ (a : AirState). Fly puts.log (on_air a.frames) a.frames) (sym air) puts.fly;
    sent =
        ap (λ (l : List Entry). length (frames (past ++ l))) is ∙ (ap (λ (l : List AirFrame). length l) (frames_more past rest more)
        ∙ (puts.sent ∙ ap (λ (a : AirState). a.frames.sent) (sym air)));
    joined = joined;
  }

  joined_still : length p.chip.state.joined ≡ 233
  joined_still = ap (λ (x : ChipState). length x.joined) state_is ∙ (ap (λ (l : List Bool). length l) (judged_nodes (Some f) s).0 ∙ puts.joined)

  frames_sent : (quiet : List Entry) → AllByRecursion IsMore quiet → (number node : ℕ) (repeaters payload : List ℕ)
      → length (frames (past ++ (answer ∷ (quiet ++ entry.Air number 1 node repeaters payload ∷ [])))) ≡ length (frames past) + 1
  frames_sent quiet more number node repeaters payload =
      let air : List Entry = entry.Air number 1 node repeaters payload ∷ [] in
      ap (λ (l : List Entry). length (frames l)) (sym (append_assoc past (answer ∷ quiet) air))
      ∙ (ap (λ (l : List AirFrame). length l) (shown-append frame_at (past ++ answer ∷ quiet) air ∙ ap (λ (l : List AirFrame). l ++ frames air) (frames_more past quiet more))
      ∙ length-append (frames past) (frames air))

  puts_by : Shows s from (asked_of f) (chip_does o e) → Puts (past ++ (chip_does o e).entries) p
  puts_by (Quiet rest is more leaves) = puts_same rest is more (leaves_air s from p (asked_of f) leaves) joined_still
  puts_by (Airs quiet node way payload options id asked takes_it is more air calls due) =
      let aired = airs_one laws past o node way payload (taken_within s node payload puts.joined takes_it) puts in
      let count = frames_sent quiet more (o.air.frames.sent + 1) node _ payload in
      let sent = puts.sent in
      let more_sent = aired.sent in
      record {
        log = aired.log;
        fly = subst (λ (a : AirState). Fly aired.log (on_air a.frames) a.frames) (sym air) aired.fly;
        sent =
            ap (λ (l : List Entry). length (frames (past ++ l))) is ∙ (count ∙ (ap (λ (n : ℕ). n + 1) sent ∙ (sym more_sent ∙ ap (λ (a : AirState). a.frames.sent) (sym air))));
        joined = joined_still;
      }

  pub puts_then : Puts (past ++ (chip_does o e).entries) p
  puts_then = puts_by shows

  -- ---- the count after it

  module _ (frames_given : List FrameParts) (serves : Serves did frames_given past o.chip.state.port) (later : Course) (goes : GoesOn (course_of (did ++ link_steps o.chip.state e)) later)
      (was : TallyNow devices v false 0 (length frames_given) later past) where
    abbrev under : List Sending
    under = in_tick (clock_of past) (last_sending later past)

    abbrev count : ℕ
    count = length frames_given

    abbrev more : ℕ
    more = length (posts o.chip.state e)

    passed_here : slice_get later.passed (acks past) ≡ Some f
    passed_here = passed_at did frames_given past o serves route f free later goes

    air_ties : TieAir devices later past o
    air_ties = let (held, held_serves, brings, ties) = items in ties.airs later (goes_back did (link_steps o.chip.state e) later goes)

    is_under : AreSending o.chip.state.sending under
    is_under = let (held, held_serves, brings, ties) = items in subst (λ (n : ℕ). AreSending o.chip.state.sending (in_tick n (last_sending later past))) (sym ties.agrees.clock) air_ties.under

    agree : (node : ℕ) (payload : List ℕ) (options id : ℕ) → asked_of f ≡ Some (SendData node payload options id) → takes_of s node payload ≡ takes past under node payload
    agree node payload options id asks = let (held, held_serves, brings, ties) = items in takes_same s past under node payload is_under ties.agrees.joined (has_payload node payload options id f asks)

    reply : length (given_at devices later past answer) ≡ more
    reply = reply_many devices later past s is_under f passed_here ∙ sym posts_are

    many : length (given devices later past) ≡ count
    many = let above = now_above devices later past v 0 count was in omega (arith, above)

    waits : EachAfter (MayWait devices later) past (told did frames_given past o e serves)
    waits = answered_waits devices did frames_given past o f route serves later goes free many reply

    below : AllByRecursion (λ (n : ℕ). n < length (frames past) + 1) v.numbers
    below = numbers_next laws past o puts

    -- the frame of a SendData goes on the air
    abbrev before : Outlook
    before = record { sending = true; by_frame = false; numbers = v.numbers; infos = v.infos; clock = v.clock }

    answered_by : (entered : List Entry) → EachAfter (MayWait devices later) past entered → (x : Outcome) → x.entries ≡ entered → x.outer ≡ p → Shows s from (asked_of f) x
        → TallyNow devices (outlook p) false 0 (count + more) later (past ++ entered)
    answered_by entered waits x same at (Quiet rest is quiet leaves) =
        let told_is : entered ≡ answer ∷ rest = sym same ∙ is in
        let looks = looks_so s o from p refl (record { calls = refl; due = refl; air = refl }) (does_clock o e) (asked_of f) (subst (λ (q : OuterState). LeavesSo s from q (asked_of f)) at leaves) sends in
        subst (λ (l : List Entry). TallyNow devices (outlook p) false 0 (count + more) later (past ++ l)) (sym told_is)
        (answered_now devices later past rest f passed_here (all-weaker IsMore IsIdle more_idle rest quiet) v (outlook p) o.chip.state.sending count more (does_clock o e) (ap (λ (a : AirState). numbers_from (a.frames.landed + 1) (on_air a.frames)) (ap (λ (q : OuterState). q.air) (sym at) ∙ leaves_air s from x.outer (asked_of f) leaves)) is_under refl below
        (looks_by (λ node payload. takes_of s node payload) (λ node payload. takes past under node payload) v (outlook p) (asked_of f) agree looks) reply
        (subst (λ (l : List Entry). EachAfter (MayWait devices later) past l) told_is waits) was)
    answered_by entered waits x same at (Airs quiet node via payload options id asked takes_it is all air calls due) =
        let told_is = sym same ∙ is in
        let whole : List Entry = past ++ answer ∷ quiet in
        let idle : AreIdle quiet = all-weaker IsMore IsIdle more_idle quiet all in
        let takes_by : takes past under node payload ≡ true = sym (agree node payload options id asked) ∙ takes_it in
        let looks : LooksSo (λ n l. takes past under n l) v before (asked_of f) =
        subst (λ (r : Option Request). LooksSo (λ n l. takes past under n l) v before r) (sym asked) (subst (λ (b : Bool). LooksTaken b v before) (sym takes_by) (refl, refl, refl, refl)) in
        let waits_all = subst (λ (l : List Entry). EachAfter (MayWait devices later) past l) told_is waits in
        let first : TallyNow devices before false 0 (count + more) later whole =
        answered_now devices later past quiet f passed_here idle v before o.chip.state.sending count more refl refl is_under refl below looks reply (each-left (MayWait devices later) past (answer ∷ quiet) _ waits_all) was in
        let no_ack : AllByRecursion IsNoAck quiet = others_no_ack quiet (all-weaker IsMore _ more_other quiet all) in
        let alone : last_sending later whole ≡ sending_of past node payload id ∷ [] =
        last_answered later past quiet f passed_here no_ack ∙ (sent_by node payload options id asked ∙ ap (λ (b : Bool). if b then sending_of past node payload id ∷ [] else under) takes_by) in
        let same_frames : length (frames whole) ≡ length (frames past) = ap (λ (l : List AirFrame). length l) (frames_more past quiet all) in
        let aired = airs_one laws past o node via payload (taken_within s node payload puts.joined takes_it) puts in
        let sends_it : is_some p.chip.state.sending ≡ (takes_of s node payload || is_some s.sending) = subst (λ (r : Option Request). SendsSo s (is_some p.chip.state.sending) r) asked sends in
        subst (λ (l : List Entry). TallyNow devices (outlook p) false 0 (count + more) later (past ++ l)) (sym told_is)
        (subst (λ (l : List Entry). TallyNow devices (outlook p) false 0 (count + more) later l) (append_assoc past (answer ∷ quiet) _)
        (aired_now devices later whole _ node _ payload before (outlook p) (count + more) refl refl
        (sends_it ∙ ap (λ (b : Bool). b || is_some s.sending) takes_it)
        (ap (λ (q : OuterState). last_or false (flags q.calls)) (sym at) ∙ (ap (λ (l : List Call). last_or false (flags l)) calls ∙ last_call o.calls OfFrame false))
        (ap (λ (q : OuterState). infos_in q.due) (sym at) ∙ ap infos_in due)
        (does_clock o e)
        (ap (λ (q : OuterState). numbers_from (q.air.frames.landed + 1) (on_air q.air.frames)) (sym at) ∙ (ap (λ (a : AirState). numbers_from (a.frames.landed + 1) (on_air a.frames)) air
        ∙ (aired.numbers ∙ ap (λ (n : ℕ). v.numbers ++ (n + 1) ∷ []) (sym same_frames))))
        (sending_of past node payload id) alone (ap (λ (n : ℕ). n + 1) (sym same_frames)) first))
      where
        sent_by : (node : ℕ) (payload : List ℕ) (options id : ℕ) → asked_of f ≡ Some (SendData node payload options id)
            → sending_after (last_sending later past) (map (λ (request : Request). record { request = request; past = past }) (listed_of (asked_of f)))
            ≡ (if takes past under node payload then sending_of past node payload id ∷ [] else under)
        sent_by node payload options id is =
            ap (λ (r : Option Request). sending_after (last_sending later past) (map (λ (request : Request). record { request = request; past = past }) (listed_of r))) is

  pub answered_item : TallySo (TallyNow devices v false 0) did past o.chip.state.port
      → TallySo (TallyNow devices (outlook p) false 0) (did ++ link_steps o.chip.state e) (past ++ (chip_does o e).entries) p.chip.state.port
  unfolding chip_does
  answered_item so =
      chip_t devices (TallyNow devices v false 0) (TallyNow devices (outlook p) false 0) did past o e
      (λ frames_given serves later goes was.
      let entered : List Entry = told did frames_given past o e serves in
      subst (λ (n : ℕ). TallyNow devices (outlook p) false 0 n later (past ++ entered)) (sym (length-append frames_given (posts o.chip.state e)))
      (answered_by frames_given serves later goes was entered (waits frames_given serves later goes was) (chip_does o e) refl refl shows)) so
