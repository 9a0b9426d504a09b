-- That the chip was given just what it has for its host goes on with each item that it judges, and with all that it takes at once.
use Rattle.std.proofs.Common.{◌≡◌, ◌⊎◌, ◌<◌, ℕ, ◌+◌, ◌&&◌, Bool, true, false, if◌then◌else◌, inl, inr, List, [], ◌∷◌, ◌++◌, length, map, refl, sym, ap, ap₂, ◌∙◌, subst, append-nil, append_assoc, arith}
use Rattle.std.specs.Prelude.{Option, Some, None, slice_get, slice_set}
use Rattle.std.specs.List.{AllByRecursion, flat_map}
use Rattle.serial_frame.specs.Frame.{FrameParts}
use Rattle.serial_frame.specs.declared.item.Item.TheVariants.{Good}
use Rattle.serial_frame.specs.declared.unit.Unit.TheVariants.{Framed}
use Rattle.serial_link.specs.Rules.{Step}
use Rattle.route_table.specs.Network.{linked}
use Rattle.route_table.specs.declared.route.Route.{Route}
use Rattle.chip_functions.specs.declared.request.Request.{Request}
use Rattle.chip_functions.specs.declared.request.Request.TheVariants.{GetInitData, GetCapabilities, SendData, GetVersion, SendDataAbort, MemoryGetId, GetNodeProtocolInfo, AddNode, RequestNodeInfo, IsFailedNode, GetRoutingInfo}
use Rattle.chip_functions.specs.declared.notice.TransmitStatus.TheVariants.{Fail}
use Rattle.chip_sim.specs.Nodes.{is_marked}
use Rattle.chip_sim.specs.State.{ChipState}
use Rattle.chip_sim.specs.Answers.{takes as takes_of}
use Rattle.chip_sim.specs.Requests.{asked as asked_of, given_if, has_failed, heard, reply_if, reply_to, requested, stopped}
use Rattle.chip_sim.specs.Events.{ChipEvent, Judged, after, collides}
use Rattle.chip_sim.specs.Link.{link_steps}
use Rattle.chip_sim.specs.Rules.{listed as listed_of}
use Rattle.chip_sim.specs.declared.out.Sending.{Sending as SendingParts}
use Rattle.zw_text.specs.declared.entry.Entry.{Entry}
use Rattle.zw_text.specs.declared.entry.Entry.TheVariants as entry
use Rattle.zw_text.specs.Transcript.{AirFrame, frames}
use Rattle.law_transcript.specs.Lists.{EachAfter, last_or, listed}
use Rattle.law_transcript.specs.Nodes.{is_joined}
use Rattle.law_wire.specs.Asked.{Asked, Course, Sending, acks, asked, clock_of, course_of, in_tick, last_sending, requests_of, sending_after, sending_of, takes}
use Rattle.law_wire.specs.Results.{Called, aborted_by, called, ended_at, ended_by, ended_without, is_outward, settled_clock}
use Rattle.law_wire.specs.Networks.{are_linked, chip_links, listens_at}
use Rattle.law_wire.specs.Given.{Given, given, given_at}
use Rattle.law_wire.specs.Answering.{MayAnswer}
use Rattle.outside_model.specs.declared.waits.Call.{Call}
use Rattle.outside_model.specs.declared.waits.Call.TheVariants.{OfFrame, NoRoute as no_route_call}
use Rattle.outside_model.specs.declared.waits.Due.{Due}
use Rattle.outside_model.specs.declared.waits.Due.TheVariants.{Info, NoRoute as no_route_due}
use Rattle.outside_model.specs.Devices.{State}
use Rattle.outside_model.specs.State.{OuterState, with_chip}
use Rattle.outside_model.specs.Chip.{chip_does, shown_via}
use Rattle.proof_devices.proofs.Times.{does_time}
use Rattle.proof_chip.specs.proof_line.proof_traffic.OutsideTraffic.{flags, of_frame}
use Rattle.proof_chip.proofs.Parts.{Laws}
use Rattle.proof_host.proofs.Lists.{each-append}
use Rattle.proof_chip.specs.Serving.{GoesOn, HasGiven, as_given, frame_texts}
use Rattle.proof_chip.specs.Sending.{AreSending, ItemsSo, TieAir}
use Rattle.proof_chip.proofs.Airing.{IsNoAck, answer, requests_are}
use Rattle.proof_chip.proofs.Answered.{GivesNone, given_answered}
use Rattle.proof_chip.proofs.Growing.{frames_both, many_frames}
use Rattle.proof_chip.proofs.Answering.{shows, state_is}
use Rattle.proof_chip.proofs.Putting.{Puts, frames_more, more_frames, taken_within}
use Rattle.proof_chip.proofs.Judged.{goes_back}
use Rattle.proof_chip.proofs.Leaving.{Airs, LeavesSo, LeavesTaken, Quiet, Shows}
use Rattle.proof_chip.proofs.Payloads.{has_payload}
use Rattle.proof_chip.proofs.Replying.{TieNodes, none_filtered, reply_given}
use Rattle.proof_chip.proofs.Replied.{under_all}
use Rattle.proof_chip.proofs.Resting.{Rests}
use Rattle.proof_chip.proofs.Settling.{IsDevices, outward_by, outward_next, outward_sent}
use Rattle.proof_chip.proofs.Taking.{takes_same}
use Rattle.proof_answers.specs.Owing.{Owed, Informs, asked_in_tick, come, due_before, dues, owed_in, owed_now}
use Rattle.proof_answers.specs.Telling.{HasFailing, IsUnder, Tells, TellsNow, called_by, told_by}
use Rattle.proof_answers.proofs.Asking.{called_whole, informs_all, dues_info, last_whole, none_owes, routed_owes, same_owes, unrouted_owes}
use Rattle.proof_answers.proofs.Lists.{alike_same, tells_are, tells_many, tells_more, tells_own, tells_those}
use Rattle.proof_answers.proofs.Owning.{failing_more}

-- what the chip knows of nodes beside those that have joined
pub record KnowsChip (devices : List State) (past : List Entry) (s : ChipState) : Type 0 where
  pub listening : (node : ℕ) → is_marked s.listening node ≡ (listens_at devices node && is_joined past node)
  pub hears : (a b : ℕ) → linked s.table a b ≡ are_linked (chip_links past) a b

-- ---- the answer, by what is told

module _ (devices : List State) (o p : OuterState) (course : Course) (past tail : List Entry) (f : FrameParts) (passes : slice_get course.passed (acks past) ≡ Some f) (none : AllByRecursion GivesNone tail)
    (no_ack : AllByRecursion IsNoAck tail) (settled : settled_clock past ≡ o.clock) (settled_then : settled_clock (past ++ answer ∷ tail) ≡ o.clock) (time : p.clock ≡ o.clock) (held : List FrameParts) (more : List FrameParts)
    (reply : given_at devices course past answer ≡ as_given more) where
  abbrev whole : List Entry
  whole = past ++ answer ∷ tail

  none_before : due_before o.clock course past ≡ []
  none_before = none_filtered (settled_clock past) o.clock (sym settled) (asked course past)

  none_then : due_before p.clock course (past ++ answer ∷ tail) ≡ []
  none_then = none_filtered (settled_clock whole) p.clock (time ∙ sym settled_then) (asked course whole)

  -- what the chip had is what it has by the transcript
  told_before : Tells devices (frame_texts held) (told_by devices o.clock course past) [] → Tells devices (frame_texts held) (given devices course past) []
  told_before tells =
      subst (λ (l : List Given). Tells devices (frame_texts held) l [])
      (ap (λ (l : List Asked). given devices course past ++ map (come past) (owed_in course past l)) none_before ∙ append-nil (given devices course past)) tells

  pub has_before : Tells devices (frame_texts held) (told_by devices o.clock course past) [] → HasGiven devices course held past
  has_before tells =
      let were = told_before tells in
      record {
        are = tells_are devices (frame_texts held) (given devices course past) [] were;
        many = let count = tells_many devices (frame_texts held) (given devices course past) [] were in let texts = many_frames held in omega (arith, count, texts);
      }

  -- and so it is after the answer
  told_then : Tells devices (frame_texts held) (told_by devices o.clock course past) [] → Tells devices (frame_texts (held ++ more)) (told_by devices p.clock course (past ++ answer ∷ tail)) []
  told_then tells =
      subst (λ (l : List Given). Tells devices (frame_texts (held ++ more)) l []) (sym told_whole)
      (subst (λ (l : List (List ℕ)). Tells devices l (given devices course past ++ as_given more) []) (sym (frames_both held more))
      (tells_those devices (frame_texts held) (frame_texts more) (given devices course past ++ as_given more) (as_given more) [] (tells_own devices more)
      (subst (λ (l : List Given). Tells devices (frame_texts held) (given devices course past ++ as_given more) l) (sym (append-nil (as_given more)))
      (tells_more devices (frame_texts held) (given devices course past) [] (as_given more) (as_given more) (alike_same devices (as_given more)) (told_before tells)))))
    where
      told_whole : told_by devices p.clock course (past ++ answer ∷ tail) ≡ given devices course past ++ as_given more
      told_whole =
          ap (λ (l : List Asked). given devices course whole ++ map (come whole) (owed_in course whole l)) none_then
          ∙ (append-nil (given devices course whole) ∙ (given_answered devices course past tail none ∙ ap (λ (l : List Given). given devices course past ++ l) reply))

  called_then : called_by p.clock course (past ++ answer ∷ tail) ≡ called course past ++ ended_at course past answer
  called_then =
      ap (λ (l : List Asked). called course whole ++ flat_map (ended_without course whole) l) none_then ∙ (append-nil (called course whole) ∙ called_whole course past tail f passes none no_ack)

  called_before : called_by o.clock course past ≡ called course past
  called_before = ap (λ (l : List Asked). called course past ++ flat_map (ended_without course past) l) none_before ∙ append-nil (called course past)

  -- all of it, with what is owed, under way and failed
  pub tells_then : EachAfter (MayAnswer devices course) past (answer ∷ tail)
      → owed_in course (past ++ answer ∷ tail) (asked_in_tick p.clock course (past ++ answer ∷ tail)) ≡ owed_now course (past ++ answer ∷ tail) p.clock p → IsUnder p.chip.state.sending (last_sending course (past ++ answer ∷ tail))
      → (HasFailing o.chip.state.failing (called course past) → HasFailing p.chip.state.failing (called course past ++ ended_at course past answer)) → TellsNow devices o held course past
      → TellsNow devices p (held ++ more) course (past ++ answer ∷ tail)
  tells_then turns owes under failing was = record {
    turns = each-append (MayAnswer devices course) [] past (answer ∷ tail) was.turns turns;
    tells = told_then was.tells;
    owes = owes;
    under = under;
    failing =
        subst (λ (l : List Called). HasFailing p.chip.state.failing l) (sym called_then) (failing (subst (λ (l : List Called). HasFailing o.chip.state.failing l) called_before was.failing));
  }

-- ---- what a request leaves

plus_dues : (own : List Owed) (ticks : ℕ) (due : List Due) → dues own ticks (due ++ []) ≡ dues own ticks due ++ []
plus_dues own ticks due = ap (λ (l : List Due). dues own ticks l) (append-nil due) ∙ sym (append-nil (dues own ticks due))

last_flag : (calls : List Call) (call : Call) (b : Bool) → last_or b (flags (calls ++ call ∷ [])) ≡ of_frame call
last_flag [] call b = refl
last_flag (first ∷ calls) call b = last_flag calls call (of_frame first)

sending_kept : (r : Option FrameParts) (s : ChipState) → (given_if s r).sending ≡ s.sending
sending_kept None s = refl
sending_kept (Some f) s = refl

failing_kept : (r : Option FrameParts) (s : ChipState) → (given_if s r).failing ≡ s.failing
failing_kept None s = refl
failing_kept (Some f) s = refl

module _ (devices : List State) (laws : Laws) (did : List Step) (past : List Entry) (o : OuterState) (f : FrameParts) (route : Option Route) (free : collides o.chip.state ≡ false)
    (items : ItemsSo devices did past o) (puts : Puts past o) (knows : KnowsChip devices past o.chip.state) (settled : settled_clock past ≡ o.clock) (at : clock_of past ≡ o.clock) where
  abbrev e : ChipEvent
  e = Judged (Good (Framed f)) route

  abbrev s : ChipState
  s = heard o.chip.state (Good (Framed f))

  abbrev p : OuterState
  p = (chip_does o e).outer

  time : p.clock ≡ o.clock
  time = ap (λ (t : Bool × Bool × ℕ). t.2) (does_time o e)

  state : p.chip.state ≡ requested (asked_of f) s
  state = state_is devices laws did past o f route free items puts

  module _ (course : Course) (goes : GoesOn (course_of (did ++ link_steps o.chip.state (Judged (Good (Framed f)) route))) course) (held : List FrameParts) (was : TellsNow devices o held course past) (passes : slice_get course.passed (acks past) ≡ Some f) where
    abbrev last : List Sending
    last = last_sending course past

    abbrev under : List Sending
    under = in_tick (clock_of past) (last_sending course past)

    is_under : AreSending o.chip.state.sending (in_tick (clock_of past) (last_sending course past))
    is_under =
        let (given_frames, given_serves, brings, ties) = items in
        let airs : TieAir devices course past o = ties.airs course (goes_back did (link_steps o.chip.state e) course goes) in
        subst (λ (n : ℕ). AreSending o.chip.state.sending (in_tick n (last_sending course past))) (sym ties.agrees.clock) airs.under

    agree : (node : ℕ) (payload : List ℕ) (options id : ℕ) → asked_of f ≡ Some (SendData node payload options id) → takes_of s node payload ≡ takes past (in_tick (clock_of past) (last_sending course past)) node payload
    agree node payload options id asks =
        let (given_frames, given_serves, brings, ties) = items in takes_same s past under node payload is_under ties.agrees.joined (has_payload node payload options id f asks)

    none_before_here : called_by o.clock course past ≡ called course past
    none_before_here =
        ap (λ (l : List Asked). called course past ++ flat_map (ended_without course past) l) (none_filtered (settled_clock past) o.clock (sym settled) (asked course past)) ∙ append-nil (called course past)

    nodes : TieNodes devices course past s
    nodes =
        let (given_frames, given_serves, brings, ties) = items in
        let failing : HasFailing o.chip.state.failing (called course past) = subst (λ (l : List Called). HasFailing o.chip.state.failing l) none_before_here was.failing in
        record { joined = ties.agrees.joined; listening = knows.listening; hears = knows.hears; failing = failing.same }

    pub reply : given_at devices course past answer ≡ as_given (listed_of (reply_if (heard o.chip.state (Good (Framed f))) (asked_of f)))
    reply = reply_given devices course past s nodes is_under f agree passes

    -- ---- entries

    module _ (tail : List Entry) (none : AllByRecursion GivesNone tail) (no_ack : AllByRecursion IsNoAck tail) where
      abbrev now : List Asked
      now = map (λ (request : Request). record { request = request; past = past }) (listed_of (asked_of f))

      last_is : last_sending course (past ++ answer ∷ tail) ≡ sending_after (last_sending course past) (map (λ (request : Request). record { request = request; past = past }) (listed_of (asked_of f)))
      last_is = last_whole course past tail f passes none no_ack

      ended_is : (r : Option Request) → asked_of f ≡ r → ended_at course past answer ≡ flat_map (aborted_by course past) (listed_of r)
      ended_is r is =
          ap (λ (found : Option FrameParts). flat_map (aborted_by course past) (flat_map requests_of (listed found))) passes
          ∙ ap (λ (l : List Request). flat_map (aborted_by course past) l) (append-nil (requests_of f) ∙ (requests_are f ∙ ap (λ (x : Option Request). listed_of x) is))

      -- what is asked for, owed, under way and failed after it
      pub record Leaves : Type 0 where
        pub owes : owed_in course (past ++ answer ∷ tail) (asked_in_tick p.clock course (past ++ answer ∷ tail)) ≡ owed_now course (past ++ answer ∷ tail) p.clock p
        pub goes_under : IsUnder p.chip.state.sending (last_sending course (past ++ answer ∷ tail))
        pub fails : HasFailing o.chip.state.failing (called course past) → HasFailing p.chip.state.failing (called course past ++ ended_at course past answer)

      -- where nothing is taken or aborted, the same SendData stays under way
      stays : (extra : List Due) (more : List Owed) → ((own : List Owed) → dues own o.clock (o.due ++ extra) ≡ dues own o.clock o.due ++ more)
          → informs_all now ≡ more → p.due ≡ o.due ++ extra → p.calls ≡ o.calls → p.chip.state.sending ≡ o.chip.state.sending → p.chip.state.failing ≡ o.chip.state.failing
          → ((number : ℕ) → is_outward (past ++ answer ∷ tail) number ≡ is_outward past number) → (sending_after last now ≡ last) ⊎ (sending_after last now ≡ under) → ended_at course past answer ≡ [] → Leaves
      stays extra more grows informed due calls sending failing outward after_is ended = by o.chip.state.sending refl after_is
        where
          fails : HasFailing o.chip.state.failing (called course past) → HasFailing p.chip.state.failing (called course past ++ ended_at course past answer)
          fails has =
              subst (λ (marks : List Bool). HasFailing marks (called course past ++ ended_at course past answer)) (sym failing)
              (subst (λ (l : List Called). HasFailing o.chip.state.failing l) (sym (ap (λ (l : List Called). called course past ++ l) ended ∙ append-nil (called course past))) has)

          same_last : sending_after last now ≡ last → Leaves
          same_last is = record {
            owes = same_owes course past tail f passes none no_ack o p at time was.owes extra more grows informed due outward is sending calls;
            goes_under = subst (λ (l : List Sending). IsUnder p.chip.state.sending l) (sym (last_is ∙ is)) (subst (λ (x : Option SendingParts). IsUnder x last) (sym sending) was.under);
            fails = fails;
          }

          by : (x : Option SendingParts) → o.chip.state.sending ≡ x → (sending_after last now ≡ last) ⊎ (sending_after last now ≡ under) → Leaves
          by x own (inl is) = same_last is
          by None own (inr is) =
              let none_under : under ≡ [] = subst (λ (x : Option SendingParts). AreSending x under) own is_under in
              record {
                owes = none_owes course past tail f passes none no_ack o p at time was.owes extra more grows informed due (is ∙ none_under) (sending ∙ own);
                goes_under = subst (λ (x : Option SendingParts). IsUnder x (last_sending course (past ++ answer ∷ tail))) (sym (sending ∙ own)) tt;
                fails = fails;
              }
          by (Some parts) own (inr is) =
              let (one, alone, node, id, within) = subst (λ (x : Option SendingParts). IsUnder x last) own was.under in
              same_last (is ∙ under_all parts (clock_of past) last (subst (λ (x : Option SendingParts). AreSending x under) own is_under) one alone)

      -- a SendData is taken, without a way or with one
      taken : (node : ℕ) (payload : List ℕ) (options id : ℕ) → asked_of f ≡ Some (SendData node payload options id) → takes_of s node payload ≡ true → p.chip.state.sending ≡ Some (record { node = node; callback_id = id })
          → p.chip.state.failing ≡ o.chip.state.failing → node < 233
          → (is_outward (past ++ answer ∷ tail) (sending_of past node payload id).frame ≡ false → last_or false (flags p.calls) ≡ false → p.due ≡ o.due ++ no_route_due ∷ [] → Leaves)
          × (is_outward (past ++ answer ∷ tail) (sending_of past node payload id).frame ≡ true → last_or false (flags p.calls) ≡ true → p.due ≡ o.due → Leaves)
      taken node payload options id is takes_it sending failing within = (
        λ out call due. leaves (unrouted_owes course past tail f passes none no_ack o p at time was.owes node payload options id is last_new out parts sending call due),
        λ out call due. leaves (routed_owes course past tail f passes none no_ack o p at time was.owes node payload options id is last_new out parts sending call due),
      )
        where
          parts : SendingParts
          parts = record { node = node; callback_id = id }

          last_new : last_sending course (past ++ answer ∷ tail) ≡ sending_of past node payload id ∷ []
          last_new =
              last_is
              ∙ (ap (λ (r : Option Request). sending_after last (map (λ (request : Request). record { request = request; past = past }) (listed_of r))) is
              ∙ ap (λ (b : Bool). if b then sending_of past node payload id ∷ [] else under) (sym (agree node payload options id is) ∙ takes_it))

          ended : ended_at course past answer ≡ []
          ended = ended_is (Some (SendData node payload options id)) is

          leaves : owed_in course (past ++ answer ∷ tail) (asked_in_tick p.clock course (past ++ answer ∷ tail)) ≡ owed_now course (past ++ answer ∷ tail) p.clock p → Leaves
          leaves owes = record {
            owes = owes;
            goes_under = subst (λ (x : Option SendingParts). IsUnder x (last_sending course (past ++ answer ∷ tail))) (sym sending) (sending_of past node payload id, last_new, refl, refl, within);
            fails = λ has.
                subst (λ (marks : List Bool). HasFailing marks (called course past ++ ended_at course past answer)) (sym failing)
                (subst (λ (l : List Called). HasFailing o.chip.state.failing l) (sym (ap (λ (l : List Called). called course past ++ l) ended ∙ append-nil (called course past))) has);
          }

      -- the one under way is aborted
      aborted : asked_of f ≡ Some SendDataAbort → p.due ≡ o.due → p.chip.state ≡ stopped (given_if s (reply_to s SendDataAbort)).sending (given_if s (reply_to s SendDataAbort)) → Leaves
      aborted is due state_now = by o.chip.state.sending refl
        where
          kept : ChipState
          kept = given_if s (reply_to s SendDataAbort)

          none_asked : sending_after last now ≡ []
          none_asked = ap (λ (r : Option Request). sending_after last (map (λ (request : Request). record { request = request; past = past }) (listed_of r))) is

          informed : informs_all now ≡ []
          informed = ap (λ (r : Option Request). informs_all (map (λ (request : Request). record { request = request; past = past }) (listed_of r))) is

          ended : ended_at course past answer ≡ ended_by Fail under
          ended = ended_is (Some SendDataAbort) is ∙ append-nil (ended_by Fail under)

          leaves : p.chip.state.sending ≡ None → (HasFailing o.chip.state.failing (called course past) → HasFailing p.chip.state.failing (called course past ++ ended_at course past answer)) → Leaves
          leaves sending fails = record {
            owes = none_owes course past tail f passes none no_ack o p at time was.owes [] [] (λ own. plus_dues own o.clock o.due) informed (due ∙ sym (append-nil o.due)) none_asked sending;
            goes_under = subst (λ (x : Option SendingParts). IsUnder x (last_sending course (past ++ answer ∷ tail))) (sym sending) tt;
            fails = fails;
          }

          by : (x : Option SendingParts) → o.chip.state.sending ≡ x → Leaves
          by None own =
              let none_under : under ≡ [] = subst (λ (x : Option SendingParts). AreSending x under) own is_under in
              let here : kept.sending ≡ None = sending_kept (reply_to s SendDataAbort) s ∙ own in
              let state_none : p.chip.state ≡ kept = state_now ∙ ap (λ (x : Option SendingParts). stopped x kept) here in
              leaves (ap (λ (c : ChipState). c.sending) state_none ∙ here)
              (λ has.
              subst (λ (marks : List Bool). HasFailing marks (called course past ++ ended_at course past answer)) (sym (ap (λ (c : ChipState). c.failing) state_none ∙ failing_kept (reply_to s SendDataAbort) s))
              (subst (λ (l : List Called). HasFailing o.chip.state.failing l)
              (sym (ap (λ (l : List Called). called course past ++ l) (ended ∙ ap (λ (l : List Sending). ended_by Fail l) none_under) ∙ append-nil (called course past))) has))
          by (Some parts) own =
              let (one, alone, node, id) = subst (λ (x : Option SendingParts). AreSending x under) own is_under in
              let (last_one, last_alone, last_node, last_id, within) = subst (λ (x : Option SendingParts). IsUnder x last) own was.under in
              let here : kept.sending ≡ Some parts = sending_kept (reply_to s SendDataAbort) s ∙ own in
              let state_some : p.chip.state ≡ stopped (Some parts) kept = state_now ∙ ap (λ (x : Option SendingParts). stopped x kept) here in
              leaves (ap (λ (c : ChipState). c.sending) state_some)
              (λ has.
              subst (λ (marks : List Bool). HasFailing marks (called course past ++ ended_at course past answer))
              (sym (ap (λ (c : ChipState). c.failing) state_some ∙ ap (λ (l : List Bool). slice_set l parts.node (has_failed Fail)) (failing_kept (reply_to s SendDataAbort) s)))
              (subst (λ (l : List Called). HasFailing (slice_set o.chip.state.failing parts.node (has_failed Fail)) (called course past ++ l)) (sym (ended ∙ ap (λ (l : List Sending). ended_by Fail l) alone))
              (failing_more o.chip.state.failing (called course past) (record { sending = one; status = Fail }) parts.node node within has)))

      -- ---- by what is asked for

      abbrev from : OuterState
      from = with_chip o (after o.chip.state (Judged (Good (Framed f)) route))

      abbrev asks : Option Request → List Asked
      asks r = map (λ (request : Request). record { request = request; past = past }) (listed_of r)

      state_for : (r : Option Request) → asked_of f ≡ r → p.chip.state ≡ requested r s
      state_for r is = state ∙ ap (λ (x : Option Request). requested x s) is

      -- a request that starts nothing
      plain : (r : Option Request) → asked_of f ≡ r → Rests from p → ((number : ℕ) → is_outward (past ++ answer ∷ tail) number ≡ is_outward past number) → (requested r s).sending ≡ s.sending → (requested r s).failing ≡ s.failing
          → informs_all (asks r) ≡ [] → (sending_after last (asks r) ≡ last) ⊎ (sending_after last (asks r) ≡ under) → flat_map (aborted_by course past) (listed_of r) ≡ [] → Leaves
      plain r is rests outward sending failing informed after_is ended =
          stays [] [] (λ own. plus_dues own o.clock o.due) (ap (λ (x : Option Request). informs_all (asks x)) is ∙ informed) (rests.due ∙ sym (append-nil o.due)) rests.calls
          (ap (λ (c : ChipState). c.sending) (state_for r is) ∙ sending) (ap (λ (c : ChipState). c.failing) (state_for r is) ∙ failing) outward
          (subst (λ (x : Option Request). (sending_after last (asks x) ≡ last) ⊎ (sending_after last (asks x) ≡ under)) (sym is) after_is) (ended_is r is ∙ ended)

      -- a SendData that is taken
      sent_state : (node : ℕ) (payload : List ℕ) (options id : ℕ) → asked_of f ≡ Some (SendData node payload options id) → takes_of s node payload ≡ true
          → (p.chip.state.sending ≡ Some (record { node = node; callback_id = id })) × (p.chip.state.failing ≡ o.chip.state.failing)
      sent_state node payload options id is takes_it = (
        ap (λ (c : ChipState). c.sending) here,
        ap (λ (c : ChipState). c.failing) here ∙ failing_kept (reply_to s (SendData node payload options id)) s,
      )
        where
          kept : ChipState
          kept = given_if s (reply_to s (SendData node payload options id))

          here : p.chip.state ≡ record kept { sending = Some (record { node = node; callback_id = id }) }
          here =
              state_for (Some (SendData node payload options id)) is
              ∙ ap (λ (b : Bool). if b then record kept { sending = Some (record { node = node; callback_id = id }) } else kept) takes_it

      quiet_send : (node : ℕ) (payload : List ℕ) (options id : ℕ) → asked_of f ≡ Some (SendData node payload options id) → ((number : ℕ) → is_outward (past ++ answer ∷ tail) number ≡ is_outward past number) → (b : Bool)
          → takes_of s node payload ≡ b → LeavesTaken b from p → Leaves
      quiet_send node payload options id is outward true takes_it (calls, due, air) =
          let now_state = sent_state node payload options id is takes_it in
          (taken node payload options id is takes_it now_state.0 now_state.1 (taken_within s node payload puts.joined takes_it)).0 (outward (length (frames past) + 1) ∙ outward_next past)
          (ap (λ (l : List Call). last_or false (flags l)) calls ∙ last_flag o.calls no_route_call false) due
      quiet_send node payload options id is outward false takes_no rests =
          plain (Some (SendData node payload options id)) is rests outward
          (ap (λ (b : Bool). (if b then record kept { sending = Some (record { node = node; callback_id = id }) } else kept).sending) takes_no ∙ sending_kept (reply_to s (SendData node payload options id)) s)
          (ap (λ (b : Bool). (if b then record kept { sending = Some (record { node = node; callback_id = id }) } else kept).failing) takes_no ∙ failing_kept (reply_to s (SendData node payload options id)) s)
          refl (inr (ap (λ (b : Bool). if b then sending_of past node payload id ∷ [] else under) (sym (agree node payload options id is) ∙ takes_no))) refl
        where
          kept : ChipState
          kept = given_if s (reply_to s (SendData node payload options id))

      quiet_leaves : (r : Option Request) → asked_of f ≡ r → ((number : ℕ) → is_outward (past ++ answer ∷ tail) number ≡ is_outward past number) → LeavesSo s from p r → Leaves
      quiet_leaves None is outward rests = plain None is rests outward refl refl refl (inl refl) refl
      quiet_leaves (Some (SendData node payload options id)) is outward left = quiet_send node payload options id is outward (takes_of s node payload) refl left
      quiet_leaves (Some (RequestNodeInfo node)) is outward (calls, due, air) =
          stays (Info node ∷ []) (Informs node o.clock ∷ []) (λ own. dues_info own o.clock o.due node) (ap (λ (x : Option Request). informs_all (asks x)) is ∙ ap (λ (n : ℕ). Informs node n ∷ []) at) due calls
          (ap (λ (c : ChipState). c.sending) (state_for (Some (RequestNodeInfo node)) is)) (ap (λ (c : ChipState). c.failing) (state_for (Some (RequestNodeInfo node)) is)) outward
          (inr (ap (λ (x : Option Request). sending_after last (asks x)) is)) (ended_is (Some (RequestNodeInfo node)) is)
      quiet_leaves (Some SendDataAbort) is outward rests = aborted is rests.due (state_for (Some SendDataAbort) is)
      quiet_leaves (Some GetInitData) is outward rests = plain (Some GetInitData) is rests outward refl refl refl (inr refl) refl
      quiet_leaves (Some GetCapabilities) is outward rests = plain (Some GetCapabilities) is rests outward refl refl refl (inr refl) refl
      quiet_leaves (Some GetVersion) is outward rests = plain (Some GetVersion) is rests outward refl refl refl (inr refl) refl
      quiet_leaves (Some MemoryGetId) is outward rests = plain (Some MemoryGetId) is rests outward refl refl refl (inr refl) refl
      quiet_leaves (Some (GetNodeProtocolInfo node)) is outward rests = plain (Some (GetNodeProtocolInfo node)) is rests outward refl refl refl (inr refl) refl
      quiet_leaves (Some (AddNode mode id)) is outward rests = plain (Some (AddNode mode id)) is rests outward refl refl refl (inr refl) refl
      quiet_leaves (Some (IsFailedNode node)) is outward rests = plain (Some (IsFailedNode node)) is rests outward refl refl refl (inr refl) refl
      quiet_leaves (Some (GetRoutingInfo node a b c)) is outward rests = plain (Some (GetRoutingInfo node a b c)) is rests outward refl refl refl (inr refl) refl

      shown_leaves : (chip_does o (Judged (Good (Framed f)) route)).entries ≡ answer ∷ tail → (r : Option Request) → asked_of f ≡ r → Shows s from r (chip_does o (Judged (Good (Framed f)) route)) → Leaves
      shown_leaves told r is (Quiet rest told_is all left) =
          quiet_leaves r is
          (outward_by past (answer ∷ tail) (subst (λ (l : List AirFrame). AllByRecursion IsDevices l) (sym (ap frames (sym told ∙ told_is) ∙ more_frames rest all)) tt)) left
      shown_leaves told r is (Airs quiet node way payload options id r_is takes_it told_is all air calls due) =
          let now_state = sent_state node payload options id (is ∙ r_is) takes_it in
          let aired : List Entry = entry.Air (o.air.frames.sent + 1) 1 node (shown_via way) payload ∷ [] in
          let whole_is : past ++ answer ∷ tail ≡ (past ++ answer ∷ quiet) ++ aired = ap (λ (l : List Entry). past ++ l) (sym told ∙ told_is) ∙ sym (append_assoc past (answer ∷ quiet) aired) in
          let same : length (frames past) + 1 ≡ length (frames (past ++ answer ∷ quiet)) + 1 = ap (λ (l : List AirFrame). length l + 1) (sym (frames_more past quiet all)) in
          (taken node payload options id (is ∙ r_is) takes_it now_state.0 now_state.1 (taken_within s node payload puts.joined takes_it)).1
          (ap₂ (λ (l : List Entry) (n : ℕ). is_outward l n) whole_is same ∙ outward_sent (past ++ answer ∷ quiet) (o.air.frames.sent + 1) node (shown_via way) payload)
          (ap (λ (l : List Call). last_or false (flags l)) calls ∙ last_flag o.calls OfFrame false) due

      pub leaves : (chip_does o (Judged (Good (Framed f)) route)).entries ≡ answer ∷ tail → Leaves
      leaves told = shown_leaves told (asked_of f) refl (shows devices laws did past o f route free items puts)
