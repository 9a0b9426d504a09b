-- What the outputs of the chip leave of what it waits for: units and drops leave all of it, and those that a request makes add what it asks for.
use Rattle.std.proofs.Common.{◌≡◌, ℕ, ◌+◌, Bool, true, false, if◌then◌else◌, List, [], ◌∷◌, ◌++◌, refl, sym, ap, ap₂, ◌∙◌, subst, append-nil, append_assoc}
use Rattle.std.specs.Prelude.{Option, Some, None}
use Rattle.std.specs.List.{AllByRecursion}
use Rattle.zw_base.proofs.Each.{all-append}
use Rattle.serial_frame.specs.Items.{unit_text}
use Rattle.serial_frame.specs.declared.unit.Unit.TheVariants.{Ack}
use Rattle.serial_pipes.specs.State.{mark_for}
use Rattle.serial_pipes.specs.Events.{told_by}
use Rattle.route_table.specs.declared.route.Route.{Route}
use Rattle.chip_functions.specs.declared.request.Request.{Request}
use Rattle.chip_functions.specs.declared.request.Request.TheVariants.{GetInitData, GetCapabilities, SendData, GetVersion, SendDataAbort, MemoryGetId, GetNodeProtocolInfo, AddNode, RequestNodeInfo, IsFailedNode, GetRoutingInfo}
use Rattle.chip_sim.specs.State.{ChipState}
use Rattle.chip_sim.specs.Answers.{takes as takes_of}
use Rattle.chip_sim.specs.Requests.{given_outs, performed_outs, reply_to, requested_outs, sent}
use Rattle.chip_sim.specs.declared.out.ChipOut.{ChipOut}
use Rattle.chip_sim.specs.declared.out.ChipOut.TheVariants.{Write, OnAir, NoRoute, AskInfo, Full}
use Rattle.mesh_sim.specs.Air.{AirState, departing}
use Rattle.air_frames.specs.declared.frame.Heading.TheVariants.{Outward}
use Rattle.zw_words.specs.declared.side.Side.TheVariants.{Chip as by_chip}
use Rattle.zw_text.specs.declared.entry.Entry.{Entry}
use Rattle.zw_text.specs.declared.entry.Entry.TheVariants as entry
use Rattle.zw_text.specs.Transcript.{AirFrame, frame_at, frames}
use Rattle.zw_text.proofs.Views.{shown-append}
use Rattle.outside_model.specs.declared.waits.Call.{Call}
use Rattle.outside_model.specs.declared.waits.Call.TheVariants.{OfFrame, NoRoute as no_route_call}
use Rattle.outside_model.specs.declared.waits.Due.{Due}
use Rattle.outside_model.specs.declared.waits.Due.TheVariants.{Info, NoRoute as no_route_due}
use Rattle.outside_model.specs.State.{OuterState, Outcome, each}
use Rattle.outside_model.specs.Chip.{put_out, shown_via}
use Rattle.proof_air.proofs.Entered.{IsMark, told_by_marks}
use Rattle.proof_line.proofs.Mild.{each-append}
use Rattle.proof_chip.proofs.Airing.{IsMore, answer}
use Rattle.proof_chip.proofs.Resting.{AreLeaving, LeavesAll, Rests, each_rests, given_leaves}
use Rattle.proof_chip.proofs.Quieting.{given_quiet, marks_more, puts_more}
use Rattle.proof_chip.proofs.Telling.{puts_both}

-- ---- units and drops

-- they put no frame on the air
mark_frames : (told : List Entry) → AllByRecursion IsMark told → frames told ≡ []
mark_frames [] marks = refl
mark_frames (entry.Dropped side ∷ told) marks = mark_frames told marks.1
mark_frames (entry.Garbled side unit ∷ told) marks = mark_frames told marks.1
mark_frames (entry.Overrun side ∷ told) marks = mark_frames told marks.1
mark_frames (e ∷ told) marks = absurd marks.0

put_frames : (out : ChipOut) (o : OuterState) → LeavesAll out → frames (put_out o out).entries ≡ []
put_frames (Write unit) o leaves = mark_frames _ (told_by_marks by_chip o.to_host.bytes (mark_for o.to_host.marks unit) (unit_text unit))
put_frames Full o leaves = refl
put_frames (OnAir to route payload) o leaves = absurd leaves
put_frames NoRoute o leaves = absurd leaves
put_frames (AskInfo node) o leaves = absurd leaves

pub leaving_frames : (puts : List ChipOut) (o : OuterState) → AreLeaving puts → frames (each put_out o puts).entries ≡ []
leaving_frames [] o leaves = refl
leaving_frames (out ∷ puts) o leaves =
    shown-append frame_at (put_out o out).entries (each put_out (put_out o out).outer puts).entries
    ∙ ap₂ (λ (a b : List AirFrame). a ++ b) (put_frames out o leaves.0) (leaving_frames puts (put_out o out).outer leaves.1)

-- ---- the answer to a frame, and what its request makes

-- what is due and awaited after it
abbrev pub LeavesTaken : Bool → OuterState → OuterState → Type 0
LeavesTaken true o p = (p.calls ≡ o.calls ++ no_route_call ∷ []) × (p.due ≡ o.due ++ no_route_due ∷ []) × (p.air ≡ o.air)
LeavesTaken false o p = Rests o p

abbrev pub LeavesSo : ChipState → OuterState → OuterState → Option Request → Type 0
LeavesSo s o p (Some (SendData node payload options id)) = LeavesTaken (takes_of s node payload) o p
LeavesSo s o p (Some (RequestNodeInfo node)) = (p.calls ≡ o.calls) × (p.due ≡ o.due ++ Info node ∷ []) × (p.air ≡ o.air)
LeavesSo s o p asked = Rests o p

-- the air is the same
pub leaves_air : (s : ChipState) (o p : OuterState) (asked : Option Request) → LeavesSo s o p asked → p.air ≡ o.air
leaves_air s o p None rests = rests.air
leaves_air s o p (Some (SendData node payload options id)) leaves = by (takes_of s node payload) leaves
  where
    by : (b : Bool) → LeavesTaken b o p → p.air ≡ o.air
    by true left = left.2
    by false rests = rests.air
leaves_air s o p (Some (RequestNodeInfo node)) left = left.2
leaves_air s o p (Some GetInitData) rests = rests.air
leaves_air s o p (Some GetCapabilities) rests = rests.air
leaves_air s o p (Some GetVersion) rests = rests.air
leaves_air s o p (Some SendDataAbort) rests = rests.air
leaves_air s o p (Some MemoryGetId) rests = rests.air
leaves_air s o p (Some (GetNodeProtocolInfo node)) rests = rests.air
leaves_air s o p (Some (AddNode mode id)) rests = rests.air
leaves_air s o p (Some (IsFailedNode node)) rests = rests.air
leaves_air s o p (Some (GetRoutingInfo node a b c)) rests = rests.air

-- the answer stands first; then nothing else that is told, or the frame of a SendData that is taken at the end
pub data Shows (s : ChipState) (o : OuterState) (asked : Option Request) (x : Outcome) : Type 0 where
  Quiet : (rest : List Entry) → x.entries ≡ answer ∷ rest → AllByRecursion IsMore rest → LeavesSo s o x.outer asked → Shows s o asked x
  Airs : (quiet : List Entry) (node : ℕ) (route : Route) (payload : List ℕ) (options id : ℕ) → asked ≡ Some (SendData node payload options id) → takes_of s node payload ≡ true
      → x.entries ≡ answer ∷ (quiet ++ entry.Air (o.air.frames.sent + 1) 1 node (shown_via route) payload ∷ []) → AllByRecursion IsMore quiet → x.outer.air ≡ departing o.air node Outward (Some route) payload
      → x.outer.calls ≡ o.calls ++ OfFrame ∷ [] → x.outer.due ≡ o.due → Shows s o asked x

module _ (s : ChipState) (o : OuterState) where
  abbrev acked : OuterState
  acked = (put_out o (Write Ack)).outer

  abbrev marks : List Entry
  marks = told_by by_chip o.to_host.bytes (mark_for o.to_host.marks Ack) (unit_text Ack)

  marks_are : AllByRecursion IsMore marks
  marks_are = marks_more o.to_host.bytes (mark_for o.to_host.marks Ack) (unit_text Ack)

  abbrev result : List ChipOut → Outcome
  result puts = each put_out o (Write Ack ∷ puts)

  module _ (request : Request) where
    abbrev given : List ChipOut
    given = given_outs s (reply_to s request)

    abbrev first : List Entry
    first = (each put_out acked given).entries

    abbrev there : OuterState
    there = (each put_out acked given).outer

    quiet : AllByRecursion IsMore (marks ++ first)
    quiet = all-append IsMore marks first marks_are (puts_more given acked (given_quiet (reply_to s request) s))

    rests : Rests o there
    rests =
        let got = each_rests given acked (given_leaves s (reply_to s request)) in
        record { calls = got.calls; due = got.due; air = got.air }

    entries_are : (last : List ChipOut) → (result (given ++ last)).entries ≡ answer ∷ ((marks ++ first) ++ (each put_out there last).entries)
    entries_are last =
        ap (λ (l : List Entry). answer ∷ (marks ++ l)) (puts_both given last acked) ∙ ap (λ (l : List Entry). answer ∷ l) (sym (append_assoc marks first (each put_out there last).entries))

    outer_is : (last : List ChipOut) → (result (given ++ last)).outer ≡ (each put_out there last).outer
    outer_is last = each-append acked given last

    -- nothing more
    none_shown : (x : Outcome) → x ≡ result (given ++ []) → (Rests o x.outer → LeavesSo s o x.outer (Some request)) → Shows s o (Some request) x
    none_shown x is leaves =
        Quiet (marks ++ first) (ap (λ (y : Outcome). y.entries) is ∙ (entries_are [] ∙ ap (λ (l : List Entry). answer ∷ l) (append-nil (marks ++ first)))) quiet
        (leaves (subst (λ (q : OuterState). Rests o q) (sym (ap (λ (y : Outcome). y.outer) is ∙ outer_is [])) rests))

  send_shown : (node : ℕ) (payload : List ℕ) (options id : ℕ) (way : Option Route) (b : Bool) → takes_of s node payload ≡ b
      → Shows s o (Some (SendData node payload options id)) (result (given (SendData node payload options id) ++ (if b then sent node payload way else [])))
  send_shown node payload options id way false is =
      none_shown (SendData node payload options id) (result (given (SendData node payload options id) ++ [])) refl (λ left. subst (λ (b : Bool). LeavesTaken b o (result (given (SendData node payload options id) ++ [])).outer) (sym is) left)
  send_shown node payload options id None true is =
      let request : Request = SendData node payload options id in
      let at = outer_is request (NoRoute ∷ []) in
      let left = rests request in
      Quiet (marks ++ first request) (entries_are request (NoRoute ∷ []) ∙ ap (λ (l : List Entry). answer ∷ l) (append-nil (marks ++ first request))) (quiet request)
      (subst (λ (b : Bool). LeavesTaken b o (result (given request ++ NoRoute ∷ [])).outer) (sym is) (
        ap (λ (q : OuterState). q.calls) at ∙ ap (λ (l : List Call). l ++ no_route_call ∷ []) left.calls,
        ap (λ (q : OuterState). q.due) at ∙ ap (λ (l : List Due). l ++ no_route_due ∷ []) left.due,
        ap (λ (q : OuterState). q.air) at ∙ left.air,
      ))
  send_shown node payload options id (Some route) true is =
      let request : Request = SendData node payload options id in
      let at = outer_is request (OnAir node route payload ∷ []) in
      let left = rests request in
      Airs (marks ++ first request) node route payload options id refl is
      (entries_are request (OnAir node route payload ∷ [])
      ∙ ap (λ (a : AirState). answer ∷ ((marks ++ first request) ++ entry.Air (a.frames.sent + 1) 1 node (shown_via route) payload ∷ [])) left.air)
      (quiet request)
      (ap (λ (q : OuterState). q.air) at ∙ ap (λ (a : AirState). departing a node Outward (Some route) payload) left.air)
      (ap (λ (q : OuterState). q.calls) at ∙ ap (λ (l : List Call). l ++ OfFrame ∷ []) left.calls)
      (ap (λ (q : OuterState). q.due) at ∙ left.due)

  info_shown : (node : ℕ) → Shows s o (Some (RequestNodeInfo node)) (result (given (RequestNodeInfo node) ++ AskInfo node ∷ []))
  info_shown node =
      let request : Request = RequestNodeInfo node in
      let at = outer_is request (AskInfo node ∷ []) in
      let left = rests request in
      Quiet (marks ++ first request) (entries_are request (AskInfo node ∷ []) ∙ ap (λ (l : List Entry). answer ∷ l) (append-nil (marks ++ first request))) (quiet request) (
        ap (λ (q : OuterState). q.calls) at ∙ left.calls,
        ap (λ (q : OuterState). q.due) at ∙ ap (λ (l : List Due). l ++ Info node ∷ []) left.due,
        ap (λ (q : OuterState). q.air) at ∙ left.air,
      )

  request_shown : (request : Request) (way : Option Route) → Shows s o (Some request) (result (given request ++ performed_outs request s way))
  request_shown (SendData node payload options id) way = send_shown node payload options id way (takes_of s node payload) refl
  request_shown (RequestNodeInfo node) way = info_shown node
  request_shown GetInitData way = none_shown GetInitData _ refl (λ left. left)
  request_shown GetCapabilities way = none_shown GetCapabilities _ refl (λ left. left)
  request_shown GetVersion way = none_shown GetVersion _ refl (λ left. left)
  request_shown SendDataAbort way = none_shown SendDataAbort _ refl (λ left. left)
  request_shown MemoryGetId way = none_shown MemoryGetId _ refl (λ left. left)
  request_shown (GetNodeProtocolInfo node) way = none_shown (GetNodeProtocolInfo node) _ refl (λ left. left)
  request_shown (AddNode mode id) way = none_shown (AddNode mode id) _ refl (λ left. left)
  request_shown (IsFailedNode node) way = none_shown (IsFailedNode node) _ refl (λ left. left)
  request_shown (GetRoutingInfo node a b c) way = none_shown (GetRoutingInfo node a b c) _ refl (λ left. left)

  pub shows_of : (asked : Option Request) (way : Option Route) → Shows s o asked (result (requested_outs asked s way))
  shows_of None way = Quiet (marks ++ []) refl (all-append IsMore marks [] marks_are tt) (record { calls = refl; due = refl; air = refl })
  shows_of (Some request) way = request_shown request way
