-- Where a payload for the device of a node alone is on its way to it, and nothing else of it: its request comes to the chip, the chip puts it on the air, and the device hears it and answers.
use Rattle.std.proofs.Common.{◌≡◌, ◌≤◌, ◌<◌, ℕ, suc, nat_lt, Bool, true, List, [], ◌∷◌, ◌++◌, length, refl, sym, ap, ◌∙◌, subst, arith}
use Rattle.std.specs.Prelude.{Option, Some, slice_get, slice_set}
use Rattle.serial_frame.specs.Frame.{FrameParts}
use Rattle.serial_frame.specs.Stream.{Rest}
use Rattle.serial_frame.specs.declared.item.Item.{Item}
use Rattle.chip_functions.specs.declared.notice.Notice.TheVariants.{ApplicationUpdate}
use Rattle.chip_functions.specs.declared.notice.TransmitStatus.{TransmitStatus}
use Rattle.chip_functions.specs.declared.notice.Update.{Update}
use Rattle.chip_sim.specs.Answers.{notice_frame}
use Rattle.chip_sim.specs.Requests.{callback_frame}
use Rattle.chip_sim.specs.declared.out.Sending.{Sending}
use Rattle.route_table.specs.declared.route.Route.{Route}
use Rattle.air_frames.specs.Flown.{Flown}
use Rattle.air_frames.specs.Frames.{next_of}
use Rattle.air_frames.specs.declared.frame.Heading.TheVariants.{Homeward, Outward}
use Rattle.device_sim.specs.Event.{Hears, device_after, device_replies}
use Rattle.device_sim.specs.State.{State}
use Rattle.mesh_sim.specs.Air.{is_joined}
use Rattle.mesh_sim.specs.Fates.{fate_of, place_of}
use Rattle.mesh_sim.specs.Steps.{MayHappen}
use Rattle.mesh_sim.specs.declared.fate.Fate.TheVariants.{AtDevice}
use Rattle.host_requests.specs.Frames.{frame_of, request_of, send}
use Rattle.host_requests.specs.declared.task.Purpose.{Purpose}
use Rattle.host_requests.specs.declared.under_way.UnderWay.{UnderWay}
use Rattle.outside_model.specs.Events.{Arrives, Chip_takes, May as MayOutside}
use Rattle.world_model.specs.Events.{Outside_does, happens, May}
use Rattle.world_model.specs.State.{Machine}
use Rattle.proof_spoken.proofs.KeptKinds.{event_same}
use Rattle.proof_course_plain.proofs.ChangesOutside.{get_set, place_set}
use Rattle.proof_course_plain.proofs.Replies.{one_place}
use Rattle.proof_answered.specs.Heard.{IsHeardThen}
use Rattle.proof_answered.specs.Sleepers.{IsAlone}
use Rattle.proof_answered.specs.proof_calm.proof_traffic.OnAir.{on_air}
use Rattle.proof_answered.specs.proof_calm.proof_work.proof_walk.Phases.{Arriving, Moving, Moved}
use Rattle.proof_answered.specs.proof_calm.Awaited.{Awaits}
use Rattle.proof_answered.specs.proof_calm.Passes.{chip_taken}
use Rattle.proof_answered.specs.proof_calm.Resting.{IsGiven}
use Rattle.proof_answered.specs.proof_calm.Tied.{on_line, unheard}
use Rattle.proof_answered.proofs.proof_traffic_Parts.{Airs}
use Rattle.proof_answered.proofs.Speaking.{hears_at}
use Rattle.proof_answered.proofs.Unheard.{all_piled, arrives_says, chip_part_says}
use Rattle.proof_in_time.specs.Coming.{brings}
use Rattle.proof_in_time.specs.Exchange.{Aired, BringsNone, By_attempt, By_offer, Flies, Given, Gives, GoesAlone, GoesHome, GoesOut, HearsOut, IsOut, IsThere, NoneFly, NoneTold, OutAlone}
use Rattle.proof_in_time.proofs.Aired.{Departs, frame_departs, never_idle, request_taken}
use Rattle.proof_in_time.proofs.Busy.{arrived_devices, one_most}
use Rattle.proof_in_time.proofs.ExchangeHome.{first_is}
use Rattle.proof_in_time.proofs.ExchangeKept.{answer_none}
use Rattle.proof_in_time.proofs.ExchangeWaysAround.{AroundLock}
use Rattle.proof_in_time.proofs.Grown.{Arrived}
use Rattle.proof_in_time.proofs.PartsLanded.{SaidBy, Says, part_flies}

-- ---- its request comes to the chip

-- with a payload for the node, it is to send that to it
sends_of : (n : ℕ) (payload : List ℕ) (purpose : Purpose) (id : ℕ) → Gives n payload purpose → request_of purpose id ≡ send n payload id
sends_of n payload purpose id (By_attempt more is) = ap (λ (p : Purpose). request_of p id) is
sends_of n payload purpose id (By_offer nonce is of) = ap (λ (p : Purpose). request_of p id) is ∙ ap (λ (bytes : List ℕ). send n bytes id) (sym of)

-- the chip takes it: it is on the air, and arrives in the next tick
module _ (airs : Airs) (these : List Bool) (n : ℕ) (alone : IsAlone these n) (within : n < 233) (left passes ticks : ℕ) (m : Machine) (rest : Rest) (ways : List (Item × Option Route))
    (a : AroundLock these n (Moving passes ticks) (Moved true passes ticks) m (Outside_does (Chip_takes (length m.outside.outer.to_chip.bytes) rest ways))) (Is : List ℕ → Type 0) where
  pub given_taken : (request : UnderWay) (payload : List ℕ) → m.host.state.requests.under_way ≡ Some request → Gives n payload request.purpose → on_line m.host.state.side.turn ≡ frame_of request.purpose m.host.state.requests.last_id ∷ [] → Is payload → 1 ≤ left
      → NoneFly n (on_air m.outside.outer.air.frames) → NoneTold n (unheard m.outside.outer) → OutAlone n Is left (Moved true passes ticks) (chip_taken m rest ways)
  given_taken request payload under_way gives line is some none told = record {
    out = Aired (record { before = on_air m.outside.outer.air.frames; frame = departs.frame; behind = []; are = departs.are; is = record { node = departs.is.node; out = departs.is.out; is = subst Is (sym departs.is.is) is } }) (omega (arith, some));
    alone = (none, tt);
    told = chip_part_says (BringsNone n) (NoneTold n) (all_piled (BringsNone n)) (answer_none n) passes m rest ways a.may a.line a.room a.tie a.then_line told;
  }
    where
      sends : (id : ℕ) → request_of request.purpose id ≡ send n payload id
      sends id = sends_of n payload request.purpose id gives

      departs : Departs n payload (on_air m.outside.outer.air.frames) (on_air (chip_taken m rest ways).outside.outer.air.frames)
      departs =
          frame_departs airs m a.awaits n payload within these alone.marked (never_idle m n payload request under_way sends line) (λ t f turn takes_it. request_taken m n payload request under_way sends line t f turn a.tie takes_it) passes rest ways a.may a.line a.room
          a.tie a.peopled

-- ---- it arrives

update_none : (n : ℕ) (update : Update) → BringsNone n (notice_frame (ApplicationUpdate update))
update_none n update payload e = let no = ap (λ (f : FrameParts). f.func) e in absurd cc

call_none : (n : ℕ) (sent : Sending) (status : TransmitStatus) → BringsNone n (callback_frame sent status)
call_none n sent status payload e = let no = ap (λ (f : FrameParts). f.func) e in absurd cc

module _ (airs : Airs) (m : Machine) (is : Awaits m) (drawn : List ℕ) (route : Option Route) (at : Arrived airs m is drawn route) (n left frames ticks : ℕ) (Is : List ℕ → Type 0) where
  abbrev then_there : Machine
  then_there = happens m (Outside_does (Arrives drawn route))

  same_host : then_there.host.state ≡ m.host.state
  unfolding happens
  same_host = refl

  eight_of : May m (Outside_does (Arrives drawn route)) → length drawn ≡ 8
  unfolding May MayOutside MayHappen
  eight_of may = may.1.1

  module _ (given : IsGiven 0 m) (later_given : IsGiven 0 (happens m (Outside_does (Arrives drawn route)))) (may : May m (Outside_does (Arrives drawn route))) (hears : IsHeardThen m (Outside_does (Arrives drawn route))) (there : IsThere n m.outside.devices)
      (joined : is_joined m.outside.outer.air n ≡ true) (within : n < 233) (told : NoneTold n (unheard m.outside.outer)) where
    -- its first device hears it; where it answers with one payload, that goes home alone
    hears_it : IsOut n Is at.frame → NoneFly n at.rest → HearsOut n Is (Arriving frames ticks) m (Outside_does (Arrives drawn route))
    hears_it one none = record {
      payload = at.frame.payload;
      drawn = drawn;
      is = one.is;
      eight = eight_of may;
      at = there;
      later = record {
        place = there.place;
        device = new;
        first = subst (λ (ds : List State). place_of n ds ≡ Some there.place) (sym devices_are) (place_set n m.outside.devices there.place there.device new there.stands (event_same there.device (Hears at.frame.payload drawn)).node ∙ there.first);
        stands = subst (λ (ds : List State). slice_get ds there.place ≡ Some new) (sym devices_are) (get_set m.outside.devices there.place there.device new there.stands);
      };
      heard = refl;
      host = same_host;
      answers = answers;
    }
      where
        new : State
        new = device_after there.device (Hears at.frame.payload drawn)

        fate : fate_of m.outside.outer.air.network m.outside.devices at.frame ≡ AtDevice there.place
        fate =
            let found = hears at.frame at.next one.out in
            let first : place_of n m.outside.devices ≡ Some found.0 = subst (λ (k : ℕ). place_of k m.outside.devices ≡ Some found.0) one.node (hears_at m.outside.outer.air.network m.outside.devices at.frame found.0 found.1) in
            found.1 ∙ ap AtDevice (sym (one_place n m.outside.devices there.place found.0 there.first first))

        devices_are : then_there.outside.devices ≡ slice_set m.outside.devices there.place new
        devices_are = arrived_devices m drawn route at.frame there.place there.device at.next fate there.stands

        none_brought : (frame : Flown) → next_of m.outside.outer.air.frames ≡ Some frame → frame.heading ≡ Homeward → BringsNone n (brings frame.node frame.payload)
        none_brought frame next home =
            let same : Some frame ≡ Some at.frame = sym next ∙ at.next in
            let own : frame ≡ at.frame = cc in
            let wrong : Homeward ≡ Outward = sym home ∙ (ap (λ (f : Flown). f.heading) own ∙ one.out) in
            absurd cc

        told_then : NoneTold n (unheard then_there.outside.outer)
        told_then = arrives_says (BringsNone n) (NoneTold n) (all_piled (BringsNone n)) (update_none n) (call_none n) m drawn route given later_given none_brought told

        flies : (reply : List ℕ) → Says at.frame.node (reply ∷ []) at.rest (on_air then_there.outside.outer.air.frames) → GoesHome n (λ said. said ≡ reply) 1 (Arriving frames ticks) then_there
        flies reply says = by says.news says.said says.are
          where
            by : (news : List Flown) → SaidBy at.frame.node (reply ∷ []) news → on_air then_there.outside.outer.air.frames ≡ at.rest ++ news → GoesHome n (λ said. said ≡ reply) 1 (Arriving frames ticks) then_there
            by [] said are = absurd said
            by (frame ∷ second ∷ others) said are = absurd said.1
            by (frame ∷ []) said are =
                let soon = one_most (nat_lt (length at.rest) frames) in
                Flies (record { before = at.rest; frame = frame; behind = []; are = are; is = record { node = said.0.0 ∙ one.node; home = said.0.1.0; is = said.0.1.1 } }) none tt told_then tt (omega (arith, soon))

        answers : (reply : List ℕ) → device_replies there.device (Hears at.frame.payload drawn) ≡ reply ∷ [] → GoesHome n (λ said. said ≡ reply) 1 (Arriving frames ticks) then_there
        answers reply says =
            flies reply
            (subst (λ (replies : List (List ℕ)). Says at.frame.node replies at.rest (on_air then_there.outside.outer.air.frames)) says
            (part_flies airs m is drawn route at there.place there.device fate there.stands (subst (λ (k : ℕ). is_joined m.outside.outer.air k ≡ true) (sym one.node) joined) (subst (λ (k : ℕ). k < 233) (sym one.node) within)))

    -- nothing else is on the air: that is it
    pub out_arrives : at.frame.node ≡ n → OutAlone n Is left (Arriving (suc frames) ticks) m → HearsOut n Is (Arriving frames ticks) m (Outside_does (Arrives drawn route))
    out_arrives own o = by o.out o.alone
      where
        by : (out : GoesOut n Is left (Arriving (suc frames) ticks) m) → GoesAlone n Is left (Arriving (suc frames) ticks) m out → HearsOut n Is (Arriving frames ticks) m (Outside_does (Arrives drawn route))
        by (Given request payload asking under_way gives line so some) only = absurd asking
        by (Aired stands few) only = let first = first_is n at.frame at.rest (on_air m.outside.outer.air.frames) at.were own (IsOut n Is) stands only.0 only.1 in hears_it first.0 first.1.0
