-- The device hears the segment: it is to hear the next one, or has asked for another; or its report of the end is on the air, or it is at work on the session.
use Rattle.std.proofs.Common.{◌≡◌, ◌≤◌, ◌<◌, ℕ, suc, ◌+◌, ◌-◌, ◌*◌, ◌%◌, nat_lt, inl, inr, Bool, true, false, if◌then◌else◌, List, [], ◌∷◌, ◌++◌, length, refl, sym, ap, ◌∙◌, subst, append_assoc, arith}
use Rattle.std.proofs.lemmas.Bool.{cases_lt}
use Rattle.std.proofs.lemmas.Bool.Decides.{nat_tests}
use Rattle.std.proofs.lemmas.List.{append-nil}
use Rattle.std.specs.Prelude.{◌⊎◌, Option, Some, None, slice_get, slice_set}
use Rattle.std.specs.List.{AllByRecursion}
use Rattle.zw_base.proofs.Each.{all-append}
use Rattle.serial_frame.specs.Frame.{FrameParts}
use Rattle.route_table.specs.declared.route.Route.{Route}
use Rattle.class_info.specs.declared.message.InfoMessage.TheVariants.{TransportComplete, TransportRequest}
use Rattle.class_info.specs.InfoSpelling.{form}
use Rattle.host_heard.specs.Telling.{heard_at}
use Rattle.host_heard.specs.declared.payload.Heard.TheVariants.{Messages}
use Rattle.host_heard.specs.declared.told.Told.TheVariants.{Report, SegmentRequest}
use Rattle.supervision.specs.Session.{wire_id}
use Rattle.chip_sim.specs.Nodes.{is_marked}
use Rattle.air_frames.specs.Flown.{Flown}
use Rattle.air_frames.specs.declared.frame.Heading.TheVariants.{Homeward}
use Rattle.device_kinds.specs.Answers.{report_status}
use Rattle.device_sim.specs.Event.{Hears, device_after, device_replies}
use Rattle.device_sim.specs.State.{State}
use Rattle.mesh_sim.specs.Air.{is_joined}
use Rattle.mesh_sim.specs.Fates.{fate_of, place_of}
use Rattle.mesh_sim.specs.declared.fate.Fate.TheVariants.{AtDevice}
use Rattle.host_model.specs.Sessions.{segment_count}
use Rattle.host_model.specs.State.{node_of}
use Rattle.outside_model.specs.Events.{Arrives}
use Rattle.world_model.specs.Events.{Outside_does, happens}
use Rattle.world_model.specs.State.{Machine}
use Rattle.proof_messages.specs.Reporting.{TellsPlainly, asks_now}
use Rattle.proof_answered.specs.proof_calm.proof_traffic.OnAir.{on_air}
use Rattle.proof_answered.specs.proof_calm.proof_traffic.OutsideTraffic.{outward}
use Rattle.proof_answered.specs.proof_calm.proof_work.proof_walk.Phases.{Arriving}
use Rattle.proof_answered.specs.proof_calm.Awaited.{Awaits}
use Rattle.proof_answered.specs.proof_calm.Live.{IsLive}
use Rattle.proof_answered.specs.proof_calm.Resting.{IsGiven}
use Rattle.proof_answered.specs.proof_calm.Tied.{unheard}
use Rattle.proof_answered.proofs.proof_traffic_Parts.{Airs}
use Rattle.proof_spoken.proofs.KeptKinds.{event_same}
use Rattle.proof_in_time.specs.Answering.{IsDoneOrAtWork}
use Rattle.proof_in_time.specs.Coming.{IsBusy, IsReport, Stands, TellsEnd, brings, one_later}
use Rattle.proof_in_time.specs.Parts.{AllPlain, AllTold, Amid, AreInside, Asked, Asks, Asks_one, Asks_told_two, Asks_two, AsksForPart, ComesPlainly, HasCall, Hears_one, Hears_two, HasFirst, IsAsk, IsAskTold, IsCut, IsElse, IsInTurn, IsWanted, OnWay, Owed, To_give, To_give_two, ToHear}
use Rattle.proof_in_time.specs.Untold.{EndsNone, NoneEnds, NoneFliesEnds, NoneToldEnds}
use Rattle.proof_in_time.proofs.Bounded.{tells_end}
use Rattle.proof_in_time.proofs.Busy.{BusyThere, arrived_devices, then_busy}
use Rattle.proof_in_time.proofs.Completes.{complete_plain}
use Rattle.proof_in_time.proofs.Grown.{Arrived}
use Rattle.proof_in_time.proofs.PartsArrived.{Comes, HearsNow, call_told, outside_host, update_told}
use Rattle.proof_in_time.proofs.PartsCarried.{SameFor, amid_more, call_last, same_for}
use Rattle.proof_in_time.proofs.PartsFlying.{none_out, plain_out, said_out}
use Rattle.proof_in_time.proofs.PartsHeard.{EndsWith, Ends_so, GoesOnTo, Goes_on, HearsPart, Wants}
use Rattle.proof_in_time.proofs.PartsPhases.{said_plain}
use Rattle.proof_in_time.proofs.PartsLanded.{More, SaidBy, Says, outward_unheard, part_flies}

-- ---- what it says

-- what asks for a segment is heard so
abbrev pub AskIsHeard : Type 0
AskIsHeard = (id at : ℕ) → id < 16 → at < 2048 → heard_at (form (TransportRequest id at)) ≡ Messages (SegmentRequest id at ∷ [])

ask_long : (id at : ℕ) → length (form (TransportRequest id at)) ≡ 4
ask_long id at = refl

ask_is : AskIsHeard → (session place size : ℕ) (payload : List ℕ) → 39 * place < size → size ≤ 512 → payload ≡ form (TransportRequest (session % 16) (39 * place)) → AsksForPart session place payload
ask_is heard session place size payload inside most is =
    let long : length payload ≡ 4 = ap (λ (p : List ℕ). length p) is ∙ ask_long (session % 16) (39 * place) in
    record { heard = ap heard_at is ∙ heard (session % 16) (39 * place) (omega arith) (omega (arith, inside, most)); some = omega (arith, long); few = omega (arith, long) }

none_said : (n : ℕ) (replies : List (List ℕ)) (news : List Flown) → replies ≡ [] → SaidBy n replies news → news ≡ []
none_said n replies [] none said = refl
none_said n replies (frame ∷ news) none said = absurd (subst (λ (rs : List (List ℕ)). SaidBy n rs (frame ∷ news)) none said)

-- these frames are one, or two
pub record OneSaid (n : ℕ) (reply : List ℕ) (news : List Flown) : Type 0 where
  pub frame : Flown
  pub are : news ≡ frame ∷ []
  pub node : frame.node ≡ n
  pub home : frame.heading ≡ Homeward
  pub text : frame.payload ≡ reply

one_said : (n : ℕ) (replies : List (List ℕ)) (reply : List ℕ) (news : List Flown) → replies ≡ reply ∷ [] → SaidBy n replies news → OneSaid n reply news
one_said n replies reply news is said = by news (subst (λ (rs : List (List ℕ)). SaidBy n rs news) is said)
  where
    by : (frames : List Flown) → SaidBy n (reply ∷ []) frames → OneSaid n reply frames
    by [] wrong = absurd wrong
    by (frame ∷ []) so = record { frame = frame; are = refl; node = so.0.0; home = so.0.1.0; text = so.0.1.1 }
    by (frame ∷ other ∷ frames) so = absurd so.1

pub record TwoSaid (n : ℕ) (first second : List ℕ) (news : List Flown) : Type 0 where
  pub before : Flown
  pub rest : List Flown
  pub are : news ≡ before ∷ rest
  pub last : OneSaid n second rest

two_said : (n : ℕ) (replies : List (List ℕ)) (first second : List ℕ) (news : List Flown) → replies ≡ first ∷ second ∷ [] → SaidBy n replies news → TwoSaid n first second news
two_said n replies first second news is said = by news (subst (λ (rs : List (List ℕ)). SaidBy n rs news) is said)
  where
    by : (frames : List Flown) → SaidBy n (first ∷ second ∷ []) frames → TwoSaid n first second frames
    by [] wrong = absurd wrong
    by (frame ∷ frames) so = record { before = frame; rest = frames; are = refl; last = one_said n (second ∷ []) second frames refl so.1 }

late : (frames ticks place : ℕ) → frames ≤ place → one_later (Arriving frames ticks) place ≡ 1
late frames ticks place from = ap (λ (b : Bool). if b then 0 else 1) (let so : nat_lt place frames ≡ false = grind (arith, nat_tests, from) in so)

at_most : (x later : ℕ) → x ≡ 1 → 1 ≤ later → 0 + x ≤ later
at_most x later one some = omega (arith, one, some)

-- ---- as the device takes the session

-- what it asked for before is with the host still, and nothing that comes to the host in this tick tells the end
pub record AsksStill (these : List Bool) (n session count : ℕ) (rest : List Flown) (m : Machine) : Type 0 where
  pub place : ℕ
  pub less : place < count
  pub asked : Asked these n session place m
  pub flying : NoneFliesEnds n session rest
  pub told : NoneToldEnds n session (unheard m.outside.outer)

-- What the attempt has to give still is as it was; what flew before tells plainly, and so does what the device says then, behind that. So many frames are to arrive in this tick.
pub record IsTakenNow (these : List Bool) (n session frames : ℕ) (m : Machine) : Type 0 where
  pub message : List ℕ
  pub cut : IsCut n session message m.host.state
  pub count : (node_of m.host.state n).segments ≡ segment_count message
  pub no_text : (node_of m.host.state n).text ≡ None
  pub no_pending : (node_of m.host.state n).pending ≡ None
  pub stands : HasFirst n m.outside.devices
  pub taken : stands.device.sessions.taken ≡ session
  pub next : ℕ
  pub other : IsElse n next m
  pub rest : List Flown
  pub added : List Flown
  pub are : on_air m.outside.outer.air.frames ≡ rest ++ added
  pub plain : AllPlain these rest
  pub says : AllPlain these added
  pub behind : frames ≤ length rest
  pub told : AllTold these (unheard m.outside.outer) ⊎ AsksStill these n session (segment_count message) rest m

-- ---- it hears

module _ (airs : Airs) (asks : AskIsHeard) (these : List Bool) (n session : ℕ) (message : List ℕ) (few_bytes : length message ≤ 512) (m : Machine) (is : Awaits m) (drawn : List ℕ) (route : Option Route) (at : Arrived airs m is drawn route) (given : IsGiven 0 m)
    (then_given : IsGiven 0 (happens m (Outside_does (Arrives drawn route)))) (room : length m.outside.outer.chip.state.port.waiting ≤ 31) (live : IsLive m.outside.outer.air.network at.frame) (frames ticks : ℕ) (behind : frames ≤ length at.rest) where
  abbrev then_there : Machine
  then_there = happens m (Outside_does (Arrives drawn route))

  -- it comes to work
  abbrev pub AtWork : Type 0
  AtWork = (busy : IsBusy n session then_there.outside.devices) × (busy.device.work_left ≤ 5)

  -- some are to be heard still, within one tick less; or the report of the end is on the air, or it is at work
  pub data PartsThen (count most was : ℕ) (new : State) : Type 0 where
    On : (hears : ToHear) (next : ℕ) → OnWay these n session message next 1 (Arriving frames ticks) then_there hears → AreInside hears count → IsInTurn session message hears next new (most - 1) ⊎ IsWanted session message hears new (most - 1) → 1 ≤ most → new.sessions.taken ≡ was
        → PartsThen count most was new
    Over : Stands (IsReport n session) (on_air then_there.outside.outer.air.frames) ⊎ AtWork → 5 ≤ most → (next : ℕ) (added : List Flown) → new.sessions.taken ≡ session → IsElse n next then_there
        → on_air then_there.outside.outer.air.frames ≡ at.rest ++ added → AllPlain these at.rest → AllPlain these added → AllTold these (unheard then_there.outside.outer) ⊎ AsksStill these n session count at.rest then_there → PartsThen count most was new

  module _ (next most : ℕ) (hears : ToHear) (h : HearsNow airs these n session message m is drawn route at given then_given room live frames ticks next hears) (place : ℕ) (device : State) (first : place_of n m.outside.devices ≡ Some place)
      (there : slice_get m.outside.devices place ≡ Some device) (fate : fate_of m.outside.outer.air.network m.outside.devices at.frame ≡ AtDevice place) (joined : is_joined m.outside.outer.air n ≡ true) (within : n < 233) (marked : is_marked these n ≡ true)
      (untold : (first other : ℕ) → hears ≡ Hears_two first other → NoneEnds n session m) (count : (node_of m.host.state n).segments ≡ segment_count message) (inside : AreInside hears (segment_count message))
      (calls : outward (on_air then_there.outside.outer.air.frames) ≡ 0 → (more : List FrameParts) → unheard then_there.outside.outer ≡ unheard m.outside.outer ++ more → HasCall then_there.host.state.requests.last_id more) where
    abbrev new : State
    new = device_after device (Hears at.frame.payload drawn)

    abbrev replies : List (List ℕ)
    replies = device_replies device (Hears at.frame.payload drawn)

    says : Says n replies at.rest (on_air then_there.outside.outer.air.frames)
    says =
        subst (λ (k : ℕ). Says k replies at.rest (on_air then_there.outside.outer.air.frames)) h.frame_is.node
        (part_flies airs m is drawn route at place device fate there (subst (λ (k : ℕ). is_joined m.outside.outer.air k ≡ true) (sym h.frame_is.node) joined) (subst (λ (k : ℕ). k < 233) (sym h.frame_is.node) within))

    more : More (Comes these) (unheard m.outside.outer) (unheard then_there.outside.outer)
    more = outward_unheard (Comes these) (update_told these) (call_told these) m drawn route given then_given at.frame place device at.next fate there

    same : SameFor n (Arriving (suc frames) ticks) m.host.state then_there.host.state
    same = same_for n (Arriving (suc frames) ticks) m.host.state then_there.host.state (outside_host m (Arrives drawn route))

    other : IsElse n next then_there
    other = record { no_task = same.queue ∙ h.other.no_task; next_is = same.next_is ∙ h.other.next_is }

    count_then : (node_of then_there.host.state n).segments ≡ segment_count message
    count_then = same.count ∙ count

    told_plain : AllTold these (unheard m.outside.outer) → AllTold these (unheard then_there.outside.outer)
    told_plain all = subst (AllTold these) (sym more.are) (all-append (Comes these) (unheard m.outside.outer) more.more all more.each)

    abbrev EndsNo : FrameParts → Type 0
    EndsNo frame = (payload : List ℕ) → frame ≡ brings n payload → EndsNone session payload

    -- it is given nothing that is of the node
    none_told : NoneToldEnds n session (unheard m.outside.outer) → NoneToldEnds n session (unheard then_there.outside.outer)
    none_told all =
        let adds = outward_unheard EndsNo (λ update payload e. let no = ap (λ (f : FrameParts). f.func) e in absurd cc) (λ sent status payload e. let no = ap (λ (f : FrameParts). f.func) e in absurd cc) m drawn route given then_given at.frame place device at.next
        fate there in
        subst (AllByRecursion EndsNo) (sym adds.are) (all-append EndsNo (unheard m.outside.outer) adds.more all adds.each)

    abbrev Then : Type 0
    Then = PartsThen (segment_count message) most device.sessions.taken new

    none_flies : outward (on_air then_there.outside.outer.air.frames) ≡ 0
    none_flies = ap outward says.are ∙ none_out at.rest says.news (plain_out these at.rest h.plain) (said_out n replies says.news says.said)

    -- it has said nothing
    keeps_on : (k : ℕ) → hears ≡ Hears_one k → next ≡ k + 1 → k + 1 < segment_count message → replies ≡ [] → IsInTurn session message (Hears_one (k + 1)) (k + 2) new (most - 1) → 1 ≤ most → new.sessions.taken ≡ device.sessions.taken → Then
    keeps_on k alone follows less silent turn some stays =
        let air : on_air then_there.outside.outer.air.frames ≡ at.rest = says.are ∙ (ap (λ (l : List Flown). at.rest ++ l) (none_said n replies says.news silent says.said) ∙ append-nil at.rest) in
        On (Hears_one (k + 1)) (k + 2)
        (To_give (k + 1) refl (Owed tt other.no_task (other.next_is ∙ follows) (subst (λ (c : ℕ). k + 1 < c) (sym count_then) less) (omega arith)) (subst (AllPlain these) (sym air) h.plain) (told_plain (by h.told)) (omega arith)) less (inl turn) some stays
      where
        by : ((hears ≡ Hears_one h.place) × AllTold these (unheard m.outside.outer)) ⊎ ((j : ℕ) × ((hears ≡ Hears_two h.place j) × Amid (Comes these) (IsAskTold n session j) (unheard m.outside.outer))) → AllTold these (unheard m.outside.outer)
        by (inl (one, all)) = all
        by (inr (j, (two, asked))) = absurd (let wrong : Hears_one k ≡ Hears_two h.place j = sym alone ∙ two in cc)

    -- ahead of the call, or nothing more is to be given
    abbrev FirstThen : List FrameParts → Type 0
    FirstThen l = HasCall then_there.host.state.requests.last_id l ⊎ ((node_of then_there.host.state n).segments ≤ (node_of then_there.host.state n).next_segment)

    -- what was asked for before is with the host
    asked_then : (k : ℕ) → Amid (Comes these) (IsAskTold n session k) (unheard m.outside.outer) → Asked these n session k then_there
    asked_then k asked_for =
        let on = amid_more (Comes these) (IsAskTold n session k) (unheard m.outside.outer) (unheard then_there.outside.outer) more.more more.are more.each asked_for in
        record { at = on.0; first = subst FirstThen (sym on.1.1) (inl (call_last then_there.host.state.requests.last_id asked_for.behind more.more (calls none_flies more.more more.are))) }

    -- it has asked for another
    wants_on : (least : ℕ) → least < segment_count message → replies ≡ form (TransportRequest (session % 16) (39 * least)) ∷ [] → ((then_hears : ToHear) → GoesOnTo hears least then_hears → IsWanted session message then_hears new (most - 1)) → 1 ≤ most
        → new.sessions.taken ≡ device.sessions.taken → Then
    wants_on least less asked wanted some stays = by h.told
      where
        one : OneSaid n (form (TransportRequest (session % 16) (39 * least))) says.news
        one = one_said n replies (form (TransportRequest (session % 16) (39 * least))) says.news asked says.said

        ask : Amid (ComesPlainly these) (IsAsk n session least) (on_air then_there.outside.outer.air.frames)
        ask = record {
          before = at.rest;
          one = one.frame;
          behind = [];
          are = says.are ∙ ap (λ (l : List Flown). at.rest ++ l) one.are;
          each = h.plain;
          is = record { node = one.node; home = one.home; asks = ask_is asks session least (length message) one.frame.payload (omega (arith, less)) few_bytes one.text };
          rest = tt;
        }

        ask_late : one_later (Arriving frames ticks) (length ask.before) ≡ 1
        ask_late = late frames ticks (length at.rest) behind

        by : ((hears ≡ Hears_one h.place) × AllTold these (unheard m.outside.outer)) ⊎ ((k : ℕ) × ((hears ≡ Hears_two h.place k) × Amid (Comes these) (IsAskTold n session k) (unheard m.outside.outer))) → Then
        by (inl (is_one, all)) = of (cases_lt next (segment_count message))
          where
            of : (next < segment_count message) ⊎ (segment_count message ≤ next) → Then
            of (inl next_less) =
                On (Hears_two next least) (next + 1)
                (To_give_two next least refl (Owed tt other.no_task other.next_is (subst (λ (c : ℕ). next < c) (sym count_then) next_less) refl) ask ask_late (told_plain all) (omega arith)) (next_less, less)
                (inr (wanted (Hears_two next least) (subst (λ (w : ToHear). GoesOnTo w least (Hears_two next least)) (sym is_one) refl))) some stays
            of (inr none) =
                On (Asks_one least) next
                (Asks least refl other tt (subst (λ (c : ℕ). c ≤ next) (sym count_then) none) ask (told_plain all) (at_most (one_later (Arriving frames ticks) (length ask.before)) 1 ask_late (omega arith))) less
                (inr (wanted (Asks_one least) (subst (λ (w : ToHear). GoesOnTo w least (Asks_one least)) (sym is_one) refl))) some stays
        by (inr (k, (is_two, asked_for))) =
            On (Asks_two k least) next (Asks_told_two k least refl other tt (asked_then k asked_for) ask ask_late (omega arith))
            ((subst (λ (w : ToHear). AreInside w (segment_count message)) is_two inside).1, less) (inr (wanted (Asks_two k least) (subst (λ (w : ToHear). GoesOnTo w least (Asks_two k least)) (sym is_two) (refl, refl)))) some stays

    -- it tells the end, or is at work
    ends_on : EndsWith session new replies → 5 ≤ most → Then
    ends_on e five = Over (by e.comes_to) five next says.news e.taken other says.are h.plain (said_plain these n replies says.news marked (subst (AllByRecursion TellsPlainly) (sym e.says) (complete_plain (session % 16), (own, tt))) says.said) (told h.told)
      where
        own : TellsPlainly e.payload
        own = record { told = Report (wire_id new.sessions.taken) (report_status new.sessions.status) (asks_now new); heard = e.tells; plain = tt }

        told : ((hears ≡ Hears_one h.place) × AllTold these (unheard m.outside.outer)) ⊎ ((k : ℕ) × ((hears ≡ Hears_two h.place k) × Amid (Comes these) (IsAskTold n session k) (unheard m.outside.outer)))
            → AllTold these (unheard then_there.outside.outer) ⊎ AsksStill these n session (segment_count message) at.rest then_there
        told (inl (is_one, all)) = inl (told_plain all)
        told (inr (k, (is_two, asked_for))) =
            let none = untold h.place k is_two in
            inr (record {
              place = k;
              less = (subst (λ (w : ToHear). AreInside w (segment_count message)) is_two inside).1;
              asked = asked_then k asked_for;
              flying = (subst (NoneFliesEnds n session) at.were none.flying).1;
              told = none_told none.told;
            })

        two : TwoSaid n (form (TransportComplete (session % 16))) e.payload says.news
        two = two_said n replies (form (TransportComplete (session % 16))) e.payload says.news e.says says.said

        by : IsDoneOrAtWork new → Stands (IsReport n session) (on_air then_there.outside.outer.air.frames) ⊎ AtWork
        by (inl done) =
            inl (record {
              before = at.rest ++ two.before ∷ [];
              frame = two.last.frame;
              behind = [];
              are = says.are ∙ (ap (λ (l : List Flown). at.rest ++ l) (two.are ∙ ap (λ (l : List Flown). two.before ∷ l) two.last.are) ∙ sym (append_assoc at.rest (two.before ∷ []) (two.last.frame ∷ [])));
              is = record {
                node = two.last.node;
                home = two.last.home;
                tells = subst (TellsEnd session) (sym two.last.text) (tells_end session new e.payload e.taken done.over e.tells e.some e.few);
              };
            })
        by (inr work) =
            inr
            (subst (λ (ds : List State). (busy : IsBusy n session ds) × (busy.device.work_left ≤ 5)) (sym (arrived_devices m drawn route at.frame place device at.next fate there))
            (of (then_busy n session m.outside.devices place device new first there (event_same device (Hears at.frame.payload drawn)).node e.taken work.working)))
          where
            of : BusyThere n session place new.work_left (slice_set m.outside.devices place new) → (busy : IsBusy n session (slice_set m.outside.devices place new)) × (busy.device.work_left ≤ 5)
            of (busy, (place_is, left_is)) = (busy, subst (λ (k : ℕ). k ≤ 5) (sym left_is) work.few)

    pub part_then : HearsPart session device.sessions.taken message hears next most new replies → Then
    part_then (Goes_on k alone follows less silent turn some stays) = keeps_on k alone follows less silent turn some stays
    part_then (Wants least less asked wanted some stays) = wants_on least less asked wanted some stays
    part_then (Ends_so ends five) = ends_on ends five
