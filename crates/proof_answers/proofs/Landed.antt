-- That the chip was given just what it has for its host goes on where the next frame on the air arrives, be it of a device or of the controller.
use Rattle.std.proofs.Common.{◌≡◌, ℕ, suc, ◌+◌, ◌-◌, ◌==◌, nat_lt, Bool, true, false, if◌then◌else◌, List, [], ◌∷◌, ◌++◌, filter, map, refl, sym, ap, ap₂, ◌∙◌, subst, append-nil, append_assoc}
use Rattle.std.specs.Prelude.{Option, Some, None}
use Rattle.std.specs.Option.{unwrap_or}
use Rattle.std.specs.List.{AllByRecursion}
use Rattle.zw_base.proofs.Each.{all-append, all-weaker}
use Rattle.serial_frame.specs.Frame.{FrameParts}
use Rattle.serial_link.specs.Rules.{Step}
use Rattle.route_table.specs.declared.route.Route.{Route}
use Rattle.device_sim.specs.Event.{DeviceEvent, Hears}
use Rattle.air_frames.specs.declared.frame.Heading.TheVariants.{Outward, Homeward}
use Rattle.air_frames.specs.Flown.{Flown}
use Rattle.chip_functions.specs.Notice.{status_of as status_by}
use Rattle.chip_sim.specs.declared.out.Sending.{Sending as SendingParts}
use Rattle.chip_functions.specs.declared.notice.TransmitStatus.{TransmitStatus}
use Rattle.chip_functions.specs.declared.notice.TransmitStatus.TheVariants.{CompleteOk, Fail, NoAck}
use Rattle.mesh_sim.specs.declared.event.AirEvent.{AirEvent}
use Rattle.mesh_sim.specs.declared.event.AirEvent.TheVariants as tells
use Rattle.mesh_sim.specs.Air.{AirState}
use Rattle.mesh_sim.specs.Fates.{Mesh, place_of}
use Rattle.mesh_sim.specs.Steps.{acknowledged, heard_at, landed, mesh_after, mesh_outs, outs_at, status_of}
use Rattle.mesh_sim.specs.Steps as mesh
use Rattle.zw_text.specs.declared.entry.Entry.{Entry}
use Rattle.zw_text.specs.declared.entry.Entry.TheVariants as entry
use Rattle.law_transcript.specs.Fates.{first_fate}
use Rattle.law_transcript.specs.Restarts.{repeats as answers_repeat}
use Rattle.law_wire.specs.Asked.{Course, Sending, course_of, last_sending}
use Rattle.law_wire.specs.Results.{Called, ack_marks, ended_at, ended_by, is_outward, sent_as, status_heard}
use Rattle.law_wire.specs.Given.{Given, callback_of, handlers_at}
use Rattle.outside_model.specs.Devices.{State}
use Rattle.outside_model.specs.State.{OuterState, Outside, each}
use Rattle.outside_model.specs.Air.{change_at, change_entries, deals}
use Rattle.outside_model.specs.Results.{device_at, frame_ends}
use Rattle.outside_model.specs.Events.{Arrives, steps, happens as happens_outside}
use Rattle.proof_devices.proofs.Entered.{IsChange, change_entered}
use Rattle.proof_devices.specs.proof_air.proof_walk.Outside.{nothing}
use Rattle.proof_devices.specs.proof_air.Logs.{Tie}
use Rattle.proof_chip.specs.proof_line.proof_traffic.OnAir.{on_air}
use Rattle.proof_chip.proofs.ChipAccounts.{all_account, ends_account, steps_account, steps_by}
use Rattle.proof_chip.proofs.Parts.{Laws}
use Rattle.proof_chip.specs.Calling.{Waits}
use Rattle.proof_chip.specs.Serving.{GoesOn, as_given}
use Rattle.proof_chip.specs.Tally.{AreNumbered, Outlook, TallyBefore, TallySo, numbers_from, outlook}
use Rattle.proof_chip.proofs.Arriving.{ArePlain, plain_apart}
use Rattle.proof_chip.proofs.Asides.{IsUnrelated}
use Rattle.proof_chip.proofs.Hearing.{has_room, home_ends, home_fate}
use Rattle.proof_chip.proofs.Incoming.{EachCase, HasLanded, IsNext, SameFrames, done_by, done_plain, it_falls, it_is_next, landed_mesh}
use Rattle.proof_chip.proofs.Numbering.{with_number}
use Rattle.proof_chip.proofs.Settling.{AreIdle, IsIdle}
use Rattle.proof_chip.proofs.Fating.{IsFate, fate_other}
use Rattle.proof_answers.specs.Telling.{HasFailing, IsUnder, TellSo, TellsBefore}
use Rattle.proof_answers.proofs.Accounts.{posts_by}
use Rattle.proof_answers.proofs.Arriving.{fate_tells}
use Rattle.proof_answers.proofs.Ending.{Finish, ends_calmly, ends_clock, frame_finish}
use Rattle.proof_answers.proofs.Entering.{now_owed_still, under_still}
use Rattle.proof_answers.proofs.Hearing.{handlers_are, heard_calm, heard_frames, heard_idle, heard_owing, heard_posts}
use Rattle.proof_answers.proofs.Informing.{IsCalm}
use Rattle.proof_answers.proofs.Landing.{Ends}
use Rattle.proof_answers.proofs.Owning.{agrees}
use Rattle.proof_answers.proofs.Moving.{map_so}
use Rattle.proof_answers.proofs.Standing.{SameOwing, before_as, owed_as}

-- ---- what a device does, and then the end of a frame

module _ (there : List State) where
  plain_ends : (plain : List AirEvent) (o : OuterState) (number status : ℕ) (dead : Option (ℕ × ℕ)) → ArePlain plain → posts_by (all_account there (plain ++ tells.Done number status dead ∷ []) o) ≡ posts_by (ends_account o status dead)
  plain_ends [] o number status dead are = append-nil (posts_by (ends_account o status dead))
  plain_ends (tells.Sent at from to route payload ∷ plain) o number status dead are = plain_ends plain o number status dead are.1
  plain_ends (tells.Changed node at ∷ plain) o number status dead are = plain_ends plain o number status dead are.1
  plain_ends (tells.Heard at ∷ plain) o number status dead are = absurd are.0
  plain_ends (tells.Lost at ∷ plain) o number status dead are = absurd are.0
  plain_ends (tells.Unheard at ∷ plain) o number status dead are = absurd are.0
  plain_ends (tells.ToChip at from payload ∷ plain) o number status dead are = absurd are.0
  plain_ends (tells.Done at other other_dead ∷ plain) o number status dead are = absurd are.0

  plain_outer : (plain : List AirEvent) (o : OuterState) (number status : ℕ) (dead : Option (ℕ × ℕ)) → ArePlain plain → (each (deals there) o (plain ++ tells.Done number status dead ∷ [])).outer ≡ (frame_ends o status dead).outer
  plain_outer [] o number status dead are = refl
  plain_outer (tells.Sent at from to route payload ∷ plain) o number status dead are = plain_outer plain o number status dead are.1
  plain_outer (tells.Changed node at ∷ plain) o number status dead are = plain_outer plain o number status dead are.1
  plain_outer (tells.Heard at ∷ plain) o number status dead are = absurd are.0
  plain_outer (tells.Lost at ∷ plain) o number status dead are = absurd are.0
  plain_outer (tells.Unheard at ∷ plain) o number status dead are = absurd are.0
  plain_outer (tells.ToChip at from payload ∷ plain) o number status dead are = absurd are.0
  plain_outer (tells.Done at other other_dead ∷ plain) o number status dead are = absurd are.0

  plain_entries : (plain : List AirEvent) (o : OuterState) (number status : ℕ) (dead : Option (ℕ × ℕ)) → ArePlain plain
      → (each (deals there) o (plain ++ tells.Done number status dead ∷ [])).entries ≡ (each (deals there) o plain).entries ++ ((frame_ends o status dead).entries ++ [])
  plain_entries [] o number status dead are = refl
  plain_entries (tells.Sent at from to route payload ∷ plain) o number status dead are = ap (λ (l : List Entry). (deals there o (tells.Sent at from to route payload)).entries ++ l) (plain_entries plain o number status dead are.1)
  plain_entries (tells.Changed node at ∷ plain) o number status dead are =
      let first : List Entry = (deals there o (tells.Changed node at)).entries in
      ap (λ (l : List Entry). first ++ l) (plain_entries plain o number status dead are.1) ∙ sym (append_assoc first (each (deals there) o plain).entries ((frame_ends o status dead).entries ++ []))
  plain_entries (tells.Heard at ∷ plain) o number status dead are = absurd are.0
  plain_entries (tells.Lost at ∷ plain) o number status dead are = absurd are.0
  plain_entries (tells.Unheard at ∷ plain) o number status dead are = absurd are.0
  plain_entries (tells.ToChip at from payload ∷ plain) o number status dead are = absurd are.0
  plain_entries (tells.Done at other other_dead ∷ plain) o number status dead are = absurd are.0

  plain_calm : (plain : List AirEvent) (o : OuterState) → ArePlain plain → AllByRecursion IsCalm (each (deals there) o plain).entries
  plain_calm [] o are = tt
  plain_calm (tells.Sent at from to route payload ∷ plain) o are = (tt, plain_calm plain o are.1)
  plain_calm (tells.Changed node at ∷ plain) o are =
      let change = change_at (device_at there (place_of node there)) at in
      all-append IsCalm (change_entries node change) (each (deals there) o plain).entries (all-weaker IsChange IsCalm change_calm (change_entries node change) (change_entered node change)) (plain_calm plain o are.1)
    where
      change_calm : (e : Entry) → IsChange e → IsCalm e
      change_calm (entry.Dev node by setting) change = tt
      change_calm e change = absurd change
  plain_calm (tells.Heard at ∷ plain) o are = absurd are.0
  plain_calm (tells.Lost at ∷ plain) o are = absurd are.0
  plain_calm (tells.Unheard at ∷ plain) o are = absurd are.0
  plain_calm (tells.ToChip at from payload ∷ plain) o are = absurd are.0
  plain_calm (tells.Done at other other_dead ∷ plain) o are = absurd are.0

  -- all of it
  ends_idle : (plain : List AirEvent) (o : OuterState) (number status : ℕ) (dead : Option (ℕ × ℕ)) → ArePlain plain → AreIdle (each (deals there) o (plain ++ tells.Done number status dead ∷ [])).entries
  ends_idle plain o number status dead are =
      subst AreIdle (sym (plain_entries plain o number status dead are))
      (all-append IsIdle (each (deals there) o plain).entries ((frame_ends o status dead).entries ++ []) (all-weaker IsUnrelated IsIdle (λ e is. is.1) (each (deals there) o plain).entries (plain_apart there o plain are))
      (subst AreIdle (sym (append-nil (frame_ends o status dead).entries)) (ends_calmly o status dead).0))

  ends_calm : (plain : List AirEvent) (o : OuterState) (number status : ℕ) (dead : Option (ℕ × ℕ)) → ArePlain plain → AllByRecursion IsCalm (each (deals there) o (plain ++ tells.Done number status dead ∷ [])).entries
  ends_calm plain o number status dead are =
      subst (λ (l : List Entry). AllByRecursion IsCalm l) (sym (plain_entries plain o number status dead are))
      (all-append IsCalm (each (deals there) o plain).entries ((frame_ends o status dead).entries ++ []) (plain_calm plain o are)
      (subst (λ (l : List Entry). AllByRecursion IsCalm l) (sym (append-nil (frame_ends o status dead).entries)) (ends_calmly o status dead).1))

-- ---- by the transcript

-- what ends with the fate of one's own frame
own_sent : (course : Course) (past : List Entry) (number : ℕ) → is_outward past number ≡ true → sent_as course past number ≡ with_number number (last_sending course past)
own_sent course past number own = ap (λ (b : Bool). if b then filter (λ (sending : Sending). sending.frame == number) (last_sending course past) else []) own

none_sent : (course : Course) (past : List Entry) (number : ℕ) → is_outward past number ≡ false → sent_as course past number ≡ []
none_sent course past number other = ap (λ (b : Bool). if b then filter (λ (sending : Sending). sending.frame == number) (last_sending course past) else []) other

-- the status is that of the fate
acked : (air : AirState) (past : List Entry) → ack_marks past ≡ air.ack_losing → status_heard past ≡ unwrap_or (status_by (status_of air)) Fail
acked air past acks = ap (λ (n : ℕ). if nat_lt 0 n then NoAck else CompleteOk) acks ∙ by (nat_lt 0 air.ack_losing)
  where
    by : (b : Bool) → (if b then NoAck else CompleteOk) ≡ unwrap_or (status_by (if b then 1 else 0)) Fail
    by true = refl
    by false = refl

-- ---- the next frame arrives

module _ (devices : List State) (laws : Laws) (past : List Entry) (w : Outside) (tie : Tie nothing past w) (waits : Waits w.outer) (flight : Flown) (flights : List Flown) (left : ℕ) (did : List Step) (here : List Entry)
    (on : on_air w.outer.air.frames ≡ flight ∷ flights) (same : SameFrames here past) (apart : answers_repeat here ≡ false) (acks : ack_marks here ≡ w.outer.air.ack_losing)
    (tally : TallySo (TallyBefore devices (outlook w.outer) true (suc left) false 0) did here w.outer.chip.state.port) (so : TellSo (TellsBefore devices true w.outer) did here w.outer.chip.state.port) where
  abbrev v : Outlook
  v = outlook w.outer

  abbrev its_number : ℕ
  its_number = w.outer.air.frames.landed + 1

  abbrev numbers : List ℕ
  numbers = numbers_from (its_number + 1) flights

  it : IsNext devices w.outer flight flights left here
  it = it_is_next laws past w tie flight flights on devices waits left did here same tally

  abbrev with_air : AirState → OuterState
  with_air air = record w.outer { air = air }

  so_air : (air : AirState) → TellSo (TellsBefore devices true (record w.outer { air = air })) did here w.outer.chip.state.port
  so_air air =
      map_so devices (TellsBefore devices true w.outer) (TellsBefore devices true (with_air air))
      (λ frames course all was. before_as devices w.outer (with_air air) (record { clock = refl; sending = refl; failing = refl; calls = refl; due = refl }) frames course all true was) did here w.outer.chip.state.port so

  abbrev Ends_so : Mesh → List AirEvent → Type 0
  Ends_so m events =
      TellSo (TellsBefore devices true (each (deals m.devices) (with_air m.air) events).outer) (did ++ steps_by (all_account m.devices events (with_air m.air)))
      (here ++ (each (deals m.devices) (with_air m.air) events).entries) (each (deals m.devices) (with_air m.air) events).outer.chip.state.port

  tells_with : (air : AirState) (e : Entry) (fate : IsFate e) → first_fate here e ≡ its_number ∷ [] → (there : List State) (rest : List AirEvent) (more : List FrameParts) → posts_by (all_account there rest (record w.outer { air = air })) ≡ more
      → AreIdle (each (deals there) (record w.outer { air = air }) rest).entries → AllByRecursion IsCalm (each (deals there) (record w.outer { air = air }) rest).entries
      → ((frames : List FrameParts) (course : Course) → GoesOn (course_of did) course → TellsBefore devices true (record w.outer { air = air }) frames course here
      → (handlers_at here e ++ map callback_of (ended_at course here e) ≡ as_given more) × Ends (record w.outer { air = air }) (each (deals there) (record w.outer { air = air }) rest).outer course here e)
      → TellSo (TellsBefore devices true (each (deals there) (record w.outer { air = air }) rest).outer) (did ++ steps_by (all_account there rest (record w.outer { air = air })))
      (here ++ (e ∷ (each (deals there) (record w.outer { air = air }) rest).entries)) (each (deals there) (record w.outer { air = air }) rest).outer.chip.state.port
  tells_with air e fate first there rest more posts idle calm facts =
      fate_tells devices v (record w.outer { air = air }) refl did here left tally e its_number fate first there rest more posts idle calm facts (so_air air)

  -- ---- a frame of a device

  -- nothing ends
  stays : (air : AirState) (q : OuterState) → SameOwing (record w.outer { air = air }) q → (course : Course) (e : Entry) → IsFate e → ended_at course here e ≡ [] → (frames : List FrameParts) → TellsBefore devices true (record w.outer { air = air }) frames course here
      → Ends (record w.outer { air = air }) q course here e
  stays air q keeps course e fate none frames was = record {
    time = keeps.clock;
    owes = owed_as devices (record w.outer { air = air }) q keeps frames course (here ++ e ∷ []) (w.outer.clock - 1) ∙ now_owed_still course here (e ∷ []) (fate_other e fate, tt) (w.outer.clock - 1) (record w.outer { air = air });
    under =
        subst (λ (x : Option SendingParts). IsUnder x (last_sending course (here ++ e ∷ []))) (sym keeps.sending) (under_still course here (e ∷ []) (fate_other e fate, tt) w.outer.chip.state.sending was.under);
    failing = λ calls has.
        subst (λ (marks : List Bool). HasFailing marks (calls ++ ended_at course here e)) (sym keeps.failing)
        (subst (λ (l : List Called). HasFailing w.outer.chip.state.failing l) (sym (ap (λ (l : List Called). calls ++ l) none ∙ append-nil calls)) has);
  }

  home_none : (air : AirState) (e : Entry) (fate : IsFate e) → first_fate here e ≡ its_number ∷ [] → handlers_at here e ≡ [] → ((course : Course) → ended_at course here e ≡ []) → (there : List State)
      → TellSo (TellsBefore devices true (record w.outer { air = air })) (did ++ []) (here ++ e ∷ []) w.outer.chip.state.port
  home_none air e fate first handles none there =
      tells_with air e fate first there [] [] refl tt tt
      (λ frames course goes was. (
        ap₂ (λ (a : List Given) (b : List Called). a ++ map callback_of b) handles (none course),
        stays air (record w.outer { air = air }) (record { clock = refl; sending = refl; failing = refl; calls = refl; due = refl }) course e fate (none course) frames was,
      ))

  home_lost : (m : Mesh) → flight.heading ≡ Homeward → Ends_so m (tells.Lost its_number ∷ [])
  home_lost m heads = home_none m.air (entry.Lost its_number) tt refl refl (λ course. ap (λ (l : List Sending). ended_by NoAck l) (none_sent course here its_number (it.not_outward heads))) m.devices

  home_unheard : (m : Mesh) → flight.heading ≡ Homeward → Ends_so m (tells.Unheard its_number ∷ [])
  home_unheard m heads = home_none m.air (entry.Unheard its_number) tt refl refl (λ course. ap (λ (l : List Sending). ended_by NoAck l) (none_sent course here its_number (it.not_outward heads))) m.devices

  home_heard : (m : Mesh) → flight.heading ≡ Homeward → Ends_so m (tells.Heard its_number ∷ tells.ToChip its_number flight.node flight.payload ∷ [])
  home_heard m heads =
      let o : OuterState = with_air m.air in
      let none : (course : Course) → ended_at course here (entry.Heard its_number) ≡ [] = λ course. home_ends course here its_number apart (it.not_outward heads) in
      let handles = handlers_are here its_number flight.node flight.payload (it.home heads) in
      tells_with m.air (entry.Heard its_number) tt (home_fate here its_number apart) m.devices (tells.ToChip its_number flight.node flight.payload ∷ []) (heard_frames (has_room flight.payload) flight.node flight.payload)
      (heard_posts m.devices o its_number flight.node flight.payload) (heard_idle m.devices o its_number flight.node flight.payload) (heard_calm m.devices o its_number flight.node flight.payload)
      (λ frames course goes was. (
        ap₂ (λ (a : List Given) (b : List Called). a ++ map callback_of b) handles (none course) ∙ append-nil (as_given (heard_frames (has_room flight.payload) flight.node flight.payload)),
        stays m.air _ (heard_owing m.devices o its_number flight.node flight.payload) course (entry.Heard its_number) tt (none course) frames was,
      ))

  -- ---- a frame of the controller

  numbered : (course : Course) → GoesOn (course_of did) course → AreNumbered v.sending v.by_frame v.numbers (last_sending course here)
  numbered course goes = let (given_frames, serves, are) = tally in (are course goes).numbered

  -- its fate, what a device does, and its end
  own_ends : (m : Mesh) (e : Entry) (fate : IsFate e) → first_fate here e ≡ its_number ∷ [] → handlers_at here e ≡ [] → (plain : List AirEvent) → ArePlain plain → (status : ℕ) (dead : Option (ℕ × ℕ)) → flight.heading ≡ Outward
      → ((course : Course) → ended_at course here e ≡ ended_by (unwrap_or (status_by status) Fail) (sent_as course here its_number))
      → HasLanded w.outer flights m.air
      → TellSo (TellsBefore devices true (each (deals m.devices) (with_air m.air) (plain ++ tells.Done its_number status dead ∷ [])).outer) (did ++ steps_by (all_account m.devices (plain ++ tells.Done its_number status dead ∷ []) (with_air m.air)))
      (here ++ (e ∷ (each (deals m.devices) (with_air m.air) (plain ++ tells.Done its_number status dead ∷ [])).entries)) (each (deals m.devices) (with_air m.air) (plain ++ tells.Done its_number status dead ∷ [])).outer.chip.state.port
  own_ends m e fate first handles plain are status dead heads ended at =
      let o : OuterState = with_air m.air in
      let rest : List AirEvent = plain ++ tells.Done its_number status dead ∷ [] in
      let done : TransmitStatus = unwrap_or (status_by status) Fail in
      let finish : Finish v its_number o (frame_ends o status dead).outer (posts_by (ends_account o status dead)) done =
      frame_finish devices v left its_number numbers it.above o status dead (it.sees m.air at heads) waits.await.results in
      tells_with m.air e fate first m.devices rest (posts_by (ends_account o status dead)) (plain_ends m.devices plain o its_number status dead are) (ends_idle m.devices plain o its_number status dead are)
      (ends_calm m.devices plain o its_number status dead are)
      (λ frames course goes was.
      subst (λ (q : OuterState). (handlers_at here e ++ map callback_of (ended_at course here e) ≡ as_given (posts_by (ends_account o status dead))) × Ends o q course here e) (sym (plain_outer m.devices plain o its_number status dead are))
      (agrees v its_number o (frame_ends o status dead).outer (posts_by (ends_account o status dead)) done course here e (fate_other e fate) (ends_clock o status dead) handles
      (ended course ∙ ap (λ (l : List Sending). ended_by done l) (own_sent course here its_number (it.is_own heads))) (numbered course goes) was.under finish))

  own_lost : (m : Mesh) → HasLanded w.outer flights m.air → (dead : Option (ℕ × ℕ)) → flight.heading ≡ Outward → Ends_so m (tells.Lost its_number ∷ tells.Done its_number 1 dead ∷ [])
  own_lost m at dead heads = own_ends m (entry.Lost its_number) tt refl refl [] tt 1 dead heads (λ course. refl) at

  own_unheard : (m : Mesh) → HasLanded w.outer flights m.air → (dead : Option (ℕ × ℕ)) → flight.heading ≡ Outward → Ends_so m (tells.Unheard its_number ∷ tells.Done its_number 1 dead ∷ [])
  own_unheard m at dead heads = own_ends m (entry.Unheard its_number) tt refl refl [] tt 1 dead heads (λ course. refl) at

  -- a device hears it
  own_heard : (place : ℕ) (device : State) (drawn : List ℕ) (route : Option Route) → HasLanded w.outer flights (heard_at (landed_mesh w) place (Some device) flight.node route (Hears flight.payload drawn)).air
      → flight.heading ≡ Outward
      → Ends_so (heard_at (landed_mesh w) place (Some device) flight.node route (Hears flight.payload drawn))
      (outs_at (landed_mesh w) (Some device) its_number flight.node route (Hears flight.payload drawn) ++ tells.Done its_number (status_of w.outer.air) None ∷ [])
  own_heard place device drawn route at heads =
      let event : DeviceEvent = Hears flight.payload drawn in
      let air : AirState = landed (acknowledged w.outer.air) in
      own_ends (heard_at (landed_mesh w) place (Some device) flight.node route event) (entry.Heard its_number) tt (home_fate here its_number apart) (it.unhandled heads) (done_by air flight.node route device event)
      (done_plain air flight.node route device event tie.home) (status_of w.outer.air) None heads
      (λ course.
      ap (λ (b : Bool). if b then [] else ended_by (status_heard here) (sent_as course here its_number)) apart
      ∙ ap (λ (status : TransmitStatus). ended_by status (sent_as course here its_number)) (acked w.outer.air here acks)) at

  each_case : EachCase w flight flights Ends_so
  each_case = record {
    home_lost = λ m is heads. home_lost m heads;
    home_unheard = λ m is heads. home_unheard m heads;
    home_heard = λ m is heads. home_heard m heads;
    own_lost = own_lost;
    own_unheard = own_unheard;
    own_heard = own_heard;
  }

  -- all of it
  pub arrives_tells : (drawn : List ℕ) (route : Option Route) → (happens_outside w (Arrives drawn route)).outer.air.frames.landed ≡ w.outer.air.frames.landed + 1
      → TellSo (TellsBefore devices true (steps w (mesh.Arrives drawn route)).outer) (did ++ steps_by (steps_account w (mesh.Arrives drawn route)))
      (here ++ (steps w (mesh.Arrives drawn route)).entries) (steps w (mesh.Arrives drawn route)).outer.chip.state.port
  unfolding mesh_after mesh_outs steps_account
  arrives_tells drawn route lands = it_falls w flight flights Ends_so each_case laws past tie on drawn route lands
