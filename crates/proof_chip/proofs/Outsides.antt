-- The count of the frames for the host goes on with each event outside the host.
use Rattle.std.proofs.Common.{◌≡◌, ℕ, suc, ◌+◌, ◌-◌, ◌&&◌, not, Bool, true, false, if◌then◌else◌, List, [], ◌∷◌, ◌++◌, length, refl, sym, ap, ◌∙◌, subst, append-nil, append_assoc, arith}
use Rattle.std.specs.Prelude.{Option}
use Rattle.serial_frame.specs.Stream.{Rest, after_tick}
use Rattle.serial_frame.specs.declared.item.Item.{Item}
use Rattle.serial_link.specs.Rules.{Step}
use Rattle.route_table.specs.declared.route.Route.{Route}
use Rattle.air_frames.specs.Ages.{refusal_of}
use Rattle.air_frames.specs.Flown.{Flown}
use Rattle.chip_sim.specs.Waiting.{PortState}
use Rattle.chip_sim.specs.Events.{Collides, Ticked as ticked_event, collides}
use Rattle.chip_sim.specs.Link.{link_steps}
use Rattle.mesh_sim.specs.Steps as mesh
use Rattle.zw_text.specs.declared.entry.Entry.{Entry}
use Rattle.zw_text.specs.declared.entry.Entry.TheVariants as entry
use Rattle.zw_text.specs.Transcript.{frames}
use Rattle.law_transcript.specs.Fates.{first_fates}
use Rattle.law_transcript.specs.Restarts.{repeats as answers_repeat}
use Rattle.outside_model.specs.Devices.{State}
use Rattle.outside_model.specs.State.{OuterState, Outcome, Outside}
use Rattle.outside_model.specs.Chip.{chip_does}
use Rattle.outside_model.specs.Results.{gives}
use Rattle.outside_model.specs.Events.{OuterEvent, Begins_line, Begins_tick, Chip_takes, Arrives, Gives, Chip_ticks, Repeats, Collides_next, Host_begins, Host_notes, Host_writes, Host_takes as host_takes, has_entered, outcome, stamp, steps, ticked_entry, May as MayOutside, entries as entries_outside, happens as happens_outside}
use Rattle.proof_air.specs.proof_walk.Outside.{awaits_number, nothing}
use Rattle.proof_air.specs.Logs.{Tie}
use Rattle.proof_air.proofs.Fated.{arrival_fates}
use Rattle.proof_air.proofs.LandingWalk.{number_apart, sent_frames}
use Rattle.proof_air.proofs.Times.{outcome_time, same_number}
use Rattle.proof_line.specs.proof_traffic.OnAir.{on_air}
use Rattle.proof_line.specs.proof_traffic.OutsideTraffic.{outward}
use Rattle.proof_line.proofs.Arrivals.{NoNexting}
use Rattle.proof_line.proofs.ChipAccounts.{gives_account, outer_steps, steps_account, steps_by}
use Rattle.proof_line.proofs.Parts.{Laws}
use Rattle.proof_chip.specs.Calling.{Waits}
use Rattle.proof_chip.specs.Sending.{Agrees, AirSo, AreNow}
use Rattle.proof_chip.specs.Tally.{IsOfLine, Outlook, TallyBefore, TallyNow, TallySo, outlook}
use Rattle.proof_chip.proofs.Asides.{IsSteady, IsStill, still_apart, still_port}
use Rattle.proof_chip.proofs.Calling.{flying}
use Rattle.proof_chip.proofs.Giving.{gives_t}
use Rattle.proof_chip.proofs.Items.{takes_tally, number_frames}
use Rattle.proof_chip.proofs.Landed.{arrives_tally, repeats_tally}
use Rattle.proof_chip.proofs.Quieting.{unanswered}
use Rattle.proof_chip.proofs.Stamped.{aside_now_t, entered_outlook, no_more, stamp_t}
use Rattle.proof_chip.proofs.Steady.{steady_awaits, steady_looks}
use Rattle.proof_chip.proofs.Tallied.{before_number_t, none_so, now_number_t, now_stays, quiet_t}
use Rattle.proof_chip.proofs.Opening.{now_ticks}
use Rattle.proof_chip.proofs.Hosted.{BeforeSo, NowSo}

-- ---- other events outside the host

pub still_steps : (w : Outside) (event : OuterEvent) → IsStill event → outer_steps w event ≡ []
unfolding outer_steps
still_steps w (Chip_takes count rest ways) still = absurd still
still_steps w Chip_ticks still = absurd still
still_steps w Collides_next still = absurd still
still_steps w (Arrives drawn route) still = absurd still
still_steps w (Gives route) still = absurd still
still_steps w (Repeats number drawn route) still = absurd still
still_steps w event still = refl

-- which of these an event of a line is
pub data Kind (event : OuterEvent) : Type 0 where
  Stays_still : IsStill event → IsSteady event → Kind event
  Ticks_chip : event ≡ Chip_ticks → Kind event
  Collides_it : event ≡ Collides_next → Kind event
  Repeats_one : (number : ℕ) (drawn : List ℕ) (route : Option Route) → event ≡ Repeats number drawn route → Kind event

pub kind_of : (event : OuterEvent) → IsOfLine event → Kind event
kind_of Begins_line is = absurd is
kind_of Begins_tick is = absurd is
kind_of (Host_writes unit) is = absurd is
kind_of (host_takes count) is = absurd is
kind_of (Host_notes note) is = absurd is
kind_of (Host_begins node sessions) is = absurd is
kind_of (Chip_takes count rest ways) is = absurd is
kind_of (Arrives drawn route) is = absurd is
kind_of (Gives route) is = absurd is
kind_of (Repeats number drawn route) is = Repeats_one number drawn route refl
kind_of Chip_ticks is = Ticks_chip refl
kind_of Collides_next is = Collides_it refl
kind_of event is = Stays_still tt tt

module _ (devices : List State) (laws : Laws) (none : NoNexting) (did : List Step) (past : List Entry) (w : Outside) (tie : Tie nothing past w) where
  abbrev After : OuterEvent → Type 0
  After event = NowSo devices (did ++ outer_steps w event) (past ++ entries_outside w event) (happens_outside w event).outer

  pub still_goes : (event : OuterEvent) → IsStill event → IsSteady event → NowSo devices did past w.outer → After event
  still_goes event still steady so =
      subst (λ (l : List Step). NowSo devices l (past ++ entries_outside w event) (happens_outside w event).outer) (sym (ap (λ (l : List Step). did ++ l) (still_steps w event still) ∙ append-nil did))
      (aside_now_t devices w.outer (outcome w event) did past (still_apart w event still tie.home) (ap (λ (p : PortState). p.side) (still_port w event still)) (ap (λ (p : PortState). p.waiting) (still_port w event still))
      (steady_looks laws none past w tie event steady) (steady_awaits laws none past w tie event steady) so)

  -- the chip does something, with the number of the tick that may stand before it
  quiet_goes : (x : Outcome) (now : List Step) → outlook x.outer ≡ outlook w.outer → awaits_number x.outer ≡ awaits_number w.outer
      → ((b : Bool) (here : List Entry) → (b ≡ true → x.entries ≡ []) → TallySo (TallyNow devices (outlook w.outer) b 0) did here w.outer.chip.state.port
      → TallySo (TallyNow devices (outlook w.outer) b 0) now (here ++ x.entries) x.outer.chip.state.port)
      → NowSo devices did past w.outer → NowSo devices now (past ++ stamp x.outer x.entries) (has_entered x.outer x.entries)
  quiet_goes x now looks awaits does so =
      let v : Outlook = outlook w.outer in
      let later : OuterState = has_entered x.outer x.entries in
      subst (λ (u : Outlook). TallySo (TallyNow devices u (awaits_number later) 0) now (past ++ stamp x.outer x.entries) later.chip.state.port) (sym (entered_outlook x.outer x.entries ∙ looks))
      (stamp_t (λ b. TallyNow devices v b 0) (λ b. TallyNow devices v b 0) x.outer did now past w.outer.chip.state.port x.entries (λ b here more is silent was. does b here silent was)
      (λ was. subst (λ (n : ℕ). TallySo (TallyNow devices v false 0) did (past ++ (if awaits_number x.outer then entry.Time n ∷ [] else [])) w.outer.chip.state.port) (sym (ap (λ (u : Outlook). u.clock) looks))
      (now_number_t devices v (awaits_number x.outer) did past w.outer.chip.state.port was))
      (subst (λ (b : Bool). TallySo (TallyNow devices v b 0) did past w.outer.chip.state.port) (sym awaits) so))

  pub ticks_go : NowSo devices did past w.outer → After Chip_ticks
  unfolding outcome outer_steps
  ticks_go so =
      let fed : OuterState = record w.outer { chip = record { decoder = after_tick w.outer.chip.decoder; state = w.outer.chip.state } } in
      quiet_goes (outcome w Chip_ticks) (did ++ link_steps w.outer.chip.state ticked_event) (steady_looks laws none past w tie Chip_ticks tt) (steady_awaits laws none past w tie Chip_ticks tt)
      (λ b here silent was.
      quiet_t devices b (TallyNow devices (outlook w.outer) b 0) (now_stays devices (outlook w.outer) b 0) did here fed ticked_event (unanswered (collides w.outer.chip.state) ticked_event tt) refl silent was) so

  pub collides_go : NowSo devices did past w.outer → After Collides_next
  unfolding outcome outer_steps chip_does
  collides_go so =
      quiet_goes (outcome w Collides_next) (did ++ link_steps w.outer.chip.state Collides) (steady_looks laws none past w tie Collides_next tt) (steady_awaits laws none past w tie Collides_next tt)
      (λ b here silent was.
      quiet_t devices b (TallyNow devices (outlook w.outer) b 0) (now_stays devices (outlook w.outer) b 0) did here w.outer Collides (unanswered (collides w.outer.chip.state) Collides tt) refl (λ is. refl) was) so

  -- a frame is heard again, where no tick runs
  entered_still : (p : OuterState) (told : List Entry) (now : List Step) → p.in_tick ≡ false → TallySo (TallyNow devices (outlook p) false 0) now (past ++ told) p.chip.state.port
      → NowSo devices now (past ++ stamp p told) (has_entered p told)
  entered_still p [] now out so = subst (λ (b : Bool). TallySo (TallyNow devices (outlook p) (b && not p.stamped) 0) now (past ++ []) p.chip.state.port) (sym out) so
  entered_still p (first ∷ told) now out so =
      subst (λ (b : Bool). TallySo (TallyNow devices (outlook p) b 0) now (past ++ (ticked_entry p ++ first ∷ told)) p.chip.state.port) (sym (no_more p.in_tick p.stamped))
      (subst (λ (l : List Entry). TallySo (TallyNow devices (outlook p) false 0) now (past ++ (l ++ first ∷ told)) p.chip.state.port) (sym (ap (λ (b : Bool). if b && not p.stamped then entry.Time p.clock ∷ [] else []) out)) so)

  pub repeats_go : (number : ℕ) (drawn : List ℕ) (route : Option Route) → answers_repeat past ≡ true → w.outer.in_tick ≡ false → NowSo devices did past w.outer → After (Repeats number drawn route)
  unfolding outcome outer_steps
  repeats_go number drawn route again out so =
      let x : Outcome = outcome w (Repeats number drawn route) in
      let time = outcome_time w (Repeats number drawn route) tt in
      let unnumbered : TallySo (TallyNow devices (outlook w.outer) false 0) did past w.outer.chip.state.port =
      subst (λ (b : Bool). TallySo (TallyNow devices (outlook w.outer) (b && not w.outer.stamped) 0) did past w.outer.chip.state.port) out so in
      entered_still x.outer x.entries (did ++ outer_steps w (Repeats number drawn route)) (ap (λ (t : Bool × Bool × ℕ). t.0) time ∙ out)
      (repeats_tally devices laws none past w tie did again unnumbered (refusal_of w.outer.air.frames number) number drawn route)

  -- ---- what begins

  pub line_goes : TallySo (TallyNow devices (outlook w.outer) false 0) did past w.outer.chip.state.port → After Begins_line
  unfolding outcome outer_steps
  line_goes so = none_so devices (TallyNow devices (outlook w.outer) false 0) did past w.outer.chip.state.port so

  pub tick_goes : length (first_fates past) + (w.outer.air.frames.sent - w.outer.air.frames.landed) ≡ length (frames past) → NowSo devices did past w.outer
      → BeforeSo devices true (w.outer.air.frames.sent - w.outer.air.frames.landed) (did ++ outer_steps w Begins_tick) (past ++ entries_outside w Begins_tick) (happens_outside w Begins_tick).outer
  unfolding outcome outer_steps
  tick_goes sent so =
      let v : Outlook = outlook w.outer in
      let later : Outlook = outlook (outcome w Begins_tick).outer in
      let left : ℕ = w.outer.air.frames.sent - w.outer.air.frames.landed in
      let (given_frames, serves, are) = so in
      none_so devices (TallyBefore devices later true left true 0) did past w.outer.chip.state.port
      (given_frames, serves, λ course goes. now_ticks devices course past v later (awaits_number w.outer) left (length given_frames) refl refl refl refl refl sent (are course goes))

  -- ---- the chip takes bytes

  pub takes_go : (count : ℕ) (rest : Rest) (ways : List (Item × Option Route)) → MayOutside w (Chip_takes count rest ways) → Agrees devices (past ++ ticked_entry w.outer) w.outer
      → AirSo devices (AreNow w.outer) did past w.outer.chip.state.port → NowSo devices did past w.outer → After (Chip_takes count rest ways)
  unfolding MayOutside outer_steps
  takes_go count rest ways may agrees knows so =
      takes_tally devices laws did w count rest ways may past agrees knows
      (record { log = tie.log; fly = flying tie.log w.outer.air.frames tie.kept; sent = sent_frames past w tie; joined = tie.chip }) so

  -- ---- the next frame arrives

  arrives_entered : (p : OuterState) (told : List Entry) (left : ℕ) (now : List Step) → (told ≡ [] → ⊥) → TallySo (TallyBefore devices (outlook p) true left false 0) now ((past ++ ticked_entry p) ++ told) p.chip.state.port
      → BeforeSo devices true left now (past ++ stamp p told) (has_entered p told)
  arrives_entered p [] left now some so = absurd (some refl)
  arrives_entered p (first ∷ told) left now some so =
      subst (λ (b : Bool). TallySo (TallyBefore devices (outlook p) true left b 0) now (past ++ (ticked_entry p ++ first ∷ told)) p.chip.state.port) (sym (no_more p.in_tick p.stamped))
      (subst (λ (l : List Entry). TallySo (TallyBefore devices (outlook p) true left false 0) now l p.chip.state.port) (append_assoc past (ticked_entry p) (first ∷ told)) so)

  pub apart_here : (b : Bool) (clock : ℕ) → (b ≡ false → answers_repeat past ≡ false) → answers_repeat (past ++ (if b then entry.Time clock ∷ [] else [])) ≡ false
  apart_here true clock apart = number_apart past clock
  apart_here false clock apart = ap answers_repeat (append-nil past) ∙ apart refl

  pub arrives_go : (left : ℕ) (drawn : List ℕ) (route : Option Route) → MayOutside w (Arrives drawn route) → Waits w.outer → (flight : Flown) (flights : List Flown) → on_air w.outer.air.frames ≡ flight ∷ flights
      → (awaits_number w.outer ≡ false → answers_repeat past ≡ false) → BeforeSo devices true (suc left) did past w.outer
      → BeforeSo devices true left (did ++ outer_steps w (Arrives drawn route)) (past ++ entries_outside w (Arrives drawn route)) (happens_outside w (Arrives drawn route)).outer
  unfolding outcome outer_steps
  arrives_go left drawn route may waits flight flights on apart so =
      let x : Outcome = steps w (mesh.Arrives drawn route) in
      let here : List Entry = past ++ ticked_entry w.outer in
      let calm = apart_here (awaits_number w.outer) w.outer.clock apart in
      let fates = arrival_fates past w drawn route may calm in
      let numbered = before_number_t devices (outlook w.outer) true (suc left) (awaits_number w.outer) (λ is. absurd (let no : true ≡ false = is in cc)) did past w.outer.chip.state.port so in
      let got = arrives_tally devices laws past w tie waits flight flights left did here on (number_frames (awaits_number w.outer) w.outer.clock past) calm numbered drawn route fates.1 in
      let number : ticked_entry x.outer ≡ ticked_entry w.outer = same_number w.outer x.outer (outcome_time w (Arrives drawn route) tt) in
      arrives_entered x.outer x.entries left (did ++ steps_by (steps_account w (mesh.Arrives drawn route)))
      (λ is. let none_more = ap (λ (l : List Entry). length (first_fates (past ++ stamp x.outer l))) is ∙ ap (λ (l : List Entry). length (first_fates l)) (append-nil past) in let one = fates.0 in omega (arith, none_more, one))
      (subst (λ (l : List Entry). TallySo (TallyBefore devices (outlook x.outer) true left false 0) (did ++ steps_by (steps_account w (mesh.Arrives drawn route))) ((past ++ l) ++ x.entries) x.outer.chip.state.port)
      (sym number) got)

  -- ---- what is due is given

  pub gives_go : (route : Option Route) → Waits w.outer → outward (on_air w.outer.air.frames) ≡ 0 → BeforeSo devices false 0 did past w.outer
      → BeforeSo devices false 0 (did ++ outer_steps w (Gives route)) (past ++ entries_outside w (Gives route)) (happens_outside w (Gives route)).outer
  unfolding outcome outer_steps gives_account
  gives_go route waits clear so =
      let x : Outcome = gives w.outer w.devices w.outer.due route in
      let v : Outlook = outlook w.outer in
      let later : OuterState = has_entered x.outer x.entries in
      let time = outcome_time w (Gives route) tt in
      let awaits : awaits_number x.outer ≡ awaits_number w.outer = ap (λ (t : Bool × Bool × ℕ). t.0 && not t.1) time in
      let now : List Step = did ++ steps_by (gives_account w route) in
      subst (λ (u : Outlook). TallySo (TallyBefore devices u false 0 (awaits_number later) 0) now (past ++ stamp x.outer x.entries) later.chip.state.port) (sym (entered_outlook x.outer x.entries))
      (stamp_t (λ b. TallyBefore devices v false 0 b 0) (λ b. TallyBefore devices (outlook x.outer) false 0 b 0) x.outer did now past w.outer.chip.state.port x.entries
      (λ b here more is silent was.
      gives_t devices w.devices w.outer route (sym waits.await.frames ∙ clear) waits.each clear b did here w.outer.due refl silent was)
      (λ was. subst (λ (n : ℕ). TallySo (TallyBefore devices v false 0 false 0) did (past ++ (if awaits_number x.outer then entry.Time n ∷ [] else [])) w.outer.chip.state.port)
      (sym (ap (λ (t : Bool × Bool × ℕ). t.2) time)) (before_number_t devices v false 0 (awaits_number x.outer) (λ is. refl) did past w.outer.chip.state.port was))
      (subst (λ (b : Bool). TallySo (TallyBefore devices v false 0 b 0) did past w.outer.chip.state.port) (sym awaits) so))
