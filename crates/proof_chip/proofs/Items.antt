-- The count of the frames for the host goes on with each item that the chip judges, and with all that it takes at once.
use Rattle.std.proofs.Common.{◌≡◌, ◌⊎◌, ℕ, ◌&&◌, not, Bool, true, false, if◌then◌else◌, inl, inr, List, [], ◌∷◌, ◌++◌, length, refl, sym, ap, ap₂, ◌∙◌, subst, append-nil, append_assoc}
use Rattle.std.specs.Prelude.{Option, None}
use Rattle.std.specs.Option.{is_some}
use Rattle.zw_base.proofs.Each.{all-append}
use Rattle.serial_frame.specs.Frame.{FrameParts}
use Rattle.serial_frame.specs.Stream.{Rest}
use Rattle.serial_frame.specs.declared.item.Item.{Item}
use Rattle.serial_frame.specs.declared.item.Item.TheVariants.{Good}
use Rattle.serial_frame.specs.declared.unit.Unit.TheVariants.{Framed}
use Rattle.serial_link.specs.Rules.{Step}
use Rattle.serial_pipes.specs.Events.{Takes}
use Rattle.serial_pipes.specs.Events as way
use Rattle.route_table.specs.declared.route.Route.{Route}
use Rattle.chip_sim.specs.State.{ChipState}
use Rattle.chip_sim.specs.Waiting.{next_at}
use Rattle.chip_sim.specs.Requests.{answer_outs, heard, judged_frame, judged_outs}
use Rattle.chip_sim.specs.Did.{MayAll, judged_all}
use Rattle.chip_sim.specs.Events.{ChipEvent, Judged, after, collides, outs}
use Rattle.chip_sim.specs.Link.{link_steps}
use Rattle.chip_sim.specs.Rules.{judged_posts, over}
use Rattle.chip_sim.specs.declared.out.ChipOut.{ChipOut}
use Rattle.mesh_sim.specs.Air.{AirState}
use Rattle.zw_text.specs.declared.entry.Entry.{Entry}
use Rattle.zw_text.specs.declared.entry.Entry.TheVariants as entry
use Rattle.zw_text.specs.Transcript.{AirFrame, frame_at, frames}
use Rattle.zw_text.proofs.Views.{shown-append}
use Rattle.outside_model.specs.Devices.{State}
use Rattle.outside_model.specs.State.{OuterState, Outcome, Outside, each, with_chip}
use Rattle.outside_model.specs.Chip.{MayTake, chip_does, put_out}
use Rattle.outside_model.specs.Events.{Chip_takes, entries, happens, has_entered, outcome, stamp, ticked_entry}
use Rattle.proof_air.specs.proof_walk.Outside.{awaits_number}
use Rattle.proof_air.proofs.Times.{each_keeps, does_chip, does_time, time_of}
use Rattle.proof_line.specs.proof_traffic.Flights.{Fly}
use Rattle.proof_line.specs.proof_traffic.OnAir.{on_air}
use Rattle.proof_line.proofs.Parts.{Laws}
use Rattle.proof_chip.specs.Sending.{Agrees, AirSo, AreNow, ItemsSo}
use Rattle.proof_chip.specs.Tally.{Outlook, TallyNow, TallySo, outlook}
use Rattle.proof_chip.proofs.Going.{apart_goes}
use Rattle.proof_chip.proofs.Growing.{told}
use Rattle.proof_chip.proofs.Judged.{decided, none_passed}
use Rattle.proof_chip.proofs.Judges.{both_none, item_keeps, items_of, items_same, silent_item}
use Rattle.proof_chip.proofs.Keeping.{number_apart}
use Rattle.proof_chip.proofs.Leaving.{leaving_frames}
use Rattle.proof_chip.proofs.Resting.{LeavesAll, Rests, answer_leaves, each_rests, rests_look, written_leaves}
use Rattle.proof_chip.proofs.Quieting.{IsUnanswered}
use Rattle.proof_chip.proofs.Stamped.{no_more}
use Rattle.proof_chip.proofs.Tallied.{none_so, now_number_t, now_stays, quiet_t}
use Rattle.proof_chip.proofs.Putting.{Puts}
use Rattle.proof_chip.proofs.Looking.{does_clock}
use Rattle.proof_chip.proofs.Answering.{answered_item, puts_then}

-- ---- an item that answers no frame

pub quiet_rests : (o : OuterState) (item : Item) (route : Option Route) → IsUnanswered (collides o.chip.state) (Judged item route) → Rests o (chip_does o (Judged item route)).outer
unfolding chip_does
quiet_rests o item route none =
    let e : ChipEvent = Judged item route in
    let b : Bool = collides o.chip.state in
    let s : ChipState = heard o.chip.state item in
    let p : OuterState = with_chip o (after o.chip.state e) in
    let served : List ChipOut = judged_outs None s route in
    let is : outs o.chip.state e ≡ answer_outs b item ++ served = ap (λ (passes : Option FrameParts). answer_outs b item ++ judged_outs passes s route) (none_passed b item route none) in
    let got = each_rests (answer_outs b item ++ served) p
    (all-append LeavesAll (answer_outs b item) served (answer_leaves b item) (written_leaves (next_at s.port.side.turn s.port.waiting))) in
    subst (λ (puts : List ChipOut). Rests o (each put_out p puts).outer) (sym is) (record { calls = got.calls; due = got.due; air = got.air })

quiet_looks : (o : OuterState) (item : Item) (route : Option Route) → IsUnanswered (collides o.chip.state) (Judged item route) → outlook (chip_does o (Judged item route)).outer ≡ outlook o
quiet_looks o item route none =
    let e : ChipEvent = Judged item route in
    let p : OuterState = (chip_does o e).outer in
    rests_look o p (quiet_rests o item route none)
    (ap (λ (s : ChipState). is_some s.sending) (does_chip o e)
    ∙ ap (λ (passes : Option FrameParts). is_some (judged_frame passes (heard o.chip.state item)).sending) (none_passed (collides o.chip.state) item route none))
    (does_clock o e)

-- the number of a tick shows no frame
pub number_frames : (b : Bool) (clock : ℕ) (past : List Entry) → frames (past ++ (if b then entry.Time clock ∷ [] else [])) ≡ frames past
number_frames true clock past = shown-append frame_at past (entry.Time clock ∷ []) ∙ append-nil (frames past)
number_frames false clock past = ap (λ (l : List Entry). frames l) (append-nil past)

module _ (devices : List State) where
  abbrev pub Now : Bool → List Step → List Entry → OuterState → Type 0
  Now awaits did past o = TallySo (TallyNow devices (outlook o) awaits 0) did past o.chip.state.port

  quiet_item : (awaits : Bool) (did : List Step) (past : List Entry) (o : OuterState) (item : Item) (route : Option Route) → IsUnanswered (collides o.chip.state) (Judged item route)
      → (awaits ≡ true → (chip_does o (Judged item route)).entries ≡ []) → Now awaits did past o
      → Now awaits (did ++ link_steps o.chip.state (Judged item route)) (past ++ (chip_does o (Judged item route)).entries) (chip_does o (Judged item route)).outer
  quiet_item awaits did past o item route none silent so =
      let e : ChipEvent = Judged item route in
      let p : OuterState = (chip_does o e).outer in
      subst (λ (v : Outlook). TallySo (TallyNow devices v awaits 0) (did ++ link_steps o.chip.state e) (past ++ (chip_does o e).entries) p.chip.state.port) (sym (quiet_looks o item route none))
      (quiet_t devices awaits (TallyNow devices (outlook o) awaits 0) (now_stays devices (outlook o) awaits 0) did past o e none
      (ap (λ (passes : Option FrameParts). judged_posts passes (heard o.chip.state item)) (none_passed (collides o.chip.state) item route none)) silent so)

-- ---- any item

module _ (devices : List State) (laws : Laws) where
  quiet_puts : (past : List Entry) (o : OuterState) (item : Item) (route : Option Route) → IsUnanswered (collides o.chip.state) (Judged item route) → Puts past o
      → Puts (past ++ (chip_does o (Judged item route)).entries) (chip_does o (Judged item route)).outer
  unfolding chip_does
  quiet_puts past o item route none puts =
      let e : ChipEvent = Judged item route in
      let b : Bool = collides o.chip.state in
      let s : ChipState = heard o.chip.state item in
      let q : OuterState = with_chip o (after o.chip.state e) in
      let served : List ChipOut = judged_outs None s route in
      let is : outs o.chip.state e ≡ answer_outs b item ++ served = ap (λ (passes : Option FrameParts). answer_outs b item ++ judged_outs passes s route) (none_passed b item route none) in
      let no_frames : frames (chip_does o e).entries ≡ [] =
      ap (λ (l : List ChipOut). frames (each put_out q l).entries) is
      ∙ leaving_frames (answer_outs b item ++ served) q (all-append LeavesAll (answer_outs b item) served (answer_leaves b item) (written_leaves (next_at s.port.side.turn s.port.waiting))) in
      let rests = quiet_rests o item route none in
      record {
        log = puts.log;
        fly = subst (λ (a : AirState). Fly puts.log (on_air a.frames) a.frames) (sym rests.air) puts.fly;
        sent =
            ap (λ (l : List AirFrame). length l) (shown-append frame_at past (chip_does o e).entries ∙ (ap (λ (l : List AirFrame). frames past ++ l) no_frames ∙ append-nil (frames past)))
            ∙ (puts.sent ∙ ap (λ (a : AirState). a.frames.sent) (sym rests.air));
        joined =
            ap (λ (x : ChipState). length x.joined) (does_chip o e)
            ∙ (ap (λ (passes : Option FrameParts). length (judged_frame passes s).joined) (none_passed b item route none) ∙ puts.joined);
      }

  abbrev Goes : List Step → List Entry → OuterState → Option Route → Item → Type 0
  Goes did past o route i =
      Now devices false (did ++ link_steps o.chip.state (Judged i route)) (past ++ (chip_does o (Judged i route)).entries) (chip_does o (Judged i route)).outer
      × Puts (past ++ (chip_does o (Judged i route)).entries) (chip_does o (Judged i route)).outer

  pub one_item : (did : List Step) (past : List Entry) (o : OuterState) (item : Item) (route : Option Route) → ItemsSo devices did past o → Puts past o → Now devices false did past o
      → Now devices false (did ++ link_steps o.chip.state (Judged item route)) (past ++ (chip_does o (Judged item route)).entries) (chip_does o (Judged item route)).outer
      × Puts (past ++ (chip_does o (Judged item route)).entries) (chip_does o (Judged item route)).outer
  one_item did past o item route items puts so = by (decided (collides o.chip.state) item route)
    where
      by : IsUnanswered (collides o.chip.state) (Judged item route) ⊎ ((f : FrameParts) × (item ≡ Good (Framed f)) × (collides o.chip.state ≡ false)) → Goes did past o route item
      by (inl none) = (quiet_item devices false did past o item route none (λ is. absurd (let no : false ≡ true = is in cc)) so, quiet_puts past o item route none puts)
      by (inr (f, same, free)) =
          subst (λ (i : Item). Goes did past o route i) (sym same) (answered_item devices laws did past o f route free items puts so, puts_then devices laws did past o f route free items puts)

  all_items : (did : List Step) (ways : List (Item × Option Route)) (past : List Entry) (o : OuterState) → MayAll o.chip.state (judged_all ways) → ItemsSo devices did past o → Puts past o → Now devices false did past o
      → Now devices false (did ++ over link_steps o.chip.state (judged_all ways)) (past ++ (each chip_does o (judged_all ways)).entries) (each chip_does o (judged_all ways)).outer
  all_items did [] past o may items puts so = none_so devices (TallyNow devices (outlook o) false 0) did past o.chip.state.port so
  all_items did (one ∷ ways) past o may items puts so =
      let e : ChipEvent = Judged one.0 one.1 in
      let first : Outcome = chip_does o e in
      let rest : Outcome = each chip_does first.outer (judged_all ways) in
      let now : List Step = did ++ link_steps o.chip.state e in
      let here = one_item did past o one.0 one.1 items puts so in
      let got = all_items now ways (past ++ first.entries) first.outer (subst (λ (s : ChipState). MayAll s (judged_all ways)) (sym (does_chip o e)) may.1)
      (item_keeps devices did past o one.0 one.1 may.0 items) here.1 here.0 in
      let is : now ++ over link_steps first.outer.chip.state (judged_all ways) ≡ did ++ over link_steps o.chip.state (judged_all (one ∷ ways)) =
      ap (λ (s : ChipState). now ++ over link_steps s (judged_all ways)) (does_chip o e) ∙ append_assoc did (link_steps o.chip.state e) (over link_steps (after o.chip.state e) (judged_all ways)) in
      subst (λ (l : List Step). Now devices false l (past ++ (each chip_does o (judged_all (one ∷ ways))).entries) rest.outer) is
      (subst (λ (l : List Entry). Now devices false (now ++ over link_steps first.outer.chip.state (judged_all ways)) l rest.outer) (append_assoc past first.entries rest.entries) got)

  -- where nothing is entered
  silent_items : (awaits : Bool) (did : List Step) (ways : List (Item × Option Route)) (past : List Entry) (o : OuterState) → (each chip_does o (judged_all ways)).entries ≡ [] → Now devices awaits did past o
      → Now devices awaits (did ++ over link_steps o.chip.state (judged_all ways)) past (each chip_does o (judged_all ways)).outer
  silent_items awaits did [] past o none so = subst (λ (l : List Step). Now devices awaits l past o) (sym (append-nil did)) so
  silent_items awaits did (one ∷ ways) past o none so =
      let e : ChipEvent = Judged one.0 one.1 in
      let first : Outcome = chip_does o e in
      let rest : Outcome = each chip_does first.outer (judged_all ways) in
      let now : List Step = did ++ link_steps o.chip.state e in
      let both = both_none first.entries rest.entries none in
      let here : Now devices awaits now past first.outer =
      subst (λ (l : List Entry). Now devices awaits now l first.outer) (ap (λ (l : List Entry). past ++ l) both.0 ∙ append-nil past)
      (quiet_item devices awaits did past o one.0 one.1 (silent_item devices o one.0 one.1 both.0) (λ is. both.0) so) in
      let later = silent_items awaits now ways past first.outer both.1 here in
      let is : now ++ over link_steps first.outer.chip.state (judged_all ways) ≡ did ++ over link_steps o.chip.state (judged_all (one ∷ ways)) =
      ap (λ (s : ChipState). now ++ over link_steps s (judged_all ways)) (does_chip o e) ∙ append_assoc did (link_steps o.chip.state e) (over link_steps (after o.chip.state e) (judged_all ways)) in
      subst (λ (l : List Step). Now devices awaits l past rest.outer) is later

  -- ---- all of it, with the number of the tick

  pub number_puts : (b : Bool) (clock : ℕ) (past : List Entry) (o : OuterState) → Puts past o → Puts (past ++ (if b then entry.Time clock ∷ [] else [])) o
  number_puts b clock past o puts = record { log = puts.log; fly = puts.fly; sent = ap (λ (l : List AirFrame). length l) (number_frames b clock past) ∙ puts.sent; joined = puts.joined }

  module _ (did : List Step) (w : Outside) (count : ℕ) (rest : Rest) (ways : List (Item × Option Route)) (may : MayTake w.outer count rest ways) (past : List Entry)
      (agrees : Agrees devices (past ++ ticked_entry w.outer) w.outer) (knows : AirSo devices (AreNow w.outer) did past w.outer.chip.state.port) (puts : Puts past w.outer)
      (so : Now devices (awaits_number w.outer) did past w.outer) where
    abbrev now : List Step
    now = did ++ over link_steps w.outer.chip.state (judged_all ways)

    abbrev fed : OuterState
    fed = record w.outer { to_chip = way.after w.outer.to_chip (Takes count); chip = record { decoder = rest; state = w.outer.chip.state } }

    abbrev x : Outcome
    x = each chip_does fed (judged_all ways)

    same_time : time_of x.outer ≡ time_of w.outer
    same_time = each_keeps time_of chip_does does_time fed (judged_all ways)

    same_awaits : awaits_number x.outer ≡ awaits_number w.outer
    same_awaits = ap (λ (t : Bool × Bool × ℕ). t.0 && not t.1) same_time

    same_number : ticked_entry x.outer ≡ ticked_entry w.outer
    same_number = ap (λ (t : Bool × Bool × ℕ). if t.0 && not t.1 then entry.Time t.2 ∷ [] else []) same_time

    as_entered : (told : List Entry) → x.entries ≡ told → Now devices (awaits_number (has_entered x.outer told)) now (past ++ stamp x.outer told) (has_entered x.outer told)
    as_entered [] none =
        subst (λ (b : Bool). Now devices b now (past ++ []) x.outer) (sym same_awaits)
        (subst (λ (l : List Entry). Now devices (awaits_number w.outer) now l x.outer) (sym (append-nil past)) (silent_items (awaits_number w.outer) did ways past fed none so))
    as_entered (first ∷ told) is =
        let here : List Entry = past ++ ticked_entry w.outer in
        let numbered : AirSo devices (AreNow w.outer) did here w.outer.chip.state.port =
        (apart_goes devices (AreNow w.outer) did w w (ticked_entry w.outer) (number_apart (w.outer.in_tick && not w.outer.stamped) w.outer.clock) refl false past (λ (is : false ≡ true). absurd cc) knows).1 in
        let items : ItemsSo devices did here fed = items_same devices did here w.outer fed refl refl (items_of devices did here w.outer agrees numbered) in
        let at_first = number_puts (w.outer.in_tick && not w.outer.stamped) w.outer.clock past w.outer puts in
        let got = all_items did ways here fed may.judges items (record { log = at_first.log; fly = at_first.fly; sent = at_first.sent; joined = at_first.joined })
        (now_number_t devices (outlook w.outer) (awaits_number w.outer) did past w.outer.chip.state.port so) in
        let at : here ++ x.entries ≡ past ++ (ticked_entry x.outer ++ first ∷ told) =
        append_assoc past (ticked_entry w.outer) x.entries ∙ ap₂ (λ (a b : List Entry). past ++ (a ++ b)) (sym same_number) is in
        let later : OuterState = has_entered x.outer (first ∷ told) in
        subst (λ (b : Bool). TallySo (TallyNow devices (outlook x.outer) b 0) now (past ++ (ticked_entry x.outer ++ first ∷ told)) x.outer.chip.state.port) (sym (no_more x.outer.in_tick x.outer.stamped))
        (subst (λ (l : List Entry). Now devices false now l x.outer) at got)

    -- Where chip and transcript agree once the number of the tick is entered, the count goes on with all items that the chip takes.
    pub takes_tally : Now devices (awaits_number (happens w (Chip_takes count rest ways)).outer) now (past ++ entries w (Chip_takes count rest ways)) (happens w (Chip_takes count rest ways)).outer
    unfolding outcome
    takes_tally = as_entered x.entries refl
