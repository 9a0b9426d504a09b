-- All items that the chip takes at once are judged one after another: where the chip is tied to the transcript before them, the law of what goes on the air is kept, and it is tied again.
use Rattle.std.proofs.Common.{◌≡◌, ◌≤◌, ◌⊎◌, ℕ, ◌&&◌, not, Bool, true, false, if◌then◌else◌, List, [], ◌∷◌, ◌++◌, inl, inr, refl, sym, ap, ap₂, ◌∙◌, subst, append_assoc, append-nil}
use Rattle.std.specs.Prelude.{Option}
use Rattle.std.specs.List.{AllByRecursion}
use Rattle.serial_frame.specs.Frame.{FrameParts}
use Rattle.serial_frame.specs.Stream.{Rest}
use Rattle.serial_frame.specs.declared.item.Item.{Item}
use Rattle.serial_frame.specs.declared.item.Item.TheVariants.{Good}
use Rattle.serial_frame.specs.declared.unit.Unit.TheVariants.{Framed}
use Rattle.serial_link.specs.Rules.{Step}
use Rattle.serial_pipes.specs.Events.{Takes}
use Rattle.serial_pipes.specs.Events as way
use Rattle.route_table.specs.declared.route.Route.{Route}
use Rattle.chip_sim.specs.Nodes.{is_marked}
use Rattle.chip_sim.specs.State.{ChipState}
use Rattle.chip_sim.specs.Waiting.{PortState}
use Rattle.chip_sim.specs.Requests.{heard, judged_frame}
use Rattle.chip_sim.specs.Did.{MayAll, judged_all}
use Rattle.chip_sim.specs.Events.{ChipEvent, Judged, May, after, collides}
use Rattle.chip_sim.specs.Link.{link_steps}
use Rattle.chip_sim.specs.Rules.{over, posts}
use Rattle.chip_sim.specs.declared.out.ChipOut.{ChipOut}
use Rattle.chip_sim.specs.declared.out.Sending.{Sending as SendingParts}
use Rattle.zw_text.specs.declared.entry.Entry.{Entry}
use Rattle.zw_text.specs.declared.entry.Entry.TheVariants as entry
use Rattle.law_wire.specs.Asked.{Sending, in_tick, last_sending}
use Rattle.outside_model.specs.Devices.{State}
use Rattle.outside_model.specs.State.{OuterState, Outcome, Outside, outside, each, with_chip}
use Rattle.outside_model.specs.Chip.{MayTake, chip_does, chip_takes, put_out}
use Rattle.outside_model.specs.Events.{Chip_takes, entries, happens, has_entered, outcome, stamp, ticked_entry}
use Rattle.proof_air.proofs.Times.{each_keeps, does_chip, does_time, time_of}
use Rattle.proof_chip.specs.Serving.{Serves}
use Rattle.proof_chip.specs.Sending.{Agrees, AirSo, AreNow, AreSending, ItemsSo, TieItems, TieWays}
use Rattle.proof_chip.proofs.Bringing.{brings_event, posts_none, some_more}
use Rattle.proof_chip.proofs.Growing.{serves_event}
use Rattle.proof_chip.proofs.Judged.{decided, judged_ties, none_passed}
use Rattle.proof_chip.proofs.Airing.{answer}
use Rattle.proof_chip.proofs.Answered.{answered_outs}
use Rattle.proof_chip.proofs.Going.{apart_goes, chip_goes}
use Rattle.proof_chip.proofs.Keeping.{number_apart}
use Rattle.proof_chip.proofs.Quieting.{IsUnanswered}

-- two lists that are none together
pub both_none : (xs ys : List Entry) → xs ++ ys ≡ [] → (xs ≡ []) × (ys ≡ [])
both_none [] ys none = (refl, none)
both_none (x ∷ xs) ys none = absurd cc

module _ (devices : List State) where
  -- one item
  pub item_keeps : (did : List Step) (past : List Entry) (o : OuterState) (item : Item) (route : Option Route) → May o.chip.state (Judged item route) → ItemsSo devices did past o
      → ItemsSo devices (did ++ link_steps o.chip.state (Judged item route)) (past ++ (chip_does o (Judged item route)).entries) (chip_does o (Judged item route)).outer
  unfolding chip_does
  item_keeps did past o item route may (frames, serves, brings, ties) =
      let e : ChipEvent = Judged item route in
      let all : List Step = did ++ link_steps o.chip.state e in
      let more : List FrameParts = frames ++ posts o.chip.state e in (
        more,
        subst (λ (s : ChipState). Serves all more (past ++ (chip_does o e).entries) s.port) (sym (does_chip o e)) (serves_event did frames past o e serves),
        brings_event did frames past o e serves [] (some_more frames (posts o.chip.state e) past (posts_none o.chip.state e tt) brings.some) brings,
        judged_ties devices did frames past o (chip_does o e).outer serves ties (ap (λ (t : Bool × Bool × ℕ). t.2) (does_time o e)) route item (does_chip o e) may,
      )

  -- and all of them
  all_keep : (did : List Step) (ways : List (Item × Option Route)) (past : List Entry) (o : OuterState) → MayAll o.chip.state (judged_all ways) → ItemsSo devices did past o
      → ItemsSo devices (did ++ over link_steps o.chip.state (judged_all ways)) (past ++ (each chip_does o (judged_all ways)).entries) (each chip_does o (judged_all ways)).outer
  all_keep did [] past o may knows =
      subst (λ (l : List Step). ItemsSo devices l (past ++ []) o) (sym (append-nil did)) (subst (λ (l : List Entry). ItemsSo devices did l o) (sym (append-nil past)) knows)
  all_keep did (one ∷ ways) past o may knows =
      let e : ChipEvent = Judged one.0 one.1 in
      let first : Outcome = chip_does o e in
      let rest : Outcome = each chip_does first.outer (judged_all ways) in
      let now : List Step = did ++ link_steps o.chip.state e in
      let got =
      all_keep now ways (past ++ first.entries) first.outer (subst (λ (s : ChipState). MayAll s (judged_all ways)) (sym (does_chip o e)) may.1)
      (item_keeps did past o one.0 one.1 may.0 knows) in
      let is : now ++ over link_steps first.outer.chip.state (judged_all ways) ≡ did ++ over link_steps o.chip.state (judged_all (one ∷ ways)) =
      ap (λ (s : ChipState). now ++ over link_steps s (judged_all ways)) (does_chip o e) ∙ append_assoc did (link_steps o.chip.state e) (over link_steps (after o.chip.state e) (judged_all ways)) in
      subst (λ (l : List Step). ItemsSo devices l (past ++ (each chip_does o (judged_all (one ∷ ways))).entries) rest.outer) is
      (subst (λ (l : List Entry). ItemsSo devices (now ++ over link_steps first.outer.chip.state (judged_all ways)) l rest.outer) (append_assoc past first.entries rest.entries) got)

  -- only the chip and the clock matter
  ties_same : (steps : List Step) (past : List Entry) (o p : OuterState) → p.chip.state ≡ o.chip.state → p.clock ≡ o.clock → TieItems devices steps past o → TieItems devices steps past p
  ties_same steps past o p chip clock ties = record {
    airs = λ later goes.
        let was = ties.airs later goes in
        record {
          so = was.so;
          over = was.over;
          under =
              subst (λ (s : ChipState). AreSending s.sending (in_tick p.clock (last_sending later past))) (sym chip)
              (subst (λ (n : ℕ). AreSending o.chip.state.sending (in_tick n (last_sending later past))) (sym clock) was.under);
          few = subst (λ (n : ℕ). AllByRecursion (λ (one : Sending). one.clock ≤ n) (last_sending later past)) (sym clock) was.few;
        };
    agrees = record {
      clock = ties.agrees.clock ∙ sym clock;
      joined = λ node. ap (λ (s : ChipState). is_marked s.joined node) chip ∙ ties.agrees.joined node;
      ways = subst (λ (s : ChipState). TieWays devices past s.table) (sym chip) ties.agrees.ways;
    };
  }

  pub items_same : (did : List Step) (past : List Entry) (o p : OuterState) → p.chip.state ≡ o.chip.state → p.clock ≡ o.clock → ItemsSo devices did past o → ItemsSo devices did past p
  items_same did past o p chip clock (frames, serves, brings, ties) =
      (frames, subst (λ (s : ChipState). Serves did frames past s.port) (sym chip) serves, brings, ties_same did past o p chip clock ties)

  takes_keep : (did : List Step) (past : List Entry) (o : OuterState) (count : ℕ) (rest : Rest) (ways : List (Item × Option Route)) → MayTake o count rest ways → ItemsSo devices did past o
      → ItemsSo devices (did ++ over link_steps o.chip.state (judged_all ways)) (past ++ (chip_takes o count rest ways).entries) (chip_takes o count rest ways).outer
  takes_keep did past o count rest ways may knows =
      let fed : OuterState = record o { to_chip = way.after o.to_chip (Takes count); chip = record { decoder = rest; state = o.chip.state } } in
      all_keep did ways past fed may.judges (items_same did past o fed refl refl knows)

  -- ---- from what is known at any time, and back

  pub items_of : (did : List Step) (past : List Entry) (o : OuterState) → Agrees devices past o → AirSo devices (AreNow o) did past o.chip.state.port → ItemsSo devices did past o
  items_of did past o agrees (frames, serves, brings, keeps) = (
    frames,
    serves,
    brings,
    record {
      airs = λ later goes. let was = keeps later goes in record { so = was.so; over = was.over; under = was.are.0; few = was.are.1 };
      agrees = agrees;
    },
  )

  air_so : (did : List Step) (past : List Entry) (o : OuterState) → ItemsSo devices did past o → AirSo devices (AreNow o) did past o.chip.state.port
  air_so did past o (frames, serves, brings, ties) =
      (frames, serves, brings, λ later goes. let was = ties.airs later goes in record { so = was.so; over = was.over; are = (was.under, was.few) })

  -- ---- where nothing is entered

  -- no frame is answered then
  pub silent_item : (o : OuterState) (item : Item) (route : Option Route) → (chip_does o (Judged item route)).entries ≡ [] → IsUnanswered (collides o.chip.state) (Judged item route)
  unfolding chip_does
  silent_item o item route none = by (decided (collides o.chip.state) item route)
    where
      answers : (f : FrameParts) → collides o.chip.state ≡ false → (chip_does o (Judged (Good (Framed f)) route)).entries ≡ [] → ⊥
      answers f free none =
          let begins : answer ∷ _ ≡ [] =
          sym (ap (λ (puts : List ChipOut). (each put_out (with_chip o (after o.chip.state (Judged (Good (Framed f)) route))) puts).entries) (answered_outs o.chip.state f route free)) ∙ none in
          cc

      by : IsUnanswered (collides o.chip.state) (Judged item route) ⊎ ((f : FrameParts) × (item ≡ Good (Framed f)) × (collides o.chip.state ≡ false)) → IsUnanswered (collides o.chip.state) (Judged item route)
      by (inl unanswered) = unanswered
      by (inr (f, same, free)) = absurd (answers f free (subst (λ (i : Item). (chip_does o (Judged i route)).entries ≡ []) same none))

  module _ (there : List State) (Are : List Sending → Type 0) where
    -- what is known stays so, and so does what the chip has under way
    silent_all : (did : List Step) (ways : List (Item × Option Route)) (past : List Entry) (o : OuterState) → (each chip_does o (judged_all ways)).entries ≡ [] → AirSo devices Are did past o.chip.state.port
        → AirSo devices Are (did ++ over link_steps o.chip.state (judged_all ways)) past (each chip_does o (judged_all ways)).outer.chip.state.port
        × ((each chip_does o (judged_all ways)).outer.chip.state.sending ≡ o.chip.state.sending)
    silent_all did [] past o none knows = (subst (λ (l : List Step). AirSo devices Are l past o.chip.state.port) (sym (append-nil did)) knows, refl)
    silent_all did (one ∷ ways) past o none knows =
        let e : ChipEvent = Judged one.0 one.1 in
        let first : Outcome = chip_does o e in
        let rest : Outcome = each chip_does first.outer (judged_all ways) in
        let now : List Step = did ++ link_steps o.chip.state e in
        let both = both_none first.entries rest.entries none in
        let quiet = silent_item o one.0 one.1 both.0 in
        let goes = (chip_goes devices Are did (outside o there) e quiet tt false past (λ (is : false ≡ true). absurd cc) knows).1 in
        let here : AirSo devices Are now past first.outer.chip.state.port =
        subst (λ (l : List Entry). AirSo devices Are now l first.outer.chip.state.port) (ap (λ (l : List Entry). past ++ l) both.0 ∙ append-nil past) goes in
        let later = silent_all now ways past first.outer both.1 here in
        let is : now ++ over link_steps first.outer.chip.state (judged_all ways) ≡ did ++ over link_steps o.chip.state (judged_all (one ∷ ways)) =
        ap (λ (s : ChipState). now ++ over link_steps s (judged_all ways)) (does_chip o e) ∙ append_assoc did (link_steps o.chip.state e) (over link_steps (after o.chip.state e) (judged_all ways)) in
        let same : first.outer.chip.state.sending ≡ o.chip.state.sending =
        ap (λ (s : ChipState). s.sending) (does_chip o e)
        ∙ ap (λ (passes : Option FrameParts). (judged_frame passes (heard o.chip.state one.0)).sending) (none_passed (collides o.chip.state) one.0 one.1 quiet) in
        (subst (λ (l : List Step). AirSo devices Are l past rest.outer.chip.state.port) is later.0, later.1 ∙ same)

  -- ---- all of it, with the number of the tick

  -- what is known of them is weaker, or said of another state
  pub weaker : (Are Other : List Sending → Type 0) (did : List Step) (past : List Entry) (port : PortState) → ((sendings : List Sending) → Are sendings → Other sendings) → AirSo devices Are did past port
      → AirSo devices Other did past port
  weaker Are Other did past port goes (frames, serves, brings, keeps) =
      (frames, serves, brings, λ later goes_on. let was = keeps later goes_on in record { so = was.so; over = was.over; are = goes (last_sending later past) was.are })

  pub now_as : (o p : OuterState) → p.chip.state.sending ≡ o.chip.state.sending → p.clock ≡ o.clock → (sendings : List Sending) → AreNow o sendings → AreNow p sendings
  now_as o p sending clock sendings are = (
    subst (λ (x : Option SendingParts). AreSending x (in_tick p.clock sendings)) (sym sending) (subst (λ (n : ℕ). AreSending o.chip.state.sending (in_tick n sendings)) (sym clock) are.0),
    subst (λ (n : ℕ). AllByRecursion (λ (one : Sending). one.clock ≤ n) sendings) (sym clock) are.1,
  )

  module _ (did : List Step) (w : Outside) (count : ℕ) (rest : Rest) (ways : List (Item × Option Route)) (may : MayTake w.outer count rest ways) (past : List Entry)
      (agrees : Agrees devices (past ++ ticked_entry w.outer) w.outer) (knows : AirSo devices (AreNow w.outer) did past w.outer.chip.state.port) where
    abbrev now : List Step
    now = did ++ over link_steps w.outer.chip.state (judged_all ways)

    abbrev fed : OuterState
    fed = record w.outer { to_chip = way.after w.outer.to_chip (Takes count); chip = record { decoder = rest; state = w.outer.chip.state } }

    abbrev x : Outcome
    x = each chip_does fed (judged_all ways)

    same_time : time_of x.outer ≡ time_of w.outer
    same_time = each_keeps time_of chip_does does_time fed (judged_all ways)

    same_clock : x.outer.clock ≡ w.outer.clock
    same_clock = ap (λ (t : Bool × Bool × ℕ). t.2) same_time

    same_number : ticked_entry x.outer ≡ ticked_entry w.outer
    same_number = ap (λ (t : Bool × Bool × ℕ). if t.0 && not t.1 then entry.Time t.2 ∷ [] else []) same_time

    as_entered : (told : List Entry) → x.entries ≡ told → AirSo devices (AreNow (has_entered x.outer told)) now (past ++ stamp x.outer told) (has_entered x.outer told).chip.state.port
    as_entered [] none =
        let got = silent_all w.devices (AreNow w.outer) did ways past fed none knows in
        subst (λ (l : List Entry). AirSo devices (AreNow x.outer) now l x.outer.chip.state.port) (sym (append-nil past))
        (weaker (AreNow w.outer) (AreNow x.outer) now past x.outer.chip.state.port (now_as w.outer x.outer got.1 same_clock) got.0)
    as_entered (first ∷ told) is =
        let here : List Entry = past ++ ticked_entry w.outer in
        let numbered : AirSo devices (AreNow w.outer) did here w.outer.chip.state.port =
        (apart_goes devices (AreNow w.outer) did w w (ticked_entry w.outer) (number_apart (w.outer.in_tick && not w.outer.stamped) w.outer.clock) refl false past (λ (is : false ≡ true). absurd cc) knows).1 in
        let got = takes_keep did here w.outer count rest ways may (items_of did here w.outer agrees numbered) in
        let at : here ++ x.entries ≡ past ++ (ticked_entry x.outer ++ first ∷ told) =
        append_assoc past (ticked_entry w.outer) x.entries ∙ ap₂ (λ (a b : List Entry). past ++ (a ++ b)) (sym same_number) is in
        let later : OuterState = has_entered x.outer (first ∷ told) in
        subst (λ (l : List Entry). AirSo devices (AreNow later) now l later.chip.state.port) at (air_so now (here ++ x.entries) later (items_same now (here ++ x.entries) x.outer later refl refl got))

    -- Where chip and transcript agree once the number of the tick is entered, and the chip has under way what the transcript has, it is so again after all items that the chip takes.
    pub takes_event : AirSo devices (AreNow (happens w (Chip_takes count rest ways)).outer) now (past ++ entries w (Chip_takes count rest ways)) (happens w (Chip_takes count rest ways)).outer.chip.state.port
    unfolding outcome
    takes_event = as_entered x.entries refl
