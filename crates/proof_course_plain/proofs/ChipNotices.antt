-- Whatever happens outside the host but at the line itself: what the chip does, what it is given of the node, and that the air stays.
use Rattle.std.proofs.Common.{◌≡◌, ℕ, zero, suc, ◌-◌, ◌==◌, ◌&&◌, Bool, true, false, List, [], ◌∷◌, ◌++◌, length, refl, sym, ◌∙◌, subst, filter, nat_le, if◌then◌else◌, append-nil}
use Rattle.std.specs.Prelude.{Option, Some, None, drop}
use Rattle.std.specs.List.{AllByRecursion, range_with_len}
use Rattle.std.specs.Option.{unwrap_or, is_some, option_to_list}
use Rattle.serial_link.specs.State.{copy_due}
use Rattle.route_table.specs.declared.route.Route.{Route}
use Rattle.route_table.specs.Network.{linked}
use Rattle.chip_functions.specs.Notice.{status_of}
use Rattle.chip_functions.specs.declared.notice.TransmitStatus.{TransmitStatus}
use Rattle.chip_functions.specs.declared.notice.TransmitStatus.TheVariants.{Fail, NoRoute as no_route_status}
use Rattle.chip_sim.specs.State.{ChipState}
use Rattle.chip_sim.specs.Events.{ChipEvent, Judged, Ticked, Done, Heard as chip_hears, Informed, Forgets, Joined, Linked, Collides, after, outs, May, ended_outs}
use Rattle.chip_sim.specs.Did.{after_all}
use Rattle.chip_sim.specs.Waiting.{served_outs, written, ticked}
use Rattle.chip_sim.specs.declared.out.Sending.{Sending}
use Rattle.device_sim.specs.State.{State}
use Rattle.mesh_sim.specs.Air.{is_joined, joining}
use Rattle.mesh_sim.specs.Fates.{place_of}
use Rattle.mesh_sim.specs.declared.event.AirEvent.{AirEvent}
use Rattle.mesh_sim.specs.declared.event.AirEvent.TheVariants as air_event
use Rattle.zw_text.specs.declared.entry.Entry.TheVariants.{Forget}
use Rattle.outside_model.specs.declared.waits.Due.{Due}
use Rattle.outside_model.specs.declared.waits.Due.TheVariants.{Info, NoRoute as no_route_due}
use Rattle.outside_model.specs.State.{OuterState, silent, tells, each, with_chip}
use Rattle.outside_model.specs.Chip.{chip_does}
use Rattle.outside_model.specs.Results.{owes_call, call_back, no_route, no_routes, leading, forgets, frame_ends, gives, without_no_route, profile_for, device_at}
use Rattle.outside_model.specs.Air.{to_chip, deals}
use Rattle.outside_model.specs.Nodes.{discovers, links_of, all_pairs, is_known}
use Rattle.proof_traffic.proofs.Mild.{AreMild, each_mild, mild-append, queued_mild, served_mild, written_mild}
use Rattle.proof_world.specs.proof_serial.Chip.{ChipDoes}
use Rattle.proof_world.proofs.ChipWays.{does_both, does_one, IsStill, still_does, owes, quiet_one as quiet_does, fits_for, short_payload, SetsTable, sets_map, all_pairs_set}
use Rattle.proof_course_plain.specs.Ways.{Beside, Thinned}
use Rattle.proof_course_plain.specs.Mesh.{labels, brought, BringsAs}
use Rattle.proof_course_plain.specs.Chip.{GivesAs}
use Rattle.proof_course_plain.proofs.WayLabels.{beside-both, labels-append, thinned_same, thinned_both}

-- events of the chip at which it sends nothing
abbrev pub IsCalm : ChipEvent → Type 0
IsCalm (Judged item way) = ⊥
IsCalm event = Unit {0}

ended_mild : (sending : Option Sending) (s : ChipState) (status : TransmitStatus) → AreMild (ended_outs sending s status)
ended_mild None s status = tt
ended_mild (Some sending) s status = queued_mild s.port _

calm_mild : (s : ChipState) (event : ChipEvent) → IsCalm event → AreMild (outs s event)
calm_mild s (Judged item way) calm = absurd calm
calm_mild s Ticked calm = mild-append (written (copy_due s.port.side.turn)) (served_outs (ticked s.port)) (written_mild (copy_due s.port.side.turn)) (served_mild (ticked s.port))
calm_mild s (chip_hears from payload) calm = queued_mild s.port _
calm_mild s (Done status) calm = by (s.aborted == 0)
  where
    by : (b : Bool) → AreMild (if b then ended_outs s.sending s status else [])
    by true = ended_mild s.sending s status
    by false = tt
calm_mild s (Informed n profile) calm = queued_mild s.port _
calm_mild s (Joined n listening) calm = tt
calm_mild s (Linked a b live) calm = tt
calm_mild s (Forgets a b) calm = tt
calm_mild s Collides calm = tt

-- ---- what the chip did, and was given

pub record ChipTells {L : Type 0} (Holds : List ℕ → Option L → Type 0) (node : ℕ) (given : List L) (old new : OuterState) : Type 0 where
  pub events : List ChipEvent
  pub does : ChipDoes events old new
  pub marks : List (Option L)
  pub gives : Beside (GivesAs Holds node) events marks
  pub are : Thinned given (labels marks)
  pub air : new.air ≡ old.air

module _ {L : Type 0} (Holds : List ℕ → Option L → Type 0) (node : ℕ) where
  pub tells_still : (o n : OuterState) (given : List L) → IsStill o n → n.air ≡ o.air → ChipTells Holds node given o n
  tells_still o n given still air = record { events = []; does = still_does o n still; marks = []; gives = tt; are = tt; air = air }

  pub tells_both : (a b : List L) (o p q : OuterState) → ChipTells Holds node a o p → ChipTells Holds node b p q → ChipTells Holds node (a ++ b) o q
  tells_both a b o p q first later = record {
    events = first.events ++ later.events;
    does = does_both first.events later.events o p q first.does later.does;
    marks = first.marks ++ later.marks;
    gives = beside-both (GivesAs Holds node) first.events later.events first.marks later.marks first.gives later.gives;
    are = subst (λ l. Thinned (a ++ b) l) (sym (labels-append first.marks later.marks)) (thinned_both a (labels first.marks) b (labels later.marks) first.are later.are);
    air = later.air ∙ first.air;
  }

  here : (o n : OuterState) → n.chip ≡ o.chip → n.to_host ≡ o.to_host → n.to_chip ≡ o.to_chip → n.air ≡ o.air → ChipTells Holds node [] o n
  here o n chip to_host to_chip air = tells_still o n [] (record { chip = chip; to_host = to_host; to_chip = to_chip }) air

  pub tells_one : (o : OuterState) (e : ChipEvent) (mark : Option L) → May o.chip.state e → IsCalm e → GivesAs Holds node e mark → ChipTells Holds node (option_to_list mark) o (chip_does o e).outer
  unfolding chip_does
  tells_one o e mark may calm is = record {
    events = e ∷ [];
    does = does_one o e may;
    marks = mark ∷ [];
    gives = (is, tt);
    are = subst (λ l. Thinned (option_to_list mark) l) (sym (append-nil (option_to_list mark))) (thinned_same (option_to_list mark));
    air = (each_mild (with_chip o (after o.chip.state e)) (outs o.chip.state e) (calm_mild o.chip.state e calm)).air;
  }

  tells_from : (o p q : OuterState) (given : List L) → p.chip ≡ o.chip → p.to_host ≡ o.to_host → p.to_chip ≡ o.to_chip → p.air ≡ o.air → ChipTells Holds node given p q → ChipTells Holds node given o q
  tells_from o p q given chip to_host to_chip air later = tells_both [] given o p q (here o p chip to_host to_chip air) later

  -- ---- results

  call_tells : (o : OuterState) (status : TransmitStatus) → ChipTells Holds node [] o (call_back o status).outer
  call_tells o status = by (owes_call o.chip.state) refl
    where
      by : (b : Bool) → owes_call o.chip.state ≡ b → ChipTells Holds node [] o (if b then chip_does (record o { calls = drop 1 o.calls }) (Done status) else silent (record o { calls = drop 1 o.calls })).outer
      by true e =
          tells_from o (record o { calls = drop 1 o.calls }) (chip_does (record o { calls = drop 1 o.calls }) (Done status)).outer [] refl refl refl refl
          (tells_one (record o { calls = drop 1 o.calls }) (Done status) None (owes o.chip.state e) tt refl)
      by false e = here o (record o { calls = drop 1 o.calls }) refl refl refl refl

  no_route_tells : (o : OuterState) → ChipTells Holds node [] o (no_route o).outer
  no_route_tells o =
      tells_from o (record o { due = without_no_route o.due }) (no_route o).outer [] refl refl refl refl (call_tells (record o { due = without_no_route o.due }) no_route_status)

  no_routes_tell : (count : ℕ) (o : OuterState) → ChipTells Holds node [] o (no_routes count o).outer
  no_routes_tell zero o = here o o refl refl refl refl
  no_routes_tell (suc count) o = tells_both [] [] o (no_route o).outer (no_routes count (no_route o).outer).outer (no_route_tells o) (no_routes_tell count (no_route o).outer)

  -- an event at which nothing is put out
  quiet_one : (o : OuterState) (e : ChipEvent) → May o.chip.state e → outs o.chip.state e ≡ [] → GivesAs Holds node e None → ChipTells Holds node [] o (with_chip o (after o.chip.state e))
  quiet_one o e may none is = record {
    events = e ∷ [];
    does = quiet_does o e may none;
    marks = None ∷ [];
    gives = (is, tt);
    are = tt;
    air = refl;
  }

  forgets_tells : (o : OuterState) (dead : Option (ℕ × ℕ)) → ChipTells Holds node [] o (forgets o dead).outer
  forgets_tells o None = here o o refl refl refl refl
  forgets_tells o (Some hop) = by (linked o.chip.state.table hop.0 hop.1)
    where
      by : (b : Bool) → ChipTells Holds node [] o (if b then tells (with_chip o (after o.chip.state (Forgets hop.0 hop.1))) (Forget hop.0 hop.1 ∷ []) else silent o).outer
      by true = quiet_one o (Forgets hop.0 hop.1) tt refl refl
      by false = here o o refl refl refl refl

  ends_tells : (o : OuterState) (status : ℕ) (dead : Option (ℕ × ℕ)) → ChipTells Holds node [] o (frame_ends o status dead).outer
  ends_tells o status dead =
      let forgot : OuterState = (forgets o dead).outer in
      let later : OuterState = (no_routes (leading forgot.calls) forgot).outer in
      tells_both [] [] o forgot (frame_ends o status dead).outer (forgets_tells o dead)
      (tells_both [] [] forgot later (frame_ends o status dead).outer (no_routes_tell (leading forgot.calls) forgot) (call_tells later (unwrap_or (status_of status) Fail)))

  -- ---- the information of a node

  pub gives_tells : (o : OuterState) (devices : List State) (due : List Due) (route : Option Route) → ChipTells Holds node [] o (gives o devices due route).outer
  gives_tells o devices [] route = here o o refl refl refl refl
  gives_tells o devices (no_route_due ∷ due) route = no_route_tells o
  gives_tells o devices (Info n ∷ due) route =
      tells_from o (record o { due = due }) (gives o devices (Info n ∷ due) route).outer [] refl refl refl refl
      (tells_one (record o { due = due }) (Informed n (profile_for o.air devices n route)) None (fits_for (is_joined o.air n && is_some route) (device_at devices (place_of n devices))) tt refl)

  -- ---- the air

  to_chip_tells : (o : OuterState) (from : ℕ) (payload : List ℕ) (mark : Option L) → BringsAs Holds node (from, payload) mark → ChipTells Holds node (option_to_list mark) o (to_chip o from payload).outer
  to_chip_tells o from payload mark is = by (nat_le 1 (length payload) && nat_le (length payload) 46) refl
    where
      by : (b : Bool) → (nat_le 1 (length payload) && nat_le (length payload) 46) ≡ b → ChipTells Holds node (option_to_list mark) o (if b then chip_does o (chip_hears from payload) else silent o).outer
      by true e = tells_one o (chip_hears from payload) mark (short_payload payload e) tt is
      by false e = tells_still o o (option_to_list mark) (record { chip = refl; to_host = refl; to_chip = refl }) refl

  pub deals_tell : (devices : List State) (o : OuterState) (events : List AirEvent) (marks : List (Option L)) → Beside (BringsAs Holds node) (brought events) marks → ChipTells Holds node (labels marks) o (each (deals devices) o events).outer
  deals_tell devices o [] [] are = here o o refl refl refl refl
  deals_tell devices o [] (mark ∷ marks) are = absurd are
  deals_tell devices o (air_event.Heard frame ∷ events) marks are = deals_tell devices o events marks are
  deals_tell devices o (air_event.Lost frame ∷ events) marks are = deals_tell devices o events marks are
  deals_tell devices o (air_event.Unheard frame ∷ events) marks are = deals_tell devices o events marks are
  deals_tell devices o (air_event.Sent frame from to route payload ∷ events) marks are = deals_tell devices o events marks are
  deals_tell devices o (air_event.Changed n at ∷ events) marks are = deals_tell devices o events marks are
  deals_tell devices o (air_event.ToChip frame from payload ∷ events) [] are = absurd are
  deals_tell devices o (air_event.ToChip frame from payload ∷ events) (mark ∷ marks) are =
      tells_both (option_to_list mark) (labels marks) o (to_chip o from payload).outer (each (deals devices) (to_chip o from payload).outer events).outer
      (to_chip_tells o from payload mark are.0) (deals_tell devices (to_chip o from payload).outer events marks are.1)
  deals_tell devices o (air_event.Done frame status dead ∷ events) marks are =
      tells_both [] (labels marks) o (frame_ends o status dead).outer (each (deals devices) (frame_ends o status dead).outer events).outer
      (ends_tells o status dead) (deals_tell devices (frame_ends o status dead).outer events marks are)

  -- ---- nodes

  sets_tells : (o : OuterState) (events : List ChipEvent) → AllByRecursion SetsTable events → ChipTells Holds node [] o (with_chip o (after_all o.chip.state events))
  sets_tells o [] all = here o (with_chip o o.chip.state) refl refl refl refl
  sets_tells o (Joined n listening ∷ events) all =
      let mid : OuterState = with_chip o (after o.chip.state (Joined n listening)) in
      tells_both [] [] o mid (with_chip o (after_all o.chip.state (Joined n listening ∷ events))) (quiet_one o (Joined n listening) tt refl refl) (sets_tells mid events all.1)
  sets_tells o (Linked a b live ∷ events) all =
      let mid : OuterState = with_chip o (after o.chip.state (Linked a b live)) in
      tells_both [] [] o mid (with_chip o (after_all o.chip.state (Linked a b live ∷ events))) (quiet_one o (Linked a b live) tt refl refl) (sets_tells mid events all.1)
  sets_tells o (event ∷ events) all = absurd all.0

  -- the table is set, and the air is then this
  pub joins_tell : (o : OuterState) (n : ℕ) (listening : Bool) → ChipTells Holds node [] o (with_chip o (after_all o.chip.state (Joined n listening ∷ links_of (joining o.air n listening) n)))
  joins_tell o n listening =
      let air = joining o.air n listening in
      let known = filter (λ (other : ℕ). is_known air other && linked air.network n other) (range_with_len 1 232) in
      sets_tells o (Joined n listening ∷ links_of air n) (tt, sets_map (λ (other : ℕ). Linked n other true) (λ (other : ℕ). tt) known)

  pub discovers_tell : (o : OuterState) → ChipTells Holds node [] o (discovers o)
  discovers_tell o = sets_tells o (all_pairs o.air) (all_pairs_set o.air)

  pub collides_tell : (o : OuterState) → ChipTells Holds node [] o (with_chip o (after o.chip.state Collides))
  collides_tell o = quiet_one o Collides tt refl refl
