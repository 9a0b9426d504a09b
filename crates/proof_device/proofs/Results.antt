-- What the chip is given outside the host: results of SendData, information of nodes, and what it hears. Each is made of events of the chip and of what changes nothing but what it
-- waits for, so what goes on through these goes on through all of it.
use Rattle.std.proofs.Common.{◌≡◌, ℕ, zero, suc, ◌&&◌, Bool, true, false, if◌then◌else◌, List, [], ◌∷◌, nat_le, length, drop, refl}
use Rattle.std.specs.Option.{unwrap_or}
use Rattle.std.specs.Prelude.{Option, Some, None}
use Rattle.route_table.specs.declared.route.Route.{Route}
use Rattle.route_table.specs.Network.{linked}
use Rattle.chip_functions.specs.Notice.{status_of}
use Rattle.chip_functions.specs.declared.notice.TransmitStatus.{TransmitStatus}
use Rattle.chip_functions.specs.declared.notice.TransmitStatus.TheVariants.{Fail, NoRoute as no_route_status}
use Rattle.world_model.specs.chip_sim.Events.{ChipEvent, Done, Heard as chip_hears, Informed, Forgets, after}
use Rattle.law_transcript.specs.device_sim.State.{State}
use Rattle.law_transcript.specs.zw_text.declared.entry.Entry.TheVariants as entry
use Rattle.world_model.specs.outside_model.declared.waits.Due.{Due}
use Rattle.world_model.specs.outside_model.declared.waits.Due.TheVariants.{Info, NoRoute as no_route_due}
use Rattle.world_model.specs.outside_model.State.{OuterState, Outcome, silent, tells, and_then, with_chip}
use Rattle.world_model.specs.outside_model.Chip.{chip_does}
use Rattle.world_model.specs.outside_model.Results.{owes_call, call_back, no_route, no_routes, leading, forgets, frame_ends, gives, without_no_route, profile_for}
use Rattle.world_model.specs.outside_model.Air.{to_chip}

-- only what the chip waits for is another
pub record IsSameChip (old new : OuterState) : Type 0 where
  pub chip : new.chip.state ≡ old.chip.state
  pub to_chip : new.to_chip ≡ old.to_chip
  pub to_host : new.to_host ≡ old.to_host
  pub air : new.air ≡ old.air
  pub in_tick : new.in_tick ≡ old.in_tick
  pub stamped : new.stamped ≡ old.stamped
  pub clock : new.clock ≡ old.clock

-- what the chip is given, and of that what is no payload
abbrev pub IsGiven : ChipEvent → Type 0
IsGiven (chip_hears node payload) = Unit {0}
IsGiven (Done status) = Unit {0}
IsGiven (Informed node profile) = Unit {0}
IsGiven _ = ⊥

abbrev pub IsResult : ChipEvent → Type 0
IsResult (Done status) = Unit {0}
IsResult (Informed node profile) = Unit {0}
IsResult _ = ⊥

-- What goes on: where only that is another; through one thing and then the next; where only that is another first; and through results.
pub record Calls (Goes : OuterState → Outcome → Type 0) : Type 0 where
  pub still : (o p : OuterState) → IsSameChip o p → Goes o (silent p)
  pub both : (o : OuterState) (first : Outcome) (next : OuterState → Outcome) → Goes o first → ((p : OuterState) → Goes p (next p)) → Goes o (and_then first next)
  pub later : (o p : OuterState) (x : Outcome) → IsSameChip o p → Goes p x → Goes o x
  pub result : (o : OuterState) (event : ChipEvent) → IsResult event → Goes o (chip_does o event)

-- and so through all that it is given, and where a link is forgotten
pub record Gives (Goes : OuterState → Outcome → Type 0) : Type 0 where
  pub still : (o p : OuterState) → IsSameChip o p → Goes o (silent p)
  pub both : (o : OuterState) (first : Outcome) (next : OuterState → Outcome) → Goes o first → ((p : OuterState) → Goes p (next p)) → Goes o (and_then first next)
  pub later : (o p : OuterState) (x : Outcome) → IsSameChip o p → Goes p x → Goes o x
  pub does : (o : OuterState) (event : ChipEvent) → IsGiven event → Goes o (chip_does o event)
  pub forgotten : (o : OuterState) (a b : ℕ) → Goes o (tells (with_chip o (after o.chip.state (Forgets a b))) (entry.Forget a b ∷ []))

module _ (Goes : OuterState → Outcome → Type 0) where
  if_goes : (b : Bool) (o : OuterState) (x y : Outcome) → Goes o x → Goes o y → Goes o (if b then x else y)
  if_goes true o x y one two = one
  if_goes false o x y one two = two

  module _ (law : Calls Goes) where
    same : (o : OuterState) → Goes o (silent o)
    same o = law.still o o (record { chip = refl; to_chip = refl; to_host = refl; air = refl; in_tick = refl; stamped = refl; clock = refl })

    call_goes : (o : OuterState) (status : TransmitStatus) → Goes o (call_back o status)
    call_goes o status =
        let p : OuterState = record o { calls = drop 1 o.calls } in
        if_goes (owes_call o.chip.state) o (chip_does p (Done status)) (silent p)
        (law.later o p (chip_does p (Done status)) (record { chip = refl; to_chip = refl; to_host = refl; air = refl; in_tick = refl; stamped = refl; clock = refl }) (law.result p (Done status) tt))
        (law.still o p (record { chip = refl; to_chip = refl; to_host = refl; air = refl; in_tick = refl; stamped = refl; clock = refl }))

    no_route_goes : (o : OuterState) → Goes o (no_route o)
    no_route_goes o =
        let p : OuterState = record o { due = without_no_route o.due } in
        law.later o p (no_route o) (record { chip = refl; to_chip = refl; to_host = refl; air = refl; in_tick = refl; stamped = refl; clock = refl }) (call_goes p no_route_status)

    no_routes_go : (count : ℕ) (o : OuterState) → Goes o (no_routes count o)
    no_routes_go zero o = same o
    no_routes_go (suc count) o = law.both o (no_route o) (λ later. no_routes count later) (no_route_goes o) (λ later. no_routes_go count later)

    -- a frame of the chip has ended, and no link is forgotten
    pub calls_go : (o : OuterState) (status : ℕ) → Goes o (and_then (no_routes (leading o.calls) o) (λ later. call_back later (unwrap_or (status_of status) Fail)))
    calls_go o status =
        law.both o (no_routes (leading o.calls) o) (λ later. call_back later (unwrap_or (status_of status) Fail)) (no_routes_go (leading o.calls) o)
        (λ later. call_goes later (unwrap_or (status_of status) Fail))

    -- it is given what is due
    pub due_goes : (o : OuterState) (devices : List State) (due : List Due) (route : Option Route) → Goes o (gives o devices due route)
    due_goes o devices [] route = same o
    due_goes o devices (no_route_due ∷ due) route = no_route_goes o
    due_goes o devices (Info node ∷ due) route =
        let p : OuterState = record o { due = due } in
        law.later o p (gives o devices (Info node ∷ due) route) (record { chip = refl; to_chip = refl; to_host = refl; air = refl; in_tick = refl; stamped = refl; clock = refl })
        (law.result p (Informed node (profile_for o.air devices node route)) tt)

    -- it hears a payload
    pub payload_goes : ((o : OuterState) (from : ℕ) (payload : List ℕ) → Goes o (chip_does o (chip_hears from payload))) → (o : OuterState) (from : ℕ) (payload : List ℕ) → Goes o (to_chip o from payload)
    payload_goes hears o from payload =
        if_goes (nat_le 1 (length payload) && nat_le (length payload) 46) o (chip_does o (chip_hears from payload)) (silent o) (hears o from payload) (same o)

    module _ (forgotten : (o : OuterState) (a b : ℕ) → Goes o (tells (with_chip o (after o.chip.state (Forgets a b))) (entry.Forget a b ∷ []))) where
      forgets_go : (o : OuterState) (dead : Option (ℕ × ℕ)) → Goes o (forgets o dead)
      forgets_go o None = same o
      forgets_go o (Some hop) =
          if_goes (linked o.chip.state.table hop.0 hop.1) o (tells (with_chip o (after o.chip.state (Forgets hop.0 hop.1))) (entry.Forget hop.0 hop.1 ∷ [])) (silent o)
          (forgotten o hop.0 hop.1) (same o)

      -- a frame of the chip has ended
      pub end_goes : (o : OuterState) (status : ℕ) (dead : Option (ℕ × ℕ)) → Goes o (frame_ends o status dead)
      end_goes o status dead =
          law.both o (forgets o dead) (λ forgot. and_then (no_routes (leading forgot.calls) forgot) (λ later. call_back later (unwrap_or (status_of status) Fail))) (forgets_go o dead)
          (λ forgot. calls_go forgot status)

  module _ (law : Gives Goes) where
    results : (o : OuterState) (event : ChipEvent) → IsResult event → Goes o (chip_does o event)
    results o (Done status) is = law.does o (Done status) tt
    results o (Informed node profile) is = law.does o (Informed node profile) tt
    results o event is = absurd is

    calls : Calls Goes
    calls = record { still = law.still; both = law.both; later = law.later; result = results }

    pub ends_go : (o : OuterState) (status : ℕ) (dead : Option (ℕ × ℕ)) → Goes o (frame_ends o status dead)
    ends_go o status dead = end_goes calls law.forgotten o status dead

    pub gives_go : (o : OuterState) (devices : List State) (due : List Due) (route : Option Route) → Goes o (gives o devices due route)
    gives_go o devices due route = due_goes calls o devices due route

    pub to_chip_goes : (o : OuterState) (from : ℕ) (payload : List ℕ) → Goes o (to_chip o from payload)
    to_chip_goes o from payload = payload_goes calls (λ p node heard. law.does p (chip_hears node heard) tt) o from payload
