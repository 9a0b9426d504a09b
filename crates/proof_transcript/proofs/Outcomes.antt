-- What the chip, the results of its calls and the devices make of the air.
use Rattle.std.proofs.Common.{◌≡◌, ℕ, Bool, true, false, Option, Some, None, List, [], ◌∷◌, refl, sym, subst}
use Rattle.std.specs.List.{flat_map}
use Rattle.std.specs.Option.{option_map}
use Rattle.std.specs.Prelude.{slice_get}
use Rattle.route_table.specs.declared.route.Route.{Route}
use Rattle.zw_words.specs.declared.side.Side.TheVariants.{Chip as by_chip}
use Rattle.zw_text.specs.declared.entry.Entry.{Entry}
use Rattle.zw_text.specs.declared.entry.Entry.TheVariants as entry
use Rattle.zw_text.specs.declared.entry.Refusal.TheVariants.{NoDevice}
use Rattle.serial_pipes.specs.Events.{told}
use Rattle.chip_sim.specs.Events.{ChipEvent, Forgets, after, outs}
use Rattle.chip_sim.specs.declared.out.ChipOut.{ChipOut}
use Rattle.chip_sim.specs.declared.out.ChipOut.TheVariants as chip_out
use Rattle.device_sim.specs.State.{State}
use Rattle.device_sim.specs.Event.{DeviceEvent, device_replies}
use Rattle.air_frames.specs.declared.frame.Heading.TheVariants.{Homeward}
use Rattle.proof_air.specs.mesh_sim.Air.{AirState, departing, is_joined}
use Rattle.proof_air.specs.mesh_sim.Routes.{backwards}
use Rattle.proof_air.specs.mesh_sim.Steps.{sent_event, answered, answers, answered_if, answers_if}
use Rattle.proof_air.specs.outside_model.declared.waits.Due.{Due}
use Rattle.proof_air.specs.outside_model.State.{OuterState, Outcome, tells, and_then, each, with_chip}
use Rattle.proof_air.specs.outside_model.Chip.{put_out, chip_does}
use Rattle.proof_air.specs.outside_model.Results.{frame_ends, gives}
use Rattle.proof_air.specs.outside_model.Air.{to_chip, sent_entries}
use Rattle.proof_air.specs.outside_model.Devices.{changes_entries, new_changes, sends, acts, acts_at, acts_by_hand}
use Rattle.proof_spoken.proofs.Results.{Gives, IsSameChip, ends_go, gives_go, to_chip_goes}
use Rattle.proof_transcript.proofs.Plain.{Plains, told_plain, changes_plain}
use Rattle.proof_transcript.proofs.KeptOverLists.{Keeps, Airs, Goes, IsSameTime, same_then, keeps_none, keeps_both, keeps_plain}

module _ (Asks : List Entry → Entry → Type 0) (Knows : List Entry → AirState → Type 0) (airs : Airs Asks Knows) where
  -- ---- one thing after another

  pub goes_still : (o p : OuterState) (told : List Entry) → Plains told → p.air ≡ o.air → IsSameTime o p → Goes Asks Knows o (record { outer = p; entries = told })
  goes_still o p told plain air time = record {
    keeps = subst (λ (a : AirState). Keeps Asks Knows o.air told a) (sym air) (keeps_plain Asks Knows airs o.air told plain);
    time = time;
  }

  pub then_goes : (o : OuterState) (first : Outcome) (next : OuterState → Outcome) → Goes Asks Knows o first → ((p : OuterState) → Goes Asks Knows p (next p)) → Goes Asks Knows o (and_then first next)
  then_goes o first next one later = record {
    keeps = keeps_both Asks Knows o.air first.outer.air (next first.outer).outer.air first.entries (next first.outer).entries one.keeps (later first.outer).keeps;
    time = same_then o first.outer (next first.outer).outer one.time (later first.outer).time;
  }

  pub each_goes : {X : Type 0} (step : OuterState → X → Outcome) → ((o : OuterState) (x : X) → Goes Asks Knows o (step o x)) → (o : OuterState) (xs : List X) → Goes Asks Knows o (each step o xs)
  each_goes step goes o [] = record { keeps = keeps_none Asks Knows o.air; time = record { in_tick = refl; stamped = refl } }
  each_goes step goes o (x ∷ xs) = then_goes o (step o x) (λ later. each step later xs) (goes o x) (λ later. each_goes step goes later xs)

  -- ---- the chip

  put_goes : (o : OuterState) (out : ChipOut) → Goes Asks Knows o (put_out o out)
  put_goes o (chip_out.Write unit) = record { keeps = keeps_plain Asks Knows airs o.air (told by_chip o.to_host unit) (told_plain by_chip o.to_host unit); time = record { in_tick = refl; stamped = refl } }
  put_goes o (chip_out.OnAir to route payload) = record { keeps = airs.out o.air to route payload; time = record { in_tick = refl; stamped = refl } }
  put_goes o chip_out.NoRoute = record { keeps = keeps_none Asks Knows o.air; time = record { in_tick = refl; stamped = refl } }
  put_goes o (chip_out.AskInfo node) = record { keeps = keeps_none Asks Knows o.air; time = record { in_tick = refl; stamped = refl } }
  put_goes o chip_out.Full = record { keeps = keeps_plain Asks Knows airs o.air (entry.ChipFull ∷ []) (tt, tt); time = record { in_tick = refl; stamped = refl } }

  pub does_goes : (o : OuterState) (event : ChipEvent) → Goes Asks Knows o (chip_does o event)
  unfolding chip_does
  does_goes o event =
      let goes : Goes Asks Knows (with_chip o (after o.chip.state event)) (each put_out (with_chip o (after o.chip.state event)) (outs o.chip.state event)) =
      each_goes put_out put_goes (with_chip o (after o.chip.state event)) (outs o.chip.state event) in
      record { keeps = goes.keeps; time = record { in_tick = goes.time.in_tick; stamped = goes.time.stamped } }

  -- ---- results

  -- something else changes first
  after_still : (o p : OuterState) (x : Outcome) → IsSameChip o p → Goes Asks Knows p x → Goes Asks Knows o x
  after_still o p x is goes = record {
    keeps = subst (λ (a : AirState). Keeps Asks Knows a x.entries x.outer.air) is.air goes.keeps;
    time = same_then o p x.outer (record { in_tick = is.in_tick; stamped = is.stamped }) goes.time;
  }

  results : Gives (Goes Asks Knows)
  results = record {
    still = λ o p is. goes_still o p [] tt is.air (record { in_tick = is.in_tick; stamped = is.stamped });
    both = then_goes;
    later = after_still;
    does = λ o event given. does_goes o event;
    forgotten = λ o a b. goes_still o (with_chip o (after o.chip.state (Forgets a b))) (entry.Forget a b ∷ []) (tt, tt) refl (record { in_tick = refl; stamped = refl });
  }

  pub ends_goes : (o : OuterState) (status : ℕ) (dead : Option (ℕ × ℕ)) → Goes Asks Knows o (frame_ends o status dead)
  ends_goes = ends_go (Goes Asks Knows) results

  pub gives_goes : (o : OuterState) (devices : List State) (due : List Due) (route : Option Route) → Goes Asks Knows o (gives o devices due route)
  gives_goes = gives_go (Goes Asks Knows) results

  pub hears_goes : (o : OuterState) (from : ℕ) (payload : List ℕ) → Goes Asks Knows o (to_chip o from payload)
  hears_goes = to_chip_goes (Goes Asks Knows) results

  -- ---- devices

  answers_keep : (air : AirState) (node : ℕ) (way : Option Route) (replies : List (List ℕ)) → Keeps Asks Knows air (flat_map sent_entries (answers air node way replies)) (answered air node way replies)
  answers_keep air node way [] = keeps_none Asks Knows air
  answers_keep air node way (reply ∷ replies) =
      let next : AirState = departing air node Homeward way reply in
      keeps_both Asks Knows air next (answered next node way replies) (sent_entries (sent_event air node way reply)) (flat_map sent_entries (answers next node way replies))
      (airs.home air node way reply) (answers_keep next node way replies)

  answers_if_keep : (joined : Bool) (air : AirState) (node : ℕ) (way : Option Route) (replies : List (List ℕ))
      → Keeps Asks Knows air (flat_map sent_entries (answers_if joined air node way replies)) (answered_if joined air node way replies)
  answers_if_keep true air node way replies = answers_keep air node way replies
  answers_if_keep false air node way replies = keeps_none Asks Knows air

  sends_goes : (o : OuterState) (node : ℕ) (route : Option Route) (replies : List (List ℕ)) → Goes Asks Knows o (sends o node route replies)
  sends_goes o node route replies = record { keeps = answers_if_keep (is_joined o.air node) o.air node (option_map backwards route) replies; time = record { in_tick = refl; stamped = refl } }

  acts_goes : (o : OuterState) (device : State) (event : DeviceEvent) (route : Option Route) → Goes Asks Knows o (acts o device event route)
  acts_goes o device event route =
      then_goes o (tells o (changes_entries device.node (new_changes device event))) (λ later. sends later device.node route (device_replies device event))
      (goes_still o o (changes_entries device.node (new_changes device event)) (changes_plain device.node (new_changes device event)) refl (record { in_tick = refl; stamped = refl }))
      (λ later. sends_goes later device.node route (device_replies device event))

  pub at_goes : (o : OuterState) (device : Option State) (event : DeviceEvent) (route : Option Route) → Goes Asks Knows o (acts_at o device event route)
  at_goes o None event route = record { keeps = keeps_none Asks Knows o.air; time = record { in_tick = refl; stamped = refl } }
  at_goes o (Some device) event route = acts_goes o device event route

  pub hand_goes : (o : OuterState) (devices : List State) (place : Option ℕ) (event : DeviceEvent) (route : Option Route) → Goes Asks Knows o (acts_by_hand o devices place event route)
  hand_goes o devices None event route = goes_still o o (entry.Refused NoDevice ∷ []) (tt, tt) refl (record { in_tick = refl; stamped = refl })
  hand_goes o devices (Some place) event route = at_goes o (slice_get devices place) event route
