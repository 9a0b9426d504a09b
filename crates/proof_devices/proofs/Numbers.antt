-- In a tick the number that was entered last is its own, and nothing answers a `repeat`.
use Rattle.std.proofs.Common.{◌≡◌, ℕ, ◌&&◌, not, Bool, true, false, if◌then◌else◌, List, [], ◌∷◌, ◌++◌, refl, sym, ap, ◌∙◌, append-nil, nat_lt, ◌-◌}
use Rattle.std.specs.Prelude.{None, slice_get}
use Rattle.zw_text.specs.declared.entry.Entry.{Entry}
use Rattle.zw_text.specs.declared.entry.Entry.TheVariants as entry
use Rattle.zw_text.specs.Transcript.{AirFrame, frames, frame_at, lines_run, tick_at, ticks, last_number, time_of}
use Rattle.zw_text.proofs.Views.{shown-append}
use Rattle.law_transcript.specs.Lists.{EachAfter}
use Rattle.law_transcript.specs.Repeats.{frame_of}
use Rattle.law_transcript.specs.Restarts.{repeats, ticks_asked}
use Rattle.law_transcript.specs.Devices.{lived_by}
use Rattle.outside_model.specs.State.{OuterState, Outside}
use Rattle.outside_model.specs.Events.{OuterEvent, Begins_line, Begins_tick, ticked_entry, is_own}
use Rattle.world_model.specs.State.{Machine}
use Rattle.world_model.specs.Events.{Event, happens, entries, May}
use Rattle.proof_air.specs.proof_walk.Outside.{Moves, Link, CoversOuter, awaits_number}
use Rattle.proof_air.proofs.Linking.{of_link}
use Rattle.proof_air.proofs.Machines.{machine_keeps}
use Rattle.proof_air.proofs.Untimed.{AreUntimed, same_time, untimed_law}
use Rattle.proof_air.proofs.Clock.{last_of_more}
use Rattle.proof_devices.specs.Living.{MayAny, Numbered, KnownNumber, GoesWithin}
use Rattle.proof_air.proofs.LandingWalk.{still_apart, number_apart}

pub each_any : (past told : List Entry) → EachAfter MayAny past told
each_any past [] = tt
each_any past (e ∷ told) = (tt, each_any (past ++ e ∷ []) told)

-- ---- the last entry

pub number_is : (past : List Entry) (n : ℕ) → time_of (past ++ entry.Time n ∷ []) ≡ n
number_is past n = ap (last_number 0) (shown-append tick_at past (entry.Time n ∷ [])) ∙ last_of_more 0 (ticks past) n

-- ---- outside the host

untimed : (w later : Outside) (told : List Entry) → AreUntimed told → later.outer.clock ≡ w.outer.clock → Moves MayAny Numbered w told Numbered later
untimed w later told none same awaits past silent known = (
  each_any past told,
  record {
    number = λ is. same_time past told none ∙ (known.number is ∙ sym same);
    apart = λ is. still_apart past told none (known.apart is);
  },
)

numbered : Link MayAny Numbered GoesWithin
numbered =
    untimed_law MayAny Numbered GoesWithin untimed (λ covers. covers) (λ covers. absurd covers)
    (λ past w known. record { number = λ is. number_is past w.outer.clock; apart = λ is. number_apart past w.outer.clock })

-- ---- an event of the machine

pub hosts : (event : OuterEvent) → is_own event ≡ false → GoesWithin event
hosts Begins_line own = absurd (let none : true ≡ false = own in cc)
hosts Begins_tick own = absurd (let none : true ≡ false = own in cc)
hosts event own = tt

pub number_kept : (past : List Entry) (m : Machine) (event : Event) → CoversOuter GoesWithin event → May m event → KnownNumber past m → KnownNumber (past ++ entries m event) (happens m event)
number_kept past m event within may known =
    (machine_keeps MayAny (λ pending. Numbered) GoesWithin (of_link MayAny Numbered GoesWithin numbered) hosts m event within may past known).1

-- as a tick begins
pub number_waits : (past : List Entry) (w : Outside) → Numbered true past w
number_waits past w = record { number = λ is. absurd (let none : true ≡ false = is in cc); apart = λ is. absurd (let none : true ≡ false = is in cc) }

-- ---- with the number before what is heard

-- in a tick
lived_so : (past : List Entry) (clock : ℕ) → time_of past ≡ clock → repeats past ≡ false → lived_by past ≡ clock - 1
lived_so past clock time apart = ap (λ (b : Bool). if b then ticks_asked (lines_run past) else time_of past - 1) apart ∙ ap (λ (n : ℕ). n - 1) time

pub lived_ticking : (past : List Entry) (w : Outside) → Numbered (awaits_number w.outer) past w → lived_by (past ++ ticked_entry w.outer) ≡ w.outer.clock - 1
lived_ticking past w known = by (w.outer.in_tick && not w.outer.stamped) known
  where
    by : (b : Bool) → Numbered b past w → lived_by (past ++ (if b then entry.Time w.outer.clock ∷ [] else [])) ≡ w.outer.clock - 1
    by true known = lived_so (past ++ entry.Time w.outer.clock ∷ []) w.outer.clock (number_is past w.outer.clock) (number_apart past w.outer.clock)
    by false known = lived_so (past ++ []) w.outer.clock (ap time_of (append-nil past) ∙ known.number refl) (ap repeats (append-nil past) ∙ known.apart refl)

pub same_frame : (past : List Entry) (o : OuterState) (number : ℕ) → frame_of (past ++ ticked_entry o) number ≡ frame_of past number
same_frame past o number = by (o.in_tick && not o.stamped)
  where
    frames_as : (l : List AirFrame) → l ≡ frames past → (if nat_lt 0 number then slice_get l (number - 1) else None) ≡ frame_of past number
    frames_as l is = ap (λ (f : List AirFrame). if nat_lt 0 number then slice_get f (number - 1) else None) is

    by : (b : Bool) → frame_of (past ++ (if b then entry.Time o.clock ∷ [] else [])) number ≡ frame_of past number
    by true = frames_as (frames (past ++ entry.Time o.clock ∷ [])) (shown-append frame_at past (entry.Time o.clock ∷ []) ∙ append-nil (frames past))
    by false = ap (λ (l : List Entry). frame_of l number) (append-nil past)
