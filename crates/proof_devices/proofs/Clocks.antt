-- In a tick whose number is not entered yet, what all devices had done when it began is known by the transcript; and at all other times so many ticks have begun as that shows.
use Rattle.std.proofs.Common.{◌≡◌, ◌≢◌, ◌≤◌, ℕ, suc, ◌-◌, Bool, true, false, List, [], ◌∷◌, ◌++◌, length, take, refl, sym, ap, subst, ◌∙◌, append-nil, arith}
use Rattle.std.specs.Prelude.{Some}
use Rattle.device_sim.specs.State.{State}
use Rattle.zw_text.specs.declared.line.Line.{Line}
use Rattle.zw_text.specs.declared.entry.Entry.{Entry}
use Rattle.zw_text.specs.declared.entry.Entry.TheVariants as entry
use Rattle.zw_text.specs.Transcript.{line_of, lines_run}
use Rattle.zw_text.proofs.Views.{shown-append}
use Rattle.law_transcript.specs.Lists.{EachAfter}
use Rattle.law_transcript.specs.Nodes.{controller, device_of}
use Rattle.law_transcript.specs.Restarts.{ticks_asked}
use Rattle.law_wire.specs.Asked.{clock_of, lines_before}
use Rattle.outside_model.specs.State.{Outside}
use Rattle.world_model.specs.State.{Machine}
use Rattle.world_model.specs.Events.{Event, happens, entries, May}
use Rattle.proof_air.specs.proof_walk.Outside.{Moves, Link, CoversOuter, Known}
use Rattle.proof_air.proofs.Linking.{of_link}
use Rattle.proof_air.proofs.Machines.{machine_keeps}
use Rattle.proof_air.proofs.Untimed.{IsUntimed, AreUntimed, same_lines, untimed_law}
use Rattle.proof_air.proofs.SentBefore.{same_clock}
use Rattle.proof_devices.specs.Living.{GoesWithin}
use Rattle.proof_devices.proofs.Numbers.{hosts, number_is}
use Rattle.proof_devices.proofs.Had.{Asks, Had}

-- of the first device of each node but the controller's
abbrev pub OfAll : List State → (ℕ → State → Type 0) → Type 0
OfAll olds Is = (node : ℕ) (old : State) → node ≢ controller → device_of node olds ≡ Some old → Is node old

-- it has lived all ticks but the running one
abbrev pub HadLast : ℕ → List Entry → ℕ → State → Type 0
HadLast clock past node old = (ticks : ℕ) × (suc ticks ≡ clock) × Had ticks node old past

-- the number of a tick may stand, or so many ticks have begun as is shown
abbrev pub MayAt : List State → ℕ → List Entry → Entry → Type 0
MayAt olds clock past (entry.Time tick) = OfAll olds (λ node old. Asks node old past (entry.Time tick))
MayAt olds clock past e = clock_of past ≡ clock

pub record Waits (olds : List State) (clock : ℕ) (awaits : Bool) (past : List Entry) (w : Outside) : Type 0 where
  pub is : w.outer.clock ≡ clock
  pub had : awaits ≡ true → OfAll olds (HadLast clock past)
  pub at : awaits ≡ false → clock_of past ≡ clock
  pub before : ticks_asked (lines_before past) ≤ clock

abbrev pub KnownClock : List State → ℕ → List Entry → Machine → Type 0
KnownClock olds clock past m = Known (MayAt olds clock) (λ pending. Waits olds clock) past m.outside

module _ (olds : List State) (clock : ℕ) where
  untimed_may : (past : List Entry) (e : Entry) → IsUntimed e → clock_of past ≡ clock → MayAt olds clock past e
  untimed_may past (entry.Time tick) untimed at = absurd untimed
  untimed_may past e untimed at = at

  all_may : (past told : List Entry) → AreUntimed told → clock_of past ≡ clock → EachAfter (MayAt olds clock) past told
  all_may past [] untimed at = tt
  all_may past (e ∷ told) untimed at = (untimed_may past e untimed.0 at, all_may (past ++ e ∷ []) told untimed.1 (same_clock past (e ∷ []) (untimed.0, tt) ∙ at))

  goes : (w later : Outside) (told : List Entry) → AreUntimed told → later.outer.clock ≡ w.outer.clock → Moves (MayAt olds clock) (Waits olds clock) w told (Waits olds clock) later
  goes w later told untimed same awaits past silent known = (
    by awaits silent known,
    record {
      is = same ∙ known.is;
      had = λ is node old apart found.
          let had = known.had is node old apart found in
          (had.0, had.1, subst (Had had.0 node old) (sym (ap (λ (l : List Entry). past ++ l) (silent is) ∙ append-nil past)) had.2);
      at = λ is. same_clock past told untimed ∙ known.at is;
      before = subst (λ (l : List Line). ticks_asked (take (length l - 1) l) ≤ clock) (sym (same_lines past told untimed)) known.before;
    },
  )
    where
      by : (b : Bool) → (b ≡ true → told ≡ []) → Waits olds clock b past w → EachAfter (MayAt olds clock) past told
      by true silent known = subst (λ (l : List Entry). EachAfter (MayAt olds clock) past l) (sym (silent refl)) tt
      by false silent known = all_may past told untimed (known.at refl)

  numbered : (past : List Entry) (w : Outside) → Waits olds clock true past w → Waits olds clock false (past ++ entry.Time w.outer.clock ∷ []) w
  numbered past w known =
      let number : ℕ = w.outer.clock in
      let time = number_is past number in
      let same : lines_run (past ++ entry.Time number ∷ []) ≡ lines_run past = shown-append line_of past (entry.Time number ∷ []) ∙ append-nil (lines_run past) in
      let asked = ap (λ (l : List Line). ticks_asked (take (length l - 1) l)) same in
      let before = known.before in
      let is = known.is in
      record {
        is = known.is;
        had = λ waits. absurd (let none : false ≡ true = waits in cc);
        at = λ none. omega (arith, time, asked, before, is);
        before = omega (arith, asked, before);
      }

  waits_link : Link (MayAt olds clock) (Waits olds clock) GoesWithin
  waits_link = untimed_law (MayAt olds clock) (Waits olds clock) GoesWithin goes (λ covers. covers) (λ covers. absurd covers) numbered

  -- an event of the machine
  pub clock_kept : (past : List Entry) (m : Machine) (event : Event) → CoversOuter GoesWithin event → May m event → KnownClock olds clock past m
      → EachAfter (MayAt olds clock) past (entries m event) × KnownClock olds clock (past ++ entries m event) (happens m event)
  clock_kept past m event within may known =
      machine_keeps (MayAt olds clock) (λ pending. Waits olds clock) GoesWithin (of_link (MayAt olds clock) (Waits olds clock) GoesWithin waits_link) hosts m event within may past known
