-- Paths one after another, a path that was cut short, and what a walk makes of a path.
use Rattle.std.proofs.Common.{◌≡◌, List, [], ◌∷◌, ◌++◌, inl, inr, refl, sym, subst, append-nil, append_assoc}
use Rattle.zw_text.specs.declared.entry.Entry.{Entry}
use Rattle.proof_host.specs.law_transcript.Lists.{EachAfter}
use Rattle.proof_host.proofs.Lists.{each-append}
use Rattle.proof_device.specs.world_model.State.{Machine}
use Rattle.proof_device.specs.world_model.Events.{Event, happens, entries}
use Rattle.proof_device.specs.world_model.Did.{happens_all, entries_all, MayAll, Then, Nothing, PrefixOf, ThenPrefix}
use Rattle.proof_walk.specs.Phases.{Phase, Turns}
use Rattle.proof_walk.specs.Paths.{Path, Leads, GoesOn, Begins}
use Rattle.proof_walk.specs.Paths.Path.{Ends, Turned, Stepped}
use Rattle.proof_walk.specs.Walk.{OwesEvents, OwesTurns}

-- ---- paths

pub join : {middle last here : Phase} {m : Machine} {a : List Event} {b : List Event} → Path middle here m a → Path last middle (happens_all m a) b → Path last here m (a ++ b)
join Ends later = later
join (Turned turns path) later = Turned turns (join path later)
join (Stepped goes path) later = Stepped goes (join path later)

-- the same events under another name
pub same : {last here : Phase} {m : Machine} {events : List Event} (these : List Event) → events ≡ these → Path last here m these → Path last here m events
same {last} {here} {m} these are path = subst (λ (l : List Event). Path last here m l) (sym are) path

-- the first events of a path go on to some phase
pub cut : {last here : Phase} {m : Machine} {events : List Event} → Path last here m events → (a b : List Event) → events ≡ a ++ b → GoesOn here m a
cut {last} Ends [] b are = (last, Ends)
cut Ends (event ∷ a) b are = absurd cc
cut (Turned turns path) a b are = let part = cut path a b are in (part.0, Turned turns part.1)
cut {here = here} (Stepped goes path) [] b are = (here, Ends)
cut {here = here} {m = m} (Stepped {event = first} {events = events} goes path) (event ∷ a) b are =
    let head : first ≡ event = cc in
    let tail : events ≡ a ++ b = cc in
    let part = cut path a b tail in
    (part.0, subst (λ (e : Event). Path part.0 here m (e ∷ a)) head (Stepped goes part.1))

-- ---- schedules

pub then : (here middle last : Phase) (First Second : Machine → List Event → Type 0) → Leads here First middle → Leads middle Second last → Leads here (Then First Second) last
then here middle last First Second one two m events (first, rest, are, is_first, is_rest) =
    same (first ++ rest) are (join (one m first is_first) (two (happens_all m first) rest is_rest))

-- another part begins after these
pub then_turn : (here middle last : Phase) (Kind : Machine → List Event → Type 0) → Leads here Kind middle → ((m : Machine) → Turns middle m last) → Leads here Kind last
then_turn here middle last Kind one turns m events is = same (events ++ []) (sym (append-nil events)) (join (one m events is) (Turned (turns (happens_all m events)) Ends))

-- ---- where an allocation failure cut them short

pub nothing : (here : Phase) → Begins here Nothing
nothing here m events none = (here, same [] none Ends)

pub some : (here last : Phase) (Kind : Machine → List Event → Type 0) → Leads here Kind last → Begins here (PrefixOf Kind)
some here last Kind leads m events (inl none) = nothing here m events none
some here last Kind leads m events (inr (rest, is)) = cut (leads m (events ++ rest) is) events rest refl

pub then_some : (here middle : Phase) (FirstPrefix First SecondPrefix : Machine → List Event → Type 0) → Begins here FirstPrefix → Leads here First middle → Begins middle SecondPrefix
    → Begins here (ThenPrefix FirstPrefix First SecondPrefix)
then_some here middle FirstPrefix First SecondPrefix begun one two m events (inl is) = begun m events is
then_some here middle FirstPrefix First SecondPrefix begun one two m events (inr (first, rest, are, is_first, is_rest)) =
    let more = two (happens_all m first) rest is_rest in (more.0, same (first ++ rest) are (join (one m first is_first) more.1))

-- ---- a walk along a path

module _ (Asks : List Entry → Entry → Type 0) (Know : Phase → List Entry → Machine → Type 0) (event_goes : OwesEvents Asks Know) (turn_goes : OwesTurns Know) where
  pub along : {last here : Phase} {m : Machine} {events : List Event} → Path last here m events → MayAll m events → (past : List Entry) → Know here past m
      → EachAfter Asks past (entries_all m events) × Know last (past ++ entries_all m events) (happens_all m events)
  along {last} {m = m} Ends may past knows = (tt, subst (λ (l : List Entry). Know last l m) (sym (append-nil past)) knows)
  along {here = here} {m = m} (Turned {next = next} turns path) may past knows = along path may past (turn_goes here next past m turns knows)
  along {last} {here} {m = m} (Stepped {next = next} {event = event} {events = events} goes path) may past knows =
      let got = event_goes here next past m event goes may.0 knows in
      let more = along path may.1 (past ++ entries m event) got.1 in (
        each-append Asks past (entries m event) (entries_all (happens m event) events) got.0 more.0,
        subst (λ (l : List Entry). Know last l (happens_all (happens m event) events)) (append_assoc past (entries m event) (entries_all (happens m event) events)) more.1,
      )
