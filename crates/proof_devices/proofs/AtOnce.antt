-- Before each entry that shows no doing, each device has done all that came to it, and all of that is shown.
use Rattle.std.proofs.Common.{◌≡◌, ◌≢◌, ◌⊎◌, inl, inr, ℕ, zero, suc, ◌==◌, ◌&&◌, not, Bool, true, false, if◌then◌else◌, List, [], ◌∷◌, ◌++◌, refl, sym, ap, subst, ◌∙◌, append-nil, append_assoc}
use Rattle.std.proofs.lemmas.Bool.{eqb-true}
use Rattle.std.specs.Option.{option_map}
use Rattle.std.specs.Prelude.{Option, Some, None, slice_get}
use Rattle.std.specs.List.{AllByRecursion}
use Rattle.device_sim.specs.State.{State}
use Rattle.mesh_sim.specs.Fates.{place_of}
use Rattle.zw_text.specs.declared.entry.Entry.{Entry}
use Rattle.zw_text.specs.declared.entry.Entry.TheVariants as entry
use Rattle.law_transcript.specs.Lists.{EachAfter}
use Rattle.law_transcript.specs.Nodes.{controller, device_of}
use Rattle.law_wire.specs.Asked.{clock_of}
use Rattle.law_wire.specs.Doings.{HasDone}
use Rattle.outside_model.specs.State.{OuterState}
use Rattle.outside_model.specs.Events.{stamp, ticked_entry}
use Rattle.world_model.specs.State.{Machine}
use Rattle.world_model.specs.Events.{Event, entries, May}
use Rattle.proof_host.proofs.Lists.{each-append}
use Rattle.proof_air.specs.proof_walk.Outside.{nothing}
use Rattle.proof_air.specs.proof_device.GoingOn.{GoOn}
use Rattle.proof_air.proofs.DevicePlaces.{go_same}
use Rattle.proof_air.specs.Logs.{Tie as TieAir}
use Rattle.proof_air.proofs.Entering.{AreOwn}
use Rattle.proof_devices.proofs.Quiet.{IsIdle, AreIdle, number_idle}
use Rattle.proof_devices.proofs.Telling.{IsHearing, TellsOf, event_tells}
use Rattle.proof_devices.proofs.Hearing.{ToHome, Enters, EntersDevice}
use Rattle.proof_devices.proofs.Replies.{was_there}
use Rattle.proof_devices.proofs.Had.{Asks, Had, had_back, had_on, did_so, idle_doers, own_doers}
use Rattle.proof_devices.proofs.Clocks.{MayAt, OfAll}

-- in the ticks that have begun, but perhaps the running one
pub record HadBy (clock : ℕ) (past : List Entry) (node : ℕ) (old : State) : Type 0 where
  pub ticks : ℕ
  pub age : (ticks ≡ clock) ⊎ (suc ticks ≡ clock)
  pub had : Had ticks node old past

at_clock : (ticks clock now : ℕ) → now ≡ clock → (ticks ≡ clock) ⊎ (suc ticks ≡ clock) → (ticks ≡ now) ⊎ (suc ticks ≡ now)
at_clock ticks clock now same (inl is) = inl (is ∙ sym same)
at_clock ticks clock now same (inr is) = inr (is ∙ sym same)

module _ (olds : List State) (clock node : ℕ) (old : State) (apart : node ≢ controller) (found : device_of node olds ≡ Some old) where
  back : (past told : List Entry) → AreIdle told → HadBy clock (past ++ told) node old → HadBy clock past node old
  back past told idle by = record { ticks = by.ticks; age = by.age; had = had_back by.ticks node old apart past told idle by.had }

  on : (past told : List Entry) → AreIdle told → HadBy clock past node old → HadBy clock (past ++ told) node old
  on past told idle by = record { ticks = by.ticks; age = by.age; had = had_on by.ticks node old apart past told idle by.had }

  idle_stands : (past : List Entry) (e : Entry) → IsIdle e → MayAt olds clock past e → HadBy clock past node old → HasDone node old past e []
  idle_stands past (entry.Said words) idle may by = absurd idle
  idle_stands past (entry.Heard frame) idle may by = absurd idle
  idle_stands past (entry.Time tick) idle may by = may node old apart found
  idle_stands past e idle may by = did_so by.ticks node old past e (at_clock by.ticks clock (clock_of past) may by.age) by.had

  -- no device did anything
  all_idle : (past told : List Entry) → AreIdle told → EachAfter (MayAt olds clock) past told → HadBy clock (past ++ told) node old → EachAfter (Asks node old) past told
  all_idle past [] idle may after = tt
  all_idle past (e ∷ told) idle may after = (
    subst (HasDone node old past e) (sym (idle_doers e idle.0)) (idle_stands past e idle.0 may.0 (back past (e ∷ told) idle after)),
    all_idle (past ++ e ∷ []) told idle.1 may.1 (subst (λ (l : List Entry). HadBy clock l node old) (sym (append_assoc past (e ∷ []) told)) after),
  )

  -- nothing is asked of what one did
  all_own : (doer : ℕ) → doer ≢ controller → (past told : List Entry) → AreOwn doer told → EachAfter (Asks node old) past told
  all_own doer other past [] own = tt
  all_own doer other past (e ∷ told) own = (subst (HasDone node old past e) (sym (own_doers doer other e own.0)) tt, all_own doer other (past ++ e ∷ []) told own.1)

  -- the number of the tick
  ticked_stands : (past : List Entry) (o : OuterState) (told : List Entry) → EachAfter (MayAt olds clock) past (ticked_entry o ++ told) → EachAfter (Asks node old) past (ticked_entry o)
  ticked_stands past o told may = by (o.in_tick && not o.stamped) may
    where
      by : (b : Bool) → EachAfter (MayAt olds clock) past ((if b then entry.Time o.clock ∷ [] else []) ++ told) → EachAfter (Asks node old) past (if b then entry.Time o.clock ∷ [] else [])
      by true may = (may.0 node old apart found, tt)
      by false may = tt

  acts_stand : (past : List Entry) (o : OuterState) (doer : ℕ) → doer ≢ controller → (told : List Entry) → AreOwn doer told → EachAfter (MayAt olds clock) past (stamp o told)
      → EachAfter (Asks node old) past (stamp o told)
  acts_stand past o doer other [] own may = tt
  acts_stand past o doer other (e ∷ told) own may =
      each-append (Asks node old) past (ticked_entry o) (e ∷ told) (ticked_stands past o (e ∷ told) may) (all_own doer other (past ++ ticked_entry o) (e ∷ told) own)

  -- what stands later may stand
  may_later : (past xs ys : List Entry) → EachAfter (MayAt olds clock) past (xs ++ ys) → EachAfter (MayAt olds clock) (past ++ xs) ys
  may_later past [] ys may = subst (λ (l : List Entry). EachAfter (MayAt olds clock) l ys) (sym (append-nil past)) may
  may_later past (x ∷ xs) ys may = subst (λ (l : List Entry). EachAfter (MayAt olds clock) l ys) (append_assoc past (x ∷ []) xs) (may_later (past ++ x ∷ []) xs ys may.1)

  -- a frame is heard
  module _ (past : List Entry) (o : OuterState) (idle : AreIdle (ticked_entry o)) where
    heard_stand : (number : ℕ) (rest : List Entry) → EachAfter (MayAt olds clock) past (ticked_entry o ++ entry.Heard number ∷ rest) → HadBy clock past node old
        → EachAfter (Asks node old) ((past ++ ticked_entry o) ++ entry.Heard number ∷ []) rest → EachAfter (Asks node old) past (ticked_entry o ++ entry.Heard number ∷ rest)
    heard_stand number rest may before more =
        let there = on past (ticked_entry o) idle before in
        let at : clock_of (past ++ ticked_entry o) ≡ clock = (may_later past (ticked_entry o) (entry.Heard number ∷ rest) may).0 in
        each-append (Asks node old) past (ticked_entry o) (entry.Heard number ∷ rest) (ticked_stands past o (entry.Heard number ∷ rest) may)
        (did_so there.ticks node old (past ++ ticked_entry o) (entry.Heard number) (at_clock there.ticks clock (clock_of (past ++ ticked_entry o)) at there.age) there.had, more)

    rest_may : (number : ℕ) (rest : List Entry) → EachAfter (MayAt olds clock) past (ticked_entry o ++ entry.Heard number ∷ rest)
        → EachAfter (MayAt olds clock) ((past ++ ticked_entry o) ++ entry.Heard number ∷ []) rest
    rest_may number rest may = (may_later past (ticked_entry o) (entry.Heard number ∷ rest) may).1

    rest_after : (number : ℕ) (rest : List Entry) → HadBy clock (past ++ (ticked_entry o ++ entry.Heard number ∷ rest)) node old
        → HadBy clock (((past ++ ticked_entry o) ++ entry.Heard number ∷ []) ++ rest) node old
    rest_after number rest after =
        subst (λ (l : List Entry). HadBy clock l node old) (sym (append_assoc past (ticked_entry o) (entry.Heard number ∷ rest)) ∙ sym (append_assoc (past ++ ticked_entry o) (entry.Heard number ∷ []) rest)) after

    enters_stand : (joined : List Bool) (told : List Entry) (devices later : List State) → ((to : ℕ) (place : ℕ) → place_of to devices ≡ Some place → to ≢ controller)
        → Enters past joined (ticked_entry o) told devices later → EachAfter (MayAt olds clock) past told → HadBy clock past node old → HadBy clock (past ++ told) node old
        → EachAfter (Asks node old) past told
    enters_stand joined told devices later others (inl (told_idle, same)) may before after = all_idle past told told_idle may after
    enters_stand joined told devices later others (inr enters) may before after =
        subst (EachAfter (Asks node old) past) (sym enters.are)
        (by enters.hears (subst (EachAfter (MayAt olds clock) past) enters.are may) (subst (λ (l : List Entry). HadBy clock (past ++ l) node old) enters.are after))
      where
        by : (ToHome past enters.number devices later × AreIdle enters.rest) ⊎ EntersDevice past joined enters.number enters.rest devices later
            → EachAfter (MayAt olds clock) past (ticked_entry o ++ entry.Heard enters.number ∷ enters.rest) → HadBy clock (past ++ (ticked_entry o ++ entry.Heard enters.number ∷ enters.rest)) node old
            → EachAfter (Asks node old) past (ticked_entry o ++ entry.Heard enters.number ∷ enters.rest)
        by (inl (home, rest_idle)) may after =
            heard_stand enters.number enters.rest may before
            (all_idle ((past ++ ticked_entry o) ++ entry.Heard enters.number ∷ []) enters.rest rest_idle (rest_may enters.number enters.rest may) (rest_after enters.number enters.rest after))
        by (inr device) may after =
            let to = device.to in
            let at : List Entry = (past ++ ticked_entry o) ++ entry.Heard enters.number ∷ [] in
            let rest_so : EachAfter (MayAt olds clock) at (device.mine ++ device.end) = subst (EachAfter (MayAt olds clock) at) device.are (rest_may enters.number enters.rest may) in
            let after_so : HadBy clock (at ++ (device.mine ++ device.end)) node old
            = subst (λ (l : List Entry). HadBy clock (at ++ l) node old) device.are (rest_after enters.number enters.rest after) in
            heard_stand enters.number enters.rest may before
            (subst (EachAfter (Asks node old) at) (sym device.are)
            (each-append (Asks node old) at device.mine device.end (all_own to.node (others to.node to.place to.first) at device.mine device.own)
            (all_idle (at ++ device.mine) device.end device.idle (may_later at device.mine device.end rest_so)
            (subst (λ (l : List Entry). HadBy clock l node old) (sym (append_assoc at device.mine device.end)) after_so))))

-- ---- events

-- no device is of the controller
abbrev pub AreOfNodes : List State → Type 0
AreOfNodes olds = AllByRecursion (λ (device : State). device.node ≢ controller) olds

pub of_node : (olds : List State) (place : ℕ) (device : State) → AreOfNodes olds → slice_get olds place ≡ Some device → device.node ≢ controller
of_node [] place device others stood = absurd cc
of_node (first ∷ olds) zero device others stood = let is : first ≡ device = cc in λ at. others.0 (ap (λ (s : State). s.node) is ∙ at)
of_node (first ∷ olds) (suc place) device others stood = of_node olds place device others.1 stood

placed : (node : ℕ) (devices : List State) (place : ℕ) → place_of node devices ≡ Some place → (device : State) × (slice_get devices place ≡ Some device) × (device.node ≡ node)
placed node [] place first = absurd cc
placed node (one ∷ devices) place first = by (one.node == node) refl (λ k is. placed node devices k is) (place_of node devices) refl first
  where
    by : (b : Bool) → (one.node == node) ≡ b → ((k : ℕ) → place_of node devices ≡ Some k → (device : State) × (slice_get devices k ≡ Some device) × (device.node ≡ node))
        → (found : Option ℕ) → place_of node devices ≡ found → (if b then Some 0 else option_map suc found) ≡ Some place
        → (device : State) × (slice_get (one ∷ devices) place ≡ Some device) × (device.node ≡ node)
    by true is later found at first = let zero_is : zero ≡ place = cc in (one, ap (slice_get (one ∷ devices)) (sym zero_is), eqb-true one.node node is)
    by false is later None at first = absurd cc
    by false is later (Some k) at first =
        let next : suc k ≡ place = cc in
        let there = later k at in
        (there.0, ap (slice_get (one ∷ devices)) (sym next) ∙ there.1, there.2)

module _ (olds : List State) (others : AreOfNodes olds) (clock : ℕ) where
  abbrev pub Stand : List Entry → List Entry → Type 0
  Stand past told = OfAll olds (λ node old. EachAfter (Asks node old) past told)

  module _ (devices : List State) (go : GoOn olds devices) where
    device_of_node : (place : ℕ) (device : State) → slice_get devices place ≡ Some device → device.node ≢ controller
    device_of_node place device stood =
        let was = was_there olds devices place device (go_same olds devices go) stood in
        λ is. of_node olds place was.old others was.stood (sym was.node ∙ is)

    of_place : (to place : ℕ) → place_of to devices ≡ Some place → to ≢ controller
    of_place to place first = let there = placed to devices place first in λ is. device_of_node place there.0 there.1 (there.2 ∙ is)

  pub event_stands : (past : List Entry) (m : Machine) (event : Event) → TieAir nothing past m.outside → May m event → GoOn olds m.outside.devices
      → EachAfter (MayAt olds clock) past (entries m event) → (IsHearing event → OfAll olds (HadBy clock past)) → OfAll olds (HadBy clock (past ++ entries m event)) → Stand past (entries m event)
  event_stands past m event air may go at before after = λ node old apart has. by (event_tells past m event air may) node old apart has
    where
      by : TellsOf past m event (entries m event) → Stand past (entries m event)
      by (inl idle) = λ node old apart has. all_idle olds clock node old apart has past (entries m event) idle at (after node old apart has)
      by (inr (inl one)) = λ node old apart has.
          subst (EachAfter (Asks node old) past) (sym one.are)
          (acts_stand olds clock node old apart has past one.outer one.device.node (device_of_node m.outside.devices go one.place one.device one.stood) one.did one.own
          (subst (EachAfter (MayAt olds clock) past) one.are at))
      by (inr (inr (hears, frame))) = λ node old apart has.
          enters_stand olds clock node old apart has past frame.outer (number_idle frame.outer) m.outside.outer.air.joined (entries m event) m.outside.devices frame.later
          (of_place m.outside.devices go) frame.enters at (before hears node old apart has) (after node old apart has)
