-- The tie goes on: with what shows nothing of networks, from a transcript to another that shows the same, and to a machine that has the same networks.
use Rattle.std.proofs.Common.{◌≡◌, ℕ, ◌==◌, ◌&&◌, ◌||◌, Bool, List, [], ◌∷◌, ◌++◌, length, refl, sym, ap, subst, ◌∙◌, inr, append_assoc, append-nil}
use Rattle.std.specs.List.{AllByRecursion}
use Rattle.route_table.specs.Network.{Network, Link, linked}
use Rattle.chip_sim.specs.Nodes.{is_marked}
use Rattle.device_sim.specs.State.{State}
use Rattle.zw_text.specs.declared.entry.Entry.{Entry}
use Rattle.zw_text.specs.declared.entry.Entry.TheVariants as entry
use Rattle.law_wire.specs.law_transcript.Lists.{EachAfter}
use Rattle.law_wire.specs.law_transcript.Nodes.{controller}
use Rattle.law_wire.specs.Networks.{are_linked, air_links, chip_links, listens_at}
use Rattle.law_wire.specs.Routes.{MayGo}
use Rattle.proof_walk.proofs.Lists.{each-append}
use Rattle.outside_model.specs.State.{OuterState, Outside}
use Rattle.outside_model.specs.Events.{OuterEvent, outcome}
use Rattle.proof_walk.specs.Outside.{HasNoWords, Pending, Judging, Dealing, Moves}
use Rattle.proof_walk.proofs.Entering.{IsOfPipe, IsOfPipes, pipes_enter, told_of_pipe}
use Rattle.zw_base.proofs.Each.{all-weaker}
use Rattle.zw_words.specs.declared.side.Side.{Side}
use Rattle.zw_words.specs.declared.side.Side.TheVariants.{Host as by_host}
use Rattle.serial_pipes.specs.State.{WayState}
use Rattle.serial_pipes.specs.Events.{told}
use Rattle.serial_frame.specs.declared.unit.Unit.{Unit as LineUnit}
use Rattle.proof_routes.specs.Networks.{HasLinks, HasRepeaters, IsApart, is_repeater, Tie}
use Rattle.proof_routes.specs.Knowing.{Asks, NoJoin, ComesHome, AllComeHome, Knows}
use Rattle.proof_routes.proofs.Books.{SameShown, same_back, same_joined, IsStill, still_line, still_shown, still_last}

-- ---- the same transcript, the same networks

module _ (devices : List State) where
  pub tie_shown : (one other : List Entry) (w : Outside) → SameShown one other → Tie devices one w → Tie devices other w
  tie_shown one other w same tie = record {
    air_hears = λ a b. tie.air_hears a b ∙ ap (λ (l : List Link). are_linked l a b) same.air;
    air_repeats = λ node. tie.air_repeats node ∙ repeater node;
    air_apart = tie.air_apart;
    chip_hears = λ a b. tie.chip_hears a b ∙ ap (λ (l : List Link). are_linked l a b) same.chip;
    chip_repeats = λ node. tie.chip_repeats node ∙ repeater node;
    chip_apart = tie.chip_apart;
    known = λ a b hears. sym (ap (λ (j : Bool). (a == controller) || j) (same_joined one other same a)) ∙ tie.known a b hears;
    listening = λ node. tie.listening node ∙ repeater node;
    joined = λ node. tie.joined node ∙ same_joined one other same node;
    within = λ node joined. tie.within node (same_joined one other same node ∙ joined);
    places = tie.places;
    marks = tie.marks;
  }
    where
      repeater : (node : ℕ) → is_repeater devices one node ≡ is_repeater devices other node
      repeater node = ap (λ (j : Bool). listens_at devices node && j) (same_joined one other same node)

-- the networks, the joined nodes and which of them count as listening are the same
pub record IsSameNets (old new : OuterState) : Type 0 where
  pub network : new.air.network ≡ old.air.network
  pub joined : new.air.joined ≡ old.air.joined
  pub table : new.chip.state.table ≡ old.chip.state.table
  pub listening : new.chip.state.listening ≡ old.chip.state.listening

pub same_nets : (o p : OuterState) → p.air.network ≡ o.air.network → p.air.joined ≡ o.air.joined → p.chip.state.table ≡ o.chip.state.table → p.chip.state.listening ≡ o.chip.state.listening → IsSameNets o p
same_nets o p network joined table listening = record { network = network; joined = joined; table = table; listening = listening }

module _ (devices : List State) where
  pub tie_nets : (past : List Entry) (w later : Outside) → IsSameNets w.outer later.outer → Tie devices past w → Tie devices past later
  tie_nets past w later same tie = record {
    air_hears = subst (λ (n : Network). HasLinks n (air_links past)) (sym same.network) tie.air_hears;
    air_repeats = subst (HasRepeaters devices past) (sym same.network) tie.air_repeats;
    air_apart = subst IsApart (sym same.network) tie.air_apart;
    chip_hears = subst (λ (n : Network). HasLinks n (chip_links past)) (sym same.table) tie.chip_hears;
    chip_repeats = subst (HasRepeaters devices past) (sym same.table) tie.chip_repeats;
    chip_apart = subst IsApart (sym same.table) tie.chip_apart;
    known = λ a b hears. tie.known a b (ap (λ (n : Network). linked n a b) (sym same.table) ∙ hears);
    listening = λ node. ap (λ (l : List Bool). is_marked l node) same.listening ∙ tie.listening node;
    joined = λ node. ap (λ (l : List Bool). is_marked l node) same.joined ∙ tie.joined node;
    within = tie.within;
    places = ap length same.joined ∙ tie.places;
    marks = ap length same.listening ∙ tie.marks;
  }

  pub home_nets : (pending : Pending) (w later : Outside) → later.outer.air.network ≡ w.outer.air.network → later.outer.air.joined ≡ w.outer.air.joined → AllComeHome pending w → AllComeHome pending later
  home_nets (Judging ways) w later network joined all = tt
  home_nets (Dealing events) w later network joined all =
      subst (λ (n : Network). AllByRecursion (ComesHome n later.outer.air.joined) events) (sym network)
      (subst (λ (l : List Bool). AllByRecursion (ComesHome w.outer.air.network l) events) (sym joined) all)

  -- ---- what goes on

  abbrev pub Known_of : Pending → List Entry → Outside → Type 0
  Known_of pending past w = Tie devices past w × NoJoin past × AllComeHome pending w

  -- Where the first is known, these may be entered next, and then the second is known.
  abbrev pub Goes_on : Pending → Outside → List Entry → Pending → Outside → Type 0
  Goes_on before w told after later = (past : List Entry) → Known_of before past w → EachAfter (Asks devices) past told × Known_of after (past ++ told) later

  pub known : (before after : Pending) (w later : Outside) (told : List Entry) → Goes_on before w told after later → Moves (Asks devices) (Knows devices before) w told (Knows devices after) later
  known before after w later told goes awaits past none knows = goes past knows

  pub both : (p q r : Pending) (w u v : Outside) (xs ys : List Entry) → Goes_on p w xs q u → Goes_on q u ys r v → Goes_on p w (xs ++ ys) r v
  both p q r w u v xs ys first later past knows =
      let one = first past knows in
      let two = later (past ++ xs) one.1 in
      (each-append (Asks devices) past xs ys one.0 two.0, subst (λ (l : List Entry). Known_of r l v) (append_assoc past xs ys) two.1)

  still_words : (e : Entry) → IsStill e → HasNoWords e
  still_words (entry.Said words) still = absurd still
  still_words e still = tt

  -- an entry that shows nothing of networks, and may stand there
  pub still_one : (pending : Pending) (w : Outside) (e : Entry) → IsStill e → ((past : List Entry) → Known_of pending past w → MayGo devices past e) → Goes_on pending w (e ∷ []) pending w
  still_one pending w e still may past knows = (
    ((may past knows, still_words e still), tt),
    (tie_shown devices past (past ++ e ∷ []) w (same_back (past ++ e ∷ []) past (still_shown past e still (inr knows.1))) knows.0, still_last past e (still_line e still), knows.2),
  )

  -- nothing is entered, and the networks are the same
  pub still_none : (pending : Pending) (w later : Outside) → IsSameNets w.outer later.outer → Goes_on pending w [] pending later
  still_none pending w later same past knows =
      (tt, subst (λ (l : List Entry). Known_of pending l later) (sym (append-nil past)) (tie_nets past w later same knows.0, knows.1, home_nets pending w later same.network same.joined knows.2))

-- ---- entries that are neither lines nor frames, nor show anything of networks

abbrev pub IsQuiet : Entry → Type 0
IsQuiet (entry.Said words) = ⊥
IsQuiet (entry.Forget a b) = ⊥
IsQuiet (entry.Air frame sender receiver repeaters payload) = ⊥
IsQuiet _ = Unit {0}

abbrev pub AreQuiet : List Entry → Type 0
AreQuiet told = AllByRecursion IsQuiet told

pipe_quiet : (side : Side) (e : Entry) → IsOfPipe side e → IsQuiet e
pipe_quiet side (entry.Said words) of_pipe = absurd of_pipe
pipe_quiet side (entry.Forget a b) of_pipe = absurd of_pipe
pipe_quiet side (entry.Air frame sender receiver repeaters payload) of_pipe = absurd of_pipe
pipe_quiet side e of_pipe = tt

pub told_quiet : (side : Side) (way : WayState) (unit : LineUnit) → AreQuiet (told side way unit)
told_quiet side way unit = all-weaker (IsOfPipe side) IsQuiet (pipe_quiet side) (told side way unit) (told_of_pipe side way unit)

pub pipes_quiet : (w : Outside) (event : OuterEvent) → IsOfPipes event → AreQuiet (outcome w event).entries
pipes_quiet w event is = all-weaker (IsOfPipe by_host) IsQuiet (pipe_quiet by_host) (outcome w event).entries (pipes_enter w event is)

quiet_still : (e : Entry) → IsQuiet e → IsStill e
quiet_still (entry.Said words) quiet = absurd quiet
quiet_still (entry.Forget a b) quiet = absurd quiet
quiet_still (entry.Air frame sender receiver repeaters payload) quiet = absurd quiet
quiet_still e quiet = tt

module _ (devices : List State) where
  quiet_may : (past : List Entry) (e : Entry) → IsQuiet e → MayGo devices past e
  quiet_may past (entry.Air frame sender receiver repeaters payload) quiet = absurd quiet
  quiet_may past e quiet = tt

  pub quiet_one : (pending : Pending) (w : Outside) (e : Entry) → IsQuiet e → Goes_on devices pending w (e ∷ []) pending w
  quiet_one pending w e quiet = still_one devices pending w e (quiet_still e quiet) (λ past knows. quiet_may past e quiet)

  quiet_all : (pending : Pending) (w : Outside) (told : List Entry) → AreQuiet told → Goes_on devices pending w told pending w
  quiet_all pending w [] quiet = still_none devices pending w w (same_nets w.outer w.outer refl refl refl refl)
  quiet_all pending w (e ∷ told) quiet =
      both devices pending pending pending w w w (e ∷ []) told (quiet_one pending w e quiet.0) (quiet_all pending w told quiet.1)

  -- such entries, and a machine with the same networks
  pub quiet_goes : (pending : Pending) (w later : Outside) (told : List Entry) → AreQuiet told → IsSameNets w.outer later.outer → Goes_on devices pending w told pending later
  quiet_goes pending w later told quiet same =
      subst (λ (l : List Entry). Goes_on devices pending w l pending later) (append-nil told)
      (both devices pending pending pending w w later told [] (quiet_all pending w told quiet) (still_none devices pending w later same))
