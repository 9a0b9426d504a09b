-- What is known of the law of what goes on the air, whatever is so of the SendData that are not over, goes on with each event at which no frame is answered: what the chip is given, its ticks,
-- what the air tells, and what lines do.
use Rattle.std.proofs.Common.{◌≡◌, ℕ, ◌==◌, Bool, true, false, List, [], ◌∷◌, ◌++◌, refl, sym, ap, subst, append-nil, append_assoc}
use Rattle.std.specs.Prelude.{Option}
use Rattle.std.specs.List.{AllByRecursion}
use Rattle.zw_base.proofs.Each.{all-append, all-both, all-left, all-right, all-weaker}
use Rattle.serial_frame.specs.Frame.{FrameParts}
use Rattle.serial_frame.specs.Stream.{after_tick}
use Rattle.serial_pipes.specs.Events.{told}
use Rattle.route_table.specs.declared.route.Route.{Route}
use Rattle.chip_sim.specs.Waiting.{PortState}
use Rattle.chip_sim.specs.State.{ChipState}
use Rattle.chip_sim.specs.Events.{ChipEvent, Judged, Ticked, Heard as chip_hears, Forgets, Collides, after, collides, outs}
use Rattle.chip_sim.specs.Link.{link_steps}
use Rattle.chip_sim.specs.Rules.{posts}
use Rattle.mesh_sim.specs.Fates.{place_of}
use Rattle.mesh_sim.specs.declared.event.AirEvent.{AirEvent}
use Rattle.mesh_sim.specs.declared.event.AirEvent.TheVariants as air_event
use Rattle.zw_text.specs.declared.entry.Entry.{Entry}
use Rattle.zw_text.specs.declared.entry.Entry.TheVariants as entry
use Rattle.law_transcript.specs.Nodes.{controller}
use Rattle.law_transcript.specs.Repeats.{frame_of}
use Rattle.law_transcript.specs.Units.{Carried}
use Rattle.law_transcript.specs.Carrying.{homeward}
use Rattle.law_wire.specs.Asked.{Course, Sending}
use Rattle.law_wire.specs.Taking.{MayAir}
use Rattle.outside_model.specs.Devices.{State}
use Rattle.serial_link.specs.Rules.{Step}
use Rattle.outside_model.specs.State.{OuterState, Outcome, Outside, and_then, outside, silent, tells, with_chip}
use Rattle.outside_model.specs.Chip.{chip_does, chip_ticks}
use Rattle.outside_model.specs.Results.{device_at, gives}
use Rattle.outside_model.specs.Air.{deals, change_entries, change_at}
use Rattle.outside_model.specs.Events.{OuterEvent, Collides_next, outcome}
use Rattle.proof_air.proofs.Entered.{IsChange, change_entered}
use Rattle.proof_air.proofs.Results.{Gives, IsGiven, IsResult, ends_go, gives_go, to_chip_goes}
use Rattle.proof_host.proofs.Lists.{each-append}
use Rattle.proof_air.specs.proof_walk.Outside.{Comes, IsOfAir, IsSimple, Moves}
use Rattle.proof_air.proofs.Moving.{moves_both}
use Rattle.proof_air.proofs.Times.{does_chip}
use Rattle.proof_chip.specs.Serving.{Serves}
use Rattle.proof_chip.specs.Knowing.{AnyEntry}
use Rattle.proof_chip.specs.Bringing.{BringSome}
use Rattle.proof_chip.specs.Sending.{AirSo, ComingSo, KeepsAir, KnowsAir}
use Rattle.proof_chip.proofs.Airing.{same_last}
use Rattle.proof_chip.proofs.Asides.{AreUnrelated, IsUnrelated, change_unrelated, simple_apart, simple_port}
use Rattle.proof_chip.proofs.Bringing.{HearsNone, brings_aside, brings_event, brings_heard, brings_less, posts_none, some_more}
use Rattle.proof_chip.proofs.Growing.{serves_aside, serves_event}
use Rattle.proof_chip.proofs.Judged.{goes_back}
use Rattle.proof_chip.proofs.Passing.{IsOther, others_no_ack, others_stand, puts_other}
use Rattle.proof_chip.proofs.Quieting.{IsUnanswered, event_none, unanswered}
use Rattle.proof_chip.proofs.Telling.{AreAside, IsAside}
use Rattle.proof_line.proofs.ChipAccounts.{Account, Still, Both, Later, Does, Forgotten as ForgottenLink, Of_air, In_air, IsOfResults, gives_account, gives_results, steps_by}
use Rattle.proof_chip.proofs.Learning.{air_aside, any_each}

-- ---- entries

-- it tells nothing of the chip's units, and is no frame of the controller
abbrev pub IsApart : Entry → Type 0
IsApart e = IsAside e × IsOther e

abbrev pub AreApart : List Entry → Type 0
AreApart told = AllByRecursion IsApart told

both_apart : (told : List Entry) → AreAside told → AllByRecursion IsOther told → AreApart told
both_apart told aside other = all-both IsAside IsOther IsApart (λ e one two. (one, two)) told aside other

pub apart_weaker : (told : List Entry) → AreUnrelated told → AreApart told
apart_weaker told unrelated = all-weaker IsUnrelated IsApart (λ e is. (is.0, is.1.1)) told unrelated

pub given_answers : (b : Bool) (event : ChipEvent) → IsGiven event → IsUnanswered b event
given_answers true event given = tt
given_answers false (Judged item way) given = absurd given
given_answers false event given = tt

result_hears : (event : ChipEvent) → IsResult event → HearsNone event
result_hears (chip_hears node payload) result = absurd result
result_hears event result = tt

-- what the air tells is no frame of the controller
abbrev pub IsNotOwn : AirEvent → Type 0
IsNotOwn (air_event.Sent frame from to route payload) = (from == controller) ≡ false
IsNotOwn event = Unit {0}

-- ---- what the chip is given, and what the air tells

abbrev Others : OuterState → Outcome → Type 0
Others o x = AllByRecursion IsOther x.entries

does_other : (o : OuterState) (event : ChipEvent) → IsGiven event → Others o (chip_does o event)
unfolding chip_does
does_other o event given =
    let s : ChipState = o.chip.state in puts_other (outs s event) (with_chip o (after s event)) (event_none s event (given_answers (collides s) event given))

given_other : Gives Others
given_other = record {
  still = λ o p is. tt;
  both = λ o first next one later. all-append IsOther first.entries (next first.outer).entries one (later first.outer);
  later = λ o p x is goes. goes;
  does = does_other;
  forgotten = λ o a b. (tt, tt);
}

-- one thing that the air tells
pub deals_other : (there : List State) (o : OuterState) (event : AirEvent) → IsNotOwn event → Others o (deals there o event)
deals_other there o (air_event.Heard frame) own = (tt, tt)
deals_other there o (air_event.Lost frame) own = (tt, tt)
deals_other there o (air_event.Unheard frame) own = (tt, tt)
deals_other there o (air_event.Sent frame from to route payload) own = (own, tt)
deals_other there o (air_event.Changed node at) own =
    let change = change_at (device_at there (place_of node there)) at in
    all-weaker IsChange IsOther (λ e is. (change_unrelated e is).1.1) (change_entries node change) (change_entered node change)
deals_other there o (air_event.ToChip frame from payload) own = to_chip_goes Others given_other o from payload
deals_other there o (air_event.Done frame status dead) own = ends_go Others given_other o status dead

results_other : (o : OuterState) (there : List State) (route : Option Route) → Others o (gives o there o.due route)
results_other o there route = gives_go Others given_other o there o.due route

module _ (devices : List State) (Are : List Sending → Type 0) where
  keeps_others : (later : Course) (past told : List Entry) → AllByRecursion IsOther told → KeepsAir devices Are later past → KeepsAir devices Are later (past ++ told)
  keeps_others later past told others was =
      let stands = others_stand devices later told past others was.over in
      record {
        so = each-append (MayAir devices later) [] past told was.so stands.0;
        over = stands.1;
        are = subst Are (sym (same_last later past told (others_no_ack told others))) was.are;
      }

  -- the port stays
  apart_so : (coming : List Carried) (did : List Step) (past told : List Entry) (port later : PortState) → AreApart told → later.side ≡ port.side → later.waiting ≡ port.waiting
      → ComingSo devices Are coming did past port → ComingSo devices Are coming did (past ++ told) later
  apart_so coming did past told port later apart side waiting (frames, serves, brings, keeps) =
      let aside = all-weaker IsApart IsAside (λ e is. is.0) told apart in (
        frames,
        serves_aside did frames past told port later aside side waiting serves,
        brings_aside did frames past coming told aside brings,
        λ course goes. keeps_others course past told (all-weaker IsApart IsOther (λ e is. is.1) told apart) (keeps course goes),
      )

  pub apart_goes : (did : List Step) (w later : Outside) (told : List Entry) → AreApart told → later.outer.chip.state.port ≡ w.outer.chip.state.port
      → Moves AnyEntry (KnowsAir devices Are did) w told (KnowsAir devices Are did) later
  apart_goes did w later told apart same awaits past silent knows = (
    any_each past told,
    apart_so [] did past told w.outer.chip.state.port later.outer.chip.state.port apart (ap (λ (p : PortState). p.side) same) (ap (λ (p : PortState). p.waiting) same) knows,
  )

  -- a frame is heard, and what it brings is to come
  pub heard_so : (did : List Step) (past : List Entry) (port : PortState) (number : ℕ) (coming : List Carried) → homeward (frame_of past number) ≡ coming → AirSo devices Are did past port
      → ComingSo devices Are coming did (past ++ entry.Heard number ∷ []) port
  heard_so did past port number coming is (frames, serves, brings, keeps) = (
    frames,
    serves_aside did frames past (entry.Heard number ∷ []) port port (tt, tt) refl refl serves,
    brings_heard did frames past number coming is brings,
    λ course goes. keeps_others course past (entry.Heard number ∷ []) (tt, tt) (keeps course goes),
  )

  -- and does not come
  pub less_so : (coming : List Carried) (did : List Step) (past : List Entry) (port : PortState) → ComingSo devices Are coming did past port → AirSo devices Are did past port
  less_so coming did past port (frames, serves, brings, keeps) = (frames, serves, brings_less did frames past coming brings, keeps)

  -- an event of the chip that answers no frame
  pub chip_so : (coming : List Carried) (did : List Step) (past : List Entry) (o : OuterState) (event : ChipEvent) → IsUnanswered (collides o.chip.state) event
      → ((frames : List FrameParts) → BringSome frames coming past → BringSome (frames ++ posts o.chip.state event) [] past) → ComingSo devices Are coming did past o.chip.state.port
      → AirSo devices Are (did ++ link_steps o.chip.state event) (past ++ (chip_does o event).entries) (chip_does o event).outer.chip.state.port
  unfolding chip_does
  chip_so coming did past o event none some (frames, serves, brings, keeps) =
      let s : ChipState = o.chip.state in
      let entered : List Entry = (chip_does o event).entries in
      let others = puts_other (outs s event) (with_chip o (after s event)) (event_none s event none) in (
        frames ++ posts s event,
        subst (λ (x : ChipState). Serves (did ++ link_steps s event) (frames ++ posts s event) (past ++ entered) x.port) (sym (does_chip o event)) (serves_event did frames past o event serves),
        brings_event did frames past o event serves [] (some frames brings.some) brings,
        λ course goes. keeps_others course past entered others (keeps course (goes_back did (link_steps s event) course goes)),
      )

  pub chip_goes : (did : List Step) (w : Outside) (event : ChipEvent) → IsUnanswered (collides w.outer.chip.state) event → HearsNone event
      → Comes AnyEntry (KnowsAir devices Are did) w (chip_does w.outer event) w.devices (KnowsAir devices Are (did ++ link_steps w.outer.chip.state event))
  chip_goes did w event none hears awaits past silent knows = (
    any_each past (chip_does w.outer event).entries,
    chip_so [] did past w.outer event none
        (λ frames some. some_more frames (posts w.outer.chip.state event) past (posts_none w.outer.chip.state event hears) some) knows,
  )

  -- ---- what the chip is given, by the account of it

  module _ (there : List State) where
    abbrev Goes : List Step → OuterState → Outcome → List Step → Type 0
    Goes did o x now = Comes AnyEntry (KnowsAir devices Are did) (outside o there) x there (KnowsAir devices Are now)

    apart_on : (did : List Step) (o : OuterState) (x : Outcome) → AreApart x.entries → x.outer.chip.state.port ≡ o.chip.state.port → Goes did o x (did ++ [])
    apart_on did o x apart same =
        subst (λ (l : List Step). Goes did o x l) (sym (append-nil did)) (apart_goes did (outside o there) (outside x.outer there) x.entries apart same)

    after_same : (did now : List Step) (o p : OuterState) (x : Outcome) → p.chip.state ≡ o.chip.state → Goes did p x now → Goes did o x now
    after_same did now o p x same goes =
        moves_both AnyEntry (KnowsAir devices Are did) (KnowsAir devices Are did) (KnowsAir devices Are now) (outside o there) (outside p there) (outside x.outer there) [] x.entries
        (apart_goes did (outside o there) (outside p there) [] tt (ap (λ (s : ChipState). s.port) same)) goes

    pub account_goes : (did : List Step) {o : OuterState} {x : Outcome} (account : Account o x) → Others o x → IsOfResults account → Goes did o x (did ++ steps_by account)
    account_goes did (Still o p is) others results = apart_on did o (silent p) tt (ap (λ (s : ChipState). s.port) is.chip)
    account_goes did (Both o first next one later) others results =
        let more : List Step = did ++ steps_by one in
        let x : Outcome = and_then first next in
        subst (λ (l : List Step). Goes did o x l) (append_assoc did (steps_by one) (steps_by later))
        (moves_both AnyEntry (KnowsAir devices Are did) (KnowsAir devices Are more) (KnowsAir devices Are (more ++ steps_by later)) (outside o there) (outside first.outer there)
        (outside (next first.outer).outer there) first.entries (next first.outer).entries
        (account_goes did one (all-left IsOther first.entries (next first.outer).entries others) results.0)
        (account_goes more later (all-right IsOther first.entries (next first.outer).entries others) results.1))
    account_goes did (Later o p x is account) others results = after_same did (did ++ steps_by account) o p x is.chip (account_goes did account others results)
    account_goes did (Does o event given) others results = chip_goes did (outside o there) event (given_answers (collides o.chip.state) event given) (result_hears event results)
    account_goes did (ForgottenLink o a b) others results = apart_on did o (tells (with_chip o (after o.chip.state (Forgets a b))) (entry.Forget a b ∷ [])) ((tt, tt), tt) refl
    account_goes did (Of_air o x of_air to_host to_chip port) others results = apart_on did o x (both_apart x.entries (all-weaker IsOfAir IsAside air_aside x.entries of_air) others) port
    account_goes did (In_air o air x account) others results = after_same did (did ++ steps_by account) o (record o { air = air }) x refl (account_goes did account others results)

  -- the results of the ticks before, and a tick of the chip
  pub results_go : (did : List Step) (w : Outside) (route : Option Route)
      → Comes AnyEntry (KnowsAir devices Are did) w (gives w.outer w.devices w.outer.due route) w.devices (KnowsAir devices Are (did ++ steps_by (gives_account w route)))
  results_go did w route = account_goes w.devices did (gives_account w route) (results_other w.outer w.devices route) (gives_results w route)

  pub tick_goes : (did : List Step) (w : Outside) → Comes AnyEntry (KnowsAir devices Are did) w (chip_ticks w.outer) w.devices (KnowsAir devices Are (did ++ link_steps w.outer.chip.state Ticked))
  tick_goes did w =
      let fed : OuterState = record w.outer { chip = record { decoder = after_tick w.outer.chip.decoder; state = w.outer.chip.state } } in
      after_same w.devices did (did ++ link_steps w.outer.chip.state Ticked) w.outer fed (chip_does fed Ticked) refl (chip_goes did (outside fed w.devices) Ticked (unanswered (collides w.outer.chip.state) Ticked tt) tt)

  pub collides_goes : (did : List Step) (w : Outside) → Comes AnyEntry (KnowsAir devices Are did) w (outcome w Collides_next) w.devices (KnowsAir devices Are (did ++ link_steps w.outer.chip.state Collides))
  unfolding outcome chip_does
  collides_goes did w = chip_goes did w Collides (unanswered (collides w.outer.chip.state) Collides tt) tt

  -- ---- what lines do, and hosts

  pub simple_goes : (did : List Step) (w : Outside) (event : OuterEvent) → IsSimple event → (event ≡ Collides_next → ⊥) → Comes AnyEntry (KnowsAir devices Are did) w (outcome w event) w.devices (KnowsAir devices Are did)
  simple_goes did w event simple other =
      apart_goes did w (outside (outcome w event).outer w.devices) (outcome w event).entries (apart_weaker (outcome w event).entries (simple_apart w event simple)) (simple_port w event simple other)
