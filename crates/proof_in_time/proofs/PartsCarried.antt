-- Where segments are on their way stays as it is at an event that leaves host and chip to them, with more frames of devices behind.
use Rattle.std.proofs.Common.{◌≡◌, ◌≤◌, ◌<◌, ℕ, suc, ◌+◌, inl, inr, Bool, List, [], ◌∷◌, ◌++◌, length, length-append, refl, sym, ap, ◌∙◌, subst, append_assoc, arith}
use Rattle.std.proofs.lemmas.List.{append-nil}
use Rattle.std.specs.Prelude.{◌⊎◌}
use Rattle.std.specs.List.{AllByRecursion}
use Rattle.zw_base.proofs.Each.{all-append, all-weaker}
use Rattle.serial_frame.specs.Frame.{FrameParts}
use Rattle.air_frames.specs.Flown.{Flown}
use Rattle.air_frames.specs.declared.frame.Heading.TheVariants.{Homeward}
use Rattle.host_requests.specs.Frames.{frame_of}
use Rattle.host_requests.specs.declared.task.Task.{Task}
use Rattle.host_requests.specs.declared.task.Task.TheVariants.{Segment}
use Rattle.host_model.specs.Sessions.{segment_at}
use Rattle.host_model.specs.State.{HostState, node_of}
use Rattle.world_model.specs.State.{Machine}
use Rattle.proof_messages.specs.Reporting.{TellsPlainly}
use Rattle.proof_answered.specs.proof_calm.proof_traffic.OnAir.{on_air}
use Rattle.proof_answered.specs.proof_calm.proof_work.proof_walk.Phases.{Phase}
use Rattle.proof_answered.specs.proof_calm.Tied.{on_line, unheard}
use Rattle.proof_answered.specs.Workers.{IsFromSaying}
use Rattle.proof_in_time.specs.Coming.{IsAsking, IsOnAir, one_later, ticks_left}
use Rattle.proof_in_time.specs.Owed.{IsFreeIn, IsOwed}
use Rattle.proof_in_time.specs.Parts.{Aired, Aired_told, Aired_two, AllPlain, Amid, AmidTwo, Asked, Asks, Asks_told, Asks_told_two, ComesPlainly, Given, HasCall, IsAsk, IsAskTold, IsElse, IsToGive, OnWay, Owed, To_give, To_give_two, ToHear, Waits}
use Rattle.proof_answered.proofs.Unheard.{IsPiled}
use Rattle.proof_in_time.proofs.PartsLanded.{More}

-- ---- what stands among others

-- with others behind them
pub amid_more : {A : Type 0} (Other Is : A → Type 0) (items later : List A) (more : List A) → later ≡ items ++ more → AllByRecursion Other more → (at : Amid Other Is items) → (on : Amid Other Is later) × ((on.before ≡ at.before) × (on.behind ≡ at.behind ++ more))
amid_more Other Is items later more are all at = (
  record {
    before = at.before;
    one = at.one;
    behind = at.behind ++ more;
    are = are ∙ (ap (λ l. l ++ more) at.are ∙ append_assoc at.before (at.one ∷ at.behind) more);
    each = at.each;
    is = at.is;
    rest = all-append Other at.behind more at.rest all;
  },
  (refl, refl),
)

pub amid_two_more : {A : Type 0} (Other First Second : A → Type 0) (items later : List A) (more : List A) → later ≡ items ++ more → AllByRecursion Other more → (at : AmidTwo Other First Second items)
    → (on : AmidTwo Other First Second later) × ((on.before ≡ at.before) × (on.rest.before ≡ at.rest.before))
amid_two_more Other First Second items later more are all at =
    let rest = amid_more Other Second at.behind (at.behind ++ more) more refl all at.rest in (
      record {
        before = at.before;
        first = at.first;
        behind = at.behind ++ more;
        are = are ∙ (ap (λ l. l ++ more) at.are ∙ append_assoc at.before (at.first ∷ at.behind) more);
        each = at.each;
        is = at.is;
        rest = rest.0;
      },
      (refl, rest.1.0),
    )

-- the first of them leaves: it is that, or another
pub amid_next : {A : Type 0} (Other Is : A → Type 0) (first : A) (rest : List A) (at : Amid Other Is (first ∷ rest))
    → (Is first × (AllByRecursion Other rest × (length at.before ≡ 0))) ⊎ (Other first × ((on : Amid Other Is rest) × ((length at.before ≡ suc (length on.before)) × (on.behind ≡ at.behind))))
amid_next {A} Other Is first rest at = by at.before at.are at.each
  where
    by : (before : List A) → first ∷ rest ≡ before ++ at.one ∷ at.behind → AllByRecursion Other before
        → (Is first × (AllByRecursion Other rest × (length before ≡ 0))) ⊎ (Other first × ((on : Amid Other Is rest) × ((length before ≡ suc (length on.before)) × (on.behind ≡ at.behind))))
    by [] are each = let one : at.one ≡ first = cc in let all : at.behind ≡ rest = cc in inl (subst Is one at.is, (subst (AllByRecursion Other) all at.rest, refl))
    by (x ∷ before) are each =
        let one : x ≡ first = cc in
        let all : rest ≡ before ++ at.one ∷ at.behind = cc in
        inr (subst Other one each.0, (record { before = before; one = at.one; behind = at.behind; are = all; each = each.1; is = at.is; rest = at.rest }, (refl, refl)))

pub amid_two_next : {A : Type 0} (Other First Second : A → Type 0) (first : A) (rest : List A) (at : AmidTwo Other First Second (first ∷ rest))
    → (First first × ((on : Amid Other Second rest) × ((length at.before ≡ 0) × (length on.before ≡ length at.rest.before)))) ⊎ (Other first × ((on : AmidTwo Other First Second rest) × ((length at.before ≡ suc (length on.before)) × (length on.rest.before ≡ length at.rest.before))))
amid_two_next {A} Other First Second first rest at = by at.before at.are at.each
  where
    by : (before : List A) → first ∷ rest ≡ before ++ at.first ∷ at.behind → AllByRecursion Other before
        → (First first × ((on : Amid Other Second rest) × ((length before ≡ 0) × (length on.before ≡ length at.rest.before)))) ⊎ (Other first × ((on : AmidTwo Other First Second rest) × ((length before ≡ suc (length on.before)) × (length on.rest.before ≡ length at.rest.before))))
    by [] are each =
        let one : at.first ≡ first = cc in
        let all : rest ≡ at.behind = cc in
        inl (subst First one at.is, (record { before = at.rest.before; one = at.rest.one; behind = at.rest.behind; are = all ∙ at.rest.are; each = at.rest.each; is = at.rest.is; rest = at.rest.rest }, (refl, refl)))
    by (x ∷ before) are each =
        let one : x ≡ first = cc in
        let all : rest ≡ before ++ at.first ∷ at.behind = cc in
        inr (subst Other one each.0, (record { before = before; first = at.first; behind = at.behind; are = all; each = each.1; is = at.is; rest = at.rest }, (refl, refl)))

-- none of these is the host's
abbrev pub AllHome : List Flown → Type 0
AllHome flights = AllByRecursion (λ (frame : Flown). frame.heading ≡ Homeward) flights

plain_home : (these : List Bool) (flights : List Flown) → AllPlain these flights → AllHome flights
plain_home these flights all = all-weaker (ComesPlainly these) (λ (frame : Flown). frame.heading ≡ Homeward) (λ frame plain. plain.home) flights all

pub amid_home : (these : List Bool) (Is : Flown → Type 0) (flights : List Flown) → ((frame : Flown) → Is frame → frame.heading ≡ Homeward) → Amid (ComesPlainly these) Is flights → AllHome flights
amid_home these Is flights home at =
    subst AllHome (sym at.are)
    (all-append (λ (frame : Flown). frame.heading ≡ Homeward) at.before (at.one ∷ at.behind) (plain_home these at.before at.each) (home at.one at.is, plain_home these at.behind at.rest))

-- it stands within them
pub amid_within : {A : Type 0} (Other Is : A → Type 0) (items : List A) (at : Amid Other Is items) → length at.before < length items
amid_within Other Is items at =
    let all = ap (λ l. length l) at.are ∙ length-append at.before (at.one ∷ at.behind) in
    let more : length (at.one ∷ at.behind) ≡ length at.behind + 1 = omega arith in
    omega (arith, all, more)

pub amid_two_within : {A : Type 0} (Other First Second : A → Type 0) (items : List A) (at : AmidTwo Other First Second items) → (length at.before < length items) × (length at.before + (1 + length at.rest.before) < length items)
amid_two_within Other First Second items at =
    let all = ap (λ l. length l) at.are ∙ length-append at.before (at.first ∷ at.behind) in
    let more : length (at.first ∷ at.behind) ≡ length at.behind + 1 = omega arith in
    let inner = amid_within Other Second at.behind at.rest in
    (omega (arith, all, more), omega (arith, all, more, inner))

-- ---- what the chip has for the host

-- frames of which something is so, in front and behind
pub record Wraps (Is : FrameParts → Type 0) (old new : List FrameParts) : Type 0 where
  pub front : List FrameParts
  pub more : List FrameParts
  pub are : new ≡ front ++ (old ++ more)
  pub before : AllByRecursion Is front
  pub behind : AllByRecursion Is more

pub itself_wraps : (Is : FrameParts → Type 0) (old : List FrameParts) → Wraps Is old old
itself_wraps Is old = record { front = []; more = []; are = sym (append-nil old); before = tt; behind = tt }

pub more_wraps : (Is : FrameParts → Type 0) (old new : List FrameParts) → More Is old new → Wraps Is old new
more_wraps Is old new more = record { front = []; more = more.more; are = more.are; before = tt; behind = more.each }

pub wraps_pile : (Is : FrameParts → Type 0) (old : List FrameParts) → IsPiled Is (Wraps Is old)
wraps_pile Is old = record {
  first = λ frame frames is w. record { front = frame ∷ w.front; more = w.more; are = ap (λ (l : List FrameParts). frame ∷ l) w.are; before = (is, w.before); behind = w.behind };
  last = λ frames frame w is. record {
    front = w.front;
    more = w.more ++ frame ∷ [];
    are = ap (λ (l : List FrameParts). l ++ frame ∷ []) w.are ∙ (append_assoc w.front (old ++ w.more) (frame ∷ []) ∙ ap (λ (l : List FrameParts). w.front ++ l) (append_assoc old w.more (frame ∷ [])));
    before = w.before;
    behind = all-append Is w.more (frame ∷ []) w.behind (is, tt);
  };
}

pub all_wrapped : (Is : FrameParts → Type 0) (old new : List FrameParts) → Wraps Is old new → AllByRecursion Is old → AllByRecursion Is new
all_wrapped Is old new w all = subst (AllByRecursion Is) (sym w.are) (all-append Is w.front (old ++ w.more) w.before (all-append Is old w.more all w.behind))

amid_wrapped : (Other Is : FrameParts → Type 0) (old new : List FrameParts) (w : Wraps Other old new) (at : Amid Other Is old) → (on : Amid Other Is new) × (on.behind ≡ at.behind ++ w.more)
amid_wrapped Other Is old new w at = (
  record {
    before = w.front ++ at.before;
    one = at.one;
    behind = at.behind ++ w.more;
    are = w.are ∙ (ap (λ (l : List FrameParts). w.front ++ (l ++ w.more)) at.are ∙ (ap (λ (l : List FrameParts). w.front ++ l) (append_assoc at.before (at.one ∷ at.behind) w.more) ∙ sym (append_assoc w.front at.before (at.one ∷ (at.behind ++ w.more)))));
    each = all-append Other w.front at.before w.before at.each;
    is = at.is;
    rest = all-append Other at.behind w.more at.rest w.behind;
  },
  refl,
)

-- ---- calls

pub call_before : (id : ℕ) (a b : List FrameParts) → HasCall id a → HasCall id (a ++ b)
call_before id [] b has = absurd has
call_before id (frame ∷ a) b (inl is) = inl is
call_before id (frame ∷ a) b (inr has) = inr (call_before id a b has)

pub call_last : (id : ℕ) (a b : List FrameParts) → HasCall id b → HasCall id (a ++ b)
call_last id [] b has = has
call_last id (frame ∷ a) b has = inr (call_last id a b has)

-- ---- an event that leaves them

-- what the host has of a node and of its requests; and what is asked for, where a request is on its way to the chip
pub record SameFor (n : ℕ) (here : Phase) (old new : HostState) : Type 0 where
  pub queue : new.requests.queue ≡ old.requests.queue
  pub last_id : new.requests.last_id ≡ old.requests.last_id
  pub next_is : (node_of new n).next_segment ≡ (node_of old n).next_segment
  pub count : (node_of new n).segments ≡ (node_of old n).segments
  pub text_is : (node_of new n).text ≡ (node_of old n).text
  pub pending_is : (node_of new n).pending ≡ (node_of old n).pending
  pub asked : IsAsking here → (new.requests.under_way ≡ old.requests.under_way) × (on_line new.side.turn ≡ on_line old.side.turn)

pub same_for : (n : ℕ) (here : Phase) (old new : HostState) → new ≡ old → SameFor n here old new
same_for n here old new same = record {
  queue = ap (λ (h : HostState). h.requests.queue) same;
  last_id = ap (λ (h : HostState). h.requests.last_id) same;
  next_is = ap (λ (h : HostState). (node_of h n).next_segment) same;
  count = ap (λ (h : HostState). (node_of h n).segments) same;
  text_is = ap (λ (h : HostState). (node_of h n).text) same;
  pending_is = ap (λ (h : HostState). (node_of h n).pending) same;
  asked = λ asking. (ap (λ (h : HostState). h.requests.under_way) same, ap (λ (h : HostState). on_line h.side.turn) same);
}

-- from phase to phase a frame that is on the air arrives no later; and where something is given in this tick, one that does not arrive in it does not then
pub record PhaseOn (Gives : Type 0) (count later then_later : ℕ) (here next : Phase) : Type 0 where
  pub joint : (place : ℕ) → place < count → ticks_left next + one_later next place + later ≤ ticks_left here + one_later here place + then_later
  pub apart : Gives → (place : ℕ) → place < count → one_later here place ≡ 1 → one_later next place ≡ 1
  pub some : Gives → 1 ≤ later → 1 ≤ then_later
  pub level : (first second : ℕ) → first < second → second < count → one_later here second ≤ one_later here first → one_later next second ≤ one_later next first
  pub fewer : then_later ≤ later

now : (a b later then_later : ℕ) → a + later ≤ b + then_later → then_later ≤ later → b ≡ 0 → a ≡ 0
now a b later then_later fits fewer none = omega (arith, fits, fewer, none)

nearer : (a b later then_later : ℕ) → a + later ≤ b + then_later → b ≤ later → a ≤ then_later
nearer a b later then_later fits few = omega (arith, fits, few)

-- something is to be done in this tick: the attempt has more to give, or a task waits, or the host is to be told of something
pub data HasDue (n : ℕ) (m : Machine) : Type 0 where
  Gives_more : m.host.state.requests.queue ≡ [] → (node_of m.host.state n).next_segment < (node_of m.host.state n).segments → HasDue n m
  Task_waits : (task : Task) → m.host.state.requests.queue ≡ task ∷ [] → HasDue n m
  Is_told : (unheard m.outside.outer ≡ [] → ⊥) → HasDue n m

pub some_there : {A : Type 0} (before : List A) (one : A) (behind : List A) → before ++ one ∷ behind ≡ [] → ⊥
some_there [] one behind none = absurd cc
some_there (x ∷ before) one behind none = absurd cc

-- it is given in a tick, or a settling
abbrev pub GivesIn : Phase → Machine → Type 0
GivesIn here m = IsOwed here m ⊎ IsAsking here

gives_in : (n session : ℕ) (message : List ℕ) (here : Phase) (m : Machine) (place next : ℕ) → IsToGive n session message place next here m → GivesIn here m
gives_in n session message here m place next (Owed is none next_is less follows) = inl is
gives_in n session message here m place next (Waits is waits next_is) = inl is
gives_in n session message here m place next (Given request is none under_way carries line next_is) = inr is

module _ (these : List Bool) (n session : ℕ) (message : List ℕ) (here to : Phase) (m then_m : Machine) (same : SameFor n here m.host.state then_m.host.state) (owed : IsOwed here m → HasDue n m → IsOwed to then_m) (free : IsFreeIn here m → AllHome (on_air m.outside.outer.air.frames) → IsFreeIn to then_m)
    (asking : IsAsking here → (frame : FrameParts) → on_line m.host.state.side.turn ≡ frame ∷ [] → IsAsking to) where
  pub give_on : (place next : ℕ) → IsToGive n session message place next here m → IsToGive n session message place next to then_m
  give_on place next (Owed is none next_is less follows) =
      Owed (owed is (Gives_more none (subst (λ (k : ℕ). k < (node_of m.host.state n).segments) (sym next_is) less))) (same.queue ∙ none) (same.next_is ∙ next_is) (subst (λ (k : ℕ). place < k) (sym same.count) less) follows
  give_on place next (Waits is waits next_is) = Waits (owed is (Task_waits (Segment n (segment_at session message place)) waits)) (same.queue ∙ waits) (same.next_is ∙ next_is)
  give_on place next (Given request is none under_way carries line next_is) =
      Given request (asking is (frame_of request.purpose m.host.state.requests.last_id) line) (same.queue ∙ none) ((same.asked is).0 ∙ under_way) carries
      ((same.asked is).1 ∙ (line ∙ ap (λ (id : ℕ). frame_of request.purpose id ∷ []) (sym same.last_id))) (same.next_is ∙ next_is)

  else_on : (next : ℕ) → IsElse n next m → IsElse n next then_m
  else_on next is = record { no_task = same.queue ∙ is.no_task; next_is = same.next_is ∙ is.next_is }

  is_told : (place : ℕ) → Asked these n session place m → HasDue n m
  is_told place asked = Is_told (λ none. some_there asked.at.before asked.at.one asked.at.behind (sym asked.at.are ∙ none))

  module _ (told : Wraps (IsFromSaying these TellsPlainly) (unheard m.outside.outer) (unheard then_m.outside.outer)) where
    told_on : AllByRecursion (IsFromSaying these TellsPlainly) (unheard m.outside.outer) → AllByRecursion (IsFromSaying these TellsPlainly) (unheard then_m.outside.outer)
    told_on all = all_wrapped (IsFromSaying these TellsPlainly) (unheard m.outside.outer) (unheard then_m.outside.outer) told all

    pub asked_on : (place : ℕ) → Asked these n session place m → Asked these n session place then_m
    asked_on place asked =
        let on = amid_wrapped (IsFromSaying these TellsPlainly) (IsAskTold n session place) (unheard m.outside.outer) (unheard then_m.outside.outer) told asked.at in
        record { at = on.0; first = subst (λ (behind : List FrameParts). HasCall then_m.host.state.requests.last_id behind ⊎ ((node_of then_m.host.state n).segments ≤ (node_of then_m.host.state n).next_segment)) (sym on.1) (by asked.first) }
      where
        by : HasCall m.host.state.requests.last_id asked.at.behind ⊎ ((node_of m.host.state n).segments ≤ (node_of m.host.state n).next_segment)
            → HasCall then_m.host.state.requests.last_id (asked.at.behind ++ told.more) ⊎ ((node_of then_m.host.state n).segments ≤ (node_of then_m.host.state n).next_segment)
        by (inl call) = inl (call_before then_m.host.state.requests.last_id asked.at.behind told.more (subst (λ (id : ℕ). HasCall id asked.at.behind) (sym same.last_id) call))
        by (inr none) = inr (subst (λ (k : ℕ). k ≤ (node_of then_m.host.state n).next_segment) (sym same.count) (subst (λ (k : ℕ). (node_of m.host.state n).segments ≤ k) (sym same.next_is) none))

    module _ (next later then_later : ℕ) (more : List Flown) (air : on_air then_m.outside.outer.air.frames ≡ on_air m.outside.outer.air.frames ++ more) (plain : AllPlain these more) (fits : PhaseOn (GivesIn here m × GivesIn to then_m) (length (on_air m.outside.outer.air.frames)) later then_later here to) where
      abbrev flights : List Flown
      flights = on_air m.outside.outer.air.frames

      plain_on : AllPlain these (on_air m.outside.outer.air.frames) → AllPlain these (on_air then_m.outside.outer.air.frames)
      plain_on all = subst (AllByRecursion (ComesPlainly these)) (sym air) (all-append (ComesPlainly these) flights more all plain)

      place_on : (place then_place : ℕ) → then_place ≡ place → place < length flights → ticks_left here + one_later here place ≤ later → ticks_left to + one_later to then_place ≤ then_later
      place_on place then_place is within few =
          subst (λ (k : ℕ). ticks_left to + one_later to k ≤ then_later) (sym is) (nearer (ticks_left to + one_later to place) (ticks_left here + one_later here place) later then_later (fits.joint place within) few)

      now_on : (place then_place : ℕ) → then_place ≡ place → place < length flights → ticks_left here + one_later here place ≡ 0 → ticks_left to + one_later to then_place ≡ 0
      now_on place then_place is within none =
          subst (λ (k : ℕ). ticks_left to + one_later to k ≡ 0) (sym is) (now (ticks_left to + one_later to place) (ticks_left here + one_later here place) later then_later (fits.joint place within) fits.fewer none)

      level_on : (first second then_first then_second : ℕ) → then_first ≡ first → then_second ≡ second → first < second → second < length flights → one_later here second ≤ one_later here first → one_later to then_second ≤ one_later to then_first
      level_on first second then_first then_second first_is second_is before within level =
          subst (λ (k : ℕ). one_later to k ≤ one_later to then_first) (sym second_is) (subst (λ (k : ℕ). one_later to second ≤ one_later to k) (sym first_is) (fits.level first second before within level))

      apart_on : GivesIn here m × GivesIn to then_m → (place then_place : ℕ) → then_place ≡ place → place < length flights → one_later here place ≡ 1 → one_later to then_place ≡ 1
      apart_on gives place then_place is within one = subst (λ (k : ℕ). one_later to k ≡ 1) (sym is) (fits.apart gives place within one)

      both_give : (place : ℕ) → IsToGive n session message place next here m → GivesIn here m × GivesIn to then_m
      both_give place give = (gives_in n session message here m place next give, gives_in n session message to then_m place next (give_on place next give))

      pub way_on : (hears : ToHear) → OnWay these n session message next later here m hears → OnWay these n session message next then_later to then_m hears
      way_on hears (To_give place is give all told_plain some) = To_give place is (give_on place next give) (plain_on all) (told_on told_plain) (fits.some (both_give place give) some)
      way_on hears (Aired place is other at told_plain few) =
          let on = amid_more (ComesPlainly these) (IsOnAir n (segment_at session message place)) flights (on_air then_m.outside.outer.air.frames) more air plain at in
          Aired place is (else_on next other) on.0 (told_on told_plain)
          (place_on (length at.before) (length on.0.before) (ap (λ (l : List Flown). length l) on.1.0) (amid_within (ComesPlainly these) (IsOnAir n (segment_at session message place)) flights at) few)
      way_on hears (To_give_two place other is give at one told_plain some) =
          let on = amid_more (ComesPlainly these) (IsAsk n session other) flights (on_air then_m.outside.outer.air.frames) more air plain at in
          To_give_two place other is (give_on place next give) on.0
          (apart_on (both_give place give) (length at.before) (length on.0.before) (ap (λ (l : List Flown). length l) on.1.0) (amid_within (ComesPlainly these) (IsAsk n session other) flights at) one) (told_on told_plain) (fits.some (both_give place give) some)
      way_on hears (Aired_two place other is else_is at told_plain level few) =
          let on = amid_two_more (ComesPlainly these) (IsAsk n session other) (IsOnAir n (segment_at session message place)) flights (on_air then_m.outside.outer.air.frames) more air plain at in
          let place_is : length on.0.before + (1 + length on.0.rest.before) ≡ length at.before + (1 + length at.rest.before) =
          ap (λ (l : List Flown). length l + (1 + length on.0.rest.before)) on.1.0 ∙ ap (λ (l : List Flown). length at.before + (1 + length l)) on.1.1 in
          Aired_two place other is (else_on next else_is) on.0 (told_on told_plain)
          (level_on (length at.before) (length at.before + (1 + length at.rest.before)) (length on.0.before) (length on.0.before + (1 + length on.0.rest.before)) (ap (λ (l : List Flown). length l) on.1.0) place_is (omega arith)
          (amid_two_within (ComesPlainly these) (IsAsk n session other) (IsOnAir n (segment_at session message place)) flights at).1 level)
          (place_on (length at.before + (1 + length at.rest.before)) (length on.0.before + (1 + length on.0.rest.before)) place_is
          (amid_two_within (ComesPlainly these) (IsAsk n session other) (IsOnAir n (segment_at session message place)) flights at).1 few)
      way_on hears (Aired_told place other is else_is at asked none) =
          let on = amid_more (ComesPlainly these) (IsOnAir n (segment_at session message place)) flights (on_air then_m.outside.outer.air.frames) more air plain at in
          let told_then = amid_wrapped (IsFromSaying these TellsPlainly) (IsAskTold n session other) (unheard m.outside.outer) (unheard then_m.outside.outer) told asked in
          Aired_told place other is (else_on next else_is) on.0 told_then.0
          (now_on (length at.before) (length on.0.before) (ap (λ (l : List Flown). length l) on.1.0) (amid_within (ComesPlainly these) (IsOnAir n (segment_at session message place)) flights at) none)
      way_on hears (Asks place is else_is is_free none at told_plain few) =
          let on = amid_more (ComesPlainly these) (IsAsk n session place) flights (on_air then_m.outside.outer.air.frames) more air plain at in
          Asks place is (else_on next else_is) (free is_free (amid_home these (IsAsk n session place) flights (λ frame ask. ask.home) at)) (subst (λ (k : ℕ). k ≤ next) (sym same.count) none) on.0 (told_on told_plain)
          (place_on (length at.before) (length on.0.before) (ap (λ (l : List Flown). length l) on.1.0) (amid_within (ComesPlainly these) (IsAsk n session place) flights at) few)
      way_on hears (Asks_told place is else_is owes all asked) = Asks_told place is (else_on next else_is) (owed owes (is_told place asked)) (plain_on all) (asked_on place asked)
      way_on hears (Asks_told_two place other is else_is owes asked at one some) =
          let on = amid_more (ComesPlainly these) (IsAsk n session other) flights (on_air then_m.outside.outer.air.frames) more air plain at in
          Asks_told_two place other is (else_on next else_is) (owed owes (is_told place asked)) (asked_on place asked) on.0
          (apart_on (inl owes, inl (owed owes (is_told place asked))) (length at.before) (length on.0.before) (ap (λ (l : List Flown). length l) on.1.0) (amid_within (ComesPlainly these) (IsAsk n session other) flights at) one) (fits.some (inl owes, inl (owed owes (is_told place asked))) some)
