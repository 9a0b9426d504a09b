-- What the text says of a node that sleeps, from phase to phase: it is not woken yet; or it was, and no other line of it is to come.
use Rattle.std.proofs.Common.{◌≡◌, ◌≢◌, ℕ, zero, suc, ◌==◌, ◌&&◌, Bool, true, false, if◌then◌else◌, inl, inr, List, [], ◌∷◌, ◌++◌, map, refl, sym, ap, ◌∙◌, subst}
use Rattle.std.proofs.lemmas.Bool.{eq-eqb, eqb-true}
use Rattle.std.proofs.lemmas.List.{append-nil}
use Rattle.std.specs.Prelude.{◌⊎◌, Option}
use Rattle.std.specs.List.{AllByRecursion, flat_map}
use Rattle.zw_text.specs.declared.line.Line.{Line}
use Rattle.zw_text.specs.declared.line.Line.TheVariants as lines
use Rattle.zw_text.specs.declared.entry.Entry.{Entry}
use Rattle.zw_text.specs.declared.entry.Entry.TheVariants as entry
use Rattle.zw_text.specs.Transcript.{line_of, lines_run}
use Rattle.law_transcript.proofs.Deciding.{not_true}
use Rattle.law_time.specs.Stretches.{Turn, Orders, Wakes, is_quiet_line, turn_of, turns, wakes_never}
use Rattle.route_table.specs.declared.route.Route.{Route}
use Rattle.outside_model.specs.Events.{OuterEvent, Wakes_device}
use Rattle.world_model.specs.Events.{Event, Outside_does}
use Rattle.world_model.specs.Lines.{IsEffect as IsLineEffect}
use Rattle.world_model.specs.State.{Machine}
use Rattle.proof_calm.specs.proof_work.proof_walk.Phases.{Phase, Between, Said_line, Begun, Doing, To_tick, Ticked, Arriving, Giving, Ticking_devices, Ticking_chip, Ticking_decoder, Ticking_host, Sleeping, Submitting, Moving, Moved, Goes, Turns, after_pump}
use Rattle.proof_calm.specs.Resting.{LineAt}
use Rattle.proof_answered.specs.Sleepers.{IsAfter, IsAside, IsBefore, IsOfOther, IsToWake, Not_yet, Now, WakesNot, WakesOther, wakes_at_most_last}
use Rattle.proof_answered.proofs.WokenLast.{turns_both, unwoken_before}

-- ---- lines

pub never_both : (a b : List Turn) → wakes_never (a ++ b) ≡ (wakes_never a && wakes_never b)
never_both [] b = refl
never_both (Wakes ∷ a) b = refl
never_both (Orders ∷ a) b = never_both a b

true_not_false : (b : Bool) → b ≡ true → b ≡ false → ⊥
true_not_false b is is_not = let wrong : true ≡ false = sym is ∙ is_not in cc

-- a line is none of the node, an order for it, or wakes it
pub data IsTurn (n : ℕ) (line : Line) : Type 0 where
  None_of : turn_of n line ≡ [] → IsTurn n line
  An_order : turn_of n line ≡ Orders ∷ [] → IsTurn n line
  A_wake : turn_of n line ≡ Wakes ∷ [] → IsTurn n line

pub which_turn : (n : ℕ) (line : Line) → IsTurn n line
which_turn n (lines.Command order) = by (order.node == n) refl
  where
    by : (b : Bool) → (order.node == n) ≡ b → IsTurn n (lines.Command order)
    by true is = An_order (ap (λ (b : Bool). if b then Orders ∷ [] else []) is)
    by false is = None_of (ap (λ (b : Bool). if b then Orders ∷ [] else []) is)
which_turn n (lines.Wake of) = by (of == n) refl
  where
    by : (b : Bool) → (of == n) ≡ b → IsTurn n (lines.Wake of)
    by true is = A_wake (ap (λ (b : Bool). if b then Wakes ∷ [] else []) is)
    by false is = None_of (ap (λ (b : Bool). if b then Wakes ∷ [] else []) is)
which_turn n line = None_of refl

said_turn : (n : ℕ) (words : List ℕ) (line : Line) → line_of (entry.Said words) ≡ line ∷ [] → turns n (entry.Said words ∷ []) ≡ turn_of n line
said_turn n words line read = ap (λ (ls : List Line). flat_map (turn_of n) (ls ++ [])) read ∙ append-nil (turn_of n line)

pub said_never : (n : ℕ) (past : List Entry) (words : List ℕ) (line : Line) → line_of (entry.Said words) ≡ line ∷ [] → wakes_never (turns n (past ++ entry.Said words ∷ [])) ≡ (wakes_never (turns n past) && wakes_never (turn_of n line))
said_never n past words line read =
    ap wakes_never (turns_both n past (entry.Said words ∷ [])) ∙ never_both (turns n past) (turns n (entry.Said words ∷ [])) ∙ ap (λ (ts : List Turn). wakes_never (turns n past) && wakes_never ts) (said_turn n words line read)

and_false : (b : Bool) → (b && false) ≡ false
and_false true = refl
and_false false = refl

pub before_said : (n : ℕ) (past : List Entry) (words : List ℕ) (line : Line) → line_of (entry.Said words) ≡ line ∷ [] → IsBefore n Between past → IsBefore n (Said_line line) (past ++ entry.Said words ∷ [])
before_said n past words line read (Now woken to_wake) = absurd to_wake
before_said n past words line read (Not_yet never not) = by (which_turn n line)
  where
    after_it : (t : List Turn) → turn_of n line ≡ t → wakes_never (turns n (past ++ entry.Said words ∷ [])) ≡ wakes_never t
    after_it t is = said_never n past words line read ∙ (ap (λ (b : Bool). b && wakes_never (turn_of n line)) never ∙ ap wakes_never is)

    by : IsTurn n line → IsBefore n (Said_line line) (past ++ entry.Said words ∷ [])
    by (None_of is) = Not_yet (after_it [] is) (λ wakes. let wrong : [] ≡ Wakes ∷ [] = sym is ∙ wakes in absurd cc)
    by (An_order is) = Not_yet (after_it (Orders ∷ []) is) (λ wakes. let wrong : Orders ∷ [] ≡ Wakes ∷ [] = sym is ∙ wakes in absurd cc)
    by (A_wake is) = Now (after_it (Wakes ∷ []) is) is

pub after_said : (n : ℕ) (past : List Entry) (words : List ℕ) (line : Line) → line_of (entry.Said words) ≡ line ∷ [] → wakes_at_most_last (turns n (past ++ entry.Said words ∷ [])) ≡ true → IsAfter n Between past
    → IsAfter n (Said_line line) (past ++ entry.Said words ∷ [])
after_said n past words line read last is = record {
  woken = said_never n past words line read ∙ ap (λ (b : Bool). b && wakes_never (turn_of n line)) is.woken;
  aside = by (which_turn n line);
}
  where
    none : (one : Turn) → turn_of n line ≡ one ∷ [] → turn_of n line ≡ []
    none one are = absurd (true_not_false (wakes_never (turns n past)) (unwoken_before n past (entry.Said words ∷ []) one [] (said_turn n words line read ∙ are) last) is.woken)

    by : IsTurn n line → turn_of n line ≡ []
    by (None_of are) = are
    by (An_order are) = none Orders are
    by (A_wake are) = none Wakes are

-- ---- an event enters no line

pub same_turns : (n : ℕ) (past told : List Entry) → lines_run told ≡ [] → turns n (past ++ told) ≡ turns n past
same_turns n past told none = turns_both n past told ∙ (ap (λ (ls : List Line). turns n past ++ flat_map (turn_of n) ls) none ∙ append-nil (turns n past))

-- as the event leads on
as_phase : (On : Phase → Type 0) (next to : Phase) → next ≡ to → On to → On next
as_phase On next to same on = subst On (sym same) on

aside_next : (n : ℕ) (here next : Phase) (m : Machine) (event : Event) → Goes here m event next → IsAside n here → IsAside n next
aside_next n (Said_line line) next m event (is, to) aside = as_phase (IsAside n) next (Begun line) to aside
aside_next n (Doing line (first ∷ left)) next m event (is, to) aside = as_phase (IsAside n) next (Doing line left) to aside.1
aside_next n (To_tick (suc ticks)) next m event (is, to) aside = as_phase (IsAside n) next (Ticked ticks) to tt
aside_next n (Arriving (suc frames) ticks) next m event (drawn, route, is, to) aside = as_phase (IsAside n) next (Arriving frames ticks) to tt
aside_next n (Giving (suc results) ticks) next m event (route, is, to) aside = as_phase (IsAside n) next (Giving results ticks) to tt
aside_next n (Ticking_devices place (suc count) ticks) next m event (drawn, route, is, to) aside = as_phase (IsAside n) next (Ticking_devices _ count ticks) to tt
aside_next n (Ticking_chip ticks) next m event (is, to) aside = as_phase (IsAside n) next (Ticking_decoder ticks) to tt
aside_next n (Ticking_decoder ticks) next m event (is, to) aside = as_phase (IsAside n) next (Ticking_host _ ticks) to tt
aside_next n (Ticking_host (first ∷ events) ticks) next m event (is, to) aside = as_phase (IsAside n) next (Ticking_host events ticks) to tt
aside_next n (Sleeping passes ticks) next m event (node, wants, is, to) aside = as_phase (IsAside n) next (Sleeping passes ticks) to tt
aside_next n (Submitting passes ticks) next m event (asked, next_is, is, to) aside = as_phase (IsAside n) next (Submitting passes ticks) to tt
aside_next n (Moving passes ticks) next m event (rest, ways, is, to) aside = as_phase (IsAside n) next (Moved true passes ticks) to tt
aside_next n (Moved b passes ticks) next m event (rest, items, done, is, to) aside = as_phase (IsAside n) next (Sleeping passes ticks) to tt
aside_next n here next m event goes aside = absurd goes

pub after_next : (n : ℕ) (here next : Phase) (past told : List Entry) (m : Machine) (event : Event) → Goes here m event next → lines_run told ≡ [] → IsAfter n here past → IsAfter n next (past ++ told)
after_next n here next past told m event goes none is = record { woken = ap wakes_never (same_turns n past told none) ∙ is.woken; aside = aside_next n here next m event goes is.aside }

-- it is woken by the event, or is not yet
abbrev pub Wakes_it : ℕ → Event → Type 0
Wakes_it n event = (route : Option Route) × (event ≡ Outside_does (Wakes_device n route))

abbrev Later : ℕ → Phase → List Entry → Event → Type 0
Later n next past event = (IsBefore n next past × (Wakes_it n event → ⊥)) ⊎ (IsAfter n next past × Wakes_it n event)

module _ (n : ℕ) (past told : List Entry) (none : lines_run told ≡ []) where
  never_still : wakes_never (turns n past) ≡ true → wakes_never (turns n (past ++ told)) ≡ true
  never_still never = ap wakes_never (same_turns n past told none) ∙ never

  quietly : (next to : Phase) (event : Event) → next ≡ to → WakesNot n to → wakes_never (turns n past) ≡ true → (Wakes_it n event → ⊥) → Later n next (past ++ told) event
  quietly next to event same not never none_wakes = inl (Not_yet (never_still never) (as_phase (WakesNot n) next to same not), none_wakes)

  pub before_next : (here next : Phase) (m : Machine) (event : Event) → Goes here m event next → IsBefore n here past → Later n next (past ++ told) event
  before_next (Said_line line) next m event (is, to) (Not_yet never not) = quietly next (Begun line) event to not never (λ wakes. let wrong = sym is ∙ wakes.1 in absurd cc)
  before_next (Said_line line) next m event (is, to) (Now woken to_wake) =
      inl (Now (ap wakes_never (same_turns n past told none) ∙ woken) (as_phase (IsToWake n) next (Begun line) to to_wake), λ wakes. let wrong = sym is ∙ wakes.1 in absurd cc)
  before_next (Doing line (first ∷ left)) next m event (is, to) (Not_yet never not) = quietly next (Doing line left) event to not.1 never (λ wakes. subst (WakesOther n) (sym is ∙ wakes.1) not.0 refl)
  before_next (Doing line (first ∷ left)) next m event (is, to) (Now woken (route, are)) =
      let one : first ≡ Outside_does (Wakes_device n route) = cc in
      let others : left ≡ [] = cc in
      inr (
        record { woken = ap wakes_never (same_turns n past told none) ∙ woken; aside = as_phase (IsAside n) next (Doing line left) to (subst (AllByRecursion (IsOfOther n)) (sym others) tt) },
        (route, is ∙ one),
      )
  before_next (To_tick (suc ticks)) next m event (is, to) (Not_yet never not) = quietly next (Ticked ticks) event to tt never (λ wakes. let wrong = sym is ∙ wakes.1 in absurd cc)
  before_next (Arriving (suc frames) ticks) next m event (drawn, route, is, to) (Not_yet never not) = quietly next (Arriving frames ticks) event to tt never (λ wakes. let wrong = sym is ∙ wakes.1 in absurd cc)
  before_next (Giving (suc results) ticks) next m event (route, is, to) (Not_yet never not) = quietly next (Giving results ticks) event to tt never (λ wakes. let wrong = sym is ∙ wakes.1 in absurd cc)
  before_next (Ticking_devices place (suc count) ticks) next m event (drawn, route, is, to) (Not_yet never not) = quietly next (Ticking_devices _ count ticks) event to tt never (λ wakes. let wrong = sym is ∙ wakes.1 in absurd cc)
  before_next (Ticking_chip ticks) next m event (is, to) (Not_yet never not) = quietly next (Ticking_decoder ticks) event to tt never (λ wakes. let wrong = sym is ∙ wakes.1 in absurd cc)
  before_next (Ticking_decoder ticks) next m event (is, to) (Not_yet never not) = quietly next (Ticking_host _ ticks) event to tt never (λ wakes. let wrong = sym is ∙ wakes.1 in absurd cc)
  before_next (Ticking_host (first ∷ events) ticks) next m event (is, to) (Not_yet never not) = quietly next (Ticking_host events ticks) event to tt never (λ wakes. let wrong = sym is ∙ wakes.1 in absurd cc)
  before_next (Sleeping passes ticks) next m event (node, wants, is, to) (Not_yet never not) = quietly next (Sleeping passes ticks) event to tt never (λ wakes. let wrong = sym is ∙ wakes.1 in absurd cc)
  before_next (Submitting passes ticks) next m event (asked, next_is, is, to) (Not_yet never not) = quietly next (Submitting passes ticks) event to tt never (λ wakes. let wrong = sym is ∙ wakes.1 in absurd cc)
  before_next (Moving passes ticks) next m event (rest, ways, is, to) (Not_yet never not) = quietly next (Moved true passes ticks) event to tt never (λ wakes. let wrong = sym is ∙ wakes.1 in absurd cc)
  before_next (Moved b passes ticks) next m event (rest, items, done, is, to) (Not_yet never not) = quietly next (Sleeping passes ticks) event to tt never (λ wakes. let wrong = sym is ∙ wakes.1 in absurd cc)
  before_next (To_tick (suc ticks)) next m event goes (Now woken to_wake) = absurd to_wake
  before_next (Arriving (suc frames) ticks) next m event goes (Now woken to_wake) = absurd to_wake
  before_next (Giving (suc results) ticks) next m event goes (Now woken to_wake) = absurd to_wake
  before_next (Ticking_devices place (suc count) ticks) next m event goes (Now woken to_wake) = absurd to_wake
  before_next (Ticking_chip ticks) next m event goes (Now woken to_wake) = absurd to_wake
  before_next (Ticking_decoder ticks) next m event goes (Now woken to_wake) = absurd to_wake
  before_next (Ticking_host (first ∷ events) ticks) next m event goes (Now woken to_wake) = absurd to_wake
  before_next (Sleeping passes ticks) next m event goes (Now woken to_wake) = absurd to_wake
  before_next (Submitting passes ticks) next m event goes (Now woken to_wake) = absurd to_wake
  before_next (Moving passes ticks) next m event goes (Now woken to_wake) = absurd to_wake
  before_next (Moved b passes ticks) next m event goes (Now woken to_wake) = absurd to_wake
  before_next here next m event goes before = absurd goes

-- ---- a part that begins

-- of the events of a line
other_node : (order n : ℕ) (one : Turn) → ◌≡◌ {A = List Turn} (if order == n then one ∷ [] else []) [] → order ≢ n
other_node order n one none same =
    let is : (order == n) ≡ true = eq-eqb order n same in
    let wrong : one ∷ [] ≡ [] = sym (ap (λ (b : Bool). if b then one ∷ [] else []) is) ∙ none in
    absurd cc

are_as : (On : Event → Type 0) (events are : List Event) → events ≡ are → AllByRecursion On are → AllByRecursion On events
are_as On events are same all = subst (AllByRecursion On) (sym same) all

effect_aside : (n : ℕ) (line : Line) (m : Machine) (events : List Event) → is_quiet_line line ≡ true → IsLineEffect line m events → turn_of n line ≡ [] → AllByRecursion (IsOfOther n) events
effect_aside n (lines.Command order) m events quiet (inl is) none = are_as (IsOfOther n) events _ is (other_node order.node n Orders none, tt)
effect_aside n (lines.Command order) m events quiet (inr (refusal, is)) none = are_as (IsOfOther n) events _ is (tt, tt)
effect_aside n (lines.Tick count) m events quiet is none = absurd is
effect_aside n (lines.Cut size) m events quiet is none = are_as (IsOfOther n) events _ is (tt, tt)
effect_aside n (lines.Wake node) m events quiet (inner, (route, one), are) none =
    are_as (IsOfOther n) events (Outside_does (Wakes_device node route) ∷ []) (are ∙ ap (λ (l : List OuterEvent). map Outside_does l) one) (other_node node n Wakes none, tt)
effect_aside n (lines.Show node) m events quiet is none = are_as (IsOfOther n) events _ is (tt, tt)
effect_aside n (lines.Store node) m events quiet is none = are_as (IsOfOther n) events _ is (tt, tt)
effect_aside n line m events quiet is none = absurd (not_true quiet)

not_woken : (node n : ℕ) → (◌≡◌ {A = List Turn} (if node == n then Wakes ∷ [] else []) (Wakes ∷ []) → ⊥) → node ≢ n
not_woken node n not same = not (ap (λ (b : Bool). if b then Wakes ∷ [] else []) (eq-eqb node n same))

effect_wakes_not : (n : ℕ) (line : Line) (m : Machine) (events : List Event) → is_quiet_line line ≡ true → IsLineEffect line m events → turn_of n line ≢ Wakes ∷ [] → AllByRecursion (WakesOther n) events
effect_wakes_not n (lines.Command order) m events quiet (inl is) not = are_as (WakesOther n) events _ is (tt, tt)
effect_wakes_not n (lines.Command order) m events quiet (inr (refusal, is)) not = are_as (WakesOther n) events _ is (tt, tt)
effect_wakes_not n (lines.Tick count) m events quiet is not = absurd is
effect_wakes_not n (lines.Cut size) m events quiet is not = are_as (WakesOther n) events _ is (tt, tt)
effect_wakes_not n (lines.Wake node) m events quiet (inner, (route, one), are) not =
    are_as (WakesOther n) events (Outside_does (Wakes_device node route) ∷ []) (are ∙ ap (λ (l : List OuterEvent). map Outside_does l) one) (not_woken node n not, tt)
effect_wakes_not n (lines.Show node) m events quiet is not = are_as (WakesOther n) events _ is (tt, tt)
effect_wakes_not n (lines.Store node) m events quiet is not = are_as (WakesOther n) events _ is (tt, tt)
effect_wakes_not n line m events quiet is not = absurd (not_true quiet)

-- only its own line wakes it
wakes_node : (node n : ℕ) → ◌≡◌ {A = List Turn} (if node == n then Wakes ∷ [] else []) (Wakes ∷ []) → node ≡ n
wakes_node node n is = by (node == n) refl
  where
    by : (b : Bool) → (node == n) ≡ b → node ≡ n
    by true same = eqb-true node n same
    by false other = let wrong : [] ≡ Wakes ∷ [] = sym (ap (λ (b : Bool). if b then Wakes ∷ [] else []) other) ∙ is in absurd cc

order_wakes_none : (order n : ℕ) → ◌≡◌ {A = List Turn} (if order == n then Orders ∷ [] else []) (Wakes ∷ []) → ⊥
order_wakes_none order n is = by (order == n) refl
  where
    by : (b : Bool) → (order == n) ≡ b → ⊥
    by true same = let wrong : Orders ∷ [] ≡ Wakes ∷ [] = sym (ap (λ (b : Bool). if b then Orders ∷ [] else []) same) ∙ is in absurd cc
    by false other = let wrong : [] ≡ Wakes ∷ [] = sym (ap (λ (b : Bool). if b then Orders ∷ [] else []) other) ∙ is in absurd cc

effect_wakes : (n : ℕ) (line : Line) (m : Machine) (events : List Event) → IsLineEffect line m events → turn_of n line ≡ Wakes ∷ [] → (route : Option Route) × (events ≡ Outside_does (Wakes_device n route) ∷ [])
effect_wakes n (lines.Command order) m events is wakes = absurd (order_wakes_none order.node n wakes)
effect_wakes n (lines.Wake node) m events (inner, (route, one), are) wakes =
    (route, are ∙ (ap (λ (l : List OuterEvent). map Outside_does l) one ∙ ap (λ (k : ℕ). Outside_does (Wakes_device k route) ∷ []) (wakes_node node n wakes)))
effect_wakes n line m events is wakes = let wrong : [] ≡ Wakes ∷ [] = wakes in absurd cc

pump_aside : (n passes ticks : ℕ) → IsAside n (after_pump passes ticks)
pump_aside n zero ticks = tt
pump_aside n (suc passes) ticks = tt

pump_wakes_not : (n passes ticks : ℕ) → WakesNot n (after_pump passes ticks)
pump_wakes_not n zero ticks = tt
pump_wakes_not n (suc passes) ticks = tt

aside_turn : (n : ℕ) (here next : Phase) (m : Machine) → Turns here m next → LineAt here m → IsAside n here → IsAside n next
aside_turn n (Begun line) next m (inl (events, is, same)) line_at aside = as_phase (IsAside n) next (Doing line events) same (effect_aside n line m events line_at.0 is aside)
aside_turn n (Begun line) next m (inr (ticks, is, same)) line_at aside = as_phase (IsAside n) next (To_tick ticks) same tt
aside_turn n (Doing line []) next m same line_at aside = as_phase (IsAside n) next (Sleeping 64 0) same tt
aside_turn n (To_tick zero) next m same line_at aside = as_phase (IsAside n) next Between same tt
aside_turn n (Ticked ticks) next m same line_at aside = as_phase (IsAside n) next (Arriving _ ticks) same tt
aside_turn n (Arriving zero ticks) next m same line_at aside = as_phase (IsAside n) next (Giving _ ticks) same tt
aside_turn n (Giving zero ticks) next m same line_at aside = as_phase (IsAside n) next (Ticking_devices 0 _ ticks) same tt
aside_turn n (Ticking_devices place zero ticks) next m same line_at aside = as_phase (IsAside n) next (Ticking_chip ticks) same tt
aside_turn n (Ticking_host [] ticks) next m same line_at aside = as_phase (IsAside n) next (Sleeping 64 ticks) same tt
aside_turn n (Sleeping passes ticks) next m (none, same) line_at aside = as_phase (IsAside n) next (Submitting passes ticks) same tt
aside_turn n (Submitting passes ticks) next m (pumped, same) line_at aside = as_phase (IsAside n) next (after_pump passes ticks) same (pump_aside n passes ticks)
aside_turn n (Moving passes ticks) next m (still, same) line_at aside = as_phase (IsAside n) next (Moved false passes ticks) same tt
aside_turn n (Moved b passes ticks) next m (still, same) line_at aside = as_phase (IsAside n) next (Sleeping _ ticks) same tt
aside_turn n here next m going line_at aside = absurd going

pub after_turn : (n : ℕ) (here next : Phase) (past : List Entry) (m : Machine) → Turns here m next → LineAt here m → IsAfter n here past → IsAfter n next past
after_turn n here next past m going line_at is = record { woken = is.woken; aside = aside_turn n here next m going line_at is.aside }

pub before_turn : (n : ℕ) (here next : Phase) (past : List Entry) (m : Machine) → Turns here m next → LineAt here m → IsBefore n here past → IsBefore n next past
before_turn n (Begun line) next past m (inl (events, is, same)) line_at (Not_yet never not) = Not_yet never (as_phase (WakesNot n) next (Doing line events) same (effect_wakes_not n line m events line_at.0 is not))
before_turn n (Begun line) next past m (inl (events, is, same)) line_at (Now woken wakes) = Now woken (as_phase (IsToWake n) next (Doing line events) same (effect_wakes n line m events is wakes))
before_turn n (Begun line) next past m (inr (ticks, is, same)) line_at (Not_yet never not) = Not_yet never (as_phase (WakesNot n) next (To_tick ticks) same tt)
before_turn n (Begun line) next past m (inr (ticks, is, same)) line_at (Now woken wakes) = let wrong : [] ≡ Wakes ∷ [] = sym (ap (λ (l : Line). turn_of n l) is) ∙ wakes in absurd cc
before_turn n (Doing line []) next past m same line_at (Not_yet never not) = Not_yet never (as_phase (WakesNot n) next (Sleeping 64 0) same tt)
before_turn n (Doing line []) next past m same line_at (Now woken (route, are)) = absurd cc
before_turn n (To_tick zero) next past m same line_at (Not_yet never not) = Not_yet never (as_phase (WakesNot n) next Between same tt)
before_turn n (Ticked ticks) next past m same line_at (Not_yet never not) = Not_yet never (as_phase (WakesNot n) next (Arriving _ ticks) same tt)
before_turn n (Arriving zero ticks) next past m same line_at (Not_yet never not) = Not_yet never (as_phase (WakesNot n) next (Giving _ ticks) same tt)
before_turn n (Giving zero ticks) next past m same line_at (Not_yet never not) = Not_yet never (as_phase (WakesNot n) next (Ticking_devices 0 _ ticks) same tt)
before_turn n (Ticking_devices place zero ticks) next past m same line_at (Not_yet never not) = Not_yet never (as_phase (WakesNot n) next (Ticking_chip ticks) same tt)
before_turn n (Ticking_host [] ticks) next past m same line_at (Not_yet never not) = Not_yet never (as_phase (WakesNot n) next (Sleeping 64 ticks) same tt)
before_turn n (Sleeping passes ticks) next past m (none, same) line_at (Not_yet never not) = Not_yet never (as_phase (WakesNot n) next (Submitting passes ticks) same tt)
before_turn n (Submitting passes ticks) next past m (pumped, same) line_at (Not_yet never not) = Not_yet never (as_phase (WakesNot n) next (after_pump passes ticks) same (pump_wakes_not n passes ticks))
before_turn n (Moving passes ticks) next past m (still, same) line_at (Not_yet never not) = Not_yet never (as_phase (WakesNot n) next (Moved false passes ticks) same tt)
before_turn n (Moved b passes ticks) next past m (still, same) line_at (Not_yet never not) = Not_yet never (as_phase (WakesNot n) next (Sleeping _ ticks) same tt)
before_turn n (To_tick zero) next past m same line_at (Now woken wakes) = absurd wakes
before_turn n (Ticked ticks) next past m same line_at (Now woken wakes) = absurd wakes
before_turn n (Arriving zero ticks) next past m same line_at (Now woken wakes) = absurd wakes
before_turn n (Giving zero ticks) next past m same line_at (Now woken wakes) = absurd wakes
before_turn n (Ticking_devices place zero ticks) next past m same line_at (Now woken wakes) = absurd wakes
before_turn n (Ticking_host [] ticks) next past m same line_at (Now woken wakes) = absurd wakes
before_turn n (Sleeping passes ticks) next past m going line_at (Now woken wakes) = absurd wakes
before_turn n (Submitting passes ticks) next past m going line_at (Now woken wakes) = absurd wakes
before_turn n (Moving passes ticks) next past m going line_at (Now woken wakes) = absurd wakes
before_turn n (Moved b passes ticks) next past m going line_at (Now woken wakes) = absurd wakes
before_turn n here next past m going line_at before = absurd going

-- ---- it is one of the two

to_wake_aside : (n : ℕ) (here : Phase) → IsToWake n here → IsAside n here → ⊥
to_wake_aside n (Said_line line) wakes aside = let wrong : Wakes ∷ [] ≡ [] = sym wakes ∙ aside in absurd cc
to_wake_aside n (Begun line) wakes aside = let wrong : Wakes ∷ [] ≡ [] = sym wakes ∙ aside in absurd cc
to_wake_aside n (Doing line left) (route, are) aside = (subst (AllByRecursion (IsOfOther n)) are aside).0 refl
to_wake_aside n here wakes aside = absurd wakes

pub before_or_after : (n : ℕ) (here : Phase) (past : List Entry) → IsBefore n here past → IsAfter n here past → ⊥
before_or_after n here past (Not_yet never not) is = true_not_false (wakes_never (turns n past)) never is.woken
before_or_after n here past (Now woken wakes) is = to_wake_aside n here wakes is.aside
