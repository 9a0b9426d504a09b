-- A device that ticks: it keeps its node, and what is told of it is what an event of it is.
use Rattle.std.proofs.Common.{◌≡◌, inr, ℕ, ◌+◌, ◌==◌, if◌then◌else◌, Bool, true, false, Option, List, [], ◌∷◌, ◌++◌, length, drop, refl, sym, ap, length-append, ◌∙◌, subst, arith}
use Rattle.route_table.specs.declared.route.Route.{Route}
use Rattle.device_kinds.specs.declared.change.Change.{Change}
use Rattle.device_stack.specs.State.{Outcome as DeviceOutcome}
use Rattle.device_stack.specs.Ticking.{ticked}
use Rattle.device_sim.specs.State.{State}
use Rattle.device_sim.specs.Event.{DeviceEvent, Ticks, device_after, device_replies, outcome_of}
use Rattle.zw_text.specs.declared.entry.Entry.{Entry}
use Rattle.outside_model.specs.State.{OuterState, Does, tells, and_then}
use Rattle.outside_model.specs.Devices.{acts, changes_entries, new_changes, sends, HasWay}
use Rattle.outside_calls.specs.Acting.{HasActed}

node_of_either : (test : Bool) (a b : DeviceOutcome) (node : ℕ) → a.device.node ≡ node → b.device.node ≡ node → (if test then a else b).device.node ≡ node
node_of_either true a b node first second = first
node_of_either false a b node first second = second

-- it keeps its node
pub tick_keeps_node : (d : State) (drawn : List ℕ) → (device_after d (Ticks drawn)).node ≡ d.node
unfolding device_after outcome_of ticked
tick_keeps_node d drawn = node_of_either (d.work_left == 0) _ _ d.node refl (node_of_either (d.work_left == 1) _ _ d.node refl refl)

-- one that makes no change sends nothing
sends_nothing : (test : Bool) (a b : DeviceOutcome) (n : ℕ) → (length a.device.journal ≡ n → a.replies ≡ []) → (length b.device.journal ≡ n → b.replies ≡ [])
    → length (if test then a else b).device.journal ≡ n → (if test then a else b).replies ≡ []
sends_nothing true a b n first second same = first same
sends_nothing false a b n first second same = second same

longer : {A : Type 0} (xs : List A) (x : A) → length (xs ++ x ∷ []) ≡ length xs → ⊥
longer xs x same = omega (arith, length-append xs (x ∷ []), same)

pub tick_sends_nothing : (d : State) (drawn : List ℕ) → length (device_after d (Ticks drawn)).journal ≡ length d.journal → device_replies d (Ticks drawn) ≡ []
unfolding device_after device_replies outcome_of ticked
tick_sends_nothing d drawn same =
    sends_nothing (d.work_left == 0) _ _ (length d.journal) (λ e. refl)
    (sends_nothing (d.work_left == 1) _ _ (length d.journal) (λ e. absurd (longer d.journal _ e)) (λ e. refl)) same

-- the same, of what a tick answers
pub ticks_quietly : (d d' : State) (replies : List (List ℕ)) (made : ℕ) → d' ≡ device_after d (Ticks []) → replies ≡ device_replies d (Ticks [])
    → length d'.journal ≡ length d.journal + made → made ≡ 0 → replies ≡ []
ticks_quietly d d' replies made after sent count none =
    let same : length d'.journal ≡ length d.journal = omega (arith, count, none) in
    sent ∙ tick_sends_nothing d [] (ap (λ (s : State). length s.journal) (sym after) ∙ same)

module _ (o : OuterState) (d d' : State) (event : DeviceEvent) (replies : List (List ℕ)) (after : d' ≡ device_after d event) (sent : replies ≡ device_replies d event) where
  -- what it changed was told, and what it sends went on the air
  pub has_told : (mid : OuterState) (node first : ℕ) (start told : List Entry) → node ≡ d.node → first ≡ length d.journal
      → (route : Option Route) × HasWay o.air.network node replies route
      × Does (and_then (tells o (changes_entries node (drop first d'.journal))) (λ later. sends later node route replies)) mid start told
      → (route : Option Route) × HasWay o.air.network d.node (device_replies d event) route × Does (acts o d event route) mid start told
  has_told mid node first start told here from did =
      subst (λ n. Told n (new_changes d event) (device_replies d event)) here
      (subst (λ (l : List Change). Told node l (device_replies d event)) (ap (λ n. drop n d'.journal) from ∙ ap (λ (x : State). drop (length d.journal) x.journal) after)
      (subst (λ (l : List (List ℕ)). Told node (drop first d'.journal) l) sent did))
    where
      Told : ℕ → List Change → List (List ℕ) → Type 0
      Told n changes rs = (route : Option Route) × HasWay o.air.network n rs route × Does (and_then (tells o (changes_entries n changes)) (λ later. sends later n route rs)) mid start told

  -- it has done it, whatever became of that
  pub has_acted : (node : ℕ) (route : Option Route) → node ≡ d.node → HasWay o.air.network node replies route → HasActed o d d' event
  has_acted node route here way = inr (
    route,
    subst (λ n. HasWay o.air.network n (device_replies d event) route) here (subst (λ (l : List (List ℕ)). HasWay o.air.network node l route) sent way),
    after,
  )
