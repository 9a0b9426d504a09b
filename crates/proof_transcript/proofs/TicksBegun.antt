-- Events that begin so many ticks: no node joins, what is heard is what is reported, and no line is said.
use Rattle.std.proofs.Common.{◌≡◌, ℕ, ◌+◌, ◌==◌, ◌&&◌, Bool, true, false, if◌then◌else◌, cond, List, [], ◌∷◌, ◌++◌, Option, Some, inl, inr, refl, sym, ap, ap₂, subst, ◌∙◌, append-nil, arith}
use Rattle.std.specs.List.{AllByRecursion}
use Rattle.std.proofs.lemmas.Bool.{cases_eq, ne_eqb}
use Rattle.std.proofs.lemmas.Grind.{flat_map-append}
use Rattle.zw_base.proofs.Each.{all-append, all-weaker}
use Rattle.zw_base.specs.PropertyOrder.{same_property}
use Rattle.zw_base.specs.declared.property.Property.{Property}
use Rattle.zw_base.specs.declared.property.Setting.{Setting}
use Rattle.zw_text.specs.declared.entry.Entry.{Entry}
use Rattle.zw_text.specs.declared.entry.Entry.TheVariants.{Refused, Report}
use Rattle.zw_text.specs.Transcript.{reported, reported_at}
use Rattle.zw_text.proofs.Views.{shown-append}
use Rattle.law_host.specs.law_transcript.Stores.{last_value}
use Rattle.value_store.specs.Values.{stored_of}
use Rattle.value_store.specs.declared.stored.Stored.{Stored}
use Rattle.value_store.proofs.Keys.{same_property_laws}
use Rattle.proof_air.proofs.host_model_Values.{stored-one}
use Rattle.serial_frame.specs.Stream.{Rest}
use Rattle.serial_frame.specs.declared.item.Item.{Item}
use Rattle.proof_air.specs.host_model.State.{HostState}
use Rattle.proof_air.specs.host_model.Events.{HostEvent, Accepts, Cancels, Hears_value}
use Rattle.proof_air.specs.host_model.After.{after}
use Rattle.proof_air.specs.host_model.Outs.{outs, answers}
use Rattle.proof_air.specs.host_model.Did.{after_all, outs_all}
use Rattle.proof_air.specs.host_model.declared.out.HostOut.{HostOut}
use Rattle.proof_air.specs.proof_host.Entries.{note_of, notes_of}
use Rattle.proof_air.specs.outside_model.State.{Outside}
use Rattle.proof_air.specs.outside_model.Events.{OuterEvent, Begins_tick, Repeats, Wakes_device, Sets_device, Shows, outcome}
use Rattle.proof_air.specs.outside_model.Did.{entries_all as entries_all_outside}
use Rattle.proof_air.specs.world_model.State.{Machine, host_does, host_entries, routed}
use Rattle.proof_air.specs.world_model.Events.{Event, Outside_does, Host_does, Host_takes, Decoder_ticks, Refuses, Shows_values, Restarts, entries, fed, happens, notes, shown_values, May}
use Rattle.proof_air.specs.world_model.Did.{happens_all, entries_all, MayAll}
use Rattle.proof_air.proofs.EventLists.{happens_all-append, entries_all-append}
use Rattle.proof_transcript.proofs.Outer.{IsPlain, ArePlain, IsMildOuter, own_clock, own_plain}
use Rattle.proof_transcript.proofs.Noted.{HearsOnly, event_plain}
use Rattle.proof_transcript.proofs.Hosts.{IsNoJoin, LeavesRecords, SameJoined, heard_in, joined_in, event_kept}
use Rattle.proof_transcript.proofs.Judged.{all_judged_join_none}
use Rattle.proof_transcript.proofs.Routed.{note_clock, note_plain, notes_clock, notes_plain, reports_none, routed_clock, routed_plain, routed_reports}

-- ---- values that are reported

pub last_append : (before : Option ℕ) (a b : List Setting) (p : Property) → last_value before (a ++ b) p ≡ last_value (last_value before a p) b p
last_append before [] b p = refl
last_append before (s ∷ a) b p = last_append (if same_property s.property p then Some s.value else before) a b p

notes-append : (a b : List HostOut) → notes_of (a ++ b) ≡ notes_of a ++ notes_of b
notes-append a b = flat_map-append note_of a b

-- ---- a host

-- no node joins, and what is heard is what is noted
pub record HostGoes (h new : HostState) (puts : List HostOut) : Type 0 where
  pub joined : SameJoined h.nodes new.nodes
  pub heard : (node : ℕ) (p : Property) → heard_in new.store node p ≡ last_value (heard_in h.store node p) (reported node (notes_of puts)) p
  pub plain : ArePlain false true (notes_of puts)

module _ (law : LeavesRecords) where
  quiet_goes : (h : HostState) (event : HostEvent) → IsNoJoin event → HearsOnly false event → HostGoes h (after h event) (outs h event)
  quiet_goes h event none hears =
      let kept = event_kept law h event none hears in
      record {
        joined = kept.0;
        heard = λ node p. kept.1 node p
            ∙ sym (ap (λ (l : List Setting). last_value (heard_in h.store node p) l p) (reports_none false node (notes_of (outs h event)) (event_plain false h event hears)));
        plain = event_plain true h event (may_hear event);
      }
    where
      may_hear : (event : HostEvent) → HearsOnly true event
      may_hear (Hears_value n setting) = refl
      may_hear event = tt

  -- a value that is heard is that of its property, and of no other
  picks : (b c : Bool) (value : ℕ) (one other : Stored) → one.heard ≡ Some value → (cond (b && c) one other).heard ≡ (if b then (if c then Some value else other.heard) else other.heard)
  picks true true value one other is = is
  picks true false value one other is = refl
  picks false c value one other is = refl

  last_one : (b : Bool) (before : Option ℕ) (s : Setting) (p : Property)
      → last_value before ((if b then s ∷ [] else []) ++ []) p ≡ (if b then (if same_property s.property p then Some s.value else before) else before)
  last_one true before s p = refl
  last_one false before s p = refl

  same_number : (a b : ℕ) → (a == b) ≡ (b == a)
  same_number a b = elim (cases_eq a b) [
    | inl same ↦ subst (λ (k : ℕ). (a == k) ≡ (k == a)) same refl
    | inr other ↦ ne_eqb a b other ∙ sym (ne_eqb b a (λ e. other (sym e)))
  ]

  pub event_goes_host : (h : HostState) (event : HostEvent) → IsNoJoin event → HostGoes h (after h event) (outs h event)
  event_goes_host h (Hears_value n setting) none =
      let one : Stored = record (stored_of h.store n setting.property) { heard = Some setting.value } in
      record {
        joined = λ m. refl;
        heard = λ node p.
            ap (λ (s : Stored). s.heard) (stored-one h.store n setting.property one node p)
            ∙ (picks (node == n) (same_property p setting.property) setting.value one (stored_of h.store node p) refl
            ∙ (ap₂ (λ (b c : Bool). if b then (if c then Some setting.value else heard_in h.store node p) else heard_in h.store node p) (same_number node n) (same_property_laws.symm p setting.property)
            ∙ sym (last_one (n == node) (heard_in h.store node p) setting p)));
        plain = (refl, tt);
      }
  event_goes_host h event none = quiet_goes h event none tt

  none_goes : (h : HostState) → HostGoes h h []
  none_goes h = record { joined = λ m. refl; heard = λ node p. refl; plain = tt }

  both_go : (a b c : HostState) (first later : List HostOut) → HostGoes a b first → HostGoes b c later → HostGoes a c (first ++ later)
  both_go a b c first later went goes = record {
    joined = λ m. goes.joined m ∙ went.joined m;
    heard = λ node p.
        goes.heard node p
        ∙ (ap (λ (o : Option ℕ). last_value o (reported node (notes_of later)) p) (went.heard node p)
        ∙ (sym (last_append (heard_in a.store node p) (reported node (notes_of first)) (reported node (notes_of later)) p)
        ∙ ap (λ (l : List Setting). last_value (heard_in a.store node p) l p)
        (sym (ap (λ (l : List Entry). reported node l) (notes-append first later) ∙ shown-append (reported_at node) (notes_of first) (notes_of later)))));
    plain = subst (ArePlain false true) (sym (notes-append first later)) (all-append (IsPlain false true) (notes_of first) (notes_of later) went.plain goes.plain);
  }

  all_go : (h : HostState) (events : List HostEvent) → AllByRecursion IsNoJoin events → HostGoes h (after_all h events) (outs_all h events)
  all_go h [] none = none_goes h
  all_go h (event ∷ events) none =
      both_go h (after h event) (after_all (after h event) events) (outs h event) (outs_all (after h event) events) (event_goes_host h event none.0) (all_go (after h event) events none.1)

-- ---- the machine

-- so many ticks begin at these events, and they refuse a line only where that may be
pub record Goes (refusals : Bool) (count : ℕ) (m : Machine) (events : List Event) : Type 0 where
  pub clock : (happens_all m events).outside.outer.clock ≡ m.outside.outer.clock + count
  pub joined : SameJoined m.host.state.nodes (happens_all m events).host.state.nodes
  pub heard : (node : ℕ) (p : Property) → heard_in (happens_all m events).host.state.store node p ≡ last_value (heard_in m.host.state.store node p) (reported node (entries_all m events)) p
  pub plain : ArePlain refusals true (entries_all m events)

plus_none : (a : ℕ) → a ≡ a + 0
plus_none a = omega arith

pub goes_none : (refusals : Bool) (m : Machine) → Goes refusals 0 m []
goes_none refusals m = record { clock = plus_none m.outside.outer.clock; joined = λ n. refl; heard = λ node p. refl; plain = tt }

pub goes_both : (refusals : Bool) (few more : ℕ) (m : Machine) (a b : List Event) → Goes refusals few m a → Goes refusals more (happens_all m a) b → Goes refusals (few + more) m (a ++ b)
goes_both refusals few more m a b first later =
    let mid = happens_all m a in
    let is : happens_all m (a ++ b) ≡ happens_all mid b = happens_all-append m a b in
    let before = first.clock in
    let after_it = later.clock in
    let count : (happens_all mid b).outside.outer.clock ≡ m.outside.outer.clock + (few + more) = omega (arith, before, after_it) in
    record {
      clock = ap (λ (x : Machine). x.outside.outer.clock) is ∙ count;
      joined = λ n. ap (λ (x : Machine). (joined_in x.host.state.nodes n)) is ∙ (later.joined n ∙ first.joined n);
      heard = λ node p.
          ap (λ (x : Machine). heard_in x.host.state.store node p) is
          ∙ (later.heard node p
          ∙ (ap (λ (o : Option ℕ). last_value o (reported node (entries_all mid b)) p) (first.heard node p)
          ∙ (sym (last_append (heard_in m.host.state.store node p) (reported node (entries_all m a)) (reported node (entries_all mid b)) p)
          ∙ ap (λ (l : List Setting). last_value (heard_in m.host.state.store node p) l p)
          (sym (ap (λ (l : List Entry). reported node l) (entries_all-append m a b) ∙ shown-append (reported_at node) (entries_all m a) (entries_all mid b))))));
      plain = subst (ArePlain refusals true) (sym (entries_all-append m a b)) (all-append (IsPlain refusals true) (entries_all m a) (entries_all mid b) first.plain later.plain);
    }

-- an event at which no tick begins, no node joins and no host starts again
abbrev pub IsMild : Bool → Event → Type 0
IsMild refusals (Outside_does event) = IsMildOuter refusals event
IsMild refusals (Host_does event) = IsNoJoin event
IsMild refusals (Host_takes count rest items events) = Unit {0}
IsMild refusals Decoder_ticks = Unit {0}
IsMild refusals (Refuses line refusal) = refusals ≡ true
IsMild refusals (Shows_values node) = Unit {0}
IsMild refusals (Restarts state) = ⊥

abbrev pub AreMild : Bool → List Event → Type 0
AreMild refusals events = AllByRecursion (IsMild refusals) events

outer_weaker : (event : OuterEvent) → IsMildOuter false event → IsMildOuter true event
outer_weaker Begins_tick mild = absurd mild
outer_weaker (Repeats number drawn route) mild = refl
outer_weaker (Wakes_device node route) mild = refl
outer_weaker (Sets_device node value route) mild = refl
outer_weaker (Shows node) mild = refl
outer_weaker event mild = tt

event_weaker : (event : Event) → IsMild false event → IsMild true event
event_weaker (Outside_does event) mild = outer_weaker event mild
event_weaker (Host_does event) mild = mild
event_weaker (Refuses line refusal) mild = refl
event_weaker (Restarts state) mild = absurd mild
event_weaker event mild = tt

pub mild_weaker : (events : List Event) → AreMild false events → AreMild true events
mild_weaker events mild = all-weaker (IsMild false) (IsMild true) event_weaker events mild

-- what is plain without refusals is plain with them
weaker : (refusals : Bool) (es : List Entry) → ArePlain false true es → ArePlain refusals true es
weaker true es plain = all-weaker (IsPlain false true) (IsPlain true true) one es plain
  where
    one : (entry : Entry) → IsPlain false true entry → IsPlain true true entry
    one (Refused refusal) plain = refl
    one entry plain = plain
weaker false es plain = plain

module _ (law : LeavesRecords) where
  -- what an event does, told of its state and its entries
  record Step (refusals : Bool) (m : Machine) (event : Event) : Type 0 where
    pub clock : (happens m event).outside.outer.clock ≡ m.outside.outer.clock
    pub joined : SameJoined m.host.state.nodes (happens m event).host.state.nodes
    pub heard : (node : ℕ) (p : Property) → heard_in (happens m event).host.state.store node p ≡ last_value (heard_in m.host.state.store node p) (reported node (entries m event)) p
    pub plain : ArePlain refusals true (entries m event)

  -- nothing of the host changes, and nothing is reported
  still_step : (refusals : Bool) (m : Machine) (event : Event) → (happens m event).outside.outer.clock ≡ m.outside.outer.clock → (happens m event).host.state ≡ m.host.state
      → ArePlain refusals false (entries m event) → Step refusals m event
  still_step refusals m event clock same plain = record {
    clock = clock;
    joined = λ n. ap (λ (h : HostState). joined_in h.nodes n) same;
    heard = λ node p. ap (λ (h : HostState). heard_in h.store node p) same
        ∙ sym (ap (λ (l : List Setting). last_value (heard_in m.host.state.store node p) l p) (reports_none refusals node (entries m event) plain));
    plain = all-weaker (IsPlain refusals false) (IsPlain refusals true) (may_report refusals) (entries m event) plain;
  }
    where
      may_report : (refusals : Bool) (entry : Entry) → IsPlain refusals false entry → IsPlain refusals true entry
      may_report refusals (Report node setting) plain = refl
      may_report refusals entry plain = plain

  answers_plain : (refusals reports : Bool) (h : HostState) (event : HostEvent) → ArePlain refusals reports (answers h event)
  answers_plain refusals reports h (Accepts order carriage) = (tt, tt)
  answers_plain refusals reports h (Cancels command) = (tt, tt)
  answers_plain refusals reports h event = tt

  -- what is entered of a host reports what it notes
  host_entered : (w : Outside) (h : HostState) (events : List HostEvent) (answered : List Entry) (node : ℕ) → ArePlain false false answered
      → reported node (entries_all_outside w (routed (outs_all h events)) ++ answered) ≡ reported node (notes_of (outs_all h events))
  host_entered w h events answered node plain =
      shown-append (reported_at node) (entries_all_outside w (routed (outs_all h events))) answered
      ∙ (ap₂ (λ (a b : List Setting). a ++ b) (routed_reports node w (outs_all h events)) (reports_none false node answered plain)
      ∙ append-nil (reported node (notes_of (outs_all h events))))

  host_step : (refusals : Bool) (m : Machine) (event : HostEvent) → IsNoJoin event → Step refusals m (Host_does event)
  unfolding happens entries
  host_step refusals m event none =
      let h = m.host.state in
      let did = host_does m (event ∷ []) in
      let answered = entries_all_outside did.outside (notes (answers h event)) in
      let goes = all_go law h (event ∷ []) (none, tt) in
      record {
        clock = notes_clock did.outside (answers h event) ∙ routed_clock m.outside (outs_all h (event ∷ []));
        joined = goes.joined;
        heard = λ node p.
            goes.heard node p
            ∙ sym (ap (λ (l : List Setting). last_value (heard_in h.store node p) l p)
            (host_entered m.outside h (event ∷ []) answered node (notes_plain false false did.outside (answers h event) (answers_plain false false h event))));
        plain = all-append (IsPlain refusals true) (host_entries m (event ∷ [])) answered
            (weaker refusals (host_entries m (event ∷ [])) (routed_plain false true m.outside (outs_all h (event ∷ [])) goes.plain))
            (notes_plain refusals true did.outside (answers h event) (answers_plain refusals true h event));
      }

  takes_step : (refusals : Bool) (m : Machine) (count : ℕ) (rest : Rest) (items : List Item) (events : List HostEvent) → AllByRecursion IsNoJoin events → Step refusals m (Host_takes count rest items events)
  unfolding happens entries outcome
  takes_step refusals m count rest items events none =
      let h = m.host.state in
      let w = (fed m count rest).outside in
      let goes = all_go law h events none in
      record {
        clock = routed_clock w (outs_all h events);
        joined = goes.joined;
        heard = λ node p.
            goes.heard node p
            ∙ sym (ap (λ (l : List Setting). last_value (heard_in h.store node p) l p) (routed_reports node w (outs_all h events)));
        plain = weaker refusals (host_entries (fed m count rest) events) (routed_plain false true w (outs_all h events) goes.plain);
      }

  mild_step : (refusals : Bool) (m : Machine) (event : Event) → IsMild refusals event → May m event → Step refusals m event
  unfolding happens entries May
  mild_step refusals m (Outside_does event) mild may =
      still_step refusals m (Outside_does event) (own_clock refusals m.outside event mild) refl (own_plain refusals false m.outside event may.0 mild)
  mild_step refusals m (Host_does event) mild may = host_step refusals m event mild
  mild_step refusals m (Host_takes count rest items events) mild may = takes_step refusals m count rest items events (all_judged_join_none m.host.state items events may.judged)
  mild_step refusals m Decoder_ticks mild may = still_step refusals m Decoder_ticks refl refl tt
  mild_step refusals m (Refuses line refusal) mild may =
      still_step refusals m (Refuses line refusal) (note_clock m.outside (Refused refusal)) refl (note_plain refusals false m.outside (Refused refusal) mild)
  mild_step refusals m (Shows_values node) mild may =
      still_step refusals m (Shows_values node) (note_clock m.outside (shown_values m.host.state node)) refl (note_plain refusals false m.outside (shown_values m.host.state node) tt)
  mild_step refusals m (Restarts state) mild may = absurd mild

  step_goes : (refusals : Bool) (m : Machine) (event : Event) → Step refusals m event → Goes refusals 0 m (event ∷ [])
  step_goes refusals m event step = record {
    clock = step.clock ∙ plus_none m.outside.outer.clock;
    joined = step.joined;
    heard = λ node p. step.heard node p ∙ ap (λ (l : List Entry). last_value (heard_in m.host.state.store node p) (reported node l) p) (sym (append-nil (entries m event)));
    plain = subst (ArePlain refusals true) (sym (append-nil (entries m event))) step.plain;
  }

  pub mild_goes : (refusals : Bool) (m : Machine) (events : List Event) → AreMild refusals events → MayAll m events → Goes refusals 0 m events
  mild_goes refusals m [] mild may = goes_none refusals m
  mild_goes refusals m (event ∷ events) mild may =
      goes_both refusals 0 0 m (event ∷ []) events (step_goes refusals m event (mild_step refusals m event mild.0 may.0)) (mild_goes refusals (happens m event) events mild.1 may.1)

-- a tick begins
pub tick_goes : (m : Machine) → Goes false 1 m (Outside_does Begins_tick ∷ [])
unfolding happens entries outcome
tick_goes m = record { clock = refl; joined = λ n. refl; heard = λ node p. refl; plain = tt }
