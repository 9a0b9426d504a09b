-- A line keeps what is said of the orders before it, and adds the one that it asks for.
use Rattle.std.proofs.Common.{◌≡◌, ℕ, ◌+◌, Bool, if◌then◌else◌, List, [], ◌∷◌, ◌++◌, length, Option, Some, unwrap_or, inl, inr, refl, sym, ap, subst, ◌∙◌, append_assoc, append-nil, arith}
use Rattle.std.specs.List.{AllByRecursion, list_any}
use Rattle.std.proofs.lemmas.List.{length-append}
use Rattle.zw_base.specs.declared.order.Order.{Order}
use Rattle.zw_text.specs.declared.line.Line.{Line}
use Rattle.zw_text.specs.declared.line.Line.TheVariants.{Command as Commanded}
use Rattle.zw_text.specs.declared.entry.Entry.{Entry}
use Rattle.zw_text.specs.declared.entry.Entry.TheVariants.{Accepted, Said}
use Rattle.zw_text.specs.declared.entry.Outcome.TheVariants.{Waiting}
use Rattle.zw_text.specs.Transcript.{accepted_number, accepted_numbers, interview_at, interviews, line_after, line_last, line_of}
use Rattle.zw_text.proofs.Views.{folded-append, shown-append}
use Rattle.proof_once.specs.law_transcript.Nodes.{host_list, known_at_first, known_classes, always}
use Rattle.host_keep.specs.Kept.{Taken}
use Rattle.host_orders.specs.Wrapping.{carriage_of}
use Rattle.host_orders.specs.declared.carriage.Carriage.{Carriage}
use Rattle.proof_world.specs.host_model.State.{Command, HostState}
use Rattle.proof_world.specs.host_model.Events.{HostEvent, Accepts}
use Rattle.proof_world.specs.host_model.May.{IsAccepted}
use Rattle.proof_world.specs.host_model.After.{after as host_after}
use Rattle.proof_world.specs.host_model.Did.{after_all as host_after_all}
use Rattle.proof_once.specs.proof_host.Entries.{IsAside}
use Rattle.proof_once.specs.proof_host.Facts.{Facts}
use Rattle.proof_once.specs.proof_host.Tables.{taken_at}
use Rattle.proof_once.proofs.Lists.{each-append, each-anywhere, each-weaker}
use Rattle.proof_once.specs.outside_model.Events.{Begins_line, devices_after, outcome}
use Rattle.proof_once.specs.world_model.State.{Machine}
use Rattle.proof_once.specs.world_model.Events.{Event, Outside_does, Host_does, Host_takes, Decoder_ticks, Refuses, Shows_values, Restarts, happens, entries, May}
use Rattle.proof_once.specs.world_model.Did.{happens_all, entries_all, MayAll}
use Rattle.proof_once.specs.world_model.Prefixes.{LinePart}
use Rattle.proof_world.proofs.Silence.{judged_silent}
use Rattle.proof_once.proofs.world_model_EventLists.{entries_all-append}
use Rattle.proof_world.specs.Restarts.{StartsWell, AllStartWell}
use Rattle.proof_world.specs.world_lines.Spoken.{Spoken, after, after_all, entries_of, transcript_of}
use Rattle.proof_spoken.specs.Spoken.{IsSpoken, AreSpoken}
use Rattle.proof_spoken.specs.Said.{AllKnow, AreSaid, IsSaid, KnowsListing, MayAnswer}
use Rattle.proof_spoken.proofs.Orders.{IsNoOrder, SameOrders, event_kept, push_is, push_stays, restart_kept, same_orders, then_same}
use Rattle.proof_spoken.proofs.Plain.{IsPlain, ArePlain, Orders, spoken_part, line_kind, line_orders, line_plain, silent_none}

-- ---- the table over events that accept no order

hosts_kept : (h : HostState) (events : List HostEvent) → AllByRecursion IsNoOrder events → SameOrders h.commands (host_after_all h events).commands
hosts_kept h [] none = same_orders h.commands
hosts_kept h (event ∷ events) none =
    then_same h.commands (host_after h event).commands (host_after_all (host_after h event) events).commands (event_kept h event none.0) (hosts_kept (host_after h event) events none.1)

pub machine_kept : (m : Machine) (event : Event) → IsPlain event → May m event → StartsWell m event → SameOrders m.host.state.commands (happens m event).host.state.commands
unfolding happens May
machine_kept m (Outside_does event) plain may well = same_orders m.host.state.commands
machine_kept m (Host_does event) plain may well = event_kept m.host.state event plain
machine_kept m (Host_takes count rest items events) plain may well =
    hosts_kept m.host.state events (silent_none m.host.state events (judged_silent m.host.state items events may.judged))
machine_kept m Decoder_ticks plain may well = same_orders m.host.state.commands
machine_kept m (Refuses line refusal) plain may well = same_orders m.host.state.commands
machine_kept m (Shows_values node) plain may well = same_orders m.host.state.commands
machine_kept m (Restarts state) plain may well = restart_kept m.host.state state well

pub events_kept : (m : Machine) (events : List Event) → ArePlain events → MayAll m events → AllStartWell m events → SameOrders m.host.state.commands (happens_all m events).host.state.commands
events_kept m [] plain may well = same_orders m.host.state.commands
events_kept m (event ∷ events) plain may well =
    then_same m.host.state.commands (happens m event).host.state.commands (happens_all (happens m event) events).host.state.commands
    (machine_kept m event plain.0 may.0 well.0) (events_kept (happens m event) events plain.1 may.1 well.1)

-- ---- entries without numbers

abbrev IsNoNumber : Entry → Type 0
IsNoNumber (Accepted command node) = ⊥
IsNoNumber entry = Unit {0}

nil_both : (xs ys : List ℕ) → xs ++ ys ≡ [] → (xs ≡ []) × (ys ≡ [])
nil_both [] ys e = (refl, e)
nil_both (x ∷ xs) ys e = absurd (grind arith)

one_none : (entry : Entry) → accepted_number entry ≡ [] → IsNoNumber entry
one_none (Accepted command node) e = absurd (grind arith)
one_none entry e = tt

none_accepted : (es : List Entry) → accepted_numbers es ≡ [] → AllByRecursion IsNoNumber es
none_accepted [] e = tt
none_accepted (entry ∷ es) e = let both = nil_both (accepted_number entry) (accepted_numbers es) e in (one_none entry both.0, none_accepted es both.1)

no_length : (xs : List ℕ) → length xs ≡ 0 → xs ≡ []
no_length [] e = refl
no_length (x ∷ xs) e = absurd (omega (arith, e))

-- where no number is added to the table none is entered
none_added : (past es : List Entry) (commands more : List Command) → length (accepted_numbers past) ≡ length commands → length (accepted_numbers (past ++ es)) ≡ length more
    → length more ≡ length commands → AllByRecursion IsNoNumber es
none_added past es commands more before now same =
    let parts : length (accepted_numbers past ++ accepted_numbers es) ≡ length more
    = ap (λ (l : List ℕ). length l) (sym (shown-append accepted_number past es)) ∙ now in
    let both = length-append (accepted_numbers past) (accepted_numbers es) in
    none_accepted es (no_length (accepted_numbers es) (omega (arith, before, parts, both, same)))

-- ---- what is said of orders

abbrev Stays : List Command → List Command → Type 0
Stays old new = (number : ℕ) (taken : Taken) → taken_at old number ≡ Some taken → taken_at new number ≡ Some taken

same_stays : (old new : List Command) → SameOrders old new → Stays old new
same_stays old new same number taken e = same.taken number ∙ e

one_stays : (listing : ℕ → List ℕ) (old new : List Command) → Stays old new → (past : List Entry) (entry : Entry) → MayAnswer (always listing) old past entry → MayAnswer (always listing) new past entry
one_stays listing old new stays past (Accepted command node) is = record {
  order = is.order;
  carriage = is.carriage;
  said = is.said;
  of_node = is.of_node;
  taken = stays command (record { order = is.order; carriage = is.carriage }) is.taken;
  carried = is.carried;
}
one_stays listing old new stays past entry is = tt

said_stays : (listing : ℕ → List ℕ) (old new : List Command) (past : List Entry) → Stays old new → AreSaid (always listing) old past → AreSaid (always listing) new past
said_stays listing old new past stays said = each-weaker (MayAnswer (always listing) old) (MayAnswer (always listing) new) (one_stays listing old new stays) [] past said

free_answer : (listing : ℕ → List ℕ) (commands : List Command) (past : List Entry) (entry : Entry) → IsNoNumber entry → MayAnswer (always listing) commands past entry
free_answer listing commands past (Accepted command node) none = absurd none
free_answer listing commands past entry none = tt

said_more : (listing : ℕ → List ℕ) (commands : List Command) (past es : List Entry) → AreSaid (always listing) commands past → AllByRecursion IsNoNumber es → AreSaid (always listing) commands (past ++ es)
said_more listing commands past es said none =
    each-append (MayAnswer (always listing) commands) [] past es said
    (each-anywhere (MayAnswer (always listing) commands) IsNoNumber (free_answer listing commands) past es none)

-- ---- a line that is said

pub last_said : (past : List Entry) (words : List ℕ) → line_last (past ++ Said words ∷ []) ≡ line_of (Said words)
last_said past words = folded-append line_after [] past (Said words ∷ [])

known_said : (listing : ℕ → List ℕ) (past : List Entry) (words : List ℕ) (node : ℕ) → known_classes (always listing) (past ++ Said words ∷ []) node ≡ known_classes (always listing) past node
known_said listing past words node =
    ap (λ (l : List Bool). if list_any (λ succeeded. succeeded) l then Some (listing node) else known_at_first node)
    (shown-append (interview_at node) past (Said words ∷ []) ∙ append-nil (interviews node past))

-- the acceptance stands directly after the line
pub opening : (m : Machine) (order : Order) (carriage : Carriage)
    → entries_all m (Outside_does Begins_line ∷ Host_does (Accepts order carriage) ∷ []) ≡ Accepted (length m.host.state.commands + 1) order.node ∷ []
unfolding happens entries outcome devices_after
opening m order carriage = refl

pub taken_then : (m : Machine) (order : Order) (carriage : Carriage)
    → (happens_all m (Outside_does Begins_line ∷ Host_does (Accepts order carriage) ∷ [])).host.state.commands
    ≡ m.host.state.commands ++ record { order = order; carriage = carriage; outcome = Waiting } ∷ []
unfolding happens
taken_then m order carriage = refl

pub may_accept : (m : Machine) (order : Order) (carriage : Carriage) → MayAll m (Outside_does Begins_line ∷ Host_does (Accepts order carriage) ∷ []) → IsAccepted m.host.state order carriage
unfolding happens May
may_accept m order carriage may = may.1.0.0

-- what is proved of the machine
abbrev pub FactsGoOn : Type 0
FactsGoOn = (past : List Entry) (m : Machine) (events : List Event) → Facts past m.host.state → MayAll m events → AllStartWell m events
    → Facts (past ++ entries_all m events) (happens_all m events).host.state

abbrev pub AsidesKeep : Type 0
AsidesKeep = (past : List Entry) (h : HostState) (entry : Entry) → Facts past h → IsAside entry → Facts (past ++ entry ∷ []) h

-- the host goes on from what was said
pub record IsSo (listing : ℕ → List ℕ) (past : List Entry) (m : Machine) : Type 0 where
  pub facts : Facts past m.host.state
  pub said : AreSaid (always listing) m.host.state.commands past

module _ (go_on : FactsGoOn) (listing : ℕ → List ℕ) where
  pub plain_so : (past : List Entry) (m : Machine) (events : List Event) → ArePlain events → MayAll m events → AllStartWell m events → IsSo listing past m
      → IsSo listing (past ++ entries_all m events) (happens_all m events)
  plain_so past m events plain may well so =
      let old = m.host.state.commands in
      let new = (happens_all m events).host.state.commands in
      let same = events_kept m events plain may well in
      let facts = go_on past m events so.facts may well in
      let none = none_added past (entries_all m events) old new so.facts.accepted.count facts.accepted.count same.count in
      record { facts = facts; said = said_stays listing old new (past ++ entries_all m events) (same_stays old new same) (said_more listing old past (entries_all m events) so.said none) }

  -- an order is accepted directly after its line
  pub order_so : (past : List Entry) (m : Machine) (words : List ℕ) (order : Order) (carriage : Carriage)
      → line_of (Said words) ≡ Commanded order ∷ [] → KnowsListing (always listing) past m.host.state → MayAll m (Outside_does Begins_line ∷ Host_does (Accepts order carriage) ∷ [])
      → AllStartWell m (Outside_does Begins_line ∷ Host_does (Accepts order carriage) ∷ []) → IsSo listing (past ++ Said words ∷ []) m
      → IsSo listing ((past ++ Said words ∷ []) ++ entries_all m (Outside_does Begins_line ∷ Host_does (Accepts order carriage) ∷ []))
      (happens_all m (Outside_does Begins_line ∷ Host_does (Accepts order carriage) ∷ []))
  order_so past m words order carriage read knows may well so =
      let events = Outside_does Begins_line ∷ Host_does (Accepts order carriage) ∷ [] in
      let before = past ++ Said words ∷ [] in
      let old = m.host.state.commands in
      let one : Command = record { order = order; carriage = carriage; outcome = Waiting } in
      let is = may_accept m order carriage may in
      let classes : host_list (always listing) before order.node ≡ is.classes
      = ap (λ (o : Option (List ℕ)). unwrap_or o []) (known_said listing past words order.node ∙ sym (knows order.node) ∙ is.listed) in
      let answer : IsSaid (always listing) (old ++ one ∷ []) before (length old + 1) order.node = record {
        order = order;
        carriage = carriage;
        said = last_said past words ∙ read;
        of_node = refl;
        taken = push_is old one;
        carried = is.carried ∙ ap (λ (l : List ℕ). carriage_of l order) (sym classes);
      } in
      let said = each-append (MayAnswer (always listing) (old ++ one ∷ [])) [] before (Accepted (length old + 1) order.node ∷ [])
      (said_stays listing old (old ++ one ∷ []) before (push_stays old one) so.said) (answer, tt) in
      record {
        facts = go_on before m events so.facts may well;
        said = subst (λ (l : List Command). AreSaid (always listing) l (before ++ entries_all m events)) (sym (taken_then m order carriage))
            (subst (λ (l : List Entry). AreSaid (always listing) (old ++ one ∷ []) (before ++ l)) (sym (opening m order carriage)) said);
      }

  -- then the rest of the line
  orders_so : (past : List Entry) (m : Machine) (words : List ℕ) (order : Order) (events : List Event) → line_of (Said words) ≡ Commanded order ∷ []
      → KnowsListing (always listing) past m.host.state → Orders order events → MayAll m events → AllStartWell m events → IsSo listing (past ++ Said words ∷ []) m
      → IsSo listing ((past ++ Said words ∷ []) ++ entries_all m events) (happens_all m events)
  orders_so past m words order events read knows orders may well so =
      let first = Outside_does Begins_line ∷ Host_does (Accepts order orders.carriage) ∷ [] in
      let all = first ++ orders.later in
      let before = past ++ Said words ∷ [] in
      let may_all : MayAll m all = subst (λ (l : List Event). MayAll m l) orders.are may in
      let well_all : AllStartWell m all = subst (λ (l : List Event). AllStartWell m l) orders.are well in
      let opened = order_so past m words order orders.carriage read knows (may_all.0, (may_all.1.0, tt)) (well_all.0, (well_all.1.0, tt)) so in
      let done = plain_so (before ++ entries_all m first) (happens_all m first) orders.later orders.plain may_all.1.1 well_all.1.1 opened in
      subst (λ (l : List Event). IsSo listing (before ++ entries_all m l) (happens_all m l)) (sym orders.are)
      (subst (λ (l : List Entry). IsSo listing l (happens_all m all))
      (append_assoc before (entries_all m first) (entries_all (happens_all m first) orders.later)
      ∙ ap (λ (l : List Entry). before ++ l) (sym (entries_all-append m first orders.later)))
      done)

  module _ (aside : AsidesKeep) where
    events_so : (past : List Entry) (m : Machine) (spoken : Spoken) (more : List Spoken) → KnowsListing (always listing) past m.host.state → IsSpoken more m spoken → IsSo listing (past ++ Said spoken.words ∷ []) m
        → IsSo listing ((past ++ Said spoken.words ∷ []) ++ entries_all m spoken.events) (after m spoken)
    events_so past m spoken more knows is so = elim (line_kind spoken.line) [
      | inl (order, which) ↦ elim (line_orders order m spoken.events (subst (λ (l : Line). LinePart l m spoken.events) which (spoken_part more m spoken is))) [
        | inl orders ↦ orders_so past m spoken.words order spoken.events (is.read ∙ ap (λ (l : Line). l ∷ []) which) knows orders is.may is.well so
        | inr plain ↦ plain_so (past ++ Said spoken.words ∷ []) m spoken.events plain is.may is.well so
      ]
      | inr none ↦ plain_so (past ++ Said spoken.words ∷ []) m spoken.events (line_plain spoken.line m spoken.events none (spoken_part more m spoken is)) is.may is.well so
    ]

    line_so : (past : List Entry) (m : Machine) (spoken : Spoken) (more : List Spoken) → KnowsListing (always listing) past m.host.state → IsSpoken more m spoken → IsSo listing past m
        → IsSo listing (past ++ entries_of m spoken) (after m spoken)
    line_so past m spoken more knows is so =
        let begun : IsSo listing (past ++ Said spoken.words ∷ []) m = record {
          facts = aside past m.host.state (Said spoken.words) so.facts tt;
          said = said_more listing m.host.state.commands past (Said spoken.words ∷ []) so.said (tt, tt);
        } in
        subst (λ (l : List Entry). IsSo listing l (after m spoken)) (append_assoc past (Said spoken.words ∷ []) (entries_all m spoken.events)) (events_so past m spoken more knows is begun)

    lines_so : (past : List Entry) (m : Machine) (lines : List Spoken) → AllKnow listing past m lines → AreSpoken m lines → IsSo listing past m
        → IsSo listing (past ++ transcript_of m lines) (after_all m lines)
    lines_so past m [] knows are so = subst (λ (l : List Entry). IsSo listing l m) (sym (append-nil past)) so
    lines_so past m (spoken ∷ more) knows are so =
        subst (λ (l : List Entry). IsSo listing l (after_all (after m spoken) more)) (append_assoc past (entries_of m spoken) (transcript_of (after m spoken) more))
        (lines_so (past ++ entries_of m spoken) (after m spoken) more knows.1 are.1 (line_so past m spoken more knows.0 are.0 so))

    pub line_answers : (past : List Entry) (m : Machine) (spoken : Spoken) (more : List Spoken) → Facts past m.host.state → AreSaid (always listing) m.host.state.commands past → KnowsListing (always listing) past m.host.state
        → IsSpoken more m spoken → Facts (past ++ entries_of m spoken) (after m spoken).host.state × AreSaid (always listing) (after m spoken).host.state.commands (past ++ entries_of m spoken)
    line_answers past m spoken more facts said knows is = let so = line_so past m spoken more knows is (record { facts = facts; said = said }) in (so.facts, so.said)

    pub lines_answer : (past : List Entry) (m : Machine) (lines : List Spoken) → Facts past m.host.state → AreSaid (always listing) m.host.state.commands past → AllKnow listing past m lines
        → AreSpoken m lines → Facts (past ++ transcript_of m lines) (after_all m lines).host.state × AreSaid (always listing) (after_all m lines).host.state.commands (past ++ transcript_of m lines)
    lines_answer past m lines facts said knows are = let so = lines_so past m lines knows are (record { facts = facts; said = said }) in (so.facts, so.said)
