-- The clock, the joined nodes and the values heard are what the transcript shows, over a line that was run whole.
use Rattle.std.proofs.Common.{◌≡◌, ◌⊎◌, ℕ, ◌+◌, ◌==◌, ◌||◌, ◌&&◌, not, Bool, true, false, List, [], ◌∷◌, ◌++◌, length, Option, None, inl, inr, refl, sym, ap, subst, ◌∙◌, arith}
use Rattle.std.specs.Prelude.{Some}
use Rattle.std.specs.List.{AllByRecursion, list_any}
use Rattle.std.proofs.lemmas.Bool.{cases_eq, eq-eqb, ne_eqb}
use Rattle.zw_base.proofs.Each.{all-append}
use Rattle.zw_base.specs.declared.property.Property.{Property}
use Rattle.zw_words.specs.declared.side.Side.TheVariants as side
use Rattle.zw_text.specs.Line.{IsNode, LineText}
use Rattle.zw_text.specs.declared.line.Line.{Line}
use Rattle.zw_text.specs.declared.line.Line.TheVariants.{Join, Restart, Tick}
use Rattle.zw_text.specs.declared.entry.Entry.{Entry}
use Rattle.zw_text.specs.declared.entry.Entry.TheVariants.{Said}
use Rattle.zw_text.specs.declared.entry.Refusal.{Refusal}
use Rattle.zw_text.specs.Transcript.{join_of, joined, line_of, lines_run, reported}
use Rattle.zw_text.proofs.TextLaws.{line_takes}
use Rattle.law_host.specs.law_transcript.Nodes.{is_joined}
use Rattle.law_host.specs.law_transcript.Restarts.{begins_refused, is_restart, ticks_asked, ticks_of}
use Rattle.law_host.specs.law_transcript.Stores.{last_value}
use Rattle.host_node.specs.TableState.{node_of, with_node}
use Rattle.proof_air.specs.host_model.State.{HostState}
use Rattle.proof_air.specs.host_model.Events.{Joins as joins_host}
use Rattle.host_node.specs.Steps.{after_join}
use Rattle.value_store.specs.Values.{Values}
use Rattle.host_node.specs.State.{NodeState}
use Rattle.proof_air.specs.outside_model.Events.{Begins_line, Clears_pipe, Joins as joins_outside, devices_after, outcome}
use Rattle.proof_air.specs.world_model.State.{Machine}
use Rattle.proof_air.specs.world_model.Events.{Event, Outside_does, Host_does, Refuses, Restarts, happens, entries}
use Rattle.proof_air.specs.world_model.Did.{happens_all, entries_all, AllAlong, MayAll, Then}
use Rattle.proof_air.proofs.EventLists.{happens_all-append, entries_all-append}
use Rattle.proof_air.specs.world_model.Settling.{Settles}
use Rattle.proof_air.specs.world_model.Lines.{IsLine, IsLineRest, IsEffect}
use Rattle.proof_air.specs.world_lines.Done.{IsRead}
use Rattle.proof_transcript.specs.Told.{IsTold}
use Rattle.proof_transcript.proofs.Outer.{ArePlain}
use Rattle.proof_transcript.proofs.Hosts.{LeavesRecords, SameJoined, heard_in, joined_in, joined_here, joined_there}
use Rattle.proof_transcript.proofs.TicksBegun.{IsMild, AreMild, Goes, goes_both, mild_goes, mild_weaker}
use Rattle.proof_transcript.proofs.Mild.{IsOther, effect_mild, may_both, settling_mild, ticks_go}
use Rattle.proof_transcript.proofs.Shown.{heard_again, heard_more, joined_more, joined_same, lines_more, unrefused}
use Rattle.proof_air.proofs.Clock.{asked-append}
use Rattle.proof_spoken.proofs.KnownClasses.{or_none}

-- a host has a place for each node; one that starts again has the nodes of the one before, and has heard nothing
pub record StartsOver (old new : HostState) : Type 0 where
  pub joined : SameJoined old.nodes new.nodes
  pub unheard : (node : ℕ) (p : Property) → heard_in new.store node p ≡ None

abbrev pub GoesOn : Machine → Event → Type 0
GoesOn m (Host_does (joins_host node)) = length m.host.state.nodes ≡ 233
GoesOn m (Restarts state) = StartsOver m.host.state state
GoesOn m event = Unit {0}

-- ---- a line at which no node joins and no host starts again

module _ (past : List Entry) (m : Machine) (words : List ℕ) (line : Line) (read : line_of (Said words) ≡ line ∷ []) (told : IsTold past m) where
  clock_more : (es : List Entry) (refusals : Bool) (new count : ℕ) → ArePlain refusals true es → new ≡ m.outside.outer.clock + count → ticks_of line ≡ count
      → new ≡ ticks_asked (lines_run (past ++ Said words ∷ es))
  clock_more es refusals new count plain is ticks =
      let before = told.clock in
      let lines : lines_run (past ++ Said words ∷ es) ≡ lines_run past ++ line ∷ []
      = lines_more refusals true past words es plain ∙ ap (λ (l : List Line). lines_run past ++ l) read in
      let asked : ticks_asked (lines_run past ++ line ∷ []) ≡ ticks_asked (lines_run past) + ticks_asked (line ∷ []) = asked-append (lines_run past) (line ∷ []) in
      let now : new ≡ ticks_asked (lines_run past ++ line ∷ []) = omega (arith, is, before, asked, ticks) in
      now ∙ ap ticks_asked (sym lines)

  pub stays : (refusals : Bool) (count : ℕ) (events : List Event) → Goes refusals count m events → ticks_of line ≡ count → (join_of line ≡ []) ⊎ (begins_refused (entries_all m events) ≡ true)
      → is_restart (line ∷ []) && not (begins_refused (entries_all m events)) ≡ false → IsTold (past ++ Said words ∷ entries_all m events) (happens_all m events)
  stays refusals count events goes ticks joins again =
      let es = entries_all m events in
      let same = joined_same refusals true past words line es read goes.plain joins in
      record {
        clock = clock_more es refusals _ count goes.plain goes.clock ticks;
        are_joined = λ node. goes.joined node ∙ (told.are_joined node ∙ ap (λ (l : List ℕ). list_any (λ one. one == node) l) (sym same));
        within = subst (AllByRecursion (IsNode 1)) (sym same) told.within;
        heard = λ node p.
            goes.heard node p
            ∙ (ap (λ (o : Option ℕ). last_value o (reported node es) p) (told.heard node p)
            ∙ sym (heard_more refusals true past words es node p goes.plain (ap (λ (l : List Line). is_restart l && not (begins_refused es)) read ∙ again)));
      }

-- ---- what lines are

-- the effect of such a line, and a settling
rest_of : (line : Line) → IsOther line → (m : Machine) (events : List Event) → IsLineRest line m events → Then (IsEffect line) Settles m events
rest_of (Tick count) other m events is = absurd other
rest_of line other m events is = is

pub asks_no_tick : (line : Line) → IsOther line → ticks_of line ≡ 0
asks_no_tick (Tick count) other = absurd other
asks_no_tick line other = refl

pub joins_none : (line : Line) → IsOther line → join_of line ≡ []
joins_none (Join node) other = absurd other
joins_none line other = refl

pub starts_none : (line : Line) → IsOther line → is_restart (line ∷ []) ≡ false
starts_none Restart other = absurd other
starts_none line other = refl

-- ---- entries of the first events

refused_first : (m : Machine) (line : Line) (refusal : Refusal) (more : List Event) → begins_refused (entries_all m (Outside_does Begins_line ∷ Refuses line refusal ∷ more)) ≡ true
unfolding happens entries outcome devices_after
refused_first m line refusal more = refl

abbrev joining : ℕ → List Event
joining node = Outside_does Begins_line ∷ Host_does (joins_host node) ∷ Outside_does (joins_outside node) ∷ []

joins_silent : (m : Machine) (node : ℕ) → entries_all m (joining node) ≡ []
unfolding happens entries outcome devices_after
joins_silent m node = refl

joins_clock : (m : Machine) (node : ℕ) → (happens_all m (joining node)).outside.outer.clock ≡ m.outside.outer.clock
unfolding happens outcome devices_after
joins_clock m node = refl

joins_nodes : (m : Machine) (node : ℕ) → (happens_all m (joining node)).host.state.nodes ≡ with_node m.host.state.nodes node (after_join (node_of m.host.state.nodes node))
unfolding happens
joins_nodes m node = refl

joins_store : (m : Machine) (node : ℕ) → (happens_all m (joining node)).host.state.store ≡ m.host.state.store
unfolding happens
joins_store m node = refl

abbrev starting : HostState → List Event
starting state = Outside_does Begins_line ∷ Restarts state ∷ []

starts_silent : (m : Machine) (state : HostState) → entries_all m (starting state) ≡ []
unfolding happens entries outcome devices_after
starts_silent m state = refl

starts_clock : (m : Machine) (state : HostState) → (happens_all m (starting state)).outside.outer.clock ≡ m.outside.outer.clock
unfolding happens outcome devices_after
starts_clock m state = refl

starts_state : (m : Machine) (state : HostState) → (happens_all m (starting state)).host.state ≡ state
unfolding happens
starts_state m state = refl

starts_over : (m : Machine) (state : HostState) (more : List Event) → AllAlong GoesOn m (Outside_does Begins_line ∷ Restarts state ∷ more) → StartsOver m.host.state state
unfolding happens
starts_over m state more along = along.1.0

has_places : (m : Machine) (node : ℕ) (more : List Event) → AllAlong GoesOn m (Outside_does Begins_line ∷ Host_does (joins_host node) ∷ more) → length m.host.state.nodes ≡ 233
unfolding happens
has_places m node more along = along.1.0

-- ---- one node more

any_more : (wanted : ℕ) (nodes : List ℕ) (node : ℕ) → list_any (λ one. one == wanted) (nodes ++ node ∷ []) ≡ list_any (λ one. one == wanted) nodes || node == wanted
any_more wanted [] node = by (node == wanted)
  where
    by : (b : Bool) → b || false ≡ b
    by true = refl
    by false = refl
any_more wanted (first ∷ nodes) node = by (first == wanted) (any_more wanted nodes node)
  where
    by : (b : Bool) → list_any (λ one. one == wanted) (nodes ++ node ∷ []) ≡ list_any (λ one. one == wanted) nodes || node == wanted
        → b || list_any (λ one. one == wanted) (nodes ++ node ∷ []) ≡ (b || list_any (λ one. one == wanted) nodes) || node == wanted
    by true more = refl
    by false more = more

or_true : (a b : Bool) → b ≡ true → a || b ≡ true
or_true true b is = refl
or_true false b is = is

-- the node of a `join` line
in_range : (node : ℕ) → IsRead (Join node) → IsNode 1 node
in_range node (text, is) = let words : LineText text (Join node) = line_takes text (Some (Join node)) is in words.stands.0

module _ (law : LeavesRecords) (past : List Entry) (m : Machine) (words : List ℕ) (told : IsTold past m) where
  abbrev Told : List Event → Type 0
  Told events = IsTold (past ++ Said words ∷ entries_all m events) (happens_all m events)

  -- the line begins, and then its rest
  opened : (line : Line) (events : List Event) → IsLine line m events → (rest : List Event) × (events ≡ Outside_does Begins_line ∷ rest) × IsLineRest line (happens_all m (Outside_does Begins_line ∷ [])) rest
  opened line events (first, rest, are, is, later) =
      (rest, are ∙ ap (λ (l : List Event). l ++ rest) is, subst (λ (l : List Event). IsLineRest line (happens_all m l) rest) is later)

  other_told : (line : Line) (other : IsOther line) (events : List Event) → line_of (Said words) ≡ line ∷ [] → IsLine line m events → MayAll m events → Told events
  other_told line other events read is may =
      let (rest, are, later) = opened line events is in
      let m1 = happens_all m (Outside_does Begins_line ∷ []) in
      let (effect, settling, parts, does, settles) = rest_of line other m1 rest later in
      let mild : AreMild true (Outside_does Begins_line ∷ (effect ++ settling))
      = (tt, all-append (IsMild true) effect settling (effect_mild line other m1 effect does) (mild_weaker settling (settling_mild (happens_all m1 effect) settling settles))) in
      let goes = mild_goes law true m events (subst (AreMild true) (sym (are ∙ ap (λ (l : List Event). Outside_does Begins_line ∷ l) parts)) mild) may in
      stays past m words line read told true 0 events goes (asks_no_tick line other) (inl (joins_none line other))
      (ap (λ (b : Bool). b && not (begins_refused (entries_all m events))) (starts_none line other))

  tick_told : (count : ℕ) (events : List Event) → line_of (Said words) ≡ Tick count ∷ [] → IsLine (Tick count) m events → MayAll m events → Told events
  tick_told count events read is may =
      let (rest, are, later) = opened (Tick count) events is in
      let begin = Outside_does Begins_line ∷ [] in
      let may_all : MayAll m (begin ++ rest) = subst (MayAll m) are may in
      let both = may_both m begin rest may_all in
      let goes = goes_both false 0 count m begin rest (mild_goes law false m begin (tt, tt) both.0) (ticks_go law count (happens_all m begin) rest later both.1) in
      let none : 0 + count ≡ count = omega arith in
      let all : Goes false count m events = subst (λ (k : ℕ). Goes false k m events) none (subst (Goes false (0 + count) m) (sym are) goes) in
      stays past m words (Tick count) read told false count events all refl (inl refl) refl

  -- a line that is refused
  refused_told : (line : Line) (refusal : Refusal) (events settling : List Event) → line_of (Said words) ≡ line ∷ [] → events ≡ Outside_does Begins_line ∷ Refuses line refusal ∷ settling
      → AreMild false settling → MayAll m events → ticks_of line ≡ 0 → Told events
  refused_told line refusal events settling read are mild may ticks =
      let all = Outside_does Begins_line ∷ Refuses line refusal ∷ settling in
      let goes = mild_goes law true m all (tt, (refl, mild_weaker settling mild)) (subst (MayAll m) are may) in
      let refused = refused_first m line refusal settling in
      subst (λ (l : List Event). Told l) (sym are)
      (stays past m words line read told true 0 all goes ticks (inr refused) (none (is_restart (line ∷ [])) (begins_refused (entries_all m all)) refused))
    where
      none : (a b : Bool) → b ≡ true → a && not b ≡ false
      none true b is = ap not is
      none false b is = refl

  -- a node that joins
  joined_told : (node : ℕ) (events settling : List Event) → line_of (Said words) ≡ Join node ∷ [] → IsRead (Join node) → events ≡ joining node ++ settling
      → length m.host.state.nodes ≡ 233 → AreMild false settling → MayAll m events → Told events
  joined_told node events settling read text are places mild may =
      let m3 = happens_all m (joining node) in
      let goes = mild_goes law false m3 settling mild (may_both m (joining node) settling (subst (MayAll m) are may)).1 in
      let es = entries_all m3 settling in
      let nodes = m.host.state.nodes in
      let state = after_join (node_of nodes node) in
      let more : joined (past ++ Said words ∷ es) ≡ joined past ++ node ∷ [] = joined_more false true past words (Join node) es read goes.plain (unrefused true es goes.plain) in
      let range = in_range node text in
      let here : joined_in m3.host.state.nodes node ≡ true
      = ap (λ (l : List NodeState). joined_in l node) (joins_nodes m node) ∙ joined_here nodes node state (omega (arith, range, places)) in
      let there : (other : ℕ) → (other ≡ node → ⊥) → joined_in m3.host.state.nodes other ≡ joined_in nodes other
      = λ other differ. ap (λ (l : List NodeState). joined_in l other) (joins_nodes m node) ∙ joined_there nodes node state other differ in
      let is : IsTold (past ++ Said words ∷ es) (happens_all m3 settling) = record {
        clock = clock_more past m words (Join node) read told es false _ 0 goes.plain (goes.clock ∙ ap (λ (k : ℕ). k + 0) (joins_clock m node)) refl;
        are_joined = λ other. goes.joined other ∙ elim (cases_eq other node) [
          | inl same ↦ subst (λ (k : ℕ). joined_in m3.host.state.nodes k ≡ is_joined (past ++ Said words ∷ es) k) (sym same)
              (here ∙ sym (ap (λ (l : List ℕ). list_any (λ one. one == node) l) more ∙ (any_more node (joined past) node ∙ or_true (is_joined past node) (node == node) (eq-eqb node node refl))))
          | inr differ ↦
              there other differ ∙ (told.are_joined other
              ∙ sym (ap (λ (l : List ℕ). list_any (λ one. one == other) l) more
              ∙ (any_more other (joined past) node ∙ or_none (is_joined past other) (node == other) (ne_eqb node other (λ same. differ (sym same))))))
        ];
        within = subst (AllByRecursion (IsNode 1)) (sym more) (all-append (IsNode 1) (joined past) (node ∷ []) told.within (range, tt));
        heard = λ k p.
            goes.heard k p
            ∙ (ap (λ (o : Option ℕ). last_value o (reported k es) p) (ap (λ (v : Values). heard_in v k p) (joins_store m node) ∙ told.heard k p)
            ∙ sym (heard_more false true past words es k p goes.plain (ap (λ (l : List Line). is_restart l && not (begins_refused es)) read)));
      } in
      let entered : entries_all m (joining node ++ settling) ≡ es = entries_all-append m (joining node) settling ∙ ap (λ (l : List Entry). l ++ es) (joins_silent m node) in
      subst (λ (l : List Event). Told l) (sym are)
      (subst (λ (l : List Entry). IsTold (past ++ Said words ∷ l) (happens_all m (joining node ++ settling))) (sym entered)
      (subst (IsTold (past ++ Said words ∷ es)) (sym (happens_all-append m (joining node) settling)) is))

  -- a host that starts again
  restarted_told : (state : HostState) (events later : List Event) → line_of (Said words) ≡ Restart ∷ [] → events ≡ starting state ++ later
      → StartsOver m.host.state state → AreMild false later → MayAll m events → Told events
  restarted_told state events later read are over mild may =
      let m2 = happens_all m (starting state) in
      let goes = mild_goes law false m2 later mild (may_both m (starting state) later (subst (MayAll m) are may)).1 in
      let es = entries_all m2 later in
      let is_state = starts_state m state in
      let same = joined_same false true past words Restart es read goes.plain (inl refl) in
      let done : is_restart (line_of (Said words)) && not (begins_refused es) ≡ true
      = ap (λ (l : List Line). is_restart l && not (begins_refused es)) read ∙ ap not (unrefused true es goes.plain) in
      let is : IsTold (past ++ Said words ∷ es) (happens_all m2 later) = record {
        clock = clock_more past m words Restart read told es false _ 0 goes.plain (goes.clock ∙ ap (λ (k : ℕ). k + 0) (starts_clock m state)) refl;
        are_joined = λ node.
            goes.joined node ∙ (ap (λ (h : HostState). joined_in h.nodes node) is_state
            ∙ (over.joined node ∙ (told.are_joined node ∙ ap (λ (l : List ℕ). list_any (λ one. one == node) l) (sym same))));
        within = subst (AllByRecursion (IsNode 1)) (sym same) told.within;
        heard = λ node p.
            goes.heard node p
            ∙ (ap (λ (o : Option ℕ). last_value o (reported node es) p) (ap (λ (h : HostState). heard_in h.store node p) is_state ∙ over.unheard node p)
            ∙ sym (heard_again false true past words es node p goes.plain done));
      } in
      let entered : entries_all m (starting state ++ later) ≡ es = entries_all-append m (starting state) later ∙ ap (λ (l : List Entry). l ++ es) (starts_silent m state) in
      subst (λ (l : List Event). Told l) (sym are)
      (subst (λ (l : List Entry). IsTold (past ++ Said words ∷ l) (happens_all m (starting state ++ later))) (sym entered)
      (subst (IsTold (past ++ Said words ∷ es)) (sym (happens_all-append m (starting state) later)) is))

  -- ---- each line

  join_told : (node : ℕ) (events : List Event) → line_of (Said words) ≡ Join node ∷ [] → IsRead (Join node) → AllAlong GoesOn m events → IsLine (Join node) m events → MayAll m events → Told events
  join_told node events read text along is may =
      let (rest, are, later) = opened (Join node) events is in
      let m1 = happens_all m (Outside_does Begins_line ∷ []) in
      let (effect, settling, parts, does, settles) = later in
      let mild = settling_mild (happens_all m1 effect) settling settles in
      let all : events ≡ Outside_does Begins_line ∷ (effect ++ settling) = are ∙ ap (λ (l : List Event). Outside_does Begins_line ∷ l) parts in
      elim does [
        | inl joins ↦
            let whole : events ≡ joining node ++ settling = all ∙ ap (λ (l : List Event). Outside_does Begins_line ∷ (l ++ settling)) joins in
            joined_told node events settling read text whole (has_places m node (Outside_does (joins_outside node) ∷ settling) (subst (AllAlong GoesOn m) whole along)) mild may
        | inr (refusal, refuses) ↦
            refused_told (Join node) refusal events settling read (all ∙ ap (λ (l : List Event). Outside_does Begins_line ∷ (l ++ settling)) refuses) mild may refl
      ]

  restart_told : (events : List Event) → line_of (Said words) ≡ Restart ∷ [] → AllAlong GoesOn m events → IsLine Restart m events → MayAll m events → Told events
  restart_told events read along is may =
      let (rest, are, later) = opened Restart events is in
      let m1 = happens_all m (Outside_does Begins_line ∷ []) in
      let (effect, settling, parts, does, settles) = later in
      let mild = settling_mild (happens_all m1 effect) settling settles in
      let all : events ≡ Outside_does Begins_line ∷ (effect ++ settling) = are ∙ ap (λ (l : List Event). Outside_does Begins_line ∷ l) parts in
      elim does [
        | inl (state, starts) ↦
            let clears = Outside_does (Clears_pipe side.Host) ∷ Outside_does (Clears_pipe side.Chip) ∷ settling in
            let whole : events ≡ starting state ++ clears = all ∙ ap (λ (l : List Event). Outside_does Begins_line ∷ (l ++ settling)) starts in
            restarted_told state events clears read whole (starts_over m state clears (subst (AllAlong GoesOn m) whole along)) (tt, (tt, mild)) may
        | inr (refusal, refuses) ↦
            refused_told Restart refusal events settling read (all ∙ ap (λ (l : List Event). Outside_does Begins_line ∷ (l ++ settling)) refuses) mild may refl
      ]

  pub line_told : (line : Line) (events : List Event) → line_of (Said words) ≡ line ∷ [] → IsRead line → AllAlong GoesOn m events → IsLine line m events → MayAll m events → Told events
  line_told (Tick count) events read text along is may = tick_told count events read is may
  line_told (Join node) events read text along is may = join_told node events read text along is may
  line_told Restart events read text along is may = restart_told events read along is may
  line_told line events read text along is may = other_told line tt events read is may
