-- At each step of a host alone each line has the answer that its transcript demands, and no answer stands elsewhere.
use Rattle.std.proofs.Common.{◌≡◌, ◌⊎◌, ℕ, ◌+◌, ◌==◌, ◌||◌, not, nat_le, nat_lt, Bool, true, false, if◌then◌else◌, inl, inr, List, [], ◌∷◌, ◌++◌, length, refl, sym, ap, ◌∙◌, subst, append-nil, append_assoc}
use Rattle.std.specs.Prelude.{Option, Some, None, IsSome}
use Rattle.std.specs.List.{flat_map}
use Rattle.std.proofs.lemmas.Bool.{ne_eqb}
use Rattle.s0_crypto.specs.declared.key_pair.Keys.{Keys}
use Rattle.zw_base.specs.declared.order.Order.{Order}
use Rattle.zw_base.specs.declared.order.Word.{Word}
use Rattle.zw_text.specs.declared.line.Line.{Line}
use Rattle.zw_text.specs.declared.line.Line.TheVariants as lines
use Rattle.zw_text.specs.declared.entry.Ended.TheVariants.{Cancelled}
use Rattle.zw_text.specs.declared.entry.Refusal.{Refusal}
use Rattle.zw_text.specs.declared.entry.Refusal.TheVariants as refusals
use Rattle.zw_text.specs.declared.entry.Entry.{Entry}
use Rattle.zw_text.specs.declared.entry.Entry.TheVariants as entry
use Rattle.zw_text.specs.Transcript.{line_last, line_of}
use Rattle.proof_transcript.specs.law_transcript.Answers.{Follows, before_last, refusal_entry, refusals_by_host, refused_unless}
use Rattle.proof_transcript.specs.law_transcript.Lists.{EachAfter, listed}
use Rattle.proof_transcript.specs.law_transcript.Nodes.{is_joined}
use Rattle.proof_transcript.specs.law_time.Moments.{Allows}
use Rattle.proof_transcript.specs.law_time.Waking.{may_wake}
use Rattle.proof_transcript.specs.law_host.Heard.{is_of_others, listing_heard}
use Rattle.host_orders.specs.Errands.{get_refusal, send_refusal}
use Rattle.host_orders.specs.Refusals.{Known}
use Rattle.proof_waking.specs.host_model.State.{HostState, node_of}
use Rattle.proof_waking.specs.host_model.Asking.{carriage_for, places_refusal, refusal_for}
use Rattle.proof_waking.specs.host_model.Events.{HostEvent, Accepts, Cancels, Hears, Joins}
use Rattle.proof_waking.specs.host_model.May.{May as MayHost, known_of as known_of_host}
use Rattle.proof_waking.specs.host_model.Outs.{answers, outs}
use Rattle.proof_transcript.specs.world_model.Events.{OpensFrom, shown_values}
use Rattle.proof_transcript.specs.world_model.Refusals.{IsRefused}
use Rattle.proof_transcript.proofs.ByLine.{last_is}
use Rattle.proof_transcript.specs.proof_spoken.Said.{AreSaid, KnowsListing}
use Rattle.proof_transcript.specs.Answering.{AreFree, HostTies, IsAnswered, IsFree, may_be_taken_back}
use Rattle.proof_transcript.proofs.Answering.{answered_stands, before_is, cancel_refused, due_of, few_fit, free_due, free_is_no_answer, free_rule, free_says_nothing, get_alike, interview_alike, interview_rule, is_due, join_entries, join_refused, no_refusal, not_due, note_free, order_answer, order_refused, places_alike, restart_refused, send_alike, two_full, unsaid_answered}
use Rattle.proof_transcript.proofs.PlacesKept.{HostsKeep, starts_again}
use Rattle.proof_transcript.proofs.StoredPlaces.{KeepsNoMore, event_keeps}
use Rattle.proof_waking.specs.proof_alone.State.{HostMachine, with_world}
use Rattle.proof_waking.specs.proof_alone.Steps.{AreTold, AsksNothing, IsAskedBy, IsOfOthers, Step, Tells, Comes, Misses, Says, Says_nothing, Asks, Refuses, Shows, Restarts, Begins_tick, Numbers, Judges, Does, entries, happens}
use Rattle.proof_waking.specs.proof_alone.Phases.{Phase, Resting, Asked, Risen, Ticking, Open, Behind, Sleeping, Submitting, May, Turns}
use Rattle.proof_waking.specs.proof_alone.Runs.{Knowledge, WalkOver, both_know}
use Rattle.proof_waking.specs.proof_alone.Tables.{TieTables}
use Rattle.proof_waking.proofs.proof_alone_Apart.{AreOfLine, missed_are, told_are}
use Rattle.proof_known.specs.Known.{AnswersBefore, IsAnswerAlone, IsSettled, KnowsAll, KnowsAnswered, KnowsPlaces, KnowsTold, TieTold}
use Rattle.proof_known.proofs.Places.{has_places, no_more_places}
use Rattle.proof_known.proofs.Events.{event_notes}
use Rattle.proof_known.proofs.Telling.{IsElse, between_else, by_else, numbered_else}

-- ---- places of the store

places_anew : HostsKeep → (keys : Keys) (state : HostState) (records : Option (List (List ℕ))) → IsSome records → OpensFrom keys records state → KeepsNoMore state
places_anew keep keys state None told from = let bad : false ≡ true = told in absurd cc
places_anew keep keys state (Some texts) told from = (starts_again keep keys state texts from).1

places_go : HostsKeep → (here next : Phase) (past : List Entry) (m : HostMachine) (one : Step) → May here m one next → TieTables past m.state m.records → KeepsNoMore m.state
    → KeepsNoMore (happens m one).state
places_go keep here next past m (Asks event) (line, here_is, asked, may, numbered, is) tie places = event_keeps keep.orders m.state event tie.facts.host may.0 places
places_go keep here next past m (Restarts state) may tie places = places_anew keep m.keys state m.records tie.told may.1
places_go keep here next past m (Judges item rest behind told) may tie places = event_keeps keep.orders m.state (Hears item) tie.facts.host may.1.may.0 places
places_go keep here next past m (Does event told) may tie places = event_keeps keep.orders m.state event tie.facts.host may.1.0 places
places_go keep here next past m (Tells e) may tie places = places
places_go keep here next past m (Comes unit) may tie places = places
places_go keep here next past m (Misses text marks) may tie places = places
places_go keep here next past m (Says words line) may tie places = places
places_go keep here next past m (Says_nothing words) may tie places = places
places_go keep here next past m (Refuses refusal) may tie places = places
places_go keep here next past m (Shows node) may tie places = places
places_go keep here next past m (Begins_tick left) may tie places = places
places_go keep here next past m Numbers may tie places = places

pub places_walk : HostsKeep → WalkOver KnowsAll (Allows may_wake) (Allows may_wake) KnowsPlaces
places_walk keep = record {
  step = λ here next past m one may ground stand places. (stand, has_places (happens m one).state (places_go keep here next past m one may ground.0.0.0.0.0 (no_more_places m.state places)));
  turn = λ here next past m turns ground places. places;
}

-- ---- what is due

abbrev Due : List Entry → Line → List Entry
Due before line = refusals_by_host listing_heard before line

joined_so : (before : List Entry) (h : HostState) (node : ℕ) → HostTies listing_heard before h → is_joined before node ≡ (node_of h node).joined
joined_so before h node ties = ap (λ (k : Known). k.joined) (ties.known node)

send_due : (before : List Entry) (h : HostState) (node : ℕ) (word : Word) → HostTies listing_heard before h
    → Due before (lines.Send node word) ≡ due_of (send_refusal (known_of_host (node_of h node)) 0 word)
send_due before h node word ties =
    ap (λ (k : Known). flat_map refusal_entry (listed (send_refusal k 0 word))) (ties.known node)
    ∙ sym (append-nil (flat_map refusal_entry (listed (send_refusal (known_of_host (node_of h node)) 0 word))))

get_due : (before : List Entry) (h : HostState) (node end : ℕ) → HostTies listing_heard before h
    → Due before (lines.Get node end) ≡ due_of (get_refusal (known_of_host (node_of h node)) 0 end)
get_due before h node end ties =
    ap (λ (k : Known). flat_map refusal_entry (listed (get_refusal k 0 end))) (ties.known node)
    ∙ sym (append-nil (flat_map refusal_entry (listed (get_refusal (known_of_host (node_of h node)) 0 end))))

interview_due : (before : List Entry) (h : HostState) (node : ℕ) → HostTies listing_heard before h → Due before (lines.Interview node) ≡ due_of (free_rule (node_of h node).joined)
interview_due before h node ties =
    ap (λ (j : Bool). refused_unless j refusals.NotJoined) (joined_so before h node ties)
    ∙ (sym (append-nil (refused_unless (node_of h node).joined refusals.NotJoined)) ∙ free_due (node_of h node).joined)

join_due : (before : List Entry) (h : HostState) (node : ℕ) → HostTies listing_heard before h → Due before (lines.Join node) ≡ join_entries ((node_of h node).joined || node == 1)
join_due before h node ties =
    ap (λ (j : Bool). refused_unless (not (j || node == 1)) refusals.AlreadyJoined) (joined_so before h node ties)
    ∙ sym (append-nil (refused_unless (not ((node_of h node).joined || node == 1)) refusals.AlreadyJoined))

cancel_due : (before : List Entry) (command : ℕ) (b : Bool) → may_be_taken_back before command ≡ b → Due before (lines.Cancel command) ≡ (if b then [] else entry.Refused (refusals.NotWaiting command) ∷ [])
cancel_due before command b is = ap (λ (w : Bool). if w then [] else entry.Refused (refusals.NotWaiting command) ∷ []) is

-- ---- what a line asks for

-- what is entered of it answers the line; or nothing is, where no answer is due
abbrev Gives : Line → List Entry → List Entry → Type 0
Gives line before [] = IsAnswered (refusals_by_host listing_heard) before (line ∷ [])
Gives line before (e ∷ more) = Follows listing_heard (refusals_by_host listing_heard) before (line ∷ []) e × ((line_of e ≡ []) × (more ≡ []))

unrefused : (h : HostState) (order : Order) → MayHost h (Accepts order (carriage_for h order)) → refusal_for h order ≡ None
unrefused h order may = few_fit h order _ may.unrefused _ may.few

join_free : (before : List Entry) (h : HostState) (node : ℕ) → HostTies listing_heard before h → MayHost h (Joins node) → Due before (lines.Join node) ≡ []
join_free before h node ties may =
    let other : (node == 1) ≡ false = ne_eqb node 1 may.1 in
    join_due before h node ties ∙ (ap (λ (j : Bool). join_entries (j || node == 1)) may.0 ∙ ap join_entries other)

gives_so : (line : Line) (before : List Entry) (h : HostState) (event these : HostEvent) → event ≡ these → Gives line before (answers h these) → Gives line before (answers h event)
gives_so line before h event these is gives = subst (λ (e : HostEvent). Gives line before (answers h e)) (sym is) gives

asks_give : (line : Line) (before : List Entry) (h : HostState) (event : HostEvent) → IsAskedBy line h event → MayHost h event → HostTies listing_heard before h → Gives line before (answers h event)
asks_give (lines.Command order) before h event is may ties =
    gives_so (lines.Command order) before h event (Accepts order (carriage_for h order)) is
    (inl (order_answer listing_heard before h order ties (unrefused h order (subst (λ (e : HostEvent). MayHost h e) is may))), (refl, refl))
asks_give (lines.Cancel command) before h event is may ties =
    gives_so (lines.Cancel command) before h event (Cancels command) is (
      no_refusal (lines.Cancel command) (Due before (lines.Cancel command)) (entry.Out command Cancelled)
          (cancel_due before command true (ties.waits command (subst (λ (e : HostEvent). MayHost h e) is may))) refl,
      (refl, refl),
    )
asks_give (lines.Send node word) before h event (none, is) may ties =
    gives_so (lines.Send node word) before h event _ is
    (not_due (Due before (lines.Send node word)) _ (send_refusal (known_of_host (node_of h node)) 0 word) (nat_le 64 (length h.requests.queue)) (send_due before h node word ties)
    (send_alike (known_of_host (node_of h node)) (length h.requests.queue) word) none)
asks_give (lines.Get node end) before h event (none, is) may ties =
    gives_so (lines.Get node end) before h event _ is
    (not_due (Due before (lines.Get node end)) _ (get_refusal (known_of_host (node_of h node)) 0 end) (nat_le 64 (length h.requests.queue)) (get_due before h node end ties)
    (get_alike (known_of_host (node_of h node)) (length h.requests.queue) end) none)
asks_give (lines.Join node) before h event is may ties =
    gives_so (lines.Join node) before h event (Joins node) is (join_free before h node ties (subst (λ (e : HostEvent). MayHost h e) is may))
asks_give (lines.Interview node) before h event (none, is) may ties =
    gives_so (lines.Interview node) before h event _ is
    (not_due (Due before (lines.Interview node)) (interview_rule h (node_of h node).joined) (free_rule (node_of h node).joined) (two_full h) (interview_due before h node ties)
    (interview_alike h (node_of h node).joined) none)
asks_give lines.Discover before h event (none, is) may ties = gives_so lines.Discover before h event _ is refl
asks_give (lines.Neighbours node) before h event (none, is) may ties = gives_so (lines.Neighbours node) before h event _ is refl
asks_give (lines.Failed node) before h event (none, is) may ties = gives_so (lines.Failed node) before h event _ is refl
asks_give lines.Probe before h event (none, is) may ties = gives_so lines.Probe before h event _ is refl
asks_give line before h event is may ties = absurd is

-- ---- a line is refused

refuses_give : (line : Line) (before : List Entry) (m : HostMachine) (refusal : Refusal) → IsRefused (with_world m) line refusal → HostTies listing_heard before m.state
    → Follows listing_heard (refusals_by_host listing_heard) before (line ∷ []) (entry.Refused refusal)
refuses_give (lines.Command order) before m refusal refused ties = order_refused listing_heard before m.state order refusal ties (refusal_for m.state order) refl refused
refuses_give (lines.Send node word) before m refusal refused ties =
    is_due (lines.Send node word) (Due before (lines.Send node word)) (send_refusal (known_of_host (node_of m.state node)) (length m.state.requests.queue) word)
    (send_refusal (known_of_host (node_of m.state node)) 0 word) (nat_le 64 (length m.state.requests.queue)) refusal (send_due before m.state node word ties)
    (send_alike (known_of_host (node_of m.state node)) (length m.state.requests.queue) word) (refl, refl) refused
refuses_give (lines.Get node end) before m refusal refused ties =
    is_due (lines.Get node end) (Due before (lines.Get node end)) (get_refusal (known_of_host (node_of m.state node)) (length m.state.requests.queue) end)
    (get_refusal (known_of_host (node_of m.state node)) 0 end) (nat_le 64 (length m.state.requests.queue)) refusal (get_due before m.state node end ties)
    (get_alike (known_of_host (node_of m.state node)) (length m.state.requests.queue) end) (refl, refl) refused
refuses_give (lines.Join node) before m refusal refused ties =
    join_refused node (Due before (lines.Join node)) refusal ((node_of m.state node).joined || node == 1) (join_due before m.state node ties) refused
refuses_give (lines.Interview node) before m refusal refused ties =
    is_due (lines.Interview node) (Due before (lines.Interview node)) (interview_rule m.state (node_of m.state node).joined) (free_rule (node_of m.state node).joined) (two_full m.state) refusal
    (interview_due before m.state node ties) (interview_alike m.state (node_of m.state node).joined) (refl, refl) refused
refuses_give (lines.Cancel command) before m refusal refused ties =
    cancel_refused listing_heard before m.state command refusal (Due before (lines.Cancel command)) (cancel_due before command) ties refused
refuses_give lines.Discover before m refusal refused ties =
    is_due lines.Discover [] (places_refusal m.state 1) None (nat_lt 64 (length m.state.requests.queue + 1)) refusal refl (places_alike _) (refl, refl) refused
refuses_give (lines.Neighbours node) before m refusal refused ties =
    is_due (lines.Neighbours node) [] (places_refusal m.state 1) None (nat_lt 64 (length m.state.requests.queue + 1)) refusal refl (places_alike _) (refl, refl) refused
refuses_give (lines.Failed node) before m refusal refused ties =
    is_due (lines.Failed node) [] (places_refusal m.state 1) None (nat_lt 64 (length m.state.requests.queue + 1)) refusal refl (places_alike _) (refl, refl) refused
refuses_give lines.Probe before m refusal refused ties =
    is_due lines.Probe [] (places_refusal m.state 3) None (nat_lt 64 (length m.state.requests.queue + 3)) refusal refl (places_alike _) (refl, refl) refused
refuses_give lines.Restart before m refusal refused ties = restart_refused m.records refusal refused
refuses_give line before m refusal refused ties = absurd refused

-- a line that asks nothing of the host
nothing_due : (line : Line) (before : List Entry) → AsksNothing line → IsAnswered (refusals_by_host listing_heard) before (line ∷ [])
nothing_due (lines.Cut size) before nothing = refl
nothing_due (lines.Stall ticks) before nothing = refl
nothing_due (lines.Drop by) before nothing = refl
nothing_due (lines.Garble by place xor) before nothing = refl
nothing_due lines.Collide before nothing = refl
nothing_due (lines.Lose count) before nothing = refl
nothing_due (lines.LoseAck count) before nothing = refl
nothing_due (lines.Repeat frame) before nothing = refl
nothing_due (lines.Wake node) before nothing = refl
nothing_due (lines.Link first second) before nothing = refl
nothing_due (lines.Unlink first second) before nothing = refl
nothing_due (lines.Local node value) before nothing = refl
nothing_due (lines.Show node) before nothing = refl
nothing_due line before nothing = absurd nothing

-- ---- entries that answer nothing

others_free : (e : Entry) → IsOfOthers e → IsFree e
others_free (entry.Said words) others = absurd others
others_free (entry.Accepted command node) others = absurd others
others_free (entry.Refused refusal) others = absurd others
others_free e others = tt

line_free : AreOfLine IsFree
line_free = record { written = λ side text. tt; dropped = λ side. tt; garbled = λ side text. tt; overrun = λ side. tt }

told_free : (h : HostState) (event : HostEvent) (told : List Entry) → AreTold (outs h event) told → AreFree told
told_free h event told are = told_are IsFree line_free note_free (outs h event) told (event_notes h event) are

abbrev Stand : List Entry → List Entry → Type 0
Stand past told = EachAfter IsAnswerAlone past told

free_stands : (past : List Entry) (e : Entry) → IsFree e → IsSettled past → IsAnswerAlone past e
free_stands past e free settled =
    inr (answered_stands listing_heard (refusals_by_host listing_heard) (before_last past) (line_last past) e (free_is_no_answer e free) settled)

all_stand : (past told : List Entry) → AreFree told → IsSettled past → Stand past told × IsSettled (past ++ told)
all_stand past [] free settled = (tt, subst IsSettled (sym (append-nil past)) settled)
all_stand past (e ∷ told) free settled =
    let rest = all_stand (past ++ e ∷ []) told free.1 (unsaid_answered (refusals_by_host listing_heard) past e (free_says_nothing e free.0)) in
    ((free_stands past e free.0 settled, rest.0), subst IsSettled (append_assoc past (e ∷ []) told) rest.1)

-- ---- where the words of a line stand last

module _ (line : Line) (past : List Entry) (h : HostState) (known : AnswersBefore line past h) where
  last_line : line_last past ≡ line ∷ []
  last_line = ap line_last known.are ∙ (last_is known.before (entry.Said known.words) ∙ known.read)

  before_line : before_last past ≡ known.before
  before_line = ap before_last known.are ∙ before_is known.before (entry.Said known.words)

  follows_here : (e : Entry) → Follows listing_heard (refusals_by_host listing_heard) known.before (line ∷ []) e → IsAnswerAlone past e
  follows_here e follows =
      inr (subst (λ (l : List Line). Follows listing_heard (refusals_by_host listing_heard) (before_last past) l e) (sym last_line)
      (subst (λ (b : List Entry). Follows listing_heard (refusals_by_host listing_heard) b (line ∷ []) e) (sym before_line) follows))

  settled_here : IsAnswered (refusals_by_host listing_heard) known.before (line ∷ []) → IsSettled past
  settled_here answered =
      subst (λ (l : List Line). IsAnswered (refusals_by_host listing_heard) (before_last past) l) (sym last_line)
      (subst (λ (b : List Entry). IsAnswered (refusals_by_host listing_heard) b (line ∷ [])) (sym before_line) answered)

  gives_go : (told : List Entry) → Gives line known.before told → Stand past told × IsSettled (past ++ told)
  gives_go [] answered = (tt, subst IsSettled (sym (append-nil past)) (settled_here answered))
  gives_go (e ∷ more) (follows, (none, empty)) =
      subst (λ (l : List Entry). Stand past (e ∷ l) × IsSettled (past ++ e ∷ l)) (sym empty)
      ((follows_here e follows, tt), unsaid_answered (refusals_by_host listing_heard) past e none)

  refused_stands : (refusal : Refusal) → Follows listing_heard (refusals_by_host listing_heard) known.before (line ∷ []) (entry.Refused refusal) ⊎ (is_of_others (line ∷ []) ≡ true)
      → IsAnswerAlone past (entry.Refused refusal)
  refused_stands refusal (inl follows) = follows_here (entry.Refused refusal) follows
  refused_stands refusal (inr others) = inl (ap is_of_others last_line ∙ others)

-- ---- the walk

rest_of : (here : Phase) (past : List Entry) (m : HostMachine) → IsElse here → KnowsAnswered here past m → IsSettled past
rest_of (Asked line) past m other known = absurd other
rest_of here past m other known = known

of_rest : (here : Phase) (past : List Entry) (m : HostMachine) → IsElse here → IsSettled past → KnowsAnswered here past m
of_rest (Asked line) past m other settled = absurd other
of_rest here past m other settled = settled

leads_to : (next to : Phase) (past : List Entry) (m : HostMachine) → IsElse to → next ≡ to → IsSettled past → KnowsAnswered next past m
leads_to next to past m other is settled = subst (λ (p : Phase). KnowsAnswered p past m) (sym is) (of_rest to past m other settled)

as_asked : (here is : Phase) (past : List Entry) (m : HostMachine) → here ≡ is → KnowsAnswered here past m → KnowsAnswered is past m
as_asked here is past m same known = subst (λ (p : Phase). KnowsAnswered p past m) same known

-- what is known at rest decides each answer
abbrev pub Decides : Type 0
Decides = (past : List Entry) (m : HostMachine) → TieTables past m.state m.records → KnowsListing listing_heard past m.state → AreSaid listing_heard m.state.commands past → TieTold past m.state
    → KeepsNoMore m.state → HostTies listing_heard past m.state

abbrev Grounds : Knowledge
Grounds = both_know KnowsAll KnowsPlaces

abbrev Goes : Phase → List Entry → HostMachine → Step → Type 0
Goes next past m one = Stand past (entries m one) × KnowsAnswered next (past ++ entries m one) (happens m one)

free_goes : (here next : Phase) (past : List Entry) (m : HostMachine) (one : Step) → IsElse here → IsElse next → AreFree (entries m one) → KnowsAnswered here past m → Goes next past m one
free_goes here next past m one other after free known =
    let got = all_stand past (entries m one) free (rest_of here past m other known) in (got.0, of_rest next (past ++ entries m one) (happens m one) after got.1)

stays_goes : (here next : Phase) (past : List Entry) (m : HostMachine) (one : Step) → IsElse here → next ≡ here → AreFree (entries m one) → KnowsAnswered here past m → Goes next past m one
stays_goes here next past m one other is free known = free_goes here next past m one other (subst IsElse (sym is) other) free known

module _ (decides : Decides) where
  step_goes : (here next : Phase) (past : List Entry) (m : HostMachine) (one : Step) → May here m one next → Grounds here past m → KnowsAnswered here past m → Goes next past m one
  step_goes here next past m (Tells e) may ground known = stays_goes here next past m (Tells e) (between_else here may.0) may.3 (others_free e may.1, tt) known
  step_goes here next past m (Comes unit) may ground known = stays_goes here next past m (Comes unit) (between_else here may.0) may.2 (tt, tt) known
  step_goes here next past m (Misses text marks) may ground known =
      stays_goes here next past m (Misses text marks) (between_else here may.0) may.3 (tt, missed_are IsFree line_free marks may.1) known
  step_goes here next past m (Says words line) may ground known =
      let told : KnowsTold Resting past m = subst (λ (p : Phase). KnowsTold p past m) may.0 ground.0.1 in (
        (inr (answered_stands listing_heard (refusals_by_host listing_heard) (before_last past) (line_last past) (entry.Said words) tt (rest_of here past m (subst IsElse (sym may.0) tt) known)), tt),
        subst (λ (p : Phase). KnowsAnswered p (past ++ entry.Said words ∷ []) (happens m (Says words line))) (sym may.3)
            (record {
              before = past;
              words = words;
              are = refl;
              read = may.2;
              ties = decides past m ground.0.0.0.0.0.0 ground.0.0.0.1 ground.0.0.1 told (no_more_places m.state ground.1);
            }),
      )
  step_goes here next past m (Says_nothing words) may ground known = (
    (inr (answered_stands listing_heard (refusals_by_host listing_heard) (before_last past) (line_last past) (entry.Said words) tt (rest_of here past m (subst IsElse (sym may.0) tt) known)), tt),
    leads_to next Resting (past ++ entry.Said words ∷ []) (happens m (Says_nothing words)) tt (may.3 ∙ may.0) (unsaid_answered (refusals_by_host listing_heard) past (entry.Said words) may.2),
  )
  step_goes here next past m (Asks event) (line, here_is, asked, may, numbered, next_is) ground known =
      let words : AnswersBefore line past m.state = as_asked here (Asked line) past m here_is known in
      let got = gives_go line past m.state words (answers m.state event) (asks_give line words.before m.state event asked may.0 words.ties) in
      (got.0, leads_to next Open (past ++ answers m.state event) (happens m (Asks event)) tt next_is got.1)
  step_goes here next past m (Refuses refusal) (line, here_is, why, numbered, next_is) ground known =
      let words : AnswersBefore line past m.state = as_asked here (Asked line) past m here_is known in (
        (refused_stands line past m.state words refusal (by words why), tt),
        leads_to next Open (past ++ entry.Refused refusal ∷ []) (happens m (Refuses refusal)) tt next_is (unsaid_answered (refusals_by_host listing_heard) past (entry.Refused refusal) refl),
      )
    where
      by : (words : AnswersBefore line past m.state) → IsRefused (with_world m) line refusal ⊎ (is_of_others (line ∷ []) ≡ true)
          → Follows listing_heard (refusals_by_host listing_heard) words.before (line ∷ []) (entry.Refused refusal) ⊎ (is_of_others (line ∷ []) ≡ true)
      by words (inl refused) = inl (refuses_give line words.before m refusal refused words.ties)
      by words (inr others) = inr others
  step_goes here next past m (Shows node) may ground known =
      let words : AnswersBefore (lines.Store node) past m.state = as_asked here (Asked (lines.Store node)) past m may.0 known in
      let e : Entry = shown_values m.state node in (
        (follows_here (lines.Store node) past m.state words e tt, tt),
        leads_to next Open (past ++ e ∷ []) m tt may.2 (unsaid_answered (refusals_by_host listing_heard) past e refl),
      )
  step_goes here next past m (Restarts state) may ground known =
      let words : AnswersBefore lines.Restart past m.state = as_asked here (Asked lines.Restart) past m may.0 known in
      (tt, leads_to next Open (past ++ []) (happens m (Restarts state)) tt may.2 (subst IsSettled (sym (append-nil past)) (settled_here lines.Restart past m.state words refl)))
  step_goes here next past m (Begins_tick left) may ground known =
      free_goes here next past m (Begins_tick left) (subst IsElse (sym may.0) tt) (subst IsElse (sym may.2) tt) tt known
  step_goes here next past m Numbers may ground known = stays_goes here next past m Numbers (numbered_else here past m may.0 ground.0.0.0.0.1) may.1 (tt, tt) known
  step_goes here next past m (Judges item rest behind told) may ground known =
      free_goes here next past m (Judges item rest behind told) (subst IsElse (sym may.0) tt) (subst IsElse (sym may.2) tt) (told_free m.state (Hears item) told may.1.told_so) known
  step_goes here next past m (Does event told) may ground known =
      let else_so = by_else here next m.state event may.0 in
      free_goes here next past m (Does event told) else_so.0 else_so.1 (told_free m.state event told may.2) known

  turn_goes : (here next : Phase) (past : List Entry) (m : HostMachine) → Turns here m next → KnowsAnswered here past m → KnowsAnswered next past m
  turn_goes Resting next past m is known = leads_to next Open past m tt is known
  turn_goes (Asked line) next past m (inl (nothing, is)) known = leads_to next Open past m tt is (settled_here line past m.state known (nothing_due line known.before nothing))
  turn_goes (Asked line) next past m (inr (ticks, line_is, is)) known =
      leads_to next Resting past m tt is
      (settled_here line past m.state known (subst (λ (l : Line). IsAnswered (refusals_by_host listing_heard) known.before (l ∷ [])) (sym line_is) refl))
  turn_goes Risen next past m is known = leads_to next (Ticking _) past m tt is known
  turn_goes (Ticking []) next past m is known = leads_to next Open past m tt is known
  turn_goes (Ticking (event ∷ left)) next past m is known = absurd is
  turn_goes Open next past m is known = leads_to next Sleeping past m tt is known
  turn_goes (Behind []) next past m is known = leads_to next Open past m tt is known
  turn_goes (Behind (event ∷ left)) next past m is known = absurd is
  turn_goes Sleeping next past m is known = leads_to next Submitting past m tt is.1 known
  turn_goes Submitting next past m is known = leads_to next Resting past m tt is.1 known

  pub answers_walk : WalkOver Grounds (Allows may_wake) IsAnswerAlone KnowsAnswered
  answers_walk = record {
    step = λ here next past m one may ground stand known. step_goes here next past m one may ground known;
    turn = λ here next past m turns ground known. turn_goes here next past m turns known;
  }
