-- Each line has the answer that the transcript before it demands, at the first event of its effect, and none comes later.
use Rattle.std.proofs.Common.{◌≡◌, ◌≢◌, ◌⊎◌, ◌≤◌, ℕ, ◌+◌, ◌-◌, ◌==◌, ◌||◌, not, nat_le, nat_lt, Bool, true, false, if◌then◌else◌, inl, inr, List, [], ◌∷◌, ◌++◌, map, length, take, refl, sym, ap, subst, ◌∙◌, append-nil, append_assoc, arith}
use Rattle.std.specs.Prelude.{Contains, Option, Some, None, slice_get}
use Rattle.std.specs.List.{AllByRecursion, flat_map}
use Rattle.std.proofs.lemmas.Bool.{ne_eqb, le-ltb}
use Rattle.std.proofs.lemmas.Grind.{length_at_push}
use Rattle.zw_base.proofs.Each.{all-weaker}
use Rattle.zw_base.specs.declared.order.Order.{Order}
use Rattle.zw_base.specs.declared.order.Word.{Word}
use Rattle.zw_base.specs.declared.property.Setting.{Setting}
use Rattle.route_table.specs.declared.route.Route.{Route}
use Rattle.zw_words.specs.declared.side.Side.{Side}
use Rattle.zw_words.specs.declared.side.Side.TheVariants.{Host as by_host, Chip as by_chip}
use Rattle.air_frames.specs.Ages.{refusal_of as repeat_refusal}
use Rattle.air_frames.specs.declared.ages.Refusal.{Refusal as RepeatRefusal}
use Rattle.air_frames.specs.declared.ages.Refusal.TheVariants.{NeverSent, Forgotten, Stale}
use Rattle.device_sim.specs.State.{State}
use Rattle.device_sim.specs.Event.{DeviceEvent, Wakes, Sets}
use Rattle.proof_air.specs.mesh_sim.Fates.{place_of}
use Rattle.proof_air.specs.mesh_sim.Steps as mesh
use Rattle.host_orders.specs.declared.refused.Refused.{Refused as HostRefusal}
use Rattle.host_orders.specs.declared.refused.Refused.TheVariants as host
use Rattle.host_orders.specs.Refusals.{Known, classes_of, refusal_or, first_some, is_bad_word, unless, unsupported}
use Rattle.host_orders.specs.Errands.{get_refusal, gettable_class, gettable_of, gettable_refusal, queue_full, secured, send_refusal, sendable_of, sendable_refusal}
use Rattle.host_orders.specs.Classes.{class_of}
use Rattle.host_orders.specs.Messages.{channel_class}
use Rattle.host_orders.specs.declared.carriage.Carriage.{Carriage}
use Rattle.zw_text.specs.declared.line.Line.{Line}
use Rattle.zw_text.specs.declared.line.Line.TheVariants as lines
use Rattle.zw_text.specs.declared.entry.Ended.TheVariants.{Cancelled as WasCancelled}
use Rattle.zw_text.specs.declared.entry.Refusal.{Refusal}
use Rattle.zw_text.specs.declared.entry.Refusal.TheVariants as refusals
use Rattle.zw_text.specs.declared.entry.Entry.{Entry}
use Rattle.zw_text.specs.declared.entry.Entry.TheVariants as entry
use Rattle.zw_text.specs.Transcript.{line_of, line_last}
use Rattle.law_host.specs.law_transcript.Lists.{EachAfter, listed}
use Rattle.law_host.specs.law_transcript.Answers.{AsksNothing, Follows, IsAnswer, IsNoAnswer, IsNoBadRecord, IsRefusal, LetsIn, MayAnswer, MayStandAfter, ReadsItsRecords, answer_to, answered_by, before_last, refusal_entry, refusals_to, refused_without}
use Rattle.law_host.specs.law_transcript.Nodes.{device_of, is_joined, listing_of, always}
use Rattle.law_host.specs.law_transcript.Repeats.{repeat_entry}
use Rattle.proof_air.proofs.Lists.{each-weaker}
use Rattle.proof_air.specs.host_model.State.{HostState, node_of}
use Rattle.proof_air.specs.host_model.After.{node_for}
use Rattle.proof_air.specs.host_model.Events.{HostEvent, Accepts, Cancels, Joins as joins_host, Queues, Queues_interview, Queues_probe}
use Rattle.proof_air.specs.host_model.May.{known_of as known_of_host}
use Rattle.proof_air.specs.host_model.Asking.{carriage_for, join_refusal, places_refusal, refusal_for}
use Rattle.host_requests.specs.declared.task.Task.{Task}
use Rattle.host_requests.specs.declared.task.Task.TheVariants as task
use Rattle.proof_air.specs.outside_model.State.{Outcome}
use Rattle.proof_air.specs.outside_model.Devices.{MayAct, MayActByHand, acts, acts_at, acts_by_hand, shown_entries}
use Rattle.proof_air.specs.outside_model.Results.{device_at}
use Rattle.proof_air.specs.outside_model.Events.{OuterEvent, Repeats, Wakes_device, Sets_device, Shows, Joins, Discovers, Links, Loses, Loses_acks, Marks_loss, Marks_change, Clears_pipe, Collides_next, Stalls, Cuts, MayRepeat, cleared_entries, refusal_entries, repeats, stamp, way_of, outcome, devices_after, May as MayOutside, IsCleared}
use Rattle.proof_spoken.proofs.Entered.{IsMark, all_cleared}
use Rattle.proof_air.specs.world_model.State.{Machine}
use Rattle.proof_air.specs.world_model.Events.{Event, Outside_does, Host_does, Refuses, Shows_values, Restarts, shown_values, happens, entries, May}
use Rattle.proof_air.specs.world_model.Refusals.{HasBad, IsRefusedBy, IsRefusedOrUnkept, IsUncancelled, IsUnopened, shown}
use Rattle.proof_air.specs.world_model.Lines.{Asks, IsDone, IsEffect}
use Rattle.proof_air.specs.proof_walk.Outside.{IsOfAir, IsHostNote}
use Rattle.proof_air.specs.proof_walk.ByLine.{Asked, begun, Opened, TiedByLine}
use Rattle.proof_air.specs.proof_walk.Walk.{TiedWalk}
use Rattle.proof_air.proofs.Alone.{KindsAre, acts_are, common_are, stamped_are, steps_are}
use Rattle.proof_air.proofs.ByLine.{last_is, said_last, opens, tied_walk_of}
use Rattle.proof_transcript.specs.Answering.{IsFree, AreFree, IsFreeEvent, AnswerTies, HostTies, IsAnswered, Answered, AwaitsAnswer, KnowsAnswers, IsAnswerOf, may_be_taken_back}

-- ---- lists

-- what stands before the last entry
all_but_last : (before : List Entry) (e : Entry) → take (length before) (before ++ e ∷ []) ≡ before
all_but_last [] e = refl
all_but_last (first ∷ before) e = ap (λ (l : List Entry). first ∷ l) (all_but_last before e)

pub before_is : (before : List Entry) (e : Entry) → before_last (before ++ e ∷ []) ≡ before
before_is before e =
    let count : length (before ++ e ∷ []) - 1 ≡ length before = omega (arith, (length_at_push before e).1) in
    ap (λ (n : ℕ). take n (before ++ e ∷ [])) count ∙ all_but_last before e

-- ---- kinds of entries

pub of_air_free : (e : Entry) → IsOfAir e → IsFree e
of_air_free (entry.Said words) of_air = of_air
of_air_free (entry.Accepted command node) of_air = of_air
of_air_free (entry.Refused refusal) of_air = of_air
of_air_free e of_air = tt

mark_free : (e : Entry) → IsMark e → IsFree e
mark_free (entry.Said words) mark = mark
mark_free (entry.Accepted command node) mark = mark
mark_free (entry.Refused refusal) mark = mark
mark_free e mark = tt

pub note_free : (e : Entry) → IsHostNote e → IsFree e
note_free (entry.Said words) note = note
note_free (entry.Accepted command node) note = note
note_free (entry.Refused refusal) note = note
note_free e note = tt

kinds_free : KindsAre IsFree
kinds_free = record {
  unit = λ side text. tt;
  mark = mark_free;
  of_air = of_air_free;
  full = tt;
  time = λ tick. tt;
  note = note_free;
}

pub free_is_no_answer : (e : Entry) → IsFree e → IsNoAnswer e
free_is_no_answer (entry.Accepted command node) free = free
free_is_no_answer (entry.Refused refusal) free = free
free_is_no_answer e free = tt

free_is_sound : (e : Entry) → IsFree e → IsNoBadRecord e
free_is_sound (entry.Refused refusal) free = absurd free
free_is_sound e free = tt

pub free_says_nothing : (e : Entry) → IsFree e → line_of e ≡ []
free_says_nothing (entry.Said words) free = absurd free
free_says_nothing e free = refl

cleared_free : (e : Entry) → IsCleared e → IsFree e
cleared_free (entry.Cleared side count) cleared = tt
cleared_free e cleared = absurd cleared

-- ---- rules that refuse

abbrev entry_by : Option Refusal → List Entry
entry_by None = []
entry_by (Some refusal) = entry.Refused refusal ∷ []

entry_shown : (refused : HostRefusal) → refusal_entry refused ≡ entry_by (shown refused)
entry_shown host.NoMemory = refl
entry_shown _ = refl

shown_entry : (refused : HostRefusal) (refusal : Refusal) → shown refused ≡ Some refusal → refusal_entry refused ≡ entry.Refused refusal ∷ []
shown_entry refused refusal is = entry_shown refused ∙ ap entry_by is

-- no rule is an invalid record
abbrev Sound_by : Option Refusal → Type 0
Sound_by None = Unit {0}
Sound_by (Some refusal) = IsNoBadRecord (entry.Refused refusal)

rules_sound : (refused : HostRefusal) → Sound_by (shown refused)
rules_sound host.NoMemory = tt
rules_sound _ = tt

shown_sound : (refused : HostRefusal) (refusal : Refusal) → shown refused ≡ Some refusal → IsNoBadRecord (entry.Refused refusal)
shown_sound refused refusal is = subst Sound_by is (rules_sound refused)

keeper_sound : (refusal : Refusal) → refusal ≡ refusals.KeeperFault → IsNoBadRecord (entry.Refused refusal)
keeper_sound refusal is = subst (λ (r : Refusal). IsNoBadRecord (entry.Refused r)) (sym is) tt

order_sound : (rule : Option HostRefusal) (refusal : Refusal) → IsRefusedOrUnkept rule refusal → IsNoBadRecord (entry.Refused refusal)
order_sound None refusal (inl by_none) = absurd by_none
order_sound (Some refused) refusal (inl so) = shown_sound refused refusal so
order_sound rule refusal (inr (none, keeper)) = keeper_sound refusal keeper

-- of some rules the first that refuses is the same where the last one is other; or only the last one refuses
abbrev pub Alike : Option HostRefusal → Option HostRefusal → Option HostRefusal → Type 0
Alike full free last = (full ≡ free) ⊎ ((free ≡ None) × (full ≡ last))

first_of : (rules : List (Option HostRefusal)) (last : Option HostRefusal) → Alike (first_some (rules ++ last ∷ [])) (first_some (rules ++ None ∷ [])) last
first_of [] None = inl refl
first_of [] (Some refused) = inr (refl, refl)
first_of (None ∷ rules) last = first_of rules last
first_of (Some refused ∷ rules) last = inl refl

alone : (rule : Option HostRefusal) → first_some (rule ∷ []) ≡ rule
alone None = refl
alone (Some refused) = refl

after_two : (one two full free last : Option HostRefusal) → Alike full free last → Alike (first_some (one ∷ two ∷ full ∷ [])) (first_some (one ∷ two ∷ free ∷ [])) last
after_two (Some refused) two full free last alike = inl refl
after_two None (Some refused) full free last alike = inl refl
after_two None None full free last (inl same) = inl (ap (λ (o : Option HostRefusal). first_some (o ∷ [])) same)
after_two None None full free last (inr (none, is)) = inr (alone free ∙ none, alone full ∙ is)

pub send_alike : (known : Known) (queued : ℕ) (word : Word) → Alike (send_refusal known queued word) (send_refusal known 0 word) (queue_full queued)
unfolding send_refusal sendable_refusal
send_alike known queued word = after_two _ _ (sendable_refusal (classes_of known) queued word) (sendable_refusal (classes_of known) 0 word) (queue_full queued) (first_of
    (secured (classes_of known) ∷ unsupported (classes_of known) (class_of (sendable_of (classes_of known)) ∷ []) ∷ unless (not (is_bad_word (sendable_of (classes_of known)) word)) host.BadValue ∷ [])
    (queue_full queued))

pub get_alike : (known : Known) (queued end : ℕ) → Alike (get_refusal known queued end) (get_refusal known 0 end) (queue_full queued)
unfolding get_refusal gettable_refusal
get_alike known queued end = after_two _ _ (gettable_refusal (classes_of known) queued end) (gettable_refusal (classes_of known) 0 end) (queue_full queued) (first_of
    (secured (classes_of known) ∷ unsupported (classes_of known) (gettable_class (gettable_of (classes_of known)) ∷ channel_class end) ∷ [])
    (queue_full queued))

full_is : (full : Bool) (refused : HostRefusal) → (if full then Some (host.QueueFull 64) else None) ≡ Some refused → host.QueueFull 64 ≡ refused
full_is true refused is = cc
full_is false refused is = absurd (let none : None ≡ Some refused = is in cc)

-- ---- an effect has some event

none_first : (event : Event) (rest : List Event) → [] ≡ event ∷ rest → ⊥
none_first event rest is = cc

done_some : (line : Line) (event : Event) (rest : List Event) → IsDone line (event ∷ rest) [] → ⊥
done_some line event rest (inl is) = none_first event rest is
done_some line event rest (inr (refusal, is)) = none_first (Refuses line refusal) [] is

asks_some : (rule : Option HostRefusal) (line : Line) (event : HostEvent) → Asks rule line event [] → ⊥
asks_some None line event is = none_first (Host_does event) [] is
asks_some (Some refused) line event (refusal, so, is) = none_first (Refuses line refusal) [] is

outside_some : (inner : List OuterEvent) (outer : OuterEvent) → inner ≡ outer ∷ [] → [] ≡ map Outside_does inner → ⊥
outside_some inner outer one is = none_first (Outside_does outer) [] (is ∙ ap (λ (l : List OuterEvent). map Outside_does l) one)

empty_effect : (line : Line) (m : Machine) → IsEffect line m [] → ⊥
empty_effect (lines.Command order) m is = done_some _ _ _ is
empty_effect (lines.Tick count) m is = is
empty_effect (lines.Cut size) m is = none_first _ _ is
empty_effect (lines.Stall ticks) m is = none_first _ _ is
empty_effect (lines.Drop by) m is = none_first _ _ is
empty_effect (lines.Garble by place xor) m is = none_first _ _ is
empty_effect lines.Collide m is = none_first _ _ is
empty_effect (lines.Send node word) m is = asks_some _ _ _ is
empty_effect (lines.Get node end) m is = asks_some _ _ _ is
empty_effect (lines.Join node) m is = done_some _ _ _ is
empty_effect (lines.Interview node) m is = asks_some _ _ _ is
empty_effect (lines.Lose count) m is = none_first _ _ is
empty_effect (lines.LoseAck count) m is = none_first _ _ is
empty_effect (lines.Repeat number) m (inner, (drawn, route, one), are) = outside_some _ _ one are
empty_effect (lines.Wake node) m (inner, (route, one), are) = outside_some _ _ one are
empty_effect (lines.Cancel command) m is = done_some _ _ _ is
empty_effect (lines.Link a b) m is = none_first _ _ is
empty_effect (lines.Unlink a b) m is = none_first _ _ is
empty_effect lines.Discover m (asked, asks, are) = none_first _ _ are
empty_effect (lines.Neighbours node) m is = asks_some _ _ _ is
empty_effect (lines.Failed node) m is = asks_some _ _ _ is
empty_effect lines.Probe m is = asks_some _ _ _ is
empty_effect (lines.Local node value) m (inner, (route, one), are) = outside_some _ _ one are
empty_effect (lines.Show node) m is = none_first _ _ is
empty_effect (lines.Store node) m is = none_first _ _ is
empty_effect lines.Restart m (inl (state, are)) = none_first _ _ are
empty_effect lines.Restart m (inr (refusal, are)) = none_first _ _ are

-- ---- what is due, of a host

-- where no answer is due, an entry that is none may stand
pub may_stand : (line : Line) (e : Entry) → ((command : ℕ) → line ≡ lines.Cancel command → ⊥) → IsNoAnswer e → MayStandAfter line e
may_stand (lines.Cancel command) e other none = absurd (other command refl)
may_stand line (entry.Accepted command node) other none = absurd none
may_stand line (entry.Refused refusal) other none = absurd none
may_stand line e other none = tt

pub no_refusal : (line : Line) (due : List Entry) (e : Entry) → due ≡ [] → MayStandAfter line e → IsRefusal line due e
no_refusal line due e none stands = subst (λ (l : List Entry). IsRefusal line l e) (sym none) stands

-- where a line has its answer or needs none, an entry that is no answer may stand
pub answered_stands : (listing : List Entry → ℕ → List ℕ) (due : List Entry → Line → List Entry) (before : List Entry) (l : List Line) (e : Entry) → IsNoAnswer e → IsAnswered due before l
    → Follows listing due before l e
answered_stands listing due before [] e none answered = none
answered_stands listing due before (lines.Command order ∷ more) e none answered = absurd answered
answered_stands listing due before (lines.Cancel command ∷ more) e none answered = absurd answered
answered_stands listing due before (line ∷ more) e none answered = no_refusal line (due before line) e answered (may_stand line e (λ command is. cc) none)

-- after an entry that is no line none is due
pub unsaid_answered : (due : List Entry → Line → List Entry) (past : List Entry) (e : Entry) → line_of e ≡ [] → IsAnswered due (before_last (past ++ e ∷ [])) (line_last (past ++ e ∷ []))
unsaid_answered due past e none = subst (λ (l : List Line). IsAnswered due (before_last (past ++ e ∷ [])) l) (sym (last_is past e ∙ none)) tt

-- what is entered of the rule
abbrev pub due_of : Option HostRefusal → List Entry
due_of rule = flat_map refusal_entry (listed rule) ++ []

full_refusal : (line : Line) (due : List Entry) (full : Bool) (refused : HostRefusal) (refusal : Refusal) → due ≡ [] → MayStandAfter line (entry.Refused (refusals.QueueFull 64))
    → (if full then Some (host.QueueFull 64) else None) ≡ Some refused → shown refused ≡ Some refusal → IsRefusal line due (entry.Refused refusal)
full_refusal line due full refused refusal none stands is so =
    let some : Some (refusals.QueueFull 64) ≡ Some refusal = subst (λ (r : HostRefusal). shown r ≡ Some refusal) (sym (full_is full refused is)) so in
    let same : refusals.QueueFull 64 ≡ refusal = cc in
    subst (λ (r : Refusal). IsRefusal line due (entry.Refused r)) same (no_refusal line due (entry.Refused (refusals.QueueFull 64)) none stands)

rule_refusal : (line : Line) (due : List Entry) (refused : HostRefusal) (refusal : Refusal) → due ≡ due_of (Some refused) → shown refused ≡ Some refusal → IsRefusal line due (entry.Refused refusal)
rule_refusal line due refused refusal is so =
    let one : due ≡ entry.Refused refusal ∷ [] = is ∙ ap (λ (l : List Entry). (l ++ []) ++ []) (shown_entry refused refusal so) in
    subst (λ (l : List Entry). IsRefusal line l (entry.Refused refusal)) (sym one) refl

-- where no rule refuses, the rule that asks for no place does not either; and a rule that refuses is entered
pub not_due : (due : List Entry) (full free : Option HostRefusal) (flag : Bool) → due ≡ due_of free → Alike full free (if flag then Some (host.QueueFull 64) else None) → full ≡ None → due ≡ []
not_due due full free flag is (inl same) none = is ∙ ap due_of (sym same ∙ none)
not_due due full free flag is (inr (free_none, last)) none = is ∙ ap due_of free_none

pub is_due : (line : Line) (due : List Entry) (full free : Option HostRefusal) (flag : Bool) (refusal : Refusal) → due ≡ due_of free → Alike full free (if flag then Some (host.QueueFull 64) else None)
    → MayStandAfter line (entry.Refused (refusals.QueueFull 64)) → IsRefusedBy full refusal → IsRefusal line due (entry.Refused refusal)
is_due line due None free flag refusal is alike stands by_none = absurd by_none
is_due line due (Some refused) free flag refusal is (inl same) stands so = rule_refusal line due refused refusal (is ∙ ap due_of (sym same)) so
is_due line due (Some refused) free flag refusal is (inr (none, last)) stands so = full_refusal line due flag refused refusal (is ∙ ap due_of none) stands (sym last) so

pub places_alike : (flag : Bool) → Alike (if flag then Some (host.QueueFull 64) else None) None (if flag then Some (host.QueueFull 64) else None)
places_alike true = inr (refl, refl)
places_alike false = inl refl

abbrev pub two_full : HostState → Bool
two_full h = nat_lt 64 (length h.requests.queue + 2)

abbrev pub interview_rule : HostState → Bool → Option HostRefusal
interview_rule h joined = if joined then places_refusal h 2 else Some host.NotJoined

abbrev pub free_rule : Bool → Option HostRefusal
free_rule joined = if joined then None else Some host.NotJoined

pub interview_alike : (h : HostState) (joined : Bool) → Alike (interview_rule h joined) (free_rule joined) (if two_full h then Some (host.QueueFull 64) else None)
interview_alike h true = places_alike (two_full h)
interview_alike h false = inl refl

pub free_due : (joined : Bool) → (if joined then [] else entry.Refused refusals.NotJoined ∷ []) ++ [] ≡ due_of (free_rule joined)
free_due true = refl
free_due false = refl

-- an order that may be accepted is refused by no rule
pub few_fit : (h : HostState) (order : Order) (rule : Option HostRefusal) → rule ≡ None → (count : ℕ) → count ≤ 512 → refusal_or rule count ≡ None
few_fit h order rule none count few = ap (λ (o : Option HostRefusal). refusal_or o count) none ∙ ap (λ (b : Bool). if b then Some (host.StoreFull 512) else None) (le-ltb 512 count few)

pub order_answer : (listing : List Entry → ℕ → List ℕ) (past : List Entry) (h : HostState) (order : Order) → HostTies listing past h → refusal_for h order ≡ None
    → answer_to listing past order ≡ entry.Accepted (length h.commands + 1) order.node ∷ []
order_answer listing past h order ties none =
    ap (λ (o : Option HostRefusal). answered_by past order.node o) (ties.order order ∙ none) ∙ ap (λ (n : ℕ). entry.Accepted (n + 1) order.node ∷ []) ties.count

pub order_refused : (listing : List Entry → ℕ → List ℕ) (past : List Entry) (h : HostState) (order : Order) (refusal : Refusal) → HostTies listing past h → (rule : Option HostRefusal)
    → refusal_for h order ≡ rule → IsRefusedOrUnkept rule refusal → IsAnswer (answer_to listing past order) (entry.Refused refusal)
order_refused listing past h order refusal ties None is (inl by_none) = absurd by_none
order_refused listing past h order refusal ties None is (inr (none, keeper)) = inr (subst LetsIn (sym (order_answer listing past h order ties is)) tt, ap (λ (r : Refusal). entry.Refused r) keeper)
order_refused listing past h order refusal ties (Some refused) is (inl so) =
    inl (ap (λ (o : Option HostRefusal). answered_by past order.node o) (ties.order order ∙ is) ∙ shown_entry refused refusal so)
order_refused listing past h order refusal ties (Some refused) is (inr (none, keeper)) = absurd (let some : Some refused ≡ None = none in cc)

pub cancel_refused : (listing : List Entry → ℕ → List ℕ) (before : List Entry) (h : HostState) (command : ℕ) (refusal : Refusal) (due : List Entry)
    → ((b : Bool) → may_be_taken_back before command ≡ b → due ≡ (if b then [] else entry.Refused (refusals.NotWaiting command) ∷ [])) → HostTies listing before h → IsUncancelled h command refusal
    → IsRefusal (lines.Cancel command) due (entry.Refused refusal)
cancel_refused listing before h command refusal due due_is ties (inl (not_waits, is)) =
    subst (λ (l : List Entry). IsRefusal (lines.Cancel command) l (entry.Refused refusal)) (sym (due_is false (ties.waits_not command not_waits))) (ap (λ (r : Refusal). entry.Refused r) (sym is))
cancel_refused listing before h command refusal due due_is ties (inr (waits, is)) =
    no_refusal (lines.Cancel command) due (entry.Refused refusal) (due_is true (ties.waits command waits.1)) (subst (λ (r : Refusal). MayStandAfter (lines.Cancel command) (entry.Refused r)) (sym is) tt)

abbrev pub join_entries : Bool → List Entry
join_entries joined = (if not joined then [] else entry.Refused refusals.AlreadyJoined ∷ []) ++ []

pub join_refused : (node : ℕ) (due : List Entry) (refusal : Refusal) (b : Bool) → due ≡ join_entries b → IsRefusedOrUnkept (if b then Some host.AlreadyJoined else None) refusal
    → IsRefusal (lines.Join node) due (entry.Refused refusal)
join_refused node due refusal true is (inl so) = rule_refusal (lines.Join node) due host.AlreadyJoined refusal is so
join_refused node due refusal true is (inr (none, keeper)) = absurd (let some : Some host.AlreadyJoined ≡ None = none in cc)
join_refused node due refusal false is (inl by_none) = absurd by_none
join_refused node due refusal false is (inr (none, keeper)) =
    no_refusal (lines.Join node) due (entry.Refused refusal) is (subst (λ (r : Refusal). MayStandAfter (lines.Join node) (entry.Refused r)) (sym keeper) refl)

pub restart_refused : (records : Option (List (List ℕ))) (refusal : Refusal) → IsUnopened records refusal → MayStandAfter lines.Restart (entry.Refused refusal)
restart_refused records refusal (inl keeper) = subst (λ (r : Refusal). MayStandAfter lines.Restart (entry.Refused r)) (sym keeper) refl
restart_refused records refusal (inr (at, bad, is)) = subst (λ (r : Refusal). MayStandAfter lines.Restart (entry.Refused r)) (sym is) refl

-- ---- the law

module _ (devices : List State) where
  abbrev Stands : List Entry → Entry → Type 0
  Stands past e = IsAnswerOf devices past e

  -- entries that answer nothing
  all_stand : (past told : List Entry) (m : Machine) → Answered devices past m → AreFree told → EachAfter Stands past told × Answered devices (past ++ told) m
  all_stand past [] m answered free = (tt, subst (λ (l : List Entry). Answered devices l m) (sym (append-nil past)) answered)
  all_stand past (e ∷ told) m answered free =
      let rest = all_stand (past ++ e ∷ []) told m (unsaid_answered (refusals_to devices) past e (free_says_nothing e free.0)) free.1 in (
        ((answered_stands (always (listing_of devices)) (refusals_to devices) (before_last past) (line_last past) e (free_is_no_answer e free.0) answered, free_is_sound e free.0), rest.0),
        subst (λ (l : List Entry). Answered devices l m) (append_assoc past (e ∷ []) told) rest.1,
      )

  -- ---- the first event of a line's effect

  -- what is owed of it, and of those that are left
  abbrev Goal : Line → List Entry → Machine → Event → List Event → Type 0
  Goal line past m first left = EachAfter Stands past (entries m first) × AwaitsAnswer devices line left (past ++ entries m first) (happens m first)

  module _ (line : Line) (past : List Entry) (first here : Machine) (asked : Asked (AnswerTies devices) line past first) where
    last_line : line_last past ≡ line ∷ []
    last_line = said_last (AnswerTies devices) line past first asked

    before_line : before_last past ≡ asked.before
    before_line = ap (λ (l : List Entry). before_last l) asked.is ∙ before_is asked.before (entry.Said asked.words)

    follows_here : (e : Entry) → Follows (always (listing_of devices)) (refusals_to devices) asked.before (line ∷ []) e → MayAnswer (always (listing_of devices)) (refusals_to devices) past e
    follows_here e follows =
        subst (λ (l : List Line). Follows (always (listing_of devices)) (refusals_to devices) (before_last past) l e) (sym last_line)
        (subst (λ (b : List Entry). Follows (always (listing_of devices)) (refusals_to devices) b (line ∷ []) e) (sym before_line) follows)

    answered_here : (m : Machine) → IsAnswered (refusals_to devices) asked.before (line ∷ []) → Answered devices past m
    answered_here m answered =
        subst (λ (l : List Line). IsAnswered (refusals_to devices) (before_last past) l) (sym last_line)
        (subst (λ (b : List Entry). IsAnswered (refusals_to devices) b (line ∷ [])) (sym before_line) answered)

    -- it answers the line
    answers_it : (event : Event) (left : List Event) (e : Entry) → entries here event ≡ e ∷ [] → Follows (always (listing_of devices)) (refusals_to devices) asked.before (line ∷ []) e → IsNoBadRecord e → line_of e ≡ []
        → AllByRecursion IsFreeEvent left → Goal line past here event left
    answers_it event left e enters follows sound none free =
        subst (λ (told : List Entry). EachAfter Stands past told × AwaitsAnswer devices line left (past ++ told) (happens here event)) (sym enters)
        (((follows_here e follows, sound), tt), inr (inr (subst (λ (l : List Line). IsAnswered (refusals_to devices) (before_last (past ++ e ∷ [])) l) (sym (last_is past e ∙ none)) tt, free)))

    -- the line needs no answer
    needs_none : (event : Event) (left : List Event) → IsAnswered (refusals_to devices) asked.before (line ∷ []) → AreFree (entries here event) → AllByRecursion IsFreeEvent left
        → Goal line past here event left
    needs_none event left answered free_entries free =
        let got = all_stand past (entries here event) (happens here event) (answered_here (happens here event) answered) free_entries in
        (got.0, inr (inr (got.1, free)))

    none_free : (event : Event) → entries here event ≡ [] → AreFree (entries here event)
    none_free event none = subst AreFree (sym none) tt

  -- the events are these
  as_these : (line : Line) (past : List Entry) (m : Machine) (event is : Event) (left rest : List Event) → event ∷ left ≡ is ∷ rest → Goal line past m is rest → Goal line past m event left
  as_these line past m event is left rest are goal =
      let head : event ≡ is = cc in
      let tail : left ≡ rest = cc in
      subst (λ (e : Event). Goal line past m e left) (sym head) (subst (λ (l : List Event). Goal line past m is l) (sym tail) goal)

  may_these : (m : Machine) (event is : Event) (left rest : List Event) → event ∷ left ≡ is ∷ rest → May m event → May m is
  may_these m event is left rest are may = let head : event ≡ is = cc in subst (May m) head may

  -- ---- a line that is refused

  refuses_enter : (first : Machine) (line : Line) (refusal : Refusal) → entries (begun first) (Refuses line refusal) ≡ entry.Refused refusal ∷ []
  unfolding happens entries outcome devices_after
  refuses_enter first line refusal = refl

  module _ (line : Line) (past : List Entry) (first : Machine) (asked : Asked (AnswerTies devices) line past first) where
    abbrev opened : Machine
    opened = begun first

    refused_so : (event : Event) (left : List Event) (refusal : Refusal) → event ∷ left ≡ Refuses line refusal ∷ []
        → Follows (always (listing_of devices)) (refusals_to devices) asked.before (line ∷ []) (entry.Refused refusal) → IsNoBadRecord (entry.Refused refusal) → Goal line past opened event left
    refused_so event left refusal are follows sound =
        as_these line past opened event (Refuses line refusal) left [] are
        (answers_it line past first opened asked (Refuses line refusal) [] (entry.Refused refusal) (refuses_enter first line refusal) follows sound refl tt)

  -- ---- a request that is asked for, where a rule may refuse it

  module _ (line : Line) (past : List Entry) (first here : Machine) (asked : Asked (AnswerTies devices) line past first)
      (enters : (refusal : Refusal) → entries here (Refuses line refusal) ≡ entry.Refused refusal ∷ [])
      (to_follows : (e : Entry) → IsRefusal line (refusals_to devices asked.before line) e → Follows (always (listing_of devices)) (refusals_to devices) asked.before (line ∷ []) e)
      (to_answered : refusals_to devices asked.before line ≡ [] → IsAnswered (refusals_to devices) asked.before (line ∷ []))
      (stands : MayStandAfter line (entry.Refused (refusals.QueueFull 64))) where
    errand : (full free : Option HostRefusal) (flag : Bool) (ask : HostEvent) (event : Event) (left : List Event) → refusals_to devices asked.before line ≡ due_of free
        → Alike full free (if flag then Some (host.QueueFull 64) else None) → entries here (Host_does ask) ≡ [] → Asks full line ask (event ∷ left) → Goal line past here event left
    errand None free flag ask event left due alike none asks =
        as_these line past here event (Host_does ask) left [] asks
        (needs_none line past first here asked (Host_does ask) [] (to_answered (not_due (refusals_to devices asked.before line) None free flag due alike refl))
        (none_free line past first here asked (Host_does ask) none) tt)
    errand (Some refused) free flag ask event left due alike none (refusal, so, are) =
        as_these line past here event (Refuses line refusal) left [] are
        (answers_it line past first here asked (Refuses line refusal) [] (entry.Refused refusal) (enters refusal)
        (to_follows (entry.Refused refusal) (is_due line (refusals_to devices asked.before line) (Some refused) free flag refusal due alike stands so)) (shown_sound refused refusal so) refl tt)

  asks_enter : (first : Machine) (task : Task) → entries (begun first) (Host_does (Queues task)) ≡ []
  unfolding happens entries outcome devices_after
  asks_enter first task = refl

  interview_enters : (first : Machine) (node : ℕ) → entries (begun first) (Host_does (Queues_interview node)) ≡ []
  unfolding happens entries outcome devices_after
  interview_enters first node = refl

  probe_enters : (first : Machine) → entries (begun first) (Host_does Queues_probe) ≡ []
  unfolding happens entries outcome devices_after
  probe_enters first = refl

  -- ---- orders

  accepts_enter : (first : Machine) (order : Order) (carriage : Carriage)
      → entries (begun first) (Host_does (Accepts order carriage)) ≡ entry.Accepted (length first.host.state.commands + 1) order.node ∷ []
  unfolding happens entries outcome devices_after
  accepts_enter first order carriage = refl

  unrefused : (first : Machine) (order : Order) → May (begun first) (Host_does (Accepts order (carriage_for first.host.state order))) → refusal_for first.host.state order ≡ None
  unfolding happens May
  unrefused first order may = few_fit first.host.state order _ may.0.unrefused _ may.0.few

  may_refuse_order : (first : Machine) (order : Order) (refusal : Refusal) → May (begun first) (Refuses (lines.Command order) refusal) → IsRefusedOrUnkept (refusal_for first.host.state order) refusal
  unfolding happens May
  may_refuse_order first order refusal may = may

  order_goal : (past : List Entry) (first : Machine) (order : Order) (asked : Asked (AnswerTies devices) (lines.Command order) past first) (event : Event) (left : List Event) → May (begun first) event
      → IsDone (lines.Command order) (Host_does (Accepts order (carriage_for first.host.state order)) ∷ []) (event ∷ left) → Goal (lines.Command order) past (begun first) event left
  order_goal past first order asked event left may (inl are) =
      let made : Event = Host_does (Accepts order (carriage_for first.host.state order)) in
      as_these (lines.Command order) past (begun first) event made left [] are
      (answers_it (lines.Command order) past first (begun first) asked made [] (entry.Accepted (length first.host.state.commands + 1) order.node) (accepts_enter first order (carriage_for first.host.state order))
      (inl (order_answer (always (listing_of devices)) asked.before first.host.state order asked.ties.host (unrefused first order (may_these (begun first) event made left [] are may)))) tt refl tt)
  order_goal past first order asked event left may (inr (refusal, are)) =
      let refused = may_refuse_order first order refusal (may_these (begun first) event (Refuses (lines.Command order) refusal) left [] are may) in
      refused_so (lines.Command order) past first asked event left refusal are
      (order_refused (always (listing_of devices)) asked.before first.host.state order refusal asked.ties.host (refusal_for first.host.state order) refl refused) (order_sound (refusal_for first.host.state order) refusal refused)

  -- ---- a command is taken back

  cancels_enter : (first : Machine) (command : ℕ) → entries (begun first) (Host_does (Cancels command)) ≡ entry.Out command WasCancelled ∷ []
  unfolding happens entries outcome devices_after
  cancels_enter first command = refl

  may_cancel : (first : Machine) (command : ℕ) → May (begun first) (Host_does (Cancels command)) → Contains (node_of first.host.state (node_for first.host.state command)).waiting command
  unfolding happens May
  may_cancel first command may = may.0

  may_refuse_cancel : (first : Machine) (command : ℕ) (refusal : Refusal) → May (begun first) (Refuses (lines.Cancel command) refusal) → IsUncancelled first.host.state command refusal
  unfolding happens May
  may_refuse_cancel first command refusal may = may

  cancel_due : (before : List Entry) (command : ℕ) (b : Bool) → may_be_taken_back before command ≡ b → refusals_to devices before (lines.Cancel command) ≡ (if b then [] else entry.Refused (refusals.NotWaiting command) ∷ [])
  cancel_due before command true is = ap (λ (b : Bool). (if b then [] else entry.Refused (refusals.NotWaiting command) ∷ []) ++ []) is
  cancel_due before command false is = ap (λ (b : Bool). (if b then [] else entry.Refused (refusals.NotWaiting command) ∷ []) ++ []) is

  cancel_sound : (first : Machine) (command : ℕ) (refusal : Refusal) → IsUncancelled first.host.state command refusal → IsNoBadRecord (entry.Refused refusal)
  cancel_sound first command refusal (inl (not_waits, is)) = subst (λ (r : Refusal). IsNoBadRecord (entry.Refused r)) (sym is) tt
  cancel_sound first command refusal (inr (waits, is)) = keeper_sound refusal is

  cancel_goal : (past : List Entry) (first : Machine) (command : ℕ) (asked : Asked (AnswerTies devices) (lines.Cancel command) past first) (event : Event) (left : List Event) → May (begun first) event
      → IsDone (lines.Cancel command) (Host_does (Cancels command) ∷ []) (event ∷ left) → Goal (lines.Cancel command) past (begun first) event left
  cancel_goal past first command asked event left may (inl are) =
      let waits = may_cancel first command (may_these (begun first) event (Host_does (Cancels command)) left [] are may) in
      as_these (lines.Cancel command) past (begun first) event (Host_does (Cancels command)) left [] are
      (answers_it (lines.Cancel command) past first (begun first) asked (Host_does (Cancels command)) [] (entry.Out command WasCancelled) (cancels_enter first command)
      (no_refusal (lines.Cancel command) _ (entry.Out command WasCancelled) (cancel_due asked.before command true (asked.ties.host.waits command waits)) refl) tt refl tt)
  cancel_goal past first command asked event left may (inr (refusal, are)) =
      let refused = may_refuse_cancel first command refusal (may_these (begun first) event (Refuses (lines.Cancel command) refusal) left [] are may) in
      refused_so (lines.Cancel command) past first asked event left refusal are (cancel_refused (always (listing_of devices)) asked.before first.host.state command refusal (refusals_to devices asked.before (lines.Cancel command)) (cancel_due asked.before command) asked.ties.host refused) (cancel_sound first command refusal refused)

  -- ---- a node joins

  joins_enter : (first : Machine) (node : ℕ) → entries (begun first) (Host_does (joins_host node)) ≡ []
  unfolding happens entries outcome devices_after
  joins_enter first node = refl

  joins_outside_free : (node : ℕ) → IsFreeEvent (Outside_does (Joins node))
  unfolding entries outcome
  joins_outside_free node m = tt

  may_join : (first : Machine) (node : ℕ) → May (begun first) (Host_does (joins_host node)) → ((node_of first.host.state node).joined ≡ false) × (node ≢ 1)
  unfolding happens May
  may_join first node may = may.0

  may_refuse_join : (first : Machine) (node : ℕ) (refusal : Refusal) → May (begun first) (Refuses (lines.Join node) refusal) → IsRefusedOrUnkept (join_refusal first.host.state node) refusal
  unfolding happens May
  may_refuse_join first node refusal may = may

  joined_so : (before : List Entry) (first : Machine) (node : ℕ) → AnswerTies devices before first → is_joined before node ≡ (node_of first.host.state node).joined
  joined_so before first node ties = ap (λ (k : Known). k.joined) (ties.host.known node)

  join_goal : (past : List Entry) (first : Machine) (node : ℕ) (asked : Asked (AnswerTies devices) (lines.Join node) past first) (event : Event) (left : List Event) → May (begun first) event
      → IsDone (lines.Join node) (Host_does (joins_host node) ∷ Outside_does (Joins node) ∷ []) (event ∷ left) → Goal (lines.Join node) past (begun first) event left
  join_goal past first node asked event left may (inl are) =
      let allowed = may_join first node (may_these (begun first) event (Host_does (joins_host node)) left (Outside_does (Joins node) ∷ []) are may) in
      let apart : is_joined asked.before node ≡ false = joined_so asked.before first node asked.ties ∙ allowed.0 in
      let other : (node == 1) ≡ false = ne_eqb node 1 allowed.1 in
      as_these (lines.Join node) past (begun first) event (Host_does (joins_host node)) left (Outside_does (Joins node) ∷ []) are
      (needs_none (lines.Join node) past first (begun first) asked (Host_does (joins_host node)) (Outside_does (Joins node) ∷ [])
      (ap (λ (j : Bool). join_entries (j || node == 1)) apart ∙ ap join_entries other)
      (none_free (lines.Join node) past first (begun first) asked (Host_does (joins_host node)) (joins_enter first node)) (joins_outside_free node, tt))
  join_goal past first node asked event left may (inr (refusal, are)) =
      let refused = may_refuse_join first node refusal (may_these (begun first) event (Refuses (lines.Join node) refusal) left [] are may) in
      refused_so (lines.Join node) past first asked event left refusal are
      (join_refused node (refusals_to devices asked.before (lines.Join node)) refusal ((node_of first.host.state node).joined || node == 1)
      (ap (λ (j : Bool). join_entries (j || node == 1)) (joined_so asked.before first node asked.ties)) refused)
      (order_sound (join_refusal first.host.state node) refusal refused)

  -- ---- a restart

  restarts_free : (first : Machine) (state : HostState) → entries (begun first) (Restarts state) ≡ []
  unfolding entries
  restarts_free first state = refl

  clears_free : (side : Side) → IsFreeEvent (Outside_does (Clears_pipe side))
  unfolding entries outcome
  clears_free side m =
      let told : List Entry = cleared_entries side (length (way_of m.outside.outer side).bytes) in
      stamped_are IsFree kinds_free (outcome m.outside (Clears_pipe side)).outer told (all-weaker IsCleared IsFree cleared_free told (all_cleared side (length (way_of m.outside.outer side).bytes)))

  may_refuse_restart : (first : Machine) (refusal : Refusal) → May (begun first) (Refuses lines.Restart refusal) → IsUnopened first.records refusal
  unfolding happens May
  may_refuse_restart first refusal may = may

  restart_sound : (records : Option (List (List ℕ))) (refusal : Refusal) → ((at : ℕ) → HasBad records at → ⊥) → IsUnopened records refusal → IsNoBadRecord (entry.Refused refusal)
  restart_sound records refusal sound (inl keeper) = keeper_sound refusal keeper
  restart_sound records refusal sound (inr (at, bad, is)) = absurd (sound at bad)

  restart_goal : (past : List Entry) (first : Machine) (asked : Asked (AnswerTies devices) lines.Restart past first) (event : Event) (left : List Event) → May (begun first) event
      → IsEffect lines.Restart (begun first) (event ∷ left) → Goal lines.Restart past (begun first) event left
  restart_goal past first asked event left may (inl (state, are)) =
      let later : List Event = Outside_does (Clears_pipe by_host) ∷ Outside_does (Clears_pipe by_chip) ∷ [] in
      as_these lines.Restart past (begun first) event (Restarts state) left later are
      (needs_none lines.Restart past first (begun first) asked (Restarts state) later refl
      (none_free lines.Restart past first (begun first) asked (Restarts state) (restarts_free first state)) (clears_free by_host, (clears_free by_chip, tt)))
  restart_goal past first asked event left may (inr (refusal, are)) =
      let refused = may_refuse_restart first refusal (may_these (begun first) event (Refuses lines.Restart refusal) left [] are may) in
      refused_so lines.Restart past first asked event left refusal are (restart_refused first.records refusal refused) (restart_sound first.records refusal asked.ties.sound refused)

  -- ---- lines that nothing refuses

  -- an event outside that enters nothing
  abbrev IsQuiet : OuterEvent → Type 0
  IsQuiet (Cuts size) = Unit {0}
  IsQuiet (Stalls ticks) = Unit {0}
  IsQuiet (Marks_loss side) = Unit {0}
  IsQuiet (Marks_change side garble) = Unit {0}
  IsQuiet Collides_next = Unit {0}
  IsQuiet (Loses count) = Unit {0}
  IsQuiet (Loses_acks count) = Unit {0}
  IsQuiet (Links a b live) = Unit {0}
  IsQuiet Discovers = Unit {0}
  IsQuiet _ = ⊥

  quiet_enters : (m : Machine) (event : OuterEvent) → IsQuiet event → entries m (Outside_does event) ≡ []
  unfolding entries outcome
  quiet_enters m (Cuts size) quiet = refl
  quiet_enters m (Stalls ticks) quiet = refl
  quiet_enters m (Marks_loss side) quiet = refl
  quiet_enters m (Marks_change side garble) quiet = refl
  quiet_enters m Collides_next quiet = refl
  quiet_enters m (Loses count) quiet = refl
  quiet_enters m (Loses_acks count) quiet = refl
  quiet_enters m (Links a b live) quiet = refl
  quiet_enters m Discovers quiet = refl
  quiet_enters m event quiet = absurd quiet

  quiet_goal : (line : Line) (past : List Entry) (first : Machine) (asked : Asked (AnswerTies devices) line past first) (outer : OuterEvent) (event : Event) (left : List Event) → IsQuiet outer
      → IsAnswered (refusals_to devices) asked.before (line ∷ []) → event ∷ left ≡ Outside_does outer ∷ [] → Goal line past (begun first) event left
  quiet_goal line past first asked outer event left quiet answered are =
      as_these line past (begun first) event (Outside_does outer) left [] are
      (needs_none line past first (begun first) asked (Outside_does outer) [] answered (none_free line past first (begun first) asked (Outside_does outer) (quiet_enters (begun first) outer quiet)) tt)

  values_enter : (first : Machine) (node : ℕ) → entries (begun first) (Shows_values node) ≡ shown_values first.host.state node ∷ []
  unfolding happens entries outcome devices_after
  values_enter first node = refl

  values_goal : (past : List Entry) (first : Machine) (node : ℕ) (asked : Asked (AnswerTies devices) (lines.Store node) past first) (event : Event) (left : List Event) → event ∷ left ≡ Shows_values node ∷ []
      → Goal (lines.Store node) past (begun first) event left
  values_goal past first node asked event left are =
      as_these (lines.Store node) past (begun first) event (Shows_values node) left [] are
      (answers_it (lines.Store node) past first (begun first) asked (Shows_values node) [] (shown_values first.host.state node) (values_enter first node) tt tt refl tt)

  -- ---- a frame is repeated

  repeat_due : (before : List Entry) (first : Machine) (number : ℕ) → AnswerTies devices before first → (refused : Option RepeatRefusal) → repeat_refusal first.outside.outer.air.frames number ≡ refused
      → refusals_to devices before (lines.Repeat number) ≡ flat_map repeat_entry (listed refused)
  repeat_due before first number ties refused is = ap (λ (o : Option RepeatRefusal). flat_map repeat_entry (listed o)) (ties.repeats number ∙ is)

  -- what is entered, by the refusal
  abbrev repeated : Machine → ℕ → List ℕ → Option Route → Option RepeatRefusal → Outcome
  repeated first number drawn route refused = repeats (begun first).outside refused (mesh.Repeats number drawn route)

  repeat_enters : (first : Machine) (number : ℕ) (drawn : List ℕ) (route : Option Route) (refused : Option RepeatRefusal) → repeat_refusal first.outside.outer.air.frames number ≡ refused
      → entries (begun first) (Outside_does (Repeats number drawn route))
      ≡ stamp (repeated first number drawn route refused).outer (repeated first number drawn route refused).entries
  unfolding happens entries outcome devices_after
  repeat_enters first number drawn route refused is =
      ap (λ (o : Option RepeatRefusal). stamp (repeated first number drawn route o).outer (repeated first number drawn route o).entries) is

  refusal_enters : (first : Machine) (number : ℕ) (drawn : List ℕ) (route : Option Route) (refused : RepeatRefusal)
      → stamp (repeated first number drawn route (Some refused)).outer (repeated first number drawn route (Some refused)).entries ≡ refusal_entries refused
  unfolding happens outcome devices_after
  refusal_enters first number drawn route NeverSent = refl
  refusal_enters first number drawn route Forgotten = refl
  refusal_enters first number drawn route (Stale later) = refl

  may_repeat : (first : Machine) (number : ℕ) (drawn : List ℕ) (route : Option Route) (refused : Option RepeatRefusal) → repeat_refusal first.outside.outer.air.frames number ≡ refused
      → May (begun first) (Outside_does (Repeats number drawn route)) → MayRepeat (begun first).outside refused (mesh.Repeats number drawn route)
  unfolding happens May MayOutside outcome devices_after
  may_repeat first number drawn route refused is may = subst (λ (o : Option RepeatRefusal). MayRepeat (begun first).outside o (mesh.Repeats number drawn route)) is may.1

  repeat_by : (past : List Entry) (first : Machine) (number : ℕ) (asked : Asked (AnswerTies devices) (lines.Repeat number) past first) (drawn : List ℕ) (route : Option Route) (refused : Option RepeatRefusal)
      → repeat_refusal first.outside.outer.air.frames number ≡ refused → May (begun first) (Outside_does (Repeats number drawn route))
      → Goal (lines.Repeat number) past (begun first) (Outside_does (Repeats number drawn route)) []
  repeat_by past first number asked drawn route None is may =
      let x : Outcome = repeated first number drawn route None in
      needs_none (lines.Repeat number) past first (begun first) asked (Outside_does (Repeats number drawn route)) [] (repeat_due asked.before first number asked.ties None is)
      (subst AreFree (sym (repeat_enters first number drawn route None is))
      (stamped_are IsFree kinds_free x.outer x.entries (steps_are IsFree kinds_free (begun first).outside (mesh.Repeats number drawn route) tt (may_repeat first number drawn route None is may)))) tt
  repeat_by past first number asked drawn route (Some refused) is may =
      refusal_by refused is
    where
      one : (refused : RepeatRefusal) (told : Refusal) → repeat_refusal first.outside.outer.air.frames number ≡ Some refused → refusal_entries refused ≡ entry.Refused told ∷ []
          → flat_map repeat_entry (listed (Some refused)) ≡ entry.Refused told ∷ [] → IsNoBadRecord (entry.Refused told) → Goal (lines.Repeat number) past (begun first) (Outside_does (Repeats number drawn route)) []
      one refused told is enters due sound =
          answers_it (lines.Repeat number) past first (begun first) asked (Outside_does (Repeats number drawn route)) [] (entry.Refused told)
          (repeat_enters first number drawn route (Some refused) is ∙ (refusal_enters first number drawn route refused ∙ enters))
          (subst (λ (l : List Entry). IsRefusal (lines.Repeat number) l (entry.Refused told)) (sym (repeat_due asked.before first number asked.ties (Some refused) is ∙ due)) refl) sound refl tt

      refusal_by : (refused : RepeatRefusal) → repeat_refusal first.outside.outer.air.frames number ≡ Some refused → Goal (lines.Repeat number) past (begun first) (Outside_does (Repeats number drawn route)) []
      refusal_by NeverSent is = one NeverSent refusals.NeverSent is refl refl tt
      refusal_by Forgotten is = one Forgotten refusals.Forgotten is refl refl tt
      refusal_by (Stale later) is = one (Stale later) (refusals.Stale later) is refl refl tt

  -- ---- a device is woken, set by hand, or shown

  -- outside a tick no number stands before an entry
  unstamped : (first : Machine) (refusal : Refusal) → stamp (begun first).outside.outer (entry.Refused refusal ∷ []) ≡ entry.Refused refusal ∷ []
  unfolding happens outcome devices_after
  unstamped first refusal = refl

  shows_enter : (first : Machine) (node : ℕ) (found : Option State) → device_at first.outside.devices (place_of node first.outside.devices) ≡ found
      → entries (begun first) (Outside_does (Shows node)) ≡ stamp (begun first).outside.outer (shown_entries node found)
  unfolding happens entries outcome devices_after
  shows_enter first node found is = ap (λ (o : Option State). stamp (begun first).outside.outer (shown_entries node o)) is

  settings_free : (node : ℕ) (settings : List Setting) → AreFree (map (λ (setting : Setting). entry.Device node setting) settings)
  settings_free node [] = tt
  settings_free node (setting ∷ settings) = (tt, settings_free node settings)

  -- the line is refused where the node has no device
  module _ (line : Line) (past : List Entry) (first : Machine) (asked : Asked (AnswerTies devices) line past first) (node : ℕ) (done : DeviceEvent)
      (due : refusals_to devices asked.before line ≡ refused_without (device_of node devices))
      (to_follows : (e : Entry) → IsRefusal line (refusals_to devices asked.before line) e → Follows (always (listing_of devices)) (refusals_to devices) asked.before (line ∷ []) e)
      (to_answered : refusals_to devices asked.before line ≡ [] → IsAnswered (refusals_to devices) asked.before (line ∷ [])) where
    due_at : (found : Option State) → device_at first.outside.devices (place_of node first.outside.devices) ≡ found → refusals_to devices asked.before line ≡ refused_without found
    due_at found is = due ∙ (asked.ties.absent node ∙ ap refused_without is)

    without : (event : Event) → device_at first.outside.devices (place_of node first.outside.devices) ≡ None → entries (begun first) event ≡ entry.Refused refusals.NoDevice ∷ []
        → Goal line past (begun first) event []
    without event is enters =
        answers_it line past first (begun first) asked event [] (entry.Refused refusals.NoDevice) enters
        (to_follows (entry.Refused refusals.NoDevice) (subst (λ (l : List Entry). IsRefusal line l (entry.Refused refusals.NoDevice)) (sym (due_at None is)) refl)) tt refl tt

    with_device : (event : Event) (device : State) → device_at first.outside.devices (place_of node first.outside.devices) ≡ Some device → AreFree (entries (begun first) event)
        → Goal line past (begun first) event []
    with_device event device is free = needs_none line past first (begun first) asked event [] (to_answered (due_at (Some device) is)) free tt

    -- by hand
    abbrev by_hand : Option ℕ → Option Route → Outcome
    by_hand place route = acts_by_hand (begun first).outside.outer first.outside.devices place done route

    hand_by : (outer : OuterEvent) (route : Option Route) (place : Option ℕ) → place_of node first.outside.devices ≡ place
        → entries (begun first) (Outside_does outer) ≡ stamp (by_hand place route).outer (by_hand place route).entries
        → MayActByHand (begun first).outside.outer first.outside.devices place done route → Goal line past (begun first) (Outside_does outer) []
    hand_by outer route None is enters may = without (Outside_does outer) (ap (device_at first.outside.devices) is) (enters ∙ unstamped first refusals.NoDevice)
    hand_by outer route (Some place) is enters may = found_by (slice_get first.outside.devices place) refl may
      where
        found_by : (found : Option State) → slice_get first.outside.devices place ≡ found → MayAct (begun first).outside.outer (slice_get first.outside.devices place) done route
            → Goal line past (begun first) (Outside_does outer) []
        found_by None none may = absurd (subst (λ (o : Option State). MayAct (begun first).outside.outer o done route) none may)
        found_by (Some device) some may =
            let x : Outcome = acts (begun first).outside.outer device done route in
            with_device (Outside_does outer) device (ap (device_at first.outside.devices) is ∙ some)
            (subst AreFree (sym (enters ∙ ap (λ (o : Option State). stamp (acts_at (begun first).outside.outer o done route).outer (acts_at (begun first).outside.outer o done route).entries) some))
            (stamped_are IsFree kinds_free x.outer x.entries (acts_are IsFree kinds_free (begun first).outside.outer device done route)))

    -- shown
    shown_by : (found : Option State) → device_at first.outside.devices (place_of node first.outside.devices) ≡ found → Goal line past (begun first) (Outside_does (Shows node)) []
    shown_by None is = without (Outside_does (Shows node)) is (shows_enter first node None is ∙ unstamped first refusals.NoDevice)
    shown_by (Some device) is =
        with_device (Outside_does (Shows node)) device is (subst AreFree (sym (shows_enter first node (Some device) is)) (stamped_are IsFree kinds_free (begun first).outside.outer _ (settings_free node _)))

  wakes_enter : (first : Machine) (node : ℕ) (route : Option Route) (place : Option ℕ) → place_of node first.outside.devices ≡ place
      → entries (begun first) (Outside_does (Wakes_device node route))
      ≡ stamp (acts_by_hand (begun first).outside.outer first.outside.devices place Wakes route).outer (acts_by_hand (begun first).outside.outer first.outside.devices place Wakes route).entries
  unfolding happens entries outcome devices_after
  wakes_enter first node route place is =
      ap (λ (p : Option ℕ). stamp (acts_by_hand (begun first).outside.outer first.outside.devices p Wakes route).outer (acts_by_hand (begun first).outside.outer first.outside.devices p Wakes route).entries) is

  may_wake : (first : Machine) (node : ℕ) (route : Option Route) → May (begun first) (Outside_does (Wakes_device node route))
      → MayActByHand (begun first).outside.outer first.outside.devices (place_of node first.outside.devices) Wakes route
  unfolding happens May MayOutside outcome devices_after
  may_wake first node route may = may.1

  sets_enter : (first : Machine) (node value : ℕ) (route : Option Route) (place : Option ℕ) → place_of node first.outside.devices ≡ place
      → entries (begun first) (Outside_does (Sets_device node value route))
      ≡ stamp (acts_by_hand (begun first).outside.outer first.outside.devices place (Sets value) route).outer (acts_by_hand (begun first).outside.outer first.outside.devices place (Sets value) route).entries
  unfolding happens entries outcome devices_after
  sets_enter first node value route place is =
      ap (λ (p : Option ℕ). stamp (acts_by_hand (begun first).outside.outer first.outside.devices p (Sets value) route).outer (acts_by_hand (begun first).outside.outer first.outside.devices p (Sets value) route).entries) is

  may_set : (first : Machine) (node value : ℕ) (route : Option Route) → May (begun first) (Outside_does (Sets_device node value route))
      → MayActByHand (begun first).outside.outer first.outside.devices (place_of node first.outside.devices) (Sets value) route
  unfolding happens May MayOutside outcome devices_after
  may_set first node value route may = may.1

  -- ---- an interview

  -- ---- the first event of any line

  same_events : (event : Event) (left : List Event) (inner : List OuterEvent) (outer : OuterEvent) → inner ≡ outer ∷ [] → event ∷ left ≡ map Outside_does inner → event ∷ left ≡ Outside_does outer ∷ []
  same_events event left inner outer one are = are ∙ ap (λ (l : List OuterEvent). map Outside_does l) one

  first_goal : (line : Line) (past : List Entry) (first : Machine) (asked : Asked (AnswerTies devices) line past first) (event : Event) (left : List Event) → May (begun first) event
      → IsEffect line (begun first) (event ∷ left) → Goal line past (begun first) event left
  unfolding happens
  first_goal (lines.Command order) past first asked event left may is = order_goal past first order asked event left may is
  first_goal (lines.Tick count) past first asked event left may is = absurd is
  first_goal (lines.Cut size) past first asked event left may is = quiet_goal (lines.Cut size) past first asked (Cuts size) event left tt refl is
  first_goal (lines.Stall ticks) past first asked event left may is = quiet_goal (lines.Stall ticks) past first asked (Stalls ticks) event left tt refl is
  first_goal (lines.Drop by) past first asked event left may is = quiet_goal (lines.Drop by) past first asked (Marks_loss by) event left tt refl is
  first_goal (lines.Garble by place xor) past first asked event left may is =
      quiet_goal (lines.Garble by place xor) past first asked (Marks_change by (record { place = place; xor = xor })) event left tt refl is
  first_goal lines.Collide past first asked event left may is = quiet_goal lines.Collide past first asked Collides_next event left tt refl is
  first_goal (lines.Send node word) past first asked event left may is =
      errand (lines.Send node word) past first (begun first) asked (refuses_enter first (lines.Send node word)) (λ e so. so) (λ so. so) (refl, refl)
      (send_refusal (known_of_host (node_of first.host.state node)) (length first.host.state.requests.queue) word) (send_refusal (known_of_host (node_of first.host.state node)) 0 word)
      (nat_le 64 (length first.host.state.requests.queue)) _ event left
      (ap (λ (k : Known). due_of (send_refusal k 0 word)) (asked.ties.host.known node)) (send_alike (known_of_host (node_of first.host.state node)) (length first.host.state.requests.queue) word)
      (asks_enter first _) is
  first_goal (lines.Get node end) past first asked event left may is =
      errand (lines.Get node end) past first (begun first) asked (refuses_enter first (lines.Get node end)) (λ e so. so) (λ so. so) (refl, refl)
      (get_refusal (known_of_host (node_of first.host.state node)) (length first.host.state.requests.queue) end) (get_refusal (known_of_host (node_of first.host.state node)) 0 end)
      (nat_le 64 (length first.host.state.requests.queue)) _ event left
      (ap (λ (k : Known). due_of (get_refusal k 0 end)) (asked.ties.host.known node)) (get_alike (known_of_host (node_of first.host.state node)) (length first.host.state.requests.queue) end)
      (asks_enter first _) is
  first_goal (lines.Join node) past first asked event left may is = join_goal past first node asked event left may is
  first_goal (lines.Interview node) past first asked event left may is = interview_by (node_of first.host.state node).joined refl
    where
      interview_by : (joined : Bool) → (node_of first.host.state node).joined ≡ joined → Goal (lines.Interview node) past (begun first) event left
      interview_by joined so =
          errand (lines.Interview node) past first (begun first) asked (refuses_enter first (lines.Interview node)) (λ e so. so) (λ so. so) (refl, refl)
          (interview_rule first.host.state joined) (free_rule joined) (two_full first.host.state) (Queues_interview node) event left
          (ap (λ (j : Bool). (if j then [] else entry.Refused refusals.NotJoined ∷ []) ++ []) (joined_so asked.before first node asked.ties ∙ so) ∙ free_due joined) (interview_alike first.host.state joined) (interview_enters first node)
          (subst (λ (j : Bool). Asks (interview_rule first.host.state j) (lines.Interview node) (Queues_interview node) (event ∷ left)) so is)
  first_goal (lines.Lose count) past first asked event left may is = quiet_goal (lines.Lose count) past first asked (Loses count) event left tt refl is
  first_goal (lines.LoseAck count) past first asked event left may is = quiet_goal (lines.LoseAck count) past first asked (Loses_acks count) event left tt refl is
  first_goal (lines.Repeat number) past first asked event left may (inner, (drawn, route, one), are) =
      let same = same_events event left inner (Repeats number drawn route) one are in
      as_these (lines.Repeat number) past (begun first) event (Outside_does (Repeats number drawn route)) left [] same
      (repeat_by past first number asked drawn route (repeat_refusal first.outside.outer.air.frames number) refl (may_these (begun first) event (Outside_does (Repeats number drawn route)) left [] same may))
  first_goal (lines.Wake node) past first asked event left may (inner, (route, one), are) =
      let same = same_events event left inner (Wakes_device node route) one are in
      as_these (lines.Wake node) past (begun first) event (Outside_does (Wakes_device node route)) left [] same
      (hand_by (lines.Wake node) past first asked node Wakes refl (λ e so. so) (λ so. so) (Wakes_device node route) route (place_of node first.outside.devices) refl
      (wakes_enter first node route (place_of node first.outside.devices) refl) (may_wake first node route (may_these (begun first) event (Outside_does (Wakes_device node route)) left [] same may)))
  first_goal (lines.Cancel command) past first asked event left may is = cancel_goal past first command asked event left may is
  first_goal (lines.Link a b) past first asked event left may is = quiet_goal (lines.Link a b) past first asked (Links a b true) event left tt refl is
  first_goal (lines.Unlink a b) past first asked event left may is = quiet_goal (lines.Unlink a b) past first asked (Links a b false) event left tt refl is
  first_goal lines.Discover past first asked event left may (asked_then, asks, are) =
      let head : event ≡ Outside_does Discovers = cc in
      let tail : left ≡ asked_then = cc in
      subst (λ (e : Event). Goal lines.Discover past (begun first) e left) (sym head)
      (subst (λ (told : List Entry). EachAfter Stands past told × AwaitsAnswer devices lines.Discover left (past ++ told) (happens (begun first) (Outside_does Discovers))) (sym (quiet_enters (begun first) Discovers tt)) (
        tt,
        inr (inl (record {
          first = first;
          asked = record { before = asked.before; words = asked.words; is = append-nil past ∙ asked.is; read = asked.read; ties = asked.ties };
          line_is = refl;
          is = refl;
          asks = subst (λ (l : List Event). Asks (places_refusal first.host.state 1) lines.Discover (Queues task.Members) l) (sym tail) asks;
        })),
      ))
  first_goal (lines.Neighbours node) past first asked event left may is =
      errand (lines.Neighbours node) past first (begun first) asked (refuses_enter first (lines.Neighbours node)) (λ e so. so) (λ so. so) (refl, refl)
      (places_refusal first.host.state 1) None (nat_lt 64 (length first.host.state.requests.queue + 1)) (Queues (task.Neighbours node)) event left refl (places_alike _) (asks_enter first _) is
  first_goal (lines.Failed node) past first asked event left may is =
      errand (lines.Failed node) past first (begun first) asked (refuses_enter first (lines.Failed node)) (λ e so. so) (λ so. so) (refl, refl)
      (places_refusal first.host.state 1) None (nat_lt 64 (length first.host.state.requests.queue + 1)) (Queues (task.IsFailed node)) event left refl (places_alike _) (asks_enter first _) is
  first_goal lines.Probe past first asked event left may is =
      errand lines.Probe past first (begun first) asked (refuses_enter first lines.Probe) (λ e so. so) (λ so. so) (refl, refl)
      (places_refusal first.host.state 3) None (nat_lt 64 (length first.host.state.requests.queue + 3)) Queues_probe event left refl (places_alike _) (probe_enters first) is
  first_goal (lines.Local node value) past first asked event left may (inner, (route, one), are) =
      let same = same_events event left inner (Sets_device node value route) one are in
      as_these (lines.Local node value) past (begun first) event (Outside_does (Sets_device node value route)) left [] same
      (hand_by (lines.Local node value) past first asked node (Sets value) refl (λ e so. so) (λ so. so) (Sets_device node value route) route (place_of node first.outside.devices) refl
      (sets_enter first node value route (place_of node first.outside.devices) refl) (may_set first node value route (may_these (begun first) event (Outside_does (Sets_device node value route)) left [] same may)))
  first_goal (lines.Show node) past first asked event left may is =
      as_these (lines.Show node) past (begun first) event (Outside_does (Shows node)) left [] is
      (shown_by (lines.Show node) past first asked node Wakes refl (λ e so. so) (λ so. so) (device_at first.outside.devices (place_of node first.outside.devices)) refl)
  first_goal (lines.Store node) past first asked event left may is = values_goal past first node asked event left is
  first_goal lines.Restart past first asked event left may is = restart_goal past first asked event left may is

  -- ---- the members are asked for

  made_refuses : (first : Machine) (refusal : Refusal) → entries (happens (begun first) (Outside_does Discovers)) (Refuses lines.Discover refusal) ≡ entry.Refused refusal ∷ []
  unfolding happens entries outcome devices_after
  made_refuses first refusal = refl

  made_asks : (first : Machine) → entries (happens (begun first) (Outside_does Discovers)) (Host_does (Queues task.Members)) ≡ []
  unfolding happens entries outcome devices_after
  made_asks first = refl

  members_goal : (past : List Entry) (event : Event) (left : List Event) (first : Machine) (asked : Asked (AnswerTies devices) lines.Discover past first)
      → Asks (places_refusal first.host.state 1) lines.Discover (Queues task.Members) (event ∷ left) → Goal lines.Discover past (happens (begun first) (Outside_does Discovers)) event left
  members_goal past event left first asked asks =
      errand lines.Discover past first (happens (begun first) (Outside_does Discovers)) asked (made_refuses first) (λ e so. so) (λ so. so) (refl, refl)
      (places_refusal first.host.state 1) None (nat_lt 64 (length first.host.state.requests.queue + 1)) (Queues task.Members) event left refl (places_alike _) (made_asks first) asks

  -- ---- what is owed

  does : (line : Line) (event : Event) (left : List Event) (past : List Entry) (m : Machine) → May m event → AwaitsAnswer devices line (event ∷ left) past m → Goal line past m event left
  does line event left past m may (inl ((first, asked, m_is), is)) =
      subst (λ (n : Machine). Goal line past n event left) (sym m_is)
      (first_goal line past first asked event left (subst (λ (n : Machine). May n event) m_is may) (subst (λ (n : Machine). IsEffect line n (event ∷ left)) m_is is))
  does line event left past m may (inr (inl waits)) =
      subst (λ (l : Line). Goal l past m event left) (sym waits.line_is)
      (subst (λ (n : Machine). Goal lines.Discover past n event left) (sym waits.is)
      (members_goal past event left waits.first (subst (λ (l : Line). Asked (AnswerTies devices) l past waits.first) waits.line_is waits.asked) waits.asks))
  does line event left past m may (inr (inr (answered, free))) =
      let got = all_stand past (entries m event) (happens m event) answered (free.0 m) in (got.0, inr (inr (got.1, free.1)))

  answered_in_line : (line : Line) (past : List Entry) (m : Machine) → AwaitsAnswer devices line [] past m → Answered devices past m
  answered_in_line line past m (inl (begun_so, is)) = absurd (empty_effect line m is)
  answered_in_line line past m (inr (inl waits)) = absurd (asks_some _ _ _ waits.asks)
  answered_in_line line past m (inr (inr (answered, free))) = answered

  said : (past : List Entry) (m : Machine) (words : List ℕ) (line : Line) → line_of (entry.Said words) ≡ line ∷ [] → AnswerTies devices past m → Answered devices past m
      → Stands past (entry.Said words) × Asked (AnswerTies devices) line (past ++ entry.Said words ∷ []) m
  said past m words line read ties answered = (
    (answered_stands (always (listing_of devices)) (refusals_to devices) (before_last past) (line_last past) (entry.Said words) tt answered, tt),
    record { before = past; words = words; is = refl; read = read; ties = ties },
  )

  ticks : (count : ℕ) (past : List Entry) (m : Machine) → Opened (AnswerTies devices) (lines.Tick count) past m → Answered devices past m
  ticks count past m (first, asked, m_is) = answered_here (lines.Tick count) past first m asked m refl

  by_lines : TiedByLine (AnswerTies devices) Stands (Asked (AnswerTies devices)) (Opened (AnswerTies devices)) (AwaitsAnswer devices) (Answered devices)
  by_lines = record {
    said = said;
    in_line = record {
      begins = opens Stands (AnswerTies devices);
      effect = λ line past m events is opened. inl (opened, is);
      does = does;
      done = answered_in_line;
      ticks = ticks;
      common = λ past m event common may answered. all_stand past (entries m event) (happens m event) answered (common_are IsFree kinds_free m event common may);
    };
  }

  pub answers_walk : TiedWalk (AnswerTies devices) Stands (KnowsAnswers devices)
  answers_walk = tied_walk_of Stands (Asked (AnswerTies devices)) (Opened (AnswerTies devices)) (AwaitsAnswer devices) (Answered devices) (AnswerTies devices) by_lines

  -- the two laws
  pub answers_of : (past told : List Entry) → EachAfter Stands past told → EachAfter (MayAnswer (always (listing_of devices)) (refusals_to devices)) past told
  answers_of past told each = each-weaker Stands (MayAnswer (always (listing_of devices)) (refusals_to devices)) (λ before e is. is.0) past told each

  pub sound_of : (past told : List Entry) → EachAfter Stands past told → ReadsItsRecords told
  sound_of past [] each = tt
  sound_of past (e ∷ told) each = (each.0.1, sound_of (past ++ e ∷ []) told each.1)

  -- at the end of a run of whole lines no answer is due
  pub nothing_due : (past : List Entry) (m : Machine) → Answered devices past m → AsksNothing (refusals_to devices) (before_last past) (line_last past)
  nothing_due past m answered = by (before_last past) (line_last past) answered
    where
      by : (before : List Entry) (l : List Line) → IsAnswered (refusals_to devices) before l → AsksNothing (refusals_to devices) before l
      by before [] answered = tt
      by before (lines.Command order ∷ more) answered = absurd answered
      by before (lines.Cancel command ∷ more) answered = absurd answered
      by before (line ∷ more) answered = answered
