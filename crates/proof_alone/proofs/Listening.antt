-- Which nodes listen changes where an interview ends well, and nowhere else: by the transcript, and in a host, of which what is kept says it.
use Rattle.std.proofs.Common.{◌≡◌, ℕ, zero, suc, ◌+◌, ◌==◌, ◌<◌, Bool, true, false, if◌then◌else◌, inl, inr, List, [], ◌∷◌, ◌++◌, length, refl, sym, ap, ◌∙◌, subst, append-nil, append_assoc, arith}
use Rattle.std.specs.Prelude.{Option, Some, None, IsSome}
use Rattle.std.specs.List.{AllByRecursion, list_any}
use Rattle.std.proofs.lemmas.Bool.{cases_eq, cases_lt, eq-eqb, ne_eqb}
use Rattle.std.proofs.lemmas.List.{get_or-set_same, get_or-set_other, set_past, length-set}
use Rattle.s0_crypto.specs.declared.key_pair.Keys.{Keys}
use Rattle.supervision.specs.Host.{told_of}
use Rattle.supervision.specs.declared.host_node.Told.{Told}
use Rattle.supervision.specs.declared.host_node.Told.TheVariants.{Final, Working, Old}
use Rattle.s0_session.specs.Nonces.{live_of}
use Rattle.chip_functions.specs.declared.notice.Update.{Update}
use Rattle.zw_text.specs.declared.entry.Entry.{Entry}
use Rattle.zw_text.specs.declared.entry.Entry.TheVariants as entry
use Rattle.law_host.specs.law_transcript.Lists.{last_or, shown_after}
use Rattle.law_host.specs.law_transcript.Nodes.{first_node}
use Rattle.law_host.specs.law_time.Requests.{asked_before}
use Rattle.law_host.specs.law_time.Ends.{ending}
use Rattle.law_host.specs.law_time.Interviews.{listening_at, listens, says_listening}
use Rattle.host_keep.specs.Kept.{Kept, kept_of, node_of as kept_of_node}
use Rattle.host_keep.specs.Legal.{Give}
use Rattle.host_keep.specs.Status.{status_byte}
use Rattle.host_node.specs.State.{NodeState, is_running, unknown}
use Rattle.host_node.specs.Steps.{after_interview, after_join, after_told, as_recorded, wait_ticks, with_wait}
use Rattle.host_node.specs.Events.{NodeEvent, after as after_node}
use Rattle.host_node.specs.Events.NodeEvent.{Accepts as node_accepts, Begins as node_begins, Cancels as node_cancels, Holds as node_holds, Joins as node_joins, Puts as node_puts, Reports as node_reports, Takes_nonce as node_takes_nonce}
use Rattle.host_node.specs.Facts.{is_recorded}
use Rattle.host_node.specs.TableState.{node_of, unknown_from, unknown_nodes, with_node}
use Rattle.proof_line.specs.host_model.State.{HostState, first_classes, first_host, first_nodes}
use Rattle.proof_line.specs.host_model.Holding.{listens_said}
use Rattle.proof_line.specs.host_model.After.{after, finishing, giving, holding, is_full, is_held, node_for, offering}
use Rattle.proof_line.specs.host_model.Events.{HostEvent, Accepts, Cancels, Joins, Interviews, Finishes, Gives, Spends, Spends_unread, Takes_nonce, Begins, IsOwn}
use Rattle.proof_line.specs.host_model.Outs.{answers, outs}
use Rattle.proof_line.specs.world_model.State.{with_texts}
use Rattle.proof_line.specs.Restarts.{AreHeld, IsHeld}
use Rattle.proof_line.proofs.HostOuts.{OwnIs, SharedAre, outs_are}
use Rattle.proof_alone.specs.State.{HostMachine, done}
use Rattle.proof_alone.specs.Steps.{AreTold, IsOfOthers}
use Rattle.proof_alone.specs.Tables.{TieTables}
use Rattle.proof_alone.proofs.Apart.{AreOfLine, puts_are}

-- ---- entries that tell of no interview that ended well

abbrev pub TellsNone : Entry → Type 0
TellsNone (entry.Interviewed node) = ⊥
TellsNone e = Unit {0}

pub others_none : (e : Entry) → IsOfOthers e → TellsNone e
others_none (entry.Interviewed node) others = absurd others
others_none e others = tt

pub line_none : AreOfLine TellsNone
line_none = record { written = λ side text. tt; dropped = λ side. tt; garbled = λ side text. tt; overrun = λ side. tt }

shared_none : SharedAre TellsNone
shared_none = record {
  unanswered = λ command. tt;
  asleep = λ n. tt;
  done = λ n how. tt;
  uninterviewed = λ n. tt;
  neighbours = λ n nodes. tt;
  failed = λ n is_failed. tt;
  stored = λ n setting. tt;
  held = λ n. tt;
  full = λ n. tt;
}

-- an event that is none
abbrev pub IsNoInterview : HostEvent → Type 0
IsNoInterview (Interviews n listens classes update) = ⊥
IsNoInterview event = Unit {0}

own_none : (event : HostEvent) → IsNoInterview event → OwnIs TellsNone event
own_none (Accepts order carriage) none = λ number. tt
own_none (Interviews n listens classes update) none = absurd none
own_none event none = tt

pub event_none : (h : HostState) (event : HostEvent) (told : List Entry) → IsNoInterview event → AreTold (outs h event) told → AllByRecursion TellsNone told
event_none h event told none are = puts_are TellsNone line_none (outs h event) told (outs_are TellsNone shared_none h event (own_none event none)) are

pub answers_none : (h : HostState) (event : HostEvent) → AllByRecursion TellsNone (answers h event)
answers_none h (Accepts order carriage) = (tt, tt)
answers_none h (Cancels command) = (tt, tt)
answers_none h event = tt

pub own_quiet : (event : HostEvent) → IsOwn event → IsNoInterview event
own_quiet (Interviews n listens classes update) own = absurd own
own_quiet event own = tt

-- ---- by the transcript

pub shown_joined : {B : Type 0} (shows : List Entry → Entry → List B) (past some told : List Entry)
    → shown_after shows past (some ++ told) ≡ shown_after shows past some ++ shown_after shows (past ++ some) told
shown_joined {B} shows past [] told = ap (λ (l : List Entry). shown_after shows l told) (sym (append-nil past))
shown_joined {B} shows past (e ∷ some) told =
    ap (λ (l : List B). shows past e ++ l) (shown_joined shows (past ++ e ∷ []) some told)
    ∙ sym (append_assoc (shows past e) (shown_after shows (past ++ e ∷ []) some) (shown_after shows ((past ++ e ∷ []) ++ some) told))
    ∙ ap (λ (l : List Entry). shown_after shows past (e ∷ some) ++ shown_after shows l told) (append_assoc past (e ∷ []) some)

last_end : {A : Type 0} (default : A) (xs : List A) (x : A) → last_or default (xs ++ x ∷ []) ≡ x
last_end default [] x = refl
last_end default (first ∷ xs) x = last_end first xs x

none_at : (n : ℕ) (past : List Entry) (e : Entry) → TellsNone e → listening_at n past e ≡ []
none_at n past (entry.Interviewed node) none = absurd none
none_at n past e none = refl

none_shown : (n : ℕ) (past told : List Entry) → AllByRecursion TellsNone told → shown_after (listening_at n) past told ≡ []
none_shown n past [] all = refl
none_shown n past (e ∷ told) all = ap (λ (l : List Bool). l ++ shown_after (listening_at n) (past ++ e ∷ []) told) (none_at n past e all.0) ∙ none_shown n (past ++ e ∷ []) told all.1

-- what is shown after entries
listens_by : (n : ℕ) (past told : List Entry) (shows : List Bool) → shown_after (listening_at n) past told ≡ shows
    → listens n (past ++ told) ≡ last_or (n == first_node) (shown_after (listening_at n) [] past ++ shows)
listens_by n past told shows are =
    ap (λ (l : List Bool). last_or (n == first_node) l)
    (shown_joined (listening_at n) [] past told ∙ ap (λ (l : List Bool). shown_after (listening_at n) [] past ++ l) are)

same_listens : (n : ℕ) (past told : List Entry) → shown_after (listening_at n) past told ≡ [] → listens n (past ++ told) ≡ listens n past
same_listens n past told none =
    listens_by n past told [] none ∙ ap (λ (l : List Bool). last_or (n == first_node) l) (append-nil (shown_after (listening_at n) [] past))

-- entries of others change nothing
pub listens_more : (n : ℕ) (past told : List Entry) → AllByRecursion TellsNone told → listens n (past ++ told) ≡ listens n past
listens_more n past told all = same_listens n past told (none_shown n past told all)

abbrev pub says_now : List Entry → Bool
says_now past = list_any (λ one. says_listening one.unit) (ending (asked_before past))

-- an interview of this node says it, of another one nothing
pub listens_here : (n : ℕ) (past : List Entry) → listens n (past ++ entry.Interviewed n ∷ []) ≡ says_now past
listens_here n past =
    listens_by n past (entry.Interviewed n ∷ []) (says_now past ∷ []) (ap (λ (b : Bool). (if b then says_now past ∷ [] else []) ++ []) (eq-eqb n n refl))
    ∙ last_end (n == first_node) (shown_after (listening_at n) [] past) (says_now past)

pub listens_there : (n of : ℕ) (past : List Entry) → (n ≡ of → ⊥) → listens n (past ++ entry.Interviewed of ∷ []) ≡ listens n past
listens_there n of past other =
    same_listens n past (entry.Interviewed of ∷ []) (ap (λ (b : Bool). (if b then says_now past ∷ [] else []) ++ []) (ne_eqb of n (λ same. other (sym same))))

-- ---- in a host

abbrev pub listening : List NodeState → ℕ → Bool
listening nodes m = (node_of nodes m).listens

abbrev SameNodes : List NodeState → List NodeState → Type 0
SameNodes old new = (m : ℕ) → listening new m ≡ listening old m

set_here : (nodes : List NodeState) (n : ℕ) (state : NodeState) → n < length nodes → listening (with_node nodes n state) n ≡ state.listens
set_here nodes n state within = ap (λ (s : NodeState). s.listens) (get_or-set_same nodes n state (unknown 0) within)

set_there : (nodes : List NodeState) (n : ℕ) (state : NodeState) (m : ℕ) → (m ≡ n → ⊥) → listening (with_node nodes n state) m ≡ listening nodes m
set_there nodes n state m other = ap (λ (s : NodeState). s.listens) (get_or-set_other nodes n m state (unknown 0) other)

set_same : (nodes : List NodeState) (n : ℕ) (state : NodeState) → state.listens ≡ listening nodes n → SameNodes nodes (with_node nodes n state)
set_same nodes n state e m = elim (cases_eq m n) [
  | inl same ↦ elim (cases_lt n (length nodes)) [
    | inl within ↦ ap (λ (k : ℕ). listening (with_node nodes n state) k) same ∙ set_here nodes n state within ∙ e ∙ ap (λ (k : ℕ). listening nodes k) (sym same)
    | inr past ↦ ap (λ (l : List NodeState). listening l m) (set_past nodes n state past)
  ]
  | inr other ↦ set_there nodes n state m other
]

-- an interview of a node that has a place
pub interviewed_here : (h : HostState) (n : ℕ) (listens : Bool) (classes : List ℕ) (update : Update) → n < length h.nodes
    → listening (after h (Interviews n listens classes update)).nodes n ≡ listens
interviewed_here h n listens classes update within = set_here h.nodes n (after_interview (node_of h.nodes n) listens classes) within

pub interviewed_there : (h : HostState) (n m : ℕ) (listens : Bool) (classes : List ℕ) (update : Update) → (m ≡ n → ⊥)
    → listening (after h (Interviews n listens classes update)).nodes m ≡ listening h.nodes m
interviewed_there h n m listens classes update other = set_there h.nodes n (after_interview (node_of h.nodes n) listens classes) m other

-- ---- by what is kept

-- what texts give is one thing
abbrev pub OneGiven : Type 0
OneGiven = (texts : List (List ℕ)) (kept other : Kept) → Give texts kept → Give texts other → kept ≡ other

held_same : OneGiven → (old new : HostState) (texts : List (List ℕ)) → AreHeld old texts → AreHeld new texts → SameNodes old.nodes new.nodes
held_same one old new texts was now m =
    let first : Give texts (kept_of was.records) = record { records = was.records; are = was.are; legal = was.legal; gives = refl } in
    let later : Give texts (kept_of now.records) = record { records = now.records; are = now.are; legal = now.legal; gives = refl } in
    (now.holds.nodes m).listens
    ∙ ap (λ (k : Kept). listens_said (kept_of_node k m).interview) (one texts (kept_of now.records) (kept_of was.records) later first)
    ∙ sym (was.holds.nodes m).listens

-- so where nothing was recorded
kept_same : OneGiven → (old new : HostState) (records later : Option (List (List ℕ))) → IsSome records → later ≡ records → IsHeld old records → IsHeld new later → SameNodes old.nodes new.nodes
kept_same one old new None later told is was now = let bad : false ≡ true = told in absurd cc
kept_same one old new (Some texts) later told is was now = held_same one old new texts was (subst (IsHeld new) is now)

pub restart_same : OneGiven → (past more : List Entry) (old new : HostState) (records : Option (List (List ℕ))) → TieTables past old records → TieTables more new records → SameNodes old.nodes new.nodes
restart_same one past more old new records was now = kept_same one old new records records was.told refl was.held now.held

-- ---- events

abbrev pub LeavesRecords : Type 0
LeavesRecords = (n : NodeState) (event : NodeEvent) → is_recorded n event ≡ false → as_recorded (after_node n event) ≡ as_recorded n

sign_same : (b : Bool) (n : NodeState) → (if b then with_wait n wait_ticks else n).listens ≡ n.listens
sign_same true n = refl
sign_same false n = refl

told_same : (n : NodeState) (status : ℕ) (told : Told) → (after_told n status told).listens ≡ n.listens
told_same n status (Final session) = refl
told_same n status Working = sign_same (is_running n.series) n
told_same n status Old = refl

if_same : (b : Bool) (h one : HostState) → SameNodes h.nodes one.nodes → SameNodes h.nodes (if b then h else one).nodes
if_same true h one same = λ m. refl
if_same false h one same = same

offering_same : (h : HostState) (n : ℕ) (live : Option (List ℕ)) → SameNodes h.nodes (offering h n live).nodes
offering_same h n None = λ m. refl
offering_same h n (Some nonce) = if_same (is_full h) h _ (λ m. refl)

no_texts : (records : Option (List (List ℕ))) (texts : List (List ℕ)) → texts ≡ [] → with_texts records texts ≡ records
no_texts None texts none = refl
no_texts (Some before) texts none = ap (λ (l : List (List ℕ)). Some (before ++ l)) none ∙ ap (λ (l : List (List ℕ)). Some l) (append-nil before)

module _ (law : LeavesRecords) (one : OneGiven) where
  node_same : (h : HostState) (n : ℕ) (event : NodeEvent) → is_recorded (node_of h.nodes n) event ≡ false → SameNodes h.nodes (with_node h.nodes n (after_node (node_of h.nodes n) event))
  node_same h n event none =
      set_same h.nodes n (after_node (node_of h.nodes n) event) (ap (λ (s : NodeState). s.listens) (law (node_of h.nodes n) event none))

  holding_same : (h : HostState) (n : ℕ) (held : Bool) → SameNodes h.nodes (holding h n held).nodes
  holding_same h n true = node_same h n node_holds refl
  holding_same h n false = λ m. refl

  -- what is recorded of other things leaves it; and where nothing is recorded it is as it was
  pub event_same : (past more : List Entry) (m : HostMachine) (event : HostEvent) → IsNoInterview event → TieTables past m.state m.records → TieTables more (done m event).state (done m event).records
      → SameNodes m.state.nodes (after m.state event).nodes
  event_same past more m (Interviews n listens classes update) none was now = absurd none
  event_same past more m (Accepts order carriage) none was now =
      let put : HostState = record m.state { nodes = with_node m.state.nodes order.node (after_node (node_of m.state.nodes order.node) (node_puts (length m.state.commands + 1))) } in
      λ k. node_same put order.node node_accepts refl k
      ∙ set_same m.state.nodes order.node (after_node (node_of m.state.nodes order.node) (node_puts (length m.state.commands + 1))) refl k
  event_same past more m (Cancels command) none was now =
      set_same m.state.nodes (node_for m.state command) (after_node (node_of m.state.nodes (node_for m.state command)) (node_cancels command)) refl
  event_same past more m (Joins n) none was now = set_same m.state.nodes n (after_node (node_of m.state.nodes n) node_joins) refl
  event_same past more m (Finishes n session id command status wake) none was now =
      let finished = finishing m.state n id command status in
      λ k. holding_same finished n (is_held m.state n wake) k
      ∙ set_same m.state.nodes n (after_node (node_of m.state.nodes n) (node_reports id (status_byte status)))
      (told_same (node_of m.state.nodes n) (status_byte status) (told_of (node_of m.state.nodes n).book id (status_byte status))) k
  event_same past more m (Gives n drawn) none was now = offering_same (giving m.state n drawn) n (live_of (giving m.state n drawn).nonces n)
  event_same past more m (Spends n) none was now = λ k. refl
  event_same past more m (Spends_unread n payload) none was now = λ k. refl
  event_same past more m (Takes_nonce n seen text) none was now = set_same m.state.nodes n (after_node (node_of m.state.nodes n) (node_takes_nonce seen text)) refl
  event_same past more m (Begins n session command) none was now = set_same m.state.nodes n (after_node (node_of m.state.nodes n) node_begins) refl
  event_same past more m event none was now = kept_same one m.state (after m.state event) m.records (done m event).records was.told (no_texts m.records [] refl) was.held now.held

-- ---- at first

unknown_length : (from count : ℕ) → length (unknown_from from count) ≡ count
unknown_length from zero = refl
unknown_length from (suc count) = ap suc (unknown_length (suc from) count)

unknown_listening : (from count m : ℕ) → listening (unknown_from from count) m ≡ false
unknown_listening from zero m = refl
unknown_listening from (suc count) zero = refl
unknown_listening from (suc count) (suc m) = unknown_listening (suc from) count m

none_listening : (m : ℕ) → listening unknown_nodes m ≡ false
unfolding unknown_nodes
none_listening zero = refl
none_listening (suc m) = unknown_listening 1 232 m

all_places : length unknown_nodes ≡ 233
unfolding unknown_nodes
all_places = ap suc (unknown_length 1 232)

pub first_listening : (keys : Keys) (n : ℕ) → listens n [] ≡ listening (first_host keys).nodes n
unfolding first_nodes
first_listening keys n =
    let joined = after_join (node_of unknown_nodes 2) in
    let once = with_node unknown_nodes 2 joined in
    let known = after_interview (node_of once 2) true first_classes in
    let places : length once ≡ 233 = length-set unknown_nodes 2 joined ∙ all_places in
    sym (elim (cases_eq n 2) [
      | inl same ↦ subst (λ (k : ℕ). listening (with_node once 2 known) k ≡ (k == 2)) (sym same) (set_here once 2 known (omega (arith, places)))
      | inr other ↦ set_there once 2 known n other ∙ set_there unknown_nodes 2 joined n other ∙ none_listening n ∙ sym (ne_eqb n 2 other)
    ])
