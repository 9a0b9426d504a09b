-- What follows a payload of a node leaves its sessions and its orders: one that is open was open, and is of the same command; and what of it puts nothing into the queue leaves the tasks.
use Rattle.std.proofs.Common.{◌≡◌, ℕ, ◌&&◌, Bool, true, false, if◌then◌else◌, inl, inr, List, [], ◌∷◌, ◌++◌, length, refl, sym, ap, ◌∙◌, subst}
use Rattle.std.specs.Prelude.{Option, Some, None}
use Rattle.std.specs.List.{AllByRecursion}
use Rattle.std.proofs.lemmas.Bool.{cases_lt}
use Rattle.std.proofs.lemmas.List.{get_or-set_same, set_past}
use Rattle.zw_base.proofs.Each.{all-append}
use Rattle.zw_base.specs.declared.property.Setting.{Setting}
use Rattle.supervision.specs.Host.{HostBook, open_session}
use Rattle.supervision.specs.declared.host_node.Told.{Told as TheTold}
use Rattle.supervision.specs.declared.host_node.Told.TheVariants as told
use Rattle.zw_text.specs.declared.entry.Entry.TheVariants as entry
use Rattle.serial_link.specs.State.{Side}
use Rattle.host_keep.specs.Status.{status_byte}
use Rattle.host_keep.specs.declared.final_status.FinalStatus.{FinalStatus}
use Rattle.host_requests.specs.State.{RequestsState}
use Rattle.host_requests.specs.Events.RequestsEvent.{Pushes}
use Rattle.host_requests.specs.declared.task.Task.{Task}
use Rattle.host_requests.specs.declared.task.Task.TheVariants.{Offer, Segment}
use Rattle.host_node.specs.State.{NodeState, is_idle, is_open, is_running, is_up}
use Rattle.host_node.specs.Events.{NodeEvent, after as after_node}
use Rattle.host_node.specs.Events.NodeEvent.{Holds, Notifies as node_notifies, Reports, Takes_nonce as node_takes_nonce}
use Rattle.host_node.specs.Steps.{after_occasion, after_told, new_series, tried_again, wait_ticks, with_wait}
use Rattle.host_node.specs.TableState.{node_of as node_among, with_node as with_node_among}
use Rattle.host_model.specs.State.{Command, HostState, command_at, node_of}
use Rattle.host_model.specs.Sessions.{settings_with}
use Rattle.host_model.specs.After.{after, finishing, giving, holding, is_full, is_held, node_does, offering, outcome_of, queues_if_room, requests_do}
use Rattle.host_model.specs.Events.{HostEvent, Finishes, Gives, Has_no_room, Hears_value, Is_unkept, Notifies, Offers, Reports_old, Resends, Spends, Spends_unread, Takes_nonce, Unreads, Works}
use Rattle.host_model.specs.Outs.{ended_of, held_entries, stored_entries}
use Rattle.proof_attempts.proofs.Commands.{taken_set}
use Rattle.proof_attempts.specs.proof_host.Tables.{taken_at}
use Rattle.proof_attempts.proofs.Doing.{holds_asks}
use Rattle.proof_queue.proofs.Segments.{Keeps}
use Rattle.proof_queue.proofs.Stills.{IsStill}
use Rattle.proof_queue.proofs.Undropped.{Undropped, noted_none}

-- ---- one node

pub record BookKept (old now : HostBook) : Type 0 where
  pub commands : now.commands ≡ old.commands
  pub opens : (s : ℕ) → open_session now ≡ Some s → open_session old ≡ Some s

pub book_same : (old now : HostBook) → now ≡ old → BookKept old now
book_same old now is = record { commands = ap (λ (b : HostBook). b.commands) is; opens = λ s opened. ap (λ (b : HostBook). open_session b) (sym is) ∙ opened }

pub sign_kept : (n : NodeState) → (if is_running n.series then with_wait n wait_ticks else n).book ≡ n.book
sign_kept n = by (is_running n.series)
  where
    by : (b : Bool) → (if b then with_wait n wait_ticks else n).book ≡ n.book
    by true = refl
    by false = refl

pub told_kept : (n : NodeState) (status : ℕ) (it : TheTold) → BookKept n.book (after_told n status it).book
told_kept n status (told.Final session) = record { commands = refl; opens = λ s opened. absurd (let bad : ◌≡◌ {A = Option ℕ} None (Some s) = opened in cc) }
told_kept n status told.Working = book_same n.book (after_told n status told.Working).book (sign_kept n)
told_kept n status told.Old = book_same n.book n.book refl

attempts_open : (outcome : Option ℕ) (commands : List ℕ) (attempts more s : ℕ) → open_session (record { commands = commands; outcome = outcome; attempts = more }) ≡ Some s
    → open_session (record { commands = commands; outcome = outcome; attempts = attempts }) ≡ Some s
attempts_open (Some status) commands attempts more s opened = opened
attempts_open None [] attempts more s opened = opened
attempts_open None (first ∷ rest) attempts more s opened = opened

pub occasion_kept : (n : NodeState) → BookKept n.book (after_occasion n).book
occasion_kept n = by (is_open n) (is_up n) (is_idle n.series)
  where
    by : (a b c : Bool) → BookKept n.book (if a && b && c then new_series n else n).book
    by true true true = record { commands = refl; opens = λ s opened. attempts_open n.book.outcome n.book.commands n.book.attempts 0 s opened }
    by true true false = book_same n.book n.book refl
    by true false c = book_same n.book n.book refl
    by false b c = book_same n.book n.book refl

-- ---- in the table

set_or : (nodes : List NodeState) (n : ℕ) (s : NodeState) (Is : NodeState → Type 0) → Is (node_among nodes n) → Is s → Is (node_among (with_node_among nodes n s) n)
set_or nodes n s Is old new = elim (cases_lt n (length nodes)) [
  | inl within ↦ subst Is (sym (get_or-set_same nodes n s _ within)) new
  | inr past ↦ subst (λ (l : List NodeState). Is (node_among l n)) (sym (set_past nodes n s past)) old
]

same_keeps : (h now : HostState) (n : ℕ) → BookKept (node_of h n).book (node_of now n).book → ((number : ℕ) → taken_at now.commands number ≡ taken_at h.commands number) → Keeps h now n
same_keeps h now n kept taken = record { commands = kept.commands; opens = kept.opens; taken = taken }

aside_keeps : (h now : HostState) (n : ℕ) → now.nodes ≡ h.nodes → now.commands ≡ h.commands → Keeps h now n
aside_keeps h now n nodes commands =
    same_keeps h now n (book_same (node_of h n).book (node_of now n).book (ap (λ (l : List NodeState). (node_among l n).book) nodes)) (λ number. ap (λ (l : List Command). taken_at l number) commands)

node_keeps : (h : HostState) (n : ℕ) (event : NodeEvent) → BookKept (node_of h n).book (after_node (node_of h n) event).book → Keeps h (node_does h n event) n
node_keeps h n event kept =
    same_keeps h (node_does h n event) n
    (set_or h.nodes n (after_node (node_of h n) event) (λ (s : NodeState). BookKept (node_of h n).book s.book) (book_same (node_of h n).book (node_of h n).book refl) kept) (λ number. refl)

-- ---- events

room_nodes : (h : HostState) (task : Task) → (queues_if_room h task).nodes ≡ h.nodes
room_nodes h task = by (is_full h)
  where
    by : (b : Bool) → (if b then h else requests_do h (Pushes task)).nodes ≡ h.nodes
    by true = refl
    by false = refl

room_commands : (h : HostState) (task : Task) → (queues_if_room h task).commands ≡ h.commands
room_commands h task = by (is_full h)
  where
    by : (b : Bool) → (if b then h else requests_do h (Pushes task)).commands ≡ h.commands
    by true = refl
    by false = refl

pub room_keeps : (h : HostState) (n : ℕ) (task : Task) → Keeps h (queues_if_room h task) n
room_keeps h n task = aside_keeps h (queues_if_room h task) n (room_nodes h task) (room_commands h task)

offers_keep : (h : HostState) (n : ℕ) (live : Option (List ℕ)) → Keeps h (offering h n live) n
offers_keep h n None = aside_keeps h h n refl refl
offers_keep h n (Some nonce) = room_keeps h n (Offer n nonce)

pub then_keeps : (h mid now : HostState) (n : ℕ) → Keeps h mid n → Keeps mid now n → Keeps h now n
then_keeps h mid now n first next = record {
  commands = next.commands ∙ first.commands;
  opens = λ s opened. first.opens s (next.opens s opened);
  taken = λ number. next.taken number ∙ first.taken number;
}

pub keeps_first : (h : HostState) (n : ℕ) → Keeps h h n
keeps_first h n = aside_keeps h h n refl refl

hold_keeps : (h : HostState) (n : ℕ) (held : Bool) → Keeps h (holding h n held) n
hold_keeps h n true = node_keeps h n Holds (book_same (node_of h n).book (node_of h n).book refl)
hold_keeps h n false = keeps_first h n

finish_keeps : (h : HostState) (n id command : ℕ) (status : FinalStatus) → Keeps h (finishing h n id command status) n
finish_keeps h n id command status =
    let node = node_keeps h n (Reports id (status_byte status)) (told_kept (node_of h n) (status_byte status) _) in
    record { commands = node.commands; opens = node.opens; taken = λ number. taken_set h.commands command (outcome_of status) number }

-- an event that follows a payload of the node
abbrev pub IsFollower : ℕ → HostEvent → Type 0
IsFollower n (Unreads m payload) = Unit {0}
IsFollower n (Is_unkept m) = Unit {0}
IsFollower n (Reports_old m id) = Unit {0}
IsFollower n (Works m id) = m ≡ n
IsFollower n (Finishes m session id command status wake) = m ≡ n
IsFollower n (Offers m) = m ≡ n
IsFollower n (Gives m drawn) = m ≡ n
IsFollower n (Spends m) = Unit {0}
IsFollower n (Spends_unread m payload) = Unit {0}
IsFollower n (Takes_nonce m seen text) = m ≡ n
IsFollower n (Notifies m) = m ≡ n
IsFollower n (Resends m payload) = m ≡ n
IsFollower n (Hears_value m setting) = Unit {0}
IsFollower n (Has_no_room m property) = Unit {0}
IsFollower n event = ⊥

pub event_keeps : (h : HostState) (n : ℕ) (event : HostEvent) → IsFollower n event → Keeps h (after h event) n
event_keeps h n (Unreads m payload) is = keeps_first h n
event_keeps h n (Is_unkept m) is = keeps_first h n
event_keeps h n (Reports_old m id) is = keeps_first h n
event_keeps h n (Works m id) is = subst (λ (k : ℕ). Keeps h (after h (Works k id)) n) (sym is) (node_keeps h n (Reports id 1) (told_kept (node_of h n) 1 _))
event_keeps h n (Finishes m session id command status wake) is =
    subst (λ (k : ℕ). Keeps h (after h (Finishes k session id command status wake)) n) (sym is)
    (then_keeps h (finishing h n id command status) (holding (finishing h n id command status) n (is_held h n wake)) n (finish_keeps h n id command status)
    (hold_keeps (finishing h n id command status) n (is_held h n wake)))
event_keeps h n (Offers m) is = subst (λ (k : ℕ). Keeps h (after h (Offers k)) n) (sym is) (offers_keep h n _)
event_keeps h n (Gives m drawn) is =
    subst (λ (k : ℕ). Keeps h (after h (Gives k drawn)) n) (sym is)
    (then_keeps h (giving h n drawn) (after h (Gives n drawn)) n (aside_keeps h (giving h n drawn) n refl refl) (offers_keep (giving h n drawn) n _))
event_keeps h n (Spends m) is = aside_keeps h (after h (Spends m)) n refl refl
event_keeps h n (Spends_unread m payload) is = aside_keeps h (after h (Spends_unread m payload)) n refl refl
event_keeps h n (Takes_nonce m seen text) is =
    subst (λ (k : ℕ). Keeps h (after h (Takes_nonce k seen text)) n) (sym is) (node_keeps h n (node_takes_nonce seen text) (book_same (node_of h n).book (node_of h n).book refl))
event_keeps h n (Notifies m) is =
    subst (λ (k : ℕ). Keeps h (after h (Notifies k)) n) (sym is)
    (node_keeps h n node_notifies (occasion_kept (record (node_of h n) { awake = true; no_more = tried_again (node_of h n).no_more })))
event_keeps h n (Resends m payload) is = room_keeps h n (Segment m payload)
event_keeps h n (Hears_value m setting) is = aside_keeps h (after h (Hears_value m setting)) n refl refl
event_keeps h n (Has_no_room m property) is = keeps_first h n
event_keeps h n event is = absurd is

-- ---- those that put in nothing

stored_undropped : (n : ℕ) (settings : List Setting) → AllByRecursion Undropped (stored_entries n settings)
stored_undropped n [] = tt
stored_undropped n (setting ∷ settings) = (tt, stored_undropped n settings)

held_undropped : (n : ℕ) (held : Bool) → AllByRecursion Undropped (held_entries n held)
held_undropped n true = (tt, tt)
held_undropped n false = tt

pub finish_still : (h : HostState) (n session id command : ℕ) (status : FinalStatus) (wake : Bool) → IsStill h (Finishes n session id command status wake)
finish_still h n session id command status wake = record {
  queue = ap (λ (p : Side × RequestsState). p.1.queue) (holds_asks (finishing h n id command status) n (is_held h n wake));
  drops = noted_none
      (entry.Out command (ended_of status) ∷ (stored_entries n (settings_with status (command_at h.commands command)) ++ held_entries n (is_held h n wake))) (
        tt,
        all-append Undropped (stored_entries n (settings_with status (command_at h.commands command))) (held_entries n (is_held h n wake))
            (stored_undropped n (settings_with status (command_at h.commands command))) (held_undropped n (is_held h n wake)),
      );
}
