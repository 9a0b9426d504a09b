-- What each event after a payload leaves at the nodes of a host of what waits to be sealed.
use Rattle.std.proofs.Common.{◌≡◌, ◌<◌, ℕ, ◌&&◌, Bool, true, false, if◌then◌else◌, inl, inr, List, length, refl, sym, ap, ◌∙◌, subst}
use Rattle.std.specs.Prelude.{None}
use Rattle.std.proofs.lemmas.Bool.{cases_eq, cases_lt}
use Rattle.std.proofs.lemmas.List.{get_or-set_same, get_or-set_other, set_past}
use Rattle.supervision.specs.Host.{open_session, told_of}
use Rattle.supervision.specs.declared.host_node.Told.{Told}
use Rattle.supervision.specs.declared.host_node.Told.TheVariants.{Final, Working}
use Rattle.host_keep.specs.Status.{status_byte}
use Rattle.host_keep.specs.declared.final_status.FinalStatus.{FinalStatus}
use Rattle.host_node.specs.State.{NodeState, is_idle, is_open, is_running, is_up, unknown}
use Rattle.host_node.specs.Events.{NodeEvent, after as after_node}
use Rattle.host_node.specs.Events.NodeEvent.{Holds, Notifies as node_notifies, Reports, Takes_nonce as node_takes_nonce}
use Rattle.host_node.specs.Steps.{after_nonce, after_occasion, after_told, new_series, tried_again, wait_ticks, with_wait}
use Rattle.host_node.specs.TableState.{node_of as node_among}
use Rattle.host_model.specs.State.{HostState, node_of}
use Rattle.host_model.specs.After.{after, finishing, holding, is_held, node_does}
use Rattle.host_model.specs.Events.{Finishes, Notifies, Takes_nonce, Works}

-- ---- one node

pub record Alike (old new : NodeState) : Type 0 where
  pub seen : new.seen ≡ old.seen
  pub text : new.text ≡ old.text
  pub pending : new.pending ≡ old.pending
  pub opened : open_session new.book ≡ open_session old.book
  pub commands : new.book.commands ≡ old.book.commands

-- nothing is left to be sealed
pub record Cleared (old new : NodeState) : Type 0 where
  pub seen : new.seen ≡ old.seen
  pub text : new.text ≡ None
  pub pending : new.pending ≡ None

pub same_alike : (old new : NodeState) → new ≡ old → Alike old new
same_alike old new is = record { seen = ap (λ (n : NodeState). n.seen) is; text = ap (λ (n : NodeState). n.text) is; pending = ap (λ (n : NodeState). n.pending) is; opened = ap (λ (n : NodeState). open_session n.book) is; commands = ap (λ (n : NodeState). n.book.commands) is }

pub then_alike : (old mid new : NodeState) → Alike old mid → Alike mid new → Alike old new
then_alike old mid new first next = record {
  seen = next.seen ∙ first.seen;
  text = next.text ∙ first.text;
  pending = next.pending ∙ first.pending;
  opened = next.opened ∙ first.opened;
  commands = next.commands ∙ first.commands;
}

then_cleared : (old mid new : NodeState) → Cleared old mid → Alike mid new → Cleared old new
then_cleared old mid new first next = record { seen = next.seen ∙ first.seen; text = next.text ∙ first.text; pending = next.pending ∙ first.pending }

sign_alike : (n : NodeState) → Alike n (if is_running n.series then with_wait n wait_ticks else n)
sign_alike n = by (is_running n.series)
  where
    by : (b : Bool) → Alike n (if b then with_wait n wait_ticks else n)
    by true = record { seen = refl; text = refl; pending = refl; opened = refl; commands = refl }
    by false = record { seen = refl; text = refl; pending = refl; opened = refl; commands = refl }

works_alike : (n : NodeState) (id : ℕ) → told_of n.book id 1 ≡ Working → Alike n (after_node n (Reports id 1))
works_alike n id is = subst (λ (t : Told). Alike n (after_told n 1 t)) (sym is) (sign_alike n)

final_cleared : (n : NodeState) (id status session : ℕ) → told_of n.book id status ≡ Final session → Cleared n (after_node n (Reports id status))
final_cleared n id status session is = subst (λ (t : Told). Cleared n (after_told n status t)) (sym is) (record { seen = refl; text = refl; pending = refl })

pub occasion_alike : (n m : NodeState) → Alike n m → Alike n (after_occasion m)
occasion_alike n m alike = by (is_open m && is_up m && is_idle m.series)
  where
    by : (b : Bool) → Alike n (if b then new_series m else m)
    by true = record { seen = alike.seen; text = alike.text; pending = alike.pending; opened = alike.opened; commands = alike.commands }
    by false = alike

wakes_alike : (n : NodeState) → Alike n (after_node n node_notifies)
wakes_alike n = occasion_alike n (record n { awake = true; no_more = tried_again n.no_more }) (record { seen = refl; text = refl; pending = refl; opened = refl; commands = refl })

-- ---- in the table

pub other_node : (h : HostState) (n : ℕ) (event : NodeEvent) (m : ℕ) → (m ≡ n → ⊥) → node_of (node_does h n event) m ≡ node_of h m
other_node h n event m other = get_or-set_other h.nodes n m (after_node (node_of h n) event) (unknown 0) other

pub here_node : (h : HostState) (n : ℕ) (event : NodeEvent) → n < length h.nodes → node_of (node_does h n event) n ≡ after_node (node_of h n) event
here_node h n event within = get_or-set_same h.nodes n (after_node (node_of h n) event) (unknown 0) within

does_alike : (h : HostState) (n : ℕ) (event : NodeEvent) (m : ℕ) → Alike (node_of h n) (after_node (node_of h n) event) → Alike (node_of h m) (node_of (node_does h n event) m)
does_alike h n event m alike = elim (cases_eq m n) [
  | inl is ↦ elim (cases_lt n (length h.nodes)) [
    | inl within ↦ subst (λ (k : ℕ). Alike (node_of h k) (node_of (node_does h n event) k)) (sym is)
        (subst (λ (s : NodeState). Alike (node_of h n) s) (sym (here_node h n event within)) alike)
    | inr past ↦ same_alike (node_of h m) (node_of (node_does h n event) m) (ap (λ (l : List NodeState). node_among l m) (set_past h.nodes n (after_node (node_of h n) event) past))
  ]
  | inr other ↦ same_alike (node_of h m) (node_of (node_does h n event) m) (other_node h n event m other)
]

hold_alike : (h : HostState) (n : ℕ) (held : Bool) (m : ℕ) → Alike (node_of h m) (node_of (holding h n held) m)
hold_alike h n true m = does_alike h n Holds m (record { seen = refl; text = refl; pending = refl; opened = refl; commands = refl })
hold_alike h n false m = record { seen = refl; text = refl; pending = refl; opened = refl; commands = refl }

-- ---- events

pub works_go : (h : HostState) (n id m : ℕ) → told_of (node_of h n).book id 1 ≡ Working → Alike (node_of h m) (node_of (after h (Works n id)) m)
works_go h n id m is = does_alike h n (Reports id 1) m (works_alike (node_of h n) id is)

pub wakes_go : (h : HostState) (n m : ℕ) → Alike (node_of h m) (node_of (after h (Notifies n)) m)
wakes_go h n m = does_alike h n node_notifies m (wakes_alike (node_of h n))

pub finish_other : (h : HostState) (n session id command : ℕ) (status : FinalStatus) (wake : Bool) (m : ℕ) → (m ≡ n → ⊥)
    → Alike (node_of h m) (node_of (after h (Finishes n session id command status wake)) m)
finish_other h n session id command status wake m other =
    then_alike (node_of h m) (node_of (finishing h n id command status) m) (node_of (after h (Finishes n session id command status wake)) m)
    (same_alike (node_of h m) (node_of (finishing h n id command status) m) (other_node h n (Reports id (status_byte status)) m other))
    (hold_alike (finishing h n id command status) n (is_held h n wake) m)

pub finish_here : (h : HostState) (n session id command : ℕ) (status : FinalStatus) (wake : Bool) → n < length h.nodes → told_of (node_of h n).book id (status_byte status) ≡ Final session
    → Cleared (node_of h n) (node_of (after h (Finishes n session id command status wake)) n)
finish_here h n session id command status wake within is =
    then_cleared (node_of h n) (node_of (finishing h n id command status) n) (node_of (after h (Finishes n session id command status wake)) n)
    (subst (λ (s : NodeState). Cleared (node_of h n) s) (sym (here_node h n (Reports id (status_byte status)) within)) (final_cleared (node_of h n) id (status_byte status) session is))
    (hold_alike (finishing h n id command status) n (is_held h n wake) n)

pub takes_here : (h : HostState) (n seen : ℕ) (text : List ℕ) → n < length h.nodes → node_of (after h (Takes_nonce n seen text)) n ≡ after_nonce (node_of h n) seen text
takes_here h n seen text within = here_node h n (node_takes_nonce seen text) within

pub takes_other : (h : HostState) (n seen : ℕ) (text : List ℕ) (m : ℕ) → (m ≡ n → ⊥) → node_of (after h (Takes_nonce n seen text)) m ≡ node_of h m
takes_other h n seen text m other = other_node h n (node_takes_nonce seen text) m other

-- what a hold leaves
pub hold_same : (h : HostState) (n : ℕ) (held : Bool) → ((holding h n held).nonces ≡ h.nonces) × ((holding h n held).requests ≡ h.requests) × ((holding h n held).commands ≡ h.commands)
hold_same h n true = (refl, refl, refl)
hold_same h n false = (refl, refl, refl)
