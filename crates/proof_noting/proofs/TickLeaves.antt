-- What a tick leaves at the nodes of a host of what waits to be sealed, and of what it gave and has to send.
use Rattle.host_model.specs.After.{after, node_does}
use Rattle.host_model.specs.Ends.{attempt_ended}
use Rattle.host_model.specs.Events.{Node_ticks}
use Rattle.host_model.specs.Sessions.{open_command}
use Rattle.host_model.specs.State.{HostState, node_of}
use Rattle.host_node.specs.Events.NodeEvent.{Ticks}
use Rattle.host_node.specs.State.{NodeState, has_waiting, is_idle, is_open, is_running, is_up}
use Rattle.host_node.specs.Steps.{after_again, after_again_tick, after_hold_tick, after_occasion, after_sleep, after_tick, falls_asleep, new_series, next_due, series_over, tick_end, with_again, with_wait, without_attempt}
use Rattle.host_node.specs.declared.attempt.AttemptEnd.{AttemptEnd}
use Rattle.host_node.specs.declared.attempt.AttemptEnd.TheVariants.{Again, NoneRan, Unanswered}
use Rattle.host_node.specs.declared.attempt.Moment.TheVariants.{BetweenTicks}
use Rattle.proof_hearing.proofs.Doings.{node_after}
use Rattle.proof_hearing.proofs.Alike.{Alike}
use Rattle.proof_noting.proofs.EndLeaves.{CutOff, EndLeaves, attempt_leaves, attempts_cut, itself, one_other}
use Rattle.std.proofs.Common.{Bool, None, Option, Some, false, if◌then◌else◌, inl, inr, length, refl, subst, sym, true, ℕ, ◌&&◌, ◌+◌, ◌-◌, ◌<◌, ◌==◌, ◌∙◌, ◌≡◌, ◌⊎◌}
use Rattle.std.proofs.lemmas.Bool.{eq-eqb, eqb-true}
use Rattle.std.specs.Prelude.{nat_lt}

-- ---- one node

-- what is left of a node that stayed so at first
then_cut : (old mid new : NodeState) → Alike old mid → CutOff mid new → CutOff old new
then_cut old mid new first next = record {
  cleared = record { seen = next.cleared.seen ∙ first.seen; text = next.cleared.text; pending = next.cleared.pending };
  opened = next.opened ∙ first.opened;
  commands = next.commands ∙ first.commands;
}

-- ---- its tick

-- what stays in the first part of it
record Waited (s t : NodeState) : Type 0 where
  alike : Alike s t
  wait : t.attempt_wait ≡ s.attempt_wait

either_waited : (b : Bool) (s x y : NodeState) → Waited s x → Waited s y → Waited s (if b then x else y)
either_waited true s x y one other = one
either_waited false s x y one other = other

same_waited : (s : NodeState) → Waited s s
same_waited s = record { alike = itself s; wait = refl }

occasion_waited : (s : NodeState) → Waited s (after_occasion s)
occasion_waited s =
    either_waited (is_open s && is_up s && is_idle s.series) s (new_series s) s
    (record { alike = record { seen = refl; text = refl; pending = refl; opened = refl; commands = refl }; wait = refl }) (same_waited s)

again_waited : (s : NodeState) → Waited s (after_again_tick (after_hold_tick s))
again_waited s =
    let held : NodeState = after_hold_tick s in
    let over : NodeState = with_again held 0 in
    let there = occasion_waited over in
    either_waited (s.again_wait == 1) s (after_again over) (with_again held (s.again_wait - 1))
    (either_waited (has_waiting over) s (after_occasion over) over
    (record {
      alike = record { seen = there.alike.seen; text = there.alike.text; pending = there.alike.pending; opened = there.alike.opened; commands = there.alike.commands };
      wait = there.wait;
    })
    (record { alike = record { seen = refl; text = refl; pending = refl; opened = refl; commands = refl }; wait = refl }))
    (record { alike = record { seen = refl; text = refl; pending = refl; opened = refl; commands = refl }; wait = refl })

-- its attempt is over since its wait is
pub record OverNow (s t : NodeState) : Type 0 where
  pub freed : CutOff s t
  pub wait : s.attempt_wait ≡ 1

-- or it stays as it was, and none ends
abbrev pub TickLeft : NodeState → NodeState → Type 0
TickLeft s t = (Alike s t × (tick_end s ≡ NoneRan)) ⊎ OverNow s t

-- by whether its wait is over, and whether it runs
abbrev ticked_by : Bool → Bool → NodeState → NodeState
ticked_by last runs u =
    if last then (if runs then (if nat_lt (u.book.attempts + 1) 3 then next_due (without_attempt u) (u.book.attempts + 1)
    else after_sleep (series_over (without_attempt u) (u.book.attempts + 1) BetweenTicks)) else u) else with_wait u (u.attempt_wait - 1)

abbrev ends_by : Bool → Bool → NodeState → AttemptEnd
ends_by last runs u = if last then (if runs then (if nat_lt (u.book.attempts + 1) 3 then Again else Unanswered (falls_asleep u)) else NoneRan) else NoneRan

abbrev LeftBy : Bool → Bool → NodeState → NodeState → Type 0
LeftBy last runs s u = (Alike s (ticked_by last runs u) × (ends_by last runs u ≡ NoneRan)) ⊎ OverNow s (ticked_by last runs u)

over_by : (s u : NodeState) (runs : Bool) → Waited s u → (u.attempt_wait == 1) ≡ true → LeftBy true runs s u
over_by s u true up_to is =
    inr (record { freed = then_cut s u (ticked_by true true u) up_to.alike (attempts_cut u (u.book.attempts + 1) BetweenTicks); wait = sym up_to.wait ∙ eqb-true u.attempt_wait 1 is })
over_by s u false up_to is = inl (up_to.alike, refl)

left_by : (s u : NodeState) (last : Bool) → Waited s u → (u.attempt_wait == 1) ≡ last → LeftBy last (is_running u.series) s u
left_by s u true up_to is = over_by s u (is_running u.series) up_to is
left_by s u false up_to is = inl (record { seen = up_to.alike.seen; text = up_to.alike.text; pending = up_to.alike.pending; opened = up_to.alike.opened; commands = up_to.alike.commands }, refl)

pub tick_left : (s : NodeState) → TickLeft s (after_tick s)
tick_left s = left_by s (after_again_tick (after_hold_tick s)) ((after_again_tick (after_hold_tick s)).attempt_wait == 1) (again_waited s) refl

-- ---- where a node ticks

ended_queue : (h : HostState) (end : AttemptEnd) (command : Option ℕ) → (attempt_ended h end command).requests ≡ h.requests
ended_queue h NoneRan command = refl
ended_queue h Again command = refl
ended_queue h (Unanswered fell) None = refl
ended_queue h (Unanswered fell) (Some command) = refl

pub tick_kept : (h : HostState) (k : ℕ) → EndLeaves h (after h (Node_ticks k))
tick_kept h k =
    attempt_leaves h (node_does h k Ticks) (tick_end (node_of h k)) (open_command (node_of h k)) (record { nonces = refl; queue = refl; orders = λ number taken found. found })

pub tick_requests : (h : HostState) (k : ℕ) → (after h (Node_ticks k)).requests ≡ h.requests
tick_requests h k = ended_queue _ _ _

pub tick_other : (h : HostState) (k m : ℕ) → (m ≡ k → ⊥) → Alike (node_of h m) (node_of (after h (Node_ticks k)) m)
tick_other h k m other = one_other h (Node_ticks k) k Ticks refl m other

pub tick_here : (h : HostState) (k : ℕ) → k < length h.nodes → TickLeft (node_of h k) (node_of (after h (Node_ticks k)) k)
tick_here h k within =
    subst (λ (s : NodeState). TickLeft (node_of h k) s) (sym (node_after h (Node_ticks k) k within))
    (subst (λ (b : Bool). TickLeft (node_of h k) (if b then after_tick (node_of h k) else node_of h k)) (sym (eq-eqb k k refl)) (tick_left (node_of h k)))
