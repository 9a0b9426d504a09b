-- Messages to a node that are asked for wait where fewer than 64 do, and are dropped else: so by the transcript as in the host.
use Rattle.std.proofs.Common.{◌≡◌, ℕ, Bool, true, false, if◌then◌else◌, List, [], ◌∷◌, ◌++◌, length, refl, sym, ap, ap₂, ◌∙◌, subst, append-nil, append_assoc}
use Rattle.std.specs.Prelude.{nat_le}
use Rattle.std.specs.List.{flat_map}
use Rattle.std.proofs.lemmas.List.{length-map, map-append}
use Rattle.law_time.specs.Queue.{Queue, each_with, is_full as queue_full, with_asked}
use Rattle.host_requests.specs.Events.RequestsEvent.{Pushes}
use Rattle.host_requests.specs.declared.task.Task.{Task}
use Rattle.host_model.specs.State.{HostState}
use Rattle.host_model.specs.After.{after, is_full, queues_if_room, requests_do}
use Rattle.host_model.specs.Did.{after_all}
use Rattle.host_model.specs.Events.{HostEvent}
use Rattle.host_model.specs.Outs.{dropped_if, noted, outs}
use Rattle.host_model.specs.declared.out.HostOut.{HostOut}
use Rattle.host_model.proofs.EventLists.{after_all-append}
use Rattle.proof_queue.specs.Waiting.{Waits, dropped_at, dropped_by, want_of_task}
use Rattle.proof_queue.proofs.Stills.{AreStill, IsStill}

-- these wants of a node, put in one after another, are what these events put into the host's queue
abbrev pub Puts : ℕ → List (List ℕ) → HostState → List HostEvent → Type 0
Puts n wants h events =
    (queue : Queue) (owes : List ℕ) → Waits queue h.requests.queue owes
    → Waits (each_with (with_asked n) queue wants) (after_all h events).requests.queue (owes ++ dropped_by h events)

-- ---- one message

task_puts : (n : ℕ) (h : HostState) (task : Task) (want : List ℕ) → want ≡ want_of_task task → (queue : Queue) (owes : List ℕ) → Waits queue h.requests.queue owes
    → Waits (with_asked n queue want) (queues_if_room h task).requests.queue (owes ++ flat_map dropped_at (noted (dropped_if (is_full h) n)))
task_puts n h task want is queue owes waits = by (queue_full queue) (is_full h) (ap (λ (k : ℕ). nat_le 64 k) (ap length waits.wants_are ∙ length-map h.requests.queue want_of_task))
  where
    by : (a b : Bool) → a ≡ b
        → Waits (if a then record queue { owed = queue.owed ++ n ∷ [] } else record queue { wants = queue.wants ++ want ∷ [] }) (if b then h else requests_do h (Pushes task)).requests.queue
        (owes ++ flat_map dropped_at (noted (dropped_if b n)))
    by true true same = record { wants_are = waits.wants_are; owed_are = ap (λ (l : List ℕ). l ++ n ∷ []) waits.owed_are }
    by false false same = record {
      wants_are = ap₂ (λ (l : List (List ℕ)) (w : List ℕ). l ++ w ∷ []) waits.wants_are is ∙ sym (map-append want_of_task h.requests.queue (task ∷ []));
      owed_are = waits.owed_are ∙ sym (append-nil owes);
    }
    by true false same = absurd cc
    by false true same = absurd cc

-- the event whose message this is
pub one_puts : (n : ℕ) (h : HostState) (event : HostEvent) (task : Task) (want : List ℕ) → want ≡ want_of_task task → (after h event).requests.queue ≡ (queues_if_room h task).requests.queue
    → outs h event ≡ noted (dropped_if (is_full h) n) → Puts n (want ∷ []) h (event ∷ [])
one_puts n h event task want is queue_is puts queue owes waits =
    subst (λ (q : List Task). Waits (with_asked n queue want) q (owes ++ (flat_map dropped_at (outs h event) ++ []))) (sym queue_is)
    (subst (λ (l : List ℕ). Waits (with_asked n queue want) (queues_if_room h task).requests.queue (owes ++ l))
    (sym (append-nil (flat_map dropped_at (outs h event)) ∙ ap (λ (l : List HostOut). flat_map dropped_at l) puts)) (task_puts n h task want is queue owes waits))

-- ---- nothing

pub none_put : (n : ℕ) (h : HostState) (events : List HostEvent) → AreStill h events → Puts n [] h events
none_put n h events still queue owes waits =
    subst (λ (q : List Task). Waits queue q (owes ++ dropped_by h events)) (sym still.queue)
    (subst (λ (l : List ℕ). Waits queue h.requests.queue l) (sym (ap (λ (l : List ℕ). owes ++ l) still.drops ∙ append-nil owes)) waits)

pub one_still : (h : HostState) (event : HostEvent) → IsStill h event → AreStill h (event ∷ [])
one_still h event still = record { queue = still.queue; drops = ap (λ (l : List ℕ). l ++ []) still.drops }

-- ---- one after another

each-append : (n : ℕ) (queue : Queue) (a b : List (List ℕ)) → each_with (with_asked n) queue (a ++ b) ≡ each_with (with_asked n) (each_with (with_asked n) queue a) b
each-append n queue [] b = refl
each-append n queue (want ∷ a) b = each-append n (with_asked n queue want) a b

pub dropped-append : (h : HostState) (a b : List HostEvent) → dropped_by h (a ++ b) ≡ dropped_by h a ++ dropped_by (after_all h a) b
dropped-append h [] b = refl
dropped-append h (event ∷ a) b =
    ap (λ (l : List ℕ). flat_map dropped_at (outs h event) ++ l) (dropped-append (after h event) a b)
    ∙ sym (append_assoc (flat_map dropped_at (outs h event)) (dropped_by (after h event) a) (dropped_by (after_all (after h event) a) b))

pub both_put : (n : ℕ) (first rest : List (List ℕ)) (h : HostState) (a b : List HostEvent) → Puts n first h a → Puts n rest (after_all h a) b → Puts n (first ++ rest) h (a ++ b)
both_put n first rest h a b puts more queue owes waits =
    subst (λ (g : HostState). Waits (each_with (with_asked n) queue (first ++ rest)) g.requests.queue (owes ++ dropped_by h (a ++ b))) (sym (after_all-append h a b))
    (subst (λ (l : List ℕ). Waits (each_with (with_asked n) queue (first ++ rest)) (after_all (after_all h a) b).requests.queue l)
    (append_assoc owes (dropped_by h a) (dropped_by (after_all h a) b) ∙ sym (ap (λ (l : List ℕ). owes ++ l) (dropped-append h a b)))
    (subst (λ (q : Queue). Waits q (after_all (after_all h a) b).requests.queue ((owes ++ dropped_by h a) ++ dropped_by (after_all h a) b)) (sym (each-append n queue first rest))
    (more (each_with (with_asked n) queue first) (owes ++ dropped_by h a) (puts queue owes waits))))
