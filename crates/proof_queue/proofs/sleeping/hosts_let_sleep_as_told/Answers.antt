-- What is known along the run gives the nodes that a look finds: they are those that the pump lets sleep.
use Rattle.std.proofs.Common.{◌≡◌, ℕ, ◌+◌, ◌-◌, false, List, [], ◌∷◌, ◌++◌, length, refl, sym, subst, arith}
use Rattle.std.specs.Prelude.{Some}
use Rattle.s0_crypto.specs.declared.key_pair.Keys.{Keys}
use Rattle.zw_text.specs.declared.entry.Entry.{Entry}
use Rattle.zw_text.specs.declared.entry.Entry.TheVariants.{Time}
use Rattle.law_time.specs.Moments.{Allows, clock}
use Rattle.law_time.specs.Waking.{may_wake}
use Rattle.law_time.specs.Requests.{asked}
use Rattle.law_time.specs.Queue.{Queue, each_with, with_due, with_no_more}
use Rattle.host_model.specs.State.{HostState}
use Rattle.proof_attempts.specs.proof_requests.law_host.Heard.{heeds_alone}
use Rattle.proof_attempts.specs.proof_requests.proof_alone.State.{HostMachine, first_alone}
use Rattle.proof_attempts.specs.proof_requests.proof_alone.Steps.{Numbers}
use Rattle.proof_attempts.specs.proof_requests.proof_alone.Phases.{Phase}
use Rattle.proof_attempts.specs.proof_requests.proof_alone.Runs.{Run}
use Rattle.proof_attempts.specs.proof_requests.proof_alone.Runs.Run.{Stepped}
use Rattle.proof_attempts.proofs.Running.{run_keeps}
use Rattle.proof_known.specs.Known.{KnowsWhole}
use Rattle.proof_queue.specs.Waiting.{queue_of}
use Rattle.proof_queue.specs.Sleeping.{WaitsIn, full_for, slept, wanting}
use Rattle.proof_queue.proofs.Pumped.{MayLook, raw_wanting, since_wanting}
use Rattle.proof_queue.proofs.Seeing.{Sights, sights_along, clock_now, may_look, risen, told_now, work}
use Rattle.proof_queue.proofs.Sleeps.{sleep_stands}
use Rattle.proof_queue.proofs.Ties.{time_same}
use Rattle.proof_queue.proofs.sleeping.hosts_let_sleep_as_told.Goals as goal

module _ (c : goal.After-hosts_hold_as_told) (keys : Keys) where
  sights : (here : Phase) (told : List Entry) (m : HostMachine) → Run (first_alone keys (Some [])) here told m → Sights here told m
  sights =
      sights_along (first_alone keys (Some [])) (c.hosts_tell_of_sleep.ensures keys) (c.hosts_know_what_nodes_list.ensures.run keys) (c.hosts_run_series_as_told.ensures.along keys)
      (c.hosts_hold_as_told.ensures.along keys)
      (λ here told m run tables n. c.hosts_show_open_sessions.ensures.told told m.state n tables.facts (c.hosts_keep_what_is_said.ensures.table keys here told m run n).numbers)
      (λ here told m run. (run_keeps (Allows may_wake) KnowsWhole c.hosts_know_what_was_told.ensures.walk [] run (c.hosts_know_what_was_told.ensures.first keys)).1.0.1)

-- those that a look finds are let sleep
lets : (q later : Queue) (h : HostState) (owes : List ℕ) → length h.nodes ≡ 233 → later ≡ each_with with_no_more q (wanting h) → WaitsIn q h owes
    → WaitsIn later (slept h (wanting h)) (owes ++ full_for h (wanting h))
lets q later h owes places is waits =
    let stands = sleep_stands q h owes (wanting h) places refl (record { wants_are = waits.0.wants_are; owed_are = waits.0.owed_are; dropped = waits.1 }) in
    subst (λ (k : Queue). WaitsIn k (slept h (wanting h)) (owes ++ full_for h (wanting h))) (sym is)
    (record { wants_are = stands.wants_are; owed_are = stands.owed_are }, stands.dropped)

pub returns-clause-first : goal.returns-clause-first
returns-clause-first c = λ keys taken here told m owes run looking unnumbered waits.
    let known = sights c keys here told m run in
    let q : Queue = queue_of (heeds_alone taken) told in
    lets q (with_due (heeds_alone taken) told m.clock (asked told) q) m.state owes (work here told m looking known).host.nodes.places
    (raw_wanting taken told m.clock m.state (asked told) q (may_look here told m looking known) (clock_now here told m looking known unnumbered)
    (told_now here told m looking known q waits.0.wants_are waits.1)) waits

pub returns-clause-again : goal.returns-clause-again
returns-clause-again c = λ keys taken here told m owes before run looking up near waits.
    let known = sights c keys here told m run in
    let q : Queue = queue_of (heeds_alone taken) told in
    let seen : Queue = with_due (heeds_alone taken) told before (asked told) q in
    lets seen (with_due (heeds_alone taken) told m.clock (asked told) q) m.state owes (work here told m looking known).host.nodes.places
    (since_wanting taken told m.clock m.state (asked told) q before up near (may_look here told m looking known) (told_now here told m looking known seen waits.0.wants_are waits.1)) waits

-- the number of the tick is a step of the run
pub returns-clause-numbers : goal.returns-clause-numbers
returns-clause-numbers c = λ keys taken here told m run looking awaits.
    let later : List Entry = told ++ Time m.clock ∷ [] in
    let n : HostMachine = record m { awaits = false } in
    let known = sights c keys here told m run in
    let next = sights c keys here later n (Stepped Numbers (awaits, refl) refl refl run) in
    let before : ℕ = m.clock - 1 in
    let is : before + 1 ≡ m.clock = omega (arith, risen here told m looking known awaits) in
    subst (λ (t : ℕ). with_due (heeds_alone taken) (told ++ Time t ∷ []) t (asked (told ++ Time t ∷ [])) (queue_of (heeds_alone taken) (told ++ Time t ∷ []))
    ≡ with_due (heeds_alone taken) told t (asked told) (queue_of (heeds_alone taken) told)) is
    (time_same taken told before m.state (subst (λ (t : ℕ). MayLook told t m.state) (sym is) (may_look here told m looking known))
    (subst (λ (t : ℕ). MayLook (told ++ Time t ∷ []) t m.state) (sym is) (may_look here later n looking next))
    (subst (λ (t : ℕ). clock (told ++ Time t ∷ []) ≡ t) (sym is) (clock_now here later n looking next refl)))
