-- The count of the frames for the host goes on with each event of the machine that is none outside the host.
use Rattle.std.proofs.Common.{◌≡◌, ℕ, Bool, List, [], ◌++◌, refl, sym, ap, ◌∙◌, subst, append-nil, append_assoc}
use Rattle.std.specs.List.{AllByRecursion}
use Rattle.serial_link.specs.Rules.{Step}
use Rattle.chip_sim.specs.State.{ChipState}
use Rattle.zw_text.specs.declared.entry.Entry.{Entry}
use Rattle.zw_text.specs.declared.entry.Entry.TheVariants as entry
use Rattle.host_model.specs.State.{HostState}
use Rattle.host_model.specs.Events.{HostEvent, Accepts, Cancels}
use Rattle.host_model.specs.Outs.{answers}
use Rattle.outside_model.specs.Devices.{State}
use Rattle.outside_model.specs.State.{OuterState, Outside}
use Rattle.outside_model.specs.Events.{OuterEvent, Host_begins, Host_notes, outcome, entries as entries_outside, happens as happens_outside}
use Rattle.world_model.specs.State.{Machine}
use Rattle.world_model.specs.Events.{Event, Outside_does, Host_does, Refuses, Shows_values, May, entries, happens}
use Rattle.proof_air.specs.proof_walk.Outside.{CoversAnswer, CoversHost, CoversOuter, awaits_number}
use Rattle.proof_air.proofs.HostNotes.{is_note}
use Rattle.proof_air.proofs.Machines.{machine_goes}
use Rattle.proof_line.proofs.ChipAccounts.{event_steps}
use Rattle.proof_chip.specs.Tally.{TallyBefore, TallyNow, TallySo, outlook}
use Rattle.proof_chip.proofs.Asides.{IsHosts, hosts_apart}
use Rattle.proof_chip.proofs.Stamped.{aside_now_t}
use Rattle.proof_chip.proofs.Steady.{hosts_await, hosts_chip, hosts_look}

-- between events where no results are to come
abbrev pub NowSo : List State → List Step → List Entry → OuterState → Type 0
NowSo devices did past o = TallySo (TallyNow devices (outlook o) (awaits_number o) 0) did past o.chip.state.port

-- and in a tick before
abbrev pub BeforeSo : List State → Bool → ℕ → List Step → List Entry → OuterState → Type 0
BeforeSo devices arriving left did past o = TallySo (TallyBefore devices (outlook o) arriving left (awaits_number o) 0) did past o.chip.state.port

-- ---- events of the host

pub host_covers : CoversHost IsHosts
host_covers = record { writes = λ unit. tt; takes = λ count. tt; notes = is_note }

answers_covered : (h : HostState) (event : HostEvent) → AllByRecursion (λ (note : Entry). IsHosts (Host_notes note)) (answers h event)
answers_covered h (Accepts order carriage) = (tt, tt)
answers_covered h (Cancels command) = (tt, tt)
answers_covered h event = tt

abbrev pub IsOfHost : Event → Type 0
IsOfHost (Outside_does event) = ⊥
IsOfHost event = Unit {0}

pub covers_host : (event : Event) → IsOfHost event → CoversOuter IsHosts event
covers_host (Outside_does event) is = absurd is
covers_host event is = tt

pub covers_answer : (event : Event) → IsOfHost event → CoversAnswer IsHosts event
covers_answer (Outside_does event) is = absurd is
covers_answer (Host_does event) is = λ h. answers_covered h event
covers_answer (Refuses line refusal) is = tt
covers_answer (Shows_values node) is = λ text. tt
covers_answer event is = tt

pub no_steps : (m : Machine) (event : Event) → IsOfHost event → event_steps m event ≡ []
unfolding event_steps
no_steps m (Outside_does event) is = absurd is
no_steps m event is = refl

module _ (devices : List State) (did : List Step) where
  abbrev Keeps : Outside → List Entry → Outside → Type 0
  Keeps w told later = (past : List Entry) → NowSo devices did past w.outer → NowSo devices did (past ++ told) later.outer

  keeps_none : (w : Outside) → Keeps w [] w
  keeps_none w past so = subst (λ (l : List Entry). NowSo devices did l w.outer) (sym (append-nil past)) so

  keeps_both : (w u v : Outside) (xs ys : List Entry) → Keeps w xs u → Keeps u ys v → Keeps w (xs ++ ys) v
  keeps_both w u v xs ys first later past so = subst (λ (l : List Entry). NowSo devices did l v.outer) (append_assoc past xs ys) (later (past ++ xs) (first past so))

  pub hosts_keep : (w : Outside) (event : OuterEvent) → IsHosts event → Keeps w (entries_outside w event) (happens_outside w event)
  hosts_keep w event is past so =
      aside_now_t devices w.outer (outcome w event) did past (hosts_apart w event is) (ap (λ (s : ChipState). s.port.side) (hosts_chip w event is)) (ap (λ (s : ChipState). s.port.waiting) (hosts_chip w event is))
      (hosts_look w event is) (hosts_await w event is) so

  session_keeps : (w : Outside) (node session command : ℕ)
      → Keeps w (entries_outside w (Host_begins node session) ++ entries_outside (happens_outside w (Host_begins node session)) (Host_notes (entry.Begin node session command)))
      (happens_outside (happens_outside w (Host_begins node session)) (Host_notes (entry.Begin node session command)))
  session_keeps w node session command =
      let later : Outside = happens_outside w (Host_begins node session) in
      let told : OuterEvent = Host_notes (entry.Begin node session command) in
      keeps_both w later (happens_outside later told) (entries_outside w (Host_begins node session)) (entries_outside later told) (hosts_keep w (Host_begins node session) tt) (hosts_keep later told tt)

  pub host_goes : (m : Machine) (event : Event) → IsOfHost event → May m event → (past : List Entry) → NowSo devices did past m.outside.outer
      → NowSo devices (did ++ event_steps m event) (past ++ entries m event) (happens m event).outside.outer
  host_goes m event is may past so =
      subst (λ (l : List Step). NowSo devices l (past ++ entries m event) (happens m event).outside.outer) (sym (ap (λ (l : List Step). did ++ l) (no_steps m event is) ∙ append-nil did))
      (machine_goes IsHosts host_covers Keeps keeps_none keeps_both (λ w of_host covers fits may_happen. hosts_keep w of_host covers) session_keeps m event (covers_host event is) (covers_answer event is) may past so)
