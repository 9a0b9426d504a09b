-- What is so of host, chip and air makes the tie.
use Rattle.std.proofs.Common.{◌≡◌, ℕ, suc, ◌==◌, Bool, true, false, List, [], ◌∷◌, refl, sym, ap, subst, ◌∙◌, arith}
use Rattle.std.proofs.lemmas.Bool.{and_parts, eqb-true}
use Rattle.std.specs.Prelude.{◌||◌, Option, None, Some, is_some}
use Rattle.std.specs.List.{AllByRecursion, list_all, list_any}
use Rattle.zw_text.specs.Transcript.{joined}
use Rattle.host_node.specs.State.{NodeState}
use Rattle.host_node.specs.TableState.{node_of as node_among}
use Rattle.host_node.specs.declared.series.Series.{Series}
use Rattle.host_node.specs.declared.series.Series.TheVariants.{Idle as Idle_series, Running}
use Rattle.law_time.specs.Calm.{is_idle}
use Rattle.law_wire.specs.Routes.{MayGo}
use Rattle.law_wire.specs.law_transcript.Nodes.{is_joined}
use Rattle.proof_chip.proofs.Lines.{lines_lead}
use Rattle.proof_in_time.specs.proof_answered.proof_calm.proof_work.Phases.{AsksNothing, KnowsWork}
use Rattle.proof_in_time.specs.proof_answered.proof_calm.proof_work.Work.{HostWork, SeriesMeans}
use Rattle.proof_chip.specs.Knowing.{AnyEntry, KnownNodes}
use Rattle.proof_devices.specs.proof_routes.Knowing.{KnowNetworks}
use Rattle.proof_chip.specs.proof_world.proof_serial.Host.{FitsIn}
use Rattle.proof_chip.specs.proof_world.world_lines.chip_sim.Nodes.{is_marked}
use Rattle.proof_ready.specs.Ease.{clock_of}
use Rattle.proof_chip.specs.proof_world.host_model.State.{HostState, node_of}
use Rattle.proof_chip.specs.proof_line.outside_model.State.{OuterState}
use Rattle.proof_chip.specs.proof_line.world_model.State.{Machine, first_machine}
use Rattle.proof_chip.specs.proof_world.world_lines.Spoken.{after_all, transcript_of}
use Rattle.proof_chip.specs.proof_world.world_lines.chip_sim.Rules.{WaitsWhileBusy}
use Rattle.proof_chip.proofs.Turning.{none_busy}
use Rattle.proof_in_time.specs.proof_answered.proof_calm.Homeward.{IsOfMember}
use Rattle.proof_in_time.specs.proof_answered.proof_calm.Known.{HasShortPlain, IsRequestFor, IsTaskFor}
use Rattle.proof_in_time.specs.proof_answered.proof_calm.Routed.{IsOfFrame}
use Rattle.proof_in_time.specs.proof_answered.proof_calm.Tied.{LeaveIt, Nowhere, unheard, unheard_by}
use Rattle.proof_ready.proofs.tied.calm_requests_are_tied.Goals as goal

-- one of these for which all are so
member_all : (test : ℕ → Bool) (xs : List ℕ) (n : ℕ) → list_any (λ k. k == n) xs ≡ true → list_all test xs ≡ true → test n ≡ true
member_all test [] n among all = absurd (let wrong : false ≡ true = among in cc)
member_all test (x ∷ xs) n among all = by (x == n) refl (λ later. member_all test xs n later parts.1)
  where
    parts : (test x ≡ true) × (list_all test xs ≡ true)
    parts = and_parts (test x) (list_all test xs) all

    by : (b : Bool) → (x == n) ≡ b → (list_any (λ k. k == n) xs ≡ true → test n ≡ true) → test n ≡ true
    by true same later = subst (λ k. test k ≡ true) (eqb-true x n same) parts.0
    by false other later = later (ap (λ b. b || list_any (λ k. k == n) xs) (sym other) ∙ among)

-- where no series runs, nothing is still to be sealed
no_plain : (n : NodeState) → SeriesMeans n → n.series ≡ Idle_series → HasShortPlain n
no_plain n means idle = by n.pending refl
  where
    by : (pending : Option (List ℕ)) → n.pending ≡ pending → HasShortPlain n
    by None is = subst (FitsIn 26) (sym is) tt
    by (Some text) is = absurd (runs_not n.series idle (means.texts_left (right (is_some n.text) (is_some n.pending) (ap (λ p. is_some p) is))))
      where
        right : (a b : Bool) → b ≡ true → (a || b) ≡ true
        right true b is = refl
        right false b is = is

        runs_not : (s : Series) → s ≡ Idle_series → s ≡ Running → ⊥
        runs_not s idle runs = absurd (let wrong = sym idle ∙ runs in cc)

all_short : (nodes : List NodeState) → ((k : ℕ) → HasShortPlain (node_among nodes k)) → AllByRecursion HasShortPlain nodes
all_short [] each = tt
all_short (n ∷ nodes) each = (each 0, all_short nodes (λ k. each (suc k)))

pub returns : goal.returns
returns c = λ keys devices lines are whole nodes rest none moves empty idle chip members these reach.
    let m : Machine = after_all (first_machine keys (Some []) devices) lines in
    let h : HostState = m.host.state in
    let o : OuterState = m.outside.outer in
    let done = c.calm_hosts_are_done.ensures.free keys devices lines are whole rest in
    let pumped = c.calm_hosts_are_done.ensures.pumped keys devices lines are whole rest in
    let heard = c.calm_hosts_have_heard_all.ensures.host keys devices lines are whole moves in
    let air = c.calm_air_is_empty.ensures keys devices lines are whole empty in
    let nothing = c.lines_await_calls.ensures.none keys devices lines are whole nodes empty chip.due in
    let fit = c.lines_leave_hosts_fit.ensures keys devices lines are whole in
    let past = transcript_of (first_machine keys (Some []) devices) lines in
    let work : HostWork h = (lines_lead AsksNothing KnowsWork c.hosts_are_tended.ensures.walk [] (first_machine keys (Some []) devices) lines are whole (c.hosts_are_tended.ensures.first keys [] devices)).1.0.work in
    let networks =
    (lines_lead (MayGo devices) (KnowNetworks devices) (c.networks_go_on.ensures.walk devices) [] (first_machine keys (Some []) devices) lines are whole (c.networks_go_on.ensures.first keys [] devices)).1 in
    let tie = c.networks_go_on.ensures.tie devices past m networks in
    let known = (lines_lead AnyEntry (λ here past m. KnownNodes past m) c.nodes_go_on.ensures.walk [] (first_machine keys (Some []) devices) lines are whole (c.nodes_go_on.ensures.first keys (Some []) devices)).1 in
    let each_idle : (k : ℕ) → (node_of h k).series ≡ Idle_series =
    λ k. by_member k (is_marked o.chip.state.joined k) refl (λ not. (members k not).idle)
    (λ marked.
    let in_text : is_joined past k ≡ true = sym (tie.joined k) ∙ (ap (λ marks. is_marked marks k) (sym (c.nodes_go_on.ensures.same past m known)) ∙ marked) in
    let within = tie.within k in_text in
    let from = within.0 in
    c.calm_hosts_are_done.ensures.idle keys devices lines are whole k (omega (arith, from)) within.1 (member_all (is_idle past (clock_of past)) (joined past) k in_text idle)) in
    let none_waits : o.chip.state.port.waiting ≡ [] = subst (λ turn. WaitsWhileBusy turn o.chip.state.port.waiting) chip.turn heard.waits.busy in
    let pending : unheard o ≡ [] = ap (λ bytes. unheard_by bytes o.chip.state.port) heard.to_host ∙ none_waits in
    record {
      rests = record {
        unmarked = c.calm_machines_are_unmarked.ensures keys devices lines are whole none moves;
        at_chip = record {
          up_bytes = chip.to_chip;
          down_bytes = heard.to_host;
          decoder = heard.at_rest.chip;
          turn_is = chip.turn;
          waiting = none_waits;
          fit = heard.fit;
          none_given_up = nothing.aborted;
        };
        at_host = record { decoder = heard.at_rest.host; turn_is = none_busy h.side.turn done.free.free_line };
      };
      awaits = c.lines_await_calls.ensures.awaits keys devices lines are whole nodes;
      routed = record { none_due = chip.due; of_frames = subst (AllByRecursion IsOfFrame) (sym nothing.calls) tt };
      on_line = pumped.0;
      pumped = pumped.1;
      tie = record {
        paid = done.rests.paid;
        tied = Nowhere (record { none = done.free.none_under_way; idle = nothing.sending; leave = subst (LeaveIt o.chip.state.joined) (sym pending) tt; nothing = refl });
      };
      peopled = record {
        facts = fit.0;
        fits = fit.1;
        knows = record {
          others = members;
          tasks = subst (AllByRecursion (IsTaskFor o.chip.state.joined)) (sym done.rests.no_task) tt;
          request = subst (IsRequestFor o.chip.state.joined) (sym done.free.none_under_way) tt;
        };
        speaks = record { frames = subst (AllByRecursion (IsOfMember o.chip.state.joined)) (sym air.none_flies) tt; nodes = c.lines_join_the_same_nodes.ensures keys devices lines are whole };
        live = c.calm_machines_are_reached.ensures.live keys devices lines are whole nodes none moves empty these reach;
        plains = all_short h.nodes (λ k. no_plain (node_of h k) (c.work_in_order_means.ensures.series h k work) (each_idle k));
      };
    }
  where
    by_member : {A : Type 0} (k : ℕ) (b : Bool) → b ≡ b → (b ≡ false → A) → (b ≡ true → A) → A
    by_member k true is not marked = marked refl
    by_member k false is not marked = not refl
