-- A host at first has nothing on its way; and one that starts from its records goes on in the course where the one before it stopped.
use Rattle.std.proofs.Common.{◌≡◌, ℕ, ◌+◌, zero, suc, false, true, Option, Some, None, List, [], ◌∷◌, ◌++◌, length, map, get_or, refl, ap, sym, ◌∙◌, subst, append-nil}
use Rattle.std.specs.Prelude.{IsSome}
use Rattle.std.specs.List.{AllByRecursion}
use Rattle.s0_crypto.specs.declared.key_pair.Keys.{Keys}
use Rattle.supervision.specs.Host.{told_of, command_at as command_of_session}
use Rattle.supervision.specs.Session.{wire_id}
use Rattle.supervision.specs.declared.host_node.Told.{Told}
use Rattle.supervision.specs.declared.host_node.Told.TheVariants.{Final, Working, Old}
use Rattle.proof_course.specs.Sessions.{Course, Message}
use Rattle.s0_session.specs.declared.account.Account.{Account}
use Rattle.s0_session.specs.Nonces.{account_of}
use Rattle.serial_frame.specs.Stream.{Rest, no_rest}
use Rattle.serial_frame.specs.declared.item.Item.{Item}
use Rattle.serial_link.specs.State.{Side}
use Rattle.serial_link.specs.declared.turn.Turn.TheVariants.{Idle}
use Rattle.zw_text.specs.declared.entry.Entry.{Entry}
use Rattle.host_keep.specs.Kept.{Kept, kept_of, Taken}
use Rattle.host_keep.specs.Legal.{Give}
use Rattle.host_keep.specs.Status.{status_byte}
use Rattle.host_keep.specs.declared.final_status.FinalStatus.{FinalStatus}
use Rattle.host_keep.specs.declared.record.Record.{Record}
use Rattle.host_keep.specs.declared.record.Record.TheVariants.{Accepted, Joined, Classes, Begun, Final as Ended, Cancelled, Given, Spent, Seen}
use Rattle.host_requests.specs.State.{RequestsState}
use Rattle.host_requests.specs.declared.task.Task.{Task}
use Rattle.host_node.specs.State.{NodeState, unknown}
use Rattle.host_node.specs.Steps.{after_told, after_restart}
use Rattle.host_node.specs.Events.{NodeEvent, after as after_node}
use Rattle.host_node.specs.Events.NodeEvent.{Joins, Interviews, Puts, Accepts, Begins, Cancels, Reports, Restores_seen, Succeeds, Restarts as node_restarts}
use Rattle.host_node.specs.TableState.{unknown_nodes, unknown_from, node_of as node_among}
use Rattle.host_model.specs.State.{HostState, Command, first_nodes, first_classes, first_host, node_of}
use Rattle.host_model.specs.After.{node_does, node_for, accepting}
use Rattle.host_model.specs.Restoring.{restored, ending, carriage_for}
use Rattle.host_model.specs.Opening.{restored_all, restarting, opened}
use Rattle.host_model.specs.Holding.{Holds, taken_as}
use Rattle.proof_once.specs.proof_host.Facts.{Facts, StartsAs}
use Rattle.proof_once.specs.proof_host.Tables.{recorded}
use Rattle.world_model.specs.State.{Machine}
use Rattle.world_model.specs.Events.{Restarts, OpensFrom, May, happens}
use Rattle.outside_model.specs.Events.{mesh_of}
use Rattle.proof_world.specs.proof_serial.Way.{Carries, items_all}
use Rattle.proof_world.specs.Restarts.{AreHeld, IsHeld}
use Rattle.proof_course_plain.specs.Ways.{Goes, Thinned}
use Rattle.proof_course_plain.specs.Meaning.{Asked}
use Rattle.proof_course_plain.specs.Lines.{Asks, Later, OnWay, own_frames}
use Rattle.proof_course_plain.specs.Host.{NodeAs, asked_of, IsTaskFor}
use Rattle.proof_course_plain.specs.World.{WorldFollows, WorldGoes}
use Rattle.proof_course_plain.proofs.ThinnedWays.{CourseLaw, course_goes, up_thins}
use Rattle.proof_course_plain.proofs.WayLabels.{move_done}
use Rattle.proof_course_plain.proofs.Outer.{mesh_up}
use Rattle.proof_course_plain.proofs.KeptHosts.{SameHost, get_set, node_keeps, does_same}
use Rattle.proof_course_plain.proofs.KeptSessions.{plain_course}
use Rattle.proof_once.proofs.TieSteps.{over_recorded}
use Rattle.proof_course_plain.proofs.Told.{outcomes_stay}

-- ---- a host at first

from_as : (start count at : ℕ) → NodeAs [] None (get_or (unknown_from start count) at (unknown 0))
from_as start zero at = (refl, (refl, (refl, refl)))
from_as start (suc count) zero = (refl, (refl, (refl, refl)))
from_as start (suc count) (suc at) = from_as (suc start) count at

unknown_as : (at : ℕ) → NodeAs [] None (get_or unknown_nodes at (unknown 0))
unfolding unknown_nodes
unknown_as zero = (refl, (refl, (refl, refl)))
unknown_as (suc at) = from_as 1 232 at

pub first_as : (keys : Keys) (node : ℕ) → NodeAs [] None (node_of (first_host keys) node)
unfolding first_nodes
first_as keys node =
    let base : HostState = record (first_host keys) { nodes = unknown_nodes } in
    let joined : HostState = node_does base 2 Joins in
    let one : SameHost (plain_course node) base joined = does_same (plain_course node) base 2 Joins tt in
    let two : SameHost (plain_course node) joined (node_does joined 2 (Interviews true first_classes)) = does_same (plain_course node) joined 2 (Interviews true first_classes) tt in
    two.node_as [] None (one.node_as [] None (unknown_as node))

-- ---- nothing of an attempt

abbrev pub IsBare : NodeState → Type 0
IsBare n = (n.text ≡ None) × (n.pending ≡ None)

-- what a record may do to a node
abbrev IsOfRecord : NodeEvent → Type 0
IsOfRecord Joins = Unit {0}
IsOfRecord (Interviews listens classes) = Unit {0}
IsOfRecord (Puts command) = Unit {0}
IsOfRecord Accepts = Unit {0}
IsOfRecord Begins = Unit {0}
IsOfRecord (Cancels command) = Unit {0}
IsOfRecord (Reports id status) = Unit {0}
IsOfRecord (Restores_seen seen) = Unit {0}
IsOfRecord _ = ⊥

bare_of : (n : NodeState) → IsBare n → NodeAs n.book.commands n.book.outcome n
bare_of n bare = (refl, (refl, bare))

told_bare : (n : NodeState) (status : ℕ) (told : Told) → IsBare n → IsBare (after_told n status told)
told_bare n status (Final session) bare = (refl, refl)
told_bare n status Working bare = (node_keeps (plain_course 0) n.book.commands n.book.outcome n Succeeds (bare_of n bare) tt).1.1
told_bare n status Old bare = bare

record_bare : (n : NodeState) (event : NodeEvent) → IsOfRecord event → IsBare n → IsBare (after_node n event)
record_bare n Joins is bare = bare
record_bare n (Interviews listens classes) is bare = bare
record_bare n (Puts command) is bare = bare
record_bare n Accepts is bare = (node_keeps (plain_course 0) n.book.commands n.book.outcome n Accepts (bare_of n bare) tt).1.1
record_bare n Begins is bare = bare
record_bare n (Cancels command) is bare = bare
record_bare n (Reports id status) is bare = told_bare n status (told_of n.book id status) bare
record_bare n (Restores_seen seen) is bare = bare
record_bare n _ is bare = absurd is

-- ---- a host that takes up its records

-- nothing of its own is on the line, nothing waits to be sent, and nothing is left of an attempt at the node
pub record IsFresh (node : ℕ) (h : HostState) : Type 0 where
  pub turn : h.side.turn ≡ Idle
  pub queue : h.requests.queue ≡ []
  pub bare : IsBare (node_of h node)

module _ (node : ℕ) where
  does_fresh : (h : HostState) (n : ℕ) (event : NodeEvent) → IsOfRecord event → IsFresh node h → IsFresh node (node_does h n event)
  does_fresh h n event is fresh = record {
    turn = fresh.turn;
    queue = fresh.queue;
    bare = get_set IsBare h.nodes n node (after_node (node_of h n) event) (unknown 0) fresh.bare (λ e. record_bare (node_of h n) event is (subst (λ (k : ℕ). IsBare (node_of h k)) (sym e) fresh.bare));
  }

  -- commands, nonces and values aside
  same_fresh : (h g : HostState) → g.side ≡ h.side → g.requests ≡ h.requests → g.nodes ≡ h.nodes → IsFresh node h → IsFresh node g
  same_fresh h g side requests nodes fresh = record {
    turn = ap (λ (s : Side). s.turn) side ∙ fresh.turn;
    queue = ap (λ (r : RequestsState). r.queue) requests ∙ fresh.queue;
    bare = subst (λ (ns : List NodeState). IsBare (get_or ns node (unknown 0))) (sym nodes) fresh.bare;
  }

  ended_fresh : (h : HostState) (n session : ℕ) (status : FinalStatus) (command : Option ℕ) → IsFresh node h → IsFresh node (ending h n session status command)
  ended_fresh h n session status None fresh = fresh
  ended_fresh h n session status (Some command) fresh =
      let does : HostState = node_does h n (Reports (wire_id session) (status_byte status)) in
      same_fresh does (ending h n session status (Some command)) refl refl refl (does_fresh h n (Reports (wire_id session) (status_byte status)) tt fresh)

  taken_fresh : (h : HostState) (one : Record) → IsFresh node h → IsFresh node (restored h one)
  taken_fresh h (Accepted command order) fresh =
      let more : HostState = record h { commands = (accepting h order (carriage_for h order)).commands; store = (accepting h order (carriage_for h order)).store } in
      let puts : NodeEvent = Puts (length h.commands + 1) in
      does_fresh (node_does more order.node puts) order.node Accepts tt (does_fresh more order.node puts tt (same_fresh h more refl refl refl fresh))
  taken_fresh h (Joined n) fresh = does_fresh h n Joins tt fresh
  taken_fresh h (Classes n listens classes) fresh = does_fresh h n (Interviews listens classes) tt fresh
  taken_fresh h (Begun n session command) fresh = same_fresh (node_does h n Begins) (restored h (Begun n session command)) refl refl refl (does_fresh h n Begins tt fresh)
  taken_fresh h (Ended n session status) fresh = ended_fresh h n session status (command_of_session (node_of h n).book.commands session) fresh
  taken_fresh h (Cancelled command) fresh =
      same_fresh (node_does h (node_for h command) (Cancels command)) (restored h (Cancelled command)) refl refl refl (does_fresh h (node_for h command) (Cancels command) tt fresh)
  taken_fresh h (Given n given nonce) fresh = same_fresh h (restored h (Given n given nonce)) refl refl refl fresh
  taken_fresh h (Spent n) fresh = same_fresh h (restored h (Spent n)) refl refl refl fresh
  taken_fresh h (Seen n seen) fresh = does_fresh h n (Restores_seen seen) tt fresh

-- at every node
all_fresh : (h : HostState) (records : List Record) → ((node : ℕ) → IsFresh node h) → (node : ℕ) → IsFresh node (restored_all h records)
unfolding restored_all
all_fresh h [] fresh node = fresh node
all_fresh h (one ∷ more) fresh node = all_fresh (restored h one) more (λ n. taken_fresh n h one (fresh n)) node

first_fresh : (keys : Keys) (node : ℕ) → IsFresh node (first_host keys)
first_fresh keys node = record { turn = refl; queue = refl; bare = (first_as keys node).1.1 }

-- each node restarts but the one at place 0
restart_bare : (n : NodeState) → IsBare n → IsBare (after_restart n)
restart_bare n bare = (node_keeps (plain_course 0) n.book.commands n.book.outcome n node_restarts (bare_of n bare) tt).1.1

restarts_bare : (nodes : List NodeState) → ((n : ℕ) → IsBare (node_among nodes n)) → (n : ℕ) → IsBare (node_among (map after_restart nodes) n)
restarts_bare [] bare n = (refl, refl)
restarts_bare (x ∷ nodes) bare zero = restart_bare x (bare 0)
restarts_bare (x ∷ nodes) bare (suc n) = restarts_bare nodes (λ k. bare (suc k)) n

restarting_bare : (nodes : List NodeState) → ((n : ℕ) → IsBare (node_among nodes n)) → (n : ℕ) → IsBare (node_among (restarting nodes) n)
unfolding restarting
restarting_bare [] bare n = (refl, refl)
restarting_bare (x ∷ nodes) bare zero = bare 0
restarting_bare (x ∷ nodes) bare (suc n) = restarts_bare nodes (λ k. bare (suc k)) n

opened_fresh : (keys : Keys) (records : List Record) (node : ℕ) → IsFresh node (opened keys records)
opened_fresh keys records node =
    let taken : HostState = restored_all (first_host keys) records in
    let all : (n : ℕ) → IsFresh n taken = all_fresh (first_host keys) records (first_fresh keys) in
    record { turn = (all node).turn; queue = (all node).queue; bare = restarting_bare taken.nodes (λ n. (all n).bare) node }

pub opens_fresh : (keys : Keys) (records : Option (List (List ℕ))) (state : HostState) (node : ℕ) → OpensFrom keys records state → IsSome records → IsFresh node state
opens_fresh keys None state node opens some = let bad : false ≡ true = some in absurd cc
opens_fresh keys (Some texts) state node (records, are, legal, is) some = subst (λ (h : HostState). IsFresh node h) (sym is) (opened_fresh keys records node)

-- ---- what was recorded

-- a host has the orders of another, and the sessions of the node with the outcome of the last; the nonces that it gave the node, and how many of the node's it saw
pub record GoesOnAt (node : ℕ) (old new : HostState) : Type 0 where
  pub orders : map asked_of new.commands ≡ map asked_of old.commands
  pub sessions : (node_of new node).book.commands ≡ (node_of old node).book.commands
  pub ended : (node_of new node).book.outcome ≡ (node_of old node).book.outcome
  pub account : account_of new.nonces node ≡ account_of old.nonces node
  pub seen : (node_of new node).seen ≡ (node_of old node).seen

same_account : (a b : Account) → a.given ≡ b.given → a.live ≡ b.live → a ≡ b
same_account a b given live = ap (λ (g : ℕ). record { given = g; live = a.live }) given ∙ ap (λ (l : Option (List ℕ)). record { given = b.given; live = l }) live

as_taken : (commands : List Command) → map asked_of commands ≡ map (λ (t : Taken). record { order = t.order; carriage = t.carriage }) (map taken_as commands)
as_taken [] = refl
as_taken (command ∷ more) = ap (λ (l : List Asked). asked_of command ∷ l) (as_taken more)

abbrev pub OneThing : Type 0
OneThing = (texts : List (List ℕ)) (kept other : Kept) → Give texts kept → Give texts other → kept ≡ other

held_on : OneThing → (node : ℕ) (old new : HostState) (texts : List (List ℕ)) → AreHeld old texts → AreHeld new texts → GoesOnAt node old new
held_on one node old new texts was is =
    let same : kept_of is.records ≡ kept_of was.records =
    one texts (kept_of is.records) (kept_of was.records) (record { records = is.records; are = is.are; legal = is.legal; gives = refl }) (record { records = was.records; are = was.are; legal = was.legal; gives = refl }) in
    let now : Holds new (kept_of was.records) = subst (λ (k : Kept). Holds new k) same is.holds in
    record {
      orders = as_taken new.commands ∙ ap (λ (l : List Taken). map (λ (t : Taken). record { order = t.order; carriage = t.carriage }) l) (now.commands ∙ sym was.holds.commands) ∙ sym (as_taken old.commands);
      sessions = (now.nodes node).sessions ∙ sym (was.holds.nodes node).sessions;
      ended = (now.nodes node).ended ∙ sym (was.holds.nodes node).ended;
      account = same_account (account_of new.nonces node) (account_of old.nonces node) ((now.nodes node).given ∙ sym (was.holds.nodes node).given) ((now.nodes node).live ∙ sym (was.holds.nodes node).live);
      seen = (now.nodes node).seen ∙ sym (was.holds.nodes node).seen;
    }

pub told_on : OneThing → (node : ℕ) (old new : HostState) (records : Option (List (List ℕ))) → IsSome records → IsHeld old records → IsHeld new records → GoesOnAt node old new
told_on one node old new None some was is = let bad : false ≡ true = some in absurd cc
told_on one node old new (Some texts) some was is = held_on one node old new texts was is

-- ---- the event

-- the laws that are used
pub record Laws : Type 0 where
  pub one : OneThing
  pub facts : (past : List Entry) (old new : HostState) → Facts past old → StartsAs old new → Facts past new
  pub course : CourseLaw

module _ (laws : Laws) (node : ℕ) where
  -- the host's own frame is lost; what is on the line stays there
  starts_goes : (orders : List Asked) (c : Course) (up down : List Item) (m : Machine) (state : HostState) → WorldFollows node orders c up down m → m.host.decoder ≡ no_rest → StartsAs m.host.state state
      → GoesOnAt node m.host.state state → IsFresh node state → WorldGoes node c (happens m (Restarts state))
  unfolding happens
  starts_goes orders c up down m state f rests starts on fresh =
      let h : HostState = m.host.state in
      let left : Later (Asks node orders c.host.commands) (c.up ++ []) (up ++ items_all m.outside.outer.to_chip []) state.side.turn [] =
      move_done (Asks node orders c.host.commands) h.side.turn state.side.turn [] (ap own_frames fresh.turn) c.up up m.outside.outer.to_chip f.outside.messages in
      let now : List Message = left.now in
      let later : Course = record c { up = now } in
      let goes : Goes c later = up_thins c now (subst (λ (l : List Message). Thinned l now) (append-nil c.up) left.thin) in
      record {
        orders = orders;
        later = later;
        goes = goes;
        up = up;
        down = down;
        follows = record {
          outside = record {
            mesh = mesh_up node orders c (mesh_of m.outside) now f.outside.mesh;
            to_chip = f.outside.to_chip;
            to_host = subst (λ (r : Rest). Carries r m.outside.outer.to_host down) rests f.outside.to_host;
            frames = f.outside.frames;
            waits = f.outside.waits;
            messages = subst (λ (l : List Item). OnWay (Asks node orders c.host.commands) now l state.side.turn []) (append-nil up) left.on_way;
            reports = f.outside.reports;
          };
          host = record {
            node_as = (on.sessions ∙ f.host.node_as.0, (on.ended ∙ f.host.node_as.1.0, fresh.bare));
            orders_are = f.host.orders_are ∙ sym on.orders;
            plain = f.host.plain;
            queue = subst (λ (l : List Task). AllByRecursion (IsTaskFor node orders c.host.commands) l) (sym fresh.queue) tt;
          };
          facts = starts.host;
          past = record { past = f.past.past; facts = laws.facts f.past.past h state f.past.facts starts };
          course = course_goes laws.course c later f.course goes;
          outcomes = outcomes_stay h.commands state.commands c.host.commands c.told (λ number status is. starts.outcomes number ∙ (ap recorded is ∙ over_recorded status)) f.outcomes;
        };
      }

  pub restart_goes : (orders : List Asked) (c : Course) (up down : List Item) (m : Machine) (state : HostState) → WorldFollows node orders c up down m → m.host.decoder ≡ no_rest → May m (Restarts state) → IsSome m.records
      → IsHeld m.host.state m.records → IsHeld (happens m (Restarts state)).host.state (happens m (Restarts state)).records → StartsAs m.host.state state → WorldGoes node c (happens m (Restarts state))
  unfolding happens May
  restart_goes orders c up down m state f rests may some was is starts =
      starts_goes orders c up down m state f rests starts (told_on laws.one node m.host.state state m.records some was is) (opens_fresh m.keys m.records state node may some)
