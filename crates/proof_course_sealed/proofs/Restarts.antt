-- A host that starts from its records goes on in the courses where the one before it stopped: nothing of its own is on the line, nothing waits, and the nonces that it gave and saw are those that it recorded.
use Rattle.std.proofs.Common.{◌≡◌, ℕ, false, true, Option, Some, None, List, [], ◌∷◌, ◌++◌, refl, ap, sym, ◌∙◌, subst, append-nil}
use Rattle.std.specs.Prelude.{IsSome, is_some}
use Rattle.std.specs.Option.{option_to_list}
use Rattle.s0_session.specs.declared.account.Account.{Account}
use Rattle.serial_frame.specs.Stream.{Rest, no_rest}
use Rattle.serial_frame.specs.declared.item.Item.{Item}
use Rattle.s0_crypto.specs.declared.key_pair.Keys.{Keys}
use Rattle.zw_text.specs.declared.entry.Entry.{Entry}
use Rattle.supervision.specs.Host.{command_at as command_of_session}
use Rattle.host_keep.specs.declared.final_status.FinalStatus.{FinalStatus}
use Rattle.host_keep.specs.declared.record.Record.{Record}
use Rattle.host_keep.specs.declared.record.Record.TheVariants.{Accepted, Joined, Classes, Begun, Final as Ended, Cancelled, Given, Spent, Seen}
use Rattle.host_requests.specs.declared.task.Task.{Task}
use Rattle.host_model.specs.State.{HostState, node_of, first_host}
use Rattle.host_model.specs.Restoring.{restored, ending}
use Rattle.host_model.specs.Opening.{restored_all}
use Rattle.proof_course_plain.specs.proof_host.Facts.{Facts, StartsAs}
use Rattle.proof_course_plain.specs.proof_host.Tables.{recorded}
use Rattle.world_model.specs.State.{Machine}
use Rattle.world_model.specs.Events.{Restarts, OpensFrom, May, happens}
use Rattle.outside_model.specs.Events.{mesh_of}
use Rattle.proof_course_plain.specs.proof_serial.Way.{Carries, items_all}
use Rattle.proof_course_plain.specs.Restarts.{IsHeld}
use Rattle.proof_course_plain.specs.Ways.{Beside, Thinned}
use Rattle.proof_course_plain.specs.Lines.{Later, OnWay, own_frames}
use Rattle.proof_course_plain.proofs.WayLabels.{move_done}
use Rattle.proof_course_plain.proofs.Restarts.{OneThing, GoesOnAt, IsFresh, told_on, opens_fresh}
use Rattle.proof_course_plain.proofs.TieSteps.{over_recorded}
use Rattle.proof_course_plain.proofs.Told.{outcomes_stay}
use Rattle.proof_messages.specs.Numbers.{HasGiven}
use Rattle.proof_course_sealed.specs.Labels.{Sent}
use Rattle.proof_course_sealed.specs.Courses.{Courses, CoursesGo, GoUp, with_up}
use Rattle.proof_course_sealed.specs.Meaning.{Past}
use Rattle.proof_course_sealed.specs.Lines.{Asks}
use Rattle.proof_course_sealed.specs.Host.{TextIs, TaskIs}
use Rattle.proof_course_sealed.specs.World.{WorldFollows, WorldGoes}
use Rattle.proof_course_sealed.proofs.CourseSteps.{FactLaws, facts_go, grows_none}
use Rattle.proof_course_sealed.proofs.Elsewhere.{AirStays, mesh_up}

-- ---- the keys

ended_keys : (h : HostState) (n session : ℕ) (status : FinalStatus) (command : Option ℕ) → (ending h n session status command).keys ≡ h.keys
ended_keys h n session status None = refl
ended_keys h n session status (Some command) = refl

restored_keys : (h : HostState) (one : Record) → (restored h one).keys ≡ h.keys
restored_keys h (Accepted command order) = refl
restored_keys h (Joined n) = refl
restored_keys h (Classes n listens classes) = refl
restored_keys h (Begun n session command) = refl
restored_keys h (Ended n session status) = ended_keys h n session status (command_of_session (node_of h n).book.commands session)
restored_keys h (Cancelled command) = refl
restored_keys h (Given n given nonce) = refl
restored_keys h (Spent n) = refl
restored_keys h (Seen n seen) = refl

all_keys : (h : HostState) (records : List Record) → (restored_all h records).keys ≡ h.keys
unfolding restored_all
all_keys h [] = refl
all_keys h (one ∷ more) = all_keys (restored h one) more ∙ restored_keys h one

opens_keys : (keys : Keys) (records : Option (List (List ℕ))) (state : HostState) → OpensFrom keys records state → IsSome records → state.keys ≡ keys
opens_keys keys None state opens some = let bad : false ≡ true = some in absurd cc
opens_keys keys (Some texts) state (records, are, legal, is) some = ap (λ (h : HostState). h.keys) is ∙ all_keys (first_host keys) records

-- ---- the event

-- the laws that are used
pub record Laws : Type 0 where
  pub one : OneThing
  pub facts : (past : List Entry) (old new : HostState) → Facts past old → StartsAs old new → Facts past new
  pub courses : FactLaws
  pub stays : AirStays
  pub up : (c : Courses) (carried now : List Sent) (text left : Option ℕ) (tasks later : List ℕ) → GoUp c carried text tasks → Thinned carried now → Thinned (option_to_list text) (option_to_list left) → Thinned tasks later → CoursesGo c (with_up c now left later)

pub none_pending : (c : Courses) (pending : Option (List ℕ)) → pending ≡ None → is_some pending ≡ true → c.node.waits ≡ true
none_pending c pending none some = let bad : false ≡ true = sym (ap (λ (p : Option (List ℕ)). is_some p) none) ∙ some in absurd cc

module _ (laws : Laws) (node : ℕ) where
  -- the host's own frame is lost, and what waited; what is on the line stays there
  starts_goes : (past : Past) (c : Courses) (up down : List Item) (m : Machine) (state : HostState) → WorldFollows past node c up down m → m.host.decoder ≡ no_rest → StartsAs m.host.state state
      → GoesOnAt node m.host.state state → IsFresh node state → state.keys ≡ m.keys → WorldGoes past node c (happens m (Restarts state))
  unfolding happens
  starts_goes past c up down m state f rests starts on fresh keys =
      let h : HostState = m.host.state in
      let left : Later (Asks past node) (f.outside.carried ++ []) (up ++ items_all m.outside.outer.to_chip []) state.side.turn [] =
      move_done (Asks past node) h.side.turn state.side.turn [] (ap own_frames fresh.turn) f.outside.carried up m.outside.outer.to_chip f.outside.messages in
      let now : List Sent = left.now in
      let later : Courses = with_up c now None [] in
      let goes : CoursesGo c later = laws.up c f.outside.carried now f.text None f.tasks [] f.outside.go_up (subst (λ (l : List Sent). Thinned l now) (append-nil f.outside.carried) left.thin) tt tt in
      record {
        later_past = past;
        later = later;
        grows = grows_none past;
        goes = goes;
        up = up;
        down = down;
        follows = record {
          keys = f.keys;
          text = None;
          tasks = [];
          outside = record {
            mesh = mesh_up laws.stays past node c (mesh_of m.outside) now None [] f.outside.mesh;
            to_chip = f.outside.to_chip;
            to_host = subst (λ (r : Rest). Carries r m.outside.outer.to_host down) rests f.outside.to_host;
            frames = f.outside.frames;
            waits = f.outside.waits;
            carried = now;
            go_up = record { messages = refl; sealed = refl; offers = refl };
            messages = subst (λ (l : List Item). OnWay (Asks past node) now l state.side.turn []) (append-nil up) left.on_way;
            late = f.outside.late;
            go_down = record { reports = f.outside.go_down.reports; nonces = f.outside.go_down.nonces; answers = f.outside.go_down.answers };
            reports = f.outside.reports;
          };
          host = record {
            keys = keys ∙ f.keys;
            book = (on.sessions ∙ f.host.book.0, on.ended ∙ f.host.book.1);
            commands = f.host.commands;
            orders = f.host.orders ∙ sym on.orders;
            ends = f.host.ends;
            gave = subst (λ (a : Account). HasGiven past.shown c.host.given c.host.is_live a) (sym on.account) f.host.gave;
            saw = record { count = on.seen ∙ f.host.saw.count; waiting = λ some. none_pending c (node_of state node).pending fresh.bare.1 some };
            pending = λ plain is. absurd (let bad : ◌≡◌ {A = Option (List ℕ)} None (Some plain) = sym fresh.bare.1 ∙ is in cc);
            texts = subst (λ (t : Option (List ℕ)). TextIs past node t None) (sym fresh.bare.0) tt;
            marks = [];
            queue = subst (λ (l : List Task). Beside (TaskIs past node) l []) (sym fresh.queue) tt;
            numbers = refl;
          };
          facts = starts.host;
          recorded = record { past = f.recorded.past; facts = laws.facts f.recorded.past h state f.recorded.facts starts };
          course = facts_go laws.courses c later f.course goes;
          outcomes = outcomes_stay h.commands state.commands c.sessions.host.commands c.sessions.told (λ number status is. starts.outcomes number ∙ (ap recorded is ∙ over_recorded status)) f.outcomes;
        };
      }

  pub restart_goes : (past : Past) (c : Courses) (up down : List Item) (m : Machine) (state : HostState) → WorldFollows past node c up down m → m.host.decoder ≡ no_rest → May m (Restarts state) → IsSome m.records
      → IsHeld m.host.state m.records → IsHeld (happens m (Restarts state)).host.state (happens m (Restarts state)).records → StartsAs m.host.state state → WorldGoes past node c (happens m (Restarts state))
  unfolding happens May
  restart_goes past c up down m state f rests may some was is starts =
      starts_goes past c up down m state f rests starts (told_on laws.one node m.host.state state m.records some was is) (opens_fresh m.keys m.records state node may some) (opens_keys m.keys m.records state may some)
