-- A machine that has the course of a node has its device tied to the host; and what is true at all events is so line by line.
use Rattle.std.proofs.Common.{◌≡◌, ℕ, Bool, true, false, List, [], ◌∷◌, length, Some, ◌++◌, Ok, if◌then◌else◌, ◌==◌, slice_get, refl, sym, ap, subst, ◌∙◌, arith}
use Rattle.std.specs.List.{AllByRecursion}
use Rattle.supervision.specs.Host.{HostBook, begun_of}
use Rattle.proof_course.specs.Sessions.{Course}
use Rattle.proof_course.specs.SessionFacts.{CourseFacts}
use Rattle.device_sim.specs.State.{State}
use Rattle.proof_messages.specs.Ending.{HasEnded}
use Rattle.proof_spoken.specs.proof_device.GoingOn.{AreSame, IsSame}
use Rattle.proof_spoken.proofs.ChangesOutside.{place_is}
use Rattle.mesh_sim.specs.Fates.{place_of}
use Rattle.zw_text.specs.Line.{line_at}
use Rattle.zw_text.specs.declared.line.Line.{Line}
use Rattle.law_transcript.specs.Nodes.{device_of}
use Rattle.world_model.specs.State.{Machine}
use Rattle.world_model.specs.Events.{Event, happens}
use Rattle.world_model.specs.Did.{happens_all}
use Rattle.host_model.specs.State.{Command}
use Rattle.host_node.specs.TableState.{node_of}
use Rattle.proof_spoken.specs.proof_once.Tied.{AreOutcomes, AreTied, IsTied, MakesWhatIsTaken}
use Rattle.proof_spoken.specs.proof_once.Truly.{AreTrue}
use Rattle.world_lines.specs.Spoken.{Spoken, after}
use Rattle.world_lines.specs.Done.{IsRead, events_of}
use Rattle.proof_headline.specs.Truly.{LinesAreTrue}
use Rattle.proof_course_sealed.specs.Plain.{HasCourse, NamesEnd}
use Rattle.proof_course_sealed.proofs.Places.{one_place, one_stands}
use Rattle.proof_course_sealed.proofs.AsMade.{finds}
use Rattle.proof_course_sealed.proofs.Once.{retold}

-- ---- lines

pub all_name : ((text : List ℕ) (line : Line) → line_at text ≡ Ok (Some line) → NamesEnd line) → (lines : List Line) → AllByRecursion IsRead lines → AllByRecursion NamesEnd lines
all_name names [] all = tt
all_name names (line ∷ lines) all = (names all.0.0 line all.0.1, all_name names lines all.1)

both_true : (node : ℕ) (m : Machine) (a b : List Event) → AreTrue node m (a ++ b) → AreTrue node m a × AreTrue node (happens_all m a) b
both_true node m [] b all = (tt, all)
both_true node m (event ∷ a) b all = let more = both_true node (happens m event) a b all.1 in ((all.0, more.0), more.1)

pub lines_true : (node : ℕ) (m : Machine) (lines : List Spoken) → AreTrue node m (events_of lines) → LinesAreTrue node m lines
lines_true node m [] all = tt
lines_true node m (spoken ∷ more) all = let both = both_true node m spoken.events (events_of more) all in (both.0, lines_true node (after m spoken) more both.1)

-- ---- the first device of a node

-- the first device of a node, as it was among devices that went on: devices keep their nodes and kinds
pub record Was (node : ℕ) (old : List State) (device : State) : Type 0 where
  pub before : State
  pub found : device_of node old ≡ Some before
  pub kind : device.kind ≡ before.kind

was_by : (hit : Bool) (node : ℕ) (was now : State) (old new : List State) (device : State) → IsSame was now → (now.node == node) ≡ hit → (device_of node new ≡ Some device → Was node old device)
    → (if hit then Some now else device_of node new) ≡ Some device → Was node (was ∷ old) device
was_by true node was now old new device same is more e =
    let one : now ≡ device = cc in
    record {
      before = was;
      found = ap (λ (b : Bool). if b then Some was else device_of node old) (ap (λ (n : ℕ). n == node) (sym same.node) ∙ is);
      kind = ap (λ (d : State). d.kind) (sym one) ∙ same.kind;
    }
was_by false node was now old new device same is more e =
    let later = more e in
    record {
      before = later.before;
      found = ap (λ (b : Bool). if b then Some was else device_of node old) (ap (λ (n : ℕ). n == node) (sym same.node) ∙ is) ∙ later.found;
      kind = later.kind;
    }

pub was_there : (node : ℕ) (old new : List State) (device : State) → AreSame old new → device_of node new ≡ Some device → Was node old device
was_there node [] [] device same e = absurd cc
was_there node [] (now ∷ new) device same e = absurd same
was_there node (was ∷ old) [] device same e = absurd same
was_there node (was ∷ old) (now ∷ new) device same e = was_by (now.node == node) node was now old new device same.0 refl (was_there node old new device same.1) e

-- ---- the book of a node

-- a tie looks at the commands of the sessions and at the last outcome alone
retied : (commands : List Command) (was now : HostBook) (device : State) (finals told : List ℕ) → now.commands ≡ was.commands → now.outcome ≡ was.outcome
    → IsTied commands was device finals told → IsTied commands now device finals told
retied commands was now device finals told same ended tied =
    let count : begun_of now ≡ begun_of was = ap (λ (l : List ℕ). length l) same in
    let within = tied.begun in
    record {
      ended = tied.ended;
      begun = omega (arith, within, count);
      told_are = retold was now finals told same ended tied.told_are;
      outcomes = subst (λ (l : List ℕ). AreOutcomes commands l told) (sym same) tied.outcomes;
      made = subst (λ (l : List ℕ). AllByRecursion (MakesWhatIsTaken commands l) device.journal) (sym same) tied.made;
    }

-- ---- both

-- the sessions of a node are where the machine is: this is the first device of it, which ended its sessions as the course has it; the host's book is the course's; and what it was told and what the device made stand in the table of commands
pub record IsAt (node : ℕ) (m : Machine) (c : Course) : Type 0 where
  pub facts : CourseFacts c
  pub device : State
  pub place : ℕ
  pub first : place_of node m.outside.devices ≡ Some place
  pub stands : slice_get m.outside.devices place ≡ Some device
  pub ended : HasEnded device c.ends
  pub commands : (node_of m.host.state.nodes node).book.commands ≡ c.host.commands
  pub outcome : (node_of m.host.state.nodes node).book.outcome ≡ c.host.outcome
  pub outcomes : AreOutcomes m.host.state.commands c.host.commands c.told
  pub made : (place : ℕ) (device : State) → slice_get m.outside.devices place ≡ Some device → device.node ≡ node → AllByRecursion (MakesWhatIsTaken m.host.state.commands c.host.commands) device.journal

-- the law of ties, which is used
abbrev pub Ties : Type 0
Ties = (c : Course) (commands : List Command) (device : State) → CourseFacts c → HasEnded device c.ends → AreOutcomes commands c.host.commands c.told
    → AllByRecursion (MakesWhatIsTaken commands c.host.commands) device.journal → IsTied commands c.host device c.ends c.told

pub course_ties : Ties → (node : ℕ) (m : Machine) (device : State) (c : Course) → IsAt node m c → device_of node m.outside.devices ≡ Some device → AreTied m.host.state node device
course_ties ties node m device c at found =
    let is = finds node m.outside.devices device found in
    let same : at.device ≡ device = one_stands m.outside.devices at.place is.place at.device device at.stands is.stands (one_place node m.outside.devices at.place is.place at.first is.first) in
    let ended : HasEnded device c.ends = subst (λ (d : State). HasEnded d c.ends) same at.ended in
    let made : AllByRecursion (MakesWhatIsTaken m.host.state.commands c.host.commands) device.journal =
    subst (λ (d : State). AllByRecursion (MakesWhatIsTaken m.host.state.commands c.host.commands) d.journal) same (at.made at.place at.device at.stands (place_is node m.outside.devices at.place at.device at.first at.stands)) in
    record {
      finals = c.ends;
      told = c.told;
      tied = retied m.host.state.commands c.host (node_of m.host.state.nodes node).book device c.ends c.told at.commands at.outcome (ties c m.host.state.commands device at.facts ended at.outcomes made);
    }

-- so is the course of a plain node
pub plain_at : (node : ℕ) (m : Machine) (has : HasCourse node m) → IsAt node m has.course
plain_at node m has =
    let there = has.follows.outside.mesh.device in
    record {
      facts = has.facts;
      device = there.device;
      place = there.place;
      first = there.first;
      stands = there.stands;
      ended = there.at.ended;
      commands = has.follows.host.node_as.0;
      outcome = has.follows.host.node_as.1.0;
      outcomes = has.outcomes;
      made = has.made;
    }
