-- What was asked, and how the program ends.
use Rattle.std.proofs.Common.{◌≡◌, ◌≢◌, ◌≤◌, ◌⊎◌, inl, ℕ, List, [], ◌∷◌, drop, String, Bool, Option, Ok, sym, ap, subst, ◌∙◌, arith}
use Rattle.zw_words.specs.declared.side.Side.{Side}
use Rattle.device_sim.specs.State.{State}
use Rattle.run_lines.specs.Run.{Closes}
use Rattle.run_lines.specs.Status.{code_of}
use Rattle.run_lines.specs.declared.running.LinesEnd.{LinesEnd}
use Rattle.run_lines.specs.declared.running.LinesEnd.TheVariants.{All, Bad, ReadFailed, TooMuch, WriteFailed, NoMemory}
use Rattle.run_lines.specs.declared.status.Status.{Status}
use Rattle.run_lines.specs.declared.status.Status.TheVariants as status
use Rattle.run_words.specs.Valid.{AreWordsFor, IsAnswered}
use Rattle.run_words.specs.declared.asked.Asked.{Asked}
use Rattle.run_tools.specs.Check.{HasChecked}
use Rattle.run_tools.specs.Events.{EventsRan}
use Rattle.run_include.specs.Run.{IncludeRan}
use Rattle.run_replay.specs.Replay.{ReplayRan}
use Rattle.run_sim.specs.Sim.{SimRan}
use Rattle.run_generate.specs.Generate.{GenerateRan}
use Rattle.zw_base.specs.Faults.{Rose}
use Rattle.run_words.specs.Parsing.{texts_of}
use Rattle.host_core.specs.declared.opening.OpenFault.TheVariants as opening
use Rattle.port_run.specs.Ending.{Desk, desk, HostRan, HasGoodPort, IsServed, status_of}
use Rattle.port_run.specs.declared.ending.Served.{Served}
use Rattle.port_run.specs.declared.ending.Served.TheVariants as served
use Rattle.run_audit.specs.Audited.{HasAudited}
use Rattle.run_words.specs.declared.asked.Asked.TheVariants.{Host}
use Rattle.run_all.specs.Around.{Around, shelf_in}
use Rattle.run_all.specs.Commands.{Refuses, Runs, Does, HasGoodInputFor, ComesToItsEnd}
use Rattle.host_keep.specs.Keeping.{Shelf}

differ : (a b : Status) → a ≡ b → code_of a ≢ code_of b → ⊥
differ a b e other = other (ap code_of e)

-- a run of lines never ends as one that refuses its words
closes_not : {X : Type 0} (ends : X → List (List ℕ) → Type 0) (end : LinesEnd) (world : X) (sink sink' : Option (List ℕ)) → Closes ends end status.Usage world sink sink' → ⊥
closes_not ends All world sink sink' c = c
closes_not ends (Bad number fault) world sink sink' c = c
closes_not ends ReadFailed world sink sink' c = differ status.Usage status.ReadFault c.0 (λ e. omega (arith, e))
closes_not ends TooMuch world sink sink' c = differ status.Usage status.InputTooLong c.0 (λ e. omega (arith, e))
closes_not ends WriteFailed world sink sink' c = differ status.Usage status.WriteFault c.0 (λ e. omega (arith, e))
closes_not ends NoMemory world sink sink' c = differ status.Usage status.NoMemory c.0 (λ e. omega (arith, e))

-- no command that is there refuses its words
pub checked_is : (ended : Status) (from : Side) (left left' sink sink' : Option (List ℕ)) → HasChecked ended from left left' sink sink' → ended ≢ status.Usage
checked_is ended from left left' sink sink' h e =
    let c : HasChecked status.Usage from left left' sink sink' = subst (λ (s : Status). HasChecked s from left left' sink sink') e h in
    c.ended.2

pub events_is : (ended : Status) (left left' sink sink' : Option (List ℕ)) → EventsRan ended left left' sink sink' → ended ≢ status.Usage
events_is ended left left' sink sink' h e =
    let c : EventsRan status.Usage left left' sink sink' = subst (λ (s : Status). EventsRan s left left' sink sink') e h in
    closes_not _ c.end _ c.mid sink' c.closes

pub include_is : (ended : Status) (key : List ℕ) (left left' sink sink' : Option (List ℕ)) → IncludeRan ended key left left' sink sink' → ended ≢ status.Usage
include_is ended key left left' sink sink' h e =
    let c : IncludeRan status.Usage key left left' sink sink' = subst (λ (s : Status). IncludeRan s key left left' sink sink') e h in
    closes_not _ c.told.end _ c.told.mid sink' c.told.closes

pub sim_is : (ended : Status) (quiet : Bool) (key : List ℕ) (left left' : Option (List ℕ)) (before after : List State) (shelf shelf' : Shelf) (number number' reads reads' : ℕ)
    (sink sink' : Option (List ℕ)) → SimRan ended quiet key left left' before after shelf shelf' number number' reads reads' sink sink' → ended ≢ status.Usage
sim_is ended quiet key left left' before after shelf shelf' number number' reads reads' sink sink' h e =
    let c : SimRan status.Usage quiet key left left' before after shelf shelf' number number' reads reads' sink sink' =
    subst (λ (s : Status). SimRan s quiet key left left' before after shelf shelf' number number' reads reads' sink sink') e h in
    closes_not _ c.told.end _ c.told.mid sink' c.told.closes

pub generate_is : (ended : Status) (hundreds : ℕ) (key : List ℕ) (before after : List State) (shelf shelf' : Shelf)
    (sink sink' : Option (List ℕ)) → GenerateRan ended hundreds key before after shelf shelf' sink sink' → ended ≢ status.Usage
generate_is ended hundreds key before after shelf shelf' sink sink' h e =
    subst (λ (s : Status). GenerateRan s hundreds key before after shelf shelf' sink sink') e h

pub replay_is : (ended : Status) (key : List ℕ) (left left' : Option (List ℕ)) (shelf shelf' : Shelf)
    (sink sink' : Option (List ℕ)) → ReplayRan ended key left left' shelf shelf' sink sink' → ended ≢ status.Usage
replay_is ended key left left' shelf shelf' sink sink' h e =
    let c : ReplayRan status.Usage key left left' shelf shelf' sink sink' =
    subst (λ (s : Status). ReplayRan s key left left' shelf shelf' sink sink') e h in
    closes_not _ c.told.end _ c.told.mid sink' c.told.closes

-- the scenario that is made reads nothing, so no read fails
pub generate_never_reads : (ended : Status) (hundreds : ℕ) (key : List ℕ) (before after : List State) (shelf shelf' : Shelf)
    (sink sink' : Option (List ℕ)) → GenerateRan ended hundreds key before after shelf shelf' sink sink' → ended ≢ status.ReadFault
generate_never_reads ended hundreds key before after shelf shelf' sink sink' h e =
    subst (λ (s : Status). GenerateRan s hundreds key before after shelf shelf' sink sink') e h

pub audited_is : (ended : Status) (left left' sink sink' : Option (List ℕ)) → HasAudited ended left left' sink sink' → ended ≢ status.Usage
audited_is ended left left' sink sink' h e =
    let c : HasAudited status.Usage left left' sink sink' = subst (λ (s : Status). HasAudited s left left' sink sink') e h in
    c.ended.2

-- no end of `host` is that of words that are no command
served_code : (end : Served) → code_of (status_of end) ≢ 2
served_code served.Ok e = omega (arith, e)
served_code (served.Undone number) e = omega (arith, e)
served_code (served.BadLine number fault) e = omega (arith, e)
served_code (served.Opening opening.KeeperFault) e = omega (arith, e)
served_code (served.Opening (opening.BadRecord at)) e = omega (arith, e)
served_code (served.Opening opening.NoMemory) e = omega (arith, e)
served_code served.ReadFault e = omega (arith, e)
served_code served.WriteFault e = omega (arith, e)
served_code served.InputTooLong e = omega (arith, e)
served_code served.NoMemory e = omega (arith, e)

host_is : (ended : Status) (key : List ℕ) (number : ℕ) (texts : List (List ℕ)) (old new : Desk) → HostRan ended key number texts old new → ended ≢ status.Usage
host_is ended key number texts old new h e = served_code h.end (ap code_of (sym h.status_is ∙ e))

-- the texts of the words after the first
pub later_texts : {A : Type 0} (words later : List (String A)) → later ≡ drop 1 words → texts_of later ≡ drop 1 (texts_of words)
later_texts {A} [] later is = ap (λ (l : List (String A)). texts_of l) is
later_texts {A} (word ∷ words) later is = ap (λ (l : List (String A)). texts_of l) is

-- `host` was run over the words after the first
pub host_runs : (words lines : List (List ℕ)) (key : List ℕ) (ended : Status) (old new : Around) → lines ≡ drop 1 words
    → HostRan ended key old.kept lines (desk old.left old.written (shelf_in old)) (desk new.left new.written (shelf_in new))
    → new.devices ≡ old.devices → (ended ≡ status.KeeperFault → Rose old.keeper_faults new.keeper_faults)
    → (ended ≡ status.ReadFault → Rose old.read_faults new.read_faults) → (ended ≡ status.WriteFault → Rose old.write_faults new.write_faults)
    → (HasGoodPort lines old.left → (Rose old.read_faults new.read_faults → ⊥) → (Rose old.write_faults new.write_faults → ⊥)
    → (Rose old.keeper_faults new.keeper_faults → ⊥) → IsServed ended)
    → old.read_faults ≤ new.read_faults → old.write_faults ≤ new.write_faults → Runs Host words key ended old new
unfolding Does HasGoodInputFor ComesToItsEnd
host_runs words lines key ended old new are ran devices kept read written complete source sink = record {
  does = (
    subst (λ (l : List (List ℕ)). HostRan ended key old.kept l (desk old.left old.written (shelf_in old)) (desk new.left new.written (shelf_in new))) are ran,
    devices,
    kept,
  );
  known = host_is ended key old.kept lines _ _ ran;
  read_fault = read;
  write_fault = written;
  complete = λ good free. complete (subst (λ (l : List (List ℕ)). HasGoodPort l old.left) (sym are) good) free.read free.written;
  source_never_falls = source;
  sink_never_falls = sink;
}

-- what is asked is this command, and it was run
pub as_asked : {asked given : Asked} {words : List (List ℕ)} {key : List ℕ} {ended : Status} {old new : Around} → asked ≡ given → Runs given words key ended old new → Runs asked words key ended old new
as_asked {asked} {given} {words} {key} {ended} {old} {new} is runs = subst (λ (a : Asked). Runs a words key ended old new) (sym is) runs

-- ---- what the words name is run

pub named_runs : (given : Asked) (key : List ℕ) (ended : Status) (old new : Around) (words : List (List ℕ)) → ((asked : Asked) → AreWordsFor asked words → IsAnswered asked (Ok given))
    → Runs given words key ended old new → (asked : Asked) → AreWordsFor asked words → Runs asked words key ended old new ⊎ Refuses status.NoMemory ended old new
named_runs given key ended old new words valid runs asked are = inl (subst (λ (a : Asked). Runs a words key ended old new) (valid asked are) runs)
