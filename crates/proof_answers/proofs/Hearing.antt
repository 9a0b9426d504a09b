-- The handler frame of what is heard for the controller is just what the transcript has for the host; and it is given where a frame is heard again.
use Rattle.std.proofs.Common.{◌≡◌, ℕ, ◌==◌, ◌&&◌, Bool, true, false, if◌then◌else◌, List, [], ◌∷◌, ◌++◌, map, refl, sym, ap, ap₂, ◌∙◌, subst, append-nil, append_assoc}
use Rattle.std.specs.Prelude.{Option, Some, None}
use Rattle.std.specs.List.{AllByRecursion, flat_map}
use Rattle.serial_frame.specs.Frame.{FrameParts}
use Rattle.serial_link.specs.Rules.{Step}
use Rattle.chip_functions.specs.declared.notice.Notice.TheVariants.{ApplicationCommandHandler}
use Rattle.chip_sim.specs.State.{ChipState}
use Rattle.chip_sim.specs.Events.{Heard as chip_hears}
use Rattle.mesh_sim.specs.declared.event.AirEvent.{AirEvent}
use Rattle.mesh_sim.specs.declared.event.AirEvent.TheVariants as tells
use Rattle.zw_text.specs.declared.entry.Entry.{Entry}
use Rattle.zw_text.specs.declared.entry.Entry.TheVariants as entry
use Rattle.zw_text.specs.Transcript.{AirFrame}
use Rattle.law_transcript.specs.Carrying.{homeward}
use Rattle.law_transcript.specs.Lists.{listed}
use Rattle.law_transcript.specs.Nodes.{controller}
use Rattle.law_transcript.specs.Repeats.{frame_of}
use Rattle.law_transcript.specs.Restarts.{repeats}
use Rattle.law_transcript.specs.Units.{Carried}
use Rattle.law_wire.specs.Asked.{Course}
use Rattle.law_wire.specs.Results.{Called, came_due, settled_clock}
use Rattle.law_wire.specs.Given.{Frame, Given, callback_of, given_at, handler_of, handlers_at, notice_frame, results_of}
use Rattle.outside_model.specs.Devices.{State}
use Rattle.outside_model.specs.State.{OuterState, Outcome, each, silent}
use Rattle.outside_model.specs.Chip.{chip_does}
use Rattle.outside_model.specs.Air.{deals, to_chip}
use Rattle.proof_devices.proofs.Results.{to_chip_goes}
use Rattle.proof_devices.proofs.Times.{does_chip, does_time}
use Rattle.proof_devices.specs.proof_air.Carrying.{IsHome}
use Rattle.proof_chip.proofs.ChipAccounts.{all_account, heard_account, steps_by}
use Rattle.proof_chip.specs.Serving.{as_given}
use Rattle.proof_chip.proofs.Growing.{serves_aside}
use Rattle.proof_chip.proofs.Hearing.{has_room, heard_rests, again_ends, again_fate, first_payload}
use Rattle.proof_chip.proofs.Replying.{settled_same}
use Rattle.proof_chip.proofs.Settling.{AreIdle}
use Rattle.proof_answers.specs.Telling.{TellSo, TellsNow}
use Rattle.proof_answers.proofs.Accounts.{Grows, account_grows, posts_by}
use Rattle.proof_answers.proofs.Ending.{Calmly, calmly}
use Rattle.proof_answers.proofs.Informing.{IsCalm}
use Rattle.proof_answers.proofs.Moving.{gives_on, map_so, now_given}
use Rattle.proof_answers.proofs.Standing.{SameOwing, now_as, now_entry, now_idle}

-- ---- by the transcript

abbrev pub heard_frames : Bool → ℕ → List ℕ → List FrameParts
heard_frames b node payload = if b then notice_frame (ApplicationCommandHandler 0 node payload) ∷ [] else []

abbrev handler_by : Bool → ℕ → List ℕ → List Given
handler_by b node payload = if b then Frame (notice_frame (ApplicationCommandHandler 0 node payload)) ∷ [] else []

one_is : (b : Bool) (node : ℕ) (payload : List ℕ) → handler_by b node payload ++ [] ≡ as_given (heard_frames b node payload)
one_is true node payload = refl
one_is false node payload = refl

abbrev first_node : List Carried → ℕ
first_node [] = 0
first_node (one ∷ more) = one.node

-- where a handler has room for its payload, just that is told
pub handlers_are : (past : List Entry) (number node : ℕ) (payload : List ℕ) → IsHome past number node payload → handlers_at past (entry.Heard number) ≡ as_given (heard_frames (has_room payload) node payload)
handlers_are past number node payload home = by (frame_of past number) home
  where
    at : (frame : AirFrame) (to : Bool) → (frame.receiver == controller) ≡ to → homeward (Some frame) ≡ record { node = node; payload = payload } ∷ [] → handler_of frame ++ [] ≡ as_given (heard_frames (has_room payload) node payload)
    at frame true to is =
        let carried : record { node = frame.sender; payload = frame.payload } ∷ [] ≡ record { node = node; payload = payload } ∷ [] =
        sym (ap (λ (b : Bool). if b then record { node = frame.sender; payload = frame.payload } ∷ [] else []) to) ∙ is in
        ap (λ (b : Bool). handler_by (b && has_room frame.payload) frame.sender frame.payload ++ []) to
        ∙ (ap₂ (λ (n : ℕ) (l : List ℕ). handler_by (has_room l) n l ++ []) (ap (λ (l : List Carried). first_node l) carried) (ap (λ (l : List Carried). first_payload l) carried)
        ∙ one_is (has_room payload) node payload)
    at frame false to is =
        absurd (let no : [] ≡ record { node = node; payload = payload } ∷ [] = sym (ap (λ (b : Bool). if b then record { node = frame.sender; payload = frame.payload } ∷ [] else []) to) ∙ is in cc)

    by : (found : Option AirFrame) → homeward found ≡ record { node = node; payload = payload } ∷ [] → flat_map handler_of (listed found) ≡ as_given (heard_frames (has_room payload) node payload)
    by None is = absurd cc
    by (Some frame) is = at frame (frame.receiver == controller) refl is

-- ---- outside the host

module _ (there : List State) where
  -- a payload comes to the chip, and may have room
  pub heard_posts : (o : OuterState) (number node : ℕ) (payload : List ℕ) → posts_by (all_account there (tells.ToChip number node payload ∷ []) o) ≡ heard_frames (has_room payload) node payload
  heard_posts o number node payload = by (has_room payload)
    where
      by : (b : Bool) → posts_by (heard_account b o node payload) ++ [] ≡ heard_frames b node payload
      by true = refl
      by false = refl

  pub heard_idle : (o : OuterState) (number node : ℕ) (payload : List ℕ) → AreIdle (each (deals there) o (tells.ToChip number node payload ∷ [])).entries
  heard_idle o number node payload = subst AreIdle (sym (append-nil (to_chip o node payload).entries)) (to_chip_goes Calmly calmly o node payload).0

  -- and the entries are calm
  pub heard_calm : (o : OuterState) (number node : ℕ) (payload : List ℕ) → AllByRecursion IsCalm (each (deals there) o (tells.ToChip number node payload ∷ [])).entries
  heard_calm o number node payload =
      subst (λ (l : List Entry). AllByRecursion IsCalm l) (sym (append-nil (to_chip o node payload).entries)) (to_chip_goes Calmly calmly o node payload).1

  pub heard_owing : (o : OuterState) (number node : ℕ) (payload : List ℕ) → SameOwing o (each (deals there) o (tells.ToChip number node payload ∷ [])).outer
  heard_owing o number node payload = by (has_room payload)
    where
      by : (b : Bool) → SameOwing o (if b then chip_does o (chip_hears node payload) else silent o).outer
      by true =
          let rests = heard_rests o node payload in
          let state = does_chip o (chip_hears node payload) in
          record {
            clock = ap (λ (t : Bool × Bool × ℕ). t.2) (does_time o (chip_hears node payload));
            sending = ap (λ (s : ChipState). s.sending) state;
            failing = ap (λ (s : ChipState). s.failing) state;
            calls = rests.calls;
            due = rests.due;
          }
      by false = record { clock = refl; sending = refl; failing = refl; calls = refl; due = refl }

-- ---- a frame is heard again

module _ (devices : List State) (did : List Step) (past : List Entry) (there : List State) (o : OuterState) (number : ℕ) (again : repeats past ≡ true) (settled : settled_clock past ≡ o.clock) where
  abbrev e : Entry
  e = entry.Heard number

  abbrev heard : List Entry
  heard = past ++ e ∷ []

  settled_now : settled_clock (past ++ entry.Heard number ∷ []) ≡ o.clock
  settled_now = settled_same past e tt (again_fate past number again) (λ all. refl) ∙ settled

  given_here : (course : Course) (more : List FrameParts) → handlers_at past (entry.Heard number) ≡ as_given more
      → given_at devices course past (entry.Heard number) ≡ as_given more ++ flat_map (results_of course past (entry.Heard number)) (came_due course past (entry.Heard number))
  given_here course more is =
      ap₂ (λ (a : List Given) (b : List Called). (a ++ map callback_of b) ++ flat_map (results_of course past e) (came_due course past e)) is (again_ends course past number again)
      ∙ ap (λ (l : List Given). l ++ flat_map (results_of course past e) (came_due course past e)) (append-nil (as_given more))

  -- with what comes of it
  pub again_tells : (rest : List AirEvent) (more : List FrameParts) → handlers_at past (entry.Heard number) ≡ as_given more → posts_by (all_account there rest o) ≡ more → AreIdle (each (deals there) o rest).entries
      → SameOwing o (each (deals there) o rest).outer → TellSo (TellsNow devices o) did past o.chip.state.port
      → TellSo (TellsNow devices (each (deals there) o rest).outer) (did ++ steps_by (all_account there rest o)) (past ++ (entry.Heard number ∷ (each (deals there) o rest).entries)) (each (deals there) o rest).outer.chip.state.port
  again_tells rest more handles posts idle same (frames, serves, are) =
      let x : Outcome = each (deals there) o rest in
      let first : TellSo (λ held course all. TellsNow devices o (held ++ more) course all) did heard o.chip.state.port = (
        frames,
        serves_aside did frames past (e ∷ []) o.chip.state.port o.chip.state.port (tt, tt) refl refl serves,
        λ course goes. now_entry devices o frames course past e more tt refl settled settled_now tt (given_here course more handles) (again_ends course past number again) (are course goes),
      ) in
      map_so devices (TellsNow devices o) (TellsNow devices x.outer) (λ held course all was. now_as devices o x.outer same held course all was) (did ++ steps_by (all_account there rest o)) (past ++ (e ∷ x.entries)) x.outer.chip.state.port
      (subst (λ (l : List Entry). TellSo (TellsNow devices o) (did ++ steps_by (all_account there rest o)) l x.outer.chip.state.port) (append_assoc past (e ∷ []) x.entries)
      (gives_on devices (λ held course all. TellsNow devices o (held ++ more) course all) (TellsNow devices o) did (steps_by (all_account there rest o)) heard x.entries more o.chip.state.port x.outer.chip.state.port
      (λ held serves_held. subst (λ (l : List FrameParts). Grows devices did held heard x.outer.chip.state.port x.entries (steps_by (all_account there rest o)) l) posts (account_grows devices did held heard (all_account there rest o) idle serves_held))
      (λ held course was. now_given devices o (held ++ more) course heard settled_now was)
      (λ held course turns was. now_idle devices o (held ++ more) course heard x.entries idle turns settled_now was) first))
