-- The count of the frames for the host goes on where a frame that heads for the controller is heard: its handler is told first, and then its payload comes to the chip.
use Rattle.std.proofs.Common.{◌≡◌, ◌<◌, ℕ, suc, ◌+◌, ◌==◌, ◌&&◌, nat_le, Bool, true, false, if◌then◌else◌, List, [], ◌∷◌, ◌++◌, filter, length, refl, sym, ap, ap₂, ◌∙◌, subst, append-nil, append_assoc, arith}
use Rattle.std.specs.Prelude.{Option, Some, None}
use Rattle.std.specs.Option.{is_some}
use Rattle.std.specs.List.{flat_map}
use Rattle.serial_link.specs.Rules.{Step}
use Rattle.chip_sim.specs.Waiting.{PortState}
use Rattle.chip_sim.specs.State.{ChipState}
use Rattle.chip_sim.specs.Events.{Heard as chip_hears, after, collides}
use Rattle.mesh_sim.specs.declared.event.AirEvent.TheVariants as tells
use Rattle.zw_text.specs.declared.entry.Entry.{Entry}
use Rattle.zw_text.specs.declared.entry.Entry.TheVariants as entry
use Rattle.zw_text.specs.Transcript.{AirFrame}
use Rattle.law_transcript.specs.Carrying.{homeward}
use Rattle.law_transcript.specs.Units.{Carried}
use Rattle.law_transcript.specs.Fates.{first_fate}
use Rattle.law_transcript.specs.Lists.{listed}
use Rattle.law_transcript.specs.Nodes.{controller}
use Rattle.law_transcript.specs.Repeats.{frame_of}
use Rattle.law_transcript.specs.Restarts.{repeats}
use Rattle.law_wire.specs.Asked.{Course, Sending, last_sending}
use Rattle.law_wire.specs.Results.{Called, ended_at, ended_by, is_outward, sent_as, status_heard}
use Rattle.law_wire.specs.Given.{Given, given, handler_of, handlers_at}
use Rattle.outside_model.specs.Devices.{State}
use Rattle.outside_model.specs.State.{OuterState, Outcome, each, silent, with_chip}
use Rattle.outside_model.specs.Chip.{chip_does}
use Rattle.outside_model.specs.Air.{deals}
use Rattle.proof_air.specs.Carrying.{IsHome}
use Rattle.proof_line.proofs.ChipAccounts.{all_account, heard_account, steps_by}
use Rattle.proof_line.specs.proof_traffic.Facts.{one_if}
use Rattle.proof_air.proofs.Times.{does_chip, does_time}
use Rattle.proof_chip.specs.Tally.{Counting, Outlook, TallyBefore, TallyNow, TallySo, outlook}
use Rattle.proof_chip.proofs.Growing.{serves_aside}
use Rattle.proof_chip.proofs.Quieting.{unanswered}
use Rattle.proof_chip.proofs.Resting.{Rests, each_rests, queued_leaves, rests_look}
use Rattle.proof_chip.proofs.Standing.{few_stand}
use Rattle.proof_chip.proofs.Tallied.{Stays, before_stays, none_so, now_stays, post_t}
use Rattle.proof_chip.proofs.Coming.{before_above, before_next, now_above, now_count}
use Rattle.proof_chip.proofs.Fating.{before_lands, now_again}

-- a handler frame has room for the payload
abbrev pub has_room : List ℕ → Bool
has_room payload = nat_le 1 (length payload) && nat_le (length payload) 46

-- ---- by the transcript

one_many : (b : Bool) (one : Given) → length ((if b then one ∷ [] else []) ++ []) ≡ one_if b
one_many true one = refl
one_many false one = refl

abbrev pub first_payload : List Carried → List ℕ
first_payload [] = []
first_payload (one ∷ more) = one.payload

-- where a handler has room for its payload, one is told
pub handlers_many : (past : List Entry) (number node : ℕ) (payload : List ℕ) → IsHome past number node payload → length (handlers_at past (entry.Heard number)) ≡ one_if (has_room payload)
handlers_many past number node payload home = by (frame_of past number) home
  where
    at : (frame : AirFrame) (to : Bool) → (frame.receiver == controller) ≡ to → homeward (Some frame) ≡ record { node = node; payload = payload } ∷ [] → length (handler_of frame ++ []) ≡ one_if (has_room payload)
    at frame true to is =
        let same : frame.payload ≡ payload = payload_of frame to is in
        one_many ((frame.receiver == controller) && has_room frame.payload) _ ∙ ap₂ (λ (b : Bool) (l : List ℕ). one_if (b && has_room l)) to same
      where
        payload_of : (frame : AirFrame) → (frame.receiver == controller) ≡ true → homeward (Some frame) ≡ record { node = node; payload = payload } ∷ [] → frame.payload ≡ payload
        payload_of frame to is =
            ap (λ (l : List Carried). first_payload l) (sym (ap (λ (b : Bool). if b then record { node = frame.sender; payload = frame.payload } ∷ [] else []) to) ∙ is)
    at frame false to is =
        absurd (let no : [] ≡ record { node = node; payload = payload } ∷ [] = sym (ap (λ (b : Bool). if b then record { node = frame.sender; payload = frame.payload } ∷ [] else []) to) ∙ is in cc)

    by : (found : Option AirFrame) → homeward found ≡ record { node = node; payload = payload } ∷ [] → length (flat_map handler_of (listed found)) ≡ one_if (has_room payload)
    by None is = absurd cc
    by (Some frame) is = at frame (frame.receiver == controller) refl is

-- no SendData ends: after a line that repeats a frame, and with a frame that is not the controller's
pub again_ends : (course : Course) (past : List Entry) (number : ℕ) → repeats past ≡ true → ended_at course past (entry.Heard number) ≡ []
again_ends course past number is = ap (λ (b : Bool). if b then [] else ended_by (status_heard past) (sent_as course past number)) is

pub home_ends : (course : Course) (past : List Entry) (number : ℕ) → repeats past ≡ false → is_outward past number ≡ false → ended_at course past (entry.Heard number) ≡ []
home_ends course past number is other =
    ap (λ (b : Bool). if b then [] else ended_by (status_heard past) (sent_as course past number)) is
    ∙ ap (λ (b : Bool). ended_by (status_heard past) (if b then filter (λ (sending : Sending). sending.frame == number) (last_sending course past) else [])) other

pub home_fate : (past : List Entry) (number : ℕ) → repeats past ≡ false → first_fate past (entry.Heard number) ≡ number ∷ []
home_fate past number is = ap (λ (b : Bool). if b then [] else number ∷ []) is

pub again_fate : (past : List Entry) (number : ℕ) → repeats past ≡ true → first_fate past (entry.Heard number) ≡ []
again_fate past number is = ap (λ (b : Bool). if b then [] else number ∷ []) is

-- ---- outside the host

pub heard_rests : (o : OuterState) (node : ℕ) (payload : List ℕ) → Rests o (chip_does o (chip_hears node payload)).outer
unfolding chip_does
heard_rests o node payload =
    let got = each_rests _ (with_chip o (after o.chip.state (chip_hears node payload))) (queued_leaves o.chip.state.port.side.turn o.chip.state.port _) in record { calls = got.calls; due = got.due; air = got.air }

heard_outlook : (o : OuterState) (node : ℕ) (payload : List ℕ) → outlook (chip_does o (chip_hears node payload)).outer ≡ outlook o
heard_outlook o node payload =
    rests_look o (chip_does o (chip_hears node payload)).outer (heard_rests o node payload) (ap (λ (s : ChipState). is_some s.sending) (does_chip o (chip_hears node payload)))
    (ap (λ (t : Bool × Bool × ℕ). t.2) (does_time o (chip_hears node payload)))

pub comes_outlook : (b : Bool) (o : OuterState) (node : ℕ) (payload : List ℕ) → outlook (if b then chip_does o (chip_hears node payload) else silent o).outer ≡ outlook o
comes_outlook true o node payload = heard_outlook o node payload
comes_outlook false o node payload = refl

plus_none : (n : ℕ) → n + 0 ≡ n
plus_none n = omega arith

brings_one : (course : Course) (past : List Entry) (number node : ℕ) (payload : List ℕ) → IsHome past number node payload → ended_at course past (entry.Heard number) ≡ []
    → length (handlers_at past (entry.Heard number)) + length (ended_at course past (entry.Heard number)) ≡ one_if (has_room payload)
brings_one course past number node payload home none =
    ap₂ (λ (n : ℕ) (l : List Called). n + length l) (handlers_many past number node payload home) none ∙ plus_none (one_if (has_room payload))

module _ (devices : List State) where
  -- ---- the payload comes to the chip

  -- where this is so with so many frames still to come, the transcript has more than the chip had, and what comes is counted
  module _ (At : ℕ → Counting) (stays : (coming : ℕ) → Stays devices false (At coming)) (above : (count : ℕ) (course : Course) (past : List Entry) → At 1 count course past → count < length (given devices course past))
      (step : (count : ℕ) (course : Course) (past : List Entry) → At 1 count course past → At 0 (count + 1) course past) (did : List Step) where
    comes_t : (b : Bool) (past : List Entry) (o : OuterState) (node : ℕ) (payload : List ℕ) → TallySo (At (one_if b)) did past o.chip.state.port
        → TallySo (At 0) (did ++ steps_by (heard_account b o node payload)) (past ++ (if b then chip_does o (chip_hears node payload) else silent o).entries)
        (if b then chip_does o (chip_hears node payload) else silent o).outer.chip.state.port
    comes_t true past o node payload so =
        post_t devices false (At 1) (At 0) (stays 1) did past o (chip_hears node payload) _ (unanswered (collides o.chip.state) (chip_hears node payload) tt) refl (λ is. absurd (let no : false ≡ true = is in cc))
        (λ count course all now was. above count course all was) (λ count course all was. step count course all was) so
    comes_t false past o node payload so = none_so devices (At 0) did past o.chip.state.port so

    -- after it is told that it was heard
    pub heard_t : (there : List State) (past : List Entry) (o : OuterState) (number node : ℕ) (payload : List ℕ) → TallySo (At (one_if (has_room payload))) did (past ++ entry.Heard number ∷ []) o.chip.state.port
        → TallySo (At 0) (did ++ steps_by (all_account there (tells.Heard number ∷ tells.ToChip number node payload ∷ []) o))
        (past ++ (each (deals there) o (tells.Heard number ∷ tells.ToChip number node payload ∷ [])).entries) (each (deals there) o (tells.Heard number ∷ tells.ToChip number node payload ∷ [])).outer.chip.state.port
    heard_t there past o number node payload so =
        let b : Bool = has_room payload in
        let x : Outcome = if b then chip_does o (chip_hears node payload) else silent o in
        let here : List Entry = past ++ entry.Heard number ∷ [] in
        let got = comes_t b here o node payload so in
        let told : here ++ x.entries ≡ past ++ (entry.Heard number ∷ (x.entries ++ [])) =
        append_assoc past (entry.Heard number ∷ []) x.entries ∙ ap (λ (l : List Entry). past ++ entry.Heard number ∷ l) (sym (append-nil x.entries)) in
        subst (λ (l : List Step). TallySo (At 0) (did ++ l) (past ++ (entry.Heard number ∷ (x.entries ++ []))) x.outer.chip.state.port) (sym (append-nil (steps_by (heard_account b o node payload))))
        (subst (λ (l : List Entry). TallySo (At 0) (did ++ steps_by (heard_account b o node payload)) l x.outer.chip.state.port) told got)

  -- ---- a frame is heard again

  again_t : (v : Outlook) (did : List Step) (past : List Entry) (port : PortState) (number node : ℕ) (payload : List ℕ) → repeats past ≡ true → IsHome past number node payload
      → TallySo (TallyNow devices v false 0) did past port → TallySo (TallyNow devices v false (one_if (has_room payload))) did (past ++ entry.Heard number ∷ []) port
  again_t v did past port number node payload is home (frames, serves, are) = (
    frames,
    serves_aside did frames past (entry.Heard number ∷ []) port port (tt, tt) refl refl serves,
    λ course goes.
        subst (λ (n : ℕ). TallyNow devices v false n (length frames) course (past ++ entry.Heard number ∷ [])) (brings_one course past number node payload home (again_ends course past number is))
        (now_again devices course past v (length frames) (entry.Heard number) tt (again_fate past number is) (few_stand devices did frames past port serves course goes) (are course goes)),
  )

  pub hears_again_t : (there : List State) (o : OuterState) (did : List Step) (past : List Entry) (number node : ℕ) (payload : List ℕ) → repeats past ≡ true → IsHome past number node payload
      → TallySo (TallyNow devices (outlook o) false 0) did past o.chip.state.port
      → TallySo (TallyNow devices (outlook (each (deals there) o (tells.Heard number ∷ tells.ToChip number node payload ∷ [])).outer) false 0)
      (did ++ steps_by (all_account there (tells.Heard number ∷ tells.ToChip number node payload ∷ []) o))
      (past ++ (each (deals there) o (tells.Heard number ∷ tells.ToChip number node payload ∷ [])).entries) (each (deals there) o (tells.Heard number ∷ tells.ToChip number node payload ∷ [])).outer.chip.state.port
  hears_again_t there o did past number node payload is home so =
      let v : Outlook = outlook o in
      let x : Outcome = each (deals there) o (tells.Heard number ∷ tells.ToChip number node payload ∷ []) in
      subst (λ (u : Outlook). TallySo (TallyNow devices u false 0) (did ++ steps_by (all_account there (tells.Heard number ∷ tells.ToChip number node payload ∷ []) o)) (past ++ x.entries) x.outer.chip.state.port)
      (sym (comes_outlook (has_room payload) o node payload))
      (heard_t (λ coming. TallyNow devices v false coming) (λ coming. now_stays devices v false coming)
      (λ count course all was. let more = now_above devices course all v 1 count was in omega (arith, more))
      (λ count course all was. now_count devices course all v false 1 count 0 (count + 1) (omega arith) was) did there past o number node payload
      (again_t v did past o.chip.state.port number node payload is home so))

  -- ---- a frame arrives

  home_t : (v : Outlook) (left : ℕ) (did : List Step) (past : List Entry) (port : PortState) (number node : ℕ) (payload : List ℕ) → repeats past ≡ false → is_outward past number ≡ false
      → IsHome past number node payload → TallySo (TallyBefore devices v true (suc left) false 0) did past port
      → TallySo (TallyBefore devices v true left false (one_if (has_room payload))) did (past ++ entry.Heard number ∷ []) port
  home_t v left did past port number node payload is other home (frames, serves, are) = (
    frames,
    serves_aside did frames past (entry.Heard number ∷ []) port port (tt, tt) refl refl serves,
    λ course goes.
        subst (λ (n : ℕ). TallyBefore devices v true left false n (length frames) course (past ++ entry.Heard number ∷ [])) (brings_one course past number node payload home (home_ends course past number is other))
        (before_lands devices course past v left (length frames) (entry.Heard number) number tt (home_fate past number is) (few_stand devices did frames past port serves course goes) (are course goes)),
  )

  -- one that heads for the controller
  pub hears_home_t : (there : List State) (o : OuterState) (left : ℕ) (did : List Step) (past : List Entry) (number node : ℕ) (payload : List ℕ) → repeats past ≡ false → is_outward past number ≡ false
      → IsHome past number node payload → TallySo (TallyBefore devices (outlook o) true (suc left) false 0) did past o.chip.state.port
      → TallySo (TallyBefore devices (outlook (each (deals there) o (tells.Heard number ∷ tells.ToChip number node payload ∷ [])).outer) true left false 0)
      (did ++ steps_by (all_account there (tells.Heard number ∷ tells.ToChip number node payload ∷ []) o))
      (past ++ (each (deals there) o (tells.Heard number ∷ tells.ToChip number node payload ∷ [])).entries) (each (deals there) o (tells.Heard number ∷ tells.ToChip number node payload ∷ [])).outer.chip.state.port
  hears_home_t there o left did past number node payload is other home so =
      let v : Outlook = outlook o in
      let x : Outcome = each (deals there) o (tells.Heard number ∷ tells.ToChip number node payload ∷ []) in
      subst (λ (u : Outlook). TallySo (TallyBefore devices u true left false 0) (did ++ steps_by (all_account there (tells.Heard number ∷ tells.ToChip number node payload ∷ []) o)) (past ++ x.entries) x.outer.chip.state.port)
      (sym (comes_outlook (has_room payload) o node payload))
      (heard_t (λ coming. TallyBefore devices v true left false coming) (λ coming. before_stays devices v true left false coming)
      (λ count course all was. let more = before_above devices course all v left 1 count was in omega (arith, more))
      (λ count course all was.
      before_next devices course all v v true true false left 1 count 0 (count + 1) refl (omega arith) (λ many is. is) was.numbered (λ all own. own) was) did there past o number node payload
      (home_t v left did past o.chip.state.port number node payload is other home so))
