-- That the chip was given just what it has for its host, with the steps of its link: it goes on with the number of a tick, and with events at which nothing is given.
use Rattle.std.proofs.Common.{◌≡◌, ℕ, zero, suc, Bool, true, false, if◌then◌else◌, List, [], ◌∷◌, ◌++◌, length, map, refl, sym, ap, ◌∙◌, subst, append-nil, append_assoc}
use Rattle.serial_frame.specs.Frame.{FrameParts}
use Rattle.serial_link.specs.Rules.{Step}
use Rattle.chip_sim.specs.Waiting.{PortState}
use Rattle.zw_text.specs.declared.entry.Entry.{Entry}
use Rattle.zw_text.specs.declared.entry.Entry.TheVariants as entry
use Rattle.law_wire.specs.Asked.{Asked, Course, asked, course_of}
use Rattle.law_wire.specs.Results.{settled_clock}
use Rattle.law_wire.specs.Given.{Given, given}
use Rattle.law_transcript.specs.Lists.{EachAfter}
use Rattle.law_wire.specs.Answering.{AreOf, MayAnswer}
use Rattle.outside_model.specs.Devices.{State}
use Rattle.outside_model.specs.State.{OuterState}
use Rattle.outside_model.specs.Events.{has_entered, stamp, ticked_entry}
use Rattle.proof_devices.specs.proof_air.proof_walk.Outside.{awaits_number}
use Rattle.proof_chip.specs.Serving.{GoesOn, Serves, frame_texts}
use Rattle.proof_chip.specs.Tally.{TallyBefore, TallyNow, TallySo, Timed, outlook}
use Rattle.proof_chip.proofs.Growing.{serves_aside}
use Rattle.proof_chip.proofs.Judged.{goes_back}
use Rattle.proof_chip.proofs.Replying.{none_filtered}
use Rattle.proof_chip.proofs.Settling.{AreIdle}
use Rattle.proof_chip.proofs.Standing.{goes_none}
use Rattle.proof_chip.proofs.Tallied.{before_number_t, now_number_t}
use Rattle.proof_chip.proofs.Reckoning.{settled_now, settled_left, settled_was}
use Rattle.proof_answers.specs.Owing.{come, owed_in}
use Rattle.proof_answers.specs.Telling.{Telling, TellSo, TellsBefore, TellsNow, told_by}
use Rattle.proof_answers.proofs.Accounts.{Grows}
use Rattle.proof_answers.proofs.Entering.{Parts, parts_all}
use Rattle.proof_answers.proofs.Lists.{tells_are}
use Rattle.proof_answers.proofs.Standing.{SameOwing, before_number, before_parts, now_as, now_idle, now_number}

module _ (devices : List State) where
  pub map_so : (One Other : Telling) → ((frames : List FrameParts) (course : Course) (past : List Entry) → One frames course past → Other frames course past) → (did : List Step) (past : List Entry) (port : PortState)
      → TellSo One did past port → TellSo Other did past port
  map_so One Other goes did past port (frames, serves, are) = (frames, serves, λ later goes_on. goes frames later past (are later goes_on))

  -- ---- what the count knows of time

  timed_now : (o : OuterState) (awaits : Bool) (did : List Step) (past : List Entry) (port : PortState) → TallySo (TallyNow devices (outlook o) awaits 0) did past port → Timed o.clock 0 awaits past
  timed_now o awaits did past port (frames, serves, are) = (are (course_of did) (goes_none (course_of did))).timed

  pub now_settled : (o : OuterState) (did : List Step) (past : List Entry) (port : PortState) → TallySo (TallyNow devices (outlook o) false 0) did past port → settled_clock past ≡ o.clock
  now_settled o did past port tally = settled_now o.clock past (timed_now o false did past port tally)

  pub timed_before : (o : OuterState) (arriving : Bool) (left : ℕ) (awaits : Bool) (did : List Step) (past : List Entry) (port : PortState)
      → TallySo (TallyBefore devices (outlook o) arriving left awaits 0) did past port → Timed o.clock left awaits past
  timed_before o arriving left awaits did past port (frames, serves, are) = (are (course_of did) (goes_none (course_of did))).timed

  -- ---- the number of the tick

  module _ (o : OuterState) (did : List Step) (past : List Entry) (port : PortState) where
    number_by : (b : Bool) → TallySo (TallyNow devices (outlook o) b 0) did past port → TellSo (TellsNow devices o) did past port
        → TellSo (TellsNow devices o) did (past ++ (if b then entry.Time o.clock ∷ [] else [])) port
    number_by true tally (frames, serves, are) =
        let settled = now_settled o did (past ++ entry.Time o.clock ∷ []) port (now_number_t devices (outlook o) true did past port tally) in (
          frames,
          serves_aside did frames past (entry.Time o.clock ∷ []) port port (tt, tt) refl refl serves,
          λ course goes. now_number devices o frames course past settled (are course goes),
        )
    number_by false tally so = subst (λ (l : List Entry). TellSo (TellsNow devices o) did l port) (sym (append-nil past)) so

    pub now_numbered : TallySo (TallyNow devices (outlook o) (awaits_number o) 0) did past port → TellSo (TellsNow devices o) did past port → TellSo (TellsNow devices o) did (past ++ ticked_entry o) port
    now_numbered tally so = number_by (awaits_number o) tally so

    -- in a tick, until its results have come
    module _ (arriving : Bool) (count : ℕ) (none : arriving ≡ false → count ≡ 0) where
      parts_here : (left : ℕ) → count ≡ left → TallySo (TallyBefore devices (outlook o) arriving count true 0) did past port
          → TallySo (TallyBefore devices (outlook o) arriving count false 0) did (past ++ entry.Time o.clock ∷ []) port
          → (course : Course) → GoesOn (course_of did) course → Parts devices course o.clock past (entry.Time o.clock)
      parts_here zero is (frames, serves, are) tally course goes =
          parts_all devices course o.clock past (entry.Time o.clock)
          (settled_now o.clock (past ++ entry.Time o.clock ∷ [])
          (subst (λ (n : ℕ). Timed o.clock n false (past ++ entry.Time o.clock ∷ [])) is (timed_before o arriving count false did (past ++ entry.Time o.clock ∷ []) port tally)))
      parts_here (suc left) is (frames, serves, are) tally course goes =
          let was = are course goes in
          before_parts devices o [] course past (outlook o) arriving count true 0 (length frames) (entry.Time o.clock) refl (settled_was o.clock count past was.timed)
          (settled_left o.clock left (past ++ entry.Time o.clock ∷ [])
          (subst (λ (n : ℕ). Timed o.clock n false (past ++ entry.Time o.clock ∷ [])) is (timed_before o arriving count false did (past ++ entry.Time o.clock ∷ []) port tally))) was

      before_by : (b : Bool) → TallySo (TallyBefore devices (outlook o) arriving count b 0) did past port → TellSo (TellsBefore devices arriving o) did past port
          → TellSo (TellsBefore devices arriving o) did (past ++ (if b then entry.Time o.clock ∷ [] else [])) port
      before_by true tally (frames, serves, are) =
          let numbered = before_number_t devices (outlook o) arriving count true none did past port tally in (
            frames,
            serves_aside did frames past (entry.Time o.clock ∷ []) port port (tt, tt) refl refl serves,
            λ course goes.
                before_number devices o frames course past arriving (parts_here count refl tally numbered course goes)
                (settled_was o.clock count past (timed_before o arriving count true did past port tally)) (are course goes),
          )
      before_by false tally so = subst (λ (l : List Entry). TellSo (TellsBefore devices arriving o) did l port) (sym (append-nil past)) so

      pub before_numbered : TallySo (TallyBefore devices (outlook o) arriving count (awaits_number o) 0) did past port → TellSo (TellsBefore devices arriving o) did past port
          → TellSo (TellsBefore devices arriving o) did (past ++ ticked_entry o) port
      before_numbered tally so = before_by (awaits_number o) tally so

  -- ---- where nothing is given

  -- nothing is entered either
  pub silent_on : (Are : Telling) (did steps : List Step) (past : List Entry) (port later : PortState) → ((frames : List FrameParts) → Serves did frames past port → Grows devices did frames past later [] steps [])
      → TellSo Are did past port → TellSo Are (did ++ steps) (past ++ []) later
  silent_on Are did steps past port later grow (frames, serves, are) = (
    frames ++ [],
    (grow frames serves).serves,
    λ course goes.
        subst (λ (l : List Entry). Are (frames ++ []) course l) (sym (append-nil past)) (subst (λ (l : List FrameParts). Are l course past) (sym (append-nil frames)) (are course (goes_back did steps course goes))),
  )

  -- entries are, after which the chip was given these frames
  pub gives_on : (Are After : Telling) (did steps : List Step) (past told : List Entry) (more : List FrameParts) (port later : PortState)
      → ((frames : List FrameParts) → Serves did frames past port → Grows devices did frames past later told steps more)
      → ((frames : List FrameParts) (course : Course) → Are frames course past → AreOf devices (frame_texts (frames ++ more)) (given devices course past))
      → ((frames : List FrameParts) (course : Course) → EachAfter (MayAnswer devices course) past told → Are frames course past → After (frames ++ more) course (past ++ told))
      → TellSo Are did past port → TellSo After (did ++ steps) (past ++ told) later
  gives_on Are After did steps past told more port later grow next step (frames, serves, are) =
      let grows = grow frames serves in (
        frames ++ more,
        grows.serves,
        λ course goes. let was = are course (goes_back did steps course goes) in step frames course (grows.turns course goes (next frames course was)) was,
      )

  -- where all results so far are told, the frames are just what the chip has
  pub now_given : (o : OuterState) (frames : List FrameParts) (course : Course) (past : List Entry) → settled_clock past ≡ o.clock → TellsNow devices o frames course past → AreOf devices (frame_texts frames) (given devices course past)
  now_given o frames course past settled was =
      subst (λ (l : List Given). AreOf devices (frame_texts frames) l)
      (ap (λ (l : List Asked). given devices course past ++ map (come past) (owed_in course past l)) (none_filtered (settled_clock past) o.clock (sym settled) (asked course past)) ∙ append-nil (given devices course past))
      (tells_are devices (frame_texts frames) (told_by devices o.clock course past) [] was.tells)

  -- entries that tell nothing of it are
  pub now_on : (o : OuterState) (did steps : List Step) (past told : List Entry) (port later : PortState) → AreIdle told → settled_clock past ≡ o.clock
      → ((frames : List FrameParts) → Serves did frames past port → Grows devices did frames past later told steps []) → TellSo (TellsNow devices o) did past port
      → TellSo (TellsNow devices o) (did ++ steps) (past ++ told) later
  now_on o did steps past told port later idle settled grow so =
      gives_on (TellsNow devices o) (TellsNow devices o) did steps past told [] port later grow
      (λ frames course was. subst (λ (l : List FrameParts). AreOf devices (frame_texts l) (given devices course past)) (sym (append-nil frames)) (now_given o frames course past settled was))
      (λ frames course turns was. subst (λ (l : List FrameParts). TellsNow devices o l course (past ++ told)) (sym (append-nil frames)) (now_idle devices o frames course past told idle turns settled was)) so

  -- with the number of the tick that may stand before them
  module _ (o p : OuterState) (did steps : List Step) (past : List Entry) (same : SameOwing o p) (number : ticked_entry p ≡ ticked_entry o)
      (tally : TallySo (TallyNow devices (outlook o) (awaits_number o) 0) did past o.chip.state.port) (so : TellSo (TellsNow devices o) did past o.chip.state.port) where
    abbrev Growing : List Entry → Type 0
    Growing told = (here : List Entry) (frames : List FrameParts) → Serves did frames here o.chip.state.port → Grows devices did frames here p.chip.state.port told steps []

    pub event_now : (told : List Entry) → AreIdle told → Growing told → TellSo (TellsNow devices (has_entered p told)) (did ++ steps) (past ++ stamp p told) (has_entered p told).chip.state.port
    event_now [] idle grow =
        map_so (TellsNow devices o) (TellsNow devices p) (λ frames course all was. now_as devices o p same frames course all was) (did ++ steps) (past ++ []) p.chip.state.port
        (silent_on (TellsNow devices o) did steps past o.chip.state.port p.chip.state.port (grow past) so)
    event_now (first ∷ told) idle grow =
        let here : List Entry = past ++ ticked_entry o in
        let later : OuterState = has_entered p (first ∷ told) in
        map_so (TellsNow devices o) (TellsNow devices later)
        (λ frames course all was. now_as devices o later (record { clock = same.clock; sending = same.sending; failing = same.failing; calls = same.calls; due = same.due }) frames course all was)
        (did ++ steps) (past ++ (ticked_entry p ++ first ∷ told)) p.chip.state.port
        (subst (λ (l : List Entry). TellSo (TellsNow devices o) (did ++ steps) l p.chip.state.port) (append_assoc past (ticked_entry p) (first ∷ told))
        (subst (λ (l : List Entry). TellSo (TellsNow devices o) (did ++ steps) ((past ++ l) ++ first ∷ told) p.chip.state.port) (sym number)
        (now_on o did steps here (first ∷ told) o.chip.state.port p.chip.state.port idle
        (now_settled o did here o.chip.state.port (now_number_t devices (outlook o) (awaits_number o) did past o.chip.state.port tally)) (grow here) (now_numbered o did past o.chip.state.port tally so))))
