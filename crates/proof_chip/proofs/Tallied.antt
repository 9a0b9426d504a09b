-- The count of the frames that the chip has for the host goes on with what is told of neither chip nor time, with the number of a tick, and with what the chip is given.
use Rattle.std.proofs.Common.{◌≡◌, ◌≤◌, ◌<◌, ℕ, zero, suc, ◌+◌, ◌==◌, Bool, true, false, if◌then◌else◌, List, [], ◌∷◌, ◌++◌, length, refl, sym, ap, ap₂, ◌∙◌, subst, append-nil, append_assoc, length-append, arith}
use Rattle.std.specs.Prelude.{Option, Some, None}
use Rattle.zw_base.proofs.Each.{all-both, all-weaker}
use Rattle.serial_frame.specs.Frame.{FrameParts}
use Rattle.serial_link.specs.Rules.{Step}
use Rattle.route_table.specs.Network.{linked}
use Rattle.chip_functions.specs.declared.notice.TransmitStatus.{TransmitStatus}
use Rattle.chip_functions.specs.declared.notice.TransmitStatus.TheVariants.{NoRoute as no_route_status}
use Rattle.chip_sim.specs.Waiting.{PortState}
use Rattle.chip_sim.specs.State.{ChipState}
use Rattle.chip_sim.specs.Events.{ChipEvent, Done, Forgets, after, collides, outs}
use Rattle.chip_sim.specs.Link.{link_steps}
use Rattle.chip_sim.specs.Rules.{ended_posts, posts}
use Rattle.chip_sim.specs.declared.out.Sending.{Sending as SendingParts}
use Rattle.zw_words.specs.declared.side.Side.TheVariants.{Host as by_host, Chip as by_chip}
use Rattle.zw_text.specs.declared.entry.Entry.{Entry}
use Rattle.zw_text.specs.declared.entry.Entry.TheVariants as entry
use Rattle.law_transcript.specs.Lists.{EachAfter}
use Rattle.law_wire.specs.Asked.{Course, course_of}
use Rattle.law_wire.specs.Given.{given}
use Rattle.law_wire.specs.Answering.{MayWait, most_waiting, waiting}
use Rattle.outside_model.specs.Devices.{State}
use Rattle.outside_model.specs.State.{OuterState, Outcome, each, silent, tells, with_chip}
use Rattle.outside_model.specs.Chip.{chip_does, put_out}
use Rattle.outside_model.specs.Results.{call_back, forgets, no_route, no_routes, owes_call}
use Rattle.proof_line.proofs.ChipAccounts.{call_account, call_if, forget_if, forgets_account, no_route_account, no_routes_account, steps_by}
use Rattle.proof_air.proofs.Times.{does_chip}
use Rattle.proof_chip.specs.Serving.{GoesOn, Serves}
use Rattle.proof_chip.specs.Tally.{Counting, Outlook, TallyBefore, TallyNow, TallySo}
use Rattle.proof_chip.proofs.Asides.{AreUnrelated, IsUnrelated}
use Rattle.proof_chip.proofs.Growing.{serves_aside, serves_event, told as put_by}
use Rattle.proof_chip.proofs.Judged.{goes_back}
use Rattle.proof_chip.proofs.Owing.{not_none, owes_some, no_route_quiet, call_quiet, without_call, without_due}
use Rattle.proof_chip.proofs.Passing.{IsOther, puts_other}
use Rattle.proof_chip.proofs.Quieting.{IsUnanswered, event_none, unanswered}
use Rattle.proof_chip.proofs.Settling.{AreIdle, IsIdle}
use Rattle.proof_chip.proofs.Standing.{few_stand}
use Rattle.proof_chip.proofs.Tallying.{apart_waits, before_number, before_still, chip_waits, now_number, now_still}
use Rattle.proof_chip.proofs.Telling.{IsAside, IsPut, puts_put}

-- ---- entries of an event of the chip that answers no frame

put_idle : (e : Entry) → IsPut e → IsOther e → IsIdle e
put_idle (entry.Written by_chip unit) put other = (other, other)
put_idle (entry.Written by_host unit) put other = absurd put
put_idle (entry.Dropped side) put other = (tt, other)
put_idle (entry.Garbled side unit) put other = (tt, other)
put_idle (entry.Overrun side) put other = (tt, other)
put_idle (entry.Air frame sender receiver repeaters payload) put other = (tt, other)
put_idle entry.ChipFull put other = (tt, other)
put_idle e put other = absurd put

pub chip_idle : (o : OuterState) (event : ChipEvent) → IsUnanswered (collides o.chip.state) event → AreIdle (each put_out (with_chip o (after o.chip.state event)) (outs o.chip.state event)).entries
chip_idle o event none =
    let p : OuterState = with_chip o (after o.chip.state event) in
    let puts = outs o.chip.state event in
    all-both IsPut IsOther IsIdle put_idle (each put_out p puts).entries (puts_put puts p) (puts_other puts p (event_none o.chip.state event none))

module _ (devices : List State) where
  -- ---- what stays through such entries; while the number of the tick is still to be entered, none are
  abbrev pub Stays : Bool → Counting → Type 0
  Stays awaits Are =
      (count : ℕ) (course : Course) (past told : List Entry) → (awaits ≡ true → told ≡ []) → AreIdle told → EachAfter (MayWait devices course) past told → Are count course past → Are count course (past ++ told)

  pub now_stays : (v : Outlook) (awaits : Bool) (coming : ℕ) → Stays awaits (TallyNow devices v awaits coming)
  now_stays v true coming count course past told silent idle waits was =
      subst (λ (l : List Entry). TallyNow devices v true coming count course (past ++ l)) (sym (silent refl)) (subst (λ (l : List Entry). TallyNow devices v true coming count course l) (sym (append-nil past)) was)
  now_stays v false coming count course past told silent idle waits was = now_still devices course past v coming count told idle waits was

  pub before_stays : (v : Outlook) (arriving : Bool) (left : ℕ) (awaits : Bool) (coming : ℕ) → Stays awaits (TallyBefore devices v arriving left awaits coming)
  before_stays v arriving left true coming count course past told silent idle waits was =
      subst (λ (l : List Entry). TallyBefore devices v arriving left true coming count course (past ++ l)) (sym (silent refl))
      (subst (λ (l : List Entry). TallyBefore devices v arriving left true coming count course l) (sym (append-nil past)) was)
  before_stays v arriving left false coming count course past told silent idle waits was = before_still devices course past v arriving left coming count told idle waits was

  -- ---- entries that tell nothing of the chip

  pub apart_t : (awaits : Bool) (Are : Counting) → Stays awaits Are → (did : List Step) (past told : List Entry) (port later : PortState) → (awaits ≡ true → told ≡ []) → AreUnrelated told → later.side ≡ port.side
      → later.waiting ≡ port.waiting → TallySo Are did past port → TallySo Are did (past ++ told) later
  apart_t awaits Are stays did past told port later silent apart side waiting (frames, serves, are) = (
    frames,
    serves_aside did frames past told port later (all-weaker IsUnrelated IsAside (λ e is. is.0) told apart) side waiting serves,
    λ course goes. stays (length frames) course past told silent (all-weaker IsUnrelated IsIdle (λ e is. is.1) told apart) (apart_waits devices course past told apart) (are course goes),
  )

  -- the number of the tick
  abbrev FewWait : ℕ → Course → List Entry → Type 0
  FewWait count course past = length (given devices course past) ≤ count → waiting devices course past ≤ most_waiting

  number_t : (clock : ℕ) (Before After : Counting) → ((count : ℕ) (course : Course) (past : List Entry) → FewWait count course past → Before count course past → After count course (past ++ entry.Time clock ∷ []))
      → (did : List Step) (past : List Entry) (port : PortState) → TallySo Before did past port → TallySo After did (past ++ entry.Time clock ∷ []) port
  number_t clock Before After step did past port (frames, serves, are) = (
    frames,
    serves_aside did frames past (entry.Time clock ∷ []) port port (tt, tt) refl refl serves,
    λ course goes. step (length frames) course past (few_stand devices did frames past port serves course goes) (are course goes),
  )

  pub now_number_t : (v : Outlook) (awaits : Bool) (did : List Step) (past : List Entry) (port : PortState) → TallySo (TallyNow devices v awaits 0) did past port
      → TallySo (TallyNow devices v false 0) did (past ++ (if awaits then entry.Time v.clock ∷ [] else [])) port
  now_number_t v true did past port so =
      number_t v.clock (TallyNow devices v true 0) (TallyNow devices v false 0) (λ count course all few was. now_number devices course all v count few was) did past port so
  now_number_t v false did past port so = subst (λ (l : List Entry). TallySo (TallyNow devices v false 0) did l port) (sym (append-nil past)) so

  pub before_number_t : (v : Outlook) (arriving : Bool) (left : ℕ) (awaits : Bool) → (arriving ≡ false → left ≡ 0) → (did : List Step) (past : List Entry) (port : PortState)
      → TallySo (TallyBefore devices v arriving left awaits 0) did past port → TallySo (TallyBefore devices v arriving left false 0) did (past ++ (if awaits then entry.Time v.clock ∷ [] else [])) port
  before_number_t v arriving left true none did past port so =
      number_t v.clock (TallyBefore devices v arriving left true 0) (TallyBefore devices v arriving left false 0) (λ count course all few was. before_number devices course all v arriving left count none few was) did past port so
  before_number_t v arriving left false none did past port so = subst (λ (l : List Entry). TallySo (TallyBefore devices v arriving left false 0) did l port) (sym (append-nil past)) so

  -- ---- an event of the chip that answers no frame

  pub chip_t : (Before After : Counting) (did : List Step) (past : List Entry) (o : OuterState) (event : ChipEvent)
      → ((frames : List FrameParts) (serves : Serves did frames past o.chip.state.port) (later : Course) → GoesOn (course_of (did ++ link_steps o.chip.state event)) later → Before (length frames) later past
      → After (length (frames ++ posts o.chip.state event)) later (past ++ put_by did frames past o event serves))
      → TallySo Before did past o.chip.state.port → TallySo After (did ++ link_steps o.chip.state event) (past ++ (chip_does o event).entries) (chip_does o event).outer.chip.state.port
  unfolding chip_does
  chip_t Before After did past o event step (frames, serves, are) = (
    frames ++ posts o.chip.state event,
    subst (λ (s : ChipState). Serves (did ++ link_steps o.chip.state event) (frames ++ posts o.chip.state event) (past ++ (chip_does o event).entries) s.port) (sym (does_chip o event))
        (serves_event did frames past o event serves),
    λ later goes. step frames serves later goes (are later (goes_back did (link_steps o.chip.state event) later goes)),
  )

  -- where nothing is given
  pub quiet_t : (awaits : Bool) (Are : Counting) → Stays awaits Are → (did : List Step) (past : List Entry) (o : OuterState) (event : ChipEvent) → IsUnanswered (collides o.chip.state) event → posts o.chip.state event ≡ []
      → (awaits ≡ true → (chip_does o event).entries ≡ []) → TallySo Are did past o.chip.state.port
      → TallySo Are (did ++ link_steps o.chip.state event) (past ++ (chip_does o event).entries) (chip_does o event).outer.chip.state.port
  unfolding chip_does
  quiet_t awaits Are stays did past o event none posts_none silent so =
      chip_t Are Are did past o event
      (λ frames serves later goes was.
      let entered : List Entry = put_by did frames past o event serves in
      let idle = chip_idle o event none in
      let waits = chip_waits devices did frames past o event serves later goes idle (λ f one. absurd (let no : f ∷ [] ≡ [] = sym one ∙ posts_none in cc)) in
      subst (λ (n : ℕ). Are n later (past ++ entered)) (sym (ap (λ (l : List FrameParts). length (frames ++ l)) posts_none ∙ ap length (append-nil frames)))
      (stays (length frames) later past entered silent idle waits was)) so

  -- where one frame is
  pub post_t : (awaits : Bool) (Before After : Counting) → Stays awaits Before → (did : List Step) (past : List Entry) (o : OuterState) (event : ChipEvent) (f : FrameParts)
      → IsUnanswered (collides o.chip.state) event → posts o.chip.state event ≡ f ∷ [] → (awaits ≡ true → (chip_does o event).entries ≡ [])
      → ((count : ℕ) (course : Course) (all : List Entry) → awaits ≡ false → Before count course all → count < length (given devices course all))
      → ((count : ℕ) (course : Course) (all : List Entry) → Before count course all → After (count + 1) course all)
      → TallySo Before did past o.chip.state.port → TallySo After (did ++ link_steps o.chip.state event) (past ++ (chip_does o event).entries) (chip_does o event).outer.chip.state.port
  unfolding chip_does
  post_t awaits Before After stays did past o event f none one silent above step so =
      chip_t Before After did past o event
      (λ frames serves later goes was.
      let entered : List Entry = put_by did frames past o event serves in
      let idle = chip_idle o event none in
      let many = ap (λ (l : List FrameParts). length (frames ++ l)) one ∙ length-append frames (f ∷ []) in
      subst (λ (n : ℕ). After n later (past ++ entered)) (sym many)
      (step (length frames) later (past ++ entered) (stays (length frames) later past entered silent idle (waits_by awaits refl frames serves later goes was silent idle) was))) so
    where
      waits_by : (b : Bool) → awaits ≡ b → (frames : List FrameParts) (serves : Serves did frames past o.chip.state.port) (later : Course) → GoesOn (course_of (did ++ link_steps o.chip.state event)) later
          → Before (length frames) later past → (awaits ≡ true → put_by did frames past o event serves ≡ []) → AreIdle (put_by did frames past o event serves)
          → EachAfter (MayWait devices later) past (put_by did frames past o event serves)
      waits_by true is frames serves later goes was silent idle = subst (λ (l : List Entry). EachAfter (MayWait devices later) past l) (sym (silent is)) tt
      waits_by false is frames serves later goes was silent idle = chip_waits devices did frames past o event serves later goes idle (λ g same. above (length frames) later past is was)

  -- ---- one part after another

  pub both_so : (Are : Counting) (did one more : List Step) (past first rest : List Entry) (port : PortState) → TallySo Are ((did ++ one) ++ more) ((past ++ first) ++ rest) port
      → TallySo Are (did ++ (one ++ more)) (past ++ (first ++ rest)) port
  both_so Are did one more past first rest port so =
      subst (λ (l : List Step). TallySo Are l (past ++ (first ++ rest)) port) (append_assoc did one more)
      (subst (λ (l : List Entry). TallySo Are ((did ++ one) ++ more) l port) (append_assoc past first rest) so)

  pub none_so : (Are : Counting) (did : List Step) (past : List Entry) (port : PortState) → TallySo Are did past port → TallySo Are (did ++ []) (past ++ []) port
  none_so Are did past port so =
      subst (λ (l : List Step). TallySo Are l (past ++ []) port) (sym (append-nil did)) (subst (λ (l : List Entry). TallySo Are did l port) (sym (append-nil past)) so)

  -- ---- results

  abbrev CallsTo : Counting → List Step → List Entry → OuterState → TransmitStatus → Bool → Type 0
  CallsTo Are did past o status b =
      TallySo Are (did ++ steps_by (call_if b o status)) (past ++ (if b then chip_does (without_call o) (Done status) else silent (without_call o)).entries)
      (if b then chip_does (without_call o) (Done status) else silent (without_call o)).outer.chip.state.port

  module _ (awaits : Bool) (Are : Counting) (stays : Stays awaits Are) where
    -- one for a SendData that was aborted
    pub quiet_call_t : (did : List Step) (past : List Entry) (o : OuterState) (status : TransmitStatus) → 0 < o.chip.state.aborted → TallySo Are did past o.chip.state.port
        → TallySo Are (did ++ steps_by (call_account o status)) (past ++ (call_back o status).entries) (call_back o status).outer.chip.state.port
    unfolding chip_does
    quiet_call_t did past o status some so = by (owes_call o.chip.state) refl
      where
        by : (b : Bool) → owes_call o.chip.state ≡ b → CallsTo Are did past o status b
        by true is =
            quiet_t awaits Are stays did past (without_call o) (Done status) (unanswered (collides o.chip.state) (Done status) tt)
            (ap (λ (b : Bool). if b then ended_posts o.chip.state.sending status else []) (not_none o.chip.state some))
            (λ waits. ap (λ (x : Outcome). x.entries) (sym (ap (λ (b : Bool). if b then chip_does (without_call o) (Done status) else silent (without_call o)) is) ∙ call_quiet o status some)) so
        by false is = absurd (let no : true ≡ false = sym (owes_some o.chip.state some) ∙ is in cc)

    pub quiet_route_t : (did : List Step) (past : List Entry) (o : OuterState) → 0 < o.chip.state.aborted → TallySo Are did past o.chip.state.port
        → TallySo Are (did ++ steps_by (no_route_account o)) (past ++ (no_route o).entries) (no_route o).outer.chip.state.port
    quiet_route_t did past o some so = quiet_call_t did past (without_due o) no_route_status some so

    pub quiet_routes_t : (count : ℕ) (did : List Step) (past : List Entry) (o : OuterState) → count ≤ o.chip.state.aborted → TallySo Are did past o.chip.state.port
        → TallySo Are (did ++ steps_by (no_routes_account count o)) (past ++ (no_routes count o).entries) (no_routes count o).outer.chip.state.port
    quiet_routes_t zero did past o few so = none_so Are did past o.chip.state.port so
    quiet_routes_t (suc count) did past o few so =
        let later : OuterState = (no_route o).outer in
        let left : count ≤ later.chip.state.aborted =
        subst (λ (x : Outcome). count ≤ x.outer.chip.state.aborted) (sym (no_route_quiet o (omega (arith, few)))) (omega (arith, few)) in
        both_so Are did (steps_by (no_route_account o)) (steps_by (no_routes_account count later)) past (no_route o).entries (no_routes count later).entries (no_routes count later).outer.chip.state.port
        (quiet_routes_t count (did ++ steps_by (no_route_account o)) (past ++ (no_route o).entries) later left (quiet_route_t did past o (omega (arith, few)) so))

    -- a link may be forgotten first
    forget_t : (b : Bool) (did : List Step) (past : List Entry) (o : OuterState) (hop : ℕ × ℕ) → awaits ≡ false → TallySo Are did past o.chip.state.port
        → TallySo Are (did ++ steps_by (forget_if b o hop)) (past ++ (if b then tells (with_chip o (after o.chip.state (Forgets hop.0 hop.1))) (entry.Forget hop.0 hop.1 ∷ []) else silent o).entries)
        (if b then tells (with_chip o (after o.chip.state (Forgets hop.0 hop.1))) (entry.Forget hop.0 hop.1 ∷ []) else silent o).outer.chip.state.port
    forget_t true did past o hop now so =
        subst (λ (l : List Step). TallySo Are l (past ++ entry.Forget hop.0 hop.1 ∷ []) o.chip.state.port) (sym (append-nil did))
        (apart_t awaits Are stays did past (entry.Forget hop.0 hop.1 ∷ []) o.chip.state.port o.chip.state.port (λ is. absurd (let no : true ≡ false = sym is ∙ now in cc)) ((tt, (tt, tt)), tt) refl refl so)
    forget_t false did past o hop now so = none_so Are did past o.chip.state.port so

    pub forgets_t : (did : List Step) (past : List Entry) (o : OuterState) (dead : Option (ℕ × ℕ)) → awaits ≡ false → TallySo Are did past o.chip.state.port
        → TallySo Are (did ++ steps_by (forgets_account o dead)) (past ++ (forgets o dead).entries) (forgets o dead).outer.chip.state.port
    forgets_t did past o None now so = none_so Are did past o.chip.state.port so
    forgets_t did past o (Some hop) now so = forget_t (linked o.chip.state.table hop.0 hop.1) did past o hop now so

  -- and that of the SendData under way
  pub own_call_t : (awaits : Bool) (Before After : Counting) → Stays awaits Before → (did : List Step) (past : List Entry) (o : OuterState) (status : TransmitStatus) (parts : SendingParts)
      → o.chip.state.aborted ≡ 0 → o.chip.state.sending ≡ Some parts → (awaits ≡ true → (call_back o status).entries ≡ [])
      → ((count : ℕ) (course : Course) (all : List Entry) → awaits ≡ false → Before count course all → count < length (given devices course all))
      → ((count : ℕ) (course : Course) (all : List Entry) → Before count course all → After (count + 1) course all)
      → TallySo Before did past o.chip.state.port
      → TallySo After (did ++ steps_by (call_account o status)) (past ++ (call_back o status).entries) (call_back o status).outer.chip.state.port
  own_call_t awaits Before After stays did past o status parts none own unentered above step so = by (owes_call o.chip.state) owes unentered
    where
      owes : owes_call o.chip.state ≡ true
      owes = ap₂ (λ (n : ℕ) (x : Option SendingParts). owed_by n x) none own
        where
          owed_by : ℕ → Option SendingParts → Bool
          owed_by n x = owes_call (record o.chip.state { aborted = n; sending = x })

      by : (b : Bool) → b ≡ true → (awaits ≡ true → (if b then chip_does (without_call o) (Done status) else silent (without_call o)).entries ≡ []) → CallsTo After did past o status b
      by false is quiet = absurd (let no : false ≡ true = is in cc)
      by true is quiet =
          post_t awaits Before After stays did past (without_call o) (Done status) _ (unanswered (collides o.chip.state) (Done status) tt)
          (ap₂ (λ (n : ℕ) (x : Option SendingParts). if n == 0 then ended_posts x status else []) none own) quiet above step so
