-- The count of the frames that the chip has for the host goes on where what is due is given.
use Rattle.std.proofs.Common.{◌≡◌, ◌<◌, ℕ, zero, suc, ◌+◌, ◌-◌, ◌==◌, ◌&&◌, not, Bool, true, false, if◌then◌else◌, List, [], ◌∷◌, ◌++◌, length, drop, refl, sym, ap, ap₂, ◌∙◌, subst, arith}
use Rattle.std.specs.Prelude.{Option, Some, None}
use Rattle.std.specs.Option.{is_some}
use Rattle.serial_link.specs.Rules.{Step}
use Rattle.route_table.specs.declared.route.Route.{Route}
use Rattle.chip_functions.specs.declared.notice.TransmitStatus.{TransmitStatus}
use Rattle.chip_functions.specs.declared.notice.TransmitStatus.TheVariants.{NoRoute as no_route_status}
use Rattle.chip_sim.specs.Waiting.{PortState}
use Rattle.chip_sim.specs.State.{ChipState}
use Rattle.chip_sim.specs.Events.{ChipEvent, Done, Informed, after, collides, ended, ended_outs}
use Rattle.chip_sim.specs.declared.out.Sending.{Sending as SendingParts}
use Rattle.mesh_sim.specs.Air.{AirState}
use Rattle.zw_text.specs.declared.entry.Entry.{Entry}
use Rattle.law_transcript.specs.Lists.{last_or}
use Rattle.law_wire.specs.Asked.{Course, Sending, last_sending}
use Rattle.law_wire.specs.Given.{given}
use Rattle.outside_model.specs.declared.waits.Call.{Call}
use Rattle.outside_model.specs.declared.waits.Due.{Due}
use Rattle.outside_model.specs.declared.waits.Due.TheVariants.{Info, NoRoute as no_route_due}
use Rattle.outside_model.specs.Devices.{State}
use Rattle.outside_model.specs.State.{OuterState, Outcome, each, silent, with_chip}
use Rattle.outside_model.specs.Chip.{chip_does, put_out}
use Rattle.outside_model.specs.Results.{gives, no_route, owes_call, profile_for}
use Rattle.proof_line.proofs.ChipAccounts.{call_if, due_account, steps_by}
use Rattle.proof_line.specs.proof_traffic.Facts.{flying_in, one_if}
use Rattle.proof_line.specs.proof_traffic.OnAir.{on_air}
use Rattle.proof_line.specs.proof_traffic.OutsideTraffic.{flags, outward}
use Rattle.proof_air.proofs.Times.{does_chip, does_time}
use Rattle.proof_chip.specs.Tally.{AreNumbered, AreOwn, Counting, Lacks, Outlook, TallyBefore, TallySo, infos_in, numbers_from, outlook, owed}
use Rattle.proof_chip.proofs.Numbering.{numbers_home}
use Rattle.proof_chip.proofs.Owing.{last_flies, no_route_quiet, quiet_call, without_call, without_due, infos_without}
use Rattle.proof_chip.proofs.Quieting.{unanswered}
use Rattle.proof_chip.proofs.Resting.{AreLeaving, Rests, each_rests, queued_leaves}
use Rattle.proof_chip.proofs.Tallied.{before_stays, own_call_t, none_so, post_t, quiet_route_t}
use Rattle.proof_chip.proofs.Coming.{before_next, give_above}

-- ---- what an event of the chip leaves as it is

ended_leaves : (sending : Option SendingParts) (s : ChipState) (status : TransmitStatus) → AreLeaving (ended_outs sending s status)
ended_leaves None s status = tt
ended_leaves (Some parts) s status = queued_leaves s.port.side.turn s.port _

pub done_rests : (o : OuterState) (status : TransmitStatus) → Rests o (chip_does o (Done status)).outer
unfolding chip_does
done_rests o status = by (o.chip.state.aborted == 0)
  where
    by : (b : Bool) → Rests o (each put_out (with_chip o (if b then ended o.chip.state.sending o.chip.state status else record o.chip.state { aborted = o.chip.state.aborted - 1 }))
        (if b then ended_outs o.chip.state.sending o.chip.state status else [])).outer
    by true =
        let got = each_rests (ended_outs o.chip.state.sending o.chip.state status) (with_chip o (ended o.chip.state.sending o.chip.state status)) (ended_leaves o.chip.state.sending o.chip.state status) in
        record { calls = got.calls; due = got.due; air = got.air }
    by false = record { calls = refl; due = refl; air = refl }

pub informed_rests : (o : OuterState) (node : ℕ) (profile : _) → Rests o (chip_does o (Informed node profile)).outer
unfolding chip_does
informed_rests o node profile =
    let got = each_rests _ (with_chip o (after o.chip.state (Informed node profile))) (queued_leaves o.chip.state.port.side.turn o.chip.state.port _) in record { calls = got.calls; due = got.due; air = got.air }

-- ---- how it looks then

pub record Turns (v later : Outlook) : Type 0 where
  pub sending : later.sending ≡ v.sending
  pub by_frame : later.by_frame ≡ v.by_frame
  pub numbers : later.numbers ≡ v.numbers
  pub clock : later.clock ≡ v.clock

pub numbered_as : (v later : Outlook) → Turns v later → (sendings : List Sending) → AreNumbered v.sending v.by_frame v.numbers sendings → AreNumbered later.sending later.by_frame later.numbers sendings
numbered_as v later same sendings was =
    subst (λ (b : Bool). AreNumbered b later.by_frame later.numbers sendings) (sym same.sending)
    (subst (λ (b : Bool). AreNumbered v.sending b later.numbers sendings) (sym same.by_frame)
    (subst (λ (l : List ℕ). AreNumbered v.sending v.by_frame l sendings) (sym same.numbers) was))

own_as : (v later : Outlook) → Turns v later → (all : List Entry) → AreOwn all v.numbers → AreOwn all later.numbers
own_as v later same all was = subst (λ (l : List ℕ). AreOwn all l) (sym same.numbers) was

pub owed_as : (v later : Outlook) → Turns v later → (more : ℕ) → v.infos ≡ later.infos + more → owed v ≡ owed later + more
owed_as v later same more infos =
    let flag : one_if (later.sending && not later.by_frame) ≡ one_if (v.sending && not v.by_frame) = ap₂ (λ (a b : Bool). one_if (a && not b)) same.sending same.by_frame in
    omega (arith, infos, flag)

none_numbered : (numbers : List ℕ) → numbers ≡ [] → (by_frame : Bool) (sendings : List Sending) → AreNumbered false by_frame numbers sendings
none_numbered numbers none by_frame [] = tt
none_numbered numbers none by_frame (one ∷ sendings) = (subst (λ (l : List ℕ). Lacks l one.frame) (sym none) tt, none_numbered numbers none by_frame sendings)

-- no call of a frame is left
no_frame : (calls : List Call) → flying_in (flags calls) ≡ 0 → last_or false (flags calls) ≡ false
no_frame calls none = by (last_or false (flags calls)) refl
  where
    by : (b : Bool) → last_or false (flags calls) ≡ b → b ≡ false
    by true is = absurd (let some = last_flies calls is in omega (arith, none, some))
    by false is = refl

pub drop_flies : (calls : List Call) → flying_in (flags calls) ≡ 0 → flying_in (flags (drop 1 calls)) ≡ 0
drop_flies [] none = refl
drop_flies (call ∷ calls) none = omega (arith, none)

module _ (devices : List State) where
  pub map_t : (One Other : Counting) → ((count : ℕ) (course : Course) (past : List Entry) → One count course past → Other count course past) → (did : List Step) (past : List Entry) (port : PortState)
      → TallySo One did past port → TallySo Other did past port
  map_t One Other goes did past port (frames, serves, are) = (frames, serves, λ later goes_on. goes (length frames) later past (are later goes_on))

  abbrev Before : Outlook → Bool → Counting
  Before v awaits = TallyBefore devices v false 0 awaits 0

  -- of what is owed so much was given
  less : (v later : Outlook) (awaits : Bool) (more : ℕ) → later.clock ≡ v.clock → owed v ≡ owed later + more
      → ((sendings : List Sending) → AreNumbered v.sending v.by_frame v.numbers sendings → AreNumbered later.sending later.by_frame later.numbers sendings)
      → ((all : List Entry) → AreOwn all v.numbers → AreOwn all later.numbers) → (count : ℕ) (course : Course) (past : List Entry) → Before v awaits count course past → Before later awaits (count + more) course past
  less v later awaits more clock owes numbered own count course past was =
      before_next devices course past v later false false awaits 0 0 count 0 (count + more) clock (omega (arith, owes)) (λ all few. omega (arith, few, owes)) (numbered (last_sending course past) was.numbered) own was

  none_more : (v : Outlook) (awaits : Bool) (count : ℕ) (course : Course) (past : List Entry) → Before v awaits (count + 0) course past → Before v awaits count course past
  none_more v awaits count course past was = subst (λ (n : ℕ). Before v awaits n course past) (plus_none count) was
    where
      plus_none : (n : ℕ) → n + 0 ≡ n
      plus_none n = omega arith

  above : (v : Outlook) (more : ℕ) → owed v ≡ more + 1 → (awaits : Bool) (count : ℕ) (course : Course) (past : List Entry) → awaits ≡ false → Before v awaits count course past
      → count < length (given devices course past)
  above v more owes true count course past is was = absurd (let no : true ≡ false = is in cc)
  above v more owes false count course past is was = let many = give_above devices course past v false count was in omega (arith, many, owes)

  -- while no frame of the chip is on the air
  module _ (there : List State) (o : OuterState) (route : Option Route) (calm : flying_in (flags o.calls) ≡ 0) (each_call : length o.calls ≡ o.chip.state.aborted + one_if (is_some o.chip.state.sending))
      (clear : outward (on_air o.air.frames) ≡ 0) (awaits : Bool) (did : List Step) (past : List Entry) where
    abbrev v : Outlook
    v = outlook o

    pub info_t : (node : ℕ) (due : List Due) → o.due ≡ Info node ∷ due → (awaits ≡ true → (gives o there (Info node ∷ due) route).entries ≡ []) → TallySo (Before v awaits) did past o.chip.state.port
        → TallySo (Before (outlook (gives o there (Info node ∷ due) route).outer) awaits) (did ++ steps_by (due_account o there (Info node ∷ due) route))
        (past ++ (gives o there (Info node ∷ due) route).entries) (gives o there (Info node ∷ due) route).outer.chip.state.port
    info_t node due is unentered so =
        let p : OuterState = record o { due = due } in
        let event : ChipEvent = Informed node (profile_for o.air there node route) in
        let x : Outcome = chip_does p event in
        let rests = informed_rests p node (profile_for o.air there node route) in
        let later : Outlook = outlook x.outer in
        let same : Turns v later = record {
          sending = ap (λ (s : ChipState). is_some s.sending) (does_chip p event);
          by_frame = ap (λ (calls : List Call). last_or false (flags calls)) rests.calls;
          numbers = ap (λ (a : AirState). numbers_from (a.frames.landed + 1) (on_air a.frames)) rests.air;
          clock = ap (λ (t : Bool × Bool × ℕ). t.2) (does_time p event);
        } in
        let infos : v.infos ≡ later.infos + 1 = ap infos_in is ∙ ap (λ (l : List Due). infos_in l + 1) (sym rests.due) in
        let owes = owed_as v later same 1 infos in
        post_t devices awaits (Before v awaits) (Before later awaits) (before_stays devices v false 0 awaits 0) did past p event _ (unanswered (collides o.chip.state) event tt) refl unentered
        (λ count course all now was. above v (owed later) owes awaits count course all now was)
        (λ count course all was. less v later awaits 1 same.clock owes (numbered_as v later same) (own_as v later same) count course all was) so

    -- one without a route, for a SendData that was aborted
    aborted_t : (due : List Due) → o.due ≡ no_route_due ∷ due → 0 < o.chip.state.aborted → TallySo (Before v awaits) did past o.chip.state.port
        → TallySo (Before (outlook (no_route o).outer) awaits) (did ++ steps_by (due_account o there (no_route_due ∷ due) route)) (past ++ (no_route o).entries) (no_route o).outer.chip.state.port
    aborted_t due is some so =
        let later : Outlook = outlook (no_route o).outer in
        let q : OuterState = quiet_call (without_due o) in
        let at : (no_route o).outer ≡ q = ap (λ (x : Outcome). x.outer) (no_route_quiet o some) in
        let by : last_or false (flags (drop 1 o.calls)) ≡ last_or false (flags o.calls) = no_frame (drop 1 o.calls) (drop_flies o.calls calm) ∙ sym (no_frame o.calls calm) in
        let same : Turns v later = subst (λ (p : OuterState). Turns v (outlook p)) (sym at) (record { sending = refl; by_frame = by; numbers = refl; clock = refl }) in
        let infos : v.infos ≡ later.infos + 0 = sym (infos_without o.due) ∙ ap (λ (p : OuterState). infos_in p.due) (sym at) ∙ plus_none later.infos in
        map_t (Before v awaits) (Before later awaits)
        (λ count course all was. none_more later awaits count course all (less v later awaits 0 same.clock (owed_as v later same 0 infos) (numbered_as v later same) (own_as v later same) count course all was))
        (did ++ steps_by (due_account o there (no_route_due ∷ due) route)) (past ++ (no_route o).entries) (no_route o).outer.chip.state.port
        (quiet_route_t devices awaits (Before v awaits) (before_stays devices v false 0 awaits 0) did past o some so)
      where
        plus_none : (n : ℕ) → n ≡ n + 0
        plus_none n = omega arith

    -- where none is under way either
    idle_t : (due : List Due) → o.due ≡ no_route_due ∷ due → o.chip.state.aborted ≡ 0 → o.chip.state.sending ≡ None → TallySo (Before v awaits) did past o.chip.state.port
        → TallySo (Before (outlook (no_route o).outer) awaits) (did ++ steps_by (due_account o there (no_route_due ∷ due) route)) (past ++ (no_route o).entries) (no_route o).outer.chip.state.port
    idle_t due is none own so = by (owes_call o.chip.state) refl
      where
        plus_none : (n : ℕ) → n ≡ n + 0
        plus_none n = omega arith

        owes : owes_call o.chip.state ≡ false
        owes = ap₂ (λ (n : ℕ) (x : Option SendingParts). owes_call (record o.chip.state { aborted = n; sending = x })) none own

        same_by : last_or false (flags (drop 1 o.calls)) ≡ last_or false (flags o.calls)
        same_by = no_frame (drop 1 o.calls) (drop_flies o.calls calm) ∙ sym (no_frame o.calls calm)

        by : (b : Bool) → owes_call o.chip.state ≡ b
            → TallySo (Before (outlook (if b then chip_does (without_call (without_due o)) (Done no_route_status) else silent (without_call (without_due o))).outer) awaits) (did ++ steps_by (call_if b (without_due o) no_route_status))
            (past ++ (if b then chip_does (without_call (without_due o)) (Done no_route_status) else silent (without_call (without_due o))).entries)
            (if b then chip_does (without_call (without_due o)) (Done no_route_status) else silent (without_call (without_due o))).outer.chip.state.port
        by true at = absurd (let no : true ≡ false = sym at ∙ owes in cc)
        by false at =
            let later : Outlook = outlook (without_call (without_due o)) in
            let same : Turns v later = record { sending = refl; by_frame = same_by; numbers = refl; clock = refl } in
            let infos : v.infos ≡ later.infos + 0 = sym (infos_without o.due) ∙ plus_none later.infos in
            none_so devices (Before later awaits) did past o.chip.state.port
            (map_t (Before v awaits) (Before later awaits)
            (λ count course all was. none_more later awaits count course all (less v later awaits 0 refl (owed_as v later same 0 infos) (numbered_as v later same) (own_as v later same) count course all was)) did past o.chip.state.port so)

    -- that of the SendData under way
    own_t : (due : List Due) → o.due ≡ no_route_due ∷ due → o.chip.state.aborted ≡ 0 → (parts : SendingParts) → o.chip.state.sending ≡ Some parts → (awaits ≡ true → (no_route o).entries ≡ [])
        → TallySo (Before v awaits) did past o.chip.state.port
        → TallySo (Before (outlook (no_route o).outer) awaits) (did ++ steps_by (due_account o there (no_route_due ∷ due) route)) (past ++ (no_route o).entries) (no_route o).outer.chip.state.port
    own_t due is none parts own unentered so =
        let p : OuterState = without_call (without_due o) in
        let y : Outcome = chip_does p (Done no_route_status) in
        let at : (no_route o).outer ≡ y.outer = ap (λ (b : Bool). (if b then y else silent p).outer) owes in
        let rests = done_rests p no_route_status in
        let later : Outlook = outlook (no_route o).outer in
        let over : later.sending ≡ false =
        ap (λ (q : OuterState). is_some q.chip.state.sending) at
        ∙ (ap (λ (s : ChipState). is_some s.sending) (does_chip p (Done no_route_status))
        ∙ ap₂ (λ (n : ℕ) (x : Option SendingParts). is_some (if n == 0 then ended x o.chip.state no_route_status else record o.chip.state { aborted = o.chip.state.aborted - 1 }).sending) none own) in
        let clock : later.clock ≡ v.clock = ap (λ (q : OuterState). q.clock) at ∙ ap (λ (t : Bool × Bool × ℕ). t.2) (does_time p (Done no_route_status)) in
        let infos : later.infos ≡ v.infos = ap (λ (q : OuterState). infos_in q.due) at ∙ (ap infos_in rests.due ∙ infos_without o.due) in
        let numbers : later.numbers ≡ [] =
        ap (λ (q : OuterState). numbers_from (q.air.frames.landed + 1) (on_air q.air.frames)) at
        ∙ (ap (λ (a : AirState). numbers_from (a.frames.landed + 1) (on_air a.frames)) rests.air ∙ numbers_home (o.air.frames.landed + 1) (on_air o.air.frames) clear) in
        let flag : one_if (v.sending && not v.by_frame) ≡ 1 = ap₂ (λ (x : Option SendingParts) (b : Bool). one_if (is_some x && not b)) own (no_frame o.calls calm) in
        let none_left : one_if (later.sending && not later.by_frame) ≡ 0 = ap (λ (b : Bool). one_if (b && not later.by_frame)) over in
        let owes_one : owed v ≡ owed later + 1 = omega (arith, infos, flag, none_left) in
        let numbered : (sendings : List Sending) → AreNumbered v.sending v.by_frame v.numbers sendings → AreNumbered later.sending later.by_frame later.numbers sendings =
        λ sendings was. subst (λ (b : Bool). AreNumbered b later.by_frame later.numbers sendings) (sym over) (none_numbered later.numbers numbers later.by_frame sendings) in
        own_call_t devices awaits (Before v awaits) (Before later awaits) (before_stays devices v false 0 awaits 0) did past (without_due o) no_route_status parts none own unentered
        (λ count course all now was. above v (owed later) owes_one awaits count course all now was)
        (λ count course all was. less v later awaits 1 clock owes_one numbered (λ all was. subst (λ (l : List ℕ). AreOwn all l) (sym numbers) tt) count course all was) so
      where
        owes : owes_call o.chip.state ≡ true
        owes = ap₂ (λ (n : ℕ) (x : Option SendingParts). owes_call (record o.chip.state { aborted = n; sending = x })) none own

    pub gives_t : (due : List Due) → o.due ≡ due → (awaits ≡ true → (gives o there due route).entries ≡ []) → TallySo (Before v awaits) did past o.chip.state.port
        → TallySo (Before (outlook (gives o there due route).outer) awaits) (did ++ steps_by (due_account o there due route)) (past ++ (gives o there due route).entries)
        (gives o there due route).outer.chip.state.port
    gives_t [] is unentered so = none_so devices (Before v awaits) did past o.chip.state.port so
    gives_t (Info node ∷ due) is unentered so = info_t node due is unentered so
    gives_t (no_route_due ∷ due) is unentered so = by o.chip.state.aborted refl o.chip.state.sending refl
      where
        by : (n : ℕ) → o.chip.state.aborted ≡ n → (x : Option SendingParts) → o.chip.state.sending ≡ x
            → TallySo (Before (outlook (no_route o).outer) awaits) (did ++ steps_by (due_account o there (no_route_due ∷ due) route)) (past ++ (no_route o).entries) (no_route o).outer.chip.state.port
        by zero none None own = idle_t due is none own so
        by zero none (Some parts) own = own_t due is none parts own unentered so
        by (suc n) some x own = aborted_t due is (omega (arith, some)) so
