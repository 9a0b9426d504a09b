-- The count of the frames for the host goes on where a frame of the controller ends: the results that lead are of SendData that were aborted, and so is the next, or it is that of the
-- SendData under way.
use Rattle.std.proofs.Common.{◌≡◌, ◌≤◌, ◌<◌, ℕ, zero, suc, ◌+◌, ◌-◌, ◌==◌, ◌&&◌, not, Bool, true, false, if◌then◌else◌, inl, inr, List, [], ◌∷◌, ◌++◌, length, refl, sym, ap, ap₂, ◌∙◌, subst, arith}
use Rattle.std.specs.Prelude.{Option, Some, None, drop}
use Rattle.std.specs.Option.{is_some}
use Rattle.std.specs.List.{AllByRecursion}
use Rattle.serial_link.specs.Rules.{Step}
use Rattle.chip_functions.specs.declared.notice.TransmitStatus.{TransmitStatus}
use Rattle.chip_sim.specs.State.{ChipState}
use Rattle.chip_sim.specs.Events.{Done, ended}
use Rattle.chip_sim.specs.declared.out.Sending.{Sending as SendingParts}
use Rattle.mesh_sim.specs.Air.{AirState}
use Rattle.zw_text.specs.declared.entry.Entry.{Entry}
use Rattle.law_transcript.specs.Lists.{last_or}
use Rattle.law_wire.specs.Asked.{Course, Sending, last_sending}
use Rattle.outside_model.specs.declared.waits.Call.{Call}
use Rattle.outside_model.specs.Devices.{State}
use Rattle.outside_model.specs.State.{OuterState, Outcome, and_then, silent}
use Rattle.outside_model.specs.Chip.{chip_does}
use Rattle.outside_model.specs.Results.{call_back, leading, no_routes, owes_call}
use Rattle.proof_line.proofs.ChipAccounts.{call_account, calls_account, no_routes_account, steps_by}
use Rattle.proof_line.specs.proof_traffic.Facts.{flying_in, one_if}
use Rattle.proof_line.specs.proof_traffic.OnAir.{on_air}
use Rattle.proof_line.specs.proof_traffic.OutsideTraffic.{flags}
use Rattle.proof_air.proofs.Times.{does_chip, does_time}
use Rattle.proof_chip.specs.Tally.{AreNumbered, AreOwn, Outlook, TallyBefore, TallySo, infos_in, numbers_from, outlook, owed}
use Rattle.proof_chip.proofs.Giving.{done_rests, map_t}
use Rattle.proof_chip.proofs.Resting.{Rests}
use Rattle.proof_chip.proofs.Numbering.{Ends, arrived, over, with_number}
use Rattle.proof_chip.proofs.Owing.{Quieted, Splits, call_quiet, last_flies, no_routes_quiet, quiet_call, quieted, splits, without_call}
use Rattle.proof_chip.proofs.Tallied.{before_stays, both_so, own_call_t, quiet_call_t, quiet_routes_t}
use Rattle.proof_chip.proofs.Coming.{before_above, before_next}

pub one_drop : {A : Type 0} (count : ℕ) (xs : List A) → drop 1 (drop count xs) ≡ drop (suc count) xs
one_drop zero xs = refl
one_drop (suc count) [] = refl
one_drop (suc count) (x ∷ xs) = one_drop count xs

pub no_length : {A : Type 0} (xs : List A) → length xs ≡ 0 → xs ≡ []
no_length [] none = refl
no_length (x ∷ xs) none = absurd (omega (arith, none))

pub over_same : (before later : Bool) → later ≡ before → over before later ≡ 0
over_same true true same = refl
over_same true false same = absurd (let no : false ≡ true = same in cc)
over_same false true same = refl
over_same false false same = refl

same_flag : (before later by later_by : Bool) → later ≡ before → (before ≡ true → later_by ≡ by) → one_if (later && not later_by) ≡ one_if (before && not by)
same_flag true later by later_by same stays = ap₂ (λ (a b : Bool). one_if (a && not b)) same (stays refl)
same_flag false later by later_by same stays = ap (λ (b : Bool). one_if (b && not later_by)) same

-- of one call or more the last tells it, whatever stands before
pub last_same : (calls : List Call) → 0 < length calls → last_or true (flags calls) ≡ last_or false (flags calls)
last_same [] some = absurd (omega (arith, some))
last_same (call ∷ calls) some = refl

module _ (devices : List State) (v : Outlook) (left number : ℕ) (numbers : List ℕ) where
  abbrev Still : ℕ → ℕ → Course → List Entry → Type 0
  Still coming = TallyBefore devices v true left false coming

  -- so it looked before, and the first frame has landed, which is the controller's
  pub record Sees (o : OuterState) : Type 0 where
    pub sending : v.sending ≡ is_some o.chip.state.sending
    pub by_frame : v.by_frame ≡ last_or false (flags o.calls)
    pub infos : v.infos ≡ infos_in o.due
    pub clock : v.clock ≡ o.clock
    pub own : v.numbers ≡ number ∷ numbers
    pub rest : numbers ≡ numbers_from (o.air.frames.landed + 1) (on_air o.air.frames)
    pub each_call : length o.calls ≡ o.chip.state.aborted + one_if (is_some o.chip.state.sending)
    pub flies : flying_in (flags o.calls) ≡ suc (length numbers)

  -- so many results come of it by the transcript, and they come to the chip
  pub record Finishes (o : OuterState) (x : Outcome) (steps : List Step) : Type 0 where
    pub coming : ℕ
    pub many : (sendings : List Sending) → AreNumbered v.sending v.by_frame v.numbers sendings → length (with_number number sendings) ≡ coming
    pub goes : (did : List Step) (past : List Entry) → TallySo (Still coming) did past o.chip.state.port
        → TallySo (TallyBefore devices (outlook x.outer) true left false 0) (did ++ steps) (past ++ x.entries) x.outer.chip.state.port

  -- how it looks then
  record Looks (later : Outlook) : Type 0 where
    infos : later.infos ≡ v.infos
    clock : later.clock ≡ v.clock
    rest : later.numbers ≡ numbers

  numbered_then : (o : OuterState) → Sees o → (later : Outlook) → Looks later → AllByRecursion (λ (n : ℕ). number < n) numbers → Ends v.sending v.by_frame numbers later.sending later.by_frame
      → (sendings : List Sending) → AreNumbered v.sending v.by_frame v.numbers sendings
      → (length (with_number number sendings) ≡ over v.sending later.sending) × AreNumbered later.sending later.by_frame later.numbers sendings
  numbered_then o sees later looks above ends sendings was =
      let got = arrived v.sending v.by_frame later.sending later.by_frame number numbers sendings above ends
      (subst (λ (l : List ℕ). AreNumbered v.sending v.by_frame l sendings) sees.own was) in
      (got.many, subst (λ (l : List ℕ). AreNumbered later.sending later.by_frame l sendings) (sym looks.rest) got.numbered)

  own_then : (o : OuterState) → Sees o → (later : Outlook) → Looks later → (all : List Entry) → AreOwn all v.numbers → AreOwn all later.numbers
  own_then o sees later looks all was = subst (λ (l : List ℕ). AreOwn all l) (sym looks.rest) (subst (λ (l : List ℕ). AreOwn all l) sees.own was).1

  module _ (o : OuterState) (done : TransmitStatus) (sees : Sees o) (above : AllByRecursion (λ (n : ℕ). number < n) numbers) (behind : List Call) (split : Splits o.calls behind) where
    abbrev lead : ℕ
    lead = leading o.calls

    abbrev p : OuterState
    p = (no_routes lead o).outer

    abbrev x : Outcome
    x = and_then (no_routes lead o) (λ (later : OuterState). call_back later done)

    flag_few : (b : Bool) → one_if b ≤ 1
    flag_few true = omega arith
    flag_few false = omega arith

    few : lead ≤ o.chip.state.aborted
    few = let many = split.many in let each_call = sees.each_call in let flag = flag_few (is_some o.chip.state.sending) in omega (arith, many, each_call, flag)

    quiet : Quieted lead o p
    quiet = subst (λ (q : OuterState). Quieted lead o q) (sym (ap (λ (y : Outcome). y.outer) (no_routes_quiet lead o few))) (quieted lead o)

    behind_calls : drop 1 p.calls ≡ behind
    behind_calls = ap (λ (l : List Call). drop 1 l) quiet.calls ∙ (one_drop lead o.calls ∙ split.left)

    same_numbers : numbers_from (p.air.frames.landed + 1) (on_air p.air.frames) ≡ numbers
    same_numbers = ap (λ (a : AirState). numbers_from (a.frames.landed + 1) (on_air a.frames)) quiet.air ∙ sym sees.rest

    -- the last too is of one that was aborted
    quiet_t : 0 < p.chip.state.aborted → Finishes o x (steps_by (calls_account o done))
    quiet_t some = record {
      coming = 0;
      many = λ sendings was. (numbered_then o sees later looks above ends sendings was).0 ∙ over_same v.sending later.sending sending;
      goes = λ did past so.
          both_so devices (TallyBefore devices later true left false 0) did (steps_by (no_routes_account lead o)) (steps_by (call_account p done)) past (no_routes lead o).entries (call_back p done).entries
          (call_back p done).outer.chip.state.port
          (map_t devices (Still 0) (TallyBefore devices later true left false 0)
          (λ count course all was.
          before_next devices course all v later true true false left 0 count 0 count looks.clock (omega (arith, owes)) (λ many is. is ∙ sym owes)
          (numbered_then o sees later looks above ends (last_sending course all) was.numbered).1 (own_then o sees later looks) was)
          ((did ++ steps_by (no_routes_account lead o)) ++ steps_by (call_account p done)) ((past ++ (no_routes lead o).entries) ++ (call_back p done).entries) (call_back p done).outer.chip.state.port
          (quiet_call_t devices false (Still 0) (before_stays devices v true left false 0) (did ++ steps_by (no_routes_account lead o)) (past ++ (no_routes lead o).entries) p done some
          (quiet_routes_t devices false (Still 0) (before_stays devices v true left false 0) lead did past o few so)));
    }
      where
        later : Outlook
        later = outlook (call_back p done).outer

        at : (call_back p done).outer ≡ quiet_call p
        at = ap (λ (y : Outcome). y.outer) (call_quiet p done some)

        looks : Looks later
        looks = subst (λ (q : OuterState). Looks (outlook q)) (sym at) (record { infos = quiet.infos ∙ sym sees.infos; clock = quiet.clock ∙ sym sees.clock; rest = same_numbers })

        sending : later.sending ≡ v.sending
        sending = ap (λ (q : OuterState). is_some q.chip.state.sending) at ∙ (ap (λ (s : Option SendingParts). is_some s) quiet.sending ∙ sym sees.sending)

        by_behind : later.by_frame ≡ last_or false (flags behind)
        by_behind = ap (λ (q : OuterState). last_or false (flags q.calls)) at ∙ ap (λ (l : List Call). last_or false (flags l)) behind_calls

        behind_some : v.sending ≡ true → 0 < length behind
        behind_some is =
            let many = split.many in let each_call = sees.each_call in let flag : one_if (is_some o.chip.state.sending) ≡ 1 = ap (λ (b : Bool). one_if b) (sym sees.sending ∙ is) in let left = quiet.aborted in
            omega (arith, many, each_call, flag, left, some)

        stays : v.sending ≡ true → (later.by_frame ≡ v.by_frame) × (v.by_frame ≡ true → numbers ≡ [] → ⊥)
        stays is = (
          by_behind ∙ (sym (last_same behind (behind_some is)) ∙ (sym split.last ∙ sym sees.by_frame)),
          λ by none.
              let last : last_or false (flags behind) ≡ true = sym (last_same behind (behind_some is)) ∙ (sym split.last ∙ (sym sees.by_frame ∙ by)) in
              let some_fly = last_flies behind last in
              let flies = sees.flies in
              let flying = split.flying in
              let length_none = ap (λ (l : List ℕ). length l) none in
              omega (arith, some_fly, flies, flying, length_none),
        )

        ends : Ends v.sending v.by_frame numbers later.sending later.by_frame
        ends = inr (sending, stays)

        owes : owed later ≡ owed v
        owes = ap₂ (λ (m n : ℕ). m + n) looks.infos (same_flag v.sending later.sending v.by_frame later.by_frame sending (λ is. (stays is).0))

    -- the last is that of the SendData under way
    own_t : p.chip.state.aborted ≡ 0 → (parts : SendingParts) → p.chip.state.sending ≡ Some parts → Finishes o x (steps_by (calls_account o done))
    own_t none parts own = record {
      coming = 1;
      many = λ sendings was. (numbered_then o sees later looks above ends sendings was).0 ∙ ap₂ (λ (a b : Bool). over a b) is_sending is_over;
      goes = λ did past so.
          both_so devices (TallyBefore devices later true left false 0) did (steps_by (no_routes_account lead o)) (steps_by (call_account p done)) past (no_routes lead o).entries (call_back p done).entries
          (call_back p done).outer.chip.state.port
          (own_call_t devices false (Still 1) (TallyBefore devices later true left false 0) (before_stays devices v true left false 1) (did ++ steps_by (no_routes_account lead o)) (past ++ (no_routes lead o).entries)
          p done parts none own (λ is. absurd (let no : false ≡ true = is in cc))
          (λ count course all now was. let more = before_above devices course all v left 1 count was in omega (arith, more))
          (λ count course all was.
          before_next devices course all v later true true false left 1 count 0 (count + 1) looks.clock (omega (arith, owes)) (λ many is. is ∙ sym owes)
          (numbered_then o sees later looks above ends (last_sending course all) was.numbered).1 (own_then o sees later looks) was)
          (quiet_routes_t devices false (Still 1) (before_stays devices v true left false 1) lead did past o few so));
    }
      where
        y : Outcome
        y = chip_does (without_call p) (Done done)

        later : Outlook
        later = outlook (call_back p done).outer

        owes_one : owes_call p.chip.state ≡ true
        owes_one = ap₂ (λ (n : ℕ) (s : Option SendingParts). owes_call (record p.chip.state { aborted = n; sending = s })) none own

        at : (call_back p done).outer ≡ y.outer
        at = ap (λ (b : Bool). (if b then y else silent (without_call p)).outer) owes_one

        rests : Rests (without_call p) y.outer
        rests = done_rests (without_call p) done

        looks : Looks later
        looks = subst (λ (q : OuterState). Looks (outlook q)) (sym at) (record {
          infos = ap infos_in rests.due ∙ (quiet.infos ∙ sym sees.infos);
          clock = ap (λ (t : Bool × Bool × ℕ). t.2) (does_time (without_call p) (Done done)) ∙ (quiet.clock ∙ sym sees.clock);
          rest = ap (λ (a : AirState). numbers_from (a.frames.landed + 1) (on_air a.frames)) rests.air ∙ same_numbers;
        })

        is_sending : v.sending ≡ true
        is_sending = sees.sending ∙ (ap (λ (s : Option SendingParts). is_some s) (sym quiet.sending) ∙ ap (λ (s : Option SendingParts). is_some s) own)

        is_over : later.sending ≡ false
        is_over =
            ap (λ (q : OuterState). is_some q.chip.state.sending) at
            ∙ (ap (λ (s : ChipState). is_some s.sending) (does_chip (without_call p) (Done done))
            ∙ ap₂ (λ (n : ℕ) (s : Option SendingParts). is_some (if n == 0 then ended s p.chip.state done else record p.chip.state { aborted = p.chip.state.aborted - 1 }).sending) none own)

        none_behind : behind ≡ []
        none_behind =
            let many = split.many in let each_call = sees.each_call in let flag : one_if (is_some o.chip.state.sending) ≡ 1 = ap (λ (b : Bool). one_if b) (sym sees.sending ∙ is_sending) in let left = quiet.aborted in
            no_length behind (omega (arith, many, each_call, flag, left, none, few))

        none_rest : numbers ≡ []
        none_rest =
            let flies = sees.flies in let flying = split.flying in let no_more = ap (λ (l : List Call). flying_in (flags l)) none_behind in no_length numbers (omega (arith, flies, flying, no_more))

        is_by_frame : v.by_frame ≡ true
        is_by_frame = sees.by_frame ∙ (split.last ∙ ap (λ (l : List Call). last_or true (flags l)) none_behind)

        ends : Ends v.sending v.by_frame numbers later.sending later.by_frame
        ends = inl (is_sending, is_over, is_by_frame, none_rest)

        owes : owed later ≡ owed v
        owes =
            ap₂ (λ (m n : ℕ). m + n) looks.infos
            (ap (λ (b : Bool). one_if (b && not later.by_frame)) is_over ∙ sym (ap₂ (λ (a b : Bool). one_if (a && not b)) is_sending is_by_frame))

    pub split_t : Finishes o x (steps_by (calls_account o done))
    split_t = by p.chip.state.aborted refl p.chip.state.sending refl
      where
        by : (n : ℕ) → p.chip.state.aborted ≡ n → (s : Option SendingParts) → p.chip.state.sending ≡ s → Finishes o x (steps_by (calls_account o done))
        by (suc n) some s own = quiet_t (omega (arith, some))
        by zero none (Some parts) own = own_t none parts own
        by zero none None own =
            absurd (let many = split.many in let each_call = sees.each_call in let left = quiet.aborted in
            let flag : one_if (is_some o.chip.state.sending) ≡ 0 = ap (λ (s : Option SendingParts). one_if (is_some s)) (sym quiet.sending ∙ own) in
            omega (arith, many, each_call, left, none, few, flag))

  pub calls_t : (o : OuterState) (done : TransmitStatus) → Sees o → AllByRecursion (λ (n : ℕ). number < n) numbers
      → Finishes o (and_then (no_routes (leading o.calls) o) (λ (later : OuterState). call_back later done)) (steps_by (calls_account o done))
  calls_t o done sees above = let (behind, split) = splits o.calls (let flies = sees.flies in omega (arith, flies)) in split_t o done sees above behind split
