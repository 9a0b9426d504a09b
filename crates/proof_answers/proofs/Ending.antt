-- Where a frame of the controller ends, the chip is given the callback of the SendData under way, if the call is its own, and nothing else; and what it is owed besides stays.
use Rattle.std.proofs.Common.{◌≡◌, ◌≤◌, ◌<◌, ◌⊎◌, ℕ, zero, suc, ◌+◌, ◌-◌, ◌==◌, ◌&&◌, not, Bool, true, false, if◌then◌else◌, inl, inr, List, [], ◌∷◌, ◌++◌, length, map, refl, sym, ap, ap₂, ◌∙◌, subst, arith}
use Rattle.std.specs.Prelude.{Option, Some, None, drop, slice_set}
use Rattle.std.specs.Option.{is_some, unwrap_or}
use Rattle.std.specs.List.{AllByRecursion}
use Rattle.zw_base.proofs.Each.{all-append, all-weaker}
use Rattle.serial_frame.specs.Frame.{FrameParts}
use Rattle.route_table.specs.Network.{linked}
use Rattle.chip_functions.specs.Notice.{status_of}
use Rattle.chip_functions.specs.declared.notice.TransmitStatus.{TransmitStatus}
use Rattle.chip_functions.specs.declared.notice.TransmitStatus.TheVariants.{Fail, NoRoute, NoRoute as no_route_status}
use Rattle.chip_sim.specs.State.{ChipState}
use Rattle.chip_sim.specs.Requests.{callback_frame, closed, given as chip_given, has_failed}
use Rattle.chip_sim.specs.Events.{ChipEvent, Done, Forgets, after, collides, ended, outs}
use Rattle.chip_sim.specs.Rules.{ended_posts, posts}
use Rattle.chip_sim.specs.declared.out.Sending.{Sending as SendingParts}
use Rattle.zw_words.specs.declared.side.Side.TheVariants.{Host as by_host, Chip as by_chip}
use Rattle.zw_text.specs.declared.entry.Entry.{Entry}
use Rattle.zw_text.specs.declared.entry.Entry.TheVariants as entry
use Rattle.law_transcript.specs.Lists.{last_or}
use Rattle.law_wire.specs.Asked.{Sending}
use Rattle.law_wire.specs.Results.{Called, ended_by}
use Rattle.outside_model.specs.declared.waits.Call.{Call}
use Rattle.outside_model.specs.declared.waits.Call.TheVariants.{OfFrame, NoRoute as no_route_call}
use Rattle.outside_model.specs.declared.waits.Due.{Due}
use Rattle.outside_model.specs.declared.waits.Due.TheVariants.{Info, NoRoute as no_route_due}
use Rattle.outside_model.specs.Devices.{State}
use Rattle.outside_model.specs.State.{OuterState, Outcome, and_then, silent, tells, with_chip}
use Rattle.outside_model.specs.Chip.{chip_does}
use Rattle.outside_model.specs.Results.{call_back, forgets, frame_ends, leading, no_route, no_routes, owes_call, without_no_route}
use Rattle.proof_devices.proofs.Results.{Gives, IsGiven, ends_go}
use Rattle.proof_chip.proofs.ChipAccounts.{call_account, call_if, calls_account, ends_account, forget_if, forgets_account, no_route_account, no_routes_account}
use Rattle.proof_chip.specs.proof_line.proof_traffic.Facts.{flying_in, one_if}
use Rattle.proof_chip.specs.proof_line.proof_traffic.OutsideTraffic.{flags, no_routes_due, of_frame, without_frame}
use Rattle.proof_devices.proofs.Times.{does_chip, does_time}
use Rattle.proof_chip.specs.Tally.{AreNumbered, Outlook}
use Rattle.proof_chip.proofs.Arriving.{forgot}
use Rattle.proof_chip.proofs.Finishing.{Sees, last_same, no_length, one_drop, over_same}
use Rattle.proof_chip.proofs.Giving.{done_rests}
use Rattle.proof_chip.proofs.Going.{given_answers}
use Rattle.proof_chip.proofs.Numbering.{arrived, over, with_number}
use Rattle.proof_chip.proofs.Owing.{Quieted, Splits, call_quiet, last_flies, no_route_quiet, no_routes_quiet, not_none, quiet_call, quiet_calls, quieted, splits, without_call, without_due}
use Rattle.proof_chip.proofs.Settling.{AreIdle, IsIdle}
use Rattle.proof_chip.proofs.Tallied.{chip_idle}
use Rattle.proof_chip.proofs.Telling.{IsPut, puts_put}
use Rattle.proof_answers.specs.Owing.{Ends, Informs, Owed, dues, has_no_route, owed_by}
use Rattle.proof_answers.proofs.Accounts.{posts_by}
use Rattle.proof_answers.proofs.Informing.{IsCalm}

-- ---- entries of what the chip is given

put_calm : (e : Entry) → IsPut e → IsCalm e
put_calm (entry.Written by_chip unit) put = tt
put_calm (entry.Written by_host unit) put = absurd put
put_calm (entry.Dropped side) put = tt
put_calm (entry.Garbled side unit) put = tt
put_calm (entry.Overrun side) put = tt
put_calm (entry.Air frame sender receiver repeaters payload) put = tt
put_calm entry.ChipFull put = tt
put_calm e put = absurd put

abbrev pub Calmly : OuterState → Outcome → Type 0
Calmly o x = AreIdle x.entries × AllByRecursion IsCalm x.entries

does_calmly : (o : OuterState) (event : ChipEvent) → IsGiven event → Calmly o (chip_does o event)
unfolding chip_does
does_calmly o event given = (
  chip_idle o event (given_answers (collides o.chip.state) event given),
  all-weaker IsPut IsCalm put_calm _ (puts_put (outs o.chip.state event) (with_chip o (after o.chip.state event))),
)

-- what the chip is given tells nothing, and nothing that information depends on
pub calmly : Gives Calmly
calmly = record {
  still = λ o p is. (tt, tt);
  both = λ o first next one later. (
    all-append IsIdle first.entries (next first.outer).entries one.0 (later first.outer).0,
    all-append IsCalm first.entries (next first.outer).entries one.1 (later first.outer).1,
  );
  later = λ o p x is goes. goes;
  does = does_calmly;
  forgotten = λ o a b. (((tt, tt), tt), (tt, tt));
}

pub ends_calmly : (o : OuterState) (status : ℕ) (dead : Option (ℕ × ℕ)) → Calmly o (frame_ends o status dead)
ends_calmly o status dead = ends_go Calmly calmly o status dead

-- the clock stays
abbrev Clocks : OuterState → Outcome → Type 0
Clocks o x = x.outer.clock ≡ o.clock

clocks : Gives Clocks
clocks = record {
  still = λ o p is. is.clock;
  both = λ o first next one later. later first.outer ∙ one;
  later = λ o p x is goes. goes ∙ is.clock;
  does = λ o event given. ap (λ (t : Bool × Bool × ℕ). t.2) (does_time o event);
  forgotten = λ o a b. refl;
}

pub ends_clock : (o : OuterState) (status : ℕ) (dead : Option (ℕ × ℕ)) → (frame_ends o status dead).outer.clock ≡ o.clock
ends_clock o status dead = ends_go Clocks clocks o status dead

-- ---- what is due

dues_none : (ticks : ℕ) (due : List Due) → dues [] ticks (without_no_route due) ≡ dues [] ticks due
dues_none ticks [] = refl
dues_none ticks (no_route_due ∷ due) = none_first (has_no_route due)
  where
    none_first : (b : Bool) → dues [] ticks due ≡ (if b then [] else []) ++ dues [] ticks due
    none_first true = refl
    none_first false = refl
dues_none ticks (Info node ∷ due) = ap (λ (l : List Owed). Informs node ticks ∷ l) (dues_none ticks due)

pub has_some : (due : List Due) → 0 < no_routes_due due → has_no_route due ≡ true
has_some [] some = absurd (omega (arith, some))
has_some (no_route_due ∷ due) some = refl
has_some (Info node ∷ due) some = has_some due (omega (arith, some))

-- one that is not the last goes
dues_less : (own : List Owed) (ticks : ℕ) (due : List Due) → 2 ≤ no_routes_due due → dues own ticks (without_no_route due) ≡ dues own ticks due
dues_less own ticks [] some = absurd (omega (arith, some))
dues_less own ticks (no_route_due ∷ due) some = ap (λ (b : Bool). (if b then [] else own) ++ dues own ticks due) (sym (has_some due (omega (arith, some))))
dues_less own ticks (Info node ∷ due) some = ap (λ (l : List Owed). Informs node ticks ∷ l) (dues_less own ticks due (omega (arith, some)))

fewer : (due : List Due) → no_routes_due due ≤ no_routes_due (without_no_route due) + 1
fewer [] = omega arith
fewer (no_route_due ∷ due) = omega arith
fewer (Info node ∷ due) = let rest = fewer due in omega (arith, rest)

-- several go, none of which is the last, or nothing is owed with that
quiet_dues : (count : ℕ) (o : OuterState) (own : List Owed) (ticks : ℕ) → (own ≡ []) ⊎ (count < no_routes_due o.due) → dues own ticks (quiet_calls count o).due ≡ dues own ticks o.due
quiet_dues zero o own ticks keeps = refl
quiet_dues (suc count) o own ticks (inl none) =
    quiet_dues count (quiet_call (without_due o)) own ticks (inl none) ∙ subst (λ (l : List Owed). dues l ticks (without_no_route o.due) ≡ dues l ticks o.due) (sym none) (dues_none ticks o.due)
quiet_dues (suc count) o own ticks (inr some) =
    let fewer_here = fewer o.due in
    quiet_dues count (quiet_call (without_due o)) own ticks (inr (omega (arith, fewer_here, some))) ∙ dues_less own ticks o.due (omega (arith, some))

quiet_failing : (count : ℕ) (o : OuterState) → (quiet_calls count o).chip.state.failing ≡ o.chip.state.failing
quiet_failing zero o = refl
quiet_failing (suc count) o = quiet_failing count (quiet_call (without_due o))

-- ---- what the chip is given

-- a result of one that was aborted gives nothing
quiet_posts : (o : OuterState) (status : TransmitStatus) → 0 < o.chip.state.aborted → posts_by (call_account o status) ≡ []
quiet_posts o status some = by (owes_call o.chip.state)
  where
    by : (b : Bool) → posts_by (call_if b o status) ≡ []
    by true = ap (λ (b : Bool). if b then ended_posts o.chip.state.sending status else []) (not_none o.chip.state some)
    by false = refl

pub route_posts : (o : OuterState) → 0 < o.chip.state.aborted → posts_by (no_route_account o) ≡ []
route_posts o some = quiet_posts (without_due o) no_route_status some

routes_posts : (count : ℕ) (o : OuterState) → count ≤ o.chip.state.aborted → posts_by (no_routes_account count o) ≡ []
routes_posts zero o few = refl
routes_posts (suc count) o few =
    let left : count ≤ (no_route o).outer.chip.state.aborted =
    subst (λ (x : Outcome). count ≤ x.outer.chip.state.aborted) (sym (no_route_quiet o (omega (arith, few)))) (omega (arith, few)) in
    ap₂ (λ (a b : List FrameParts). a ++ b) (route_posts o (omega (arith, few))) (routes_posts count (no_route o).outer left)

forget_posts : (b : Bool) (o : OuterState) (hop : ℕ × ℕ) → posts_by (forget_if b o hop) ≡ []
forget_posts true o hop = refl
forget_posts false o hop = refl

forgets_posts : (o : OuterState) (dead : Option (ℕ × ℕ)) → posts_by (forgets_account o dead) ≡ []
forgets_posts o None = refl
forgets_posts o (Some hop) = forget_posts (linked o.chip.state.table hop.0 hop.1) o hop

-- the result of the one under way gives its callback
pub own_posts : (o : OuterState) (status : TransmitStatus) (parts : SendingParts) → o.chip.state.aborted ≡ 0 → o.chip.state.sending ≡ Some parts → posts_by (call_account o status) ≡ callback_frame parts status ∷ []
own_posts o status parts none own = by (owes_call o.chip.state) owes
  where
    owes : owes_call o.chip.state ≡ true
    owes = ap₂ (λ (n : ℕ) (x : Option SendingParts). owes_call (record o.chip.state { aborted = n; sending = x })) none own

    by : (b : Bool) → b ≡ true → posts_by (call_if b o status) ≡ callback_frame parts status ∷ []
    by true is = ap₂ (λ (n : ℕ) (x : Option SendingParts). if n == 0 then ended_posts x status else []) none own
    by false is = absurd (let no : false ≡ true = is in cc)

-- ---- the calls after that of a frame

lead_without : (calls : List Call) → 0 < flying_in (flags calls) → without_frame (flags calls) ≡ leading calls + without_frame (flags (drop (suc (leading calls)) calls))
lead_without [] some = absurd (omega (arith, some))
lead_without (OfFrame ∷ calls) some = refl
lead_without (no_route_call ∷ calls) some =
    let rest = lead_without calls (omega (arith, some)) in one_more (leading calls) calls rest
  where
    one_more : (n : ℕ) (following : List Call) → without_frame (flags following) ≡ n + without_frame (flags (drop (suc n) following)) → 1 + without_frame (flags following) ≡ n + 1 + without_frame (flags (drop (suc (n + 1)) (no_route_call ∷ following)))
    one_more n following rest =
        let same : drop (suc (n + 1)) (no_route_call ∷ following) ≡ drop (suc n) following = ap (λ (m : ℕ). drop m following) (plus n) in
        let counts = ap (λ (l : List Call). without_frame (flags l)) same in
        omega (arith, rest, counts)
      where
        plus : (m : ℕ) → m + 1 ≡ suc m
        plus m = omega arith

-- the last of them is of no frame
last_without : (b : Bool) (calls : List Call) → 0 < length calls → last_or b (flags calls) ≡ false → 0 < without_frame (flags calls)
last_without b [] some last = absurd (omega (arith, some))
last_without b (OfFrame ∷ []) some last = absurd (let no : true ≡ false = last in cc)
last_without b (no_route_call ∷ []) some last = omega arith
last_without b (call ∷ next ∷ calls) some last = let rest = last_without (of_frame call) (next ∷ calls) (omega arith) last in omega (arith, rest)

-- ---- a frame of the controller ends

-- what is owed by the SendData that are not over
abbrev OwesSame : OuterState → OuterState → Type 0
OwesSame o p = (sendings : List Sending) (ticks : ℕ) → owed_by sendings p.chip.state.sending p.calls ticks p.due ≡ owed_by sendings o.chip.state.sending o.calls ticks o.due

-- nothing of the one under way; or it is over
pub data Finish (v : Outlook) (number : ℕ) (o p : OuterState) (frames : List FrameParts) (done : TransmitStatus) : Type 0 where
  Silent : frames ≡ [] → p.chip.state.sending ≡ o.chip.state.sending → p.chip.state.failing ≡ o.chip.state.failing → OwesSame o p
      → ((sendings : List Sending) → AreNumbered v.sending v.by_frame v.numbers sendings → with_number number sendings ≡ []) → Finish v number o p frames done
  Own : (parts : SendingParts) → o.chip.state.sending ≡ Some parts → frames ≡ callback_frame parts done ∷ [] → p.chip.state.sending ≡ None
      → p.chip.state.failing ≡ slice_set o.chip.state.failing parts.node (has_failed done) → OwesSame o p
      → ((sendings : List Sending) (one : Sending) → sendings ≡ one ∷ [] → AreNumbered v.sending v.by_frame v.numbers sendings → with_number number sendings ≡ one ∷ []) → Finish v number o p frames done

-- what the chip waits for, and the nodes that failed, are as they were
record SameWaits (o p : OuterState) : Type 0 where
  sending : p.chip.state.sending ≡ o.chip.state.sending
  failing : p.chip.state.failing ≡ o.chip.state.failing
  calls : p.calls ≡ o.calls
  due : p.due ≡ o.due

module _ (devices : List State) (v : Outlook) (left number : ℕ) (numbers : List ℕ) (above : AllByRecursion (λ (n : ℕ). number < n) numbers) where
  module _ (o : OuterState) (done : TransmitStatus) (sees : Sees devices v left number numbers o) (await : no_routes_due o.due ≡ without_frame (flags o.calls)) (following : List Call) (split : Splits o.calls following) where
    abbrev lead : ℕ
    lead = leading o.calls

    abbrev p : OuterState
    p = (no_routes lead o).outer

    abbrev x : Outcome
    x = and_then (no_routes lead o) (λ (later : OuterState). call_back later done)

    flag_few : (b : Bool) → one_if b ≤ 1
    flag_few true = omega arith
    flag_few false = omega arith

    few : lead ≤ o.chip.state.aborted
    few = let many = split.many in let each_call = sees.each_call in let flag = flag_few (is_some o.chip.state.sending) in omega (arith, many, each_call, flag)

    p_is : p ≡ quiet_calls lead o
    p_is = ap (λ (y : Outcome). y.outer) (no_routes_quiet lead o few)

    quiet : Quieted lead o p
    quiet = subst (λ (q : OuterState). Quieted lead o q) (sym p_is) (quieted lead o)

    p_failing : p.chip.state.failing ≡ o.chip.state.failing
    p_failing = ap (λ (q : OuterState). q.chip.state.failing) p_is ∙ quiet_failing lead o

    p_dues : (own : List Owed) (ticks : ℕ) → (own ≡ []) ⊎ (lead < no_routes_due o.due) → dues own ticks p.due ≡ dues own ticks o.due
    p_dues own ticks keeps = ap (λ (q : OuterState). dues own ticks q.due) p_is ∙ quiet_dues lead o own ticks keeps

    behind_calls : drop 1 p.calls ≡ following
    behind_calls = ap (λ (l : List Call). drop 1 l) quiet.calls ∙ (one_drop lead o.calls ∙ split.left)

    posts_are : posts_by (calls_account o done) ≡ posts_by (call_account p done)
    posts_are = ap (λ (l : List FrameParts). l ++ posts_by (call_account p done)) (routes_posts lead o few)

    -- the last too is of one that was aborted
    module _ (some : 0 < p.chip.state.aborted) where
      at : (call_back p done).outer ≡ quiet_call p
      at = ap (λ (y : Outcome). y.outer) (call_quiet p done some)

      behind_some : is_some o.chip.state.sending ≡ true → 0 < length following
      behind_some is =
          let many = split.many in let each_call = sees.each_call in let flag : one_if (is_some o.chip.state.sending) ≡ 1 = ap (λ (b : Bool). one_if b) is in let left_calls = quiet.aborted in
          omega (arith, many, each_call, flag, left_calls, some)

      same_last : is_some o.chip.state.sending ≡ true → last_or false (flags following) ≡ last_or false (flags o.calls)
      same_last is = sym (last_same following (behind_some is)) ∙ sym split.last

      own_stays : v.sending ≡ true → (last_or false (flags following) ≡ v.by_frame) × (v.by_frame ≡ true → numbers ≡ [] → ⊥)
      own_stays is = (
        same_last (sym sees.sending ∙ is) ∙ sym sees.by_frame,
        λ by none.
            let last : last_or false (flags following) ≡ true = same_last (sym sees.sending ∙ is) ∙ (sym sees.by_frame ∙ by) in
            let some_fly = last_flies following last in
            let flies = sees.flies in
            let flying = split.flying in
            let length_none = ap (λ (l : List ℕ). length l) none in
            omega (arith, some_fly, flies, flying, length_none),
      )

      -- the SendData under way, if its call is of no frame, still waits for what is due
      owes_by : (sending : Bool) (flag : Bool) → is_some o.chip.state.sending ≡ sending → last_or false (flags o.calls) ≡ flag → (sendings : List Sending) (ticks : ℕ)
          → owed_by sendings o.chip.state.sending following ticks p.due ≡ owed_by sendings o.chip.state.sending o.calls ticks o.due
      owes_by false flag is last sendings ticks =
          ap (λ (b : Bool). dues (map (λ (one : Called). Ends one) (if b && not (last_or false (flags following)) then ended_by NoRoute sendings else [])) ticks p.due) is
          ∙ (p_dues [] ticks (inl refl)
          ∙ sym (ap (λ (b : Bool). dues (map (λ (one : Called). Ends one) (if b && not (last_or false (flags o.calls)) then ended_by NoRoute sendings else [])) ticks o.due) is))
      owes_by true true is last sendings ticks =
          ap₂ (λ (a b : Bool). dues (map (λ (one : Called). Ends one) (if a && not b then ended_by NoRoute sendings else [])) ticks p.due) is (same_last is ∙ last)
          ∙ (p_dues [] ticks (inl refl)
          ∙ sym (ap₂ (λ (a b : Bool). dues (map (λ (one : Called). Ends one) (if a && not b then ended_by NoRoute sendings else [])) ticks o.due) is last))
      owes_by true false is last sendings ticks =
          ap₂ (λ (a b : Bool). dues (map (λ (one : Called). Ends one) (if a && not b then ended_by NoRoute sendings else [])) ticks p.due) is (same_last is ∙ last)
          ∙ (p_dues (map (λ (one : Called). Ends one) (ended_by NoRoute sendings)) ticks (inr more)
          ∙ sym (ap₂ (λ (a b : Bool). dues (map (λ (one : Called). Ends one) (if a && not b then ended_by NoRoute sendings else [])) ticks o.due) is last))
        where
          more : leading o.calls < no_routes_due o.due
          more =
              let flying = split.flying in
              let parts = lead_without o.calls (omega (arith, flying)) in
              let rest = ap (λ (l : List Call). without_frame (flags l)) split.left in
              let last_one = last_without false following (behind_some is) (same_last is ∙ last) in
              omega (arith, await, parts, rest, last_one)

      quiet_finish : Finish v number o x.outer (posts_by (calls_account o done)) done
      quiet_finish =
          Silent (posts_are ∙ quiet_posts p done some) (ap (λ (q : OuterState). q.chip.state.sending) at ∙ quiet.sending) (ap (λ (q : OuterState). q.chip.state.failing) at ∙ p_failing)
          (λ sendings ticks.
          ap (λ (q : OuterState). owed_by sendings q.chip.state.sending q.calls ticks q.due) at
          ∙ (ap₂ (λ (under : Option SendingParts) (calls : List Call). owed_by sendings under calls ticks p.due) quiet.sending behind_calls
          ∙ owes_by (is_some o.chip.state.sending) (last_or false (flags o.calls)) refl refl sendings ticks))
          (λ sendings was.
          no_length (with_number number sendings)
          ((arrived v.sending v.by_frame v.sending (last_or false (flags following)) number numbers sendings above (inr (refl, own_stays)) (subst (λ (l : List ℕ). AreNumbered v.sending v.by_frame l sendings) sees.own was)).many ∙ over_same v.sending v.sending refl))

    -- the last is that of the SendData under way
    module _ (none : p.chip.state.aborted ≡ 0) (parts : SendingParts) (own : p.chip.state.sending ≡ Some parts) where
      y : Outcome
      y = chip_does (without_call p) (Done done)

      owes_one : owes_call p.chip.state ≡ true
      owes_one = ap₂ (λ (n : ℕ) (s : Option SendingParts). owes_call (record p.chip.state { aborted = n; sending = s })) none own

      own_at : (call_back p done).outer ≡ (chip_does (without_call p) (Done done)).outer
      own_at = ap (λ (b : Bool). (if b then chip_does (without_call p) (Done done) else silent (without_call p)).outer) owes_one

      own_here : o.chip.state.sending ≡ Some parts
      own_here = sym quiet.sending ∙ own

      state_is : (call_back p done).outer.chip.state ≡ closed (chip_given p.chip.state (callback_frame parts done)) parts done
      state_is =
          ap (λ (q : OuterState). q.chip.state) own_at
          ∙ (does_chip (without_call p) (Done done)
          ∙ ap₂ (λ (n : ℕ) (s : Option SendingParts). if n == 0 then ended s p.chip.state done else record p.chip.state { aborted = p.chip.state.aborted - 1 }) none own)

      is_sending : v.sending ≡ true
      is_sending = sees.sending ∙ ap (λ (s : Option SendingParts). is_some s) own_here

      none_behind : following ≡ []
      none_behind =
          let many = split.many in let each_call = sees.each_call in let flag : one_if (is_some o.chip.state.sending) ≡ 1 = ap (λ (b : Bool). one_if b) (sym sees.sending ∙ is_sending) in let left_calls = quiet.aborted in
          let enough = few in
          no_length following (omega (arith, many, each_call, flag, left_calls, none, enough))

      none_rest : numbers ≡ []
      none_rest =
          let flies = sees.flies in let flying = split.flying in let no_more = ap (λ (l : List Call). flying_in (flags l)) none_behind in no_length numbers (omega (arith, flies, flying, no_more))

      is_by_frame : last_or false (flags o.calls) ≡ true
      is_by_frame = split.last ∙ ap (λ (l : List Call). last_or true (flags l)) none_behind

      one_left : (sendings : List Sending) (one : Sending) → sendings ≡ one ∷ [] → length (with_number number sendings) ≡ 1 → with_number number sendings ≡ one ∷ []
      one_left sendings one alone many = ap (λ (l : List Sending). with_number number l) alone ∙ by (one.frame == number) (sym (ap (λ (l : List Sending). length (with_number number l)) alone) ∙ many)
        where
          by : (b : Bool) → length (if b then one ∷ [] else []) ≡ 1 → (if b then one ∷ [] else []) ≡ one ∷ []
          by true is = refl
          by false is = absurd (omega (arith, is))

      own_finish : Finish v number o x.outer (posts_by (calls_account o done)) done
      own_finish =
          let rests = done_rests (without_call p) done in
          Own parts own_here (posts_are ∙ own_posts p done parts none own) (ap (λ (s : ChipState). s.sending) state_is)
          (ap (λ (s : ChipState). s.failing) state_is ∙ ap (λ (l : List Bool). slice_set l parts.node (has_failed done)) p_failing)
          (λ sendings ticks.
          ap (λ (s : Option SendingParts). owed_by sendings s (call_back p done).outer.calls ticks (call_back p done).outer.due) (ap (λ (s : ChipState). s.sending) state_is)
          ∙ (ap (λ (l : List Due). dues [] ticks l) (ap (λ (q : OuterState). q.due) own_at ∙ rests.due)
          ∙ (p_dues [] ticks (inl refl)
          ∙ sym (ap₂ (λ (s : Option SendingParts) (b : Bool). dues (map (λ (one : Called). Ends one) (if is_some s && not b then ended_by NoRoute sendings else [])) ticks o.due) own_here is_by_frame))))
          (λ sendings one alone was.
          one_left sendings one alone
          ((arrived v.sending v.by_frame false false number numbers sendings above (inl (is_sending, refl, sees.by_frame ∙ is_by_frame, none_rest)) (subst (λ (l : List ℕ). AreNumbered v.sending v.by_frame l sendings) sees.own was)).many
          ∙ ap (λ (b : Bool). over b false) is_sending))

    -- one or the other
    calls_finish : Finish v number o x.outer (posts_by (calls_account o done)) done
    calls_finish = by p.chip.state.aborted refl p.chip.state.sending refl
      where
        by : (n : ℕ) → p.chip.state.aborted ≡ n → (s : Option SendingParts) → p.chip.state.sending ≡ s → Finish v number o x.outer (posts_by (calls_account o done)) done
        by (suc n) some s own = quiet_finish (omega (arith, some))
        by zero none (Some parts) own = own_finish none parts own
        by zero none None own =
            absurd (let many = split.many in let each_call = sees.each_call in let flag : one_if (is_some o.chip.state.sending) ≡ 0 = ap (λ (s : Option SendingParts). one_if (is_some s)) (sym quiet.sending ∙ own) in let left_calls = quiet.aborted in
            let enough = few in omega (arith, many, each_call, flag, left_calls, none, enough))

  -- ---- with a link that is forgotten first

  forgets_same : (o : OuterState) (dead : Option (ℕ × ℕ)) → SameWaits o (forgets o dead).outer
  forgets_same o None = record { sending = refl; failing = refl; calls = refl; due = refl }
  forgets_same o (Some hop) = by (linked o.chip.state.table hop.0 hop.1)
    where
      by : (b : Bool) → SameWaits o (if b then tells (with_chip o (after o.chip.state (Forgets hop.0 hop.1))) (entry.Forget hop.0 hop.1 ∷ []) else silent o).outer
      by true = record { sending = refl; failing = refl; calls = refl; due = refl }
      by false = record { sending = refl; failing = refl; calls = refl; due = refl }

  pub frame_finish : (o : OuterState) (status : ℕ) (dead : Option (ℕ × ℕ)) → Sees devices v left number numbers o → no_routes_due o.due ≡ without_frame (flags o.calls)
      → Finish v number o (frame_ends o status dead).outer (posts_by (ends_account o status dead)) (unwrap_or (status_of status) Fail)
  frame_finish o status dead sees await =
      let q : OuterState = (forgets o dead).outer in
      let same = forgets_same o dead in
      let sees_q = forgot devices v left number numbers o dead sees in
      let flies = sees_q.flies in
      let (following, split) = splits q.calls (omega (arith, flies)) in
      let await_q : no_routes_due q.due ≡ without_frame (flags q.calls) = ap no_routes_due same.due ∙ (await ∙ sym (ap (λ (l : List Call). without_frame (flags l)) same.calls)) in
      by q same (calls_finish q (unwrap_or (status_of status) Fail) sees_q await_q following split)
    where
      posts_of : (frames : List FrameParts) → posts_by (calls_account (forgets o dead).outer (unwrap_or (status_of status) Fail)) ≡ frames → posts_by (ends_account o status dead) ≡ frames
      posts_of frames is = ap (λ (l : List FrameParts). l ++ posts_by (calls_account (forgets o dead).outer (unwrap_or (status_of status) Fail))) (forgets_posts o dead) ∙ is

      owes_of : (q : OuterState) → SameWaits o q → OwesSame q (frame_ends o status dead).outer → OwesSame o (frame_ends o status dead).outer
      owes_of q same owes sendings ticks =
          owes sendings ticks
          ∙ (ap₂ (λ (under : Option SendingParts) (calls : List Call). owed_by sendings under calls ticks q.due) same.sending same.calls ∙ ap (λ (due : List Due). owed_by sendings o.chip.state.sending o.calls ticks due) same.due)

      by : (q : OuterState) → SameWaits o q → Finish v number q (frame_ends o status dead).outer (posts_by (calls_account (forgets o dead).outer (unwrap_or (status_of status) Fail))) (unwrap_or (status_of status) Fail)
          → Finish v number o (frame_ends o status dead).outer (posts_by (ends_account o status dead)) (unwrap_or (status_of status) Fail)
      by q same (Silent none sending failing owes numbered) = Silent (posts_of [] none) (sending ∙ same.sending) (failing ∙ same.failing) (owes_of q same owes) numbered
      by q same (Own parts own posts sending failing owes numbered) =
          Own parts (sym same.sending ∙ own) (posts_of (callback_frame parts (unwrap_or (status_of status) Fail) ∷ []) posts) sending
          (failing ∙ ap (λ (l : List Bool). slice_set l parts.node (has_failed (unwrap_or (status_of status) Fail))) same.failing) (owes_of q same owes) numbered
