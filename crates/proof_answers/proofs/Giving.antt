-- That the chip was given just what it has for its host goes on where what is due is given: the information of a node, or the result of a SendData without a route.
use Rattle.std.proofs.Common.{◌≡◌, ◌<◌, ℕ, zero, suc, ◌+◌, ◌-◌, ◌==◌, ◌&&◌, not, Bool, true, false, if◌then◌else◌, List, [], ◌∷◌, ◌++◌, length, drop, map, refl, sym, ap, ap₂, ◌∙◌, subst, append-nil, append_assoc, arith}
use Rattle.std.proofs.lemmas.List.{map-append}
use Rattle.std.specs.Prelude.{Option, Some, None}
use Rattle.std.specs.Option.{is_some}
use Rattle.serial_frame.specs.Frame.{FrameParts}
use Rattle.serial_frame.specs.Items.{unit_text}
use Rattle.serial_frame.specs.declared.unit.Unit.TheVariants.{Framed}
use Rattle.serial_link.specs.Rules.{Step}
use Rattle.route_table.specs.declared.route.Route.{Route}
use Rattle.chip_functions.specs.declared.notice.Notice.TheVariants.{ApplicationUpdate, SendData as SendDataCallback}
use Rattle.chip_functions.specs.declared.notice.TransmitStatus.TheVariants.{NoRoute}
use Rattle.chip_sim.specs.State.{ChipState}
use Rattle.chip_sim.specs.Answers.{notice_frame}
use Rattle.chip_sim.specs.Requests.{callback_frame, closed, given as chip_given}
use Rattle.chip_sim.specs.Events.{Done, Informed, ended, update_of}
use Rattle.chip_sim.specs.declared.out.Sending.{Sending as SendingParts}
use Rattle.zw_text.specs.declared.entry.Entry.{Entry}
use Rattle.law_transcript.specs.Lists.{last_or}
use Rattle.law_wire.specs.Asked.{Asked, Course, Sending, asked, last_sending}
use Rattle.law_wire.specs.Results.{Called, ended_by, settled_clock}
use Rattle.law_wire.specs.Given.{Given, IsInformation, given}
use Rattle.law_wire.specs.Answering.{AreOf}
use Rattle.outside_model.specs.declared.waits.Call.{Call}
use Rattle.outside_model.specs.declared.waits.Call.TheVariants.{OfFrame, NoRoute as no_route_call}
use Rattle.outside_model.specs.declared.waits.Due.{Due}
use Rattle.outside_model.specs.declared.waits.Due.TheVariants.{Info, NoRoute as no_route_due}
use Rattle.outside_model.specs.Devices.{State}
use Rattle.outside_model.specs.State.{OuterState, Outcome, silent}
use Rattle.outside_model.specs.Chip.{chip_does}
use Rattle.outside_model.specs.Results.{gives, no_route, owes_call, profile_for, without_no_route}
use Rattle.proof_devices.proofs.Results.{gives_go}
use Rattle.proof_chip.proofs.ChipAccounts.{due_account, steps_by}
use Rattle.proof_chip.specs.proof_line.proof_traffic.Facts.{flying_in, one_if}
use Rattle.proof_chip.specs.proof_line.proof_traffic.OutsideTraffic.{flags, no_routes_due, without_frame}
use Rattle.proof_devices.proofs.Times.{does_chip, does_time}
use Rattle.proof_chip.specs.Serving.{Serves, frame_texts}
use Rattle.proof_chip.proofs.Giving.{done_rests, informed_rests, drop_flies}
use Rattle.proof_chip.proofs.Growing.{frames_both}
use Rattle.proof_chip.proofs.Judged.{goes_back}
use Rattle.proof_chip.proofs.Owing.{no_route_quiet, quiet_call, without_call, without_due}
use Rattle.proof_chip.proofs.Replying.{none_filtered}
use Rattle.proof_answers.specs.Owing.{Ends, Informs, Owed, come, dues, ends_in, has_no_route, owed_by, owed_in, owed_now}
use Rattle.proof_answers.specs.Telling.{HasFailing, IsUnder, TellSo, Tells, TellsBefore, called_by, told_by}
use Rattle.proof_answers.proofs.Accounts.{account_grows, posts_by}
use Rattle.proof_answers.proofs.Ending.{Calmly, calmly, own_posts, route_posts, has_some}
use Rattle.proof_answers.proofs.Lists.{tells_are, tells_those}
use Rattle.proof_answers.proofs.Moving.{gives_on}
use Rattle.proof_answers.proofs.Owning.{failing_more}
use Rattle.proof_answers.proofs.Standing.{before_idle, ends_both}

-- ---- calls of no frame

no_more : (n : ℕ) → 0 + n ≡ 0 → n ≡ 0
no_more n none = omega (arith, none)

all_without : (calls : List Call) → flying_in (flags calls) ≡ 0 → without_frame (flags calls) ≡ length calls
all_without [] none = refl
all_without (OfFrame ∷ calls) none = absurd (omega (arith, none))
all_without (no_route_call ∷ calls) none = let rest = all_without calls (no_more (flying_in (flags calls)) none) in omega (arith, rest)

last_none : (b : Bool) (calls : List Call) → flying_in (flags calls) ≡ 0 → b ≡ false → last_or b (flags calls) ≡ false
last_none b [] none is = is
last_none b (OfFrame ∷ calls) none is = absurd (omega (arith, none))
last_none b (no_route_call ∷ calls) none is = last_none false calls (no_more (flying_in (flags calls)) none) refl

-- where none is due
none_due : (own : List Owed) (ticks : ℕ) (due : List Due) → no_routes_due due ≡ 0 → dues own ticks due ≡ dues [] ticks due
none_due own ticks [] none = refl
none_due own ticks (no_route_due ∷ due) none = absurd (omega (arith, none))
none_due own ticks (Info node ∷ due) none = ap (λ (l : List Owed). Informs node ticks ∷ l) (none_due own ticks due (no_more (no_routes_due due) none))

has_none : (due : List Due) → no_routes_due due ≡ 0 → has_no_route due ≡ false
has_none [] none = refl
has_none (no_route_due ∷ due) none = absurd (omega (arith, none))
has_none (Info node ∷ due) none = has_none due (no_more (no_routes_due due) none)

-- ---- by what is told and what is left

-- what is given is the first of what was left: the state is such, and those that ended count
record Next (devices : List State) (o p : OuterState) (more : List FrameParts) (course : Course) (past : List Entry) : Type 0 where
  time : p.clock ≡ o.clock
  first : List Owed
  owes : owed_now course past (o.clock - 1) o ≡ first ++ owed_now course past (o.clock - 1) p
  fits : Tells devices (frame_texts more) (map (come past) first) []
  under : IsUnder p.chip.state.sending (last_sending course past)
  failing : (calls : List Called) → HasFailing o.chip.state.failing calls → HasFailing p.chip.state.failing (calls ++ ends_in first)

module _ (devices : List State) (o p : OuterState) (more : List FrameParts) (frames : List FrameParts) (course : Course) (past : List Entry) (next : Next devices o p more course past) where
  abbrev ticks : ℕ
  ticks = o.clock - 1

  before_gives : TellsBefore devices false o frames course past → TellsBefore devices false p (frames ++ more) course past
  before_gives was = record {
    turns = was.turns;
    tells =
        subst (λ (n : ℕ). Tells devices (frame_texts (frames ++ more)) (told_by devices n course past) (map (come past) (owed_now course past (n - 1) p))) (sym next.time)
        (subst (λ (l : List (List ℕ)). Tells devices l (told_by devices o.clock course past) (map (come past) (owed_now course past ticks p))) (sym (frames_both frames more))
        (tells_those devices (frame_texts frames) (frame_texts more) (told_by devices o.clock course past) (map (come past) next.first) (map (come past) (owed_now course past ticks p)) next.fits
        (subst (λ (l : List Given). Tells devices (frame_texts frames) (told_by devices o.clock course past) l)
        (ap (λ (l : List Owed). map (come past) l) next.owes ∙ map-append (come past) next.first (owed_now course past ticks p)) was.tells)));
    owes = λ is below. absurd (let no : false ≡ true = is in cc);
    under = next.under;
    calls = was.calls ++ ends_in next.first;
    ended =
        ap (λ (n : ℕ). called_by n course past) next.time
        ∙ (was.ended
        ∙ (ap (λ (l : List Owed). was.calls ++ ends_in l) next.owes
        ∙ (ap (λ (l : List Called). was.calls ++ l) (ends_both next.first (owed_now course past ticks p))
        ∙ (sym (append_assoc was.calls (ends_in next.first) (ends_in (owed_now course past ticks p)))
        ∙ ap (λ (n : ℕ). (was.calls ++ ends_in next.first) ++ ends_in (owed_now course past (n - 1) p)) (sym next.time)))));
    failing = next.failing was.calls was.failing;
  }

-- ---- what is given

module _ (devices : List State) (there : List State) (o : OuterState) (route : Option Route) (calm : flying_in (flags o.calls) ≡ 0) (each_call : length o.calls ≡ o.chip.state.aborted + one_if (is_some o.chip.state.sending))
    (await : no_routes_due o.due ≡ without_frame (flags o.calls)) (course : Course) (past : List Entry) (under : IsUnder o.chip.state.sending (last_sending course past))
    (informs : (node : ℕ) (due : List Due) → o.due ≡ Info node ∷ due
    → IsInformation devices node (o.clock - 1) past (unit_text (Framed (notice_frame (ApplicationUpdate (update_of node (profile_for o.air there node route))))))) where
  abbrev Gives_so : List Due → Type 0
  Gives_so due = Next devices o (gives o there due route).outer (posts_by (due_account o there due route)) course past

  many_due : no_routes_due o.due ≡ length o.calls
  many_due = await ∙ all_without o.calls calm

  last_is : last_or false (flags o.calls) ≡ false
  last_is = last_none false o.calls calm refl

  info_next : (node : ℕ) (due : List Due) → o.due ≡ Info node ∷ due → Gives_so (Info node ∷ due)
  info_next node due is =
      let p : OuterState = record o { due = due } in
      let event = Informed node (profile_for o.air there node route) in
      let q : OuterState = (chip_does p event).outer in
      let rests = informed_rests p node (profile_for o.air there node route) in
      let state = does_chip p event in
      record {
        time = ap (λ (t : Bool × Bool × ℕ). t.2) (does_time p event);
        first = Informs node (o.clock - 1) ∷ [];
        owes =
            ap (λ (l : List Due). owed_by (last_sending course past) o.chip.state.sending o.calls (o.clock - 1) l) is
            ∙ ap (λ (l : List Owed). Informs node (o.clock - 1) ∷ l)
            (sym (ap₂ (λ (s : Option SendingParts) (c : List Call). owed_by (last_sending course past) s c (o.clock - 1) q.due) (ap (λ (s : ChipState). s.sending) state) rests.calls
            ∙ ap (λ (l : List Due). owed_by (last_sending course past) o.chip.state.sending o.calls (o.clock - 1) l) rests.due));
        fits = (informs node due is, tt);
        under = subst (λ (s : Option SendingParts). IsUnder s (last_sending course past)) (sym (ap (λ (s : ChipState). s.sending) state)) under;
        failing = λ calls has.
            subst (λ (marks : List Bool). HasFailing marks (calls ++ [])) (sym (ap (λ (s : ChipState). s.failing) state)) (subst (λ (l : List Called). HasFailing o.chip.state.failing l) (sym (append-nil calls)) has);
      }

  -- one of a SendData that was aborted
  aborted_next : (due : List Due) → o.due ≡ no_route_due ∷ due → 0 < o.chip.state.aborted → Gives_so (no_route_due ∷ due)
  aborted_next due is some =
      let q : OuterState = quiet_call (without_due o) in
      let at : (no_route o).outer ≡ q = ap (λ (y : Outcome). y.outer) (no_route_quiet o some) in
      subst (λ (y : OuterState). Next devices o y (posts_by (due_account o there (no_route_due ∷ due) route)) course past) (sym at)
      (subst (λ (l : List FrameParts). Next devices o q l course past) (sym (route_posts o some)) (record {
        time = refl;
        first = [];
        owes = by (is_some o.chip.state.sending) refl;
        fits = tt;
        under = under;
        failing = λ calls has. subst (λ (l : List Called). HasFailing o.chip.state.failing l) (sym (append-nil calls)) has;
      }))
    where
      shape : Bool → Bool → List Due → List Owed
      shape a b l = dues (map (λ (one : Called). Ends one) (if a && not b then ended_by NoRoute (last_sending course past) else [])) (o.clock - 1) l

      less_is : without_no_route o.due ≡ due
      less_is = ap without_no_route is

      by : (b : Bool) → is_some o.chip.state.sending ≡ b
          → owed_by (last_sending course past) o.chip.state.sending o.calls (o.clock - 1) o.due ≡ owed_by (last_sending course past) o.chip.state.sending (drop 1 o.calls) (o.clock - 1) (without_no_route o.due)
      by false idle =
          ap₂ (λ (a : Bool) (l : List Due). shape a (last_or false (flags o.calls)) l) idle is
          ∙ (none_first (has_no_route due)
          ∙ sym (ap₂ (λ (a : Bool) (l : List Due). shape a (last_or false (flags (drop 1 o.calls))) l) idle less_is))
        where
          none_first : (b : Bool) → (if b then [] else []) ++ dues [] (o.clock - 1) due ≡ dues [] (o.clock - 1) due
          none_first true = refl
          none_first false = refl
      by true sends =
          let counts = many_due in
          let here = ap no_routes_due is in
          let flag : one_if (is_some o.chip.state.sending) ≡ 1 = ap (λ (b : Bool). one_if b) sends in
          let enough = each_call in
          let more : has_no_route due ≡ true = has_some due (omega (arith, counts, here, flag, enough, some)) in
          ap₂ (λ (b : Bool) (l : List Due). shape (is_some o.chip.state.sending) b l) last_is is
          ∙ (ap (λ (b : Bool). (if b then [] else map (λ (one : Called). Ends one) (if is_some o.chip.state.sending && true then ended_by NoRoute (last_sending course past) else [])) ++ shape (is_some o.chip.state.sending) false due) more
          ∙ sym (ap₂ (λ (b : Bool) (l : List Due). shape (is_some o.chip.state.sending) b l) (last_none false (drop 1 o.calls) (drop_flies o.calls calm) refl) less_is))

  -- that of the SendData under way
  own_next : (due : List Due) → o.due ≡ no_route_due ∷ due → o.chip.state.aborted ≡ 0 → (parts : SendingParts) → o.chip.state.sending ≡ Some parts → IsUnder (Some parts) (last_sending course past) → Gives_so (no_route_due ∷ due)
  own_next due is none parts own (one, alone, node, id, within) =
      let p : OuterState = without_call (without_due o) in
      let y : Outcome = chip_does p (Done NoRoute) in
      let rests = done_rests p NoRoute in
      let over : Called = record { sending = one; status = NoRoute } in
      let counts = many_due in
      let here = ap no_routes_due is in
      let enough = each_call in
      let flag : one_if (is_some o.chip.state.sending) ≡ 1 = ap (λ (s : Option SendingParts). one_if (is_some s)) own in
      let left : no_routes_due due ≡ 0 = omega (arith, counts, here, flag, enough, none) in
      let at : (no_route o).outer ≡ y.outer = ap (λ (b : Bool). (if b then y else silent p).outer) owes_one in
      let state : (no_route o).outer.chip.state ≡ closed (chip_given o.chip.state (callback_frame parts NoRoute)) parts NoRoute =
      ap (λ (q : OuterState). q.chip.state) at
      ∙ (does_chip p (Done NoRoute) ∙ ap₂ (λ (n : ℕ) (s : Option SendingParts). if n == 0 then ended s o.chip.state NoRoute else record o.chip.state { aborted = o.chip.state.aborted - 1 }) none own) in
      subst (λ (l : List FrameParts). Next devices o (no_route o).outer l course past) (sym (own_posts (without_due o) NoRoute parts none own)) (record {
        time = ap (λ (q : OuterState). q.clock) at ∙ ap (λ (t : Bool × Bool × ℕ). t.2) (does_time p (Done NoRoute));
        first = Ends over ∷ [];
        owes =
            ap₂ (λ (s : Option SendingParts) (l : List Due). dues (map (λ (c : Called). Ends c) (if is_some s && not (last_or false (flags o.calls)) then ended_by NoRoute (last_sending course past) else [])) (o.clock - 1) l) own is
            ∙ (ap₂ (λ (b : Bool) (l : List Sending). dues (map (λ (c : Called). Ends c) (if not b then ended_by NoRoute l else [])) (o.clock - 1) (no_route_due ∷ due)) last_is alone
            ∙ (ap (λ (b : Bool). (if b then [] else Ends over ∷ []) ++ dues (Ends over ∷ []) (o.clock - 1) due) (has_none due left)
            ∙ ap (λ (l : List Owed). Ends over ∷ l)
            (none_due (Ends over ∷ []) (o.clock - 1) due left
            ∙ sym (ap₂ (λ (s : Option SendingParts) (l : List Due). dues (map (λ (c : Called). Ends c) (if is_some s && not (last_or false (flags (no_route o).outer.calls)) then ended_by NoRoute (last_sending course past) else [])) (o.clock - 1) l)
            (ap (λ (s : ChipState). s.sending) state) (ap (λ (q : OuterState). q.due) at ∙ (rests.due ∙ ap without_no_route is))))));
        fits = (ap (λ (n : ℕ). unit_text (Framed (notice_frame (SendDataCallback n NoRoute)))) (sym id), tt);
        under = subst (λ (s : Option SendingParts). IsUnder s (last_sending course past)) (sym (ap (λ (s : ChipState). s.sending) state)) tt;
        failing = λ calls has.
            subst (λ (marks : List Bool). HasFailing marks (calls ++ over ∷ [])) (sym (ap (λ (s : ChipState). s.failing) state)) (failing_more o.chip.state.failing calls over parts.node node within has);
      })
    where
      owes_one : owes_call o.chip.state ≡ true
      owes_one = ap₂ (λ (n : ℕ) (s : Option SendingParts). owes_call (record o.chip.state { aborted = n; sending = s })) none own

  gives_next : (due : List Due) → o.due ≡ due → Gives_so due
  gives_next [] is = record {
    time = refl;
    first = [];
    owes = refl;
    fits = tt;
    under = under;
    failing = λ calls has. subst (λ (l : List Called). HasFailing o.chip.state.failing l) (sym (append-nil calls)) has;
  }
  gives_next (Info node ∷ due) is = info_next node due is
  gives_next (no_route_due ∷ due) is = by o.chip.state.aborted refl o.chip.state.sending refl
    where
      by : (n : ℕ) → o.chip.state.aborted ≡ n → (s : Option SendingParts) → o.chip.state.sending ≡ s → Gives_so (no_route_due ∷ due)
      by (suc n) some s own = aborted_next due is (omega (arith, some))
      by zero none (Some parts) own = own_next due is none parts own (subst (λ (s : Option SendingParts). IsUnder s (last_sending course past)) own under)
      by zero none None own =
          absurd (let counts = many_due in let here = ap no_routes_due is in let enough = each_call in let flag : one_if (is_some o.chip.state.sending) ≡ 0 = ap (λ (s : Option SendingParts). one_if (is_some s)) own in
          omega (arith, counts, here, enough, flag, none))

-- ---- with the steps of the link

module _ (devices : List State) (there : List State) (o : OuterState) (route : Option Route) (calm : flying_in (flags o.calls) ≡ 0) (each_call : length o.calls ≡ o.chip.state.aborted + one_if (is_some o.chip.state.sending))
    (await : no_routes_due o.due ≡ without_frame (flags o.calls)) (did : List Step) (past : List Entry)
    (informs : (node : ℕ) (due : List Due) → o.due ≡ Info node ∷ due
    → IsInformation devices node (o.clock - 1) past (unit_text (Framed (notice_frame (ApplicationUpdate (update_of node (profile_for o.air there node route))))))) where
  abbrev y : Outcome
  y = gives o there o.due route

  y_calmly : Calmly o (gives o there o.due route)
  y_calmly = gives_go Calmly calmly o there o.due route

  next_of : (course : Course) → IsUnder o.chip.state.sending (last_sending course past) → Next devices o (gives o there o.due route).outer (posts_by (due_account o there o.due route)) course past
  next_of course under = gives_next devices there o route calm each_call await course past under informs o.due refl

  -- where the number of the tick stands, all results so far are told
  pub gives_tell : settled_clock past ≡ o.clock → TellSo (TellsBefore devices false o) did past o.chip.state.port
      → TellSo (TellsBefore devices false (gives o there o.due route).outer) (did ++ steps_by (due_account o there o.due route)) (past ++ (gives o there o.due route).entries) (gives o there o.due route).outer.chip.state.port
  gives_tell settled so =
      gives_on devices (TellsBefore devices false o) (TellsBefore devices false y.outer) did (steps_by (due_account o there o.due route)) past y.entries (posts_by (due_account o there o.due route)) o.chip.state.port y.outer.chip.state.port
      (λ frames serves. account_grows devices did frames past (due_account o there o.due route) y_calmly.0 serves)
      (λ frames course was.
      let following = next_of course was.under in
      let all = before_gives devices o y.outer (posts_by (due_account o there o.due route)) frames course past following was in
      subst (λ (l : List Given). AreOf devices (frame_texts (frames ++ posts_by (due_account o there o.due route))) l)
      (ap (λ (l : List Asked). given devices course past ++ map (come past) (owed_in course past l)) (none_filtered (settled_clock past) y.outer.clock (following.time ∙ sym settled) (asked course past)) ∙ append-nil (given devices course past))
      (tells_are devices (frame_texts (frames ++ posts_by (due_account o there o.due route))) (told_by devices y.outer.clock course past) (map (come past) (owed_now course past (y.outer.clock - 1) y.outer)) all.tells))
      (λ frames course turns was.
      before_idle devices y.outer (frames ++ posts_by (due_account o there o.due route)) course past y.entries y_calmly.0 turns false y_calmly.1
      (before_gives devices o y.outer (posts_by (due_account o there o.due route)) frames course past (next_of course was.under) was)) so

  -- and while nothing is entered
  pub gives_silently : (gives o there o.due route).entries ≡ [] → TellSo (TellsBefore devices false o) did past o.chip.state.port
      → TellSo (TellsBefore devices false (gives o there o.due route).outer) (did ++ steps_by (due_account o there o.due route)) (past ++ []) (gives o there o.due route).outer.chip.state.port
  gives_silently none (frames, serves, are) =
      let more : List FrameParts = posts_by (due_account o there o.due route) in
      let grows = account_grows devices did frames past (due_account o there o.due route) y_calmly.0 serves in (
        frames ++ more,
        subst (λ (l : List Entry). Serves (did ++ steps_by (due_account o there o.due route)) (frames ++ more) (past ++ l) y.outer.chip.state.port) none grows.serves,
        λ course goes.
            let was = are course (goes_back did (steps_by (due_account o there o.due route)) course goes) in
            subst (λ (l : List Entry). TellsBefore devices false y.outer (frames ++ more) course l) (sym (append-nil past)) (before_gives devices o y.outer more frames course past (next_of course was.under) was),
      )
