-- Results without a route, and the result of a frame on the air, in the order of the chip's calls.
use Rattle.std.proofs.Common.{◌≡◌, ℕ, suc, ◌+◌, ◌-◌, ◌<◌, Bool, true, false, Option, Some, None, List, [], ◌∷◌, ◌++◌, refl, ap, sym, subst, ◌∙◌, arith, append-nil}
use Rattle.std.specs.Prelude.{◌==◌, drop}
use Rattle.std.specs.Option.{unwrap_or}
use Rattle.chip_functions.specs.Notice.{status_of}
use Rattle.chip_functions.specs.declared.notice.TransmitStatus.{TransmitStatus}
use Rattle.chip_functions.specs.declared.notice.TransmitStatus.TheVariants.{Fail, NoRoute}
use Rattle.route_table.specs.Network.{linked}
use Rattle.air_frames.specs.Flown.{Flown}
use Rattle.air_frames.specs.History.{Mark}
use Rattle.proof_device.specs.outside_model.declared.waits.Due.{Due}
use Rattle.proof_device.specs.outside_model.declared.waits.Due.TheVariants.{Info, NoRoute as no_route_due}
use Rattle.proof_device.specs.outside_model.declared.waits.Call.{Call}
use Rattle.proof_device.specs.outside_model.declared.waits.Call.TheVariants.{OfFrame, NoRoute as no_route_call}
use Rattle.proof_device.specs.outside_model.State.{OuterState}
use Rattle.proof_device.specs.outside_model.Results.{call_back, without_no_route, leading, no_routes, forgets, frame_ends}
use Rattle.proof_traffic.specs.Requests.{Word, Traffic, Step, called}
use Rattle.proof_traffic.specs.Requests as course
use Rattle.proof_traffic.specs.Facts.{flying_in}
use Rattle.proof_traffic.specs.OutsideTraffic.{flags, outward, no_routes_due, without_frame, Follows, HostStays, Goes}
use Rattle.proof_traffic.proofs.JudgedItems.{steps-append, may-append}
use Rattle.proof_traffic.proofs.Calls.{Half, Leaves, call_half, call_leaves}

-- ---- a call changes nothing of the host's

pub host_called : (t : Traffic) → ((called t).up ≡ t.up) × HostStays t (called t)
host_called t = by (t.aborted == 0) refl
  where
    by : (b : Bool) → (t.aborted == 0) ≡ b → ((called t).up ≡ t.up) × HostStays t (called t)
    by true e = rw e (refl, record { link = refl; pending = refl; owes = refl })
    by false e = rw e (refl, record { link = refl; pending = refl; owes = refl })

-- ---- results without a route

-- the calls after those that wait for one
abbrev pub after_leading : List Call → List Call
after_leading [] = []
after_leading (OfFrame ∷ calls) = OfFrame ∷ calls
after_leading (no_route_call ∷ calls) = after_leading calls

pub less_due : (due : List Due) → no_routes_due (without_no_route due) ≡ no_routes_due due - 1
less_due [] = refl
less_due (no_route_due ∷ due) = omega arith
less_due (Info node ∷ due) = let later : no_routes_due (without_no_route due) ≡ no_routes_due due - 1 = less_due due in omega arith

pub record Gone (t : Traffic) (log : List Mark) (flights : List Flown) (o p : OuterState) (calls : List Call) : Type 0 where
  pub steps : List Step
  pub may : course.MayAll t steps
  pub half : Half (course.after_all t steps) log flights p
  pub calls_are : p.calls ≡ after_leading calls
  pub due : no_routes_due p.due ≡ without_frame (flags (after_leading calls))
  pub air : p.air ≡ o.air
  pub up_is : (course.after_all t steps).up ≡ t.up
  pub host : HostStays t (course.after_all t steps)

module _ (log : List Mark) (flights : List Flown) where
  nothing_gone : (t : Traffic) (o : OuterState) (calls : List Call) → after_leading calls ≡ calls → o.calls ≡ calls → Half t log flights o → no_routes_due o.due ≡ without_frame (flags calls) → Gone t log flights o o calls
  nothing_gone t o calls same are h due = record {
    steps = [];
    may = tt;
    half = h;
    calls_are = are ∙ sym same;
    due = due ∙ ap (λ (c : List Call). without_frame (flags c)) (sym same);
    air = refl;
    up_is = refl;
    host = record { link = refl; pending = refl; owes = refl };
  }

  pub no_routes_go : (t : Traffic) (o : OuterState) (calls : List Call) → o.calls ≡ calls → Half t log flights o → no_routes_due o.due ≡ without_frame (flags calls)
      → Gone t log flights o (no_routes (leading calls) o).outer calls
  no_routes_go t o [] are h due = nothing_gone t o [] refl are h due
  no_routes_go t o (OfFrame ∷ calls) are h due = nothing_gone t o (OfFrame ∷ calls) refl are h due
  no_routes_go t o (no_route_call ∷ calls) are h due =
      let q : OuterState = record o { due = without_no_route o.due } in
      let hq : Half t log flights q = record { knows = record { aborted = h.knows.aborted; sending = h.knows.sending; calls = h.knows.calls }; fly = h.fly; joined = h.joined } in
      let p : OuterState = (call_back q NoRoute).outer in
      let leaves : Leaves t log flights q NoRoute hq p = call_leaves t log flights q NoRoute hq in
      let less : no_routes_due p.due ≡ without_frame (flags calls) = due_less (no_routes_due o.due) (no_routes_due p.due) (without_frame (flags calls)) (leaves.due ∙ less_due o.due) due in
      let later : Gone (called t) log flights p (no_routes (leading calls) p).outer calls = no_routes_go (called t) p calls (leaves.calls ∙ ap (drop 1) are) (call_half t log flights q NoRoute hq) less in
      let (up, host) = host_called t in
      record {
        steps = course.Calls ∷ later.steps;
        may = (tt, later.may);
        half = subst (λ (n : ℕ). Half (course.after_all (called t) later.steps) log flights (no_routes n o).outer) (one_more (leading calls)) later.half;
        calls_are = subst (λ (n : ℕ). (no_routes n o).outer.calls ≡ after_leading calls) (one_more (leading calls)) later.calls_are;
        due = subst (λ (n : ℕ). no_routes_due (no_routes n o).outer.due ≡ without_frame (flags (after_leading calls))) (one_more (leading calls)) later.due;
        air = subst (λ (n : ℕ). (no_routes n o).outer.air ≡ o.air) (one_more (leading calls)) (later.air ∙ leaves.air);
        up_is = later.up_is ∙ up;
        host = record { link = later.host.link ∙ host.link; pending = later.host.pending ∙ host.pending; owes = later.host.owes ∙ host.owes };
      }
    where
      one_more : (n : ℕ) → suc n ≡ n + 1
      one_more n = omega arith

      due_less : (all less rest : ℕ) → less ≡ all - 1 → all ≡ 1 + rest → less ≡ rest
      due_less all less rest a b = omega arith

-- ---- the result of a frame

-- after those, the call of the frame
lead_cases : (calls : List Call) → 0 < flying_in (flags calls) → (more : List Call) × (after_leading calls ≡ OfFrame ∷ more) × (flying_in (flags calls) ≡ 1 + flying_in (flags more))
lead_cases [] some = absurd (omega arith)
lead_cases (OfFrame ∷ calls) some = (calls, refl, refl)
lead_cases (no_route_call ∷ calls) some =
    let (more, are, count) = lead_cases calls (less_some (flying_in (flags calls)) some) in (more, are, none_more (flying_in (flags calls)) ∙ count)
  where
    less_some : (n : ℕ) → 0 < 0 + n → 0 < n
    less_some n some = omega arith

    none_more : (n : ℕ) → 0 + n ≡ n
    none_more n = omega arith

forgets_half : (t : Traffic) (log : List Mark) (flights : List Flown) (o : OuterState) (dead : Option (ℕ × ℕ)) → Half t log flights o → Half t log flights (forgets o dead).outer
forgets_half t log flights o None h = h
forgets_half t log flights o (Some hop) h = by (linked o.chip.state.table hop.0 hop.1) refl
  where
    by : (b : Bool) → linked o.chip.state.table hop.0 hop.1 ≡ b → Half t log flights (forgets o (Some hop)).outer
    by true e = rw e (record { knows = record { aborted = h.knows.aborted; sending = h.knows.sending; calls = h.knows.calls }; fly = h.fly; joined = h.joined })
    by false e = rw e h

forgets_leaves : (o : OuterState) (dead : Option (ℕ × ℕ)) → ((forgets o dead).outer.calls ≡ o.calls) × ((forgets o dead).outer.due ≡ o.due)
forgets_leaves o None = (refl, refl)
forgets_leaves o (Some hop) = by (linked o.chip.state.table hop.0 hop.1) refl
  where
    by : (b : Bool) → linked o.chip.state.table hop.0 hop.1 ≡ b → ((forgets o (Some hop)).outer.calls ≡ o.calls) × ((forgets o (Some hop)).outer.due ≡ o.due)
    by true e = rw e (refl, refl)
    by false e = rw e (refl, refl)

-- a frame of the host came to its end, and is on the air no longer
pub frame_ends_go : (t : Traffic) (log : List Mark) (later : List Flown) (o : OuterState) (status : ℕ) (dead : Option (ℕ × ℕ)) → Half t log later o → 1 + outward later ≡ flying_in (flags o.calls)
    → no_routes_due o.due ≡ without_frame (flags o.calls) → Goes t log later (frame_ends o status dead).outer t.up
frame_ends_go t log later o status dead h frames results =
    let f : OuterState = (forgets o dead).outer in
    let hf : Half t log later f = forgets_half t log later o dead h in
    let (same_calls, same_due) = forgets_leaves o dead in
    let due : no_routes_due f.due ≡ without_frame (flags f.calls) = ap no_routes_due same_due ∙ results ∙ ap (λ (c : List Call). without_frame (flags c)) (sym same_calls) in
    let gone : Gone t log later f (no_routes (leading f.calls) f).outer f.calls = no_routes_go log later t f f.calls refl hf due in
    let u : Traffic = course.after_all t gone.steps in
    let q : OuterState = (no_routes (leading f.calls) f).outer in
    let end : TransmitStatus = unwrap_or (status_of status) Fail in
    let half : Half (called u) log later (call_back q end).outer = call_half u log later q end gone.half in
    let leaves : Leaves u log later q end gone.half (call_back q end).outer = call_leaves u log later q end gone.half in
    let flying : 1 + outward later ≡ flying_in (flags f.calls) = frames ∙ ap (λ (c : List Call). flying_in (flags c)) (sym same_calls) in
    let (more, are, count) = lead_cases f.calls (omega arith) in
    let (up, host) = host_called u in
    let calls : (call_back q end).outer.calls ≡ more = leaves.calls ∙ ap (drop 1) (gone.calls_are ∙ are) in
    record {
      steps = gone.steps ++ course.Calls ∷ [];
      may = may-append t gone.steps (course.Calls ∷ []) gone.may (tt, tt);
      more = [];
      now = later;
      follows = subst (λ (x : Traffic). Follows x (log ++ []) later (call_back q end).outer) (sym (steps-append t gone.steps (course.Calls ∷ [])))
          (subst (λ (l : List Mark). Follows (called u) l later (call_back q end).outer) (sym (append-nil log))
          (record {
            knows = half.knows;
            await = record {
              frames = less_one (outward later) (flying_in (flags more)) (flying_in (flags f.calls)) flying count ∙ ap (λ (c : List Call). flying_in (flags c)) (sym calls);
              results = leaves.due ∙ gone.due ∙ ap (λ (c : List Call). without_frame (flags c)) are ∙ none_more (without_frame (flags more)) ∙ ap (λ (c : List Call). without_frame (flags c)) (sym calls);
            };
            fly = half.fly;
            joined = half.joined;
          }));
      up_is = ap (λ (x : Traffic). x.up) (steps-append t gone.steps (course.Calls ∷ [])) ∙ up ∙ gone.up_is;
      host = subst (λ (x : Traffic). HostStays t x) (sym (steps-append t gone.steps (course.Calls ∷ [])))
          (record { link = host.link ∙ gone.host.link; pending = host.pending ∙ gone.host.pending; owes = host.owes ∙ gone.host.owes });
    }
  where
    less_one : (a b c : ℕ) → 1 + a ≡ c → c ≡ 1 + b → a ≡ b
    less_one a b c x y = omega arith

    none_more : (n : ℕ) → 0 + n ≡ n
    none_more n = omega arith
