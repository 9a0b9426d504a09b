-- How many frames of the host are on the air while segments are on their way: one while its request is at the chip, and none once its call has come.
use Rattle.std.proofs.Common.{◌≡◌, ℕ, ◌+◌, inl, inr, Bool, true, false, List, [], ◌∷◌, ◌++◌, length, refl, sym, ap, ◌∙◌, subst, arith}
use Rattle.std.specs.Prelude.{◌⊎◌, Option, Some, None}
use Rattle.std.specs.Option.{is_some}
use Rattle.serial_frame.specs.Frame.{FrameParts}
use Rattle.air_frames.specs.Flown.{Flown}
use Rattle.air_frames.specs.declared.frame.Heading.{Heading}
use Rattle.air_frames.specs.declared.frame.Heading.TheVariants.{Homeward, Outward}
use Rattle.chip_sim.specs.declared.out.Sending.{Sending}
use Rattle.host_requests.specs.declared.under_way.UnderWay.{UnderWay}
use Rattle.world_model.specs.State.{Machine}
use Rattle.proof_answered.specs.proof_calm.proof_traffic.Facts.{flying_in, one_if}
use Rattle.proof_answered.specs.proof_calm.proof_traffic.OnAir.{on_air}
use Rattle.proof_answered.specs.proof_calm.proof_traffic.OutsideTraffic.{flags, no_routes_due, one_outward, outward, without_frame}
use Rattle.proof_answered.specs.proof_calm.Awaited.{Awaits}
use Rattle.proof_answered.specs.proof_calm.Routed.{IsRouted}
use Rattle.proof_answered.specs.proof_calm.Tied.{At_chip, Called, IsOf, LeaveIt, LeavesIt, Nowhere, On_way, Tied, TieOf, ends_of, unheard}
use Rattle.proof_answered.proofs.Arrivals.{outward-append}
use Rattle.proof_in_time.specs.Parts.{AllPlain, Amid, AmidTwo, ComesPlainly, HasCall}
use Rattle.proof_in_time.proofs.Lasting.{no_call}
use Rattle.proof_in_time.proofs.PartsCarried.{call_last}
use Rattle.proof_in_time.proofs.PartsLanded.{SaidBy}

-- ---- frames of devices

pub home_out : (frame : Flown) (flights : List Flown) → frame.heading ≡ Homeward → outward (frame ∷ flights) ≡ outward flights
home_out frame flights home = let one : outward (frame ∷ flights) ≡ 0 + outward flights = ap (λ (h : Heading). one_outward h + outward flights) home in omega (arith, one)

pub plain_out : (these : List Bool) (flights : List Flown) → AllPlain these flights → outward flights ≡ 0
plain_out these [] all = refl
plain_out these (frame ∷ flights) all = home_out frame flights all.0.home ∙ plain_out these flights all.1

pub said_out : (n : ℕ) (replies : List (List ℕ)) (news : List Flown) → SaidBy n replies news → outward news ≡ 0
said_out n [] [] said = refl
said_out n [] (frame ∷ news) said = absurd said
said_out n (reply ∷ replies) [] said = absurd said
said_out n (reply ∷ replies) (frame ∷ news) said = home_out frame news said.0.1.0 ∙ said_out n replies news said.1

pub none_out : (a b : List Flown) → outward a ≡ 0 → outward b ≡ 0 → outward (a ++ b) ≡ 0
none_out a b first later = let both = outward-append a b in omega (arith, both, first, later)

pub one_out : (frame : Flown) (rest : List Flown) → frame.heading ≡ Outward → outward rest ≡ 0 → outward (frame ∷ rest) ≡ 1
one_out frame rest out none = let one : outward (frame ∷ rest) ≡ 1 + outward rest = ap (λ (h : Heading). one_outward h + outward rest) out in omega (arith, one, none)

-- one of the host is among others, or none is
pub amid_out : (these : List Bool) (Is : Flown → Type 0) (flights : List Flown) → ((frame : Flown) → Is frame → frame.heading ≡ Outward) → Amid (ComesPlainly these) Is flights → outward flights ≡ 1
amid_out these Is flights out at =
    let both = outward-append at.before (at.one ∷ at.behind) in
    let first = plain_out these at.before at.each in
    let one = one_out at.one at.behind (out at.one at.is) (plain_out these at.behind at.rest) in
    let all = ap outward at.are in
    omega (arith, both, first, one, all)

pub amid_two_out : (these : List Bool) (First Second : Flown → Type 0) (flights : List Flown) → ((frame : Flown) → First frame → frame.heading ≡ Homeward) → ((frame : Flown) → Second frame → frame.heading ≡ Outward) → AmidTwo (ComesPlainly these) First Second flights
    → outward flights ≡ 1
amid_two_out these First Second flights home out at =
    let both = outward-append at.before (at.first ∷ at.behind) in
    let first = plain_out these at.before at.each in
    let one = home_out at.first at.behind (home at.first at.is) in
    let rest = amid_out these Second at.behind out at.rest in
    let all = ap outward at.are in
    omega (arith, both, first, one, rest, all)

-- ---- what the chip sends

calls_long : (calls : List Bool) → length calls ≡ flying_in calls + without_frame calls
calls_long [] = refl
calls_long (true ∷ calls) = let rest = calls_long calls in omega (arith, rest)
calls_long (false ∷ calls) = let rest = calls_long calls in omega (arith, rest)

-- it sends where one of the host is on the air
pub sends_as : (m : Machine) → Awaits m → IsRouted m.outside.outer → m.outside.outer.chip.state.aborted ≡ 0 → one_if (is_some m.outside.outer.chip.state.sending) ≡ outward (on_air m.outside.outer.air.frames)
sends_as m is routed none =
    let f = is.follows in
    let long = calls_long (flags m.outside.outer.calls) in
    let due : no_routes_due m.outside.outer.due ≡ 0 = ap no_routes_due routed.none_due in
    let flies = f.await.frames in
    let results = f.await.results in
    let calls : length is.course.calls ≡ length (flags m.outside.outer.calls) = ap (λ (l : List Bool). length l) f.knows.calls in
    let each = is.each_call in
    let aborted : is.course.aborted ≡ 0 = f.knows.aborted ∙ none in
    let sending : one_if is.course.sending ≡ one_if (is_some m.outside.outer.chip.state.sending) = ap one_if f.knows.sending in
    omega (arith, long, due, flies, results, calls, each, aborted, sending)

-- ---- its call has come

call_either : (id : ℕ) (a b : List FrameParts) → HasCall id (a ++ b) → HasCall id a ⊎ HasCall id b
call_either id [] b has = inr has
call_either id (frame ∷ a) b (inl is) = inl (inl is)
call_either id (frame ∷ a) b (inr has) = by (call_either id a b has)
  where
    by : HasCall id a ⊎ HasCall id b → HasCall id (frame ∷ a) ⊎ HasCall id b
    by (inl there) = inl (inr there)
    by (inr there) = inr there

pub none_called : (joined : List Bool) (id : ℕ) (frames : List FrameParts) → LeaveIt joined frames → HasCall id frames → ⊥
none_called joined id [] leave has = has
none_called joined id (frame ∷ frames) leave (inl (status, is)) = no_call joined id status (subst (LeavesIt joined) is leave.0)
none_called joined id (frame ∷ frames) leave (inr has) = none_called joined id frames leave.1 has

-- a frame of the host was on the air, and is no more: so the call of its request is with the chip, behind what was there
pub call_comes : (m later : Machine) (more : List FrameParts) → later.host.state ≡ m.host.state → unheard later.outside.outer ≡ unheard m.outside.outer ++ more → TieOf false m [] → TieOf false later [] → one_if (is_some m.outside.outer.chip.state.sending) ≡ 1
    → one_if (is_some later.outside.outer.chip.state.sending) ≡ 0 → HasCall later.host.state.requests.last_id more
call_comes m later more host are tie later_tie sends none = was tie.tied
  where
    sends_none : m.outside.outer.chip.state.sending ≡ None → ⊥
    sends_none is = let no : one_if (is_some m.outside.outer.chip.state.sending) ≡ 0 = ap (λ (s : Option Sending). one_if (is_some s)) is in absurd (omega (arith, sends, no))

    now : (u : UnderWay) → IsOf u (ends_of m.host.state m.outside.outer.chip.state) → LeaveIt m.outside.outer.chip.state.joined (unheard m.outside.outer) → Tied false (ends_of later.host.state later.outside.outer.chip.state) (unheard later.outside.outer) []
        → HasCall later.host.state.requests.last_id more
    now u of leave (Nowhere is) = absurd (let wrong : Some u ≡ None = sym of.under_way ∙ (ap (λ h. h.requests.under_way) (sym host) ∙ is.none) in cc)
    now u of leave (On_way v later_of fresh is) = absurd (let wrong = is.asked in cc)
    now u of leave (At_chip v later_of fresh is) = let one : one_if (is_some later.outside.outer.chip.state.sending) ≡ 1 = ap (λ (s : Option Sending). one_if (is_some s)) is.is_sending in absurd (omega (arith, none, one))
    now u of leave (Called v later_of fresh is) =
        by (call_either later.host.state.requests.last_id (unheard m.outside.outer) more
        (subst (HasCall later.host.state.requests.last_id) are (subst (HasCall later.host.state.requests.last_id) (sym is.are) (call_last later.host.state.requests.last_id is.before _ (inl (is.status, refl))))))
      where
        by : HasCall later.host.state.requests.last_id (unheard m.outside.outer) ⊎ HasCall later.host.state.requests.last_id more → HasCall later.host.state.requests.last_id more
        by (inl before) = absurd (none_called m.outside.outer.chip.state.joined later.host.state.requests.last_id (unheard m.outside.outer) leave before)
        by (inr there) = there

    was : Tied false (ends_of m.host.state m.outside.outer.chip.state) (unheard m.outside.outer) [] → HasCall later.host.state.requests.last_id more
    was (Nowhere is) = absurd (sends_none is.idle)
    was (On_way u of fresh is) = absurd (sends_none is.idle)
    was (Called u of fresh is) = absurd (sends_none is.idle)
    was (At_chip u of fresh is) = now u of is.leave later_tie.tied
