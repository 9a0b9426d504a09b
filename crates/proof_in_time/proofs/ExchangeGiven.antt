-- Where the host has submitted what is next in a sealed exchange, or has what it is to give next, that is a place of it.
use Rattle.std.proofs.Common.{◌≡◌, ◌≤◌, ℕ, None, List, [], ◌∷◌, ◌++◌, sym, ap, ◌∙◌, subst, arith}
use Rattle.class_info.specs.InfoSpelling.{form}
use Rattle.class_info.specs.declared.message.InfoMessage.TheVariants.{NonceGet}
use Rattle.s0_session.specs.Nonces.{live_of}
use Rattle.s0_session.specs.declared.account.Account.{Account}
use Rattle.air_frames.specs.Flown.{Flown}
use Rattle.device_sim.specs.State.{State}
use Rattle.host_requests.specs.State.{RequestsState}
use Rattle.host_node.specs.State.{NodeState}
use Rattle.host_model.specs.Did.{after_all}
use Rattle.host_model.specs.Events.{HostEvent}
use Rattle.host_model.specs.State.{HostState, node_of}
use Rattle.world_model.specs.State.{Machine}
use Rattle.proof_answered.specs.proof_calm.proof_work.proof_walk.Phases.{Phase, Submitting}
use Rattle.proof_in_time.specs.Exchange.{Aired, Exchange, Gets, Given, GoesAlone, GoesOut, IsForLive, IsThere, NoneFly, NoneGo, Nonces, Offers, OffersLive, ReportWaits, Seals, TextWaits, Texts}
use Rattle.proof_in_time.specs.Owed.{IsOwed}
use Rattle.proof_in_time.specs.SealedHosts.{HasOffer, HasSubmitted, SealsForLive}

-- what is so of what is on its way to the node
out_also : (n later : ℕ) (here : Phase) (m : Machine) (Is Now : List ℕ → Type 0) → ((payload : List ℕ) → Is payload → Now payload) → GoesOut n Is later here m → GoesOut n Now later here m
out_also n later here m Is Now also (Given request payload asking under_way gives line is few) = Given request payload asking under_way gives line (also payload is) few
out_also n later here m Is Now also (Aired at few) =
    Aired (record { before = at.before; frame = at.frame; behind = at.behind; are = at.are; is = record { node = at.is.node; out = at.is.out; is = also at.frame.payload at.is.is } }) few

-- where nothing is on the air between the two, nothing else is
none_part : (n : ℕ) (before behind : List Flown) (frame : Flown) → NoneFly n (before ++ frame ∷ behind) → NoneFly n before × NoneFly n behind
none_part n [] behind frame none = (tt, none.1)
none_part n (one ∷ before) behind frame none = let rest = none_part n before behind frame none.1 in ((none.0, rest.0), rest.1)

goes_alone : (n later : ℕ) (here : Phase) (m : Machine) (Is : List ℕ → Type 0) → NoneGo n m → (out : GoesOut n Is later here m) → GoesAlone n Is later here m out
goes_alone n later here m Is none (Given request payload asking under_way gives line is few) = none.flies
goes_alone n later here m Is none (Aired at few) = none_part n at.before at.behind at.frame (subst (λ (fs : List Flown). NoneFly n fs) at.are none.flies)

-- ---- submitted

pub get_given : (n session left passes ticks : ℕ) (now : NodeState) (old : HostState) (m : Machine) → HasSubmitted n (λ payload. payload ≡ form NonceGet) now old passes ticks m → NoneGo n m → TextWaits n session m.host.state → 6 ≤ left
    → Exchange n session left (Submitting passes ticks) m
get_given n session left passes ticks now old m given none waits few =
    let out = given.out 1 (omega arith) in Gets 1 given.other waits out (goes_alone n 1 (Submitting passes ticks) m (λ payload. payload ≡ form NonceGet) none out) none.told few

pub text_given : (n session left passes ticks : ℕ) (device : State) (now : NodeState) (old : HostState) (m : Machine) → HasSubmitted n (IsForLive session device) now old passes ticks m → NoneGo n m → (at : IsThere n m.outside.devices) → at.device ≡ device → 4 ≤ left
    → Exchange n session left (Submitting passes ticks) m
text_given n session left passes ticks device now old m given none at same few =
    let out : GoesOut n (IsForLive session at.device) 1 (Submitting passes ticks) m =
    out_also n 1 (Submitting passes ticks) m (IsForLive session device) (IsForLive session at.device) (λ payload is. subst (λ (d : State). IsForLive session d payload) (sym same) is) (given.out 1 (omega arith)) in
    Texts 1 at given.other out (goes_alone n 1 (Submitting passes ticks) m (IsForLive session at.device) none out) none.told few

pub nonce_given : (n session left passes ticks : ℕ) (now : NodeState) (old : HostState) (m : Machine) → HasSubmitted n (OffersLive n old) now old passes ticks m → NoneGo n m → (at : IsThere n m.outside.devices) → ReportWaits session at.device → 2 ≤ left
    → Exchange n session left (Submitting passes ticks) m
nonce_given n session left passes ticks now old m given none at waits few =
    let out : GoesOut n (OffersLive n m.host.state) 1 (Submitting passes ticks) m =
    out_also n 1 (Submitting passes ticks) m (OffersLive n old) (OffersLive n m.host.state)
    (λ payload is. record { nonce = is.nonce; live = ap (λ (accounts : List Account). live_of accounts n) given.nonces ∙ is.live; is = is.is }) (given.out 1 (omega arith)) in
    Nonces 1 at given.other waits out (goes_alone n 1 (Submitting passes ticks) m (OffersLive n m.host.state) none out) none.told few

-- ---- to be given

pub text_sealed : (n session left : ℕ) (here : Phase) (device : State) (old : HostState) (events : List HostEvent) (m : Machine) → SealsForLive n session device old events → m.host.state ≡ after_all old events → old.requests.queue ≡ [] → NoneGo n m
    → (at : IsThere n m.outside.devices) → at.device ≡ device → IsOwed here m → 4 ≤ left → Exchange n session left here m
text_sealed n session left here device old events m seals then_is queue none at same owed few =
    Seals seals.text at none owed (ap (λ (h : HostState). h.requests.queue) then_is ∙ (ap (λ (r : RequestsState). r.queue) seals.sealed.requests ∙ queue))
    (ap (λ (h : HostState). (node_of h n).text) then_is ∙ ap (λ (x : NodeState). x.text) seals.sealed.node) (subst (λ (d : State). IsForLive session d seals.text) (sym same) seals.is) few

pub nonce_waits : (n session left : ℕ) (here : Phase) (old new : HostState) (m : Machine) → HasOffer n old new → m.host.state ≡ new → (node_of m.host.state n).text ≡ None → NoneGo n m → (at : IsThere n m.outside.devices) → ReportWaits session at.device → IsOwed here m → 2 ≤ left
    → Exchange n session left here m
nonce_waits n session left here old new m offers then_is no_text none at waits owed few =
    Offers offers.nonce at none owed (ap (λ (h : HostState). h.requests.queue) then_is ∙ offers.queue) no_text (ap (λ (h : HostState). live_of h.nonces n) then_is ∙ offers.live) waits few
