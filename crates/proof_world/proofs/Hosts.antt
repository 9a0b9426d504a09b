-- One event of a host: an interview that ends well is of a node that is joined, what it asks for fits, and it keeps what is known of what was asked.
use Rattle.std.proofs.Common.{◌≡◌, ℕ, zero, suc, ◌≤◌, Bool, true, false, if◌then◌else◌, List, [], ◌∷◌, ◌++◌, length, take, Option, Some, None, refl, sym, ap, ◌∙◌, subst, arith, length-append}
use Rattle.std.proofs.lemmas.Bool.{eqb-true}
use Rattle.chip_functions.specs.declared.notice.Update.{Update}
use Rattle.chip_functions.specs.declared.notice.Update.TheVariants.{Received}
use Rattle.s0_crypto.specs.Seal.{code_of}
use Rattle.s0_crypto.proofs.StreamLemmas.{length-ofb_from}
use Rattle.host_requests.specs.Next.{ends_at_update, purpose_ends_at_update}
use Rattle.host_requests.specs.Events.{RequestsEvent, interviewed_from}
use Rattle.host_requests.specs.Events.RequestsEvent.{Pushes, PushesInterview}
use Rattle.host_requests.specs.declared.under_way.UnderWay.{UnderWay}
use Rattle.host_requests.specs.declared.task.Task.{Task}
use Rattle.host_requests.specs.declared.task.Task.TheVariants.{Plain, Offer, Segment, First, Second}
use Rattle.host_requests.specs.declared.task.Purpose.{Purpose}
use Rattle.host_requests.specs.declared.task.Purpose.TheVariants.{Housekeeping}
use Rattle.proof_host.specs.host_node.Events.{FitsPlan}
use Rattle.proof_host.specs.host_node.Events.NodeEvent.{Starts as node_starts}
use Rattle.proof_host.specs.host_node.declared.attempt.Plan.{Plan}
use Rattle.proof_host.specs.host_node.declared.attempt.Plan.TheVariants.{Whole, Segments, Sealed}
use Rattle.proof_host.specs.host_model.State.{HostState}
use Rattle.proof_host.specs.host_model.After.{after}
use Rattle.proof_host.specs.host_model.May.{May}
use Rattle.proof_host.specs.host_model.Events.{HostEvent, Queues, Queues_interview, Requests_do, Interviews, Takes_nonce, Starts}
use Rattle.proof_host.specs.host_model.Recording.{IsOfJoined}
use Rattle.proof_serial.specs.Host.{FitsTask, FitsIn, FitsRequest, FitsEvent}
use Rattle.proof_world.specs.Lines.{IsErrand, AsksNothing}
use Rattle.proof_world.specs.Asking.{IsTaskOf, IsPurposeOf, IsUnderWayOf, IsJoined, HostAsks}
use Rattle.proof_world.proofs.Always.{IsInOrder}
use Rattle.proof_world.proofs.Nodes.{BringsPlain, StartsShort, nodes_stay}
use Rattle.proof_world.proofs.Tasks.{BringsOf, HostBringsOf, tasks_of, tasks_weaker}

-- ---- sealed texts

-- a text that seals at most 26 bytes under a nonce of eight has at most 46
sealed_short : (plain own cipher code bytes : List ℕ) (first : ℕ) → length plain ≤ 26 → length own ≡ 8 → length cipher ≡ suc (length plain) → length code ≤ 8
    → bytes ≡ 152 ∷ 129 ∷ (own ++ (cipher ++ first ∷ code)) → length bytes ≤ 46
sealed_short plain own cipher code bytes first short eight long few is =
    subst (λ (l : List ℕ). length l ≤ 46) (sym is) (omega (arith, length-append own (cipher ++ first ∷ code), length-append cipher (first ∷ code)))

take_short : {A : Type 0} (count : ℕ) (xs : List A) → length (take count xs) ≤ count
take_short zero xs = omega arith
take_short (suc count) [] = omega arith
take_short (suc count) (x ∷ xs) = omega (arith, take_short count xs)

text_short : (h : HostState) (n seen : ℕ) (text : List ℕ) → HostAsks h → May h (Takes_nonce n seen text) → length text ≤ 46
unfolding code_of
text_short h n seen text asks (nonce, own, counts, seals, eight) =
    let s = seals.seals in
    let short : length seals.plain ≤ 26 = subst (λ (l : Option (List ℕ)). FitsIn 26 l) seals.is_pending (asks.plains n) in
    let long : length s.cipher_text ≡ suc (length seals.plain) = ap (λ (l : List ℕ). length l) s.enciphers ∙ length-ofb_from _ _ 0 (0 ∷ seals.plain) in
    sealed_short seals.plain own s.cipher_text _ text _ short eight long (take_short 8 _) s.layout

-- ---- interviews

purpose_of : (P : ℕ → Type 0) (n b g s : ℕ) (classes : List ℕ) (purpose : Purpose) → IsPurposeOf P purpose → purpose_ends_at_update (Received n b g s classes) purpose ≡ true → P n
purpose_of P n b g s classes (Housekeeping (Second k)) is ends = subst P (sym (eqb-true n k ends)) is
purpose_of P n b g s classes (Housekeeping _) is ends = absurd cc
purpose_of P n b g s classes _ is ends = absurd cc

brought_of : (P : ℕ → Type 0) (first : Option ℕ) (n b g s : ℕ) (classes : List ℕ) (under_way : Option UnderWay) (capability : ℕ) → IsUnderWayOf P under_way
    → interviewed_from first (Received n b g s classes) under_way ≡ Some capability → P n
brought_of P first n b g s classes None capability is brought = absurd cc
brought_of P first n b g s classes (Some u) capability is brought = by (ends_at_update (Received n b g s classes) u) refl brought
  where
    by : (ends : Bool) → ends_at_update (Received n b g s classes) u ≡ ends → (if ends then first else None) ≡ Some capability → P n
    by true ends e = purpose_of P n b g s classes u.purpose is ends
    by false ends e = absurd cc

pub of_joined : (h : HostState) (event : HostEvent) → HostAsks h → May h event → IsOfJoined h event
of_joined h (Interviews n listens classes update) asks (capability, is, says) =
    brought_of (IsJoined h) h.requests.first n is.types.0 is.types.1 is.types.2 classes h.requests.under_way capability asks.tasks.under_way
    (subst (λ (u : Update). interviewed_from h.requests.first u h.requests.under_way ≡ Some capability) is.received is.brought)
of_joined h _ asks may = tt

-- ---- what is asked for

errand_fits : (task : Task) → IsErrand task → FitsTask task
errand_fits (Plain n payload) is = is
errand_fits (Offer n nonce) is = absurd is
errand_fits (Segment n payload) is = absurd is
errand_fits _ is = tt

request_fits : (event : RequestsEvent) → AsksNothing event → FitsRequest event
request_fits (Pushes task) is = absurd is
request_fits _ is = tt

pub event_fits : (h : HostState) (event : HostEvent) → HostAsks h → May h event → IsInOrder h event → FitsEvent event
event_fits h (Queues task) asks may asked = errand_fits task asked
event_fits h (Requests_do event moment) asks may asked = request_fits event asked
event_fits h (Takes_nonce n seen text) asks may asked = text_short h n seen text asks may
event_fits h _ asks may asked = tt

-- ---- what is known of what was asked

errand_of : (P : ℕ → Type 0) (task : Task) → IsErrand task → IsTaskOf P task
errand_of P (First n) is = absurd is
errand_of P (Second n) is = absurd is
errand_of P _ is = tt

request_of : (P : ℕ → Type 0) (event : RequestsEvent) → AsksNothing event → BringsOf P event
request_of P (Pushes task) is = absurd is
request_of P (PushesInterview n) is = absurd is
request_of P _ is = tt

brings_of : (h : HostState) (event : HostEvent) → IsInOrder h event → HostBringsOf (IsJoined h) event
brings_of h (Queues task) asked = errand_of (IsJoined h) task asked
brings_of h (Queues_interview n) asked = asked
brings_of h (Requests_do event moment) asked = request_of (IsJoined h) event asked
brings_of h _ asked = tt

plan_short : (plan : Plan) → FitsPlan plan → BringsPlain (node_starts plan)
plan_short Whole fits = tt
plan_short (Segments count) fits = tt
plan_short (Sealed plain) fits = fits

starts_short : (h : HostState) (event : HostEvent) → May h event → StartsShort event
starts_short h (Starts n plan more payload) may = plan_short plan may.2.1
starts_short h _ may = tt

pub event_asks : (h : HostState) (event : HostEvent) → HostAsks h → May h event → IsInOrder h event → HostAsks (after h event)
event_asks h event asks may asked =
    let stay = nodes_stay h event (starts_short h event may) in
    record {
      tasks = tasks_weaker (IsJoined h) (IsJoined (after h event)) (λ n is. (stay n).joined is) (after h event).requests (tasks_of (IsJoined h) h event asks.tasks (brings_of h event asked));
      plains = λ n. (stay n).plain (asks.plains n);
    }
