-- An attempt that is late stays so at a request that is new, but where that begins the next one.
use Rattle.std.proofs.Common.{◌≡◌, ℕ, ◌+◌, ◌&&◌, ◌||◌, Bool, true, false, if◌then◌else◌, List, [], ◌∷◌, ◌++◌, refl, ap, ◌∙◌, subst, append_assoc}
use Rattle.std.specs.Prelude.{nat_le}
use Rattle.std.specs.List.{AllByRecursion, list_any}
use Rattle.zw_words.specs.declared.side.Side.TheVariants.{Host}
use Rattle.zw_text.specs.declared.entry.Entry.{Entry}
use Rattle.zw_text.specs.declared.entry.Entry.TheVariants as entry
use Rattle.host_heard.specs.declared.told.Told.{Told}
use Rattle.law_transcript.specs.Units.{Carried, sending_in}
use Rattle.law_time.specs.Attempts.{Attempts, anew, attempt_is_over, attempts_by_request, ends_badly, goes_on, is_late as late_at, is_of_attempt, is_of_inner}
use Rattle.law_time.specs.Heeds.{Heeds}
use Rattle.law_time.specs.Judged.{is_acknowledgement}
use Rattle.law_time.specs.Moments.{clock}
use Rattle.law_time.specs.Queue.{requests}
use Rattle.law_time.specs.Requests.{Asked, asked, is_new}
use Rattle.law_time.specs.Sessions.{last_command}
use Rattle.proof_hearing.specs.proof_choice.proof_giving.Told.{attempts_so_far}
use Rattle.proof_hearing.proofs.Books.{last_is}
use Rattle.proof_hearing.proofs.Told.{attempts_asked}
use Rattle.proof_hearing.proofs.proof_requests_Telling.{clock_same}
use Rattle.proof_hearing.specs.proof_queue.proof_attempts.proof_requests.law_host.Heard.{heeds_alone}
use Rattle.proof_hearing.specs.proof_queue.proof_attempts.proof_requests.law_host.Nonces.{is_late}
use Rattle.proof_hearing.specs.proof_queue.proof_attempts.proof_requests.proof_alone.Steps.{IsOfUnit}
use Rattle.proof_noting.proofs.Lately.{from_late, late_on, to_late}
use Rattle.proof_noting.proofs.Marks.{marks_keep}

-- what it sends goes on with an attempt
abbrev pub goes_further : List ℕ → Bool
goes_further unit = list_any (λ (carried : Carried). goes_on carried.payload) (sending_in unit)

request_late : (now : ℕ) (own also : Bool) (unit : List ℕ) (a : Attempts) → (own ≡ true → goes_further unit ≡ true) → late_at now a ≡ true
    → late_at now (attempts_by_request own (late_at now a || also) unit a) ≡ true
request_late now false also unit a on late = ap (λ (b : Bool). (b || also) || list_any (λ tick. nat_le (tick + 100) now) a.sign) late
request_late now true also unit a on late =
    ap (λ (b : Bool). late_at now (if b then record a { sent = a.sent + 1; own = true; ready = [] } else record (anew a) { begun = a.begun + 1; sent = 1; own = true })) (on refl) ∙ late

module _ (taken : List Entry → Carried → List Told) where
  abbrev heeds : Heeds
  heeds = heeds_alone taken

  module _ (past marks : List Entry) (unit : List ℕ) (other : is_acknowledgement unit ≡ false) (new : is_new (asked past) unit ≡ true) (all : AllByRecursion IsOfUnit marks) where
    abbrev wrote : List Entry
    wrote = past ++ entry.Written Host unit ∷ []

    -- whether it is of an attempt of the node
    abbrev own : ℕ → Bool
    own n = is_of_attempt heeds n past (requests heeds past) unit

    at_once : (n : ℕ) → (own n ≡ true → goes_further unit ≡ true) → is_late heeds past n ≡ true → is_late heeds wrote n ≡ true
    at_once n on late =
        let a : Attempts = attempts_so_far heeds n past in
        let last : Asked = (requests heeds past).last in
        let also : Bool = a.own && ends_badly last (list_any (is_of_inner heeds past a.node last.frame) (last_command a.node past)) (clock past) in
        let after : Attempts = attempts_by_request (own n) (attempt_is_over heeds past last (clock past) a) unit a in
        to_late taken n wrote after (attempts_asked taken n past unit other (ap (λ (l : Asked). is_new l unit) (last_is taken past) ∙ new))
        (ap (λ (t : ℕ). late_at t after) (clock_same past (entry.Written Host unit ∷ []) (tt, tt)) ∙ request_late (clock past) (own n) also unit a on (from_late taken n past late))

    pub late_asked : (n : ℕ) → (own n ≡ true → goes_further unit ≡ true) → is_late heeds past n ≡ true → is_late heeds (past ++ entry.Written Host unit ∷ marks) n ≡ true
    late_asked n on late =
        subst (λ (l : List Entry). is_late heeds l n ≡ true) (append_assoc past (entry.Written Host unit ∷ []) marks) (late_on taken n wrote marks (marks_keep taken n wrote marks all) (at_once n on late))
