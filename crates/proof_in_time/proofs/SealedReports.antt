-- What the host makes of a report of the open session of a lock, sealed for its live nonce.
use Rattle.std.proofs.Common.{◌≡◌, ◌≢◌, ℕ, ◌%◌, ◌==◌, ◌&&◌, Bool, true, Some, List, [], ◌∷◌, ◌++◌, inl, inr, refl, sym, ap, ◌∙◌, subst, append-nil}
use Rattle.std.specs.Prelude.{Option, is_some}
use Rattle.std.proofs.lemmas.Bool.{eq-eqb}
use Rattle.s0_session.specs.Nonces.{account_of}
use Rattle.supervision.specs.Host.{open_session}
use Rattle.supervision.specs.Session.{wire_id}
use Rattle.supervision.specs.declared.session.TheConstants.{WORKING}
use Rattle.host_heard.specs.Telling.{heard_at}
use Rattle.host_heard.specs.declared.payload.Heard.TheVariants.{Messages}
use Rattle.host_heard.specs.declared.told.Told.{Told}
use Rattle.host_heard.specs.declared.told.Told.TheVariants.{Report}
use Rattle.host_model.specs.After.{after}
use Rattle.host_model.specs.Events.{HostEvent, Spends}
use Rattle.host_model.specs.State.{HostState, node_of}
use Rattle.host_model.specs.Taking.{AreTaken, PayloadEvents, ends_from}
use Rattle.device_kinds.specs.Answers.{report_status}
use Rattle.proof_course.specs.HostNonces as host
use Rattle.proof_course.specs.NonceLaws.{NamesGiven}
use Rattle.proof_messages.specs.Numbers.{HasGiven}
use Rattle.proof_messages.specs.Opened.{OpensAs}
use Rattle.proof_messages.specs.Payloads.{IsSealed}
use Rattle.proof_in_time.specs.Exchange.{EndsForLive}
use Rattle.proof_in_time.specs.Reporting.{EndsSealed, EndsSession}
use Rattle.proof_in_time.proofs.Reported.{ends_by}

-- the law of what the host opens
abbrev pub Opens : Type 0
Opens = (h : HostState) (n : ℕ) (nonces : List (List ℕ)) (c : host.Nonces) (number : ℕ) (plain payload : List ℕ) (messages : List Told) (events : List HostEvent) → HasGiven nonces c.given c.is_live (account_of h.nonces n)
    → IsSealed h.keys (ends_from n) nonces number plain payload → NamesGiven c number → heard_at plain ≡ Messages messages → PayloadEvents h n payload (heard_at payload) events → OpensAs h n payload messages events (host.names c number)

-- a report that was opened
spent_ends : (h : HostState) (n session status : ℕ) (wakes : Bool) (payload : List ℕ) (events : List HostEvent) → open_session (node_of h n).book ≡ Some session → status ≢ WORKING
    → OpensAs h n payload (Report (wire_id session) (report_status status) wakes ∷ []) events true → EndsSealed n session events
spent_ends h n session status wakes payload events opened over (inl unkept) = inl unkept
spent_ends h n session status wakes payload events opened over (inr (rest, are, taken)) = inr (rest, (are, alone taken))
  where
    alone : AreTaken (after h (Spends n)) n payload true (Report (wire_id session) (report_status status) wakes ∷ []) rest → EndsSession n session rest
    alone (first, more, said, one, none) =
        subst (λ (es : List HostEvent). EndsSession n session es) (sym (said ∙ (ap (λ (l : List HostEvent). first ++ l) none ∙ append-nil first))) (ends_by (after h (Spends n)) n session status wakes first opened over one)

pub sealed_ends : Opens → (n session : ℕ) (nonces : List (List ℕ)) (c : host.Nonces) (h : HostState) (payload : List ℕ) (events : List HostEvent) → HasGiven nonces c.given c.is_live (account_of h.nonces n) → EndsForLive n session h payload
    → open_session (node_of h n).book ≡ Some session → PayloadEvents h n payload (heard_at payload) events → EndsSealed n session events
sealed_ends opens n session nonces c h payload events gave ends opened follows =
    spent_ends h n session ends.status ends.tells.wakes payload events opened ends.over (subst (λ (b : Bool). OpensAs h n payload (report ∷ []) events b) named
    (opens h n nonces c c.given ends.plain payload (report ∷ []) events gave sealed (λ is. refl) ends.tells.heard follows))
  where
    report : Told
    report = Report (wire_id session) (report_status ends.status) ends.tells.wakes

    sealed : IsSealed h.keys (ends_from n) nonces c.given ends.plain payload
    sealed = record { own = ends.own; nonce = ends.nonce; eight = ends.eight; is = gave.last ends.nonce ends.live; text = ends.is }

    named : host.names c c.given ≡ true
    named = ap (λ (b : Bool). b && (c.given % 256 == c.given % 256)) (sym gave.lives ∙ ap (λ (o : Option (List ℕ)). is_some o) ends.live) ∙ eq-eqb (c.given % 256) (c.given % 256) refl
