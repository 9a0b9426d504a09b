-- Security messages: what became of one, and what it tells.
use Rattle.std.proofs.Common.{◌≡◌, ℕ, ◌≤◌, List, [], ◌∷◌, ◌++◌, refl, ap, sym, ◌∙◌, subst, inl, inr}
use Rattle.std.specs.Prelude.{Bool, true, false, Option, Some, None, IsSome, if◌then◌else◌}
use Rattle.encap.specs.Opening.{begins_with, opened_at}
use Rattle.s0_session.specs.Nonces.{live_of}
use Rattle.host_keep.specs.Keeping.{OptAdds, Kept}
use Rattle.host_keep.specs.RecordText.{record_text}
use Rattle.host_keep.specs.Rows.{IsRecord}
use Rattle.host_keep.specs.declared.record.Record.TheVariants as record_of
use Rattle.host_heard.specs.declared.payload.Heard.{Heard}
use Rattle.host_heard.specs.declared.payload.Heard.TheVariants.{Sealed, Unread}
use Rattle.host_heard.specs.declared.told.Told.{Told}
use Rattle.host_heard.specs.Telling.{heard_at, heard_by, told_in}
use Rattle.host_model.specs.State.{HostState}
use Rattle.host_model.specs.Events.{HostEvent, Is_unkept, Spends, Spends_unread, Unreads}
use Rattle.host_model.specs.After.{after}
use Rattle.host_model.specs.Outs.{outs}
use Rattle.host_model.specs.Did.{after_all}
use Rattle.host_model.specs.Taking.{IsOpened, OpensTo, SealedEvents, PayloadEvents, AreTaken, named_by}
use Rattle.host_step_kept.specs.declared.opening.Opened.{Opened}
use Rattle.host_step_kept.specs.declared.opening.Opened.TheVariants.{Unkept, InVain, Opens}
use Rattle.host_step_kept.specs.Opening.{opening, is_kept, OpensBy}
use Rattle.host_step_bytes.specs.Calls.{Scene, Does, Are}
use Rattle.host_step_bytes.proofs.CallLists.{does_one, does_as, then_does}

-- ---- payloads

-- a payload that is sealed begins as a Security message does
sealed_by : (b : Bool) (o : Option (List Told)) → (if b then Sealed else heard_by o) ≡ Sealed → b ≡ true
sealed_by true o e = refl
sealed_by false None e = cc
sealed_by false (Some messages) e = cc

pub sealed_begins : (payload : List ℕ) → heard_at payload ≡ Sealed → begins_with payload 152 129 ≡ true
unfolding heard_at
sealed_begins payload e = sealed_by (begins_with payload 152 129) (told_in (opened_at payload)) e

-- a payload that tells nothing
pub unread_does : (Kind : List HostEvent → Type 0) (n : ℕ) (payload : List ℕ) (a b : Scene) → Kind (Unreads n payload ∷ []) → b.host ≡ a.host → b.outs ≡ a.outs ++ outs a.host (Unreads n payload)
    → OptAdds a.shelf.records b.shelf.records [] → a.shelf.faults ≤ b.shelf.faults → Does Kind a b
unread_does Kind n payload a b are host put records falls = does_one Kind (Unreads n payload) a b are tt tt host put records tt falls

pub payload_unread : (n : ℕ) (payload : List ℕ) (heard : Heard) (a b : Scene) → heard ≡ Unread → b.host ≡ a.host → b.outs ≡ a.outs ++ outs a.host (Unreads n payload)
    → OptAdds a.shelf.records b.shelf.records [] → a.shelf.faults ≤ b.shelf.faults → Does (PayloadEvents a.host n payload heard) a b
payload_unread n payload heard a b is host put records falls =
    unread_does (PayloadEvents a.host n payload heard) n payload a b (subst (λ (x : Heard). PayloadEvents a.host n payload x (Unreads n payload ∷ [])) (sym is) refl) host put records falls

-- one that names no live nonce
pub unnamed_unread : (n : ℕ) (payload : List ℕ) (named : Option (List ℕ)) (a b : Scene) → named ≡ None → b.host ≡ a.host → b.outs ≡ a.outs ++ outs a.host (Unreads n payload)
    → OptAdds a.shelf.records b.shelf.records [] → a.shelf.faults ≤ b.shelf.faults → Does (SealedEvents a.host n payload named) a b
unnamed_unread n payload named a b is host put records falls =
    unread_does (SealedEvents a.host n payload named) n payload a b (subst (λ (o : Option (List ℕ)). SealedEvents a.host n payload o (Unreads n payload ∷ [])) (sym is) refl) host put records falls

-- ---- what became of one that names the live nonce

named_live : (payload : List ℕ) (live : Option (List ℕ)) (nonce : List ℕ) → named_by payload live ≡ Some nonce → IsSome live
named_live payload None nonce e = cc
named_live payload (Some live) nonce e = refl

-- its event happened
pub opening_did : (n : ℕ) (payload nonce : List ℕ) (opened : Opened) (a b : Scene) → named_by payload (live_of a.host.nonces n) ≡ Some nonce
    → IsRecord (record_of.Spent n) → Kept (is_kept opened) (record_text (record_of.Spent n)) a.shelf b.shelf → b.host ≡ after a.host (opening n payload opened)
    → b.outs ≡ a.outs ++ outs a.host (opening n payload opened) → a.shelf.faults ≤ b.shelf.faults → Does (Are (opening n payload opened ∷ [])) a b
opening_did n payload nonce Unkept a b named range kept host put falls = does_one (Are (Is_unkept n ∷ [])) (Is_unkept n) a b refl tt tt host put kept.0 kept.1 falls
opening_did n payload nonce InVain a b named range kept host put falls =
    does_one (Are (Spends_unread n payload ∷ [])) (Spends_unread n payload) a b refl (named_live payload (live_of a.host.nonces n) nonce named) (range, tt) host put kept tt falls
opening_did n payload nonce (Opens messages) a b named range kept host put falls =
    does_one (Are (Spends n ∷ [])) (Spends n) a b refl (named_live payload (live_of a.host.nonces n) nonce named) (range, tt) host put kept tt falls

-- it was not opened, or in vain
pub opened_no_further : (n : ℕ) (payload nonce : List ℕ) (opened one : Opened) (a b : Scene) → named_by payload (live_of a.host.nonces n) ≡ Some nonce → opened ≡ one
    → IsOpened a.host n nonce payload (opening n payload one ∷ []) → Does (Are (opening n payload opened ∷ [])) a b
    → Does (SealedEvents a.host n payload (named_by payload (live_of a.host.nonces n))) a b
opened_no_further n payload nonce opened one a b named is so does =
    does_as (Are (opening n payload opened ∷ [])) (SealedEvents a.host n payload (named_by payload (live_of a.host.nonces n))) a b does
    (λ (events : List HostEvent) are.
    subst (λ (o : Option (List ℕ)). SealedEvents a.host n payload o events) (sym named)
    (subst (λ (l : List HostEvent). IsOpened a.host n nonce payload l) (sym (are ∙ ap (λ (x : Opened). opening n payload x ∷ []) is)) so))

pub in_vain_is : (h : HostState) (n : ℕ) (payload nonce : List ℕ) (opened : Opened) → opened ≡ InVain → OpensBy h n nonce payload opened → IsOpened h n nonce payload (opening n payload InVain ∷ [])
in_vain_is h n payload nonce opened is opens = inr (inl (subst (λ (x : Opened). OpensBy h n nonce payload x) is opens, refl))

-- it tells these messages, which were taken
pub opened_and_taken : (n : ℕ) (payload nonce : List ℕ) (opened : Opened) (messages : List Told) (a b d : Scene) → named_by payload (live_of a.host.nonces n) ≡ Some nonce → opened ≡ Opens messages
    → OpensBy a.host n nonce payload opened → Does (Are (opening n payload opened ∷ [])) a b → Does (AreTaken b.host n payload true messages) b d
    → Does (SealedEvents a.host n payload (named_by payload (live_of a.host.nonces n))) a d
opened_and_taken n payload nonce opened messages a b d named is opens does takes =
    then_does (Are (opening n payload opened ∷ [])) (AreTaken b.host n payload true messages) (SealedEvents a.host n payload (named_by payload (live_of a.host.nonces n))) a b d does takes
    (λ (x : List HostEvent) (y : List HostEvent) state first later.
    let one : x ≡ Spends n ∷ [] = first ∙ ap (λ (o : Opened). opening n payload o ∷ []) is in
    let told : OpensTo a.host n nonce payload messages = subst (λ (o : Opened). OpensBy a.host n nonce payload o) is opens in
    subst (λ (o : Option (List ℕ)). SealedEvents a.host n payload o (x ++ y)) (sym named)
    (inr (inr (
      messages,
      y,
      told,
      ap (λ (l : List HostEvent). l ++ y) one,
      subst (λ (h : HostState). AreTaken h n payload true messages y) (state ∙ ap (λ (l : List HostEvent). after_all a.host l) one) later,
    ))))
