-- Nonces that are offered, given and taken.
use Rattle.std.proofs.Common.{◌≡◌, ℕ, ◌+◌, ◌≤◌, List, [], ◌∷◌, ◌++◌, length, refl, ap, sym, ◌∙◌, subst, arith}
use Rattle.std.specs.Prelude.{Bool, true, false, Option, Some, None, IsSome, slice_index}
use Rattle.zw_base.specs.Faults.{Rose}
use Rattle.s0_session.specs.Nonces.{live_of, given_of, new_nonce}
use Rattle.host_keep.specs.Keeping.{OptAdds, Kept}
use Rattle.host_keep.specs.Rows.{AreBytes, IsRecord}
use Rattle.host_keep.specs.RecordText.{record_text}
use Rattle.host_keep.specs.declared.record.Record.TheVariants.{Given}
use Rattle.host_node.specs.State.{SealsText, count_at}
use Rattle.host_model.specs.State.{HostState, node_of}
use Rattle.host_model.specs.Events.{HostEvent, Offers, Gives, Takes_nonce, Is_unkept}
use Rattle.host_model.specs.After.{after}
use Rattle.host_model.specs.Outs.{outs}
use Rattle.host_model.specs.Records.{records_at, KeepsInRange}
use Rattle.host_model.specs.Did.{texts_of, is_unkept, RoseIf}
use Rattle.host_model.specs.May.{May}
use Rattle.host_model.specs.Taking.{NonceGetEvents, NonceReportEvents}
use Rattle.host_step_kept.specs.Choices.{chosen}
use Rattle.host_step_bytes.specs.Calls.{Scene, Does}
use Rattle.host_node.specs.State.{NodeState}
use Rattle.host_model.proofs.EventLists.{none_added}
use Rattle.host_step_bytes.proofs.CallLists.{does_one, does_kept, does_nothing}
use Rattle.host_step_bytes.proofs.OneMessage.{kept_or}

-- an event that may happen, or one that may always
pub may_chosen : (h : HostState) (is_kept : Bool) (kept unkept : HostEvent) → May h kept → May h unkept → May h (chosen is_kept kept unkept)
may_chosen h true kept unkept may other = may
may_chosen h false kept unkept may other = other

-- the live nonce is offered
pub nonce_offered : (n : ℕ) (nonce : List ℕ) (a b : Scene) → live_of a.host.nonces n ≡ Some nonce → b.host ≡ after a.host (Offers n) → b.outs ≡ a.outs ++ outs a.host (Offers n)
    → OptAdds a.shelf.records b.shelf.records [] → a.shelf.faults ≤ b.shelf.faults → Does (NonceGetEvents n (live_of a.host.nonces n)) a b
nonce_offered n nonce a b live host put records falls =
    does_one (NonceGetEvents n (live_of a.host.nonces n)) (Offers n) a b (subst (λ (o : Option (List ℕ)). NonceGetEvents n o (Offers n ∷ [])) (sym live) refl)
    (subst (λ (o : Option (List ℕ)). IsSome o) (sym live) refl) tt host put records tt falls

-- a new one is given
pub nonce_given : (n : ℕ) (drawn : List ℕ) (is_kept : Bool) (a b : Scene) → live_of a.host.nonces n ≡ None → length drawn ≡ 8 → AreBytes drawn
    → IsRecord (Given n (given_of a.host.nonces n + 1) (new_nonce (given_of a.host.nonces n) drawn))
    → Kept is_kept (record_text (Given n (given_of a.host.nonces n + 1) (new_nonce (given_of a.host.nonces n) drawn))) a.shelf b.shelf
    → b.host ≡ after a.host (chosen is_kept (Gives n drawn) (Is_unkept n)) → b.outs ≡ a.outs ++ outs a.host (chosen is_kept (Gives n drawn) (Is_unkept n)) → a.shelf.faults ≤ b.shelf.faults
    → Does (NonceGetEvents n (live_of a.host.nonces n)) a b
nonce_given n drawn is_kept a b none eight bytes range kept host put falls =
    does_kept (NonceGetEvents n (live_of a.host.nonces n)) is_kept (Gives n drawn) (Is_unkept n) (Given n (given_of a.host.nonces n + 1) (new_nonce (given_of a.host.nonces n) drawn)) a b
    (subst (λ (o : Option (List ℕ)). NonceGetEvents n o (chosen is_kept (Gives n drawn) (Is_unkept n) ∷ [])) (sym none) (drawn, eight, kept_or is_kept (Gives n drawn) (Is_unkept n)))
    (may_chosen a.host is_kept (Gives n drawn) (Is_unkept n) (none, eight, bytes) tt) refl range refl refl refl kept host put falls

rose_if : (is_kept : Bool) (kept unkept : HostEvent) (faults faults' : ℕ) → is_unkept kept ≡ false → (is_kept ≡ false → Rose faults faults') → RoseIf (is_unkept (chosen is_kept kept unkept)) faults faults'
rose_if true kept unkept faults faults' is rose = subst (λ (b : Bool). RoseIf b faults faults') (sym is) tt
rose_if false kept unkept faults faults' is rose = by_kind (is_unkept unkept) faults faults' (rose refl)
  where
    by_kind : (b : Bool) (faults faults' : ℕ) → Rose faults faults' → RoseIf b faults faults'
    by_kind true faults faults' rose = rose
    by_kind false faults faults' rose = tt

-- a nonce of a node is taken
pub nonce_taken : (n seen : ℕ) (text own_nonce nonce : List ℕ) (is_kept : Bool) (a b : Scene) → count_at (node_of a.host n) (slice_index nonce 0) ≡ Some seen → SealsText (node_of a.host n) a.host.keys own_nonce nonce text → length own_nonce ≡ 8
    → KeepsInRange a.host (chosen is_kept (Takes_nonce n seen text) (Is_unkept n))
    → OptAdds a.shelf.records b.shelf.records (texts_of (records_at a.host (chosen is_kept (Takes_nonce n seen text) (Is_unkept n)))) → (is_kept ≡ false → Rose a.shelf.faults b.shelf.faults)
    → ((node_of a.host n).seen ≡ seen → is_kept ≡ true) → b.host ≡ after a.host (chosen is_kept (Takes_nonce n seen text) (Is_unkept n)) → b.outs ≡ a.outs ++ outs a.host (chosen is_kept (Takes_nonce n seen text) (Is_unkept n)) → a.shelf.faults ≤ b.shelf.faults
    → Does (NonceReportEvents a.host n nonce (count_at (node_of a.host n) (slice_index nonce 0))) a b
nonce_taken n seen text own_nonce nonce is_kept a b counted seals eight range records rose unasked host put falls =
    does_one (NonceReportEvents a.host n nonce (count_at (node_of a.host n) (slice_index nonce 0))) (chosen is_kept (Takes_nonce n seen text) (Is_unkept n)) a b
    (subst (λ (o : Option ℕ). NonceReportEvents a.host n nonce o (chosen is_kept (Takes_nonce n seen text) (Is_unkept n) ∷ [])) (sym counted)
    (own_nonce, text, seals, kept_or is_kept (Takes_nonce n seen text) (Is_unkept n), λ same. ap (λ (b : Bool). chosen b (Takes_nonce n seen text) (Is_unkept n) ∷ []) (unasked same)))
    (may_chosen a.host is_kept (Takes_nonce n seen text) (Is_unkept n) (nonce, own_nonce, counted, seals, eight) tt) range host put records
    (rose_if is_kept (Takes_nonce n seen text) (Is_unkept n) a.shelf.faults b.shelf.faults refl rose) falls

-- a nonce that is not taken is nothing
pub no_nonce : (n : ℕ) (nonce : List ℕ) (a : Scene) (state : NodeState) (found : Option ℕ) → state ≡ node_of a.host n → found ≡ count_at state (slice_index nonce 0) → found ≡ None
    → Does (NonceReportEvents a.host n nonce (count_at (node_of a.host n) (slice_index nonce 0))) a a
no_nonce n nonce a state found is counted none =
    let so : count_at (node_of a.host n) (slice_index nonce 0) ≡ None = ap (λ (s : NodeState). count_at s (slice_index nonce 0)) (sym is) ∙ sym counted ∙ none in
    does_nothing (NonceReportEvents a.host n nonce (count_at (node_of a.host n) (slice_index nonce 0))) a a
    (subst (λ (o : Option ℕ). NonceReportEvents a.host n nonce o []) (sym so) refl) refl refl (none_added a.shelf.records) (omega arith)
