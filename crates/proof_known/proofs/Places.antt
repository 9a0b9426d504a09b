-- The places of the store, as they are known of a host alone and of one with a machine.
use Rattle.std.proofs.Common.{ℕ, inl, inr}
use Rattle.std.specs.Prelude.{◌⊎◌, IsTrue, is_some}
use Rattle.zw_base.specs.declared.property.Property.{Property}
use Rattle.value_store.specs.Values.{stored_of}
use Rattle.proof_waking.specs.host_model.State.{HostState}
use Rattle.proof_transcript.proofs.StoredPlaces.{IsSet, KeepsNoMore}
use Rattle.proof_known.specs.Known.{HasPlaces, IsSetBy}

pub has_places : (h : HostState) → KeepsNoMore h → HasPlaces h
has_places h keeps n p reserved = by (keeps n p reserved)
  where
    by : IsSet h.commands n p ⊎ IsTrue (is_some (stored_of h.store n p).heard) → IsSetBy h.commands n p ⊎ IsTrue (is_some (stored_of h.store n p).heard)
    by (inl set) = inl (record { number = set.number; taken = set.taken; at = set.at; sets = set.sets })
    by (inr heard) = inr heard

pub no_more_places : (h : HostState) → HasPlaces h → KeepsNoMore h
no_more_places h has n p reserved = by (has n p reserved)
  where
    by : IsSetBy h.commands n p ⊎ IsTrue (is_some (stored_of h.store n p).heard) → IsSet h.commands n p ⊎ IsTrue (is_some (stored_of h.store n p).heard)
    by (inl set) = inl (record { number = set.number; taken = set.taken; at = set.at; sets = set.sets })
    by (inr heard) = inr heard
