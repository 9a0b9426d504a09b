-- A host that starts has counted as many nonces of each node as the one before it, and nothing is left to be sealed.
use Rattle.std.proofs.Common.{◌≡◌, ℕ, true, false, Option, Some, None, List, refl, sym, ap, ◌∙◌, subst}
use Rattle.std.specs.Prelude.{IsSome}
use Rattle.zw_text.specs.declared.entry.Entry.{Entry}
use Rattle.host_heard.specs.declared.told.Told.{Told}
use Rattle.law_transcript.specs.Units.{Carried}
use Rattle.law_time.specs.Attempts.{Attempts}
use Rattle.host_keep.specs.Kept.{Kept, kept_of, node_of as kept_of_node}
use Rattle.host_keep.specs.Legal.{Give}
use Rattle.host_model.specs.State.{HostState, node_of}
use Rattle.proof_giving.specs.proof_queue.proof_world.Restarts.{AreHeld, IsHeld}
use Rattle.proof_giving.specs.proof_queue.proof_attempts.proof_requests.law_host.Heard.{heeds_alone}
use Rattle.proof_giving.proofs.Counting.{each_starts}
use Rattle.proof_giving.proofs.Queued.{PayloadsBring}
use Rattle.proof_giving.specs.Told.{attempts_so_far}
use Rattle.proof_giving.proofs.Told.{attempts_start}
use Rattle.proof_choice.specs.Ready.{ReadySo}
use Rattle.proof_choice.proofs.Readies.{Bare, anew_ready}
use Rattle.proof_choice.proofs.ReadyGoes.{GrowsAlong}
use Rattle.proof_choice.proofs.ReadyWalk.{StartsReady}

abbrev pub GiveOne : Type 0
GiveOne = (texts : List (List ℕ)) (kept other : Kept) → Give texts kept → Give texts other → kept ≡ other

seen_held : GiveOne → (old new : HostState) (texts : List (List ℕ)) → AreHeld old texts → AreHeld new texts → (n : ℕ) → (node_of new n).seen ≡ (node_of old n).seen
seen_held one old new texts was now n =
    let first : Give texts (kept_of was.records) = record { records = was.records; are = was.are; legal = was.legal; gives = refl } in
    let later : Give texts (kept_of now.records) = record { records = now.records; are = now.are; legal = now.legal; gives = refl } in
    (now.holds.nodes n).seen ∙ ap (λ (k : Kept). (kept_of_node k n).seen) (one texts (kept_of now.records) (kept_of was.records) later first) ∙ sym (was.holds.nodes n).seen

pub seen_starts : GiveOne → (old new : HostState) (records : Option (List (List ℕ))) → IsSome records → IsHeld old records → IsHeld new records → (n : ℕ) → (node_of new n).seen ≡ (node_of old n).seen
seen_starts one old new None told was now n = absurd (let bad : false ≡ true = told in cc)
seen_starts one old new (Some texts) told was now n = seen_held one old new texts was now n

pub starts_ready : GiveOne → (grows : GrowsAlong) (brings : PayloadsBring) (taken : List Entry → Carried → List Told) → StartsReady grows brings taken
starts_ready one grows brings taken before words m state opens anew_is ground later tie n from to =
    let heeds = heeds_alone taken in
    let tables = ground.0.0.sleep.0.0.0.1.0.0.0.0.0.0 in
    let now = later.0.0.sleep.0.0.0.1.0.0.0.0.0.0 in
    let seen : (node_of state n).seen ≡ (node_of m.state n).seen = seen_starts one m.state state m.records tables.told tables.held now.held n in
    let bare : Bare (node_of state n) = each_starts Bare (λ s. (refl, refl)) (λ s. (refl, refl)) (refl, refl) m.keys m.records state tables.told opens n from in
    subst (λ (a : Attempts). ReadySo a (node_of state n)) (sym (attempts_start taken n before words anew_is))
    (anew_ready (attempts_so_far heeds n before) (node_of state n) (node_of state n) (seen ∙ sym (tie n from to).seen) bare)
