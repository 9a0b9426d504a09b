-- Laws of runs of a host alone, and of those that end at rest.
use Rattle.std.proofs.Common.{◌≡◌, Bool, true, false, List, refl, subst}
use Rattle.zw_text.specs.declared.entry.Entry.{Entry}
use Rattle.proof_asking.specs.proof_requests.proof_alone.State.{HostMachine}
use Rattle.proof_asking.specs.proof_requests.proof_alone.Phases.{Phase, Resting}
use Rattle.proof_asking.specs.proof_requests.proof_alone.Runs.{Run, Told, ToldWhole}

pub by_whole : (Law : Bool → List Entry → Type 0) (start : HostMachine) → ((heard : List Entry) → ToldWhole start heard → Law true heard) → ((heard : List Entry) → Told start heard → Law false heard)
    → (whole : Bool) (here : Phase) (heard : List Entry) (m : HostMachine) → Run start here heard m → (whole ≡ true → (here ≡ Resting) × (m.left ≡ 0)) → Law whole heard
by_whole Law start full part true here heard m run rests = full heard (m, subst (λ (p : Phase). Run start p heard m) (rests refl).0 run)
by_whole Law start full part false here heard m run rests = part heard (here, m, run)

-- and one that needs that no tick is to come
pub by_rest : (Law : Bool → List Entry → Type 0) (start : HostMachine) → ((heard : List Entry) (m : HostMachine) → Run start Resting heard m → m.left ≡ 0 → Law true heard)
    → ((heard : List Entry) → Told start heard → Law false heard)
    → (whole : Bool) (here : Phase) (heard : List Entry) (m : HostMachine) → Run start here heard m → (whole ≡ true → (here ≡ Resting) × (m.left ≡ 0)) → Law whole heard
by_rest Law start full part true here heard m run rests = full heard m (subst (λ (p : Phase). Run start p heard m) (rests refl).0 run) (rests refl).1
by_rest Law start full part false here heard m run rests = part heard (here, m, run)
