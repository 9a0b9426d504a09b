-- Tasks and purposes, by cases.
use Rattle.std.proofs.Common.{◌≡◌, ◌≢◌, ℕ, ◌≤◌, List, [], ◌∷◌, ◌++◌, Option, None, refl, sym, subst, arith}
use Rattle.std.proofs.lemmas.Bool.Decides.{nat_tests}
use Rattle.chip_functions.specs.declared.function.TheConstants.{SEND_DATA, SEND_DATA_ABORT, GET_NODE_PROTOCOL_INFO}
use Rattle.host_requests.specs.Frames.{function_of, HasPayload, StandsAlone}
use Rattle.host_requests.specs.State.{id_after}
use Rattle.host_requests.specs.Facts.{first_of, first_asked, ArePaired, due_second}
use Rattle.host_requests.specs.declared.task.Task.{Task}
use Rattle.host_requests.specs.declared.task.Task.TheVariants.{Plain, Offer, Segment, NoMore, First, Second, Members, Neighbours, IsFailed, Version, MemoryId, Capabilities}
use Rattle.host_requests.specs.declared.task.Purpose.{Purpose}
use Rattle.host_requests.specs.declared.task.Purpose.TheVariants.{Housekeeping, Attempt, Abort}

-- a task that stands alone

pub alone_payload : (t : Task) → StandsAlone t → HasPayload t
alone_payload (First n) h = absurd h
alone_payload (Second n) h = absurd h
alone_payload t h = h

pub alone_paired : (t : Task) → StandsAlone t → ArePaired None (t ∷ [])
alone_paired (First n) h = absurd h
alone_paired (Second n) h = absurd h
alone_paired t h = (refl, refl)

-- a SendData is no request of an interview, and the first of an interview alone brings a capability byte

pub send_first : (p : Purpose) → function_of p ≡ SEND_DATA → first_asked p ≡ None
send_first (Housekeeping (First n)) e = absurd (omega arith)
send_first p e = refl

pub capable_first : (p : Purpose) → function_of p ≡ GET_NODE_PROTOCOL_INFO → first_asked p ≡ None → ⊥
capable_first (Housekeeping (First n)) e none = cc
capable_first (Attempt n more payload) e none = omega arith
capable_first Abort e none = omega arith
capable_first (Housekeeping (Plain n payload)) e none = omega arith
capable_first (Housekeeping (Offer n nonce)) e none = omega arith
capable_first (Housekeeping (Segment n payload)) e none = omega arith
capable_first (Housekeeping (NoMore n)) e none = omega arith
capable_first (Housekeeping (Second n)) e none = omega arith
capable_first (Housekeeping Members) e none = omega arith
capable_first (Housekeeping (Neighbours n)) e none = omega arith
capable_first (Housekeeping (IsFailed n)) e none = omega arith
capable_first (Housekeeping Version) e none = omega arith
capable_first (Housekeeping MemoryId) e none = omega arith
capable_first (Housekeeping Capabilities) e none = omega arith

pub task_no_abort : (t : Task) → function_of (Housekeeping t) ≢ SEND_DATA_ABORT
task_no_abort t e = elim t as (λ t. function_of (Housekeeping t) ≡ SEND_DATA_ABORT → ⊥) [
  | Plain n payload ↦ λ e. omega arith
  | Offer n nonce ↦ λ e. omega arith
  | Segment n payload ↦ λ e. omega arith
  | NoMore n ↦ λ e. omega arith
  | First n ↦ λ e. omega arith
  | Second n ↦ λ e. omega arith
  | Members ↦ λ e. omega arith
  | Neighbours n ↦ λ e. omega arith
  | IsFailed n ↦ λ e. omega arith
  | Version ↦ λ e. omega arith
  | MemoryId ↦ λ e. omega arith
  | Capabilities ↦ λ e. omega arith
] e

-- tasks in pairs

pub due-paired : (due : Option ℕ) (queue : List Task) → ArePaired due queue → due_second queue ≡ due
due-paired due [] paired = sym paired
due-paired due (t ∷ rest) paired = paired.0

pub paired-append : (due : Option ℕ) (queue tasks : List Task) → ArePaired due queue → ArePaired None tasks → ArePaired due (queue ++ tasks)
paired-append due [] tasks first later = subst (λ (d : Option ℕ). ArePaired d tasks) (sym first) later
paired-append due (t ∷ rest) tasks first later = (first.0, paired-append (first_of t) rest tasks first.1 later)

pub due-append : (queue tasks : List Task) → ArePaired None tasks → due_second (queue ++ tasks) ≡ due_second queue
due-append [] tasks later = due-paired None tasks later
due-append (t ∷ rest) tasks later = refl

-- callback ids

pub id_given : (last : ℕ) (p : Purpose) → function_of p ≡ SEND_DATA → 1 ≤ id_after last p
id_given last p e = grind (arith, nat_tests)

pub id_fits : (last : ℕ) (p : Purpose) → last ≤ 255 → id_after last p ≤ 255
id_fits last p e = grind (arith, nat_tests)
