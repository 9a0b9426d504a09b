-- Nodes whose devices, as their makers left them, are of plain kinds.
use Rattle.std.proofs.Common.{◌≡◌, ◌<◌, ℕ, ◌||◌, Bool, true, false, List, Some, sym, ap, ◌∙◌, subst}
use Rattle.std.specs.Prelude.{Option}
use Rattle.std.specs.List.{AllByRecursion}
use Rattle.zw_base.proofs.Each.{all-weaker}
use Rattle.chip_sim.specs.Nodes.{is_marked}
use Rattle.law_transcript.specs.Headline.{IsAsMade}
use Rattle.law_transcript.specs.Nodes.{listed_by}
use Rattle.device_kinds.specs.Kind.{classes_of, lists as kind_lists}
use Rattle.device_kinds.specs.declared.kind.Kind.{Kind}
use Rattle.device_sim.specs.State.{State, fresh}
use Rattle.host_orders.specs.Classes.{lists}
use Rattle.host_model.specs.Taking.{is_secure}
use Rattle.world_model.specs.Events.{Event}
use Rattle.proof_course.specs.Sessions.{first_course}
use Rattle.proof_messages.specs.Asking.{takes_openly}
use Rattle.proof_course_plain.specs.Device.{AtDevice, IsIdle}
use Rattle.proof_course_plain.proofs.AsMade.{begins_course, idle_as_made}
use Rattle.proof_course_plain.specs.World.{OrdersPlain}
use Rattle.proof_answered.specs.Few.{AreIdle}
use Rattle.proof_in_time.specs.Coming.{ListOpenly, is_layered}
use Rattle.proof_in_time.specs.InStep.{AreOpenByKind, ArePlainByKind, ArePlainOver, IsOpenByKind, IsPlainByKind}
use Rattle.proof_in_time.specs.Openly.{IsOpenOver, ListUnsealed}

-- ---- kinds

not_layered : (kind : Kind) → kind_lists kind 0x98 ≡ false → kind_lists kind 0x55 ≡ false → is_layered (Some (classes_of kind)) ≡ false
unfolding lists
not_layered kind unsealed whole = ap (λ (b : Bool). b || kind_lists kind 0x55) unsealed ∙ whole

pub list_openly : (these : List Bool) (devices : List State) → ArePlainByKind these devices → ListOpenly these devices
list_openly these devices plain n marked =
    let is : IsPlainByKind devices n = plain n marked in
    ap (λ (o : Option State). is_layered (Some (listed_by o))) is.first ∙ not_layered is.device.kind is.unsealed is.whole

not_secure : (kind : Kind) → kind_lists kind 0x98 ≡ false → is_secure (Some (classes_of kind)) ≡ false
unfolding lists
not_secure kind unsealed = unsealed

pub list_unsealed : (these : List Bool) (devices : List State) → AreOpenByKind these devices → ListUnsealed these devices
list_unsealed these devices bare n marked =
    let is : IsOpenByKind devices n = bare n marked in
    ap (λ (o : Option State). is_secure (Some (listed_by o))) is.first ∙ not_secure is.device.kind is.unsealed

-- ---- as their makers left them

module _ (idle : (node : ℕ) (kind : Kind) (key : List ℕ) → IsIdle (fresh node kind key)) where
  pub made_idle : (key : List ℕ) (devices : List State) → AllByRecursion (IsAsMade key) devices → AreIdle devices
  made_idle key devices made = all-weaker (IsAsMade key) (λ (device : State). device.work_left ≡ 0) (λ one is. (idle_as_made idle key one is).no_work) devices made

  module _ (begins : (node : ℕ) (kind : Kind) (key : List ℕ) → takes_openly kind ≡ true → AtDevice first_course (fresh node kind key)) where
    pub plain_over : (key : List ℕ) (these : List Bool) (devices : List State) (events : List Event) → AllByRecursion (IsAsMade key) devices → ArePlainByKind these devices
        → ((n : ℕ) → is_marked these n ≡ true → AllByRecursion (OrdersPlain n) events) → ArePlainOver these devices events
    plain_over key these devices events made plain orders n marked =
        let is : IsPlainByKind devices n = plain n marked in
        let begun = (begins_course idle begins key devices n is.device made is.first is.supervised is.unsealed).1 in
        record { at_first = begun.0; whole = subst (λ (device : State). kind_lists device.kind 0x55 ≡ false) (sym begun.1) is.whole; orders = orders n marked }

    pub open_over : (key : List ℕ) (these : List Bool) (devices : List State) (events : List Event) → AllByRecursion (IsAsMade key) devices → AreOpenByKind these devices
        → ((n : ℕ) → is_marked these n ≡ true → AllByRecursion (OrdersPlain n) events) → (n : ℕ) → n < 233 → is_marked these n ≡ true → IsOpenOver devices events n
    open_over key these devices events made bare orders n within marked =
        let is : IsOpenByKind devices n = bare n marked in
        record { within = within; at_first = (begins_course idle begins key devices n is.device made is.first is.supervised is.unsealed).1.0; orders = orders n marked }
