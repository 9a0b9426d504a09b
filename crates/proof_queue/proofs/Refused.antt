-- A line is refused for places just where it asks for more than are free.
use Rattle.std.proofs.Common.{◌≡◌, ◌⊎◌, ◌≤◌, ◌<◌, ℕ, ◌+◌, ◌==◌, ◌&&◌, ◌||◌, not, Bool, true, false, if◌then◌else◌, inl, inr, List, [], ◌∷◌, length, refl, sym, ap, subst, arith}
use Rattle.std.specs.Prelude.{Option, Some, None, is_some, nat_le, nat_lt}
use Rattle.std.specs.List.{AllByRecursion}
use Rattle.std.proofs.lemmas.Bool.{and_from, and_right, eqb-true, le-ltb, leb-true, lt-ltb, ltb-true}
use Rattle.zw_base.specs.declared.order.Order.{Order}
use Rattle.zw_base.specs.declared.order.Word.{Word}
use Rattle.zw_text.specs.declared.line.Line.{Line}
use Rattle.zw_text.specs.declared.line.Line.TheVariants as lines
use Rattle.zw_text.specs.declared.entry.Refusal.{Refusal}
use Rattle.zw_text.specs.declared.entry.Refusal.TheVariants as refusal
use Rattle.zw_text.specs.declared.entry.Entry.{Entry}
use Rattle.host_orders.specs.Classes.{actuator_of, class_of, lists}
use Rattle.host_orders.specs.Errands.{get_refusal, gettable_class, gettable_of, gettable_refusal, queue_full, secured, send_refusal, sendable_of, sendable_refusal}
use Rattle.host_orders.specs.Messages.{channel_class, classes_needed}
use Rattle.host_orders.specs.Refusals.{Known, classes_of, first_refusal, first_some, is_bad, is_bad_word, is_too_long, known_refusal, mailbox_full, refusal_of, refusal_or, rules_for, store_full, too_long, unless, unsupported}
use Rattle.host_orders.specs.Wrapping.{supervised_text, wrapped_len}
use Rattle.host_orders.specs.declared.refused.Refused.{Refused}
use Rattle.host_orders.specs.declared.refused.Refused.TheVariants as refused
use Rattle.law_time.specs.Wants.{wants_of}
use Rattle.host_model.specs.State.{HostState, node_of}
use Rattle.host_model.specs.Asking.{interview_refusal, join_refusal, places_refusal, refusal_for}
use Rattle.host_model.specs.Refusals.{IsRefusedBy, IsRefusedOrUnkept, IsUncancelled, shown}
use Rattle.proof_attempts.specs.world_model.State.{Machine}
use Rattle.proof_attempts.specs.world_model.Refusals.{IsRefused, IsUnopened}
use Rattle.proof_attempts.specs.proof_requests.law_host.Heard.{listing_heard}

-- ---- rules

-- a rule that refuses for places does where so many wait, and so many more are asked for
abbrev FullSo : ℕ → ℕ → Option Refused → Type 0
FullSo w n None = Unit {0}
FullSo w n (Some (refused.QueueFull waiting)) = (waiting ≡ 64) × (1 ≤ n) × (64 < w + n)
FullSo w n (Some other) = Unit {0}

abbrev pub FitsRefusal : ℕ → ℕ → Refusal → Type 0
FitsRefusal w n (refusal.QueueFull waiting) = (waiting ≡ 64) × (1 ≤ n) × (64 < w + n)
FitsRefusal w n other = Unit {0}

abbrev FitsShown : ℕ → ℕ → Option Refusal → Type 0
FitsShown w n None = Unit {0}
FitsShown w n (Some entered) = FitsRefusal w n entered

fits_shown : (w n : ℕ) (r : Refused) → FullSo w n (Some r) → FitsShown w n (shown r)
fits_shown w n (refused.QueueFull waiting) full = full
fits_shown w n r full = tt

by_rule : (w n : ℕ) (rule : Option Refused) (entered : Refusal) → FullSo w n rule → IsRefusedBy rule entered → FitsRefusal w n entered
by_rule w n None entered full is = absurd is
by_rule w n (Some r) entered full is = subst (FitsShown w n) is (fits_shown w n r full)

by_keeper : (w n : ℕ) (entered : Refusal) → entered ≡ refusal.KeeperFault → FitsRefusal w n entered
by_keeper w n entered is = subst (FitsRefusal w n) (sym is) tt

by_either : (w n : ℕ) (rule : Option Refused) (entered : Refusal) → FullSo w n rule → IsRefusedOrUnkept rule entered → FitsRefusal w n entered
by_either w n rule entered full (inl is) = by_rule w n rule entered full is
by_either w n rule entered full (inr (none, is)) = by_keeper w n entered is

-- ---- several

first_full : (w n : ℕ) (rules : List (Option Refused)) → AllByRecursion (FullSo w n) rules → FullSo w n (first_some rules)
first_full w n [] all = tt
first_full w n (None ∷ rules) all = first_full w n rules all.1
first_full w n (Some r ∷ rules) all = all.0

unless_full : (w n : ℕ) (holds : Bool) (r : Refused) → FullSo w n (Some r) → FullSo w n (unless holds r)
unless_full w n true r full = tt
unless_full w n false r full = full

unsupported_full : (w n : ℕ) (classes needed : List ℕ) → FullSo w n (unsupported classes needed)
unsupported_full w n classes [] = tt
unsupported_full w n classes (class ∷ more) = by (lists classes class) (unsupported_full w n classes more)
  where
    by : (b : Bool) → FullSo w n (unsupported classes more) → FullSo w n (if b then unsupported classes more else Some (refused.Unsupported class))
    by true full = full
    by false full = tt

secured_full : (w n : ℕ) (classes : List ℕ) → FullSo w n (secured classes)
secured_full w n classes = by (lists classes 0x98)
  where
    by : (b : Bool) → FullSo w n (if b then Some refused.Secured else None)
    by true = tt
    by false = tt

too_long_full : (w n : ℕ) (classes : List ℕ) (supervised wrapped : ℕ) → FullSo w n (too_long classes supervised wrapped)
too_long_full w n classes supervised wrapped = by (nat_lt 255 supervised) (is_too_long classes wrapped)
  where
    by : (a b : Bool) → FullSo w n (if a then Some (refused.TooLong supervised) else if b then Some (refused.TooLong wrapped) else None)
    by true b = tt
    by false true = tt
    by false false = tt

mailbox_is : (w n waiting : ℕ) → FullSo w n (mailbox_full waiting)
mailbox_is w n waiting = by (nat_le 16 waiting)
  where
    by : (b : Bool) → FullSo w n (if b then Some (refused.MailboxFull 16) else None)
    by true = tt
    by false = tt

store_is : (w n properties : ℕ) → FullSo w n (store_full properties)
store_is w n properties = by (nat_lt 512 properties)
  where
    by : (b : Bool) → FullSo w n (if b then Some (refused.StoreFull 512) else None)
    by true = tt
    by false = tt

queue_is : (w : ℕ) → FullSo w 1 (queue_full w)
queue_is w = by (nat_le 64 w) refl
  where
    by : (b : Bool) → nat_le 64 w ≡ b → FullSo w 1 (if b then Some (refused.QueueFull 64) else None)
    by true is = (refl, omega arith, let most = leb-true 64 w is in omega (arith, most))
    by false is = tt

places_is : (h : HostState) (n : ℕ) → 1 ≤ n → FullSo (length h.requests.queue) n (places_refusal h n)
places_is h n some = by (nat_lt 64 (length h.requests.queue + n)) refl
  where
    by : (b : Bool) → nat_lt 64 (length h.requests.queue + n) ≡ b → FullSo (length h.requests.queue) n (if b then Some (refused.QueueFull 64) else None)
    by true is = (refl, some, ltb-true 64 (length h.requests.queue + n) is)
    by false is = tt

-- ---- of each line

order_rules : (w n : ℕ) (classes : List ℕ) (waiting : ℕ) (order : Order) → AllByRecursion (FullSo w n) (rules_for classes waiting order)
order_rules w n classes waiting order = (
  unsupported_full w n classes (classes_needed (actuator_of classes) order.what order.end),
  (
    unless_full w n (not (is_bad (actuator_of classes) order.what)) refused.BadValue tt,
    (
      unless_full w n (lists classes 0x6C) refused.Unsupervised tt,
      (too_long_full w n classes (length (supervised_text (actuator_of classes) order)) (wrapped_len (actuator_of classes) order), (mailbox_is w n waiting, tt)),
    ),
  ),
)

order_first : (w n : ℕ) (known : Known) (order : Order) → FullSo w n (first_refusal known order)
unfolding first_refusal known_refusal
order_first w n known order =
    let classes : List ℕ = classes_of known in
    first_full w n (unless known.joined refused.NotJoined ∷ unless (is_some known.classes) refused.NotInterviewed ∷ known_refusal classes known.waiting order ∷ []) (
      unless_full w n known.joined refused.NotJoined tt,
      (
        unless_full w n (is_some known.classes) refused.NotInterviewed tt,
        (first_full w n (rules_for classes known.waiting order) (order_rules w n classes known.waiting order), tt),
      ),
    )

order_full : (w n : ℕ) (known : Known) (properties : ℕ) (order : Order) → FullSo w n (refusal_of known properties order)
order_full w n known properties order = by (first_refusal known order) (order_first w n known order)
  where
    by : (o : Option Refused) → FullSo w n o → FullSo w n (refusal_or o properties)
    by None full = store_is w n properties
    by (Some r) full = full

send_full : (w : ℕ) (known : Known) (word : Word) → FullSo w 1 (send_refusal known w word)
unfolding send_refusal sendable_refusal
send_full w known word =
    let classes : List ℕ = classes_of known in
    first_full w 1 (unless known.joined refused.NotJoined ∷ unless (is_some known.classes) refused.NotInterviewed ∷ sendable_refusal classes w word ∷ []) (
      unless_full w 1 known.joined refused.NotJoined tt,
      (
        unless_full w 1 (is_some known.classes) refused.NotInterviewed tt,
        (
          first_full w 1 (
              secured classes ∷ unsupported classes (class_of (sendable_of classes) ∷ []) ∷ unless (not (is_bad_word (sendable_of classes) word)) refused.BadValue ∷ queue_full w ∷ []
              ) (
                secured_full w 1 classes,
                (
                  unsupported_full w 1 classes (class_of (sendable_of classes) ∷ []),
                  (unless_full w 1 (not (is_bad_word (sendable_of classes) word)) refused.BadValue tt, (queue_is w, tt)),
                ),
              ),
          tt,
        ),
      ),
    )

get_full : (w : ℕ) (known : Known) (end : ℕ) → FullSo w 1 (get_refusal known w end)
unfolding get_refusal gettable_refusal
get_full w known end =
    let classes : List ℕ = classes_of known in
    first_full w 1 (unless known.joined refused.NotJoined ∷ unless (is_some known.classes) refused.NotInterviewed ∷ gettable_refusal classes w end ∷ []) (
      unless_full w 1 known.joined refused.NotJoined tt,
      (
        unless_full w 1 (is_some known.classes) refused.NotInterviewed tt,
        (
          first_full w 1 (secured classes ∷ unsupported classes (gettable_class (gettable_of classes) ∷ channel_class end) ∷ queue_full w ∷ [])
              (secured_full w 1 classes, (unsupported_full w 1 classes (gettable_class (gettable_of classes) ∷ channel_class end), (queue_is w, tt))),
          tt,
        ),
      ),
    )

join_full : (w n : ℕ) (h : HostState) (node : ℕ) → FullSo w n (join_refusal h node)
join_full w n h node = by ((node_of h node).joined || node == 1)
  where
    by : (b : Bool) → FullSo w n (if b then Some refused.AlreadyJoined else None)
    by true = tt
    by false = tt

interview_full : (h : HostState) (node : ℕ) → FullSo (length h.requests.queue) 2 (interview_refusal h node)
interview_full h node = by (node_of h node).joined
  where
    by : (b : Bool) → FullSo (length h.requests.queue) 2 (if b then places_refusal h 2 else Some refused.NotJoined)
    by true = places_is h 2 (omega arith)
    by false = tt

by_cancel : (w n : ℕ) (h : HostState) (command : ℕ) (entered : Refusal) → IsUncancelled h command entered → FitsRefusal w n entered
by_cancel w n h command entered (inl (not, is)) = subst (FitsRefusal w n) (sym is) tt
by_cancel w n h command entered (inr (waits, is)) = by_keeper w n entered is

by_start : (w n : ℕ) (records : Option (List (List ℕ))) (entered : Refusal) → IsUnopened records entered → FitsRefusal w n entered
by_start w n records entered (inl is) = by_keeper w n entered is
by_start w n records entered (inr (at, bad, is)) = subst (FitsRefusal w n) (sym is) tt

pub line_refused : (m : Machine) (before : List Entry) (line : Line) (entered : Refusal) → IsRefused m line entered
    → FitsRefusal (length m.host.state.requests.queue) (length (wants_of listing_heard before line)) entered
line_refused m before (lines.Command order) entered is = by_either (length m.host.state.requests.queue) 0 (refusal_for m.host.state order) entered (order_full _ 0 _ _ order) is
line_refused m before (lines.Send node word) entered is = by_rule (length m.host.state.requests.queue) 1 _ entered (send_full (length m.host.state.requests.queue) _ word) is
line_refused m before (lines.Get node end) entered is = by_rule (length m.host.state.requests.queue) 1 _ entered (get_full (length m.host.state.requests.queue) _ end) is
line_refused m before (lines.Join node) entered is = by_either (length m.host.state.requests.queue) 0 (join_refusal m.host.state node) entered (join_full _ 0 m.host.state node) is
line_refused m before (lines.Interview node) entered is = by_rule (length m.host.state.requests.queue) 2 _ entered (interview_full m.host.state node) is
line_refused m before (lines.Cancel command) entered is = by_cancel (length m.host.state.requests.queue) 0 m.host.state command entered is
line_refused m before lines.Discover entered is = by_rule (length m.host.state.requests.queue) 1 _ entered (places_is m.host.state 1 (omega arith)) is
line_refused m before (lines.Neighbours node) entered is = by_rule (length m.host.state.requests.queue) 1 _ entered (places_is m.host.state 1 (omega arith)) is
line_refused m before (lines.Failed node) entered is = by_rule (length m.host.state.requests.queue) 1 _ entered (places_is m.host.state 1 (omega arith)) is
line_refused m before lines.Probe entered is = by_rule (length m.host.state.requests.queue) 3 _ entered (places_is m.host.state 3 (omega arith)) is
line_refused m before lines.Restart entered is = by_start (length m.host.state.requests.queue) 0 m.records entered is
line_refused m before line entered is = absurd is

-- ---- places

-- more places are asked for than are free
abbrev pub lacks : ℕ → ℕ → Bool
lacks w n = not (n == 0) && nat_lt 64 (w + n)

pub lacks_not : (w n : ℕ) → (n ≡ 0) ⊎ (w + n ≤ 64) → lacks w n ≡ false
lacks_not w n (inl none) = ap (λ (k : ℕ). lacks w k) none
lacks_not w n (inr fits) = and_right (not (n == 0)) (nat_lt 64 (w + n)) (le-ltb 64 (w + n) fits)

some_not : (n : ℕ) → 1 ≤ n → not (n == 0) ≡ true
some_not n some = by (n == 0) refl
  where
    by : (b : Bool) → (n == 0) ≡ b → not b ≡ true
    by true is = absurd (let none = eqb-true n 0 is in omega (arith, none, some))
    by false is = refl

pub lacks_so : (w n : ℕ) → 1 ≤ n → 64 < w + n → lacks w n ≡ true
lacks_so w n some more = and_from (not (n == 0)) (nat_lt 64 (w + n)) (some_not n some) (lt-ltb 64 (w + n) more)
