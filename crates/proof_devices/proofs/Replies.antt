-- The frames of a node stay what its device replied since the node joined.
use Rattle.std.proofs.Common.{◌≡◌, ◌≢◌, ◌≤◌, ◌⊎◌, inl, inr, ℕ, zero, suc, ◌+◌, ◌==◌, ◌||◌, Bool, true, false, if◌then◌else◌, List, [], ◌∷◌, ◌++◌, length, length-append, take, drop, refl, sym, ap, subst, ◌∙◌, append-nil, append_assoc, arith}
use Rattle.std.proofs.lemmas.Bool.{cases_Bool}
use Rattle.std.specs.Prelude.{Some, slice_get}
use Rattle.std.specs.List.{list_any}
use Rattle.device_sim.specs.State.{State}
use Rattle.device_sim.specs.Event.{DeviceEvent, device_after, device_replies}
use Rattle.mesh_sim.specs.Air.{AirState, is_joined as joined_in}
use Rattle.zw_text.specs.declared.line.Line.{Line}
use Rattle.zw_text.specs.declared.line.Line.TheVariants as lines
use Rattle.zw_text.specs.declared.entry.Entry.{Entry}
use Rattle.zw_text.specs.declared.entry.Entry.TheVariants.{Said}
use Rattle.zw_text.specs.Transcript.{join_of, line_of, lines_run}
use Rattle.law_transcript.specs.Nodes.{controller, is_joined}
use Rattle.law_transcript.specs.Restarts.{ticks_of, ticks_asked}
use Rattle.law_transcript.specs.Devices.{CameAsShown, after_events, replies_in, asked_by, brought, comings, events_unjoined, sent_from, ticks_lived}
use Rattle.proof_air.specs.proof_device.GoingOn.{GoOn, AreSame}
use Rattle.proof_air.specs.proof_device.Showing.{AreApart}
use Rattle.proof_air.proofs.DevicePlaces.{go_same}
use Rattle.proof_air.proofs.ShownChanges.{node_at}
use Rattle.proof_devices.specs.Living.{Answers, Simply}
use Rattle.proof_devices.proofs.Quiet.{AreBy}
use Rattle.proof_devices.proofs.Shown.{ticks_one}
use Rattle.proof_devices.proofs.Joined.{joined_back, same_run, said_joins, said_unjoined, unjoined_all, unjoined_same, events_counted}
use Rattle.proof_devices.proofs.Sent.{replied, sent_both}
use Rattle.proof_devices.proofs.Keeping.{Keeps, Resting, Replying, others_rest}

-- ---- replies after so many events

abbrev pub replies_from : State → ℕ → List DeviceEvent → List (List ℕ)
replies_from old before events = replies_in (after_events old (take before events)) (drop before events)

replies_one : (device : State) (events : List DeviceEvent) (event : DeviceEvent) → replies_in device (events ++ event ∷ []) ≡ replies_in device events ++ device_replies (after_events device events) event
replies_one device [] event = append-nil (device_replies device event)
replies_one device (first ∷ events) event =
    let later : State = device_after device first in
    ap (λ (l : List (List ℕ)). device_replies device first ++ l) (replies_one later events event)
    ∙ sym (append_assoc (device_replies device first) (replies_in later events) (device_replies (after_events later events) event))

from_one : (old : State) (before : ℕ) (events : List DeviceEvent) (event : DeviceEvent) → before ≤ length events
    → replies_from old before (events ++ event ∷ []) ≡ replies_from old before events ++ device_replies (after_events old events) event
from_one old zero events event within = replies_one old events event
from_one old (suc before) [] event within = absurd (omega (arith, within))
from_one old (suc before) (first ∷ events) event within = from_one (device_after old first) before events event (omega (arith, within))

pub from_none : (old : State) (before : ℕ) (events : List DeviceEvent) → length events ≤ before → replies_from old before events ≡ []
from_none old zero [] all = refl
from_none old (suc before) [] all = refl
from_none old zero (first ∷ events) all = absurd (omega (arith, all))
from_none old (suc before) (first ∷ events) all = from_none (device_after old first) before events (omega (arith, all))

-- ---- nothing comes and nothing is done

rest_answers : (past told : List Entry) (old : State) (events : List DeviceEvent) → Resting old.node past told → Answers past old events → Answers (past ++ told) old events
rest_answers past told old events rest is =
    let node : ℕ = old.node in
    let same : events_unjoined node (past ++ told) ≡ events_unjoined node past = unjoined_same node past told rest.unsaid rest.nothing in
    record {
      within = λ joined. subst (λ (n : ℕ). n ≤ length events) (sym same) (is.within (joined_back past told node rest.unsaid joined));
      answered = sent_both node past told
          ∙ (ap (λ (l : List (List ℕ)). sent_from node past ++ l) rest.silent
          ∙ (append-nil (sent_from node past) ∙ (is.answered ∙ ap (λ (n : ℕ). replies_from old n events) (sym same))));
    }

-- ---- the words of a line

-- a line lets no node join, or brings none anything and asks for no tick
joins_or_asks : (node ticks : ℕ) (line : Line) → (list_any (λ one. one == node) (join_of line) ≡ false) ⊎ (length (asked_by node ticks (line ∷ [])) + ticks_of line ≡ 0)
joins_or_asks node ticks (lines.Join at) = inr refl
joins_or_asks node ticks line = inl refl

module _ (past : List Entry) (words : List ℕ) (line : Line) (old : State) (events : List DeviceEvent) (read : line_of (Said words) ≡ line ∷ [])
    (came : CameAsShown old.node past events) (is : Answers past old events) where
  abbrev spoken : List Entry
  spoken = past ++ Said words ∷ []

  abbrev asks : ℕ
  asks = length (asked_by old.node (ticks_asked (lines_run past)) (line ∷ [])) + ticks_of line

  as_before : sent_from old.node spoken ≡ sent_from old.node past
  as_before = sent_both old.node past (Said words ∷ []) ∙ append-nil (sent_from old.node past)

  said_unjoined_so : (b : Bool) → is_joined past old.node ≡ b → events_unjoined old.node spoken ≡ events_unjoined old.node past + (if b then 0 else asks)
  said_unjoined_so b at = said_unjoined old.node past words line read ∙ ap (λ (b : Bool). events_unjoined old.node past + (if b then 0 else asks)) at

  said_joined : is_joined past old.node ≡ true → Answers spoken old events
  said_joined at =
      let grown = said_unjoined_so true at in
      let same : events_unjoined old.node spoken ≡ events_unjoined old.node past = omega (arith, grown) in
      record {
        within = λ joined. subst (λ (n : ℕ). n ≤ length events) (sym same) (is.within at);
        answered = as_before ∙ (is.answered ∙ ap (λ (n : ℕ). replies_from old n events) (sym same));
      }

  said_apart : is_joined past old.node ≡ false → Answers spoken old events
  said_apart at =
      let grown = said_unjoined_so false at in
      let all = unjoined_all old.node past at in
      let count = events_counted events in
      let comes = ap length came.came in
      let ticked = came.ticked in
      let exact : events_unjoined old.node past ≡ length events = omega (arith, all, count, comes, ticked) in
      record {
        within = λ joined. by joined (joins_or_asks old.node (ticks_asked (lines_run past)) line) grown exact;
        answered = as_before
            ∙ (is.answered
            ∙ (from_none old (events_unjoined old.node past) events (omega (arith, exact)) ∙ sym (from_none old (events_unjoined old.node spoken) events (omega (arith, exact, grown)))));
      }
    where
      by : is_joined spoken old.node ≡ true → (list_any (λ one. one == old.node) (join_of line) ≡ false) ⊎ (asks ≡ 0)
          → events_unjoined old.node spoken ≡ events_unjoined old.node past + asks → events_unjoined old.node past ≡ length events → events_unjoined old.node spoken ≤ length events
      by joined (inl none) grown exact =
          let bad : true ≡ false
          = sym joined ∙ (said_joins past words line old.node read ∙ (ap (λ (b : Bool). b || list_any (λ one. one == old.node) (join_of line)) at ∙ none)) in
          absurd cc
      by joined (inr none) grown exact = omega (arith, none, grown, exact)

  said_answers : Answers spoken old events
  said_answers = by (cases_Bool (is_joined past old.node))
    where
      by : (is_joined past old.node ≡ true) ⊎ (is_joined past old.node ≡ false) → Answers spoken old events
      by (inl at) = said_joined at
      by (inr at) = said_apart at

-- ---- the device has an event

-- the air has the joined nodes of the transcript
abbrev pub JoinsAs : List Entry → AirState → Type 0
JoinsAs past air = (node : ℕ) → joined_in air node ≡ is_joined past node

module _ (past told : List Entry) (air : AirState) (old : State) (events : List DeviceEvent) (event : DeviceEvent) (joins : JoinsAs past air)
    (replying : Replying old.node (joined_in air old.node) (device_replies (after_events old events) event) past told)
    (few : length (comings events) ≤ length (brought old.node past)) (comes : comings (events ++ event ∷ []) ≡ brought old.node (past ++ told))
    (ticked : ticks_lived (events ++ event ∷ []) ≤ ticks_asked (lines_run past)) (is : Answers past old events) where
  abbrev replies : List (List ℕ)
  replies = device_replies (after_events old events) event

  abbrev more : List DeviceEvent
  more = events ++ event ∷ []

  sent_now : (b : Bool) → is_joined past old.node ≡ b → sent_from old.node (past ++ told) ≡ sent_from old.node past ++ replied b replies
  sent_now b at =
      sent_both old.node past told
      ∙ ap (λ (l : List (List ℕ)). sent_from old.node past ++ l) (replying.sent ∙ ap (λ (b : Bool). replied b replies) (joins old.node ∙ at))

  does_joined : is_joined past old.node ≡ true → Answers (past ++ told) old more
  does_joined at =
      let same : events_unjoined old.node (past ++ told) ≡ events_unjoined old.node past = unjoined_same old.node past told replying.unsaid (replying.nothing at) in
      let within = is.within at in
      let one = length-append events (event ∷ []) in
      record {
        within = λ joined. omega (arith, same, within, one);
        answered = sent_now true at
            ∙ (ap (λ (l : List (List ℕ)). l ++ replies) is.answered
            ∙ (sym (from_one old (events_unjoined old.node past) events event within) ∙ ap (λ (n : ℕ). replies_from old n more) (sym same)));
      }

  still_apart : is_joined past old.node ≡ false → is_joined (past ++ told) old.node ≡ false
  still_apart at = by (cases_Bool (is_joined (past ++ told) old.node))
    where
      by : (is_joined (past ++ told) old.node ≡ true) ⊎ (is_joined (past ++ told) old.node ≡ false) → is_joined (past ++ told) old.node ≡ false
      by (inl joined) = let bad : true ≡ false = sym (joined_back past told old.node replying.unsaid joined) ∙ at in absurd cc
      by (inr apart) = apart

  does_apart : is_joined past old.node ≡ false → Answers (past ++ told) old more
  does_apart at =
      let all = unjoined_all old.node past at in
      let all_now = unjoined_all old.node (past ++ told) (still_apart at) in
      let count = events_counted events in
      let count_now = events_counted more in
      let comes_now = ap length comes in
      let asked = ap ticks_asked (same_run past told replying.unsaid) in
      let one = ticks_one events event in
      let before : length events ≤ events_unjoined old.node past = omega (arith, all, count, few, ticked, one) in
      let now : length more ≤ events_unjoined old.node (past ++ told) = omega (arith, all_now, count_now, comes_now, ticked, asked) in
      record {
        within = λ joined. let bad : true ≡ false = sym joined ∙ still_apart at in absurd cc;
        answered = sent_now false at
            ∙ (append-nil (sent_from old.node past)
            ∙ (is.answered ∙ (from_none old (events_unjoined old.node past) events before ∙ sym (from_none old (events_unjoined old.node (past ++ told)) more now))));
      }

  does_answers : Answers (past ++ told) old more
  does_answers = by (cases_Bool (is_joined past old.node))
    where
      by : (is_joined past old.node ≡ true) ⊎ (is_joined past old.node ≡ false) → Answers (past ++ told) old more
      by (inl at) = does_joined at
      by (inr at) = does_apart at

-- ---- devices of other nodes

apart_places : (olds : List State) → AreApart olds → (place other : ℕ) (a b : State) → slice_get olds place ≡ Some a → slice_get olds other ≡ Some b → other ≢ place → b.node ≢ a.node
apart_places [] apart place other a b at there differ = absurd cc
apart_places (d ∷ olds) apart zero zero a b at there differ = absurd (differ refl)
apart_places (d ∷ olds) apart zero (suc other) a b at there differ =
    let is : d ≡ a = cc in λ same. node_at (λ (s : State). s.node ≢ d.node) olds other b apart.0 there (same ∙ ap (λ (s : State). s.node) (sym is))
apart_places (d ∷ olds) apart (suc place) zero a b at there differ =
    let is : d ≡ b = cc in λ same. node_at (λ (s : State). s.node ≢ d.node) olds place a apart.0 at (sym same ∙ ap (λ (s : State). s.node) (sym is))
apart_places (d ∷ olds) apart (suc place) (suc other) a b at there differ = apart_places olds apart.1 place other a b at there (λ same. differ (ap suc same))

-- the one that stood where a device stands is of its node
pub record WasThere (olds : List State) (place : ℕ) (new : State) : Type 0 where
  pub old : State
  pub stood : slice_get olds place ≡ Some old
  pub node : new.node ≡ old.node

pub was_there : (olds news : List State) (place : ℕ) (new : State) → AreSame olds news → slice_get news place ≡ Some new → WasThere olds place new
was_there [] [] place new same stands = absurd cc
was_there [] (n ∷ news) place new same stands = absurd same
was_there (o ∷ olds) [] place new same stands = absurd cc
was_there (o ∷ olds) (n ∷ news) zero new same stands =
    let is : n ≡ new = cc in record { old = o; stood = refl; node = ap (λ (s : State). s.node) (sym is) ∙ same.0.node }
was_there (o ∷ olds) (n ∷ news) (suc place) new same stands =
    let rest = was_there olds news place new same.1 stands in record { old = rest.old; stood = rest.stood; node = rest.node }

elsewhere : (olds : List State) → AreApart olds → (past told : List Entry) (devices : List State) (place other : ℕ) (device old : State) (events : List DeviceEvent) → GoOn olds devices
    → slice_get devices place ≡ Some device → slice_get olds other ≡ Some old → other ≢ place → old.node ≢ controller → AreBy device.node told
    → Answers past old events → Answers (past ++ told) old events
elsewhere olds apart past told devices place other device old events go stands stood differ not_controller by is =
    let was = was_there olds devices place device (go_same olds devices go) stands in
    rest_answers past told old events
    (others_rest device.node old.node past told by (λ same. apart_places olds apart place other was.old old was.stood stood differ (same ∙ was.node)) not_controller) is

-- ---- at first

-- the node of no device has sent or had anything
pub answers_first : (old : State) → Answers [] old []
answers_first old = record { within = λ joined. omega arith; answered = refl }

-- ---- what is owed

pub answers_keep : (olds : List State) → AreApart olds → Keeps olds Answers JoinsAs
answers_keep olds apart = record {
  rests = λ past told old events not_controller rest is. rest_answers past told old events rest is;
  said = λ past words line old events not_controller read came is. said_answers past words line old events read came is;
  does = λ past told air old events event not_controller joins replying few comes ticked is. does_answers past told air old events event joins replying few comes ticked is;
  elsewhere = λ past told devices place other device old events go stands stood differ not_controller by is.
      elsewhere olds apart past told devices place other device old events go stands stood differ not_controller by is;
}

-- where nothing else is kept
abbrev pub JoinsAny : List Entry → AirState → Type 0
JoinsAny past air = Unit {0}

pub simply_keep : (olds : List State) → Keeps olds Simply JoinsAny
simply_keep olds = record {
  rests = λ past told old events not_controller rest is. tt;
  said = λ past words line old events not_controller read came is. tt;
  does = λ past told air old events event not_controller joins replying few comes ticked is. tt;
  elsewhere = λ past told devices place other device old events go stands stood differ not_controller by is. tt;
}
