-- Where each line has its answer, an order that is accepted is the one of the line before it, and its node is of a kind that takes it.
use Rattle.std.proofs.Common.{◌≡◌, ℕ, suc, ◌+◌, ◌≤◌, cond, Bool, true, false, not, List, [], ◌∷◌, ◌++◌, length, length-append, take_at, append-nil, ◌-◌, eqb, Option, Some, None, inl, inr, arith, is_some, refl, sym, ap, subst, ◌∙◌, Result, Ok, Err, true≢false, unwrap_or}
use Rattle.std.specs.Prelude.{nat_lt}
use Rattle.std.specs.List.{AllByRecursion, flat_map, list_any}
use Rattle.std.proofs.lemmas.Bool.{eqb-true, lt-ltb, ltb-false, or_parts, not-true as not_so}
use Rattle.zw_base.proofs.Each.{all-append}
use Rattle.zw_base.specs.declared.order.Order.{Order}
use Rattle.zw_base.specs.declared.order.What.{What}
use Rattle.zw_base.specs.declared.order.What.TheVariants as what
use Rattle.zw_base.specs.declared.property.Setting.{Setting}
use Rattle.zw_words.specs.declared.fault.LineFault.{LineFault}
use Rattle.zw_text.specs.Line.{LineText, WhatWords, line_at}
use Rattle.zw_text.specs.declared.line.Line.{Line}
use Rattle.zw_text.specs.declared.line.Line.TheVariants as lines
use Rattle.zw_text.specs.declared.entry.Entry.{Entry}
use Rattle.zw_text.specs.declared.entry.Entry.TheVariants.{Accepted, Refused, Said}
use Rattle.zw_text.specs.declared.entry.Refusal.{Refusal}
use Rattle.zw_text.specs.Transcript.{interviews, interview_at, line_after, line_last, line_of, read_as}
use Rattle.zw_text.proofs.TextLaws.{line_takes}
use Rattle.zw_text.proofs.Views.{folded-append, shown-append}
use Rattle.device_kinds.specs.Kind.{classes_of as kind_classes, lists as kind_lists}
use Rattle.device_kinds.specs.declared.kind.Kind.{Kind}
use Rattle.device_kinds.specs.declared.kind.Kind.TheVariants as switch
use Rattle.device_stack.specs.State.{State}
use Rattle.host_orders.specs.Classes.{actuator_of, lists}
use Rattle.host_orders.specs.Messages.{classes_needed}
use Rattle.host_orders.specs.Refusals.{Known, classes_of, first_refusal, first_some, is_bad, known_refusal, mailbox_full, refusal_of, refusal_or, too_long, unless, unsupported}
use Rattle.host_orders.specs.Settings.{config_settings, settings_by}
use Rattle.host_orders.specs.Wrapping.{supervised_text, wrapped_len}
use Rattle.host_orders.specs.declared.actuator.Actuator.{Actuator}
use Rattle.host_orders.specs.declared.actuator.Actuator.TheVariants as actuators
use Rattle.host_orders.specs.declared.refused.Refused.{Refused as HostRefusal}
use Rattle.host_orders.specs.declared.refused.Refused.TheVariants as host
use Rattle.host_model.proofs.Accepted.{holds}
use Rattle.law_transcript.specs.Answers.{AnswersLines, Follows, IsAnswer, IsRefusal, MayAnswer, answer_to, answered_by, before_last, known_of, properties_with, refusal_entry, refusals_around, refusals_by_host, refusals_to, refused_unless, refused_without}
use Rattle.law_transcript.specs.Lists.{listed}
use Rattle.law_transcript.specs.Nodes.{device_of, host_list, is_interviewed, known_at_first, listed_by, listing_of, always}
use Rattle.law_transcript.specs.Repeats.{refused_repeat, frame_of, repeat_entry}
use Rattle.air_frames.specs.declared.ages.Refusal.{Refusal as AirRefusal}
use Rattle.air_frames.specs.declared.ages.Refusal.TheVariants as air
use Rattle.audit_books.specs.Asking.{actuator_by, is_setting, kind_at}
use Rattle.proof_host.proofs.Lists.{each-weaker}
use Rattle.proof_audit.specs.Books.{AreAsked, IsAsked, IsOfItsKind, MayBeAsked}
use Rattle.proof_headline.proofs.Unasked.{first_none as first-none}

-- ---- refusals

abbrev IsRefused : Entry → Type 0
IsRefused (Refused refusal) = Unit {0}
IsRefused _ = ⊥

refusal-only : (refused : HostRefusal) → AllByRecursion IsRefused (refusal_entry refused)
refusal-only host.NoMemory = tt
refusal-only _ = (tt, tt)

refusals-only : (all : List HostRefusal) → AllByRecursion IsRefused (flat_map refusal_entry all)
refusals-only [] = tt
refusals-only (one ∷ all) = all-append IsRefused (refusal_entry one) (flat_map refusal_entry all) (refusal-only one) (refusals-only all)

unless-only : (b : Bool) (refusal : Refusal) → AllByRecursion IsRefused (refused_unless b refusal)
unless-only true refusal = tt
unless-only false refusal = (tt, tt)

without-only : (found : Option State) → AllByRecursion IsRefused (refused_without found)
without-only None = (tt, tt)
without-only (Some device) = tt

repeat-only : (all : List AirRefusal) → AllByRecursion IsRefused (flat_map repeat_entry all)
repeat-only [] = tt
repeat-only (air.NeverSent ∷ all) = (tt, repeat-only all)
repeat-only (air.Forgotten ∷ all) = (tt, repeat-only all)
repeat-only (air.Stale later ∷ all) = (tt, repeat-only all)

by-host-only : (listing : ℕ → List ℕ) (past : List Entry) (line : Line) → AllByRecursion IsRefused (refusals_by_host (always listing) past line)
by-host-only listing past (lines.Cancel command) = unless-only _ _
by-host-only listing past (lines.Join node) = unless-only _ _
by-host-only listing past (lines.Send node word) = refusals-only (listed _)
by-host-only listing past (lines.Get node end) = refusals-only (listed _)
by-host-only listing past (lines.Interview node) = unless-only _ _
by-host-only listing past _ = tt

around-only : (devices : List State) (past : List Entry) (line : Line) → AllByRecursion IsRefused (refusals_around devices past line)
around-only devices past (lines.Repeat frame) = repeat-only (listed (refused_repeat past (frame_of past frame)))
around-only devices past (lines.Wake node) = without-only (device_of node devices)
around-only devices past (lines.Local node value) = without-only (device_of node devices)
around-only devices past (lines.Show node) = without-only (device_of node devices)
around-only devices past _ = tt

all-only : (devices : List State) (past : List Entry) (line : Line) → AllByRecursion IsRefused (refusals_to devices past line)
all-only devices past line =
    all-append IsRefused (refusals_by_host (always (listing_of devices)) past line) (refusals_around devices past line) (by-host-only (listing_of devices) past line) (around-only devices past line)

-- no other line than an order has an accepted command after it
refused-accepts : (line : Line) (due : List Entry) (command node : ℕ) → AllByRecursion IsRefused due → IsRefusal line due (Accepted command node) → ⊥
refused-accepts (lines.Cancel number) [] command node all may = may
refused-accepts line [] command node all may = may
refused-accepts line (refusal ∷ more) command node all may = subst IsRefused may all.0

-- ---- an order that no rule refuses

rule-none : (refused : Option HostRefusal) (properties : ℕ) → refusal_or refused properties ≡ None → refused ≡ None
rule-none None properties e = refl
rule-none (Some refused) properties e = absurd cc

-- what such an order tells of the classes and of its values
record Passes (classes : List ℕ) (order : Order) : Type 0 where
  pub supervised : lists classes 0x6C ≡ true
  pub good : is_bad (actuator_of classes) order.what ≡ false

passes-rules : (unlisted bad supervised : Option HostRefusal) (more : List (Option HostRefusal)) → first_some (unlisted ∷ bad ∷ supervised ∷ more) ≡ None → (bad ≡ None) × (supervised ≡ None)
passes-rules unlisted bad supervised more e =
    let listed_too = first-none unlisted (bad ∷ supervised ∷ more) e in
    let good = first-none bad (supervised ∷ more) listed_too.1 in
    (good.0, (first-none supervised more good.1).0)

passes-known : (classes : List ℕ) (waiting : ℕ) (order : Order) → known_refusal classes waiting order ≡ None → Passes classes order
unfolding known_refusal
passes-known classes waiting order e =
    let last = too_long classes (length (supervised_text (actuator_of classes) order)) (wrapped_len (actuator_of classes) order) ∷ mailbox_full waiting ∷ [] in
    let both = passes-rules (unsupported classes (classes_needed (actuator_of classes) order.what order.end)) (unless (not (is_bad (actuator_of classes) order.what)) host.BadValue)
    (unless (lists classes 0x6C) host.Unsupervised) last e in
    record {
      supervised = holds (lists classes 0x6C) host.Unsupervised both.1;
      good = not_so (is_bad (actuator_of classes) order.what) (holds (not (is_bad (actuator_of classes) order.what)) host.BadValue both.0);
    }

passes : (known : Known) (order : Order) → first_refusal known order ≡ None → Passes (classes_of known) order
unfolding first_refusal
passes known order e =
    let last = known_refusal (classes_of known) known.waiting order ∷ [] in
    let joined = first-none (unless known.joined host.NotJoined) (unless (is_some known.classes) host.NotInterviewed ∷ last) e in
    let interviewed = first-none (unless (is_some known.classes) host.NotInterviewed) last joined.1 in
    passes-known (classes_of known) known.waiting order (first-none (known_refusal (classes_of known) known.waiting order) [] interviewed.1).0

-- ---- what the host takes the node for

-- the device of a node is of the kind of the node
kind-of : (devices : List State) (node : ℕ) (device : State) → AllByRecursion IsOfItsKind devices → device_of node devices ≡ Some device → device.kind ≡ kind_at node
kind-of [] node device kinds is = absurd cc
kind-of (first ∷ devices) node device kinds is = by (eqb first.node node) refl is (kind-of devices node device kinds.1)
  where
    by : (b : Bool) → eqb first.node node ≡ b → cond b (Some first) (device_of node devices) ≡ Some device → (device_of node devices ≡ Some device → device.kind ≡ kind_at node) → device.kind ≡ kind_at node
    by true same is next =
        let one : first ≡ device = cc in
        subst (λ (d : State). d.kind ≡ kind_at node) one (kinds.0 ∙ ap kind_at (eqb-true first.node node same))
    by false same is next = next is

-- a node that lists Supervision is taken for its kind, which takes commands in sessions
record IsKnown (classes : List ℕ) (node : ℕ) : Type 0 where
  pub known : actuator_of classes ≡ actuator_by (kind_at node)
  pub takes : kind_lists (kind_at node) 0x6C ≡ true

listed-kind : (found : Option State) (node : ℕ) → ((device : State) → found ≡ Some device → device.kind ≡ kind_at node) → lists (listed_by found) 0x6C ≡ true → IsKnown (listed_by found) node
unfolding lists
listed-kind None node kinds supervised = absurd (true≢false (sym supervised))
listed-kind (Some device) node kinds supervised =
    let same = kinds device refl in
    record { known = ap (λ (kind : Kind). actuator_of (kind_classes kind)) same; takes = sym (ap (λ (kind : Kind). kind_lists kind 0x6C) same) ∙ supervised }

-- before an interview the host takes node 2 for a switch, and no other node for anything
at-first : (node : ℕ) → lists (unwrap_or (known_at_first node) []) 0x6C ≡ true → IsKnown (unwrap_or (known_at_first node) []) node
unfolding lists
at-first node supervised = by (eqb node 2) refl supervised
  where
    by : (b : Bool) → eqb node 2 ≡ b → lists (unwrap_or (cond b (Some (kind_classes switch.Switch)) None) []) 0x6C ≡ true → IsKnown (unwrap_or (cond b (Some (kind_classes switch.Switch)) None) []) node
    by true same supervised =
        let two = sym (eqb-true node 2 same) in
        record { known = ap (λ (n : ℕ). actuator_by (kind_at n)) two; takes = sym (ap (λ (n : ℕ). kind_lists (kind_at n) 0x6C) two) }
    by false same supervised = absurd (true≢false (sym supervised))

known-kind : (devices : List State) (past : List Entry) (node : ℕ) → AllByRecursion IsOfItsKind devices → lists (host_list (always (listing_of devices)) past node) 0x6C ≡ true
    → IsKnown (host_list (always (listing_of devices)) past node) node
known-kind devices past node kinds supervised = by (is_interviewed past node) supervised
  where
    by : (b : Bool) → lists (unwrap_or (cond b (Some (listing_of devices node)) (known_at_first node)) []) 0x6C ≡ true
        → IsKnown (unwrap_or (cond b (Some (listing_of devices node)) (known_at_first node)) []) node
    by true supervised = listed-kind (device_of node devices) node (λ device found. kind-of devices node device kinds found) supervised
    by false supervised = at-first node supervised

-- ---- the parameters that an order sets

config-named : (end offset : ℕ) (values : List ℕ) → offset + length values ≤ 256 → AllByRecursion (λ (made : Setting). is_setting made ≡ true) (config_settings end offset values)
config-named end offset [] low = tt
config-named end offset (value ∷ values) low = (lt-ltb offset 256 (omega (arith, low)), config-named end (suc offset) values (omega (arith, low)))

what-named : (actuator other : Actuator) (end : ℕ) (asked : What) (words : List (List ℕ)) → WhatWords asked words → is_bad other asked ≡ false
    → AllByRecursion (λ (made : Setting). is_setting made ≡ true) (settings_by actuator end asked)
what-named actuator other end (what.Value word) words stand good = value-named actuator
  where
    value-named : (actuator : Actuator) → AllByRecursion (λ (made : Setting). is_setting made ≡ true) (settings_by actuator end (what.Value word))
    value-named actuators.Binary = (refl, tt)
    value-named actuators.Multilevel = (refl, tt)
    value-named actuators.Lock = (refl, tt)
what-named actuator other end (what.Mode mode) words stand good = (refl, tt)
what-named actuator other end (what.Setpoint kind tenths) words stand good = (refl, tt)
what-named actuator other end (what.Config parameter value) words stand good = (lt-ltb parameter 256 (omega (arith, stand.0)), tt)
what-named actuator other end (what.Bulk offset values) words stand good =
    config-named end offset values (ltb-false 256 (offset + length values) (or_parts _ (nat_lt 256 (offset + length values)) good).1)
what-named actuator other end (what.Associate group member) words stand good = (refl, tt)
what-named actuator other end (what.Dissociate group member) words stand good = (refl, tt)
what-named actuator other end (what.Interval seconds) words stand good = (refl, tt)
what-named actuator other end (what.Comfort mode kind tenths) words stand good = (refl, (refl, tt))

-- ---- the line is the last entry

pub record IsLast (past : List Entry) : Type 0 where
  pub before : List Entry
  pub last : Entry
  pub is : past ≡ before ++ last ∷ []

last-of : (first : Entry) (rest : List Entry) → IsLast (first ∷ rest)
last-of first [] = record { before = []; last = first; is = refl }
last-of first (next ∷ rest) =
    let later = last-of next rest in
    record { before = first ∷ later.before; last = later.last; is = ap (λ (l : List Entry). first ∷ l) later.is }

-- an entry that shows a line has its text, and tells of no interview
record IsLineOf (entry : Entry) (line : Line) (node : ℕ) : Type 0 where
  pub text : List ℕ
  pub reads : LineText text line
  pub untold : interview_at node entry ≡ []

read-line : (words : List ℕ) (found : Result (Option Line) LineFault) (line : Line) → line_at words ≡ found → read_as found ≡ line ∷ [] → LineText words line
read-line words (Ok (Some one)) line is shows = let same : one ≡ line = cc in subst (LineText words) same (line_takes words (Some one) is)
read-line words (Ok None) line is shows = absurd cc
read-line words (Err fault) line is shows = absurd cc

line-shown : (entry : Entry) (line : Line) (node : ℕ) → line_of entry ≡ line ∷ [] → IsLineOf entry line node
line-shown (Said words) line node shows = record { text = words; reads = read-line words (line_at words) line refl shows; untold = refl }
line-shown entry line node shows = absurd cc

-- an order directly before
record IsOrdered (past : List Entry) (order : Order) (node : ℕ) : Type 0 where
  pub before : List Entry
  pub is : before_last past ≡ before
  pub line : Entry
  pub cut : past ≡ before ++ line ∷ []
  pub shown : IsLineOf line (lines.Command order) node

ordered : (past : List Entry) (order : Order) (node : ℕ) → line_last past ≡ lines.Command order ∷ [] → IsOrdered past order node
ordered [] order node said = absurd cc
ordered (first ∷ rest) order node said =
    let end = last-of first rest in
    let of_last : line_of end.last ≡ lines.Command order ∷ [] =
    sym (ap line_last end.is ∙ folded-append line_after [] end.before (end.last ∷ [])) ∙ said in
    record {
      before = end.before;
      is = ap before_last end.is ∙ take_at end.before (end.last ∷ []) (length (end.before ++ end.last ∷ []) - 1) (omega (arith, length-append end.before (end.last ∷ [])));
      line = end.last;
      cut = end.is;
      shown = line-shown end.last (lines.Command order) node of_last;
    }

-- what the host knows of the node is what it knew before the line
same-list : (listing : ℕ → List ℕ) (past : List Entry) (order : Order) (node : ℕ) → (is : IsOrdered past order node) → host_list (always listing) (before_last past) node ≡ host_list (always listing) past node
same-list listing past order node is =
    let same : interviews node past ≡ interviews node is.before =
    ap (interviews node) is.cut ∙ (shown-append (interview_at node) is.before (is.line ∷ []) ∙ ap (λ (l : List Bool). interviews node is.before ++ (l ++ [])) is.shown.untold ∙ append-nil (interviews node is.before)) in
    ap (λ (l : List Entry). host_list (always listing) l node) is.is
    ∙ ap (λ (told : List Bool). unwrap_or (cond (list_any (λ succeeded. succeeded) told) (Some (listing node)) (known_at_first node)) []) (sym same)

-- ---- the answer to an order

-- a line of at most one order is that order
one-line : (past : List Entry) (order : Order) (more : List Line) → line_last past ≡ lines.Command order ∷ more → line_last past ≡ lines.Command order ∷ []
one-line [] order more said = absurd cc
one-line (first ∷ rest) order more said =
    let end = last-of first rest in
    let of_last : line_last (first ∷ rest) ≡ line_of end.last = ap line_last end.is ∙ folded-append line_after [] end.before (end.last ∷ []) in
    of_last ∙ by end.last (sym of_last ∙ said)
  where
    by_found : (found : Result (Option Line) LineFault) → read_as found ≡ lines.Command order ∷ more → read_as found ≡ lines.Command order ∷ []
    by_found (Ok (Some one)) is = let same : one ≡ lines.Command order = cc in ap (λ (line : Line). line ∷ []) same
    by_found (Ok None) is = absurd cc
    by_found (Err fault) is = absurd cc

    by : (entry : Entry) → line_of entry ≡ lines.Command order ∷ more → line_of entry ≡ lines.Command order ∷ []
    by (Said words) is = by_found (line_at words) is
    by entry is = absurd cc

-- a number is the answer only where no rule refuses the order
record IsTaken (refused : Option HostRefusal) (node of : ℕ) : Type 0 where
  pub none : refused ≡ None
  pub same : node ≡ of

answer-of : (past : List Entry) (node : ℕ) (refused : Option HostRefusal) (command of : ℕ) → answered_by past node refused ≡ Accepted command of ∷ [] → IsTaken refused node of
answer-of past node None command of is = record { none = refl; same = cc }
answer-of past node (Some refusal) command of is = absurd (subst (AllByRecursion IsRefused) is (refusal-only refusal)).0

accepted-so : (answer : List Entry) (command node : ℕ) → IsAnswer answer (Accepted command node) → answer ≡ Accepted command node ∷ []
accepted-so answer command node (inl is) = is
accepted-so answer command node (inr (lets, other)) = absurd cc

module _ (devices : List State) (kinds : AllByRecursion IsOfItsKind devices) where
  asked-order : (past : List Entry) (order : Order) (command node : ℕ) → line_last past ≡ lines.Command order ∷ []
      → IsAnswer (answer_to (always (listing_of devices)) (before_last past) order) (Accepted command node) → IsAsked (listing_of devices) past node
  asked-order past order command node said answer =
      let listing = listing_of devices in
      let known = known_of (always listing) (before_last past) order.node in
      let taken = answer-of (before_last past) order.node (refusal_of known (properties_with (always listing) (before_last past) order) order) command node (accepted-so _ command node answer) in
      let ordered_so = ordered past order order.node said in
      let good = passes known order (rule-none (first_refusal known order) (properties_with (always listing) (before_last past) order) taken.none) in
      let same : host_list (always listing) (before_last past) order.node ≡ host_list (always listing) past order.node = same-list listing past order order.node ordered_so in
      let kind = known-kind devices past order.node kinds (subst (λ (l : List ℕ). lists l 0x6C ≡ true) same good.supervised) in
      record {
        order = order;
        said = said;
        of_node = taken.same;
        known = subst (λ (n : ℕ). actuator_of (host_list (always listing) past n) ≡ actuator_by (kind_at n)) taken.same kind.known;
        takes = subst (λ (n : ℕ). kind_lists (kind_at n) 0x6C ≡ true) taken.same kind.takes;
        named = what-named (actuator_by (kind_at order.node)) _ order.end order.what ordered_so.shown.reads.stands.2.0 ordered_so.shown.reads.stands.2.1 good.good;
      }

  follows-asked : (past : List Entry) (line : List Line) (command node : ℕ) → line_last past ≡ line
      → Follows (always (listing_of devices)) (refusals_to devices) (before_last past) line (Accepted command node) → IsAsked (listing_of devices) past node
  follows-asked past [] command node said follows = absurd follows
  follows-asked past (lines.Command order ∷ more) command node said follows = asked-order past order command node (one-line past order more said) follows
  follows-asked past (line ∷ more) command node said follows = absurd (refused-accepts line (refusals_to devices (before_last past) line) command node (all-only devices (before_last past) line) follows)

  may-be-asked : (past : List Entry) (entry : Entry) → MayAnswer (always (listing_of devices)) (refusals_to devices) past entry → MayBeAsked (listing_of devices) past entry
  may-be-asked past (Accepted command node) may = follows-asked past (line_last past) command node refl may
  may-be-asked past entry may = tt

  pub are-asked : (whole : Bool) (transcript : List Entry) → AnswersLines whole devices transcript → AreAsked (listing_of devices) transcript
  are-asked whole transcript answers =
      each-weaker (MayAnswer (always (listing_of devices)) (refusals_to devices)) (MayBeAsked (listing_of devices)) may-be-asked [] transcript answers.between
