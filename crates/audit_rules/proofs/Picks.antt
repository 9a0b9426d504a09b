-- What the host asked for and the controller sent goes with the transcript, and judges the next entry as the rule of payloads.
use Rattle.std.proofs.Common.{◌≡◌, ℕ, cond, eqb, not, Bool, true, false, List, [], ◌∷◌, ◌++◌, Option, Some, None, is_none, is_some, Result, Ok, Err, ap, ap₂, refl, sym, subst, ◌∙◌, append-nil}
use Rattle.std.specs.Prelude.{◌||◌, ◌&&◌}
use Rattle.std.specs.List.{flat_map}
use Rattle.std.proofs.lemmas.Grind.{flat_map-append}
use Rattle.std.proofs.lemmas.Bool.{false≢true}
use Rattle.chip_functions.specs.declared.fault.BodyFault.{BodyFault}
use Rattle.chip_functions.specs.declared.request.Request.{Request}
use Rattle.chip_functions.specs.declared.request.Request.TheVariants.{SendData}
use Rattle.chip_functions.specs.Request.{request_of}
use Rattle.zw_words.specs.declared.side.Side.TheVariants.{Host}
use Rattle.zw_text.specs.declared.entry.Entry.{Entry}
use Rattle.zw_text.specs.declared.entry.Entry.TheVariants.{Written, Dropped, Garbled, Overrun, Air}
use Rattle.zw_text.specs.Transcript.{Unit_on, Way, frame_at, frames, last_with, unit_step, units}
use Rattle.zw_text.specs.Transcript.Way.{Whole, Missed, Changed}
use Rattle.law_transcript.specs.Carrying.{asked, asked_by, asked_in, body_of, is_request, outward, sent_out}
use Rattle.law_transcript.specs.Lists.{listed}
use Rattle.law_transcript.specs.Nodes.{controller}
use Rattle.law_transcript.specs.Units.{Carried, arrived_of, function_in, read_well, sending_of}
use Rattle.audit_rules.specs.PayloadRule.{are_picked, breaks_payload, same_carried}
use Rattle.audit_rules.specs.Sending.{Sendings, asked_for, following, breaks_sending, changed, first_of, is_that, kept_unmet, may_send, no_sendings, sendings_after, sent, sent_by, sent_found, settled, wrote}
use Rattle.audit_rules.specs.KeepingPayloads.{AreSendingsOf, Picked, but_last, has_unit, last_unit, picking}
use Rattle.zw_text.proofs.Views.{folded-append, shown-append}
use Rattle.audit_books.proofs.Changed.{or-true}

-- ---- picking

picking-items : (wanted items bs : List Carried) → picking wanted (items ++ bs) ≡ picking (picking wanted items).wanted ((picking wanted items).left ++ bs)
picking-items [] items bs = refl
picking-items (one ∷ more) [] bs = refl
picking-items (one ∷ more) (item ∷ items) bs = by (same_carried one item) (picking-items more items bs) (picking-items (one ∷ more) items bs)
  where
    by : (b : Bool) →
        picking more (items ++ bs) ≡ picking (picking more items).wanted ((picking more items).left ++ bs) →
        picking (one ∷ more) (items ++ bs) ≡ picking (picking (one ∷ more) items).wanted ((picking (one ∷ more) items).left ++ bs) →
        cond b (picking more (items ++ bs)) (picking (one ∷ more) (items ++ bs))
        ≡ picking (cond b (picking more items) (picking (one ∷ more) items)).wanted ((cond b (picking more items) (picking (one ∷ more) items)).left ++ bs)
    by true met missed = met
    by false met missed = missed

picking-wanted : (wanted others items : List Carried) → picking (wanted ++ others) items ≡ picking ((picking wanted items).wanted ++ others) (picking wanted items).left
picking-wanted [] others items = refl
picking-wanted (one ∷ more) others [] = refl
picking-wanted (one ∷ more) others (item ∷ items) = by (same_carried one item) (picking-wanted more others items) (picking-wanted (one ∷ more) others items)
  where
    by : (b : Bool) →
        picking (more ++ others) items ≡ picking ((picking more items).wanted ++ others) (picking more items).left →
        picking (one ∷ (more ++ others)) items ≡ picking ((picking (one ∷ more) items).wanted ++ others) (picking (one ∷ more) items).left →
        cond b (picking (more ++ others) items) (picking (one ∷ (more ++ others)) items)
        ≡ picking ((cond b (picking more items) (picking (one ∷ more) items)).wanted ++ others) (cond b (picking more items) (picking (one ∷ more) items)).left
    by true met missed = met
    by false met missed = missed

-- where something is wanted nothing is left
abbrev LeavesNone : List Carried → List Carried → Type 0
LeavesNone [] left = Unit {0}
LeavesNone (one ∷ more) left = left ≡ []

picking-none : (wanted items : List Carried) → LeavesNone (picking wanted items).wanted (picking wanted items).left
picking-none [] items = tt
picking-none (one ∷ more) [] = refl
picking-none (one ∷ more) (item ∷ items) = by (same_carried one item) (picking-none more items) (picking-none (one ∷ more) items)
  where
    by : (b : Bool) → LeavesNone (picking more items).wanted (picking more items).left → LeavesNone (picking (one ∷ more) items).wanted (picking (one ∷ more) items).left →
        LeavesNone (cond b (picking more items) (picking (one ∷ more) items)).wanted (cond b (picking more items) (picking (one ∷ more) items)).left
    by true met missed = met
    by false met missed = missed

abbrev is_nil : List Carried → Bool
is_nil [] = true
is_nil (one ∷ more) = false

picked-is : (wanted items : List Carried) → are_picked wanted items ≡ is_nil (picking wanted items).wanted
picked-is [] items = refl
picked-is (one ∷ more) [] = refl
picked-is (one ∷ more) (item ∷ items) = by (same_carried one item) (picked-is more items) (picked-is (one ∷ more) items)
  where
    by : (b : Bool) → are_picked more items ≡ is_nil (picking more items).wanted → are_picked (one ∷ more) items ≡ is_nil (picking (one ∷ more) items).wanted →
        cond b (are_picked more items) (are_picked (one ∷ more) items) ≡ is_nil (cond b (picking more items) (picking (one ∷ more) items)).wanted
    by true met missed = met
    by false met missed = missed

-- one that is wanted
abbrev one_picked : Carried → Option (List Carried) → Picked
one_picked one None = record { wanted = one ∷ []; left = [] }
one_picked one (Some rest) = record { wanted = []; left = rest }

one-picking : (one : Carried) (items : List Carried) → picking (one ∷ []) items ≡ one_picked one (following one items)
one-picking one [] = refl
one-picking one (item ∷ items) = by (same_carried one item) (one-picking one items)
  where
    by : (b : Bool) → picking (one ∷ []) items ≡ one_picked one (following one items) → cond b (picking [] items) (picking (one ∷ []) items) ≡ one_picked one (cond b (Some items) (following one items))
    by true missed = refl
    by false missed = missed

-- ---- units

last-cons : (w : Way) (u v : Unit_on) (m : List Unit_on) → last_unit (u ∷ last_with w (v ∷ m)) ≡ last_unit (last_with w (v ∷ m))
last-cons w u v [] = refl
last-cons w u v (x ∷ m) = refl

but-cons : (w : Way) (u v : Unit_on) (m : List Unit_on) → but_last (u ∷ last_with w (v ∷ m)) ≡ u ∷ but_last (last_with w (v ∷ m))
but-cons w u v [] = refl
but-cons w u v (x ∷ m) = refl

has-with : (w : Way) (us : List Unit_on) → has_unit (last_with w us) ≡ has_unit us
has-with w [] = refl
has-with w (u ∷ []) = refl
has-with w (u ∷ v ∷ m) = refl

but-with : (w : Way) (us : List Unit_on) → but_last (last_with w us) ≡ but_last us
but-with w [] = refl
but-with w (u ∷ []) = refl
but-with w (u ∷ v ∷ m) = but-cons w u v m ∙ ap (λ l. u ∷ l) (but-with w (v ∷ m))

asked-with : (w : Way) (arrives : List (List ℕ)) → ((bytes : List ℕ) → arrived_of bytes w ≡ arrives) → (us : List Unit_on) →
    asked_in (last_unit (last_with w us)) ≡ cond (has_unit us) (flat_map asked_by arrives) []
asked-with w arrives are [] = refl
asked-with w arrives are (u ∷ []) = append-nil (flat_map asked_by (arrived_of u.bytes w)) ∙ ap (flat_map asked_by) (are u.bytes)
asked-with w arrives are (u ∷ v ∷ m) = ap asked_in (last-cons w u v m) ∙ asked-with w arrives are (v ∷ m)

but-more : (us : List Unit_on) (u : Unit_on) → but_last (us ++ (u ∷ [])) ≡ us
but-more [] u = refl
but-more (v ∷ []) u = refl
but-more (v ∷ w ∷ m) u = ap (λ l. v ∷ l) (but-more (w ∷ m) u)

last-more : (us : List Unit_on) (u : Unit_on) → last_unit (us ++ (u ∷ [])) ≡ u ∷ []
last-more [] u = refl
last-more (v ∷ []) u = refl
last-more (v ∷ w ∷ m) u = last-more (w ∷ m) u

has-more : (us : List Unit_on) (u : Unit_on) → has_unit (us ++ (u ∷ [])) ≡ true
has-more [] u = refl
has-more (v ∷ m) u = refl

parts : (us : List Unit_on) → us ≡ but_last us ++ last_unit us
parts [] = refl
parts (u ∷ []) = refl
parts (u ∷ v ∷ m) = ap (λ l. u ∷ l) (parts (v ∷ m))

asked-append : (us vs : List Unit_on) → asked_in (us ++ vs) ≡ asked_in us ++ asked_in vs
asked-append us vs = flat_map-append (λ (unit : Unit_on). flat_map asked_by (arrived_of unit.bytes unit.way)) us vs

asked-parts : (us : List Unit_on) → asked_in us ≡ asked_in (but_last us) ++ asked_in (last_unit us)
asked-parts us = ap asked_in (parts us) ∙ asked-append (but_last us) (last_unit us)

-- a unit asks for one payload at most
request-one : (request : Request) → listed (first_of (sending_of request)) ≡ sending_of request
request-one (SendData node payload options id) = refl
request-one request = refl

read-one : (found : Result Request BodyFault) → listed (first_of (flat_map sending_of (read_well found))) ≡ flat_map sending_of (read_well found)
read-one (Ok request) =
    ap (λ l. listed (first_of l)) (append-nil (sending_of request)) ∙ request-one request ∙ sym (append-nil (sending_of request))
read-one (Err fault) = refl

cond-one : (b : Bool) (l : List Carried) → listed (first_of l) ≡ l → listed (first_of (cond b l [])) ≡ cond b l []
cond-one true l e = e
cond-one false l e = refl

asked-one : (unit : List ℕ) → listed (asked_for unit) ≡ asked_by unit
asked-one unit = cond-one (is_request unit) _ (read-one (request_of (function_in unit) (body_of unit)))

-- ---- judging

-- whether one more can be picked, where that is wanted and left
one-more : (unmet last : Option Carried) (left : List Carried) (c : Carried) → LeavesNone (listed unmet) left →
    is_nil (picking (picking (listed unmet ++ (c ∷ [])) left).wanted ((picking (listed unmet ++ (c ∷ [])) left).left ++ listed last)).wanted
    ≡ (is_none unmet && (is_that last c || is_some (following c left)))
one-more None last left c none =
    ap (λ p. is_nil (picking p.wanted (p.left ++ listed last)).wanted) (one-picking c left) ∙ by (following c left) last
  where
    that : (b : Bool) → is_nil (cond b (picking [] []) (picking (c ∷ []) [])).wanted ≡ (b || false)
    that true = refl
    that false = refl

    by : (found : Option (List Carried)) (last : Option Carried) →
        is_nil (picking (one_picked c found).wanted ((one_picked c found).left ++ listed last)).wanted ≡ (is_that last c || is_some found)
    by (Some rest) last = sym (or-true (is_that last c))
    by None None = refl
    by None (Some l) = that (same_carried c l)
one-more (Some o) last left c none =
    ap (λ l. is_nil (picking (picking (o ∷ c ∷ []) l).wanted ((picking (o ∷ c ∷ []) l).left ++ listed last)).wanted) none ∙ by last
  where
    two : (b : Bool) → is_nil (cond b (picking (c ∷ []) []) (picking (o ∷ c ∷ []) [])).wanted ≡ false
    two true = refl
    two false = refl

    by : (last : Option Carried) → is_nil (picking (o ∷ c ∷ []) ([] ++ listed last)).wanted ≡ false
    by None = refl
    by (Some l) = two (same_carried o l)

left-none : (sendings : Sendings) (past : List Entry) → AreSendingsOf sendings past → LeavesNone (listed sendings.unmet) sendings.left
left-none sendings past are =
    subst (λ (p : Picked). LeavesNone p.wanted p.left) are.picked (picking-none (sent_out past) (asked_in (but_last (units Host past))))

picked-more : (sendings : Sendings) (past : List Entry) (c : Carried) → AreSendingsOf sendings past →
    picking (sent_out past ++ (c ∷ [])) (asked_in (but_last (units Host past))) ≡ picking (listed sendings.unmet ++ (c ∷ [])) sendings.left
picked-more sendings past c are =
    picking-wanted (sent_out past) (c ∷ []) (asked_in (but_last (units Host past)))
    ∙ ap (λ (p : Picked). picking (p.wanted ++ (c ∷ [])) p.left) are.picked

may-is : (sendings : Sendings) (past : List Entry) (c : Carried) → AreSendingsOf sendings past →
    may_send sendings c ≡ are_picked (sent_out past ++ (c ∷ [])) (asked past)
may-is sendings past c are =
    sym (picked-is (sent_out past ++ (c ∷ [])) (asked past)
    ∙ ap (λ l. is_nil (picking (sent_out past ++ (c ∷ [])) l).wanted) (asked-parts (units Host past))
    ∙ ap (λ (p : Picked). is_nil p.wanted) (picking-items (sent_out past ++ (c ∷ [])) (asked_in (but_last (units Host past))) (asked_in (last_unit (units Host past))))
    ∙ ap₂ (λ (p : Picked) (l : List Carried). is_nil (picking p.wanted (p.left ++ l)).wanted) (picked-more sendings past c are) (sym are.last)
    ∙ one-more sendings.unmet sendings.last sendings.left c (left-none sendings past are))

pub judges-payload : (sendings : Sendings) (past : List Entry) (entry : Entry) → AreSendingsOf sendings past → breaks_sending sendings entry ≡ breaks_payload past entry
judges-payload sendings past (Air frame sender receiver repeaters payload) are =
    ap (λ b. eqb sender controller && not b) (may-is sendings past (record { node = receiver; payload = payload }) are)
judges-payload sendings past other are = refl

-- ---- the first tables

pub payloads-begin : AreSendingsOf no_sendings []
payloads-begin = record { picked = refl; last = refl; written = refl }

-- ---- one entry more

units-more : (past : List Entry) (entry : Entry) → units Host (past ++ (entry ∷ [])) ≡ unit_step Host (units Host past) entry
units-more past entry = folded-append (unit_step Host) [] past (entry ∷ [])

sent-more : (past : List Entry) (entry : Entry) → sent_out (past ++ (entry ∷ [])) ≡ sent_out past ++ flat_map outward (frame_at entry)
sent-more past entry = ap (flat_map outward) (shown-append frame_at past (entry ∷ []) ∙ ap (λ l. frames past ++ l) (append-nil (frame_at entry))) ∙ flat_map-append outward (frames past) (frame_at entry)

sent-same : (past : List Entry) (entry : Entry) → flat_map outward (frame_at entry) ≡ [] → sent_out (past ++ (entry ∷ [])) ≡ sent_out past
sent-same past entry none = sent-more past entry ∙ ap (λ l. sent_out past ++ l) none ∙ append-nil (sent_out past)

-- the same facts of other lists that are the same
moved : (sendings : Sendings) (past : List Entry) (entry : Entry) (sends : List Carried) (us : List Unit_on) →
    sent_out (past ++ (entry ∷ [])) ≡ sends → units Host (past ++ (entry ∷ [])) ≡ us →
    picking sends (asked_in (but_last us)) ≡ record { wanted = listed sendings.unmet; left = sendings.left } →
    listed sendings.last ≡ asked_in (last_unit us) → sendings.written ≡ has_unit us → AreSendingsOf sendings (past ++ (entry ∷ []))
moved sendings past entry sends us same alike picked last written = record {
  picked = ap₂ (λ s u. picking s (asked_in (but_last u))) same alike ∙ picked;
  last = last ∙ ap (λ u. asked_in (last_unit u)) (sym alike);
  written = written ∙ ap has_unit (sym alike);
}

quiet-payload : (sendings : Sendings) (past : List Entry) (entry : Entry) → AreSendingsOf sendings past →
    flat_map outward (frame_at entry) ≡ [] → unit_step Host (units Host past) entry ≡ units Host past → AreSendingsOf sendings (past ++ (entry ∷ []))
quiet-payload sendings past entry are none still =
    moved sendings past entry (sent_out past) (units Host past) (sent-same past entry none) (units-more past entry ∙ still) are.picked are.last are.written

settles : (unmet last : Option Carried) (left : List Carried) (written : Bool) → LeavesNone (listed unmet) left →
    picking (listed unmet) (left ++ listed last)
    ≡ record {
      wanted = listed (settled (record { left = left; last = last; unmet = unmet; written = written })).unmet;
      left = (settled (record { left = left; last = last; unmet = unmet; written = written })).left;
    }
settles None None left written none = ap (λ l. picking [] l) (append-nil left)
settles None (Some l) left written none = refl
settles (Some o) None left written none =
    ap (λ m. picking (o ∷ []) (m ++ [])) none ∙ ap (λ m. record { wanted = o ∷ []; left = m }) (sym none)
settles (Some o) (Some l) left written none =
    ap (λ m. picking (o ∷ []) (m ++ (l ∷ []))) none ∙ by (same_carried o l) ∙ ap (λ m. record { wanted = listed (kept_unmet (Some l) o); left = m }) (sym none)
  where
    by : (b : Bool) → cond b (picking [] []) (picking (o ∷ []) []) ≡ record { wanted = listed (cond b None (Some o)); left = [] }
    by true = refl
    by false = refl

writes-more : (sendings : Sendings) (past : List Entry) (unit : List ℕ) → AreSendingsOf sendings past → AreSendingsOf (wrote sendings unit) (past ++ (Written Host unit ∷ []))
writes-more sendings past unit are =
    let us = units Host past in
    let u : Unit_on = record { bytes = unit; way = Whole } in
    moved (wrote sendings unit) past (Written Host unit) (sent_out past) (us ++ (u ∷ []))
    (sent-same past (Written Host unit) refl) (units-more past (Written Host unit))
    (ap (λ v. picking (sent_out past) (asked_in v)) (but-more us u)
    ∙ ap (picking (sent_out past)) (asked-parts us)
    ∙ picking-items (sent_out past) (asked_in (but_last us)) (asked_in (last_unit us))
    ∙ ap₂ (λ (p : Picked) (l : List Carried). picking p.wanted (p.left ++ l)) are.picked (sym are.last)
    ∙ settles sendings.unmet sendings.last sendings.left sendings.written (left-none sendings past are))
    (asked-one unit ∙ sym (append-nil (asked_by unit)) ∙ sym (append-nil (asked_by unit ++ [])) ∙ ap asked_in (sym (last-more us u)))
    (sym (has-more us u))

changes-more : (sendings : Sendings) (past : List Entry) (entry : Entry) (w : Way) (last : Option Carried) (arrives : List (List ℕ)) → AreSendingsOf sendings past →
    flat_map outward (frame_at entry) ≡ [] → unit_step Host (units Host past) entry ≡ last_with w (units Host past) →
    ((bytes : List ℕ) → arrived_of bytes w ≡ arrives) → listed last ≡ flat_map asked_by arrives → AreSendingsOf (changed sendings last) (past ++ (entry ∷ []))
changes-more sendings past entry w last arrives are none step way asks =
    by sendings.written refl
  where
    by : (b : Bool) → sendings.written ≡ b → AreSendingsOf (cond b (record sendings { last = last }) sendings) (past ++ (entry ∷ []))
    by true there =
        moved (record sendings { last = last }) past entry (sent_out past) (last_with w (units Host past))
        (sent-same past entry none) (units-more past entry ∙ step)
        (ap (λ u. picking (sent_out past) (asked_in u)) (but-with w (units Host past)) ∙ are.picked)
        (asks ∙ ap (λ b. cond b (flat_map asked_by arrives) []) (sym there ∙ are.written) ∙ sym (asked-with w arrives way (units Host past)))
        (are.written ∙ sym (has-with w (units Host past)))
    by false there =
        moved sendings past entry (sent_out past) (last_with w (units Host past))
        (sent-same past entry none) (units-more past entry ∙ step)
        (ap (λ u. picking (sent_out past) (asked_in u)) (but-with w (units Host past)) ∙ are.picked)
        (are.last ∙ no-last (units Host past) (sym are.written ∙ there)
        ∙ ap (λ b. cond b (flat_map asked_by arrives) []) (sym there ∙ are.written) ∙ sym (asked-with w arrives way (units Host past)))
        (are.written ∙ sym (has-with w (units Host past)))
      where
        no-last : (us : List Unit_on) → has_unit us ≡ false → asked_in (last_unit us) ≡ []
        no-last [] e = refl
        no-last (u ∷ m) e = absurd (false≢true (sym e))

sends-more : (sendings : Sendings) (past : List Entry) (frame sender receiver : ℕ) (repeaters payload : List ℕ) → AreSendingsOf sendings past →
    breaks_sending sendings (Air frame sender receiver repeaters payload) ≡ false →
    AreSendingsOf (sent_by sendings sender receiver payload) (past ++ (Air frame sender receiver repeaters payload ∷ []))
sends-more sendings past frame sender receiver repeaters payload are keeps = by (eqb sender controller) refl
  where
    entry : Entry
    entry = Air frame sender receiver repeaters payload

    c : Carried
    c = record { node = receiver; payload = payload }

    out : (b : Bool) → eqb sender controller ≡ b → flat_map outward (frame_at entry) ≡ cond b (c ∷ []) []
    out b e = append-nil (cond (eqb sender controller) (c ∷ []) []) ∙ ap (λ d. cond d (c ∷ []) []) e

    closed : (unmet : Option Carried) (b : Bool) → not (is_none unmet && b) ≡ false → unmet ≡ None
    closed None b e = refl
    closed (Some o) b e = absurd (false≢true (sym e))

    found : (unmet : Option Carried) (f : Option (List Carried)) → unmet ≡ None →
        one_picked c f ≡ record { wanted = listed (sent_found (record sendings { unmet = unmet }) c f).unmet; left = (sent_found (record sendings { unmet = unmet }) c f).left }
    found unmet None e = refl
    found unmet (Some rest) e = ap (λ o. record { wanted = listed o; left = rest }) (sym e)

    last-same : (f : Option (List Carried)) → (sent_found sendings c f).last ≡ sendings.last
    last-same None = refl
    last-same (Some rest) = refl

    written-same : (f : Option (List Carried)) → (sent_found sendings c f).written ≡ sendings.written
    written-same None = refl
    written-same (Some rest) = refl

    by : (b : Bool) → eqb sender controller ≡ b → AreSendingsOf (cond b (sent sendings c) sendings) (past ++ (entry ∷ []))
    by false e = quiet-payload sendings past entry are (out false e) refl
    by true e =
        let may : not (may_send sendings c) ≡ false = ap (λ b. b && not (may_send sendings c)) (sym e) ∙ keeps in
        let none : sendings.unmet ≡ None = closed sendings.unmet _ may in
        moved (sent sendings c) past entry (sent_out past ++ (c ∷ [])) (units Host past)
        (sent-more past entry ∙ ap (λ l. sent_out past ++ l) (out true e)) (units-more past entry)
        (picked-more sendings past c are ∙ ap (λ o. picking (listed o ++ (c ∷ [])) sendings.left) none ∙ one-picking c sendings.left
        ∙ found sendings.unmet (following c sendings.left) none)
        (ap listed (last-same (following c sendings.left)) ∙ are.last) (written-same (following c sendings.left) ∙ are.written)

pub goes-payload : (sendings : Sendings) (past : List Entry) (entry : Entry) → AreSendingsOf sendings past → breaks_payload past entry ≡ false →
    AreSendingsOf (sendings_after sendings entry) (past ++ (entry ∷ []))
goes-payload sendings past (Written Host unit) are keeps = writes-more sendings past unit are
goes-payload sendings past (Garbled Host unit) are keeps =
    changes-more sendings past (Garbled Host unit) (Changed unit) (asked_for unit) (unit ∷ []) are refl refl (λ bytes. refl) (asked-one unit ∙ sym (append-nil (asked_by unit)))
goes-payload sendings past (Dropped Host) are keeps = changes-more sendings past (Dropped Host) Missed None [] are refl refl (λ bytes. refl) refl
goes-payload sendings past (Overrun Host) are keeps = changes-more sendings past (Overrun Host) Missed None [] are refl refl (λ bytes. refl) refl
goes-payload sendings past (Air frame sender receiver repeaters payload) are keeps =
    sends-more sendings past frame sender receiver repeaters payload are
    (judges-payload sendings past (Air frame sender receiver repeaters payload) are ∙ keeps)
goes-payload sendings past other are keeps = quiet-payload sendings past other are refl refl
