-- The nonces of a node, counted as the transcript shows them.
use Rattle.std.proofs.Common.{◌≡◌, ℕ, ◌<◌, ◌+◌, cond, eqb, Bool, true, false, List, [], ◌∷◌, ◌++◌, length, Option, Some, None, arith, ap, ap₂, refl, sym, ◌∙◌, append-nil, ⊎_elim}
use Rattle.std.specs.Prelude.{◌&&◌}
use Rattle.std.specs.List.{flat_map}
use Rattle.std.proofs.Math.ListN.{set}
use Rattle.std.proofs.lemmas.Grind.{flat_map-append}
use Rattle.std.proofs.lemmas.List.{get_or-set_same, get_or-set_other, length-set}
use Rattle.std.proofs.lemmas.Bool.{cases_eq, eq-eqb, ne_eqb}
use Rattle.air_frames.specs.Nonces.{nonce_in}
use Rattle.zw_text.specs.declared.entry.Entry.{Entry}
use Rattle.zw_text.specs.declared.entry.Entry.TheVariants.{Air}
use Rattle.zw_text.specs.Transcript.{AirFrame, frame_at, frames}
use Rattle.law_transcript.specs.Lists.{listed}
use Rattle.law_transcript.specs.Nodes.{controller}
use Rattle.law_transcript.specs.Repeats.{new_nonces, news_after, nonces_shown}
use Rattle.audit_rules.specs.declared.frames.Shown.{Shown}
use Rattle.audit_rules.specs.Flying.{Flying, counted, no_nonces, shown_at, shown_count, shown_if}
use Rattle.audit_rules.specs.KeepingFrames.{shown_by, shown_from}
use Rattle.zw_text.proofs.Views.{shown-append}

-- counting is adding up what is new
count-from : (before : Shown) (nonces : List (List ℕ)) → (shown_from before nonces).count ≡ before.count + news_after before.last nonces
count-from before [] = omega arith
count-from before (nonce ∷ nonces) = let e = count-from (counted before (Some nonce)) nonces in omega (arith, e)

pub count-is : (nonces : List (List ℕ)) → (shown_by nonces).count ≡ news_after None nonces
count-is nonces = let e : (shown_by nonces).count ≡ 0 + news_after None nonces = count-from no_nonces nonces in omega (arith, e)

pub shown-from-more : (before : Shown) (nonces : List (List ℕ)) (found : Option (List ℕ)) → shown_from before (nonces ++ listed found) ≡ counted (shown_from before nonces) found
shown-from-more before [] None = refl
shown-from-more before [] (Some nonce) = refl
shown-from-more before (first ∷ nonces) found = shown-from-more (counted before (Some first)) nonces found

-- the nonces that an entry shows
abbrev pub showing_of : ℕ → ℕ → AirFrame → List (List ℕ)
showing_of sender receiver frame = cond (eqb frame.sender sender && eqb frame.receiver receiver) (listed (nonce_in frame.payload)) []

pub nonces-more : (sender receiver : ℕ) (past : List Entry) (entry : Entry) →
    nonces_shown sender receiver (past ++ (entry ∷ [])) ≡ nonces_shown sender receiver past ++ flat_map (showing_of sender receiver) (frame_at entry)
nonces-more sender receiver past entry =
    ap (flat_map (showing_of sender receiver)) (shown-append frame_at past (entry ∷ []) ∙ ap (λ l. frames past ++ l) (append-nil (frame_at entry)))
    ∙ flat_map-append (showing_of sender receiver) (frames past) (frame_at entry)

-- one nonce more in a table, of the nodes of a way
pub table-more : (table : List Shown) (is_shown : Bool) (at n : ℕ) (found : Option (List ℕ)) (before : List (List ℕ)) → at < length table →
    shown_at table n ≡ shown_by before →
    shown_at (shown_if is_shown at found table) n ≡ shown_by (before ++ cond (is_shown && eqb at n) (listed found) [])
table-more table false at n found before within is = is ∙ ap shown_by (sym (append-nil before))
table-more table true at n found before within is =
    ⊎_elim
    (λ (e : at ≡ n).
    ap (λ m. shown_at (set table at (counted (shown_at table at) found)) m) (sym e)
    ∙ get_or-set_same table at (counted (shown_at table at) found) no_nonces within
    ∙ ap (λ s. counted s found) (ap (shown_at table) e ∙ is)
    ∙ sym (shown-from-more no_nonces before found)
    ∙ ap (λ b. shown_by (before ++ cond b (listed found) [])) (sym (eq-eqb at n e)))
    (λ (ne : at ≡ n → ⊥).
    get_or-set_other table at n (counted (shown_at table at) found) no_nonces (λ e. ne (sym e))
    ∙ is ∙ ap shown_by (sym (append-nil before))
    ∙ ap (λ b. shown_by (before ++ cond b (listed found) [])) (sym (ne_eqb at n ne)))
    (cases_eq at n)

pub places-shown : (table : List Shown) (is_shown : Bool) (at : ℕ) (found : Option (List ℕ)) → length (shown_if is_shown at found table) ≡ length table
places-shown table false at found = refl
places-shown table true at found = length-set table at (counted (shown_at table at) found)

and-swap : (a b : Bool) → (a && b) ≡ (b && a)
and-swap true true = refl
and-swap true false = refl
and-swap false true = refl
and-swap false false = refl

-- what a frame of the controller shows a node, and a frame of a node the controller
pub outward-more : (table : List Shown) (past : List Entry) (frame sender receiver : ℕ) (repeaters payload : List ℕ) (n : ℕ) → receiver < length table →
    shown_at table n ≡ shown_by (nonces_shown controller n past) →
    shown_at (shown_if (eqb sender controller) receiver (nonce_in payload) table) n ≡ shown_by (nonces_shown controller n (past ++ (Air frame sender receiver repeaters payload ∷ [])))
outward-more table past frame sender receiver repeaters payload n within is =
    table-more table (eqb sender controller) receiver n (nonce_in payload) (nonces_shown controller n past) within is
    ∙ ap (λ l. shown_by (nonces_shown controller n past ++ l)) (sym (append-nil (cond (eqb sender controller && eqb receiver n) (listed (nonce_in payload)) [])))
    ∙ ap shown_by (sym (nonces-more controller n past (Air frame sender receiver repeaters payload)))

pub homeward-more : (table : List Shown) (past : List Entry) (frame sender receiver : ℕ) (repeaters payload : List ℕ) (n : ℕ) → sender < length table →
    shown_at table n ≡ shown_by (nonces_shown n controller past) →
    shown_at (shown_if (eqb receiver controller) sender (nonce_in payload) table) n ≡ shown_by (nonces_shown n controller (past ++ (Air frame sender receiver repeaters payload ∷ [])))
homeward-more table past frame sender receiver repeaters payload n within is =
    table-more table (eqb receiver controller) sender n (nonce_in payload) (nonces_shown n controller past) within is
    ∙ ap (λ b. shown_by (nonces_shown n controller past ++ cond b (listed (nonce_in payload)) [])) (and-swap (eqb receiver controller) (eqb sender n))
    ∙ ap (λ l. shown_by (nonces_shown n controller past ++ l)) (sym (append-nil (cond (eqb sender n && eqb receiver controller) (listed (nonce_in payload)) [])))
    ∙ ap shown_by (sym (nonces-more n controller past (Air frame sender receiver repeaters payload)))

-- the counts of a node
pub counts-are : (flying : Flying) (past : List Entry) (node : ℕ) →
    shown_at flying.outward node ≡ shown_by (nonces_shown controller node past) → shown_at flying.homeward node ≡ shown_by (nonces_shown node controller past) →
    shown_count flying node ≡ new_nonces node past
counts-are flying past node outward homeward =
    ap₂ (λ a b. a + b) (ap (λ s. s.count) homeward ∙ count-is (nonces_shown node controller past)) (ap (λ s. s.count) outward ∙ count-is (nonces_shown controller node past))
