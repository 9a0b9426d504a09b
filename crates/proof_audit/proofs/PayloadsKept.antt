-- No line breaks the rule of payloads where the controller's frames carry what was asked for: items that are some of a list in order are found so, each at its first
-- place.
use Rattle.std.proofs.Common.{◌≡◌, ◌⊎◌, ℕ, cond, eqb, not, Bool, true, false, inl, inr, List, [], ◌∷◌, ◌++◌, ap, refl, sym, subst, ◌∙◌, append-nil}
use Rattle.std.specs.Prelude.{◌&&◌, bytes_eq}
use Rattle.std.specs.List.{flat_map}
use Rattle.std.proofs.lemmas.Bool.{false≢true, and_from, and_left, and_right, eq-eqb, not_from_true}
use Rattle.std.proofs.lemmas.Grind.{flat_map-append}
use Rattle.std.proofs.lemmas.Slice.Eq.{bytes_eq-Decides}
use Rattle.zw_text.specs.declared.entry.Entry.{Entry}
use Rattle.zw_text.specs.declared.entry.Entry.TheVariants.{Air, Device, TableEnd, TableNode, TableValue}
use Rattle.zw_text.specs.Transcript.{frame_at, frames}
use Rattle.law_transcript.specs.Carrying.{ArePicked, CarriesUnits, MaySend, asked, outward, sent_out}
use Rattle.law_transcript.specs.Lists.{EachAfter}
use Rattle.law_transcript.specs.Nodes.{controller}
use Rattle.law_transcript.specs.Units.{Carried}
use Rattle.audit_books.specs.SessionRule.{EachKeeps}
use Rattle.audit_books.proofs.Views.{shown-more}
use Rattle.audit_rules.specs.PayloadRule.{are_picked, breaks_payload, same_carried}
use Rattle.proof_audit.specs.Tables.{IsOfTable}

-- ---- items of a list, in order

same_is : (one : Carried) → same_carried one one ≡ true
same_is one = and_from (eqb one.node one.node) (bytes_eq one.payload one.payload) (eq-eqb one.node one.node refl) ((bytes_eq-Decides one.payload one.payload).1 refl)

-- all but the first of them
picked_rest : {A : Type 0} (x : A) (xs ys : List A) → ArePicked (x ∷ xs) ys → ArePicked xs ys
picked_rest x [] ys are = tt
picked_rest x (next ∷ xs) [] are = absurd are
picked_rest x (next ∷ xs) (y ∷ ys) (inl here) = inr here.1
picked_rest x (next ∷ xs) (y ∷ ys) (inr there) = inr (picked_rest x (next ∷ xs) ys there)

-- the first that is the next one will do
picked_first : (xs ys : List Carried) → ArePicked xs ys → are_picked xs ys ≡ true
picked_first [] ys are = refl
picked_first (x ∷ xs) [] are = absurd are
picked_first (x ∷ xs) (y ∷ ys) are = by (same_carried x y) refl (picked_first xs ys) (picked_first (x ∷ xs) ys) are
  where
    by : (same : Bool) → same_carried x y ≡ same → (ArePicked xs ys → are_picked xs ys ≡ true) → (ArePicked (x ∷ xs) ys → are_picked (x ∷ xs) ys ≡ true)
        → ((x ≡ y) × ArePicked xs ys) ⊎ ArePicked (x ∷ xs) ys → cond same (are_picked xs ys) (are_picked (x ∷ xs) ys) ≡ true
    by true is met missed (inl here) = met here.1
    by true is met missed (inr there) = met (picked_rest x xs ys there)
    by false is met missed (inl here) = absurd (false≢true (sym is ∙ subst (λ (other : Carried). same_carried x other ≡ true) here.0 (same_is x)))
    by false is met missed (inr there) = missed there

-- ---- each entry

sent_more : (past : List Entry) (frame sender receiver : ℕ) (repeaters payload : List ℕ) → eqb sender controller ≡ true
    → sent_out (past ++ (Air frame sender receiver repeaters payload ∷ [])) ≡ sent_out past ++ (record { node = receiver; payload = payload } ∷ [])
sent_more past frame sender receiver repeaters payload own =
    ap (flat_map outward) (shown-more frame_at past (Air frame sender receiver repeaters payload))
    ∙ (flat_map-append outward (frames past) (frame_at (Air frame sender receiver repeaters payload))
    ∙ ap (λ (l : List Carried). sent_out past ++ l) (append-nil (cond (eqb sender controller) (c ∷ []) []) ∙ ap (λ (b : Bool). cond b (c ∷ []) []) own))
  where
    c : Carried
    c = record { node = receiver; payload = payload }

entry_keeps : (past : List Entry) (e : Entry) → MaySend past e → breaks_payload past e ≡ false
entry_keeps past (Air frame sender receiver repeaters payload) may = by (eqb sender controller) refl
  where
    found : List Carried
    found = sent_out past ++ (record { node = receiver; payload = payload } ∷ [])

    by : (own : Bool) → eqb sender controller ≡ own → (eqb sender controller && not (are_picked found (asked past))) ≡ false
    by false other = and_left (eqb sender controller) (not (are_picked found (asked past))) other
    by true own =
        and_right (eqb sender controller) (not (are_picked found (asked past)))
        (not_from_true (are_picked found (asked past))
        (picked_first found (asked past) (subst (λ (l : List Carried). ArePicked l (asked past)) (sent_more past frame sender receiver repeaters payload own) may)))
entry_keeps past e may = refl

each_keeps : (past rest : List Entry) → EachAfter MaySend past rest → EachKeeps breaks_payload past rest
each_keeps past [] may = tt
each_keeps past (e ∷ rest) may = (entry_keeps past e may.0, each_keeps (past ++ (e ∷ [])) rest may.1)

pub payloads_keep : (transcript : List Entry) → CarriesUnits transcript → EachKeeps breaks_payload [] transcript
payloads_keep transcript may = each_keeps [] transcript may

pub table_free : (past : List Entry) (e : Entry) → IsOfTable e → breaks_payload past e ≡ false
table_free past (TableEnd ticks) is = refl
table_free past (TableNode node sessions) is = refl
table_free past (TableValue node property confirmed heard) is = refl
table_free past (Device node setting) is = refl
table_free past e is = absurd is
