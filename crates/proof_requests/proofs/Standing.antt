-- How the last request stands after one entry more: after those that its rules do not look at, a copy, an answer of the chip, and the acknowledgement of one of its frames.
use Rattle.std.proofs.Common.{◌≡◌, ℕ, ◌+◌, Bool, true, false, not, ◌&&◌, if◌then◌else◌, List, [], ◌∷◌, ◌++◌, length, map, refl, sym, ap, ◌∙◌, append-nil, append_assoc}
use Rattle.std.specs.List.{AllByRecursion}
use Rattle.std.specs.Str.{bytes_eq}
use Rattle.std.proofs.lemmas.Bool.{both_ways, false_from_ne_true}
use Rattle.std.proofs.lemmas.Slice.Eq.{bytes_eq-Decides}
use Rattle.zw_base.proofs.Each.{all-weaker}
use Rattle.serial_frame.specs.declared.unit.TheConstants.{ACK}
use Rattle.zw_words.specs.declared.side.Side.TheVariants.{Host, Chip}
use Rattle.zw_text.specs.declared.entry.Entry.{Entry}
use Rattle.zw_text.specs.declared.entry.Entry.TheVariants as entry
use Rattle.proof_waking.specs.law_transcript.Lists.{shown_after}
use Rattle.proof_waking.specs.law_time.Moments.{clock}
use Rattle.proof_waking.specs.law_time.Judged.{acknowledged, frames_come, is_acknowledgement, is_data, judged, last_of}
use Rattle.proof_waking.specs.law_time.Requests.{Answer, Asked, Judging, Since, answer_at, answers_from, copies, is_answer, is_missed, judged_since, judging_at, last_copy, up_to_first}
use Rattle.proof_waking.proofs.Listening.{shown_joined}
use Rattle.proof_requests.specs.Standing.{IsAside, Standing, answers_since, standing_of, with_answer, with_copy, with_entries, with_judging}
use Rattle.proof_requests.proofs.Growing.{NoFrame, copies_one, copies_same, last_all, last_copied, last_more}

-- ---- entries

aside_no_frame : (e : Entry) → IsAside e → NoFrame e
aside_no_frame (entry.Written Host unit) aside = ap is_data aside
aside_no_frame (entry.Written Chip unit) aside = tt
aside_no_frame e aside = tt

aside_no_mark : (told : List Entry) → AllByRecursion IsAside told → is_missed told ≡ false
aside_no_mark [] all = refl
aside_no_mark (entry.Dropped Host ∷ told) all = refl
aside_no_mark (entry.Dropped Chip ∷ told) all = absurd all.0
aside_no_mark (entry.Overrun Host ∷ told) all = refl
aside_no_mark (entry.Overrun Chip ∷ told) all = absurd all.0
aside_no_mark (e ∷ told) all = refl

pub data_acknowledges_none : (unit : List ℕ) → is_data unit ≡ true → is_acknowledgement unit ≡ false
data_acknowledges_none unit is_framed =
    false_from_ne_true (is_acknowledgement unit) (λ is. both_ways (is_data unit) (ap is_data ((bytes_eq-Decides unit (ACK ∷ [])).0 is)) is_framed)

-- ---- answers

missed_same : (rest told : List Entry) → is_missed told ≡ false → is_missed (rest ++ told) ≡ is_missed rest
missed_same [] told none = none
missed_same (entry.Dropped Host ∷ rest) told none = refl
missed_same (entry.Dropped Chip ∷ rest) told none = refl
missed_same (entry.Overrun Host ∷ rest) told none = refl
missed_same (entry.Overrun Chip ∷ rest) told none = refl
missed_same (e ∷ rest) told none = refl

abbrev pub come_at : List Entry → List ℕ → Answer
come_at past unit = record { unit = unit; tick = clock past; frames = length (frames_come past) }

answer_same : (past : List Entry) (e : Entry) (rest told : List Entry) → is_missed told ≡ false → answer_at past e (rest ++ told) ≡ answer_at past e rest
answer_same past (entry.Written Host unit) rest told none = refl
answer_same past (entry.Written Chip unit) rest told none =
    ap (λ (b : Bool). if is_answer unit && not b then come_at past unit ∷ [] else []) (missed_same rest told none)
answer_same past e rest told none = refl

answers_joined : (past some told : List Entry) → is_missed told ≡ false → answers_from past (some ++ told) ≡ answers_from past some ++ answers_from (past ++ some) told
answers_joined past [] told none = ap (λ (l : List Entry). answers_from l told) (sym (append-nil past))
answers_joined past (e ∷ some) told none =
    ap (λ (l : List Answer). l ++ answers_from (past ++ e ∷ []) (some ++ told)) (answer_same past e some told none)
    ∙ ap (λ (l : List Answer). answer_at past e some ++ l) (answers_joined (past ++ e ∷ []) some told none)
    ∙ sym (append_assoc (answer_at past e some) (answers_from (past ++ e ∷ []) some) (answers_from ((past ++ e ∷ []) ++ some) told))
    ∙ ap (λ (l : List Entry). answers_from past (e ∷ some) ++ answers_from l told) (append_assoc past (e ∷ []) some)

no_answer : (past : List Entry) (e : Entry) (rest : List Entry) → IsAside e → answer_at past e rest ≡ []
no_answer past (entry.Written Host unit) rest aside = refl
no_answer past (entry.Written Chip unit) rest aside = ap (λ (b : Bool). if b && not (is_missed rest) then come_at past unit ∷ [] else []) aside
no_answer past e rest aside = refl

no_answers : (past told : List Entry) → AllByRecursion IsAside told → answers_from past told ≡ []
no_answers past [] all = refl
no_answers past (e ∷ told) all =
    ap (λ (l : List Answer). l ++ answers_from (past ++ e ∷ []) told) (no_answer past e told all.0) ∙ no_answers (past ++ e ∷ []) told all.1

-- those after the last copy, where no copy stands among what is added
answers_more : (a : Asked) (told : List Entry) → is_data a.frame ≡ true → AllByRecursion NoFrame told → is_missed told ≡ false
    → answers_since (with_entries a told) ≡ answers_since a ++ answers_from (up_to_first a ++ a.following) told
answers_more a told is_framed all none =
    ap (λ (since : Since). answers_from since.past since.following) (last_more a told is_framed all)
    ∙ answers_joined (last_copy a).past (last_copy a).following told none
    ∙ ap (λ (l : List Entry). answers_since a ++ answers_from l told) (last_all a)

last_same : (a : Asked) (told : List Entry) → is_data a.frame ≡ true → AllByRecursion NoFrame told → clock (last_copy (with_entries a told)).past ≡ clock (last_copy a).past
last_same a told is_framed all = ap (λ (since : Since). clock since.past) (last_more a told is_framed all)

-- ---- what was judged

abbrev judging_of : List Entry → List ℕ → List Judging
judging_of past unit = map (λ frame. record { unit = frame; tick = clock past; place = acknowledged past + 1 }) (last_of (judged (past ++ entry.Written Host unit ∷ [])))

no_judging : (past : List Entry) (e : Entry) → IsAside e → judging_at past e ≡ []
no_judging past (entry.Written Host unit) aside = ap (λ (b : Bool). if b then judging_of past unit else []) (ap is_acknowledgement aside)
no_judging past (entry.Written Chip unit) aside = refl
no_judging past e aside = refl

none_judged : (past told : List Entry) → AllByRecursion IsAside told → shown_after judging_at past told ≡ []
none_judged past [] all = refl
none_judged past (e ∷ told) all =
    ap (λ (l : List Judging). l ++ shown_after judging_at (past ++ e ∷ []) told) (no_judging past e all.0) ∙ none_judged (past ++ e ∷ []) told all.1

judged_more : (a : Asked) (told : List Entry) → judged_since (with_entries a told) ≡ judged_since a ++ shown_after judging_at (up_to_first a ++ a.following) told
judged_more a told = shown_joined judging_at (up_to_first a) a.following told

-- ---- how it stands

same_standing : (s : Standing) (copies last : ℕ) (answers : List Answer) (judged : List Judging) → copies ≡ s.copies → last ≡ s.last → answers ≡ s.answers → judged ≡ s.judged
    → record { frame = s.frame; copies = copies; last = last; answers = answers; judged = judged; prior = s.prior } ≡ s
same_standing s copies last answers judged copies_is last_is answers_is judged_is =
    ap (λ (n : ℕ). record { frame = s.frame; copies = n; last = last; answers = answers; judged = judged; prior = s.prior }) copies_is
    ∙ ap (λ (n : ℕ). record { frame = s.frame; copies = s.copies; last = n; answers = answers; judged = judged; prior = s.prior }) last_is
    ∙ ap (λ (l : List Answer). record { frame = s.frame; copies = s.copies; last = s.last; answers = l; judged = judged; prior = s.prior }) answers_is
    ∙ ap (λ (l : List Judging). record { frame = s.frame; copies = s.copies; last = s.last; answers = s.answers; judged = l; prior = s.prior }) judged_is

nothing_more : {A : Type 0} (items more : List A) → more ≡ [] → items ++ more ≡ items
nothing_more {A} items more none = ap (λ (l : List A). items ++ l) none ∙ append-nil items

-- as before, after a unit of the chip that does not come
pub stands_lost : (a : Asked) (told : List Entry) → is_data a.frame ≡ true → AllByRecursion NoFrame told → is_missed told ≡ false → answers_from (up_to_first a ++ a.following) told ≡ []
    → shown_after judging_at (up_to_first a ++ a.following) told ≡ [] → standing_of (with_entries a told) ≡ standing_of a
stands_lost a told is_framed frameless no_mark unanswered unjudged =
    same_standing (standing_of a) (copies (with_entries a told)) (clock (last_copy (with_entries a told)).past) (answers_since (with_entries a told)) (judged_since (with_entries a told))
    (copies_same a told is_framed frameless) (last_same a told is_framed frameless)
    (answers_more a told is_framed frameless no_mark ∙ nothing_more (answers_since a) (answers_from (up_to_first a ++ a.following) told) unanswered)
    (judged_more a told ∙ nothing_more (judged_since a) (shown_after judging_at (up_to_first a ++ a.following) told) unjudged)

-- as before, after what its rules do not look at
pub stands_aside : (a : Asked) (told : List Entry) → is_data a.frame ≡ true → AllByRecursion IsAside told → standing_of (with_entries a told) ≡ standing_of a
stands_aside a told is_framed all =
    let none = all-weaker IsAside NoFrame aside_no_frame told all in
    same_standing (standing_of a) (copies (with_entries a told)) (clock (last_copy (with_entries a told)).past) (answers_since (with_entries a told)) (judged_since (with_entries a told))
    (copies_same a told is_framed none) (last_same a told is_framed none)
    (answers_more a told is_framed none (aside_no_mark told all) ∙ nothing_more (answers_since a) (answers_from (up_to_first a ++ a.following) told) (no_answers (up_to_first a ++ a.following) told all))
    (judged_more a told ∙ nothing_more (judged_since a) (shown_after judging_at (up_to_first a ++ a.following) told) (none_judged (up_to_first a ++ a.following) told all))

-- after a copy
pub stands_copied : (a : Asked) (unit : List ℕ) → is_data a.frame ≡ true → bytes_eq unit a.frame ≡ true
    → standing_of (with_entries a (entry.Written Host unit ∷ [])) ≡ with_copy (standing_of a) (clock ((up_to_first a ++ a.following) ++ entry.Written Host unit ∷ []))
stands_copied a unit is_framed same =
    let told : List Entry = entry.Written Host unit ∷ [] in
    let past : List Entry = up_to_first a ++ a.following in
    let unit_is = (bytes_eq-Decides unit a.frame).0 same in
    let back : bytes_eq a.frame unit ≡ true = (bytes_eq-Decides a.frame unit).1 (sym unit_is) in
    let none : is_acknowledgement unit ≡ false = data_acknowledges_none unit (ap is_data unit_is ∙ is_framed) in
    same_standing (with_copy (standing_of a) (clock (past ++ told))) (copies (with_entries a told)) (clock (last_copy (with_entries a told)).past) (answers_since (with_entries a told))
    (judged_since (with_entries a told))
    (copies_one a unit back)
    (ap (λ (since : Since). clock since.past) (last_copied a unit same))
    (ap (λ (since : Since). answers_from since.past since.following) (last_copied a unit same))
    (judged_more a told ∙ nothing_more (judged_since a) (shown_after judging_at past told)
    (ap (λ (b : Bool). (if b then judging_of past unit else []) ++ []) none))

-- after an answer of the chip
pub stands_answered : (a : Asked) (unit : List ℕ) → is_data a.frame ≡ true → is_answer unit ≡ true
    → standing_of (with_entries a (entry.Written Chip unit ∷ []))
    ≡ with_answer (standing_of a) (record { unit = unit; tick = clock (up_to_first a ++ a.following); frames = length (frames_come (up_to_first a ++ a.following)) })
stands_answered a unit is_framed answers =
    let told : List Entry = entry.Written Chip unit ∷ [] in
    let past : List Entry = up_to_first a ++ a.following in
    same_standing (with_answer (standing_of a) (come_at past unit)) (copies (with_entries a told)) (clock (last_copy (with_entries a told)).past) (answers_since (with_entries a told))
    (judged_since (with_entries a told))
    (copies_same a told is_framed (tt, tt)) (last_same a told is_framed (tt, tt))
    (answers_more a told is_framed (tt, tt) refl ∙ ap (λ (b : Bool). answers_since a ++ ((if b && true then come_at past unit ∷ [] else []) ++ [])) answers)
    (judged_more a told ∙ append-nil (judged_since a))

-- after the acknowledgement of a frame
pub stands_judged : (a : Asked) (text : List ℕ) → is_data a.frame ≡ true → last_of (judged ((up_to_first a ++ a.following) ++ entry.Written Host (ACK ∷ []) ∷ [])) ≡ text ∷ []
    → standing_of (with_entries a (entry.Written Host (ACK ∷ []) ∷ []))
    ≡ with_judging (standing_of a) (record { unit = text; tick = clock (up_to_first a ++ a.following); place = acknowledged (up_to_first a ++ a.following) + 1 })
stands_judged a text is_framed last =
    let told : List Entry = entry.Written Host (ACK ∷ []) ∷ [] in
    let past : List Entry = up_to_first a ++ a.following in
    let one : Judging = record { unit = text; tick = clock past; place = acknowledged past + 1 } in
    same_standing (with_judging (standing_of a) one) (copies (with_entries a told)) (clock (last_copy (with_entries a told)).past) (answers_since (with_entries a told))
    (judged_since (with_entries a told))
    (copies_same a told is_framed (refl, tt)) (last_same a told is_framed (refl, tt))
    (answers_more a told is_framed (refl, tt) refl ∙ append-nil (answers_since a))
    (judged_more a told
    ∙ ap (λ (l : List (List ℕ)). judged_since a ++ (map (λ frame. record { unit = frame; tick = clock past; place = acknowledged past + 1 }) l ++ [])) last)
