-- How one entry goes on the course of notes: where nothing is due it may stand, and where a note is due it is the one that stands next.
use Rattle.std.proofs.Common.{◌≡◌, ℕ, ◌==◌, ◌&&◌, ◌||◌, not, Bool, true, false, if◌then◌else◌, List, [], ◌∷◌, ◌++◌, refl, sym, ap, ap₂, ◌∙◌, append-nil, append_assoc}
use Rattle.std.specs.List.{AllByRecursion}
use Rattle.std.specs.Str.{bytes_eq}
use Rattle.std.proofs.lemmas.Bool.{and_from, eq-eqb}
use Rattle.std.proofs.lemmas.Slice.Eq.{bytes_eq-Decides}
use Rattle.zw_base.specs.PropertyOrder.{same_property}
use Rattle.zw_base.specs.declared.property.Setting.{Setting}
use Rattle.value_store.proofs.Keys.{same_property_laws}
use Rattle.zw_words.specs.declared.side.Side.TheVariants.{Host}
use Rattle.zw_text.specs.Entry.{done_word, ended_word}
use Rattle.zw_text.specs.declared.entry.Entry.{Entry}
use Rattle.zw_text.specs.declared.entry.Entry.TheVariants as entry
use Rattle.zw_text.specs.Transcript.{line_of}
use Rattle.law_transcript.specs.Restarts.{begins_refused, is_restart}
use Rattle.law_time.specs.Heeds.{Heeds}
use Rattle.law_time.specs.Judged.{is_mark}
use Rattle.law_time.specs.Questions.{same_bool}
use Rattle.law_time.specs.Requests.{are_none}
use Rattle.proof_ends.specs.proof_requests.law_host.Course.{Course, restarted}
use Rattle.proof_following.specs.Quiet.{IsPlainly, IsWithin}
use Rattle.proof_ends.specs.proof_requests.law_host.Following.{after, comes_to, course_after, has_heard, has_ticked, is_note, makes, may_stand, same_note, same_setting, stands, stands_among}

-- ---- a note says what it says

same_list : (l : List ℕ) → bytes_eq l l ≡ true
same_list l = (bytes_eq-Decides l l).1 refl

same_number : (n : ℕ) → (n == n) ≡ true
same_number n = eq-eqb n n refl

same_itself : (s : Setting) → same_setting s s ≡ true
same_itself s = and_from (same_property s.property s.property) (s.value == s.value) (same_property_laws.refl s.property) (same_number s.value)

same_truth : (b : Bool) → same_bool b b ≡ true
same_truth true = refl
same_truth false = refl

pub note_itself : (e : Entry) → is_note e ≡ true → same_note e e ≡ true
note_itself (entry.Out command ended) is = and_from (command == command) (bytes_eq (ended_word ended) (ended_word ended)) (same_number command) (same_list (ended_word ended))
note_itself (entry.Store node setting) is = and_from (node == node) (same_setting setting setting) (same_number node) (same_itself setting)
note_itself (entry.Report node setting) is = and_from (node == node) (same_setting setting setting) (same_number node) (same_itself setting)
note_itself (entry.Unstored node property) is = and_from (node == node) (same_property property property) (same_number node) (same_property_laws.refl property)
note_itself (entry.Old node id) is = and_from (node == node) (id == id) (same_number node) (same_number id)
note_itself (entry.Unread node payload) is = and_from (node == node) (bytes_eq payload payload) (same_number node) (same_list payload)
note_itself (entry.Awake node) is = same_number node
note_itself (entry.Asleep node) is = same_number node
note_itself (entry.Interviewed node) is = same_number node
note_itself (entry.InterviewFailed node) is = same_number node
note_itself (entry.Done node how) is = and_from (node == node) (bytes_eq (done_word how) (done_word how)) (same_number node) (same_list (done_word how))
note_itself (entry.Neighbours node list) is = and_from (node == node) (bytes_eq list list) (same_number node) (same_list list)
note_itself (entry.Failed node failed) is = and_from (node == node) (same_bool failed failed) (same_number node) (same_truth failed)
note_itself (entry.QueueFull node) is = same_number node
note_itself (entry.Held node) is = same_number node
note_itself (entry.Unkept node) is = same_number node
note_itself e is = absurd (let bad : false ≡ true = is in cc)

-- ---- what an entry is

pub note_plainly : (e : Entry) → is_note e ≡ true → IsPlainly e
note_plainly (entry.Said words) is = absurd (let bad : false ≡ true = is in cc)
note_plainly (entry.Time tick) is = absurd (let bad : false ≡ true = is in cc)
note_plainly (entry.Written Host unit) is = absurd (let bad : false ≡ true = is in cc)
note_plainly e is = tt

note_unmarked : (e : Entry) → is_note e ≡ true → is_mark e ≡ false
note_unmarked (entry.Dropped Host) is = absurd (let bad : false ≡ true = is in cc)
note_unmarked (entry.Overrun Host) is = absurd (let bad : false ≡ true = is in cc)
note_unmarked (entry.Garbled Host unit) is = absurd (let bad : false ≡ true = is in cc)
note_unmarked e is = refl

pub plainly_within : (e : Entry) → IsPlainly e → IsWithin e
plainly_within (entry.Said words) is = absurd is
plainly_within (entry.Time tick) is = absurd is
plainly_within e is = tt

module _ (heeds : Heeds) (past : List Entry) where
  pub comes_within : (e : Entry) (c : Course) → IsWithin e → comes_to heeds past e c ≡ (if are_none c.due then has_heard heeds past e (has_ticked heeds past e c) else c)
  comes_within (entry.Said words) c is = absurd is
  comes_within (entry.Time tick) c is = absurd is
  comes_within e c is = refl

  pub makes_none : (e : Entry) (rest : List Entry) (c : Course) → IsPlainly e → makes heeds past e rest c ≡ c
  makes_none (entry.Said words) rest c is = absurd is
  makes_none (entry.Written Host unit) rest c is = absurd is
  makes_none e rest c is = refl

  -- ---- what stands

  stand_none : (e : Entry) (c : Course) → c.due ≡ [] → c.fits ≡ true → may_stand past e ≡ true → stands past e c ≡ c
  stand_none e c none fits may =
      ap (λ (l : List Entry). stands_among l past e c) none ∙ ap₂ (λ (a b : Bool). record c { fits = a && b }) fits may ∙ ap (λ (b : Bool). record c { fits = b }) (sym fits)

  stand_note : (e : Entry) (c : Course) (notes : List Entry) → c.due ≡ e ∷ notes → c.fits ≡ true → same_note e e ≡ true → stands past e c ≡ record c { due = notes }
  stand_note e c notes due fits same =
      ap (λ (l : List Entry). stands_among l past e c) due ∙ ap₂ (λ (a b : Bool). record c { fits = a && b; due = notes }) fits same ∙ ap (λ (b : Bool). record c { fits = b; due = notes }) (sym fits)

  after_is : (e : Entry) (rest : List Entry) (c : Course) → is_mark e ≡ false → c.fits ≡ true → after heeds past e rest c ≡ makes heeds past e rest (stands past e (comes_to heeds past e c))
  after_is e rest c mark fits = ap₂ (λ (a b : Bool). if a || not b then c else makes heeds past e rest (stands past e (comes_to heeds past e c))) mark fits

  pub mark_after : (e : Entry) (rest : List Entry) (c : Course) → is_mark e ≡ true → after heeds past e rest c ≡ c
  mark_after e rest c mark = ap (λ (a : Bool). if a || not c.fits then c else makes heeds past e rest (stands past e (comes_to heeds past e c))) mark

  -- a note that is due
  pub note_after : (e : Entry) (rest notes : List Entry) (c : Course) → is_note e ≡ true → c.fits ≡ true → c.due ≡ e ∷ notes → after heeds past e rest c ≡ record c { due = notes }
  note_after e rest notes c is fits due =
      after_is e rest c (note_unmarked e is) fits
      ∙ makes_none e rest (stands past e (comes_to heeds past e c)) (note_plainly e is)
      ∙ ap (λ (d : Course). stands past e d)
      (comes_within e c (plainly_within e (note_plainly e is)) ∙ ap (λ (l : List Entry). if are_none l then has_heard heeds past e (has_ticked heeds past e c) else c) due)
      ∙ stand_note e c notes due fits (note_itself e is)

  -- a note that is the first that is due once the course has come to it
  pub first_after : (e : Entry) (rest notes : List Entry) (c d : Course) → is_note e ≡ true → c.fits ≡ true → comes_to heeds past e c ≡ d → d.fits ≡ true → d.due ≡ e ∷ notes
      → after heeds past e rest c ≡ record d { due = notes }
  first_after e rest notes c d is fits comes well due =
      after_is e rest c (note_unmarked e is) fits
      ∙ makes_none e rest (stands past e (comes_to heeds past e c)) (note_plainly e is)
      ∙ ap (λ (x : Course). stands past e x) comes
      ∙ stand_note e d notes due well (note_itself e is)

  -- an entry where nothing is due
  pub plain_after : (e : Entry) (rest : List Entry) (c d : Course) → is_mark e ≡ false → c.fits ≡ true → comes_to heeds past e c ≡ d → d.due ≡ [] → d.fits ≡ true → may_stand past e ≡ true
      → after heeds past e rest c ≡ makes heeds past e rest d
  plain_after e rest c d mark fits comes none well may =
      after_is e rest c mark fits ∙ ap (λ (x : Course). makes heeds past e rest (stands past e x)) comes ∙ ap (λ (x : Course). makes heeds past e rest x) (stand_none e d none well may)

-- ---- all of some notes

-- what is due stands, with others to come
pub notes_after : (heeds : Heeds) (past told notes : List Entry) (c : Course) → AllByRecursion (λ e. is_note e ≡ true) told → c.fits ≡ true → c.due ≡ told ++ notes
    → course_after heeds past told c ≡ record c { due = notes }
notes_after heeds past [] notes c all fits due = ap (λ (l : List Entry). record c { due = l }) due
notes_after heeds past (e ∷ told) notes c all fits due =
    ap (λ (d : Course). course_after heeds (past ++ e ∷ []) told d) (note_after heeds past e told (told ++ notes) c all.0 fits due)
    ∙ notes_after heeds (past ++ e ∷ []) told notes (record c { due = told ++ notes }) all.1 fits refl

-- ---- of more entries

front_begins : (e : Entry) (first later : List Entry) → begins_refused (e ∷ first) ≡ begins_refused (e ∷ later)
front_begins (entry.Refused refusal) first later = refl
front_begins e first later = refl

-- what stands after an entry tells whether it is refused, and nothing more
makes_alike : (heeds : Heeds) (past : List Entry) (e : Entry) (first later : List Entry) (c : Course) → begins_refused first ≡ begins_refused later → makes heeds past e first c ≡ makes heeds past e later c
makes_alike heeds past (entry.Written Host unit) first later c same = refl
makes_alike heeds past (entry.Said words) first later c same = ap (λ (b : Bool). if is_restart (line_of (entry.Said words)) && not b then restarted c else c) same
makes_alike heeds past e first later c same = refl

after_alike : (heeds : Heeds) (past : List Entry) (e : Entry) (first later : List Entry) (c : Course) → begins_refused first ≡ begins_refused later → after heeds past e first c ≡ after heeds past e later c
after_alike heeds past e first later c same =
    ap (λ (d : Course). if is_mark e || not c.fits then c else d) (makes_alike heeds past e first later (stands past e (comes_to heeds past e c)) same)

-- one entry and then others
pub course_both : (heeds : Heeds) (past first later : List Entry) (c : Course) → begins_refused later ≡ false
    → course_after heeds past (first ++ later) c ≡ course_after heeds (past ++ first) later (course_after heeds past first c)
course_both heeds past [] later c goes = ap (λ (l : List Entry). course_after heeds l later c) (sym (append-nil past))
course_both heeds past (e ∷ first) later c goes =
    ap (λ (d : Course). course_after heeds (past ++ e ∷ []) (first ++ later) d) (after_alike heeds past e (first ++ later) first c (by first))
    ∙ course_both heeds (past ++ e ∷ []) first later (after heeds past e first c) goes
    ∙ ap (λ (l : List Entry). course_after heeds l later (course_after heeds (past ++ e ∷ []) first (after heeds past e first c))) (append_assoc past (e ∷ []) first)
  where
    by : (l : List Entry) → begins_refused (l ++ later) ≡ begins_refused l
    by [] = goes
    by (x ∷ l) = front_begins x (l ++ later) l

-- of marks nothing comes
pub marks_after : (heeds : Heeds) (past marks : List Entry) (c : Course) → AllByRecursion (λ e. is_mark e ≡ true) marks → course_after heeds past marks c ≡ c
marks_after heeds past [] c all = refl
marks_after heeds past (e ∷ marks) c all =
    ap (λ (d : Course). course_after heeds (past ++ e ∷ []) marks d) (mark_after heeds past e marks c all.0) ∙ marks_after heeds (past ++ e ∷ []) marks c all.1
