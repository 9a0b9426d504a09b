use Rattle.law_time.specs.Heeds.{heeds_of}
use Rattle.std.proofs.Common.{◌≡◌, Bool, true, false, ℕ, List, [], ◌∷◌, ◌++◌, length, slice_index, refl, ap, subst, sym, ◌∙◌, arith}
use Rattle.std.specs.Prelude.{Option, Some, None, drop, take}
use Rattle.std.proofs.Math.Seq.{take-append_seam}
use Rattle.std.specs.List.{AllByRecursion}
use Rattle.s0_crypto.specs.Sealing.{keys_of, sealed_text, unsealed_at}
use Rattle.host_heard.specs.Telling.{heard_at}
use Rattle.zw_text.specs.declared.entry.Entry.{Entry}
use Rattle.law_host.specs.Following.{ended_whole}
use Rattle.law_host.specs.Messages.{Hearing}
use Rattle.law_host.specs.Nonces.{IsOffer, IsOpening, UsesNonces}
use Rattle.law_host.specs.Course.{Course}
use Rattle.law_host.specs.Notes.{course_of, first_start}
use Rattle.law_host.specs.Worked.{after_counting, after_nonce_asked, first_given, given_new, given_otherwise, given_skipped, new_over_restart, nonce_again, sealed_left_out, sealed_over_restart, unopened_left_out}
use Rattle.law_time.specs.law_transcript.Worked.{network_key, the_lock}
use Rattle.law_time.proofs.Deciding.{not_true}
use Rattle.law_time.proofs.Sealing.{changed_code, opened_changed, opened_report, other_nonce, report_code, report_ends, report_nonce, report_plain, report_with, sealed_otherwise, set_code, set_ends, set_own, set_plain, set_with}
use Rattle.law_time.proofs.Computing.{computing}
use Rattle.law_host.proofs.Noting.{unfit}
use Rattle.law_host.proofs.Opening.{Shown, all_keep, shown_of}
use Rattle.law_host.proofs.nonces.rejected_nonces.Goals as goal

-- whether the records of the interview and of the nonce were kept or not, the text has no nonce
again_fails : (keepings : List Bool) (texts : List (Option (List ℕ)))
    → (course_of (heeds_of (the_lock ∷ [])) first_start nonce_again (record { keepings = keepings; texts = texts })).fits ≡ false
unfolding computing
again_fails [] texts = refl
again_fails (true ∷ []) texts = refl
again_fails (true ∷ true ∷ keepings) texts = refl
again_fails (true ∷ false ∷ keepings) texts = refl
again_fails (false ∷ keepings) texts = refl

pub returns-clause-again : goal.returns-clause-again
returns-clause-again c = unfit network_key (heeds_of (the_lock ∷ [])) first_start nonce_again (λ choices. again_fails choices.keepings choices.texts)

two_one : ◌≡◌ {A = ℕ} 2 1 → ⊥
two_one e = omega (arith, e)

abbrev first_byte : List ℕ → ℕ
first_byte [] = 0
first_byte (byte ∷ bytes) = byte

-- whether the record of the first nonce was kept or not, the second is not the one that is live
new_fails : (drawn : ℕ → ℕ → List ℕ) (keepings : List Bool) (texts : List (Option (List ℕ)))
    → (course_of (heeds_of (the_lock ∷ [])) first_start given_new (record { keepings = keepings; texts = texts })).fits ≡ true
    → UsesNonces network_key drawn (course_of (heeds_of (the_lock ∷ [])) first_start given_new (record { keepings = keepings; texts = texts })) → ⊥
unfolding computing
new_fails drawn [] texts fits uses = two_one (ap (λ (nonce : List ℕ). first_byte nonce) uses.offered.1.0)
new_fails drawn (true ∷ keepings) texts fits uses = two_one (ap (λ (nonce : List ℕ). first_byte nonce) uses.offered.1.0)
new_fails drawn (false ∷ keepings) texts fits uses = not_true fits

pub returns-clause-new : goal.returns-clause-new
returns-clause-new c = λ law. new_fails law.drawn law.choices.keepings law.choices.texts law.fits law.nonces

-- nor is the other one with its number
nine_other : ◌≡◌ {A = ℕ} 0x9E 0xFF → ⊥
nine_other e = omega (arith, e)

other_fails : (drawn : ℕ → ℕ → List ℕ) (keepings : List Bool) (texts : List (Option (List ℕ)))
    → (course_of (heeds_of (the_lock ∷ [])) first_start given_otherwise (record { keepings = keepings; texts = texts })).fits ≡ true
    → UsesNonces network_key drawn (course_of (heeds_of (the_lock ∷ [])) first_start given_otherwise (record { keepings = keepings; texts = texts })) → ⊥
unfolding computing
other_fails drawn [] texts fits uses = nine_other (ap (λ (nonce : List ℕ). slice_index nonce 1) (uses.offered.0 ∙ sym uses.offered.1.0))
other_fails drawn (true ∷ keepings) texts fits uses = nine_other (ap (λ (nonce : List ℕ). slice_index nonce 1) (uses.offered.0 ∙ sym uses.offered.1.0))
other_fails drawn (false ∷ keepings) texts fits uses = not_true fits

pub returns-clause-other : goal.returns-clause-other
returns-clause-other c = λ law. other_fails law.drawn law.choices.keepings law.choices.texts law.fits law.nonces

-- the first has the number 1
skipped_fails : (drawn : ℕ → ℕ → List ℕ) (keepings : List Bool) (texts : List (Option (List ℕ)))
    → (course_of (heeds_of (the_lock ∷ [])) first_start given_skipped (record { keepings = keepings; texts = texts })).fits ≡ true
    → UsesNonces network_key drawn (course_of (heeds_of (the_lock ∷ [])) first_start given_skipped (record { keepings = keepings; texts = texts })) → ⊥
unfolding computing
skipped_fails drawn [] texts fits uses = two_one (ap (λ (nonce : List ℕ). first_byte nonce) uses.offered.0)
skipped_fails drawn (true ∷ keepings) texts fits uses = two_one (ap (λ (nonce : List ℕ). first_byte nonce) uses.offered.0)
skipped_fails drawn (false ∷ keepings) texts fits uses = not_true fits

pub returns-clause-skipped : goal.returns-clause-skipped
returns-clause-skipped c = λ law. skipped_fails law.drawn law.choices.keepings law.choices.texts law.fits law.nonces

-- nor after a restart is the second the live one
restarted_fails : (drawn : ℕ → ℕ → List ℕ) (keepings : List Bool) (texts : List (Option (List ℕ)))
    → (course_of (heeds_of (the_lock ∷ [])) first_start new_over_restart (record { keepings = keepings; texts = texts })).fits ≡ true
    → UsesNonces network_key drawn (course_of (heeds_of (the_lock ∷ [])) first_start new_over_restart (record { keepings = keepings; texts = texts })) → ⊥
unfolding computing
restarted_fails drawn [] texts fits uses = two_one (ap (λ (nonce : List ℕ). first_byte nonce) uses.offered.1.0)
restarted_fails drawn (true ∷ keepings) texts fits uses = two_one (ap (λ (nonce : List ℕ). first_byte nonce) uses.offered.1.0)
restarted_fails drawn (false ∷ keepings) texts fits uses = not_true fits

pub returns-clause-over_restart : goal.returns-clause-over_restart
returns-clause-over_restart c = λ law. restarted_fails law.drawn law.choices.keepings law.choices.texts law.fits law.nonces

-- nonce 1 is not one of the two that are next, nor the last
pub returns-clause-uncounted : goal.returns-clause-uncounted
unfolding computing
returns-clause-uncounted c = unfit network_key (heeds_of (the_lock ∷ [])) (after_counting 2) (sealed_over_restart first_given) (λ choices. refl)

-- for the other nonce the text is sealed otherwise, as the eight bytes of the host's own tell
unlike : ◌≡◌ {A = ℕ} 0x6C 0xE6 → ⊥
unlike e = omega (arith, e)

abbrev sealed_of : List ℕ → List ℕ
sealed_of own = sealed_text (keys_of network_key) own other_nonce set_ends set_plain

own_shown : (own : List ℕ) → length own ≡ 8 → take 8 (drop 2 (sealed_of own)) ≡ own
unfolding sealed_text
own_shown own eight = subst (λ (count : ℕ). take count (drop 2 (sealed_of own)) ≡ own) eight (take-append_seam own _)

not_for_other : (own : List ℕ) → length own ≡ 8 → set_with set_code ≡ sealed_of own → ⊥
not_for_other own eight text =
    let same : set_own ≡ own = ap (λ (bytes : List ℕ). take 8 (drop 2 bytes)) text ∙ own_shown own eight in
    unlike (ap (λ (bytes : List ℕ). slice_index bytes 10) (text ∙ ap sealed_of (sym same)) ∙ sealed_otherwise)

pub returns-clause-for_other : goal.returns-clause-for_other
unfolding computing
returns-clause-for_other c = λ law. let seal = law.nonces.sealed.0 in not_for_other seal.own seal.own_eight seal.text

-- ---- what was sealed and is left out

-- where the nonce is spent the text is opened
abbrev opened_of : List ℕ → List ℕ → Shown
opened_of report text = record {
  offered = record { node = 4; number = 1; nonce = report_nonce } ∷ [];
  opened = record { node = 4; number = 1; payload = report; text = Some text } ∷ [];
}

-- a text that is opened for the nonce that was shown is what that opens to
opened_so : (opened : Option (List ℕ)) (report text : List ℕ) (drawn : ℕ → ℕ → List ℕ) (shown : Shown)
    → shown ≡ opened_of report text
    → AllByRecursion (IsOffer drawn) shown.offered → AllByRecursion (IsOpening network_key drawn) shown.opened
    → unsealed_at (keys_of network_key) report_nonce report_ends report ≡ opened → opened ≡ Some text
opened_so opened report text drawn shown is offered opens so =
    let nonce : report_nonce ≡ 1 ∷ drawn 4 1 = (subst (λ (one : Shown). AllByRecursion (IsOffer drawn) one.offered) is offered).0 in
    let text_is : unsealed_at (keys_of network_key) (1 ∷ drawn 4 1) report_ends report ≡ Some text = (subst (λ (one : Shown). AllByRecursion (IsOpening network_key drawn) one.opened) is opens).0 in
    sym so ∙ ap (λ (nonce : List ℕ). unsealed_at (keys_of network_key) nonce report_ends report) nonce ∙ text_is

-- the course of a host to which a report came that is left out, and how it ends
abbrev course : List Entry → List Bool → List (Option (List ℕ)) → Course
course heard keepings texts = course_of (heeds_of (the_lock ∷ [])) after_nonce_asked heard (record { keepings = keepings; texts = texts })

abbrev ends_well : List Entry → List Bool → List (Option (List ℕ)) → Bool
ends_well heard keepings texts =
    (ended_whole (heeds_of (the_lock ∷ [])) (after_nonce_asked.before ++ heard) (course heard keepings texts)).fits

-- what it hears there, and how far its course is then
abbrev hearing_of : List Entry → List ℕ → Hearing
hearing_of heard report = record {
  heeds = heeds_of (the_lock ∷ []);
  before = after_nonce_asked.before ++ take 2 heard;
  past = after_nonce_asked.before ++ heard;
  node = 4;
  payload = report;
  was_sealed = true;
}

abbrev course_there : List Bool → List (Option (List ℕ)) → List ℕ → List ℕ → Course
course_there keepings texts report text = record {
  due = [];
  fits = true;
  put = 0;
  over = false;
  ticked = 0;
  books = record { node = 4; sealer = record { seen = 1; pending = []; ready = [] }; giver = record { given = 1; live = false; offers = [] } } ∷ [];
  keepings = keepings;
  texts = texts;
  offered = (opened_of report text).offered;
  opened = (opened_of report text).opened;
  sealed = [];
  taken = [];
  heeded = [];
}

none_some : (text : List ℕ) → ◌≡◌ {A = Option (List ℕ)} None (Some text) → ⊥
none_some text e = cc

some_same : (one other : List ℕ) → Some one ≡ Some other → one ≡ other
some_same one other e = cc

-- what opens to nothing is not read
unopened_fails : (drawn : ℕ → ℕ → List ℕ) (keepings : List Bool) (texts : List (Option (List ℕ))) → ends_well unopened_left_out keepings texts ≡ true
    → AllByRecursion (IsOffer drawn) (course unopened_left_out keepings texts).offered
    → AllByRecursion (IsOpening network_key drawn) (course unopened_left_out keepings texts).opened → ⊥
unfolding computing
unopened_fails drawn [] [] fits offered opens = not_true fits
unopened_fails drawn [] (None ∷ texts) fits offered opens = not_true fits
unopened_fails drawn [] (Some text ∷ texts) fits offered opens =
    let is : shown_of (course unopened_left_out [] (Some text ∷ texts)) ≡ opened_of (report_with changed_code) text =
    all_keep (hearing_of unopened_left_out (report_with changed_code)) (heard_at text) (course_there [] texts (report_with changed_code) text)
    in
    none_some text (opened_so None (report_with changed_code) text drawn _ is offered opens opened_changed)
unopened_fails drawn (true ∷ keepings) [] fits offered opens = not_true fits
unopened_fails drawn (true ∷ keepings) (None ∷ texts) fits offered opens = not_true fits
unopened_fails drawn (true ∷ keepings) (Some text ∷ texts) fits offered opens =
    let is : shown_of (course unopened_left_out (true ∷ keepings) (Some text ∷ texts)) ≡ opened_of (report_with changed_code) text =
    all_keep (hearing_of unopened_left_out (report_with changed_code)) (heard_at text) (course_there keepings texts (report_with changed_code) text)
    in
    none_some text (opened_so None (report_with changed_code) text drawn _ is offered opens opened_changed)
unopened_fails drawn (false ∷ keepings) texts fits offered opens = not_true fits

pub returns-clause-unopened : goal.returns-clause-unopened
returns-clause-unopened c = λ law. unopened_fails law.drawn law.choices.keepings law.choices.texts (law.in_the_end refl) law.nonces.offered law.nonces.opened

-- and the report ends its session, where that is kept
report_fails : (keepings : List Bool) (texts : List (Option (List ℕ))) → ends_well sealed_left_out (true ∷ keepings) (Some report_plain ∷ texts) ≡ true → ⊥
unfolding computing
report_fails [] texts fits = not_true fits
report_fails (true ∷ keepings) texts fits = not_true fits
report_fails (false ∷ keepings) texts fits = not_true fits

opened_fails : (drawn : ℕ → ℕ → List ℕ) (keepings : List Bool) (texts : List (Option (List ℕ))) → ends_well sealed_left_out keepings texts ≡ true
    → AllByRecursion (IsOffer drawn) (course sealed_left_out keepings texts).offered
    → AllByRecursion (IsOpening network_key drawn) (course sealed_left_out keepings texts).opened → ⊥
unfolding computing
opened_fails drawn [] [] fits offered opens = not_true fits
opened_fails drawn [] (None ∷ texts) fits offered opens = not_true fits
opened_fails drawn [] (Some text ∷ texts) fits offered opens =
    let is : shown_of (course sealed_left_out [] (Some text ∷ texts)) ≡ opened_of (report_with report_code) text =
    all_keep (hearing_of sealed_left_out (report_with report_code)) (heard_at text) (course_there [] texts (report_with report_code) text)
    in
    let same = some_same report_plain text (opened_so (Some report_plain) (report_with report_code) text drawn _ is offered opens opened_report) in
    not_true (subst (λ (text : List ℕ). ends_well sealed_left_out [] (Some text ∷ texts) ≡ true) (sym same) fits)
opened_fails drawn (true ∷ keepings) [] fits offered opens = not_true fits
opened_fails drawn (true ∷ keepings) (None ∷ texts) fits offered opens = not_true fits
opened_fails drawn (true ∷ keepings) (Some text ∷ texts) fits offered opens =
    let is : shown_of (course sealed_left_out (true ∷ keepings) (Some text ∷ texts)) ≡ opened_of (report_with report_code) text =
    all_keep (hearing_of sealed_left_out (report_with report_code)) (heard_at text) (course_there keepings texts (report_with report_code) text)
    in
    let same = some_same report_plain text (opened_so (Some report_plain) (report_with report_code) text drawn _ is offered opens opened_report) in
    report_fails keepings texts (subst (λ (text : List ℕ). ends_well sealed_left_out (true ∷ keepings) (Some text ∷ texts) ≡ true) (sym same) fits)
opened_fails drawn (false ∷ keepings) texts fits offered opens = not_true fits

pub returns-clause-opened : goal.returns-clause-opened
returns-clause-opened c = λ law. opened_fails law.drawn law.choices.keepings law.choices.texts (law.in_the_end refl) law.nonces.offered law.nonces.opened
