-- What is kept for the table goes with the transcript, and judges the next entry as the rule of the table.
use Rattle.std.proofs.Common.{◌≡◌, ℕ, ◌<◌, ◌≤◌, ◌+◌, cond, eqb, not, Bool, true, false, List, [], ◌∷◌, ◌++◌, length, replicate, Option, Some, None, arith, ap, ap₂, refl, sym, subst, ◌∙◌, append-nil, ⊎_elim}
use Rattle.std.specs.Prelude.{◌||◌, ◌&&◌, filter, slice_index_or, slice_get, unwrap_or}
use Rattle.std.specs.List.{flat_map, list_any, AllByRecursion}
use Rattle.std.proofs.Math.Bool.{and-true, or-false}
use Rattle.std.proofs.Math.ListN.{set}
use Rattle.std.proofs.lemmas.Grind.{flat_map-append}
use Rattle.std.proofs.lemmas.List.{get_or-set_same, get_or-set_other, length-replicate, length-set}
use Rattle.std.proofs.lemmas.List.Folds.{list_any-append}
use Rattle.std.proofs.lemmas.Bool.{false≢true, cases_eq, eq-eqb, ne_eqb}
use Rattle.zw_base.specs.declared.property.Setting.{Setting}
use Rattle.zw_base.specs.declared.order.Order.{Order}
use Rattle.zw_text.specs.declared.line.Line.{Line}
use Rattle.zw_text.specs.declared.line.Line.TheVariants as lines
use Rattle.zw_text.specs.declared.entry.Entry.{Entry}
use Rattle.zw_text.specs.declared.entry.Entry.TheVariants.{Refused, Dev, Report, TableEnd, TableNode, TableValue, Device}
use Rattle.zw_text.specs.Fits.{EntryFits}
use Rattle.zw_text.specs.Transcript.{Doing, Made, doing_step, endings, folded, join_of, line_after, line_last, line_of, lines_done, made, made_at, reported, reported_at, sessions}
use Rattle.law_transcript.specs.Restarts.{begins_refused, is_restart, since_restart, since_restart_from}
use Rattle.audit_books.specs.declared.endings.Ending.{Ending}
use Rattle.audit_books.specs.Beginning.{sessions_of}
use Rattle.audit_books.specs.Ending.{no_ending}
use Rattle.audit_books.specs.Keeping.{ending_from, lines_of}
use Rattle.audit_books.proofs.Views.{same-at}
use Rattle.audit_table.specs.OrdersGiven.{accepting_at}
use Rattle.audit_table.specs.TableRule.{before_end, following_end, breaks_end, breaks_row, breaks_table, has_end, is_end, is_row, next_row, rows, settings_made}
use Rattle.audit_table.specs.Knowing.{Closing, IsWithin, Knowns, after_line, all_rows, breaks_closing, breaks_closing_by, breaks_due, closing_after, closing_shown, counts_row, ends_with, first_joined, line_done, no_closing, no_values, values_of, values_with, with_last}
use Rattle.audit_table.specs.Keeping.{AreClosingOf, AreLast, Since, doing, is_joined, is_refusal, since, since_after}
use Rattle.zw_text.proofs.Views.{folded-append, shown-append}
use Rattle.audit_table.proofs.Knows.{last-more, none-last}
use Rattle.audit_table.proofs.TableLines.{rows-are}

-- ---- lines

last-kept : (past : List Entry) (d : Doing) (lines : List Line) → d.last ≡ lines → (folded doing_step d past).last ≡ folded line_after lines past
last-kept [] d ls same = same
last-kept (Refused refusal ∷ past) d ls same = last-kept past (doing_step d (Refused refusal)) [] refl
last-kept (entry ∷ past) d ls same = last-kept past (doing_step d entry) (line_of entry) refl

doing-last : (past : List Entry) → (doing past).last ≡ line_last past
doing-last past = last-kept past (record { earlier = []; last = [] }) [] refl

doing-more : (past : List Entry) (entry : Entry) → doing (past ++ (entry ∷ [])) ≡ doing_step (doing past) entry
doing-more past entry = folded-append doing_step (record { earlier = []; last = [] }) past (entry ∷ [])

earlier-refused : (d : Doing) (entry : Entry) → (doing_step d entry).earlier ≡ cond (is_refusal entry) d.earlier (d.earlier ++ d.last)
earlier-refused d (Refused refusal) = refl
earlier-refused d other = refl

earlier-more : (past : List Entry) (entry : Entry) (line : Option Line) → lines_of line ≡ line_last past →
    (doing (past ++ (entry ∷ []))).earlier ≡ cond (is_refusal entry) (doing past).earlier ((doing past).earlier ++ lines_of line)
earlier-more past entry line same =
    ap (λ (d : Doing). d.earlier) (doing-more past entry) ∙ earlier-refused (doing past) entry
    ∙ ap (λ l. cond (is_refusal entry) (doing past).earlier ((doing past).earlier ++ l)) (doing-last past ∙ sym same)

after-is : (closing : Closing) (line : Option Line) (entry : Entry) → after_line closing line entry ≡ cond (is_refusal entry) closing (line_done closing line)
after-is closing line (Refused refusal) = refl
after-is closing line other = refl

-- ---- joined nodes

mark-more : (marks : List Bool) (at n : ℕ) (others : List ℕ) → at < length marks → slice_index_or marks n false ≡ list_any (λ one. eqb one n) others →
    slice_index_or (set marks at true) n false ≡ list_any (λ one. eqb one n) (others ++ (at ∷ []))
mark-more marks at n others within is =
    ⊎_elim
    (λ (e : at ≡ n).
    ap (λ m. slice_index_or (set marks at true) m false) (sym e) ∙ get_or-set_same marks at true false within
    ∙ sym (list_any-append (λ one. eqb one n) others (at ∷ []) ∙ ap (λ b. list_any (λ one. eqb one n) others || (b || false)) (eq-eqb at n e) ∙ or-true (list_any (λ one. eqb one n) others)))
    (λ (ne : at ≡ n → ⊥).
    get_or-set_other marks at n true false (λ e. ne (sym e)) ∙ is
    ∙ sym (list_any-append (λ one. eqb one n) others (at ∷ []) ∙ ap (λ b. list_any (λ one. eqb one n) others || (b || false)) (ne_eqb at n ne) ∙ or-false (list_any (λ one. eqb one n) others)))
    (cases_eq at n)
  where
    or-true : (a : Bool) → (a || (true || false)) ≡ true
    or-true true = refl
    or-true false = refl

line-joins : (closing : Closing) (line : Option Line) (n : ℕ) (others : List ℕ) → length closing.joined ≡ 233 → IsWithin line →
    slice_index_or closing.joined n false ≡ list_any (λ one. eqb one n) others →
    slice_index_or (line_done closing line).joined n false ≡ list_any (λ one. eqb one n) (others ++ flat_map join_of (lines_of line))
line-joins closing None n others places within is = is ∙ ap (list_any (λ one. eqb one n)) (sym (append-nil others))
line-joins closing (Some (lines.Join node)) n others places within is = mark-more closing.joined node n others (omega (arith, places, within.1)) is
line-joins closing (Some line) n others places within is = is ∙ ap (list_any (λ one. eqb one n)) (sym (append-nil others))

joins-append : (xs ys : List ℕ) → AllByRecursion (λ node. (1 ≤ node) × (node < 233)) xs → AllByRecursion (λ node. (1 ≤ node) × (node < 233)) ys →
    AllByRecursion (λ node. (1 ≤ node) × (node < 233)) (xs ++ ys)
joins-append [] ys all more = more
joins-append (x ∷ xs) ys all more = (all.0, joins-append xs ys all.1 more)

line-within : (line : Option Line) → IsWithin line → AllByRecursion (λ node. (1 ≤ node) × (node < 233)) (flat_map join_of (lines_of line))
line-within None within = tt
line-within (Some (lines.Join node)) within = (within, tt)
line-within (Some line) within = tt

abbrev joins_of : List Line → List ℕ
joins_of ls = 2 ∷ flat_map join_of ls

joins-more : (ls more : List Line) → joins_of (ls ++ more) ≡ joins_of ls ++ flat_map join_of more
joins-more ls more = ap (λ l. 2 ∷ l) (flat_map-append join_of ls more)

done-joins : (closing : Closing) (past : List Entry) (line : Option Line) (n : ℕ) → AreClosingOf closing past → IsWithin line → n < 233 →
    slice_index_or (line_done closing line).joined n false ≡ list_any (λ one. eqb one n) (joins_of ((doing past).earlier ++ lines_of line))
done-joins closing past line n are within below =
    line-joins closing line n (joins_of (doing past).earlier) are.joined_places within (are.joined_are n below)
    ∙ ap (list_any (λ one. eqb one n)) (sym (joins-more (doing past).earlier (lines_of line)))

done-within : (closing : Closing) (past : List Entry) (line : Option Line) → AreClosingOf closing past → IsWithin line →
    AllByRecursion (λ node. (1 ≤ node) × (node < 233)) (flat_map join_of ((doing past).earlier ++ lines_of line))
done-within closing past line are within =
    subst (AllByRecursion (λ node. (1 ≤ node) × (node < 233))) (sym (flat_map-append join_of (doing past).earlier (lines_of line)))
    (joins-append (flat_map join_of (doing past).earlier) (flat_map join_of (lines_of line)) are.joins (line-within line within))

after-joins : (closing : Closing) (past : List Entry) (line : Option Line) (entry : Entry) (n : ℕ) → AreClosingOf closing past → IsWithin line → lines_of line ≡ line_last past → n < 233 →
    slice_index_or (after_line closing line entry).joined n false ≡ is_joined (past ++ (entry ∷ [])) n
after-joins closing past line entry n are within same below =
    ap (λ (c : Closing). slice_index_or c.joined n false) (after-is closing line entry) ∙ by (is_refusal entry)
    ∙ ap (λ l. list_any (λ one. eqb one n) (joins_of l)) (sym (earlier-more past entry line same))
  where
    by : (b : Bool) → slice_index_or (cond b closing (line_done closing line)).joined n false
        ≡ list_any (λ one. eqb one n) (joins_of (cond b (doing past).earlier ((doing past).earlier ++ lines_of line)))
    by true = are.joined_are n below
    by false = done-joins closing past line n are within below

after-within : (closing : Closing) (past : List Entry) (line : Option Line) (entry : Entry) → AreClosingOf closing past → IsWithin line → lines_of line ≡ line_last past →
    AllByRecursion (λ node. (1 ≤ node) × (node < 233)) (flat_map join_of (doing (past ++ (entry ∷ []))).earlier)
after-within closing past line entry are within same =
    subst (λ l. AllByRecursion (λ node. (1 ≤ node) × (node < 233)) (flat_map join_of l)) (sym (earlier-more past entry line same)) (by (is_refusal entry))
  where
    by : (b : Bool) → AllByRecursion (λ node. (1 ≤ node) × (node < 233)) (flat_map join_of (cond b (doing past).earlier ((doing past).earlier ++ lines_of line)))
    by true = are.joins
    by false = done-within closing past line are within

-- ---- restarts

since-line : (past : List Entry) (s : Since) (ls : List Line) → s.line ≡ ls → (folded since_after s past).line ≡ folded line_after ls past
since-line [] s ls same = same
since-line (entry ∷ past) s ls same = since-line past (since_after s entry) (line_of entry) refl

since-last : (past : List Entry) → (since past).line ≡ line_last past
since-last past = since-line past (record { entries = []; line = [] }) [] refl

since-more : (past : List Entry) (entry : Entry) → since (past ++ (entry ∷ [])) ≡ since_after (since past) entry
since-more past entry = folded-append since_after (record { entries = []; line = [] }) past (entry ∷ [])

-- the line of the last entry counts as done
abbrev resolved : Since → List Entry
resolved s = cond (is_restart s.line) [] s.entries

refusal-begins : (entry : Entry) (rest : List Entry) → begins_refused (entry ∷ rest) ≡ is_refusal entry
refusal-begins (Refused refusal) rest = refl
refusal-begins other rest = refl

since-from : (xs : List Entry) (s : Since) → resolved (folded since_after s xs) ≡ since_restart_from (cond (is_restart s.line && not (begins_refused xs)) [] s.entries) xs
since-from [] s = ap (λ b. cond b [] s.entries) (sym (and-true (is_restart s.line)))
since-from (entry ∷ xs) s =
    since-from xs (since_after s entry)
    ∙ ap (λ b. since_restart_from (cond (is_restart (line_of entry) && not (begins_refused xs)) [] (cond (is_restart s.line && not b) [] s.entries ++ (entry ∷ []))) xs)
    (sym (refusal-begins entry xs))

since-is : (past : List Entry) → resolved (since past) ≡ since_restart past
since-is past = since-from past (record { entries = []; line = [] })

blank-values : (n : ℕ) → values_of no_values n ≡ []
unfolding no_values
blank-values n = same-at blank 233 n
  where
    blank : Knowns
    blank = []

line-heard : (closing : Closing) (line : Option Line) (entries : List Entry) (n : ℕ) → AreLast (values_of closing.heard n) (reported n entries) →
    AreLast (values_of (line_done closing line).heard n) (reported n (cond (is_restart (lines_of line)) [] entries))
line-heard closing None entries n are = are
line-heard closing (Some lines.Restart) entries n are = subst (λ k. AreLast k []) (sym (blank-values n)) none-last
line-heard closing (Some line) entries n are = are

after-heard : (closing : Closing) (past : List Entry) (line : Option Line) (entry : Entry) (n : ℕ) → lines_of line ≡ line_last past →
    AreLast (values_of closing.heard n) (reported n (since past).entries) →
    AreLast (values_of (after_line closing line entry).heard n) (reported n (cond (is_restart (since past).line && not (is_refusal entry)) [] (since past).entries))
after-heard closing past line entry n same are =
    subst (λ (c : Closing). AreLast (values_of c.heard n) (reported n (cond (is_restart (since past).line && not (is_refusal entry)) [] (since past).entries))) (sym (after-is closing line entry))
    (subst (λ ls. AreLast (values_of (cond (is_refusal entry) closing (line_done closing line)).heard n) (reported n (cond (is_restart ls && not (is_refusal entry)) [] (since past).entries)))
    (same ∙ sym (since-last past)) (by (is_refusal entry)))
  where
    and-false : (a : Bool) → (a && false) ≡ false
    and-false true = refl
    and-false false = refl

    by : (b : Bool) → AreLast (values_of (cond b closing (line_done closing line)).heard n) (reported n (cond (is_restart (lines_of line) && not b) [] (since past).entries))
    by true = subst (λ b. AreLast (values_of closing.heard n) (reported n (cond b [] (since past).entries))) (sym (and-false (is_restart (lines_of line)))) are
    by false =
        subst (λ b. AreLast (values_of (line_done closing line).heard n) (reported n (cond b [] (since past).entries))) (sym (and-true (is_restart (lines_of line))))
        (line-heard closing line (since past).entries n are)

-- ---- values

value-table : (table : List Knowns) (at n : ℕ) (one : Setting) (before : List Setting) → at < length table → AreLast (values_of table n) before →
    AreLast (values_of (values_with table at one) n) (before ++ cond (eqb at n) (one ∷ []) [])
value-table table at n one before within are =
    ⊎_elim
    (λ (e : at ≡ n).
    subst (λ b. AreLast (values_of (values_with table at one) n) (before ++ cond b (one ∷ []) [])) (sym (eq-eqb at n e))
    (subst (λ k. AreLast k (before ++ (one ∷ [])))
    (sym (ap (λ m. values_of (values_with table at one) m) (sym e) ∙ get_or-set_same table at (with_last (values_of table at) one) [] within ∙ ap (λ m. with_last (values_of table m) one) e))
    (last-more (values_of table n) before one are)))
    (λ (ne : at ≡ n → ⊥).
    subst (λ b. AreLast (values_of (values_with table at one) n) (before ++ cond b (one ∷ []) [])) (sym (ne_eqb at n ne))
    (subst (λ l. AreLast (values_of (values_with table at one) n) l) (sym (append-nil before))
    (subst (λ k. AreLast k before) (sym (get_or-set_other table at n (with_last (values_of table at) one) [] (λ e. ne (sym e)))) are)))
    (cases_eq at n)

reported-more : (n : ℕ) (entries : List Entry) (entry : Entry) → reported n (entries ++ (entry ∷ [])) ≡ reported n entries ++ reported_at n entry
reported-more n entries entry = shown-append (reported_at n) entries (entry ∷ []) ∙ ap (λ l. reported n entries ++ l) (append-nil (reported_at n entry))

settings-append : (xs ys : List Made) → settings_made (xs ++ ys) ≡ settings_made xs ++ settings_made ys
settings-append [] ys = refl
settings-append (x ∷ xs) ys = ap (λ l. x.setting ∷ l) (settings-append xs ys)

made-more : (n : ℕ) (past : List Entry) (entry : Entry) → settings_made (made n (past ++ (entry ∷ []))) ≡ settings_made (made n past) ++ settings_made (made_at n entry)
made-more n past entry = ap settings_made (shown-append (made_at n) past (entry ∷ []) ∙ ap (λ l. made n past ++ l) (append-nil (made_at n entry))) ∙ settings-append (made n past) (made_at n entry)

-- ---- the table

end-more : (past : List Entry) (entry : Entry) → has_end (past ++ (entry ∷ [])) ≡ (has_end past || is_end entry)
end-more past entry = list_any-append is_end past (entry ∷ []) ∙ ap (λ b. has_end past || b) (or-false (is_end entry))

before-more : (past : List Entry) (entry : Entry) → before_end (past ++ (entry ∷ [])) ≡ cond (has_end past) (before_end past) (past ++ cond (is_end entry) [] (entry ∷ []))
before-more [] entry = refl
before-more (first ∷ past) entry = by (is_end first) (before-more past entry)
  where
    push : (b : Bool) → first ∷ cond b (before_end past) (past ++ cond (is_end entry) [] (entry ∷ [])) ≡ cond b (first ∷ before_end past) (first ∷ past ++ cond (is_end entry) [] (entry ∷ []))
    push true = refl
    push false = refl

    by : (b : Bool) → before_end (past ++ (entry ∷ [])) ≡ cond (has_end past) (before_end past) (past ++ cond (is_end entry) [] (entry ∷ [])) →
        cond b [] (first ∷ before_end (past ++ (entry ∷ [])))
        ≡ cond (b || has_end past) (cond b [] (first ∷ before_end past)) (first ∷ past ++ cond (is_end entry) [] (entry ∷ []))
    by true later = refl
    by false later = ap (λ l. first ∷ l) later ∙ push (has_end past)

following-more : (past : List Entry) (entry : Entry) → following_end (past ++ (entry ∷ [])) ≡ cond (has_end past) (following_end past ++ (entry ∷ [])) []
following-more [] entry = by (is_end entry)
  where
    by : (b : Bool) → cond {A = List Entry} b [] [] ≡ []
    by true = refl
    by false = refl
following-more (first ∷ past) entry = by (is_end first) (following-more past entry)
  where
    by : (b : Bool) → following_end (past ++ (entry ∷ [])) ≡ cond (has_end past) (following_end past ++ (entry ∷ [])) [] →
        cond b (past ++ (entry ∷ [])) (following_end (past ++ (entry ∷ []))) ≡ cond (b || has_end past) (cond b past (following_end past) ++ (entry ∷ [])) []
    by true later = refl
    by false later = later

following-none : (past : List Entry) → has_end past ≡ false → following_end past ≡ []
following-none [] e = refl
following-none (first ∷ past) e = by (is_end first) (following-none past) e
  where
    by : (b : Bool) → (has_end past ≡ false → following_end past ≡ []) → (b || has_end past) ≡ false → cond b past (following_end past) ≡ []
    by true later e = absurd (false≢true (sym e))
    by false later e = later e

-- ---- judging

due-is : (closing : Closing) (past : List Entry) → AreClosingOf closing past → slice_get (rows (before_end past)) closing.shown ≡ next_row past
due-is closing past are = ap (slice_get (rows (before_end past))) are.shown_are

pub judges-table : (closing : Closing) (past : List Entry) (entry : Entry) → AreClosingOf closing past → EntryFits entry → breaks_closing closing entry ≡ breaks_table past entry
judges-table closing past entry are fits =
    ap (λ r. breaks_closing_by r closing entry) are.rows_are ∙ by (has_end past)
  where
    due : (e : Entry) → EntryFits e → breaks_due (rows (before_end past)) closing e ≡ breaks_end past e
    due (TableNode node commands) fit = ap (λ row. breaks_row row (TableNode node commands)) (due-is closing past are)
    due (TableValue node property confirmed heard) fit = ap (λ row. breaks_row row (TableValue node property confirmed heard)) (due-is closing past are)
    due (Device node setting) fit =
        ap (λ v. not (eqb (unwrap_or v 0) setting.value)) ((are.made_are node (omega (arith, fit.0.1))).last setting.property)
    due other fit = refl

    by : (b : Bool) → breaks_closing_by (cond b (Some (rows (before_end past))) None) closing entry ≡ (b && breaks_end past entry)
    by true = due entry fits
    by false = refl

-- ---- the first tables

pub closing-begins : AreClosingOf no_closing []
unfolding no_values first_joined
closing-begins = record {
  joined_places = length-set (replicate 233 false) 2 true ∙ length-replicate 233 false;
  heard_places = length-replicate 233 blank;
  made_places = length-replicate 233 blank;
  joined_are = λ node below. mark-more (replicate 233 false) 2 node [] (omega (arith, length-replicate 233 false)) (same-at false 233 node);
  joins = tt;
  made_are = λ node below. subst (λ k. AreLast k []) (sym (same-at blank 233 node)) none-last;
  heard_are = λ none node below. subst (λ k. AreLast k []) (sym (same-at blank 233 node)) none-last;
  rows_are = refl;
  shown_are = refl;
}
  where
    blank : Knowns
    blank = []

-- ---- one entry more

ends-joined : (closing : Closing) (r : Option (List Entry)) (rows : List Entry) → (ends_with closing r rows).joined ≡ closing.joined
ends-joined closing None rows = refl
ends-joined closing (Some before) rows = refl

ends-made : (closing : Closing) (r : Option (List Entry)) (rows : List Entry) → (ends_with closing r rows).made ≡ closing.made
ends-made closing None rows = refl
ends-made closing (Some before) rows = refl

ends-shown : (closing : Closing) (r : Option (List Entry)) (rows : List Entry) → (ends_with closing r rows).shown ≡ closing.shown
ends-shown closing None rows = refl
ends-shown closing (Some before) rows = refl

abbrev or_rows : Option (List Entry) → List Entry → Option (List Entry)
or_rows None rows = Some rows
or_rows (Some before) rows = Some before

ends-rows : (closing : Closing) (r : Option (List Entry)) (rows : List Entry) → closing.rows ≡ r → (ends_with closing r rows).rows ≡ or_rows r rows
ends-rows closing None rows e = refl
ends-rows closing (Some before) rows e = e

shown-joined : (closing : Closing) (rows : List Entry) (entry : Entry) → (closing_shown closing rows entry).joined ≡ closing.joined
shown-joined closing rows (TableEnd ticks) = ends-joined closing closing.rows rows
shown-joined closing rows other = refl

shown-made : (closing : Closing) (rows : List Entry) (entry : Entry) (past : List Entry) (n : ℕ) → length closing.made ≡ 233 → EntryFits entry →
    AreLast (values_of closing.made n) (settings_made (made n past)) →
    AreLast (values_of (closing_shown closing rows entry).made n) (settings_made (made n past) ++ settings_made (made_at n entry))
shown-made closing rows (Dev node by setting) past n places fits are =
    subst (λ l. AreLast (values_of (values_with closing.made node setting) n) (settings_made (made n past) ++ l)) (sym (one (eqb node n)))
    (value-table closing.made node n setting (settings_made (made n past)) (omega (arith, places, fits.0.1)) are)
  where
    one : (b : Bool) → settings_made (cond b (record { by = by; setting = setting } ∷ []) []) ≡ cond b (setting ∷ []) []
    one true = refl
    one false = refl
shown-made closing rows (TableEnd ticks) past n places fits are =
    subst (λ m. AreLast (values_of m n) (settings_made (made n past) ++ [])) (sym (ends-made closing closing.rows rows))
    (subst (AreLast (values_of closing.made n)) (sym (append-nil (settings_made (made n past)))) are)
shown-made closing rows other past n places fits are = subst (AreLast (values_of closing.made n)) (sym (append-nil (settings_made (made n past)))) are

places-with : (table : List Knowns) (at : ℕ) (one : Setting) → length (values_with table at one) ≡ length table
places-with table at one = length-set table at (with_last (values_of table at) one)

shown-made-places : (closing : Closing) (rows : List Entry) (entry : Entry) → length (closing_shown closing rows entry).made ≡ length closing.made
shown-made-places closing rows (Dev node by setting) = places-with closing.made node setting
shown-made-places closing rows (TableEnd ticks) = ap length (ends-made closing closing.rows rows)
shown-made-places closing rows other = refl

blank-places : length no_values ≡ 233
unfolding no_values
blank-places = length-replicate 233 blank
  where
    blank : Knowns
    blank = []

ends-heard-places : (closing : Closing) (r : Option (List Entry)) (rows : List Entry) → length closing.heard ≡ 233 → length (ends_with closing r rows).heard ≡ 233
ends-heard-places closing None rows places = blank-places
ends-heard-places closing (Some before) rows places = places

shown-heard-places : (closing : Closing) (rows : List Entry) (entry : Entry) → length closing.heard ≡ 233 → length (closing_shown closing rows entry).heard ≡ 233
shown-heard-places closing rows (Report node setting) places = places-with closing.heard node setting ∙ places
shown-heard-places closing rows (TableEnd ticks) places = ends-heard-places closing closing.rows rows places
shown-heard-places closing rows other places = places

line-heard-places : (closing : Closing) (line : Option Line) → length closing.heard ≡ 233 → length (line_done closing line).heard ≡ 233
line-heard-places closing None places = places
line-heard-places closing (Some lines.Restart) places = blank-places
line-heard-places closing (Some line) places = places

line-joined-places : (closing : Closing) (line : Option Line) → length (line_done closing line).joined ≡ length closing.joined
line-joined-places closing None = refl
line-joined-places closing (Some (lines.Join node)) = length-set closing.joined node true
line-joined-places closing (Some line) = refl

line-made : (closing : Closing) (line : Option Line) → (line_done closing line).made ≡ closing.made
line-made closing None = refl
line-made closing (Some lines.Restart) = refl
line-made closing (Some line) = refl

line-rows : (closing : Closing) (line : Option Line) → (line_done closing line).rows ≡ closing.rows
line-rows closing None = refl
line-rows closing (Some lines.Restart) = refl
line-rows closing (Some line) = refl

line-shown : (closing : Closing) (line : Option Line) → (line_done closing line).shown ≡ closing.shown
line-shown closing None = refl
line-shown closing (Some lines.Restart) = refl
line-shown closing (Some line) = refl

-- a part that a line leaves
after-part : {A : Type 0} (part : Closing → A) (closing : Closing) (line : Option Line) (entry : Entry) → part (line_done closing line) ≡ part closing → part (after_line closing line entry) ≡ part closing
after-part part closing line (Refused refusal) same = refl
after-part part closing line other same = same

after-heard-places : (closing : Closing) (line : Option Line) (entry : Entry) → length closing.heard ≡ 233 → length (after_line closing line entry).heard ≡ 233
after-heard-places closing line (Refused refusal) places = places
after-heard-places closing line other places = line-heard-places closing line places

pub none-some : {A : Type 0} {x : A} → Some x ≡ None → ⊥
none-some {A} {x} e = subst G e tt
  where
    G : Option A → Type 0
    G None = ⊥
    G (Some y) = Unit {0}

or-rows-some : (r : Option (List Entry)) (rows : List Entry) → or_rows r rows ≡ None → ⊥
or-rows-some None rows e = none-some e
or-rows-some (Some before) rows e = none-some e

-- what was heard, as long as there is no table
shown-heard : (closing : Closing) (rows : List Entry) (entry : Entry) (prefix : List Entry) (n : ℕ) → length closing.heard ≡ 233 → EntryFits entry →
    (closing_shown closing rows entry).rows ≡ None → (closing.rows ≡ None → AreLast (values_of closing.heard n) (reported n prefix)) →
    AreLast (values_of (closing_shown closing rows entry).heard n) (reported n prefix ++ reported_at n entry)
shown-heard closing rows (Report node setting) prefix n places fits none are =
    value-table closing.heard node n setting (reported n prefix) (omega (arith, places, fits.0.1)) (are none)
shown-heard closing rows (TableEnd ticks) prefix n places fits none are = absurd (or-rows-some closing.rows rows (sym (ends-rows closing closing.rows rows refl) ∙ none))
shown-heard closing rows other prefix n places fits none are = subst (AreLast (values_of closing.heard n)) (sym (append-nil (reported n prefix))) (are none)

-- the rows, once the table has begun
shown-rows : (closing : Closing) (past : List Entry) (entry : Entry) (made : List Entry) → closing.rows ≡ cond (has_end past) (Some (rows (before_end past))) None →
    (has_end past ≡ false → is_end entry ≡ true → made ≡ rows past) →
    (closing_shown closing made entry).rows ≡ cond (has_end (past ++ (entry ∷ []))) (Some (rows (before_end (past ++ (entry ∷ []))))) None
shown-rows closing past entry made are built =
    by (has_end past) refl ∙ ap₂ (λ b l. cond b (Some (rows l)) None) (sym (end-more past entry)) (sym (before-more past entry))
  where
    begun : (r : Option (List Entry)) (e : Entry) → closing.rows ≡ r → (closing_shown closing made e).rows ≡ cond (is_end e) (or_rows r made) r
    begun r (TableEnd ticks) is = ap (λ q. (ends_with closing q made).rows) is ∙ ends-rows closing r made is
    begun r other is = is

    some-end : (b : Bool) (x : List Entry) → cond b (or_rows (Some x) made) (Some x) ≡ Some x
    some-end true x = refl
    some-end false x = refl

    first-end : (b : Bool) → has_end past ≡ false → is_end entry ≡ b → cond b (Some made) None ≡ cond b (Some (rows (past ++ cond b [] (entry ∷ [])))) None
    first-end true none is = ap Some (built none is ∙ ap rows (sym (append-nil past)))
    first-end false none is = refl

    by : (b : Bool) → has_end past ≡ b →
        (closing_shown closing made entry).rows ≡ cond (b || is_end entry) (Some (rows (cond b (before_end past) (past ++ cond (is_end entry) [] (entry ∷ []))))) None
    by true is = begun (Some (rows (before_end past))) entry (are ∙ ap (λ b. cond b (Some (rows (before_end past))) None) is) ∙ some-end (is_end entry) (rows (before_end past))
    by false is = begun None entry (are ∙ ap (λ b. cond b (Some (rows (before_end past))) None) is) ∙ first-end (is_end entry) is refl

filter-more : (xs : List Entry) (entry : Entry) → length (filter is_row (xs ++ (entry ∷ []))) ≡ length (filter is_row xs) + cond (is_row entry) 1 0
filter-more [] entry = by (is_row entry)
  where
    by : (b : Bool) → length (cond b (entry ∷ []) []) ≡ 0 + cond b 1 0
    by true = refl
    by false = refl
filter-more (x ∷ xs) entry = by (is_row x) (filter-more xs entry)
  where
    by : (b : Bool) → length (filter is_row (xs ++ (entry ∷ []))) ≡ length (filter is_row xs) + cond (is_row entry) 1 0 →
        length (cond b (x ∷ filter is_row (xs ++ (entry ∷ []))) (filter is_row (xs ++ (entry ∷ [])))) ≡ length (cond b (x ∷ filter is_row xs) (filter is_row xs)) + cond (is_row entry) 1 0
    by true later = omega (arith, later)
    by false later = later

abbrev counts : Option (List Entry) → Bool → ℕ → ℕ
counts r b shown = cond b (counts_row r shown) shown

shown-counts : (closing : Closing) (made : List Entry) (entry : Entry) → (closing_shown closing made entry).shown ≡ counts closing.rows (is_row entry) closing.shown
shown-counts closing made (TableEnd ticks) = ends-shown closing closing.rows made
shown-counts closing made other = refl

shown-shown : (closing : Closing) (past : List Entry) (entry : Entry) (made : List Entry) → closing.rows ≡ cond (has_end past) (Some (rows (before_end past))) None →
    closing.shown ≡ length (filter is_row (following_end past)) →
    (closing_shown closing made entry).shown ≡ length (filter is_row (following_end (past ++ (entry ∷ []))))
shown-shown closing past entry made are count =
    shown-counts closing made entry ∙ ap₂ (λ r s. counts r (is_row entry) s) are count ∙ by (has_end past) refl
    ∙ ap (λ l. length (filter is_row l)) (sym (following-more past entry))
  where
    one : (b : Bool) (n : ℕ) → cond b (n + 1) n ≡ n + cond b 1 0
    one true n = refl
    one false n = omega arith

    none : (b : Bool) (n : ℕ) → cond b n n ≡ n
    none true n = refl
    none false n = refl

    by : (b : Bool) → has_end past ≡ b → counts (cond b (Some (rows (before_end past))) None) (is_row entry) (length (filter is_row (following_end past)))
        ≡ length (filter is_row (cond b (following_end past ++ (entry ∷ [])) []))
    by true is = one (is_row entry) (length (filter is_row (following_end past))) ∙ sym (filter-more (following_end past) entry)
    by false is = none (is_row entry) (length (filter is_row (following_end past))) ∙ ap (λ l. length (filter is_row l)) (following-none past is)

not-refusal : (entry : Entry) → is_end entry ≡ true → is_refusal entry ≡ false
not-refusal (Refused refusal) e = absurd (false≢true e)
not-refusal other e = refl

-- the rows that are made as the table begins
rows-made : (closing : Closing) (line : Option Line) (endings_by : ℕ → Ending) (orders : List (Option Order)) (nodes : List (List ℕ)) (past : List Entry) (entry : Entry) →
    AreClosingOf closing past → IsWithin line → lines_of line ≡ line_last past →
    ((node : ℕ) → node < 233 → sessions_of nodes node ≡ sessions node past) → ((command : ℕ) → endings_by command ≡ ending_from no_ending (endings command past)) →
    orders ≡ (accepting_at past).orders → has_end past ≡ false → is_end entry ≡ true →
    all_rows (after_line closing line entry) endings_by orders nodes ≡ rows past
rows-made closing line endings_by orders nodes past entry are within same begun ended ordered none ends =
    let calm = not-refusal entry ends in
    let after : after_line closing line entry ≡ line_done closing line = after-is closing line entry ∙ ap (λ b. cond b closing (line_done closing line)) calm in
    let done : (doing past).earlier ++ lines_of line ≡ lines_done past = ap (λ l. (doing past).earlier ++ l) (same ∙ sym (doing-last past)) in
    let no-rows : closing.rows ≡ None = are.rows_are ∙ ap (λ b. cond b (Some (rows (before_end past))) None) none in
    ap (λ c. all_rows c endings_by orders nodes) after
    ∙ rows-are (line_done closing line) endings_by orders nodes past begun ended ordered
    ((omega arith, omega arith), subst (λ l. AllByRecursion (λ node. (1 ≤ node) × (node < 233)) (flat_map join_of l)) done (done-within closing past line are within))
    (λ node below. done-joins closing past line node are within below ∙ ap (λ l. list_any (λ one. eqb one node) (joins_of l)) done)
    (λ node below.
    subst (λ l. AreLast (values_of (line_done closing line).heard node) (reported node l))
    (ap (λ ls. cond (is_restart ls) [] (since past).entries) (same ∙ sym (since-last past)) ∙ since-is past)
    (line-heard closing line (since past).entries node (are.heard_are no-rows node below)))

pub goes-closing : (closing : Closing) (line : Option Line) (endings_by : ℕ → Ending) (orders : List (Option Order)) (nodes : List (List ℕ)) (past : List Entry) (entry : Entry) →
    AreClosingOf closing past → IsWithin line → EntryFits entry → lines_of line ≡ line_last past →
    ((node : ℕ) → node < 233 → sessions_of nodes node ≡ sessions node past) → ((command : ℕ) → endings_by command ≡ ending_from no_ending (endings command past)) →
    orders ≡ (accepting_at past).orders → AreClosingOf (closing_after closing line endings_by orders nodes entry) (past ++ (entry ∷ []))
goes-closing closing line endings_by orders nodes past entry are within fits same begun ended ordered =
    let c = after_line closing line entry in
    let made-rows = all_rows c endings_by orders nodes in
    let prefix = cond (is_restart (since past).line && not (is_refusal entry)) [] (since past).entries in
    let heard-places : length c.heard ≡ 233 = after-heard-places closing line entry are.heard_places in
    let rows-same : c.rows ≡ closing.rows = after-part (λ (k : Closing). k.rows) closing line entry (line-rows closing line) in
    let made-same : c.made ≡ closing.made = after-part (λ (k : Closing). k.made) closing line entry (line-made closing line) in
    let shown-same : c.shown ≡ closing.shown = after-part (λ (k : Closing). k.shown) closing line entry (line-shown closing line) in
    record {
      joined_places =
          ap length (shown-joined c made-rows entry) ∙ after-part (λ (k : Closing). length k.joined) closing line entry (line-joined-places closing line) ∙ are.joined_places;
      heard_places = shown-heard-places c made-rows entry heard-places;
      made_places = shown-made-places c made-rows entry ∙ ap length made-same ∙ are.made_places;
      joined_are = λ node below.
          ap (λ l. slice_index_or l node false) (shown-joined c made-rows entry) ∙ after-joins closing past line entry node are within same below;
      joins = after-within closing past line entry are within same;
      made_are = λ node below.
          subst (AreLast (values_of (closing_shown c made-rows entry).made node)) (sym (made-more node past entry))
          (shown-made c made-rows entry past node (ap length made-same ∙ are.made_places) fits
          (subst (λ m. AreLast (values_of m node) (settings_made (made node past))) (sym made-same) (are.made_are node below)));
      heard_are = λ none node below.
          subst (AreLast (values_of (closing_shown c made-rows entry).heard node))
          (sym (ap (λ (s : Since). reported node s.entries) (since-more past entry) ∙ reported-more node prefix entry))
          (shown-heard c made-rows entry prefix node heard-places fits none
          (λ empty. after-heard closing past line entry node same (are.heard_are (sym rows-same ∙ empty) node below)));
      rows_are =
          shown-rows c past entry made-rows (rows-same ∙ are.rows_are)
          (λ none ends. rows-made closing line endings_by orders nodes past entry are within same begun ended ordered none ends);
      shown_are = shown-shown c past entry made-rows (rows-same ∙ are.rows_are) (shown-same ∙ are.shown_are);
    }
