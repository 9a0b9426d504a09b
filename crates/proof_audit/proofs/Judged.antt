-- The lines of entries that keep each rule are read one by one, and none is judged to break a rule.
use Rattle.std.proofs.Common.{◌≡◌, ℕ, cond, Bool, false, length, List, [], ◌∷◌, ◌++◌, Option, Some, None, arith, ap, ap₂, refl, sym, subst, ◌∙◌, append_assoc, length-append}
use Rattle.std.proofs.lemmas.Grind.{flat_map-append}
use Rattle.zw_base.specs.declared.property.Setting.{Setting}
use Rattle.zw_text.specs.Entry.{entry_text, transcript_text}
use Rattle.zw_text.specs.declared.entry.Entry.{Entry}
use Rattle.zw_parse.proofs.EntryLaws.{one-entry, without-feed}
use Rattle.audit_books.specs.declared.group.Maker.{Maker}
use Rattle.audit_books.specs.Groups.{IsFollowing, IsGroup, group_of, maker_at, setting_by, with_setting}
use Rattle.audit_books.specs.Lines.{IsNext}
use Rattle.audit_books.specs.OnceRule.{breaks_once}
use Rattle.audit_books.proofs.Cuts.{next-entry, next-rest}
use Rattle.audit.specs.Breaking.{IsJudged, Keeps}
use Rattle.audit.specs.declared.breaks.Break.{Break}
use Rattle.audit.specs.declared.breaks.Break.TheVariants.{Air, Once, Payload, Sessions, Store, Table}
use Rattle.proof_audit.specs.Legible.{AreLegible, IsLegible}
use Rattle.proof_audit.specs.Whole.{AnswersYes, KeepsRules, KeepsRulesAfter, following_by}

-- ---- the next line

-- the text of entries begins with the line of the first, and with that of no other entry
legible_is_next : (entry : Entry) (rest : List Entry) → IsLegible entry → IsNext (transcript_text (entry ∷ rest)) entry (transcript_text rest)
legible_is_next entry rest legible = record {
  line = append_assoc (entry_text entry) (10 ∷ []) (transcript_text rest);
  feeds_none = without-feed entry legible.is.fits legible.one_line;
  is = legible.is;
  only = λ other is same. one-entry entry other legible.is.fits is.fits same;
}

not_next : (entry : Entry) (rest : List ℕ) → IsNext [] entry rest → ⊥
not_next entry rest next = omega (arith, ap length next.line, length-append (entry_text entry) (10 ∷ rest))

-- ---- the settings that go on with a change

group_is : (maker : Maker) (entries : List Entry) (settings : List Setting) → AreLegible entries → IsGroup maker (transcript_text entries) settings → settings ≡ group_of maker entries
group_is maker [] [] legible ends = refl
group_is maker [] (setting ∷ settings) legible (rest, begins, more) = absurd (not_next begins.entry rest begins.next)
group_is maker (entry ∷ entries) [] legible ends =
    sym (ap (λ made. with_setting made (group_of maker entries)) (ends entry (transcript_text entries) (legible_is_next entry entries legible.0)))
group_is maker (entry ∷ entries) (setting ∷ settings) legible (rest, begins, more) =
    let next = legible_is_next entry entries legible.0 in
    let text = transcript_text (entry ∷ entries) in
    let made : setting_by maker entry ≡ Some setting =
    ap (setting_by maker) (next-entry text entry begins.entry (transcript_text entries) rest next begins.next) ∙ begins.made in
    let left : rest ≡ transcript_text entries = next-rest text begins.entry entry rest (transcript_text entries) begins.next next in
    ap (λ them. setting ∷ them) (group_is maker entries settings legible.1 (subst (λ it. IsGroup maker it settings) left more))
    ∙ sym (ap (λ it. with_setting it (group_of maker entries)) made)

following_is : (maker : Option Maker) (rest : List Entry) (settings : List Setting) → AreLegible rest → IsFollowing maker (transcript_text rest) settings → settings ≡ following_by maker rest
following_is None rest settings legible none = none
following_is (Some maker) rest settings legible group = group_is maker rest settings legible group

-- ---- the judgement

none_broken : (sessions once air payload store table : Bool) → sessions ≡ false → once ≡ false → air ≡ false → payload ≡ false → store ≡ false → table ≡ false →
    None ≡ cond sessions (Some Sessions) (cond once (Some Once) (cond air (Some Air) (cond payload (Some Payload) (cond store (Some Store) (cond table (Some Table) None)))))
none_broken sessions once air payload store table s o a p t v =
    sym (ap₂ (λ b (r : Option Break). cond b (Some Sessions) r) s (ap₂ (λ b (r : Option Break). cond b (Some Once) r) o (ap₂ (λ b (r : Option Break). cond b (Some Air) r) a
    (ap₂ (λ b (r : Option Break). cond b (Some Payload) r) p (ap₂ (λ b (r : Option Break). cond b (Some Store) r) t (ap (λ b. cond b (Some Table) None) v))))))

judged_so : (past : List Entry) (entry : Entry) (rest : List Entry) → AreLegible rest → KeepsRulesAfter past (entry ∷ rest) → IsJudged past entry (transcript_text rest) None
judged_so past entry rest legible keeps following goes =
    let once : breaks_once past entry following ≡ false =
    ap (breaks_once past entry) (following_is (maker_at entry) rest following legible goes) ∙ keeps.once.0 in
    none_broken _ _ _ _ _ _ keeps.sessions.0 once keeps.air.0 keeps.payload.0 keeps.store.0 keeps.table.0

-- the rest keeps the rules after one more
keeps_later : (past : List Entry) (entry : Entry) (rest : List Entry) → KeepsRulesAfter past (entry ∷ rest) → KeepsRulesAfter (past ++ (entry ∷ [])) rest
keeps_later past entry rest keeps = record {
  sessions = keeps.sessions.1;
  once = keeps.once.1;
  air = keeps.air.1;
  payload = keeps.payload.1;
  store = keeps.store.1;
  table = keeps.table.1;
}

-- ---- the whole

keeps_each : (past entries : List Entry) → AreLegible entries → KeepsRulesAfter past entries → Keeps past (transcript_text entries) entries []
keeps_each past [] legible keeps = refl
keeps_each past (entry ∷ rest) legible keeps = (
  transcript_text rest,
  legible_is_next entry rest legible.0,
  judged_so past entry rest legible.1 keeps,
  keeps_each (past ++ (entry ∷ [])) rest legible.1 (keeps_later past entry rest keeps),
)

pub answers_yes : (transcript : List Entry) → AreLegible transcript → KeepsRules transcript → AnswersYes (transcript_text transcript)
answers_yes transcript legible keeps = record { entries = transcript; rest = []; keeps = keeps_each [] transcript legible keeps; ends = refl }

pub parts_answer_yes : (transcript table : List Entry) → AreLegible (transcript ++ table) → KeepsRules (transcript ++ table)
    → AnswersYes (transcript_text transcript ++ transcript_text table)
parts_answer_yes transcript table legible keeps =
    subst AnswersYes (flat_map-append (λ (told : Entry). entry_text told ++ 10 ∷ []) transcript table) (answers_yes (transcript ++ table) legible keeps)
