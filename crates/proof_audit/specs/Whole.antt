-- What a transcript keeps that is judged to be in order: each rule, at each entry, by the entries before it (this project's own rule).
use Rattle.std.specs.Prelude.{◌≡◌, ℕ, false, List, [], ◌∷◌, ◌++◌, Option, Some, None}
use Rattle.zw_base.specs.declared.property.Setting.{Setting}
use Rattle.zw_text.specs.declared.entry.Entry.{Entry}
use Rattle.audit_books.specs.declared.group.Maker.{Maker}
use Rattle.audit_books.specs.Groups.{group_of, maker_at}
use Rattle.audit_books.specs.OnceRule.{breaks_once}
use Rattle.audit_books.specs.SessionRule.{EachKeeps, breaks_sessions}
use Rattle.audit_rules.specs.AirRule.{breaks_air}
use Rattle.audit_rules.specs.PayloadRule.{breaks_payload}
use Rattle.audit_table.specs.StoreRule.{breaks_store}
use Rattle.audit_table.specs.TableRule.{breaks_table}
use Rattle.audit.specs.Breaking.{Examined}

-- the settings that go on with what a session of a node made, by the entries after it
abbrev pub following_by : Option Maker → List Entry → List Setting
following_by None rest = []
following_by (Some maker) rest = group_of maker rest

-- the settings that go on with what an entry shows, where a session made it
abbrev pub following_of : Entry → List Entry → List Setting
following_of entry rest = following_by (maker_at entry) rest

-- no entry breaks the once-only rule, each judged by those before it, and with the settings that go on with what it shows
abbrev pub EachKeepsOnce : List Entry → List Entry → Type 0
EachKeepsOnce past [] = Unit {0}
EachKeepsOnce past (entry ∷ rest) = (breaks_once past entry (following_of entry rest) ≡ false) × EachKeepsOnce (past ++ (entry ∷ [])) rest

-- each rule is kept by these entries, after those
pub record KeepsRulesAfter (past entries : List Entry) : Type 0 where
  pub sessions : EachKeeps breaks_sessions past entries
  pub once : EachKeepsOnce past entries
  pub air : EachKeeps breaks_air past entries
  pub payload : EachKeeps breaks_payload past entries
  pub store : EachKeeps breaks_store past entries
  pub table : EachKeeps breaks_table past entries

-- each rule is kept by a transcript
abbrev pub KeepsRules : List Entry → Type 0
KeepsRules transcript = KeepsRulesAfter [] transcript

-- the answer for a text is that no line breaks a rule
abbrev pub AnswersYes : List ℕ → Type 0
AnswersYes text = Examined text None
