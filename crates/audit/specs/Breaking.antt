-- Whether a transcript is in order: which rule a line breaks, and which line is the first that breaks one (this project's own
-- rule).
use Rattle.std.specs.Prelude.{◌≡◌, ℕ, ◌+◌, if◌then◌else◌, List, [], ◌∷◌, ◌++◌, length, Option, Some, None}
use Rattle.zw_base.specs.declared.property.Setting.{Setting}
use Rattle.zw_text.specs.declared.entry.Entry.{Entry}
use Rattle.audit_books.specs.Lines.{IsNext, IsNoLine}
use Rattle.audit_books.specs.Groups.{IsFollowing, maker_at}
use Rattle.audit_books.specs.SessionRule.{breaks_sessions}
use Rattle.audit_books.specs.OnceRule.{breaks_once}
use Rattle.audit_rules.specs.AirRule.{breaks_air}
use Rattle.audit_rules.specs.PayloadRule.{breaks_payload}
use Rattle.audit_table.specs.StoreRule.{breaks_store}
use Rattle.audit_table.specs.TableRule.{breaks_table}
use Rattle.audit.specs.declared.breaks.Break.{Break}
use Rattle.audit.specs.declared.breaks.Break.TheVariants.{Text, Sessions, Once, Air, Payload, Store, Table}

-- the first of the last four rules that an entry breaks, by the entries before it
abbrev pub first_of_rest : List Entry → Entry → Option Break
first_of_rest past entry =
    if breaks_air past entry then Some Air
    else if breaks_payload past entry then Some Payload
    else if breaks_store past entry then Some Store
    else if breaks_table past entry then Some Table
    else None

-- the first rule that an entry breaks; `following` are the settings of the lines that go on with its change
abbrev pub first_broken : List Entry → Entry → List Setting → Option Break
first_broken past entry following =
    if breaks_sessions past entry then Some Sessions
    else if breaks_once past entry following then Some Once
    else first_of_rest past entry

-- an entry before that text is judged so
abbrev pub IsJudged : List Entry → Entry → List ℕ → Option Break → Type 0
IsJudged past entry text broken = (following : List Setting) → IsFollowing (maker_at entry) text following → broken ≡ first_broken past entry following

-- the text goes on with the lines of these entries, of which none breaks a rule, and then with that rest
abbrev pub Keeps : List Entry → List ℕ → List Entry → List ℕ → Type 0
Keeps past text [] rest = text ≡ rest
Keeps past text (entry ∷ entries) rest =
    (more : List ℕ) × IsNext text entry more × IsJudged past entry more None × Keeps (past ++ (entry ∷ [])) more entries rest

-- the line with which the text goes on is that of no entry, or breaks that rule
abbrev pub IsBroken : List Entry → List ℕ → Break → Type 0
IsBroken past text Text = (text ≡ [] → ⊥) × IsNoLine text
IsBroken past text broken = (entry : Entry) × (more : List ℕ) × IsNext text entry more × IsJudged past entry more (Some broken)

-- after entries of which none breaks a rule the text is at its end, or goes on with the line that breaks that one
abbrev pub Ends : List Entry → List ℕ → Option (ℕ × Break) → Type 0
Ends past text None = text ≡ []
Ends past text (Some (line, broken)) = (line ≡ length past + 1) × IsBroken past text broken

-- the answer for a text
pub record Examined (text : List ℕ) (found : Option (ℕ × Break)) : Type 0 where
  pub entries : List Entry
  pub rest : List ℕ
  pub keeps : Keeps [] text entries rest
  pub ends : Ends entries rest found

-- two answers for a text are the same
abbrev pub HasOneAnswer : Type 0
HasOneAnswer = (text : List ℕ) (found other : Option (ℕ × Break)) → Examined text found → Examined text other → found ≡ other
