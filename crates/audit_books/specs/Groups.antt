-- A change in a transcript: the settings that one session of a node makes, in lines that stand after one another (this
-- project's own rule).
use Rattle.std.specs.Prelude.{◌≡◌, ℕ, ◌==◌, ◌&&◌, Bool, false, if◌then◌else◌, List, [], ◌∷◌, Option, Some, None}
use Rattle.zw_base.specs.declared.property.Setting.{Setting}
use Rattle.zw_base.specs.declared.property.By.{By}
use Rattle.zw_base.specs.declared.property.By.TheVariants.{Session}
use Rattle.zw_text.specs.declared.entry.Entry.{Entry}
use Rattle.zw_text.specs.declared.entry.Entry.TheVariants.{Dev}
use Rattle.audit_books.specs.declared.group.Maker.{Maker}
use Rattle.audit_books.specs.Lines.{IsNext}

-- what makes a setting of a node, where it is a session
abbrev pub maker_by : ℕ → By → Option Maker
maker_by node (Session session) = Some (record { node = node; session = session })
maker_by node _ = None

-- what makes the setting that an entry shows, where it is a session
abbrev pub maker_at : Entry → Option Maker
maker_at (Dev node by setting) = maker_by node by
maker_at _ = None

-- whether it is that one
abbrev pub is_maker : Option Maker → Maker → Bool
is_maker None maker = false
is_maker (Some other) maker = (other.node == maker.node) && (other.session == maker.session)

-- the setting that an entry shows as made by it
abbrev pub setting_by : Maker → Entry → Option Setting
setting_by maker (Dev node by setting) = if is_maker (maker_by node by) maker then Some setting else None
setting_by maker _ = None

-- a setting, and those after it
abbrev pub with_setting : Option Setting → List Setting → List Setting
with_setting None following = []
with_setting (Some setting) following = setting ∷ following

-- the settings made by it that entries begin with
abbrev pub group_of : Maker → List Entry → List Setting
group_of maker [] = []
group_of maker (entry ∷ entries) = with_setting (setting_by maker entry) (group_of maker entries)

-- no line with which the text begins shows a setting made by it
abbrev pub EndsGroup : Maker → List ℕ → Type 0
EndsGroup maker text = (entry : Entry) (rest : List ℕ) → IsNext text entry rest → setting_by maker entry ≡ None

-- the text begins with a setting made by it
pub record BeginsWith (maker : Maker) (text : List ℕ) (setting : Setting) (rest : List ℕ) : Type 0 where
  pub entry : Entry
  pub next : IsNext text entry rest
  pub made : setting_by maker entry ≡ Some setting

-- these are the settings made by it that the text begins with
abbrev pub IsGroup : Maker → List ℕ → List Setting → Type 0
IsGroup maker text [] = EndsGroup maker text
IsGroup maker text (setting ∷ settings) = (rest : List ℕ) × BeginsWith maker text setting rest × IsGroup maker rest settings

-- the settings that go on with what an entry shows, where a session makes it
abbrev pub IsFollowing : Option Maker → List ℕ → List Setting → Type 0
IsFollowing None text settings = settings ≡ []
IsFollowing (Some maker) text settings = IsGroup maker text settings
