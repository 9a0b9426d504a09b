-- What stands in a transcript before the session of a command begins, and the settings that a device has made by then.
use Rattle.std.proofs.Common.{◌≡◌, ℕ, ◌==◌, inl, inr, Bool, true, false, if◌then◌else◌, List, [], ◌∷◌, ◌++◌, map, refl, sym, ap, ap₂, ◌∙◌, subst}
use Rattle.std.proofs.lemmas.Bool.{eq-eqb}
use Rattle.std.specs.Prelude.{◌⊎◌, nat_lt, ◌&&◌}
use Rattle.std.specs.List.{flat_map}
use Rattle.zw_base.specs.PropertyOrder.{same_property}
use Rattle.zw_base.specs.declared.property.By.{By}
use Rattle.zw_base.specs.declared.property.Property.{Property}
use Rattle.zw_base.specs.declared.property.Setting.{Setting}
use Rattle.zw_text.specs.declared.entry.Ended.{Ended}
use Rattle.zw_text.specs.declared.entry.Ended.TheVariants as ended
use Rattle.zw_text.specs.declared.entry.Entry.{Entry}
use Rattle.zw_text.specs.declared.entry.Entry.TheVariants.{Begin}
use Rattle.zw_text.specs.declared.entry.Outcome.{Outcome}
use Rattle.zw_text.specs.declared.entry.Outcome.TheVariants.{Waiting, Begun}
use Rattle.zw_text.specs.Transcript.{Made, carried, carried_at, endings, last_outcome, made, made_at, outcome, outcome_begun, outcome_of, session_at, sessions}
use Rattle.zw_text.proofs.Views.{shown-append}
use Rattle.law_transcript.specs.Devices.{made_by}
use Rattle.law_transcript.specs.Lists.{EachAfter, Has}
use Rattle.law_transcript.proofs.Having.{has_either}
use Rattle.law_time.specs.Verdicts.{before_session, settings_made}
use Rattle.device_kinds.specs.declared.change.Change.{Change}
use Rattle.device_kinds.specs.Effects.{level_in, value_in}
use Rattle.device_kinds.specs.Values.{level_after, level_by, level_property, value_after, value_by}
use Rattle.device_kinds.proofs.CacheLemmas.{level_after-append, value_after-append}
use Rattle.proof_host.specs.Laws.{MayStand}
use Rattle.proof_walk.proofs.Moving.{both_none}
use Rattle.proof_spoken.proofs.Others.{made_both}

-- ---- the entries before it

-- where none has begun yet, they are all that stand there, and what follows
pub none_begun : (command : ℕ) (first later : List Entry) → carried command first ≡ [] → before_session command (first ++ later) ≡ first ++ before_session command later
none_begun command [] later none = refl
none_begun command (Begin node session number ∷ first) later none = by (number == command) none (λ rest. none_begun command first later rest)
  where
    by : (b : Bool) → (if b then session ∷ [] else []) ++ carried command first ≡ [] → (carried command first ≡ [] → before_session command (first ++ later) ≡ first ++ before_session command later)
        → (if b then [] else Begin node session number ∷ before_session command (first ++ later)) ≡ Begin node session number ∷ (first ++ before_session command later)
    by true some rest = absurd cc
    by false none rest = ap (λ (l : List Entry). Begin node session number ∷ l) (rest none)
none_begun command (entry ∷ first) later none = ap (λ (l : List Entry). entry ∷ l) (none_begun command first later none)

-- a number that stands here alone
pub same_has : (b : Bool) (number command : ℕ) → Has (if b then number ∷ [] else []) command → number ≡ command
same_has true number command (inl is) = is
same_has true number command (inr none) = absurd none
same_has false number command none = absurd none

-- once it has begun they stay
pub begun_stays : (n command : ℕ) (first later : List Entry) → Has (sessions n first) command → before_session command (first ++ later) ≡ before_session command first
begun_stays n command [] later has = absurd has
begun_stays n command (Begin node session number ∷ first) later has = by (number == command) refl (λ more. begun_stays n command first later more)
  where
    behind : (number == command) ≡ false → Has (session_at n (Begin node session number)) command ⊎ Has (sessions n first) command → Has (sessions n first) command
    behind other (inl own) = let bad : true ≡ false = sym (eq-eqb number command (same_has (node == n) number command own)) ∙ other in absurd cc
    behind other (inr more) = more

    by : (b : Bool) → (number == command) ≡ b → (Has (sessions n first) command → before_session command (first ++ later) ≡ before_session command first)
        → (if b then [] else Begin node session number ∷ before_session command (first ++ later)) ≡ (if b then [] else Begin node session number ∷ before_session command first)
    by true same rest = refl
    by false other rest = ap (λ (l : List Entry). Begin node session number ∷ l) (rest (behind other (has_either (session_at n (Begin node session number)) (sessions n first) command has)))
begun_stays n command (entry ∷ first) later has = ap (λ (l : List Entry). entry ∷ l) (begun_stays n command first later has)

-- where nothing is made at all, nothing is made before it
pub none_made_before : (n command : ℕ) (entries : List Entry) → made n entries ≡ [] → made n (before_session command entries) ≡ []
none_made_before n command [] none = refl
none_made_before n command (Begin node session number ∷ entries) none = by (number == command) (none_made_before n command entries none)
  where
    by : (b : Bool) → made n (before_session command entries) ≡ [] → made n (if b then [] else Begin node session number ∷ before_session command entries) ≡ []
    by true rest = refl
    by false rest = rest
none_made_before n command (entry ∷ entries) none =
    let parts = both_none (made_at n entry) (made n entries) none in ap₂ (λ (a b : List Made). a ++ b) parts.0 (none_made_before n command entries parts.1)

-- ---- a session begins for a command that waits

never_waits : (how : Ended) → outcome_of how ≡ Waiting → ⊥
never_waits ended.Success e = absurd cc
never_waits ended.Fail e = absurd cc
never_waits ended.NoSupport e = absurd cc
never_waits ended.Unanswered e = absurd cc
never_waits ended.Cancelled e = absurd cc

never_again : (o : Outcome) (ends : List Ended) → (o ≡ Waiting → ⊥) → last_outcome o ends ≡ Waiting → ⊥
never_again o [] other e = other e
never_again o (how ∷ ends) other e = never_again (outcome_of how) ends (never_waits how) e

pub waits_unbegun : (carrying : List ℕ) (ends : List Ended) → last_outcome (outcome_begun carrying) ends ≡ Waiting → carrying ≡ []
waits_unbegun [] ends waits = refl
waits_unbegun (session ∷ carrying) ends waits = absurd (never_again Begun ends (λ e. absurd cc) waits)

own_begin : (n command : ℕ) (past : List Entry) (entry : Entry) → MayStand past entry → Has (session_at n entry) command → carried command past ≡ []
own_begin n command past (Begin node session number) may own =
    let is : number ≡ command = same_has (node == n) number command own in
    waits_unbegun (carried command past) (endings command past) (subst (λ (k : ℕ). outcome k past ≡ Waiting) is may.carry.1)
own_begin n command past entry may own = absurd own

-- so it had not begun before
pub begins_once : (n command : ℕ) (past more : List Entry) → EachAfter MayStand past more → Has (sessions n more) command → carried command past ≡ []
begins_once n command past [] each has = absurd has
begins_once n command past (entry ∷ more) each has =
    by (has_either (session_at n entry) (sessions n more) command has) (λ later. begins_once n command (past ++ entry ∷ []) more each.1 later)
  where
    by : Has (session_at n entry) command ⊎ Has (sessions n more) command → (Has (sessions n more) command → carried command (past ++ entry ∷ []) ≡ []) → carried command past ≡ []
    by (inl own) rest = own_begin n command past entry each.0 own
    by (inr later) rest = (both_none (carried command past) (carried command (entry ∷ [])) (sym (shown-append (carried_at command) past (entry ∷ [])) ∙ rest later)).0

-- ---- settings

-- the settings of changes, in order
abbrev pub settings_of : List Change → List Setting
settings_of changes = map (λ (one : Made). one.setting) (flat_map made_by changes)

pub made_then : (n : ℕ) (first later : List Entry) → made n later ≡ [] → settings_made n (first ++ later) ≡ settings_made n first
made_then n first later none =
    ap (λ (l : List Made). map (λ (one : Made). one.setting) l) (made_both n first later ∙ (ap (λ (l : List Made). made n first ++ l) none ∙ nil (made n first)))
  where
    nil : (xs : List Made) → xs ++ [] ≡ xs
    nil [] = refl
    nil (x ∷ xs) = ap (λ (l : List Made). x ∷ l) (nil xs)

map_both : (a b : List Made) → map (λ (one : Made). one.setting) (a ++ b) ≡ map (λ (one : Made). one.setting) a ++ map (λ (one : Made). one.setting) b
map_both [] b = refl
map_both (x ∷ a) b = ap (λ (l : List Setting). x.setting ∷ l) (map_both a b)

settings_back : (by : By) (settings : List Setting) → map (λ (one : Made). one.setting) (map (λ s. record { by = by; setting = s }) settings) ≡ settings
settings_back by [] = refl
settings_back by (s ∷ settings) = ap (λ (l : List Setting). s ∷ l) (settings_back by settings)

settings_more : (change : Change) (changes : List Change) → settings_of (change ∷ changes) ≡ change.settings ++ settings_of changes
settings_more change changes =
    map_both (made_by change) (flat_map made_by changes) ∙ ap (λ (l : List Setting). l ++ settings_of changes) (settings_back change.by change.settings)

value_by_both : (a b : List Setting) (property : Property) (before : ℕ) → value_by (a ++ b) property before ≡ value_by b property (value_by a property before)
value_by_both [] b property before = refl
value_by_both (s ∷ a) b property before = value_by_both a b property (if same_property s.property property then s.value else before)

level_by_both : (a b : List Setting) (before : ℕ) → level_by (a ++ b) before ≡ level_by b (level_by a before)
level_by_both [] b before = refl
level_by_both (s ∷ a) b before = level_by_both a b (if same_property s.property level_property && nat_lt 0 s.value then s.value else before)

value_by_settings : (changes : List Change) (property : Property) (before : ℕ) → value_after changes property before ≡ value_by (settings_of changes) property before
value_by_settings [] property before = refl
value_by_settings (change ∷ changes) property before =
    value_by_settings changes property (value_by change.settings property before)
    ∙ (sym (value_by_both change.settings (settings_of changes) property before) ∙ ap (λ (l : List Setting). value_by l property before) (sym (settings_more change changes)))

level_by_settings : (changes : List Change) (before : ℕ) → level_after changes before ≡ level_by (settings_of changes) before
level_by_settings [] before = refl
level_by_settings (change ∷ changes) before =
    level_by_settings changes (level_by change.settings before)
    ∙ (sym (level_by_both change.settings (settings_of changes) before) ∙ ap (λ (l : List Setting). level_by l before) (sym (settings_more change changes)))

-- the values after changes are those that their settings give
pub value_then : (start changes : List Change) (property : Property) → value_in (start ++ changes) property ≡ value_by (settings_of changes) property (value_in start property)
value_then start changes property = value_after-append start changes property 0 ∙ value_by_settings changes property (value_in start property)

pub level_then : (start changes : List Change) → level_in (start ++ changes) ≡ level_by (settings_of changes) (level_in start)
level_then start changes = level_after-append start changes 99 ∙ level_by_settings changes (level_in start)
