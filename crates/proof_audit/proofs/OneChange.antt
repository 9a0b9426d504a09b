-- The settings by one session that a transcript shows are those of the one change that the session made.
use Rattle.std.proofs.Common.{◌≡◌, ◌⊎◌, ℕ, ◌<◌, cond, eqb, Bool, true, false, List, [], ◌∷◌, ◌++◌, map, Option, Some, None, inl, inr, arith, refl, sym, ap, ap₂, subst, ◌∙◌, append-nil}
use Rattle.std.specs.Prelude.{◌&&◌}
use Rattle.std.specs.List.{AllByRecursion, flat_map}
use Rattle.std.proofs.lemmas.Bool.{and_from, eq-eqb, eqb-true, ne_eqb}
use Rattle.std.proofs.lemmas.Grind.{flat_map-append}
use Rattle.zw_base.specs.declared.property.By.{By}
use Rattle.zw_base.specs.declared.property.By.TheVariants.{Local, Plain, Session}
use Rattle.zw_base.specs.declared.property.Setting.{Setting}
use Rattle.device_kinds.specs.declared.change.Change.{Change}
use Rattle.zw_text.specs.declared.entry.Entry.{Entry}
use Rattle.zw_text.specs.declared.entry.Entry.TheVariants.{Dev}
use Rattle.zw_text.specs.Transcript.{Made, applied, by_session, made, made_at}
use Rattle.zw_text.proofs.Views.{folded-append, shown-append}
use Rattle.law_transcript.specs.Devices.{made_by}
use Rattle.law_transcript.specs.Lists.{EachAfter, Has, Rises}
use Rattle.law_transcript.specs.Once.{sessions_by}
use Rattle.law_transcript.proofs.Having.{all_has, has_left, has_right, has_shown, shown_has}
use Rattle.audit_books.specs.Groups.{group_of, is_maker, maker_at, setting_by, with_setting}
use Rattle.audit_books.specs.OnceRule.{maker_after, maker_last}
use Rattle.audit_books.specs.declared.group.Maker.{Maker}

-- a setting by a session goes on with the change of the last entry, or is of a later session than all that changed the device
abbrev pub IsInTurn : List Entry → ℕ → ℕ → Type 0
IsInTurn past node session = (maker_last past ≡ Some (record { node = node; session = session })) ⊎ AllByRecursion (λ other. other < session) (applied node past)

abbrev pub MayFollow : List Entry → Entry → Type 0
MayFollow past (Dev node (Session session) setting) = IsInTurn past node session
MayFollow past _ = Unit {0}

abbrev pub session_of : Made → List ℕ
session_of one = by_session one.by

-- ---- the settings by a session

abbrev pub is_by : ℕ → By → Bool
is_by session (Session other) = eqb other session
is_by session _ = false

abbrev one_by : ℕ → Made → List Setting
one_by session one = cond (is_by session one.by) (one.setting ∷ []) []

abbrev pub all_by : ℕ → List Made → List Setting
all_by session all = flat_map (one_by session) all

-- without the session there are none
none-by : (session : ℕ) (all : List Made) → (Has (flat_map session_of all) session → ⊥) → all_by session all ≡ []
none-by session [] never = refl
none-by session (one ∷ all) never = by one.by (λ has. never has) (λ later. none-by session all later)
  where
    by : (how : By) → (Has (by_session how ++ flat_map session_of all) session → ⊥) → ((Has (flat_map session_of all) session → ⊥) → all_by session all ≡ [])
        → cond (is_by session how) (one.setting ∷ []) [] ++ all_by session all ≡ []
    by (Session other) never rest =
        ap (λ (b : Bool). cond b (one.setting ∷ []) [] ++ all_by session all) (ne_eqb other session (λ same. never (inl same))) ∙ rest (λ has. never (inr has))
    by Local never rest = rest never
    by Plain never rest = rest never

-- ---- a change of a journal

by-of-made : (how : By) (settings : List Setting) (one : Made) → Has (map (λ (setting : Setting). record { by = how; setting = setting }) settings) one → one.by ≡ how
by-of-made how [] one has = absurd has
by-of-made how (setting ∷ settings) one (inl is) = sym (ap (λ (m : Made). m.by) is)
by-of-made how (setting ∷ settings) one (inr has) = by-of-made how settings one has

-- a change of the journal that made what is shown
pub record MadeBy (journal : List Change) (one : Made) : Type 0 where
  pub change : Change
  pub among : Has journal change
  pub same : one.by ≡ change.by

pub made-by-change : (journal : List Change) (one : Made) → Has (flat_map made_by journal) one → MadeBy journal one
made-by-change journal one has =
    let there = shown_has made_by journal one has in
    record { change = there.by; among = there.among; same = by-of-made there.by.by there.by.settings one there.shows }

-- each session of settings is one of a change
pub session-in-journal : (journal : List Change) (session : ℕ) → Has (flat_map session_of (flat_map made_by journal)) session → Has (sessions_by journal) session
session-in-journal journal session has =
    let one = shown_has session_of (flat_map made_by journal) session has in
    let made_so = made-by-change journal one.by one.among in
    has_shown (λ (change : Change). by_session change.by) journal made_so.change session made_so.among (subst (λ (how : By). Has (by_session how) session) made_so.same one.shows)

none-if : (b : Bool) (none : List Setting) → none ≡ [] → none ≡ cond b none []
none-if true none is = refl
none-if false none is = is

pub all-by-change : (session : ℕ) (how : By) (settings : List Setting) → all_by session (map (λ (setting : Setting). record { by = how; setting = setting }) settings) ≡ cond (is_by session how) settings []
all-by-change session how [] = none-if (is_by session how) [] refl
all-by-change session how (setting ∷ settings) = by (is_by session how) (all-by-change session how settings)
  where
    by : (b : Bool) → all_by session (map (λ (one : Setting). record { by = how; setting = one }) settings) ≡ cond b settings []
        → cond b (setting ∷ []) [] ++ all_by session (map (λ (one : Setting). record { by = how; setting = one }) settings) ≡ cond b (setting ∷ settings) []
    by true same = ap (λ (l : List Setting). setting ∷ l) same
    by false same = same

-- the change that a session made
pub record ChangeBy (journal : List Change) (session : ℕ) : Type 0 where
  pub change : Change
  pub among : Has journal change
  pub by : change.by ≡ Session session
  pub settings : all_by session (flat_map made_by journal) ≡ change.settings

pub split-by : (session : ℕ) (change : Change) (journal : List Change) → all_by session (flat_map made_by (change ∷ journal)) ≡ cond (is_by session change.by) change.settings [] ++ all_by session (flat_map made_by journal)
split-by session change journal =
    flat_map-append (one_by session) (made_by change) (flat_map made_by journal)
    ∙ ap (λ (l : List Setting). l ++ all_by session (flat_map made_by journal)) (all-by-change session change.by change.settings)

pub change-by : (journal : List Change) (session : ℕ) → Rises (sessions_by journal) → Has (sessions_by journal) session → ChangeBy journal session
change-by [] session rises has = absurd has
change-by (change ∷ journal) session rises has = by change.by refl rises has (change-by journal session)
  where
    passed : (b : Bool) → is_by session change.by ≡ b → b ≡ false → ChangeBy journal session → ChangeBy (change ∷ journal) session
    passed b is other later = record {
      change = later.change;
      among = inr later.among;
      by = later.by;
      settings = split-by session change journal ∙ ap (λ (c : Bool). cond c change.settings [] ++ all_by session (flat_map made_by journal)) (is ∙ other) ∙ later.settings;
    }

    by : (how : By) → change.by ≡ how → Rises (by_session how ++ sessions_by journal) → Has (by_session how ++ sessions_by journal) session
        → (Rises (sessions_by journal) → Has (sessions_by journal) session → ChangeBy journal session) → ChangeBy (change ∷ journal) session
    by Local is rises has later = passed false (ap (is_by session) is) refl (later rises has)
    by Plain is rises has later = passed false (ap (is_by session) is) refl (later rises has)
    by (Session other) is rises (inl same) later =
        let here : is_by session change.by ≡ true = ap (is_by session) is ∙ eq-eqb other session same in
        let none : all_by session (flat_map made_by journal) ≡ [] =
        none-by session (flat_map made_by journal) (λ more.
        let above : other < session = all_has (λ number. other < number) (sessions_by journal) session rises.0 (session-in-journal journal session more) in omega (arith, above, same)) in
        record {
          change = change;
          among = inl refl;
          by = is ∙ ap Session same;
          settings =
              split-by session change journal ∙ ap₂ (λ (c : Bool) (l : List Setting). cond c change.settings [] ++ l) here none ∙ append-nil change.settings;
        }
    by (Session other) is rises (inr more) later =
        let above : other < session = all_has (λ number. other < number) (sessions_by journal) session rises.0 more in
        passed (eqb other session) (ap (is_by session) is) (ne_eqb other session (λ same. omega (arith, above, same))) (later rises.1 more)

-- the settings by the session of a change are those of the change
pub all-by-its : (journal : List Change) (session : ℕ) (change : Change) → Rises (sessions_by journal) → Has journal change → change.by ≡ Session session → all_by session (flat_map made_by journal) ≡ change.settings
all-by-its [] session change rises has is = absurd has
all-by-its (first ∷ journal) session change rises (inl same) is =
    let by_it : first.by ≡ Session session = ap (λ (c : Change). c.by) same ∙ is in
    let alone : Rises (session ∷ sessions_by journal) = subst (λ (how : By). Rises (by_session how ++ sessions_by journal)) by_it rises in
    let none : all_by session (flat_map made_by journal) ≡ [] =
    none-by session (flat_map made_by journal) (λ more.
    let above : session < session = all_has (λ number. session < number) (sessions_by journal) session alone.0 (session-in-journal journal session more) in omega (arith, above)) in
    split-by session first journal
    ∙ (ap₂ (λ (c : Bool) (l : List Setting). cond c first.settings [] ++ l) (ap (is_by session) by_it ∙ eq-eqb session session refl) none
    ∙ (append-nil first.settings ∙ ap (λ (c : Change). c.settings) same))
all-by-its (first ∷ journal) session change rises (inr later) is =
    split-by session first journal
    ∙ (ap (λ (c : Bool). cond c first.settings [] ++ all_by session (flat_map made_by journal)) (other first.by rises)
    ∙ all-by-its journal session change (rest first.by rises) later is)
  where
    among : Has (sessions_by journal) session
    among = has_shown (λ (c : Change). by_session c.by) journal change session later (subst (λ (how : By). Has (by_session how) session) (sym is) (inl refl))

    other : (how : By) → Rises (by_session how ++ sessions_by journal) → is_by session how ≡ false
    other (Session number) rises =
        let above : number < session = all_has (λ it. number < it) (sessions_by journal) session rises.0 among in ne_eqb number session (λ same. omega (arith, above, same))
    other Local rises = refl
    other Plain rises = refl

    rest : (how : By) → Rises (by_session how ++ sessions_by journal) → Rises (sessions_by journal)
    rest (Session number) rises = rises.1
    rest Local rises = rises
    rest Plain rises = rises

-- ---- the change that an entry begins

maker-itself : (maker : Maker) → is_maker (Some maker) maker ≡ true
maker-itself maker = and_from (eqb maker.node maker.node) (eqb maker.session maker.session) (eq-eqb maker.node maker.node refl) (eq-eqb maker.session maker.session refl)

pub is-that-maker : (o : Option Maker) (maker : Maker) → is_maker o maker ≡ false → o ≡ Some maker → ⊥
is-that-maker o maker other is = let same : true ≡ false = sym (maker-itself maker) ∙ (sym (ap (λ (p : Option Maker). is_maker p maker) is) ∙ other) in cc

-- an entry that shows a setting by a session of a node
pub entry-by : (node session : ℕ) (entry : Entry) (setting : Setting) → setting_by (record { node = node; session = session }) entry ≡ Some setting → entry ≡ Dev node (Session session) setting
entry-by node session (Dev at (Session number) setting) shown is = by (eqb at node) (eqb number session) refl refl is
  where
    by : (here same : Bool) → eqb at node ≡ here → eqb number session ≡ same → cond (here && same) (Some setting) None ≡ Some shown → Dev at (Session number) setting ≡ Dev node (Session session) shown
    by true true here same is =
        let one : setting ≡ shown = cc in
        ap₂ (λ (n s : ℕ). Dev n (Session s) setting) (eqb-true at node here) (eqb-true number session same) ∙ ap (λ (it : Setting). Dev node (Session session) it) one
    by true false here same is = absurd cc
    by false true here same is = absurd cc
    by false false here same is = absurd cc
entry-by node session (Dev at Local setting) shown is = absurd cc
entry-by node session (Dev at Plain setting) shown is = absurd cc
entry-by node session entry shown is = absurd cc

-- and one that shows none was not made by it
not-made : (maker : Maker) (entry : Entry) → setting_by maker entry ≡ None → maker_at entry ≡ Some maker → ⊥
not-made maker (Dev at by setting) none is =
    let some : setting_by maker (Dev at by setting) ≡ Some setting =
    ap (λ (b : Bool). cond b (Some setting) None) (ap (λ (o : Option Maker). is_maker o maker) is ∙ maker-itself maker) in
    let same : None ≡ Some setting = sym none ∙ some in cc
not-made maker entry none is = absurd cc

-- ---- settings that entries show

module _ (node session : ℕ) where
  abbrev maker : Maker
  maker = record { node = node; session = session }

  abbrev listed_setting : Option Setting → List Setting
  listed_setting None = []
  listed_setting (Some setting) = setting ∷ []

  shown-by : (entry : Entry) → all_by session (made_at node entry) ≡ listed_setting (setting_by maker entry)
  shown-by (Dev at (Session number) setting) = by (eqb at node)
    where
      one : (same : Bool) → cond same (setting ∷ []) [] ++ [] ≡ listed_setting (cond same (Some setting) None)
      one true = refl
      one false = refl

      by : (here : Bool) → all_by session (cond here (record { by = Session number; setting = setting } ∷ []) []) ≡ listed_setting (cond (here && eqb number session) (Some setting) None)
      by true = one (eqb number session)
      by false = refl
  shown-by (Dev at Local setting) = by (eqb at node)
    where
      by : (here : Bool) → all_by session (cond here (record { by = Local; setting = setting } ∷ []) []) ≡ []
      by true = refl
      by false = refl
  shown-by (Dev at Plain setting) = by (eqb at node)
    where
      by : (here : Bool) → all_by session (cond here (record { by = Plain; setting = setting } ∷ []) []) ≡ []
      by true = refl
      by false = refl
  shown-by entry = refl

  split-shown : (entry : Entry) (rest : List Entry) → all_by session (made node (entry ∷ rest)) ≡ listed_setting (setting_by maker entry) ++ all_by session (made node rest)
  split-shown entry rest =
      flat_map-append (one_by session) (made_at node entry) (made node rest) ∙ ap (λ (l : List Setting). l ++ all_by session (made node rest)) (shown-by entry)

  pub maker-one : (past : List Entry) (entry : Entry) → maker_last (past ++ (entry ∷ [])) ≡ maker_at entry
  maker-one past entry = folded-append maker_after None past (entry ∷ [])

  applied-on : (past more : List Entry) → Has (applied node past) session → Has (applied node (past ++ more)) session
  applied-on past more has =
      subst (λ (l : List Made). Has (flat_map session_of l) session) (sym (shown-append (made_at node) past more))
      (subst (λ (l : List ℕ). Has l session) (sym (flat_map-append session_of (made node past) (made node more))) (has_left (applied node past) (applied node more) session has))

  -- once the change is over, no more settings of it stand
  change-over : (past rest : List Entry) → (maker_last past ≡ Some maker → ⊥) → Has (applied node past) session → EachAfter MayFollow past rest → all_by session (made node rest) ≡ []
  change-over past [] apart has each = refl
  change-over past (entry ∷ rest) apart has each =
      by (setting_by maker entry) refl (λ other. change-over (past ++ (entry ∷ [])) rest other (applied-on past (entry ∷ []) has) each.1)
    where
      again : IsInTurn past node session → ⊥
      again turn = elim turn [
        | inl goes_on ↦ apart goes_on
        | inr below ↦ let low : session < session = all_has (λ other. other < session) (applied node past) session below has in omega (arith, low)
      ]

      by : (o : Option Setting) → setting_by maker entry ≡ o → ((maker_last (past ++ (entry ∷ [])) ≡ Some maker → ⊥) → all_by session (made node rest) ≡ []) → all_by session (made node (entry ∷ rest)) ≡ []
      by (Some setting) is later = absurd (again (subst (MayFollow past) (entry-by node session entry setting is) each.0))
      by None is later =
          split-shown entry rest
          ∙ ap₂ (λ (o : Option Setting) (l : List Setting). listed_setting o ++ l) is (later (λ last. not-made maker entry is (sym (maker-one past entry) ∙ last)))

  -- the settings that go on are all that follow by the session
  change-goes-on : (past rest : List Entry) → maker_last past ≡ Some maker → Has (applied node past) session → EachAfter MayFollow past rest → all_by session (made node rest) ≡ group_of maker rest
  change-goes-on past [] last has each = refl
  change-goes-on past (entry ∷ rest) last has each =
      by (setting_by maker entry) refl (λ again. change-goes-on (past ++ (entry ∷ [])) rest again (applied-on past (entry ∷ []) has) each.1)
      (λ other. change-over (past ++ (entry ∷ [])) rest other (applied-on past (entry ∷ []) has) each.1)
    where
      by : (o : Option Setting) → setting_by maker entry ≡ o → (maker_last (past ++ (entry ∷ [])) ≡ Some maker → all_by session (made node rest) ≡ group_of maker rest)
          → ((maker_last (past ++ (entry ∷ [])) ≡ Some maker → ⊥) → all_by session (made node rest) ≡ []) → all_by session (made node (entry ∷ rest)) ≡ with_setting (setting_by maker entry) (group_of maker rest)
      by (Some setting) is on over =
          split-shown entry rest
          ∙ ap₂ (λ (o : Option Setting) (l : List Setting). listed_setting o ++ l) is (on (maker-one past entry ∙ ap maker_at (entry-by node session entry setting is)))
          ∙ sym (ap (λ (o : Option Setting). with_setting o (group_of maker rest)) is)
      by None is on over =
          split-shown entry rest
          ∙ ap₂ (λ (o : Option Setting) (l : List Setting). listed_setting o ++ l) is (over (λ again. not-made maker entry is (sym (maker-one past entry) ∙ again)))
          ∙ sym (ap (λ (o : Option Setting). with_setting o (group_of maker rest)) is)

  -- the first setting of a change, and what goes on with it, are all settings by the session
  pub begins-change : (past : List Entry) (setting : Setting) (rest : List Entry) → AllByRecursion (λ other. other < session) (applied node past)
      → EachAfter MayFollow past (Dev node (Session session) setting ∷ rest) → all_by session (made node (past ++ Dev node (Session session) setting ∷ rest)) ≡ setting ∷ group_of maker rest
  begins-change past setting rest below each =
      let entry = Dev node (Session session) setting in
      let made_here : setting_by maker entry ≡ Some setting = ap (λ (b : Bool). cond b (Some setting) None) (maker-itself maker) in
      let first : all_by session (made node past) ≡ [] =
      none-by session (made node past) (λ has. let low : session < session = all_has (λ other. other < session) (applied node past) session below has in omega (arith, low)) in
      let here : Has (applied node (past ++ (entry ∷ []))) session =
      subst (λ (l : List Made). Has (flat_map session_of l) session) (sym (shown-append (made_at node) past (entry ∷ [])))
      (subst (λ (l : List ℕ). Has l session) (sym (flat_map-append session_of (made node past) (made node (entry ∷ []))))
      (has_right (applied node past) (applied node (entry ∷ [])) session (subst (λ (b : Bool). Has (flat_map session_of (cond b (record { by = Session session; setting = setting } ∷ []) [] ++ [])) session) (sym (eq-eqb node node refl)) (inl refl)))) in
      ap (all_by session) (shown-append (made_at node) past (entry ∷ rest))
      ∙ (flat_map-append (one_by session) (made node past) (made node (entry ∷ rest))
      ∙ (ap₂ (λ (a b : List Setting). a ++ b) first (split-shown entry rest)
      ∙ ap₂ (λ (o : Option Setting) (l : List Setting). listed_setting o ++ l) made_here (change-goes-on (past ++ (entry ∷ [])) rest (maker-one past entry) here each.1)))
