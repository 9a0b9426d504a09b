-- Tables of changes go with the transcript, and judge as the once-only rule does.
use Rattle.std.proofs.Common.{◌≡◌, ℕ, zero, suc, ◌<◌, max, cond, eqb, leb, not, Bool, true, false, List, [], ◌∷◌, ◌++◌, length, Option, Some, None, arith, ap, ap₂, refl, sym, subst, ◌∙◌, append-nil, ⊎_elim}
use Rattle.std.specs.Prelude.{◌||◌, ◌&&◌}
use Rattle.std.specs.List.{flat_map, list_any}
use Rattle.std.proofs.Math.ListN.{set}
use Rattle.std.proofs.Math.Bool.{or_comm}
use Rattle.std.proofs.lemmas.Grind.{flat_map-append}
use Rattle.std.proofs.lemmas.List.{append_assoc, get_or-set_same, get_or-set_other, length-set}
use Rattle.std.proofs.lemmas.List.Folds.{list_any-append}
use Rattle.std.proofs.lemmas.Bool.{false≢true, cases_eq, eq-eqb, ne_eqb}
use Rattle.std.proofs.lemmas.Bool.Decides.{leb_tells}
use Rattle.zw_base.specs.declared.property.Setting.{Setting}
use Rattle.zw_base.specs.declared.property.By.{By}
use Rattle.zw_base.specs.declared.property.By.TheVariants.{Session, Local, Plain}
use Rattle.zw_base.specs.declared.order.Order.{Order}
use Rattle.zw_text.specs.declared.line.Line.{Line}
use Rattle.zw_text.specs.declared.entry.Entry.{Entry}
use Rattle.zw_text.specs.declared.entry.Entry.TheVariants.{Dev, Out}
use Rattle.zw_text.specs.Fits.{EntryFits, IsNode}
use Rattle.zw_text.specs.Transcript.{Made, accepted, applied, by_session, endings, made, made_at, sessions}
use Rattle.audit_books.specs.declared.endings.Ending.{Ending}
use Rattle.audit_books.specs.declared.group.Maker.{Maker}
use Rattle.audit_books.specs.Accepting.{order_at, to_node}
use Rattle.audit_books.specs.Beginning.{command_at, sessions_of}
use Rattle.audit_books.specs.Changing.{Changing, breaks_by_session, breaks_dev, breaks_ending, breaks_setting, command_of, greatest_after, greatest_of, is_asked, is_command, none_yet}
use Rattle.audit_books.specs.Ending.{ending_in}
use Rattle.audit_books.specs.Groups.{is_maker, maker_at, maker_by}
use Rattle.audit_books.specs.OnceRule.{breaks_made, command_for, commands_changed, commands_changed_from, has_failed, is_changed, is_not_above, listed, maker_after, maker_last}
use Rattle.audit_books.specs.SessionRule.{order_among}
use Rattle.audit_books.specs.Keeping.{AreChangesOf, AreOf, ChangesBegin, ChangesGoOn, JudgesChanges, greatest_in}
use Rattle.audit_books.proofs.Views.{shown-more, folded-more, failed-is, length-same, or-false, same-at}

-- ---- judging

pub or-true : (a : Bool) → (a || true) ≡ true
or-true true = refl
or-true false = refl

le-max : (k n m : ℕ) → leb k (max n m) ≡ (leb k n || leb k m)
le-max k n m = grind (arith, leb_tells k n, leb_tells k m, leb_tells k (max n m))

none-below : (k : ℕ) → leb (suc k) 0 ≡ false
none-below k = grind (arith, leb_tells (suc k) 0)

-- a number from 1 on is below the greatest where it is below some
below-greatest : (k : ℕ) (l : List ℕ) → leb (suc k) (greatest_in l) ≡ list_any (λ other. leb (suc k) other) l
below-greatest k [] = none-below k
below-greatest k (n ∷ l) = le-max (suc k) n (greatest_in l) ∙ ap (λ b. leb (suc k) n || b) (below-greatest k l)

-- the rule by what it asks for; where there is no command it is broken in any case
alike : (zero_is g a b : Bool) (command : Option ℕ) (f h : ℕ → Bool) (o p : ℕ → Option Order) (made : List Setting) →
    (zero_is ≡ false → a ≡ b) → ((c : ℕ) → f c ≡ h c) → ((c : ℕ) → o c ≡ p c) →
    breaks_setting g a (cond zero_is None command) f o made ≡ breaks_setting g b (cond zero_is None command) h p made
alike true g a b command f h o p made above failed orders = ap (λ x. not g && x) (or-true a ∙ sym (or-true b))
alike false g a b None f h o p made above failed orders = ap (λ x. not g && (x || true)) (above refl)
alike false g a b (Some c) f h o p made above failed orders =
    ap₂ (λ x y. not g && (x || y)) (above refl) (ap₂ (λ x y. x || not (is_asked y made)) (failed c) (orders c))

above-alike : (session : ℕ) (l : List ℕ) (greatest : ℕ) → greatest ≡ greatest_in l → eqb session 0 ≡ false → leb session greatest ≡ list_any (λ other. leb session other) l
above-alike zero l greatest is e = absurd (false≢true (sym e))
above-alike (suc k) l greatest is e = ap (leb (suc k)) is ∙ below-greatest k l

judges-session : (line : Option Line) (orders : List (Option Order)) (kept : List (ℕ × Ending)) (nodes : List (List ℕ)) (changing : Changing) (past : List Entry) (node session : ℕ) (made : List Setting) →
    AreOf line orders kept nodes past → AreChangesOf changing past → node < 233 →
    breaks_by_session changing orders (ending_in kept) nodes (record { node = node; session = session }) made ≡ breaks_made past node (Session session) made
judges-session line orders kept nodes changing past node session made are changes within =
    let maker : Maker = record { node = node; session = session } in
    ap₂ (λ m begun. breaks_setting (is_maker m maker) (leb session (greatest_of changing.greatest node)) (command_at begun session)
    (λ c. (ending_in kept c).has_failed) (λ c. to_node node (order_at orders c)) made) changes.maker (are.sessions node within)
    ∙ alike (eqb session 0) (is_maker (maker_last past) maker) (leb session (greatest_of changing.greatest node)) (is_not_above past node session)
    _ (λ c. (ending_in kept c).has_failed) (has_failed past) (λ c. to_node node (order_at orders c)) (λ c. order_among c (accepted node past)) made
    (above-alike session (applied node past) (greatest_of changing.greatest node) (changes.greatest node within))
    (λ c. ap (λ e. e.has_failed) (are.endings c) ∙ failed-is (endings c past))
    (λ c. sym (are.orders node c))

judges-dev : (line : Option Line) (orders : List (Option Order)) (kept : List (ℕ × Ending)) (nodes : List (List ℕ)) (changing : Changing) (past : List Entry) (node : ℕ) (by : By) (made : List Setting) →
    AreOf line orders kept nodes past → AreChangesOf changing past → node < 233 →
    breaks_dev changing orders (ending_in kept) nodes node by made ≡ breaks_made past node by made
judges-dev line orders kept nodes changing past node (Session session) made are changes within =
    judges-session line orders kept nodes changing past node session made are changes within
judges-dev line orders kept nodes changing past node Local made are changes within = refl
judges-dev line orders kept nodes changing past node Plain made are changes within = refl

within-233 : (node : ℕ) → IsNode node → node < 233
within-233 node is = omega (arith, is.1)

pub judges-changes : JudgesChanges
judges-changes line orders kept nodes changing past (Dev node by setting) following are changes fits =
    judges-dev line orders kept nodes changing past node by (setting ∷ following) are changes (within-233 node fits.0)
judges-changes line orders kept nodes changing past (Out command ended) following are changes fits = ap (λ b. breaks_ending b ended) (changes.commands command)
judges-changes line orders kept nodes changing past other following are changes fits = refl

-- ---- the first tables

pub changes-begin : ChangesBegin
unfolding none_yet
changes-begin = record {
  places = length-same {A = ℕ} 0 233;
  greatest = λ node within. same-at {A = ℕ} 0 233 node;
  commands = λ command. refl;
  maker = refl;
}

-- ---- one entry more

places-after : (greatest : List ℕ) (maker : Option Maker) → length (greatest_after greatest maker) ≡ length greatest
places-after greatest None = refl
places-after greatest (Some maker) = length-set greatest maker.node (max (greatest_of greatest maker.node) maker.session)

applied-more : (n : ℕ) (past : List Entry) (entry : Entry) →
    applied n (past ++ (entry ∷ [])) ≡ applied n past ++ flat_map (λ (one : Made). by_session one.by) (made_at n entry)
applied-more n past entry =
    ap (flat_map (λ (one : Made). by_session one.by)) (shown-more (made_at n) past entry)
    ∙ flat_map-append (λ (one : Made). by_session one.by) (made n past) (made_at n entry)

max-more : (l : List ℕ) (n : ℕ) → max (greatest_in l) n ≡ greatest_in (l ++ (n ∷ []))
max-more [] n = omega arith
max-more (m ∷ l) n = omega (arith, max-more l n)

-- what a setting shows of the node that makes it, and of another
shows-session : (node session : ℕ) (setting : Setting) (b : Bool) →
    flat_map (λ (one : Made). by_session one.by) (cond b (record { by = Session session; setting = setting } ∷ []) []) ≡ cond b (session ∷ []) []
shows-session node session setting true = refl
shows-session node session setting false = refl

shows-none : (by : By) (setting : Setting) (b : Bool) → by_session by ≡ [] → flat_map (λ (one : Made). by_session one.by) (cond b (record { by = by; setting = setting } ∷ []) []) ≡ []
shows-none by setting true e = ap (λ l. l ++ []) e
shows-none by setting false e = refl

session-greatest : (greatest : List ℕ) (at n session : ℕ) (before : List ℕ) → at < length greatest → greatest_of greatest n ≡ greatest_in before →
    greatest_of (set greatest at (max (greatest_of greatest at) session)) n ≡ greatest_in (before ++ cond (eqb at n) (session ∷ []) [])
session-greatest greatest at n session before within is =
    ⊎_elim
    (λ (e : at ≡ n).
    ap (λ m. greatest_of (set greatest at (max (greatest_of greatest at) session)) m) (sym e)
    ∙ get_or-set_same greatest at (max (greatest_of greatest at) session) 0 within
    ∙ ap (λ m. max m session) (ap (greatest_of greatest) e ∙ is)
    ∙ max-more before session ∙ ap (λ b. greatest_in (before ++ cond b (session ∷ []) [])) (sym (eq-eqb at n e)))
    (λ (ne : at ≡ n → ⊥).
    get_or-set_other greatest at n (max (greatest_of greatest at) session) 0 (λ e. ne (sym e))
    ∙ is ∙ ap greatest_in (sym (append-nil before)) ∙ ap (λ b. greatest_in (before ++ cond b (session ∷ []) [])) (sym (ne_eqb at n ne)))
    (cases_eq at n)

dev-greatest : (greatest : List ℕ) (at n : ℕ) (by : By) (setting : Setting) (before : List ℕ) → at < length greatest → greatest_of greatest n ≡ greatest_in before →
    greatest_of (greatest_after greatest (maker_by at by)) n ≡ greatest_in (before ++ flat_map (λ (one : Made). by_session one.by) (made_at n (Dev at by setting)))
dev-greatest greatest at n (Session session) setting before within is =
    session-greatest greatest at n session before within is ∙ ap (λ l. greatest_in (before ++ l)) (sym (shows-session at session setting (eqb at n)))
dev-greatest greatest at n Local setting before within is =
    is ∙ ap greatest_in (sym (append-nil before)) ∙ ap (λ l. greatest_in (before ++ l)) (sym (shows-none Local setting (eqb at n) refl))
dev-greatest greatest at n Plain setting before within is =
    is ∙ ap greatest_in (sym (append-nil before)) ∙ ap (λ l. greatest_in (before ++ l)) (sym (shows-none Plain setting (eqb at n) refl))

greatest-more : (greatest : List ℕ) (n : ℕ) (before : List ℕ) (entry : Entry) → length greatest ≡ 233 → EntryFits entry → greatest_of greatest n ≡ greatest_in before →
    greatest_of (greatest_after greatest (maker_at entry)) n ≡ greatest_in (before ++ flat_map (λ (one : Made). by_session one.by) (made_at n entry))
greatest-more greatest n before (Dev at by setting) places fits is =
    dev-greatest greatest at n by setting before (omega (arith, places, fits.0.1)) is
greatest-more greatest n before other places fits is = is ∙ ap greatest_in (sym (append-nil before))

changed-more : (before xs : List Entry) (entry : Entry) →
    commands_changed_from before (xs ++ (entry ∷ [])) ≡ commands_changed_from before xs ++ command_for (before ++ xs) (maker_at entry)
changed-more before [] entry = append-nil (command_for before (maker_at entry)) ∙ ap (λ l. command_for l (maker_at entry)) (sym (append-nil before))
changed-more before (x ∷ xs) entry =
    ap (λ l. command_for before (maker_at x) ++ l) (changed-more (before ++ (x ∷ [])) xs entry)
    ∙ sym (append_assoc (command_for before (maker_at x)) (commands_changed_from (before ++ (x ∷ [])) xs) (command_for ((before ++ (x ∷ [])) ++ xs) (maker_at entry)))
    ∙ ap (λ l. (command_for before (maker_at x) ++ commands_changed_from (before ++ (x ∷ [])) xs) ++ command_for l (maker_at entry)) (append_assoc before (x ∷ []) xs)

one-command : (command : ℕ) (found : Option ℕ) → list_any (λ other. eqb other command) (listed found) ≡ is_command found command
one-command command None = refl
one-command command (Some other) = or-false (eqb other command)

maker-command : (nodes : List (List ℕ)) (past : List Entry) (command : ℕ) (maker : Option Maker) →
    ((m : Maker) → maker ≡ Some m → sessions_of nodes m.node ≡ sessions m.node past) →
    is_command (command_of nodes maker) command ≡ list_any (λ other. eqb other command) (command_for past maker)
maker-command nodes past command None are = refl
maker-command nodes past command (Some m) are =
    ap (λ begun. is_command (command_at begun m.session) command) (are m refl) ∙ sym (one-command command (command_at (sessions m.node past) m.session))

abbrev node_or : Option Maker → ℕ
node_or None = 0
node_or (Some maker) = maker.node

by-within : (node : ℕ) (by : By) → node < 233 → node_or (maker_by node by) < 233
by-within node (Session session) within = within
by-within node Local within = omega arith
by-within node Plain within = omega arith

entry-within : (entry : Entry) → EntryFits entry → node_or (maker_at entry) < 233
entry-within (Dev node by setting) fits = by-within node by (within-233 node fits.0)
entry-within other fits = omega arith

maker-within : (entry : Entry) (m : Maker) → EntryFits entry → maker_at entry ≡ Some m → m.node < 233
maker-within entry m fits is = subst (λ k. k < 233) (ap node_or is) (entry-within entry fits)

pub changes-go-on : ChangesGoOn
changes-go-on line orders kept nodes old new past entry are changes fits after = record {
  places = ap length after.greatest ∙ places-after old.greatest (maker_at entry) ∙ changes.places;
  greatest = λ node within.
      ap (λ g. greatest_of g node) after.greatest
      ∙ greatest-more old.greatest node (applied node past) entry changes.places fits (changes.greatest node within)
      ∙ ap greatest_in (sym (applied-more node past entry));
  commands = λ command.
      after.commands command
      ∙ ap₂ (λ x y. x || y)
      (maker-command nodes past command (maker_at entry) (λ m is. are.sessions m.node (maker-within entry m fits is))) (changes.commands command)
      ∙ or_comm (list_any (λ other. eqb other command) (command_for past (maker_at entry))) (is_changed past command)
      ∙ sym (list_any-append (λ other. eqb other command) (commands_changed past) (command_for past (maker_at entry)))
      ∙ ap (list_any (λ other. eqb other command)) (sym (changed-more [] past entry));
  maker = after.maker ∙ sym (folded-more maker_after None past entry);
}
