-- A transcript with the headline, whose changes stand in their turn, keeps the once-only rule.
use Rattle.std.proofs.Common.{◌≡◌, ◌⊎◌, ℕ, ◌%◌, ◌<◌, cond, eqb, leb, not, Bool, true, false, List, [], ◌∷◌, ◌++◌, Option, Some, None, inl, inr, refl, sym, ap, ap₂, subst, ◌∙◌, append_assoc, append-nil, true≢false}
use Rattle.std.specs.Prelude.{◌||◌, ◌&&◌, nat_le}
use Rattle.std.specs.List.{AllByRecursion, flat_map, list_any}
use Rattle.std.proofs.lemmas.Bool.{cases_Bool, eq-eqb, eqb-true, false_from_ne_true, lt-leb, or_from, or_left, or_right}
use Rattle.zw_base.specs.declared.order.Order.{Order}
use Rattle.zw_base.specs.declared.property.By.{By}
use Rattle.zw_base.specs.declared.property.By.TheVariants.{Local, Plain, Session}
use Rattle.zw_base.specs.declared.property.Setting.{Setting}
use Rattle.supervision.specs.Host.{command_at as command_in}
use Rattle.device_kinds.specs.Kind.{lists}
use Rattle.device_kinds.specs.declared.change.Change.{Change}
use Rattle.device_kinds.specs.declared.kind.Kind.{Kind}
use Rattle.device_kinds.specs.declared.kind.Kind.TheVariants.{Relay, Switch, Dimmer, Lock, Sensor, Thermostat, Strip, Configurable}
use Rattle.device_stack.specs.State.{State}
use Rattle.zw_text.specs.declared.entry.Ended.{Ended}
use Rattle.zw_text.specs.declared.entry.Ended.TheVariants as ended
use Rattle.zw_text.specs.declared.entry.Entry.{Entry}
use Rattle.zw_text.specs.declared.entry.Entry.TheVariants.{Dev, Out}
use Rattle.zw_text.specs.Transcript.{Command, Made, accepted, applied, by_session, ended_at, endings, made, made_at, outcome, outcome_of, sessions}
use Rattle.zw_text.proofs.Views.{shown-append}
use Rattle.law_transcript.specs.Commands.{numbers_of, settings_for}
use Rattle.law_transcript.specs.Devices.{made_by}
use Rattle.law_transcript.specs.Headline.{Headline}
use Rattle.law_transcript.specs.Lists.{EachAfter, Has, listed}
use Rattle.law_transcript.specs.Nodes.{device_of, is_supervised, listing_of, always}
use Rattle.law_transcript.specs.Once.{HasBegun, Once, IsShownApplied, IsUndone, MayEnd, carried_by, commands_applied, sessions_by}
use Rattle.law_transcript.proofs.Having.{all_has, has_either, has_left, has_right, has_shown, shown_has}
use Rattle.proof_headline.specs.proof_device.Showing.{AreApart, IsShown, NeverFalls}
use Rattle.proof_transcript.specs.Devices.{GroupsSessions}
use Rattle.proof_host.specs.Laws.{HostLaws, IsOver}
use Rattle.proof_host.proofs.Views.{outcome-ended}
use Rattle.audit_books.specs.Asking.{kind_at, same_settings, settings_asked}
use Rattle.audit_books.specs.Beginning.{command_at}
use Rattle.audit_books.specs.Changing.{breaks_command, breaks_ending, is_asked, is_relay}
use Rattle.audit_books.specs.Ending.{is_failure}
use Rattle.audit_books.specs.Groups.{group_of, is_maker, maker_at}
use Rattle.audit_books.specs.OnceRule.{breaks_made, breaks_once, command_for, commands_changed, commands_changed_from, has_failed, is_changed, is_not_above, listed as listed_command, maker_last}
use Rattle.audit_books.specs.SessionRule.{order_among}
use Rattle.proof_audit.specs.Books.{ArePieces, AreAsked, ChangesBegun, IsChangeOf, IsOfItsKind, MayChange}
use Rattle.proof_audit.specs.Whole.{EachKeepsOnce, following_of}
use Rattle.proof_audit.proofs.AskedSettings.{settings-are}
use Rattle.proof_audit.proofs.BegunCommands.{begun-given, command-begun, command-of, command-on, same-command, sessions-on}
use Rattle.proof_audit.proofs.Cutting.{Stands, each-cut, each-of-cuts, each-from, keeps-each-once, stands, stands-on}
use Rattle.proof_audit.proofs.GivenOrders.{accepted-grows, among-left}
use Rattle.proof_audit.proofs.OneChange.{IsInTurn, MayFollow, all_by, begins-change, change-by, is-that-maker, made-by-change, session-in-journal}
use Rattle.proof_audit.proofs.InTurn.{found-of, has-device, in-turn}
use Rattle.proof_audit.proofs.SameSettings.{settings-themselves}

-- ---- which commands have changed a device

any-has : (numbers : List ℕ) (number : ℕ) → Has numbers number → list_any (λ other. eqb other number) numbers ≡ true
any-has [] number has = absurd has
any-has (one ∷ numbers) number (inl same) = or_left (eqb one number) (list_any (λ other. eqb other number) numbers) (eq-eqb one number same)
any-has (one ∷ numbers) number (inr has) = or_right (eqb one number) (list_any (λ other. eqb other number) numbers) (any-has numbers number has)

has-any : (numbers : List ℕ) (number : ℕ) → list_any (λ other. eqb other number) numbers ≡ true → Has numbers number
has-any [] number is = absurd (true≢false (sym is))
has-any (one ∷ numbers) number is = by (eqb one number) refl is (has-any numbers number)
  where
    by : (b : Bool) → eqb one number ≡ b → (b || list_any (λ other. eqb other number) numbers) ≡ true → (list_any (λ other. eqb other number) numbers ≡ true → Has numbers number) → Has (one ∷ numbers) number
    by true same is later = inl (eqb-true one number same)
    by false same is later = inr (later is)

-- an entry after which a command has changed a device
record Changes (start entries : List Entry) (command : ℕ) : Type 0 where
  pub before : List Entry
  pub entry : Entry
  pub later : List Entry
  pub is : entries ≡ before ++ entry ∷ later
  pub has : Has (command_for (start ++ before) (maker_at entry)) command

changed-at : (start entries : List Entry) (command : ℕ) → Has (commands_changed_from start entries) command → Changes start entries command
changed-at start [] command has = absurd has
changed-at start (entry ∷ entries) command has =
    by (has_either (command_for start (maker_at entry)) (commands_changed_from (start ++ (entry ∷ [])) entries) command has) (changed-at (start ++ (entry ∷ [])) entries command)
  where
    by : Has (command_for start (maker_at entry)) command ⊎ Has (commands_changed_from (start ++ (entry ∷ [])) entries) command
        → (Has (commands_changed_from (start ++ (entry ∷ [])) entries) command → Changes (start ++ (entry ∷ [])) entries command) → Changes start (entry ∷ entries) command
    by (inl here) next = record {
      before = [];
      entry = entry;
      later = entries;
      is = refl;
      has = subst (λ (l : List Entry). Has (command_for l (maker_at entry)) command) (sym (append-nil start)) here;
    }
    by (inr there) next =
        let one = next there in
        record {
          before = entry ∷ one.before;
          entry = one.entry;
          later = one.later;
          is = ap (λ (l : List Entry). entry ∷ l) one.is;
          has = subst (λ (l : List Entry). Has (command_for l (maker_at one.entry)) command) (append_assoc start (entry ∷ []) one.before) one.has;
        }

changes-at : (start before : List Entry) (entry : Entry) (later : List Entry) (command : ℕ) → Has (command_for (start ++ before) (maker_at entry)) command
    → Has (commands_changed_from start (before ++ entry ∷ later)) command
changes-at start [] entry later command has =
    has_left (command_for start (maker_at entry)) (commands_changed_from (start ++ (entry ∷ [])) later) command (subst (λ (l : List Entry). Has (command_for l (maker_at entry)) command) (append-nil start) has)
changes-at start (first ∷ before) entry later command has =
    has_right (command_for start (maker_at first)) (commands_changed_from (start ++ (first ∷ [])) (before ++ entry ∷ later)) command
    (changes-at (start ++ (first ∷ [])) before entry later command (subst (λ (l : List Entry). Has (command_for l (maker_at entry)) command) (sym (append_assoc start (first ∷ []) before)) has))

-- what the maker of a setting tells of the entry
record IsDev (entry : Entry) (node session : ℕ) : Type 0 where
  pub setting : Setting
  pub is : entry ≡ Dev node (Session session) setting

record HasCommand (past : List Entry) (entry : Entry) (command : ℕ) : Type 0 where
  pub node : ℕ
  pub session : ℕ
  pub dev : IsDev entry node session
  pub begun : command_at (sessions node past) session ≡ Some command

listed-is : (o : Option ℕ) (command : ℕ) → Has (listed_command o) command → o ≡ Some command
listed-is None command has = absurd has
listed-is (Some one) command (inl same) = ap Some same
listed-is (Some one) command (inr none) = absurd none

has-command : (past : List Entry) (entry : Entry) (command : ℕ) → Has (command_for past (maker_at entry)) command → HasCommand past entry command
has-command past (Dev node (Session session) setting) command has =
    record { node = node; session = session; dev = record { setting = setting; is = refl }; begun = listed-is (command_at (sessions node past) session) command has }
has-command past (Dev node Local setting) command has = absurd has
has-command past (Dev node Plain setting) command has = absurd has
has-command past entry command has = absurd has

some-listed : (o : Option ℕ) (command : ℕ) → o ≡ Some command → Has (listed_command o) command
some-listed None command is = absurd cc
some-listed (Some one) command is = let same : one ≡ command = cc in inl same

-- ---- devices

pub record IsFound (P : State → Type 0) (node : ℕ) (device : State) : Type 0 where
  pub so : P device
  pub of_node : device.node ≡ node

pub found-so : (P : State → Type 0) (devices : List State) (node : ℕ) (device : State) → AllByRecursion P devices → device_of node devices ≡ Some device → IsFound P node device
found-so P [] node device all is = absurd cc
found-so P (first ∷ devices) node device all is = by (eqb first.node node) refl is (found-so P devices node device all.1)
  where
    by : (b : Bool) → eqb first.node node ≡ b → cond b (Some first) (device_of node devices) ≡ Some device → (device_of node devices ≡ Some device → IsFound P node device) → IsFound P node device
    by true same is next =
        let one : first ≡ device = cc in
        record { so = subst P one all.0; of_node = ap (λ (d : State). d.node) (sym one) ∙ eqb-true first.node node same }
    by false same is next = next is

-- a node that is no relay's by its number has a device that takes commands in sessions
supervised-kind : (b0 b1 b2 b3 b4 b5 b6 : Bool) → b1 ≡ false
    → lists (cond b0 Configurable (cond b1 Relay (cond b2 Switch (cond b3 Dimmer (cond b4 Lock (cond b5 Sensor (cond b6 Thermostat Strip))))))) 0x6C ≡ true
supervised-kind true b1 b2 b3 b4 b5 b6 none = refl
supervised-kind false true b2 b3 b4 b5 b6 none = absurd (true≢false none)
supervised-kind false false true b3 b4 b5 b6 none = refl
supervised-kind false false false true b4 b5 b6 none = refl
supervised-kind false false false false true b5 b6 none = refl
supervised-kind false false false false false true b6 none = refl
supervised-kind false false false false false false true none = refl
supervised-kind false false false false false false false none = refl

no-relay : (node : ℕ) → is_relay node ≡ false → lists (kind_at node) 0x6C ≡ true
no-relay node none =
    let left = node % 8 in supervised-kind (eqb left 0) (eqb left 1) (eqb left 2) (eqb left 3) (eqb left 4) (eqb left 5) (eqb left 6) none

-- what a journal tells of an entry by a session
dev-made : (node : ℕ) (by : By) (setting : Setting) → Has (made_at node (Dev node by setting)) (record { by = by; setting = setting })
dev-made node by setting =
    let one : Made = record { by = by; setting = setting } in subst (λ (b : Bool). Has (cond b (one ∷ []) []) one) (sym (eq-eqb node node refl)) (inl refl)

has-number : (P : ℕ → Type 0) (commands : List Command) (number : ℕ) → AllByRecursion (λ (one : Command). P one.number) commands → Has (numbers_of commands) number → P number
has-number P [] number all has = absurd has
has-number P (one ∷ commands) number all (inl same) = subst P same all.0
has-number P (one ∷ commands) number all (inr has) = has-number P commands number all.1 has

-- ---- the rule

-- a command that is over has its outcome for good
abbrev pub Stays : Type 0
Stays = (past more : List Entry) (number : ℕ) → HostLaws (past ++ more) → IsOver (outcome number past) → outcome number (past ++ more) ≡ outcome number past

module _ (over_stays : Stays) (before after : List State) (transcript : List Entry) (laws : HostLaws transcript) (asked : AreAsked (listing_of before) transcript) (headline : Headline before after transcript)
    (shown : AllByRecursion (IsShown transcript) after) (groups : AllByRecursion (GroupsSessions transcript) after) (apart : AreApart after) (kinds : AllByRecursion IsOfItsKind after)
    (whole : ArePieces after transcript) (begun : ChangesBegun transcript) where
  abbrev listing : ℕ → List ℕ
  listing = listing_of before

  -- ---- an entry of the run

  begun-at : (past : List Entry) (node session : ℕ) (setting : Setting) (rest : List Entry) → transcript ≡ past ++ Dev node (Session session) setting ∷ rest → HasBegun node past session
  begun-at past node session setting rest is = each-cut MayChange transcript past (Dev node (Session session) setting) rest is begun

  made-shown : (past : List Entry) (node : ℕ) (by : By) (setting : Setting) (rest : List Entry) → transcript ≡ past ++ Dev node by setting ∷ rest → Has (made node transcript) (record { by = by; setting = setting })
  made-shown past node by setting rest is =
      has_shown (made_at node) transcript (Dev node by setting) (record { by = by; setting = setting })
      (subst (λ (l : List Entry). Has l (Dev node by setting)) (sym is) (has_right past (Dev node by setting ∷ rest) (Dev node by setting) (inl refl))) (dev-made node by setting)

  -- the headline of the device of a session's change
  record Told (node session : ℕ) : Type 0 where
    pub device : State
    pub found : device_of node after ≡ Some device
    pub once : Once (always listing) node transcript device.journal
    pub journal : made node transcript ≡ flat_map made_by device.journal
    pub done : Has (sessions_by device.journal) session

  told : (past : List Entry) (node session : ℕ) (setting : Setting) (rest : List Entry) → transcript ≡ past ++ Dev node (Session session) setting ∷ rest → Told node session
  told past node session setting rest is =
      let there_is = has-device after past node (Session session) setting rest transcript apart whole is in
      let device = there_is.device in
      let found = there_is.found in
      let begins = begun-at past node session setting rest is in
      let first = command-of (sessions node past) session begins.0 begins.1 in
      let given = begun-given listing transcript laws asked past (Dev node (Session session) setting ∷ rest) node first.command is (command-begun (sessions node past) session first.command first.is) in
      let kind = found-so IsOfItsKind after node device kinds found in
      let knows : is_supervised device ≡ true = ap (λ (k : Kind). lists k 0x6C) (kind.so ∙ ap kind_at kind.of_node) ∙ given.asked.takes in
      let one = found-so (IsShown transcript) after node device shown found in
      let journal : made node transcript ≡ flat_map made_by device.journal = subst (λ (n : ℕ). made n transcript ≡ flat_map made_by device.journal) one.of_node one.so in
      let there : Has (applied node transcript) session =
      has_shown (λ (m : Made). by_session m.by) (made node transcript) (record { by = Session session; setting = setting }) session (made-shown past node (Session session) setting rest is) (inl refl) in
      record {
        device = device;
        found = found;
        once = (headline.devices node device found knows).once;
        journal = journal;
        done = session-in-journal device.journal session (subst (λ (l : List Made). Has (flat_map (λ (m : Made). by_session m.by) l) session) journal there);
      }

  -- the setting stands in its turn
  turn : (past : List Entry) (node session : ℕ) (setting : Setting) (rest : List Entry) → transcript ≡ past ++ Dev node (Session session) setting ∷ rest → IsInTurn past node session
  turn past node session setting rest is =
      let it = told past node session setting rest is in
      let group = found-so (GroupsSessions transcript) after node it.device groups it.found in
      in-turn after transcript whole node session it.device it.journal it.once.changes.sessions_rise (subst (λ (n : ℕ). NeverFalls (applied n transcript)) group.of_node group.so)
      (λ change of. of_device it change of) past setting rest is
    where
      of_device : (it : Told node session) (change : Change) → IsChangeOf after node change → Has it.device.journal change
      of_device it change of =
          let found : device_of node after ≡ Some of.device = subst (λ (n : ℕ). device_of n after ≡ Some of.device) of.of_node (found-of after of.device apart of.among) in
          let both : Some of.device ≡ Some it.device = sym found ∙ it.found in
          let same : of.device ≡ it.device = cc in
          subst (λ (d : State). Has d.journal change) same of.made

  follow : EachAfter MayFollow [] transcript
  follow = each-of-cuts MayFollow [] transcript one
    where
      one : (past : List Entry) (entry : Entry) (rest : List Entry) → transcript ≡ past ++ entry ∷ rest → MayFollow past entry
      one past (Dev node (Session session) setting) rest is = turn past node session setting rest is
      one past (Dev node Local setting) rest is = tt
      one past (Dev node Plain setting) rest is = tt
      one past entry rest is = tt

  -- a command whose session has changed a device was done
  applied-so : (past : List Entry) (node session : ℕ) (setting : Setting) (rest : List Entry) (command : ℕ) → transcript ≡ past ++ Dev node (Session session) setting ∷ rest
      → command_at (sessions node past) session ≡ Some command → IsUndone (outcome command transcript) → ⊥
  applied-so past node session setting rest command is begun undone =
      let it = told past node session setting rest is in
      let entry : Entry = Dev node (Session session) setting in
      let begun_then : command_at (sessions node transcript) session ≡ Some command =
      ap (λ (l : List ℕ). command_at l session) (sessions-on listing transcript laws asked past (entry ∷ rest) node is) ∙ command-on (sessions node past) (sessions node (entry ∷ rest)) session command begun in
      let applied_there : Has (commands_applied node transcript it.device.journal) command =
      has_shown (λ (number : ℕ). listed (command_in (sessions node transcript) number)) (sessions_by it.device.journal) session command it.done
      (in_listed (command_in (sessions node transcript) session) (same-command (sessions node transcript) session ∙ begun_then)) in
      let number = all_has (Has (numbers_of (accepted node transcript))) (sessions node transcript) command it.once.carries.commands_accepted (command-begun (sessions node transcript) session command begun_then) in
      has-number (λ number. IsUndone (outcome number transcript) → Has (commands_applied node transcript it.device.journal) number → ⊥) (accepted node transcript) command it.once.ends.undone number undone applied_there
    where
      in_listed : (o : Option ℕ) → o ≡ Some command → Has (listed o) command
      in_listed None is = absurd cc
      in_listed (Some one) is = let same : one ≡ command = cc in inl same

  -- a command that is over has that outcome in the end
  ended-so : (past : List Entry) (command : ℕ) (how : Ended) (rest : List Entry) → transcript ≡ past ++ Out command how ∷ rest → IsOver (outcome_of how) → outcome command transcript ≡ outcome_of how
  ended-so past command how rest is over =
      let whole : transcript ≡ (past ++ (Out command how ∷ [])) ++ rest = is ∙ sym (append_assoc past (Out command how ∷ []) rest) in
      let now : outcome command (past ++ (Out command how ∷ [])) ≡ outcome_of how = outcome-ended past command how [] tt in
      ap (outcome command) whole
      ∙ (over_stays (past ++ (Out command how ∷ [])) rest command (subst HostLaws whole laws) (subst IsOver (sym now) over) ∙ now)

  -- ---- endings

  not-changed : (past : List Entry) (command : ℕ) (how : Ended) (rest : List Entry) → transcript ≡ past ++ Out command how ∷ rest → IsOver (outcome_of how) → IsUndone (outcome_of how)
      → is_changed past command ≡ false
  not-changed past command how rest is over undone = false_from_ne_true (is_changed past command) (λ changed.
      let at = changed-at [] past command (has-any (commands_changed past) command changed) in
      let one = has-command at.before at.entry command at.has in
      let cut = stands-on transcript past (Out command how ∷ rest) at.before at.later at.entry is at.is in
      applied-so at.before one.node one.session one.dev.setting (at.later ++ (Out command how ∷ rest)) command
      (cut ∙ ap (λ (e : Entry). at.before ++ e ∷ (at.later ++ (Out command how ∷ rest))) one.dev.is) one.begun
      (subst IsUndone (sym (ended-so past command how rest is over)) undone))

  -- a setting by a session among those shown
  record ShownBy (past : List Entry) (node session : ℕ) : Type 0 where
    pub setting : Setting
    pub there : Stands past (Dev node (Session session) setting)

  shown-by-session : (past : List Entry) (node session : ℕ) → Has (applied node past) session → ShownBy past node session
  shown-by-session past node session has =
      let one = shown_has (λ (m : Made). by_session m.by) (made node past) session has in
      let there = shown_has (made_at node) past one.by one.among in
      let is : there.by ≡ Dev node (Session session) one.by.setting = made-entry there.by one.by there.shows ∙ ap (λ (how : By). Dev node how one.by.setting) (by-session one.by.by one.shows) in
      record { setting = one.by.setting; there = stands past (Dev node (Session session) one.by.setting) (subst (λ (e : Entry). Has past e) is there.among) }
    where
      by-session : (how : By) → Has (by_session how) session → how ≡ Session session
      by-session (Session other) (inl same) = ap Session same
      by-session (Session other) (inr none) = absurd none
      by-session Local has = absurd has
      by-session Plain has = absurd has

      made-entry : (entry : Entry) (one : Made) → Has (made_at node entry) one → entry ≡ Dev node one.by one.setting
      made-entry (Dev at how setting) one has = by (eqb at node) refl has
        where
          by : (b : Bool) → eqb at node ≡ b → Has (cond b (record { by = how; setting = setting } ∷ []) []) one → Dev at how setting ≡ Dev node one.by one.setting
          by true same (inl is) = ap (λ (n : ℕ). Dev n how setting) (eqb-true at node same) ∙ ap (λ (m : Made). Dev node m.by m.setting) is
          by true same (inr none) = absurd none
          by false same has = absurd has
      made-entry entry one has = absurd has

  success-changed : (past : List Entry) (command : ℕ) (rest : List Entry) → transcript ≡ past ++ Out command ended.Success ∷ rest → is_changed past command ≡ true
  success-changed past command rest is =
      let applied_one : IsShownApplied past command = each-cut MayEnd transcript past (Out command ended.Success) rest is headline.succeeds in
      let node = applied_one.node in
      let one = shown_has (λ (session : ℕ). listed (command_in (sessions node past) session)) (applied node past) command applied_one.shown in
      let session = one.by in
      let there = shown-by-session past node session one.among in
      let entry : Entry = Dev node (Session session) there.setting in
      let cut = stands-on transcript past (Out command ended.Success ∷ rest) there.there.before there.there.later entry is there.there.is in
      let begins = begun-at there.there.before node session there.setting (there.there.later ++ (Out command ended.Success ∷ rest)) cut in
      let first = command-of (sessions node there.there.before) session begins.0 begins.1 in
      let now : command_at (sessions node past) session ≡ Some first.command =
      ap (λ (l : List ℕ). command_at l session) (ap (sessions node) there.there.is ∙ shown-append _ there.there.before (entry ∷ there.there.later))
      ∙ command-on (sessions node there.there.before) (sessions node (entry ∷ there.there.later)) session first.command first.is in
      let same : Some first.command ≡ Some command =
      sym now ∙ (sym (same-command (sessions node past) session) ∙ out_listed (command_in (sessions node past) session) one.shows) in
      any-has (commands_changed past) command
      (subst (λ (l : List Entry). Has (commands_changed l) command) (sym there.there.is)
      (changes-at [] there.there.before entry there.there.later command (some-listed (command_at (sessions node there.there.before) session) command (first.is ∙ same))))
    where
      out_listed : (o : Option ℕ) → Has (listed o) command → o ≡ Some command
      out_listed None has = absurd has
      out_listed (Some one) (inl same) = ap Some same
      out_listed (Some one) (inr none) = absurd none

  ending-keeps : (past : List Entry) (command : ℕ) (how : Ended) (rest : List Entry) → transcript ≡ past ++ Out command how ∷ rest → breaks_ending (is_changed past command) how ≡ false
  ending-keeps past command ended.Success rest is = ap not (success-changed past command rest is)
  ending-keeps past command ended.Fail rest is = not-changed past command ended.Fail rest is tt tt
  ending-keeps past command ended.NoSupport rest is = not-changed past command ended.NoSupport rest is tt tt
  ending-keeps past command ended.Unanswered rest is = refl
  ending-keeps past command ended.Cancelled rest is = not-changed past command ended.Cancelled rest is tt tt

  -- ---- settings by a session

  -- a failure among endings
  record Fails (all : List Ended) : Type 0 where
    pub how : Ended
    pub among : Has all how
    pub fails : is_failure how ≡ true

  fails-of : (all : List Ended) → list_any is_failure all ≡ true → Fails all
  fails-of [] is = absurd (true≢false (sym is))
  fails-of (one ∷ all) is = by (is_failure one) refl is (fails-of all)
    where
      by : (b : Bool) → is_failure one ≡ b → (b || list_any is_failure all) ≡ true → (list_any is_failure all ≡ true → Fails all) → Fails (one ∷ all)
      by true fails is later = record { how = one; among = inl refl; fails = fails }
      by false fails is later = let there = later is in record { how = there.how; among = inr there.among; fails = there.fails }

  failure-over : (how : Ended) → is_failure how ≡ true → IsOver (outcome_of how) × IsUndone (outcome_of how)
  failure-over ended.Success fails = absurd (true≢false (sym fails))
  failure-over ended.Fail fails = (tt, tt)
  failure-over ended.NoSupport fails = (tt, tt)
  failure-over ended.Unanswered fails = absurd (true≢false (sym fails))
  failure-over ended.Cancelled fails = absurd (true≢false (sym fails))

  out-entry : (command : ℕ) (how : Ended) (entry : Entry) → Has (ended_at command entry) how → entry ≡ Out command how
  out-entry command how (Out number one) has = by (eqb number command) refl has
    where
      by : (b : Bool) → eqb number command ≡ b → Has (cond b (one ∷ []) []) how → Out number one ≡ Out command how
      by true same (inl is) = ap₂ (λ (n : ℕ) (e : Ended). Out n e) (eqb-true number command same) is
      by true same (inr none) = absurd none
      by false same has = absurd has
  out-entry command how entry has = absurd has

  not-failed : (past : List Entry) (node session : ℕ) (setting : Setting) (rest : List Entry) (command : ℕ) → transcript ≡ past ++ Dev node (Session session) setting ∷ rest
      → command_at (sessions node past) session ≡ Some command → has_failed past command ≡ false
  not-failed past node session setting rest command is begun = false_from_ne_true (has_failed past command) (λ failed.
      let one = fails-of (endings command past) failed in
      let there = shown_has (ended_at command) past one.how one.among in
      let at = stands past (Out command one.how) (subst (λ (e : Entry). Has past e) (out-entry command one.how there.by there.shows) there.among) in
      let cut = stands-on transcript past (Dev node (Session session) setting ∷ rest) at.before at.later (Out command one.how) is at.is in
      let so = failure-over one.how one.fails in
      applied-so past node session setting rest command is begun
      (subst IsUndone (sym (ended-so at.before command one.how (at.later ++ (Dev node (Session session) setting ∷ rest)) cut so.0)) so.1))

  -- the settings of the change are those that the command asks for
  asks-that : (past : List Entry) (node session : ℕ) (setting : Setting) (rest : List Entry) (command : ℕ) → transcript ≡ past ++ Dev node (Session session) setting ∷ rest
      → command_at (sessions node past) session ≡ Some command → AllByRecursion (λ other. other < session) (applied node past)
      → is_asked (order_among command (accepted node past)) (setting ∷ group_of (record { node = node; session = session }) rest) ≡ true
  asks-that past node session setting rest command is begun below =
      let entry : Entry = Dev node (Session session) setting in
      let made_all = setting ∷ group_of (record { node = node; session = session }) rest in
      let it = told past node session setting rest is in
      let change = change-by it.device.journal session it.once.changes.sessions_rise it.done in
      let begun_then : command_at (sessions node transcript) session ≡ Some command =
      ap (λ (l : List ℕ). command_at l session) (sessions-on listing transcript laws asked past (entry ∷ rest) node is) ∙ command-on (sessions node past) (sessions node (entry ∷ rest)) session command begun in
      let given = begun-given listing transcript laws asked past (entry ∷ rest) node command is (command-begun (sessions node past) session command begun) in
      let given_then = begun-given listing transcript laws asked transcript [] node command (sym (append-nil transcript)) (command-begun (sessions node transcript) session command begun_then) in
      let made_is : made_all ≡ change.change.settings =
      sym (ap (λ (l : List Entry). all_by session (made node l)) is ∙ begins-change node session past setting rest below (each-from MayFollow transcript past (entry ∷ rest) is follow))
      ∙ (ap (all_by session) it.journal ∙ change.settings) in
      let carried : Has (carried_by (sessions node transcript) (by_session change.change.by)) command =
      subst (λ (how : By). Has (carried_by (sessions node transcript) (by_session how)) command) (sym change.by)
      (in_carried (command_in (sessions node transcript) session) (same-command (sessions node transcript) session ∙ begun_then)) in
      let asks : change.change.settings ≡ settings_for (always listing) transcript node command =
      all_has (λ number. change.change.settings ≡ settings_for (always listing) transcript node number) (carried_by (sessions node transcript) (by_session change.change.by)) command
      (all_has (λ (one : Change). AllByRecursion (λ number. one.settings ≡ settings_for (always listing) transcript node number) (carried_by (sessions node transcript) (by_session one.by))) it.device.journal change.change
      it.once.changes.settings change.among) carried in
      let later : order_among command (accepted node transcript) ≡ Some given.asked.order =
      ap (λ (l : List Entry). order_among command (accepted node l)) is
      ∙ (ap (order_among command) (accepted-grows node past (entry ∷ rest)) ∙ among-left command (accepted node past) _ given.asked.order given.among) in
      let orders : Some given_then.asked.order ≡ Some given.asked.order = sym given_then.among ∙ later in
      let same : given_then.asked.order ≡ given.asked.order = cc in
      let all : made_all ≡ settings_asked given.asked.order = made_is ∙ (asks ∙ (settings-are listing transcript command node laws.accepts given_then ∙ ap settings_asked same)) in
      ap (λ (o : Option Order). is_asked o made_all) given.among
      ∙ (ap (λ (l : List Setting). same_settings (settings_asked given.asked.order) l) all ∙ settings-themselves (settings_asked given.asked.order))
    where
      in_carried : (o : Option ℕ) → o ≡ Some command → Has (listed o ++ []) command
      in_carried None is = absurd cc
      in_carried (Some one) is = let same : one ≡ command = cc in inl same

  none-above : (numbers : List ℕ) (session : ℕ) → AllByRecursion (λ other. other < session) numbers → list_any (λ other. nat_le session other) numbers ≡ false
  none-above [] session below = refl
  none-above (one ∷ numbers) session below = or_from (leb session one) (list_any (λ other. leb session other) numbers) (lt-leb session one below.0) (none-above numbers session below.1)

  session-keeps : (past : List Entry) (node session : ℕ) (setting : Setting) (rest : List Entry) → transcript ≡ past ++ Dev node (Session session) setting ∷ rest
      → breaks_made past node (Session session) (setting ∷ group_of (record { node = node; session = session }) rest) ≡ false
  session-keeps past node session setting rest is = elim (cases_Bool (is_maker (maker_last past) (record { node = node; session = session }))) [
    | inl goes_on ↦ ap (λ (b : Bool). not b && (is_not_above past node session || breaks_command (command_at (sessions node past) session) (has_failed past) (λ command. order_among command (accepted node past)) (setting ∷ group_of (record { node = node; session = session }) rest))) goes_on
    | inr begins ↦ ap (λ (b : Bool). not b && (is_not_above past node session || breaks_command (command_at (sessions node past) session) (has_failed past) (λ command. order_among command (accepted node past)) (setting ∷ group_of (record { node = node; session = session }) rest))) begins ∙ first_of_all begins
  ]
    where
      below : is_maker (maker_last past) (record { node = node; session = session }) ≡ false → AllByRecursion (λ other. other < session) (applied node past)
      below begins = elim (turn past node session setting rest is) [
        | inl goes_on ↦ absurd (is-that-maker (maker_last past) (record { node = node; session = session }) begins goes_on)
        | inr all ↦ all
      ]

      first_of_all : is_maker (maker_last past) (record { node = node; session = session }) ≡ false
          → (is_not_above past node session || breaks_command (command_at (sessions node past) session) (has_failed past) (λ command. order_among command (accepted node past)) (setting ∷ group_of (record { node = node; session = session }) rest)) ≡ false
      first_of_all begins =
          let begins_then = begun-at past node session setting rest is in
          let first = command-of (sessions node past) session begins_then.0 begins_then.1 in
          let all = setting ∷ group_of (record { node = node; session = session }) rest in
          or_from (is_not_above past node session) (breaks_command (command_at (sessions node past) session) (has_failed past) (λ command. order_among command (accepted node past)) all)
          (none-above (applied node past) session (below begins))
          (ap (λ (o : Option ℕ). breaks_command o (has_failed past) (λ command. order_among command (accepted node past)) all) first.is
          ∙ or_from (has_failed past first.command) (not (is_asked (order_among first.command (accepted node past)) all))
          (not-failed past node session setting rest first.command is first.is)
          (ap not (asks-that past node session setting rest first.command is first.is (below begins))))

  -- ---- settings without a session

  plain-keeps : (past : List Entry) (node : ℕ) (setting : Setting) (rest : List Entry) → transcript ≡ past ++ Dev node Plain setting ∷ rest → not (is_relay node) ≡ false
  plain-keeps past node setting rest is = elim (cases_Bool (is_relay node)) [
    | inl relay ↦ ap not relay
    | inr other ↦ absurd (never other)
  ]
    where
      never : is_relay node ≡ false → ⊥
      never other =
          let there_is = has-device after past node Plain setting rest transcript apart whole is in
          let device = there_is.device in
          let found = there_is.found in
          let kind = found-so IsOfItsKind after node device kinds found in
          let knows : is_supervised device ≡ true = ap (λ (k : Kind). lists k 0x6C) (kind.so ∙ ap kind_at kind.of_node) ∙ no-relay node other in
          let one = found-so (IsShown transcript) after node device shown found in
          let journal : made node transcript ≡ flat_map made_by device.journal = subst (λ (n : ℕ). made n transcript ≡ flat_map made_by device.journal) one.of_node one.so in
          let change = made-by-change device.journal (record { by = Plain; setting = setting })
          (subst (λ (l : List Made). Has l (record { by = Plain; setting = setting })) journal (made-shown past node Plain setting rest is)) in
          all_has (λ (c : Change). c.by ≡ Plain → ⊥) device.journal change.change (headline.devices node device found knows).once.changes.never_plain change.among (sym change.same)

  -- ---- each entry

  entry-keeps : (past : List Entry) (entry : Entry) (rest : List Entry) → transcript ≡ past ++ entry ∷ rest → breaks_once past entry (following_of entry rest) ≡ false
  entry-keeps past (Dev node (Session session) setting) rest is = session-keeps past node session setting rest is
  entry-keeps past (Dev node Local setting) rest is = refl
  entry-keeps past (Dev node Plain setting) rest is = plain-keeps past node setting rest is
  entry-keeps past (Out command how) rest is = ending-keeps past command how rest is
  entry-keeps past entry rest is = refl

  pub keeps-once : EachKeepsOnce [] transcript
  keeps-once = keeps-each-once [] transcript entry-keeps
