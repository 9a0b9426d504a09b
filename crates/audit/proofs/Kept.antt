-- All that is kept goes with the transcript, and judges the next entry.
use Rattle.std.proofs.Common.{◌≡◌, ℕ, cond, Bool, true, false, List, [], ◌∷◌, ◌++◌, Option, Some, None, ap, ap₂, refl, sym, subst, ◌∙◌}
use Rattle.zw_base.specs.declared.property.Setting.{Setting}
use Rattle.zw_base.specs.declared.order.Order.{Order}
use Rattle.zw_text.specs.declared.line.Line.{Line}
use Rattle.zw_text.specs.declared.entry.Entry.{Entry}
use Rattle.zw_text.specs.declared.entry.Entry.TheVariants.{Said}
use Rattle.zw_text.specs.Fits.{EntryFits}
use Rattle.audit_books.specs.declared.endings.Ending.{Ending}
use Rattle.audit_books.specs.Accepting.{order_at, orders_after}
use Rattle.audit_books.specs.Beginning.{no_sessions, sessions_after}
use Rattle.audit_books.specs.Changing.{IsChangingAfter, no_changes}
use Rattle.audit_books.specs.Ending.{ending_after, ending_in, no_ending}
use Rattle.audit_books.specs.Groups.{IsFollowing, maker_at}
use Rattle.audit_books.specs.Keeping.{AreChangesOf, AreOf, BeginSo, ChangesBegin, ChangesGoOn, GoOn}
use Rattle.audit_books.specs.Scenes.{Scenery, no_line, scene_after}
use Rattle.audit_books.specs.OnceRule.{breaks_once}
use Rattle.audit_books.specs.SessionRule.{breaks_sessions}
use Rattle.audit.specs.declared.breaks.Break.{Break}
use Rattle.audit.specs.declared.breaks.Break.TheVariants.{Air, Once, Payload, Sessions, Store, Table}
use Rattle.audit_table.specs.OrdersGiven.{Accepting, accepting_at, accepting_after, line_shown}
use Rattle.audit_rules.specs.Ticks.{ticks_following}
use Rattle.audit_rules.specs.AirRule.{breaks_air}
use Rattle.audit_rules.specs.PayloadRule.{breaks_payload}
use Rattle.audit_table.specs.StoreRule.{breaks_store, breaks_storing, storing_after}
use Rattle.audit_table.specs.TableRule.{breaks_table}
use Rattle.audit.specs.Breaking.{IsJudged, first_of_rest}
use Rattle.audit_rules.specs.Flying.{breaks_flying, flying_after, no_frames}
use Rattle.audit_table.specs.Knowing.{IsWithin, breaks_closing, closing_after, no_closing}
use Rattle.audit_rules.specs.Sending.{breaks_sending, no_sendings, sendings_after}
use Rattle.audit_table.specs.Keeping.{AreClosingOf}
use Rattle.audit_rules.specs.KeepingFrames.{AreFlyingOf}
use Rattle.audit_rules.specs.KeepingPayloads.{AreSendingsOf}
use Rattle.audit.specs.Keeping.{IsKeptOf, Kept, KeepsTables}
use Rattle.zw_text.proofs.Views.{folded-append}
use Rattle.audit_rules.proofs.Flies.{air-begins, goes-air, judges-air}
use Rattle.audit_rules.proofs.Picks.{goes-payload, judges-payload, payloads-begin}
use Rattle.audit_table.proofs.Closes.{closing-begins, goes-closing, judges-table, none-some}

-- ---- judging

pub air-judged : (kept : Kept) (past : List Entry) (entry : Entry) → IsKeptOf kept past → breaks_flying kept.air kept.scene kept.sessions entry ≡ breaks_air past entry
air-judged kept past entry are =
    judges-air kept.air kept.scene kept.sessions past entry are.air are.ticks are.books.line (λ node within. are.books.sessions node within)

pub store-judged : (kept : Kept) (past : List Entry) (entry : Entry) → IsKeptOf kept past → breaks_storing kept.stores (order_at kept.orders) entry ≡ breaks_store past entry
store-judged kept past entry are = ap₂ (λ s o. breaks_storing s (order_at o) entry) are.stores are.orders

-- the first of the last four rules of which it is known whether they are broken
same-first : (air air' payload payload' store store' table table' : Bool) → air ≡ air' → payload ≡ payload' → store ≡ store' → table ≡ table' →
    cond air (Some Air) (cond payload (Some Payload) (cond store (Some Store) (cond table (Some Table) None)))
    ≡ cond air' (Some Air) (cond payload' (Some Payload) (cond store' (Some Store) (cond table' (Some Table) None)))
same-first air air' payload payload' store store' table table' a p s t =
    ap₂ (λ b r. cond b (Some Air) r) a (ap₂ (λ b r. cond b (Some Payload) r) p (ap₂ (λ b r. cond b (Some Store) r) s (ap (λ b. cond b (Some Table) None) t)))

pub rest-is : (kept : Kept) (past : List Entry) (entry : Entry) (air payload store table : Bool) → IsKeptOf kept past → EntryFits entry →
    air ≡ breaks_flying kept.air kept.scene kept.sessions entry → payload ≡ breaks_sending kept.payloads entry → store ≡ breaks_storing kept.stores (order_at kept.orders) entry →
    table ≡ breaks_closing kept.closing entry →
    cond air (Some Air) (cond payload (Some Payload) (cond store (Some Store) (cond table (Some Table) None))) ≡ first_of_rest past entry
rest-is kept past entry air payload store table are fits a p s t =
    same-first air (breaks_air past entry) payload (breaks_payload past entry) store (breaks_store past entry) table (breaks_table past entry)
    (a ∙ air-judged kept past entry are) (p ∙ judges-payload kept.payloads past entry are.payloads) (s ∙ store-judged kept past entry are)
    (t ∙ judges-table kept.closing past entry are.closing fits)

keeps-two : (air payload : Bool) (rest : Option Break) → cond air (Some Air) (cond payload (Some Payload) rest) ≡ None → (air ≡ false) × (payload ≡ false)
keeps-two true payload rest none = absurd (none-some none)
keeps-two false true rest none = absurd (none-some none)
keeps-two false false rest none = (refl, refl)

pub rest-keeps : (past : List Entry) (entry : Entry) → first_of_rest past entry ≡ None → (breaks_air past entry ≡ false) × (breaks_payload past entry ≡ false)
rest-keeps past entry none =
    keeps-two (breaks_air past entry) (breaks_payload past entry) (cond (breaks_store past entry) (Some Store) (cond (breaks_table past entry) (Some Table) None)) none

same-judged : (sessions sessions' once once' : Bool) (rest rest' : Option Break) → sessions ≡ sessions' → once ≡ once' → rest ≡ rest' →
    cond sessions (Some Sessions) (cond once (Some Once) rest) ≡ cond sessions' (Some Sessions) (cond once' (Some Once) rest')
same-judged sessions sessions' once once' rest rest' s o r = ap₂ (λ b c. cond b (Some Sessions) c) s (ap₂ (λ b c. cond b (Some Once) c) o r)

pub judged-sessions : (past : List Entry) (entry : Entry) (rest : List ℕ) → breaks_sessions past entry ≡ true → IsJudged past entry rest (Some Sessions)
judged-sessions past entry rest broken following group =
    same-judged true (breaks_sessions past entry) (breaks_once past entry following) (breaks_once past entry following) (first_of_rest past entry) (first_of_rest past entry) (sym broken) refl refl

pub judged-once : (past : List Entry) (entry : Entry) (rest : List ℕ) → breaks_sessions past entry ≡ false →
    ((following : List Setting) → IsFollowing (maker_at entry) rest following → breaks_once past entry following ≡ true) → IsJudged past entry rest (Some Once)
judged-once past entry rest keeps broken following group =
    same-judged false (breaks_sessions past entry) true (breaks_once past entry following) (first_of_rest past entry) (first_of_rest past entry) (sym keeps) (sym (broken following group)) refl

pub judged-rest : (past : List Entry) (entry : Entry) (rest : List ℕ) (found : Option Break) → breaks_sessions past entry ≡ false →
    ((following : List Setting) → IsFollowing (maker_at entry) rest following → breaks_once past entry following ≡ false) → found ≡ first_of_rest past entry → IsJudged past entry rest found
judged-rest past entry rest found keeps once is following group =
    same-judged false (breaks_sessions past entry) false (breaks_once past entry following) found (first_of_rest past entry) (sym keeps) (sym (once following group)) is

-- ---- the first tables

pub begins-kept : (kept : Kept) → BeginSo → ChangesBegin → kept.scene ≡ no_line → kept.orders ≡ [] → ((command : ℕ) → ending_in kept.endings command ≡ no_ending) →
    kept.sessions ≡ no_sessions → kept.changes ≡ no_changes → kept.air ≡ no_frames → kept.payloads ≡ no_sendings → kept.stores ≡ None → kept.closing ≡ no_closing → IsKeptOf kept []
begins-kept kept begin change scene orders ended sessions changes air payloads stores closing = record {
  books =
      subst (λ (s : Scenery). AreOf s.line kept.orders kept.endings kept.sessions []) (sym scene)
      (subst (λ o. AreOf None o kept.endings kept.sessions []) (sym orders)
      (subst (λ n. AreOf None [] kept.endings n []) (sym sessions) (begin kept.endings ended)));
  ticks = ap (λ (s : Scenery). s.ticks) scene;
  line = ap (λ (s : Scenery). s.line) scene;
  orders = orders;
  changes = subst (λ c. AreChangesOf c []) (sym changes) change;
  air = subst (λ a. AreFlyingOf a []) (sym air) air-begins;
  payloads = subst (λ a. AreSendingsOf a []) (sym payloads) payloads-begin;
  stores = stores;
  closing = subst (λ a. AreClosingOf a []) (sym closing) closing-begins;
}

-- ---- one entry more

ticks-more : (scene : Scenery) (entry : Entry) → (scene_after scene entry).ticks ≡ ticks_following scene.ticks entry
ticks-more scene (Said words) = refl
ticks-more scene other = refl

line-more : (scene : Scenery) (entry : Entry) → (scene_after scene entry).line ≡ line_shown entry
line-more scene (Said words) = refl
line-more scene other = refl

pub accepting-more : (past : List Entry) (entry : Entry) → accepting_at (past ++ (entry ∷ [])) ≡ accepting_after (accepting_at past) entry
accepting-more past entry = folded-append accepting_after (record { orders = []; line = None }) past (entry ∷ [])

same-tables : (line line' : Option Line) (orders orders' : List (Option Order)) (endings : List (ℕ × Ending)) (sessions sessions' : List (List ℕ)) (past : List Entry) →
    line' ≡ line → orders' ≡ orders → sessions' ≡ sessions → AreOf line orders endings sessions past → AreOf line' orders' endings sessions' past
same-tables line line' orders orders' endings sessions sessions' past l o n are =
    subst (λ it. AreOf it orders' endings sessions' past) (sym l)
    (subst (λ it. AreOf line it endings sessions' past) (sym o) (subst (λ it. AreOf line orders endings it past) (sym n) are))

pub takes-kept : (kept after : Kept) (past : List Entry) (entry : Entry) → GoOn → ChangesGoOn → IsKeptOf kept past → EntryFits entry → KeepsTables past entry → IsWithin kept.scene.line →
    after.scene ≡ scene_after kept.scene entry → after.orders ≡ orders_after kept.orders kept.scene.line entry →
    ((command : ℕ) → ending_in after.endings command ≡ ending_after (ending_in kept.endings command) command entry) → after.sessions ≡ sessions_after kept.sessions entry →
    IsChangingAfter kept.changes kept.sessions entry after.changes → after.air ≡ flying_after kept.air kept.scene kept.sessions entry → after.payloads ≡ sendings_after kept.payloads entry →
    after.stores ≡ storing_after kept.stores entry → after.closing ≡ closing_after kept.closing kept.scene.line (ending_in kept.endings) kept.orders kept.sessions entry →
    IsKeptOf after (past ++ (entry ∷ []))
takes-kept kept after past entry go change are fits keeps within scene orders ended sessions changing air payloads stores closing = record {
  books =
      same-tables (scene_after kept.scene entry).line after.scene.line (orders_after kept.orders kept.scene.line entry) after.orders after.endings
      (sessions_after kept.sessions entry) after.sessions (past ++ (entry ∷ [])) (ap (λ (s : Scenery). s.line) scene) orders sessions
      (go kept.scene kept.orders kept.endings after.endings kept.sessions past entry are.books fits keeps.sessions ended);
  ticks =
      ap (λ (s : Scenery). s.ticks) scene ∙ ticks-more kept.scene entry ∙ ap (λ t. ticks_following t entry) are.ticks
      ∙ sym (folded-append ticks_following false past (entry ∷ []));
  line = ap (λ (s : Scenery). s.line) scene ∙ line-more kept.scene entry ∙ sym (ap (λ (a : Accepting). a.line) (accepting-more past entry));
  orders =
      orders ∙ ap₂ (λ o l. orders_after o l entry) are.orders are.line ∙ sym (ap (λ (a : Accepting). a.orders) (accepting-more past entry));
  changes = change kept.scene.line kept.orders kept.endings kept.sessions kept.changes after.changes past entry are.books are.changes fits changing;
  air =
      subst (λ a. AreFlyingOf a (past ++ (entry ∷ []))) (sym air)
      (goes-air kept.air kept.scene kept.sessions past entry are.air are.ticks (λ node below. are.books.sessions node below) fits keeps.air);
  payloads = subst (λ a. AreSendingsOf a (past ++ (entry ∷ []))) (sym payloads) (goes-payload kept.payloads past entry are.payloads keeps.payload);
  stores = stores ∙ ap (λ s. storing_after s entry) are.stores ∙ sym (folded-append storing_after None past (entry ∷ []));
  closing =
      subst (λ a. AreClosingOf a (past ++ (entry ∷ []))) (sym closing)
      (goes-closing kept.closing kept.scene.line (ending_in kept.endings) kept.orders kept.sessions past entry are.closing within fits are.books.line
      (λ node below. are.books.sessions node below) are.books.endings are.orders);
}
