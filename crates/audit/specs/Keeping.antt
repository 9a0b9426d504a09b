-- That all that is kept is that of a transcript.
use Rattle.std.specs.Prelude.{◌≡◌, ℕ, false, List, [], ◌∷◌, ◌++◌, Option, None}
use Rattle.zw_base.specs.declared.order.Order.{Order}
use Rattle.zw_text.specs.declared.entry.Entry.{Entry}
use Rattle.audit_books.specs.declared.endings.Ending.{Ending}
use Rattle.audit_books.specs.Scenes.{Scenery}
use Rattle.audit_books.specs.Changing.{Changing}
use Rattle.audit_books.specs.SessionRule.{breaks_sessions}
use Rattle.audit_books.specs.Keeping.{AreChangesOf, AreOf}
use Rattle.audit_books.specs.Lines.{IsNext}
use Rattle.audit_rules.specs.KeepingFrames.{AreFlyingOf}
use Rattle.audit_rules.specs.KeepingPayloads.{AreSendingsOf}
use Rattle.audit_table.specs.Keeping.{AreClosingOf}
use Rattle.audit.specs.Breaking.{IsJudged}
use Rattle.audit_table.specs.declared.stores.Storing.{Storing}
use Rattle.audit_table.specs.OrdersGiven.{accepting_at}
use Rattle.audit_rules.specs.Ticks.{runs_ticks}
use Rattle.audit_table.specs.StoreRule.{storing_last}
use Rattle.audit_rules.specs.AirRule.{breaks_air}
use Rattle.audit_rules.specs.PayloadRule.{breaks_payload}
use Rattle.audit_rules.specs.Flying.{Flying}
use Rattle.audit_rules.specs.Sending.{Sendings}
use Rattle.audit_table.specs.Knowing.{Closing}

-- all that is kept of the entries so far
pub record Kept : Type 0 where
  pub scene : Scenery
  pub orders : List (Option Order)
  pub endings : List (ℕ × Ending)
  pub sessions : List (List ℕ)
  pub changes : Changing
  pub air : Flying
  pub payloads : Sendings
  pub stores : Option Storing
  pub closing : Closing

pub record IsKeptOf (kept : Kept) (past : List Entry) : Type 0 where
  pub books : AreOf kept.scene.line kept.orders kept.endings kept.sessions past
  pub ticks : kept.scene.ticks ≡ runs_ticks past
  pub line : kept.scene.line ≡ (accepting_at past).line
  pub orders : kept.orders ≡ (accepting_at past).orders
  pub changes : AreChangesOf kept.changes past
  pub air : AreFlyingOf kept.air past
  pub payloads : AreSendingsOf kept.payloads past
  pub stores : kept.stores ≡ storing_last past
  pub closing : AreClosingOf kept.closing past

-- the first line of a text was taken: it breaks no rule, and what is kept then is of the entries with it
pub record IsTaken (past : List Entry) (text rest : List ℕ) (kept : Kept) : Type 0 where
  pub entry : Entry
  pub next : IsNext text entry rest
  pub judged : IsJudged past entry rest None
  pub keeps : IsKeptOf kept (past ++ (entry ∷ []))

-- an entry keeps the rules by which the tables go on
pub record KeepsTables (past : List Entry) (entry : Entry) : Type 0 where
  pub sessions : breaks_sessions past entry ≡ false
  pub air : breaks_air past entry ≡ false
  pub payload : breaks_payload past entry ≡ false
