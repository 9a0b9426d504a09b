-- What answers a line stands directly after its words (this project's own rule): an order is accepted, or a command taken back.
use Rattle.std.specs.Prelude.{◌≡◌, List, [], ◌∷◌}
use Rattle.zw_base.specs.declared.order.Order.{Order}
use Rattle.zw_text.specs.declared.line.Line.TheVariants as lines
use Rattle.zw_text.specs.declared.entry.Entry.{Entry}
use Rattle.zw_text.specs.declared.entry.Entry.TheVariants.{Accepted}
use Rattle.zw_text.specs.Transcript.{line_last}
use Rattle.law_host.specs.law_transcript.Answers.{MayCancel}

abbrev pub AsOrdered : List Entry → Entry → Type 0
AsOrdered past (Accepted command node) = (order : Order) × (line_last past ≡ lines.Command order ∷ []) × (order.node ≡ node)
AsOrdered past e = Unit {0}

pub record MayAnswer (past : List Entry) (e : Entry) : Type 0 where
  pub order : AsOrdered past e
  pub cancel : MayCancel past e
