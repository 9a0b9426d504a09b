-- Where devices act, the nodes that are joined in the air are those of the transcript.
use Rattle.std.proofs.Common.{◌≡◌, inl, inr, List, [], ◌∷◌, sym, ap, subst, ◌∙◌}
use Rattle.device_sim.specs.State.{State}
use Rattle.zw_text.specs.declared.line.Line.{Line}
use Rattle.zw_text.specs.declared.line.Line.TheVariants as lines
use Rattle.zw_text.specs.declared.entry.Entry.{Entry}
use Rattle.zw_text.specs.declared.entry.Entry.TheVariants.{Said}
use Rattle.zw_text.specs.Transcript.{line_last}
use Rattle.world_model.specs.State.{Machine}
use Rattle.world_model.specs.Events.{Event}
use Rattle.proof_air.specs.proof_walk.Phases.{Phase}
use Rattle.proof_air.proofs.ByLine.{last_is}
use Rattle.proof_routes.specs.Knowing.{Else, IsPlain, Left, KnowNetworks}
use Rattle.proof_devices.specs.Living.{Keeping, Simply, IsActing, ActsWith}
use Rattle.proof_devices.proofs.Joined.{asleep_joins}
use Rattle.proof_devices.proofs.Keeping.{Grounds}
use Rattle.proof_devices.proofs.Replies.{JoinsAs, JoinsAny}

else_joins : (devices : List State) (past : List Entry) (m : Machine) → Else devices past m → JoinsAs past m.outside.outer.air
else_joins devices past m (inl settled) = λ node. settled.0.0.0.joined node
else_joins devices past m (inr has) = λ node. has.settled.0.0.0.joined node ∙ asleep_joins past 0 node

acting_plain : (line : Line) → IsActing line → IsPlain line
acting_plain (lines.Repeat frame) acting = tt
acting_plain (lines.Wake node) acting = tt
acting_plain (lines.Local node value) acting = tt
acting_plain line acting = absurd acting

module _ (Also : Keeping) (devices : List State) where
  acting_joins : (line : Line) (first : Event) (left : List Event) (past : List Entry) (m : Machine) → ActsWith Also devices line (first ∷ left) past m → Left devices line (first ∷ left) past m
      → JoinsAs past m.outside.outer.air
  acting_joins line first left past m acts (inl sets) = absurd (sets.1 (acting_plain line acts.1))
  acting_joins line first left past m acts (inr (inl joining)) =
      let saying = acts.0.0 in
      let lines_are : line ∷ [] ≡ lines.Join joining.node ∷ []
      = sym (ap line_last saying.is ∙ (last_is saying.before (Said saying.words) ∙ saying.read)) ∙ (ap line_last joining.is ∙ (last_is joining.before (Said joining.words) ∙ joining.read)) in
      let same : line ≡ lines.Join joining.node = cc in
      absurd (subst IsActing same acts.1)
  acting_joins line first left past m acts (inr (inr (inl settled))) = else_joins devices past m (inl settled.1)
  acting_joins line first left past m acts (inr (inr (inr joined))) = let none : first ∷ left ≡ [] = joined.0 in absurd cc

  pub networks_ground : Grounds devices Also JoinsAs (KnowNetworks devices)
  networks_ground = record {
    arriving = λ frames ticks past m known. else_joins devices past m known;
    ticking = λ place count ticks past m known. else_joins devices past m known;
    acting = λ line first left past m acts known. acting_joins line first left past m acts known;
  }

-- where they are not asked for
abbrev pub Groundless : Phase → List Entry → Machine → Type 0
Groundless here past m = Unit {0}

pub no_ground : (devices : List State) → Grounds devices Simply JoinsAny Groundless
no_ground devices = record {
  arriving = λ frames ticks past m known. tt;
  ticking = λ place count ticks past m known. tt;
  acting = λ line first left past m acts known. tt;
}
