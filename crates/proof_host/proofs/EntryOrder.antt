-- The entries of each event may stand after those before it.
use Rattle.std.proofs.Common.{◌≡◌, ℕ, ◌+◌, List, [], ◌∷◌, ◌++◌, length, Option, Some, None, sym, ap, subst, ◌∙◌}
use Rattle.std.specs.List.{AllByRecursion}
use Rattle.zw_base.proofs.Each.{all-weaker}
use Rattle.zw_text.specs.declared.entry.Entry.{Entry}
use Rattle.zw_text.specs.declared.entry.Entry.TheVariants.{Accepted, Begin, Out}
use Rattle.zw_text.specs.declared.entry.Outcome.TheVariants.{Waiting}
use Rattle.zw_text.specs.Transcript.{sessions, outcome}
use Rattle.law_transcript.specs.Lists.{EachAfter}
use Rattle.law_transcript.specs.Sessions.{IsFinal, AllEnded}
use Rattle.supervision.specs.Host.{begun_of}
use Rattle.host_model.specs.host_node.State.{NodeState}
use Rattle.host_model.specs.host_node.Steps.{oldest}
use Rattle.host_model.specs.host_node.TableState.{node_of}
use Rattle.host_model.specs.State.{Command}
use Rattle.host_model.specs.Sessions.{open_command}
use Rattle.host_model.specs.Facts.{IsCommandOf}
use Rattle.proof_host.specs.Laws.{MayStand}
use Rattle.proof_host.specs.Tables.{outcome_in}
use Rattle.proof_host.specs.Facts.{AreAccepted, AreBegun, AreEntered, IsInOrder}
use Rattle.proof_host.proofs.Lists.{each-append, each-anywhere}
use Rattle.proof_host.proofs.Commands.{waits_so, final_so}
use Rattle.proof_host.proofs.Views.{IsSilent}
use Rattle.proof_host.proofs.Owned.{node_found, closed_none}
use Rattle.proof_host.proofs.Effect.{Leaves, Accepts, Begins}
use Rattle.proof_host.proofs.CommandEnds.{Ends, asides_silent}

silent_stands : (past : List Entry) (e : Entry) → IsSilent e → MayStand past e
silent_stands past (Accepted command node) silent = absurd silent
silent_stands past (Begin node session command) silent = absurd silent
silent_stands past (Out command ended) silent = absurd silent
silent_stands past _ silent = record { accept = tt; begin = tt; carry = tt; end = tt }

all_stand : (past es : List Entry) → AllByRecursion IsSilent es → EachAfter MayStand past es
all_stand past es silent = each-anywhere MayStand IsSilent silent_stands past es silent

pub stand_silent : (T entries : List Entry) → AllByRecursion IsSilent entries → EachAfter MayStand [] T → EachAfter MayStand [] (T ++ entries)
stand_silent T entries silent stand = each-append MayStand [] T entries stand (all_stand T entries silent)

module _ (T : List Entry) (cs cs' : List Command) (nodes nodes' : List NodeState) (entries : List Entry) (stand : EachAfter MayStand [] T) where
  pub stand_left : Leaves cs cs' nodes nodes' entries → EachAfter MayStand [] (T ++ entries)
  stand_left e = stand_silent T entries (asides_silent entries e.asides) stand

  pub stand_ended : Ends T cs cs' nodes nodes' entries → EachAfter MayStand [] (T ++ entries)
  stand_ended e = subst (λ (es : List Entry). EachAfter MayStand [] (T ++ es)) (sym e.entries_are)
      (each-append MayStand [] T (Out e.command e.how ∷ e.more) stand
      (record { accept = tt; begin = tt; carry = tt; end = e.may }, all_stand (T ++ Out e.command e.how ∷ []) e.more e.silent))

  pub stand_taken : Accepts cs cs' nodes nodes' entries → AreAccepted T cs → EachAfter MayStand [] (T ++ entries)
  stand_taken e f = subst (λ (es : List Entry). EachAfter MayStand [] (T ++ es)) (sym e.entries_are)
      (each-append MayStand [] T (Accepted (length cs + 1) e.taken.order.node ∷ []) stand
      (record { accept = ap (λ (k : ℕ). k + 1) (sym f.count); begin = tt; carry = tt; end = tt }, tt))

  -- every session of the node has come to a final outcome
  each_ended : (n : ℕ) → AreBegun T nodes → AreEntered T cs → IsInOrder cs (node_of nodes n) → open_command (node_of nodes n) ≡ None → AllEnded n T
  each_ended n begun entered order closed =
      let s = node_of nodes n in
      subst (λ (l : List ℕ). AllByRecursion (λ k. IsFinal (outcome k T)) l) (sym (begun n))
      (all-weaker (λ k. (open_command s ≡ Some k → ⊥) → IsFinal (outcome_in cs k)) (λ k. IsFinal (outcome k T))
      (λ k f. final_so (outcome k T) (outcome_in cs k) (entered k) (f (λ o. none_some closed o))) s.book.commands order.ended)
    where
      none_some : {o : Option ℕ} {k : ℕ} → o ≡ None → o ≡ Some k → ⊥
      none_some none some = cc

  pub stand_begun : (e : Begins cs cs' nodes nodes' entries) → AreAccepted T cs → AreBegun T nodes → AreEntered T cs → IsInOrder cs (node_of nodes e.node)
      → IsCommandOf cs e.node (oldest (node_of nodes e.node)) → outcome_in cs (oldest (node_of nodes e.node)) ≡ Waiting → EachAfter MayStand [] (T ++ entries)
  stand_begun e accepted begun entered order one waits =
      let n = e.node in
      let s = node_of nodes n in
      let c = oldest s in
      let number : begun_of s.book + 1 ≡ length (sessions n T) + 1 = ap (λ (l : List ℕ). length l + 1) (sym (begun n)) in
      let ended : AllEnded n T = each_ended n begun entered order (closed_none s e.closed) in
      subst (λ (es : List Entry). EachAfter MayStand [] (T ++ es)) (sym e.entries_are)
      (each-append MayStand [] T (Begin n (begun_of s.book + 1) c ∷ []) stand (
        record {
          accept = tt;
          begin = (number, ended);
          carry = (accepted.nodes c ∙ node_found cs n c one, waits_so (outcome c T) (outcome_in cs c) (entered c) waits);
          end = tt;
        },
        tt,
      ))
