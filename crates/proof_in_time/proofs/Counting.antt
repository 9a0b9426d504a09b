-- What a count of the ticks of commands takes of what is known at each phase beside: that a node is served, and how an attempt of it comes nearer to its end.
use Rattle.std.proofs.Common.{◌≡◌, ◌≢◌, ◌≤◌, ℕ, suc, ◌++◌, ◌||◌, inl, inr, Bool, true, false, List, ◌∷◌, [], sym, ap, ◌∙◌}
use Rattle.std.specs.Prelude.{◌⊎◌}
use Rattle.zw_text.specs.declared.entry.Entry.{Entry}
use Rattle.zw_text.specs.declared.entry.Entry.TheVariants as entry
use Rattle.zw_text.specs.declared.line.Line.{Line}
use Rattle.zw_text.specs.Transcript.{line_of}
use Rattle.host_node.specs.declared.series.Series.TheVariants as series
use Rattle.host_model.specs.State.{node_of}
use Rattle.world_model.specs.Events.{Event, May, entries, happens}
use Rattle.world_model.specs.State.{Machine}
use Rattle.proof_answered.specs.proof_calm.proof_work.Phases.{AsksNothing}
use Rattle.proof_answered.specs.proof_calm.proof_work.proof_walk.Phases.{Phase, Between, Goes, Said_line, To_tick, Turns}
use Rattle.proof_answered.specs.proof_calm.proof_work.proof_walk.Walk.{WalkWhere}
use Rattle.proof_answered.specs.FirstAttempts.{IsInTime}
use Rattle.proof_answered.specs.Workers.{KnowWorkers, Staffed}
use Rattle.proof_in_time.specs.Coming.{IsKeptFor}
use Rattle.proof_in_time.specs.Sleeping.{ComesUp}
use Rattle.proof_in_time.proofs.Lasting.{most_then}
use Rattle.proof_in_time.proofs.Retried.{ticks_then}
use Rattle.proof_in_time.proofs.Rising.{HasRisen, IsServed, Risen}

-- an event of such, with what is known before it and after it
pub record IsStep (these : List Bool) (Up : Machine → Event → Type 0) (Know : Phase → List Entry → Machine → Type 0) (here next : Phase) (past : List Entry) (m : Machine) (event : Event) : Type 0 where
  pub goes : Goes here m event next
  pub may : May m event
  pub up : Up m event
  pub kept : IsKeptFor these (past ++ entries m event)
  pub was : Know here past m
  pub then_is : Know next (past ++ entries m event) (happens m event)

-- the next phase, with no event
pub record IsTurn (these : List Bool) (Know : Phase → List Entry → Machine → Type 0) (here next : Phase) (past : List Entry) (m : Machine) : Type 0 where
  pub turns : Turns here m next
  pub kept : IsKeptFor these past
  pub was : Know here past m
  pub then_is : Know next past m

-- lines for these nodes, over which no wait of an attempt runs out
pub record Lines (these : List Bool) (Up : Machine → Event → Type 0) (Know : Phase → List Entry → Machine → Type 0) : Type 0 where
  pub walk : WalkWhere Up AsksNothing Know
  pub workers : (here : Phase) (past : List Entry) (m : Machine) → IsKeptFor these past → Know here past m → KnowWorkers these here past m × Staffed these here m
  pub in_time : (here : Phase) (past : List Entry) (m : Machine) (event : Event) → IsKeptFor these past → Know here past m → IsInTime m event

-- In these the node is served, once it has risen; and an attempt of it that runs has its end within so many ticks at most (Within), `long` as it starts, and with each tick that begins one fewer.
pub record Ground (these : List Bool) (n long : ℕ) (listening : Bool) (Up : Machine → Event → Type 0) (Know : Phase → List Entry → Machine → Type 0) (Within : ℕ → Phase → Machine → Type 0) : Type 0 where
  pub lines : Lines these Up Know
  pub listens : (here : Phase) (past : List Entry) (m : Machine) → listening ≡ true → IsKeptFor these past → Know here past m → (node_of m.host.state n).listens ≡ true
  pub served : (here : Phase) (past : List Entry) (m : Machine) → IsKeptFor these past → Know here past m → Risen listening n here past m → IsServed n m.host.state
  -- how near the end is
  pub within : (here : Phase) (past : List Entry) (m : Machine) → IsKeptFor these past → Know here past m → Within long here m
  pub some : (most ticks : ℕ) (m : Machine) → (node_of m.host.state n).series ≡ series.Running → Within most (To_tick (suc ticks)) m → 1 ≤ most
  pub on : (here next : Phase) (past : List Entry) (m : Machine) (event : Event) → IsStep these Up Know here next past m event → (most : ℕ) → (node_of m.host.state n).series ≡ series.Running → Within most here m
      → Within (most_then most here) next (happens m event)
  pub turn : (here next : Phase) (past : List Entry) (m : Machine) → IsTurn these Know here next past m → (most : ℕ) → Within most here m → Within most next m
  pub said : (line : Line) (m : Machine) (most : ℕ) → Within most Between m → Within most (Said_line line) m
  -- it has risen
  pub risen_on : (here next : Phase) (past : List Entry) (m : Machine) (event : Event) → IsStep these Up Know here next past m event → Risen listening n here past m → Risen listening n next (past ++ entries m event) (happens m event)
  pub risen_turn : (here next : Phase) (past : List Entry) (m : Machine) → IsTurn these Know here next past m → Risen listening n here past m → Risen listening n next past m
  pub risen_said : (past : List Entry) (m : Machine) (words : List ℕ) (line : Line) → line_of (entry.Said words) ≡ line ∷ [] → IsKeptFor these (past ++ entry.Said words ∷ []) → Risen listening n Between past m
      → Risen listening n (Said_line line) (past ++ entry.Said words ∷ []) m
  -- its Notification comes, where it sleeps
  pub comes_on : (here next : Phase) (past : List Entry) (m : Machine) (event : Event) → IsStep these Up Know here next past m event → listening ≡ false → (left : ℕ) → ComesUp n left here m
      → ComesUp n (ticks_then left here) next (happens m event) ⊎ HasRisen n next (past ++ entries m event) (happens m event)
  pub comes_turn : (here next : Phase) (past : List Entry) (m : Machine) → IsTurn these Know here next past m → listening ≡ false → (left : ℕ) → ComesUp n left here m → ComesUp n left next m

-- ---- one node alone, to which the host listens

-- Of these it is known at each phase how near the end of an attempt is (At); within so many as one starts, and where none runs no task waits.
pub record Alone (these : List Bool) (n long : ℕ) (Up : Machine → Event → Type 0) (Know : Phase → List Entry → Machine → Type 0) (At : ℕ → Phase → Machine → Type 0) : Type 0 where
  pub lines : Lines these Up Know
  pub listens : (here : Phase) (past : List Entry) (m : Machine) → IsKeptFor these past → Know here past m → (node_of m.host.state n).listens ≡ true
  pub at : (here : Phase) (past : List Entry) (m : Machine) → IsKeptFor these past → Know here past m → At long here m
  pub empty : (here : Phase) (m : Machine) → (node_of m.host.state n).series ≢ series.Running → At long here m → m.host.state.requests.queue ≡ []
  pub some : (most ticks : ℕ) (m : Machine) → (node_of m.host.state n).series ≡ series.Running → At most (To_tick (suc ticks)) m → 1 ≤ most
  pub later : (here next : Phase) (past : List Entry) (m : Machine) (event : Event) → IsStep these Up Know here next past m event → (most : ℕ) → At most here m
      → At (most_then most here) next (happens m event) ⊎ (((node_of m.host.state n).series ≡ series.Due) × At long next (happens m event))
  pub turned : (here next : Phase) (past : List Entry) (m : Machine) → IsTurn these Know here next past m → (most : ℕ) → At most here m → At most next m
  pub said : (line : Line) (m : Machine) (most : ℕ) → At most Between m → At most (Said_line line) m

module _ (these : List Bool) (n long : ℕ) (Up : Machine → Event → Type 0) (Know : Phase → List Entry → Machine → Type 0) (At : ℕ → Phase → Machine → Type 0) where
  -- an attempt that runs was not due
  still_runs : (most : ℕ) (next : Phase) (m later : Machine) → (node_of m.host.state n).series ≡ series.Running → At most next later ⊎ (((node_of m.host.state n).series ≡ series.Due) × At long next later) → At most next later
  still_runs most next m later runs (inl at) = at
  still_runs most next m later runs (inr (due, at)) = absurd (let wrong : series.Due ≡ series.Running = sym due ∙ runs in cc)

  pub alone_ground : Alone these n long Up Know At → Ground these n long true Up Know At
  alone_ground alone = record {
    lines = alone.lines;
    listens = λ here past m is kept known. alone.listens here past m kept known;
    served = λ here past m kept known risen. record {
      up = λ left. ap (λ (b : Bool). b || (node_of m.host.state n).awake) (alone.listens here past m kept known);
      empty = λ turn. alone.empty here m turn.0 (alone.at here past m kept known);
    };
    within = alone.at;
    some = alone.some;
    on = λ here next past m event step most runs at. still_runs (most_then most here) next m (happens m event) runs (alone.later here next past m event step most at);
    turn = alone.turned;
    said = alone.said;
    risen_on = λ here next past m event step risen. tt;
    risen_turn = λ here next past m turn risen. tt;
    risen_said = λ past m words line read is risen. tt;
    comes_on = λ here next past m event step sleeps left up. absurd (let wrong : true ≡ false = sleeps in cc);
    comes_turn = λ here next past m turn sleeps left up. absurd (let wrong : true ≡ false = sleeps in cc);
  }
