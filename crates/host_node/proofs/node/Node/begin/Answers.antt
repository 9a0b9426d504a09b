-- A session begins where none is open and there is room for it.
use Rattle.std.proofs.Common.{◌≡◌, ◌≢◌, ℕ, Some, None, Ok, Err, IsOk, length, refl, ap, sym, ◌∙◌, arith}
use Rattle.std.specs.declared.result.Result.{Result}
use Rattle.supervision.specs.declared.host_node.BeginFault.{BeginFault}
use Rattle.supervision.specs.declared.host_node.BeginFault.TheVariants.{StillBegun, NoMemory}
use Rattle.supervision.specs.Host.{open_session}
use Rattle.host_node.specs.State.{NodeState}
use Rattle.host_node.proofs.node.Node.begin.Goals as goal

-- a result that is neither error
begun : (r : Result ℕ BeginFault) → ((session : ℕ) → r ≢ Err (StillBegun session)) → r ≢ Err NoMemory → IsOk r
begun (Ok session) still none = refl
begun (Err (StillBegun session)) still none = absurd (still session refl)
begun (Err NoMemory) still none = absurd (none refl)

some_is_not_none : {session : ℕ} → Some session ≡ None → ⊥
some_is_not_none e = cc

pub unwrap-session-requires : goal.unwrap-session-requires
unwrap-session-requires c =
    let closed : open_session c.self.inside.sessions.book ≡ None = ap (λ (n : NodeState). open_session n.book) c.self.view_is ∙ c.requires.closed in
    let one : length c.self.inside.mailbox.commands ≡ length c.args.self.now.waiting = ap (λ (n : NodeState). length n.waiting) c.self.view_is in
    begun c.begin.result (λ session e. some_is_not_none (sym ((c.begin.ensures.still_begun session).0 e) ∙ closed))
    (c.begin.ensures.room (omega (arith, one, c.self.invariant.room, c.requires.waits)))
