use Rattle.std.proofs.Common.{◌≡◌, ℕ, List, [], ◌∷◌, ◌++◌, length, Ok, Some, None, sym, ◌∙◌, ap, arith}
use Rattle.s0_session.specs.Sending.{Sending, SealsPending}
use Rattle.device_stack.specs.State.{State, Outcome}
use Rattle.device_stack.specs.Hearing.{takes_nonce}
use Rattle.device_stack.specs.contracts.stack.Stack.{the_view}
use Rattle.device_kinds.proofs.SizeLemmas.{sealed_payload, only_payload}
use Rattle.device_stack.proofs.NonceLemmas.{takes_as}
use Rattle.device_stack.proofs.stack.Stack.take_nonce.Goals as goal

pub fitting-requires : goal.fitting-requires
fitting-requires c =
    let s : SealsPending c.self.inside.sealing c.keys.result c.args.drawn c.args.nonce c.in-Some.message c.offer.new.self =
    c.in_ok-message.ensures.sealed c.in-Some.message (ap Ok c.in-Some.is) in
    let p = sealed_payload c.keys.result c.args.drawn c.args.nonce c.self.inside.sealing.ends s.plain c.in-Some.message c.nonce_len-eight.ensures (c.self.invariant s.plain s.was_pending) s.seals in
    omega (arith, p.short, ap length c.as_slice.ensures)

pub invariant_of-self-2 : goal.invariant_of-self-2
invariant_of-self-2 c =
    let s : SealsPending c.self.inside.sealing c.keys.result c.args.drawn c.args.nonce c.in-Some.message c.offer.new.self =
    c.in_ok-message.ensures.sealed c.in-Some.message (ap Ok c.in-Some.is) in
    λ x e. let gone : None ≡ Some x = sym (ap (λ (n : Sending). n.pending) s.after) ∙ e in absurd (cc)

pub returns-clause-ok : goal.returns-clause-ok
returns-clause-ok c =
    let s : SealsPending c.self.inside.sealing c.keys.result c.args.drawn c.args.nonce c.in-Some.message c.offer.new.self =
    c.in_ok-message.ensures.sealed c.in-Some.message (ap Ok c.in-Some.is) in
    rw (← c.self.view_is)
    (ap (λ (o : Outcome). o.device) (sym (takes_as (the_view c.self.inside) c.keys.result c.args.nonce c.args.drawn c.in-Some.message c.offer.new.self
    c.keys.ensures s)))

pub returns-clause-replies : goal.returns-clause-replies
returns-clause-replies c =
    let s : SealsPending c.self.inside.sealing c.keys.result c.args.drawn c.args.nonce c.in-Some.message c.offer.new.self =
    c.in_ok-message.ensures.sealed c.in-Some.message (ap Ok c.in-Some.is) in
    c.push.ensures
    ∙ ap (λ (o : List (List ℕ)). o ++ c.fitting.result ∷ []) c.requires
    ∙ ap (λ (b : List ℕ). b ∷ []) (c.fitting.ensures ∙ c.as_slice.ensures)
    ∙ ap (λ (o : Outcome). o.replies) (sym (takes_as (the_view c.self.inside) c.keys.result c.args.nonce c.args.drawn c.in-Some.message c.offer.new.self
    c.keys.ensures s))
    ∙ ap (λ (d : State). (takes_nonce d c.args.nonce c.args.drawn).replies) c.self.view_is

pub returns-clause-sizes : goal.returns-clause-sizes
returns-clause-sizes c =
    let s : SealsPending c.self.inside.sealing c.keys.result c.args.drawn c.args.nonce c.in-Some.message c.offer.new.self =
    c.in_ok-message.ensures.sealed c.in-Some.message (ap Ok c.in-Some.is) in
    only_payload c.in-Some.message c.push.new.self
    (c.push.ensures ∙ ap (λ (o : List (List ℕ)). o ++ c.fitting.result ∷ []) c.requires ∙ ap (λ (b : List ℕ). b ∷ []) (c.fitting.ensures ∙ c.as_slice.ensures))
    (sealed_payload c.keys.result c.args.drawn c.args.nonce c.self.inside.sealing.ends s.plain c.in-Some.message c.nonce_len-eight.ensures (c.self.invariant s.plain s.was_pending) s.seals)
