-- A nonce that is named is spent.
use Rattle.std.proofs.Common.{◌≡◌, ℕ, ◌≤◌, List, length, Bool, true, false, refl, sym, subst, arith}
use Rattle.std.specs.Prelude.{Option, Some, None, nat_lt, if◌then◌else◌}
use Rattle.std.proofs.lemmas.Bool.Decides.{nat_tests}
use Rattle.class_info.specs.InfoReading.{info_at}
use Rattle.encap.specs.Opening.{Message, begins_with, opened_at}
use Rattle.encap.specs.Wraps.{is_crc16}
use Rattle.encap.specs.declared.plan.Plan.{Plan}
use Rattle.encap.specs.declared.plan.Supervised.{Supervised}
use Rattle.s0_session.specs.Nonces.{after_spend, nonce_spent}
use Rattle.device_stack.specs.Kinds.{Kind, Lock, Effect, Ignores, Sleeps, Tells, Sets, Repeats, Takes, Verdict, NoSupport, Fails, Makes, Works, keys_of, unsealed_at}
use Rattle.device_stack.specs.State.{State, silent}
use Rattle.device_stack.specs.Effects.{effect_of, takes, after_effect}
use Rattle.device_stack.specs.Hearing.{Answered, answers, nonce_named, sent_sealed, hears_inside, hears_plain, hears_for, hears_sealed, hears_nonces, hears_securely, hears_by, active, hears}
use Rattle.device_sim.specs.Event.{Hears, outcome_of, device_after}

takes_given : (device : State) (plan : Plan) (asked : Supervised) (verdict : Verdict) → (takes device plan asked verdict).given ≡ device.given
takes_given device plan asked (Makes settings) = refl
takes_given device plan asked (Works settings) = refl
takes_given device plan asked Fails = refl
takes_given device plan asked NoSupport = refl

after_given : (device : State) (plan : Plan) (effect : Effect) → (after_effect device plan effect).given ≡ device.given
after_given device plan Ignores = refl
after_given device plan Sleeps = refl
after_given device plan (Tells report) = refl
after_given device plan (Sets settings) = refl
after_given device plan (Repeats status) = refl
after_given device plan (Takes verdict) = by plan.session refl
  where
    by : (session : Option Supervised) → plan.session ≡ session → (after_effect device plan (Takes verdict)).given ≡ device.given
    by (Some asked) e = rw e (takes_given device (record { batch = plan.batch; session = Some asked; channel = plan.channel; outer = plan.outer }) asked verdict)
    by None e = rw e refl

answers_given : (device : State) (message : Message) → (answers device message).device.given ≡ device.given
unfolding answers
answers_given device message = after_given device message.plan (effect_of device message)

sealed_given : (device : State) (answered : Answered) → answered.device.given ≡ device.given → (sent_sealed answered).device.given ≡ device.given
sealed_given device answered is = by answered.answer refl
  where
    by : (answer : Option (List ℕ)) → answered.answer ≡ answer → (sent_sealed answered).device.given ≡ device.given
    by None e = rw e is
    by (Some answer) e = rw e is

inside_given : (device : State) (message : Option Message) → (hears_inside device message).device.given ≡ device.given
inside_given device None = refl
inside_given device (Some message) = by (is_crc16 message.plan.outer)
  where
    by : (b : Bool) → (if b then silent device else sent_sealed (answers device message)).device.given ≡ device.given
    by true = refl
    by false = sealed_given device (answers device message) (answers_given device message)

plain_given : (device : State) (plain : Option (List ℕ)) → (hears_plain device plain).device.given ≡ device.given
plain_given device None = refl
plain_given device (Some plain) = inside_given device (opened_at plain)

for_given : (device : State) (payload : List ℕ) (nonce : Option (List ℕ)) → (hears_for device payload nonce).device.given ≡ device.given
for_given device payload None = refl
for_given device payload (Some nonce) = plain_given device (unsealed_at (keys_of device.key) nonce (record { sender = 1; receiver = device.node }) payload)

pub long_enough : (n : ℕ) → 20 ≤ n → nat_lt n 20 ≡ false
long_enough n long = grind (arith, nat_tests)

spent : (device : State) (payload : List ℕ) → 20 ≤ length payload → (hears_sealed device payload).device.given ≡ after_spend device.given (nonce_named payload)
unfolding hears_sealed
spent device payload long =
    rw (long_enough (length payload) long)
    (for_given (record device { given = after_spend device.given (nonce_named payload) }) payload (nonce_spent device.given (nonce_named payload)))

securely_spent : (device : State) (payload drawn : List ℕ) → begins_with payload 0x98 0x81 ≡ true → 20 ≤ length payload
    → (hears_securely device payload drawn).device.given ≡ after_spend device.given (nonce_named payload)
unfolding hears_securely
securely_spent device payload drawn begins long = by (begins_with payload 0x98 0x81) begins
  where
    by : (b : Bool) → b ≡ true
        → (if b then hears_sealed device payload else hears_nonces device drawn (info_at payload)).device.given ≡ after_spend device.given (nonce_named payload)
    by true e = spent device payload long
    by false e = let bad : false ≡ true = e in absurd (cc)

pub named_is_spent : (device : State) (payload drawn : List ℕ) → device.kind ≡ Lock → device.awake ≡ true → begins_with payload 0x98 0x81 ≡ true → 20 ≤ length payload
    → (device_after device (Hears payload drawn)).given ≡ after_spend device.given (nonce_named payload)
unfolding device_after outcome_of hears
named_is_spent device payload drawn lock awake begins long = awake_as device.awake awake
  where
    lock_as : (kind : Kind) → kind ≡ Lock → (hears_by kind (active device) payload drawn).device.given ≡ after_spend device.given (nonce_named payload)
    lock_as kind e = subst (λ (k : Kind). (hears_by k (active device) payload drawn).device.given ≡ after_spend device.given (nonce_named payload)) (sym e)
        (securely_spent (active device) payload drawn begins long)

    awake_as : (b : Bool) → b ≡ true → (if b then hears_by device.kind (active device) payload drawn else silent device).device.given ≡ after_spend device.given (nonce_named payload)
    awake_as true e = lock_as device.kind lock
    awake_as false e = let bad : false ≡ true = e in absurd (cc)
