-- What a lock is that joins, and what each payload of the host makes of it (Z-Wave Security 0 Command Class: inclusion; that a
-- lock with a key takes no other and tells no scheme is this project's own rule).
use Rattle.std.specs.Prelude.{ℕ, List, [], ◌∷◌, Option, Some, None, option_and_then}
use Rattle.std.specs.Option.{option_to_list}
use Rattle.s0_crypto.specs.declared.ends.SealEnds.{SealEnds}
use Rattle.s0_session.specs.declared.account.Account.{Account}
use Rattle.s0_session.specs.Nonces.{unused, nonce_given, after_give, nonce_spent, after_spend}
use Rattle.s0_session.specs.Sending.{Sending}
use Rattle.inclusion.specs.declared.message.Message.{Message}
use Rattle.inclusion.specs.declared.message.Message.TheVariants.{SchemeGet, SchemeReport, NonceGet, NonceReport, Sealed, Other}
use Rattle.s0_crypto.specs.Sealing.{keys_of, unsealed_at}
use Rattle.inclusion.specs.Sealing.{sealer_after, sent_for}
use Rattle.inclusion.specs.Messages.{scheme_report, nonce_get, nonce_report, key_verify, temporary_key, message_of, nonce_named, key_set_in}

-- its node, the key that it took, the nonces that it gave the host, and what it seals
pub record Joining : Type 0 where
  pub node : ℕ
  pub key : Option (List ℕ)
  pub given : Account
  pub sealing : Sending

-- what it is then, and what it sends
pub record Joined : Type 0 where
  pub joiner : Joining
  pub replies : List (List ℕ)

-- it sends nothing
abbrev pub silent : Joining → Joined
silent joiner = record { joiner = joiner; replies = [] }

-- it holds no key, and gave and saw no nonce
abbrev pub fresh_joiner : ℕ → Joining
fresh_joiner node = record {
  node = node;
  key = None;
  given = unused;
  sealing = record { ends = record { sender = node; receiver = 1 }; seen = 0; pending = None };
}

-- it tells its scheme while it has no key
abbrev pub tells_scheme : Joining → Option (List ℕ) → Joined
tells_scheme joiner None = record { joiner = joiner; replies = scheme_report ∷ [] }
tells_scheme joiner (Some key) = silent joiner

-- it gives the host a nonce
abbrev pub gives_nonce : Joining → List ℕ → Joined
gives_nonce joiner drawn = record {
  joiner = record joiner { given = after_give joiner.given drawn };
  replies = nonce_report (nonce_given joiner.given drawn) ∷ [];
}

-- for a nonce of the host it seals what is pending under the key that it took
abbrev pub takes_nonce : Joining → List ℕ → List ℕ → Option (List ℕ) → Joined
takes_nonce joiner nonce drawn None = silent joiner
takes_nonce joiner nonce drawn (Some key) = record {
  joiner = record joiner { sealing = sealer_after joiner.sealing nonce };
  replies = option_to_list (sent_for joiner.sealing (keys_of key) nonce drawn);
}

-- it takes the key that is set, and asks for the nonce that its Verify is to be sealed for
abbrev pub takes_key : Joining → Option (List ℕ) → Joined
takes_key joiner None = silent joiner
takes_key joiner (Some key) = record {
  joiner = record joiner { key = Some key; sealing = record joiner.sealing { pending = Some key_verify } };
  replies = nonce_get ∷ [];
}

-- the ends of what the host sends it
abbrev pub from_host : ℕ → SealEnds
from_host node = record { sender = 1; receiver = node }

-- a Security message for a nonce that was live is opened by the temporary key, while it has no other
abbrev pub takes_for : Joining → List ℕ → Option (List ℕ) → Option (List ℕ) → Joined
takes_for joiner payload (Some nonce) None =
    takes_key joiner (option_and_then key_set_in (unsealed_at (keys_of temporary_key) nonce (from_host joiner.node) payload))
takes_for joiner payload _ _ = silent joiner

-- the nonce that a Security message names is spent, whether it opens or not
abbrev pub takes_sealed : Joining → List ℕ → Joined
takes_sealed joiner payload =
    takes_for (record joiner { given = after_spend joiner.given (nonce_named payload) }) payload (nonce_spent joiner.given (nonce_named payload)) joiner.key

abbrev pub takes_message : Joining → List ℕ → List ℕ → Message → Joined
takes_message joiner payload drawn SchemeGet = tells_scheme joiner joiner.key
takes_message joiner payload drawn SchemeReport = silent joiner
takes_message joiner payload drawn NonceGet = gives_nonce joiner drawn
takes_message joiner payload drawn (NonceReport nonce) = takes_nonce joiner nonce drawn joiner.key
takes_message joiner payload drawn Sealed = takes_sealed joiner payload
takes_message joiner payload drawn Other = silent joiner

-- what a payload of the host makes of it
unfoldable pub joiner_takes : Joining → List ℕ → List ℕ → Joined
joiner_takes joiner payload drawn = takes_message joiner payload drawn (message_of payload)

-- it forgets its key and what is pending; nonces stay
abbrev pub forgetful : Joining → Joining
forgetful joiner = record joiner { key = None; sealing = record joiner.sealing { pending = None } }
