-- What the host is that adds nodes, and what each call makes of it (Z-Wave Security 0 Command Class: inclusion; the hundred
-- ticks, and what is taken while an exchange is under way, are this project's own rule, docs/INCLUSION.md).
use Rattle.std.specs.Prelude.{ℕ, ◌-◌, ◌==◌, nat_le, if◌then◌else◌, Bool, true, false, List, [], ◌∷◌, replicate, slice_set, slice_index, slice_index_or, Option, Some, None}
use Rattle.std.specs.Str.{bytes_eq}
use Rattle.std.specs.Option.{option_map, option_to_list}
use Rattle.s0_crypto.specs.declared.ends.SealEnds.{SealEnds}
use Rattle.s0_session.specs.declared.account.Account.{Account}
use Rattle.s0_session.specs.Nonces.{unused, account_of, nonce_given, after_give, nonce_spent, after_spend}
use Rattle.s0_session.specs.Sending.{Sending}
use Rattle.inclusion.specs.declared.exchange.Exchange.{Exchange}
use Rattle.inclusion.specs.declared.message.Message.{Message}
use Rattle.inclusion.specs.declared.message.Message.TheVariants.{SchemeGet, SchemeReport, NonceGet, NonceReport, Sealed, Other}
use Rattle.s0_crypto.specs.Sealing.{keys_of, unsealed_at}
use Rattle.inclusion.specs.Sealing.{sealer_after, sent_for}
use Rattle.inclusion.specs.Messages.{nonce_get, nonce_report, key_set, key_verify, temporary_key, message_of, nonce_named}

-- the network key, which nodes count as secure, the nonces given to each node and how many of each were seen, and the
-- exchange under way
pub record Including : Type 0 where
  pub key : List ℕ
  pub secure : List Bool
  pub book : List Account
  pub seen : List ℕ
  pub exchange : Option Exchange

-- what it is then, and what it sends to the node
pub record Included : Type 0 where
  pub includer : Including
  pub replies : List (List ℕ)

-- it sends nothing
abbrev pub quiet : Including → Included
quiet includer = record { includer = includer; replies = [] }

-- no node is secure, and no exchange under way
unfoldable pub fresh_includer : List ℕ → Including
fresh_includer key = record {
  key = key;
  secure = replicate 233 false;
  book = replicate 233 unused;
  seen = replicate 233 0;
  exchange = None;
}

-- whether it counts a node as secure
abbrev pub is_secure : Including → ℕ → Bool
is_secure includer node = slice_index_or includer.secure node false

-- the exchange with a node begins
abbrev pub adding : Including → ℕ → Including
adding includer node = record includer {
  exchange = Some (record {
    node = node;
    left = 100;
    asked = false;
    sender = record { ends = record { sender = 1; receiver = node }; seen = slice_index includer.seen node; pending = None };
  });
}

-- the first Scheme Report makes the key pending, and a nonce is asked for it
abbrev pub asking : List ℕ → Exchange → Bool → Exchange
asking key exchange true = exchange
asking key exchange false = record exchange { asked = true; sender = record exchange.sender { pending = Some (key_set key) } }

-- whether a nonce was asked for the key
abbrev pub has_asked : Option Exchange → Bool
has_asked None = true
has_asked (Some exchange) = exchange.asked

abbrev pub asks : Bool → List (List ℕ)
asks true = []
asks false = nonce_get ∷ []

abbrev pub takes_scheme : Including → Included
takes_scheme includer = record {
  includer = record includer { exchange = option_map (λ x. asking includer.key x x.asked) includer.exchange };
  replies = asks (has_asked includer.exchange);
}

-- a Nonce Get is answered
abbrev pub gives_nonce : Including → ℕ → List ℕ → Included
gives_nonce includer node drawn = record {
  includer = record includer { book = slice_set includer.book node (after_give (account_of includer.book node) drawn) };
  replies = nonce_report (nonce_given (account_of includer.book node) drawn) ∷ [];
}

-- for a nonce of the node the key is sealed, where it is pending
abbrev pub sealing : Exchange → List ℕ → Exchange
sealing exchange nonce = record exchange { sender = sealer_after exchange.sender nonce }

abbrev pub seals : Exchange → List ℕ → List ℕ → List (List ℕ)
seals exchange nonce drawn = option_to_list (sent_for exchange.sender (keys_of temporary_key) nonce drawn)

abbrev pub takes_nonce : Including → Option Exchange → List ℕ → List ℕ → Included
takes_nonce includer None nonce drawn = quiet includer
takes_nonce includer (Some exchange) nonce drawn = record {
  includer = record includer {
    seen = slice_set includer.seen exchange.node (sealing exchange nonce).sender.seen;
    exchange = Some (sealing exchange nonce);
  };
  replies = seals exchange nonce drawn;
}

-- the ends of what a node sends the host
abbrev pub to_host : ℕ → SealEnds
to_host node = record { sender = node; receiver = 1 }

-- what a Security message holds that names the live nonce
abbrev pub held_in : Including → ℕ → List ℕ → Option (List ℕ) → Option (List ℕ)
held_in includer node payload None = None
held_in includer node payload (Some nonce) = unsealed_at (keys_of includer.key) nonce (to_host node) payload

-- whether what was held is a Verify
abbrev pub is_verified : Option (List ℕ) → Bool
is_verified None = false
is_verified (Some plain) = bytes_eq plain key_verify

-- a Verify makes the node secure, and the exchange ends
abbrev pub verified : Including → ℕ → Bool → Including
verified includer node true = record includer { secure = slice_set includer.secure node true; exchange = None }
verified includer node false = includer

-- the nonce that a Security message names is spent, whether it opens or not
abbrev pub spending : Including → ℕ → List ℕ → Including
spending includer node payload = record includer { book = slice_set includer.book node (after_spend (account_of includer.book node) (nonce_named payload)) }

abbrev pub takes_sealed : Including → ℕ → List ℕ → Including
takes_sealed includer node payload =
    verified (spending includer node payload) node (is_verified (held_in includer node payload (nonce_spent (account_of includer.book node) (nonce_named payload))))

abbrev pub takes_message : Including → ℕ → List ℕ → List ℕ → Message → Included
takes_message includer node payload drawn SchemeGet = quiet includer
takes_message includer node payload drawn SchemeReport = takes_scheme includer
takes_message includer node payload drawn NonceGet = gives_nonce includer node drawn
takes_message includer node payload drawn (NonceReport nonce) = takes_nonce includer includer.exchange nonce drawn
takes_message includer node payload drawn Sealed = quiet (takes_sealed includer node payload)
takes_message includer node payload drawn Other = quiet includer

-- whether an exchange with a node is under way
abbrev pub is_with : Option Exchange → ℕ → Bool
is_with None node = false
is_with (Some exchange) node = exchange.node == node

-- what a payload of a node makes of it: nothing, unless the exchange under way is with that node
unfoldable pub includer_takes : Including → ℕ → List ℕ → List ℕ → Included
includer_takes includer node payload drawn =
    if is_with includer.exchange node then takes_message includer node payload drawn (message_of payload) else quiet includer

-- a tick passes in an exchange; the last one ends it
abbrev pub exchange_after : Option Exchange → Option Exchange
exchange_after None = None
exchange_after (Some exchange) = if nat_le exchange.left 1 then None else Some (record exchange { left = exchange.left - 1 })

-- the node whose exchange fails at the next tick
abbrev pub failing_in : Option Exchange → Option ℕ
failing_in None = None
failing_in (Some exchange) = if nat_le exchange.left 1 then Some exchange.node else None

-- a node counts as secure no more; nonces stay
abbrev pub without_secure : Including → ℕ → Including
without_secure includer node = record includer { secure = slice_set includer.secure node false }
