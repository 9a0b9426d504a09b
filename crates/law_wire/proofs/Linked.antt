-- The links of the worked transcripts, as what their sides do is read off them.
use Rattle.std.proofs.Common.{refl}
use Rattle.std.specs.Prelude.{true}
use Rattle.zw_words.specs.declared.side.Side.TheVariants.{Host, Chip}
use Rattle.law_transcript.specs.Worked.{plain_exchange, repeated_exchange, lossy_exchange, cancelled_order, restarted_host, sleeping_node, sealed_exchange, long_message}
use Rattle.law_wire.specs.Serial.{ended}
use Rattle.law_wire.specs.Links.{KeepsLink, KeepsLinks}
use Rattle.law_wire.proofs.Computing.{reckoning}
use Rattle.law_wire.proofs.Judging.{both_links, keeps_link}
use Rattle.law_wire.proofs.Moves.{acts_of}

unfoldable pub plain_chip : KeepsLink Chip (ended true plain_exchange)
unfolding reckoning
plain_chip = keeps_link Chip (ended true plain_exchange) (acts_of Chip (ended true plain_exchange)) refl refl refl refl refl

pub plain_links : KeepsLinks true plain_exchange
unfolding reckoning keeps_link plain_chip
plain_links = both_links true plain_exchange plain_chip (keeps_link Host (ended true plain_exchange) (acts_of Host (ended true plain_exchange)) refl refl refl refl refl) refl refl

unfoldable pub repeated_chip : KeepsLink Chip (ended true repeated_exchange)
unfolding reckoning
repeated_chip = keeps_link Chip (ended true repeated_exchange) (acts_of Chip (ended true repeated_exchange)) refl refl refl refl refl

pub repeated_links : KeepsLinks true repeated_exchange
unfolding reckoning keeps_link repeated_chip
repeated_links = both_links true repeated_exchange repeated_chip (keeps_link Host (ended true repeated_exchange) (acts_of Host (ended true repeated_exchange)) refl refl refl refl refl) refl refl

unfoldable pub lossy_chip : KeepsLink Chip (ended true lossy_exchange)
unfolding reckoning
lossy_chip = keeps_link Chip (ended true lossy_exchange) (acts_of Chip (ended true lossy_exchange)) refl refl refl refl refl

pub lossy_links : KeepsLinks true lossy_exchange
unfolding reckoning keeps_link lossy_chip
lossy_links = both_links true lossy_exchange lossy_chip (keeps_link Host (ended true lossy_exchange) (acts_of Host (ended true lossy_exchange)) refl refl refl refl refl) refl refl

unfoldable pub cancelled_chip : KeepsLink Chip (ended true cancelled_order)
unfolding reckoning
cancelled_chip = keeps_link Chip (ended true cancelled_order) (acts_of Chip (ended true cancelled_order)) refl refl refl refl refl

pub cancelled_links : KeepsLinks true cancelled_order
unfolding reckoning keeps_link cancelled_chip
cancelled_links = both_links true cancelled_order cancelled_chip (keeps_link Host (ended true cancelled_order) (acts_of Host (ended true cancelled_order)) refl refl refl refl refl) refl refl

unfoldable pub restarted_chip : KeepsLink Chip (ended true restarted_host)
unfolding reckoning
restarted_chip = keeps_link Chip (ended true restarted_host) (acts_of Chip (ended true restarted_host)) refl refl refl refl refl

pub restarted_links : KeepsLinks true restarted_host
unfolding reckoning keeps_link restarted_chip
restarted_links = both_links true restarted_host restarted_chip (keeps_link Host (ended true restarted_host) (acts_of Host (ended true restarted_host)) refl refl refl refl refl) refl refl

unfoldable pub sleeping_chip : KeepsLink Chip (ended true sleeping_node)
unfolding reckoning
sleeping_chip = keeps_link Chip (ended true sleeping_node) (acts_of Chip (ended true sleeping_node)) refl refl refl refl refl

pub sleeping_links : KeepsLinks true sleeping_node
unfolding reckoning keeps_link sleeping_chip
sleeping_links = both_links true sleeping_node sleeping_chip (keeps_link Host (ended true sleeping_node) (acts_of Host (ended true sleeping_node)) refl refl refl refl refl) refl refl

unfoldable pub sealed_chip : KeepsLink Chip (ended true sealed_exchange)
unfolding reckoning
sealed_chip = keeps_link Chip (ended true sealed_exchange) (acts_of Chip (ended true sealed_exchange)) refl refl refl refl refl

pub sealed_links : KeepsLinks true sealed_exchange
unfolding reckoning keeps_link sealed_chip
sealed_links = both_links true sealed_exchange sealed_chip (keeps_link Host (ended true sealed_exchange) (acts_of Host (ended true sealed_exchange)) refl refl refl refl refl) refl refl

unfoldable pub cut_chip : KeepsLink Chip (ended true long_message)
unfolding reckoning
cut_chip = keeps_link Chip (ended true long_message) (acts_of Chip (ended true long_message)) refl refl refl refl refl

pub cut_links : KeepsLinks true long_message
unfolding reckoning keeps_link cut_chip
cut_links = both_links true long_message cut_chip (keeps_link Host (ended true long_message) (acts_of Host (ended true long_message)) refl refl refl refl refl) refl refl
