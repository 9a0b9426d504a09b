-- Nonces that payloads show (Z-Wave Security 0 Command Class: Nonce Report; what counts as new is this project's own rule,
-- docs/AIR.md).
use Rattle.std.specs.Prelude.{ℕ, ◌+◌, ◌==◌, ◌&&◌, not, nat_le, nat_eq, if◌then◌else◌, Bool, true, Option, Some, None, List, length, take, drop, slice_index}
use Rattle.std.specs.Cmp.Lexicographic.{pointwise}
use Rattle.air_frames.specs.declared.frame.Heading.{Heading}
use Rattle.air_frames.specs.declared.frame.Heading.TheVariants.{Outward, Homeward}
use Rattle.air_frames.specs.declared.nonces.Nonces.{Nonces}

-- the nonce of a Nonce Report: the eight bytes after class and command
abbrev pub nonce_in : List ℕ → Option (List ℕ)
nonce_in payload =
    if nat_le 10 (length payload) && ((slice_index payload 0 == 0x98) && (slice_index payload 1 == 0x80))
    then Some (take 8 (drop 2 payload)) else None

-- a nonce is news where it is the first, or another than the one before
abbrev pub is_news : Option (List ℕ) → List ℕ → Bool
is_news None nonce = true
is_news (Some before) nonce = not (pointwise nat_eq before nonce)

-- none was shown
abbrev pub none_shown : Nonces
none_shown = record { shown = 0; outward = None; homeward = None }

-- the nonce that was shown last in a direction
abbrev pub last_of : Nonces → Heading → Option (List ℕ)
last_of nonces Outward = nonces.outward
last_of nonces Homeward = nonces.homeward

-- that nonce becomes another
abbrev pub with_last : Nonces → Heading → List ℕ → Nonces
with_last nonces Outward nonce = record nonces { outward = Some nonce }
with_last nonces Homeward nonce = record nonces { homeward = Some nonce }

-- the counts after a nonce, or after a payload without one
abbrev pub counting_nonce : Nonces → Heading → Option (List ℕ) → Nonces
counting_nonce nonces heading None = nonces
counting_nonce nonces heading (Some nonce) =
    with_last (record nonces { shown = if is_news (last_of nonces heading) nonce then nonces.shown + 1 else nonces.shown }) heading nonce

-- the counts after a payload
abbrev pub counting : Nonces → Heading → List ℕ → Nonces
counting nonces heading payload = counting_nonce nonces heading (nonce_in payload)
