-- One wrap taken off, where the bytes begin with it; else nothing is taken off.
use Rattle.std.specs.Prelude.{◌≡◌, ℕ, List, Bool, true, false, Option, Some, None}
use Rattle.encap.specs.Begins.{IsSupervision, IsMultiChannel, IsCrc16}
use Rattle.encap.specs.Wraps.{IsSupervisionOf, IsChannelOf, crc16_text, is_crc16}
use Rattle.encap.specs.declared.plan.Plan.{Plan}
use Rattle.encap.specs.declared.plan.Supervised.{Supervised}
use Rattle.encap.specs.declared.plan.Ends.{Ends}
use Rattle.encap.specs.declared.plan.Outer.{Outer}
use Rattle.encap.specs.declared.plan.Outer.TheVariants.{None as no_outer, Crc16}

abbrev pub TakesCrc16Off : Bool → List ℕ → List ℕ → Type 0
TakesCrc16Off true inner bytes = bytes ≡ crc16_text inner
TakesCrc16Off false inner bytes = (¬ IsCrc16 bytes) × (inner ≡ bytes)

abbrev pub TakesChannelOff : Option Ends → List ℕ → List ℕ → Type 0
TakesChannelOff (Some ends) inner bytes = IsChannelOf ends inner bytes
TakesChannelOff None inner bytes = (¬ IsMultiChannel bytes) × (inner ≡ bytes)

abbrev pub TakesSupervisionOff : Option Supervised → List ℕ → List ℕ → Type 0
TakesSupervisionOff (Some session) inner bytes = IsSupervisionOf session inner bytes
TakesSupervisionOff None inner bytes = (¬ IsSupervision bytes) × (inner ≡ bytes)

-- the three taken off one after another
pub record Peels (crc : Bool) (channel : Option Ends) (session : Option Supervised) (inner bytes : List ℕ) : Type 0 where
  pub checked : List ℕ
  pub addressed : List ℕ
  pub crc16_off : TakesCrc16Off crc checked bytes
  pub channel_off : TakesChannelOff channel addressed checked
  pub supervision_off : TakesSupervisionOff session inner addressed

-- the outermost wrap of a plan that is opened
abbrev pub outer_of : Bool → Outer
outer_of true = Crc16
outer_of false = no_outer

-- a plan as it is opened: the wraps that other crates add are not seen
abbrev pub seen_of : Plan → Plan
seen_of plan = record { batch = plan.batch; session = plan.session; channel = plan.channel; outer = outer_of (is_crc16 plan.outer) }
