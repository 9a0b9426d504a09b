-- The laws by which a transcript, with the table after it, keeps every rule of `audit` (this project's own rule).
use Rattle.std.specs.Prelude.{List}
use Rattle.std.specs.List.{AllByRecursion}
use Rattle.device_stack.specs.State.{State}
use Rattle.zw_text.specs.declared.entry.Entry.{Entry}
use Rattle.law_transcript.specs.Carrying.{CarriesUnits}
use Rattle.law_transcript.specs.Fates.{FaresInTurn, NumbersFrames}
use Rattle.law_transcript.specs.Headline.{Headline}
use Rattle.law_transcript.specs.Nodes.{listing_of}
use Rattle.law_wire.specs.Shown.{ShowsDevices}
use Rattle.law_wire.specs.Times.{TellsTime}
use Rattle.proof_headline.specs.proof_device.Showing.{AreApart, IsShown}
use Rattle.proof_host.specs.Laws.{HostLaws}
use Rattle.proof_transcript.specs.Devices.{GroupsSessions}
use Rattle.proof_audit.specs.Books.{AreAsked, ArePieces, ChangesBegun, IsOfItsKind}
use Rattle.proof_audit.specs.Frames.{ShowLines}
use Rattle.proof_audit.specs.Tables.{StoresDirectly}

-- of a run that began with the first devices and left the others
pub record KeepsLaws (before after : List State) (transcript : List Entry) : Type 0 where
  -- commands, sessions and devices
  pub host : HostLaws transcript
  pub asked : AreAsked (listing_of before) transcript
  pub headline : Headline before after transcript
  pub changes : AllByRecursion (IsShown transcript) after
  pub kinds : AllByRecursion IsOfItsKind after
  pub groups : AllByRecursion (GroupsSessions transcript) after
  pub apart : AreApart after
  pub whole : ArePieces after transcript
  pub begun : ChangesBegun transcript
  -- frames and ticks
  pub lines : ShowLines transcript
  pub numbers : NumbersFrames transcript
  pub fates : FaresInTurn transcript
  pub ticks : TellsTime transcript
  pub carries : CarriesUnits transcript
  -- what is confirmed, and what is shown of devices
  pub stores : StoresDirectly (listing_of before) transcript
  pub shows : ShowsDevices before transcript
