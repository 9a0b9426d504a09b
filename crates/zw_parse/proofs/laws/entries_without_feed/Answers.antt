-- The text of an entry has no line feed.
use Rattle.zw_parse.proofs.EntryLaws.{without-feed}
use Rattle.zw_parse.proofs.laws.entries_without_feed.Goals as goal

pub returns : goal.returns
returns c = without-feed
