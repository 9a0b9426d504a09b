-- Records of a keeper with the transcripts that show them, and both with one thing wrong; made by hand.
use Rattle.std.specs.Prelude.{true, false, List, [], ◌∷◌, ◌++◌, codes, replicate, take, drop}
use Rattle.zw_base.specs.declared.order.Word.TheVariants.{On, Off}
use Rattle.zw_base.specs.declared.order.What.TheVariants.{Value, Bulk, Interval}
use Rattle.law_transcript.specs.host_keep.declared.final_status.FinalStatus.TheVariants.{Success}
use Rattle.law_transcript.specs.host_keep.declared.record.Record.{Record}
use Rattle.law_transcript.specs.host_keep.declared.record.Record.TheVariants as records
use Rattle.zw_text.specs.declared.entry.Ended.TheVariants as endings
use Rattle.zw_text.specs.declared.entry.Entry.{Entry}
use Rattle.zw_text.specs.declared.entry.Entry.TheVariants.{Said, Accepted, Out}
use Rattle.law_transcript.specs.Worked.{plain_exchange}
use Rattle.law_transcript.specs.WorkedDevices.{plain_records}

-- `set 2 on`: the session begins, and has not ended
abbrev pub still_begun : List Entry
still_begun = take 3 plain_exchange

abbrev pub begun_records : List Record
begun_records = take 2 plain_records

-- `set 2 on`, `cancel 1`: a command that waits is taken back
abbrev pub taken_back : List Entry
taken_back = Said (codes "set 2 on") ∷ Accepted 1 2 ∷ Said (codes "cancel 1") ∷ Out 1 endings.Cancelled ∷ []

abbrev pub cancelling_records : List Record
cancelling_records = records.Accepted 1 (record { node = 2; end = 0; what = Value On }) ∷ records.Cancelled 1 ∷ []

-- the records of the exchange whose first attempts are lost, and of the order that is taken back while another is under way
abbrev pub lossy_records : List Record
lossy_records =
    take 2 plain_records ++ records.Accepted 2 (record { node = 2; end = 0; what = Value Off })
    ∷ records.Final 2 1 Success ∷ records.Begun 2 2 2 ∷ records.Final 2 2 Success ∷ []

abbrev pub cancelled_records : List Record
cancelled_records =
    take 2 plain_records ++ records.Accepted 2 (record { node = 2; end = 0; what = Value Off }) ∷ records.Cancelled 2 ∷ records.Final 2 1 Success ∷ []

-- of the sleeping node: it joins, is interviewed, is set once, and a second order waits
abbrev pub sleeping_records : List Record
sleeping_records =
    records.Joined 5 ∷ records.Classes 5 false (0x31 ∷ 0x80 ∷ 0x84 ∷ 0x6C ∷ []) ∷ records.Accepted 1 (record { node = 5; end = 0; what = Interval 300 })
    ∷ records.Begun 5 1 1 ∷ records.Final 5 1 Success ∷ records.Accepted 2 (record { node = 5; end = 0; what = Interval 600 }) ∷ []

-- of the lock: one nonce of it is seen, and one that it is given is spent
abbrev pub sealed_records : List Record
sealed_records =
    records.Joined 4 ∷ records.Classes 4 true (0x62 ∷ 0x98 ∷ 0x6C ∷ []) ∷ records.Accepted 1 (record { node = 4; end = 0; what = Value On })
    ∷ records.Begun 4 1 1 ∷ records.Seen 4 1 ∷ records.Given 4 1 (0x01 ∷ 0x9E ∷ 0x0A ∷ 0x12 ∷ 0x49 ∷ 0xBB ∷ 0x59 ∷ 0x4F ∷ [])
    ∷ records.Spent 4 ∷ records.Final 4 1 Success ∷ []

-- of the message in two segments
abbrev pub cut_records : List Record
cut_records =
    records.Joined 8 ∷ records.Classes 8 true (0x70 ∷ 0x55 ∷ 0x6C ∷ []) ∷ records.Accepted 1 (record { node = 8; end = 0; what = Bulk 0 (replicate 37 1) })
    ∷ records.Begun 8 1 1 ∷ records.Final 8 1 Success ∷ []

-- ---- with one thing wrong

-- the records of the plain exchange with another order
abbrev pub ordered_otherwise : List Record
ordered_otherwise = records.Accepted 1 (record { node = 2; end = 0; what = Value Off }) ∷ drop 1 plain_records

-- they begin with the use of a nonce that was not given
abbrev pub spent_ungiven : List Record
spent_ungiven = records.Spent 2 ∷ plain_records

-- the command is taken back in its session, of which the records say nothing
abbrev pub taken_back_late : List Entry
taken_back_late = still_begun ++ Out 1 endings.Cancelled ∷ []

-- the command is given up, and the records say that it is taken back
abbrev pub given_up : List Entry
given_up = take 3 taken_back ++ Out 1 endings.Unanswered ∷ []
