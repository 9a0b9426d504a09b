-- What the records of the first life give.
use Rattle.std.proofs.Common.{[], ◌∷◌, map, refl, arith}
use Rattle.zw_base.specs.declared.order.Word.TheVariants.{Off}
use Rattle.zw_base.specs.declared.order.What.TheVariants.{Value}
use Rattle.host_keep.specs.Kept.{kept_of}
use Rattle.host_keep.specs.Legal.{Give, first_illegal}
use Rattle.host_keep.specs.RecordText.{record_text}
use Rattle.law_time.proofs.law_transcript_Computing.{computing_devices}
use Rattle.law_time.proofs.ShownRecords.{begun_in, bytes_are, ended_in, gives, node_2, node_5, on_in, order_in}
use Rattle.law_host.specs.Worked.{life_records}

pub gives_life : Give (map record_text life_records) (kept_of life_records)
unfolding computing_devices first_illegal
gives_life = gives life_records (
  node_5,
  ((node_5, bytes_are (0x31 ∷ 0x80 ∷ 0x84 ∷ 0x6C ∷ []) refl), (on_in, (begun_in, (ended_in, (order_in 2 2 (Value Off) (omega arith) node_2 tt, tt))))),
) refl
