use Rattle.std.specs.Prelude.{⊤}
use Rattle.class_core.specs.Reading.{nodes_at}
use Rattle.class_core.specs.MessageReading.{association_at}
use Rattle.class_info.specs.InfoReading.{nonce_at}
use Rattle.law_wire.specs.device_kinds.Judging.{judged_message, judged_members, member_count}
use Rattle.law_wire.specs.device_kinds.Kind.{nodes_from}
use Rattle.chip_functions.specs.Mask.{nodes_of}
use Rattle.chip_functions.specs.Response.{init_data_at, capabilities_at, version_at, memory_id_at, protocol_info_at, response_at, response_of}
use Rattle.law_wire.proofs.law_transcript_Computing.{computing as shown}

-- what an answer unfolds to compute what a transcript shows, with responses and devices
unfoldable pub computing : ⊤
unfolding shown nonce_at init_data_at capabilities_at version_at memory_id_at protocol_info_at response_at response_of nodes_of association_at
    nodes_at judged_message judged_members member_count nodes_from
computing = tt
