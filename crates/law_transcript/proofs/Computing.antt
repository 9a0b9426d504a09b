use Rattle.std.specs.Prelude.{⊤}
use Rattle.zw_base.specs.Crc.{times_generator, dividend, left_after, crc}
use Rattle.zw_words.specs.Fields.{next, ends, last}
use Rattle.zw_words.specs.Forms.{digits_in, number_in, between_in, target_in, value_in, side_in, hex_in}
use Rattle.zw_words.specs.Words.{words, line_words}
use Rattle.zw_text.specs.Line.{line_word_in, line_by}
use Rattle.hex.specs.Hex.{decode_pairs}
use Rattle.host_orders.specs.Classes.{lists, actuator_of}
use Rattle.host_orders.specs.Refusals.{known_refusal, first_refusal}
use Rattle.host_orders.specs.Errands.{sendable_of, sendable_refusal, send_refusal, gettable_of, gettable_refusal, get_refusal}
use Rattle.chip_functions.specs.Request.{send_data_at, get_routing_info_at, add_request_at, request_at, request_of}
use Rattle.chip_functions.specs.Notice.{received_at, request_failed_at, handler_at, callback_at, add_notice_at, update_at, notice_at, notice_of}
use Rattle.class_core.specs.Reading.{byte_at, limited_at, bits_at, switch_at, lock_at, word_at, three_at, flag_at, in_class}
use Rattle.class_core.specs.MessageReading.{interval_set_at, message_at}
use Rattle.class_info.specs.InfoReading.{status_at, supervision_report_at, transport_request_at, own_at, shared_at, info_at}
use Rattle.encap.specs.Opening.{opened_at}
use Rattle.host_heard.specs.Telling.{heard_at}
use Rattle.host_keep.specs.Kept.{first_nodes, after_all}
use Rattle.device_sim.specs.Event.{outcome_of, device_after, device_replies}
use Rattle.device_sim.specs.device_stack.Effects.{effect_of}
use Rattle.device_sim.specs.device_stack.Hearing.{answers, answers_bytes, hears_openly, hears}
use Rattle.device_sim.specs.device_kinds.Judging.{judged_message}
use Rattle.device_sim.specs.device_stack.Showing.{shown_of}
use Rattle.device_sim.specs.device_kinds.Telling.{told}
use Rattle.device_sim.specs.device_stack.Ticking.{ticked, woken, set_by_hand}

-- what an answer unfolds to compute what a transcript shows of lines and orders
unfoldable pub computing_lines : ⊤
unfolding next ends last digits_in number_in between_in target_in value_in side_in hex_in words line_words line_word_in line_by
    decode_pairs lists actuator_of known_refusal first_refusal sendable_of sendable_refusal send_refusal gettable_of
    gettable_refusal get_refusal
computing_lines = tt

-- and of units, payloads and checks
unfoldable pub computing : ⊤
unfolding computing_lines send_data_at get_routing_info_at add_request_at request_at request_of received_at request_failed_at
    handler_at callback_at add_notice_at update_at notice_at notice_of heard_at byte_at limited_at bits_at switch_at lock_at word_at
    three_at flag_at in_class interval_set_at message_at status_at supervision_report_at transport_request_at own_at shared_at info_at
    opened_at times_generator dividend left_after crc
computing = tt

-- and of devices and records
unfoldable pub computing_devices : ⊤
unfolding computing outcome_of device_after device_replies effect_of answers answers_bytes hears_openly hears judged_message shown_of
    told ticked woken set_by_hand first_nodes after_all
computing_devices = tt
