-- The marked cases, proved together by computation.
use mathlib.Core.Path.{refl}
use Rattle.bits.specs.Bits.{bit, number as number_of, word}
use Rattle.bits.specs.Every.{every}
use Rattle.bits.specs.Lists.{listed, replaced}
use Rattle.times.specs.Codes.{nanos_of, power_of, allowed}
use Rattle.times.specs.Moments.{sum_of, least_of}
use Rattle.registers.specs.Rows.{endpoint_table, find, endpoint_row, row_of, reads_zero, default_must_be_zero, default_allowed, starts_flr}
use Rattle.registers.specs.Words.{lane_mask, read_word, write_bit, write_word, reset_bit, link_reset, flr_reset, hardware_set, starts_d3hot}
use Rattle.registers.specs.inner.Masks.{held as held_bits}
use Rattle.config_space.specs.Functions.{reset_where, link_reset_slot, flr_reset_slot, link_reset_all, cold_reset}
use Rattle.messages.specs.Messages.{layout, subtype_of, frs_read, frs_allowed, read_message}
use Rattle.frs_queue.specs.Queue.{counted, place_of, queues, drops, arrives, arrive_all, removed, register_of}
use Rattle.readiness.specs.Status.{all_ready_from, each_from, ready_after_link_up, after_reset, after_link_down, after_cold_reset, started_by_flr, started_by_d3hot}
use Rattle.readiness.specs.Root.{frs_arrive, frs_of_drs, drs_set, drs_arrives}
use Rattle.readiness.specs.Events.{insert, insert_all, due_from, frs_of_slot, frs_of}
use Rattle.readiness.specs.Settle.{happens, tells, moment_ends, happen_all, settles, advances}
use Rattle.trace.specs.Format.{size_of, known, body, whole, next, begun}
use Rattle.trace.specs.Bench.{cut_in, cut, runs, plain}
use Rattle.records.specs.Decode.{four, decode}
use Rattle.records.specs.Answer.{answer_bytes, answered}
use Rattle.records.specs.State.{kind_of_entry}
use Rattle.records.specs.Route.{reads_vendor_id, crs_of, pending_route, phase_route, route_of, crs_data}
use Rattle.records.specs.Requests.{after_flr, after_d3hot, write_seat, read_effect, write_effect, hardware_effect}
use Rattle.records.specs.PortRecords.{message_done, message_effect, cleared_dev, control_of, control_effect, status_bits}
use Rattle.records.specs.CardRecords.{advance_effect, link_up_effect, link_down_effect, cold_reset_effect}
use Rattle.records.specs.Run.{effect, run}
use Rattle.demand3.specs.Refusals.{lengths_fit, queue_fits, codes_allowed, all_codes_allowed, words_allowed, all_defaults_allowed, first_failed, set_up_tests, set_up_refusal}
use Rattle.demand3.specs.SettingUp.{fresh_held, sets_up}
use Rattle.records.specs.Device.{in_bytes}
use Rattle.demand3.specs.MarkedCases.{MarkedCases}

-- ALL TEN
pub marked : MarkedCases
unfolding bit number_of word listed replaced nanos_of power_of allowed sum_of least_of endpoint_table find endpoint_row row_of reads_zero default_must_be_zero default_allowed starts_flr lane_mask held_bits read_word write_bit write_word reset_bit link_reset flr_reset hardware_set reset_where link_reset_slot flr_reset_slot link_reset_all cold_reset layout subtype_of frs_read frs_allowed read_message counted place_of queues drops arrives arrive_all removed register_of kind_of_entry all_ready_from each_from ready_after_link_up after_reset after_link_down after_cold_reset started_by_flr started_by_d3hot frs_arrive frs_of_drs drs_set drs_arrives insert insert_all due_from frs_of_slot frs_of happens tells moment_ends happen_all settles advances size_of known body whole next begun cut_in cut runs plain four decode answer_bytes answered reads_vendor_id crs_of pending_route phase_route route_of crs_data starts_d3hot after_flr after_d3hot write_seat read_effect write_effect hardware_effect message_done message_effect cleared_dev control_of control_effect status_bits advance_effect link_up_effect link_down_effect cold_reset_effect effect run in_bytes every lengths_fit queue_fits codes_allowed all_codes_allowed words_allowed all_defaults_allowed first_failed set_up_tests set_up_refusal fresh_held sets_up
marked = refl
