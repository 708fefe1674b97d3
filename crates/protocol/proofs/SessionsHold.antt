-- Each session's replies, registers and image are computed from the definitions, and are those of its row.
use mathlib.Core.Path.{◌≡◌, refl}
use mathlib.Core.List.{map}
use Rattle.flash.specs.Blocks.{sized, holds, find, block_of, place_of, guarded, free}
use Rattle.flash.specs.Image.{byte_at, stored_id, is_blank, part_at, page_part, programmed, erased, permitted, burnt, program, wiped, erase_block, wiped_free, erase_all}
use Rattle.unit.specs.Phases.{command_of, need}
use Rattle.unit.specs.Model.{begun, fresh, idle, phased, longer, ended, is_open, standing}
use Rattle.unit.specs.Range.{packet_fits, position_fits, srd_fits, srd1_fits, registers_fit, blank_fits, settings_fit, in_range}
use Rattle.protocol.specs.Commands.{commands, meaning, needs_open, version_bytes, effect, dropped, commanded}
use Rattle.protocol.specs.Endings.{page_reply, bank_end, programmed_by, programs, erases, right_id, is_right, judged, counted, after_check, finished}
use Rattle.protocol.specs.Step.{wakes, asleep, body, completes, in_packet, step_at, step}
use Rattle.protocol.specs.Calls.{start_refusal, start_call, refusal, byte_call}
use Rattle.protocol.specs.Playing.{play, played, wanted}
use Rattle.protocol.specs.Sessions.{image, starred, others}

pub sessions_hold : map played starred ≡ map wanted starred
unfolding sized holds find block_of place_of guarded free byte_at stored_id is_blank part_at page_part programmed erased permitted burnt program wiped erase_block wiped_free erase_all command_of need begun fresh idle phased longer ended is_open standing packet_fits position_fits srd_fits srd1_fits registers_fit blank_fits settings_fit in_range commands meaning needs_open version_bytes effect dropped commanded page_reply bank_end programmed_by programs erases right_id is_right judged counted after_check finished wakes asleep body completes in_packet step_at step start_refusal start_call refusal byte_call play played wanted image starred others
sessions_hold = refl

pub others_hold : map played others ≡ map wanted others
unfolding sized holds find block_of place_of guarded free byte_at stored_id is_blank part_at page_part programmed erased permitted burnt program wiped erase_block wiped_free erase_all command_of need begun fresh idle phased longer ended is_open standing packet_fits position_fits srd_fits srd1_fits registers_fit blank_fits settings_fit in_range commands meaning needs_open version_bytes effect dropped commanded page_reply bank_end programmed_by programs erases right_id is_right judged counted after_check finished wakes asleep body completes in_packet step_at step start_refusal start_call refusal byte_call play played wanted image starred others
others_hold = refl
