use Rattle.std.proofs.Common.{[], ◌∷◌, refl}
use Rattle.zw_words.specs.declared.side.Side.TheVariants.{Chip, Host}
use Rattle.serial_link.specs.Calls.{submit_step}
use Rattle.law_wire.specs.WorkedCourses.{calling_back, hears_ack, hears_frame, quiet_tick}
use Rattle.law_wire.specs.WorkedLinks.{a_collision, a_tick, asks, gives_up, steps_before}
use Rattle.law_wire.proofs.Judging.{ticks_in_time}
use Rattle.law_wire.proofs.moments.worked_ticks.Goals as goal

pub returns-clause-one : goal.returns-clause-one
returns-clause-one c = ticks_in_time Host (a_tick ∷ []) (steps_before (quiet_tick ∷ [])) refl

pub returns-clause-hears : goal.returns-clause-hears
returns-clause-hears c = ticks_in_time Host (a_tick ∷ []) (steps_before (quiet_tick ∷ hears_frame calling_back ∷ [])) refl

pub returns-clause-submits : goal.returns-clause-submits
returns-clause-submits c = ticks_in_time Host (a_tick ∷ []) (steps_before (quiet_tick ∷ submit_step calling_back ∷ [])) refl

pub returns-clause-chip_submits : goal.returns-clause-chip_submits
returns-clause-chip_submits c = ticks_in_time Chip (a_tick ∷ []) (steps_before (submit_step calling_back ∷ quiet_tick ∷ [])) refl

pub returns-clause-chip_heard : goal.returns-clause-chip_heard
returns-clause-chip_heard c = ticks_in_time Chip (a_tick ∷ []) (steps_before (quiet_tick ∷ hears_ack ∷ submit_step calling_back ∷ [])) refl

pub returns-clause-chip_gave_up : goal.returns-clause-chip_gave_up
returns-clause-chip_gave_up c = ticks_in_time Chip (a_tick ∷ []) (steps_before (gives_up ∷ submit_step calling_back ∷ [])) refl

pub returns-clause-line : goal.returns-clause-line
returns-clause-line c = ticks_in_time Host ([]) (steps_before (submit_step calling_back ∷ [])) refl

pub returns-clause-collides : goal.returns-clause-collides
returns-clause-collides c = ticks_in_time Chip (a_collision ∷ []) (steps_before (asks ∷ hears_frame calling_back ∷ [])) refl
