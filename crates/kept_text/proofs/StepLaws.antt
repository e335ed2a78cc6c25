-- The laws of steps, which the reading of records states.
use Rattle.segment_records.proofs.BodyLaws.{whole_is_body, whole_then_more}
use Rattle.segment_records.proofs.FaultLaws.{steps_tell_faults}
use Rattle.segment_records.proofs.Forgets.{forgets_before}
use Rattle.segment_records.proofs.ModeLaws.{steps_are_modes}
use Rattle.segment_records.proofs.PlaceLaws.{steps_tell_places}

pub ruleset step_laws = (
  whole_is_body,
  steps_are_modes,
  steps_tell_faults,
  steps_tell_places,
  whole_then_more,
  forgets_before,
)
