use Rattle.call_model.proofs.AdmissionLimits.{within_reservation, within_remainder, ever_within_reservation, ever_within_remainder}
use Rattle.call_model.proofs.Charges.{charged_count}
use Rattle.call_model.proofs.Flight as F
use Rattle.call_model.proofs.FlightStep.{flight_step}
use Rattle.call_model.proofs.laws.counted.Goals as goal

pub returns : goal.returns
returns c = record {
  reserved = within_reservation;
  unreserved = within_remainder;
  always_reserved = ever_within_reservation;
  always_unreserved = ever_within_remainder;
  taken = charged_count;
  flight = F.flight;
  flight_moves = flight_step;
}
