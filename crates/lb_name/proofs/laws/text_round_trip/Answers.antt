use Rattle.lb_name.proofs.TextRoundTrip.{reads_back}
use Rattle.lb_name.proofs.laws.text_round_trip.Goals as goal

pub returns : goal.returns
returns c = reads_back
