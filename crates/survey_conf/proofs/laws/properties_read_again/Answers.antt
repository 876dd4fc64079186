use Rattle.survey_conf.proofs.RoundTripNumbers.{NumbersAreRead}
use Rattle.survey_conf.proofs.RoundTrip.{accepted, same}
use Rattle.survey_conf.proofs.laws.properties_read_again.Goals as goal

pub returns : goal.returns
returns c =
    let law : NumbersAreRead = record { whole = c.whole_is_read.ensures; real = c.written_is_read.ensures } in
    record { accepted = λ d h. accepted law d h; same = λ d h. same law d h }
