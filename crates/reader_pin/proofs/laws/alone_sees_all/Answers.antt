use Rattle.survey_core.specs.History.{AppendsBatch}
use Rattle.reader_pin.specs.Board.{Publishes}
use Rattle.reader_pin.proofs.AloneLemmas.{stays-alone, happens-alone, whole-alone}
use Rattle.reader_pin.proofs.laws.alone_sees_all.Goals as goal

pub returns : goal.returns
returns c = record {
  stays = stays-alone;
  appends = λ batch old new legal before after event. happens-alone (AppendsBatch old.opening batch) old new legal before after event;
  publishes = λ k old new legal before after event. happens-alone (Publishes k) old new legal before after event;
  whole = whole-alone;
}
