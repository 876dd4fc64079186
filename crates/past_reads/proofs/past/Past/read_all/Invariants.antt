use Rattle.std.proofs.Common.{◌≡◌, ◌≤◌, length, take, vec_len}
use Rattle.std.specs.Prelude.{vec_capacity}
use Rattle.past_reads.specs.Past.{GoesOnFrom}
use Rattle.past_reads.specs.Answers.{past_answers, AreAnswered}
use Rattle.past_reads.proofs.past.Past.read_all.Given as goal

abbrev pub invariant-loop-read : goal.invariant-loop-read
invariant-loop-read g l = record {
  answered : AreAnswered (past_answers l.fn.self.conf l.journal (take l.read-index l.reads)) l.answers.items;
  count : vec_len l.answers ≡ l.read-index;
  room : vec_capacity l.answers ≡ length l.reads;
  conf : l.self.conf ≡ l.fn.self.conf;
  goes_on : GoesOnFrom l.self l.journal;
  never_falls : l.fn.steps ≤ l.steps;
}
