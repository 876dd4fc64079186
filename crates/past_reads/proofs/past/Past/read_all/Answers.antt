use Rattle.std.proofs.Common.{◌+◌, ◌∙◌, take, sym, subst, arith}
use Rattle.tile_path.specs.Spelling.{spelling}
use Rattle.past_reads.specs.Answers.{past_answer, past_answers, IsAnswered, AreAnswered}
use Rattle.past_reads.proofs.Answering.{read_more}
use Rattle.past_reads.proofs.past.Past.read_all.Goals as goal

pub loop-read-preserved : goal.loop-read-preserved
loop-read-preserved g c =
    let d = c.args.self.now.conf in
    let journal = c.args.journal.now in
    let reads = c.args.reads.now in
    let i = c.loop-read.read-index in
    let read = c.read-item.result in
    let known = c.loop-read.invariant in
    let one = subst (λ conf. IsAnswered (past_answer conf journal.opening journal.batches read.k (spelling read.path)) c.answer.result) known.conf c.answer.ensures.answered in
    let more = read_more d journal reads i read c.loop-read.answers.items c.answer.result c.loop-read-test.true c.read-item.is known.answered one in
    record {
      answered = subst (AreAnswered (past_answers d journal (take (i + 1) reads))) (sym c.push_reserved.ensures.items) more;
      count = omega (arith, c.push_reserved.ensures.len, known.count);
      room = c.push_reserved.ensures.capacity ∙ known.room;
      conf = c.answer.ensures.conf ∙ known.conf;
      goes_on = c.answer.ensures.goes_on;
      never_falls = omega (arith, known.never_falls, c.answer.ensures.never_falls);
    }
