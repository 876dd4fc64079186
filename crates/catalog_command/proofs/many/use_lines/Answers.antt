use Rattle.std.proofs.Common.{ℕ, ◌++◌, List, ◌∷◌, [], take, map, sym, ◌∙◌, subst, arith}
use Rattle.std.specs.Prelude.{Vec}
use Rattle.std.specs.declared.alloc.Global.{Global}
use Rattle.catalog_command.specs.Lines.{after_line}
use Rattle.catalog_command.specs.Answers.{IsAnswered, AreAnswered}
use Rattle.catalog_command.proofs.Answering.{more_answered}
use Rattle.catalog_command.proofs.Shelves.{map_more}
use Rattle.catalog_command.proofs.many.use_lines.Goals as goal

abbrev content : Vec ℕ Global → List ℕ
content line = line.items

pub loop-line-preserved : goal.loop-line-preserved
loop-line-preserved c =
    let one = subst (λ text. IsAnswered (after_line c.loop-line.catalog text) c.loop-line.catalog c.use_line.result c.use_line.new.catalog) c.deref.ensures.value c.use_line.ensures.answered in
    let more = more_answered (map content (take c.loop-line.line-index c.args.lines.now)) (content c.line-item.result) c.args.catalog.now c.loop-line.catalog c.use_line.new.catalog c.loop-line.answers.items
    c.use_line.result c.loop-line.invariant.answered one in
    let lines = map_more content c.args.lines.now c.loop-line.line-index c.line-item.result c.loop-line-test.true c.line-item.is in
    let pushed = subst (λ answers. AreAnswered (map content (take c.loop-line.line-index c.args.lines.now) ++ content c.line-item.result ∷ []) c.args.catalog.now answers c.use_line.new.catalog)
    (sym c.push_reserved.ensures.items) more in
    record {
      answered = subst (λ texts. AreAnswered texts c.args.catalog.now c.push_reserved.new.self.items c.use_line.new.catalog) (sym lines) pushed;
      count = omega (arith, c.push_reserved.ensures.len, c.loop-line.invariant.count);
      room = c.push_reserved.ensures.capacity ∙ c.loop-line.invariant.room;
      top = c.use_line.ensures.top ∙ c.loop-line.invariant.top;
    }
