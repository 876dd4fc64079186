use Rattle.std.proofs.Common.{◌≡◌, ℕ, length, map, take, vec_len}
use Rattle.std.specs.Prelude.{vec_capacity, Vec}
use Rattle.std.specs.declared.alloc.Global.{Global}
use Rattle.catalog_command.specs.Answers.{AreAnswered}
use Rattle.catalog_command.proofs.many.use_lines.Given as goal

abbrev pub invariant-loop-line : goal.invariant-loop-line
invariant-loop-line l = record {
  answered : AreAnswered (map (λ (line : Vec ℕ Global). line.items) (take l.line-index l.lines)) l.fn.catalog l.answers.items l.catalog;
  count : vec_len l.answers ≡ l.line-index;
  room : vec_capacity l.answers ≡ length l.lines;
  top : l.catalog.top ≡ l.fn.catalog.top;
}
