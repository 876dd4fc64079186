use Rattle.std.proofs.Common.{inl, inr, [], ◌∷◌, ◌++◌, Err, refl, ap, ◌∙◌, arith}
use Rattle.std.specs.Prelude.{IsSome}
use Rattle.std.proofs.lemmas.Grind.{common_steps}
use Rattle.hips_place.specs.Place.{door_of}
use Rattle.hips_place.proofs.PlaceLemmas.{begins_place, one_more, ends_whole, ends_refused}
use Rattle.hips_place.proofs.place.serve_place.Goals as goal
use Rattle.hips_place.proofs.place.serve_place.Goals.{then-is_none, else-is_none}

pub loop-count-init : goal.loop-count-init
loop-count-init g c = record {
  so_far = (
    [],
    begins_place (record { board = g.B.Board.content c.args.board.now; steps = c.args.steps.now }) (door_of g.D.Door c.args.door.now) c.last-legal.ensures.legal c.last-legal.ensures.owned,
  );
  room = tt;
  steps = omega arith;
}

pub loop-count-preserved : goal.loop-count-preserved
loop-count-preserved g c =
    let i = c.loop-count.invariant in
    let accepted = c.in-Ok-Some.ensures in
    let e = c.serve_connection-session.ensures in
    let asked = elim c.if-is_none.branch as (λ _. IsSome c.loop-count.frame → IsSome c.if-is_none.frame) [
      | then-is_none w ↦ λ some. grind (arith, common_steps, some, w.if-is_none, c.is_none.ensures)
      | else-is_none w ↦ λ some. rw w.frame-is some
    ] in
    record {
      so_far = (
        i.so_far.0 ++ e.gives_back.session ∷ [],
        one_more c.loop-count.count c.loop-count.frame c.if-is_none.frame c.serve_connection-session.new.frame _ i.so_far.1 (door_of g.D.Door c.accept.new.self) (door_of g.D.Door c.serve_connection-session.new.door)
            (record { board = g.B.Board.content c.serve_connection-session.new.board; steps = c.serve_connection-session.new.steps }) _ c.serve_connection-session.result c.after-end.result
            (rw c.in-Ok-Some.field-0-is at accepted.next) accepted.sound.0 accepted.sound.1 e.gives_back asked e.ran_out e.kept c.after-end.ensures.ran_out c.after-end.ensures.other,
      );
      room = e.room;
      steps = (let before = i.steps in let here = e.steps_never_fall in omega arith);
    }

-- ---- how it ended

pub returns-in-Ok-None-clause-place : goal.returns-in-Ok-None-clause-place
returns-in-Ok-None-clause-place g c =
    let so_far = c.loop-count.invariant.so_far in
    let none = rw c.in-Ok-None.field-0-is at c.in-Ok-None.ensures.next in
    let sound = c.in-Ok-None.ensures.sound in
    record {
      sessions = so_far.0;
      served = ends_whole c.loop-count.count c.args.most c.loop-count.frame _ so_far.1 (omega arith) (door_of g.D.Door c.accept.new.self) c.say_ended.result
          (λ i. record { connections = none.1 i; faults = sound.0 i; memory_faults = sound.1 i }) c.say_ended.ensures (inr (rw none.1 none.0));
    }

pub returns-in-Err-clause-place : goal.returns-in-Err-clause-place
returns-in-Err-clause-place g c =
    let so_far = c.loop-count.invariant.so_far in
    let e = c.in-Err.ensures in
    record {
      sessions = so_far.0;
      served = ends_refused c.loop-count.count c.args.most c.loop-count.frame _ so_far.1 (omega arith) c.in-Err.fault (door_of g.D.Door c.accept.new.self) c.say_ended-in-Err.result e.kept
          (λ is. let r = e.failed (ap (λ why. Err why) is) in (c.say_ended-in-Err.ensures ∙ c.end_by.ensures.failed is, r.0, r.1))
          (λ is. let r = e.wanted (ap (λ why. Err why) is) in (c.say_ended-in-Err.ensures ∙ c.end_by.ensures.ran_out is, r.0, r.1));
    }

pub returns-clause-place : goal.returns-clause-place
returns-clause-place g c =
    let so_far = c.loop-count.invariant.so_far in
    record {
      sessions = so_far.0;
      served = ends_whole c.loop-count.count c.args.most c.loop-count.frame _ so_far.1 (omega arith) (door_of g.D.Door c.loop-count.door) c.say_ended-2.result refl c.say_ended-2.ensures (inl (omega arith));
    }
