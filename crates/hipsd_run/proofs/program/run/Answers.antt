use Rattle.std.proofs.Common.{◌≡◌, length, map, take, drop, refl, ap, ◌∙◌}
use Rattle.std.proofs.Math.Nat.{le_refl}
use Rattle.hips_place.specs.Place.{SomeRises, door_of}
use Rattle.command_output.specs.Status.{number_of}
use Rattle.catalog_command.specs.Run.{catalog_statuses}
use Rattle.survey_commands.specs.Survey.{export_statuses, verify_statuses}
use Rattle.survey_commands.specs.Session.{session_statuses}
use Rattle.survey_commands.specs.Make.{make_statuses}
use Rattle.survey_commands.specs.Serve.{RunsServe, serve_statuses}
use Rattle.survey_commands.specs.Past.{past_statuses}
use Rattle.survey_commands.specs.Mirror.{mirror_statuses}
use Rattle.hipsd_run.specs.Probe.{probe_statuses}
use Rattle.hipsd_run.proofs.DoorsLemmas.{written_back, of_doors}
use Rattle.hipsd_run.proofs.RunsLemmas.{runs_command, runs_none, not_blamed, no_fault, never, never_opened, is_used, if_shown}
use Rattle.hipsd_run.proofs.program.run.Goals as goal

-- the words ask for no command
pub returns-in-None : goal.returns-in-None
returns-in-None g c =
    let said = c.usage.ensures in
    let blames = not_blamed _ said.prints.ended in
    let len : c.len.result ≡ length c.args.doors.now.items = c.len.ensures ∙ c.args.doors.now.ok.0 in
    record {
      runs = runs_none _ _ _ _ _ _ c.number.ensures c.in-None.ensures.none len
          (record { prints = said.prints; source = refl; shelf = refl; doors = refl })
          (record {
            read_fault = no_fault _ _ _ blames.0;
            write_fault = said.fault;
            shelf_fault = no_fault _ _ _ blames.1;
            door_fault = λ e. absurd (blames.2 e);
            unread = λ e. absurd (blames.3 e);
            closed = λ _. refl;
            steps_never_fall = le_refl c.args.steps.now;
          });
    }

pub returns-in-Probe : goal.returns-in-Probe
returns-in-Probe g c =
    let done = c.run_probe.ensures in
    let len : c.len.result ≡ length c.args.doors.now.items = c.len.ensures ∙ c.args.doors.now.ok.0 in
    record {
      runs = runs_command _ _ _ _ _ _ _ _ c.number-in-Probe.ensures c.in-Probe.is c.in-Some.ensures.asked c.in-Some.ensures.fits len
          (record {
            does = record { run = done.run; range = done.range; reads = done.reads };
            unused = record { source = is_used; shelf = λ _. refl; files = λ _. refl; doors = λ _. refl; beyond = refl };
            ends = done.ends;
          })
          (record {
            read_fault = done.read_fault;
            write_fault = done.write_fault;
            shelf_fault = no_fault _ _ _ (never probe_statuses _ 7 done.ends refl);
            door_fault = λ e. absurd (never probe_statuses _ 8 done.ends refl e);
            unread = never_opened (never probe_statuses _ 2 done.ends refl) (never probe_statuses _ 3 done.ends refl);
            closed = λ _. refl;
            steps_never_fall = done.steps_never_fall;
          });
    }

pub returns-in-Session : goal.returns-in-Session
returns-in-Session g c =
    let done = c.run_session.ensures in
    let len : c.len.result ≡ length c.args.doors.now.items = c.len.ensures ∙ c.args.doors.now.ok.0 in
    record {
      runs = runs_command _ _ _ _ _ _ _ _ c.number-in-Session.ensures c.in-Session.is c.in-Some.ensures.asked c.in-Some.ensures.fits len
          (record {
            does = if_shown _ _ done.run;
            unused = record { source = is_used; shelf = is_used; files = λ _. done.kept; doors = λ _. refl; beyond = refl };
            ends = done.ends;
          })
          (record {
            read_fault = done.read_fault;
            write_fault = done.write_fault;
            shelf_fault = done.shelf_fault;
            door_fault = λ e. absurd (never session_statuses _ 8 done.ends refl e);
            unread = done.unread;
            closed = λ _. refl;
            steps_never_fall = done.steps_never_fall;
          });
    }

pub returns-in-Export : goal.returns-in-Export
returns-in-Export g c =
    let done = c.run_export.ensures in
    let len : c.len.result ≡ length c.args.doors.now.items = c.len.ensures ∙ c.args.doors.now.ok.0 in
    record {
      runs = runs_command _ _ _ _ _ _ _ _ c.number-in-Export.ensures c.in-Export.is c.in-Some.ensures.asked c.in-Some.ensures.fits len
          (record {
            does = done.run;
            unused = record { source = λ _. refl; shelf = is_used; files = is_used; doors = λ _. refl; beyond = refl };
            ends = done.ends;
          })
          (record {
            read_fault = no_fault _ _ _ (never export_statuses _ 5 done.ends refl);
            write_fault = done.write_fault;
            shelf_fault = done.shelf_fault;
            door_fault = λ e. absurd (never export_statuses _ 8 done.ends refl e);
            unread = λ _. refl;
            closed = λ _. refl;
            steps_never_fall = done.steps_never_fall;
          });
    }

pub returns-in-Verify : goal.returns-in-Verify
returns-in-Verify g c =
    let done = c.run_verify.ensures in
    let len : c.len.result ≡ length c.args.doors.now.items = c.len.ensures ∙ c.args.doors.now.ok.0 in
    record {
      runs = runs_command _ _ _ _ _ _ _ _ c.number-in-Verify.ensures c.in-Verify.is c.in-Some.ensures.asked c.in-Some.ensures.fits len
          (record {
            does = done.run;
            unused = record { source = λ _. refl; shelf = is_used; files = λ _. done.kept; doors = λ _. refl; beyond = refl };
            ends = done.ends;
          })
          (record {
            read_fault = no_fault _ _ _ (never verify_statuses _ 5 done.ends refl);
            write_fault = done.write_fault;
            shelf_fault = done.shelf_fault;
            door_fault = λ e. absurd (never verify_statuses _ 8 done.ends refl e);
            unread = λ _. refl;
            closed = λ _. refl;
            steps_never_fall = done.steps_never_fall;
          });
    }

pub returns-in-Make : goal.returns-in-Make
returns-in-Make g c =
    let done = c.run_make.ensures in
    let len : c.len.result ≡ length c.args.doors.now.items = c.len.ensures ∙ c.args.doors.now.ok.0 in
    record {
      runs = runs_command _ _ _ _ _ _ _ _ c.number-in-Make.ensures c.in-Make.is c.in-Some.ensures.asked c.in-Some.ensures.fits len
          (record {
            does = done.run;
            unused = record { source = λ _. refl; shelf = λ _. refl; files = λ _. refl; doors = λ _. refl; beyond = refl };
            ends = done.ends;
          })
          (record {
            read_fault = no_fault _ _ _ (never make_statuses _ 5 done.ends refl);
            write_fault = done.write_fault;
            shelf_fault = no_fault _ _ _ (never make_statuses _ 7 done.ends refl);
            door_fault = λ e. absurd (never make_statuses _ 8 done.ends refl e);
            unread = λ _. refl;
            closed = λ _. refl;
            steps_never_fall = done.steps_never_fall;
          });
    }

-- the doors are handed on as a slice, and what becomes of it is written back
pub returns-in-Serve : goal.returns-in-Serve
returns-in-Serve g c =
    let done = c.run_serve.ensures in
    let old = c.deref_mut.ensures.value in
    let new = written_back c.args.doors.now.len c.run_serve.new.doors c.args.doors.now.items (c.run_serve.auto.doors ∙ c.deref_mut.ensures.len) in
    let len : c.len.result ≡ length c.args.doors.now.items = c.len.ensures ∙ c.args.doors.now.ok.0 in
    record {
      runs = runs_command _ _ _ _ _ _ _ _ c.number-in-Serve.ensures c.in-Serve.is c.in-Some.ensures.asked c.in-Some.ensures.fits len
          (record {
            does = of_doors
                (λ olds news. RunsServe (g.H.Shelf.files c.args.shelf.now) c.in-Serve.asked.connections (map (door_of g.D.Door) (take c.in-Serve.asked.places olds))
                (map (door_of g.D.Door) (take c.in-Serve.asked.places news)) (number_of c.run_serve.result)
                (record { held = g.K.Sink.held c.args.sink.now; flushed = g.K.Sink.flushed c.args.sink.now })
                (record { held = g.K.Sink.held c.run_serve.new.sink; flushed = g.K.Sink.flushed c.run_serve.new.sink }))
                _ _ _ _ old new done.run;
            unused = record {
              source = λ _. refl;
              shelf = is_used;
              files = λ _. done.kept;
              doors = is_used;
              beyond = ap (drop c.in-Serve.asked.places) new ∙ done.beyond ∙ ap (drop c.in-Serve.asked.places) old;
            };
            ends = done.ends;
          })
          (record {
            read_fault = no_fault _ _ _ (never serve_statuses _ 5 done.ends refl);
            write_fault = done.write_fault;
            shelf_fault = done.shelf_fault;
            door_fault = λ e. of_doors (λ olds news. SomeRises (map g.D.Door.faults olds) (map g.D.Door.faults news)) _ _ _ _ old new (done.door_fault e);
            unread = λ _. refl;
            closed = λ stopped. new ∙ done.closed stopped ∙ old;
            steps_never_fall = done.steps_never_fall;
          });
    }

pub returns-in-Past : goal.returns-in-Past
returns-in-Past g c =
    let done = c.run_past.ensures in
    let len : c.len.result ≡ length c.args.doors.now.items = c.len.ensures ∙ c.args.doors.now.ok.0 in
    record {
      runs = runs_command _ _ _ _ _ _ _ _ c.number-in-Past.ensures c.in-Past.is c.in-Some.ensures.asked c.in-Some.ensures.fits len
          (record {
            does = record { run = if_shown _ _ done.run; over = done.over; flushed = done.flushed };
            unused = record { source = is_used; shelf = is_used; files = λ _. done.kept; doors = λ _. refl; beyond = refl };
            ends = done.ends;
          })
          (record {
            read_fault = done.read_fault;
            write_fault = done.write_fault;
            shelf_fault = done.shelf_fault;
            door_fault = λ e. absurd (never past_statuses _ 8 done.ends refl e);
            unread = done.unread;
            closed = λ _. refl;
            steps_never_fall = done.steps_never_fall;
          });
    }

pub returns-in-Catalog : goal.returns-in-Catalog
returns-in-Catalog g c =
    let done = c.run_catalog.ensures in
    let len : c.len.result ≡ length c.args.doors.now.items = c.len.ensures ∙ c.args.doors.now.ok.0 in
    record {
      runs = runs_command _ _ _ _ _ _ _ _ c.number-in-Catalog.ensures c.in-Catalog.is c.in-Some.ensures.asked c.in-Some.ensures.fits len
          (record {
            does = record { run = done.run; end = done.end };
            unused = record { source = is_used; shelf = is_used; files = is_used; doors = λ _. refl; beyond = refl };
            ends = done.ends;
          })
          (record {
            read_fault = done.read_fault;
            write_fault = done.write_fault;
            shelf_fault = done.shelf_fault;
            door_fault = λ e. absurd (never catalog_statuses _ 8 done.ends refl e);
            unread = never_opened (never catalog_statuses _ 2 done.ends refl) (never catalog_statuses _ 3 done.ends refl);
            closed = λ _. refl;
            steps_never_fall = le_refl c.args.steps.now;
          });
    }

pub returns-in-Mirror : goal.returns-in-Mirror
returns-in-Mirror g c =
    let done = c.run_mirror.ensures in
    let len : c.len.result ≡ length c.args.doors.now.items = c.len.ensures ∙ c.args.doors.now.ok.0 in
    record {
      runs = runs_command _ _ _ _ _ _ _ _ c.number-in-Mirror.ensures c.in-Mirror.is c.in-Some.ensures.asked c.in-Some.ensures.fits len
          (record {
            does = done.run;
            unused = record { source = is_used; shelf = is_used; files = is_used; doors = λ _. refl; beyond = refl };
            ends = done.ends;
          })
          (record {
            read_fault = done.read_fault;
            write_fault = done.write_fault;
            shelf_fault = done.shelf_fault;
            door_fault = λ e. absurd (never mirror_statuses _ 8 done.ends refl e);
            unread = never_opened (never mirror_statuses _ 2 done.ends refl) (never mirror_statuses _ 3 done.ends refl);
            closed = λ _. refl;
            steps_never_fall = done.steps_never_fall;
          });
    }
