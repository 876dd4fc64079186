-- One request after its head: its call was answered, or the connection ended with it.
use Rattle.std.proofs.Common.{◌≡◌, inl, inr, ℕ, ◌+◌, ◌||◌, ◌==◌, Bool, true, Option, Ok, Err, refl, ap, ◌∙◌, arith}
use Rattle.std.specs.Io.KnownBytes.{Appends}
use Rattle.http_frame.specs.declared.request.Request.{Request}
use Rattle.tile_path.specs.declared.path.Path.{Path}
use Rattle.hips_http.specs.declared.call.Call.{Call}
use Rattle.hips_http.specs.declared.call.Call.TheVariants as call
use Rattle.hips_http.specs.declared.served.SessionEnd.{SessionEnd}
use Rattle.hips_http.specs.Replies.{leave_bytes}
use Rattle.hips_http.specs.Moment.{Input, Output, Moment, moment, NeverFalls}
use Rattle.hips_http.specs.SessionRun.{room_of, most_requests, FlushesAll}
use Rattle.hips_http.specs.Progress.{is_text, ReadsCall, ServesCall, ServesOne}
use Rattle.hips_http.proofs.Flushed.{hands_leave, hands_same}
use Rattle.hips_http.proofs.Steps.{served_one, breaks_one, halts_one, write_failed, replied_part, halted_part, faults_from}

-- `old` is the moment before, `input` and `output` are those after the head and the leave, and `new` is the moment after the call
module _ (count top : ℕ) (old : Moment) (input : Input) (output : Output) (asked : Request) (wanted : Call) (room_is : old.input.frame.room ≡ room_of old.board.conf)
    (read : ReadsCall top old.input input asked wanted) (new : Moment) (leave : Appends old.output.held output.held (leave_bytes asked)) (top_is : top ≡ old.board.conf.shape.top) (close : Bool)
    (close_is : close ≡ (asked.close || (count + 1 == most_requests))) (flushes : FlushesAll old.output.held output.held old.output.flushed output.flushed)
    (source : input.faults ≡ old.input.faults) (sink : output.faults ≡ old.output.faults) (same_room : input.frame.room ≡ old.input.frame.room) where
  abbrev mid : Moment
  mid = moment input output old.board old.steps old.memory_faults

  never_falls_on : NeverFalls mid new → NeverFalls old new
  never_falls_on n = record {
    source = omega (arith, source, n.source);
    sink = omega (arith, sink, n.sink);
    steps = n.steps;
    memory_faults = n.memory_faults;
    room = n.room ∙ same_room;
  }

  pub call_served : {u : Unit {0}} → ServesCall asked wanted close mid new (Ok u) → ServesOne count old new (Ok asked.close)
  call_served s =
      let r = s.ok in
      record {
        ok = served_one count top old input output asked wanted room_is read new leave top_is close close_is r.0 r.1 r.2;
        stops = tt;
        left = replied_part count top old input output asked wanted room_is read new leave top_is close close_is r.0 r.1;
        turn = r.1.takes.turn;
        hands = record { flushed = s.hands.flushed; flushes = tt; breaks = λ is. absurd (cc) };
        faults = (s.faults.0 ∙ source, s.faults.1 ∙ sink);
        never_falls = never_falls_on s.never_falls;
      }

  pub call_stopped : (ended : SessionEnd) → ServesCall asked wanted close mid new (Err ended) → ServesOne count old new (Err ended)
  call_stopped ended s = record {
    ok = tt;
    stops = elim (write_failed ended) [
      | inl is ↦
          let r = s.broken (ap (λ (e : SessionEnd). Err e) is) in
          record { how = inl (is, breaks_one count top old input output asked wanted room_is read new leave top_is close close_is r.0 r.1 r.2) }
      | inr other ↦ halts_one count top old input output asked wanted room_is read new leave ended (s.halted other)
    ];
    left = elim (write_failed ended) [
      | inl is ↦ let r = s.broken (ap (λ (e : SessionEnd). Err e) is) in replied_part count top old input output asked wanted room_is read new leave top_is close close_is r.0 r.1
      | inr other ↦ halted_part count top old input output asked wanted room_is read new leave ended (s.halted other)
    ];
    turn = tt;
    hands = record {
      flushed = tt;
      flushes = λ other. hands_same old.output.held output.held new.output.held old.output.flushed output.flushed new.output.flushed flushes (s.hands.unwritten other) s.hands.stays;
      breaks = λ is. (
        leave_bytes asked,
        hands_leave old.output.held output.held old.output.flushed output.flushed new.output.flushed (leave_bytes asked) leave flushes s.hands.stays,
      );
    };
    faults = (faults_from ended _ _ _ _ _ _ source sink s.faults.0, s.faults.1);
    never_falls = never_falls_on s.never_falls;
  }

-- a call that isn't that for a file is answered by a text
pub text_of : (wanted : Call) → ((file : Option Path) → wanted ≡ call.File file → ⊥) → is_text wanted ≡ true
text_of (call.NotAllowed allow) other = refl
text_of (call.File file) other = absurd (other file refl)
text_of call.Publish other = refl
text_of call.Pin other = refl
text_of call.Unpin other = refl
text_of call.Batch other = refl
text_of (call.Put leaf) other = refl
text_of (call.Delete leaf) other = refl
