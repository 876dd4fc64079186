-- A request and its reply, as a conversation has them.
use Rattle.std.proofs.Common.{◌≡◌, ℕ, List, [], ◌∷◌, ◌++◌, Option, inl, inr, refl, sym, ap, subst, ◌∙◌, append_assoc, append-nil}
use Rattle.std.specs.Prelude.{Result, Ok, Err, OnErr, MatchResult, flat_map}
use Rattle.std.specs.Io.KnownBytes.{Appends}
use Rattle.std.proofs.KnownBytes.{Appends-nil, Appends-trans}
use Rattle.survey_link.specs.declared.source.Source as source
use Rattle.survey_link.specs.declared.sink.Sink as sink
use Rattle.http_frame.specs.Readings.{ReadsWhile}
use Rattle.mirror_frame.specs.Requests.{request_bytes}
use Rattle.mirror_frame.specs.Reply.{IsCutReply}
use Rattle.mirror_frame.specs.Reading.{ReadsReply}
use Rattle.mirror_frame.specs.Exchange.{Talk, IsExchanged, BreaksOff, in_reply, Converses, StopsIn, LastOf, due_of}
use Rattle.mirror_frame.specs.declared.ask.Ask.{Ask}
use Rattle.mirror_frame.specs.declared.due.Due.{Due}
use Rattle.mirror_frame.specs.declared.reading.ReplyStop.{ReplyStop}

pub on_err : {T E : Type 0} (r : Result T E) (P : Type 0) → P → OnErr r P
on_err (Ok x) P p = tt
on_err (Err e) P p = p

pub five_parts : (a b c d e f : List ℕ) → ((((a ++ b) ++ c) ++ d) ++ e) ++ f ≡ a ++ (b ++ (c ++ (d ++ (e ++ f))))
five_parts a b c d e f =
    append_assoc (((a ++ b) ++ c) ++ d) e f ∙ append_assoc ((a ++ b) ++ c) d (e ++ f) ∙ append_assoc (a ++ b) c (d ++ (e ++ f)) ∙ append_assoc a b (c ++ (d ++ (e ++ f)))

-- a request that was sent, and what came of its reply
module _ {S K : Type 0} (told_source : source.Ghosts S) (told_sink : sink.Ghosts K) (ask : Ask) (due : Due) (src src' : S) (end end' : K) (held body held' came : List ℕ)
    (sent : Appends (told_sink.held end) (told_sink.held end') (request_bytes ask)) (flushed : told_sink.flushed end' ≡ told_sink.held end')
    (reads : ReadsWhile told_source.left told_source.readings (IsCutReply due) held src src' came) where
  abbrev before : Talk S K
  before = record { src = src; sink = end; held = held }

  abbrev between : Talk S K
  between = record { src = src; sink = end'; held = held }

  abbrev after : Talk S K
  after = record { src = src'; sink = end'; held = held' }

  pub exchanged : (r : Result (Option ℕ) ReplyStop) → ReadsReply due (held ++ came) body held' (told_source.left src') r
      → MatchResult r (λ prefix. IsExchanged told_source told_sink ask due body before after) (λ stop. BreaksOff told_source told_sink ask due before after stop)
  exchanged (Ok prefix) read = record {
    asked = between;
    sent = record { src = refl; held = refl; written = sent; flushed = flushed };
    came = came;
    read = record { sink = refl; reads = reads };
    reply = read.0;
  }
  exchanged (Err stop) read =
      in_reply between came body held' (record { src = refl; held = refl; written = sent; flushed = flushed }) (record { sink = refl; reads = reads }) read

-- ---- one request after another

module _ {S K : Type 0} (told_source : source.Ghosts S) (told_sink : sink.Ghosts K) (k : ℕ) where
  pub converses_then : (asks more : List Ask) (a b c : Talk S K) → Converses told_source told_sink k asks a b → Converses told_source told_sink k more b c
      → Converses told_source told_sink k (asks ++ more) a c
  converses_then [] more a b c first second = subst (λ x. Converses told_source told_sink k more x c) first second
  converses_then (ask ∷ asks) more a b c first second = (first.0, first.1, first.2, converses_then asks more first.0 b c first.3 second)

  module _ (Fits : ReplyStop → Type 0) (NotBegun : Type 0) where
    abbrev Stops : List Ask → Talk S K → Talk S K → Type 0
    Stops = StopsIn told_source told_sink k Fits NotBegun

    abbrev pub stops_then : (asks more : List Ask) (a b c : Talk S K) → Converses told_source told_sink k asks a b → Stops more b c → Stops (asks ++ more) a c
    stops_then asks more a b c first stops = record {
      done = asks ++ stops.done;
      rest = stops.rest;
      are = ap (λ r. asks ++ r) stops.are ∙ sym (append_assoc asks stops.done stops.rest);
      mid = stops.mid;
      conversed = converses_then asks stops.done a b stops.mid first stops.conversed;
      last = stops.last;
    }

    pub last_more : (rest more : List Ask) (a b : Talk S K) → LastOf told_source told_sink k Fits NotBegun rest a b → LastOf told_source told_sink k Fits NotBegun (rest ++ more) a b
    last_more [] [] a b last = last
    last_more [] (ask ∷ more) a b last = inl last
    last_more (ask ∷ rest) more a b last = last

    -- what is behind the requests was not begun
    abbrev pub stops_more : (asks more : List Ask) (a b : Talk S K) → Stops asks a b → Stops (asks ++ more) a b
    stops_more asks more a b stops = record {
      done = stops.done;
      rest = stops.rest ++ more;
      are = ap (λ r. r ++ more) stops.are ∙ append_assoc stops.done stops.rest more;
      mid = stops.mid;
      conversed = stops.conversed;
      last = last_more stops.rest more stops.mid b stops.last;
    }

    -- all have their replies
    abbrev pub stops_behind : (asks : List Ask) (a b : Talk S K) → NotBegun → Converses told_source told_sink k asks a b → Stops asks a b
    stops_behind asks a b none conversed = record { done = asks; rest = []; are = sym (append-nil asks); mid = b; conversed = conversed; last = (refl, none) }

    abbrev pub stops_one : (ask : Ask) (due : Due) (stop : ReplyStop) (a b : Talk S K) → due ≡ due_of k ask → Fits stop → BreaksOff told_source told_sink ask due a b stop → Stops (ask ∷ []) a b
    stops_one ask due stop a b is fits off = record {
      done = [];
      rest = ask ∷ [];
      are = refl;
      mid = a;
      conversed = refl;
      last = inr (stop, fits, subst (λ d. BreaksOff told_source told_sink ask d a b stop) is off);
    }

  pub exchanges_one : (ask : Ask) (due : Due) (body : List ℕ) (a b : Talk S K) → due ≡ due_of k ask → IsExchanged told_source told_sink ask due body a b
      → Converses told_source told_sink k (ask ∷ []) a b
  exchanges_one ask due body a b is one = (b, body, subst (λ d. IsExchanged told_source told_sink ask d body a b) is one, refl)

  -- what was written is the requests, and all of it is flushed
  pub conversed_sent : (asks : List Ask) (a b : Talk S K) → Converses told_source told_sink k asks a b → Appends (told_sink.held a.sink) (told_sink.held b.sink) (flat_map request_bytes asks)
  conversed_sent [] a b conversed = subst (λ (x : Talk S K). Appends (told_sink.held a.sink) (told_sink.held x.sink) []) (sym conversed) (Appends-nil (told_sink.held a.sink))
  conversed_sent (ask ∷ asks) a b conversed =
      let one = conversed.2 in
      let first : Appends (told_sink.held a.sink) (told_sink.held conversed.0.sink) (request_bytes ask)
      = subst (λ x. Appends (told_sink.held a.sink) (told_sink.held x) (request_bytes ask)) (sym one.read.sink) one.sent.written in
      Appends-trans _ _ _ _ _ first (conversed_sent asks conversed.0 b conversed.3)

  pub conversed_flushed : (ask : Ask) (asks : List Ask) (a b : Talk S K) → Converses told_source told_sink k (ask ∷ asks) a b → told_sink.flushed b.sink ≡ told_sink.held b.sink
  conversed_flushed ask [] a b conversed =
      let one = conversed.2 in
      let now : told_sink.flushed conversed.0.sink ≡ told_sink.held conversed.0.sink
      = subst (λ x. told_sink.flushed x ≡ told_sink.held x) (sym one.read.sink) one.sent.flushed in
      subst (λ (x : Talk S K). told_sink.flushed x.sink ≡ told_sink.held x.sink) (sym conversed.3) now
  conversed_flushed ask (next ∷ asks) a b conversed = conversed_flushed next asks conversed.0 b conversed.3
