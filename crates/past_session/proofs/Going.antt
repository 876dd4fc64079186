-- What comes of the records of a session that were each read and answered before the next was read.
use Rattle.std.proofs.Common.{◌≡◌, ℕ, ◌+◌, ◌≤◌, false, List, [], ◌∷◌, ◌++◌, length, Option, Some, None, refl, sym, ap, ◌∙◌, subst, arith, length-append, append_assoc}
use Rattle.std.specs.Io.KnownBytes.{Appends, Consumes}
use Rattle.std.proofs.lemmas.List.{append-nil}
use Rattle.survey_conf.specs.Description.{Description}
use Rattle.edit_journal.specs.Leaves.{LeafTiles}
use Rattle.survey_link.specs.declared.source.Source as source
use Rattle.survey_link.specs.declared.sink.Sink as sink
use Rattle.http_frame.proofs.Fills.{consumes_none, consumes_both}
use Rattle.http_frame.proofs.ReadLemmas.{reads_consume}
use Rattle.past_frame.specs.Laws.{RecordsStand}
use Rattle.past_frame.specs.Record.{PastRecord, next_record, then_rest}
use Rattle.past_frame.specs.Reading.{NeedsMore}
use Rattle.past_session.specs.Answers.{PastState, state_after, answers, state_behind}
use Rattle.past_session.specs.Costs.{record_cost, cost_from}
use Rattle.past_session.specs.Order.{Moment, IsAsked, IsAnswered, Converses, NeverFalls, Faults}
use Rattle.past_session.proofs.Faulty.{faults_on}
use Rattle.past_session.specs.Records.{room_of}
use Rattle.command_output.specs.Output.{SinkBytes, sink_bytes}
use Rattle.past_session.specs.Run.{Flushes}
use Rattle.past_session.specs.Session.{SessionContent}
use Rattle.past_session.specs.Steps.{answer_text, answer_cost, session_after, Sends}
use Rattle.past_session.proofs.Inputs.{IsBehind}

-- ---- what a sink gains

pub appends_none : (held : Option (List ℕ)) → Appends held held []
appends_none None = tt
appends_none (Some xs) = sym (append-nil xs)

pub appends_both : (a b c : Option (List ℕ)) (xs ys : List ℕ) → Appends a b xs → Appends b c ys → Appends a c (xs ++ ys)
appends_both None b c xs ys first second = tt
appends_both (Some all) None c xs ys first second = absurd first
appends_both (Some all) (Some some) None xs ys first second = absurd second
appends_both (Some all) (Some some) (Some last) xs ys first second = second ∙ ap (λ front. front ++ ys) first ∙ append_assoc all xs ys

flushes_on : (records : List PastRecord) (a b : SinkBytes) → a.flushed ≡ a.held → Flushes records a b → b.flushed ≡ b.held
flushes_on [] a b on same = rw same on
flushes_on (first ∷ later) a b on then = then

-- ---- the cost of one record more

module _ (d : Description) (opening : LeafTiles) where
  pub cost_next : (state : PastState) (records : List PastRecord) (next : PastRecord)
      → cost_from d opening state (records ++ next ∷ []) ≡ cost_from d opening state records + record_cost d (state_behind d opening state records) next
  unfolding cost_from state_behind
  cost_next state [] next = omega arith
  cost_next state (first ∷ later) next = omega (arith, cost_next (state_after d opening state first) later next)

-- ---- the records of a session

module _ {S K : Type 0} (told_source : source.Ghosts S) (told_sink : sink.Ghosts K) where
  -- one record more
  pub converses_on : (records : List PastRecord) (next : PastRecord) (a b c d : Moment S K) → Converses told_source told_sink records a b → IsAsked told_source told_sink next b c → IsAnswered told_source told_sink next c d
      → Converses told_source told_sink (records ++ next ∷ []) a d
  converses_on [] next a b c d same asked answered = (c, d, subst (λ m. IsAsked told_source told_sink next m c) same asked, answered, refl)
  converses_on (first ∷ later) next a b c d turns asked answered = (turns.0, turns.1, turns.2, turns.3, converses_on later next turns.1 b c d turns.4 asked answered)

  -- what came, and what was written, by the records and what the session kept before them
  pub record Going (session : SessionContent) (records : List PastRecord) (old new : Moment S K) : Type 0 where
    pub came : List ℕ
    pub consumed : Consumes (told_source.left old.src) (told_source.left new.src) came
    pub behind : IsBehind (room_of session.conf) (old.held ++ came) records new.held
    pub conf : new.session.conf ≡ session.conf
    pub opening : new.session.opening ≡ session.opening
    pub state : new.session.state ≡ state_behind session.conf session.opening session.state records
    pub written : Appends (told_sink.held old.sink) (told_sink.held new.sink) (answers session.conf session.opening session.state records)
    pub flushed : Flushes records (sink_bytes told_sink old.sink) (sink_bytes told_sink new.sink)
    pub cost : new.steps ≤ old.steps + cost_from session.conf session.opening session.state records

  module _ (stand : RecordsStand) where
    going_none : (session : SessionContent) (old : Moment S K) → old.session ≡ session → Going session [] old old
    unfolding answers state_behind cost_from
    going_none session old is = record {
      came = [];
      consumed = consumes_none (told_source.left old.src);
      behind = append-nil old.held;
      conf = ap (λ (s : SessionContent). s.conf) is;
      opening = ap (λ (s : SessionContent). s.opening) is;
      state = ap (λ (s : SessionContent). s.state) is;
      written = appends_none (told_sink.held old.sink);
      flushed = refl;
      cost = omega arith;
    }

    -- a record, and those behind it
    going_first : (session : SessionContent) (first : PastRecord) (later : List PastRecord) (a b c d : Moment S K) → b.session ≡ session → (asked : IsAsked told_source told_sink first a b)
        → a.session ≡ session → IsAnswered told_source told_sink first b c → Going (session_after session first) later c d → Going session (first ∷ later) a d
    unfolding answers state_behind cost_from
    going_first session first later a b c d b_is asked a_is answered rest =
        let room = room_of session.conf in
        let reads : next_record room (a.held ++ asked.came) ≡ then_rest first b.held = subst (λ (s : SessionContent). next_record (room_of s.conf) (a.held ++ asked.came) ≡ then_rest first b.held) a_is asked.is in
        let consumed : Consumes (told_source.left a.src) (told_source.left c.src) asked.came
        = rw answered.src (reads_consume told_source.left told_source.readings (NeedsMore (room_of a.session.conf)) a.held asked.came a.src b.src asked.read.reads) in
        let sends : Sends (answer_text session first) (sink_bytes told_sink b.sink) (sink_bytes told_sink c.sink) = subst (λ (s : SessionContent). Sends (answer_text s first) (sink_bytes told_sink b.sink) (sink_bytes told_sink c.sink)) b_is answered.sends in
        let written : Appends (told_sink.held a.sink) (told_sink.held c.sink) (answer_text session first) = subst (λ k. Appends (told_sink.held k) (told_sink.held c.sink) (answer_text session first)) asked.read.sink sends.written in
        let costs : answer_cost b.session first ≡ answer_cost session first = ap (λ (s : SessionContent). answer_cost s first) b_is in
        record {
          came = asked.came ++ rest.came;
          consumed = consumes_both (told_source.left a.src) (told_source.left c.src) (told_source.left d.src) asked.came rest.came consumed rest.consumed;
          behind = (
            c.held ++ rest.came,
            ap (next_record room) (sym (append_assoc a.held asked.came rest.came)) ∙ stand.whole room (a.held ++ asked.came) b.held rest.came first reads
                ∙ ap (λ h. then_rest first (h ++ rest.came)) (sym answered.held),
            rest.behind,
          );
          conf = rest.conf;
          opening = rest.opening;
          state = rest.state;
          written = appends_both (told_sink.held a.sink) (told_sink.held c.sink) (told_sink.held d.sink) (answer_text session first) (answers session.conf session.opening (session_after session first).state later) written rest.written;
          flushed = flushes_on later (sink_bytes told_sink c.sink) (sink_bytes told_sink d.sink) sends.flushed rest.flushed;
          cost = omega (arith, asked.read.steps, answered.cost, costs, rest.cost);
        }

    pub going : (session : SessionContent) (records : List PastRecord) (old new : Moment S K) → old.session ≡ session → Converses told_source told_sink records old new → Going session records old new
    going session [] old new is same = subst (Going session [] old) (sym same) (going_none session old is)
    going session (first ∷ later) old new is turns =
        let asked_is : turns.0.session ≡ session = turns.2.read.session ∙ is in
        let after : turns.1.session ≡ session_after session first = turns.3.session ∙ ap (λ (s : SessionContent). session_after s first) asked_is in
        going_first session first later old turns.0 turns.1 new asked_is turns.2 is turns.3 (going (session_after session first) later turns.1 new after turns.4)

  -- ---- the loop over the records

  pub record IsLoop (old new : Moment S K) (count : ℕ) : Type 0 where
    pub records : List PastRecord
    pub count_is : length records ≡ count
    pub converses : Converses told_source told_sink records old new
    pub conf : new.session.conf ≡ old.session.conf
    pub counts : NeverFalls told_source told_sink old new
    pub faults : Faults told_source told_sink false false old new

  pub counts_on : (a b c : Moment S K) → NeverFalls told_source told_sink a b → NeverFalls told_source told_sink b c → NeverFalls told_source told_sink a c
  counts_on a b c first second = record {
    source = omega (arith, first.source, second.source);
    sink = omega (arith, first.sink, second.sink);
    steps = omega (arith, first.steps, second.steps);
  }

  pub loop_begins : (old : Moment S K) → IsLoop old old 0
  loop_begins old = record {
    records = [];
    count_is = refl;
    converses = refl;
    conf = refl;
    counts = record { source = omega arith; sink = omega arith; steps = omega arith };
    faults = record { source = refl; sink = refl };
  }

  pub loop_goes_on : (a b d : Moment S K) (count : ℕ) → IsLoop a b count → (asked : PastRecord) × (c : Moment S K) × IsAsked told_source told_sink asked b c × IsAnswered told_source told_sink asked c d
      → NeverFalls told_source told_sink b d → Faults told_source told_sink false false b d → IsLoop a d (count + 1)
  loop_goes_on a b d count loop next counts faults = record {
    records = loop.records ++ next.0 ∷ [];
    count_is = omega (arith, length-append loop.records (next.0 ∷ []), loop.count_is);
    converses = converses_on loop.records next.0 a b next.1 d loop.converses next.2 next.3;
    conf = ap (λ (s : SessionContent). s.conf) (next.3.session) ∙ ap (λ (s : SessionContent). s.conf) next.2.read.session ∙ loop.conf;
    counts = counts_on a b d loop.counts counts;
    faults = faults_on told_source told_sink false false a b d loop.faults faults;
  }
