-- How a session ends: it is a run of the definition, over the bytes that came and any that are left behind them.
use Rattle.std.proofs.Common.{◌≡◌, ℕ, ◌+◌, ◌≤◌, ◌<◌, ◌⊎◌, inl, inr, List, [], ◌∷◌, ◌++◌, length, take, Option, Some, None, refl, sym, ap, ◌∙◌, subst, arith, length-append}
use Rattle.std.specs.Io.KnownBytes.{Consumes, IsAtEnd}
use Rattle.std.proofs.lemmas.List.{append-nil}
use Rattle.survey_link.specs.Link.{AppendsPrefix}
use Rattle.survey_link.specs.declared.source.Source as source
use Rattle.survey_link.specs.declared.sink.Sink as sink
use Rattle.survey_conf.specs.Description.{Description}
use Rattle.edit_journal.specs.Leaves.{LeafTiles}
use Rattle.http_frame.proofs.Fills.{consumes_both}
use Rattle.http_frame.proofs.ReadLemmas.{reads_consume, reads_none}
use Rattle.past_frame.specs.Laws.{RecordsStand}
use Rattle.past_frame.specs.Record.{PastRecord, no_more, cut_short, no_line, then_rest, next_record}
use Rattle.past_frame.specs.Reading.{NeedsMore, Stops}
use Rattle.past_frame.specs.declared.record.RecordStop.{RecordStop}
use Rattle.past_frame.specs.declared.record.RecordStop.TheVariants as stop
use Rattle.past_session.specs.Answers.{PastState, first_state, record_text, state_after, state_behind, output_of, past_records, past_out}
use Rattle.past_session.specs.Costs.{record_cost, cost_from, cost_of}
use Rattle.past_session.specs.Order.{Moment, first_moment, IsAsked, Converses, ReadsNone, AnswersPart, EndsAt, EndsBehindAll, InOrder}
use Rattle.past_session.specs.Records.{PastInput, room_of, most_records, ends_by, behind_all, records_of}
use Rattle.command_output.specs.Output.{SinkBytes, sink_bytes}
use Rattle.past_session.specs.Run.{Flushes, FlushesAll, Answered, RunsWhole, ReadsPart, StopsEarly, PastRun, RunsOver}
use Rattle.past_session.specs.Session.{SessionContent}
use Rattle.past_session.specs.Steps.{answer_text, answer_cost, FailsToSend}
use Rattle.past_session.specs.declared.ending.Halt.{Halt}
use Rattle.past_session.specs.declared.ending.Halt.TheVariants as halt
use Rattle.past_session.specs.declared.ending.PastEnd.{PastEnd}
use Rattle.past_session.specs.declared.ending.PastEnd.TheVariants.{Done, Cut, BadLine, Spent, ReadFault, WriteFault, OutOfMemory}
use Rattle.past_session.proofs.Inputs.{IsBehind, behind, behind_more, records_end, records_next, records_some, records_all, behind_none, behind_some}
use Rattle.past_session.proofs.Going.{Going, going, cost_next}

-- ---- bytes that were told

some_is : (xs ys : List ℕ) → Some xs ≡ Some ys → xs ≡ ys
some_is xs ys e = cc

none_some : (xs : List ℕ) → None ≡ Some xs → ⊥
none_some xs e = cc

told : (left left' : Option (List ℕ)) (input came : List ℕ) → left ≡ Some input → Consumes left left' came → (rest : List ℕ) × (left' ≡ Some rest) × (input ≡ came ++ rest)
told None left' input came is consumed = absurd (none_some input is)
told (Some all) None input came is consumed = absurd consumed
told (Some all) (Some rest) input came is consumed = (rest, refl, sym (some_is all input is) ∙ consumed)

nothing_left : (left : Option (List ℕ)) (rest : List ℕ) → left ≡ Some rest → IsAtEnd left → rest ≡ []
nothing_left left rest is end = subst IsAtEnd is end

nothing_next : (room : ℕ) (rest : List ℕ) → rest ≡ [] → next_record room rest ≡ no_more
unfolding next_record
nothing_next room rest is = ap (next_record room) is

-- ---- costs

cost_more : (d : Description) (opening : LeafTiles) (state : PastState) (records more : List PastRecord) → cost_from d opening state records ≤ cost_from d opening state (records ++ more)
unfolding cost_from
cost_more d opening state [] more = omega arith
cost_more d opening state (first ∷ later) more = omega (arith, cost_more d opening (state_after d opening state first) later more)

-- ---- the whole input

output_is : (d : Description) (opening : LeafTiles) (input : List ℕ) → (past_out d opening input).output ≡ output_of d opening (past_records d input)
unfolding past_out
output_is d opening input = refl

end_is : (d : Description) (opening : LeafTiles) (input : List ℕ) → (past_out d opening input).end ≡ (records_of (room_of d) input).end
unfolding past_out
end_is d opening input = refl

whole : (d : Description) (opening : LeafTiles) (input : List ℕ) (sink sink' sink'' : SinkBytes) (steps steps' steps'' : ℕ) (done : List PastRecord) (end : PastEnd)
    → records_of (room_of d) input ≡ record { records = done; end = end } → Answered d opening done sink sink' → sink'' ≡ sink' → steps' ≤ steps + cost_of d opening done → steps'' ≡ steps'
    → RunsWhole d opening input sink sink'' steps steps'' end
whole d opening input sink sink' sink'' steps steps' steps'' done end is answered same cost counted =
    let records : past_records d input ≡ done = ap (λ (i : PastInput). i.records) is in
    record {
      written = rw (same, output_is d opening input, records) answered.written;
      end_is = sym (end_is d opening input ∙ ap (λ (i : PastInput). i.end) is);
      flushed = rw (same, records) answered.flushed;
      cost = rw (records, counted) cost;
    }

early : (d : Description) (opening : LeafTiles) (input : List ℕ) (sink sink' sink'' : SinkBytes) (steps steps' steps'' : ℕ) (done later : List PastRecord)
    → past_records d input ≡ done ++ later → Answered d opening done sink sink' → sink'' ≡ sink' → steps'' ≤ steps + cost_of d opening (done ++ take 1 later)
    → StopsEarly d opening input sink sink'' steps steps''
early d opening input sink sink' sink'' steps steps' steps'' done later is answered same cost = record {
  before = done;
  later = later;
  are_records = is;
  answered = rw same answered;
  cost = cost;
}

module _ {S K : Type 0} (told_source : source.Ghosts S) (told_sink : sink.Ghosts K) (stand : RecordsStand) (d : Description) (opening : LeafTiles) (src : S) (end : K) (steps : ℕ) (now last : Moment S K) (done : List PastRecord)
    (converses : Converses told_source told_sink done (first_moment d opening src end steps) now) where
  g : Going told_source told_sink (record { conf = d; opening = opening; state = first_state }) done (first_moment d opening src end steps) now
  g = going told_source told_sink stand (record { conf = d; opening = opening; state = first_state }) done (first_moment d opening src end steps) now refl converses

  abbrev before : SinkBytes
  before = sink_bytes told_sink end

  abbrev after : SinkBytes
  after = sink_bytes told_sink last.sink

  answered : Answered d opening done before (sink_bytes told_sink now.sink)
  answered = record { written = g.written; flushed = g.flushed }

  -- the session is a run of the definition over what came and whatever is left behind it: nothing, where the source was at its end
  abbrev Runs : PastEnd → Type 0
  Runs ended = (more : List ℕ) × Consumes (told_source.left now.src) (told_source.left last.src) more
      × ((rest : List ℕ) → (IsAtEnd (told_source.left last.src) → rest ≡ []) → PastRun d opening ((g.came ++ more) ++ rest) (Some rest) before after steps last.steps ended)

  -- so many bytes came behind the records
  module _ (more : List ℕ) where
    came : IsBehind (room_of d) (g.came ++ more) done (now.held ++ more)
    came = behind_more stand (room_of d) g.came done now.held more g.behind

    module _ (rest : List ℕ) where
      abbrev all_input : List ℕ
      all_input = (g.came ++ more) ++ rest

      in_all : IsBehind (room_of d) all_input done ((now.held ++ more) ++ rest)
      in_all = behind_more stand (room_of d) (g.came ++ more) done (now.held ++ more) rest came

      at_end : rest ≡ [] → IsBehind (room_of d) all_input done (now.held ++ more)
      at_end none = subst (λ bytes. IsBehind (room_of d) all_input done bytes) (ap (λ r. (now.held ++ more) ++ r) none ∙ append-nil (now.held ++ more)) in_all

      module _ (same : last.sink ≡ now.sink) (counted : last.steps ≡ now.steps) where
        same_bytes : after ≡ sink_bytes told_sink now.sink
        same_bytes = ap (sink_bytes told_sink) same

        whole_by : (ended : PastEnd) → records_of (room_of d) all_input ≡ record { records = done; end = ended } → RunsWhole d opening all_input before after steps last.steps ended
        whole_by ended records = whole d opening all_input before (sink_bytes told_sink now.sink) after steps now.steps last.steps done ended records answered same_bytes g.cost counted

        reads_part : (ended : PastEnd) → records_of (room_of d) (g.came ++ more) ≡ record { records = done; end = ended } → ReadsPart d opening all_input (Some rest) before after steps last.steps
        reads_part ended records =
            let all : past_records d (g.came ++ more) ≡ done = ap (λ (i : PastInput). i.records) records in
            record {
              came = g.came ++ more;
              consumed = refl;
              answered = rw (same_bytes, all) answered;
              cost = rw (all, counted) g.cost;
            }

  module _ (few : length done < most_records) where
    -- a record was read, and its answer wasn't written whole
    module _ (why : Halt) (answers : AnswersPart told_source told_sink now last why) where
      abbrev asked : IsAsked told_source told_sink answers.asked now answers.mid
      asked = answers.is_asked

      begins : next_record (room_of d) (now.held ++ asked.came) ≡ then_rest answers.asked answers.mid.held
      begins = subst (λ (c : Description). next_record (room_of c) (now.held ++ asked.came) ≡ then_rest answers.asked answers.mid.held) g.conf asked.is

      consumed : Consumes (told_source.left now.src) (told_source.left last.src) asked.came
      consumed =
          subst (λ s. Consumes (told_source.left now.src) (told_source.left s) asked.came) (sym answers.src)
          (reads_consume told_source.left told_source.readings (NeedsMore (room_of now.session.conf)) now.held asked.came now.src answers.mid.src asked.read.reads)

      found : (rest : List ℕ) → (later : List PastRecord) × (past_records d (all_input asked.came rest) ≡ done ++ answers.asked ∷ later)
      found rest = records_next (room_of d) (all_input asked.came rest) done ((now.held ++ asked.came) ++ rest) (in_all asked.came rest) answers.asked
          (answers.mid.held ++ rest) few (stand.whole (room_of d) (now.held ++ asked.came) answers.mid.held rest answers.asked begins)

      costs : answer_cost answers.mid.session answers.asked ≡ record_cost d (state_behind d opening first_state done) answers.asked
      costs = ap (λ (s : SessionContent). answer_cost s answers.asked) asked.read.session ∙ ap (λ (c : Description). record_cost c now.session.state answers.asked) g.conf
          ∙ ap (λ (s : PastState). record_cost d s answers.asked) g.state

      text : answer_text answers.mid.session answers.asked ≡ record_text d opening (state_behind d opening first_state done) answers.asked
      text = ap (λ (s : SessionContent). answer_text s answers.asked) asked.read.session ∙ ap (λ (c : Description). record_text c now.session.opening now.session.state answers.asked) g.conf
          ∙ ap (λ (o : LeafTiles). record_text d o now.session.state answers.asked) g.opening ∙ ap (λ (s : PastState). record_text d opening s answers.asked) g.state

      reached : last.steps ≤ steps + cost_of d opening (done ++ answers.asked ∷ [])
      reached = omega (arith, g.cost, asked.read.steps, answers.cost, costs, cost_next d opening first_state done answers.asked)

      fails : FailsToSend (answer_text answers.mid.session answers.asked) (sink_bytes told_sink now.sink) after why
      fails = subst (λ k. FailsToSend (answer_text answers.mid.session answers.asked) (sink_bytes told_sink k) after why) asked.read.sink answers.fails

    breaks_off : AnswersPart told_source told_sink now last halt.WriteFault → Runs WriteFault
    breaks_off answers = (
      answers.is_asked.came,
      consumed halt.WriteFault answers,
      λ rest ended. record {
        before = done;
        next = answers.asked;
        later = (found halt.WriteFault answers rest).0;
        are_records = (found halt.WriteFault answers rest).1;
        whole = sink_bytes told_sink now.sink;
        answered = answered;
        part = subst (AppendsPrefix (told_sink.held now.sink) (told_sink.held last.sink)) (text halt.WriteFault answers) (fails halt.WriteFault answers).0;
        flushed = (fails halt.WriteFault answers).1;
        cost = reached halt.WriteFault answers;
      },
    )

    -- no record was read, and this is why
    module _ (why : RecordStop) (none : ReadsNone told_source told_sink now last why) where
      stops : Stops (room_of d) (now.held ++ none.came) (told_source.left last.src) why
      stops = subst (λ (c : Description). Stops (room_of c) (now.held ++ none.came) (told_source.left last.src) why) g.conf none.is

      lost : Consumes (told_source.left now.src) (told_source.left last.src) none.came
      lost = reads_consume told_source.left told_source.readings (NeedsMore (room_of now.session.conf)) now.held none.came now.src last.src none.read.reads

    by_need : (none : ReadsNone told_source told_sink now last stop.ReadFault) → NeedsMore (room_of d) (now.held ++ none.came) → (rest : List ℕ)
        → ReadsPart d opening (all_input none.came rest) (Some rest) before after steps last.steps
    by_need none (inl nothing) rest =
        reads_part none.came rest none.read.sink none.read.steps Done (records_end (room_of d) (g.came ++ none.came) done (now.held ++ none.came) (came none.came) no_more Done few nothing (λ later. refl))
    by_need none (inr short) rest =
        reads_part none.came rest none.read.sink none.read.steps Cut (records_end (room_of d) (g.came ++ none.came) done (now.held ++ none.came) (came none.came) cut_short Cut few short (λ later. refl))

    ends_at : (ended : PastEnd) → EndsAt told_source told_sink (length done) now last ended → Runs ended
    ends_at Done none =
        let why = stops stop.End none in (
          none.came,
          lost stop.End none,
          λ rest gone. whole_by none.came rest none.read.sink none.read.steps Done
              (records_end (room_of d) (all_input none.came rest) done (now.held ++ none.came) (at_end none.came rest (gone why.1)) no_more Done few (nothing_next (room_of d) (now.held ++ none.came) why.0) (λ later. refl)),
        )
    ends_at Cut none =
        let why = stops stop.Cut none in (
          none.came,
          lost stop.Cut none,
          λ rest gone. whole_by none.came rest none.read.sink none.read.steps Cut
              (records_end (room_of d) (all_input none.came rest) done (now.held ++ none.came) (at_end none.came rest (gone why.1)) cut_short Cut few why.0 (λ later. refl)),
        )
    ends_at (BadLine number) (place, none) = (
      none.came,
      lost stop.BadLine none,
      λ rest gone. whole_by none.came rest none.read.sink none.read.steps (BadLine number)
          (records_end (room_of d) (all_input none.came rest) done ((now.held ++ none.came) ++ rest) (in_all none.came rest) no_line (BadLine number) few
          (stand.bad (room_of d) (now.held ++ none.came) rest (stops stop.BadLine none)) (λ later. ap (λ n. ends_by (BadLine n)) (sym place))),
    )
    ends_at Spent none = absurd none
    ends_at ReadFault none = (none.came, lost stop.ReadFault none, λ rest gone. by_need none (stops stop.ReadFault none) rest)
    ends_at WriteFault answers = breaks_off answers
    ends_at OutOfMemory (inl none) = (
      none.came,
      lost stop.OutOfMemory none,
      λ rest gone.
          let some = records_some (room_of d) (all_input none.came rest) done ((now.held ++ none.came) ++ rest) (in_all none.came rest) (omega (arith, few)) in
          early d opening (all_input none.came rest) before (sink_bytes told_sink now.sink) after steps now.steps last.steps done some.0 some.1 answered (ap (sink_bytes told_sink) none.read.sink)
          (omega (arith, g.cost, none.read.steps, cost_more d opening first_state done (take 1 some.0))),
    )
    ends_at OutOfMemory (inr answers) = (
      answers.is_asked.came,
      consumed halt.OutOfMemory answers,
      λ rest gone.
          let some = found halt.OutOfMemory answers rest in
          early d opening (all_input answers.is_asked.came rest) before (sink_bytes told_sink now.sink) after steps now.steps last.steps done (answers.asked ∷ some.0) some.1 answered (fails halt.OutOfMemory answers)
          (reached halt.OutOfMemory answers),
    )

  -- all records that are taken were answered
  module _ (full : length done ≡ most_records) where
    by_all : (bytes rest' : List ℕ) (ended : PastEnd) → IsBehind (room_of d) bytes done rest' → behind_all rest' ≡ ends_by ended → records_of (room_of d) bytes ≡ record { records = done; end = ended }
    by_all bytes rest' ended stands is =
        records_all (room_of d) bytes done rest' stands full ∙ ap (behind done) is ∙ ap (λ records. record { records = records; end = ended }) (append-nil done)

    gone : (ended : PastEnd) (looks : EndsBehindAll told_source told_sink now last ended) → Consumes (told_source.left now.src) (told_source.left last.src) looks.came
    gone ended looks = reads_consume told_source.left told_source.readings (NeedsMore (room_of now.session.conf)) now.held looks.came now.src last.src looks.read.reads

    ends_behind : (ended : PastEnd) → EndsBehindAll told_source told_sink now last ended → Runs ended
    ends_behind Done looks = (
      looks.came,
      gone Done looks,
      λ rest nothing. whole_by looks.came rest looks.read.sink looks.read.steps Done
          (by_all (all_input looks.came rest) (now.held ++ looks.came) Done (at_end looks.came rest (nothing looks.is.1)) (behind_none (now.held ++ looks.came) looks.is.0)),
    )
    ends_behind Spent looks = (
      looks.came,
      gone Spent looks,
      λ rest nothing. whole_by looks.came rest looks.read.sink looks.read.steps Spent
          (by_all (all_input looks.came rest) ((now.held ++ looks.came) ++ rest) Spent (in_all looks.came rest)
          (behind_some ((now.held ++ looks.came) ++ rest) (omega (arith, length-append (now.held ++ looks.came) rest, looks.is)))),
    )
    ends_behind ReadFault looks = (
      looks.came,
      gone ReadFault looks,
      λ rest nothing. reads_part looks.came rest looks.read.sink looks.read.steps Done
          (by_all (g.came ++ looks.came) (now.held ++ looks.came) Done (came looks.came) (behind_none (now.held ++ looks.came) looks.is)),
    )
    ends_behind Cut looks = absurd looks.is
    ends_behind (BadLine at) looks = absurd looks.is
    ends_behind WriteFault looks = absurd looks.is
    ends_behind OutOfMemory looks = absurd looks.is

  ends_so : (ended : PastEnd) → ((length done < most_records) × EndsAt told_source told_sink (length done) now last ended) ⊎ ((length done ≡ most_records) × EndsBehindAll told_source told_sink now last ended) → Runs ended
  ends_so ended (inl at) = ends_at at.0 ended at.1
  ends_so ended (inr all) = ends_behind all.0 ended all.1

-- ---- a session, whole

module _ {S K : Type 0} (told_source : source.Ghosts S) (told_sink : sink.Ghosts K) (stand : RecordsStand) (d : Description) (opening : LeafTiles) (src : S) (end : K) (steps : ℕ) (last : Moment S K) (ended : PastEnd)
    (order : InOrder told_source told_sink (first_moment d opening src end steps) last ended) where
  runs : Runs told_source told_sink stand d opening src end steps order.behind last order.records order.converses ended
  runs = ends_so told_source told_sink stand d opening src end steps order.behind last order.records order.converses ended order.ends

  all_came : List ℕ
  all_came = (g told_source told_sink stand d opening src end steps order.behind last order.records order.converses).came ++ runs.0

  all_consumed : Consumes (told_source.left src) (told_source.left last.src) all_came
  unfolding all_came
  all_consumed =
      let before = g told_source told_sink stand d opening src end steps order.behind last order.records order.converses in
      consumes_both (told_source.left src) (told_source.left order.behind.src) (told_source.left last.src) before.came runs.0 before.consumed runs.1

  pub over : RunsOver d opening (told_source.left src) (told_source.left last.src) (sink_bytes told_sink end) (sink_bytes told_sink last.sink) steps last.steps ended
  unfolding all_came
  over = record {
    came = all_came;
    consumed = all_consumed;
    run = subst (λ bytes. PastRun d opening bytes (Some []) (sink_bytes told_sink end) (sink_bytes told_sink last.sink) steps last.steps ended) (append-nil all_came) (runs.2 [] (λ _. refl));
  }

  pub run : (input : List ℕ) → told_source.left src ≡ Some input → PastRun d opening input (told_source.left last.src) (sink_bytes told_sink end) (sink_bytes told_sink last.sink) steps last.steps ended
  unfolding all_came
  run input is =
      let all = told (told_source.left src) (told_source.left last.src) input all_came is all_consumed in
      let rest = all.0 in
      let made : PastRun d opening (all_came ++ rest) (Some rest) (sink_bytes told_sink end) (sink_bytes told_sink last.sink) steps last.steps ended
      = runs.2 rest (λ over. nothing_left (told_source.left last.src) rest all.1 over) in
      subst (λ left. PastRun d opening input left (sink_bytes told_sink end) (sink_bytes told_sink last.sink) steps last.steps ended) (sym all.1)
      (subst (λ bytes. PastRun d opening bytes (Some rest) (sink_bytes told_sink end) (sink_bytes told_sink last.sink) steps last.steps ended) (sym all.2) made)

-- a session that read nothing
pub never_begun : {S K : Type 0} (told_source : source.Ghosts S) (told_sink : sink.Ghosts K) (start : Moment S K) → InOrder told_source told_sink start start OutOfMemory
never_begun told_source told_sink start = record {
  records = [];
  behind = start;
  converses = refl;
  ends = inl (omega arith, inl (record { came = []; read = record { session = refl; sink = refl; steps = refl; reads = reads_none told_source.left told_source.readings _ start.held start.src }; is = tt }));
}

-- ---- what was flushed

flushes_all : (records : List PastRecord) (sink sink' : SinkBytes) → Flushes records sink sink' → FlushesAll sink sink'
flushes_all [] sink sink' same = inr same
flushes_all (first ∷ later) sink sink' on = inl on

by_run : (d : Description) (opening : LeafTiles) (input : List ℕ) (left' : Option (List ℕ)) (sink sink' : SinkBytes) (steps steps' : ℕ) (end : PastEnd)
    → PastRun d opening input left' sink sink' steps steps' end → (end ≡ WriteFault → ⊥) → FlushesAll sink sink'
by_run d opening input left' sink sink' steps steps' Done run other = flushes_all (past_records d input) sink sink' run.flushed
by_run d opening input left' sink sink' steps steps' Cut run other = flushes_all (past_records d input) sink sink' run.flushed
by_run d opening input left' sink sink' steps steps' (BadLine at) run other = flushes_all (past_records d input) sink sink' run.flushed
by_run d opening input left' sink sink' steps steps' Spent run other = flushes_all (past_records d input) sink sink' run.flushed
by_run d opening input left' sink sink' steps steps' ReadFault run other = flushes_all (past_records d run.came) sink sink' run.answered.flushed
by_run d opening input left' sink sink' steps steps' OutOfMemory run other = flushes_all run.before sink sink' run.answered.flushed
by_run d opening input left' sink sink' steps steps' WriteFault run other = absurd (other refl)

pub over_flushes : (d : Description) (opening : LeafTiles) (left left' : Option (List ℕ)) (sink sink' : SinkBytes) (steps steps' : ℕ) (end : PastEnd)
    → RunsOver d opening left left' sink sink' steps steps' end → (end ≡ WriteFault → ⊥) → FlushesAll sink sink'
over_flushes d opening left left' sink sink' steps steps' end over other = by_run d opening over.came (Some []) sink sink' steps steps' end over.run other
