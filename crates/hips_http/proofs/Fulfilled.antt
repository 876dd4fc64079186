-- The law of completeness.
use Rattle.std.proofs.Common.{◌≡◌, ◌⊎◌, inl, inr, ℕ, ◌+◌, ◌-◌, Bool, true, false, List, [], ◌∷◌, ◌++◌, length, Option, Some, None, Result, Ok, Err, ℤ, refl, sym, ap, ◌∙◌, subst, arith, append_assoc}
use Rattle.std.specs.Prelude.{slice_get, All, IsNone, IsOk, if◌then◌else◌}
use Rattle.std.specs.List.{AllZip, concat}
use Rattle.std.specs.Option.{option_map_or}
use Rattle.std.proofs.lemmas.Bool.{true≢false, eq-eqb}
use Rattle.std.proofs.lemmas.Option.{none-some}
use Rattle.std.proofs.lemmas.List.Elements.{All-head, All-tail}
use Rattle.survey_conf.specs.Description.{Description}
use Rattle.fits_tile.specs.Reading.{reads}
use Rattle.fits_tile.specs.declared.fault.TileFault.{TileFault}
use Rattle.edit_journal.specs.Edit.{LeafEdit}
use Rattle.edit_journal.specs.Leaves.{LeafTiles, leaves_of}
use Rattle.edit_journal.specs.Faults.{has_leaf}
use Rattle.tile_path.specs.Laws.{SpellingsDiffer}
use Rattle.http_frame.specs.declared.reply.Reply.{Reply}
use Rattle.http_frame.specs.declared.request.Request.{Request}
use Rattle.http_frame.specs.Reply.{reply_head, reply_bytes, status_line, allow_line, type_line, length_line, number_line, close_line}
use Rattle.http_frame.specs.Next.{whole_request}
use Rattle.http_frame.specs.Laws.{NextIsOne, NextHeadIsOne}
use Rattle.httparse.specs.Ascii.{crlf_bytes}
use Rattle.survey_core.specs.declared.fault.EntryFault.{EntryFault}
use Rattle.survey_core.specs.BatchBody.{batch_entries}
use Rattle.survey_core.specs.History.{SurveyState, edits_at}
use Rattle.survey_core.specs.Reply.{file_at}
use Rattle.hips_http.specs.declared.served.SessionEnd.{SessionEnd}
use Rattle.hips_http.specs.declared.served.SessionEnd.TheVariants as end
use Rattle.tile_path.specs.declared.path.Path.{Path}
use Rattle.hips_http.specs.declared.call.PathKind.{PathKind}
use Rattle.hips_http.specs.declared.call.Call.{Call}
use Rattle.hips_http.specs.declared.call.Call.TheVariants as call
use Rattle.hips_http.specs.Paths.{call_of}
use Rattle.hips_http.specs.Verdict.{Change, put, delete, batch, verdict}
use Rattle.hips_http.specs.Replies.{Answer, head_of, sent_body, leave_bytes, file_answer, found_answer, not_found, edited, accepted_answer}
use Rattle.hips_http.specs.Answers.{Asking, Point, put_of, batch_of, refusal_of, Refuses, Changes, Answers}
use Rattle.hips_http.specs.SessionRun.{room_of, AreRequests, GoOn, closes, IsOutput, AreAnswered, Exchange, input_of, Ends, KeepsStates, CountsFaults, first_point}
use Rattle.hips_http.specs.Fulfilled.{IsSoundCall, IsSound, LastCloses, IsSoundInput, judging_place, IsAcceptedAt, IsAccepted, IsAcceptedCall, AreAccepted, fulfils, IsFulfilled}
use Rattle.hips_http.specs.Laws.{Connection, IsFaultless, EachAccepted, IsUnbroken, FulfilsAll, NeverBegins}
use Rattle.hips_http.proofs.OneKind.{one_kind}
use Rattle.hips_http.proofs.Same.{some_same}
use Rattle.hips_http.proofs.Outcome.{AreAll, open_all, asked_all, no_end, all_of, asking_same, more_same, goes_on, ends_same, told_input}

-- ---- one answer

-- an answer like another one has its code
fulfilled_by : (wanted : Call) (answer other : Answer) → answer ≡ other → fulfils wanted other.code ≡ true → fulfils wanted answer.code ≡ true
fulfilled_by wanted answer other is fits = ap (λ (x : Answer). fulfils wanted x.code) is ∙ fits

-- a file is found, or not
file_fits : (asked : Option Path) (conf : Description) (opening : LeafTiles) (state : SurveyState) (path : Option (List ℕ)) → fulfils (call.File asked) (file_answer conf opening state path).code ≡ true
file_fits asked conf opening state None = refl
file_fits asked conf opening state (Some path) = of_file (file_at conf opening state path)
  where
    of_file : (file : Option (List ℕ)) → fulfils (call.File asked) (option_map_or (found_answer state.tip path) file (not_found state.tip)).code ≡ true
    of_file None = refl
    of_file (Some bytes) = refl

edited_fits : (leaf : ℕ) (there : Bool) (edits : ℕ) → fulfils (call.Put leaf) (edited there edits).code ≡ true
edited_fits leaf true edits = refl
edited_fits leaf false edits = refl

module _ (opening : LeafTiles) (states : List SurveyState) (p a : Point) (answer : Answer) where
  -- a change that is accepted by the state that judges it isn't refused
  not_refused : (change : Change) → (a.memory_faults ≡ p.memory_faults → IsAcceptedAt opening states (judging_place p a) change) → Refuses opening states change p a answer → ⊥
  not_refused change accepts r =
      let is = accepts r.kept.memory_faults in
      let place : judging_place p a ≡ a.place = ap (λ (b : Bool). if b then a.place else a.place - 1) (eq-eqb (length a.own) (length p.own) (ap length r.kept.own)) in
      let one : is.state ≡ r.state = some_same is.state r.state (sym is.there ∙ ap (λ (n : ℕ). slice_get states n) place ∙ r.there) in
      none-some answer (sym (ap (refusal_of (length (edits_at r.state))) (ap (λ (x : SurveyState). verdict opening (edits_at x) change) (sym one) ∙ is.judged)) ∙ r.answer_is)

  -- what is asked for is done, or there is no memory for it
  judged_fits : (wanted : Call) (change : Change) → IsAccepted opening states (Ok change) p a
      → ((before : List LeafEdit) (edits : ℕ) → fulfils wanted (accepted_answer opening before change edits).code ≡ true)
      → fulfils wanted 503 ≡ true → Changes opening states (Ok change) p a answer → fulfils wanted answer.code ≡ true
  judged_fits wanted change accepts done want (inl (inl r)) = absurd (not_refused change accepts r)
  judged_fits wanted change accepts done want (inl (inr s)) =
      fulfilled_by wanted answer (accepted_answer opening (edits_at s.old) change (length (edits_at s.new))) s.answer_is (done (edits_at s.old) (length (edits_at s.new)))
  judged_fits wanted change accepts done want (inr none) = ap (λ (x : Answer). fulfils wanted x.code) none.answer_is ∙ want

  put_fits : (asked : Request) (leaf : ℕ) (conf : Description) (read : Result (List ℤ) TileFault) → IsOk read → IsAccepted opening states (put_of conf asked leaf read) p a
      → Changes opening states (put_of conf asked leaf read) p a answer → fulfils (call.Put leaf) answer.code ≡ true
  put_fits asked leaf conf (Err fault) ok accepts is = absurd (true≢false (sym ok))
  put_fits asked leaf conf (Ok numbers) ok accepts is =
      judged_fits (call.Put leaf) (put asked.if_match asked.if_none_any leaf (record { depth = conf.shape.depth; n = conf.shape.n; numbers = numbers })) accepts
      (λ before edits. edited_fits leaf (has_leaf leaf (leaves_of opening before)) edits) refl is

  batch_fits : (edits : List LeafEdit) (fault : Option EntryFault) → IsNone fault → IsAccepted opening states (batch_of edits fault) p a
      → Changes opening states (batch_of edits fault) p a answer → fulfils call.Batch answer.code ≡ true
  batch_fits edits (Some fault) none accepts is = absurd (true≢false none)
  batch_fits edits None none accepts is = judged_fits call.Batch (batch edits) accepts (λ before count. refl) refl is

  answer_fits : (conf : Description) (request : Asking) (wanted : Call) → IsSoundCall conf request.body wanted → IsAcceptedCall conf opening states request wanted p a
      → Answers conf opening states request wanted p a answer → fulfils wanted answer.code ≡ true
  answer_fits conf request (call.NotAllowed allow) sound accepts is = absurd sound
  answer_fits conf request (call.File file) sound accepts is =
      fulfilled_by (call.File file) answer (file_answer conf opening is.state request.path) is.answer_is (file_fits file conf opening is.state request.path)
  answer_fits conf request call.Pin sound accepts is = ap (λ (x : Answer). fulfils call.Pin x.code) is.answer_is
  answer_fits conf request call.Unpin sound accepts is = ap (λ (x : Answer). fulfils call.Unpin x.code) is.1
  answer_fits conf request call.Publish sound accepts (inl r) = ap (λ (x : Answer). fulfils call.Publish x.code) r.answer_is
  answer_fits conf request call.Publish sound accepts (inr (inl h)) = ap (λ (x : Answer). fulfils call.Publish x.code) h.answer_is
  answer_fits conf request call.Publish sound accepts (inr (inr none)) = ap (λ (x : Answer). fulfils call.Publish x.code) none.answer_is
  answer_fits conf request call.Batch sound accepts is = batch_fits (batch_entries conf request.body).edits (batch_entries conf request.body).fault sound accepts is
  answer_fits conf request (call.Put leaf) sound accepts is = put_fits request.asked leaf conf (reads conf request.body) sound accepts is
  answer_fits conf request (call.Delete leaf) sound accepts is =
      judged_fits (call.Delete leaf) (delete request.asked.if_match request.asked.if_none_any leaf) accepts (λ before edits. refl) refl is

-- ---- what is written

-- a reply begins with its status line
regroup : (leave status allow type length number close end body : List ℕ)
    → leave ++ ((status ++ allow ++ type ++ length ++ number ++ close ++ end) ++ body) ≡ leave ++ status ++ (allow ++ type ++ length ++ number ++ close ++ end ++ body)
regroup leave status allow type length number close end body = simp append_assoc

more_of : Reply → List ℕ → List ℕ
more_of reply body = allow_line reply.allow ++ type_line reply.kind ++ length_line reply.code reply.length ++ number_line reply.number ++ close_line reply.close ++ crlf_bytes ++ body

begins : (leave : List ℕ) (reply : Reply) (body : List ℕ) → leave ++ reply_bytes reply body ≡ leave ++ status_line reply.code ++ more_of reply body
unfolding reply_head more_of
begins leave reply body =
    regroup leave (status_line reply.code) (allow_line reply.allow) (type_line reply.kind) (length_line reply.code reply.length) (number_line reply.number) (close_line reply.close) crlf_bytes body

module _ (differ : SpellingsDiffer) (conf : Description) (opening : LeafTiles) (states : List SurveyState) where
  output_fits : (count : ℕ) (request : Asking) (p a : Point) (output : List ℕ) → IsSound conf request → (is : IsOutput conf opening states count request p a output)
      → IsAcceptedCall conf opening states request (call_of request.asked.method is.answered.kind) p a → IsFulfilled conf request output
  output_fits count request p a output sound is accepts =
      let kinds : sound.kind ≡ is.answered.kind = one_kind differ conf.shape.top request.path sound.kind is.answered.kind sound.of_kind is.answered.of_kind in
      let call : IsSoundCall conf request.body (call_of request.asked.method is.answered.kind) =
      subst (λ (k : PathKind). IsSoundCall conf request.body (call_of request.asked.method k)) kinds sound.call in
      record {
        kind = is.answered.kind;
        code = is.answer.code;
        more = more_of (head_of (closes count request) is.answer) (sent_body request.asked.method is.answer.body);
        of_kind = is.answered.of_kind;
        fits = answer_fits opening states p a is.answer conf request (call_of request.asked.method is.answered.kind) call accepts is.answered.answers;
        output_is = is.output_is ∙ begins (leave_bytes request.asked) (head_of (closes count request) is.answer) (sent_body request.asked.method is.answer.body);
      }

  all_fit : (count : ℕ) (p : Point) (requests : List Asking) (last : Point) (outputs : List (List ℕ)) → All (IsSound conf) requests
      → (answered : AreAnswered conf opening states count p requests last outputs) → AreAccepted conf opening states count p requests last outputs answered
      → AllZip (IsFulfilled conf) requests outputs
  all_fit count p [] last [] sound is accepts = tt
  all_fit count p [] last (output ∷ outputs) sound is accepts = absurd (some_not_none is.1)
    where
      some_not_none : output ∷ outputs ≡ [] → ⊥
      some_not_none e = cc
  all_fit count p (request ∷ requests) last [] sound is accepts = absurd is
  all_fit count p (request ∷ requests) last (output ∷ outputs) sound is accepts = (
    output_fits count request p is.0 output (All-head (IsSound conf) request requests sound) is.1 accepts.0,
    all_fit (count + 1) is.0 requests last outputs (All-tail (IsSound conf) request requests sound) is.2 accepts.1,
  )

-- ---- which requests, and the end

module _ (one : NextIsOne) (heads : NextHeadIsOne) where
  record AllSame (requests requests' : List Asking) (rest rest' : List ℕ) : Type 0 where
    requests_same : requests' ≡ requests
    rest_same : rest' ≡ rest

  all_same : (room : ℕ) (closed : Bool) (count : ℕ) (bytes : List ℕ) (requests requests' : List Asking) (rest rest' : List ℕ) → AreAll room closed count bytes requests rest
      → AreAll room closed count bytes requests' rest' → AllSame requests requests' rest rest'
  all_same room closed count bytes [] [] rest rest' all all' = record { requests_same = refl; rest_same = all'.0 ∙ sym all.0 }
  all_same room closed count bytes [] (r' ∷ rs') rest rest' all all' = absurd (goes_on room closed count bytes r' all'.0 all'.1 all'.2 all'.3 all.1)
  all_same room closed count bytes (r ∷ rs) [] rest rest' all all' = absurd (goes_on room closed count bytes r all.0 all.1 all.2 all.3 all'.1)
  all_same room closed count bytes (r ∷ rs) (r' ∷ rs') rest rest' all all' =
      let next = one room bytes (whole_request r.asked r.path r.body all.0) (whole_request r'.asked r'.path r'.body all'.0) all.3 all'.3 in
      let request : r' ≡ r = asking_same one heads r.asked r'.asked r.path r'.path r.body r'.body all.0 all'.0 next in
      let more : all'.0 ≡ all.0 = more_same one heads r.asked r'.asked r.path r'.path r.body r'.body all.0 all'.0 next in
      let tail' : AreAll room r.asked.close (count + 1) all.0 rs' rest' =
      subst (λ (b : List ℕ). AreAll room r.asked.close (count + 1) b rs' rest') more (subst (λ (x : Asking). AreAll room x.asked.close (count + 1) all'.0 rs' rest') request all'.4) in
      let go = all_same room r.asked.close (count + 1) all.0 rs rs' rest rest' all.4 tail' in
      record { requests_same = rw (request, go.requests_same) refl; rest_same = go.rest_same }

  sound_all : (conf : Description) (input : List ℕ) (requests : List Asking) → (sound : IsSoundInput conf input requests) → AreAll (room_of conf) false 0 input requests sound.rest
  sound_all conf input requests sound = elim sound.ends [
    | inl all ↦ let few = all.0.few in open_all (room_of conf) 0 input requests sound.rest all.0.none_closes (omega (arith, few)) (inr (no_end one heads (room_of conf) sound.rest all.1)) sound.are_requests
    | inr last ↦
        let few = last.ends.went_on.few in
        subst (λ (rs : List Asking). AreAll (room_of conf) false 0 input rs sound.rest) (sym last.ends.is)
        (asked_all (room_of conf) 0 input last.ends.before last.last sound.rest last.ends.went_on.none_closes (omega (arith, few)) last.closes
        (subst (λ (rs : List Asking). AreRequests (room_of conf) input rs sound.rest) last.ends.is sound.are_requests))
  ]

  record EndsWell (ended : SessionEnd) (outputs : List (List ℕ)) (written : List ℕ) : Type 0 where
    how : (ended ≡ end.Closed) ⊎ (ended ≡ end.Asked)
    all_written : written ≡ concat outputs

  -- an exchange in which all of these are written
  exchange_of : List (List ℕ) → Exchange
  exchange_of outputs = record {
    read = [];
    left = [];
    written = concat outputs;
    flushed = concat outputs;
    source_faults = 0;
    source_faults_then = 0;
    sink_faults = 0;
    sink_faults_then = 0;
  }

  ends_well : (room : ℕ) (requests : List Asking) (rest : List ℕ) (outputs : List (List ℕ)) (exchange : Exchange) (ended : SessionEnd) → IsFaultless ended → Ends ended room requests rest outputs exchange
      → (GoOn requests × (rest ≡ [])) ⊎ LastCloses requests → EndsWell ended outputs exchange.written
  unfolding exchange_of
  ends_well room requests rest outputs exchange ended f ends (inl all) =
      let same = ends_same one heads room requests rest outputs exchange (exchange_of outputs) ended end.Closed f tt ends (all.0, all.1, refl) in
      record { how = inl same.end_same; all_written = same.written_same }
  ends_well room requests rest outputs exchange ended f ends (inr last) =
      let same = ends_same one heads room requests rest outputs exchange (exchange_of outputs) ended end.Asked f tt ends ((last.last, last.ends, last.closes), refl) in
      record { how = inr same.end_same; all_written = same.written_same }

-- neither source nor sink failed, so it isn't by a fault of theirs that the connection ended
no_fault : (exchange : Exchange) (ended : SessionEnd) → IsUnbroken exchange → CountsFaults ended exchange.source_faults exchange.source_faults_then exchange.sink_faults exchange.sink_faults_then
    → IsFaultless ended ⊎ (ended ≡ end.OutOfMemory)
no_fault exchange end.Closed unbroken faults = inl tt
no_fault exchange end.Asked unbroken faults = inl tt
no_fault exchange (end.Refused code) unbroken faults = inl tt
no_fault exchange end.Cut unbroken faults = inl tt
no_fault exchange end.Spent unbroken faults = inl tt
no_fault exchange end.ReadFault unbroken faults = absurd (unbroken.source faults.read)
no_fault exchange end.WriteFault unbroken faults = absurd (unbroken.sink faults.write)
no_fault exchange end.OutOfMemory unbroken faults = inr refl

module _ (one : NextIsOne) (heads : NextHeadIsOne) (differ : SpellingsDiffer) (conf : Description) (opening : LeafTiles) (states : List SurveyState) (c : Connection conf opening states)
    (requests : List Asking) (sound : IsSoundInput conf (input_of c.exchange) requests) (accepts : EachAccepted c) where
  fulfilled : IsFaultless c.end → FulfilsAll c requests
  fulfilled f =
      let all = all_of one heads c.end (room_of conf) (input_of c.exchange) c.run.requests c.run.rest c.run.outputs c.exchange f
      (subst (λ (b : List ℕ). AreRequests (room_of conf) b c.run.requests c.run.rest) (told_input c.end c.exchange f) c.run.are_requests) c.run.ended in
      let same = all_same one heads (room_of conf) false 0 (input_of c.exchange) requests c.run.requests sound.rest c.run.rest (sound_all one heads conf (input_of c.exchange) requests sound) all in
      let all_sound : All (IsSound conf) c.run.requests = subst (λ (rs : List Asking). All (IsSound conf) rs) (sym same.requests_same) sound.sound in
      let ends : (GoOn c.run.requests × (c.run.rest ≡ [])) ⊎ LastCloses c.run.requests =
      subst (λ (b : List ℕ). (GoOn c.run.requests × (b ≡ [])) ⊎ LastCloses c.run.requests) (sym same.rest_same)
      (subst (λ (rs : List Asking). (GoOn rs × (sound.rest ≡ [])) ⊎ LastCloses rs) (sym same.requests_same) sound.ends) in
      let well = ends_well one heads (room_of conf) c.run.requests c.run.rest c.run.outputs c.exchange c.end f c.run.ended ends in
      record {
        ended = well.how;
        answered = same.requests_same;
        fulfilled = all_fit differ conf opening c.later 0 (first_point states) c.run.requests c.run.last c.run.outputs all_sound c.run.answered accepts;
        written = well.all_written;
      }

never_begins : (conf : Description) (opening : LeafTiles) (states : List SurveyState) (c : Connection conf opening states) → c.end ≡ end.OutOfMemory → NeverBegins c
never_begins conf opening states c is =
    let ends : Ends end.OutOfMemory (room_of conf) c.run.requests c.run.rest c.run.outputs c.exchange =
    subst (λ (e : SessionEnd). Ends e (room_of conf) c.run.requests c.run.rest c.run.outputs c.exchange) is c.run.ended in
    record {
      ended = is;
      read = ends.1;
      written = ends.2;
      later = subst (λ (e : SessionEnd). KeepsStates e states c.later) is c.run.kept;
    }

pub completeness : NextIsOne → NextHeadIsOne → SpellingsDiffer → (conf : Description) (opening : LeafTiles) (states : List SurveyState) (c : Connection conf opening states) (requests : List Asking)
    → IsSoundInput conf (input_of c.exchange) requests → EachAccepted c → IsUnbroken c.exchange → FulfilsAll c requests ⊎ NeverBegins c
completeness one heads differ conf opening states c requests sound accepts unbroken =
    elim (no_fault c.exchange c.end unbroken c.run.faults) [
      | inl f ↦ inl (fulfilled one heads differ conf opening states c requests sound accepts f)
      | inr none ↦ inr (never_begins conf opening states c none)
    ]
