-- Changes, as they are answered.
use Rattle.std.proofs.Common.{◌≡◌, ℕ, ◌+◌, ◌-◌, ◌<◌, ◌≤◌, inl, inr, Bool, true, false, not, List, [], ◌∷◌, ◌++◌, length, Option, Some, None, Ok, Err, refl, sym, ap, ◌∙◌, arith}
use Rattle.std.specs.Option.{option_or}
use Rattle.std.specs.Prelude.{if◌then◌else◌, nat_le, nat_lt, ◌⊎◌, slice_get, Contains, find, is_some, option_map, option_and_then}
use Rattle.std.proofs.lemmas.Bool.{cases_order}
use Rattle.std.proofs.lemmas.List.{append-nil}
use Rattle.std.proofs.lemmas.Option.{slice_get_within}
use Rattle.std.proofs.lemmas.List.Elements.{All-contains}
use Rattle.tile_pixels.specs.Tile.{PixelTile}
use Rattle.parent_rule.specs.Depth.{PixelDepth}
use Rattle.fits_tile.specs.Reading.{reads}
use Rattle.fits_tile.specs.declared.fault.TileFault.{TileFault}
use Rattle.http_frame.specs.declared.request.Request.{Request}
use Rattle.http_frame.specs.declared.request.Tags.{Tags}
use Rattle.http_frame.specs.declared.request.Tags.TheVariants.{Absent, Any, Listed}
use Rattle.edit_journal.specs.declared.fault.EditFault.{EditFault}
use Rattle.edit_journal.specs.declared.fault.EditFault.TheVariants as fault
use Rattle.edit_journal.specs.declared.fault.BatchFault.{BatchFault}
use Rattle.edit_journal.specs.Edit as edit
use Rattle.edit_journal.specs.Edit.{LeafEdit, leaf_of}
use Rattle.edit_journal.specs.Leaves.{LeafTiles, leaves_of, FitsTile, charge_of}
use Rattle.edit_journal.specs.Faults.{has_leaf, leaf_fault, limit_fault, edit_fault, item_fault, batch_fault, most_edits, most_charge}
use Rattle.survey_core.specs.declared.fault.EntryFault.{EntryFault}
use Rattle.survey_core.specs.BatchBody.{batch_entries, tile_count}
use Rattle.survey_core.specs.History.{SurveyState, edits_at, IsHistory, AppendsBatch}
use Rattle.survey_core.specs.HistoryLaws.{begins_itself, begins_length, history_some}
use Rattle.reader_pin.specs.declared.answer.Accepted.{Accepted}
use Rattle.reader_pin.specs.SeatLaws.{keeps_itself}
use Rattle.reader_pin.specs.Board.{BoardContent, IsOwned, Stays, Happens, InOne, last_of, last_seen, edit_count}
use Rattle.reader_pin.specs.Answers.{Accepts as BoardAccepts, AcceptsAll, IsRefused, AreRefused}
use Rattle.hips_http.specs.declared.call.Call.{Call}
use Rattle.hips_http.specs.declared.call.Call.TheVariants as call
use Rattle.hips_http.specs.Verdict.{Cause, missing, unmet, limit, refused, accepted, Change, put, delete, batch, put_edit, delete_edit, cause_of, unmet_cause, delete_cause, edit_verdict, verdict}
use Rattle.hips_http.specs.Replies.{Answer, refused_answer, refused_batch, accepted_answer, edited, batch_accepted, tile_refused, batch_refused}
use Rattle.hips_http.specs.Answers.{Asking, Point, asked_put, refusal_of, Judges, Answers, cost_of}
use Rattle.hips_http.specs.Progress.{Serves}
use Rattle.hips_http.proofs.Points.{IsFound, last_there, kept_point, kept_at, kept_keeps, place_rises, event_point, event_at, event_old, event_new, event_begins, event_later, event_steps}

-- ---- one change of any kind

pub stays_itself : (board : BoardContent) → IsHistory board.opening board.history → IsOwned board → Stays board board
stays_itself board legal owned = record { conf = refl; opening = refl; legal = legal; earlier = begins_itself board.history; seat = keeps_itself board owned; own = refl; held = refl }

module _ (old new : BoardContent) (steps steps' cost : ℕ) (request : Asking) (call : Call) (answer : Answer)
    (found : IsFound answer) (bound : steps' ≤ steps + cost) (cost_is : (from to : ℕ) → cost_of new.conf new.history request call from to ≡ cost) where
  -- the body is refused
  pub unread_serves : Stays old new
      → ((before after : Point) → Judges new.opening new.history (Err answer) before after answer → Answers new.conf new.opening new.history request call before after answer)
      → Serves request call old new steps steps' answer
  unread_serves stays wrap = record {
    conf = stays.conf;
    opening = stays.opening;
    legal = stays.legal;
    begins = stays.earlier;
    seat = stays.seat;
    at_each = λ first_own first_steps memory_faults before at.
        let place = length new.history - 1 in
        let some : 0 < length new.history = history_some new.opening new.history stays.legal in
        let late : length old.history ≤ place + 1 = omega (arith, begins_length old.history new.history stays.earlier) in
        let within : place < length new.history = omega arith in
        record {
          after = kept_point place cost before;
          at = kept_at first_own first_steps old new steps steps' memory_faults cost place before at late within bound stays answer found;
          never_falls = place_rises first_own first_steps old new steps steps' memory_faults cost place before at late within bound;
          answers = wrap before (kept_point place cost before) (kept_keeps place cost before, refl);
          cost = ap (λ n. before.cost + n) (sym (cost_is before.place place));
        };
  }

  -- the change is refused by one state
  pub refused_serves : Stays old new → (change : Change) (place : ℕ) (state : SurveyState) → length old.history ≤ place + 1 → slice_get new.history place ≡ Some state → place < length new.history
      → refusal_of (length (edits_at state)) (verdict new.opening (edits_at state) change) ≡ Some answer
      → ((before after : Point) → Judges new.opening new.history (Ok change) before after answer → Answers new.conf new.opening new.history request call before after answer)
      → Serves request call old new steps steps' answer
  refused_serves stays change place state late there within told wrap = record {
    conf = stays.conf;
    opening = stays.opening;
    legal = stays.legal;
    begins = stays.earlier;
    seat = stays.seat;
    at_each = λ first_own first_steps memory_faults before at.
        let rises : before.place ≤ place = place_rises first_own first_steps old new steps steps' memory_faults cost place before at late within bound in
        let seen : (place ≡ before.place) ⊎ (¬ Contains before.own place) = elim (cases_order before.place place) [
          | inl same ↦ inl (sym same)
          | inr (inl less) ↦ inr (λ own. let known = All-contains (λ p. p ≤ before.place) before.own place at.own_seen own in absurd (omega arith))
          | inr (inr more) ↦ absurd (omega arith)
        ] in
        record {
          after = kept_point place cost before;
          at = kept_at first_own first_steps old new steps steps' memory_faults cost place before at late within bound stays answer found;
          never_falls = rises;
          answers = wrap before (kept_point place cost before) (inl (record {
            state = state;
            there = there;
            seen = seen;
            answer_is = told;
            kept = kept_keeps place cost before;
          }));
          cost = ap (λ n. before.cost + n) (sym (cost_is before.place place));
        };
  }

  -- the change is accepted
  pub accepted_serves : (items : List LeafEdit) (h : Happens (AppendsBatch old.opening items) old new) (change : Change)
      → verdict old.opening (edits_at (last_of h.before)) change ≡ accepted items
      → answer ≡ accepted_answer old.opening (edits_at (last_of h.before)) change (edit_count h.state)
      → ((before after : Point) → Judges new.opening new.history (Ok change) before after answer → Answers new.conf new.opening new.history request call before after answer)
      → Serves request call old new steps steps' answer
  accepted_serves items h change judged told wrap =
      let E : SurveyState → SurveyState → Type 0 = AppendsBatch old.opening items in
      record {
        conf = h.conf;
        opening = h.opening;
        legal = h.legal;
        begins = event_begins old new E h;
        seat = h.seat;
        at_each = λ first_own first_steps memory_faults before at.
            let place = length h.before in
            record {
              after = event_point place cost before;
              at = event_at old new E h first_own first_steps steps memory_faults before at steps' cost bound answer found;
              never_falls = omega (arith, event_later old new E h first_own first_steps steps memory_faults before at);
              answers = wrap before (event_point place cost before) (inr (record {
                old = last_of h.before;
                new = h.state;
                items = items;
                old_there = event_old old new E h first_own first_steps steps memory_faults before at;
                new_there = event_new old new E h;
                judged = rw h.opening judged;
                appended = rw h.opening h.event;
                answer_is = rw h.opening told;
                step = event_steps old new E h first_own first_steps steps memory_faults before at cost;
              }));
              cost = ap (λ n. before.cost + n) (sym (cost_is before.place place));
            };
      }

pub refusal_found : (edits : ℕ) (cause : Cause) → IsFound (refused_answer edits cause)
refusal_found edits missing = refl
refusal_found edits unmet = refl
refusal_found edits (limit which) = refl

batch_refusal_found : (edits at : ℕ) (cause : Cause) → IsFound (refused_batch edits at cause)
batch_refusal_found edits at missing = refl
batch_refusal_found edits at unmet = refl
batch_refusal_found edits at (limit which) = refl

edited_found : (there : Bool) (edits : ℕ) → IsFound (edited there edits)
edited_found true edits = refl
edited_found false edits = refl

not_not : (b : Bool) → not (not b) ≡ b
not_not true = refl
not_not false = refl

-- ---- one edit

one_by : (item : ℕ → Option EditFault) (found : Option EditFault) → item 0 ≡ found
    → option_and_then (λ (at : ℕ). option_map (λ (f : EditFault). let b : BatchFault = record { at = at; fault = f } in b) (item at)) (find (λ i. is_some (item i)) (0 ∷ [])) ≡ None → found ≡ None
one_by item None is none = refl
one_by item (Some f) is none =
    let b : BatchFault = record { at = 0; fault = f } in
    let some : option_and_then (λ (at : ℕ). option_map (λ (f : EditFault). let b : BatchFault = record { at = at; fault = f } in b) (item at)) (find (λ i. is_some (item i)) (0 ∷ [])) ≡ Some b = simp is in
    absurd (let e : None ≡ Some b = sym none ∙ some in cc)

-- a batch of one edit that is accepted has no fault
one_accepted : (opening : LeafTiles) (edits : List LeafEdit) (one : LeafEdit) → batch_fault opening edits (one ∷ []) ≡ None → edit_fault opening edits one ≡ None
unfolding batch_fault
one_accepted opening edits one none =
    let behind : edits ++ [] ≡ edits = append-nil edits in
    sym (ap (λ (es : List LeafEdit). edit_fault opening es one) behind) ∙ one_by (item_fault opening edits (one ∷ [])) (edit_fault opening (edits ++ []) one) refl none

edit_accepted : (opening : LeafTiles) (edits : List LeafEdit) (one : LeafEdit) → edit_fault opening edits one ≡ None → edit_verdict opening edits one ≡ accepted (one ∷ [])
edit_accepted opening edits one none = rw none refl

edit_refused : (opening : LeafTiles) (edits : List LeafEdit) (one : LeafEdit) (found : EditFault) → edit_fault opening edits one ≡ Some found → edit_verdict opening edits one ≡ refused (cause_of found)
edit_refused opening edits one found is = rw is refl

-- ---- PUT

put_leaf : (tags : Tags) (none_any : Bool) (leaf : ℕ) (tile : PixelTile) (one : LeafEdit) → put_edit tags none_any leaf tile ≡ Some one → leaf_of one ≡ leaf
put_leaf Absent true leaf tile one is = let e : one ≡ edit.add leaf tile = cc in rw e refl
put_leaf Absent false leaf tile one is = let e : one ≡ edit.put leaf tile = cc in rw e refl
put_leaf Any true leaf tile one is = absurd (cc)
put_leaf Any false leaf tile one is = let e : one ≡ edit.replace leaf tile = cc in rw e refl
put_leaf Listed none_any leaf tile one is = absurd (cc)

tile_is : (tile : PixelTile) (depth : PixelDepth) (n : ℕ) → tile.depth ≡ depth → tile.n ≡ n → record { depth = depth; n = n; numbers = tile.numbers } ≡ tile
tile_is tile depth n a b = rw (← a, ← b) refl

module _ (old new : BoardContent) (steps steps' : ℕ) (asked : Request) (path : Option (List ℕ)) (body : List ℕ) (leaf : ℕ) (bound : steps' ≤ steps + 1) where
  -- the body is no tile
  pub put_unread : (fault : TileFault) → Stays old new → reads old.conf body ≡ Err fault
      → Serves (record { asked = asked; path = path; body = body }) (call.Put leaf) old new steps steps' (tile_refused fault)
  put_unread fault stays is =
      unread_serves old new steps steps' 1 (record { asked = asked; path = path; body = body }) (call.Put leaf) (tile_refused fault) refl bound (λ _ _. refl) stays
      (λ before after judged. inl (rw (stays.conf, is) judged))

  module _ (tile : PixelTile) (read : reads old.conf body ≡ Ok tile.numbers) (fits : FitsTile old.conf.shape tile) where
    asks : (conf : _) → conf ≡ old.conf → asked_put conf (record { asked = asked; path = path; body = body }) leaf ≡ Ok (put asked.if_match asked.if_none_any leaf tile)
    asks conf same = rw (same, read) (ap (λ (t : PixelTile). Ok (put asked.if_match asked.if_none_any leaf t)) (tile_is tile old.conf.shape.depth old.conf.shape.n fits.0 fits.1))

    -- its preconditions are false
    pub put_unmet : Stays old new → put_edit asked.if_match asked.if_none_any leaf tile ≡ None
        → Serves (record { asked = asked; path = path; body = body }) (call.Put leaf) old new steps steps' (refused_answer (edit_count (last_seen new)) unmet)
    put_unmet stays none =
        let some : 0 < length new.history = history_some new.opening new.history stays.legal in
        refused_serves old new steps steps' 1 (record { asked = asked; path = path; body = body }) (call.Put leaf) (refused_answer (edit_count (last_seen new)) unmet) refl bound (λ _ _. refl)
        stays (put asked.if_match asked.if_none_any leaf tile) (length new.history - 1) (last_seen new)
        (omega (arith, begins_length old.history new.history stays.earlier)) (last_there new.history some) (omega arith)
        (rw none refl) (λ before after judged. inl (rw (asks new.conf stays.conf) judged))

    module _ (one : LeafEdit) (is : put_edit asked.if_match asked.if_none_any leaf tile ≡ Some one) where
      pub put_refused : (found : EditFault) (edits : ℕ) → Stays old new → InOne old new (IsRefused old.opening one found edits)
          → Serves (record { asked = asked; path = path; body = body }) (call.Put leaf) old new steps steps' (refused_answer edits (cause_of found))
      put_refused found edits stays one_state =
          let has : edit_fault old.opening (edits_at one_state.state) one ≡ Some found = one_state.holds.has in
          refused_serves old new steps steps' 1 (record { asked = asked; path = path; body = body }) (call.Put leaf) (refused_answer edits (cause_of found)) (refusal_found edits (cause_of found)) bound (λ _ _. refl)
          stays (put asked.if_match asked.if_none_any leaf tile) one_state.place one_state.state one_state.late one_state.there (slice_get_within new.history one_state.place one_state.state one_state.there)
          (rw (stays.opening, is, has, one_state.holds.count) refl) (λ before after judged. inl (rw (asks new.conf stays.conf) judged))

      pub put_accepted : (told : Accepted) → BoardAccepts one old new told
          → Serves (record { asked = asked; path = path; body = body }) (call.Put leaf) old new steps steps' (edited (not told.created) told.number)
      put_accepted told accepts =
          let h = accepts.happens in
          let event : AppendsBatch old.opening (one ∷ []) (last_of h.before) h.state = h.event in
          let faultless : edit_fault old.opening (edits_at (last_of h.before)) one ≡ None = one_accepted old.opening (edits_at (last_of h.before)) one event.accepted in
          let there : not told.created ≡ has_leaf leaf (leaves_of old.opening (edits_at (last_of h.before)))
          = ap not accepts.created ∙ not_not _ ∙ ap (λ (l : ℕ). has_leaf l (leaves_of old.opening (edits_at (last_of h.before)))) (put_leaf asked.if_match asked.if_none_any leaf tile one is) in
          accepted_serves old new steps steps' 1 (record { asked = asked; path = path; body = body }) (call.Put leaf) (edited (not told.created) told.number) (edited_found (not told.created) told.number) bound (λ _ _. refl)
          (one ∷ []) h (put asked.if_match asked.if_none_any leaf tile) (rw (is, faultless) refl) (rw (there, accepts.number) refl)
          (λ before after judged. inl (rw (asks new.conf h.conf) judged))

-- ---- DELETE

remove_is : (tags : Tags) (none_any : Bool) (leaf : ℕ) (one : LeafEdit) → delete_edit tags none_any leaf ≡ Some one → one ≡ edit.remove leaf
remove_is Absent true leaf one is = absurd (cc)
remove_is Absent false leaf one is = cc
remove_is Any true leaf one is = absurd (cc)
remove_is Any false leaf one is = cc
remove_is Listed none_any leaf one is = absurd (cc)

unmet_told : (there : Bool) (edits : ℕ) → refusal_of edits (if there then refused unmet else refused missing) ≡ Some (refused_answer edits (unmet_cause there))
unmet_told true edits = refl
unmet_told false edits = refl

unmet_found : (there : Bool) (edits : ℕ) → IsFound (refused_answer edits (unmet_cause there))
unmet_found true edits = refl
unmet_found false edits = refl

no_limit_is_absence : (a b : Bool) → (if a then Some fault.Edits else (if b then Some fault.Bytes else None)) ≡ Some fault.Absent → ⊥
no_limit_is_absence true b is = cc
no_limit_is_absence false true is = cc
no_limit_is_absence false false is = cc

limit_cause : (count charge : ℕ) (found : EditFault) → limit_fault count charge ≡ Some found → delete_cause found ≡ cause_of found
limit_cause count charge fault.Exists is = refl
limit_cause count charge fault.Absent is = absurd (no_limit_is_absence (nat_le most_edits count) (nat_lt most_charge charge) is)
limit_cause count charge fault.Edits is = refl
limit_cause count charge fault.Bytes is = refl

-- an edit that removes a leaf, which is there or not, and its fault
remove_told : (there : Bool) (leaf count charge edits : ℕ) (found : EditFault) → option_or (leaf_fault there (edit.remove leaf)) (limit_fault count charge) ≡ Some found
    → refusal_of edits (if there then refused (cause_of found) else refused missing) ≡ Some (refused_answer edits (delete_cause found))
remove_told true leaf count charge edits found is = ap (λ cause. Some (refused_answer edits cause)) (sym (limit_cause count charge found is))
remove_told false leaf count charge edits found is = let e : found ≡ fault.Absent = cc in rw e refl

remove_there : (there : Bool) (leaf count charge : ℕ) → option_or (leaf_fault there (edit.remove leaf)) (limit_fault count charge) ≡ None → there ≡ true
remove_there true leaf count charge none = refl
remove_there false leaf count charge none = absurd (cc)

remove_fault_told : (opening : LeafTiles) (edits : List LeafEdit) (leaf count : ℕ) (found : EditFault) → edit_fault opening edits (edit.remove leaf) ≡ Some found
    → refusal_of count (if has_leaf leaf (leaves_of opening edits) then refused (cause_of found) else refused missing) ≡ Some (refused_answer count (delete_cause found))
unfolding edit_fault
remove_fault_told opening edits leaf count found is =
    remove_told (has_leaf leaf (leaves_of opening edits)) leaf (length edits) (charge_of opening (edits ++ edit.remove leaf ∷ [])) count found is

remove_fault_none : (opening : LeafTiles) (edits : List LeafEdit) (leaf : ℕ) → edit_fault opening edits (edit.remove leaf) ≡ None → has_leaf leaf (leaves_of opening edits) ≡ true
unfolding edit_fault
remove_fault_none opening edits leaf none =
    remove_there (has_leaf leaf (leaves_of opening edits)) leaf (length edits) (charge_of opening (edits ++ edit.remove leaf ∷ [])) none

delete_cause_found : (edits : ℕ) (found : EditFault) → IsFound (refused_answer edits (delete_cause found))
delete_cause_found edits fault.Exists = refl
delete_cause_found edits fault.Absent = refl
delete_cause_found edits fault.Edits = refl
delete_cause_found edits fault.Bytes = refl

module _ (old new : BoardContent) (steps : ℕ) (asked : Request) (path : Option (List ℕ)) (body : List ℕ) (leaf : ℕ) where
  -- its preconditions are false
  pub delete_unmet : Stays old new → delete_edit asked.if_match asked.if_none_any leaf ≡ None
      → Serves (record { asked = asked; path = path; body = body }) (call.Delete leaf) old new steps steps
      (refused_answer (edit_count (last_seen new)) (unmet_cause (has_leaf leaf (leaves_of new.opening (edits_at (last_seen new))))))
  delete_unmet stays none =
      let some : 0 < length new.history = history_some new.opening new.history stays.legal in
      let there = has_leaf leaf (leaves_of new.opening (edits_at (last_seen new))) in
      refused_serves old new steps steps 0 (record { asked = asked; path = path; body = body }) (call.Delete leaf) (refused_answer (edit_count (last_seen new)) (unmet_cause there))
      (unmet_found there (edit_count (last_seen new))) (omega arith) (λ _ _. refl) stays (delete asked.if_match asked.if_none_any leaf) (length new.history - 1) (last_seen new)
      (omega (arith, begins_length old.history new.history stays.earlier)) (last_there new.history some) (omega arith)
      (rw none (unmet_told there (edit_count (last_seen new)))) (λ before after judged. inl judged)

  module _ (one : LeafEdit) (is : delete_edit asked.if_match asked.if_none_any leaf ≡ Some one) where
    removes : one ≡ edit.remove leaf
    removes = remove_is asked.if_match asked.if_none_any leaf one is

    asked_is : delete_edit asked.if_match asked.if_none_any leaf ≡ Some (edit.remove leaf)
    asked_is = is ∙ ap (λ (e : LeafEdit). Some e) removes

    pub delete_refused : (found : EditFault) (edits : ℕ) → Stays old new → InOne old new (IsRefused old.opening one found edits)
        → Serves (record { asked = asked; path = path; body = body }) (call.Delete leaf) old new steps steps (refused_answer edits (delete_cause found))
    delete_refused found edits stays one_state =
        let at = edits_at one_state.state in
        let has : edit_fault old.opening at (edit.remove leaf) ≡ Some found = ap (λ (e : LeafEdit). edit_fault old.opening at e) (sym removes) ∙ one_state.holds.has in
        let told = remove_fault_told old.opening at leaf edits found has in
        refused_serves old new steps steps 0 (record { asked = asked; path = path; body = body }) (call.Delete leaf) (refused_answer edits (delete_cause found))
        (delete_cause_found edits found) (omega arith) (λ _ _. refl) stays (delete asked.if_match asked.if_none_any leaf) one_state.place one_state.state one_state.late one_state.there
        (slice_get_within new.history one_state.place one_state.state one_state.there)
        (rw (stays.opening, asked_is, has, one_state.holds.count) told) (λ before after judged. inl judged)

    pub delete_accepted : (told : Accepted) → BoardAccepts one old new told
        → Serves (record { asked = asked; path = path; body = body }) (call.Delete leaf) old new steps steps (edited true told.number)
    delete_accepted told accepts =
        let h = accepts.happens in
        let at = edits_at (last_of h.before) in
        let event : AppendsBatch old.opening (one ∷ []) (last_of h.before) h.state = h.event in
        let faultless : edit_fault old.opening at (edit.remove leaf) ≡ None
        = ap (λ (e : LeafEdit). edit_fault old.opening at e) (sym removes) ∙ one_accepted old.opening at one event.accepted in
        let there = remove_fault_none old.opening at leaf faultless in
        let items : accepted (edit.remove leaf ∷ []) ≡ accepted (one ∷ []) = ap (λ (e : LeafEdit). accepted (e ∷ [])) (sym removes) in
        accepted_serves old new steps steps 0 (record { asked = asked; path = path; body = body }) (call.Delete leaf) (edited true told.number) refl (omega arith) (λ _ _. refl)
        (one ∷ []) h (delete asked.if_match asked.if_none_any leaf) (rw (there, asked_is, faultless) items) (rw accepts.number refl)
        (λ before after judged. inl judged)

-- ---- POST batch

module _ (old new : BoardContent) (steps steps' : ℕ) (request : Asking) (bound : steps' ≤ steps + tile_count (batch_entries old.conf request.body)) where
  module _ (same : new.conf ≡ old.conf) where
    bound_then : steps' ≤ steps + tile_count (batch_entries new.conf request.body)
    bound_then = rw same bound

  pub batch_unread : (at : ℕ) (found : EntryFault) → Stays old new → length (batch_entries old.conf request.body).edits ≡ at → (batch_entries old.conf request.body).fault ≡ Some found
      → Serves request call.Batch old new steps steps' (batch_refused at found)
  batch_unread at found stays count is =
      unread_serves old new steps steps' (tile_count (batch_entries new.conf request.body)) request call.Batch (batch_refused at found) refl (bound_then stays.conf) (λ _ _. refl) stays
      (λ before after judged. inl (rw (stays.conf, is, count) judged))

  module _ (items : List LeafEdit) (read : batch_entries old.conf request.body ≡ record { edits = items; fault = None }) where
    pub batch_faulty : (at edits : ℕ) (found : EditFault) → Stays old new → InOne old new (AreRefused old.opening items (record { at = at; fault = found }) edits)
        → Serves request call.Batch old new steps steps' (refused_batch edits at (cause_of found))
    batch_faulty at edits found stays one_state =
        let has : batch_fault old.opening (edits_at one_state.state) items ≡ Some (record { at = at; fault = found }) = one_state.holds.has in
        refused_serves old new steps steps' (tile_count (batch_entries new.conf request.body)) request call.Batch (refused_batch edits at (cause_of found))
        (batch_refusal_found edits at (cause_of found)) (bound_then stays.conf) (λ _ _. refl) stays (batch items) one_state.place one_state.state one_state.late one_state.there
        (slice_get_within new.history one_state.place one_state.state one_state.there)
        (rw (stays.opening, has, one_state.holds.count) refl) (λ before after judged. inl (rw (stays.conf, read) judged))

    pub batch_serves : (number : ℕ) → AcceptsAll items old new number → Serves request call.Batch old new steps steps' (batch_accepted (length items) number)
    batch_serves number accepts =
        let h = accepts.happens in
        let event : AppendsBatch old.opening items (last_of h.before) h.state = h.event in
        accepted_serves old new steps steps' (tile_count (batch_entries new.conf request.body)) request call.Batch (batch_accepted (length items) number) refl (bound_then h.conf) (λ _ _. refl)
        items h (batch items) (rw event.accepted refl) (rw accepts.count refl) (λ before after judged. inl (rw (h.conf, read) judged))
