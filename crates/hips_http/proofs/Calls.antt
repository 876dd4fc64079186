-- Publications and pins, as they are answered.
use Rattle.std.proofs.Common.{◌≡◌, ℕ, ◌+◌, ◌-◌, ◌*◌, ◌<◌, ◌≤◌, inl, inr, List, [], ◌∷◌, ◌++◌, map, take, drop, length, get_or, Some, refl, sym, ap, ◌∙◌, subst, arith, length-append}
use Rattle.std.specs.Prelude.{slice_get, All, Contains}
use Rattle.std.proofs.lemmas.List.{drop-map, take_all, length-drop, get_or-drop, get_or-append_right}
use Rattle.std.proofs.lemmas.List.Elements.{All-contains_itself}
use Rattle.std.proofs.lemmas.Option.{slice_get-get_or}
use Rattle.pyramid_model.specs.Shape.{PyramidShape}
use Rattle.dirty_plan.specs.Dirty.{work, steps_after}
use Rattle.dirty_plan.specs.Laws.{MoreTouchedIsMoreWork}
use Rattle.generation.specs.Steps.{touched}
use Rattle.edit_journal.specs.Edit.{LeafEdit, leaf_of}
use Rattle.survey_core.specs.History.{SurveyState, edits_at, opening_state, IsHistory, Begins, Precedes}
use Rattle.survey_core.specs.HistoryLaws.{begins_itself, begins_trans, begins_length, history_precedes, history_some}
use Rattle.reader_pin.specs.SeatLaws.{keeps_trans, keeps_holding, keeps_holding_none}
use Rattle.reader_pin.specs.Board.{BoardContent, IsOwned, KeepsSeat, Stays, Happens, Publishes, IsPublished, last_of, last_seen, edit_count, publish_work, holding_last, holding_none}
use Rattle.hips_http.specs.declared.call.Call.TheVariants as call
use Rattle.hips_http.specs.Replies.{Answer, published, already, no_memory, pinned, released}
use Rattle.hips_http.specs.declared.call.Call.{Call}
use Rattle.hips_http.specs.Answers.{Asking, Point, Answers, FindsNoMemory, publication_cost, cost_of}
use Rattle.hips_http.specs.Progress.{IsHeld, Serves}
use Rattle.hips_http.proofs.Points.{stays_there, held_stays, place_rises, kept_keeps, event_steps, wants_found, later_own, last_there, kept_point, wanting_point, holding_point, released_point, event_point, kept_at, wanting_at, event_at, event_later, event_old, event_new, event_begins}

-- ---- the steps of a publication

all_suffix : {X : Type 0} (P : X → Type 0) (early late : ℕ) (xs : List X) → early ≤ late → All P (drop early xs) → All P (drop late xs)
all_suffix P early late xs h all = λ k d within.
    let place : late - early + k < length (drop early xs) = omega (arith, length-drop early xs, length-drop late xs) in
    let same : early + (late - early + k) ≡ late + k = omega arith in
    subst P (get_or-drop early xs (late - early + k) d ∙ ap (λ (i : ℕ). get_or xs i d) same ∙ sym (get_or-drop late xs k d)) (all (late - early + k) d place)

touched_from : (edits : List LeafEdit) (from : ℕ) → touched edits from (length edits) ≡ drop from (map leaf_of edits)
touched_from edits from =
    let whole : take (length edits - from) (drop from edits) ≡ drop from edits = take_all (length edits - from) (drop from edits) (omega (arith, length-drop from edits)) in
    ap (λ (es : List LeafEdit). map leaf_of es) whole ∙ sym (drop-map leaf_of from edits)

-- from an earlier place on there is no less work
suffix_work : MoreTouchedIsMoreWork → (shape : PyramidShape) (edits : List LeafEdit) (early late : ℕ) → early ≤ late →
    work shape.top shape.low (touched edits late (length edits)) ≤ work shape.top shape.low (touched edits early (length edits))
suffix_work law shape edits early late h = rw (touched_from edits early, touched_from edits late)
    (law shape.top shape.low (drop late (map leaf_of edits)) (drop early (map leaf_of edits))
    (all_suffix (Contains (drop early (map leaf_of edits))) early late (map leaf_of edits) h (All-contains_itself (drop early (map leaf_of edits)))))

pub last_of-push : (states : List SurveyState) (state : SurveyState) → last_of (states ++ state ∷ []) ≡ state
unfolding last_of
last_of-push states state =
    let count : length (states ++ state ∷ []) - 1 ≡ length states = omega (arith, length-append states (state ∷ [])) in
    let none : length states - length states ≡ 0 = omega arith in
    rw count (get_or-append_right states (state ∷ []) (length states) (length states) opening_state refl (omega arith) ∙ rw none refl)

-- what is known at an earlier place of the states that a board had seen
module _ (old new : BoardContent) (legal : IsHistory new.opening new.history) (begins : Begins old.history new.history) (from : ℕ) (within : from < length old.history) where
  known : SurveyState
  known = get_or old.history from opening_state

  known_there : slice_get new.history from ≡ Some known
  unfolding known
  known_there = stays_there old.history new.history from known begins (slice_get-get_or old.history from opening_state within)

  known_precedes : Precedes known (last_seen old)
  known_precedes = history_precedes new.opening new.history from (length old.history - 1) known (last_seen old) legal (omega arith) known_there
      (stays_there old.history new.history (length old.history - 1) (last_seen old) begins (last_there old.history (omega arith)))

  known_edits : length (edits_at known) ≤ edit_count (last_seen old)
  known_edits = begins_length (edits_at known) (edits_at (last_seen old)) known_precedes.edits

  -- the bound on the steps of a publication, which is counted from the last state seen, holds from there too
  known_cost : MoreTouchedIsMoreWork → (shape : PyramidShape) (place : ℕ) (newest : SurveyState) (steps steps' : ℕ) → slice_get new.history place ≡ Some newest
      → shape ≡ old.conf.shape → newest ≡ last_seen new → steps' ≤ steps_after steps (2 * publish_work old new)
      → steps' ≤ steps + publication_cost shape (slice_get new.history from) (slice_get new.history place)
  known_cost law shape place newest steps steps' there same is bound =
      let tip : known.tip ≤ (last_seen old).tip = known_precedes.tip in
      let more : work shape.top shape.low (touched (edits_at newest) (last_seen old).tip (length (edits_at newest)))
      ≤ work shape.top shape.low (touched (edits_at newest) known.tip (length (edits_at newest))) = suffix_work law shape (edits_at newest) known.tip (last_seen old).tip tip in
      let told : steps' ≤ steps_after steps (2 * work shape.top shape.low (touched (edits_at newest) (last_seen old).tip (length (edits_at newest)))) = rw (same, is) bound in
      rw (known_there, there) (omega arith)

-- the last state seen then
newest_there : (old new : BoardContent) → IsHistory new.opening new.history → slice_get new.history (length new.history - 1) ≡ Some (last_seen new)
newest_there old new legal = last_there new.history (history_some new.opening new.history legal)

-- ---- publications

pub published_serves : MoreTouchedIsMoreWork → (old new : BoardContent) (steps steps' k : ℕ) → Happens (Publishes k) old new → edit_count (last_seen old) ≤ k
    → steps' ≤ steps_after steps (2 * publish_work old new) → (request : Asking) → Serves request call.Publish old new steps steps' (published k)
published_serves law old new steps steps' k h all bound request = record {
  conf = h.conf;
  opening = h.opening;
  legal = h.legal;
  begins = event_begins old new (Publishes k) h;
  seat = h.seat;
  at_each = λ first_own first_steps memory_faults before at.
      let place = length h.before in
      let begins : Begins old.history new.history = event_begins old new (Publishes k) h in
      let last : h.state ≡ last_seen new = sym (ap last_of h.history ∙ last_of-push h.before h.state) in
      let there : slice_get new.history place ≡ Some h.state = event_new old new (Publishes k) h in
      let cost = publication_cost new.conf.shape (slice_get new.history before.place) (slice_get new.history place) in
      let paid : steps' ≤ steps + cost
      = known_cost old new h.legal begins before.place at.within law new.conf.shape place h.state steps steps' there (ap (λ c. c.shape) h.conf) last bound in
      let tip : h.state.tip ≡ k = h.event.tip in
      record {
        after = event_point place cost before;
        at = event_at old new (Publishes k) h first_own first_steps steps memory_faults before at steps' cost paid (published k) refl;
        never_falls = omega (arith, event_later old new (Publishes k) h first_own first_steps steps memory_faults before at);
        answers = inl (record {
          known = known old new h.legal begins before.place at.within;
          old = last_of h.before;
          new = h.state;
          known_there = known_there old new h.legal begins before.place at.within;
          old_there = event_old old new (Publishes k) h first_own first_steps steps memory_faults before at;
          new_there = there;
          publication = h.event.publication;
          all = omega (arith, tip, all, known_edits old new h.legal begins before.place at.within);
          answer_is = ap published (sym tip);
          step = event_steps old new (Publishes k) h first_own first_steps steps memory_faults before at cost;
        });
        cost = refl;
      };
}

pub already_serves : MoreTouchedIsMoreWork → (old new : BoardContent) (steps steps' k : ℕ) → Stays old new → IsPublished k (last_seen new)
    → steps' ≤ steps_after steps (2 * publish_work old new) → (request : Asking) → Serves request call.Publish old new steps steps' (already k)
already_serves law old new steps steps' k stays is bound request = record {
  conf = stays.conf;
  opening = stays.opening;
  legal = stays.legal;
  begins = stays.earlier;
  seat = stays.seat;
  at_each = λ first_own first_steps memory_faults before at.
      let place = length new.history - 1 in
      let some : 0 < length new.history = history_some new.opening new.history stays.legal in
      let there : slice_get new.history place ≡ Some (last_seen new) = newest_there old new stays.legal in
      let cost = publication_cost new.conf.shape (slice_get new.history before.place) (slice_get new.history place) in
      let late : length old.history ≤ place + 1 = omega (arith, begins_length old.history new.history stays.earlier) in
      let within : place < length new.history = omega arith in
      let paid : steps' ≤ steps + cost
      = known_cost old new stays.legal stays.earlier before.place at.within law new.conf.shape place (last_seen new) steps steps' there (ap (λ c. c.shape) stays.conf) refl bound in
      record {
        after = kept_point place cost before;
        at = kept_at first_own first_steps old new steps steps' memory_faults cost place before at late within paid stays (already k) refl;
        never_falls = place_rises first_own first_steps old new steps steps' memory_faults cost place before at late within paid;
        answers = inr (inl (record {
          state = last_seen new;
          there = there;
          all = is.tip ∙ sym is.edits;
          answer_is = ap already (sym is.tip);
          kept = kept_keeps place cost before;
        }));
        cost = refl;
      };
}

-- a call that is answered once newer states were seen
pub serves_later : (old mid new : BoardContent) (steps steps' : ℕ) (request : Asking) (call : Call) (answer : Answer) → Stays old mid → Serves request call mid new steps steps' answer
    → Serves request call old new steps steps' answer
serves_later old mid new steps steps' request call answer stays serves = record {
  conf = serves.conf ∙ stays.conf;
  opening = serves.opening ∙ stays.opening;
  legal = serves.legal;
  begins = begins_trans old.history mid.history new.history stays.earlier serves.begins;
  seat = keeps_trans old mid new stays.seat serves.seat;
  at_each = λ first_own first_steps memory_faults before at. serves.at_each first_own first_steps memory_faults before (record {
    within = (let w = at.within in omega (arith, begins_length old.history mid.history stays.earlier));
    held = subst (IsHeld mid.history before.held) (sym stays.held) (held_stays old.history mid.history before.held old.held stays.earlier at.held);
    own_is = stays.own ∙ at.own_is;
    own_seen = at.own_seen;
    memory_faults_is = at.memory_faults_is;
    steps_are = at.steps_are;
  });
}

-- a request that finds no memory; `none` is where its call has that case
pub no_memory_serves : (old new : BoardContent) (steps steps' : ℕ) (call : Call) → Stays old new → (request : Asking)
    → ((before after : Point) → FindsNoMemory before after no_memory → Answers new.conf new.opening new.history request call before after no_memory)
    → Serves request call old new steps steps' no_memory
no_memory_serves old new steps steps' call stays request none = record {
  conf = stays.conf;
  opening = stays.opening;
  legal = stays.legal;
  begins = stays.earlier;
  seat = stays.seat;
  at_each = λ first_own first_steps memory_faults before at.
      let place = length new.history - 1 in
      let some : 0 < length new.history = history_some new.opening new.history stays.legal in
      let cost = cost_of new.conf new.history request call before.place place in
      let late : length old.history ≤ place + 1 = omega (arith, begins_length old.history new.history stays.earlier) in
      let within : place < length new.history = omega arith in
      record {
        after = wanting_point place cost before;
        at = wanting_at first_own first_steps old new steps steps' memory_faults cost place before at late within stays no_memory refl;
        never_falls = let w = at.within in omega arith;
        answers = none before (wanting_point place cost before) (record { held = refl; own = refl; memory_faults = refl; answer_is = refl });
        cost = refl;
      };
}

-- ---- pins

pub pinned_serves : (old mid new : BoardContent) (steps : ℕ) → Stays old mid → new ≡ holding_last mid → (request : Asking)
    → Serves request call.Pin old new steps steps (pinned (last_seen new).tip)
pinned_serves old mid new steps stays is request =
    let history : new.history ≡ mid.history = ap (λ b. b.history) is in
    let opening : new.opening ≡ mid.opening = ap (λ b. b.opening) is in
    let begins : Begins old.history new.history = rw history stays.earlier in
    let legal : IsHistory new.opening new.history = rw (history, opening) stays.legal in
    let some : 0 < length new.history = history_some new.opening new.history legal in
    let held : new.held ≡ Some (last_seen new) = ap (λ b. b.held) is ∙ ap (λ (states : List SurveyState). Some (last_of states)) (sym history) in
    record {
      conf = ap (λ b. b.conf) is ∙ stays.conf;
      opening = opening ∙ stays.opening;
      legal = legal;
      begins = begins;
      seat = subst (KeepsSeat old) (sym is) (keeps_holding old mid stays.seat);
      at_each = λ first_own first_steps memory_faults before at.
          let place = length new.history - 1 in
          let there : slice_get new.history place ≡ Some (last_seen new) = newest_there old new legal in
          let late : length old.history ≤ place + 1 = omega (arith, begins_length old.history new.history begins) in
          let w = at.within in
          let same = wants_found memory_faults (pinned (last_seen new).tip) refl in
          record {
            after = holding_point place 0 before;
            at = record {
              within = omega arith;
              held = (last_seen new, there, held);
              own_is = ap (λ b. b.own) is ∙ stays.own ∙ at.own_is;
              own_seen = later_own before.own before.place place (omega arith) at.own_seen;
              memory_faults_is = same ∙ at.memory_faults_is;
              steps_are = λ none. let h = at.steps_are (sym same ∙ none) in omega arith;
            };
            never_falls = omega arith;
            answers = record {
              state = last_seen new;
              there = there;
              answer_is = refl;
              holds = record { held = refl; own = refl; memory_faults = refl };
            };
            cost = refl;
          };
    }

pub released_serves : (old new : BoardContent) (steps : ℕ) → IsHistory new.opening new.history → IsOwned new → new ≡ holding_none old → (request : Asking)
    → Serves request call.Unpin old new steps steps released
released_serves old new steps legal owned is request =
    let history : new.history ≡ old.history = ap (λ b. b.history) is in
    let begins : Begins old.history new.history = rw history (begins_itself old.history) in
    record {
      conf = ap (λ b. b.conf) is;
      opening = ap (λ b. b.opening) is;
      legal = legal;
      begins = begins;
      seat = keeps_holding_none old new is owned;
      at_each = λ first_own first_steps memory_faults before at.
          let place = before.place in
          let w : place < length old.history = at.within in
          let same = wants_found memory_faults released refl in
          record {
            after = released_point place 0 before;
            at = record {
              within = rw history w;
              held = ap (λ b. b.held) is;
              own_is = ap (λ b. b.own) is ∙ at.own_is;
              own_seen = at.own_seen;
              memory_faults_is = same ∙ at.memory_faults_is;
              steps_are = λ none. let h = at.steps_are (sym same ∙ none) in omega arith;
            };
            never_falls = omega arith;
            answers = (record { held = refl; own = refl; memory_faults = refl }, refl);
            cost = refl;
          };
    }
