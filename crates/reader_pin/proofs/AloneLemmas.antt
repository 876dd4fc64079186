-- A board all of whose steps are its own.
use Rattle.std.proofs.Common.{◌≡◌, ℕ, ◌+◌, ◌-◌, ◌<◌, ◌≤◌, List, [], ◌∷◌, ◌++◌, length, ap, ◌∙◌, arith, length-append}
use Rattle.std.specs.Prelude.{Option}
use Rattle.survey_conf.specs.Description.{Description}
use Rattle.edit_journal.specs.Leaves.{LeafTiles}
use Rattle.std.proofs.lemmas.List.{append-nil, nil_from_length}
use Rattle.std.proofs.lemmas.List.FromFn.{length-range_with_len}
use Rattle.edit_journal.specs.Edit.{LeafEdit}
use Rattle.edit_journal.specs.Batches.{edits_of}
use Rattle.survey_core.specs.History.{SurveyState, IsHistory, Begins}
use Rattle.survey_core.specs.HistoryLaws.{history_some, history_sound, begins_length}
use Rattle.reader_pin.specs.Board.{BoardSeat, BoardContent, IsOwned, Stays, Happens, Publishes, last_of, last_seen, edit_count}
use Rattle.reader_pin.specs.Solo.{IsAlone}
use Rattle.reader_pin.proofs.SoloLemmas.{last_of-push, last_there}

-- a list that begins with another as long is that one
same-length : {X : Type 0} (xs ys : List X) → Begins xs ys → length xs ≡ length ys → ys ≡ xs
same-length xs ys begins e =
    let len : length ys ≡ length xs + length begins.rest = ap length begins.is ∙ length-append xs begins.rest in
    let none : begins.rest ≡ [] = nil_from_length begins.rest (omega (arith, len, e)) in
    begins.is ∙ (ap (λ (rest : List _). xs ++ rest) none ∙ append-nil xs)

-- boards are the same where their parts are
board_of : Description → LeafTiles → List SurveyState → List ℕ → BoardSeat → List ℕ → Option SurveyState → BoardContent
board_of conf opening history owners seat own held = record { conf = conf; opening = opening; history = history; owners = owners; seat = seat; own = own; held = held }

same-content : (old new : BoardContent) → new.conf ≡ old.conf → new.opening ≡ old.opening → new.history ≡ old.history → new.owners ≡ old.owners → new.seat ≡ old.seat → new.own ≡ old.own → new.held ≡ old.held → new ≡ old
unfolding board_of
same-content old new conf opening history owners seat own held =
    ap (λ (x : Description). board_of x new.opening new.history new.owners new.seat new.own new.held) conf
    ∙ (ap (λ (x : LeafTiles). board_of old.conf x new.history new.owners new.seat new.own new.held) opening
    ∙ (ap (λ (x : List SurveyState). board_of old.conf old.opening x new.owners new.seat new.own new.held) history
    ∙ (ap (λ (x : List ℕ). board_of old.conf old.opening old.history x new.seat new.own new.held) owners
    ∙ (ap (λ (x : BoardSeat). board_of old.conf old.opening old.history old.owners x new.own new.held) seat
    ∙ (ap (λ (x : List ℕ). board_of old.conf old.opening old.history old.owners old.seat x new.held) own
    ∙ ap (board_of old.conf old.opening old.history old.owners old.seat old.own) held)))))

-- how many steps it made
steps-alone : (board : BoardContent) → IsAlone board → length board.own ≡ length board.history - 1
steps-alone board alone = ap length alone ∙ length-range_with_len 1 (length board.history - 1)

pub stays-alone : (old new : BoardContent) → IsHistory old.opening old.history → IsOwned old → IsAlone old → IsAlone new → Stays old new → new ≡ old
stays-alone old new legal owned before after stays =
    let some : 0 < length old.history = history_some old.opening old.history legal in
    let grown : length old.history ≤ length new.history = begins_length old.history new.history stays.earlier in
    let own : length new.own ≡ length old.own = ap length stays.own in
    let count : length old.history ≡ length new.history = omega (arith, steps-alone old before, steps-alone new after, own) in
    let history : new.history ≡ old.history = same-length old.history new.history stays.earlier count in
    let owners : new.owners ≡ old.owners = same-length old.owners new.owners stays.seat.owners (omega (arith, count, owned.each, stays.seat.owned.each)) in
    same-content old new stays.conf stays.opening history owners stays.seat.seat stays.own stays.held

pub happens-alone : (IsEvent : SurveyState → SurveyState → Type 0) (old new : BoardContent) → IsHistory old.opening old.history → IsAlone old → IsAlone new →
    (event : Happens IsEvent old new) → event.before ≡ old.history
happens-alone IsEvent old new legal before after event =
    let some : 0 < length old.history = history_some old.opening old.history legal in
    let own : length new.own ≡ length old.own + 1 = ap length event.own ∙ length-append old.own (length event.before ∷ []) in
    let more : length new.history ≡ length event.before + 1 = ap length event.history ∙ length-append event.before (event.state ∷ []) in
    let count : length old.history ≡ length event.before = omega (arith, steps-alone old before, steps-alone new after, own, more) in
    same-length old.history event.before event.earlier count

pub whole-alone : (k : ℕ) (old new : BoardContent) → IsHistory old.opening old.history → IsAlone old → IsAlone new → Happens (Publishes k) old new →
    edit_count (last_seen old) ≤ k → k ≡ edit_count (last_seen old)
whole-alone k old new legal before after event least =
    let front : event.before ≡ old.history = happens-alone (Publishes k) old new legal before after event in
    let last : last_seen new ≡ event.state = ap last_of event.history ∙ last_of-push event.before event.state in
    let some : 0 < length new.history = history_some new.opening new.history event.legal in
    let sound = history_sound new.opening new.history (length new.history - 1) (last_seen new) event.legal (last_there new.history some) in
    let edits : edit_count (last_seen new) ≡ edit_count (last_seen old) =
    ap edit_count last ∙ (ap (λ (batches : List (List LeafEdit)). length (edits_of batches)) event.event.publication.batches ∙ ap (λ (states : List SurveyState). edit_count (last_of states)) front) in
    let tip : (last_seen new).tip ≡ k = ap (λ (s : SurveyState). s.tip) last ∙ event.event.tip in
    omega (arith, sound.within, edits, tip, least)
