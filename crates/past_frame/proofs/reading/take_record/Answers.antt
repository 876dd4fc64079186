use Rattle.std.proofs.Common.{◌≡◌, ◌++◌, ◌∙◌, Some, [], inr, refl, sym, ap, length, drop, ◌+◌, ◌<◌}
use Rattle.std.proofs.lemmas.List.{with_items_is}
use Rattle.http_frame.proofs.ReadLemmas.{reads_none}
use Rattle.survey_link.specs.Inbox.{held}
use Rattle.past_frame.specs.Line.{line_content}
use Rattle.past_frame.specs.Reading.{NeedsMore}
use Rattle.past_frame.proofs.Readings.{held_most, bad_line, path_first, body_cut, body_first, body_while}
use Rattle.past_frame.proofs.reading.take_record.Goals as goal

pub returns-in-None-clause-read : goal.returns-in-None-clause-read
returns-in-None-clause-read g c =
    let most = held_most c.args.inbox.now c.requires.size in
    ([], reads_none _ _ (NeedsMore c.args.room) _ _, bad_line c.args.room _ c.args.end most c.requires.end (rw c.held.ensures at c.in-None.ensures))

pub returns-in-Ok-true-clause-read : goal.returns-in-Ok-true-clause-read
returns-in-Ok-true-clause-read g c =
    let most = held_most c.args.inbox.now c.requires.size in
    let value = c.deref_mut.ensures.value in
    let whole = c.resize.new.self.ok.0 in
    let size : length c.deref_mut.result.now ≡ c.in-Some-Batch.length = ap length value ∙ sym whole ∙ c.in_ok-resize-in-Some-Batch.ensures.len in
    let text = with_items_is c.resize.new.self c.take_exact.new.out (c.take_exact.ensures.len ∙ ap length value ∙ sym whole) in
    let line = ap (λ l. Some (line_content l)) (sym c.in-Some-Batch.field-0-is) ∙ rw c.held.ensures at c.in-Some-Batch.ensures in
    let needed = c.take_exact.ensures.needed in
    let all : c.take_exact.new.out ++ held c.take_exact.new.inbox ≡ drop (c.args.end + 1) (held c.args.inbox.now) ++ needed.0
    = needed.2 (c.in-Ok-true.is ∙ rw c.in-Ok-true.field-0-test refl) ∙ ap (λ bytes. bytes ++ needed.0) c.give.ensures.rest in
    rw text (
      needed.0,
      body_while c.args.room _ c.args.end most c.requires.end _ line _ _ _ _ c.give.ensures.rest size _ _ needed.0 needed.1,
      body_first c.args.room _ c.args.end most c.requires.end _ line needed.0 c.take_exact.new.out (held c.take_exact.new.inbox) (c.take_exact.ensures.len ∙ size) all,
    )

pub returns-in-Ok-false-clause-read : goal.returns-in-Ok-false-clause-read
returns-in-Ok-false-clause-read g c =
    let most = held_most c.args.inbox.now c.requires.size in
    let size : length c.deref_mut.result.now ≡ c.in-Some-Batch.length = ap length c.deref_mut.ensures.value ∙ sym c.resize.new.self.ok.0 ∙ c.in_ok-resize-in-Some-Batch.ensures.len in
    let line = ap (λ l. Some (line_content l)) (sym c.in-Some-Batch.field-0-is) ∙ rw c.held.ensures at c.in-Some-Batch.ensures in
    let needed = c.take_exact.ensures.needed in
    let ended = c.in-Ok-false.is ∙ rw c.in-Ok-false.field-0-test refl in
    let short : length (drop (c.args.end + 1) (held c.args.inbox.now) ++ needed.0) < c.in-Some-Batch.length = rw (sym c.give.ensures.rest, sym size) (needed.3 (λ e. cc)) in (
      needed.0,
      body_while c.args.room _ c.args.end most c.requires.end _ line _ _ _ _ c.give.ensures.rest size _ _ needed.0 needed.1,
      (body_cut c.args.room _ c.args.end most c.requires.end _ line needed.0 short, (c.take_exact.ensures.cut ended).end),
    )

pub returns-in-Err-clause-read : goal.returns-in-Err-clause-read
returns-in-Err-clause-read g c =
    let most = held_most c.args.inbox.now c.requires.size in
    let size : length c.deref_mut.result.now ≡ c.in-Some-Batch.length = ap length c.deref_mut.ensures.value ∙ sym c.resize.new.self.ok.0 ∙ c.in_ok-resize-in-Some-Batch.ensures.len in
    let line = ap (λ l. Some (line_content l)) (sym c.in-Some-Batch.field-0-is) ∙ rw c.held.ensures at c.in-Some-Batch.ensures in
    let needed = c.take_exact.ensures.needed in
    let short : length (drop (c.args.end + 1) (held c.args.inbox.now) ++ needed.0) < c.in-Some-Batch.length = rw (sym c.give.ensures.rest, sym size) (needed.3 (λ e. cc)) in (
      needed.0,
      body_while c.args.room _ c.args.end most c.requires.end _ line _ _ _ _ c.give.ensures.rest size _ _ needed.0 needed.1,
      inr (body_cut c.args.room _ c.args.end most c.requires.end _ line needed.0 short),
    )

pub returns-in_ok-keep_path-in-Some-Read-clause-read : goal.returns-in_ok-keep_path-in-Some-Read-clause-read
returns-in_ok-keep_path-in-Some-Read-clause-read g c =
    let most = held_most c.args.inbox.now c.requires.size in (
      [],
      reads_none _ _ (NeedsMore c.args.room) _ _,
      path_first c.args.room _ c.args.end most c.requires.end c.in-Some-Read.k c.in-Some-Read.path.now c.keep_path.new.text.items (held c.give-in-Some-Read.new.self)
          (ap (λ l. Some (line_content l)) (sym c.in-Some-Read.field-0-is) ∙ rw c.held.ensures at c.in-Some-Read.ensures) c.in_ok-keep_path-in-Some-Read.ensures.kept c.give-in-Some-Read.ensures.rest,
    )
