-- The record that stands first in the bytes that are held and those that come behind them.
use Rattle.std.proofs.Common.{◌≡◌, ℕ, ◌+◌, ◌≤◌, ◌<◌, inl, inr, true, false, cond, List, [], ◌∷◌, ◌++◌, length, take, drop, Option, Some, None, refl, sym, ap, ◌∙◌, subst, arith, length-append, append_assoc}
use Rattle.std.specs.Prelude.{position, nat_lt, ◌==◌}
use Rattle.std.proofs.lemmas.List.{take_all, append-nil}
use Rattle.std.proofs.Math.Seq.{take-append_seam, drop-append_seam}
use Rattle.std.proofs.lemmas.Bool.Decides.{nat_tests}
use Rattle.std.proofs.lemmas.Option.{none-some}
use Rattle.survey_link.specs.declared.inbox.Inbox.{Inbox}
use Rattle.survey_link.specs.Inbox.{held, size}
use Rattle.survey_link.proofs.Held.{front_length}
use Rattle.http_frame.specs.Frame.{IsShort}
use Rattle.http_frame.specs.Readings.{ReadsWhile}
use Rattle.http_frame.proofs.ReadLemmas.{reads_for, reads_gave, reads_then}
use Rattle.past_frame.specs.Line.{RecordLine, batch_line, read_line, line_of, line_feed}
use Rattle.past_frame.specs.Record.{batch, read, cut_short, no_line, then_rest, most_line, by_line, by_end, line_end, next_record}
use Rattle.past_frame.specs.Reading.{Stops, NeedsMore, NeedsLine, StopsLine}
use Rattle.past_frame.specs.declared.record.RecordStop.{RecordStop}
use Rattle.past_frame.specs.declared.record.RecordStop.TheVariants.{End, Cut, BadLine, ReadFault, OutOfMemory}
use Rattle.past_frame.proofs.Records.{line_end_of_more, line_fits, text_of_more}

-- an inbox of the longest line's room holds no more
pub held_most : (inbox : Inbox) → size inbox ≡ most_line → length (held inbox) ≤ most_line
held_most inbox is = omega (arith, front_length inbox.bytes.items inbox.start inbox.end inbox.ordered inbox.within, inbox.within, is)

-- ---- bytes that hold a line

held_end : (held : List ℕ) (o : Option ℕ) → length held ≤ most_line → position (λ b. b == line_feed) held ≡ o → line_end held ≡ o
held_end held o most is = ap (position (λ b. b == line_feed)) (take_all most_line held most) ∙ is

next_by : (room : ℕ) (held more : List ℕ) (end : ℕ) → line_end held ≡ Some end
    → next_record room (held ++ more) ≡ by_line (line_of room (take end held)) (drop (end + 1) held ++ more)
unfolding next_record
next_by room [] more end is = absurd (let within : end < 0 = line_fits [] end is in omega (arith, within))
next_by room (b ∷ bytes) more end is =
    ap (by_end room (b ∷ bytes ++ more)) (line_end_of_more (b ∷ bytes) more end is) ∙ text_of_more room (b ∷ bytes) more end (line_fits (b ∷ bytes) end is)

module _ (room : ℕ) (held : List ℕ) (end : ℕ) (most : length held ≤ most_line) (is : position (λ b. b == line_feed) held ≡ Some end) where
  next_held : (said : Option RecordLine) (more rest : List ℕ) → said ≡ line_of room (take end held) → drop (end + 1) held ++ more ≡ rest
      → next_record room (held ++ more) ≡ by_line said rest
  next_held said more rest line tail =
      next_by room held more end (held_end held (Some end) most is) ∙ ap (λ l. by_line l (drop (end + 1) held ++ more)) (sym line) ∙ ap (by_line said) tail

  pub bad_line : None ≡ line_of room (take end held) → next_record room (held ++ []) ≡ no_line
  bad_line line = next_held None [] (drop (end + 1) held) line (append-nil _)

  pub path_first : (k : ℕ) (path text rest : List ℕ) → Some (read_line k path) ≡ line_of room (take end held) → text ≡ path → rest ≡ drop (end + 1) held
      → next_record room (held ++ []) ≡ then_rest (read k text) rest
  path_first k path text rest line same tail =
      next_held (Some (read_line k path)) [] rest line (append-nil _ ∙ sym tail) ∙ ap (λ t. then_rest (read k t) rest) (sym same)

  module _ (count : ℕ) (line : Some (batch_line count) ≡ line_of room (take end held)) where
    pub body_cut : (came : List ℕ) → length (drop (end + 1) held ++ came) < count → next_record room (held ++ came) ≡ cut_short
    body_cut came short =
        let all = drop (end + 1) held ++ came in
        let few : nat_lt (length all) count ≡ true = grind (arith, nat_tests) in
        next_held (Some (batch_line count)) came all line refl ∙ ap (λ t. cond t cut_short (then_rest (batch (take count all)) (drop count all))) few

    pub body_first : (came text rest : List ℕ) → length text ≡ count → text ++ rest ≡ drop (end + 1) held ++ came → next_record room (held ++ came) ≡ then_rest (batch text) rest
    body_first came text rest size all =
        let enough : nat_lt (length (text ++ rest)) (length text) ≡ false = grind (arith, nat_tests, length-append text rest) in
        let whole : by_line (Some (batch_line (length text))) (text ++ rest) ≡ then_rest (batch text) rest = rw (enough, take-append_seam text rest, drop-append_seam text rest) refl in
        next_held (Some (batch_line count)) came (text ++ rest) line (sym all) ∙ ap (λ n. by_line (Some (batch_line n)) (text ++ rest)) (sym size) ∙ whole

    -- readings while the body is short are readings while the record is cut
    pub body_while : {S : Type 0} (left : S → Option (List ℕ)) (readings : S → Option ℕ) (rest : List ℕ) (n : ℕ) → rest ≡ drop (end + 1) held → n ≡ count → (a b : S) (came : List ℕ)
        → ReadsWhile left readings (IsShort n) rest a b came → ReadsWhile left readings (NeedsMore room) held a b came
    body_while left readings rest n rest_is n_is a b came reads =
        reads_for left readings (IsShort n) (NeedsMore room) rest held came
        (λ more short. inr (body_cut more (subst (λ r. length (r ++ more) < count) rest_is (subst (λ m. length (rest ++ more) < m) n_is short)))) a b reads

-- ---- bytes that hold none

cut_line : (room : ℕ) (held : List ℕ) → 0 < length held → NeedsLine held → next_record room held ≡ cut_short
unfolding next_record
cut_line room [] some needs = absurd (omega (arith, some))
cut_line room (b ∷ bytes) some needs =
    let short : length (b ∷ bytes) < most_line = needs.short in
    let few : nat_lt (length (b ∷ bytes)) most_line ≡ true = grind (arith, nat_tests) in
    ap (by_end room (b ∷ bytes)) (held_end (b ∷ bytes) None (omega (arith, short)) needs.none) ∙ ap (λ t. cond t cut_short no_line) few

long_line : (room : ℕ) (held : List ℕ) → length held ≤ most_line → most_line ≤ length held → position (λ b. b == line_feed) held ≡ None → next_record room held ≡ no_line
unfolding next_record
long_line room [] most long none = absurd (omega (arith, long))
long_line room (b ∷ bytes) most long none =
    let many : nat_lt (length (b ∷ bytes)) most_line ≡ false = grind (arith, nat_tests) in
    ap (by_end room (b ∷ bytes)) (held_end (b ∷ bytes) None most none) ∙ ap (λ t. cond t cut_short no_line) many

pub needs_more : (room : ℕ) (held : List ℕ) → NeedsLine held → NeedsMore room held
unfolding next_record
needs_more room [] needs = inl refl
needs_more room (b ∷ bytes) needs = inr (cut_line room (b ∷ bytes) (omega arith) needs)

pub stops_line : (room : ℕ) (held : List ℕ) (left : Option (List ℕ)) (stop : RecordStop) → length held ≤ most_line → StopsLine held left stop → Stops room held left stop
stops_line room held left End most stops = stops
stops_line room held left Cut most stops = (cut_line room held stops.0 stops.1, stops.2)
stops_line room held left BadLine most stops = long_line room held most stops.0 stops.1
stops_line room held left ReadFault most stops = needs_more room held stops
stops_line room held left OutOfMemory most stops = absurd stops

-- what came of a line, and then what came behind it
pub read_both : {S : Type 0} (left : S → Option (List ℕ)) (readings : S → Option ℕ) (room : ℕ) (held held' : List ℕ) (a b c : S) (end : ℕ) → position (λ b. b == line_feed) held' ≡ Some end
    → (came : List ℕ) × ReadsWhile left readings NeedsLine held a b came × (held' ≡ held ++ came) → (P : List ℕ → Type 0)
    → (came : List ℕ) × ReadsWhile left readings (NeedsMore room) held' b c came × P (held' ++ came)
    → (came : List ℕ) × ReadsWhile left readings (NeedsMore room) held a c came × P (held ++ came)
read_both left readings room held held' a b c end found first P second =
    let enough : NeedsLine (held ++ first.0) → ⊥ = λ needs. none-some end (sym (subst NeedsLine (sym first.2) needs).none ∙ found) in
    let line : ReadsWhile left readings (NeedsMore room) held a b first.0
    = reads_for left readings NeedsLine (NeedsMore room) held held first.0 (λ more needs. needs_more room (held ++ more) needs) a b first.1 in
    let behind : ReadsWhile left readings (NeedsMore room) (held ++ first.0) b c second.0
    = subst (λ bytes. ReadsWhile left readings (NeedsMore room) bytes b c second.0) first.2 second.1 in (
      first.0 ++ second.0,
      reads_then left readings (NeedsMore room) held first.0 second.0 a b c line (reads_gave left readings NeedsLine held first.0 a b first.1 enough) behind,
      subst P (ap (λ bytes. bytes ++ second.0) first.2 ∙ append_assoc held first.0 second.0) second.2,
    )
