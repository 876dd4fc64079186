-- Which records of an input stand before others.
use Rattle.std.proofs.Common.{◌≡◌, ℕ, suc, ◌+◌, ◌-◌, ◌≤◌, ◌<◌, List, [], ◌∷◌, ◌++◌, length, refl, sym, ap, ◌∙◌, arith}
use Rattle.std.proofs.lemmas.List.{append-nil}
use Rattle.past_frame.specs.Laws.{RecordsStand}
use Rattle.past_frame.specs.Record.{PastRecord, NextRecord, then_rest, next_record}
use Rattle.past_session.specs.Records.{PastInput, most_records, ends_by, with_record, then_records, behind_all, records_from, records_of}
use Rattle.past_session.specs.declared.ending.PastEnd.{PastEnd}
use Rattle.past_session.specs.declared.ending.PastEnd.TheVariants.{Done, Spent}

-- behind these records of an input the rest stands
abbrev pub IsBehind : ℕ → List ℕ → List PastRecord → List ℕ → Type 0
IsBehind room input [] rest = input ≡ rest
IsBehind room input (first ∷ later) rest = (after : List ℕ) × (next_record room input ≡ then_rest first after) × IsBehind room after later rest

module _ (stand : RecordsStand) (room : ℕ) where
  pub behind_more : (input : List ℕ) (records : List PastRecord) (rest more : List ℕ) → IsBehind room input records rest → IsBehind room (input ++ more) records (rest ++ more)
  behind_more input [] rest more is = ap (λ bytes. bytes ++ more) is
  behind_more input (first ∷ later) rest more is = (is.0 ++ more, stand.whole room input is.0 more first is.1, behind_more is.0 later rest more is.2)

  pub behind_next : (input : List ℕ) (records : List PastRecord) (rest rest' : List ℕ) (next : PastRecord) → IsBehind room input records rest → next_record room rest ≡ then_rest next rest'
      → IsBehind room input (records ++ next ∷ []) rest'
  behind_next input [] rest rest' next is reads = (rest', ap (next_record room) is ∙ reads, refl)
  behind_next input (first ∷ later) rest rest' next is reads = (is.0, is.1, behind_next is.0 later rest rest' next is.2 reads)

-- records before those of an input
abbrev pub behind : List PastRecord → PastInput → PastInput
behind records later = record { records = records ++ later.records; end = later.end }

pub records_behind : (room at more : ℕ) (input : List ℕ) (records : List PastRecord) (rest : List ℕ) → IsBehind room input records rest
    → records_from room at (length records + more) input ≡ behind records (records_from room (at + length records) more rest)
unfolding records_from
records_behind room at more input [] rest is =
    let none : 0 + more ≡ more = omega arith in
    let same : at + 0 ≡ at = omega arith in
    ap (λ n. records_from room at n input) none ∙ ap (records_from room at more) is ∙ ap (λ n. records_from room n more rest) (sym same)
records_behind room at more input (first ∷ later) rest is =
    let count : suc (length later) + more ≡ suc (length later + more) = omega arith in
    let place : at + suc (length later) ≡ at + 1 + length later = omega arith in
    rw (count, place) (ap (λ next. then_records at next (records_from room (at + 1) (length later + more))) is.1
    ∙ ap (with_record first) (records_behind room (at + 1) more is.0 later rest is.2))

module _ (room : ℕ) (input : List ℕ) (records : List PastRecord) (rest : List ℕ) (is : IsBehind room input records rest) where
  -- where fewer stand before than are taken
  pub records_then : length records < most_records → records_of room input
      ≡ behind records (then_records (length records) (next_record room rest) (records_from room (length records + 1) (most_records - length records - 1)))
  unfolding records_of records_from
  records_then few =
      let more : most_records ≡ length records + suc (most_records - length records - 1) = omega (arith, few) in
      let place : 0 + length records ≡ length records = omega arith in
      ap (λ n. records_from room 0 n input) more ∙ records_behind room 0 (suc (most_records - length records - 1)) input records rest is
      ∙ ap (λ n. behind records (records_from room n (suc (most_records - length records - 1)) rest)) place

  -- where all that are taken do
  pub records_all : length records ≡ most_records → records_of room input ≡ behind records (behind_all rest)
  unfolding records_of records_from
  records_all all =
      let more : most_records ≡ length records + 0 = omega (arith, all) in
      ap (λ n. records_from room 0 n input) more ∙ records_behind room 0 0 input records rest is

  -- the input ends there
  pub records_end : (next : NextRecord) (end : PastEnd) → length records < most_records → next_record room rest ≡ next → ((later : List ℕ → PastInput) → then_records (length records) next later ≡ ends_by end)
      → records_of room input ≡ record { records = records; end = end }
  records_end next end few reads none =
      records_then few ∙ ap (λ n. behind records (then_records (length records) n (records_from room (length records + 1) (most_records - length records - 1)))) reads
      ∙ ap (behind records) (none (records_from room (length records + 1) (most_records - length records - 1)))
      ∙ ap (λ all. record { records = all; end = end }) (append-nil records)

  -- another record stands there
  pub records_next : (next : PastRecord) (after : List ℕ) → length records < most_records → next_record room rest ≡ then_rest next after
      → (later : List PastRecord) × ((records_of room input).records ≡ records ++ next ∷ later)
  records_next next after few reads = (
    (records_from room (length records + 1) (most_records - length records - 1) after).records,
    ap (λ (i : PastInput). i.records) (records_then few ∙ ap (λ n. behind records (then_records (length records) n (records_from room (length records + 1) (most_records - length records - 1)))) reads),
  )

  -- whatever stands there
  pub records_some : length records ≤ most_records → (later : List PastRecord) × ((records_of room input).records ≡ records ++ later)
  unfolding records_of
  records_some most =
      let more : most_records ≡ length records + (most_records - length records) = omega (arith, most) in (
        (records_from room (0 + length records) (most_records - length records) rest).records,
        ap (λ (i : PastInput). i.records) (ap (λ n. records_from room 0 n input) more ∙ records_behind room 0 (most_records - length records) input records rest is),
      )

pub behind_none : (rest : List ℕ) → rest ≡ [] → behind_all rest ≡ ends_by Done
behind_none rest is = ap behind_all is

pub behind_some : (rest : List ℕ) → 0 < length rest → behind_all rest ≡ ends_by Spent
behind_some [] some = absurd (omega (arith, some))
behind_some (_ ∷ _) some = refl
