-- A header isn't refused exactly if it is the survey's.
use Rattle.std.proofs.Common.{◌≡◌, ℕ, ◌+◌, ◌-◌, ◌≤◌, Bool, true, false, cond, List, ◌++◌, length, take, drop, Option, Some, None, refl, sym, ap, ◌∙◌, arith, length-append}
use Rattle.std.specs.Prelude.{slice_range, replicate}
use Rattle.std.specs.Option.{option_or}
use Rattle.std.specs.Str.{bytes_eq}
use Rattle.std.proofs.lemmas.Slice.Eq.{bytes_eq-Decides}
use Rattle.std.proofs.Math.Seq.{take-add}
use Rattle.std.proofs.lemmas.List.{drop-drop, drop-take, take-take, take_all}
use Rattle.wal_frame.specs.declared.survey.SurveyMark.{SurveyMark}
use Rattle.wal_frame.specs.declared.refusal.WalRefusal.{WalRefusal}
use Rattle.wal_frame.specs.declared.refusal.Reason.{Reason}
use Rattle.wal_frame.specs.declared.refusal.Reason.TheVariants.{NoHeader, OtherVersion, OtherSurvey}
use Rattle.wal_frame.specs.Header.{header_bytes, field_refusal, header_refusal}
use Rattle.wal_frame.specs.Laws.{HeadersAreKnown}

abbrev refused_at : Reason → ℕ → Option WalRefusal
refused_at reason start = Some (record { reason = reason; offset = start })

-- the first 64 bytes by fields
fields : List ℕ → List ℕ
fields xs = slice_range xs 0 8 ++ (slice_range xs 8 12 ++ (slice_range xs 12 16 ++ (slice_range xs 16 48 ++ slice_range xs 48 64)))

in_fields : (xs : List ℕ) → take 64 xs ≡ fields xs
unfolding fields
in_fields xs =
    take-add 8 56 xs
    ∙ ap (λ (t : List ℕ). take 8 xs ++ t) (take-add 4 52 (drop 8 xs) ∙ ap (λ (t : List ℕ). take 4 (drop 8 xs) ++ take 52 t) (drop-drop 4 8 xs)
    ∙ ap (λ (t : List ℕ). take 4 (drop 8 xs) ++ t) (take-add 4 48 (drop 12 xs) ∙ ap (λ (t : List ℕ). take 4 (drop 12 xs) ++ take 48 t) (drop-drop 4 12 xs)
    ∙ ap (λ (t : List ℕ). take 4 (drop 12 xs) ++ t) (take-add 32 16 (drop 16 xs) ∙ ap (λ (t : List ℕ). take 32 (drop 16 xs) ++ take 16 t) (drop-drop 32 16 xs))))

unrefused : (reason : Reason) (start end : ℕ) (bytes header : List ℕ) → field_refusal reason start end bytes header ≡ None → slice_range bytes start end ≡ slice_range header start end
unfolding field_refusal
unrefused reason start end bytes header =
    elim (bytes_eq (slice_range bytes start end) (slice_range header start end)) as (λ b. bytes_eq (slice_range bytes start end) (slice_range header start end) ≡ b
    → cond b None (refused_at reason start) ≡ None → slice_range bytes start end ≡ slice_range header start end) [
      | true ↦ λ is e. (bytes_eq-Decides (slice_range bytes start end) (slice_range header start end)).0 is
      | false ↦ λ is e. absurd cc
    ] refl

taken : (reason : Reason) (start end : ℕ) (bytes header : List ℕ) → slice_range bytes start end ≡ slice_range header start end → field_refusal reason start end bytes header ≡ None
unfolding field_refusal
taken reason start end bytes header same =
    let is : bytes_eq (slice_range bytes start end) (slice_range header start end) ≡ true = (bytes_eq-Decides (slice_range bytes start end) (slice_range header start end)).1 same in
    ap (λ (b : Bool). cond b None (refused_at reason start)) is

neither : (o p : Option WalRefusal) → option_or o p ≡ None → (o ≡ None) × (p ≡ None)
neither None p e = (refl, e)
neither (Some x) p e = absurd cc

length-header : (mark : SurveyMark) → length mark.digest ≡ 32 → length (header_bytes mark) ≡ 64
unfolding header_bytes
length-header mark long = omega (arith, length-append mark.digest (replicate 16 0), long)

-- a field lies within the first 64 bytes
within : (xs : List ℕ) (start count : ℕ) → start + count ≤ 64 → take count (drop start (take 64 xs)) ≡ take count (drop start xs)
within xs start count h =
    let all : start + (64 - start) ≡ 64 = omega arith in
    let part : drop start (take (start + (64 - start)) xs) ≡ take (64 - start) (drop start xs) = drop-take start (64 - start) xs in
    ap (λ (n : ℕ). take count (drop start (take n xs))) (sym all) ∙ ap (take count) part ∙ take-take count (64 - start) (drop start xs) (omega arith)

module _ (mark : SurveyMark) (bytes : List ℕ) (digest : length mark.digest ≡ 32) (long : 64 ≤ length bytes) where
  same_bytes : header_refusal mark bytes ≡ None → take 64 bytes ≡ header_bytes mark
  unfolding header_refusal fields
  same_bytes e =
      let a = neither _ _ e in
      let b = neither _ _ a.1 in
      let c = neither _ _ b.1 in
      let d = neither _ _ c.1 in
      let f0 = unrefused _ 0 8 bytes (header_bytes mark) a.0 in
      let f1 = unrefused _ 8 12 bytes (header_bytes mark) b.0 in
      let f2 = unrefused _ 48 64 bytes (header_bytes mark) c.0 in
      let f3 = unrefused _ 12 16 bytes (header_bytes mark) d.0 in
      let f4 = unrefused _ 16 48 bytes (header_bytes mark) d.1 in
      let same : fields bytes ≡ fields (header_bytes mark) = rw (f0, f1, f3, f4, f2) refl in
      in_fields bytes ∙ same ∙ sym (in_fields (header_bytes mark)) ∙ take_all 64 (header_bytes mark) (omega (arith, length-header mark digest))

  same_field : (reason : Reason) (start count : ℕ) → take 64 bytes ≡ header_bytes mark → start + count ≤ 64 → field_refusal reason start (start + count) bytes (header_bytes mark) ≡ None
  same_field reason start count same fits =
      let width : start + count - start ≡ count = omega arith in
      let field : take count (drop start bytes) ≡ take count (drop start (header_bytes mark)) = sym (within bytes start count fits) ∙ ap (λ (t : List ℕ). take count (drop start t)) same in
      taken reason start (start + count) bytes (header_bytes mark) (rw width field)

  unrefused_all : take 64 bytes ≡ header_bytes mark → header_refusal mark bytes ≡ None
  unfolding header_refusal
  unrefused_all same =
      rw (same_field NoHeader 0 8 same (omega arith), same_field OtherVersion 8 4 same (omega arith), same_field NoHeader 48 16 same (omega arith), same_field OtherSurvey 12 4 same (omega arith), same_field OtherSurvey 16 32 same (omega arith)) refl

pub headers_are_known : HeadersAreKnown
headers_are_known mark bytes digest long = (same_bytes mark bytes digest long, unrefused_all mark bytes digest long)
