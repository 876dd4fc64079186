-- What stands first in some bytes is one thing, and so is a WAL.
use Rattle.std.proofs.Common.{◌≡◌, ℕ, true, false, List, [], ◌∷◌, ◌++◌, refl, sym, ap, subst, ◌∙◌, append_assoc}
use Rattle.std.specs.Prelude.{flat_map}
use Rattle.std.proofs.lemmas.List.Elements.{All-head, All-tail}
use Rattle.std.proofs.lemmas.List.Concat.{flat_map-cons}
use Rattle.pyramid_model.specs.Shape.{PyramidShape}
use Rattle.wal_frame.specs.Record.{WalRecord, record_bytes, FitsRecord}
use Rattle.wal_frame.specs.Reading.{Found, wal_end, record_then, malformed, ends_here, StandsFirst, IsStop, IsWal}
use Rattle.wal_frame.specs.Payload.{found}
use Rattle.wal_frame.specs.Laws.{IsKnown, RecordsComeBack, WalsAreOne}
use Rattle.wal_frame.proofs.Records.{not_the_end, found_again}

module _ (shape : PyramidShape) (bytes : List ℕ) (known : IsKnown shape) where
  goes_on : (r : WalRecord) (rest : List ℕ) → FitsRecord shape r × (bytes ≡ record_bytes r ++ rest) → ends_here bytes ≡ false
  goes_on r rest first = ap ends_here first.1 ∙ not_the_end shape r rest known first.0

  record_found : (r : WalRecord) (rest : List ℕ) → FitsRecord shape r × (bytes ≡ record_bytes r ++ rest) → found shape bytes ≡ record_then r rest
  record_found r rest first = ap (found shape) first.1 ∙ found_again shape r rest known first.0

  both : {A : Type 0} → ends_here bytes ≡ true → ends_here bytes ≡ false → A
  both is isnt = let clash : true ≡ false = sym is ∙ isnt in absurd cc

  one : (a b : Found) → StandsFirst shape bytes a → StandsFirst shape bytes b → a ≡ b
  one wal_end wal_end x y = refl
  one wal_end (record_then r rest) x y = both x (goes_on r rest y)
  one wal_end malformed x y = both x y.goes_on
  one (record_then r rest) wal_end x y = both y (goes_on r rest x)
  one (record_then r rest) (record_then s left) x y = sym (record_found r rest x) ∙ record_found s left y
  one (record_then r rest) malformed x y = absurd (y.none r rest x.0 x.1)
  one malformed wal_end x y = both y x.goes_on
  one malformed (record_then r rest) x y = absurd (x.none r rest y.0 y.1)
  one malformed malformed x y = refl

pub records_come_back : RecordsComeBack
records_come_back = record {
  one = λ shape bytes a b known. one shape bytes known a b;
  written = λ shape r rest answer known fits first. one shape (record_bytes r ++ rest) known answer (record_then r rest) first (fits, refl);
}

-- ---- WALs

-- the first record of a WAL, and the WAL behind it
first_of : (shape : PyramidShape) (bytes : List ℕ) (r : WalRecord) (records : List WalRecord) (rest : List ℕ) (stop : Found) → IsWal shape bytes (r ∷ records) rest stop
    → StandsFirst shape bytes (record_then r (flat_map record_bytes records ++ rest))
first_of shape bytes r records rest stop wal = (
  All-head (FitsRecord shape) r records wal.each,
  wal.whole ∙ ap (λ (t : List ℕ). t ++ rest) (flat_map-cons record_bytes r records) ∙ append_assoc (record_bytes r) (flat_map record_bytes records) rest,
)

behind : (shape : PyramidShape) (bytes : List ℕ) (r : WalRecord) (records : List WalRecord) (rest : List ℕ) (stop : Found) → IsWal shape bytes (r ∷ records) rest stop
    → IsWal shape (flat_map record_bytes records ++ rest) records rest stop
behind shape bytes r records rest stop wal = record { whole = refl; each = All-tail (FitsRecord shape) r records wal.each; last = wal.last; no_more = wal.no_more }

-- a WAL that has no record has none
no_record : (shape : PyramidShape) (bytes : List ℕ) (r : WalRecord) (records : List WalRecord) (rest left : List ℕ) (stop end : Found) → IsKnown shape → IsWal shape bytes [] rest stop → IsWal shape bytes (r ∷ records) left end → ⊥
no_record shape bytes r records rest left stop end known wal other =
    let here : StandsFirst shape bytes stop = subst (λ (t : List ℕ). StandsFirst shape t stop) (sym wal.whole) wal.last in
    let is : stop ≡ record_then r (flat_map record_bytes records ++ left) = one shape bytes known stop _ here (first_of shape bytes r records left end other) in
    subst IsStop is wal.no_more

pub wals_are_one : WalsAreOne
wals_are_one shape bytes [] [] rest left stop end known wal other =
    let same : rest ≡ left = sym wal.whole ∙ other.whole in
    record {
      same_records = refl;
      same_rest = same;
      same_stop = one shape left known stop end (subst (λ (t : List ℕ). StandsFirst shape t stop) same wal.last) other.last;
    }
wals_are_one shape bytes [] (s ∷ others) rest left stop end known wal other = absurd (no_record shape bytes s others rest left stop end known wal other)
wals_are_one shape bytes (r ∷ records) [] rest left stop end known wal other = absurd (no_record shape bytes r records left rest end stop known other wal)
wals_are_one shape bytes (r ∷ records) (s ∷ others) rest left stop end known wal other =
    let is = one shape bytes known _ _ (first_of shape bytes r records rest stop wal) (first_of shape bytes s others left end other) in
    let parts = then_parts r s _ _ is in
    let next = wals_are_one shape (flat_map record_bytes records ++ rest) records others rest left stop end known (behind shape bytes r records rest stop wal)
    (subst (λ (t : List ℕ). IsWal shape t others left end) (sym parts.1) (behind shape bytes s others left end other)) in
    record { same_records = ap (λ (x : WalRecord). x ∷ records) parts.0 ∙ ap (λ (xs : List WalRecord). s ∷ xs) next.same_records; same_rest = next.same_rest; same_stop = next.same_stop }
  where
    then_parts : (r s : WalRecord) (a b : List ℕ) → record_then r a ≡ record_then s b → (r ≡ s) × (a ≡ b)
    then_parts r s a b e = (cc, cc)
