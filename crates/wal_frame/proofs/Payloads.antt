-- A payload that is read is the one that was written, and what was written is read again.
use Rattle.std.proofs.Common.{◌≡◌, ℕ, suc, ◌+◌, ◌*◌, ◌/◌, ◌^◌, ◌<◌, ◌≤◌, true, false, cond, ltb, eqb, ◌||◌, List, [], ◌∷◌, ◌++◌, length, Option, Some, None, All, refl, sym, ap, subst, ◌∙◌, arith, inl, inr, IsTrue}
use Rattle.std.specs.Prelude.{option_and_then, flat_map}
use Rattle.std.specs.Int.{w32, to_be_bytes}
use Rattle.std.proofs.lemmas.Bool.{eqb-true}
use Rattle.std.proofs.lemmas.Bool.Decides.{nat_tests}
use Rattle.std.proofs.lemmas.List.{append-nil, nil_from_length, length-append}
use Rattle.std.proofs.lemmas.List.Elements.{All-head, All-tail}
use Rattle.std.proofs.lemmas.List.Concat.{flat_map-cons}
use Rattle.std.proofs.lemmas.Nat.{mul-le}
use Rattle.healpix_nested.specs.CellLaws.{four_pow_mono}
use Rattle.parent_rule.specs.Depth.{is_bitpix}
use Rattle.pyramid_model.specs.Shape.{PyramidShape}
use Rattle.tile_pixels.specs.StoredLaws.{AreBytes}
use Rattle.edit_journal.specs.Edit.{LeafEdit, put, add, replace, remove}
use Rattle.wal_frame.specs.Record.{WalRecord, batch, publication, kind_of, payload, edit_bytes, stored_of, FitsWal, FitsRecord}
use Rattle.wal_frame.specs.Survey.{tile_length}
use Rattle.wal_frame.specs.Told.{most_payload}
use Rattle.wal_frame.specs.Payload.{number_at, edits_at, batch_of, publication_of, payload_of}
use Rattle.wal_frame.specs.Laws.{IsKnown}
use Rattle.wal_frame.proofs.Fields.{bind_some, Takes, takes_then, number_takes, number_again, length-tile_bytes}
use Rattle.wal_frame.proofs.Edits.{chosen, either, edits_take, edits_again}

-- nothing is left behind it
all_taken : (bytes text rest : List ℕ) → Takes bytes text rest → eqb (length rest) 0 ≡ true → bytes ≡ text
all_taken bytes text rest takes none =
    let empty : rest ≡ [] = nil_from_length rest (eqb-true (length rest) 0 none) in
    takes.parts ∙ ap (λ (t : List ℕ). text ++ t) empty ∙ append-nil text

-- what a payload that is read says
pub record Reads (shape : PyramidShape) (kind : ℕ) (bytes : List ℕ) (r : WalRecord) : Type 0 where
  pub same_kind : kind ≡ kind_of r
  pub same_bytes : bytes ≡ payload r
  pub fits : FitsRecord shape r

refused_count : {A : Type 0} (count : ℕ) (o : Option A) (y : A) → cond (eqb count 0 || ltb 1024 count) None o ≡ Some y → (0 < count) × (count ≤ 1024) × (o ≡ Some y)
refused_count count o y =
    elim (eqb count 0 || ltb 1024 count) as (λ b. (eqb count 0 || ltb 1024 count) ≡ b → cond b None o ≡ Some y → (0 < count) × (count ≤ 1024) × (o ≡ Some y)) [
      | true ↦ λ is e. absurd cc
      | false ↦ λ is e. (grind (arith, nat_tests), grind (arith, nat_tests), e)
    ] refl

batch_takes : (shape : PyramidShape) (bytes : List ℕ) (r : WalRecord) → IsKnown shape → AreBytes bytes → batch_of shape bytes ≡ Some r → Reads shape 1 bytes r
unfolding batch_of
batch_takes shape bytes r known fits e =
    let a = bind_some (λ count. cond (eqb count.0 0 || ltb 1024 count.0) None (option_and_then (λ edits. cond (eqb (length edits.1) 0) (Some (batch edits.0)) None) (edits_at shape count.0 count.1))) (number_at bytes) r e in
    let n = number_takes bytes a.0 fits a.1 in
    let c = refused_count a.0.0 (option_and_then (λ edits. cond (eqb (length edits.1) 0) (Some (batch edits.0)) None) (edits_at shape a.0.0 a.0.1)) r a.2 in
    let b = bind_some (λ edits. cond (eqb (length edits.1) 0) (Some (batch edits.0)) None) (edits_at shape a.0.0 a.0.1) r c.2 in
    let t = edits_take shape a.0.0 a.0.1 b.0 known n.0.rest_fits b.1 in
    let d = chosen (eqb (length b.0.1) 0) (Some (batch b.0.0)) r b.2 in
    let both = takes_then bytes (to_be_bytes w32 a.0.0) a.0.1 (flat_map edit_bytes b.0.0) b.0.1 n.0 t.0 in
    let whole : bytes ≡ to_be_bytes w32 a.0.0 ++ flat_map edit_bytes b.0.0 = all_taken bytes _ b.0.1 both d.0 in
    let made : WalRecord = batch b.0.0 in
    let is : made ≡ r = cc in
    subst (Reads shape 1 bytes) is (record {
      same_kind = refl;
      same_bytes = whole ∙ ap (λ (n : ℕ). to_be_bytes w32 n ++ flat_map edit_bytes b.0.0) (sym t.1);
      fits = (rw t.1 c.0, rw t.1 c.1, t.2);
    })

publication_takes : (shape : PyramidShape) (bytes : List ℕ) (r : WalRecord) → AreBytes bytes → publication_of bytes ≡ Some r → Reads shape 2 bytes r
unfolding publication_of
publication_takes shape bytes r fits e =
    let a = bind_some (λ tip. cond (eqb (length tip.1) 0) (Some (publication tip.0)) None) (number_at bytes) r e in
    let n = number_takes bytes a.0 fits a.1 in
    let d = chosen (eqb (length a.0.1) 0) (Some (publication a.0.0)) r a.2 in
    let made : WalRecord = publication a.0.0 in
    let is : made ≡ r = cc in
    subst (Reads shape 2 bytes) is (record { same_kind = refl; same_bytes = all_taken bytes _ a.0.1 n.0 d.0; fits = n.1 })

pub payload_takes : (shape : PyramidShape) (kind : ℕ) (bytes : List ℕ) (r : WalRecord) → IsKnown shape → AreBytes bytes → payload_of shape kind bytes ≡ Some r → Reads shape kind bytes r
unfolding payload_of
payload_takes shape kind bytes r known fits e =
    elim (either kind 1 _ _ r e) [
      | inl h ↦ subst (λ (k : ℕ). Reads shape k bytes r) (sym h.0) (batch_takes shape bytes r known fits h.1)
      | inr e ↦ elim (either kind 2 _ _ r e) [
        | inl h ↦ subst (λ (k : ℕ). Reads shape k bytes r) (sym h.0) (publication_takes shape bytes r fits h.1)
        | inr e ↦ absurd cc
      ]
    ]

-- ---- again

pub payload_again : (shape : PyramidShape) (r : WalRecord) → IsKnown shape → FitsRecord shape r → payload_of shape (kind_of r) (payload r) ≡ Some r
unfolding payload_of batch_of publication_of
payload_again shape (batch edits) known fits =
    let count : ℕ = length edits in
    let n : number_at (to_be_bytes w32 count ++ flat_map edit_bytes edits) ≡ Some (count, flat_map edit_bytes edits) = number_again count (flat_map edit_bytes edits) (omega (arith, fits.0, fits.1)) in
    let some : (eqb count 0 || ltb 1024 count) ≡ false = few count fits.0 fits.1 in
    let all : edits_at shape count (flat_map edit_bytes edits) ≡ Some (edits, []) = ap (edits_at shape count) (sym (append-nil (flat_map edit_bytes edits))) ∙ edits_again shape edits [] known fits.2 in
    ap (option_and_then (λ count. cond (eqb count.0 0 || ltb 1024 count.0) None (option_and_then (λ edits. cond (eqb (length edits.1) 0) (Some (batch edits.0)) None) (edits_at shape count.0 count.1)))) n
    ∙ rw some (ap (option_and_then (λ edits. cond (eqb (length edits.1) 0) (Some (batch edits.0)) None)) all)
  where
    few : (count : ℕ) → 0 < count → count ≤ 1024 → (eqb count 0 || ltb 1024 count) ≡ false
    few count some most = grind (arith, nat_tests)
payload_again shape (publication tip) known fits =
    let n : number_at (to_be_bytes w32 tip) ≡ Some (tip, []) = ap number_at (sym (append-nil (to_be_bytes w32 tip))) ∙ number_again tip [] fits in
    ap (option_and_then (λ tip. cond (eqb (length tip.1) 0) (Some (publication tip.0)) None)) n

-- ---- how long it may be

few_bits : (bits : ℕ) → IsTrue (is_bitpix bits) → bits ≤ 64
few_bits bits known = grind (arith, nat_tests)

pub tile_at_most : (bits n : ℕ) → IsTrue (is_bitpix bits) → n ≤ 9 → 4 ^ n * (bits / 8) ≤ 2 ^ 21
tile_at_most bits n known few =
    let small : bits ≤ 64 = few_bits bits known in
    let numbers : 4 ^ n ≤ 262144 = four_pow_mono n 9 few in
    mul-le (4 ^ n) (bits / 8) 262144 8 numbers (omega arith)

stored_at_most : (shape : PyramidShape) (edit : LeafEdit) → IsKnown shape → FitsWal shape edit → length (stored_of edit) ≤ tile_length shape
stored_at_most shape (put leaf tile) known fits = omega (arith, length-tile_bytes shape tile known (record { has_shape = fits.fits.1; is_tile = fits.tile }))
stored_at_most shape (add leaf tile) known fits = omega (arith, length-tile_bytes shape tile known (record { has_shape = fits.fits.1; is_tile = fits.tile }))
stored_at_most shape (replace leaf tile) known fits = omega (arith, length-tile_bytes shape tile known (record { has_shape = fits.fits.1; is_tile = fits.tile }))
stored_at_most shape (remove leaf) known fits = omega arith

edits_at_most : (shape : PyramidShape) (edits : List LeafEdit) → IsKnown shape → All (FitsWal shape) edits → length (flat_map edit_bytes edits) ≤ length edits * (5 + tile_length shape)
unfolding edit_bytes
edits_at_most shape [] known all = omega arith
edits_at_most shape (edit ∷ edits) known all =
    let most : ℕ = tile_length shape in
    let first : length (stored_of edit) ≤ most = stored_at_most shape edit known (All-head (FitsWal shape) edit edits all) in
    let others : length (flat_map edit_bytes edits) ≤ length edits * (5 + most) = edits_at_most shape edits known (All-tail (FitsWal shape) edit edits all) in
    let parts : length (flat_map edit_bytes (edit ∷ edits)) ≡ length (edit_bytes edit) + length (flat_map edit_bytes edits) = ap length (flat_map-cons edit_bytes edit edits) ∙ length-append (edit_bytes edit) (flat_map edit_bytes edits) in
    sum_at_most (length (flat_map edit_bytes (edit ∷ edits))) (length (stored_of edit)) (length (flat_map edit_bytes edits)) (length edits) most (omega (arith, parts)) first others
  where
    sum_at_most : (all one others n most : ℕ) → all ≡ 5 + one + others → one ≤ most → others ≤ n * (5 + most) → all ≤ suc n * (5 + most)
    sum_at_most all one others n most parts first rest = omega (arith, parts, first, rest)

pub payload_at_most : (shape : PyramidShape) (r : WalRecord) → IsKnown shape → FitsRecord shape r → length (payload r) ≤ most_payload shape
payload_at_most shape (batch edits) known fits =
    let all = edits_at_most shape edits known fits.2 in
    let most : length edits * (5 + tile_length shape) ≤ 1024 * (5 + tile_length shape) = mul-le (length edits) (5 + tile_length shape) 1024 (5 + tile_length shape) fits.1 (omega arith) in
    omega (arith, length-append (to_be_bytes w32 (length edits)) (flat_map edit_bytes edits), all, most)
payload_at_most shape (publication tip) known fits = omega arith

pub payload_fits : (shape : PyramidShape) (r : WalRecord) → IsKnown shape → FitsRecord shape r → length (payload r) < 2 ^ 64
payload_fits shape r known fits =
    let most : tile_length shape ≤ 2 ^ 21 = tile_at_most shape.depth.bitpix shape.n known.bitpix known.known.greatest_n in
    omega (arith, payload_at_most shape r known fits, most)
