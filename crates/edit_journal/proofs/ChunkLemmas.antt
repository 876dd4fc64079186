-- Notes in full chunks.
use Rattle.std.proofs.Common.{◌≡◌, ℕ, zero, suc, ◌+◌, ◌-◌, ◌*◌, ◌/◌, ◌%◌, ◌<◌, ◌≤◌, List, [], ◌∷◌, ◌++◌, length, refl, sym, ap, ◌∙◌, subst, arith, length-append, append_assoc, append-nil, Option, Some, None, option_map}
use Rattle.std.specs.Prelude.{flat_map, All, slice_get, option_and_then}
use Rattle.std.specs.Arc.{arc_value}
use Rattle.std.specs.List.{AllZip}
use Rattle.std.proofs.lemmas.List.Elements.{All-head, All-tail, All-cons}
use Rattle.std.proofs.lemmas.Grind.{flat_map-append}
use Rattle.edit_journal.specs.Kept.{Note}
use Rattle.edit_journal.specs.Chunks.{Chunk, chunk_notes, notes_in, AreFull}

pub length-notes_in : (chunks : List Chunk) → AreFull chunks → length (notes_in chunks) ≡ 64 * length chunks
length-notes_in [] all = refl
length-notes_in (chunk ∷ chunks) all =
    let here : length (chunk_notes chunk) ≡ 64 = All-head (λ chunk. length (chunk_notes chunk) ≡ 64) chunk chunks all in
    let rest : length (notes_in chunks) ≡ 64 * length chunks = length-notes_in chunks (All-tail (λ chunk. length (chunk_notes chunk) ≡ 64) chunk chunks all) in
    let both : length (chunk_notes chunk ++ notes_in chunks) ≡ length (chunk_notes chunk) + length (notes_in chunks) = length-append (chunk_notes chunk) (notes_in chunks) in
    omega arith

-- a place in the first of two lists, and in the second
pub get_before : {X : Type 0} (xs ys : List X) (i : ℕ) → i < length xs → slice_get (xs ++ ys) i ≡ slice_get xs i
get_before [] ys i h = absurd (omega arith)
get_before (x ∷ xs) ys zero h = refl
get_before (x ∷ xs) ys (suc i) h = get_before xs ys i (omega arith)

pub get_after : {X : Type 0} (xs ys : List X) (i : ℕ) → slice_get (xs ++ ys) (length xs + i) ≡ slice_get ys i
get_after [] ys i = let same : 0 + i ≡ i = omega arith in ap (slice_get ys) same
get_after (x ∷ xs) ys i = let same : suc (length xs) + i ≡ suc (length xs + i) = omega arith in ap (slice_get (x ∷ xs ++ ys)) same ∙ get_after xs ys i

-- note i stands in chunk i / 64, at place i % 64
pub get_in_chunk : (chunks : List Chunk) (last : List Note) (i : ℕ) (chunk : Chunk) → AreFull chunks → slice_get chunks (i / 64) ≡ Some chunk → slice_get (notes_in chunks ++ last) i ≡ slice_get (chunk_notes chunk) (i % 64)
get_in_chunk chunks last i chunk all found =
    let split : i ≡ 64 * (i / 64) + i % 64 = omega arith in
    ap (slice_get (notes_in chunks ++ last)) split ∙ place_in_chunk chunks last (i / 64) (i % 64) chunk all (omega arith) found
  where
    place_in_chunk : (chunks : List Chunk) (last : List Note) (c r : ℕ) (chunk : Chunk) → AreFull chunks → r < 64 → slice_get chunks c ≡ Some chunk → slice_get (notes_in chunks ++ last) (64 * c + r) ≡ slice_get (chunk_notes chunk) r
    place_in_chunk [] last c r chunk all lt found = cc
    place_in_chunk (first ∷ chunks) last zero r chunk all lt found =
        let here : length (chunk_notes first) ≡ 64 = All-head (λ chunk. length (chunk_notes chunk) ≡ 64) first chunks all in
        let same : first ≡ chunk = cc in
        let place : 64 * 0 + r ≡ r = omega arith in
        ap (slice_get ((chunk_notes first ++ notes_in chunks) ++ last)) place
        ∙ ap (λ xs. slice_get xs r) (append_assoc (chunk_notes first) (notes_in chunks) last)
        ∙ get_before (chunk_notes first) (notes_in chunks ++ last) r (omega arith)
        ∙ ap (λ chunk. slice_get (chunk_notes chunk) r) same
    place_in_chunk (first ∷ chunks) last (suc c) r chunk all lt found =
        let here : length (chunk_notes first) ≡ 64 = All-head (λ chunk. length (chunk_notes chunk) ≡ 64) first chunks all in
        let place : 64 * suc c + r ≡ length (chunk_notes first) + (64 * c + r) = omega arith in
        ap (slice_get ((chunk_notes first ++ notes_in chunks) ++ last)) place
        ∙ ap (λ xs. slice_get xs (length (chunk_notes first) + (64 * c + r))) (append_assoc (chunk_notes first) (notes_in chunks) last)
        ∙ get_after (chunk_notes first) (notes_in chunks ++ last) (64 * c + r)
        ∙ place_in_chunk chunks last c r chunk (All-tail (λ chunk. length (chunk_notes chunk) ≡ 64) first chunks all) lt found

-- past the full chunks it stands in the last one
pub get_in_last : (chunks : List Chunk) (last : List Note) (i : ℕ) → AreFull chunks → length chunks * 64 ≤ i → slice_get (notes_in chunks ++ last) i ≡ slice_get last (i - length chunks * 64)
get_in_last chunks last i all h =
    let long : length (notes_in chunks) ≡ 64 * length chunks = length-notes_in chunks all in
    let place : i ≡ length (notes_in chunks) + (i - length chunks * 64) = omega arith in
    ap (slice_get (notes_in chunks ++ last)) place ∙ get_after (notes_in chunks) last (i - length chunks * 64)

-- chunks that are shared once more
pub shared_chunks : (chunks clones : List Chunk) → AllZip (λ chunk clone. arc_value clone ≡ arc_value chunk) chunks clones → notes_in clones ≡ notes_in chunks
shared_chunks [] [] all = refl
shared_chunks [] (clone ∷ clones) all = absurd all
shared_chunks (chunk ∷ chunks) [] all = absurd all
shared_chunks (chunk ∷ chunks) (clone ∷ clones) all =
    let here : arc_value clone ≡ arc_value chunk = all.0 in
    let rest : notes_in clones ≡ notes_in chunks = shared_chunks chunks clones all.1 in
    let items : chunk_notes clone ≡ chunk_notes chunk = ap (λ v. v.items) here in
    rw (items, rest) refl

pub shared_full : (chunks clones : List Chunk) → AllZip (λ chunk clone. arc_value clone ≡ arc_value chunk) chunks clones → AreFull chunks → AreFull clones
shared_full [] [] zip all = all
shared_full [] (clone ∷ clones) zip all = absurd zip
shared_full (chunk ∷ chunks) [] zip all = absurd zip
shared_full (chunk ∷ chunks) (clone ∷ clones) zip all =
    let here : arc_value clone ≡ arc_value chunk = zip.0 in
    let items : length (chunk_notes clone) ≡ length (chunk_notes chunk) = ap (λ v. length v.items) here in
    All-cons (λ chunk. length (chunk_notes chunk) ≡ 64) clone clones (items ∙ All-head (λ chunk. length (chunk_notes chunk) ≡ 64) chunk chunks all)
    (shared_full chunks clones zip.1 (All-tail (λ chunk. length (chunk_notes chunk) ≡ 64) chunk chunks all))

pub length-shared : (chunks clones : List Chunk) → AllZip (λ chunk clone. arc_value clone ≡ arc_value chunk) chunks clones → length clones ≡ length chunks
length-shared [] [] zip = refl
length-shared [] (clone ∷ clones) zip = absurd zip
length-shared (chunk ∷ chunks) [] zip = absurd zip
length-shared (chunk ∷ chunks) (clone ∷ clones) zip = ap suc (length-shared chunks clones zip.1)

-- one full chunk more
pub one_chunk_more : (chunks : List Chunk) (chunk : Chunk) → notes_in (chunks ++ chunk ∷ []) ≡ notes_in chunks ++ chunk_notes chunk
one_chunk_more chunks chunk = flat_map-append chunk_notes chunks (chunk ∷ []) ∙ ap (λ xs. notes_in chunks ++ xs) (append-nil (chunk_notes chunk))
