-- Cards that are written one behind another.
use Rattle.std.proofs.Common.{◌≡◌, ℕ, ◌+◌, ◌-◌, ◌*◌, ◌<◌, ◌≤◌, List, [], ◌∷◌, ◌++◌, length, take, drop, replicate, sym, ap, ◌∙◌, arith, append_assoc, length-append}
use Rattle.std.specs.Prelude.{slice_index_or}
use Rattle.std.specs.List.{concat}
use Rattle.std.proofs.lemmas.List.{length-take, length-drop, drop-drop, take_at, drop_at, take_more, take_all, append-nil}
use Rattle.std.proofs.lemmas.List.Folds.{concat-append}
use Rattle.fits_header.specs.Cards.{whole_blocks}
use Rattle.fits_header.specs.FitsFile.{header_text}

-- the first cards are written, and the rest stays
pub record IsWritten (cards : List (List ℕ)) (place : ℕ) (out before : List ℕ) : Type 0 where
  pub len : length (concat (take place cards)) ≡ 80 * place
  pub written : out ≡ concat (take place cards) ++ drop (80 * place) before

concat-next : (cards : List (List ℕ)) (place : ℕ) (card : List ℕ) → place < length cards → card ≡ slice_index_or cards place card → concat (take (place + 1) cards) ≡ concat (take place cards) ++ card
concat-next cards place card inside is =
    ap concat (take_more cards place card inside ∙ ap (λ c. take place cards ++ c ∷ []) (sym is))
    ∙ concat-append (take place cards) (card ∷ [])
    ∙ ap (λ ys. concat (take place cards) ++ ys) (append-nil card)

pub write-next : (cards : List (List ℕ)) (place : ℕ) (card new out before : List ℕ) → place < length cards → card ≡ slice_index_or cards place card → length card ≡ 80 → new ≡ card
    → IsWritten cards place out before
    → IsWritten cards (place + 1) (take (80 * place) out ++ (new ++ drop (80 * place + 80 - 80 * place) (drop (80 * place) out))) before
write-next cards place card new out before inside is long copied so_far =
    let front = concat (take place cards) in
    let next = concat-next cards place card inside is in
    let rest = drop (80 * place) before in
    let step : 80 * place + 80 - 80 * place ≡ 80 = omega arith in
    let end : 80 * place + 80 ≡ 80 * (place + 1) = omega arith in
    record {
      len = let sum = length-append front card in let first = so_far.len in ap length next ∙ omega (arith, sum, first);
      written =
          ap (λ o. take (80 * place) o ++ (new ++ drop (80 * place + 80 - 80 * place) (drop (80 * place) o))) so_far.written
          ∙ ap (λ ys. take (80 * place) (front ++ rest) ++ (ys ++ drop (80 * place + 80 - 80 * place) (drop (80 * place) (front ++ rest)))) copied
          ∙ ap (λ ys. ys ++ (card ++ drop (80 * place + 80 - 80 * place) (drop (80 * place) (front ++ rest)))) (take_at front rest (80 * place) so_far.len)
          ∙ ap (λ ys. front ++ (card ++ drop (80 * place + 80 - 80 * place) ys)) (drop_at front rest (80 * place) so_far.len)
          ∙ ap (λ m. front ++ (card ++ drop m rest)) step
          ∙ ap (λ ys. front ++ (card ++ ys)) (drop-drop 80 (80 * place) before ∙ ap (λ m. drop m before) end)
          ∙ sym (append_assoc front card (drop (80 * (place + 1)) before))
          ∙ ap (λ ys. ys ++ drop (80 * (place + 1)) before) (sym next);
    }

pub written-all : (cards : List (List ℕ)) (place : ℕ) (out before : List ℕ) → length cards ≡ place → IsWritten cards place out before
    → (length (concat cards) ≡ 80 * length cards) × (out ≡ concat cards ++ drop (80 * length cards) before)
written-all cards place out before all so_far =
    let whole : take place cards ≡ cards = take_all place cards (omega arith) in (
      sym (ap (λ cs. length (concat cs)) whole) ∙ so_far.len ∙ ap (λ n. 80 * n) (sym all),
      so_far.written ∙ ap (λ cs. concat cs ++ drop (80 * place) before) whole ∙ ap (λ n. concat cards ++ drop (80 * n) before) (sym all),
    )

-- ---- the spaces behind the cards

-- what the code's fill behind a text gives
pub filled-behind : (text out before new : List ℕ) (used len : ℕ) → length text ≡ used → used ≤ len → out ≡ text ++ drop used before → new ≡ replicate (len - used) 32
    → take used out ++ (new ++ drop (len - used) (drop used out)) ≡ (text ++ replicate (len - used) 32) ++ drop len before
filled-behind text out before new used len long within written spaces =
    let rest = drop used before in
    let end : used + (len - used) ≡ len = omega arith in
    ap (λ o. take used o ++ (new ++ drop (len - used) (drop used o))) written
    ∙ ap (λ ys. ys ++ (new ++ drop (len - used) (drop used (text ++ rest)))) (take_at text rest used long)
    ∙ ap (λ ys. text ++ (new ++ drop (len - used) ys)) (drop_at text rest used long)
    ∙ ap (λ ys. text ++ (ys ++ drop (len - used) rest)) spaces
    ∙ ap (λ ys. text ++ (replicate (len - used) 32 ++ ys)) (drop-drop (len - used) used before ∙ ap (λ m. drop m before) end)
    ∙ sym (append_assoc text (replicate (len - used) 32) (drop len before))

pub length-part : (out : List ℕ) (used len : ℕ) → len ≤ length out → length (take (len - used) (drop used out)) ≡ len - used
length-part out used len within =
    let a = length-take (len - used) (drop used out) in
    let b = length-drop used out in
    omega (arith, a, b)

pub header-filled : (cards : List (List ℕ)) (used len : ℕ) → length (concat cards) ≡ used → len ≡ whole_blocks used → concat cards ++ replicate (len - used) 32 ≡ header_text cards
unfolding header_text
header-filled cards used len long e =
    let spaces : len - used ≡ whole_blocks (length (concat cards)) - length (concat cards) = omega (arith, e ∙ ap whole_blocks (sym long), long) in
    ap (λ n. concat cards ++ replicate n 32) spaces
