-- A text that is written piece by piece.
use Rattle.std.proofs.Common.{◌≡◌, ℕ, List, [], ◌++◌, take, drop, append_assoc, append-nil, take-append-drop, drop-drop, sym, ap, ◌∙◌}
use Rattle.std.specs.List.{flat_map}
use Rattle.std.proofs.lemmas.List.Concat.{flat_map-append}
use Rattle.survey_conf.specs.Description.{Description}
use Rattle.survey_conf.specs.Properties.{line, hips_pairs, survey_pairs, version_pairs, leaves_pair, description_pairs, properties_text}

lines_split : (n : ℕ) (pairs : List (List ℕ × List ℕ)) → flat_map line (take n pairs) ++ flat_map line (drop n pairs) ≡ flat_map line pairs
lines_split n pairs = sym (flat_map-append line (take n pairs) (drop n pairs)) ∙ ap (flat_map line) (take-append-drop n pairs)

-- the first four pairs, the next three, and the rest
pub in_three : (pairs : List (List ℕ × List ℕ)) (start one two three : List ℕ) → one ≡ start ++ flat_map line (take 4 pairs)
    → two ≡ one ++ flat_map line (take 3 (drop 4 pairs)) → three ≡ two ++ flat_map line (drop 7 pairs) → three ≡ start ++ flat_map line pairs
in_three pairs start one two three e f g =
    let later : flat_map line (take 3 (drop 4 pairs)) ++ flat_map line (drop 7 pairs) ≡ flat_map line (drop 4 pairs) =
    ap (λ (rest : List (List ℕ × List ℕ)). flat_map line (take 3 (drop 4 pairs)) ++ flat_map line rest) (sym (drop-drop 3 4 pairs)) ∙ lines_split 3 (drop 4 pairs) in
    g
    ∙ ap (λ (t : List ℕ). t ++ flat_map line (drop 7 pairs)) f
    ∙ append_assoc one (flat_map line (take 3 (drop 4 pairs))) (flat_map line (drop 7 pairs))
    ∙ ap (λ (t : List ℕ). one ++ t) later
    ∙ ap (λ (t : List ℕ). t ++ flat_map line (drop 4 pairs)) e
    ∙ append_assoc start (flat_map line (take 4 pairs)) (flat_map line (drop 4 pairs))
    ∙ ap (λ (t : List ℕ). start ++ t) (lines_split 4 pairs)

-- four pieces, one after another
pub in_four : (start one two three four a b c d : List ℕ) → one ≡ start ++ a → two ≡ one ++ b → three ≡ two ++ c → four ≡ three ++ d → four ≡ start ++ (a ++ (b ++ (c ++ (d ++ []))))
in_four start one two three four a b c d e f g h =
    h
    ∙ ap (λ (t : List ℕ). t ++ d) (g ∙ ap (λ (t : List ℕ). t ++ c) (f ∙ ap (λ (t : List ℕ). t ++ b) e))
    ∙ simp (append_assoc, append-nil)

joined : (pairs more : List (List ℕ × List ℕ)) (before after : List ℕ) → before ≡ flat_map line pairs → after ≡ before ++ flat_map line more → after ≡ flat_map line (pairs ++ more)
joined pairs more before after e f = f ∙ ap (λ (t : List ℕ). t ++ flat_map line more) e ∙ sym (flat_map-append line pairs more)

-- the whole text, part by part
pub whole_text : (d : Description) (leaves : ℕ) (start one two three four five : List ℕ)
    → start ≡ []
    → one ≡ start ++ flat_map line (hips_pairs d)
    → two ≡ one ++ flat_map line d.extras
    → three ≡ two ++ flat_map line (survey_pairs d)
    → four ≡ three ++ flat_map line (version_pairs d)
    → five ≡ four ++ line (leaves_pair leaves)
    → five ≡ properties_text d leaves
unfolding properties_text description_pairs
whole_text d leaves start one two three four five none e f g h k =
    let a : one ≡ flat_map line (hips_pairs d) = e ∙ ap (λ (t : List ℕ). t ++ flat_map line (hips_pairs d)) none in
    let b = joined (hips_pairs d) d.extras one two a f in
    let c = joined (hips_pairs d ++ d.extras) (survey_pairs d) two three b g in
    let all = joined (hips_pairs d ++ d.extras ++ survey_pairs d) (version_pairs d) three four c h in
    k ∙ ap (λ (t : List ℕ). t ++ line (leaves_pair leaves)) all
