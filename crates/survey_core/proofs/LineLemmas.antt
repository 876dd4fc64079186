-- A line that is written is read, and what is read is written so.
use Rattle.std.proofs.Common.{◌≡◌, ℕ, ◌+◌, ◌<◌, ◌≤◌, ◌^◌, Bool, true, false, cond, List, [], ◌∷◌, ◌++◌, length, get_or, take, drop, Option, Some, None, refl, sym, ap, ◌∙◌, subst, arith, length-append, append_assoc, decimal}
use Rattle.std.specs.Prelude.{◌==◌, position, option_and_then, option_map, nat_lt, codes}
use Rattle.std.specs.List.{position_or_len}
use Rattle.std.specs.Str.{bytes_eq}
use Rattle.std.specs.Str.Parse.{AllDigits, digits_value}
use Rattle.std.proofs.lemmas.Bool.Decides.{nat_tests}
use Rattle.std.proofs.lemmas.List.{take-append-drop, drop_more, take_at, drop_at}
use Rattle.std.proofs.lemmas.List.Quantifiers.{position-Some}
use Rattle.std.proofs.lemmas.Str.Parse.{IsNumeralModel, numerals_by_value, tells_digits, digit_from_value}
use Rattle.std.proofs.lemmas.Fmt.{digits_decimal}
use Rattle.std.proofs.lemmas.Slice.Eq.{bytes_eq-Decides}
use Rattle.healpix_nested.specs.Cells.{cell_count}
use Rattle.healpix_nested.specs.CellLaws.{four_pow_mono}
use Rattle.decimal_scale.specs.Whole.{plain_value}
use Rattle.decimal_scale.specs.Laws.{PlainIsRead}
use Rattle.survey_core.specs.Line.{cut, space, line_feed, number_below, verb_of, tiled_line, line_by, line_of, line_at}
use Rattle.survey_core.specs.Written.{verb_text, line_text, FitsLine}
use Rattle.survey_core.specs.declared.line.Verb.{Verb}
use Rattle.survey_core.specs.declared.line.Verb.TheVariants.{Put, Add, Replace}
use Rattle.survey_core.specs.declared.line.Line.{Line}
use Rattle.survey_core.specs.declared.line.Line.TheVariants.{Tiled, Remove}

-- ---- options

pub record Bound {A B : Type 0} (found : Option A) (next : A → Option B) (y : B) : Type 0 where
  pub value : A
  pub is : found ≡ Some value
  pub then : next value ≡ Some y

pub bind_some : {A B : Type 0} (found : Option A) (next : A → Option B) (y : B) → option_and_then next found ≡ Some y → Bound found next y
bind_some None next y e = cc
bind_some (Some x) next y e = record { value = x; is = refl; then = e }

-- ---- the parts round a byte

cut_at : (b : ℕ) (bytes : List ℕ) (found : Option ℕ) (parts : List ℕ × List ℕ) → position (λ c. c == b) bytes ≡ found → option_map (λ at. (take at bytes, drop (at + 1) bytes)) found ≡ Some parts →
    bytes ≡ parts.0 ++ (b ∷ parts.1)
cut_at b bytes None parts at e = cc
cut_at b bytes (Some i) parts at e =
    let found = position-Some (λ c. c == b) bytes i 0 at in
    let here : get_or bytes i 0 ≡ b = grind (arith, nat_tests) in
    let is : (take i bytes, drop (i + 1) bytes) ≡ parts = cc in
    sym (take-append-drop i bytes)
    ∙ ap (λ rest. take i bytes ++ rest) (drop_more bytes i 0 found.0 ∙ ap (λ c. c ∷ drop (i + 1) bytes) here)
    ∙ ap (λ p. p.0 ++ (b ∷ p.1)) is

pub cut_found : (b : ℕ) (bytes : List ℕ) (parts : List ℕ × List ℕ) → cut b bytes ≡ Some parts → bytes ≡ parts.0 ++ (b ∷ parts.1)
cut_found b bytes parts e = cut_at b bytes (position (λ c. c == b) bytes) parts refl e

-- the byte isn't one of these
abbrev pub Lacks : ℕ → List ℕ → Type 0
Lacks b [] = Unit {0}
Lacks b (c ∷ cs) = ((c == b) ≡ false) × Lacks b cs

pub lacks_append : (b : ℕ) (xs ys : List ℕ) → Lacks b xs → Lacks b ys → Lacks b (xs ++ ys)
lacks_append b [] ys none more = more
lacks_append b (x ∷ xs) ys none more = (none.0, lacks_append b xs ys none.1 more)

first_at : (b : ℕ) (x y : List ℕ) → Lacks b x → position_or_len (λ c. c == b) (x ++ (b ∷ y)) ≡ length x
first_at b [] y none = let here : (b == b) ≡ true = grind (arith, nat_tests) in rw here refl
first_at b (c ∷ x) y none = rw (none.0) (rw (first_at b x y none.1) (omega arith))

pub cut_read : (b : ℕ) (x y : List ℕ) → Lacks b x → cut b (x ++ (b ∷ y)) ≡ Some (x, y)
cut_read b x y none =
    let at : position_or_len (λ c. c == b) (x ++ (b ∷ y)) ≡ length x = first_at b x y none in
    let short : length x < length (x ++ (b ∷ y)) = omega (arith, length-append x (b ∷ y)) in
    let within : nat_lt (length x) (length (x ++ (b ∷ y))) ≡ true = grind (arith, nat_tests) in
    let found : position (λ c. c == b) (x ++ (b ∷ y)) ≡ Some (length x) =
    ap (λ n. cond (nat_lt n (length (x ++ (b ∷ y)))) (Some n) None) at ∙ ap (λ t. cond t (Some (length x)) None) within in
    let front : take (length x) (x ++ (b ∷ y)) ≡ x = take_at x (b ∷ y) (length x) refl in
    let regrouped : (x ++ b ∷ []) ++ y ≡ x ++ (b ∷ y) = append_assoc x (b ∷ []) y in
    let count : length (x ++ b ∷ []) ≡ length x + 1 = length-append x (b ∷ []) in
    let rest : drop (length x + 1) (x ++ (b ∷ y)) ≡ y = ap (drop (length x + 1)) (sym regrouped) ∙ drop_at (x ++ b ∷ []) y (length x + 1) count in
    ap (option_map (λ at. (take at (x ++ (b ∷ y)), drop (at + 1) (x ++ (b ∷ y))))) found ∙ ap Some (λ i. (front i, rest i))

-- ---- numbers

own : IsNumeralModel (AllDigits 10) (digits_value 10)
own = numerals_by_value (AllDigits 10) tells_digits

digits_lack : (b : ℕ) (ds : List ℕ) → b < 48 → AllDigits 10 ds → Lacks b ds
digits_lack b [] low digits = tt
digits_lack b (c ∷ cs) low digits =
    let range = digit_from_value c digits.0 in
    let here : (c == b) ≡ false = grind (arith, nat_tests) in
    (here, digits_lack b cs low digits.1)

pub decimal_lacks : (b n : ℕ) → b < 48 → n < 2 ^ 64 → Lacks b (decimal n)
decimal_lacks b n low small = digits_lack b (decimal n) low (digits_decimal own n small)

pub number_read : PlainIsRead → (limit n : ℕ) → n < limit → n < 2 ^ 64 → number_below limit (decimal n) ≡ Some n
unfolding number_below
number_read law limit n below small =
    let within : nat_lt n limit ≡ true = grind (arith, nat_tests) in
    ap (option_and_then (λ m. cond (nat_lt m limit) (Some m) None)) (law.written n small) ∙ ap (λ t. cond t (Some n) None) within

chosen : (limit m n : ℕ) (t : Bool) → nat_lt m limit ≡ t → cond t (Some m) None ≡ Some n → (m ≡ n) × (n < limit)
chosen limit m n true below e = let same : m ≡ n = cc in (same, grind (arith, nat_tests))
chosen limit m n false above e = cc

pub number_found : PlainIsRead → (limit : ℕ) (text : List ℕ) (n : ℕ) → number_below limit text ≡ Some n → (text ≡ decimal n) × (n < limit)
unfolding number_below
number_found law limit text n e =
    let found = bind_some (plain_value text) (λ m. cond (nat_lt m limit) (Some m) None) n e in
    let is = chosen limit found.value n (nat_lt found.value limit) refl found.then in
    ((law.read text found.value found.is).0 ∙ ap decimal is.0, is.1)

leaf_small : (top leaf : ℕ) → top ≤ 11 → leaf < cell_count top → leaf < 2 ^ 64
leaf_small top leaf few below = let most : 4 ^ top ≤ 4 ^ 11 = four_pow_mono top 11 few in omega arith

-- ---- lines

verb_read : (verb : Verb) → verb_of (verb_text verb) ≡ Some verb
unfolding verb_of
verb_read Put = refl
verb_read Add = refl
verb_read Replace = refl

verb_lacks : (verb : Verb) → Lacks space (verb_text verb)
verb_lacks Put = (refl, (refl, (refl, tt)))
verb_lacks Add = (refl, (refl, (refl, tt)))
verb_lacks Replace = (refl, (refl, (refl, (refl, (refl, (refl, (refl, tt)))))))

verb_no_removal : (verb : Verb) → bytes_eq (verb_text verb) (codes "remove") ≡ false
verb_no_removal Put = refl
verb_no_removal Add = refl
verb_no_removal Replace = refl

bytes_same : (xs ys : List ℕ) → bytes_eq xs ys ≡ true → xs ≡ ys
bytes_same xs ys e = (bytes_eq-Decides xs ys).0 e

verb_found : (word : List ℕ) (verb : Verb) → verb_of word ≡ Some verb → word ≡ verb_text verb
unfolding verb_of
verb_found word verb e = first (bytes_eq word (codes "put")) (bytes_eq word (codes "add")) (bytes_eq word (codes "replace")) refl refl refl e
  where
    first : (a b c : Bool) → bytes_eq word (codes "put") ≡ a → bytes_eq word (codes "add") ≡ b → bytes_eq word (codes "replace") ≡ c →
        cond a (Some Put) (cond b (Some Add) (cond c (Some Replace) None)) ≡ Some verb → word ≡ verb_text verb
    first true b c is_a is_b is_c e = let same : Put ≡ verb = cc in bytes_same word (codes "put") is_a ∙ ap verb_text same
    first false true c is_a is_b is_c e = let same : Add ≡ verb = cc in bytes_same word (codes "add") is_b ∙ ap verb_text same
    first false false true is_a is_b is_c e = let same : Replace ≡ verb = cc in bytes_same word (codes "replace") is_c ∙ ap verb_text same
    first false false false is_a is_b is_c e = cc

tiled_read : PlainIsRead → (top : ℕ) (verb : Verb) (leaf len : ℕ) → top ≤ 11 → leaf < cell_count top → len < 2 ^ 32 →
    tiled_line top verb (decimal leaf ++ (space ∷ decimal len)) ≡ Some (Tiled verb leaf len)
unfolding tiled_line
tiled_read law top verb leaf len few below short =
    let small : leaf < 2 ^ 64 = leaf_small top leaf few below in
    rw (cut_read space (decimal leaf) (decimal len) (decimal_lacks space leaf (omega arith) small))
    (rw (number_read law (cell_count top) leaf below small) (rw (number_read law (2 ^ 32) len short (omega arith)) refl))

tiled_found : PlainIsRead → (top : ℕ) (verb : Verb) (numbers : List ℕ) (line : Line) → tiled_line top verb numbers ≡ Some line →
    (verb_text verb ++ (space ∷ numbers) ≡ line_text line) × FitsLine top line
unfolding tiled_line
tiled_found law top verb numbers line e =
    let parts = bind_some (cut space numbers) _ line e in
    let leaf = bind_some (number_below (cell_count top) parts.value.0) _ line parts.then in
    let len = bind_some (number_below (2 ^ 32) parts.value.1) _ line leaf.then in
    let leaf_is = number_found law (cell_count top) parts.value.0 leaf.value leaf.is in
    let len_is = number_found law (2 ^ 32) parts.value.1 len.value len.is in
    let line_is : Tiled verb leaf.value len.value ≡ line = cc (len.then) in
    let numbers_are : numbers ≡ decimal leaf.value ++ (space ∷ decimal len.value) =
    cut_found space numbers parts.value parts.is ∙ ap (λ text. text ++ (space ∷ parts.value.1)) leaf_is.0 ∙ ap (λ text. decimal leaf.value ++ (space ∷ text)) len_is.0 in
    (ap (λ text. verb_text verb ++ (space ∷ text)) numbers_are ∙ ap line_text line_is, subst (FitsLine top) line_is (leaf_is.1, len_is.1))

pub line_of_read : PlainIsRead → (top : ℕ) (line : Line) → top ≤ 11 → FitsLine top line → line_of top (line_text line) ≡ Some line
unfolding line_of line_by
line_of_read law top (Tiled verb leaf len) few fits =
    rw (cut_read space (verb_text verb) (decimal leaf ++ (space ∷ decimal len)) (verb_lacks verb))
    (rw (verb_no_removal verb) (rw (verb_read verb) (tiled_read law top verb leaf len few fits.0 fits.1)))
line_of_read law top (Remove leaf) few fits =
    rw (cut_read space (codes "remove") (decimal leaf) (refl, (refl, (refl, (refl, (refl, (refl, tt)))))))
    (rw (number_read law (cell_count top) leaf fits (leaf_small top leaf few fits)) refl)

by_word : PlainIsRead → (top : ℕ) (word numbers : List ℕ) (line : Line) (t : Bool) → bytes_eq word (codes "remove") ≡ t →
    cond t (option_map Remove (number_below (cell_count top) numbers)) (option_and_then (λ verb. tiled_line top verb numbers) (verb_of word)) ≡ Some line →
    (word ++ (space ∷ numbers) ≡ line_text line) × FitsLine top line
by_word law top word numbers line true is e = removal (number_below (cell_count top) numbers) refl e
  where
    removal : (found : Option ℕ) → number_below (cell_count top) numbers ≡ found → option_map Remove found ≡ Some line → (word ++ (space ∷ numbers) ≡ line_text line) × FitsLine top line
    removal None at e = cc
    removal (Some leaf) at e =
        let line_is : Remove leaf ≡ line = cc in
        let leaf_is = number_found law (cell_count top) numbers leaf at in
        (ap (λ w. w ++ (space ∷ numbers)) (bytes_same word (codes "remove") is) ∙ ap (λ text. codes "remove" ++ (space ∷ text)) leaf_is.0 ∙ ap line_text line_is, subst (FitsLine top) line_is leaf_is.1)
by_word law top word numbers line false is e =
    let verb = bind_some (verb_of word) (λ verb. tiled_line top verb numbers) line e in
    let rest = tiled_found law top verb.value numbers line verb.then in
    (ap (λ w. w ++ (space ∷ numbers)) (verb_found word verb.value verb.is) ∙ rest.0, rest.1)

pub line_of_found : PlainIsRead → (top : ℕ) (text : List ℕ) (line : Line) → line_of top text ≡ Some line → (text ≡ line_text line) × FitsLine top line
unfolding line_of line_by
line_of_found law top text line e =
    let parts = bind_some (cut space text) _ line e in
    let rest = by_word law top parts.value.0 parts.value.1 line (bytes_eq parts.value.0 (codes "remove")) refl parts.then in
    (cut_found space text parts.value parts.is ∙ rest.0, rest.1)

text_lacks : (top : ℕ) (line : Line) → top ≤ 11 → FitsLine top line → Lacks line_feed (line_text line)
text_lacks top (Tiled verb leaf len) few fits =
    lacks_append line_feed (verb_text verb) (space ∷ (decimal leaf ++ (space ∷ decimal len))) (no_feed verb) (
      refl,
      lacks_append line_feed (decimal leaf) (space ∷ decimal len) (decimal_lacks line_feed leaf (omega arith) (leaf_small top leaf few fits.0))
          (refl, decimal_lacks line_feed len (omega arith) (let short : len < 2 ^ 32 = fits.1 in omega arith)),
    )
  where
    no_feed : (verb : Verb) → Lacks line_feed (verb_text verb)
    no_feed Put = (refl, (refl, (refl, tt)))
    no_feed Add = (refl, (refl, (refl, tt)))
    no_feed Replace = (refl, (refl, (refl, (refl, (refl, (refl, (refl, tt)))))))
text_lacks top (Remove leaf) few fits =
    lacks_append line_feed (codes "remove") (space ∷ decimal leaf) (refl, (refl, (refl, (refl, (refl, (refl, tt))))))
    (refl, decimal_lacks line_feed leaf (omega arith) (leaf_small top leaf few fits))

pub line_at_read : PlainIsRead → (top : ℕ) (line : Line) (rest : List ℕ) → top ≤ 11 → FitsLine top line → line_at top (line_text line ++ (line_feed ∷ rest)) ≡ Some (line, rest)
unfolding line_at
line_at_read law top line rest few fits =
    rw (cut_read line_feed (line_text line) rest (text_lacks top line few fits)) (rw (line_of_read law top line few fits) refl)

pub line_at_found : PlainIsRead → (top : ℕ) (bytes : List ℕ) (found : Line × List ℕ) → line_at top bytes ≡ Some found →
    (bytes ≡ line_text found.0 ++ (line_feed ∷ found.1)) × FitsLine top found.0
unfolding line_at
line_at_found law top bytes found e =
    let parts = bind_some (cut line_feed bytes) _ found e in
    let line = bind_some (line_of top parts.value.0) _ found parts.then in
    let is : (line.value, parts.value.1) ≡ found = cc (line.then) in
    let text = line_of_found law top parts.value.0 line.value line.is in (
      cut_found line_feed bytes parts.value parts.is ∙ ap (λ t. t ++ (line_feed ∷ parts.value.1)) text.0 ∙ ap (λ f. line_text f.0 ++ (line_feed ∷ f.1)) is,
      subst (λ f. FitsLine top f.0) is text.1,
    )
