-- The last line of a properties file: it is split at its last space in one way.
use Rattle.std.proofs.Common.{◌≡◌, ℕ, ◌<◌, ◌^◌, Bool, true, false, List, [], ◌∷◌, ◌++◌, Some, None, refl, sym, ap, ◌∙◌, subst, arith, append_assoc}
use Rattle.std.specs.Prelude.{◌≢◌, All, codes, decimal, ◌&&◌}
use Rattle.std.specs.List.{list_all}
use Rattle.std.specs.Char.{is_ascii_digit}
use Rattle.std.proofs.lemmas.List.{append_cancel_right}
use Rattle.std.proofs.lemmas.List.Elements.{All-nil, All-cons, All-head, All-tail, All-push}
use Rattle.std.proofs.lemmas.Bool.Decides.{nat_tests}
use Rattle.std.proofs.lemmas.Fmt.{decimal_injective}
use Rattle.decimal_scale.proofs.RoundTrip.{decimal_digits}
use Rattle.survey_conf.specs.Description.{Description}
use Rattle.survey_conf.specs.Faults.{fault_of}
use Rattle.survey_conf.specs.declared.fault.ConfFault.{ConfFault}
use Rattle.survey_conf.specs.Properties.{line, description_text, properties_text}
use Rattle.hips_mirror.specs.Mirror.{is_plain, are_lines, TellsLeaves, IsProperties}
use Rattle.hips_mirror.specs.Stages.{Counts}

abbrev NoSpace : List ℕ → Type 0
NoSpace bytes = All (λ b. b ≢ 32) bytes

-- ---- what follows the last space

has_space : (xs ys : List ℕ) → NoSpace (xs ++ 32 ∷ ys) → ⊥
has_space [] ys none = All-head (λ b. b ≢ 32) 32 ys none refl
has_space (x ∷ xs) ys none = has_space xs ys (All-tail (λ b. b ≢ 32) x (xs ++ 32 ∷ ys) none)

last_space : (xs ys v w : List ℕ) → xs ++ 32 ∷ v ≡ ys ++ 32 ∷ w → NoSpace v → NoSpace w → (xs ≡ ys) × (v ≡ w)
last_space [] [] v w e p q = (refl, cc)
last_space [] (y ∷ ys) v w e p q = let same : v ≡ ys ++ 32 ∷ w = cc in absurd (has_space ys w (subst NoSpace same p))
last_space (x ∷ xs) [] v w e p q = let same : xs ++ 32 ∷ v ≡ w = cc in absurd (has_space xs v (subst NoSpace (sym same) q))
last_space (x ∷ xs) (y ∷ ys) v w e p q =
    let head : x ≡ y = cc in
    let tail : xs ++ 32 ∷ v ≡ ys ++ 32 ∷ w = cc in
    let rest = last_space xs ys v w tail p q in
    ((λ i. head i ∷ rest.0 i), rest.1)

no_space : (digits : List ℕ) → list_all is_ascii_digit digits ≡ true → NoSpace digits
no_space [] all = All-nil (λ b. b ≢ 32)
no_space (d ∷ ds) all =
    let here : is_ascii_digit d ≡ true = grind (arith, nat_tests) in
    let rest : list_all is_ascii_digit ds ≡ true = grind (arith, nat_tests) in
    let other : d ≢ 32 = λ e. absurd (grind (arith, nat_tests)) in
    All-cons (λ b. b ≢ 32) d ds other (no_space ds rest)

-- ---- the last line

-- it ends with a space, its word and a line feed
line_split : (text digits : List ℕ) → text ++ line (codes "survey_leaves", digits) ≡ (text ++ codes "survey_leaves =") ++ 32 ∷ (digits ++ 10 ∷ [])
line_split text digits = sym (append_assoc text (codes "survey_leaves =") (32 ∷ (digits ++ 10 ∷ [])))

line_once : (text other digits more : List ℕ) → text ++ line (codes "survey_leaves", digits) ≡ other ++ line (codes "survey_leaves", more) → NoSpace digits → NoSpace more
    → (text ≡ other) × (digits ≡ more)
line_once text other digits more e p q =
    let parts = last_space (text ++ codes "survey_leaves =") (other ++ codes "survey_leaves =") (digits ++ 10 ∷ []) (more ++ 10 ∷ [])
    (sym (line_split text digits) ∙ e ∙ line_split other more) (ended digits p) (ended more q) in
    (append_cancel_right text other (codes "survey_leaves =") parts.0, append_cancel_right digits more (10 ∷ []) parts.1)
  where
    ended : (word : List ℕ) → NoSpace word → NoSpace (word ++ 10 ∷ [])
    ended word none = let other : 10 ≢ 32 = λ e. absurd (omega (arith, e)) in All-push (λ b. b ≢ 32) word 10 none other

plain_word : (digits : List ℕ) → is_plain digits ≡ true → NoSpace digits
plain_word digits plain = no_space digits (grind (arith, nat_tests))

-- a body has one last line
pub tells_once : (body text other digits more : List ℕ) → TellsLeaves body text digits → TellsLeaves body other more → (text ≡ other) × (digits ≡ more)
tells_once body text other digits more a b =
    line_once text other digits more (sym a.whole ∙ b.whole) (plain_word digits a.plain) (plain_word more b.plain)

-- ---- how it is found

-- the line before its line feed
line_end : (text digits : List ℕ) → text ++ line (codes "survey_leaves", digits) ≡ (text ++ (codes "survey_leaves = " ++ digits)) ++ 10 ∷ []
line_end text digits = sym (append_assoc text (codes "survey_leaves = " ++ digits) (10 ∷ []))

pub no_line : (body : List ℕ) → ((front : List ℕ) → body ≢ front ++ 10 ∷ []) → (text digits : List ℕ) → TellsLeaves body text digits → ⊥
no_line body none text digits tells = none (text ++ (codes "survey_leaves = " ++ digits)) (tells.whole ∙ line_end text digits)

module _ (body inner text digits : List ℕ) (is : body ≡ inner ++ 10 ∷ []) (tells : TellsLeaves body text digits) where
  inner_is : inner ≡ (text ++ codes "survey_leaves =") ++ 32 ∷ digits
  inner_is =
      let spaced : text ++ (codes "survey_leaves = " ++ digits) ≡ (text ++ codes "survey_leaves =") ++ 32 ∷ digits = sym (append_assoc text (codes "survey_leaves =") (32 ∷ digits)) in
      append_cancel_right inner (text ++ (codes "survey_leaves = " ++ digits)) (10 ∷ []) (sym is ∙ tells.whole ∙ line_end text digits) ∙ spaced

  pub no_word : All (λ b. b ≢ 32) inner → ⊥
  no_word none = has_space (text ++ codes "survey_leaves =") digits (subst NoSpace inner_is none)

  pub parts_are : (front word before : List ℕ) → inner ≡ front ++ word → front ≡ before ++ 32 ∷ [] → All (λ b. b ≢ 32) word
      → (front ≡ text ++ codes "survey_leaves = ") × (word ≡ digits)
  parts_are front word before whole space none =
      let joined : before ++ 32 ∷ word ≡ (text ++ codes "survey_leaves =") ++ 32 ∷ digits =
      sym (append_assoc before (32 ∷ []) word) ∙ ap (λ f. f ++ word) (sym space) ∙ sym whole ∙ inner_is in
      let parts = last_space before (text ++ codes "survey_leaves =") word digits joined none (plain_word digits tells.plain) in
      let spaced : (text ++ codes "survey_leaves =") ++ 32 ∷ [] ≡ text ++ codes "survey_leaves = " = append_assoc text (codes "survey_leaves =") (32 ∷ []) in
      (space ∙ ap (λ b. b ++ 32 ∷ []) parts.0 ∙ spaced, parts.1)

pub tells_by : (body inner front word text : List ℕ) → body ≡ inner ++ 10 ∷ [] → inner ≡ front ++ word → front ≡ text ++ codes "survey_leaves = "
    → (are_lines text && is_plain word) ≡ true → TellsLeaves body text word
tells_by body inner front word text is whole begins both = record {
  whole = let joined : (text ++ codes "survey_leaves = ") ++ word ≡ text ++ (codes "survey_leaves = " ++ word) = append_assoc text (codes "survey_leaves = ") word in
      is ∙ ap (λ l. l ++ 10 ∷ []) (whole ∙ ap (λ f. f ++ word) begins ∙ joined) ∙ sym (line_end text word);
  lines = grind arith;
  plain = grind arith;
}

pub untold : (body inner front word before text : List ℕ) → body ≡ inner ++ 10 ∷ [] → inner ≡ front ++ word → front ≡ before ++ 32 ∷ [] → All (λ b. b ≢ 32) word
    → front ≡ text ++ codes "survey_leaves = " → (are_lines text && is_plain word) ≡ false → (other digits : List ℕ) → TellsLeaves body other digits → ⊥
untold body inner front word before text is whole space none begins fails other digits tells =
    let parts = parts_are body inner other digits is tells front word before whole space none in
    let same : text ≡ other = append_cancel_right text other (codes "survey_leaves = ") (sym begins ∙ parts.0) in
    let yes : (are_lines text && is_plain word) ≡ true = (λ i. are_lines (same i) && is_plain (parts.1 i)) ∙ both (are_lines other) (is_plain digits) tells.lines tells.plain in
    cc
  where
    both : (a b : Bool) → a ≡ true → b ≡ true → (a && b) ≡ true
    both a b p q = grind arith

-- ---- which number of leaves it tells

told_number : (d : Description) (body text digits : List ℕ) (n : ℕ) → n < 2 ^ 64 → TellsLeaves body text digits → body ≡ properties_text d n → digits ≡ decimal n
unfolding properties_text
told_number d body text digits n small tells is =
    (line_once text (description_text d) digits (decimal n) (sym tells.whole ∙ is) (plain_word digits tells.plain) (no_space (decimal n) (decimal_digits n small))).1

module _ (d : Description) (body text digits : List ℕ) (tells : TellsLeaves body text digits) where
  pub counted_so : (m : ℕ) → m < 2 ^ 64 → digits ≡ decimal m → body ≡ properties_text d m → Counts d body (Some m)
  counted_so m few is same n small = (
    λ e. ap Some (decimal_injective m n few small (sym is ∙ told_number d body text digits n small tells e)),
    λ e. let one : m ≡ n = cc in same ∙ ap (properties_text d) one,
  )

  pub counted_other : (m : ℕ) → m < 2 ^ 64 → digits ≡ decimal m → body ≢ properties_text d m → Counts d body None
  counted_other m few is other n small = (
    λ e. let one : m ≡ n = decimal_injective m n few small (sym is ∙ told_number d body text digits n small tells e) in absurd (other (e ∙ ap (properties_text d) (sym one))),
    λ e. cc,
  )

  pub counted_none : ((n : ℕ) → n < 2 ^ 64 → digits ≢ decimal n) → Counts d body None
  counted_none none n small = (
    λ e. absurd (none n small (told_number d body text digits n small tells e)),
    λ e. cc,
  )

-- a description with a fault is refused, wherever the text is split
pub not_described : (body text digits : List ℕ) (fault : ConfFault) → TellsLeaves body text digits → fault_of text ≡ Some fault → (d : Description) → IsProperties body d → ⊥
not_described body text digits fault tells wrong d is =
    let same : text ≡ is.text = (tells_once body text is.text digits is.digits tells is.last).0 in
    let none : fault_of text ≡ None = ap fault_of same ∙ is.faultless in
    cc
