-- A named card has one keyword.
use Rattle.std.proofs.Common.{◌≡◌, ℕ, Bool, true, false, cond, ◌&&◌, ◌||◌, List, [], ◌∷◌, length, take, Some, None, refl, sym, ap, ◌∙◌}
use Rattle.std.specs.Prelude.{find}
use Rattle.std.specs.List.{AllByRecursion, list_any}
use Rattle.std.specs.Str.{bytes_eq}
use Rattle.std.proofs.lemmas.Slice.Eq.{bytes_eq-Decides}
use Rattle.fits_header.specs.Values.{keywords, columns, is_named}
use Rattle.fits_header.specs.declared.keyword.Keyword.{Keyword}
use Rattle.fits_header.specs.declared.keyword.Keyword.TheVariants.{Simple, Bitpix, Naxis, Naxis1, Naxis2, Bscale, Bzero, Blank}

-- ---- lists

-- what no element passes
pub any-none : {A : Type 0} (p : A → Bool) (xs : List A) → list_any p xs ≡ false → AllByRecursion (λ x. p x ≡ false) xs
any-none p [] e = tt
any-none p (x ∷ xs) e = by (any-none p xs) (p x) refl e
  where
    by : (list_any p xs ≡ false → AllByRecursion (λ x. p x ≡ false) xs) → (b : Bool) → p x ≡ b → (b || list_any p xs) ≡ false → (p x ≡ false) × AllByRecursion (λ x. p x ≡ false) xs
    by others true here all = absurd cc
    by others false here all = (here, others all)

pub find-none : {A : Type 0} (p : A → Bool) (xs : List A) → find p xs ≡ None → AllByRecursion (λ x. p x ≡ false) xs
find-none p [] e = tt
find-none p (x ∷ xs) e = by (find-none p xs) (p x) refl e
  where
    by : (find p xs ≡ None → AllByRecursion (λ x. p x ≡ false) xs) → (b : Bool) → p x ≡ b → cond b (Some x) (find p xs) ≡ None → (p x ≡ false) × AllByRecursion (λ x. p x ≡ false) xs
    by others true here all = absurd cc
    by others false here all = (here, others all)

pub find-passes : {A : Type 0} (p : A → Bool) (xs : List A) (y : A) → find p xs ≡ Some y → p y ≡ true
find-passes p [] y e = absurd cc
find-passes p (x ∷ xs) y e = by (find-passes p xs y) (p x) refl e
  where
    by : (find p xs ≡ Some y → p y ≡ true) → (b : Bool) → p x ≡ b → cond b (Some x) (find p xs) ≡ Some y → p y ≡ true
    by others true here found = let same : x ≡ y = cc in sym (ap p same) ∙ here
    by others false here found = others found

pub any-same : {A : Type 0} (p q : A → Bool) → ((x : A) → p x ≡ q x) → (xs : List A) → list_any p xs ≡ list_any q xs
any-same p q same [] = refl
any-same p q same (x ∷ xs) = rw (same x, any-same p q same xs) refl

or_false : (b : Bool) → (b || false) ≡ b
or_false true = refl
or_false false = refl

-- ---- keywords

-- what holds of each keyword
pub at-keyword : (P : Keyword → Type 0) → AllByRecursion P keywords → (keyword : Keyword) → P keyword
at-keyword P all Simple = all.0
at-keyword P all Bitpix = all.1.0
at-keyword P all Naxis = all.1.1.0
at-keyword P all Naxis1 = all.1.1.1.0
at-keyword P all Naxis2 = all.1.1.1.1.0
at-keyword P all Bscale = all.1.1.1.1.1.0
at-keyword P all Bzero = all.1.1.1.1.1.1.0
at-keyword P all Blank = all.1.1.1.1.1.1.1.0

length-columns : (keyword : Keyword) → length (columns keyword) ≡ 10
length-columns Simple = refl
length-columns Bitpix = refl
length-columns Naxis = refl
length-columns Naxis1 = refl
length-columns Naxis2 = refl
length-columns Bscale = refl
length-columns Bzero = refl
length-columns Blank = refl

-- a card that is a named card of one keyword is one of no other
pub named-one : (card : List ℕ) (keyword other : Keyword) → is_named keyword card ≡ true → is_named other card ≡ bytes_eq (columns other) (columns keyword)
named-one card keyword other named =
    let same : columns keyword ≡ take (length (columns keyword)) card = (bytes_eq-Decides (columns keyword) (take (length (columns keyword)) card)).0 named in
    let ten : columns keyword ≡ take 10 card = same ∙ ap (λ n. take n card) (length-columns keyword) in
    ap (λ n. bytes_eq (columns other) (take n card)) (length-columns other) ∙ ap (bytes_eq (columns other)) (sym ten)

-- of the keywords, only the card's own counts
pub own-keyword : (keyword : Keyword) (q : Keyword → Bool) → list_any (λ other. bytes_eq (columns other) (columns keyword) && q other) keywords ≡ q keyword
own-keyword Simple q = or_false (q Simple)
own-keyword Bitpix q = or_false (q Bitpix)
own-keyword Naxis q = or_false (q Naxis)
own-keyword Naxis1 q = or_false (q Naxis1)
own-keyword Naxis2 q = or_false (q Naxis2)
own-keyword Bscale q = or_false (q Bscale)
own-keyword Bzero q = or_false (q Bzero)
own-keyword Blank q = or_false (q Blank)

pub any-own : (card : List ℕ) (keyword : Keyword) (q : Keyword → Bool) → is_named keyword card ≡ true → list_any (λ other. is_named other card && q other) keywords ≡ q keyword
any-own card keyword q named =
    any-same (λ other. is_named other card && q other) (λ other. bytes_eq (columns other) (columns keyword) && q other)
    (λ other. ap (λ b. b && q other) (named-one card keyword other named)) keywords
    ∙ own-keyword keyword q

-- of a card that is not named, none
pub any-skipped : (card : List ℕ) (q : Keyword → Bool) → ((keyword : Keyword) → is_named keyword card ≡ false) → list_any (λ other. is_named other card && q other) keywords ≡ false
any-skipped card q skipped =
    any-same (λ other. is_named other card && q other) (λ other. false) (λ other. ap (λ b. b && q other) (skipped other)) keywords
