-- The scan over the lines: what holds after the first `line` of them.
use Rattle.std.proofs.Common.{◌≡◌, ℕ, zero, suc, ◌+◌, ◌-◌, ◌<◌, ◌≤◌, List, [], ◌∷◌, ◌++◌, map, length, get_or, take, drop, Option, Some, None, refl, sym, ap, subst, ◌∙◌, arith, add-one, length-drop, drop-cons, below_more}
use Rattle.std.specs.Prelude.{slice_get}
use Rattle.std.specs.List.{enumerate_from, filter_map, cons_option, range_with_len}
use Rattle.std.specs.Option.{option_to_list}
use Rattle.std.proofs.lemmas.List.{take_more, take_all, length-take-le}
use Rattle.std.proofs.lemmas.List.Elements.{filter_map-append}
use Rattle.survey_conf.specs.Lines.{lines, content, contents}
use Rattle.survey_conf.specs.Entries.{Entries, entries, entry}
use Rattle.survey_conf.specs.Faults.{kind_after, at_line, fault_at, first_fault, IsRefusedBy}
use Rattle.survey_conf.specs.declared.fault.ConfRefusal.{ConfRefusal}
use Rattle.survey_conf.specs.declared.fault.ConfRefusal.TheVariants.{Fault, OutOfMemory}

enumerate_from-append : {X : Type 0} (n : ℕ) (xs ys : List X) → enumerate_from n (xs ++ ys) ≡ enumerate_from n xs ++ enumerate_from (n + length xs) ys
enumerate_from-append n [] ys = ap (λ m. enumerate_from m ys) (omega arith)
enumerate_from-append n (x ∷ xs) ys =
    ap (λ es. (n, x) ∷ es) (enumerate_from-append (n + 1) xs ys ∙ ap (λ m. enumerate_from (n + 1) xs ++ enumerate_from m ys) (omega arith))

filter_map-one : {X Y : Type 0} (h : X → Option Y) (x : X) → filter_map h (x ∷ []) ≡ option_to_list (h x)
filter_map-one {X} {Y} h x = by (h x)
  where
    by : (o : Option Y) → cons_option o [] ≡ option_to_list o
    by None = refl
    by (Some y) = refl

-- what one more line says
pub entries-append : (contents : List (List ℕ)) (written : List ℕ) (line : ℕ) → length contents + 1 ≡ line
    → entries (contents ++ written ∷ []) ≡ entries contents ++ option_to_list (entry (line, written))
unfolding entries
entries-append contents written line e =
    ap (filter_map entry) (enumerate_from-append 1 contents (written ∷ []))
    ∙ filter_map-append entry (enumerate_from 1 contents) ((1 + length contents, written) ∷ [])
    ∙ ap (λ es. filter_map entry (enumerate_from 1 contents) ++ es) (filter_map-one entry (1 + length contents, written))
    ∙ ap (λ n. filter_map entry (enumerate_from 1 contents) ++ option_to_list (entry (n, written))) (omega arith)

-- after so many lines these are left, those before them have no fault, and this is what they say
pub record Scanned (contents rest : List (List ℕ)) (said : Entries) (line : ℕ) : Type 0 where
  pub within : line ≤ length contents
  pub cut : drop line contents ≡ rest
  pub says : said ≡ entries (take line contents)
  pub clean : (k : ℕ) → k < line → fault_at contents k ≡ None

pub record Next (contents rest : List (List ℕ)) (written : List ℕ) (line : ℕ) : Type 0 where
  pub within : line < length contents
  pub here : get_or contents line [] ≡ written
  pub cut : drop (line + 1) contents ≡ rest

abbrev head_or : List (List ℕ) → List ℕ
head_or [] = []
head_or (x ∷ xs) = x

abbrev tail_of : List (List ℕ) → List (List ℕ)
tail_of [] = []
tail_of (x ∷ xs) = xs

next : (contents rest : List (List ℕ)) (written : List ℕ) (line : ℕ) → drop line contents ≡ written ∷ rest → Next contents rest written line
next contents rest written line e =
    let size : length contents - line ≡ suc (length rest) = sym (length-drop line contents) ∙ ap length e in
    let within : line < length contents = omega arith in
    let parts : get_or contents line [] ∷ drop (suc line) contents ≡ written ∷ rest = sym (drop-cons contents line [] within) ∙ e in
    record { within = within; here = ap head_or parts; cut = ap (λ n. drop n contents) (add-one line) ∙ ap tail_of parts }

pub scanned-start : (contents : List (List ℕ)) (said : Entries) → said ≡ [] → Scanned contents contents said 0
unfolding entries
scanned-start contents said none = record { within = omega arith; cut = refl; says = none; clean = λ k below. absurd (omega arith) }

-- the fault of the next line
pub scanned-fault : (contents rest : List (List ℕ)) (written : List ℕ) (said : Entries) (line : ℕ) → Scanned contents (written ∷ rest) said line
    → fault_at contents line ≡ at_line (line + 1) (kind_after said written)
scanned-fault contents rest written said line s =
    let n = next contents rest written line s.cut in
    ap (λ w. at_line (line + 1) (kind_after (entries (take line contents)) w)) n.here
    ∙ ap (λ es. at_line (line + 1) (kind_after es written)) (sym s.says)

-- a line more
pub scanned-more : (contents rest : List (List ℕ)) (written : List ℕ) (said more : Entries) (line : ℕ) → Scanned contents (written ∷ rest) said line
    → kind_after said written ≡ None → more ≡ said ++ option_to_list (entry (line + 1, written)) → Scanned contents rest more (line + 1)
scanned-more contents rest written said more line s clean added =
    let n = next contents rest written line s.cut in
    let longer : take (line + 1) contents ≡ take line contents ++ written ∷ [] =
    take_more contents line [] n.within ∙ ap (λ w. take line contents ++ w ∷ []) n.here in
    let count : length (take line contents) + 1 ≡ line + 1 = ap (λ m. m + 1) (length-take-le line contents s.within) in
    record {
      within = omega (arith, n.within);
      cut = n.cut;
      says = added ∙ ap (λ es. es ++ option_to_list (entry (line + 1, written))) s.says
          ∙ sym (entries-append (take line contents) written (line + 1) count) ∙ ap entries (sym longer);
      clean = below_more _ _ s.clean (scanned-fault contents rest written said line s ∙ ap (at_line (line + 1)) clean);
    }

-- no line is left
pub scanned-all : (contents : List (List ℕ)) (said : Entries) (line : ℕ) → Scanned contents [] said line → said ≡ entries contents
scanned-all contents said line s =
    let size : length contents - line ≡ 0 = sym (length-drop line contents) ∙ ap length s.cut in
    s.says ∙ ap entries (take_all line contents (omega arith))

none_made : {X : Type 0} (f : ℕ → Option X) (a n : ℕ) → ((k : ℕ) → a ≤ k → k < a + n → f k ≡ None) → filter_map f (range_with_len a n) ≡ []
none_made f a zero none = refl
none_made f a (suc n) none =
    ap (λ o. cons_option o (filter_map f (range_with_len (a + 1) n))) (none a (omega arith) (omega arith))
    ∙ none_made f (a + 1) n (λ k low high. none k (omega arith) (omega arith))

first_made : {X : Type 0} (f : ℕ → Option X) (a n i : ℕ) (x : X) → i < n → ((k : ℕ) → a ≤ k → k < a + i → f k ≡ None) → f (a + i) ≡ Some x → slice_get (filter_map f (range_with_len a n)) 0 ≡ Some x
first_made f a zero i x high none here = absurd (omega arith)
first_made f a (suc n) zero x high none here =
    let first : f a ≡ Some x = ap f (omega arith) ∙ here in
    ap (λ o. slice_get (cons_option o (filter_map f (range_with_len (a + 1) n))) 0) first
first_made f a (suc n) (suc i) x high none here =
    let first : f a ≡ None = none a (omega arith) (omega arith) in
    ap (λ o. slice_get (cons_option o (filter_map f (range_with_len (a + 1) n))) 0) first
    ∙ first_made f (a + 1) n i x (omega arith) (λ k low below. none k (omega arith) (omega arith)) (ap f (omega arith) ∙ here)

pub first_fault-none : (contents : List (List ℕ)) (said : Entries) (line : ℕ) → Scanned contents [] said line → first_fault contents ≡ None
first_fault-none contents said line s =
    let size : length contents - line ≡ 0 = sym (length-drop line contents) ∙ ap length s.cut in
    ap (λ es. slice_get es 0) (none_made (fault_at contents) 0 (length contents) (λ k low high. s.clean k (omega arith)))

-- the first fault is that of the line after those without one
pub refused-first : (contents rest : List (List ℕ)) (written : List ℕ) (said : Entries) (line : ℕ) → Scanned contents (written ∷ rest) said line
    → (e : ConfRefusal) → IsRefusedBy (at_line (line + 1) (kind_after said written)) e → IsRefusedBy (first_fault contents) e
refused-first contents rest written said line s OutOfMemory h = tt
refused-first contents rest written said line s (Fault f) h =
    let n = next contents rest written line s.cut in
    first_made (fault_at contents) 0 (length contents) line f n.within (λ k low below. s.clean k (omega arith))
    (ap (fault_at contents) (omega arith) ∙ scanned-fault contents rest written said line s ∙ h)

-- the invariant in the words of the code: nothing is left of the text, or a first line is
pub at_end : (cs : List (List ℕ)) (rest : List ℕ) (said : Entries) (line : ℕ) → length rest ≡ 0 → Scanned cs (contents rest) said line → Scanned cs [] said line
unfolding lines
at_end cs [] said line e s = s
at_end cs (b ∷ rest) said line e s = absurd (omega arith)

pub first_content : (cs : List (List ℕ)) (rest first after written : List ℕ) (said : Entries) (line : ℕ) → lines rest ≡ first ∷ lines after → written ≡ content first
    → Scanned cs (contents rest) said line → Scanned cs (written ∷ contents after) said line
first_content cs rest first after written said line cut is s =
    subst (λ r. Scanned cs r said line) (ap (map content) cut ∙ ap (λ w. w ∷ contents after) (sym is)) s
