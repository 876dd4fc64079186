-- The values of the fields with a name, one field at a time.
use Rattle.std.proofs.Common.{◌≡◌, ℕ, ◌+◌, ◌<◌, true, false, List, [], ◌∷◌, ◌++◌, length, take, map, get_or, ap, ◌∙◌, refl}
use Rattle.std.specs.List.{filter}
use Rattle.std.specs.Char.{to_ascii_lowercase}
use Rattle.std.proofs.lemmas.List.{take_more, get_or-map, map-append, append-nil, length-map}
use Rattle.std.proofs.lemmas.List.Elements.{filter-append}
use Rattle.std.proofs.lemmas.Bool.{false_from_ne_true}
use Rattle.std.proofs.lemmas.Slice.Eq.{bytes_eq-Decides}
use Rattle.httparse.specs.declared.spans.HeaderSpan.{HeaderSpan}
use Rattle.httparse.specs.Spans.{span_bytes, header_bytes}
use Rattle.http_frame.specs.Fields.{NamedValue, same_text, values}

-- what one field adds
abbrev added : List ℕ → NamedValue → List (List ℕ)
added name field = map (λ f. f.1) (filter (λ f. same_text f.0 name) (field ∷ []))

values_more : (name : List ℕ) (fields : List NamedValue) (i : ℕ) (d : NamedValue) → i < length fields
    → values name (take (i + 1) fields) ≡ values name (take i fields) ++ added name (get_or fields i d)
values_more name fields i d h =
    ap (values name) (take_more fields i d h)
    ∙ ap (map (λ f. f.1)) (filter-append (λ f. same_text f.0 name) (take i fields) (get_or fields i d ∷ []))
    ∙ map-append (λ f. f.1) (filter (λ f. same_text f.0 name) (take i fields)) (filter (λ f. same_text f.0 name) (get_or fields i d ∷ []))

added_named : (name : List ℕ) (field : NamedValue) → same_text field.0 name ≡ true → added name field ≡ field.1 ∷ []
added_named name field e = rw e refl

added_other : (name : List ℕ) (field : NamedValue) → same_text field.0 name ≡ false → added name field ≡ []
added_other name field e = rw e refl

-- the field that a span shows
shown : (head : List ℕ) (spans : List HeaderSpan) (i : ℕ) (d : HeaderSpan) → i < length spans
    → get_or (map (header_bytes head) spans) i (header_bytes head d) ≡ header_bytes head (get_or spans i d)
shown head spans i d h = get_or-map (header_bytes head) spans i d (header_bytes head d) h

module _ (name head : List ℕ) (spans : List HeaderSpan) (i : ℕ) (d : HeaderSpan) (h : i < length spans) where
  span_more : values name (take (i + 1) (map (header_bytes head) spans))
      ≡ values name (take i (map (header_bytes head) spans)) ++ added name (header_bytes head (get_or spans i d))
  span_more =
      let within : i < length (map (header_bytes head) spans) = rw length-map h in
      values_more name (map (header_bytes head) spans) i (header_bytes head d) within
      ∙ ap (λ field. values name (take i (map (header_bytes head) spans)) ++ added name field) (shown head spans i d h)

  -- a field with the name adds its value
  pub span_named : map to_ascii_lowercase (span_bytes head (get_or spans i d).name) ≡ map to_ascii_lowercase name
      → values name (take (i + 1) (map (header_bytes head) spans))
      ≡ values name (take i (map (header_bytes head) spans)) ++ span_bytes head (get_or spans i d).value ∷ []
  span_named e =
      let same : same_text (span_bytes head (get_or spans i d).name) name ≡ true =
      (bytes_eq-Decides (map to_ascii_lowercase (span_bytes head (get_or spans i d).name)) (map to_ascii_lowercase name)).1 e in
      span_more ∙ ap (λ vs. values name (take i (map (header_bytes head) spans)) ++ vs) (added_named name (header_bytes head (get_or spans i d)) same)

  -- another adds none
  pub span_other : ¬ (map to_ascii_lowercase (span_bytes head (get_or spans i d).name) ≡ map to_ascii_lowercase name)
      → values name (take (i + 1) (map (header_bytes head) spans)) ≡ values name (take i (map (header_bytes head) spans))
  span_other e =
      let differs : same_text (span_bytes head (get_or spans i d).name) name ≡ false =
      false_from_ne_true (same_text (span_bytes head (get_or spans i d).name) name)
      (λ yes. e ((bytes_eq-Decides (map to_ascii_lowercase (span_bytes head (get_or spans i d).name)) (map to_ascii_lowercase name)).0 yes)) in
      span_more ∙ ap (λ vs. values name (take i (map (header_bytes head) spans)) ++ vs) (added_other name (header_bytes head (get_or spans i d)) differs)
      ∙ append-nil (values name (take i (map (header_bytes head) spans)))
