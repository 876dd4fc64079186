-- Bytes have one outcome: what is read of them is read in one way, and what was read isn't refused.
use Rattle.std.proofs.Common.{◌≡◌, inl, inr, ℕ, zero, suc, ◌+◌, ◌*◌, ◌/◌, ◌%◌, ◌<◌, ◌≤◌, ◌^◌, Bool, true, false, List, [], ◌∷◌, ◌++◌, Option, Some, None, Ok, Err, length, take, ℤ, refl, sym, ap, ◌∙◌, subst, arith, append_assoc, codes}
use Rattle.std.specs.Prelude.{decimal, nat_lt, if◌then◌else◌, IsSome, IfSome, All, slice_get, slice_index, ◌==◌}
use Rattle.std.specs.Option.{option_and_then, option_or}
use Rattle.std.specs.Fmt.{digits, digits_onto, digit_glyph}
use Rattle.std.specs.Str.Parse.{digits_value}
use Rattle.std.specs.Map.{keys_of}
use Rattle.std.proofs.lemmas.Bool.{cases_lt, cases_order, true≢false}
use Rattle.std.proofs.lemmas.Bool.Decides.{nat_tests}
use Rattle.std.proofs.lemmas.List.{append_cancel_left, append_cancel_right}
use Rattle.std.proofs.lemmas.List.Elements.{All-head, All-tail}
use Rattle.std.proofs.lemmas.Fmt.{decimal_is_IsNumeral, decimal_is_IsNumeral_wide, length-decimal-le}
use Rattle.std.proofs.lemmas.Map.Entries.{length-keys_of}
use Rattle.std.proofs.Math.Nat.{pow-suc}
use Rattle.byteorder.specs.Endian.{big_number, big_bytes}
use Rattle.decimal_scale.specs.Laws.{ReadIsNormal}
use Rattle.decimal_scale.specs.Whole.{plain_value}
use Rattle.fits_header.specs.Laws.{MadeCardsAreCards}
use Rattle.pyramid_model.specs.Shape.{LeafMap}
use Rattle.survey_conf.specs.Description.{Description, IsDescription, description_of}
use Rattle.survey_conf.specs.Lines.{contents}
use Rattle.survey_conf.specs.Entries.{entries}
use Rattle.survey_conf.specs.Faults.{fault_of, first_fault, fault_together}
use Rattle.survey_conf.specs.declared.fault.ConfFault.{ConfFault}
use Rattle.survey_conf.proofs.DescribedLemmas.{described-lines}
use Rattle.coverage_moc.specs.Cover.{cover, leaves_under}
use Rattle.coverage_moc.specs.CoverFile.{IsRow, row_bytes}
use Rattle.coverage_moc.specs.Laws.{LeavesComeBack}
use Rattle.coverage_moc.proofs.FileLemmas.{row_at, big_zero, rows_of_cover, holds_cover}
use Rattle.fits_tile.specs.Reading.{reads}
use Rattle.tile_path.specs.declared.path.Path.TheVariants as path
use Rattle.generation.specs.Files.{file_of}
use Rattle.http_frame.specs.Fields.{NamedValue, values}
use Rattle.mirror_frame.specs.Reply.{IsReply, IsCutReply, IsWrongReply, pinned_line, prefix_in, of_one, stated_prefix, fields_of}
use Rattle.mirror_frame.specs.Laws.{OneReplyStands}
use Rattle.mirror_frame.specs.declared.due.Due.{Due}
use Rattle.mirror_frame.specs.declared.due.Due.TheVariants.{Pinned, Survey, Any}
use Rattle.hips_mirror.specs.declared.refusal.MirrorRefusal.{MirrorRefusal}
use Rattle.hips_mirror.specs.declared.refusal.MirrorRefusal.TheVariants.{Reply, Properties, Cover, TooLarge, Leaf, Differs, Cut, ReadFault, WriteFault, ShelfFault, OutOfMemory}
use Rattle.hips_mirror.specs.Mirror.{IsProperties, IsCoverOf, is_too_large, Described, Covered, AreLeaves, HasLeaves, IsMosaicReply, Compared, IsCopy, RefusesReply, RefusesAt, WrongProperties, WrongCover, WrongLeaf, RefusesLeaf, WrongMosaic, RefusesFiles, last_request, Refuses, at_pin, at_properties, at_cover, at_leaf, at_mosaic, at_unpin}
use Rattle.hips_mirror.specs.Laws.{IsNoMatterOfBytes, AreOne, HasOneOutcome}
use Rattle.hips_mirror.proofs.LineLemmas.{tells_once}

-- ---- the number that a pin tells

-- a number of more than 64 digits is written with its last 64
long_digits : (k n : ℕ) (acc : List ℕ) → 10 ^ k ≤ n → length (digits_onto k 10 false n acc) ≡ k + length acc
long_digits zero n acc h = omega arith
long_digits (suc k) n acc h =
    let power : 10 ^ suc k ≡ 10 ^ k * 10 = pow-suc 10 k in
    let rest : 10 ^ k ≤ n / 10 = omega (arith, h, power) in
    let some : 0 < 10 ^ k = positive k in
    let other : (n / 10 == 0) ≡ false = grind (arith, nat_tests) in
    let glyph = digit_glyph false (n % 10) in
    ap (λ b. length (if b then glyph ∷ acc else digits_onto k 10 false (n / 10) (glyph ∷ acc))) other
    ∙ long_digits k (n / 10) (glyph ∷ acc) rest ∙ omega arith
  where
    positive : (k : ℕ) → 0 < 10 ^ k
    positive zero = omega arith
    positive (suc k) = let power : 10 ^ suc k ≡ 10 ^ k * 10 = pow-suc 10 k in let some = positive k in omega (arith, power, some)

long_decimal : (n : ℕ) → 10 ^ 64 ≤ n → length (decimal n) ≡ 64
unfolding digits
long_decimal n h = long_digits 64 n [] h

decimal_same : (k p : ℕ) → p < 2 ^ 64 → decimal k ≡ decimal p → k ≡ p
decimal_same k p low e = elim (cases_lt k (10 ^ 64)) [
  | inl small ↦ sym (decimal_is_IsNumeral_wide k small).1 ∙ ap (digits_value 10) e ∙ (decimal_is_IsNumeral p low).1
  | inr large ↦
      let long = long_decimal k large in
      let short : length (decimal p) ≤ 20 = length-decimal-le 20 p (omega arith) (omega (arith, low)) low in
      absurd (omega (arith, long, short, ap length e))
]

line_same : (k p : ℕ) → p < 2 ^ 64 → pinned_line k ≡ pinned_line p → k ≡ p
line_same k p low e =
    decimal_same k p low (append_cancel_left (codes "pinned ") (decimal k) (decimal p)
    (append_cancel_right (codes "pinned " ++ decimal k) (codes "pinned " ++ decimal p) (10 ∷ []) e))

abbrev below_two : ℕ → Option ℕ
below_two k = if nat_lt k (2 ^ 32) then Some k else None

below_is_low : (o : Option ℕ) (p : ℕ) → option_and_then below_two o ≡ Some p → p < 2 ^ 32
below_is_low None p e = cc
below_is_low (Some k) p e = by (nat_lt k (2 ^ 32)) refl
  where
    by : (b : Bool) → nat_lt k (2 ^ 32) ≡ b → p < 2 ^ 32
    by true low =
        let one : Some k ≡ Some p = sym (ap (λ b. if b then Some k else None) low) ∙ e in
        let same : k ≡ p = cc in
        grind (arith, nat_tests)
    by false high = let none : None ≡ Some p = sym (ap (λ b. if b then Some k else None) high) ∙ e in cc

one_is_low : (vs : List (List ℕ)) (p : ℕ) → of_one prefix_in vs ≡ Some p → p < 2 ^ 32
one_is_low [] p e = cc
one_is_low (v ∷ []) p e = below_is_low (plain_value v) p e
one_is_low (v ∷ w ∷ vs) p e = cc

-- what the body of a reply to a pin is
record IsPin (body : List ℕ) : Type 0 where
  k : ℕ
  low : k < 2 ^ 32
  is : body ≡ pinned_line k

pin_of : (fields : List NamedValue) (prefix : Option ℕ) (body : List ℕ) → stated_prefix fields ≡ prefix → IsSome prefix → IfSome prefix (λ k. body ≡ pinned_line k) → IsPin body
pin_of fields None body stated some told = cc
pin_of fields (Some k) body stated some told = record { k = k; low = one_is_low (values (codes "survey-prefix") fields) k stated; is = told }

pin_in : (bytes body rest : List ℕ) → IsReply Pinned bytes body rest → IsPin body
pin_in bytes body rest a = pin_of (fields_of a.begins.says.head) a.prefix body a.begins.says.prefix_is a.begins.fits a.told

-- ---- a description

properties_once : (body : List ℕ) (d other : Description) → IsProperties body d → IsProperties body other → d ≡ other
properties_once body d other a b =
    let same : a.text ≡ b.text = (tells_once body a.text b.text a.digits b.digits a.last b.last).0 in
    a.described ∙ ap description_of same ∙ sym b.described

no_first : (a b : Option ConfFault) → option_or a b ≡ None → (a ≡ None) × (b ≡ None)
no_first None b e = (refl, e)
no_first (Some x) b e = cc

faultless_parts : (text : List ℕ) → fault_of text ≡ None → (first_fault (contents text) ≡ None) × (fault_together (entries (contents text)) ≡ None)
unfolding fault_of
faultless_parts text e = no_first (first_fault (contents text)) (fault_together (entries (contents text))) e

pub described_is : ReadIsNormal → (body : List ℕ) (d : Description) → IsProperties body d → IsDescription d
described_is normal body d a =
    let parts = faultless_parts a.text a.faultless in
    subst IsDescription (sym a.described) (described-lines normal (contents a.text) (entries (contents a.text)) refl parts.0 parts.1)

-- ---- a cover

abbrev AreZero : List ℕ → Type 0
AreZero bytes = (i : ℕ) → slice_index bytes i ≡ 0

no_row : (row : ℕ) (rows rest more : List ℕ) → All IsRow (row ∷ rows) → AreZero rest → rest ≡ row_bytes (row ∷ rows) ++ more → ⊥
no_row row rows rest more all none e =
    let read : big_number 8 (row_bytes (row ∷ rows) ++ more) ≡ row = row_at (row ∷ rows) more 0 all (omega arith) in
    let zero_read : big_number 8 rest ≡ 0 = big_zero 8 0 rest none in
    let some : IsRow row = All-head IsRow row rows all in
    let positive : 0 < row = some.0 in
    let same : row ≡ 0 = sym read ∙ sym (ap (big_number 8) e) ∙ zero_read in
    absurd (omega (arith, same, positive))

rows_once : (rows other rest more : List ℕ) → All IsRow rows → All IsRow other → AreZero rest → AreZero more → row_bytes rows ++ rest ≡ row_bytes other ++ more → rows ≡ other
rows_once [] [] rest more p q none nil e = refl
rows_once [] (o ∷ other) rest more p q none nil e = absurd (no_row o other rest more q none e)
rows_once (r ∷ rows) [] rest more p q none nil e = absurd (no_row r rows more rest p nil (sym e))
rows_once (r ∷ rows) (o ∷ other) rest more p q none nil e =
    let first : big_number 8 (row_bytes (r ∷ rows) ++ rest) ≡ r = row_at (r ∷ rows) rest 0 p (omega arith) in
    let second : big_number 8 (row_bytes (o ∷ other) ++ more) ≡ o = row_at (o ∷ other) more 0 q (omega arith) in
    let same : r ≡ o = sym first ∙ ap (big_number 8) e ∙ second in
    let behind : big_bytes 8 o ++ (row_bytes rows ++ rest) ≡ big_bytes 8 o ++ (row_bytes other ++ more) =
    ap (λ x. big_bytes 8 x ++ (row_bytes rows ++ rest)) (sym same) ∙ sym (append_assoc (big_bytes 8 r) (row_bytes rows) rest) ∙ e ∙ append_assoc (big_bytes 8 o) (row_bytes other) more in
    let later : rows ≡ other = rows_once rows other rest more (All-tail IsRow r rows p) (All-tail IsRow o other q) none nil
    (append_cancel_left (big_bytes 8 o) (row_bytes rows ++ rest) (row_bytes other ++ more) behind) in
    λ i. same i ∷ later i

cover_once : MadeCardsAreCards → LeavesComeBack → (top : ℕ) (body numbers other : List ℕ) → top ≤ 11 → IsCoverOf top body numbers → IsCoverOf top body other → numbers ≡ other
cover_once made back top body numbers other few a b =
    let first = holds_cover made top numbers body few a.file in
    let second = holds_cover made top other body few b.file in
    let rows : cover top numbers ≡ cover top other =
    rows_once (cover top numbers) (cover top other) first.0 second.0 (rows_of_cover top numbers few) (rows_of_cover top other few) first.2 second.2 (sym first.1 ∙ second.1) in
    sym (back top numbers a.ascending a.cells) ∙ ap (leaves_under top) rows ∙ back top other b.ascending b.cells

-- ---- stage by stage

module _ (stands : OneReplyStands) (normal : ReadIsNormal) (made : MadeCardsAreCards) (back : LeavesComeBack) where
  one_reply : (due : Due) (unread body other rest more : List ℕ) → IsReply due unread body rest → IsReply due unread other more → (body ≡ other) × (rest ≡ more)
  one_reply due unread = (stands due unread).one

  pinned_once : (bytes rest more : List ℕ) (k m : ℕ) → IsReply Pinned bytes (pinned_line k) rest → IsReply Pinned bytes (pinned_line m) more → (k ≡ m) × (rest ≡ more)
  pinned_once bytes rest more k m a b =
      let same = one_reply Pinned bytes (pinned_line k) (pinned_line m) rest more a b in
      let pin = pin_in bytes (pinned_line k) rest a in
      let low : pin.k < 2 ^ 64 = let l : pin.k < 2 ^ 32 = pin.low in omega (arith, l) in
      (line_same k pin.k low pin.is ∙ sym (line_same m pin.k low (sym same.0 ∙ pin.is)), same.1)

  described_once : (bytes : List ℕ) (k m : ℕ) (p q : List ℕ) (d e : Description) (u v : List ℕ) → Described bytes k p d u → Described bytes m q e v → (k ≡ m) × (p ≡ q) × (d ≡ e) × (u ≡ v)
  described_once bytes k m p q d e u v a b =
      let pins = pinned_once bytes a.behind b.behind k m a.pinned b.pinned in
      let other : IsReply (Survey k) a.behind q v = rw (pins.0, pins.1) b.reply in
      let same = one_reply (Survey k) a.behind p q u v a.reply other in
      (pins.0, same.0, properties_once q d e (subst (λ t. IsProperties t d) same.0 a.is) b.is, same.1)

  pub covered_once : (bytes : List ℕ) (k m : ℕ) (p q : List ℕ) (d e : Description) (ns ms u v : List ℕ) → Covered bytes k p d ns u → Covered bytes m q e ms v
      → (k ≡ m) × (p ≡ q) × (d ≡ e) × (ns ≡ ms) × (u ≡ v)
  covered_once bytes k m p q d e ns ms u v a b =
      let ds = described_once bytes k m p q d e a.behind b.behind a.described b.described in
      let other : IsReply (Survey k) a.behind b.body v = rw (ds.0, ds.3) b.reply in
      let same = one_reply (Survey k) a.behind a.body b.body u v a.reply other in
      let is : IsCoverOf d.shape.top b.body ms = rw ds.2 b.is in
      let few : d.shape.top ≤ 11 = (described_is normal p d a.described.is).shape.greatest_top in
      (ds.0, ds.1, ds.2, cover_once made back d.shape.top b.body ns ms few (subst (λ t. IsCoverOf d.shape.top t ns) same.0 a.is) is, same.1)

  leaves_once : (k : ℕ) (d : Description) (ls ms : LeafMap) (u r s : List ℕ) → keys_of ls ≡ keys_of ms → AreLeaves k d u ls r → AreLeaves k d u ms s → (ls ≡ ms) × (r ≡ s)
  leaves_once k d [] [] u r s keys a b = (refl, a ∙ sym b)
  leaves_once k d [] (m ∷ ms) u r s keys a b = cc
  leaves_once k d (l ∷ ls) [] u r s keys a b = cc
  leaves_once k d (l ∷ ls) (m ∷ ms) u r s keys a b =
      let same = one_reply (Survey k) u a.0 b.0 a.1 b.1 a.2 b.2 in
      let read : Ok l.1 ≡ Ok m.1 = sym a.3 ∙ ap (reads d) same.0 ∙ b.3 in
      let numbers : l.1 ≡ m.1 = cc in
      let key : l.0 ≡ m.0 = cc in
      let tails : keys_of ls ≡ keys_of ms = cc in
      let later = leaves_once k d ls ms b.1 r s tails (subst (λ x. AreLeaves k d x ls r) same.1 a.4) b.4 in
      (λ i. (key i, numbers i) ∷ later.0 i, later.1)

  has_once : (bytes : List ℕ) (k m : ℕ) (p q : List ℕ) (d e : Description) (ls ms : LeafMap) (u v : List ℕ) → HasLeaves bytes k p d ls u → HasLeaves bytes m q e ms v
      → (k ≡ m) × (p ≡ q) × (d ≡ e) × (ls ≡ ms) × (u ≡ v)
  has_once bytes k m p q d e ls ms u v a b =
      let cs = covered_once bytes k m p q d e (keys_of ls) (keys_of ms) a.behind b.behind a.covered b.covered in
      let other : AreLeaves k d a.behind ms v = rw (cs.0, cs.2, cs.4) b.are in
      let same = leaves_once k d ls ms a.behind u v cs.3 a.are other in
      (cs.0, cs.1, cs.2, same.0, same.1)

  mosaic_once : (k : ℕ) (d : Description) (ls : LeafMap) (u r s : List ℕ) → IsMosaicReply k d ls u r → IsMosaicReply k d ls u s → r ≡ s
  mosaic_once k d [] u r s a b = a ∙ sym b
  mosaic_once k d (l ∷ ls) u r s a b = (one_reply (Survey k) u (file_of d (l ∷ ls) path.Allsky) (file_of d (l ∷ ls) path.Allsky) r s a b).1

  compared_once : (bytes : List ℕ) (k m : ℕ) (d e : Description) (ls ms : LeafMap) (u v : List ℕ) → Compared bytes k d ls u → Compared bytes m e ms v → u ≡ v
  compared_once bytes k m d e ls ms u v a b =
      let hs = has_once bytes k m (file_of d ls path.Properties) (file_of e ms path.Properties) d e ls ms a.behind b.behind a.has b.has in
      let other : IsMosaicReply k d ls a.behind v = rw (hs.0, hs.2, hs.3, hs.4) b.mosaic in
      mosaic_once k d ls a.behind u v a.mosaic other

  copy_once : (bytes : List ℕ) (d e : Description) (ls ms : LeafMap) → IsCopy bytes d ls → IsCopy bytes e ms → (d ≡ e) × (ls ≡ ms)
  copy_once bytes d e ls ms a b =
      let hs = has_once bytes a.k b.k (file_of d ls path.Properties) (file_of e ms path.Properties) d e ls ms a.compared.behind b.compared.behind a.compared.has b.compared.has in
      (hs.2, hs.3)

  -- ---- what was read isn't refused

  reply_stands : (due : Due) (n : ℕ) (u body rest : List ℕ) (refusal : MirrorRefusal) → IsReply due u body rest → RefusesReply due n u refusal → IsNoMatterOfBytes refusal
  reply_stands due n u body rest (Reply told) is why = (stands due u).not_wrong body rest is why.1
  reply_stands due n u body rest Properties is why = why
  reply_stands due n u body rest Cover is why = why
  reply_stands due n u body rest (TooLarge count) is why = why
  reply_stands due n u body rest (Leaf cell fault) is why = why
  reply_stands due n u body rest (Differs path) is why = why
  reply_stands due n u body rest Cut is why = (stands due u).not_cut body rest is why
  reply_stands due n u body rest ReadFault is why = tt
  reply_stands due n u body rest WriteFault is why = tt
  reply_stands due n u body rest ShelfFault is why = tt
  reply_stands due n u body rest OutOfMemory is why = tt

  body_stands : (due : Due) (n : ℕ) (Wrong : MirrorRefusal → List ℕ → Type 0) (u body rest : List ℕ) (refusal : MirrorRefusal) → IsReply due u body rest → (Wrong refusal body → ⊥) → RefusesAt due n Wrong u refusal
      → IsNoMatterOfBytes refusal
  body_stands due n Wrong u body rest refusal is right (inl why) = reply_stands due n u body rest refusal is why
  body_stands due n Wrong u body rest refusal is right (inr why) =
      let same : why.body ≡ body = (one_reply due u why.body body why.rest rest why.reply is).0 in
      absurd (right (subst (Wrong refusal) same why.wrong))

  described_stands : (bytes : List ℕ) (k m : ℕ) (u p v : List ℕ) (d : Description) (refusal : MirrorRefusal) → Described bytes m p d v → IsReply Pinned bytes (pinned_line k) u
      → RefusesAt (Survey k) 1 WrongProperties u refusal → IsNoMatterOfBytes refusal
  described_stands bytes k m u p v d refusal a pinned why =
      let pins = pinned_once bytes u a.behind k m pinned a.pinned in
      let reply : IsReply (Survey k) u p v = rw (pins.0, pins.1) a.reply in
      body_stands (Survey k) 1 WrongProperties u p v refusal reply (λ wrong. wrong.1 d a.is) why

  cover_stands : (d : Description) (body ns : List ℕ) (refusal : MirrorRefusal) → d.shape.top ≤ 11 → IsCoverOf d.shape.top body ns → is_too_large d.shape (length ns) ≡ false → WrongCover d refusal body → ⊥
  cover_stands d body ns refusal few is fits (inl wrong) = wrong.1 ns is
  cover_stands d body ns refusal few is fits (inr wrong) =
      let same : wrong.0 ≡ ns = cover_once made back d.shape.top body wrong.0 ns few wrong.2 is in
      true≢false (sym wrong.3 ∙ ap (λ xs. is_too_large d.shape (length xs)) same ∙ fits)

  covered_stands : (bytes : List ℕ) (k m : ℕ) (p q u ns v : List ℕ) (d e : Description) (refusal : MirrorRefusal) → Covered bytes m q e ns v → Described bytes k p d u
      → RefusesAt (Survey k) 2 (WrongCover d) u refusal → IsNoMatterOfBytes refusal
  covered_stands bytes k m p q u ns v d e refusal a described why =
      let ds = described_once bytes k m p q d e u a.behind described a.described in
      let reply : IsReply (Survey k) u a.body v = rw (ds.0, ds.3) a.reply in
      let is : IsCoverOf d.shape.top a.body ns = rw ds.2 a.is in
      let fits : is_too_large d.shape (length ns) ≡ false = rw ds.2 a.fits in
      let few : d.shape.top ≤ 11 = (described_is normal p d described.is).shape.greatest_top in
      body_stands (Survey k) 2 (WrongCover d) u a.body v refusal reply (cover_stands d a.body ns refusal few is fits) why

  -- what comes next after some first leaves is the reply of a leaf
  record LeafNext (k : ℕ) (d : Description) (u : List ℕ) : Type 0 where
    body : List ℕ
    rest : List ℕ
    numbers : List ℤ
    reply : IsReply (Survey k) u body rest
    read : reads d body ≡ Ok numbers

  leaf_next : (k : ℕ) (d : Description) (ps ls : LeafMap) (u mid v : List ℕ) → length ps < length ls → AreLeaves k d u ps mid → AreLeaves k d u ls v → LeafNext k d mid
  leaf_next k d [] [] u mid v less a b = absurd (omega (arith, less))
  leaf_next k d [] (l ∷ ls) u mid v less a b = record { body = b.0; rest = b.1; numbers = l.1; reply = subst (λ x. IsReply (Survey k) x b.0 b.1) (sym a) b.2; read = b.3 }
  leaf_next k d (p ∷ ps) [] u mid v less a b = absurd (omega (arith, less))
  leaf_next k d (p ∷ ps) (l ∷ ls) u mid v less a b =
      let same = one_reply (Survey k) u a.0 b.0 a.1 b.1 a.2 b.2 in
      leaf_next k d ps ls b.1 mid v (omega (arith, less)) (subst (λ x. AreLeaves k d x ps mid) same.1 a.4) b.4

  in_range : (xs : List ℕ) (i x : ℕ) → slice_get xs i ≡ Some x → i < length xs
  in_range [] i x e = cc
  in_range (y ∷ ys) zero x e = omega arith
  in_range (y ∷ ys) (suc i) x e = let rest = in_range ys i x e in omega (arith, rest)

  leaves_stand : (k : ℕ) (d : Description) (ls : LeafMap) (ns u v : List ℕ) (refusal : MirrorRefusal) → ns ≡ keys_of ls → AreLeaves k d u ls v → RefusesLeaf k d ns u refusal → IsNoMatterOfBytes refusal
  leaves_stand k d ls ns u v refusal keys are why =
      let inside : length why.leaves < length ns = in_range ns (length why.leaves) why.number why.next in
      let long : length ns ≡ length ls = ap length keys ∙ length-keys_of ls in
      let next = leaf_next k d why.leaves ls u why.behind v (omega (arith, inside, long)) why.are are in
      body_stands (Survey k) (3 + length why.leaves) (WrongLeaf d why.number) why.behind next.body next.rest refusal next.reply
      (λ wrong. let both : Ok next.numbers ≡ Err wrong.0 = sym next.read ∙ wrong.2 in cc) why.refused

  leaf_stands : (bytes : List ℕ) (k m : ℕ) (p q ns u v : List ℕ) (d e : Description) (ls : LeafMap) (refusal : MirrorRefusal) → HasLeaves bytes m q e ls v → Covered bytes k p d ns u
      → RefusesLeaf k d ns u refusal → IsNoMatterOfBytes refusal
  leaf_stands bytes k m p q ns u v d e ls refusal a covered why =
      let cs = covered_once bytes k m p q d e ns (keys_of ls) u a.behind covered a.covered in
      let are : AreLeaves k d u ls v = rw (cs.0, cs.2, cs.4) a.are in
      leaves_stand k d ls ns u v refusal cs.3 are why

  files_stand : (k : ℕ) (p u v : List ℕ) (d : Description) (ls : LeafMap) (refusal : MirrorRefusal) → p ≡ file_of d ls path.Properties → IsMosaicReply k d ls u v → RefusesFiles k p d ls u refusal
      → IsNoMatterOfBytes refusal
  files_stand k p u v d [] refusal same mosaic (inl wrong) = absurd (wrong.1 same)
  files_stand k p u v d [] refusal same mosaic (inr memory) = rw memory tt
  files_stand k p u v d (l ∷ ls) refusal same mosaic why =
      body_stands (Survey k) (3 + length (l ∷ ls)) (WrongMosaic p d (l ∷ ls)) u (file_of d (l ∷ ls) path.Allsky) v refusal mosaic (right p d (l ∷ ls) refusal same) why
    where
      right : (p : List ℕ) (d : Description) (ls : LeafMap) (refusal : MirrorRefusal) → p ≡ file_of d ls path.Properties → WrongMosaic p d ls refusal (file_of d ls path.Allsky) → ⊥
      right p d ls refusal same (inl wrong) = wrong.1 same
      right p d ls refusal same (inr wrong) = wrong.2 refl

  mosaic_stands : (bytes : List ℕ) (k m : ℕ) (p u v : List ℕ) (d e : Description) (ls ms : LeafMap) (refusal : MirrorRefusal) → Compared bytes m e ms v → HasLeaves bytes k p d ls u
      → RefusesFiles k p d ls u refusal → IsNoMatterOfBytes refusal
  mosaic_stands bytes k m p u v d e ls ms refusal a has why =
      let hs = has_once bytes k m p (file_of e ms path.Properties) d e ls ms u a.behind has a.has in
      let mosaic : IsMosaicReply k d ls u v = rw (hs.0, hs.2, hs.3, hs.4) a.mosaic in
      let properties : file_of d ls path.Properties ≡ file_of e ms path.Properties = λ i. file_of (hs.2 i) (hs.3 i) path.Properties in
      files_stand k p u v d ls refusal (hs.1 ∙ sym properties) mosaic why

  copy_stands : (bytes : List ℕ) (d : Description) (ls : LeafMap) (refusal : MirrorRefusal) → IsCopy bytes d ls → Refuses bytes refusal → IsNoMatterOfBytes refusal
  copy_stands bytes d ls refusal a (at_pin why) =
      let first = a.compared.has.covered.described in
      reply_stands Pinned 0 bytes (pinned_line a.k) first.behind refusal first.pinned why
  copy_stands bytes d ls refusal a (at_properties k u pinned why) =
      described_stands bytes k a.k u (file_of d ls path.Properties) a.compared.has.covered.behind d refusal a.compared.has.covered.described pinned why
  copy_stands bytes d ls refusal a (at_cover k p u e described why) =
      covered_stands bytes k a.k p (file_of d ls path.Properties) u (keys_of ls) a.compared.has.behind e d refusal a.compared.has.covered described why
  copy_stands bytes d ls refusal a (at_leaf k p ns u e covered why) =
      leaf_stands bytes k a.k p (file_of d ls path.Properties) ns u a.compared.behind e d ls refusal a.compared.has covered why
  copy_stands bytes d ls refusal a (at_mosaic k p u e ms has why) =
      mosaic_stands bytes k a.k p u a.behind e d ms ls refusal a.compared has why
  copy_stands bytes d ls refusal a (at_unpin k u e ms compared why) =
      let same : u ≡ a.behind = compared_once bytes k a.k e d ms ls u a.behind compared a.compared in
      reply_stands Any (last_request (keys_of ms)) u a.body a.rest refusal (subst (λ x. IsReply Any x a.body a.rest) (sym same) a.reply) why

  -- ---- and it is refused in one way

  first : (r o : MirrorRefusal) → IsNoMatterOfBytes r → AreOne r o
  first r o h = inr (inl h)

  second : (r o : MirrorRefusal) → IsNoMatterOfBytes o → AreOne r o
  second r o h = inr (inr h)

  -- what a reply is refused with
  data Told (due : Due) (n : ℕ) (u : List ℕ) (r : MirrorRefusal) : Type 0 where
    told_wrong : r ≡ Reply n → IsWrongReply due u → Told due n u r
    told_cut : r ≡ Cut → IsCutReply due u → Told due n u r
    told_free : IsNoMatterOfBytes r → Told due n u r

  told : (due : Due) (n : ℕ) (u : List ℕ) (r : MirrorRefusal) → RefusesReply due n u r → Told due n u r
  told due n u (Reply m) why = told_wrong (ap Reply why.0) why.1
  told due n u Properties why = absurd why
  told due n u Cover why = absurd why
  told due n u (TooLarge count) why = absurd why
  told due n u (Leaf cell fault) why = absurd why
  told due n u (Differs p) why = absurd why
  told due n u Cut why = told_cut refl why
  told due n u ReadFault why = told_free tt
  told due n u WriteFault why = told_free tt
  told due n u ShelfFault why = told_free tt
  told due n u OutOfMemory why = told_free tt

  told_same : (due : Due) (n : ℕ) (u : List ℕ) (r o : MirrorRefusal) → Told due n u r → Told due n u o → AreOne r o
  told_same due n u r o (told_wrong a x) (told_wrong b y) = inl (a ∙ sym b)
  told_same due n u r o (told_wrong a x) (told_cut b y) = absurd ((stands due u).cut_or_wrong y x)
  told_same due n u r o (told_wrong a x) (told_free y) = second r o y
  told_same due n u r o (told_cut a x) (told_wrong b y) = absurd ((stands due u).cut_or_wrong x y)
  told_same due n u r o (told_cut a x) (told_cut b y) = inl (a ∙ sym b)
  told_same due n u r o (told_cut a x) (told_free y) = second r o y
  told_same due n u r o (told_free x) y = first r o x

  replies_same : (due : Due) (n : ℕ) (u : List ℕ) (r o : MirrorRefusal) → RefusesReply due n u r → RefusesReply due n u o → AreOne r o
  replies_same due n u r o x y = told_same due n u r o (told due n u r x) (told due n u o y)

  bodies_same : (due : Due) (n : ℕ) (Wrong : MirrorRefusal → List ℕ → Type 0) (u : List ℕ) (r o : MirrorRefusal) → ((body : List ℕ) → Wrong r body → Wrong o body → AreOne r o)
      → RefusesAt due n Wrong u r → RefusesAt due n Wrong u o → AreOne r o
  bodies_same due n Wrong u r o same (inl x) (inl y) = replies_same due n u r o x y
  bodies_same due n Wrong u r o same (inl x) (inr y) = first r o (reply_stands due n u y.body y.rest r y.reply x)
  bodies_same due n Wrong u r o same (inr x) (inl y) = second r o (reply_stands due n u x.body x.rest o x.reply y)
  bodies_same due n Wrong u r o same (inr x) (inr y) =
      let body : x.body ≡ y.body = (one_reply due u x.body y.body x.rest y.rest x.reply y.reply).0 in
      same y.body (subst (Wrong r) body x.wrong) y.wrong

  properties_same : (bytes : List ℕ) (k m : ℕ) (u v : List ℕ) (r o : MirrorRefusal) → IsReply Pinned bytes (pinned_line k) u → IsReply Pinned bytes (pinned_line m) v
      → RefusesAt (Survey k) 1 WrongProperties u r → RefusesAt (Survey m) 1 WrongProperties v o → AreOne r o
  properties_same bytes k m u v r o a b x y =
      let pins = pinned_once bytes u v k m a b in
      let z : RefusesAt (Survey k) 1 WrongProperties u o = rw (pins.0, pins.1) y in
      bodies_same (Survey k) 1 WrongProperties u r o (λ body p q. inl (p.0 ∙ sym q.0)) x z

  covers_same : (d : Description) (r o : MirrorRefusal) (body : List ℕ) → d.shape.top ≤ 11 → WrongCover d r body → WrongCover d o body → AreOne r o
  covers_same d r o body few (inl x) (inl y) = inl (x.0 ∙ sym y.0)
  covers_same d r o body few (inl x) (inr y) = absurd (x.1 y.0 y.2)
  covers_same d r o body few (inr x) (inl y) = absurd (y.1 x.0 x.2)
  covers_same d r o body few (inr x) (inr y) =
      let same : x.0 ≡ y.0 = cover_once made back d.shape.top body x.0 y.0 few x.2 y.2 in
      inl (x.1 ∙ ap (λ ns. TooLarge (length ns)) same ∙ sym y.1)

  cover_same : (bytes : List ℕ) (k m : ℕ) (p q u v : List ℕ) (d e : Description) (r o : MirrorRefusal) → Described bytes k p d u → Described bytes m q e v
      → RefusesAt (Survey k) 2 (WrongCover d) u r → RefusesAt (Survey m) 2 (WrongCover e) v o → AreOne r o
  cover_same bytes k m p q u v d e r o a b x y =
      let ds = described_once bytes k m p q d e u v a b in
      let z : RefusesAt (Survey k) 2 (WrongCover d) u o = rw (ds.0, ds.2, ds.3) y in
      let few : d.shape.top ≤ 11 = (described_is normal p d a.is).shape.greatest_top in
      bodies_same (Survey k) 2 (WrongCover d) u r o (λ body. covers_same d r o body few) x z

  -- where one leaf stands before the other, it was read; else they are the same
  next_same : (k : ℕ) (d : Description) (ns u : List ℕ) (r o : MirrorRefusal) (x : RefusesLeaf k d ns u r) (y : RefusesLeaf k d ns u o) → length x.leaves ≡ length y.leaves → AreOne r o
  next_same k d ns u r o x y long =
      let keys : keys_of x.leaves ≡ keys_of y.leaves = x.first ∙ ap (λ n. take n ns) long ∙ sym y.first in
      let same = leaves_once k d x.leaves y.leaves u x.behind y.behind keys x.are y.are in
      let number : Some x.number ≡ Some y.number = sym x.next ∙ ap (slice_get ns) long ∙ y.next in
      let numbers : x.number ≡ y.number = cc in
      let z : RefusesAt (Survey k) (3 + length x.leaves) (WrongLeaf d x.number) x.behind o = rw (long, numbers, same.1) y.refused in
      bodies_same (Survey k) (3 + length x.leaves) (WrongLeaf d x.number) x.behind r o (λ body p q.
      let faults : Err p.0 ≡ Err q.0 = sym p.2 ∙ q.2 in
      let fault : p.0 ≡ q.0 = cc in
      inl (p.1 ∙ ap (λ f. Leaf (record { order = d.shape.top; npix = x.number }) f) fault ∙ sym q.1)) x.refused z

  leaf_before : (k : ℕ) (d : Description) (ns u : List ℕ) (r o : MirrorRefusal) (x : RefusesLeaf k d ns u r) (y : RefusesLeaf k d ns u o) → length x.leaves < length y.leaves → IsNoMatterOfBytes r
  leaf_before k d ns u r o x y less =
      let next = leaf_next k d x.leaves y.leaves u x.behind y.behind less x.are y.are in
      body_stands (Survey k) (3 + length x.leaves) (WrongLeaf d x.number) x.behind next.body next.rest r next.reply
      (λ wrong. let both : Ok next.numbers ≡ Err wrong.0 = sym next.read ∙ wrong.2 in cc) x.refused

  leaves_same : (k : ℕ) (d : Description) (ns u : List ℕ) (r o : MirrorRefusal) → RefusesLeaf k d ns u r → RefusesLeaf k d ns u o → AreOne r o
  leaves_same k d ns u r o x y = elim (cases_order (length x.leaves) (length y.leaves)) [
    | inl same ↦ next_same k d ns u r o x y same
    | inr (inl less) ↦ first r o (leaf_before k d ns u r o x y less)
    | inr (inr more) ↦ second r o (leaf_before k d ns u o r y x more)
  ]

  leaf_same : (bytes : List ℕ) (k m : ℕ) (p q ns ms u v : List ℕ) (d e : Description) (r o : MirrorRefusal) → Covered bytes k p d ns u → Covered bytes m q e ms v
      → RefusesLeaf k d ns u r → RefusesLeaf m e ms v o → AreOne r o
  leaf_same bytes k m p q ns ms u v d e r o a b x y =
      let cs = covered_once bytes k m p q d e ns ms u v a b in
      let z : RefusesLeaf k d ns u o = rw (cs.0, cs.2, cs.3, cs.4) y in
      leaves_same k d ns u r o x z

  mosaics_same : (k : ℕ) (p u : List ℕ) (d : Description) (ls : LeafMap) (r o : MirrorRefusal) → RefusesFiles k p d ls u r → RefusesFiles k p d ls u o → AreOne r o
  mosaics_same k p u d [] r o (inl x) (inl y) = inl (x.0 ∙ sym y.0)
  mosaics_same k p u d [] r o (inl x) (inr y) = second r o (rw y tt)
  mosaics_same k p u d [] r o (inr x) y = first r o (rw x tt)
  mosaics_same k p u d (l ∷ ls) r o x y = bodies_same (Survey k) (3 + length (l ∷ ls)) (WrongMosaic p d (l ∷ ls)) u r o (λ body. by body) x y
    where
      by : (body : List ℕ) → WrongMosaic p d (l ∷ ls) r body → WrongMosaic p d (l ∷ ls) o body → AreOne r o
      by body (inl x) (inl y) = inl (x.0 ∙ sym y.0)
      by body (inl x) (inr y) = absurd (x.1 y.1)
      by body (inr x) (inl y) = absurd (y.1 x.1)
      by body (inr x) (inr y) = inl (x.0 ∙ sym y.0)

  files_same : (bytes : List ℕ) (k m : ℕ) (p q u v : List ℕ) (d e : Description) (ls ms : LeafMap) (r o : MirrorRefusal) → HasLeaves bytes k p d ls u → HasLeaves bytes m q e ms v
      → RefusesFiles k p d ls u r → RefusesFiles m q e ms v o → AreOne r o
  files_same bytes k m p q u v d e ls ms r o a b x y =
      let hs = has_once bytes k m p q d e ls ms u v a b in
      let z : RefusesFiles k p d ls u o = rw (hs.0, hs.1, hs.2, hs.3, hs.4) y in
      mosaics_same k p u d ls r o x z

  unpin_same : (bytes : List ℕ) (k m : ℕ) (d e : Description) (ls ms : LeafMap) (u v : List ℕ) (r o : MirrorRefusal) → Compared bytes k d ls u → Compared bytes m e ms v
      → RefusesReply Any (last_request (keys_of ls)) u r → RefusesReply Any (last_request (keys_of ms)) v o → AreOne r o
  unpin_same bytes k m d e ls ms u v r o a b x y =
      let hs = has_once bytes k m (file_of d ls path.Properties) (file_of e ms path.Properties) d e ls ms a.behind b.behind a.has b.has in
      let same : u ≡ v = compared_once bytes k m d e ls ms u v a b in
      let z : RefusesReply Any (last_request (keys_of ls)) u o = rw (hs.3, same) y in
      replies_same Any (last_request (keys_of ls)) u r o x z

  one_refusal : (bytes : List ℕ) (r o : MirrorRefusal) → Refuses bytes r → Refuses bytes o → AreOne r o
  one_refusal bytes r o (at_pin w1) (at_pin w2) = replies_same Pinned 0 bytes r o w1 w2
  one_refusal bytes r o (at_pin w1) (at_properties k2 u2 pinned2 w2) = first r o (reply_stands Pinned 0 bytes (pinned_line k2) u2 r pinned2 w1)
  one_refusal bytes r o (at_pin w1) (at_cover k2 p2 u2 d2 described2 w2) = first r o (reply_stands Pinned 0 bytes (pinned_line k2) described2.behind r described2.pinned w1)
  one_refusal bytes r o (at_pin w1) (at_leaf k2 p2 ns2 u2 d2 covered2 w2) = first r o (reply_stands Pinned 0 bytes (pinned_line k2) covered2.described.behind r covered2.described.pinned w1)
  one_refusal bytes r o (at_pin w1) (at_mosaic k2 p2 u2 d2 ls2 has2 w2) = first r o (reply_stands Pinned 0 bytes (pinned_line k2) has2.covered.described.behind r has2.covered.described.pinned w1)
  one_refusal bytes r o (at_pin w1) (at_unpin k2 u2 d2 ls2 compared2 w2) = first r o (reply_stands Pinned 0 bytes (pinned_line k2) compared2.has.covered.described.behind r compared2.has.covered.described.pinned w1)
  one_refusal bytes r o (at_properties k1 u1 pinned1 w1) (at_pin w2) = second r o (reply_stands Pinned 0 bytes (pinned_line k1) u1 o pinned1 w2)
  one_refusal bytes r o (at_properties k1 u1 pinned1 w1) (at_properties k2 u2 pinned2 w2) = properties_same bytes k1 k2 u1 u2 r o pinned1 pinned2 w1 w2
  one_refusal bytes r o (at_properties k1 u1 pinned1 w1) (at_cover k2 p2 u2 d2 described2 w2) = first r o (described_stands bytes k1 k2 u1 p2 u2 d2 r described2 pinned1 w1)
  one_refusal bytes r o (at_properties k1 u1 pinned1 w1) (at_leaf k2 p2 ns2 u2 d2 covered2 w2) = first r o (described_stands bytes k1 k2 u1 p2 covered2.behind d2 r covered2.described pinned1 w1)
  one_refusal bytes r o (at_properties k1 u1 pinned1 w1) (at_mosaic k2 p2 u2 d2 ls2 has2 w2) = first r o (described_stands bytes k1 k2 u1 p2 has2.covered.behind d2 r has2.covered.described pinned1 w1)
  one_refusal bytes r o (at_properties k1 u1 pinned1 w1) (at_unpin k2 u2 d2 ls2 compared2 w2) = first r o (described_stands bytes k1 k2 u1 (file_of d2 ls2 path.Properties) compared2.has.covered.behind d2 r compared2.has.covered.described pinned1 w1)
  one_refusal bytes r o (at_cover k1 p1 u1 d1 described1 w1) (at_pin w2) = second r o (reply_stands Pinned 0 bytes (pinned_line k1) described1.behind o described1.pinned w2)
  one_refusal bytes r o (at_cover k1 p1 u1 d1 described1 w1) (at_properties k2 u2 pinned2 w2) = second r o (described_stands bytes k2 k1 u2 p1 u1 d1 o described1 pinned2 w2)
  one_refusal bytes r o (at_cover k1 p1 u1 d1 described1 w1) (at_cover k2 p2 u2 d2 described2 w2) = cover_same bytes k1 k2 p1 p2 u1 u2 d1 d2 r o described1 described2 w1 w2
  one_refusal bytes r o (at_cover k1 p1 u1 d1 described1 w1) (at_leaf k2 p2 ns2 u2 d2 covered2 w2) = first r o (covered_stands bytes k1 k2 p1 p2 u1 ns2 u2 d1 d2 r covered2 described1 w1)
  one_refusal bytes r o (at_cover k1 p1 u1 d1 described1 w1) (at_mosaic k2 p2 u2 d2 ls2 has2 w2) = first r o (covered_stands bytes k1 k2 p1 p2 u1 (keys_of ls2) has2.behind d1 d2 r has2.covered described1 w1)
  one_refusal bytes r o (at_cover k1 p1 u1 d1 described1 w1) (at_unpin k2 u2 d2 ls2 compared2 w2) = first r o (covered_stands bytes k1 k2 p1 (file_of d2 ls2 path.Properties) u1 (keys_of ls2) compared2.has.behind d1 d2 r compared2.has.covered described1 w1)
  one_refusal bytes r o (at_leaf k1 p1 ns1 u1 d1 covered1 w1) (at_pin w2) = second r o (reply_stands Pinned 0 bytes (pinned_line k1) covered1.described.behind o covered1.described.pinned w2)
  one_refusal bytes r o (at_leaf k1 p1 ns1 u1 d1 covered1 w1) (at_properties k2 u2 pinned2 w2) = second r o (described_stands bytes k2 k1 u2 p1 covered1.behind d1 o covered1.described pinned2 w2)
  one_refusal bytes r o (at_leaf k1 p1 ns1 u1 d1 covered1 w1) (at_cover k2 p2 u2 d2 described2 w2) = second r o (covered_stands bytes k2 k1 p2 p1 u2 ns1 u1 d2 d1 o covered1 described2 w2)
  one_refusal bytes r o (at_leaf k1 p1 ns1 u1 d1 covered1 w1) (at_leaf k2 p2 ns2 u2 d2 covered2 w2) = leaf_same bytes k1 k2 p1 p2 ns1 ns2 u1 u2 d1 d2 r o covered1 covered2 w1 w2
  one_refusal bytes r o (at_leaf k1 p1 ns1 u1 d1 covered1 w1) (at_mosaic k2 p2 u2 d2 ls2 has2 w2) = first r o (leaf_stands bytes k1 k2 p1 p2 ns1 u1 u2 d1 d2 ls2 r has2 covered1 w1)
  one_refusal bytes r o (at_leaf k1 p1 ns1 u1 d1 covered1 w1) (at_unpin k2 u2 d2 ls2 compared2 w2) = first r o (leaf_stands bytes k1 k2 p1 (file_of d2 ls2 path.Properties) ns1 u1 compared2.behind d1 d2 ls2 r compared2.has covered1 w1)
  one_refusal bytes r o (at_mosaic k1 p1 u1 d1 ls1 has1 w1) (at_pin w2) = second r o (reply_stands Pinned 0 bytes (pinned_line k1) has1.covered.described.behind o has1.covered.described.pinned w2)
  one_refusal bytes r o (at_mosaic k1 p1 u1 d1 ls1 has1 w1) (at_properties k2 u2 pinned2 w2) = second r o (described_stands bytes k2 k1 u2 p1 has1.covered.behind d1 o has1.covered.described pinned2 w2)
  one_refusal bytes r o (at_mosaic k1 p1 u1 d1 ls1 has1 w1) (at_cover k2 p2 u2 d2 described2 w2) = second r o (covered_stands bytes k2 k1 p2 p1 u2 (keys_of ls1) has1.behind d2 d1 o has1.covered described2 w2)
  one_refusal bytes r o (at_mosaic k1 p1 u1 d1 ls1 has1 w1) (at_leaf k2 p2 ns2 u2 d2 covered2 w2) = second r o (leaf_stands bytes k2 k1 p2 p1 ns2 u2 u1 d2 d1 ls1 o has1 covered2 w2)
  one_refusal bytes r o (at_mosaic k1 p1 u1 d1 ls1 has1 w1) (at_mosaic k2 p2 u2 d2 ls2 has2 w2) = files_same bytes k1 k2 p1 p2 u1 u2 d1 d2 ls1 ls2 r o has1 has2 w1 w2
  one_refusal bytes r o (at_mosaic k1 p1 u1 d1 ls1 has1 w1) (at_unpin k2 u2 d2 ls2 compared2 w2) = first r o (mosaic_stands bytes k1 k2 p1 u1 u2 d1 d2 ls1 ls2 r compared2 has1 w1)
  one_refusal bytes r o (at_unpin k1 u1 d1 ls1 compared1 w1) (at_pin w2) = second r o (reply_stands Pinned 0 bytes (pinned_line k1) compared1.has.covered.described.behind o compared1.has.covered.described.pinned w2)
  one_refusal bytes r o (at_unpin k1 u1 d1 ls1 compared1 w1) (at_properties k2 u2 pinned2 w2) = second r o (described_stands bytes k2 k1 u2 (file_of d1 ls1 path.Properties) compared1.has.covered.behind d1 o compared1.has.covered.described pinned2 w2)
  one_refusal bytes r o (at_unpin k1 u1 d1 ls1 compared1 w1) (at_cover k2 p2 u2 d2 described2 w2) = second r o (covered_stands bytes k2 k1 p2 (file_of d1 ls1 path.Properties) u2 (keys_of ls1) compared1.has.behind d2 d1 o compared1.has.covered described2 w2)
  one_refusal bytes r o (at_unpin k1 u1 d1 ls1 compared1 w1) (at_leaf k2 p2 ns2 u2 d2 covered2 w2) = second r o (leaf_stands bytes k2 k1 p2 (file_of d1 ls1 path.Properties) ns2 u2 compared1.behind d2 d1 ls1 o compared1.has covered2 w2)
  one_refusal bytes r o (at_unpin k1 u1 d1 ls1 compared1 w1) (at_mosaic k2 p2 u2 d2 ls2 has2 w2) = second r o (mosaic_stands bytes k2 k1 p2 u2 u1 d2 d1 ls2 ls1 o compared1 has2 w2)
  one_refusal bytes r o (at_unpin k1 u1 d1 ls1 compared1 w1) (at_unpin k2 u2 d2 ls2 compared2 w2) = unpin_same bytes k1 k2 d1 d2 ls1 ls2 u1 u2 r o compared1 compared2 w1 w2

  pub one_outcome : (bytes : List ℕ) → HasOneOutcome bytes
  one_outcome bytes = record {
    one = copy_once bytes;
    not_refused = λ d leaves refusal copy why. copy_stands bytes d leaves refusal copy why;
    one_refusal = one_refusal bytes;
  }
