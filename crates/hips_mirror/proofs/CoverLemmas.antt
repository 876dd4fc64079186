-- The leaves of a cover that was read.
use Rattle.std.proofs.Common.{◌≡◌, ◌≢◌, ◌⊎◌, inl, inr, ℕ, ◌+◌, ◌<◌, true, false, List, [], ◌∷◌, Result, Ok, Err, length, get_or, refl, sym, ap, ◌∙◌, subst, arith}
use Rattle.std.specs.Prelude.{All, IfOk, IfErr, Vec}
use Rattle.std.specs.declared.alloc.Global.{Global}
use Rattle.std.specs.List.{range_with_len}
use Rattle.std.specs.List.Sorted.{IsStrictlyIncreasing}
use Rattle.std.proofs.lemmas.List.Kept.{IsStrictlyIncreasing-filter}
use Rattle.std.proofs.lemmas.List.Elements.{All-filter, All-from_get_or}
use Rattle.std.proofs.lemmas.List.FromFn.{length-range_with_len, get_or-range_with_len}
use Rattle.healpix_nested.specs.Cells.{cell_count}
use Rattle.pyramid_model.specs.Shape.{PyramidShape}
use Rattle.survey_conf.specs.Description.{Description}
use Rattle.mirror_frame.specs.declared.due.Due.TheVariants.{Survey}
use Rattle.coverage_moc.specs.Cover.{IsAscending, is_under, leaves_under, cover}
use Rattle.coverage_moc.specs.CoverFile.{moc_file}
use Rattle.coverage_moc.proofs.TreeLemmas.{up-leaves_under}
use Rattle.shelf_io.proofs.AscendLemmas.{range_increases}
use Rattle.hips_mirror.specs.declared.refusal.MirrorRefusal.{MirrorRefusal}
use Rattle.hips_mirror.specs.declared.refusal.MirrorRefusal.TheVariants.{Cover, TooLarge, OutOfMemory}
use Rattle.hips_mirror.specs.Mirror.{IsCoverOf, WrongCover, is_too_large}
use Rattle.survey_link.specs.declared.source.Source as source
use Rattle.survey_link.specs.declared.sink.Sink as sink
use Rattle.tile_path.specs.declared.path.Path.TheVariants.{Moc}
use Rattle.mirror_frame.specs.Exchange.{IsExchanged}
use Rattle.mirror_frame.specs.Peer.{talk, body_of, Goes}
use Rattle.mirror_frame.specs.declared.ask.Ask.{Ask}
use Rattle.mirror_frame.specs.declared.ask.Ask.TheVariants.{File}
use Rattle.mirror_frame.specs.declared.peer.Peer.{Peer}
use Rattle.hips_mirror.specs.Stages.{TellsCover, RefusedBy, Reaches}
use Rattle.hips_mirror.proofs.StageLemmas.{one_reached}

pub under_rises : (top : ℕ) (rows : List ℕ) → IsStrictlyIncreasing (leaves_under top rows)
unfolding leaves_under
under_rises top rows = IsStrictlyIncreasing-filter (is_under top rows) (range_with_len 0 (cell_count top)) (range_increases 0 (cell_count top))

under_cells : (top : ℕ) (rows : List ℕ) → All (λ leaf. leaf < cell_count top) (leaves_under top rows)
unfolding leaves_under
under_cells top rows =
    All-filter (is_under top rows) (λ leaf. leaf < cell_count top) (range_with_len 0 (cell_count top))
    (All-from_get_or (λ leaf. leaf < cell_count top) (range_with_len 0 (cell_count top)) 0
    (λ i h. let long : length (range_with_len 0 (cell_count top)) ≡ cell_count top = length-range_with_len 0 (cell_count top) in
    let at : get_or (range_with_len 0 (cell_count top)) i 0 ≡ 0 + i = get_or-range_with_len 0 (cell_count top) i 0 (omega arith) in
    omega arith))

module _ (top : ℕ) (body rows numbers : List ℕ) (is : numbers ≡ leaves_under top rows) (file : moc_file top rows ≡ body) (own : rows ≡ cover top (leaves_under top rows)) where
  pub cover_read : IsCoverOf top body numbers
  cover_read = record {
    file = ap (λ ns. moc_file top (cover top ns)) is ∙ ap (moc_file top) (sym own) ∙ file;
    ascending = let P : List ℕ → Type 0 = IsAscending in subst P (sym is) (up-leaves_under top rows);
    cells = let P : List ℕ → Type 0 = All (λ leaf. leaf < cell_count top) in subst P (sym is) (under_cells top rows);
  }

  pub numbers_rise : IsStrictlyIncreasing numbers
  numbers_rise = let P : List ℕ → Type 0 = IsStrictlyIncreasing in subst P (sym is) (under_rises top rows)

-- ---- the leaves of a cover

module _ (d : Description) (shape : PyramidShape) (t : ℕ) (body rows : List ℕ) (same : shape ≡ d.shape) (at : t ≡ shape.top) (read : moc_file t rows ≡ body) (canon : rows ≡ cover t (leaves_under t rows)) where
  file : moc_file shape.top rows ≡ body
  file = subst (λ n. moc_file n rows ≡ body) at read

  own : rows ≡ cover shape.top (leaves_under shape.top rows)
  own = subst (λ n. rows ≡ cover n (leaves_under n rows)) at canon

  pub covered_ok : {E : Type 0} (r : Result (Vec ℕ Global) E) → IfOk r (λ numbers. numbers.items ≡ leaves_under shape.top rows) → IfOk r (λ numbers. IsCoverOf d.shape.top body numbers.items)
  covered_ok (Ok numbers) is = subst (λ (s : PyramidShape). IsCoverOf s.top body numbers.items) same (cover_read shape.top body rows numbers.items is file own)
  covered_ok (Err e) is = tt

  pub rising_ok : {E : Type 0} (r : Result (Vec ℕ Global) E) → IfOk r (λ numbers. numbers.items ≡ leaves_under shape.top rows) → IfOk r (λ numbers. IsStrictlyIncreasing numbers.items)
  rising_ok (Ok numbers) is = numbers_rise shape.top body rows numbers.items is file own
  rising_ok (Err e) is = tt

  pub covered_err : {T : Type 0} (r : Result T MirrorRefusal)
      → IfErr r (λ refusal. ((refusal ≡ TooLarge (length (leaves_under shape.top rows))) × (is_too_large shape (length (leaves_under shape.top rows)) ≡ true)) ⊎ (refusal ≡ OutOfMemory))
      → IfErr r (RefusedBy (WrongCover d) body)
  covered_err (Ok t) why = tt
  covered_err (Err e) (inl large) =
      inl (inr (
        leaves_under shape.top rows,
        large.0,
        subst (λ (s : PyramidShape). IsCoverOf s.top body (leaves_under shape.top rows)) same (cover_read shape.top body rows (leaves_under shape.top rows) refl file own),
        subst (λ (s : PyramidShape). is_too_large s (length (leaves_under shape.top rows)) ≡ true) same large.1,
      ))
  covered_err (Err e) (inr none) = inr none

-- no leaves have this body as their coverage file
pub no_cover : (d : Description) (shape : PyramidShape) (t : ℕ) (body : List ℕ) → shape ≡ d.shape → t ≡ shape.top → ((leaves : List ℕ) → moc_file t (cover t leaves) ≢ body) → RefusedBy (WrongCover d) body Cover
no_cover d shape t body same at none =
    let top : d.shape.top ≡ t = ap (λ (s : PyramidShape). s.top) (sym same) ∙ sym at in
    inl (inl (refl, λ numbers is. none numbers (subst (λ n. moc_file n (cover n numbers) ≡ body) top is.file)))

-- ---- the reply

pub cover_reached : {S K : Type 0} (told_source : source.Ghosts S) (told_sink : sink.Ghosts K) (k : ℕ) (d : Description) (asked : Ask) (x y : Peer S K) → asked ≡ File Moc
    → IsExchanged told_source told_sink asked (Survey k) (body_of y) (talk x) (talk y) → Goes told_source told_sink false false x y → (r : Result (Vec ℕ Global) MirrorRefusal) → IfOk r (λ numbers. IsCoverOf d.shape.top (body_of y) numbers.items)
    → IfOk r (λ numbers. Reaches told_source told_sink k (File Moc ∷ []) (TellsCover k d numbers.items) x y)
cover_reached told_source told_sink k d asked x y same exchanged goes (Ok numbers) is =
    one_reached told_source told_sink k (File Moc) asked (Survey k) x y same refl (TellsCover k d numbers.items) (λ p q reply. record { body = body_of y; reply = reply; is = is }) exchanged goes
cover_reached told_source told_sink k d asked x y same exchanged goes (Err why) is = tt

pub cover_cells : {E : Type 0} (d : Description) (body : List ℕ) (r : Result (Vec ℕ Global) E) → IfOk r (λ numbers. IsCoverOf d.shape.top body numbers.items)
    → IfOk r (λ numbers. All (λ leaf. leaf < cell_count d.shape.top) numbers.items)
cover_cells d body (Ok numbers) is = is.cells
cover_cells d body (Err e) is = tt
