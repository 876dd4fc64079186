-- Which rows are there after many lines.
use Rattle.std.proofs.Common.{◌≡◌, ◌≢◌, ◌⊎◌, inl, inr, ℕ, Bool, true, false, not, cond, List, [], ◌∷◌, drop, Result, Ok, Err, refl, sym, ap, ◌∙◌, subst}
use Rattle.std.specs.Prelude.{length, ◌==◌}
use Rattle.std.specs.Str.{bytes_eq}
use Rattle.std.proofs.lemmas.Slice.Eq.{bytes_eq-Decides}
use Rattle.hips_catalog.specs.Rows.{Source, has_id_below}
use Rattle.hips_catalog.specs.Reading.{is_id, read_row}
use Rattle.hips_catalog.specs.Catalogue.{Catalogue, has_id, most_rows, with_source, without_id, with_row, without_row}
use Rattle.hips_catalog.specs.Laws.{IsAmong}
use Rattle.hips_catalog.specs.declared.fault.RowFault.{RowFault}
use Rattle.hips_catalog.specs.declared.fault.RowFault.TheVariants.{Id}
use Rattle.catalog_command.specs.declared.refusal.LineFault.{LineFault}
use Rattle.catalog_command.specs.declared.refusal.LineFault.TheVariants.{Row, Twice, Full, Absent}
use Rattle.catalog_command.specs.declared.line.LineRefusal.{LineRefusal}
use Rattle.catalog_command.specs.declared.line.LineRefusal.TheVariants.{Fault, OutOfMemory}
use Rattle.catalog_command.specs.Lines.{is_removal, after_removal, after_row, after_line}
use Rattle.catalog_command.specs.Answers.{Answer, IsAnswered, AreAnswered}
use Rattle.catalog_command.specs.There.{Stays, Comes, RowsAreThere}

-- ---- one row more or less

not_both : (b : Bool) → b ≡ true → b ≡ false → ⊥
not_both b t f = cc

with_has : (s row : Source) (rows : List Source) → IsAmong s (with_source row rows) → (s ≡ row) ⊎ IsAmong s rows
with_has s row [] m = m
with_has s row (r ∷ rs) m = at (with_has s row rs) (has_id_below r row.id) m
  where
    at : (IsAmong s (with_source row rs) → (s ≡ row) ⊎ IsAmong s rs) → (t : Bool) → IsAmong s (cond t (r ∷ with_source row rs) (row ∷ r ∷ rs)) → (s ≡ row) ⊎ IsAmong s (r ∷ rs)
    at below true (inl e) = inr (inl e)
    at below true (inr n) = elim (below n) [ inl e ↦ inl e | inr k ↦ inr (inr k) ]
    at below false m = m

has_with : (s row : Source) (rows : List Source) → (s ≡ row) ⊎ IsAmong s rows → IsAmong s (with_source row rows)
has_with s row [] m = m
has_with s row (r ∷ rs) m = at (has_with s row rs) (has_id_below r row.id) m
  where
    at : ((s ≡ row) ⊎ IsAmong s rs → IsAmong s (with_source row rs)) → (t : Bool) → (s ≡ row) ⊎ IsAmong s (r ∷ rs) → IsAmong s (cond t (r ∷ with_source row rs) (row ∷ r ∷ rs))
    at below true (inl e) = inr (below (inl e))
    at below true (inr (inl e)) = inl e
    at below true (inr (inr n)) = inr (below (inr n))
    at below false m = m

without_has : (s : Source) (id : List ℕ) (rows : List Source) → IsAmong s (without_id id rows) → (s.id ≢ id) × IsAmong s rows
without_has s id [] m = absurd m
without_has s id (r ∷ rs) m = at (without_has s id rs) (bytes_eq r.id id) refl m
  where
    at : (IsAmong s (without_id id rs) → (s.id ≢ id) × IsAmong s rs) → (t : Bool) → bytes_eq r.id id ≡ t → IsAmong s (cond (not t) (r ∷ without_id id rs) (without_id id rs)) → (s.id ≢ id) × IsAmong s (r ∷ rs)
    at below true is m = let later = below m in (later.0, inr later.1)
    at below false is (inl e) = ((λ same. not_both (bytes_eq r.id id) (ap (λ (q : Source). bytes_eq q.id id) (sym e) ∙ (bytes_eq-Decides s.id id).1 same) is), inl e)
    at below false is (inr n) = let later = below n in (later.0, inr later.1)

has_without : (s : Source) (id : List ℕ) (rows : List Source) → s.id ≢ id → IsAmong s rows → IsAmong s (without_id id rows)
has_without s id [] other m = absurd m
has_without s id (r ∷ rs) other m = at (has_without s id rs other) (bytes_eq r.id id) refl m
  where
    at : (IsAmong s rs → IsAmong s (without_id id rs)) → (t : Bool) → bytes_eq r.id id ≡ t → IsAmong s (r ∷ rs) → IsAmong s (cond (not t) (r ∷ without_id id rs) (without_id id rs))
    at below true is (inl e) = absurd (other (ap (λ (q : Source). q.id) e ∙ (bytes_eq-Decides r.id id).0 is))
    at below true is (inr n) = below n
    at below false is (inl e) = inl e
    at below false is (inr n) = inr (below n)

-- ---- one line

-- what a line that is used makes
data Used (old : Catalogue) (line : List ℕ) (new : Catalogue) : Type 0 where
  taken : is_removal line ≡ true → new ≡ without_row (drop 2 line) old → Used old line new
  put : (row : Source) → is_removal line ≡ false → read_row old.top line ≡ Ok row → new ≡ with_row row old → Used old line new

used : (old : Catalogue) (line : List ℕ) (new : Catalogue) → after_line old line ≡ Ok new → Used old line new
unfolding after_line after_removal after_row
used old line new made = at (is_removal line) refl made
  where
    removed : (t u : Bool) → cond t (cond u (Ok (without_row (drop 2 line) old)) (Err Absent)) (Err (Row Id)) ≡ Ok new → new ≡ without_row (drop 2 line) old
    removed true true e = cc
    removed true false e = cc
    removed false u e = cc

    added : (row : Source) (t u : Bool) → cond t (Err Twice) (cond u (Err Full) (Ok (with_row row old))) ≡ Ok new → new ≡ with_row row old
    added row true u e = cc
    added row false true e = cc
    added row false false e = cc

    by : (read : Result Source RowFault) → read_row old.top line ≡ read → is_removal line ≡ false → after_row old read ≡ Ok new → Used old line new
    by (Err fault) reads is e = cc
    by (Ok row) reads is e = put row is reads (added row (has_id row.id old.rows) (length old.rows == most_rows) e)

    at : (t : Bool) → is_removal line ≡ t → cond t (after_removal old (drop 2 line)) (after_row old (read_row old.top line)) ≡ Ok new → Used old line new
    at true is e = taken is (removed (is_id (drop 2 line)) (has_id (drop 2 line) old.rows) e)
    at false is e = by (read_row old.top line) refl is e

top_stays : (old : Catalogue) (line : List ℕ) (new : Catalogue) → Used old line new → new.top ≡ old.top
top_stays old line new (taken is e) = ap (λ (c : Catalogue). c.top) e
top_stays old line new (put row is reads e) = ap (λ (c : Catalogue). c.top) e

-- ---- many lines

-- the row was there and stays, or comes
abbrev From : List (List ℕ) → Catalogue → List Answer → Source → Type 0
From lines old answers s = (IsAmong s old.rows × Stays s.id lines answers) ⊎ Comes old.top s lines answers

abbrev Has : Source → Catalogue → Type 0
Has s c = IsAmong s c.rows

module _ (old then : Catalogue) (line : List ℕ) (lines : List (List ℕ)) (done : Unit {0}) (answers : List Answer) (s : Source) where
  before_used : Used old line then → From lines then answers s → From (line ∷ lines) old (Ok done ∷ answers) s
  before_used (taken is e) (inl here) =
      let kept = without_has s (drop 2 line) old.rows (subst (Has s) e here.0) in
      inl (kept.1, (λ takes. kept.0 (sym takes.1), here.1))
  before_used (put row is reads e) (inl here) =
      elim (with_has s row old.rows (subst (Has s) e here.0))
      [ inl same ↦ inr (inl ((is, reads ∙ ap (λ (r : Source). Ok r) (sym same)), here.1)) | inr was ↦ inl (was, (λ takes. not_both (is_removal line) takes.0 is, here.1)) ]
  before_used u (inr comes) = inr (inr (subst (λ top. Comes top s lines answers) (top_stays old line then u) comes))

  after_used : Used old line then → From (line ∷ lines) old (Ok done ∷ answers) s → From lines then answers s
  after_used (taken is e) (inl here) = inl (subst (Has s) (sym e) (has_without s (drop 2 line) old.rows (λ same. here.1.0 (is, sym same)) here.0), here.1.1)
  after_used (put row is reads e) (inl here) = inl (subst (Has s) (sym e) (has_with s row old.rows (inr here.0)), here.1.1)
  after_used (taken is e) (inr (inl put_in)) = absurd (not_both (is_removal line) is put_in.0.0)
  after_used (put row is reads e) (inr (inl put_in)) =
      let same : s ≡ row = cc (reads, put_in.0.1) in
      inl (subst (Has s) (sym e) (has_with s row old.rows (inl same)), put_in.1)
  after_used u (inr (inr comes)) = inr (subst (λ top. Comes top s lines answers) (sym (top_stays old line then u)) comes)

refused : (made : Result Catalogue LineFault) (old new : Catalogue) (why : LineRefusal) → IsAnswered made old (Err why) new → new ≡ old
refused made old new (Fault fault) is = is.1
refused made old new OutOfMemory is = is

from : (lines : List (List ℕ)) (old : Catalogue) (answers : List Answer) (new : Catalogue) → AreAnswered lines old answers new → (s : Source) → IsAmong s new.rows → From lines old answers s
from [] old [] new so s there = inl (subst (Has s) so there, tt)
from [] old (_ ∷ _) new so s there = absurd so
from (_ ∷ _) old [] new so s there = absurd so
from (line ∷ lines) old (Ok done ∷ answers) new so s there = before_used old so.0 line lines done answers s (used old line so.0 so.1) (from lines so.0 answers new so.2 s there)
from (line ∷ lines) old (Err why ∷ answers) new so s there = subst (λ c. From lines c answers s) (refused (after_line old line) old so.0 why so.1) (from lines so.0 answers new so.2 s there)

to : (lines : List (List ℕ)) (old : Catalogue) (answers : List Answer) (new : Catalogue) → AreAnswered lines old answers new → (s : Source) → From lines old answers s → IsAmong s new.rows
to [] old [] new so s (inl here) = subst (Has s) (sym so) here.0
to [] old [] new so s (inr comes) = absurd comes
to [] old (_ ∷ _) new so s is = absurd so
to (_ ∷ _) old [] new so s is = absurd so
to (line ∷ lines) old (Ok done ∷ answers) new so s is = to lines so.0 answers new so.2 s (after_used old so.0 line lines done answers s (used old line so.0 so.1) is)
to (line ∷ lines) old (Err why ∷ answers) new so s is = to lines so.0 answers new so.2 s (subst (λ c. From lines c answers s) (sym (refused (after_line old line) old so.0 why so.1)) is)

pub rows_are_there : RowsAreThere
rows_are_there lines old answers new so s = (from lines old answers new so s, to lines old answers new so s)
