-- Many lines are answered one after another.
use Rattle.std.proofs.Common.{◌≡◌, ℕ, true, false, not, cond, List, [], ◌∷◌, ◌++◌, Result, Ok, Err, refl, ap, ◌∙◌, subst}
use Rattle.std.specs.Str.{bytes_eq}
use Rattle.std.proofs.lemmas.Bool.{or_parts}
use Rattle.hips_catalog.specs.Rows.{Source}
use Rattle.hips_catalog.specs.Reading.{is_id}
use Rattle.hips_catalog.specs.declared.fault.RowFault.TheVariants.{Id}
use Rattle.hips_catalog.specs.Catalogue.{Catalogue, has_id, without_id, without_row}
use Rattle.catalog_command.specs.declared.refusal.LineFault.{LineFault}
use Rattle.catalog_command.specs.declared.refusal.LineFault.TheVariants.{Row, Absent}
use Rattle.catalog_command.specs.Lines.{after_removal, after_line}
use Rattle.catalog_command.specs.Answers.{Answer, IsAnswered, AreAnswered}

-- where no row has the id, all stay
all_stay : (id : List ℕ) (sources : List Source) → has_id id sources ≡ false → without_id id sources ≡ sources
all_stay id [] none = refl
all_stay id (s ∷ ss) none =
    let apart = or_parts (bytes_eq s.id id) (has_id id ss) none in
    ap (λ b. cond (not b) (s ∷ without_id id ss) (without_id id ss)) apart.0 ∙ ap (λ rest. s ∷ rest) (all_stay id ss apart.1)

pub without_none : (id : List ℕ) (c : Catalogue) → has_id id c.rows ≡ false → without_row id c ≡ c
without_none id c none = ap (λ rows. record { top = c.top; per_tile = c.per_tile; rows = rows }) (all_stay id c.rows none)

pub absent_removal : (c : Catalogue) (id : List ℕ) → is_id id ≡ true → has_id id c.rows ≡ false → after_removal c id ≡ Err Absent
unfolding after_removal
absent_removal c id is none =
    ap (λ t. cond {A = Result Catalogue LineFault} t (cond (has_id id c.rows) (Ok (without_row id c)) (Err Absent)) (Err (Row Id))) is
    ∙ ap (λ t. cond {A = Result Catalogue LineFault} t (Ok (without_row id c)) (Err Absent)) none

pub none_answered : (c : Catalogue) → AreAnswered [] c [] c
none_answered c = refl

pub more_answered : (lines : List (List ℕ)) (line : List ℕ) (old then new : Catalogue) (answers : List Answer) (answer : Answer) → AreAnswered lines old answers then
    → IsAnswered (after_line then line) then answer new → AreAnswered (lines ++ line ∷ []) old (answers ++ answer ∷ []) new
more_answered [] line old then new [] answer so one = (new, subst (λ c. IsAnswered (after_line c line) c answer new) so one, refl)
more_answered [] line old then new (_ ∷ _) answer so one = absurd so
more_answered (_ ∷ _) line old then new [] answer so one = absurd so
more_answered (_ ∷ later) line old then new (_ ∷ answers) answer so one = (so.0, so.1, more_answered later line so.0 then new answers answer so.2 one)
