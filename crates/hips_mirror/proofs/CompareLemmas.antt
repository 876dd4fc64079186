-- The files that the leaves decide, and what the peer sent of them.
use Rattle.std.proofs.Common.{◌≡◌, ◌≢◌, ℕ, ◌<◌, ◌^◌, Bool, List, [], ◌∷◌, Option, Some, sym, ap, ◌∙◌, arith, length}
use Rattle.std.specs.Prelude.{All, IsTrue, ◌↔◌}
use Rattle.std.specs.Option.{option_eq}
use Rattle.std.specs.Map.{keys_of}
use Rattle.std.specs.FinMap.{get}
use Rattle.std.specs.Str.{bytes_eq}
use Rattle.std.proofs.lemmas.Slice.Eq.{bytes_eq-Decides}
use Rattle.healpix_nested.specs.Cells.{cell_count}
use Rattle.pyramid_model.specs.Shape.{IsShape, LeafMap}
use Rattle.survey_conf.specs.Description.{Description}
use Rattle.survey_conf.specs.Properties.{properties_text}
use Rattle.tile_path.specs.Spelling.{spelling}
use Rattle.tile_path.specs.Laws.{SpellingsDiffer}
use Rattle.tile_path.specs.declared.path.Path.TheVariants as path
use Rattle.edit_journal.specs.Leaves.{LeafTiles}
use Rattle.generation.specs.Files.{leaf_map, file_of, files}
use Rattle.generation.proofs.FileLemmas.{file_there}
use Rattle.hips_mirror.specs.Stages.{Counts}
use Rattle.hips_mirror.proofs.LeavesLemmas.{map_length}

-- the mosaic is a file where there is a leaf
pub mosaic_there : (d : Description) (leaves : LeafMap) → IsShape d.shape.top d.shape.low d.shape.n → All (λ leaf. leaf < cell_count d.shape.top) (keys_of leaves) → SpellingsDiffer
    → leaves ≢ [] → get (files d leaves) (spelling path.Allsky) ≡ Some (file_of d leaves path.Allsky)
unfolding files
mosaic_there d leaves known cells differ some = file_there d.shape leaves known cells d differ path.Allsky tt some

pub mosaic_judged : (mosaic want : List ℕ) (found : Option (List ℕ)) (r : Bool) → r ≡ option_eq bytes_eq (Some mosaic) found → found ≡ Some want → IsTrue r ↔ (mosaic ≡ want)
mosaic_judged mosaic want found r is known =
    let same : r ≡ bytes_eq mosaic want = is ∙ ap (option_eq bytes_eq (Some mosaic)) known in (
      λ yes. (bytes_eq-Decides mosaic want).0 (sym same ∙ yes),
      λ e. same ∙ (bytes_eq-Decides mosaic want).1 e,
    )

pub some_map : (tiles : LeafTiles) → 0 < length tiles → leaf_map tiles ≢ []
some_map [] some = absurd (omega (arith, some))
some_map (e ∷ es) some = λ none. absurd (omega (arith, ap length none))

-- ---- the properties

-- those of the leaves are what the peer sent exactly where it told their number
pub properties_are : (d : Description) (leaves : LeafTiles) (properties : List ℕ) (counted : Option ℕ) → length leaves < 2 ^ 64 → Counts d properties counted
    → (counted ≡ Some (length leaves)) ↔ (properties ≡ file_of d (leaf_map leaves) path.Properties)
unfolding file_of
properties_are d leaves properties counted few counts =
    let both = counts (length leaves) few in (
      λ e. both.1 e ∙ ap (properties_text d) (sym (map_length leaves)),
      λ e. both.0 (e ∙ ap (properties_text d) (map_length leaves)),
    )
