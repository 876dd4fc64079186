-- A level that grows by one merge, and two levels one behind the other.
use Rattle.std.proofs.Common.{◌≡◌, ℕ, ◌≤◌, ◌++◌, List, [], ◌∷◌, sym, ◌∙◌, ap, subst, take, drop, append_assoc}
use Rattle.std.specs.Prelude.{All}
use Rattle.std.proofs.lemmas.List.{map-append, take-append-drop}
use Rattle.std.proofs.lemmas.List.Elements.{All-cons, All-nil, All-head, All-tail, All-drop}
use Rattle.parent_rule.specs.Permit.{PermittedCell}
use Rattle.pyramid_model.specs.Shape.{PyramidShape}
use Rattle.tile_pixels.specs.Tile.{PixelTile}
use Rattle.rebuild_worker.specs.declared.named.Named.{Named}
use Rattle.rebuild_worker.specs.Level.{NamedTile, children_of, merge_of, merges_of, IsAboveLeaves, ShowsItsCell}
use Rattle.rebuild_worker.specs.Shown.{shown, all_shown}
use Rattle.rebuild_worker.specs.LevelLaws.{shows_above}

-- each merge shows its cell
pub each_shows : (shape : PyramidShape) (tiles : List (ℕ × PixelTile)) (todo : List PermittedCell) → shape.n ≤ 9 → All (IsAboveLeaves shape) todo → All (ShowsItsCell shape tiles) (merges_of shape tiles todo)
each_shows shape tiles [] small above = All-nil (ShowsItsCell shape tiles)
each_shows shape tiles (cell ∷ todo) small above =
    let here : IsAboveLeaves shape cell = All-head (IsAboveLeaves shape) cell todo above in
    All-cons (ShowsItsCell shape tiles) (merge_of shape tiles cell) (merges_of shape tiles todo)
    (λ leaves shows. shows_above shape leaves cell.order cell.npix (children_of tiles cell.npix) small here.order shows)
    (each_shows shape tiles todo small (All-tail (IsAboveLeaves shape) cell todo above))

pub level_shows : (shape : PyramidShape) (tiles : List (ℕ × PixelTile)) (todo : List PermittedCell) (level : List Named) → shape.n ≤ 9 → All (IsAboveLeaves shape) todo → all_shown level ≡ merges_of shape tiles todo
    → All (ShowsItsCell shape tiles) (all_shown level)
level_shows shape tiles todo level small above is =
    let P : List NamedTile → Type 0 = λ named. All (ShowsItsCell shape tiles) named in
    subst P (sym is) (each_shows shape tiles todo small above)

-- one merge goes from what is owed to what was made
pub owed_to_made : (shape : PyramidShape) (tiles : List (ℕ × PixelTile)) (old new : List Named) (named : Named) (cell : PermittedCell) (todo left all : List PermittedCell)
    → new ≡ old ++ named ∷ [] → shown named ≡ merge_of shape tiles cell → todo ≡ cell ∷ left → all_shown old ++ merges_of shape tiles todo ≡ merges_of shape tiles all
    → all_shown new ++ merges_of shape tiles left ≡ merges_of shape tiles all
owed_to_made shape tiles old new named cell todo left all pushed shows taken owed =
    let made : all_shown new ≡ all_shown old ++ merge_of shape tiles cell ∷ [] =
    ap all_shown pushed ∙ map-append shown old (named ∷ []) ∙ ap (λ one. all_shown old ++ one ∷ []) shows in
    ap (λ level. level ++ merges_of shape tiles left) made ∙ append_assoc (all_shown old) (merge_of shape tiles cell ∷ []) (merges_of shape tiles left)
    ∙ sym (ap (λ cells. all_shown old ++ merges_of shape tiles cells) taken) ∙ owed

-- the front's level with the back's behind it is the level of all
pub two_runs : (shape : PyramidShape) (tiles : List (ℕ × PixelTile)) (front back all : List Named) (todo : List PermittedCell) (at : ℕ) → all ≡ front ++ back
    → all_shown front ≡ merges_of shape tiles (take at todo) → all_shown back ≡ merges_of shape tiles (drop at todo) → all_shown all ≡ merges_of shape tiles todo
two_runs shape tiles front back all todo at is made_front made_back =
    ap all_shown is ∙ map-append shown front back ∙ ap (λ level. level ++ all_shown back) made_front ∙ ap (λ level. merges_of shape tiles (take at todo) ++ level) made_back
    ∙ sym (map-append (merge_of shape tiles) (take at todo) (drop at todo)) ∙ ap (merges_of shape tiles) (take-append-drop at todo)

-- the permits behind the first are above the leaves where all are
pub above_rest : (shape : PyramidShape) (cell : PermittedCell) (todo left : List PermittedCell) → todo ≡ cell ∷ left → All (IsAboveLeaves shape) todo → All (IsAboveLeaves shape) left
above_rest shape cell todo left is all = let P : List PermittedCell → Type 0 = λ cells. All (IsAboveLeaves shape) cells in All-drop (IsAboveLeaves shape) 1 (cell ∷ left) (subst P is all)
