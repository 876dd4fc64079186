-- Where a path is no file's, and which leaf a call has.
use Rattle.std.proofs.Common.{◌≡◌, ℕ, ◌-◌, ◌≤◌, List, Option, Some, None, refl, sym, ap, subst, ◌<◌}
use Rattle.std.specs.Prelude.{◌≢◌, IfSome, IsNone}
use Rattle.tile_path.specs.declared.path.Path.{Path}
use Rattle.tile_path.specs.declared.path.Path.TheVariants.{Tile}
use Rattle.tile_path.specs.Spelling.{IsPath, spelling}
use Rattle.healpix_nested.specs.Cells.{NestedCell, cell_count}
use Rattle.survey_conf.specs.Description.{Description}
use Rattle.http_frame.specs.declared.request.Method.{Method}
use Rattle.http_frame.specs.declared.request.Method.TheVariants.{Get, Head, Put, Delete, Post, Other}
use Rattle.generation.specs.Files.{leaf_map}
use Rattle.generation.proofs.NoFile.{no_file}
use Rattle.hips_http.specs.declared.call.PathKind.{PathKind}
use Rattle.hips_http.specs.declared.call.PathKind.TheVariants as kind
use Rattle.edit_journal.specs.Leaves.{LeafTiles}
use Rattle.survey_core.specs.History.{SurveyState, leaves_at}
use Rattle.survey_core.specs.Reply.{file_at}
use Rattle.hips_http.specs.Paths.{IsPathOf, IsLeafPath, IsOfKind, call_of}
use Rattle.hips_http.specs.Replies.{file_answer, not_found}
use Rattle.hips_http.specs.Progress.{HasLeaf, HasFile}

-- what a text names that was read as a path
pub path_read : (text : List ℕ) (file : Option Path) → IfSome file IsPath → IfSome file (λ p. spelling p ≡ text) → (IsNone file → (p : Path) → IsPath p → spelling p ≢ text) → IsPathOf (Some text) file
path_read text None known spelled none = λ p is. none refl p is.known (let e = is.spelled in cc)
path_read text (Some p) known spelled none = record { known = known; spelled = ap (λ (t : List ℕ). Some t) (sym spelled) }

pub no_leaf_path : (top : ℕ) (text : List ℕ) (file : Option Path) → ((p : Path) → IsPath p → spelling p ≡ text → file ≡ Some p)
    → ((leaf : NestedCell) → leaf.order ≡ top → file ≡ Some (Tile leaf) → ⊥) → (leaf : NestedCell) → IsLeafPath top (Some text) leaf → ⊥
no_leaf_path top text file inverse none leaf is = none leaf is.order_is (inverse (Tile leaf) is.tile.known (let e = is.tile.spelled in cc))

-- where a path is no file's, it is answered that there is none
pub none_answered : (conf : Description) (opening : LeafTiles) (state : SurveyState) (path : Option (List ℕ)) → conf.shape.top ≤ 11 → conf.shape.low ≤ 3 → IsPathOf path None
    → file_answer conf opening state path ≡ not_found state.tip
none_answered conf opening state None top low unknown = refl
none_answered conf opening state (Some text) top low unknown =
    let none : file_at conf opening state text ≡ None
    = no_file conf (leaf_map (leaves_at opening state)) text top low (λ file known spelled. unknown file (record { known = known; spelled = ap (λ (t : List ℕ). Some t) (sym spelled) })) in
    rw (none) refl

leaf_within : (top : ℕ) (path : Option (List ℕ)) (leaf : NestedCell) → IsLeafPath top path leaf → leaf.npix < cell_count top
leaf_within top path leaf is = subst (λ (order : ℕ). leaf.npix < cell_count order) is.order_is is.tile.known.cell.in_order

-- the leaf of a call is that of its path, and so is its file
pub call_known : (top : ℕ) (path : Option (List ℕ)) (method : Method) (of_path : PathKind) → IsOfKind top path of_path → HasLeaf top (call_of method of_path) × HasFile path (call_of method of_path)
call_known top path Get (kind.Leaf leaf) is = (tt, is.tile)
call_known top path Head (kind.Leaf leaf) is = (tt, is.tile)
call_known top path Put (kind.Leaf leaf) is = (leaf_within top path leaf is, tt)
call_known top path Delete (kind.Leaf leaf) is = (leaf_within top path leaf is, tt)
call_known top path Post (kind.Leaf leaf) is = (tt, tt)
call_known top path Other (kind.Leaf leaf) is = (tt, tt)
call_known top path Get kind.Publish is = (tt, tt)
call_known top path Head kind.Publish is = (tt, tt)
call_known top path Put kind.Publish is = (tt, tt)
call_known top path Delete kind.Publish is = (tt, tt)
call_known top path Post kind.Publish is = (tt, tt)
call_known top path Other kind.Publish is = (tt, tt)
call_known top path Get kind.Pin is = (tt, tt)
call_known top path Head kind.Pin is = (tt, tt)
call_known top path Put kind.Pin is = (tt, tt)
call_known top path Delete kind.Pin is = (tt, tt)
call_known top path Post kind.Pin is = (tt, tt)
call_known top path Other kind.Pin is = (tt, tt)
call_known top path Get kind.Unpin is = (tt, tt)
call_known top path Head kind.Unpin is = (tt, tt)
call_known top path Put kind.Unpin is = (tt, tt)
call_known top path Delete kind.Unpin is = (tt, tt)
call_known top path Post kind.Unpin is = (tt, tt)
call_known top path Other kind.Unpin is = (tt, tt)
call_known top path Get kind.Batch is = (tt, tt)
call_known top path Head kind.Batch is = (tt, tt)
call_known top path Put kind.Batch is = (tt, tt)
call_known top path Delete kind.Batch is = (tt, tt)
call_known top path Post kind.Batch is = (tt, tt)
call_known top path Other kind.Batch is = (tt, tt)
call_known top path Get (kind.Other file) is = (tt, is.file_is)
call_known top path Head (kind.Other file) is = (tt, is.file_is)
call_known top path Put (kind.Other file) is = (tt, tt)
call_known top path Delete (kind.Other file) is = (tt, tt)
call_known top path Post (kind.Other file) is = (tt, tt)
call_known top path Other (kind.Other file) is = (tt, tt)
