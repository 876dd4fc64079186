-- The paths of a survey's server, and which methods fit them (RFC 9110, sections 9 and 15.5.6). Paths are percent-decoded,
-- without their leading `/`. This project's profile.
use Rattle.std.specs.Prelude.{◌≡◌, ℕ, List, codes, Option, Some, None}
use Rattle.healpix_nested.specs.Cells.{NestedCell}
use Rattle.tile_path.specs.declared.path.Path.{Path}
use Rattle.tile_path.specs.declared.path.Path.TheVariants.{Tile}
use Rattle.tile_path.specs.Spelling.{IsPath, spelling}
use Rattle.http_frame.specs.declared.request.Method.{Method}
use Rattle.http_frame.specs.declared.request.Method.TheVariants.{Get, Head, Put, Delete, Post}
use Rattle.http_frame.specs.declared.reply.Allow.{Allow}
use Rattle.http_frame.specs.declared.reply.Allow.TheVariants as allow
use Rattle.hips_http.specs.declared.call.PathKind.{PathKind}
use Rattle.hips_http.specs.declared.call.PathKind.TheVariants as kind
use Rattle.hips_http.specs.declared.call.Call.{Call}
use Rattle.hips_http.specs.declared.call.Call.TheVariants as call

-- the path is that of a file that a survey can have
pub record IsFilePath (path : Option (List ℕ)) (file : Path) : Type 0 where
  pub known : IsPath file
  pub spelled : path ≡ Some (spelling file)

-- the path is that of this file, or of none
abbrev pub IsPathOf : Option (List ℕ) → Option Path → Type 0
IsPathOf path (Some file) = IsFilePath path file
IsPathOf path None = (file : Path) → ¬ IsFilePath path file

-- the path is that of the tile of a leaf, a cell of order `top`
pub record IsLeafPath (top : ℕ) (path : Option (List ℕ)) (leaf : NestedCell) : Type 0 where
  pub order_is : leaf.order ≡ top
  pub tile : IsFilePath path (Tile leaf)

-- the path has none of the other kinds, and is that of this file, or of none
pub record IsOtherPath (top : ℕ) (path : Option (List ℕ)) (file : Option Path) : Type 0 where
  pub publish : ¬ (path ≡ Some (codes "publish"))
  pub pin : ¬ (path ≡ Some (codes "pin"))
  pub unpin : ¬ (path ≡ Some (codes "unpin"))
  pub batch : ¬ (path ≡ Some (codes "batch"))
  pub leaf : (leaf : NestedCell) → ¬ IsLeafPath top path leaf
  pub file_is : IsPathOf path file

-- the path is of this kind: one of the four control paths, that of a leaf, or any other, also none at all
abbrev pub IsOfKind : ℕ → Option (List ℕ) → PathKind → Type 0
IsOfKind top path kind.Publish = path ≡ Some (codes "publish")
IsOfKind top path kind.Pin = path ≡ Some (codes "pin")
IsOfKind top path kind.Unpin = path ≡ Some (codes "unpin")
IsOfKind top path kind.Batch = path ≡ Some (codes "batch")
IsOfKind top path (kind.Leaf leaf) = IsLeafPath top path leaf
IsOfKind top path (kind.Other file) = IsOtherPath top path file

-- which methods a path allows
abbrev pub allowed : PathKind → Allow
allowed (kind.Leaf leaf) = allow.Leaf
allowed (kind.Other file) = allow.Other
allowed _ = allow.Control

-- what is asked for: control paths take POST, leaves GET, HEAD, PUT and DELETE, any other path GET and HEAD; each other
-- method, known or not, fits no path
abbrev pub call_of : Method → PathKind → Call
call_of Post kind.Publish = call.Publish
call_of Post kind.Pin = call.Pin
call_of Post kind.Unpin = call.Unpin
call_of Post kind.Batch = call.Batch
call_of Get (kind.Leaf leaf) = call.File (Some (Tile leaf))
call_of Head (kind.Leaf leaf) = call.File (Some (Tile leaf))
call_of Put (kind.Leaf leaf) = call.Put leaf.npix
call_of Delete (kind.Leaf leaf) = call.Delete leaf.npix
call_of Get (kind.Other file) = call.File file
call_of Head (kind.Other file) = call.File file
call_of _ of_kind = call.NotAllowed (allowed of_kind)
