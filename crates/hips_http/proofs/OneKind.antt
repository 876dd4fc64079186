-- A path is of one kind.
use Rattle.std.proofs.Common.{◌≡◌, ℕ, List, [], length, get_or, Option, Some, None, refl, sym, ap, ◌∙◌, arith}
use Rattle.std.specs.Prelude.{unwrap_or}
use Rattle.healpix_nested.specs.Cells.{NestedCell}
use Rattle.tile_path.specs.declared.path.Path.{Path}
use Rattle.tile_path.specs.declared.path.Path.TheVariants.{Properties, Moc, Allsky, Tile}
use Rattle.tile_path.specs.Spelling.{spelling}
use Rattle.tile_path.specs.Laws.{SpellingsDiffer}
use Rattle.hips_http.specs.declared.call.PathKind.{PathKind}
use Rattle.hips_http.specs.declared.call.PathKind.TheVariants as kind
use Rattle.hips_http.specs.Paths.{IsFilePath, IsPathOf, IsOfKind, IsLeafPath}

-- texts of other lengths, or with other first bytes, are other texts
lengths : (a b : List ℕ) (path : Option (List ℕ)) → path ≡ Some a → path ≡ Some b → length a ≡ length b
lengths a b path first second = ap (λ (o : Option (List ℕ)). length (unwrap_or o [])) (sym first ∙ second)

firsts : (a b : List ℕ) (path : Option (List ℕ)) → path ≡ Some a → path ≡ Some b → get_or a 0 0 ≡ get_or b 0 0
firsts a b path first second = ap (λ (o : Option (List ℕ)). get_or (unwrap_or o []) 0 0) (sym first ∙ second)

-- a leaf's path begins with `N`
leaf_first : (leaf : NestedCell) → get_or (spelling (Tile leaf)) 0 0 ≡ 78
leaf_first leaf = refl

no_leaf : (top : ℕ) (leaf : NestedCell) (text : List ℕ) (path : Option (List ℕ)) → IsLeafPath top path leaf → path ≡ Some text → 78 ≡ get_or text 0 0
no_leaf top leaf text path is e = sym (leaf_first leaf) ∙ firsts (spelling (Tile leaf)) text path is.tile.spelled e

cell_of : NestedCell → Path → NestedCell
cell_of other Properties = other
cell_of other Moc = other
cell_of other Allsky = other
cell_of other (Tile cell) = cell

one_file : SpellingsDiffer → (path : Option (List ℕ)) (file file' : Path) → IsFilePath path file → IsFilePath path file' → file ≡ file'
one_file differ path file file' is is' = differ file file' is.known is'.known (ap (λ (o : Option (List ℕ)). unwrap_or o []) (sym is.spelled ∙ is'.spelled))

-- a path is that of one file, or of none
one_path : SpellingsDiffer → (path : Option (List ℕ)) (file file' : Option Path) → IsPathOf path file → IsPathOf path file' → file ≡ file'
one_path differ path None None is is' = refl
one_path differ path None (Some file) is is' = absurd (is file is')
one_path differ path (Some file) None is is' = absurd (is' file is)
one_path differ path (Some file) (Some file') is is' = ap (λ (f : Path). Some f) (one_file differ path file file' is is')

one_leaf : SpellingsDiffer → (top : ℕ) (leaf leaf' : NestedCell) (path : Option (List ℕ)) → IsLeafPath top path leaf → IsLeafPath top path leaf' → leaf ≡ leaf'
unfolding cell_of
one_leaf differ top leaf leaf' path is is' = ap (cell_of leaf) (one_file differ path (Tile leaf) (Tile leaf') is.tile is'.tile)

module _ (differ : SpellingsDiffer) (top : ℕ) (path : Option (List ℕ)) where
  pub one_kind : (of_path of_path' : PathKind) → IsOfKind top path of_path → IsOfKind top path of_path' → of_path ≡ of_path'
  one_kind kind.Publish kind.Publish is is' = refl
  one_kind kind.Publish kind.Pin is is' = absurd (omega (arith, lengths _ _ path is is'))
  one_kind kind.Publish kind.Unpin is is' = absurd (omega (arith, lengths _ _ path is is'))
  one_kind kind.Publish kind.Batch is is' = absurd (omega (arith, lengths _ _ path is is'))
  one_kind kind.Publish (kind.Leaf leaf) is is' = absurd (omega (arith, no_leaf top leaf _ path is' is))
  one_kind kind.Publish (kind.Other file) is is' = absurd (is'.publish is)
  one_kind kind.Pin kind.Publish is is' = absurd (omega (arith, lengths _ _ path is is'))
  one_kind kind.Pin kind.Pin is is' = refl
  one_kind kind.Pin kind.Unpin is is' = absurd (omega (arith, lengths _ _ path is is'))
  one_kind kind.Pin kind.Batch is is' = absurd (omega (arith, lengths _ _ path is is'))
  one_kind kind.Pin (kind.Leaf leaf) is is' = absurd (omega (arith, no_leaf top leaf _ path is' is))
  one_kind kind.Pin (kind.Other file) is is' = absurd (is'.pin is)
  one_kind kind.Unpin kind.Publish is is' = absurd (omega (arith, lengths _ _ path is is'))
  one_kind kind.Unpin kind.Pin is is' = absurd (omega (arith, lengths _ _ path is is'))
  one_kind kind.Unpin kind.Unpin is is' = refl
  one_kind kind.Unpin kind.Batch is is' = absurd (omega (arith, firsts _ _ path is is'))
  one_kind kind.Unpin (kind.Leaf leaf) is is' = absurd (omega (arith, no_leaf top leaf _ path is' is))
  one_kind kind.Unpin (kind.Other file) is is' = absurd (is'.unpin is)
  one_kind kind.Batch kind.Publish is is' = absurd (omega (arith, lengths _ _ path is is'))
  one_kind kind.Batch kind.Pin is is' = absurd (omega (arith, lengths _ _ path is is'))
  one_kind kind.Batch kind.Unpin is is' = absurd (omega (arith, firsts _ _ path is is'))
  one_kind kind.Batch kind.Batch is is' = refl
  one_kind kind.Batch (kind.Leaf leaf) is is' = absurd (omega (arith, no_leaf top leaf _ path is' is))
  one_kind kind.Batch (kind.Other file) is is' = absurd (is'.batch is)
  one_kind (kind.Leaf leaf) kind.Publish is is' = absurd (omega (arith, no_leaf top leaf _ path is is'))
  one_kind (kind.Leaf leaf) kind.Pin is is' = absurd (omega (arith, no_leaf top leaf _ path is is'))
  one_kind (kind.Leaf leaf) kind.Unpin is is' = absurd (omega (arith, no_leaf top leaf _ path is is'))
  one_kind (kind.Leaf leaf) kind.Batch is is' = absurd (omega (arith, no_leaf top leaf _ path is is'))
  one_kind (kind.Leaf leaf) (kind.Leaf leaf') is is' = ap kind.Leaf (one_leaf differ top leaf leaf' path is is')
  one_kind (kind.Leaf leaf) (kind.Other file) is is' = absurd (is'.leaf leaf is)
  one_kind (kind.Other file) kind.Publish is is' = absurd (is.publish is')
  one_kind (kind.Other file) kind.Pin is is' = absurd (is.pin is')
  one_kind (kind.Other file) kind.Unpin is is' = absurd (is.unpin is')
  one_kind (kind.Other file) kind.Batch is is' = absurd (is.batch is')
  one_kind (kind.Other file) (kind.Leaf leaf) is is' = absurd (is.leaf leaf is')
  one_kind (kind.Other file) (kind.Other file') is is' = ap kind.Other (one_path differ path file file' is.file_is is'.file_is)
