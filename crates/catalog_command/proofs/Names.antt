-- The path of a catalogue tile is text.
use Rattle.std.proofs.Common.{◌≡◌, ℕ, ◌*◌, ◌/◌, ◌≤◌, ◌<◌, ◌^◌, ◌++◌, List, [], ◌∷◌, true, refl, decimal, arith}
use Rattle.std.specs.Prelude.{codes, nat_lt}
use Rattle.std.specs.List.{list_all}
use Rattle.std.proofs.lemmas.Bool.{and_parts}
use Rattle.std.proofs.lemmas.Bool.Decides.{nat_tests}
use Rattle.std.specs.Str.{IsAscii, IsUtf8}
use Rattle.std.proofs.lemmas.Fmt.{IsAscii-decimal}
use Rattle.std.proofs.lemmas.Str.{IsAscii-append, IsUtf8-from_ascii}
use Rattle.std.proofs.lemmas.Str.Ascii.{IsAscii-nil, IsAscii-cons}
use Rattle.tile_path.specs.Spelling.{folder_number, catalogue_spelling}

-- bytes that are seen to be below 128
ascii : (bs : List ℕ) → list_all (λ b. nat_lt b 128) bs ≡ true → IsAscii bs
ascii [] e = IsAscii-nil
ascii (b ∷ bs) e =
    let parts = and_parts (nat_lt b 128) (list_all (λ b. nat_lt b 128) bs) e in
    let low : b < 128 = grind (arith, nat_tests) in
    IsAscii-cons b bs low (ascii bs parts.1)

folder_small : (npix : ℕ) → npix < 2 ^ 64 → folder_number npix < 2 ^ 64
folder_small npix small = let least : npix / 10000 * 10000 ≤ npix = omega arith in omega (arith, least)

pub name_is_ascii : (order npix : ℕ) → order < 2 ^ 64 → npix < 2 ^ 64 → IsAscii (catalogue_spelling order npix)
name_is_ascii order npix low small =
    let first = IsAscii-append (codes "Norder") (decimal order) (ascii (codes "Norder") refl) (IsAscii-decimal order low) in
    let second = IsAscii-append (codes "Norder" ++ decimal order) (codes "/Dir") first (ascii (codes "/Dir") refl) in
    let third = IsAscii-append (codes "Norder" ++ decimal order ++ codes "/Dir") (decimal (folder_number npix)) second (IsAscii-decimal (folder_number npix) (folder_small npix small)) in
    let fourth = IsAscii-append (codes "Norder" ++ decimal order ++ codes "/Dir" ++ decimal (folder_number npix)) (codes "/Npix") third (ascii (codes "/Npix") refl) in
    let fifth = IsAscii-append (codes "Norder" ++ decimal order ++ codes "/Dir" ++ decimal (folder_number npix) ++ codes "/Npix") (decimal npix) fourth (IsAscii-decimal npix small) in
    IsAscii-append (codes "Norder" ++ decimal order ++ codes "/Dir" ++ decimal (folder_number npix) ++ codes "/Npix" ++ decimal npix) (codes ".tsv") fifth (ascii (codes ".tsv") refl)

pub name_is_text : (order npix : ℕ) → order < 2 ^ 64 → npix < 2 ^ 64 → IsUtf8 (catalogue_spelling order npix)
name_is_text order npix low small = IsUtf8-from_ascii (catalogue_spelling order npix) (name_is_ascii order npix low small)
