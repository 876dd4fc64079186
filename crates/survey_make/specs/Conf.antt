-- The description of the made survey: leaves of order 5, tiles of 32 columns and lines, numbers of 16 bits.
use Rattle.std.specs.Prelude.{ℕ, List, [], ◌∷◌, ◌++◌, codes}
use Rattle.survey_conf.specs.Description.{Description, description_of}

-- a text ended by a line feed
abbrev pub line : List ℕ → List ℕ
line text = text ++ 10 ∷ []

-- the lines of the description
unfoldable pub made_conf : List ℕ
made_conf =
    line (codes "creator_did = ivo://example/P/make")
    ++ line (codes "obs_title = Made survey")
    ++ line (codes "hips_release_date = 2024-05-01T00:00Z")
    ++ line (codes "hips_status = public master clonable")
    ++ line (codes "hips_order = 5")
    ++ line (codes "hips_tile_width = 32")
    ++ line (codes "survey_bitpix = 16")
    ++ line (codes "survey_blank = -32768")

-- what it describes
abbrev pub made : Description
made = description_of made_conf
