-- The path of a request target (RFC 9112, sections 3.2.1 and 3.2.2), by this project's profile: a `#` has no meaning.
use Rattle.std.specs.Prelude.{ℕ, Bool, List, [], ◌∷◌, take, drop, Option, Some, None, if◌then◌else◌, ◌==◌, codes}
use Rattle.std.specs.List.{before_first, position_or_len}
use Rattle.percent_encoding.specs.Percent.{percent_decode}
use Rattle.http_frame.specs.Fields.{same_text}

abbrev pub slash : ℕ
slash = 47

abbrev pub question_mark : ℕ
question_mark = 63

-- the target names a host
abbrev pub is_absolute : List ℕ → Bool
is_absolute target = same_text (take 7 target) (codes "http://")

-- the text, and `/` where it is empty
abbrev pub or_slash : List ℕ → List ℕ
or_slash [] = slash ∷ []
or_slash (b ∷ bs) = b ∷ bs

-- what begins at the first `/`, and `/` where there is none
abbrev pub after_host : List ℕ → List ℕ
after_host rest = or_slash (drop (position_or_len (λ byte. byte == slash) rest) rest)

-- the target before its first `?`, without its host
abbrev pub local_part : List ℕ → List ℕ
local_part target = if is_absolute target then after_host (drop 7 target) else target

-- the decoded path behind the leading `/`; none where the target has no leading `/`
abbrev pub decoded_path : List ℕ → Option (List ℕ)
decoded_path [] = None
decoded_path (b ∷ bs) = if b == slash then Some (percent_decode bs) else None

-- the path that the target names
abbrev pub path_of : List ℕ → Option (List ℕ)
path_of target = decoded_path (local_part (before_first (λ byte. byte == question_mark) target))
