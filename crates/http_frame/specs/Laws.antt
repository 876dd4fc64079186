-- Laws of the definitions, each the whole contract of a function of `laws`.
use Rattle.std.specs.Prelude.{◌≡◌, ℕ, List}
use Rattle.http_frame.specs.Next.{NextHead, IsNextHead, Next, IsNext}

-- one thing comes next in the unread bytes, and no other
abbrev pub NextIsOne : Type 0
NextIsOne = (room : ℕ) (unread : List ℕ) (next next' : Next) → IsNext room unread next → IsNext room unread next' → next ≡ next'

-- before its body is looked at, too: the input ends, is cut or is refused in one way, or one head comes next
abbrev pub NextHeadIsOne : Type 0
NextHeadIsOne = (room : ℕ) (unread : List ℕ) (next next' : NextHead) → IsNextHead room unread next → IsNextHead room unread next' → next ≡ next'

-- something comes next in the unread bytes
abbrev pub SomeStands : ℕ → List ℕ → Type 0
SomeStands room unread = (next : Next) × IsNext room unread next
