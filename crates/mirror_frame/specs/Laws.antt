-- A law of the definitions, the whole contract of a function of `laws`.
use Rattle.std.specs.Prelude.{◌≡◌, List, ℕ}
use Rattle.mirror_frame.specs.Reply.{IsReply, IsCutReply, IsWrongReply}
use Rattle.mirror_frame.specs.declared.due.Due.{Due}

-- a well-formed reply has one body and one rest, is not cut and is not wrong; and none is both of these
pub record StandsAlone (due : Due) (unread : List ℕ) : Type 0 where
  pub one : (body other rest more : List ℕ) → IsReply due unread body rest → IsReply due unread other more → (body ≡ other) × (rest ≡ more)
  pub not_wrong : (body rest : List ℕ) → IsReply due unread body rest → ¬ IsWrongReply due unread
  pub not_cut : (body rest : List ℕ) → IsReply due unread body rest → ¬ IsCutReply due unread
  pub cut_or_wrong : IsCutReply due unread → ¬ IsWrongReply due unread

abbrev pub OneReplyStands : Type 0
OneReplyStands = (due : Due) (unread : List ℕ) → StandsAlone due unread
