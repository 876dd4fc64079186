-- What a head that was read says, where another reading of it is known.
use Rattle.std.proofs.Common.{◌≡◌, Option, Some, None, sym, ap, subst}
use Rattle.std.specs.Prelude.{⊤}
use Rattle.mirror_frame.specs.Reply.{FitsPrefix}
use Rattle.mirror_frame.specs.declared.due.Due.{Due}
use Rattle.mirror_frame.specs.declared.head.ReplyHead.{ReplyHead}

abbrev head_or : ReplyHead → Option ReplyHead → ReplyHead
head_or other None = other
head_or other (Some head) = head

pub head_fits : (due : Due) (head said : ReplyHead) → Some head ≡ Some said → FitsPrefix due said.prefix → FitsPrefix due head.prefix
head_fits due head said is fits = subst (λ h. FitsPrefix due h.prefix) (sym (ap (head_or head) is)) fits

abbrev IsNothing : Option ReplyHead → Type 0
IsNothing None = ⊤
IsNothing (Some head) = ⊥

pub nothing_said : (said : ReplyHead) → None ≡ Some said → ⊥
nothing_said said e = subst IsNothing e tt
