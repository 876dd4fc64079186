-- What is said of a call that answers an error.
use Rattle.std.specs.Prelude.{Result, Ok, Err, OnErr}

pub on_err : {T E : Type 0} {P Q : Type 0} (result : Result T E) → (P → Q) → OnErr result P → OnErr result Q
on_err (Ok value) f holds = holds
on_err (Err error) f holds = f holds

-- what holds anyway holds on Err
pub always : {A E : Type 0} {P : Type 0} (r : Result A E) → P → OnErr r P
always (Ok x) p = tt
always (Err e) p = p
